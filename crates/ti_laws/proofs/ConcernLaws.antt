-- What an environment is told depends on the entries that concern it.
use Rattle.std.proofs.Common.{◌≡◌, ℕ, ◌+◌, ◌<◌, ◌==◌, ◌&&◌, Bool, true, false, cond, List, [], ◌∷◌, ◌++◌, length, map, refl, ap, ap₂, sym, subst, ◌∙◌, arith, Some, None, slice_index, slice_set, get_or-set_same, get_or-set_other, length-set, inl, inr, append_assoc, eqb-true, is_none, not, take}
use Rattle.std.specs.List.{fold, filter, enumerate_from}
use Rattle.std.specs.Option.{option_or}
use Rattle.std.proofs.lemmas.Bool.{cases_Bool, cases_eq}
use Rattle.std.proofs.lemmas.Bool.Decides.{nat_tests}
use Rattle.std.proofs.lemmas.List.{length-replicate, map-append}
use Rattle.ti_types.specs.declared.limits.Limits.{Limits}
use Rattle.ti_types.specs.declared.numbers.EnvNo.{EnvNo}
use Rattle.ti_types.specs.declared.event.Ticket.{Ticket}
use Rattle.ti_types.specs.declared.call.Call.{Call}
use Rattle.ti_types.specs.declared.call.Call.TheVariants.{State, FrameCount, Trace, Location, Suspend, Resume, GetWord, SetWord, Pop}
use Rattle.ti_types.specs.declared.entry.Entry.{Entry}
use Rattle.ti_types.specs.declared.entry.Entry.TheVariants.{Start, Own, Hand, Back, End, Asked, Stop, Read, Go}
use Rattle.ti_types.specs.declared.view.ThreadView.{ThreadView}
use Rattle.ti_types.specs.declared.step.Step.TheVariants.{Leave}
use Rattle.ti_types.specs.declared.answer.Answer.TheVariants as answer
use Rattle.ti_types.specs.declared.error.TiError.TheVariants.{ThreadNotAlive, AlreadyStopped, NotStopped, StillRunning}
use Rattle.ti_replay.specs.Answers.{is_alive, is_running, pop_refusal, answer_of, or_zero}
use Rattle.ti_replay.specs.Settling.{Placed, settle, settled, put_behind, runs_after, is_waiting_call, is_hand_over}
use Rattle.ti_replay.specs.View.{view, new_thread, after, called, frames_after}
use Rattle.ti_replay.specs.Replies.{answer_to, reply}
use Rattle.ti_replay.specs.Tickets.{is_call_of, reply_in, reply_to}
use Rattle.ti_laws.specs.Concerns.{TicketsAgree, CallsFindAlike, CallsToldAlike, Told, Sight, WasAnswered, AnswersAgree, StopsAnswerAlike, concerns, concerning, unnumbered, is_made_by, sight, told_in, told_by, with_answer, OnlyWhatConcernsTells, OnlyWhatConcernsReplies, OnlyWhatConcernsShows, HistoriesTellAlike, CallsTellAlike}
use Rattle.ti_replay.proofs.TicketReplies.{bare-after, reply_in-append}
use Rattle.ti_replay.proofs.ReplyLaws.{settled_stays}
use Rattle.ti_replay.specs.Legal.{is_legal, goes_on, may_follow}
use Rattle.ti_replay.specs.Refusals.{held_refusal, is_stopper, or_else, unless}
use Rattle.ti_types.specs.Frames.{bare_trace}
use Rattle.ti_types.specs.State.{bits_of}
use Rattle.ti_types.specs.declared.answer.Answer.{Answer}
use Rattle.ti_replay.proofs.PlaceTickets.{reply_by_ticket}
use Rattle.ti_laws.proofs.Numbers.{has_none, is_next, none_before, read_at_once}
use Rattle.ti_replay.proofs.CostLaws.{goes_on-append}
use Rattle.std.proofs.lemmas.List.Elements.{filter-append}

-- the order of taking place, without places
abbrev put_in : Entry → List Entry → List Entry
put_in x [] = []
put_in x (y ∷ entries) = cond (is_hand_over y) (y ∷ x ∷ entries) (y ∷ put_in x entries)

abbrev order : Bool → List Entry → List Entry
order runs [] = []
order runs (x ∷ entries) = cond (is_waiting_call x && runs) (put_in x (order (runs_after runs x) entries)) (x ∷ order (runs_after runs x) entries)

abbrev bare : List Placed → List Entry
bare s = map (λ p. p.1) s

put-bare : (p : Placed) (s : List Placed) → bare (put_behind p s) ≡ put_in p.1 (bare s)
put-bare p [] = refl
put-bare p (q ∷ s) = grind (arith, put-bare p s)

order-bare : (r : Bool) (a : ℕ) (xs : List Entry) → bare (settle r (enumerate_from a xs)) ≡ order r xs
order-bare r a [] = refl
order-bare r a (x ∷ xs) =
    let rest = settle (runs_after r x) (enumerate_from (a + 1) xs) in
    grind (arith, order-bare (runs_after r x) (a + 1) xs, put-bare (a, x) rest)

pub settled-bare : (history : List Entry) → map (λ (p : Placed). p.1) (settled history) ≡ order false history
settled-bare history = order-bare false 0 history

-- what concerns nobody but others is not the thread's own
apart_runs : (env : EnvNo) (r : Bool) (x : Entry) → concerns env x ≡ false → runs_after r x ≡ r
apart_runs env r Start h = cc
apart_runs env r (Own step) h = cc
apart_runs env r (Hand safe) h = cc
apart_runs env r Back h = cc
apart_runs env r End h = cc
apart_runs env r (Asked e n call) h = refl
apart_runs env r (Stop e) h = refl
apart_runs env r (Read e n) h = refl
apart_runs env r (Go e) h = refl

hand_concerns : (env : EnvNo) (x : Entry) → is_hand_over x ≡ true → concerns env x ≡ true
hand_concerns env Start h = refl
hand_concerns env (Own step) h = refl
hand_concerns env (Hand safe) h = refl
hand_concerns env Back h = refl
hand_concerns env End h = refl
hand_concerns env (Asked e n call) h = cc
hand_concerns env (Stop e) h = refl
hand_concerns env (Read e n) h = cc
hand_concerns env (Go e) h = refl

-- a call that concerns the environment is put among what does
put_kept : (env : EnvNo) (x : Entry) (s : List Entry) → concerns env x ≡ true → filter (concerns env) (put_in x s) ≡ put_in x (filter (concerns env) s)
put_kept env x [] h = refl
put_kept env x (y ∷ s) h = grind (arith, put_kept env x s h, hand_concerns env y)

put_apart : (env : EnvNo) (x : Entry) (s : List Entry) → concerns env x ≡ false → filter (concerns env) (put_in x s) ≡ filter (concerns env) s
put_apart env x [] h = refl
put_apart env x (y ∷ s) h = grind (arith, put_apart env x s h, hand_concerns env y)

order_kept : (env : EnvNo) (r : Bool) (xs : List Entry) → filter (concerns env) (order r xs) ≡ order r (filter (concerns env) xs)
order_kept env r [] = refl
order_kept env r (x ∷ xs) =
    let rest = order (runs_after r x) xs in
    let more = order_kept env (runs_after r x) xs in
    grind (arith, more, put_kept env x rest, put_apart env x rest, apart_runs env r x)

-- numbers change nothing of the order
same_waits : (env : EnvNo) (x : Entry) → is_waiting_call (unnumbered env x) ≡ is_waiting_call x
same_waits env Start = refl
same_waits env (Own step) = refl
same_waits env (Hand safe) = refl
same_waits env Back = refl
same_waits env End = refl
same_waits env (Asked e n call) = refl
same_waits env (Stop e) = refl
same_waits env (Read e n) = refl
same_waits env (Go e) = refl

same_hands : (env : EnvNo) (x : Entry) → is_hand_over (unnumbered env x) ≡ is_hand_over x
same_hands env Start = refl
same_hands env (Own step) = refl
same_hands env (Hand safe) = refl
same_hands env Back = refl
same_hands env End = refl
same_hands env (Asked e n call) = refl
same_hands env (Stop e) = refl
same_hands env (Read e n) = refl
same_hands env (Go e) = refl

same_runs : (env : EnvNo) (r : Bool) (x : Entry) → runs_after r (unnumbered env x) ≡ runs_after r x
same_runs env r Start = refl
same_runs env r (Own step) = refl
same_runs env r (Hand safe) = refl
same_runs env r Back = refl
same_runs env r End = refl
same_runs env r (Asked e n call) = refl
same_runs env r (Stop e) = refl
same_runs env r (Read e n) = refl
same_runs env r (Go e) = refl

put_unnumbered : (env : EnvNo) (x : Entry) (s : List Entry) → map (unnumbered env) (put_in x s) ≡ put_in (unnumbered env x) (map (unnumbered env) s)
put_unnumbered env x [] = refl
put_unnumbered env x (y ∷ s) = grind (arith, put_unnumbered env x s, same_hands env y)

order_unnumbered : (env : EnvNo) (r : Bool) (xs : List Entry) → map (unnumbered env) (order r xs) ≡ order r (map (unnumbered env) xs)
order_unnumbered env r [] = refl
order_unnumbered env r (x ∷ xs) =
    grind (arith, order_unnumbered env (runs_after r x) xs, put_unnumbered env x (order (runs_after r x) xs), same_waits env x, same_runs env r x)

-- what concerns the environment takes place in the order that it has among all
pub order_concerning : (env : EnvNo) (r : Bool) (xs : List Entry) → concerning env (order r xs) ≡ order r (concerning env xs)
order_concerning env r xs = ap (map (unnumbered env)) (order_kept env r xs) ∙ order_unnumbered env r (filter (concerns env) xs)

-- two lists of words, with the same word for an environment
record SameWord (env : EnvNo) (words others : List ℕ) : Type 0 where
  word : slice_index words env.0 ≡ slice_index others env.0
  count : length words ≡ length others
  there : env.0 < length words

abbrev with_words : ThreadView → List ℕ → ThreadView
with_words v words = record v { words = words }

-- two views of a thread that look the same to an environment: only others' words differ
record Alike (env : EnvNo) (v w : ThreadView) : Type 0 where
  rest : w ≡ with_words v w.words
  words : SameWord env v.words w.words

alike_if : (env : EnvNo) (b : Bool) (p q r s : ThreadView) → Alike env p r → Alike env q s → Alike env (cond b p q) (cond b r s)
alike_if env true p q r s h k = h
alike_if env false p q r s h k = k

left_if : (env : EnvNo) (b : Bool) (p q r : ThreadView) → Alike env p r → Alike env q r → Alike env (cond b p q) r
left_if env true p q r h k = h
left_if env false p q r h k = k

word_set : (words : List ℕ) (env other : EnvNo) (w : ℕ) → env.0 < length words → slice_index (slice_set words other.0 w) env.0 ≡ cond (other.0 == env.0) w (slice_index words env.0)
word_set words env other w l =
    elim (cases_eq env.0 other.0) [
      | inl same ↦ grind (arith, nat_tests, get_or-set_same words other.0 w 0)
      | inr not_same ↦ grind (arith, nat_tests, get_or-set_other words other.0 env.0 w 0 not_same)
    ]

-- the same word set in both
both_set : (env other : EnvNo) (w : ℕ) (us ws : List ℕ) → SameWord env us ws → SameWord env (slice_set us other.0 w) (slice_set ws other.0 w)
both_set env other w us ws k =
    let there : env.0 < length ws = omega (arith, k.count, k.there) in
    record {
      word = word_set us env other w k.there ∙ ap (cond (other.0 == env.0) w) k.word ∙ sym (word_set ws env other w there);
      count = length-set us other.0 w ∙ k.count ∙ sym (length-set ws other.0 w);
      there = rw (length-set us other.0 w) k.there;
    }

-- another's word set in one
one_set : (env other : EnvNo) (w : ℕ) (us ws : List ℕ) → (other.0 == env.0) ≡ false → SameWord env us ws → SameWord env (slice_set us other.0 w) ws
one_set env other w us ws h k =
    record {
      word = word_set us env other w k.there ∙ ap (λ b. cond b w (slice_index us env.0)) h ∙ k.word;
      count = length-set us other.0 w ∙ k.count;
      there = rw (length-set us other.0 w) k.there;
    }

same_left : (env : EnvNo) (v : ThreadView) (ws : List ℕ) → SameWord env v.words ws → Alike env v (with_words v ws)
same_left env v ws k = record { rest = refl; words = k }

-- what does not concern the environment changes nothing that it sees
apart_call : (env : EnvNo) (v : ThreadView) (ws : List ℕ) (other : EnvNo) (n : ℕ) (call : Call) → concerns env (Asked other n call) ≡ false → SameWord env v.words ws → Alike env (called v other call) (with_words v ws)
apart_call env v ws other n State h k = same_left env v ws k
apart_call env v ws other n FrameCount h k = same_left env v ws k
apart_call env v ws other n (Trace a b) h k = same_left env v ws k
apart_call env v ws other n (Location d) h k = same_left env v ws k
apart_call env v ws other n Suspend h k = absurd (grind (arith, h))
apart_call env v ws other n Resume h k = absurd (grind (arith, h))
apart_call env v ws other n GetWord h k = same_left env v ws k
apart_call env v ws other n (SetWord w) h k =
    let e : (other.0 == env.0) ≡ false = grind (arith, h) in
    left_if env (is_alive v.mode) (record v { words = slice_set v.words other.0 w }) v (with_words v ws)
    (record { rest = refl; words = one_set env other w v.words ws e k }) (same_left env v ws k)
apart_call env v ws other n Pop h k = absurd (grind (arith, h))

apart_after : (env : EnvNo) (v : ThreadView) (ws : List ℕ) (x : Entry) → concerns env x ≡ false → SameWord env v.words ws → Alike env (after v x) (with_words v ws)
apart_after env v ws Start h k = cc
apart_after env v ws (Own step) h k = cc
apart_after env v ws (Hand safe) h k = cc
apart_after env v ws Back h k = cc
apart_after env v ws End h k = cc
apart_after env v ws (Asked e n call) h k = apart_call env v ws e n call h k
apart_after env v ws (Stop e) h k = cc
apart_after env v ws (Read e n) h k = same_left env v ws k
apart_after env v ws (Go e) h k = cc

-- an entry changes the same in both
same_call : (env : EnvNo) (v : ThreadView) (ws : List ℕ) (other : EnvNo) (call : Call) → SameWord env v.words ws → Alike env (called v other call) (called (with_words v ws) other call)
same_call env v ws other State k = same_left env v ws k
same_call env v ws other FrameCount k = same_left env v ws k
same_call env v ws other (Trace a b) k = same_left env v ws k
same_call env v ws other (Location d) k = same_left env v ws k
same_call env v ws other Suspend k =
    alike_if env (is_alive v.mode) (record v { suspended = true }) v (record (with_words v ws) { suspended = true }) (with_words v ws)
    (record { rest = refl; words = k }) (same_left env v ws k)
same_call env v ws other Resume k =
    alike_if env (is_alive v.mode) (record v { suspended = false }) v (record (with_words v ws) { suspended = false }) (with_words v ws)
    (record { rest = refl; words = k }) (same_left env v ws k)
same_call env v ws other GetWord k = same_left env v ws k
same_call env v ws other (SetWord w) k =
    alike_if env (is_alive v.mode) (record v { words = slice_set v.words other.0 w }) v (record (with_words v ws) { words = slice_set ws other.0 w }) (with_words v ws)
    (record { rest = refl; words = both_set env other w v.words ws k }) (same_left env v ws k)
same_call env v ws other Pop k =
    alike_if env (is_alive v.mode && is_none (pop_refusal v.suspended v.frames)) (record v { frames = frames_after v.frames Leave }) v (record (with_words v ws) { frames = frames_after v.frames Leave }) (with_words v ws)
    (record { rest = refl; words = k }) (same_left env v ws k)

same_after : (env : EnvNo) (v : ThreadView) (ws : List ℕ) (x : Entry) → SameWord env v.words ws → Alike env (after v x) (after (with_words v ws) (unnumbered env x))
same_after env v ws Start k = record { rest = refl; words = k }
same_after env v ws (Own step) k = record { rest = refl; words = k }
same_after env v ws (Hand safe) k = record { rest = refl; words = k }
same_after env v ws Back k = record { rest = refl; words = k }
same_after env v ws End k = record { rest = refl; words = k }
same_after env v ws (Asked e n call) k = same_call env v ws e call k
same_after env v ws (Stop e) k = record { rest = refl; words = k }
same_after env v ws (Read e n) k = record { rest = refl; words = k }
same_after env v ws (Go e) k = record { rest = refl; words = k }

-- the same, for two views that look the same
apart_stays : (env : EnvNo) (v w : ThreadView) (x : Entry) → concerns env x ≡ false → Alike env v w → Alike env (after v x) w
apart_stays env v w x h k = subst (λ (z : ThreadView). Alike env (after v x) z) (sym k.rest) (apart_after env v w.words x h k.words)

both_go : (env : EnvNo) (v w : ThreadView) (x : Entry) → Alike env v w → Alike env (after v x) (after w (unnumbered env x))
both_go env v w x k = subst (λ (z : ThreadView). Alike env (after v x) (after z (unnumbered env x))) (sym k.rest) (same_after env v w.words x k.words)

-- what does not concern the environment is not its own
apart_made : (env : EnvNo) (x : Entry) → concerns env x ≡ false → is_made_by env x ≡ false
apart_made env Start h = refl
apart_made env (Own step) h = refl
apart_made env (Hand safe) h = refl
apart_made env Back h = refl
apart_made env End h = refl
apart_made env (Asked e n call) h = grind (arith, h)
apart_made env (Stop e) h = cc
apart_made env (Read e n) h = h
apart_made env (Go e) h = cc

made_same : (env : EnvNo) (x : Entry) → is_made_by env (unnumbered env x) ≡ is_made_by env x
made_same env Start = refl
made_same env (Own step) = refl
made_same env (Hand safe) = refl
made_same env Back = refl
made_same env End = refl
made_same env (Asked e n call) = refl
made_same env (Stop e) = refl
made_same env (Read e n) = refl
made_same env (Go e) = refl

-- an entry of its own has its number
made_numbered : (env : EnvNo) (x : Entry) → is_made_by env x ≡ true → unnumbered env x ≡ x
made_numbered env Start h = refl
made_numbered env (Own step) h = refl
made_numbered env (Hand safe) h = refl
made_numbered env Back h = refl
made_numbered env End h = refl
made_numbered env (Asked e n call) h = ap (λ b. Asked e (cond b n 0) call) h
made_numbered env (Stop e) h = refl
made_numbered env (Read e n) h = refl
made_numbered env (Go e) h = refl

-- and is answered the same
call_answer : (env : EnvNo) (v : ThreadView) (ws : List ℕ) (e : EnvNo) (call : Call) → e ≡ env → SameWord env v.words ws → answer_of v e call ≡ answer_of (with_words v ws) e call
call_answer env v ws e State h k = refl
call_answer env v ws e FrameCount h k = refl
call_answer env v ws e (Trace a b) h k = refl
call_answer env v ws e (Location d) h k = refl
call_answer env v ws e Suspend h k = refl
call_answer env v ws e Resume h k = refl
call_answer env v ws e GetWord h k =
    ap (λ w. cond (is_alive v.mode) (answer.Word w) (answer.Refused ThreadNotAlive)) (ap (λ (z : EnvNo). slice_index v.words z.0) h ∙ k.word ∙ ap (λ (z : EnvNo). slice_index ws z.0) (sym h))
call_answer env v ws e (SetWord w) h k = refl
call_answer env v ws e Pop h k = refl

same_env : (a b : EnvNo) → (a.0 == b.0) ≡ true → a ≡ b
same_env a b h = ap (λ (n : ℕ). record { 0 = n }) (eqb-true _ _ h)

made_answer : (env : EnvNo) (v : ThreadView) (ws : List ℕ) (x : Entry) → is_made_by env x ≡ true → SameWord env v.words ws → answer_to v x ≡ answer_to (with_words v ws) x
made_answer env v ws Start h k = refl
made_answer env v ws (Own step) h k = refl
made_answer env v ws (Hand safe) h k = refl
made_answer env v ws Back h k = refl
made_answer env v ws End h k = refl
made_answer env v ws (Asked e n call) h k = ap Some (call_answer env v ws e call (same_env e env h) k)
made_answer env v ws (Stop e) h k = refl
made_answer env v ws (Read e n) h k = refl
made_answer env v ws (Go e) h k = refl

same_answer : (env : EnvNo) (v w : ThreadView) (x : Entry) → is_made_by env x ≡ true → Alike env v w → answer_to v x ≡ answer_to w x
same_answer env v w x h k = made_answer env v w.words x h k.words ∙ ap (λ z. answer_to z x) (sym k.rest)

-- one entry that concerns the environment
told_one : (env : EnvNo) (v w : ThreadView) (x : Entry) (rest : List Told) → Alike env v w
    → with_answer x (cond (is_made_by env x) (answer_to v x) None) rest ≡ with_answer (unnumbered env x) (cond (is_made_by env (unnumbered env x)) (answer_to w (unnumbered env x)) None) rest
told_one env v w x rest k =
    elim (cases_Bool (is_made_by env x)) [
      | inl mine ↦
          ap (λ b. with_answer x (cond b (answer_to v x) None) rest) mine
          ∙ ap (λ a. with_answer x a rest) (same_answer env v w x mine k)
          ∙ sym (ap (λ b. with_answer x (cond b (answer_to w x) None) rest) mine)
          ∙ ap (λ z. with_answer z (cond (is_made_by env z) (answer_to w z) None) rest) (sym (made_numbered env x mine))
      | inr other ↦
          ap (λ b. with_answer x (cond b (answer_to v x) None) rest) other
          ∙ sym (ap (λ b. with_answer (unnumbered env x) (cond b (answer_to w (unnumbered env x)) None) rest) (made_same env x ∙ other))
    ]

told_run : (env : EnvNo) (v w : ThreadView) (xs : List Entry) → Alike env v w → told_in env v xs ≡ told_in env w (concerning env xs)
told_run env v w [] k = refl
told_run env v w (x ∷ xs) k =
    elim (cases_Bool (concerns env x)) [
      | inl here ↦
          ap (with_answer x (cond (is_made_by env x) (answer_to v x) None)) (told_run env (after v x) (after w (unnumbered env x)) xs (both_go env v w x k))
          ∙ told_one env v w x (told_in env (after w (unnumbered env x)) (concerning env xs)) k
          ∙ sym (ap (λ b. told_in env w (map (unnumbered env) (cond b (x ∷ filter (concerns env) xs) (filter (concerns env) xs)))) here)
      | inr apart ↦
          ap (λ b. with_answer x (cond b (answer_to v x) None) (told_in env (after v x) xs)) (apart_made env x apart)
          ∙ told_run env (after v x) w xs (apart_stays env v w x apart k)
          ∙ sym (ap (λ b. told_in env w (map (unnumbered env) (cond b (x ∷ filter (concerns env) xs) (filter (concerns env) xs)))) apart)
    ]

-- a ticket's call
call_made : (t : Ticket) (x : Entry) → is_call_of t x ≡ true → is_made_by t.env x ≡ true
call_made t Start h = cc
call_made t (Own step) h = cc
call_made t (Hand safe) h = cc
call_made t Back h = cc
call_made t End h = cc
call_made t (Asked e n call) h = grind (arith, h)
call_made t (Stop e) h = cc
call_made t (Read e n) h = cc
call_made t (Go e) h = cc

call_same : (t : Ticket) (x : Entry) → is_call_of t (unnumbered t.env x) ≡ is_call_of t x
call_same t Start = refl
call_same t (Own step) = refl
call_same t (Hand safe) = refl
call_same t Back = refl
call_same t End = refl
call_same t (Asked e n call) = grind arith
call_same t (Stop e) = refl
call_same t (Read e n) = refl
call_same t (Go e) = refl

reply_one : (t : Ticket) (v w : ThreadView) (x : Entry) → Alike t.env v w
    → cond (is_call_of t x) (answer_to v x) None ≡ cond (is_call_of t (unnumbered t.env x)) (answer_to w (unnumbered t.env x)) None
reply_one t v w x k =
    elim (cases_Bool (is_call_of t x)) [
      | inl mine ↦
          let made = call_made t x mine in
          ap (λ b. cond b (answer_to v x) None) mine
          ∙ same_answer t.env v w x made k
          ∙ sym (ap (λ b. cond b (answer_to w x) None) mine)
          ∙ ap (λ z. cond (is_call_of t z) (answer_to w z) None) (sym (made_numbered t.env x made))
      | inr other ↦
          ap (λ b. cond b (answer_to v x) None) other
          ∙ sym (ap (λ b. cond b (answer_to w (unnumbered t.env x)) None) (call_same t x ∙ other))
    ]

not_its_call : (t : Ticket) (x : Entry) → is_made_by t.env x ≡ false → is_call_of t x ≡ false
not_its_call t Start h = refl
not_its_call t (Own step) h = refl
not_its_call t (Hand safe) h = refl
not_its_call t Back h = refl
not_its_call t End h = refl
not_its_call t (Asked e n call) h = grind (arith, h)
not_its_call t (Stop e) h = refl
not_its_call t (Read e n) h = refl
not_its_call t (Go e) h = refl

reply_run : (t : Ticket) (v w : ThreadView) (xs : List Entry) → Alike t.env v w → reply_in v xs t ≡ reply_in w (concerning t.env xs) t
reply_run t v w [] k = refl
reply_run t v w (x ∷ xs) k =
    let env = t.env in
    elim (cases_Bool (concerns env x)) [
      | inl here ↦
          ap₂ option_or (reply_one t v w x k) (reply_run t (after v x) (after w (unnumbered env x)) xs (both_go env v w x k))
          ∙ sym (ap (λ b. reply_in w (map (unnumbered env) (cond b (x ∷ filter (concerns env) xs) (filter (concerns env) xs))) t) here)
      | inr apart ↦
          ap (λ b. option_or (cond b (answer_to v x) None) (reply_in (after v x) xs t)) (not_its_call t x (apart_made env x apart))
          ∙ reply_run t (after v x) w xs (apart_stays env v w x apart k)
          ∙ sym (ap (λ b. reply_in w (map (unnumbered env) (cond b (x ∷ filter (concerns env) xs) (filter (concerns env) xs))) t) apart)
    ]

view_run : (env : EnvNo) (v w : ThreadView) (xs : List Entry) → Alike env v w → Alike env (fold after v xs) (fold after w (concerning env xs))
view_run env v w [] k = k
view_run env v w (x ∷ xs) k =
    let family : Bool → Type 0 = λ b. Alike env (fold after (after v x) xs) (fold after w (map (unnumbered env) (cond b (x ∷ filter (concerns env) xs) (filter (concerns env) xs)))) in
    elim (cases_Bool (concerns env x)) [
      | inl here ↦ subst family (sym here) (view_run env (after v x) (after w (unnumbered env x)) xs (both_go env v w x k))
      | inr apart ↦ subst family (sym apart) (view_run env (after v x) w xs (apart_stays env v w x apart k))
    ]

-- a new thread looks the same to an environment that is there
alike_new : (limits : Limits) (env : EnvNo) → env.0 < limits.envs → Alike env (new_thread limits) (new_thread limits)
alike_new limits env h = record { rest = refl; words = record { word = refl; count = refl; there = omega (arith, h, length-replicate {A = ℕ} limits.envs 0) } }

bare_concerning : (env : EnvNo) (history : List Entry) → concerning env (map (λ (p : Placed). p.1) (settled history)) ≡ map (λ (p : Placed). p.1) (settled (concerning env history))
bare_concerning env history = ap (concerning env) (settled-bare history) ∙ order_concerning env false history ∙ sym (settled-bare (concerning env history))

pub only_concerns_tells : OnlyWhatConcernsTells
only_concerns_tells limits env history there =
    let v = new_thread limits in
    told_run env v v (map (λ (p : Placed). p.1) (settled history)) (alike_new limits env there) ∙ ap (told_in env v) (bare_concerning env history)

pub only_concerns_replies : OnlyWhatConcernsReplies
only_concerns_replies limits t history there =
    let v = new_thread limits in
    reply_run t v v (map (λ (p : Placed). p.1) (settled history)) (alike_new limits t.env there) ∙ ap (λ s. reply_in v s t) (bare_concerning t.env history)

alike_sight : (env : EnvNo) (v w : ThreadView) → Alike env v w → sight env v ≡ sight env w
alike_sight env v w k =
    ap (λ (n : ℕ). record { mode = v.mode; frames = v.frames; suspended = v.suspended; stopper = v.stopper; word = n }) k.words.word ∙ sym (ap (sight env) k.rest)

pub only_concerns_shows : OnlyWhatConcernsShows
only_concerns_shows limits env history there =
    let v = new_thread limits in
    let s = map (λ (p : Placed). p.1) (settled history) in
    ap (sight env) (sym (bare-after v (settled history)))
    ∙ alike_sight env (fold after v s) (fold after v (concerning env s)) (view_run env v v s (alike_new limits env there))
    ∙ ap (λ l. sight env (fold after v l)) (bare_concerning env history)
    ∙ ap (sight env) (bare-after v (settled (concerning env history)))

ticket_alike : (limits : Limits) (env : EnvNo) (one other : List Entry) → env.0 < limits.envs → concerning env one ≡ concerning env other → (t : Ticket) → t.env ≡ env → reply_to limits one t ≡ reply_to limits other t
ticket_alike limits env one other there same t is =
    let here : t.env.0 < limits.envs = subst (λ (e : EnvNo). e.0 < limits.envs) (sym is) there in
    let both : concerning t.env one ≡ concerning t.env other = subst (λ (e : EnvNo). concerning e one ≡ concerning e other) (sym is) same in
    only_concerns_replies limits t one here ∙ ap (λ l. reply_to limits l t) both ∙ sym (only_concerns_replies limits t other here)

pub histories_tell_alike : HistoriesTellAlike
histories_tell_alike limits env one other there same =
    record {
      told = only_concerns_tells limits env one there ∙ ap (told_by limits env) same ∙ sym (only_concerns_tells limits env other there);
      replies = λ t is. ticket_alike limits env one other there same t is;
      sees = only_concerns_shows limits env one there ∙ ap (λ l. sight env (view limits l)) same ∙ sym (only_concerns_shows limits env other there);
    }

pub calls_tell_alike : CallsTellAlike
calls_tell_alike limits env number call front rest other_front other_rest there legal other_legal same =
    let t : Ticket = record { env = env; thread = record { 0 = 0 }; no = number } in
    reply_by_ticket limits front rest t call legal
    ∙ ticket_alike limits env (front ++ Asked env number call ∷ rest) (other_front ++ Asked env number call ∷ other_rest) there same t refl
    ∙ sym (reply_by_ticket limits other_front other_rest t call other_legal)

-- a reply to a ticket stays as the history grows
ticket_stays : (limits : Limits) (history more : List Entry) (t : Ticket) (a : Answer) → reply_to limits history t ≡ Some a → reply_to limits (history ++ more) t ≡ Some a
ticket_stays limits history more t a h =
    let g = settled_stays history more in
    let v = new_thread limits in
    ap (λ s. reply_in v (map (λ (p : Placed). p.1) s) t) g.1
    ∙ ap (λ s. reply_in v s t) (map-append (λ (p : Placed). p.1) (settled history) g.0)
    ∙ reply_in-append v (map (λ (p : Placed). p.1) (settled history)) (map (λ (p : Placed). p.1) g.0) t
    ∙ ap (λ o. option_or o (reply_in (fold after v (map (λ (p : Placed). p.1) (settled history))) (map (λ (p : Placed). p.1) g.0) t)) h

abbrev ticket_of : EnvNo → ℕ → Ticket
ticket_of env number = record { env = env; thread = record { 0 = 0 }; no = number }

-- an answer that was given is the reply to its ticket, in all of the history
answered_ticket : (limits : Limits) (history : List Entry) (env : EnvNo) (number : ℕ) (call : Call) (a : Answer) → WasAnswered limits history env number call a → reply_to limits history (ticket_of env number) ≡ Some a
answered_ticket limits history env number call a w =
    let legal : is_legal limits (w.front ++ Asked env number call ∷ w.rest) ≡ true = sym (ap (is_legal limits) w.stands) ∙ w.legal in
    let here : reply_to limits w.seen (ticket_of env number) ≡ Some a =
    ap (λ l. reply_to limits l (ticket_of env number)) w.stands
    ∙ sym (reply_by_ticket limits w.front w.rest (ticket_of env number) call legal)
    ∙ sym (ap (λ l. reply limits l (length w.front)) w.stands)
    ∙ w.replied in
    ap (λ l. reply_to limits l (ticket_of env number)) w.begins.1 ∙ ticket_stays limits w.seen w.begins.0 (ticket_of env number) a here

same_some : (a b : Answer) → Some a ≡ Some b → a ≡ b
same_some a b h = cc h

pub answers_agree : AnswersAgree
answers_agree limits env number call other_call one other a b there w z alike =
    let t = ticket_of env number in
    let first : reply_to limits (concerning env one) t ≡ Some a = sym (only_concerns_replies limits t one there) ∙ answered_ticket limits one env number call a w in
    let second : reply_to limits (concerning env other) t ≡ Some b = sym (only_concerns_replies limits t other there) ∙ answered_ticket limits other env number other_call b z in
    let on : reply_to limits (concerning env other) t ≡ Some a = ap (λ l. reply_to limits l t) alike.1 ∙ ticket_stays limits (concerning env one) alike.0 t a first in
    same_some a b (sym on ∙ second)

refused_alike : (v w : ThreadView) (x : Entry) → v.mode ≡ w.mode → v.stopper ≡ w.stopper → held_refusal v x ≡ held_refusal w x
refused_alike v w Start m s = refl
refused_alike v w (Own step) m s = refl
refused_alike v w (Hand safe) m s = refl
refused_alike v w Back m s = refl
refused_alike v w End m s = refl
refused_alike v w (Asked e n call) m s = refl
refused_alike v w (Stop e) m s = ap (λ o. unless (is_none o) AlreadyStopped) s
refused_alike v w (Read e n) m s = ap₂ (λ o k. or_else (unless (is_stopper o e) NotStopped) (unless (not (is_running k)) StillRunning)) s m
refused_alike v w (Go e) m s = ap (λ o. unless (is_stopper o e) NotStopped) s

pub stops_answer_alike : StopsAnswerAlike
stops_answer_alike limits env one other there same =
    let sees : sight env (view limits one) ≡ sight env (view limits other) = (histories_tell_alike limits env one other there same).sees in
    let mode = ap (λ (s : Sight). s.mode) sees in
    let frames = ap (λ (s : Sight). s.frames) sees in
    let suspended = ap (λ (s : Sight). s.suspended) sees in
    let stopper = ap (λ (s : Sight). s.stopper) sees in
    record {
      reads = λ max_count.
          read_at_once limits one env max_count
          ∙ ap₂ (λ m s. Some (answer.Stack (bits_of m s) (bare_trace (take (or_zero max_count) (view limits one).frames)))) mode suspended
          ∙ ap (λ f. Some (answer.Stack (bits_of (view limits other).mode (view limits other).suspended) (bare_trace (take (or_zero max_count) f)))) frames
          ∙ sym (read_at_once limits other env max_count);
      refused = λ x. refused_alike (view limits one) (view limits other) x mode stopper;
    }

-- what concerns the environment, of two parts
concerning-append : (env : EnvNo) (xs ys : List Entry) → concerning env (xs ++ ys) ≡ concerning env xs ++ concerning env ys
concerning-append env xs ys = ap (map (unnumbered env)) (filter-append (concerns env) xs ys) ∙ map-append (unnumbered env) (filter (concerns env) xs) (filter (concerns env) ys)

own_concerns : (env : EnvNo) (number : ℕ) (call : Call) → concerns env (Asked env number call) ≡ true
own_concerns env number call = grind (arith, nat_tests)

-- a call of its own stands among what concerns it
concerning-call : (env : EnvNo) (number : ℕ) (call : Call) (rest : List Entry) → concerning env (Asked env number call ∷ rest) ≡ Asked env number call ∷ concerning env rest
concerning-call env number call rest =
    ap (λ b. map (unnumbered env) (cond b (Asked env number call ∷ filter (concerns env) rest) (filter (concerns env) rest))) (own_concerns env number call)
    ∙ ap (λ x. x ∷ concerning env rest) (made_numbered env (Asked env number call) (grind (arith, nat_tests)))

none_concerning : (t : Ticket) (xs : List Entry) → has_none t xs ≡ true → has_none t (concerning t.env xs) ≡ true
none_concerning t [] h = refl
none_concerning t (x ∷ xs) h = grind (arith, none_concerning t xs, call_same t x, h)

-- two lists of which each has the ticket's call once: before it is the same
same_split : (t : Ticket) (xs ys r s : List Entry) (x y : Entry) → has_none t xs ≡ true → has_none t ys ≡ true → is_call_of t x ≡ true → is_call_of t y ≡ true
    → ys ++ y ∷ s ≡ xs ++ x ∷ r → (x ≡ y) × (xs ≡ ys)
same_split t [] [] r s x y h k a b e = let same : y ≡ x = cc e in (sym same, refl)
same_split t [] (y2 ∷ ys) r s x y h k a b e = let same : y2 ≡ x = cc e in absurd (grind (arith, same, k, a))
same_split t (x2 ∷ xs) [] r s x y h k a b e = let same : y ≡ x2 = cc e in absurd (grind (arith, same, h, b))
same_split t (x2 ∷ xs) (y2 ∷ ys) r s x y h k a b e =
    let head : y2 ≡ x2 = cc e in
    let tail : ys ++ y ∷ s ≡ xs ++ x ∷ r = cc e in
    let more = same_split t xs ys r s x y (grind (arith, h)) (grind (arith, k)) a b tail in
    (more.0, ap₂ (λ (z : Entry) l. z ∷ l) (sym head) more.1)

-- in a legal history no call before it has its number
none_in_front : (limits : Limits) (front rest : List Entry) (t : Ticket) (call : Call) → is_legal limits (front ++ Asked t.env t.no call ∷ rest) ≡ true → has_none t front ≡ true
none_in_front limits front rest t call legal =
    let x = Asked t.env t.no call in
    let both = goes_on-append limits [] front (x ∷ rest) in
    let g1 : goes_on limits [] front ≡ true = grind (arith, both, legal) in
    let g2 : goes_on limits front (x ∷ rest) ≡ true = grind (arith, both, legal) in
    let may : may_follow limits front x ≡ true = grind (arith, g2) in
    let self : is_call_of t x ≡ true = grind (arith, nat_tests) in
    let next = is_next limits front t x may self in
    none_before limits [] front t g1 (omega (arith, next.0))

same_call_of : (env : EnvNo) (number : ℕ) (call other : Call) → Asked env number call ≡ Asked env number other → call ≡ other
same_call_of env number call other h = cc h

pub calls_find_alike : CallsFindAlike
calls_find_alike limits env number call other_call front rest other_front other_rest there legal other_legal alike =
    let t = ticket_of env number in
    let x = Asked env number call in
    let y = Asked env number other_call in
    let one : concerning env (front ++ x ∷ rest) ≡ concerning env front ++ x ∷ concerning env rest =
    concerning-append env front (x ∷ rest) ∙ ap (λ l. concerning env front ++ l) (concerning-call env number call rest) in
    let other : concerning env (other_front ++ y ∷ other_rest) ≡ concerning env other_front ++ y ∷ concerning env other_rest =
    concerning-append env other_front (y ∷ other_rest) ∙ ap (λ l. concerning env other_front ++ l) (concerning-call env number other_call other_rest) in
    let e : concerning env other_front ++ y ∷ concerning env other_rest ≡ concerning env front ++ x ∷ (concerning env rest ++ alike.0) =
    sym other ∙ alike.1 ∙ ap (λ l. l ++ alike.0) one ∙ append_assoc (concerning env front) (x ∷ concerning env rest) alike.0 in
    let self : is_call_of t x ≡ true = grind (arith, nat_tests) in
    let other_self : is_call_of t y ≡ true = grind (arith, nat_tests) in
    let s = same_split t (concerning env front) (concerning env other_front) (concerning env rest ++ alike.0) (concerning env other_rest) x y
    (none_concerning t front (none_in_front limits front [] t call legal)) (none_concerning t other_front (none_in_front limits other_front [] t other_call other_legal)) self other_self e in
    (same_call_of env number call other_call s.0, s.1)

pub calls_told_alike : CallsToldAlike
calls_told_alike limits env number call other_call front rest other_front other_rest there legal other_legal alike =
    let k = calls_find_alike limits env number call other_call front rest other_front other_rest there legal other_legal alike in
    let x = Asked env number call in
    let l2 : is_legal limits (other_front ++ x ∷ []) ≡ true = ap (λ c. is_legal limits (other_front ++ Asked env number c ∷ [])) k.0 ∙ other_legal in
    let same : concerning env (front ++ x ∷ []) ≡ concerning env (other_front ++ x ∷ []) =
    concerning-append env front (x ∷ []) ∙ ap (λ l. l ++ concerning env (x ∷ [])) k.1 ∙ sym (concerning-append env other_front (x ∷ [])) in
    calls_tell_alike limits env number call front [] other_front [] there legal l2 same
    ∙ ap (λ c. reply limits (other_front ++ Asked env number c ∷ []) (length other_front)) k.0

pub tickets_agree : TicketsAgree
tickets_agree limits t one other seen other_seen a b there begins other_begins h k alike =
    let here : reply_to limits one t ≡ Some a = ap (λ l. reply_to limits l t) begins.1 ∙ ticket_stays limits seen begins.0 t a h in
    let other_here : reply_to limits other t ≡ Some b = ap (λ l. reply_to limits l t) other_begins.1 ∙ ticket_stays limits other_seen other_begins.0 t b k in
    let first : reply_to limits (concerning t.env one) t ≡ Some a = sym (only_concerns_replies limits t one there) ∙ here in
    let second : reply_to limits (concerning t.env other) t ≡ Some b = sym (only_concerns_replies limits t other there) ∙ other_here in
    let on : reply_to limits (concerning t.env other) t ≡ Some a = ap (λ l. reply_to limits l t) alike.1 ∙ ticket_stays limits (concerning t.env one) alike.0 t a first in
    same_some a b (sym on ∙ second)
