-- What is replied about an environment's word at a thread.
use Rattle.std.proofs.Common.{◌≡◌, ℕ, ◌+◌, ◌<◌, Bool, true, false, cond, nat_lt, List, [], ◌∷◌, ◌++◌, length, length-append, refl, ap, ap₂, sym, subst, ◌∙◌, arith, Option, Some, append_assoc, eqb-true, ltb-true, inl, inr, slice_index}
use Rattle.std.proofs.lemmas.Bool.{cases_Bool}
use Rattle.std.proofs.lemmas.Bool.Decides.{nat_tests}
use Rattle.std.proofs.lemmas.List.{length-replicate}
use Rattle.ti_types.specs.declared.limits.Limits.{Limits}
use Rattle.ti_types.specs.declared.numbers.EnvNo.{EnvNo}
use Rattle.ti_types.specs.declared.call.Call.TheVariants.{State, FrameCount, Trace, Location, Suspend, Resume, GetWord, SetWord, Pop}
use Rattle.ti_types.specs.declared.entry.Entry.{Entry}
use Rattle.ti_types.specs.declared.entry.Entry.TheVariants.{Start, Own, Hand, Back, End, Asked, Stop, Read, Go}
use Rattle.ti_types.specs.declared.answer.Answer.{Answer}
use Rattle.ti_types.specs.declared.answer.Answer.TheVariants as answer
use Rattle.ti_types.specs.declared.error.TiError.TheVariants.{ThreadNotAlive}
use Rattle.ti_replay.specs.Answers.{is_alive, answer_of}
use Rattle.ti_replay.specs.View.{view}
use Rattle.ti_replay.specs.Word.{word_after, lives_after}
use Rattle.ti_replay.specs.Replies.{reply}
use Rattle.ti_replay.specs.HistoryState.{HistoryState, history_state}
use Rattle.ti_replay.specs.Storage.{WordEvent, Started, Ended, Got, Set, word_event, with_event, word_events, is_word_call, with_reply, word_replies_from, WordsReplyAlike}
use Rattle.ti_replay.proofs.NextStates.{next_state, allows, allows_all}
use Rattle.ti_replay.proofs.HistoryStateLaws.{history_state-snoc, goes_on-allows}
use Rattle.ti_replay.proofs.PlaceLaws.{reply_at_once}
use Rattle.ti_replay.proofs.ReplyLaws.{reply_stays}
use Rattle.ti_replay.proofs.BoundLaws.{WaitsWell, waits_step}
use Rattle.ti_replay.proofs.StorageLaws.{word_in, step_word, length_step}

-- the answer of a thread that may be alive
abbrev pub alive_or : Bool → Answer → Answer
alive_or alive a = cond alive a (answer.Refused ThreadNotAlive)

-- what the calls among these are answered, of a thread that may be alive and has this word
abbrev word_told : Bool → ℕ → List WordEvent → List (Option Answer)
word_told alive word [] = []
word_told alive word (Started ∷ es) = word_told true word es
word_told alive word (Ended ∷ es) = word_told false word es
word_told alive word (Got ∷ es) = Some (alive_or alive (answer.Word word)) ∷ word_told alive word es
word_told alive word (Set w ∷ es) = Some (alive_or alive answer.Done) ∷ word_told alive (cond alive w word) es

-- what one entry is answered
abbrev told_at : Bool → ℕ → Entry → Option Answer
told_at alive word (Asked other number GetWord) = Some (alive_or alive (answer.Word word))
told_at alive word x = Some (alive_or alive answer.Done)

told_one : (alive : Bool) (word : ℕ) (env : EnvNo) (x : Entry) (es : List WordEvent)
    → word_told alive word (with_event (word_event env x) es) ≡ with_reply (is_word_call env x) (told_at alive word x) (word_told (lives_after alive x) (word_after alive word env x) es)
told_one alive word env Start es = refl
told_one alive word env (Own step) es = refl
told_one alive word env (Hand safe) es = refl
told_one alive word env Back es = refl
told_one alive word env End es = refl
told_one alive word env (Asked other number State) es = refl
told_one alive word env (Asked other number FrameCount) es = refl
told_one alive word env (Asked other number (Trace a b)) es = refl
told_one alive word env (Asked other number (Location d)) es = refl
told_one alive word env (Asked other number Suspend) es = refl
told_one alive word env (Asked other number Resume) es = refl
told_one alive word env (Asked other number GetWord) es = grind arith
told_one alive word env (Asked other number (SetWord w)) es = grind arith
told_one alive word env (Asked other number Pop) es = refl
told_one alive word env (Stop other) es = refl
told_one alive word env (Read other n) es = refl
told_one alive word env (Go other) es = refl

-- the reply to an entry that is a call about the word
word_reply : (limits : Limits) (front rest : List Entry) (x : Entry) (env : EnvNo) → is_word_call env x ≡ true
    → reply limits (front ++ x ∷ rest) (length front) ≡ told_at (is_alive (view limits front).mode) (slice_index (view limits front).words env.0) x
word_reply limits front rest Start env h = cc
word_reply limits front rest (Own step) env h = cc
word_reply limits front rest (Hand safe) env h = cc
word_reply limits front rest Back env h = cc
word_reply limits front rest End env h = cc
word_reply limits front rest (Asked other number State) env h = cc
word_reply limits front rest (Asked other number FrameCount) env h = cc
word_reply limits front rest (Asked other number (Trace a b)) env h = cc
word_reply limits front rest (Asked other number (Location d)) env h = cc
word_reply limits front rest (Asked other number Suspend) env h = cc
word_reply limits front rest (Asked other number Resume) env h = cc
word_reply limits front rest (Asked other number GetWord) env h =
    let v = view limits front in
    ap (λ l. reply limits l (length front)) (sym (append_assoc front (Asked other number GetWord ∷ []) rest))
    ∙ reply_stays limits (front ++ Asked other number GetWord ∷ []) rest (length front) (answer_of v other GetWord) (reply_at_once limits front other number GetWord refl)
    ∙ ap (λ n. Some (alive_or (is_alive v.mode) (answer.Word (slice_index v.words n)))) (eqb-true _ _ h)
word_reply limits front rest (Asked other number (SetWord w)) env h =
    let v = view limits front in
    ap (λ l. reply limits l (length front)) (sym (append_assoc front (Asked other number (SetWord w) ∷ []) rest))
    ∙ reply_stays limits (front ++ Asked other number (SetWord w) ∷ []) rest (length front) (answer_of v other (SetWord w)) (reply_at_once limits front other number (SetWord w) refl)
word_reply limits front rest (Asked other number Pop) env h = cc
word_reply limits front rest (Stop other) env h = cc
word_reply limits front rest (Read other n) env h = cc
word_reply limits front rest (Go other) env h = cc

with_same : (b : Bool) (p q : Option Answer) (rest : List (Option Answer)) → (b ≡ true → p ≡ q) → with_reply b p rest ≡ with_reply b q rest
with_same true p q rest h = ap (λ a. a ∷ rest) (h refl)
with_same false p q rest h = refl

-- the replies after a front are what the entries that count come to
replies_run : (limits : Limits) (env : EnvNo) (front rest : List Entry) → WaitsWell (history_state limits front)
    → allows_all limits (history_state limits front) rest ≡ true → env.0 < length (view limits front).words
    → word_replies_from limits env (front ++ rest) (length front) rest ≡ word_told (is_alive (view limits front).mode) (word_in (history_state limits front) env) (word_events env rest)
replies_run limits env front [] k a l = refl
replies_run limits env front (x ∷ rest) k a l =
    let s = history_state limits front in
    let f = front ++ x ∷ [] in
    let here : allows limits s x ≡ true = grind arith in
    let there : allows_all limits (next_state s x) rest ≡ true = grind arith in
    let e : history_state limits f ≡ next_state s x = history_state-snoc limits front x in
    let step = step_word limits s x env k here l in
    let alive = is_alive (view limits front).mode in
    let word = word_in s env in
    let more : word_replies_from limits env (f ++ rest) (length f) rest ≡ word_told (is_alive (view limits f).mode) (word_in (history_state limits f) env) (word_events env rest) =
    replies_run limits env f rest (subst WaitsWell (sym e) (waits_step limits s x k here)) (ap (λ z. allows_all limits z rest) e ∙ there)
    (subst (λ (z : HistoryState). env.0 < length z.view.words) (sym e) (rw (length_step s x k) l)) in
    let rest_is : word_replies_from limits env (front ++ x ∷ rest) (length front + 1) rest ≡ word_told (lives_after alive x) (word_after alive word env x) (word_events env rest) =
    ap₂ (λ w n. word_replies_from limits env w n rest) (sym (append_assoc front (x ∷ []) rest)) (sym (length-append front (x ∷ []))) ∙ more
    ∙ ap₂ (λ b w. word_told b w (word_events env rest)) (ap (λ (z : HistoryState). is_alive z.view.mode) e ∙ step.1) (ap (λ z. word_in z env) e ∙ step.0) in
    ap (with_reply (is_word_call env x) (reply limits (front ++ x ∷ rest) (length front))) rest_is
    ∙ with_same (is_word_call env x) _ _ _ (word_reply limits front rest x env)
    ∙ sym (told_one alive word env x (word_events env rest))

-- an environment that is not there has no call in a legal history
call_allowed : (limits : Limits) (s : HistoryState) (x : Entry) (env : EnvNo) → is_word_call env x ≡ true → allows limits s x ≡ true → nat_lt env.0 limits.envs ≡ true
call_allowed limits s Start env h a = cc
call_allowed limits s (Own step) env h a = cc
call_allowed limits s (Hand safe) env h a = cc
call_allowed limits s Back env h a = cc
call_allowed limits s End env h a = cc
call_allowed limits s (Asked other number State) env h a = cc
call_allowed limits s (Asked other number FrameCount) env h a = cc
call_allowed limits s (Asked other number (Trace b c)) env h a = cc
call_allowed limits s (Asked other number (Location d)) env h a = cc
call_allowed limits s (Asked other number Suspend) env h a = cc
call_allowed limits s (Asked other number Resume) env h a = cc
call_allowed limits s (Asked other number GetWord) env h a = grind (arith, nat_tests)
call_allowed limits s (Asked other number (SetWord w)) env h a = grind (arith, nat_tests)
call_allowed limits s (Asked other number Pop) env h a = cc
call_allowed limits s (Stop other) env h a = cc
call_allowed limits s (Read other n) env h a = cc
call_allowed limits s (Go other) env h a = cc

none_told : (limits : Limits) (env : EnvNo) (whole : List Entry) (place : ℕ) (s : HistoryState) (rest : List Entry) → nat_lt env.0 limits.envs ≡ false
    → allows_all limits s rest ≡ true → word_replies_from limits env whole place rest ≡ []
none_told limits env whole place s [] out a = refl
none_told limits env whole place s (x ∷ rest) out a =
    let here : allows limits s x ≡ true = grind arith in
    let there : allows_all limits (next_state s x) rest ≡ true = grind arith in
    let more = none_told limits env whole (place + 1) (next_state s x) rest out there in
    elim (cases_Bool (is_word_call env x)) [
      | inl call ↦ absurd (let t : nat_lt env.0 limits.envs ≡ true = call_allowed limits s x env call here in cc)
      | inr no_call ↦ rw no_call more
    ]

pub words_reply_alike : WordsReplyAlike
words_reply_alike limits one other env a b same =
    let s = history_state limits [] in
    let allowed_one : allows_all limits s one ≡ true = sym (goes_on-allows limits [] one) ∙ a in
    let allowed_other : allows_all limits s other ≡ true = sym (goes_on-allows limits [] other) ∙ b in
    elim (cases_Bool (nat_lt env.0 limits.envs)) [
      | inl there ↦
          let k : WaitsWell s = record { calls = refl; runs = λ w. absurd (omega arith) } in
          let l : env.0 < length (view limits []).words = omega (arith, length-replicate {A = ℕ} limits.envs 0, ltb-true _ _ there) in
          replies_run limits env [] one k allowed_one l ∙ ap (word_told false (word_in s env)) same ∙ sym (replies_run limits env [] other k allowed_other l)
      | inr out ↦ none_told limits env one 0 s one out allowed_one ∙ sym (none_told limits env other 0 s other out allowed_other)
    ]
