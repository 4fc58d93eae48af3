-- The law of late steps.
use Rattle.std.proofs.Common.{◌≡◌, ℕ, ◌+◌, ◌<◌, ◌≤◌, ◌==◌, Bool, true, false, inl, inr, List, [], ◌∷◌, ◌++◌, length, map, refl, ap, sym, ◌∙◌, arith, Some, zero-add}
use Rattle.std.specs.List.{fold, enumerate_from}
use Rattle.std.specs.Option.{option_or}
use Rattle.std.proofs.lemmas.Bool.{cases_Bool}
use Rattle.std.proofs.lemmas.Bool.Decides.{nat_tests}
use Rattle.ti_types.specs.declared.limits.Limits.{Limits}
use Rattle.ti_types.specs.declared.numbers.EnvNo.{EnvNo}
use Rattle.ti_types.specs.declared.step.Step.{Step}
use Rattle.ti_types.specs.declared.call.Call.{Call}
use Rattle.ti_types.specs.declared.call.Call.TheVariants.{State, FrameCount, Trace, Location, Suspend, Resume, GetWord, SetWord, Pop}
use Rattle.ti_types.specs.declared.entry.Entry.{Entry}
use Rattle.ti_types.specs.declared.entry.Entry.TheVariants.{Start, Own, Hand, Back, End, Asked, Stop, Read, Go}
use Rattle.ti_types.specs.declared.view.ThreadView.{ThreadView}
use Rattle.ti_replay.specs.Answers.{answer_of, is_running}
use Rattle.ti_replay.specs.Costs.{charged}
use Rattle.ti_replay.specs.Settling.{Placed, placed, settle, left_out, runs_behind, runs_after, put_behind, is_waiting_call, is_hand_over, hands_over, waits}
use Rattle.ti_replay.specs.View.{view, after, after_all, called, new_thread}
use Rattle.ti_replay.specs.Legal.{is_legal}
use Rattle.ti_replay.specs.HistoryState.{HistoryState, history_state}
use Rattle.ti_replay.specs.Replies.{reply, reply_from, answer_to}
use Rattle.ti_replay.specs.LateSteps.{is_passed, exchanged, StepsMayBeLate}
use Rattle.ti_replay.proofs.NextStates.{next_state, allows, allows_all}
use Rattle.ti_replay.proofs.SettlingLaws.{settle-append, all_behind}
use Rattle.ti_replay.proofs.HistoryLaws.{enumerate_from-append, view_runs}
use Rattle.ti_replay.proofs.CostLaws.{goes_on-append}
use Rattle.ti_replay.proofs.HistoryStateLaws.{goes_on-allows, history_state-append}
use Rattle.ti_replay.proofs.Charging.{charged_free}

-- a call that does not wait does the same to the thread whether a step of the thread comes before it or after it
pub called_late : (v : ThreadView) (step : Step) (env : EnvNo) (call : Call) → waits call ≡ false → called (after v (Own step)) env call ≡ after (called v env call) (Own step)
called_late v step env State h = refl
called_late v step env FrameCount h = cc
called_late v step env (Trace start max_count) h = cc
called_late v step env (Location depth) h = cc
called_late v step env Suspend h = cc
called_late v step env Resume h = grind arith
called_late v step env GetWord h = refl
called_late v step env (SetWord word) h = grind arith
called_late v step env Pop h = cc

pub after_late : (v : ThreadView) (step : Step) (x : Entry) → is_passed x ≡ true → is_waiting_call x ≡ false → after (after v (Own step)) x ≡ after (after v x) (Own step)
after_late v step Start h k = cc
after_late v step (Own other) h k = cc
after_late v step (Hand safe) h k = cc
after_late v step Back h k = cc
after_late v step End h k = cc
after_late v step (Asked env number call) h k = called_late v step env call k
after_late v step (Stop env) h k = refl
after_late v step (Read env max_count) h k = cc
after_late v step (Go env) h k = refl

-- where the thread runs, the state after the two is the same
pub state_late : (s : HistoryState) (step : Step) (x : Entry) → is_passed x ≡ true → is_running s.view.mode ≡ true → next_state (next_state s x) (Own step) ≡ next_state (next_state s (Own step)) x
state_late s step Start h r = cc
state_late s step (Own other) h r = cc
state_late s step (Hand safe) h r = cc
state_late s step Back h r = cc
state_late s step End h r = cc
state_late s step (Asked env number call) h r =
    grind (arith, called_late s.view step env call, charged_free s.costs (Own step), charged_free (charged s.costs (Asked env number call)) (Own step))
state_late s step (Stop env) h r = grind (arith, charged_free s.costs (Own step), charged_free (charged s.costs (Stop env)) (Own step))
state_late s step (Read env max_count) h r = cc
state_late s step (Go env) h r = grind (arith, charged_free s.costs (Own step), charged_free (charged s.costs (Go env)) (Own step))

-- a call leaves the mode, and one that does not wait the frames
pub called_keeps : (v : ThreadView) (env : EnvNo) (call : Call) → ((called v env call).mode ≡ v.mode) × (waits call ≡ false → (called v env call).frames ≡ v.frames)
called_keeps v env State = (refl, λ h. refl)
called_keeps v env FrameCount = (refl, λ h. refl)
called_keeps v env (Trace start max_count) = (refl, λ h. refl)
called_keeps v env (Location depth) = (refl, λ h. refl)
called_keeps v env Suspend = (grind arith, λ h. cc)
called_keeps v env Resume = (grind arith, λ h. grind arith)
called_keeps v env GetWord = (refl, λ h. refl)
called_keeps v env (SetWord word) = (grind arith, λ h. grind arith)
called_keeps v env Pop = (grind arith, λ h. cc)

-- what is allowed in the one order is allowed in the other
first_late : (limits : Limits) (s : HistoryState) (step : Step) (x : Entry) → is_passed x ≡ true → allows limits (next_state s (Own step)) x ≡ true → allows limits s x ≡ true
first_late limits s step Start h a = cc
first_late limits s step (Own other) h a = cc
first_late limits s step (Hand safe) h a = cc
first_late limits s step Back h a = cc
first_late limits s step End h a = cc
first_late limits s step (Asked env number call) h a = grind (arith, charged_free s.costs (Own step) refl)
first_late limits s step (Stop env) h a = grind (arith, charged_free s.costs (Own step) refl)
first_late limits s step (Read env max_count) h a = cc
first_late limits s step (Go env) h a = grind (arith, charged_free s.costs (Own step) refl)

second_late : (limits : Limits) (s : HistoryState) (step : Step) (x : Entry) → is_passed x ≡ true → allows limits s (Own step) ≡ true → allows limits (next_state s x) (Own step) ≡ true
second_late limits s step Start h a = cc
second_late limits s step (Own other) h a = cc
second_late limits s step (Hand safe) h a = cc
second_late limits s step Back h a = cc
second_late limits s step End h a = cc
second_late limits s step (Asked env number call) h a = grind (arith, called_keeps s.view env call)
second_late limits s step (Stop env) h a = grind arith
second_late limits s step (Read env max_count) h a = cc
second_late limits s step (Go env) h a = grind arith

allows_late : (limits : Limits) (s : HistoryState) (step : Step) (x : Entry) (rest : List Entry) → is_passed x ≡ true
    → allows_all limits s (Own step ∷ x ∷ rest) ≡ true → allows_all limits s (x ∷ Own step ∷ rest) ≡ true
allows_late limits s step x rest h a =
    grind (arith, first_late limits s step x h, second_late limits s step x h, state_late s step x h)

legal_late : (limits : Limits) (front rest : List Entry) (step : Step) (x : Entry) → is_passed x ≡ true
    → is_legal limits (front ++ Own step ∷ x ∷ rest) ≡ true → is_legal limits (front ++ x ∷ Own step ∷ rest) ≡ true
legal_late limits front rest step x h a =
    let s = history_state limits front in
    grind (
      arith,
      goes_on-append limits [] front (Own step ∷ x ∷ rest),
      goes_on-append limits [] front (x ∷ Own step ∷ rest),
      goes_on-allows limits front (Own step ∷ x ∷ rest),
      goes_on-allows limits front (x ∷ Own step ∷ rest),
      allows_late limits s step x rest h,
    )

view_late : (limits : Limits) (front rest : List Entry) (step : Step) (x : Entry) → is_passed x ≡ true → is_running (view limits front).mode ≡ true
    → view limits (front ++ x ∷ Own step ∷ rest) ≡ view limits (front ++ Own step ∷ x ∷ rest)
view_late limits front rest step x h r =
    ap (λ s. s.view) (history_state-append limits front (x ∷ Own step ∷ rest)
    ∙ ap (λ s. fold next_state s rest) (state_late (history_state limits front) step x h r)
    ∙ sym (history_state-append limits front (Own step ∷ x ∷ rest)))

-- places exchanged in a list of entries
abbrev moved : ℕ → Placed → Placed
moved n p = (exchanged n p.0, p.1)

abbrev move : ℕ → List Placed → List Placed
move n s = map (moved n) s

exchanged_same : (n a b : ℕ) → (exchanged n a == exchanged n b) ≡ (a == b)
exchanged_same n a b = grind (arith, nat_tests)

put_behind-move : (n : ℕ) (c : Placed) (s : List Placed) → put_behind (moved n c) (move n s) ≡ move n (put_behind c s)
put_behind-move n c [] = refl
put_behind-move n c (p ∷ s) = grind (arith, put_behind-move n c s)

settle-move : (n : ℕ) (r : Bool) (s : List Placed) → settle r (move n s) ≡ move n (settle r s)
settle-move n r [] = refl
settle-move n r (p ∷ s) = grind (arith, settle-move n (runs_after r p.1) s, put_behind-move n p (settle (runs_after r p.1) s))

reply_from-move : (n : ℕ) (v : ThreadView) (s : List Placed) (place : ℕ) → reply_from v (move n s) (exchanged n place) ≡ reply_from v s place
reply_from-move n v [] place = refl
reply_from-move n v (p ∷ s) place = rw (exchanged_same n p.0 place, reply_from-move n (after v p.1) s place) refl

-- places below the two, and those after them, stay
move_below : (n a : ℕ) (xs : List Entry) → a + length xs ≤ n → move n (enumerate_from a xs) ≡ enumerate_from a xs
move_below n a [] h = refl
move_below n a (x ∷ xs) h =
    let e : exchanged n a ≡ a = grind (arith, nat_tests) in
    let m = move_below n (a + 1) xs (omega arith) in
    rw (e, m) refl

move_above : (n a : ℕ) (xs : List Entry) → n + 1 < a → move n (enumerate_from a xs) ≡ enumerate_from a xs
move_above n a [] h = refl
move_above n a (x ∷ xs) h =
    let e : exchanged n a ≡ a = grind (arith, nat_tests) in
    let m = move_above n (a + 1) xs (omega arith) in
    rw (e, m) refl

move-append : (n : ℕ) (s t : List Placed) → move n (s ++ t) ≡ move n s ++ move n t
move-append n [] t = refl
move-append n (p ∷ s) t = ap (λ u. moved n p ∷ u) (move-append n s t)

pub reply_from-append : (v : ThreadView) (s t : List Placed) (place : ℕ) → reply_from v (s ++ t) place ≡ option_or (reply_from v s place) (reply_from (after_all v s) t place)
reply_from-append v [] t place = refl
reply_from-append v (p ∷ s) t place = grind (arith, reply_from-append (after v p.1) s t place)

-- a call that does not wait is answered alike before a step and after it
pub answered_late : (v : ThreadView) (step : Step) (env : EnvNo) (call : Call) → waits call ≡ false → answer_of (after v (Own step)) env call ≡ answer_of v env call
answered_late v step env State h = refl
answered_late v step env FrameCount h = cc
answered_late v step env (Trace start max_count) h = cc
answered_late v step env (Location depth) h = cc
answered_late v step env Suspend h = cc
answered_late v step env Resume h = refl
answered_late v step env GetWord h = refl
answered_late v step env (SetWord word) h = refl
answered_late v step env Pop h = cc

answer_late : (v : ThreadView) (step : Step) (x : Entry) → is_passed x ≡ true → is_waiting_call x ≡ false → answer_to (after v (Own step)) x ≡ answer_to v x
answer_late v step Start h k = cc
answer_late v step (Own other) h k = cc
answer_late v step (Hand safe) h k = cc
answer_late v step Back h k = cc
answer_late v step End h k = cc
answer_late v step (Asked env number call) h k = ap Some (answered_late v step env call k)
answer_late v step (Stop env) h k = refl
answer_late v step (Read env max_count) h k = cc
answer_late v step (Go env) h k = refl

passed_plain : (r : Bool) (x : Entry) → is_passed x ≡ true → (is_hand_over x ≡ false) × (runs_after r x ≡ r)
passed_plain r Start h = cc
passed_plain r (Own other) h = cc
passed_plain r (Hand safe) h = cc
passed_plain r Back h = cc
passed_plain r End h = cc
passed_plain r (Asked env number call) h = (refl, refl)
passed_plain r (Stop env) h = (refl, refl)
passed_plain r (Read env max_count) h = cc
passed_plain r (Go env) h = (refl, refl)

all_behind_skip : (w : List Placed) (p : Placed) (s : List Placed) → hands_over p ≡ false → all_behind w (p ∷ s) ≡ p ∷ all_behind w s
all_behind_skip [] p s h = refl
all_behind_skip (c ∷ w) p s h = rw (all_behind_skip w p s h) (rw h refl)

two_replies : (v : ThreadView) (i j : ℕ) (step : Step) (x : Entry) (q : List Placed) (place : ℕ) → is_passed x ≡ true → is_waiting_call x ≡ false
    → reply_from v ((j, x) ∷ (i, Own step) ∷ q) place ≡ reply_from v ((i, Own step) ∷ (j, x) ∷ q) place
two_replies v i j step x q place h k = grind (arith, answer_late v step x h k, after_late v step x h k)

-- the two in either order, after a front that runs, give the same replies
replies_either : (v : ThreadView) (p rest : List Placed) (i j : ℕ) (step : Step) (x : Entry) (place : ℕ) → is_passed x ≡ true → runs_behind false p ≡ true
    → reply_from v (settle false (p ++ (j, x) ∷ (i, Own step) ∷ rest)) place ≡ reply_from v (settle false (p ++ (i, Own step) ∷ (j, x) ∷ rest)) place
replies_either v p rest i j step x place h r =
    let a = settle-append false p ((j, x) ∷ (i, Own step) ∷ rest) in
    let b = settle-append false p ((i, Own step) ∷ (j, x) ∷ rest) in
    elim (cases_Bool (is_waiting_call x)) [
      | inl w ↦
          let same : settle true ((j, x) ∷ (i, Own step) ∷ rest) ≡ settle true ((i, Own step) ∷ (j, x) ∷ rest) = grind (arith, passed_plain true x h) in
          ap (λ s. reply_from v s place) (a ∙ ap (λ t. settle false p ++ all_behind (left_out false p) t) (ap (λ t. settle t ((j, x) ∷ (i, Own step) ∷ rest)) r ∙ same ∙ ap (λ t. settle t ((i, Own step) ∷ (j, x) ∷ rest)) (sym r)) ∙ sym b)
      | inr w ↦
          let q = settle true rest in
          let l : settle true ((j, x) ∷ (i, Own step) ∷ rest) ≡ (j, x) ∷ (i, Own step) ∷ q = grind (arith, passed_plain true x h) in
          let m : settle true ((i, Own step) ∷ (j, x) ∷ rest) ≡ (i, Own step) ∷ (j, x) ∷ q = grind (arith, passed_plain true x h) in
          let wait = left_out false p in
          let l' : all_behind wait ((j, x) ∷ (i, Own step) ∷ q) ≡ (j, x) ∷ (i, Own step) ∷ all_behind wait q =
          all_behind_skip wait (j, x) ((i, Own step) ∷ q) (passed_plain true x h).0 ∙ ap (λ t. (j, x) ∷ t) (all_behind_skip wait (i, Own step) q refl) in
          let m' : all_behind wait ((i, Own step) ∷ (j, x) ∷ q) ≡ (i, Own step) ∷ (j, x) ∷ all_behind wait q =
          all_behind_skip wait (i, Own step) ((j, x) ∷ q) refl ∙ ap (λ t. (i, Own step) ∷ t) (all_behind_skip wait (j, x) q (passed_plain true x h).0) in
          let e : settle false (p ++ (j, x) ∷ (i, Own step) ∷ rest) ≡ settle false p ++ (j, x) ∷ (i, Own step) ∷ all_behind wait q =
          a ∙ ap (λ t. settle false p ++ all_behind wait t) (ap (λ t. settle t ((j, x) ∷ (i, Own step) ∷ rest)) r ∙ l) ∙ ap (λ t. settle false p ++ t) l' in
          let f : settle false (p ++ (i, Own step) ∷ (j, x) ∷ rest) ≡ settle false p ++ (i, Own step) ∷ (j, x) ∷ all_behind wait q =
          b ∙ ap (λ t. settle false p ++ all_behind wait t) (ap (λ t. settle t ((i, Own step) ∷ (j, x) ∷ rest)) r ∙ m) ∙ ap (λ t. settle false p ++ t) m' in
          ap (λ s. reply_from v s place) e
          ∙ reply_from-append v (settle false p) ((j, x) ∷ (i, Own step) ∷ all_behind wait q) place
          ∙ ap (option_or (reply_from v (settle false p) place)) (two_replies (after_all v (settle false p)) i j step x (all_behind wait q) place h w)
          ∙ sym (reply_from-append v (settle false p) ((i, Own step) ∷ (j, x) ∷ all_behind wait q) place)
          ∙ ap (λ s. reply_from v s place) (sym f)
    ]

-- the step is allowed only where the thread runs
runs_at_step : (limits : Limits) (front rest : List Entry) (step : Step) (x : Entry) → is_legal limits (front ++ Own step ∷ x ∷ rest) ≡ true → runs_behind false (placed front) ≡ true
runs_at_step limits front rest step x a =
    grind (arith, goes_on-append limits [] front (Own step ∷ x ∷ rest), view_runs limits front)

placed_two : (front rest : List Entry) (y z : Entry) → placed (front ++ y ∷ z ∷ rest) ≡ placed front ++ (length front, y) ∷ (length front + 1, z) ∷ enumerate_from (length front + 1 + 1) rest
placed_two front rest y z = enumerate_from-append 0 front (y ∷ z ∷ rest) ∙ ap (λ n. placed front ++ (n, y) ∷ (n + 1, z) ∷ enumerate_from (n + 1 + 1) rest) (zero-add (length front))

moved_two : (front rest : List Entry) (y z : Entry) → move (length front) (placed (front ++ y ∷ z ∷ rest)) ≡ placed front ++ (length front + 1, y) ∷ (length front, z) ∷ enumerate_from (length front + 1 + 1) rest
moved_two front rest y z =
    let n = length front in
    let below : move n (placed front) ≡ placed front = move_below n 0 front (omega arith) in
    let above : move n (enumerate_from (n + 1 + 1) rest) ≡ enumerate_from (n + 1 + 1) rest = move_above n (n + 1 + 1) rest (omega arith) in
    let here : exchanged n n ≡ n + 1 = grind (arith, nat_tests) in
    let there : exchanged n (n + 1) ≡ n = grind (arith, nat_tests) in
    ap (move n) (placed_two front rest y z)
    ∙ move-append n (placed front) ((n, y) ∷ (n + 1, z) ∷ enumerate_from (n + 1 + 1) rest)
    ∙ rw (below, above, here, there) refl

reply_late : (limits : Limits) (front rest : List Entry) (step : Step) (x : Entry) (place : ℕ) → is_passed x ≡ true
    → is_legal limits (front ++ Own step ∷ x ∷ rest) ≡ true
    → reply limits (front ++ x ∷ Own step ∷ rest) (exchanged (length front) place) ≡ reply limits (front ++ Own step ∷ x ∷ rest) place
reply_late limits front rest step x place h a =
    let n = length front in
    let v = new_thread limits in
    let late = front ++ x ∷ Own step ∷ rest in
    let early = front ++ Own step ∷ x ∷ rest in
    ap (λ s. reply_from v (settle false s) (exchanged n place)) (placed_two front rest x (Own step))
    ∙ replies_either v (placed front) (enumerate_from (n + 1 + 1) rest) (n + 1) n step x (exchanged n place) h (runs_at_step limits front rest step x a)
    ∙ ap (λ s. reply_from v (settle false s) (exchanged n place)) (sym (moved_two front rest (Own step) x))
    ∙ ap (λ s. reply_from v s (exchanged n place)) (settle-move n false (placed early))
    ∙ reply_from-move n v (settle false (placed early)) place

pub steps_may_be_late : StepsMayBeLate
steps_may_be_late limits front rest step x h a =
    record { legal = legal_late limits front rest step x h a; view = view_late limits front rest step x h (view_runs limits front ∙ runs_at_step limits front rest step x a); replies = λ place. reply_late limits front rest step x place h a }
