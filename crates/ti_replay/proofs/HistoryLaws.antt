-- What one more entry does to a history.
use Rattle.std.proofs.Common.{◌≡◌, ℕ, ◌+◌, Bool, true, false, cond, ◌&&◌, List, [], ◌∷◌, ◌++◌, length, refl, ap, ◌∙◌, arith, zero-add, add-zero, replicate}
use Rattle.std.proofs.Common.{length-append}
use Rattle.std.proofs.lemmas.Bool.{and_parts}
use Rattle.std.specs.List.{enumerate_from}
use Rattle.ti_replay.specs.Legal.{own_cost}
use Rattle.std.proofs.lemmas.List.Sums.{fold-append, sum_by-append}
use Rattle.ti_types.specs.declared.limits.Limits.{Limits}
use Rattle.ti_types.specs.declared.numbers.EnvNo.{EnvNo}
use Rattle.ti_types.specs.declared.call.Call.{Call}
use Rattle.ti_types.specs.declared.call.Call.TheVariants.{State, FrameCount, Trace, Location, Suspend, Resume, GetWord, SetWord, Pop}
use Rattle.ti_types.specs.declared.entry.Entry.{Entry}
use Rattle.ti_types.specs.declared.entry.Entry.TheVariants.{Start, Own, Hand, Back, End, Asked, Stop, Read, Go}
use Rattle.ti_types.specs.declared.view.ThreadView.{ThreadView}
use Rattle.ti_replay.specs.Answers.{is_running, is_alive}
use Rattle.ti_replay.specs.Settling.{Placed, placed, is_waiting_call, is_hand_over, runs_after, runs_behind, put_behind, settle, left_out, settled, unanswered}
use Rattle.ti_replay.specs.View.{view, after, after_all, called, new_thread}
use Rattle.ti_replay.specs.Costs.{no_costs, charged}
use Rattle.ti_replay.specs.PlacedState.{placed_state, entered, view_behind, waiting_behind}
use Rattle.ti_replay.proofs.SettlingLaws.{settle_hand, settle_wait, settle_now, left_out_hand, left_out_wait, left_out_now, waiting_runs}

pub enumerate_from-append : {X : Type 0} (n : ℕ) (xs ys : List X) → enumerate_from n (xs ++ ys) ≡ enumerate_from n xs ++ enumerate_from (n + length xs) ys
enumerate_from-append n [] ys = rw add-zero refl
enumerate_from-append n (x ∷ xs) ys = grind (arith, enumerate_from-append (n + 1) xs ys)

pub placed-snoc : (history : List Entry) (x : Entry) → placed (history ++ x ∷ []) ≡ placed history ++ (length history, x) ∷ []
placed-snoc history x = rw (enumerate_from-append 0 history (x ∷ [])) (rw zero-add refl)

-- a call leaves the mode
called_mode : (v : ThreadView) (env : EnvNo) (call : Call) → (called v env call).mode ≡ v.mode
called_mode v env State = refl
called_mode v env FrameCount = refl
called_mode v env (Trace start max_count) = refl
called_mode v env (Location depth) = refl
called_mode v env Suspend = elim (is_alive v.mode) as (λ b. (cond b (record v { suspended = true }) v).mode ≡ v.mode) [ true ↦ refl | false ↦ refl ]
called_mode v env Resume = elim (is_alive v.mode) as (λ b. (cond b (record v { suspended = false }) v).mode ≡ v.mode) [ true ↦ refl | false ↦ refl ]
called_mode v env GetWord = refl
called_mode v env (SetWord word) = grind arith
called_mode v env Pop = grind arith

-- the view runs as the entries say
after_runs : (v : ThreadView) (x : Entry) → is_running (after v x).mode ≡ runs_after (is_running v.mode) x
after_runs v Start = refl
after_runs v (Own step) = refl
after_runs v (Hand safe) = refl
after_runs v Back = refl
after_runs v End = refl
after_runs v (Asked env number call) = ap is_running (called_mode v env call)
after_runs v (Stop env) = refl
after_runs v (Read env max_count) = refl
after_runs v (Go env) = refl

after_all_runs : (v : ThreadView) (s : List Placed) → is_running (after_all v s).mode ≡ runs_behind (is_running v.mode) s
after_all_runs v [] = refl
after_all_runs v (p ∷ s) = after_all_runs (after v p.1) s ∙ ap (λ r. runs_behind r s) (after_runs v p.1)

-- settling changes nothing of when the thread runs
runs-put_behind : (r : Bool) (c : Placed) (s : List Placed) → is_waiting_call c.1 ≡ true → runs_behind r (put_behind c s) ≡ runs_behind r s
runs-put_behind r c [] h = refl
runs-put_behind r c (p ∷ s) h = grind (arith, runs-put_behind (runs_after r p.1) c s h, waiting_runs (runs_after r p.1) c.1 h)

runs-settle : (r : Bool) (s : List Placed) → runs_behind r (settle r s) ≡ runs_behind r s
runs-settle r [] = refl
runs-settle r (p ∷ s) = grind (arith, runs-settle (runs_after r p.1) s, runs-put_behind r p (settle (runs_after r p.1) s), waiting_runs r p.1)

pub view_runs : (limits : Limits) (history : List Entry) → is_running (view limits history).mode ≡ runs_behind false (placed history)
view_runs limits history = after_all_runs (new_thread limits) (settled history) ∙ runs-settle false (placed history)

after_all-append : (v : ThreadView) (s t : List Placed) → after_all v (s ++ t) ≡ after_all (after_all v s) t
after_all-append v s t = fold-append (λ w p. after w p.1) v s t

-- the three ways in which an entry settles, told by two tests
pub settled_hand : (history : List Entry) (x : Entry) → is_hand_over x ≡ true → settled (history ++ x ∷ []) ≡ settled history ++ (length history, x) ∷ unanswered history
settled_hand history x h = ap (settle false) (placed-snoc history x) ∙ settle_hand false (placed history) (length history, x) h

pub settled_wait : (history : List Entry) (x : Entry) → (is_waiting_call x && runs_behind false (placed history)) ≡ true → settled (history ++ x ∷ []) ≡ settled history
settled_wait history x h =
    ap (settle false) (placed-snoc history x)
    ∙ settle_wait false (placed history) (length history, x) (and_parts _ _ h).0 (and_parts _ _ h).1

pub settled_now : (history : List Entry) (x : Entry) → is_hand_over x ≡ false → (is_waiting_call x && runs_behind false (placed history)) ≡ false → settled (history ++ x ∷ []) ≡ settled history ++ (length history, x) ∷ []
settled_now history x h k = ap (settle false) (placed-snoc history x) ∙ settle_now false (placed history) (length history, x) h k

unanswered_hand : (history : List Entry) (x : Entry) → is_hand_over x ≡ true → unanswered (history ++ x ∷ []) ≡ []
unanswered_hand history x h = ap (left_out false) (placed-snoc history x) ∙ left_out_hand false (placed history) (length history, x) h

unanswered_wait : (history : List Entry) (x : Entry) → (is_waiting_call x && runs_behind false (placed history)) ≡ true → unanswered (history ++ x ∷ []) ≡ unanswered history ++ (length history, x) ∷ []
unanswered_wait history x h =
    ap (left_out false) (placed-snoc history x)
    ∙ left_out_wait false (placed history) (length history, x) (and_parts _ _ h).0 (and_parts _ _ h).1

unanswered_now : (history : List Entry) (x : Entry) → is_hand_over x ≡ false → (is_waiting_call x && runs_behind false (placed history)) ≡ false → unanswered (history ++ x ∷ []) ≡ unanswered history
unanswered_now history x h k = ap (left_out false) (placed-snoc history x) ∙ left_out_now false (placed history) (length history, x) h k

pub view_hand : (limits : Limits) (history : List Entry) (x : Entry) → is_hand_over x ≡ true → view limits (history ++ x ∷ []) ≡ after_all (after (view limits history) x) (unanswered history)
view_hand limits history x h =
    ap (after_all (new_thread limits)) (settled_hand history x h) ∙ after_all-append (new_thread limits) (settled history) ((length history, x) ∷ unanswered history)

view_wait : (limits : Limits) (history : List Entry) (x : Entry) → (is_waiting_call x && runs_behind false (placed history)) ≡ true → view limits (history ++ x ∷ []) ≡ view limits history
view_wait limits history x h = ap (after_all (new_thread limits)) (settled_wait history x h)

view_now : (limits : Limits) (history : List Entry) (x : Entry) → is_hand_over x ≡ false → (is_waiting_call x && runs_behind false (placed history)) ≡ false → view limits (history ++ x ∷ []) ≡ after (view limits history) x
view_now limits history x h k =
    ap (after_all (new_thread limits)) (settled_now history x h k) ∙ after_all-append (new_thread limits) (settled history) ((length history, x) ∷ [])

-- the view and the waiting calls after one more entry
pub view-snoc : (limits : Limits) (history : List Entry) (x : Entry) → view limits (history ++ x ∷ []) ≡ view_behind (view limits history) (unanswered history) x
view-snoc limits history x =
    grind (arith, view_runs limits history, view_hand limits history x, view_wait limits history x, view_now limits history x)

pub unanswered-snoc : (limits : Limits) (history : List Entry) (x : Entry) → unanswered (history ++ x ∷ []) ≡ waiting_behind (view limits history) (unanswered history) (length history) x
unanswered-snoc limits history x =
    grind (arith, view_runs limits history, unanswered_hand history x, unanswered_wait history x, unanswered_now history x)

-- the state after one more entry
pub placed_state-snoc : (limits : Limits) (history : List Entry) (x : Entry) → placed_state limits (history ++ x ∷ []) ≡ entered (placed_state limits history) x
placed_state-snoc limits history x =
    grind (arith, view-snoc limits history x, unanswered-snoc limits history x, length-append history (x ∷ []), sum_by-append own_cost history (x ∷ []), fold-append charged (replicate limits.envs no_costs) history (x ∷ []))
