-- How long a legal history can be.
use Rattle.std.proofs.Common.{◌≡◌, ℕ, ◌+◌, ◌*◌, ◌<◌, ◌≤◌, Bool, true, false, cond, nat_lt, List, [], ◌∷◌, length, refl, sym, ◌∙◌, arith, is_some, length-append, get_or, set, suc, zero, replicate, inl, inr, suc-mul, add-zero, get_or-set_same, get_or-set_other, mul-zero}
use Rattle.std.specs.List.{fold, sum_by, list_all}
use Rattle.std.proofs.lemmas.Bool.Decides.{nat_tests}
use Rattle.std.proofs.lemmas.List.Sums.{sum_by-cons, sum_by-set}
use Rattle.std.proofs.lemmas.List.Folds.{sum_by-replicate}
use Rattle.std.proofs.lemmas.List.{length-replicate}
use Rattle.ti_replay.proofs.HistoryStateLaws.{goes_on-allows}
use Rattle.std.proofs.lemmas.Bool.{cases_eq}
use Rattle.ti_replay.specs.declared.costs.Costs.{Costs}
use Rattle.ti_replay.specs.Costs.{no_costs, charged, charged_to}
use Rattle.ti_replay.proofs.CostLaws.{length-charged}
use Rattle.ti_replay.proofs.Charging.{charged_free}
use Rattle.std.proofs.lemmas.List.Folds.{list_all-append}
use Rattle.ti_types.specs.declared.limits.Limits.{Limits}
use Rattle.ti_types.specs.declared.numbers.EnvNo.{EnvNo}
use Rattle.ti_types.specs.declared.call.Call.{Call}
use Rattle.ti_types.specs.declared.call.Call.TheVariants.{State, FrameCount, Trace, Location, Suspend, Resume, GetWord, SetWord, Pop}
use Rattle.ti_types.specs.declared.state.Mode.{Mode}
use Rattle.ti_types.specs.declared.state.Mode.TheVariants as mode
use Rattle.ti_types.specs.declared.state.Safe.TheVariants.{Native, Blocked, AtPoll}
use Rattle.ti_types.specs.declared.entry.Entry.{Entry}
use Rattle.ti_types.specs.declared.entry.Entry.TheVariants.{Start, Own, Hand, Back, End, Asked, Stop, Read, Go}
use Rattle.ti_types.specs.declared.view.ThreadView.{ThreadView}
use Rattle.ti_replay.specs.Answers.{is_running}
use Rattle.ti_replay.specs.Settling.{is_waiting_call, waits}
use Rattle.ti_replay.specs.View.{after, called}
use Rattle.ti_replay.specs.Legal.{is_legal, own_cost, call_cost, call_cost_of, ask_count}
use Rattle.ti_replay.proofs.LateStepLaws.{called_keeps}
use Rattle.ti_replay.specs.HistoryState.{history_state, HistoryState}
use Rattle.ti_replay.proofs.NextStates.{next_state, allows, allows_all}

-- a waiting call leaves mode, stopper and words
pub record IsQuiet (v w : ThreadView) : Type 0 where
  pub mode : w.mode ≡ v.mode
  pub stopper : w.stopper ≡ v.stopper
  pub words : w.words ≡ v.words

quiet_call : (v : ThreadView) (env : EnvNo) (call : Call) → waits call ≡ true → IsQuiet v (called v env call)
quiet_call v env State h = cc
quiet_call v env FrameCount h = record { mode = refl; stopper = refl; words = refl }
quiet_call v env (Trace a b) h = record { mode = refl; stopper = refl; words = refl }
quiet_call v env (Location d) h = record { mode = refl; stopper = refl; words = refl }
quiet_call v env Suspend h = record { mode = grind arith; stopper = grind arith; words = grind arith }
quiet_call v env Resume h = cc
quiet_call v env GetWord h = cc
quiet_call v env (SetWord w) h = cc
quiet_call v env Pop h = record { mode = grind arith; stopper = grind arith; words = grind arith }

pub quiet : (v : ThreadView) (x : Entry) → is_waiting_call x ≡ true → IsQuiet v (after v x)
quiet v Start h = cc
quiet v (Own step) h = cc
quiet v (Hand safe) h = cc
quiet v Back h = cc
quiet v End h = cc
quiet v (Asked env number call) h = quiet_call v env call h
quiet v (Stop env) h = cc
quiet v (Read env n) h = cc
quiet v (Go env) h = cc

pub all_quiet : (v : ThreadView) (w : List Entry) → list_all is_waiting_call w ≡ true → IsQuiet v (fold after v w)
all_quiet v [] h = record { mode = refl; stopper = refl; words = refl }
all_quiet v (x ∷ w) h =
    let here : is_waiting_call x ≡ true = grind arith in
    let there : list_all is_waiting_call w ≡ true = grind arith in
    let q = quiet v x here in
    let r = all_quiet (after v x) w there in
    record { mode = r.mode ∙ q.mode; stopper = r.stopper ∙ q.stopper; words = r.words ∙ q.words }

pub called_stopper : (v : ThreadView) (env : EnvNo) (call : Call) → (called v env call).stopper ≡ v.stopper
called_stopper v env State = refl
called_stopper v env FrameCount = refl
called_stopper v env (Trace a b) = refl
called_stopper v env (Location d) = refl
called_stopper v env Suspend = grind arith
called_stopper v env Resume = grind arith
called_stopper v env GetWord = refl
called_stopper v env (SetWord w) = grind arith
called_stopper v env Pop = grind arith

-- what a state may still leave without a further cost
abbrev mode_credit : Mode → ℕ
mode_credit mode.New = 2
mode_credit mode.Running = 1
mode_credit (mode.AtSafe safe) = 2
mode_credit mode.Ended = 0

abbrev stop_credit : Bool → Bool → ℕ
stop_credit false runs = 0
stop_credit true true = 3
stop_credit true false = 1

abbrev credit : HistoryState → ℕ
credit s = mode_credit s.view.mode + cond (nat_lt 0 (length s.waiting)) 2 0 + stop_credit (is_some s.view.stopper) (is_running s.view.mode)

pub record WaitsWell (s : HistoryState) : Type 0 where
  pub calls : list_all is_waiting_call s.waiting ≡ true
  pub runs : 0 < length s.waiting → is_running s.view.mode ≡ true

credit_step : (limits : Limits) (s : HistoryState) (x : Entry) → WaitsWell s → allows limits s x ≡ true → 1 + credit (next_state s x) ≤ own_cost x + 4 * call_cost_of x + credit s
credit_step limits s Start k h = grind (arith, nat_tests, k.runs)
credit_step limits s (Own step) k h = grind (arith, nat_tests)
credit_step limits s (Hand Native) k h = let q = all_quiet (after s.view (Hand Native)) s.waiting k.calls in grind (arith, nat_tests, q)
credit_step limits s (Hand (Blocked kind)) k h = let q = all_quiet (after s.view (Hand (Blocked kind))) s.waiting k.calls in grind (arith, nat_tests, q)
credit_step limits s (Hand AtPoll) k h = let q = all_quiet (after s.view (Hand AtPoll)) s.waiting k.calls in grind (arith, nat_tests, q)
credit_step limits s Back k h = grind (arith, nat_tests, k.runs)
credit_step limits s End k h = let q = all_quiet (after s.view End) s.waiting k.calls in grind (arith, nat_tests, q)
credit_step limits s (Asked env number call) k h = grind (arith, nat_tests, called_keeps s.view env call, called_stopper s.view env call, length-append s.waiting (Asked env number call ∷ []))
credit_step limits s (Stop env) k h = grind (arith, nat_tests)
credit_step limits s (Read env n) k h = grind (arith, nat_tests)
credit_step limits s (Go env) k h = grind (arith, nat_tests)

runs_step : (limits : Limits) (s : HistoryState) (x : Entry) → WaitsWell s → allows limits s x ≡ true → 0 < length (next_state s x).waiting → is_running (next_state s x).view.mode ≡ true
runs_step limits s Start k h w = grind arith
runs_step limits s (Own step) k h w = grind (arith, k.runs)
runs_step limits s (Hand safe) k h w = absurd (omega arith)
runs_step limits s Back k h w = grind arith
runs_step limits s End k h w = absurd (omega arith)
runs_step limits s (Asked env number call) k h w = grind (arith, k.runs, called_keeps s.view env call)
runs_step limits s (Stop env) k h w = grind (arith, k.runs)
runs_step limits s (Read env n) k h w = grind (arith, k.runs)
runs_step limits s (Go env) k h w = grind (arith, k.runs)

pub waits_step : (limits : Limits) (s : HistoryState) (x : Entry) → WaitsWell s → allows limits s x ≡ true → WaitsWell (next_state s x)
waits_step limits s x k h =
    record { calls = grind (arith, k.calls, list_all-append is_waiting_call s.waiting (x ∷ [])); runs = runs_step limits s x k h }

-- a run is no longer than its costs and its credit pay for
length_paid : (limits : Limits) (s : HistoryState) (history : List Entry) → WaitsWell s → allows_all limits s history ≡ true → length history ≤ sum_by own_cost history + 4 * sum_by call_cost_of history + credit s
length_paid limits s [] k h = omega arith
length_paid limits s (x ∷ history) k h =
    let here : allows limits s x ≡ true = grind arith in
    let there : allows_all limits (next_state s x) history ≡ true = grind arith in
    let rest = length_paid limits (next_state s x) history (waits_step limits s x k here) there in
    let step = credit_step limits s x k here in
    omega (arith, rest, step, sum_by-cons own_cost x history, sum_by-cons call_cost_of x history)

own_step : (limits : Limits) (s : HistoryState) (x : Entry) → allows limits s x ≡ true → s.own ≤ limits.own → s.own + own_cost x ≤ limits.own
own_step limits s Start h le = omega arith
own_step limits s (Own step) h le = grind (arith, nat_tests)
own_step limits s (Hand Native) h le = grind (arith, nat_tests)
own_step limits s (Hand (Blocked kind)) h le = grind (arith, nat_tests)
own_step limits s (Hand AtPoll) h le = omega arith
own_step limits s Back h le = omega arith
own_step limits s End h le = omega arith
own_step limits s (Asked env number call) h le = omega arith
own_step limits s (Stop env) h le = omega arith
own_step limits s (Read env n) h le = omega arith
own_step limits s (Go env) h le = omega arith

-- the table of costs, within the limit at each environment
abbrev pub IsWithin : ℕ → List Costs → Type 0
IsWithin most t = (i : ℕ) → (get_or t i no_costs).calls ≤ most

abbrev pub table_sum : List Costs → ℕ
table_sum t = sum_by (λ c. c.calls) t

table_le : (most : ℕ) (t : List Costs) → IsWithin most t → table_sum t ≤ length t * most
table_le most [] k = omega arith
table_le most (c ∷ t) k =
    let rest = table_le most t (λ i. k (suc i)) in
    let first : c.calls ≤ most = k 0 in
    omega (arith, rest, first, sum_by-cons (λ (c : Costs). c.calls) c t, suc-mul (length t) most)

within_set : (most i : ℕ) (t : List Costs) (c : Costs) → i < length t → c.calls ≤ most → IsWithin most t → IsWithin most (set t i c)
within_set most i t c l le k j =
    elim (cases_eq j i) [
      | inl same ↦ rw (same, get_or-set_same t i c no_costs l) le
      | inr other ↦ rw (get_or-set_other t i j c no_costs other) (k j)
    ]

charged_one : (limits : Limits) (t : List Costs) (x : Entry) (env : EnvNo) → env.0 < length t → (get_or t env.0 no_costs).calls < limits.calls → IsWithin limits.calls t → call_cost env x ≡ 1
    → IsWithin limits.calls (charged_to t env x) × (table_sum (charged_to t env x) ≡ table_sum t + 1)
charged_one limits t x env l room k one =
    let old = get_or t env.0 no_costs in
    let c : Costs = record { asked = old.asked + ask_count env x; calls = old.calls + call_cost env x } in
    let le : old.calls + call_cost env x ≤ limits.calls = omega arith in
    (within_set limits.calls env.0 t c l le k, omega (arith, one, sum_by-set (λ (c : Costs). c.calls) t env.0 c no_costs l))

charge_step : (limits : Limits) (s : HistoryState) (x : Entry) → allows limits s x ≡ true → length s.costs ≡ limits.envs → IsWithin limits.calls s.costs
    → IsWithin limits.calls (charged s.costs x) × (table_sum (charged s.costs x) ≡ table_sum s.costs + call_cost_of x)
charge_step limits s Start h n k = rw (charged_free s.costs Start refl) (k, sym (add-zero (table_sum s.costs)))
charge_step limits s (Own step) h n k = rw (charged_free s.costs (Own step) refl) (k, sym (add-zero (table_sum s.costs)))
charge_step limits s (Hand safe) h n k = rw (charged_free s.costs (Hand safe) refl) (k, sym (add-zero (table_sum s.costs)))
charge_step limits s Back h n k = rw (charged_free s.costs Back refl) (k, sym (add-zero (table_sum s.costs)))
charge_step limits s End h n k = rw (charged_free s.costs End refl) (k, sym (add-zero (table_sum s.costs)))
charge_step limits s (Go env) h n k = rw (charged_free s.costs (Go env) refl) (k, sym (add-zero (table_sum s.costs)))
charge_step limits s (Asked env number call) h n k = charged_one limits s.costs (Asked env number call) env (grind (arith, nat_tests)) (grind (arith, nat_tests)) k (grind (arith, nat_tests))
charge_step limits s (Stop env) h n k = charged_one limits s.costs (Stop env) env (grind (arith, nat_tests)) (grind (arith, nat_tests)) k (grind (arith, nat_tests))
charge_step limits s (Read env m) h n k = charged_one limits s.costs (Read env m) env (grind (arith, nat_tests)) (grind (arith, nat_tests)) k (grind (arith, nat_tests))

-- what a legal run costs the thread and the environments is within the limits
pub run_kept : (limits : Limits) (s : HistoryState) (history : List Entry) → allows_all limits s history ≡ true → s.own ≤ limits.own → length s.costs ≡ limits.envs → IsWithin limits.calls s.costs
    → (s.own + sum_by own_cost history ≤ limits.own) × (table_sum s.costs + sum_by call_cost_of history ≤ limits.envs * limits.calls)
run_kept limits s [] h o n k = (omega arith, rw (add-zero, ← n) (table_le limits.calls s.costs k))
run_kept limits s (x ∷ history) h o n k =
    let here : allows limits s x ≡ true = grind arith in
    let there : allows_all limits (next_state s x) history ≡ true = grind arith in
    let step = charge_step limits s x here n k in
    let rest = run_kept limits (next_state s x) history there (own_step limits s x here o) (length-charged s.costs x ∙ n) step.0 in
    (omega (arith, rest.0, sum_by-cons own_cost x history), omega (arith, rest.1, step.1, sum_by-cons call_cost_of x history))

-- an empty table
pub table_empty : (most n : ℕ) → IsWithin most (replicate n no_costs) × (table_sum (replicate n no_costs) ≡ 0)
table_empty most n = (λ i. within n i, sum_by-replicate (λ (c : Costs). c.calls) n no_costs ∙ mul-zero n)
  where
    within : (n i : ℕ) → (get_or (replicate n no_costs) i no_costs).calls ≤ most
    within zero i = omega arith
    within (suc n) zero = omega arith
    within (suc n) (suc i) = within n i

-- a legal history is no longer than its budgets allow
pub length_bounded : (limits : Limits) (history : List Entry) → is_legal limits history ≡ true → length history ≤ limits.own + 4 * (limits.envs * limits.calls) + 2
length_bounded limits history h =
    let s = history_state limits [] in
    let a : allows_all limits s history ≡ true = sym (goes_on-allows limits [] history) ∙ h in
    let e = table_empty limits.calls limits.envs in
    let paid = length_paid limits s history (record { calls = refl; runs = λ w. absurd (omega arith) }) a in
    let kept = run_kept limits s history a (omega arith) (length-replicate limits.envs no_costs) e.0 in
    omega (arith, paid, kept.0, kept.1, e.1)

-- what a legal history costs its thread is within the limit
pub own_bounded : (limits : Limits) (history : List Entry) → is_legal limits history ≡ true → sum_by own_cost history ≤ limits.own
own_bounded limits history h =
    let s = history_state limits [] in
    let a : allows_all limits s history ≡ true = sym (goes_on-allows limits [] history) ∙ h in
    let e = table_empty limits.calls limits.envs in
    let kept = run_kept limits s history a (omega arith) (length-replicate limits.envs no_costs) e.0 in
    omega (arith, kept.0)
