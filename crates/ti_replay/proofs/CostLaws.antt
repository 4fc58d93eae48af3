-- The table of costs is what the history's entries cost.
use Rattle.std.proofs.Common.{ltb-true, ◌↔◌, ◌≡◌, ◌≢◌, ℕ, ◌+◌, ◌<◌, ◌≤◌, true, false, ◌&&◌, inl, inr, List, [], ◌∷◌, ◌++◌, length, refl, ap, sym, ◌∙◌, arith, replicate, append-nil, append_assoc, nat_lt, length-set, get_or-set_other, get_or-set_same, Some, None}
use Rattle.std.specs.List.{fold}
use Rattle.std.proofs.lemmas.List.{get_or-replicate, length-replicate}
use Rattle.std.proofs.lemmas.List.Sums.{sum_by-cons}
use Rattle.std.proofs.lemmas.Bool.{cases_eq, cases_Bool}
use Rattle.std.proofs.lemmas.Bool.Decides.{nat_tests}
use Rattle.ti_types.specs.declared.limits.Limits.{Limits}
use Rattle.ti_types.specs.declared.numbers.EnvNo.{EnvNo}
use Rattle.ti_types.specs.declared.state.Safe.TheVariants.{Native, Blocked, AtPoll}
use Rattle.ti_types.specs.declared.entry.Entry.{Entry}
use Rattle.ti_types.specs.declared.entry.Entry.TheVariants.{Start, Own, Hand, Back, End, Asked, Stop, Read, Go}
use Rattle.ti_replay.specs.Legal.{situation, fits, may_follow, first_illegal, goes_on, is_legal, env_of, ask_count, call_cost, calls_spent, asked_by}
use Rattle.ti_replay.specs.declared.costs.Costs.{Costs}
use Rattle.ti_replay.specs.Costs.{no_costs, costs_at, charged, charged_to, ArePaid, IsDue}
use Rattle.ti_replay.specs.PlacedState.{PlacedState, placed_state, situation_in, may_enter}

abbrev pub more : Costs → ℕ → ℕ → Costs
more c asked calls = record { asked = c.asked + asked; calls = c.calls + calls }

same_env : (a b : EnvNo) → a.0 ≡ b.0 → a ≡ b
same_env a b h = ap (λ (n : ℕ). record { 0 = n }) h

charged_row : (t : List Costs) (x : Entry) (other env : EnvNo) → env.0 < length t → (env.0 ≢ other.0 → (ask_count env x ≡ 0) × (call_cost env x ≡ 0))
    → costs_at (charged_to t other x) env ≡ more (costs_at t env) (ask_count env x) (call_cost env x)
charged_row t x other env h free =
    elim (cases_eq env.0 other.0) [
      | inl same ↦
          let e : env ≡ other = same_env env other same in
          rw e (get_or-set_same t other.0 _ no_costs (let k : other.0 < length t = omega (arith, h, same) in k))
      | inr apart ↦ rw ((free apart).0, (free apart).1) (get_or-set_other t other.0 env.0 _ no_costs apart ∙ grind arith)
    ]

costs_at-charged : (t : List Costs) (x : Entry) (env : EnvNo) → env.0 < length t → costs_at (charged t x) env ≡ more (costs_at t env) (ask_count env x) (call_cost env x)
costs_at-charged t Start env h = grind arith
costs_at-charged t (Own step) env h = grind arith
costs_at-charged t (Hand safe) env h = grind arith
costs_at-charged t Back env h = grind arith
costs_at-charged t End env h = grind arith
costs_at-charged t (Asked other number call) env h = charged_row t (Asked other number call) other env h (λ n. (grind (arith, nat_tests), grind (arith, nat_tests)))
costs_at-charged t (Stop other) env h = charged_row t (Stop other) other env h (λ n. (refl, grind (arith, nat_tests)))
costs_at-charged t (Read other max_count) env h = charged_row t (Read other max_count) other env h (λ n. (refl, grind (arith, nat_tests)))
costs_at-charged t (Go other) env h = charged_row t (Go other) other env h (λ n. (refl, refl))

pub length-charged : (t : List Costs) (x : Entry) → length (charged t x) ≡ length t
length-charged t Start = refl
length-charged t (Own step) = refl
length-charged t (Hand safe) = refl
length-charged t Back = refl
length-charged t End = refl
length-charged t (Asked env number call) = length-set t env.0 _
length-charged t (Stop env) = length-set t env.0 _
length-charged t (Read env max_count) = length-set t env.0 _
length-charged t (Go env) = length-set t env.0 _

pub paid_at_first : (n : ℕ) → ArePaid (replicate n no_costs)
paid_at_first n env h =
    let z : costs_at (replicate n no_costs) env ≡ no_costs = get_or-replicate n env.0 no_costs no_costs (omega (arith, h, length-replicate n no_costs)) in
    omega (arith, ap (λ (c : Costs). c.asked) z)

asked_paid : (env : EnvNo) (x : Entry) → ask_count env x ≤ call_cost env x
asked_paid env Start = omega arith
asked_paid env (Own step) = omega arith
asked_paid env (Hand safe) = omega arith
asked_paid env Back = omega arith
asked_paid env End = omega arith
asked_paid env (Asked other number call) = omega arith
asked_paid env (Stop other) = omega arith
asked_paid env (Read other max_count) = omega arith
asked_paid env (Go other) = omega arith

-- an entry that is charged is paid for, too
pub still_paid : (t : List Costs) (x : Entry) → ArePaid t → ArePaid (charged t x)
still_paid t x p env h =
    let there : env.0 < length t = omega (arith, h, length-charged t x) in
    let now = costs_at-charged t x env there in
    omega (arith, ap (λ (c : Costs). c.asked) now, ap (λ (c : Costs). c.calls) now, p env there, asked_paid env x)

costs_at-fold : (t : List Costs) (history : List Entry) (env : EnvNo) → env.0 < length t → costs_at (fold charged t history) env ≡ more (costs_at t env) (asked_by env history) (calls_spent env history)
costs_at-fold t [] env h = grind arith
costs_at-fold t (x ∷ history) env h =
    grind (arith, costs_at-fold (charged t x) history env, costs_at-charged t x env, length-charged t x, sum_by-cons (ask_count env) x history, sum_by-cons (call_cost env) x history)

-- for an environment that exists, the state tells what the history tells
pub situation_is : (limits : Limits) (history : List Entry) (env : EnvNo) → env.0 < limits.envs → situation_in (placed_state limits history) (Some env) ≡ situation limits history (Some env)
situation_is limits history env h =
    let n : length (replicate limits.envs no_costs) ≡ limits.envs = length-replicate limits.envs no_costs in
    let z : costs_at (replicate limits.envs no_costs) env ≡ no_costs = get_or-replicate limits.envs env.0 no_costs no_costs h in
    grind (arith, costs_at-fold (replicate limits.envs no_costs) history env)

of_environment : (limits : Limits) (history : List Entry) (x : Entry) (env : EnvNo) → env_of x ≡ Some env
    → (nat_lt env.0 limits.envs ≡ false → fits limits (situation limits history (Some env)) x ≡ fits limits (situation_in (placed_state limits history) (Some env)) x)
    → may_follow limits history x ≡ may_enter limits (placed_state limits history) x
of_environment limits history x env is without =
    rw is (elim (cases_Bool (nat_lt env.0 limits.envs)) [
      | inl there ↦ ap (λ s. fits limits s x) (sym (situation_is limits history env (ltb-true _ _ there)))
      | inr gone ↦ without gone
    ])

-- the test by the state is the test by the history
pub may_follow_is : (limits : Limits) (history : List Entry) (x : Entry) → may_follow limits history x ≡ may_enter limits (placed_state limits history) x
may_follow_is limits history Start = refl
may_follow_is limits history (Own step) = refl
may_follow_is limits history (Hand Native) = refl
may_follow_is limits history (Hand (Blocked kind)) = refl
may_follow_is limits history (Hand AtPoll) = refl
may_follow_is limits history Back = refl
may_follow_is limits history End = refl
may_follow_is limits history (Asked env number call) = of_environment limits history (Asked env number call) env refl (λ h. rw h refl)
may_follow_is limits history (Stop env) = of_environment limits history (Stop env) env refl (λ h. rw h refl)
may_follow_is limits history (Read env max_count) = of_environment limits history (Read env max_count) env refl (λ h. rw h refl)
may_follow_is limits history (Go env) = of_environment limits history (Go env) env refl (λ h. rw h refl)

-- a history is legal where no entry is illegal
pub goes_on_is : (limits : Limits) (front history : List Entry) → (goes_on limits front history ≡ true) ↔ (first_illegal limits front history ≡ None)
goes_on_is limits front [] = (λ h. refl, λ h. refl)
goes_on_is limits front (x ∷ history) =
    elim (cases_Bool (may_follow limits front x)) [
      | inl may ↦ rw may (goes_on_is limits (front ++ x ∷ []) history)
      | inr may_not ↦ rw may_not (λ h. cc, λ h. cc)
    ]

pub goes_on-append : (limits : Limits) (front history more : List Entry) → goes_on limits front (history ++ more) ≡ (goes_on limits front history && goes_on limits (front ++ history) more)
goes_on-append limits front [] more = rw append-nil refl
goes_on-append limits front (x ∷ history) more = grind (arith, goes_on-append limits (front ++ x ∷ []) history more, append_assoc front (x ∷ []) history)

-- one more entry
pub is_legal-snoc : (limits : Limits) (history : List Entry) (x : Entry) → is_legal limits (history ++ x ∷ []) ≡ (is_legal limits history && may_follow limits history x)
is_legal-snoc limits history x = grind (arith, goes_on-append limits [] history (x ∷ []))

-- an entry that may come can be charged
pub due : (limits : Limits) (s : PlacedState) (x : Entry) → may_enter limits s x ≡ true → IsDue s.costs x
due limits s Start h = tt
due limits s (Own step) h = tt
due limits s (Hand safe) h = tt
due limits s Back h = tt
due limits s End h = tt
due limits s (Asked env number call) h = (grind (arith, nat_tests), grind (arith, nat_tests, limits.in_range))
due limits s (Stop env) h = grind (arith, nat_tests, limits.in_range)
due limits s (Read env max_count) h = grind (arith, nat_tests, limits.in_range)
due limits s (Go env) h = tt
