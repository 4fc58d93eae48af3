-- A thread that is stopped makes no entry of its own.
use Rattle.std.proofs.Common.{◌≡◌, true, false, ◌⊎◌, inl, inr, List, [], ◌∷◌, refl, sym, ◌∙◌, arith}
use Rattle.std.proofs.lemmas.Bool.{and_parts}
use Rattle.std.proofs.lemmas.Bool.Decides.{nat_tests}
use Rattle.ti_types.specs.declared.limits.Limits.{Limits}
use Rattle.ti_types.specs.declared.numbers.EnvNo.{EnvNo}
use Rattle.ti_types.specs.declared.state.Safe.TheVariants.{Native, Blocked, AtPoll}
use Rattle.ti_types.specs.declared.entry.Entry.{Entry}
use Rattle.ti_types.specs.declared.entry.Entry.TheVariants.{Start, Own, Hand, Back, End, Asked, Stop, Read, Go}
use Rattle.ti_replay.specs.HistoryState.{HistoryState, history_state}
use Rattle.ti_replay.specs.Standing.{stands_for, is_own_entry, is_go_of, is_still, StandsStill}
use Rattle.ti_replay.proofs.NextStates.{next_state, allows, allows_all}
use Rattle.ti_replay.proofs.LateStepLaws.{called_keeps}
use Rattle.ti_replay.proofs.BoundLaws.{called_stopper}
use Rattle.ti_replay.proofs.CostLaws.{goes_on-append}
use Rattle.ti_replay.proofs.HistoryStateLaws.{goes_on-allows}

stand_step : (limits : Limits) (s : HistoryState) (x : Entry) (env : EnvNo) → allows limits s x ≡ true → stands_for env s.view ≡ true
    → (is_go_of env x ≡ true) ⊎ ((is_own_entry x ≡ false) × (stands_for env (next_state s x).view ≡ true))
stand_step limits s Start env a k = absurd (grind (arith, nat_tests))
stand_step limits s (Own step) env a k = absurd (grind (arith, nat_tests))
stand_step limits s (Hand Native) env a k = absurd (grind (arith, nat_tests))
stand_step limits s (Hand (Blocked kind)) env a k = absurd (grind (arith, nat_tests))
stand_step limits s (Hand AtPoll) env a k = absurd (grind (arith, nat_tests))
stand_step limits s Back env a k = absurd (grind (arith, nat_tests))
stand_step limits s End env a k = absurd (grind (arith, nat_tests))
stand_step limits s (Asked other number call) env a k = inr (refl, grind (arith, called_keeps s.view other call, called_stopper s.view other call))
stand_step limits s (Stop other) env a k = absurd (grind (arith, nat_tests))
stand_step limits s (Read other n) env a k = inr (refl, grind arith)
stand_step limits s (Go other) env a k = inl (grind (arith, nat_tests))

stand_run : (limits : Limits) (s : HistoryState) (history : List Entry) (env : EnvNo) → allows_all limits s history ≡ true → stands_for env s.view ≡ true → is_still env history ≡ true
stand_run limits s [] env a k = refl
stand_run limits s (x ∷ history) env a k =
    let here : allows limits s x ≡ true = grind arith in
    let there : allows_all limits (next_state s x) history ≡ true = grind arith in
    elim (stand_step limits s x env here k) [
      | inl go ↦ rw go refl
      | inr still ↦ grind (arith, still.0, stand_run limits (next_state s x) history env there still.1)
    ]

pub stands_still : StandsStill
stands_still limits history more env a k =
    let b : allows_all limits (history_state limits history) more ≡ true =
    sym (goes_on-allows limits history more) ∙ (and_parts _ _ (sym (goes_on-append limits [] history more) ∙ a)).1 in
    stand_run limits (history_state limits history) more env b k
