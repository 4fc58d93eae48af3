-- The logged steps may still come after a call, a stop or a go that came before them.
use Rattle.std.proofs.Common.{◌≡◌, true, List, [], ◌∷◌, ◌++◌, refl, ap, sym, ◌∙◌, arith, add-zero}
use Rattle.ti_types.specs.declared.limits.Limits.{Limits}
use Rattle.ti_types.specs.declared.step.Step.{Step}
use Rattle.ti_types.specs.declared.entry.Entry.{Entry}
use Rattle.ti_types.specs.declared.entry.Entry.TheVariants.{Start, Own, Hand, Back, End, Asked, Stop, Read, Go}
use Rattle.ti_replay.specs.Answers.{is_running}
use Rattle.ti_replay.specs.View.{frames_after}
use Rattle.ti_replay.specs.Legal.{goes_on}
use Rattle.ti_replay.specs.HistoryState.{HistoryState, history_state}
use Rattle.ti_replay.specs.LateSteps.{is_passed}
use Rattle.ti_replay.proofs.HistoryStateLaws.{history_state-snoc, goes_on-allows}
use Rattle.ti_replay.proofs.LateStepLaws.{called_keeps}
use Rattle.ti_replay.specs.LateTickets.{steps_of}
use Rattle.ti_replay.proofs.NextStates.{next_state, allows, allows_all}

-- what own steps depend on: the frames only where the thread runs
pub record IsSameForSteps (s z : HistoryState) : Type 0 where
  pub mode : s.view.mode ≡ z.view.mode
  pub frames : is_running z.view.mode ≡ true → s.view.frames ≡ z.view.frames
  pub own : s.own ≡ z.own

step_same : (s z : HistoryState) (step : Step) → IsSameForSteps s z → IsSameForSteps (next_state s (Own step)) (next_state z (Own step))
step_same s z step k =
    record { mode = grind (arith, k.mode); frames = λ r. ap (λ f. frames_after f step) (k.frames r); own = grind (arith, k.own) }

steps_same : (limits : Limits) (s z : HistoryState) (steps : List Step) → IsSameForSteps s z → allows_all limits s (steps_of steps) ≡ allows_all limits z (steps_of steps)
steps_same limits s z [] k = refl
steps_same limits s z (x ∷ steps) k =
    let one : allows limits s (Own x) ≡ allows limits z (Own x) = grind (arith, k.mode, k.frames, k.own) in
    let rest = steps_same limits (next_state s (Own x)) (next_state z (Own x)) steps (step_same s z x k) in
    grind (arith, one, rest)

pub passed_same : (s : HistoryState) (x : Entry) → is_passed x ≡ true → IsSameForSteps (next_state s x) s
passed_same s Start h = cc
passed_same s (Own step) h = cc
passed_same s (Hand safe) h = cc
passed_same s Back h = cc
passed_same s End h = cc
passed_same s (Asked env n call) h =
    record { mode = grind (arith, called_keeps s.view env call); frames = λ r. grind (arith, called_keeps s.view env call); own = add-zero s.own }
passed_same s (Stop env) h = record { mode = grind arith; frames = λ r. grind arith; own = add-zero s.own }
passed_same s (Read env n) h = cc
passed_same s (Go env) h = record { mode = grind arith; frames = λ r. grind arith; own = add-zero s.own }

pub steps_stay : (limits : Limits) (history : List Entry) (steps : List Step) (x : Entry) → is_passed x ≡ true → goes_on limits (history ++ x ∷ []) (steps_of steps) ≡ goes_on limits history (steps_of steps)
steps_stay limits history steps x h =
    goes_on-allows limits (history ++ x ∷ []) (steps_of steps)
    ∙ ap (λ s. allows_all limits s (steps_of steps)) (history_state-snoc limits history x)
    ∙ steps_same limits (next_state (history_state limits history) x) (history_state limits history) steps (passed_same (history_state limits history) x h)
    ∙ sym (goes_on-allows limits history (steps_of steps))
