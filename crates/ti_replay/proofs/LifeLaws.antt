-- When a thread is alive, by the starts and ends of its history.
use Rattle.std.proofs.Common.{◌≡◌, Bool, true, false, not, ◌&&◌, ◌||◌, List, [], ◌∷◌, refl, ap, sym, ◌∙◌, arith}
use Rattle.std.specs.List.{fold, list_any}
use Rattle.ti_types.specs.declared.limits.Limits.{Limits}
use Rattle.ti_types.specs.declared.state.Mode.{Mode}
use Rattle.ti_types.specs.declared.state.Mode.TheVariants as mode
use Rattle.ti_types.specs.declared.state.Safe.TheVariants.{Native, Blocked, AtPoll}
use Rattle.ti_types.specs.declared.entry.Entry.{Entry}
use Rattle.ti_types.specs.declared.entry.Entry.TheVariants.{Start, Own, Hand, Back, End, Asked, Stop, Read, Go}
use Rattle.ti_replay.specs.Answers.{is_alive, is_running}
use Rattle.ti_replay.specs.View.{view, after}
use Rattle.ti_replay.specs.Legal.{is_legal, is_new}
use Rattle.ti_replay.specs.HistoryState.{HistoryState, history_state}
use Rattle.ti_replay.specs.Storage.{is_start, is_end, has_life}
use Rattle.ti_replay.proofs.NextStates.{next_state, allows, allows_all}
use Rattle.ti_replay.proofs.LateStepLaws.{called_keeps}
use Rattle.ti_replay.proofs.HistoryStateLaws.{goes_on-allows, history_state-append}
use Rattle.ti_replay.proofs.BoundLaws.{all_quiet, WaitsWell, waits_step}

abbrev is_ended : Mode → Bool
is_ended mode.Ended = true
is_ended _ = false

mode_alive : (m : Mode) → is_alive m ≡ (not (is_new m) && not (is_ended m))
mode_alive mode.New = refl
mode_alive mode.Running = refl
mode_alive (mode.AtSafe safe) = refl
mode_alive mode.Ended = refl

running_lives : (m : Mode) → is_running m ≡ true → (is_new m ≡ false) × (is_ended m ≡ false)
running_lives mode.New h = cc
running_lives mode.Running h = (refl, refl)
running_lives (mode.AtSafe safe) h = cc
running_lives mode.Ended h = cc

-- what an entry makes of a thread's life
record IsLived (m n : Mode) (x : Entry) : Type 0 where
  new : is_new n ≡ (is_new m && not (is_start x))
  ended : is_ended n ≡ (is_ended m || is_end x)

life_step : (limits : Limits) (s : HistoryState) (x : Entry) → WaitsWell s → allows limits s x ≡ true → IsLived s.view.mode (next_state s x).view.mode x
life_step limits s Start k h = record { new = grind arith; ended = grind arith }
life_step limits s (Own step) k h = record { new = grind arith; ended = grind arith }
life_step limits s (Hand Native) k h =
    let runs = running_lives s.view.mode (grind arith) in
    let m = (all_quiet (after s.view (Hand Native)) s.waiting k.calls).mode in
    record { new = ap is_new m ∙ grind (arith, runs.0); ended = ap is_ended m ∙ grind (arith, runs.1) }
life_step limits s (Hand (Blocked kind)) k h =
    let runs = running_lives s.view.mode (grind arith) in
    let m = (all_quiet (after s.view (Hand (Blocked kind))) s.waiting k.calls).mode in
    record { new = ap is_new m ∙ grind (arith, runs.0); ended = ap is_ended m ∙ grind (arith, runs.1) }
life_step limits s (Hand AtPoll) k h =
    let runs = running_lives s.view.mode (grind arith) in
    let m = (all_quiet (after s.view (Hand AtPoll)) s.waiting k.calls).mode in
    record { new = ap is_new m ∙ grind (arith, runs.0); ended = ap is_ended m ∙ grind (arith, runs.1) }
life_step limits s Back k h = record { new = grind arith; ended = grind arith }
life_step limits s End k h =
    let runs = running_lives s.view.mode (grind arith) in
    let m = (all_quiet (after s.view End) s.waiting k.calls).mode in
    record { new = ap is_new m ∙ grind (arith, runs.0); ended = ap is_ended m ∙ grind (arith, runs.1) }
life_step limits s (Asked env number call) k h = record { new = grind (arith, called_keeps s.view env call); ended = grind (arith, called_keeps s.view env call) }
life_step limits s (Stop env) k h = record { new = grind arith; ended = grind arith }
life_step limits s (Read env n) k h = record { new = grind arith; ended = grind arith }
life_step limits s (Go env) k h = record { new = grind arith; ended = grind arith }

new_run : (limits : Limits) (s : HistoryState) (history : List Entry) → WaitsWell s → allows_all limits s history ≡ true
    → is_new (fold next_state s history).view.mode ≡ (is_new s.view.mode && not (list_any is_start history))
new_run limits s [] k h = grind arith
new_run limits s (x ∷ history) k h =
    let here : allows limits s x ≡ true = grind arith in
    let there : allows_all limits (next_state s x) history ≡ true = grind arith in
    let one = life_step limits s x k here in
    grind (arith, one.new, new_run limits (next_state s x) history (waits_step limits s x k here) there)

ended_run : (limits : Limits) (s : HistoryState) (history : List Entry) → WaitsWell s → allows_all limits s history ≡ true
    → is_ended (fold next_state s history).view.mode ≡ (is_ended s.view.mode || list_any is_end history)
ended_run limits s [] k h = grind arith
ended_run limits s (x ∷ history) k h =
    let here : allows limits s x ≡ true = grind arith in
    let there : allows_all limits (next_state s x) history ≡ true = grind arith in
    let one = life_step limits s x k here in
    grind (arith, one.ended, ended_run limits (next_state s x) history (waits_step limits s x k here) there)

-- a thread is alive where its history has a start and no end
pub alive_is : (limits : Limits) (history : List Entry) → is_legal limits history ≡ true → is_alive (view limits history).mode ≡ has_life history
alive_is limits history h =
    let s = history_state limits [] in
    let k : WaitsWell s = record { calls = refl; runs = λ w. absurd (omega arith) } in
    let a : allows_all limits s history ≡ true = sym (goes_on-allows limits [] history) ∙ h in
    let e : (view limits history).mode ≡ (fold next_state s history).view.mode = ap (λ (z : HistoryState). z.view.mode) (history_state-append limits [] history) in
    ap is_alive e ∙ mode_alive (fold next_state s history).view.mode
    ∙ grind (arith, new_run limits s history k a, ended_run limits s history k a)
