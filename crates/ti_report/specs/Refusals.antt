-- Which operations of a walk are refused, and with which error, as far as the walk itself says. It says the mode in which it
-- left its thread, and what the thread has spent. Which frames the thread has may depend on others too, by pops.
use Rattle.std.specs.Prelude.{ℕ, ◌+◌, Bool, true, false, not, ◌&&◌, ◌||◌, if◌then◌else◌, ◌==◌, nat_le, List, [], ◌∷◌, Option, Some, None, is_none}
use Rattle.ti_types.specs.declared.limits.Limits.{Limits}
use Rattle.ti_types.specs.declared.state.Mode.{Mode}
use Rattle.ti_types.specs.declared.state.Mode.TheVariants as mode
use Rattle.ti_types.specs.declared.state.Safe.TheVariants.{Native, Blocked}
use Rattle.ti_types.specs.declared.step.Step.{Step}
use Rattle.ti_types.specs.declared.step.Step.TheVariants.{Enter, EnterNative, At, Leave}
use Rattle.ti_types.specs.declared.event.Event.{Event}
use Rattle.ti_types.specs.declared.event.Event.TheVariants.{Start, Own, ToNative, ToBlocked, Back, End}
use Rattle.ti_types.specs.declared.error.TiError.{TiError}
use Rattle.ti_types.specs.declared.error.TiError.TheVariants.{NotNew, NotSafe, NotRunning}
use Rattle.ti_types.specs.Refusing.{unless}
use Rattle.ti_types.specs.TiError.{number_of}
use Rattle.ti_replay.specs.Answers.{is_new, is_safe, is_running}
use Rattle.ti_live.specs.declared.report.Refusal.{Refusal}

-- why an operation does not fit the thread's mode; a start and a return wait while they are barred
abbrev pub mode_refusal : Mode → Event → Option TiError
mode_refusal m (Start t) = unless (is_new m) NotNew
mode_refusal m (Back t) = unless (is_safe m) NotSafe
mode_refusal m _ = unless (is_running m) NotRunning

-- what an operation costs if it is made
abbrev pub cost_of : Event → ℕ
cost_of (Own t step) = 1
cost_of (ToNative t) = 2
cost_of (ToBlocked t kind) = 2
cost_of _ = 0

-- the errors with which the thread's frames may refuse a step
abbrev pub is_step_error : Step → ℕ → Bool
is_step_error (Enter method) n = n == 201
is_step_error (EnterNative method) n = n == 201
is_step_error (At position) n = n == 202 || n == 203
is_step_error Leave n = n == 202

abbrev pub is_frame_error : Event → ℕ → Bool
is_frame_error (Own t step) n = is_step_error step n
is_frame_error (ToNative t) n = n == 207
is_frame_error _ n = false

-- the thread's mode after an operation that was made; a thread that was held at a poll has returned
abbrev pub has_made : Mode → Event → Mode
has_made m (Start t) = mode.Running
has_made m (ToNative t) = mode.AtSafe Native
has_made m (ToBlocked t kind) = mode.AtSafe (Blocked kind)
has_made m (Back t) = mode.Running
has_made m (End t) = mode.Ended
has_made m _ = m

-- Whether the thread may refuse an operation with the error of this number. If the thread's mode has an error for it, that
-- is the one. Otherwise its frames may refuse it, or its budget if that cannot pay
abbrev pub is_refused_by : Limits → (own : ℕ) → Option TiError → Event → ℕ → Bool
is_refused_by limits own (Some error) event n = n == number_of error
is_refused_by limits own None event n = is_frame_error event n || (n == 208 && not (nat_le (own + cost_of event) limits.own))

-- whether an operation may have been refused with the error of this number, or made if there is none
abbrev pub is_so : Limits → Mode → (own : ℕ) → Event → Option ℕ → Bool
is_so limits m own event (Some n) = is_refused_by limits own (mode_refusal m event) event n
is_so limits m own event None = is_none (mode_refusal m event) && nat_le (own + cost_of event) limits.own

abbrev pub mode_behind : Mode → Event → Option ℕ → Mode
mode_behind m event (Some n) = m
mode_behind m event None = has_made m event

abbrev pub own_behind : ℕ → Event → Option ℕ → ℕ
own_behind own event (Some n) = own
own_behind own event None = own + cost_of event

-- the error of the first refusal, if that is of the operation of this number
abbrev pub error_of : ℕ → List Refusal → Option ℕ
error_of number [] = None
error_of number (r ∷ rs) = if r.operation == number then Some r.error else None

-- the refusals after that one
abbrev pub refusals_behind : ℕ → List Refusal → List Refusal
refusals_behind number [] = []
refusals_behind number (r ∷ rs) = if r.operation == number then rs else r ∷ rs

abbrev pub are_none : List Refusal → Bool
are_none [] = true
are_none (r ∷ rs) = false

-- whether these are just the refusals of these operations, each once and in order; the operations are numbered from this one
-- on
abbrev pub refusals_from : Limits → Mode → (own : ℕ) → (number : ℕ) → List Event → List Refusal → Bool
refusals_from limits m own number [] refused = are_none refused
refusals_from limits m own number (x ∷ xs) refused =
    is_so limits m own x (error_of number refused)
    && refusals_from limits (mode_behind m x (error_of number refused)) (own_behind own x (error_of number refused)) (number + 1) xs (refusals_behind number refused)
