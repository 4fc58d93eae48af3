-- What a thread's own step makes of its frames, and why one is refused. The frames are listed newest first.
use Rattle.std.specs.Prelude.{ℕ, Bool, true, false, if◌then◌else◌, nat_lt, List, [], ◌∷◌, length, Option, Some, None}
use Rattle.ti_types.specs.declared.error.TiError.{TiError}
use Rattle.ti_types.specs.declared.error.TiError.TheVariants.{Overflow, NoFrame, NotJavaFrame}
use Rattle.ti_types.specs.declared.place.Frame.{Frame}
use Rattle.ti_types.specs.declared.place.Place.{Place}
use Rattle.ti_types.specs.declared.place.Place.TheVariants as place
use Rattle.ti_types.specs.declared.step.Step.{Step}
use Rattle.ti_types.specs.declared.step.Step.TheVariants.{Enter, EnterNative, At, Leave}

abbrev pub is_native : Place → Bool
is_native place.Native = true
is_native (place.Java position) = false

abbrev pub newest_is_native : List Frame → Bool
newest_is_native [] = false
newest_is_native (frame ∷ frames) = is_native frame.place

-- the frames after a step
abbrev pub frames_after : List Frame → Step → List Frame
frames_after frames (Enter method) = record { method = method; place = place.Java 0 } ∷ frames
frames_after frames (EnterNative method) = record { method = method; place = place.Native } ∷ frames
frames_after (frame ∷ frames) (At position) = record { method = frame.method; place = place.Java position } ∷ frames
frames_after [] (At position) = []
frames_after (frame ∷ frames) Leave = frames
frames_after [] Leave = []

-- why frames refuse a step, when there may be this many of them
abbrev pub step_refusal : (depth : ℕ) → List Frame → Step → Option TiError
step_refusal depth frames (Enter method) = if nat_lt (length frames) depth then None else Some Overflow
step_refusal depth frames (EnterNative method) = if nat_lt (length frames) depth then None else Some Overflow
step_refusal depth (frame ∷ frames) (At position) = if is_native frame.place then Some NotJavaFrame else None
step_refusal depth [] (At position) = Some NoFrame
step_refusal depth (frame ∷ frames) Leave = None
step_refusal depth [] Leave = Some NoFrame
