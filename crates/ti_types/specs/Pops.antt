-- Why the newest frame of a thread that is alive may not be popped. The frames are listed newest first.
use Rattle.std.specs.Prelude.{Bool, ◌||◌, not, List, Option, Some, slice_get}
use Rattle.ti_types.specs.declared.error.TiError.{TiError}
use Rattle.ti_types.specs.declared.error.TiError.TheVariants.{ThreadNotSuspended, NoMoreFrames, OpaqueFrame}
use Rattle.ti_types.specs.declared.place.Frame.{Frame}
use Rattle.ti_types.specs.Refusing.{or_else, unless}
use Rattle.ti_types.specs.Steps.{is_native}

-- of the newest frame and its caller: both are there, and neither is native
abbrev pub pair_refusal : (newest caller : Option Frame) → Option TiError
pair_refusal (Some newest) (Some caller) = unless (not (is_native newest.place || is_native caller.place)) OpaqueFrame
pair_refusal _ _ = Some NoMoreFrames

-- of a thread, suspended or not, with this newest frame and its caller
abbrev pub popping_refusal : (suspended : Bool) → (newest caller : Option Frame) → Option TiError
popping_refusal suspended newest caller = or_else (unless suspended ThreadNotSuspended) (pair_refusal newest caller)

-- of a thread with these frames
abbrev pub pop_refusal : (suspended : Bool) → List Frame → Option TiError
pop_refusal suspended frames = popping_refusal suspended (slice_get frames 0) (slice_get frames 1)
