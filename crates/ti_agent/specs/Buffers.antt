-- The buffers that an environment makes for frames.
use Rattle.std.specs.Prelude.{ℤ, ◌≡◌, List, [], min}
use Rattle.std.specs.List.{All}
use Rattle.ti_types.specs.declared.call.Call.{Call}
use Rattle.ti_types.specs.declared.call.Call.TheVariants.{Trace}
use Rattle.ti_types.specs.declared.limits.Limits.{Limits}
use Rattle.ti_types.specs.Frames as buffer
use Rattle.ti_types.specs.Numbers.{or_zero}

-- an empty buffer with just the room for the frames that are asked for, at most as many as the depth
abbrev pub HasJustRoomFor : Limits → ℤ → buffer.Trace → Type 0
HasJustRoomFor limits max_count b = (b.frames ≡ []) × (b.room ≡ min (or_zero max_count) limits.depth)

-- the buffer of a call: a trace takes such a buffer, and other calls take none
abbrev pub IsJustBufferOf : Limits → Call → buffer.Trace → Type 0
IsJustBufferOf limits (Trace start max_count) b = HasJustRoomFor limits max_count b
IsJustBufferOf limits _ b = (b.frames ≡ []) × (b.room ≡ 0)

-- such a buffer for each trace
abbrev pub AreRoomy : Limits → ℤ → List buffer.Trace → Type 0
AreRoomy limits max_count bufs = All (HasJustRoomFor limits max_count) bufs
