-- A stack of frames.
use Rattle.std.specs.Prelude.{ℕ, List}
use Rattle.ti_types.specs.declared.place.Frame.{Frame}
pub use Rattle.ti_types.specs.Steps.{frames_after, step_refusal}

-- the frames, newest first, and how many there may be
pub record Stack : Type 0 where
  pub frames : List Frame
  pub depth : ℕ

-- the stack with other frames
abbrev pub with_frames : Stack → List Frame → Stack
with_frames s frames = record { frames = frames; depth = s.depth }
