use Rattle.std.proofs.Common.{◌≡◌, ◌≤◌, true, length, map, take}
use Rattle.std.specs.Prelude.{vec_capacity}
use Rattle.ti_capi.specs.Values.{are_frames, frame_of}
use Rattle.ti_capi.proofs.thread_frames.read_frames.Given as goal

abbrev pub invariant-loop-i : goal.invariant-loop-i
invariant-loop-i l = (l.into.items ≡ map frame_of (take l.i l.frames)) × (are_frames (take l.i l.frames) ≡ true) × (length l.frames ≤ vec_capacity l.into)
