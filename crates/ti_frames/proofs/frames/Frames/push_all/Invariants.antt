use Rattle.std.proofs.Common.{◌≡◌, ◌-◌, ◌++◌, drop, length}
use Rattle.ti_frames.specs.Frames.{with_frames}
use Rattle.ti_frames.proofs.frames.Frames.push_all.Given as goal

abbrev pub invariant-loop-i : goal.invariant-loop-i
invariant-loop-i l = l.self ≡ with_frames l.initial.self (drop (length l.newest - l.i) l.newest ++ l.initial.self.frames)
