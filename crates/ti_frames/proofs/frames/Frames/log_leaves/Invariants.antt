use Rattle.std.proofs.Common.{◌≡◌, ◌++◌, take}
use Rattle.ti_frames.specs.Changes.{leaves}
use Rattle.ti_frames.specs.Log.{with_steps}
use Rattle.ti_frames.proofs.frames.Frames.log_leaves.Given as goal

abbrev pub invariant-loop-i : goal.invariant-loop-i
invariant-loop-i l = l.log ≡ with_steps l.initial.log (l.initial.log.steps ++ leaves (take l.i l.self.frames))
