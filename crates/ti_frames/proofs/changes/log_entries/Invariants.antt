use Rattle.std.proofs.Common.{◌≡◌, ◌-◌, ◌++◌, drop, length}
use Rattle.ti_frames.specs.Changes.{entries}
use Rattle.ti_frames.specs.Log.{with_steps}
use Rattle.ti_frames.proofs.changes.log_entries.Given as goal

abbrev pub invariant-loop-i : goal.invariant-loop-i
invariant-loop-i l = l.log ≡ with_steps l.initial.log (l.initial.log.steps ++ entries (drop (length l.newest - l.i) l.newest))
