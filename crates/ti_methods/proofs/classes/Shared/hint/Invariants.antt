use Rattle.std.proofs.Common.{◌-◌, ◌≤◌}
use Rattle.ti_methods.proofs.classes.Shared.hint.Given as goal

abbrev pub invariant-loop-i : goal.invariant-loop-i
invariant-loop-i l = l.i ≤ l.methods

abbrev pub decreases-loop-i : goal.decreases-loop-i
decreases-loop-i l = l.methods - l.i
