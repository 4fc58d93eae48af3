use Rattle.std.proofs.Common.{◌-◌, ◌≤◌, length}
use Rattle.ti_debugger.proofs.objects.Objects.place_of.Given as goal

abbrev pub invariant-loop-low : goal.invariant-loop-low
invariant-loop-low l = l.high ≤ length l.self.list.items

abbrev pub decreases-loop-low : goal.decreases-loop-low
decreases-loop-low l = l.high - l.low
