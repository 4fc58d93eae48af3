use Rattle.std.specs.Prelude.{◌≤◌, ◌-◌, length}
use Rattle.ti_debugger.proofs.crowd.Crowd.place_of.Given as goal

abbrev pub invariant-loop-low : goal.invariant-loop-low
invariant-loop-low l = l.high ≤ length l.self.list.items

abbrev pub decreases-loop-low : goal.decreases-loop-low
decreases-loop-low l = l.high - l.low
