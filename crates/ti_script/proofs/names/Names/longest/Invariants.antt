use Rattle.ti_script.specs.Bounds.{AreWithinBelow}
use Rattle.ti_script.proofs.names.Names.longest.Given as goal

abbrev pub invariant-loop-at : goal.invariant-loop-at
invariant-loop-at l = AreWithinBelow l.longest l.at l.self
