use Rattle.ti_core.specs.Refines.{AreNew}
use Rattle.ti_core.proofs.engine.new_threads.Given as goal

abbrev pub invariant-loop-number : goal.invariant-loop-number
invariant-loop-number l = AreNew l.limits l.number l.threads.items
