use Rattle.std.specs.Prelude.{take}
use Rattle.ti_debugger.specs.Placing.{IsEntryAt}
use Rattle.ti_debugger.proofs.nearest.entry_at.Given as goal

abbrev pub invariant-loop-entry : goal.invariant-loop-entry
invariant-loop-entry l = IsEntryAt (take l.entry-index l.entries) l.index l.found
