use Rattle.std.specs.Prelude.{◌≡◌, map, take}
use Rattle.ti_debugger.specs.LineReplies.{row_of}
use Rattle.ti_debugger.proofs.method_answers.rows_of.Given as goal

abbrev pub invariant-loop-entry : goal.invariant-loop-entry
invariant-loop-entry l = l.rows.items ≡ map row_of (take l.entry-index l.entries)
