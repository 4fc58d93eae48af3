use Rattle.std.specs.Prelude.{◌≡◌, map, take}
use Rattle.ti_debugger.proofs.VariableLaws.{named_row, row_of}
use Rattle.ti_debugger.proofs.variable_answers.body_of.Given as goal

abbrev pub invariant-loop-named : goal.invariant-loop-named
invariant-loop-named l = map row_of l.rows.items ≡ map named_row (take l.named-index l.variables)
