use Rattle.std.specs.Prelude.{◌≡◌, drop}
use Rattle.ti_debugger.specs.VariableReplies.{value_at}
use Rattle.ti_debugger.proofs.variable_answers.value_at.Given as goal

abbrev pub invariant-loop-row : goal.invariant-loop-row
invariant-loop-row l = value_at (drop l.row-index l.rows) l.slot ≡ value_at l.rows l.slot
