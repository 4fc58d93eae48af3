use Rattle.std.proofs.Common.{true, false}
use Rattle.std.proofs.lemmas.Bool.{eq-eqb, ne_eqb}
use Rattle.ti_debugger.proofs.VariableLaws.{value_found, value_not}
use Rattle.ti_debugger.proofs.variable_answers.value_at.Goals as goal

pub returns-then-row-slot : goal.returns-then-row-slot
returns-then-row-slot c = value_found c.args.rows.now c.loop-row.row-index _ c.args.slot true _ c.loop-row-test.true (eq-eqb _ _ c.if-row-slot.true) c.loop-row.invariant

pub loop-row-preserved : goal.loop-row-preserved
loop-row-preserved c = value_found c.args.rows.now c.loop-row.row-index _ c.args.slot false _ c.loop-row-test.true (ne_eqb _ _ c.if-row-slot.false) c.loop-row.invariant

pub returns : goal.returns
returns c = value_not c.args.rows.now c.loop-row.row-index c.args.slot _ c.loop-row-test.false c.loop-row.invariant
