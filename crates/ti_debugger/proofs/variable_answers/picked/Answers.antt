use Rattle.std.proofs.Common.{◌∙◌, ◌∷◌, ◌++◌, [], List, ap, inr, refl, rules}
use Rattle.ti_jdwp.specs.declared.variables.Value.{Value}
use Rattle.ti_debugger.proofs.VariableLaws.{picked_all, picked_more, picked_not}
use Rattle.ti_debugger.proofs.variable_answers.picked.Goals as goal

pub returns-in_default-clause-err : goal.returns-in_default-clause-err
returns-in_default-clause-err c = inr (refl, picked_not c.args.rows.now c.args.slots.now c.loop-slot.slot-index 0 c.loop-slot.values.items _ c.loop-slot-test.true (search rules) c.loop-slot.invariant)

pub loop-slot-preserved : goal.loop-slot-preserved
loop-slot-preserved c =
    let added = c.push_reserved.ensures.items ∙ ap (λ (l : List Value). l ++ c.in-Some.value ∷ []) c.in_ok-reserve.ensures.items in
    picked_more c.args.rows.now c.args.slots.now c.loop-slot.slot-index 0 c.in-Some.value c.loop-slot.values.items c.push_reserved.new.self.items _ c.loop-slot-test.true (search rules) added c.loop-slot.invariant

pub returns-clause-ok : goal.returns-clause-ok
returns-clause-ok c = picked_all c.args.rows.now c.args.slots.now c.loop-slot.slot-index c.loop-slot.values.items _ c.loop-slot-test.false c.loop-slot.invariant
