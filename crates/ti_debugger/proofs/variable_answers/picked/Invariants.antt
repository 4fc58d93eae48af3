use Rattle.std.specs.Prelude.{◌≡◌, ◌++◌, List, drop}
use Rattle.std.specs.Option.{option_map}
use Rattle.ti_jdwp.specs.declared.variables.Value.{Value}
use Rattle.ti_debugger.specs.VariableReplies.{picked}
use Rattle.ti_debugger.proofs.variable_answers.picked.Given as goal

abbrev pub invariant-loop-slot : goal.invariant-loop-slot
invariant-loop-slot l = option_map (λ (more : List Value). l.values.items ++ more) (picked l.rows (drop l.slot-index l.slots)) ≡ picked l.rows l.slots
