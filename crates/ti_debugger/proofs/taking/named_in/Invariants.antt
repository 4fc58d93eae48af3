use Rattle.std.specs.Prelude.{◌≡◌, ◌++◌, List, drop}
use Rattle.std.specs.Option.{option_map}
use Rattle.ti_debugger.specs.declared.asked.Named.{Named}
use Rattle.ti_debugger.specs.Questions.{named_in}
use Rattle.ti_debugger.proofs.taking.named_in.Given as goal

abbrev pub invariant-loop-variable : goal.invariant-loop-variable
invariant-loop-variable l = option_map (λ (more : List Named). l.all.items ++ more) (named_in (drop l.variable-index l.variables) l.rest) ≡ named_in l.variables l.names
