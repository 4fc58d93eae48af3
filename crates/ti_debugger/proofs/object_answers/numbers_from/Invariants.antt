use Rattle.std.specs.Prelude.{◌≡◌, ◌+◌, ◌-◌, ◌++◌}
use Rattle.ti_debugger.specs.VariableReplies.{numbers_from}
use Rattle.ti_debugger.proofs.object_answers.numbers_from.Given as goal

abbrev pub invariant-loop-more : goal.invariant-loop-more
invariant-loop-more l = l.numbers.items ++ numbers_from (l.first + l.more) (l.count - l.more) ≡ numbers_from l.first l.count
