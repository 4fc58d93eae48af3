use Rattle.std.specs.Prelude.{◌≡◌, ◌+◌, ◌-◌, ◌++◌}
use Rattle.ti_debugger.specs.LineReplies.{lines_for}
use Rattle.ti_debugger.proofs.method_answers.lines_from.Given as goal

abbrev pub invariant-loop-more : goal.invariant-loop-more
invariant-loop-more l = l.lines.items ++ lines_for (l.from + l.more) (4096 - l.more) ≡ lines_for l.from 4096
