use Rattle.std.proofs.Common.{rules, ◌∙◌}
use Rattle.ti_debugger.proofs.TellLaws.{told_on}
use Rattle.ti_debugger.proofs.telling.tell_lives.Goals as goal

pub loop-preserved : goal.loop-preserved
loop-preserved c = record {
  told = λ log n. told_on log n n n _ _ _ (c.loop.invariant.told log n) (c.tell_life.ensures.told log n);
  rest = search rules;
  due = c.tell_life.ensures.due ∙ c.loop.invariant.due;
}
