use Rattle.std.proofs.Common.{rules, ◌∙◌}
use Rattle.ti_debugger.proofs.TellLaws.{told_on}
use Rattle.ti_debugger.proofs.halting.tend_stops.Goals as goal

pub loop-index-preserved : goal.loop-index-preserved
loop-index-preserved c = record {
  told = λ log n. told_on log n n n _ _ _ (c.loop-index.invariant.told log n) (c.tell_stop.ensures.told log n);
  rest = search rules;
  asked = search rules;
  objects = search rules;
  due = c.tell_stop.ensures.due ∙ c.loop-index.invariant.due;
}
