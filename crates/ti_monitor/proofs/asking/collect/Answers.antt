use Rattle.std.proofs.Common.{◌∙◌, inl, inr, refl}
use Rattle.ti_monitor.proofs.asking.collect.Goals as goal

pub returns-in-NotYet-clause-tells : goal.returns-in-NotYet-clause-tells
returns-in-NotYet-clause-tells c = inl refl

pub returns-in_default : goal.returns-in_default
returns-in_default c = record {
  tells = inr (c.collect_stack.new.agent, c.collect_stack.new.watched, c.collect_stack.result, c.collect_stack.ensures.collects, c.see_after.ensures.sees);
  thread = c.see_after.ensures.thread ∙ c.collect_stack.ensures.thread;
}
