use Rattle.std.proofs.Common.{rules, ◌∙◌}
use Rattle.ti_debugger.proofs.TellLaws.{told_on, told_more}
use Rattle.ti_debugger.proofs.telling.tell_classes.Goals as goal

pub returns-then-not-tell_class-clause-told : goal.returns-then-not-tell_class-clause-told
returns-then-not-tell_class-clause-told c = told_on _ _ _ _ _ _ _ (told_more _ _ _ _ _ _ c.tell_class.ensures.known c.loop.invariant.told) c.tell_class.ensures.told

pub loop-preserved : goal.loop-preserved
loop-preserved c = record {
  told = told_on _ _ _ _ _ _ _ (told_more _ _ _ _ _ _ c.tell_class.ensures.known c.loop.invariant.told) c.tell_class.ensures.told;
  resumptions = search rules;
  about = search rules;
  starts = search rules;
  tells = search rules;
  asked = search rules;
  objects = search rules;
  due = c.tell_class.ensures.due ∙ c.loop.invariant.due;
}
