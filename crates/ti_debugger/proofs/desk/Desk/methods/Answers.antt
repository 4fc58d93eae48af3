use Rattle.std.proofs.Common.{rules, ap, map, ◌∙◌}
use Rattle.ti_jdwp.specs.Bodies.{list}
use Rattle.ti_debugger.specs.MethodReplies.{known_method, method_item}
use Rattle.ti_debugger.proofs.ClassLaws.{prefix_on}
use Rattle.ti_debugger.proofs.MethodLaws.{known_all, known_more}
use Rattle.ti_debugger.proofs.desk.Desk.methods.Goals as goal

pub loop-method-preserved : goal.loop-method-preserved
loop-method-preserved c =
    let pre = prefix_on _ _ _ c.loop-method.invariant.grows c.in_ok-known_method.ensures.grows in
    record {
      rest = search rules;
      grows = pre;
      told = known_more _ _ _ _ _ _ _ _ _ _ _ c.deref-method-items.ensures.value c.in_ok-methods.ensures.told c.loop-method-test.true pre c.in_ok-known_method.ensures.told
          c.push_reserved.ensures.items c.in_ok-reserve.ensures.items c.loop-method.invariant.told;
    }

pub returns-clause-told : goal.returns-clause-told
returns-clause-told c = (
  c.in-Some.class,
  search rules,
  known_all _ _ _ _ _ _ _ _ c.deref-method-items.ensures.value c.in_ok-methods.ensures.told c.loop-method-test.false c.loop-method.invariant.grows c.loop-method.invariant.told
      (c.in_ok-body_of.ensures ∙ ap (λ k. list method_item (map known_method k)) c.as_slice.ensures.value),
)
