use Rattle.std.proofs.Common.{rules, refl}
use Rattle.ti_service.specs.Classes.{classes_of}
use Rattle.ti_debugger.proofs.ClassLaws.{known_more, listed_all, prefix_on}
use Rattle.ti_debugger.proofs.desk.Desk.all_classes.Goals as goal

pub loop-class-preserved : goal.loop-class-preserved
loop-class-preserved c =
    let pre = prefix_on _ _ _ c.loop-class.invariant.grows c.get_class_signature.ensures.rest.grows in
    record {
      rest = search rules;
      grows = pre;
      told = known_more _ _ _ _ _ _ _ _ _ _ c.deref-class-items.ensures.value c.in_ok-classes.ensures.told c.loop-class-test.true pre c.in_ok-signature.ensures.told refl
          c.push_reserved.ensures.items c.in_ok-reserve.ensures.items c.loop-class.invariant.told;
    }

pub returns-clause-told : goal.returns-clause-told
returns-clause-told c = (
  classes_of c.get_loaded_classes.new.self,
  c.get_loaded_classes.ensures.rest.grows,
  c.loop-class.invariant.grows,
  listed_all _ _ _ _ _ c.deref-class-items.ensures.value c.in_ok-classes.ensures.told c.loop-class-test.false c.loop-class.invariant.told,
)
