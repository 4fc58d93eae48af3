use Rattle.std.proofs.Common.{rules, ◌≡◌, ◌+◌, length, take, List, sym, subst}
use Rattle.ti_methods.specs.declared.info.MethodInfo.{MethodInfo}
use Rattle.ti_capi.specs.Defining.{AreMethods}
use Rattle.ti_capi.proofs.ClassParts.{one_more}
use Rattle.ti_capi.proofs.class_parts.methods_of.Goals as goal

pub loop-i-preserved : goal.loop-i-preserved
loop-i-preserved c =
    let here = c.loop-i-test.true in
    let pushed = c.push_reserved.ensures in
    let are = one_more c.args.text.now c.args.lines.now c.args.methods.now c.loop-i.i _ c.loop-i.infos.items c.in_ok-method_of.field-0 here c.loop-i.invariant.0 c.in_ok-method_of.ensures.same in
    let long : length c.push_reserved.new.self.items ≡ c.loop-i.i + 1 = search rules in
    (subst (λ (l : List MethodInfo). AreMethods c.args.text.now c.args.lines.now (take (c.loop-i.i + 1) c.args.methods.now) l) (sym pushed.items) are, long, search rules)
