use Rattle.std.proofs.Common.{◌<◌, List, length, subst, arith}
use mathlib.Core.List.{IsPrefix}
use Rattle.ti_methods.specs.Classes.{Known}
use Rattle.ti_methods.specs.declared.info.ClassInfo.{ClassInfo}
use Rattle.ti_methods.proofs.Lists.{get_within, prefix_length, prefix_trans}
use Rattle.ti_methods.proofs.classes.Classes.look_for.Goals as goal

pub returns-clause-grows : goal.returns-clause-grows
returns-clause-grows c =
    let mid : List ClassInfo = c.find.new.seen.log in
    let new : List ClassInfo = c.load-count.new.seen.log in
    subst (λ (k : Known). IsPrefix k.seen new) c.self.view_is (prefix_trans c.self.inside.seen.log mid new c.find.ensures.grows c.load-count.ensures.grows)

pub returns-clause-there : goal.returns-clause-there
returns-clause-there c =
    let mid : List ClassInfo = c.find.new.seen.log in
    let within : c.args.class.0 < length mid = get_within mid c.args.class.0 _ c.in_ok-find.ensures.found.at in
    omega (arith, within, prefix_length mid c.load-count.new.seen.log c.load-count.ensures.grows)
