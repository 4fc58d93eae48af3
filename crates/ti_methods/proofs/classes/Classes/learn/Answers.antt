use Rattle.std.proofs.Common.{subst}
use mathlib.Core.List.{IsPrefix}
use Rattle.ti_methods.specs.Classes.{Known}
use Rattle.ti_methods.proofs.Lists.{alike}
use Rattle.ti_methods.proofs.classes.Classes.learn.Goals as goal

pub returns-clause-alike : goal.returns-clause-alike
returns-clause-alike c =
    let all = c.learn.new.self.log in
    let mine = subst (λ (k : Known). IsPrefix k.seen all) c.self.view_is c.learn.ensures.2 in
    let others = subst (λ (k : Known). IsPrefix k.seen all) c.other.view_is c.learn.ensures.3 in
    alike c.args.self.now.seen c.args.other.now.seen all mine others
