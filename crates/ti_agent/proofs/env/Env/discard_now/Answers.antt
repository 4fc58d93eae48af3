use Rattle.std.proofs.Common.{◌≡◌, ◌≤◌, length, ap, arith}
use Rattle.std.proofs.lemmas.Bool.Decides.{nat_tests}
use Rattle.ti_agent.specs.Deadlines.{former_at}
use Rattle.ti_agent.specs.Env.{place_in}
use Rattle.ti_agent.specs.Home.{Housed}
use Rattle.ti_agent.proofs.Former.{looks_own, nobody_there, tells_own}
use Rattle.ti_agent.proofs.env.Env.discard_now.Goals as goal

pub returns-then-place_of-desk_count-clause-discards : goal.returns-then-place_of-desk_count-clause-discards
returns-then-place_of-desk_count-clause-discards g c =
    let past : length c.args.self.now.env.desks ≤ place_in c.args.self.now.env.desks c.args.thread =
    grind (arith, nat_tests, c.place_of.ensures, c.desk_count.ensures, c.if-place_of-desk_count.true) in
    nobody_there c.args.self.now.env c.args.thread past

pub returns-clause-discards : goal.returns-clause-discards
returns-clause-discards g c =
    let none : former_at c.drop_former_now.new.self.env c.args.thread ≡ 0 = grind (arith, nat_tests, c.has_former.ensures, c.if-has_former.false) in
    let e = c.discard_first_now.ensures in
    looks_own c.args.self.now.env c.drop_former_now.new.self.env c.discard_first_now.new.self.env c.args.thread c.discard_first_now.result c.drop_former_now.ensures.drops none e.discards
    (λ past. (ap (λ (x : Housed _). x.env) (e.nobody past).0, (e.nobody past).1))

pub returns-clause-tells : goal.returns-clause-tells
returns-clause-tells g c =
    let none : former_at c.drop_former_now.new.self.env c.args.thread ≡ 0 = grind (arith, nat_tests, c.has_former.ensures, c.if-has_former.false) in
    tells_own c.args.self.now.env c.drop_former_now.new.self.env c.discard_first_now.new.self.env c.args.thread c.discard_first_now.result c.drop_former_now.ensures.drops none c.discard_first_now.ensures.tells
