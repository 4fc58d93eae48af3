use Rattle.std.proofs.Common.{refl, arith, [], ◌∷◌}
use Rattle.ti_types.specs.declared.entry.Entry.TheVariants.{Go}
use Rattle.ti_vmop.proofs.AtOne.{finds, go_holds}
use Rattle.ti_vmop.proofs.Each.{adds}
use Rattle.ti_vmop.proofs.one_thread_tries.go_one_now.Goals as goal

pub returns-clause-gone : goal.returns-clause-gone
returns-clause-gone c =
    let f = c.facts.ensures in
    let k = c.in_ok-_answer.ensures.hold in
    adds c.args.desk.now _ (Go c.args.desk.now.env ∷ []) c.go_now.ensures.same
    (go_holds c.args.desk.now _ _ _ refl (finds c.args.desk.now _ (Go c.args.desk.now.env) _ (omega arith) f.number f.mine k.waits c.requires.stands) k.waits)
