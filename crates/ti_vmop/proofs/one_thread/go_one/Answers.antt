use Rattle.std.proofs.Common.{refl, arith}
use Rattle.ti_types.specs.declared.entry.Entry.TheVariants.{Go}
use Rattle.ti_vmop.proofs.AtOne.{finds, go_holds}
use Rattle.ti_vmop.proofs.one_thread.go_one.Goals as goal

pub returns-clause-hold : goal.returns-clause-hold
returns-clause-hold g c =
    let f = c.facts.ensures in
    let k = c.go-answer.ensures.hold in
    record { waits = go_holds c.args.desk.now _ _ _ refl (finds c.args.desk.now _ (Go c.args.desk.now.env) _ (omega arith) f.number f.mine k.waits c.requires.stands) k.waits; looked = k.looked; once = k.once }
