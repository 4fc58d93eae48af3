use Rattle.std.proofs.Common.{refl, [], ◌∷◌}
use Rattle.ti_types.specs.declared.entry.Entry.TheVariants.{Go}
use Rattle.ti_vmop.proofs.AtOne.{let_go_again}
use Rattle.ti_vmop.proofs.Each.{adds}
use Rattle.ti_vmop.proofs.one_thread_tries.go_again_now.Goals as goal

pub returns-clause-gone : goal.returns-clause-gone
returns-clause-gone c =
    let k = c.in_ok-_answer.ensures.hold in
    adds c.args.desk.now _ (Go c.args.desk.now.env ∷ []) c.go_now.ensures.same (let_go_again c.args.desk.now c.go_now.new.self.view _ c.facts.ensures.number c.requires.stopped refl k.waits)
