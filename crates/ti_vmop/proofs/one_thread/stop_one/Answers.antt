use Rattle.ti_vmop.proofs.AtOne.{stopped}
use Rattle.ti_vmop.proofs.one_thread.stop_one.Goals as goal

pub returns-clause-hold : goal.returns-clause-hold
returns-clause-hold g c =
    stopped c.args.desk.now _ c.facts.ensures.number c.stop-answer.ensures.hold c.stop-answer.ensures.waited c.requires.free
