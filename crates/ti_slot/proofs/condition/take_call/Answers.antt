use Rattle.ti_slot.proofs.condition.take_call.Goals as goal

pub returns-in-Pop-clause-view : goal.returns-in-Pop-clause-view
returns-in-Pop-clause-view c = rw c.in-Pop.is (c.pop.ensures.view c.args.env)
