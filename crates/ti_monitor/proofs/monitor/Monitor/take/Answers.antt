use Rattle.ti_monitor.proofs.monitor.Monitor.take.Goals as goal

pub returns-clause-left : goal.returns-clause-left
returns-clause-left c = (c.in-Some.place, c.in-Some.ensures.found, c.remove.ensures.items)
