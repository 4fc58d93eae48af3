use Rattle.std.proofs.Common.{inr}
use Rattle.ti_monitor.proofs.monitor.Monitor.forget.Goals as goal

pub returns-in-Some-clause-left : goal.returns-in-Some-clause-left
returns-in-Some-clause-left c = inr (c.in-Some.place, c.in-Some.ensures.found, c.remove.ensures.items)
