use Rattle.std.proofs.Common.{rules}
use Rattle.ti_monitor.proofs.door_desk.Desk.take.Goals as goal

pub returns-in_ok-body_of-in-Ok-Some-clause-body : goal.returns-in_ok-body_of-in-Ok-Some-clause-body
returns-in_ok-body_of-in-Ok-Some-clause-body c = (c.in-Ok-Some.read, search rules, search rules, search rules)
