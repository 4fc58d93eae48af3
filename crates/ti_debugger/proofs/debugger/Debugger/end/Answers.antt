use Rattle.std.proofs.Common.{refl, rules}
use Rattle.ti_debugger.proofs.debugger.Debugger.end.Goals as goal

pub returns-clause-ended : goal.returns-clause-ended
returns-clause-ended c = (c.in-Some.seat.session, c.end.new.self, search rules, refl, c.end.ensures)
