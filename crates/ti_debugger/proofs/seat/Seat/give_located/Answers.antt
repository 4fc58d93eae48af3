use Rattle.std.proofs.Common.{refl, rules}
use Rattle.ti_jdwp.specs.SessionRuns.{LocatedAs}
use Rattle.ti_debugger.proofs.seat.Seat.give_located.Goals as goal

pub returns-in_ok-located-in-Ok-clause-gave : goal.returns-in_ok-located-in-Ok-clause-gave
returns-in_ok-located-in-Ok-clause-gave c = λ now. (LocatedAs _, c.in_ok-located-in-Ok.ensures.ok, (c.args.thread, refl, c.in-Ok.ensures.told, search rules))

pub returns-in_ok-located-in-Err-Error-clause-gave : goal.returns-in_ok-located-in-Err-Error-clause-gave
returns-in_ok-located-in-Err-Error-clause-gave c = λ now. (LocatedAs _, c.in_ok-located-in-Err-Error.ensures.ok, (c.args.thread, refl, tt, search rules))
