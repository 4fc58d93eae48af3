use Rattle.std.proofs.Common.{refl, rules}
use Rattle.ti_jdwp.specs.SessionRuns.{Listed}
use Rattle.ti_debugger.proofs.seat.Seat.give_list.Goals as goal

pub returns-clause-gave : goal.returns-clause-gave
returns-clause-gave c = λ now. (Listed c.as_slice.result.now, c.in_ok-threads.ensures.ok, (refl, search rules, refl))
