use Rattle.std.proofs.Common.{refl, rules}
use Rattle.ti_jdwp.specs.SessionRuns.{Settled}
use Rattle.ti_debugger.specs.Suspending.{CallsThreads}
use Rattle.ti_debugger.proofs.seat.Seat.give_settled.Goals as goal

pub returns-clause-gave : goal.returns-clause-gave
returns-clause-gave c =
    let calls : CallsThreads c.args.desk.now c.settle_all.new.self = record { rest = c.settle_all.ensures.rest; home = c.settle_all.ensures.home; grows = c.settle_all.ensures.grows } in
    (Settled, c.in_ok-settled.ensures.ok, (refl, search rules, (c.settle_all.ensures.settled, calls)))
