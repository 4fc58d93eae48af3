use Rattle.std.proofs.Common.{Option, refl, subst}
use Rattle.ti_jdwp.specs.SessionRuns.{PostedAs}
use Rattle.ti_jdwp.specs.declared.actions.Posted.{Posted}
use Rattle.ti_debugger.specs.Suspending.{Suspends}
use Rattle.ti_debugger.proofs.seat.Seat.give_posted.Goals as goal

pub returns-in_ok-suspended-in-Some-clause-gave : goal.returns-in_ok-suspended-in-Some-clause-gave
returns-in_ok-suspended-in-Some-clause-gave c =
    let suspends = subst (λ (o : Option Posted). Suspends c.args.thread o c.args.desk.now c.suspend.new.self) c.in-Some.is c.suspend.ensures.suspends in
    (PostedAs c.in-Some.posted, c.in_ok-suspended-in-Some.ensures.ok, (c.args.thread, refl, (suspends, c.suspend.ensures.home, c.suspend.ensures.rest)))
