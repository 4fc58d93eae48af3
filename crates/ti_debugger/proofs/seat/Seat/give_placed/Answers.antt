use Rattle.std.proofs.Common.{refl, rules, subst}
use Rattle.ti_jdwp.specs.SessionRuns.{PlacedAs}
use Rattle.ti_debugger.specs.declared.refusal.Refusal.{Refusal}
use Rattle.ti_debugger.specs.Placing.{IsNotSet}
use Rattle.ti_debugger.proofs.seat.Seat.give_placed.Goals as goal

pub returns-in_ok-placed-in-Ok-clause-gave : goal.returns-in_ok-placed-in-Ok-clause-gave
returns-in_ok-placed-in-Ok-clause-gave c = λ now. (PlacedAs _, c.in_ok-placed-in-Ok.ensures.ok, (c.args.spot, refl, c.in-Ok.ensures.set, search rules))

pub returns-in_ok-placed-in-Err-Error-clause-gave : goal.returns-in_ok-placed-in-Err-Error-clause-gave
returns-in_ok-placed-in-Err-Error-clause-gave c =
    let why = subst (λ (r : Refusal). IsNotSet c.args.spot c.args.desk.now.agent c.place.new.self.agent r) c.in-Err-Error.field-0-is c.in-Err-Error.ensures.refused in
    λ now. (PlacedAs _, c.in_ok-placed-in-Err-Error.ensures.ok, (c.args.spot, refl, why, search rules))
