use Rattle.std.proofs.Common.{Bool, true, None, Ok, refl, subst, sym}
use Rattle.ti_jdwp.specs.declared.session_error.SessionError.{SessionError}
use Rattle.ti_debugger.specs.declared.asked.Asked.TheVariants.{Nothing}
use Rattle.ti_debugger.specs.Serving.{Comes, Given}
use Rattle.ti_debugger.proofs.ServingLaws.{going_given}
use Rattle.ti_debugger.proofs.seat.Seat.settle.Goals as goal

pub returns-then-given-clause-came : goal.returns-then-given-clause-came
returns-then-given-clause-came c =
    let now = c.args.now in
    let t = c.args.self.now.session in
    let m = c.give.new.self.session in
    let given = λ (b : Bool). Given {E = SessionError} now c.in-Some.due t c.args.desk.now m c.give.new.desk (Ok b) in
    let gave = subst given c.if-given.true c.in_ok-given.ensures.gave in
    let new = record c.give.new.desk { asked = Nothing } in
    let came : Comes {E = SessionError} now t c.args.self.now.due c.args.desk.now m None new (Ok true) = (refl, going_given now c.in-Some.due t m c.args.self.now.due None c.args.desk.now c.give.new.desk new c.in-Some.is refl gave refl) in
    subst (λ (b : Bool). Comes {E = SessionError} now t c.args.self.now.due c.args.desk.now m None new (Ok b)) (sym c.if-given.true) came
