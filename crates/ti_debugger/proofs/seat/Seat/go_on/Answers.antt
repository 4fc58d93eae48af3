use Rattle.std.proofs.Common.{subst, sym}
use Rattle.ti_jdwp.specs.Steps.{Goes}
use Rattle.ti_jdwp.specs.Talks.{Talk}
use Rattle.ti_debugger.proofs.ServingLaws.{going_failed, going_went}
use Rattle.ti_debugger.proofs.seat.Seat.go_on.Goals as goal

pub returns-in_err-action-clause-goes : goal.returns-in_err-action-clause-goes
returns-in_err-action-clause-goes c = λ now. going_failed now c.args.self.now.session c.next.new.self c.args.self.now.due c.args.desk.now c.in_err-action.ensures.err

pub returns-clause-goes : goal.returns-clause-goes
returns-clause-goes c = λ now.
    let action = c.in_ok-action.action in
    let goes = subst (λ (t : Talk). Goes c.args.self.now.session action t) (sym c.take_up.ensures.session) c.in_ok-action.ensures.action in
    going_went now c.args.self.now.session c.take_up.new.self.session c.args.self.now.due c.take_up.new.self.due c.args.desk.now c.take_up.new.desk action goes c.requires c.take_up.ensures.due c.take_up.ensures.undertakes
