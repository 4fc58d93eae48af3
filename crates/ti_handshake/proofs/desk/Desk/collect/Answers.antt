use Rattle.std.proofs.Common.{◌≡◌, ◌&&◌, not, Some, true, ◌∙◌, ap, subst}
use Rattle.ti_types.specs.Answer.{said}
use Rattle.ti_types.specs.declared.limits.Limits.{Limits}
use Rattle.ti_replay.specs.Tickets.{reply_to}
use Rattle.ti_slot.specs.Tickets.{has}
use Rattle.ti_handshake.specs.Desk.{ReplyAtPlace, is_out}
use Rattle.ti_handshake.proofs.Desks.{told_out}
use Rattle.ti_handshake.proofs.desk.Desk.collect.Goals as goal

pub returns-in-Some-try_collect-clause-answer : goal.returns-in-Some-try_collect-clause-answer
returns-in-Some-try_collect-clause-answer g c =
    let out : is_out c.loop.self c.args.ticket ≡ true = (λ i. has c.args.ticket (c.loop.invariant.1.posted i) && not (has c.args.ticket (c.loop.invariant.0.cancelled i))) ∙ c.requires.out in
    let limits : c.loop.self.view.subject.limits ≡ c.args.self.now.view.subject.limits = ap (λ x. x.limits) c.loop.invariant.1.goes.subject in
    let told = told_out c.args.ticket _ (reply_to c.loop.self.view.subject.limits c.try_collect.new.self.view.seen c.args.ticket) (said c.in-Some-try_collect.answer) out c.in-Some-try_collect.ensures.answer in
    subst (λ (l : Limits). reply_to l c.try_collect.new.self.view.seen c.args.ticket ≡ Some (said c.in-Some-try_collect.answer)) limits told

pub returns-in-Some-try_collect-clause-place : goal.returns-in-Some-try_collect-clause-place
returns-in-Some-try_collect-clause-place g c =
    let limits : c.loop.self.view.subject.limits ≡ c.args.self.now.view.subject.limits = ap (λ x. x.limits) c.loop.invariant.1.goes.subject in
    subst (λ (l : Limits). ReplyAtPlace l c.try_collect.new.self.view.seen c.args.ticket (said c.in-Some-try_collect.answer)) limits c.in-Some-try_collect.ensures.place
