use Rattle.std.proofs.Common.{List, ℕ, subst, sym}
use Rattle.ti_jdwp.specs.Errors.{number_of}
use Rattle.ti_jdwp.specs.Talks.{data_of}
use Rattle.ti_debugger.specs.Effects.{IsEffectOf}
use Rattle.ti_debugger.specs.Replies.{IsBodyOf}
use Rattle.ti_debugger.proofs.ServingLaws.{given_error, given_reply}
use Rattle.ti_debugger.proofs.seat.Seat.give_answer.Goals as goal

pub returns-in_ok-reply-in-Ok-clause-gave : goal.returns-in_ok-reply-in-Ok-clause-gave
returns-in_ok-reply-in-Ok-clause-gave c = λ now.
    let request = c.args.request in
    let old = c.args.desk.now in
    let new = c.reply_to.new.self in
    let wire = data_of c.args.self.now.session.first c.args.self.now.session.bytes.input in
    let bytes = subst (λ (b : List ℕ). IsBodyOf request b old new c.in-Ok.reply.body.items) c.data.ensures c.in-Ok.ensures.told in
    let body = subst (λ (b : List ℕ). IsBodyOf request wire old new b) (sym c.as_slice.ensures.value) bytes in
    let does = subst (λ (b : List ℕ). IsEffectOf request b new c.in-Ok.reply.effect) c.data.ensures c.in-Ok.ensures.effect in
    given_reply now request _ _ c.as_slice.result.now old new c.take.new.self c.in-Ok.reply.effect c.reply.result c.in_ok-reply-in-Ok.field-0 c.in_ok-reply-in-Ok.was c.in_ok-reply-in-Ok.ensures.ok c.reply.ensures.asked body does c.take.ensures.taken c.reply_to.ensures.rest

pub returns-in_ok-refuse-in-Err-Error-clause-gave : goal.returns-in_ok-refuse-in-Err-Error-clause-gave
returns-in_ok-refuse-in-Err-Error-clause-gave c = λ now.
    given_error now c.args.request _ _ (number_of c.in-Err-Error.error) c.args.desk.now c.reply_to.new.self c.refuse.result c.in_ok-refuse-in-Err-Error.field-0 c.in_ok-refuse-in-Err-Error.was c.in_ok-refuse-in-Err-Error.ensures.ok c.refuse.ensures.asked
    c.reply_to.ensures.rest
