use Rattle.std.proofs.Common.{◌≡◌, List, length, ap, arith, sym, subst, refl, None}
use Rattle.ti_types.specs.declared.event.Ticket.{Ticket}
use Rattle.ti_types.specs.Answer.{said}
use Rattle.ti_env.specs.Env.{call_refusal}
use Rattle.ti_agent.specs.Buffers.{IsJustBufferOf}
use Rattle.ti_agent.specs.Env.{Environment}
use Rattle.ti_agent.specs.Asks.{Asks, Went}
use Rattle.ti_agent.proofs.Replied.{answered_kind, answered_not}
use Rattle.ti_agent.proofs.Whole.{desk_at, reaches, found_in, may_call, has_room, desk_about, has_buffer, whole_after, after_call, went}
use Rattle.ti_agent.proofs.AtHome.{home_set, same_env}
use Rattle.ti_agent.proofs.env.Env.ask_one.Goals as goal

pub call-answer-requires-clause-calls : goal.call-answer-requires-clause-calls
call-answer-requires-clause-calls g c =
    let s : Environment = record { env = c.self.inside.env; state = c.self.inside.state; desks = c.self.inside.desks } in
    let free : call_refusal s.state c.args.place c.args.call ≡ None = reaches c.args.self.now.env s c.args.thread c.args.place c.args.call (same_env c.self.view_is) c.requires.place c.requires.admitted in
    may_call s c.args.place c.args.call c.index_mut.result.now c.self.invariant.0 free c.index_mut.ensures.value

pub call-answer-requires-clause-room : goal.call-answer-requires-clause-room
call-answer-requires-clause-room g c = λ _.
    let s : Environment = record { env = c.self.inside.env; state = c.self.inside.state; desks = c.self.inside.desks } in
    let free : call_refusal s.state c.args.place c.args.call ≡ None = reaches c.args.self.now.env s c.args.thread c.args.place c.args.call (same_env c.self.view_is) c.requires.place c.requires.admitted in
    has_room s c.args.place c.args.call c.index_mut.result.now c.self.invariant.0 free c.index_mut.ensures.value

pub call-answer-requires-clause-buf : goal.call-answer-requires-clause-buf
call-answer-requires-clause-buf g c =
    let s : Environment = record { env = c.self.inside.env; state = c.self.inside.state; desks = c.self.inside.desks } in
    let free : call_refusal s.state c.args.place c.args.call ≡ None = reaches c.args.self.now.env s c.args.thread c.args.place c.args.call (same_env c.self.view_is) c.requires.place c.requires.admitted in
    let has : IsJustBufferOf s.state.limits c.args.call c.args.buf = subst (λ (x : Environment). IsJustBufferOf x.state.limits c.args.call c.args.buf) (sym (same_env c.self.view_is)) c.requires.buf in
    has_buffer s c.args.place c.args.call c.index_mut.result.now c.args.buf c.self.invariant.0 free c.index_mut.ensures.value has

pub invariant_of-self : goal.invariant_of-self
invariant_of-self g c =
    let s : Environment = record { env = c.self.inside.env; state = c.self.inside.state; desks = c.self.inside.desks } in
    let free : call_refusal s.state c.args.place c.args.call ≡ None = reaches c.args.self.now.env s c.args.thread c.args.place c.args.call (same_env c.self.view_is) c.requires.place c.requires.admitted in
    let e = c.call-answer.ensures in (
      whole_after s c.args.place c.args.call c.index_mut.result.now c.call-answer.new.self c.spend.new.self c.self.invariant.0 free c.index_mut.ensures.value c.spend.ensures e.same.env e.goes e.mine
          (omega (arith, ap (λ (t : List Ticket). length t) e.posted, has_room s c.args.place c.args.call c.index_mut.result.now c.self.invariant.0 free c.index_mut.ensures.value, ap (λ x. x.window) (desk_about s c.args.place c.args.call c.index_mut.result.now c.self.invariant.0 free c.index_mut.ensures.value))),
      home_set g.H.Home.about g.H.Home.holds c.self.inside.home s c.spend.new.self c.args.place.0 c.index_mut.result.now c.call-answer.new.self (desk_at s c.args.place c.args.call c.index_mut.result.now c.self.invariant.0 free c.index_mut.ensures.value) e.same.cell e.goes.subject (ap (λ x. x.limits) c.spend.ensures) c.self.invariant.1,
    )

pub returns-clause-went : goal.returns-clause-went
returns-clause-went g c =
    let s : Environment = record { env = c.self.inside.env; state = c.self.inside.state; desks = c.self.inside.desks } in
    let free : call_refusal s.state c.args.place c.args.call ≡ None = reaches c.args.self.now.env s c.args.thread c.args.place c.args.call (same_env c.self.view_is) c.requires.place c.requires.admitted in
    let e = c.call-answer.ensures in
    let k : Asks c.index_mut.result.now c.call-answer.new.self c.args.call (said c.call-answer.result) = record { same = e.same; goes = e.goes; mine = e.mine; posted = e.posted; answer = e.answer } in
    subst (λ (x : Environment). Went x (after_call s c.args.place c.spend.new.self c.call-answer.new.self) c.args.thread c.args.call (said c.call-answer.result)) (same_env c.self.view_is)
    (went s (after_call s c.args.place c.spend.new.self c.call-answer.new.self) c.args.thread c.args.place c.args.call c.index_mut.result.now c.call-answer.new.self (said c.call-answer.result) c.spend.new.self c.self.invariant.0 free c.index_mut.ensures.value (found_in c.args.self.now.env s c.args.thread c.args.place (same_env c.self.view_is) c.requires.place) c.spend.ensures k refl)

pub returns-clause-kind : goal.returns-clause-kind
returns-clause-kind g c = answered_kind _ _ _ c.args.call (said c.call-answer.result) c.call-answer.ensures.answer

pub returns-clause-room : goal.returns-clause-room
returns-clause-room g c = answered_not _ _ _ c.args.call (said c.call-answer.result) c.call-answer.ensures.answer
