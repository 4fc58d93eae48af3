use Rattle.std.proofs.Common.{◌≡◌, ◌<◌, ◌≤◌, ◌&&◌, true, false, List, length, ap, arith, sym, subst, refl, None}
use Rattle.ti_types.specs.declared.event.Ticket.{Ticket}
use Rattle.ti_env.specs.Env.{call_refusal}
use Rattle.ti_replay.specs.Settling.{waits}
use Rattle.ti_agent.specs.Env.{Environment, is_full}
use Rattle.ti_agent.specs.Posts.{Posts}
use Rattle.ti_agent.specs.Buffers.{IsJustBufferOf}
use Rattle.ti_agent.proofs.Whole.{reaches, found_in, desk_at, may_call, has_room, may_stay, one_more, has_buffer, whole_after, after_call, posts}
use Rattle.ti_agent.proofs.AtHome.{home_set, same_env}
use Rattle.ti_agent.proofs.env.Env.post_one_now.Given.{Over}
use Rattle.ti_agent.proofs.env.Env.post_one_now.Goals.{After-index_mut}
use Rattle.ti_agent.proofs.env.Env.post_one_now.Goals as goal

pub post_now-requires-clause-calls : goal.post_now-requires-clause-calls
post_now-requires-clause-calls g c =
    let s : Environment = record { env = c.self.inside.env; state = c.self.inside.state; desks = c.self.inside.desks } in
    let free : call_refusal s.state c.args.place c.args.call ≡ None = reaches c.args.self.now.env s c.args.thread c.args.place c.args.call (same_env c.self.view_is) c.requires.place c.requires.admitted in
    may_call s c.args.place c.args.call c.index_mut.result.now c.self.invariant.0 free c.index_mut.ensures.value

-- it may stay out, if it waits
stays : (g : Over) (c : After-index_mut g) → waits c.args.call ≡ true → length c.index_mut.result.now.view.posted < c.self.inside.state.limits.window
stays g c =
    let s : Environment = record { env = c.self.inside.env; state = c.self.inside.state; desks = c.self.inside.desks } in
    let free : call_refusal s.state c.args.place c.args.call ≡ None = reaches c.args.self.now.env s c.args.thread c.args.place c.args.call (same_env c.self.view_is) c.requires.place c.requires.admitted in
    may_stay s c.args.thread c.args.place c.args.call c.index_mut.result.now c.self.invariant.0 free c.index_mut.ensures.value (found_in c.args.self.now.env s c.args.thread c.args.place (same_env c.self.view_is) c.requires.place) (subst (λ (x : Environment). (waits c.args.call && is_full x c.args.thread) ≡ false) (sym (same_env c.self.view_is)) c.requires.room)

-- and as many are out as may be, at most
within : (g : Over) (c : After-index_mut g) → length c.index_mut.result.now.view.posted ≤ c.self.inside.state.limits.window
within g c =
    let s : Environment = record { env = c.self.inside.env; state = c.self.inside.state; desks = c.self.inside.desks } in
    let free : call_refusal s.state c.args.place c.args.call ≡ None = reaches c.args.self.now.env s c.args.thread c.args.place c.args.call (same_env c.self.view_is) c.requires.place c.requires.admitted in
    (c.self.invariant.0.desks c.args.place.0 c.index_mut.result.now (desk_at s c.args.place c.args.call c.index_mut.result.now c.self.invariant.0 free c.index_mut.ensures.value)).within

pub post_now-requires-clause-room : goal.post_now-requires-clause-room
post_now-requires-clause-room g c = λ _.
    let s : Environment = record { env = c.self.inside.env; state = c.self.inside.state; desks = c.self.inside.desks } in
    let free : call_refusal s.state c.args.place c.args.call ≡ None = reaches c.args.self.now.env s c.args.thread c.args.place c.args.call (same_env c.self.view_is) c.requires.place c.requires.admitted in
    has_room s c.args.place c.args.call c.index_mut.result.now c.self.invariant.0 free c.index_mut.ensures.value

pub post_now-requires-clause-buf : goal.post_now-requires-clause-buf
post_now-requires-clause-buf g c =
    let s : Environment = record { env = c.self.inside.env; state = c.self.inside.state; desks = c.self.inside.desks } in
    let free : call_refusal s.state c.args.place c.args.call ≡ None = reaches c.args.self.now.env s c.args.thread c.args.place c.args.call (same_env c.self.view_is) c.requires.place c.requires.admitted in
    let has : IsJustBufferOf s.state.limits c.args.call c.args.buf = subst (λ (x : Environment). IsJustBufferOf x.state.limits c.args.call c.args.buf) (sym (same_env c.self.view_is)) c.requires.buf in
    has_buffer s c.args.place c.args.call c.index_mut.result.now c.args.buf c.self.invariant.0 free c.index_mut.ensures.value has

pub invariant_of-self : goal.invariant_of-self
invariant_of-self g c =
    let s : Environment = record { env = c.self.inside.env; state = c.self.inside.state; desks = c.self.inside.desks } in
    let free : call_refusal s.state c.args.place c.args.call ≡ None = reaches c.args.self.now.env s c.args.thread c.args.place c.args.call (same_env c.self.view_is) c.requires.place c.requires.admitted in
    let e = c.in-Ok.ensures in (
      whole_after s c.args.place c.args.call c.index_mut.result.now c.post_now.new.self c.spend.new.self c.self.invariant.0 free c.index_mut.ensures.value c.spend.ensures e.same.env e.hold.waits.goes e.hold.waits.mine
          (omega (arith, ap (λ (t : List Ticket). length t) e.hold.waits.posted, one_more c.index_mut.result.now.view.posted c.args.call c.in-Ok.asked c.self.inside.state.limits.window (within g (goal.at.invariant_of-self g c).After-index_mut) (stays g (goal.at.invariant_of-self g c).After-index_mut) c.in-Ok.ensures.late)),
      home_set g.H.Home.about g.H.Home.holds c.self.inside.home s c.spend.new.self c.args.place.0 c.index_mut.result.now c.post_now.new.self (desk_at s c.args.place c.args.call c.index_mut.result.now c.self.invariant.0 free c.index_mut.ensures.value) e.same.cell e.hold.waits.goes.subject (ap (λ x. x.limits) c.spend.ensures) c.self.invariant.1,
    )

pub returns-in-Ok-clause-posts : goal.returns-in-Ok-clause-posts
returns-in-Ok-clause-posts g c =
    let s : Environment = record { env = c.self.inside.env; state = c.self.inside.state; desks = c.self.inside.desks } in
    let free : call_refusal s.state c.args.place c.args.call ≡ None = reaches c.args.self.now.env s c.args.thread c.args.place c.args.call (same_env c.self.view_is) c.requires.place c.requires.admitted in
    let e = c.in-Ok.ensures in
    subst (λ (x : Environment). Posts x (after_call s c.args.place c.spend.new.self c.post_now.new.self) c.args.thread c.args.call c.in-Ok.asked) (same_env c.self.view_is)
    (posts s (after_call s c.args.place c.spend.new.self c.post_now.new.self) c.args.thread c.args.place c.args.call c.index_mut.result.now c.post_now.new.self c.in-Ok.asked c.spend.new.self c.self.invariant.0 free c.index_mut.ensures.value (found_in c.args.self.now.env s c.args.thread c.args.place (same_env c.self.view_is) c.requires.place) c.spend.ensures e.same e.hold e.told e.out refl)
