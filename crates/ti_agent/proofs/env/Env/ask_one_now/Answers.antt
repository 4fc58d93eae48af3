use Rattle.std.proofs.Common.{◌≡◌, ◌≤◌, ◌∷◌, [], ◌++◌, List, length, ap, arith, sym, subst, refl, append-nil, None}
use Rattle.ti_types.specs.declared.event.Ticket.{Ticket}
use Rattle.ti_slot.specs.declared.asked.Asked.TheVariants.{Answered}
use Rattle.ti_env.specs.Env.{call_refusal}
use Rattle.ti_handshake.specs.Call.{HoldsWith, next_call}
use Rattle.ti_agent.specs.Env.{Environment}
use Rattle.ti_agent.specs.Posts.{Posts}
use Rattle.ti_agent.proofs.Whole.{reaches, found_in, desk_at, may_call, whole_after, after_call, posts}
use Rattle.ti_agent.proofs.AtHome.{home_set, same_env}
use Rattle.ti_agent.proofs.env.Env.ask_one_now.Goals as goal

pub ask_now-requires-clause-calls : goal.ask_now-requires-clause-calls
ask_now-requires-clause-calls g c =
    let s : Environment = record { env = c.self.inside.env; state = c.self.inside.state; desks = c.self.inside.desks } in
    let free : call_refusal s.state c.args.place c.args.call ≡ None = reaches c.args.self.now.env s c.args.thread c.args.place c.args.call (same_env c.self.view_is) c.requires.place c.requires.admitted in
    may_call s c.args.place c.args.call c.index_mut.result.now c.self.invariant.0 free c.index_mut.ensures.value

pub invariant_of-self : goal.invariant_of-self
invariant_of-self g c =
    let s : Environment = record { env = c.self.inside.env; state = c.self.inside.state; desks = c.self.inside.desks } in
    let free : call_refusal s.state c.args.place c.args.call ≡ None = reaches c.args.self.now.env s c.args.thread c.args.place c.args.call (same_env c.self.view_is) c.requires.place c.requires.admitted in
    let there = desk_at s c.args.place c.args.call c.index_mut.result.now c.self.invariant.0 free c.index_mut.ensures.value in
    let within : length c.index_mut.result.now.view.posted ≤ s.state.limits.window = (c.self.invariant.0.desks c.args.place.0 c.index_mut.result.now there).within in
    let e = c.in-Some.ensures in (
      whole_after s c.args.place c.args.call c.index_mut.result.now c.ask_now.new.self c.spend.new.self c.self.invariant.0 free c.index_mut.ensures.value c.spend.ensures e.same.env e.hold.waits.goes e.hold.waits.mine
          (omega (arith, ap (λ (t : List Ticket). length t) e.hold.waits.posted, within)),
      home_set g.H.Home.about g.H.Home.holds c.self.inside.home s c.spend.new.self c.args.place.0 c.index_mut.result.now c.ask_now.new.self there e.same.cell e.hold.waits.goes.subject (ap (λ x. x.limits) c.spend.ensures) c.self.invariant.1,
    )

pub returns-in-Some-clause-posts : goal.returns-in-Some-clause-posts
returns-in-Some-clause-posts g c =
    let s : Environment = record { env = c.self.inside.env; state = c.self.inside.state; desks = c.self.inside.desks } in
    let free : call_refusal s.state c.args.place c.args.call ≡ None = reaches c.args.self.now.env s c.args.thread c.args.place c.args.call (same_env c.self.view_is) c.requires.place c.requires.admitted in
    let p = c.index_mut.result.now in
    let q = c.ask_now.new.self in
    let e = c.in-Some.ensures in
    let hold : HoldsWith p.view q.view (next_call p.view p.env c.args.call ∷ []) (p.view.posted ++ []) = subst (λ (t : List Ticket). HoldsWith p.view q.view (next_call p.view p.env c.args.call ∷ []) t) (sym (append-nil p.view.posted)) e.hold in
    subst (λ (x : Environment). Posts x (after_call s c.args.place c.spend.new.self q) c.args.thread c.args.call (Answered c.in-Some.answer)) (same_env c.self.view_is)
    (posts s (after_call s c.args.place c.spend.new.self q) c.args.thread c.args.place c.args.call p q (Answered c.in-Some.answer) c.spend.new.self c.self.invariant.0 free c.index_mut.ensures.value (found_in c.args.self.now.env s c.args.thread c.args.place (same_env c.self.view_is) c.requires.place) c.spend.ensures e.same hold e.told tt refl)
