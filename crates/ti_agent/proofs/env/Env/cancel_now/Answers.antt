use Rattle.std.proofs.Common.{◌≡◌, ap, ◌<◌, length, arith, subst}
use Rattle.std.specs.Prelude.{OnOk}
use Rattle.std.proofs.lemmas.Bool.Decides.{nat_tests}
use Rattle.ti_types.specs.declared.numbers.ThreadNo.{ThreadNo}
use Rattle.ti_agent.specs.Env.{Environment, place_in}
use Rattle.ti_agent.specs.Deadlines.{Cancels}
use Rattle.ti_agent.proofs.Whole.{found_in, seen_call, desk_there}
use Rattle.ti_agent.proofs.InTime.{cancel_whole, cancels}
use Rattle.ti_agent.proofs.AtHome.{cancel_home, same_env}
use Rattle.ti_agent.proofs.env.Env.cancel_now.Goals as goal

pub invariant_of-self : goal.invariant_of-self
invariant_of-self g c =
    let s : Environment = record { env = c.self.inside.env; state = c.self.inside.state; desks = c.self.inside.desks } in
    let t = c.place_of-at.result.0 in
    let within : t < length s.desks = grind (arith, nat_tests, c.if-at-len.false, c.len.ensures) in
    let at = desk_there s t c.index_mut.result.now within c.index_mut.ensures.value in
    let e = c.cancel_now.ensures in (
      cancel_whole s t c.index_mut.result.now c.cancel_now.new.self c.cancel_now.result c.self.invariant.0 at e.here.1 e.hold e.unchanged,
      cancel_home g.H.Home.about g.H.Home.holds c.self.inside.home s t c.index_mut.result.now c.cancel_now.new.self c.cancel_now.result at e.here.0 e.hold e.unchanged c.self.invariant.1,
    )

pub returns-clause-cancels : goal.returns-clause-cancels
returns-clause-cancels g c =
    let s : Environment = record { env = c.self.inside.env; state = c.self.inside.state; desks = c.self.inside.desks } in
    let t = c.place_of-at.result.0 in
    let is : t ≡ place_in s.desks c.args.ticket.thread = ap (λ (x : ThreadNo). x.0) (found_in c.args.self.now.env s c.args.ticket.thread c.place_of-at.result (same_env c.self.view_is) c.place_of-at.ensures) in
    let within : t < length s.desks = grind (arith, nat_tests, c.if-at-len.false, c.len.ensures) in
    let at = desk_there s t c.index_mut.result.now within c.index_mut.ensures.value in
    let e = c.cancel_now.ensures in
    subst (λ (x : Environment). OnOk c.cancel_now.result (place_in x.desks c.args.ticket.thread < length x.desks → Cancels x (seen_call s t c.cancel_now.new.self) c.args.ticket)) (same_env c.self.view_is)
    (cancels s c.args.ticket t c.index_mut.result.now c.cancel_now.new.self c.cancel_now.result is at e.here e.hold e.cancelled e.former)
