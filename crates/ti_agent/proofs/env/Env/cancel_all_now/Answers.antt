use Rattle.std.proofs.Common.{◌≡◌, ap, ◌<◌, length, arith, subst}
use Rattle.std.specs.Prelude.{OnOk}
use Rattle.std.proofs.lemmas.Bool.Decides.{nat_tests}
use Rattle.ti_types.specs.declared.numbers.ThreadNo.{ThreadNo}
use Rattle.ti_agent.specs.Env.{Environment, place_in}
use Rattle.ti_agent.specs.Quiesced.{MayQuiesce}
use Rattle.ti_agent.proofs.AllCancelled.{all_cancelled}
use Rattle.ti_agent.proofs.AtHome.{cancel_home, same_env}
use Rattle.ti_agent.proofs.InTime.{cancel_whole}
use Rattle.ti_agent.proofs.Quiescing.{cancelled}
use Rattle.ti_agent.proofs.Whole.{found_in, seen_call, desk_there}
use Rattle.ti_agent.proofs.env.Env.cancel_all_now.Goals as goal

pub invariant_of-self : goal.invariant_of-self
invariant_of-self g c =
    let s : Environment = record { env = c.self.inside.env; state = c.self.inside.state; desks = c.self.inside.desks } in
    let t = c.place_of-at.result.0 in
    let within : t < length s.desks = grind (arith, nat_tests, c.if-at-len.false, c.len.ensures) in
    let at = desk_there s t c.index_mut.result.now within c.index_mut.ensures.value in
    let e = c.cancel_all_now.ensures in (
      cancel_whole s t c.index_mut.result.now c.cancel_all_now.new.self c.cancel_all_now.result c.self.invariant.0 at e.here.1 e.hold e.unchanged,
      cancel_home g.H.Home.about g.H.Home.holds c.self.inside.home s t c.index_mut.result.now c.cancel_all_now.new.self c.cancel_all_now.result at e.here.0 e.hold e.unchanged c.self.invariant.1,
    )

pub returns-clause-steps : goal.returns-clause-steps
returns-clause-steps g c =
    let s : Environment = record { env = c.self.inside.env; state = c.self.inside.state; desks = c.self.inside.desks } in
    let t = c.place_of-at.result.0 in
    let is : t ≡ place_in s.desks c.args.thread = ap (λ (x : ThreadNo). x.0) (found_in c.args.self.now.env s c.args.thread c.place_of-at.result (same_env c.self.view_is) c.place_of-at.ensures) in
    let within : t < length s.desks = grind (arith, nat_tests, c.if-at-len.false, c.len.ensures) in
    let at = desk_there s t c.index_mut.result.now within c.index_mut.ensures.value in
    let e = c.cancel_all_now.ensures in
    subst (λ (x : Environment). OnOk c.cancel_all_now.result (MayQuiesce x (seen_call s t c.cancel_all_now.new.self) c.args.thread)) (same_env c.self.view_is)
    (cancelled s c.args.thread t c.index_mut.result.now c.cancel_all_now.new.self c.cancel_all_now.result is at e.here e.hold)

pub returns-clause-cancelled : goal.returns-clause-cancelled
returns-clause-cancelled g c =
    let s : Environment = record { env = c.self.inside.env; state = c.self.inside.state; desks = c.self.inside.desks } in
    let t = c.place_of-at.result.0 in
    let is : t ≡ place_in s.desks c.args.thread = ap (λ (x : ThreadNo). x.0) (found_in c.args.self.now.env s c.args.thread c.place_of-at.result (same_env c.self.view_is) c.place_of-at.ensures) in
    let within : t < length s.desks = grind (arith, nat_tests, c.if-at-len.false, c.len.ensures) in
    let at = desk_there s t c.index_mut.result.now within c.index_mut.ensures.value in
    let e = c.cancel_all_now.ensures in
    all_cancelled s c.args.thread t c.index_mut.result.now c.cancel_all_now.new.self c.cancel_all_now.result is at e.hold e.cancelled
