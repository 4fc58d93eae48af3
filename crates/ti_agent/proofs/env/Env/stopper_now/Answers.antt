use Rattle.std.proofs.Common.{◌≡◌, ◌<◌, length, subst, sym}
use Rattle.std.specs.Prelude.{IfOk}
use Rattle.ti_agent.specs.Env.{Environment, place_in}
use Rattle.ti_agent.specs.HandOvers.{TellsStopper, stopper_at}
use Rattle.ti_agent.proofs.Whole.{seen_call, desk_there}
use Rattle.ti_agent.proofs.Tried.{look_whole, takes_none, looked}
use Rattle.ti_agent.proofs.AtHome.{same_env, tried_look_home}
use Rattle.ti_agent.proofs.env.Env.stopper_now.Goals as goal

pub invariant_of-self : goal.invariant_of-self
invariant_of-self g c =
    let s : Environment = record { env = c.self.inside.env; state = c.self.inside.state; desks = c.self.inside.desks } in
    let t = c.in_ok-at.at in
    let within : t < length s.desks = subst (λ (x : Environment). t < length x.desks) (sym (same_env c.self.view_is)) c.in_ok-at.ensures.there in
    let p = c.index_mut.result.now in
    let q = c.stopper_now.new.self in
    let r = c.stopper_now.result in
    let at = desk_there s t p within c.index_mut.ensures.value in
    let e = c.stopper_now.ensures in (
      look_whole s t p q r c.self.invariant.0 at e.same e.hold e.busy,
      tried_look_home g.H.Home.about g.H.Home.holds c.self.inside.home s t p q r (λ _. p.view.posted) at e.same (takes_none p q r e.hold) e.busy c.self.invariant.1,
    )

pub returns-clause-tells : goal.returns-clause-tells
returns-clause-tells g c =
    let s : Environment = record { env = c.self.inside.env; state = c.self.inside.state; desks = c.self.inside.desks } in
    let same : s ≡ c.args.self.now.env = same_env c.self.view_is in
    let t = c.in_ok-at.at in
    let is : t ≡ place_in s.desks c.args.thread = subst (λ (x : Environment). t ≡ place_in x.desks c.args.thread) (sym same) c.in_ok-at.ensures.place in
    let within : t < length s.desks = subst (λ (x : Environment). t < length x.desks) (sym same) c.in_ok-at.ensures.there in
    let at = desk_there s t c.index_mut.result.now within c.index_mut.ensures.value in
    let e = c.stopper_now.ensures in
    subst (λ (x : Environment). IfOk c.stopper_now.result (λ n. TellsStopper x (seen_call s t c.stopper_now.new.self) c.args.thread n)) same
    (looked stopper_at s c.args.thread t c.index_mut.result.now c.stopper_now.new.self c.stopper_now.result is at e.same e.hold e.stopper)
