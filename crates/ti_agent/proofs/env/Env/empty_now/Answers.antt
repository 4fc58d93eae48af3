use Rattle.std.proofs.Common.{◌≡◌, ◌<◌, List, length, ap, arith, subst, sym}
use Rattle.std.specs.Prelude.{OnOk}
use Rattle.ti_types.specs.declared.event.Ticket.{Ticket}
use Rattle.ti_types.specs.declared.call.Call.TheVariants.{SetWord}
use Rattle.ti_types.specs.declared.numbers.ThreadNo.{ThreadNo}
use Rattle.ti_agent.specs.Emptied.{IsEmptied}
use Rattle.ti_agent.specs.Env.{Environment, place_in, place_of}
use Rattle.ti_agent.proofs.Emptying.{emptied, given_up, has_call, may_set, no_call, word_reaches}
use Rattle.ti_agent.proofs.InTime.{cancel_whole}
use Rattle.ti_agent.proofs.Whole.{after_call, desk_there, found_in, seen_call, whole_after}
use Rattle.ti_agent.proofs.AtHome.{cancel_home, home_set, same_env}
use Rattle.ti_agent.proofs.env.Env.empty_now.Given.{Over}
use Rattle.ti_agent.proofs.env.Env.empty_now.Goals.{After-left}
use Rattle.ti_agent.proofs.env.Env.empty_now.Goals as goal

-- the place, among the desks
found : (g : Over) (c : After-left g) → c.args.place ≡ place_of c.self.inside.desks c.args.thread
found g c =
    let s : Environment = record { env = c.self.inside.env; state = c.self.inside.state; desks = c.self.inside.desks } in
    found_in c.args.self.now.env s c.args.thread c.args.place (same_env c.self.view_is) c.requires.place

-- there is a desk
here : (g : Over) (c : After-left g) → c.args.place.0 < length c.self.inside.desks
here g c =
    let there : place_in c.self.inside.desks c.args.thread < length c.self.inside.desks = subst (λ (x : Environment). place_in x.desks c.args.thread < length x.desks) (sym (same_env c.self.view_is)) c.requires.there in
    subst (λ (x : ThreadNo). x.0 < length c.self.inside.desks) (sym (found g c)) there

-- and as many places as desks
inside : (g : Over) (c : After-left g) → c.args.place.0 < length c.self.inside.state.spent
inside g c = (let h = here g c in omega (arith, h, c.self.invariant.0.count))

pub invariant_of-self : goal.invariant_of-self
invariant_of-self g c =
    let s : Environment = record { env = c.self.inside.env; state = c.self.inside.state; desks = c.self.inside.desks } in
    let l = (goal.at.invariant_of-self g c).After-left in
    let p = c.index_mut.result.now in
    let at = desk_there s c.args.place.0 p (here g l) c.index_mut.ensures.value in
    let e = c.cancel_all_now.ensures in (
      cancel_whole s c.args.place.0 p c.cancel_all_now.new.self c.cancel_all_now.result c.self.invariant.0 at e.here.1 e.hold e.unchanged,
      cancel_home g.H.Home.about g.H.Home.holds c.self.inside.home s c.args.place.0 p c.cancel_all_now.new.self c.cancel_all_now.result at e.here.0 e.hold e.unchanged c.self.invariant.1,
    )

pub returns-then-left-eq0-clause-emptied : goal.returns-then-left-eq0-clause-emptied
returns-then-left-eq0-clause-emptied g c =
    let s : Environment = record { env = c.self.inside.env; state = c.self.inside.state; desks = c.self.inside.desks } in
    let l = (goal.at.returns-then-left-eq0-clause-emptied g c).After-left in
    let p = c.index_mut.result.now in
    let q = c.cancel_all_now.new.self in
    let at = desk_there s c.args.place.0 p (here g l) c.index_mut.ensures.value in
    let e = c.cancel_all_now.ensures in
    let none = no_call s.state c.args.place c.left.result c.left.ensures c.if-left-eq0.true (inside g l) in
    subst (λ (x : Environment). OnOk c.cancel_all_now.result (IsEmptied x (seen_call s c.args.place.0 q) c.args.thread)) (same_env c.self.view_is)
    (given_up s c.args.thread c.args.place p q c.cancel_all_now.result (c.self.invariant.0.desks c.args.place.0 p at) (found g l) at none e.here e.hold e.cancelled)

pub clear_now-requires : goal.clear_now-requires
clear_now-requires g c =
    let s : Environment = record { env = c.self.inside.env; state = c.self.inside.state; desks = c.self.inside.desks } in
    let l = (goal.at.clear_now-requires g c).After-left in
    let p = c.index_mut-2.result.now in
    let at = desk_there s c.args.place.0 p (here g l) c.index_mut-2.ensures.value in
    let less = has_call s.state c.args.place c.left.result c.left.ensures c.if-left-eq0.false (inside g l) in
    record { calls = may_set s c.args.place p (c.self.invariant.0.desks c.args.place.0 p at) less }

pub invariant_of-self-in-Ok : goal.invariant_of-self-in-Ok
invariant_of-self-in-Ok g c =
    let s : Environment = record { env = c.self.inside.env; state = c.self.inside.state; desks = c.self.inside.desks } in
    let l = (goal.at.invariant_of-self-in-Ok g c).After-left in
    let p = c.index_mut-2.result.now in
    let at = desk_there s c.args.place.0 p (here g l) c.index_mut-2.ensures.value in
    let e = c.in-Ok.ensures in
    let less = has_call s.state c.args.place c.left.result c.left.ensures c.if-left-eq0.false (inside g l) in
    let within = (c.self.invariant.0.desks c.args.place.0 p at).within in
    let few = ap (λ (x : List Ticket). length x) e.hold.waits.posted in (
      whole_after s c.args.place (SetWord 0) p c.clear_now.new.self c.spend.new.self c.self.invariant.0 (word_reaches s.state c.args.place (inside g l) less) c.index_mut-2.ensures.value c.spend.ensures e.here.1 e.hold.waits.goes e.hold.waits.mine (omega (arith, within, few)),
      home_set g.H.Home.about g.H.Home.holds c.self.inside.home s c.spend.new.self c.args.place.0 p c.clear_now.new.self at e.here.0 e.hold.waits.goes.subject (ap (λ x. x.limits) c.spend.ensures) c.self.invariant.1,
    )

pub returns-in-Ok-clause-emptied : goal.returns-in-Ok-clause-emptied
returns-in-Ok-clause-emptied g c =
    let s : Environment = record { env = c.self.inside.env; state = c.self.inside.state; desks = c.self.inside.desks } in
    let l = (goal.at.returns-in-Ok-clause-emptied g c).After-left in
    let p = c.index_mut-2.result.now in
    let q = c.clear_now.new.self in
    let at = desk_there s c.args.place.0 p (here g l) c.index_mut-2.ensures.value in
    let e = c.in-Ok.ensures in
    let less = has_call s.state c.args.place c.left.result c.left.ensures c.if-left-eq0.false (inside g l) in
    subst (λ (x : Environment). IsEmptied x (after_call s c.args.place c.spend.new.self q) c.args.thread) (same_env c.self.view_is)
    (emptied s c.args.thread c.args.place p q c.spend.new.self (c.self.invariant.0.desks c.args.place.0 p at) (found g l) at (inside g l) less e.here e.hold e.cancelled c.spend.ensures)
