use Rattle.std.proofs.Common.{◌≡◌, ◌<◌, is_some, length, ap, subst, sym}
use Rattle.std.specs.Prelude.{IfSome}
use Rattle.ti_types.specs.Answer.{said}
use Rattle.ti_types.specs.declared.numbers.ThreadNo.{ThreadNo}
use Rattle.ti_agent.specs.Deadlines.{DiscardsAt, TellsDiscardedAt}
use Rattle.ti_agent.specs.Env.{Environment, place_in, place_of}
use Rattle.ti_agent.proofs.InTime.{discard_whole}
use Rattle.ti_agent.proofs.Tried.{discarded, tells_discarded}
use Rattle.ti_agent.proofs.Whole.{found_in, seen_call, desk_there}
use Rattle.ti_agent.proofs.AtHome.{same_env, discard_home}
use Rattle.ti_agent.proofs.env.Env.discard_at.Given.{Over}
use Rattle.ti_agent.proofs.env.Env.discard_at.Goals.{After-index_mut}
use Rattle.ti_agent.proofs.env.Env.discard_at.Goals as goal

-- the place, among the desks
found : (g : Over) (c : After-index_mut g) → c.args.place ≡ place_of c.self.inside.desks c.args.thread
found g c =
    let s : Environment = record { env = c.self.inside.env; state = c.self.inside.state; desks = c.self.inside.desks } in
    found_in c.args.self.now.env s c.args.thread c.args.place (same_env c.self.view_is) c.requires.place

-- there is a desk
here : (g : Over) (c : After-index_mut g) → c.args.place.0 < length c.self.inside.desks
here g c =
    let there : place_in c.self.inside.desks c.args.thread < length c.self.inside.desks = subst (λ (x : Environment). place_in x.desks c.args.thread < length x.desks) (sym (same_env c.self.view_is)) c.requires.there in
    subst (λ (x : ThreadNo). x.0 < length c.self.inside.desks) (sym (found g c)) there

pub invariant_of-self : goal.invariant_of-self
invariant_of-self g c =
    let s : Environment = record { env = c.self.inside.env; state = c.self.inside.state; desks = c.self.inside.desks } in
    let l = (goal.at.invariant_of-self g c).After-index_mut in
    let at = desk_there s c.args.place.0 c.index_mut.result.now (here g l) c.index_mut.ensures.value in (
      discard_whole s c.args.place.0 c.index_mut.result.now c.discard.new.self (is_some c.discard.result) c.self.invariant.0 at c.discard.ensures.discards,
      discard_home g.H.Home.about g.H.Home.holds c.self.inside.home s c.args.place.0 c.index_mut.result.now c.discard.new.self (is_some c.discard.result) at c.discard.ensures.discards c.self.invariant.1,
    )

pub returns-clause-discards : goal.returns-clause-discards
returns-clause-discards g c =
    let s : Environment = record { env = c.self.inside.env; state = c.self.inside.state; desks = c.self.inside.desks } in
    let l = (goal.at.returns-clause-discards g c).After-index_mut in
    let at = desk_there s c.args.place.0 c.index_mut.result.now (here g l) c.index_mut.ensures.value in
    subst (λ (x : Environment). DiscardsAt x (seen_call s c.args.place.0 c.discard.new.self) c.args.thread (is_some c.discard.result)) (same_env c.self.view_is)
    (discarded s c.args.thread c.args.place.0 c.index_mut.result.now c.discard.new.self (is_some c.discard.result) (ap (λ (x : ThreadNo). x.0) (found g l)) at c.discard.ensures.discards)

pub returns-clause-tells : goal.returns-clause-tells
returns-clause-tells g c =
    let s : Environment = record { env = c.self.inside.env; state = c.self.inside.state; desks = c.self.inside.desks } in
    let l = (goal.at.returns-clause-tells g c).After-index_mut in
    let at = desk_there s c.args.place.0 c.index_mut.result.now (here g l) c.index_mut.ensures.value in
    subst (λ (x : Environment). IfSome c.discard.result (λ r. TellsDiscardedAt x (seen_call s c.args.place.0 c.discard.new.self) c.args.thread r.ticket (said r.answer))) (same_env c.self.view_is)
    (tells_discarded s c.args.thread c.args.place.0 c.index_mut.result.now c.discard.new.self c.discard.result (ap (λ (x : ThreadNo). x.0) (found g l)) at c.discard.ensures.tells)
