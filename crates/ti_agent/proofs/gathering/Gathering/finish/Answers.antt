use Rattle.std.proofs.Common.{◌≡◌, true, refl, ap, sym, subst, ◌∙◌}
use Rattle.ti_agent.specs.Gathering.{Gathered, Gathers, GivesUp, has_ended, is_given_up}
use Rattle.ti_agent.proofs.Stays.{gathered_home, let_go_home}
use Rattle.ti_agent.proofs.AtWork.{gathers_in, gives_up_in, whole_in}
use Rattle.ti_agent.specs.HousedTrace.{envs_of}
use Rattle.ti_agent.proofs.AtHome.{same_trace}
use Rattle.ti_agent.proofs.gathering.Gathering.finish.Given.{Over}
use Rattle.ti_agent.proofs.gathering.Gathering.finish.Goals.{After-is_given_up-is_given_up}
use Rattle.ti_agent.proofs.gathering.Gathering.finish.Goals as goal

-- the trace as its fields have it
abbrev trace : (g : Over) (c : After-is_given_up-is_given_up g) → Gathered
trace g c = record { began = envs_of c.self.inside.began.items; now = record { env = c.self.inside.env; state = c.self.inside.state; desks = c.self.inside.desks }; stopping = c.self.inside.stopping.items; places = c.self.inside.places.items; max_count = c.self.inside.max_count; is_alive_only = c.self.inside.is_alive_only; bufs = c.self.inside.bufs.items; infos = c.self.inside.infos.items; phase = c.self.inside.phase }

over : (g : Over) (c : After-is_given_up-is_given_up g) → has_ended (trace g c) ≡ true
over g c = ap has_ended (same_trace c.self.view_is) ∙ (sym c.has_ended.ensures ∙ c.if-not-has_ended.false)

given : (g : Over) (c : After-is_given_up-is_given_up g) → is_given_up c.self.inside.phase ≡ c.is_given_up-is_given_up.result
given g c = ap (λ (z : Gathered). is_given_up z.phase) (same_trace c.self.view_is) ∙ sym c.is_given_up-is_given_up.ensures

pub invariant_of-env : goal.invariant_of-env
invariant_of-env g c =
    let l = (goal.at.invariant_of-env g c).After-is_given_up-is_given_up in (
      whole_in c.self.inside.phase (trace g l) c.self.invariant.0 refl (over g l),
      let_go_home g.H.Home.about g.H.Home.holds c.self.inside.home (trace g l) (trace g l).now (gives_up_in c.self.inside.phase (trace g l) c.self.invariant.0 refl (over g l) (given g l ∙ c.if-is_given_up.true)) c.self.invariant.2,
    )

pub returns-then-is_given_up-clause-given_up : goal.returns-then-is_given_up-clause-given_up
returns-then-is_given_up-clause-given_up g c =
    let l = (goal.at.returns-then-is_given_up-clause-given_up g c).After-is_given_up-is_given_up in
    subst (λ (z : Gathered). GivesUp z (trace g l).now) (same_trace c.self.view_is) (gives_up_in c.self.inside.phase (trace g l) c.self.invariant.0 refl (over g l) (given g l ∙ c.if-is_given_up.true))

pub invariant_of-env-2 : goal.invariant_of-env-2
invariant_of-env-2 g c =
    let l = (goal.at.invariant_of-env-2 g c).After-is_given_up-is_given_up in (
      whole_in c.self.inside.phase (trace g l) c.self.invariant.0 refl (over g l),
      gathered_home g.H.Home.about g.H.Home.holds c.self.inside.home (trace g l) (trace g l).now _ (gathers_in c.self.inside.phase (trace g l) c.self.invariant.0 _ refl (over g l) (given g l ∙ c.if-is_given_up.false) refl) c.self.invariant.2,
    )

pub returns-clause-gathers : goal.returns-clause-gathers
returns-clause-gathers g c =
    let l = (goal.at.returns-clause-gathers g c).After-is_given_up-is_given_up in
    subst (λ (z : Gathered). Gathers z (trace g l).now c.told.result.items) (same_trace c.self.view_is) (gathers_in c.self.inside.phase (trace g l) c.self.invariant.0 c.told.result.items refl (over g l) (given g l ∙ c.if-is_given_up.false) c.told.ensures)
