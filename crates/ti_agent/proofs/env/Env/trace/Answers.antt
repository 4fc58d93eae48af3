use Rattle.std.proofs.Common.{◌≡◌, ◌++◌, length, ap, sym, ◌∙◌, subst, take, drop, ℤ, w32, to_z, of_z, List}
use Rattle.std.proofs.lemmas.Int.{to_z-of_z}
use Rattle.ti_handshake.specs.Desk.{DeskState}
use Rattle.ti_types.specs.declared.limits.Limits.{Limits}
use Rattle.ti_agent.specs.Env.{Environment, IsWhole, threads_at}
use Rattle.ti_agent.specs.Home.{IsAtHome}
use Rattle.ti_agent.specs.Traces.{IsTraced}
use Rattle.ti_agent.proofs.Stays.{StaysHome, stays_home, traced_stays}
use Rattle.ti_agent.proofs.Tracing.{desks_are}
use Rattle.ti_agent.proofs.AtHome.{same_env}
use Rattle.ti_agent.proofs.env.Env.trace.Goals as goal

pub invariant_of-self : goal.invariant_of-self
invariant_of-self g c =
    let at = c.self.inside in
    let v = c.into_vec-desks.result in
    let s : Environment = record { env = at.env; state = at.state; desks = at.desks } in
    let later : List DeskState = c.trace_each-round.new.desks in
    let new : Environment = record { env = at.env; state = c.trace_each-round.new.state; desks = later } in
    let value : c.deref_mut-2.result.now ≡ v.items = c.deref_mut-2.ensures.value in
    let was : v.items ≡ at.desks = c.into_vec-desks.ensures ∙ c.replace.ensures.value in
    let items : take v.len (later ++ drop (length later) v.items) ≡ later =
    desks_are later v.items v.len (c.trace_each-round.auto.desks ∙ c.deref_mut-2.ensures.len) (ap (λ w. length w) (sym value) ∙ c.deref_mut-2.ensures.len) in
    let traced = traced_stays _ new _ _ _ _ _ _ c.trace_each-round.ensures.traced in
    let stays : StaysHome s new = subst (λ (d : List DeskState). StaysHome (record { env = at.env; state = at.state; desks = d }) new) (value ∙ was) traced in
    let home = stays_home g.H.Home.about g.H.Home.holds at.home s new stays c.self.invariant.1 in
    subst (λ (d : List DeskState). IsWhole (record { env = at.env; state = new.state; desks = d }) × IsAtHome g.H.Home.about g.H.Home.holds at.home (record { env = at.env; state = new.state; desks = d })) (sym (c.from_vec.ensures ∙ items))
    (c.trace_each-round.ensures.whole, home)

pub returns-clause-traced : goal.returns-clause-traced
returns-clause-traced g c =
    let at = c.self.inside in
    let v = c.into_vec-desks.result in
    let infos = c.trace_each-round.new.infos.items in
    let round = c.trace_each-round.result in
    let m : to_z w32 (of_z w32 c.args.max_count) ≡ c.args.max_count = to_z-of_z w32 c.args.max_count c.ranges.max_count in
    let later : List DeskState = c.trace_each-round.new.desks in
    let value : c.deref_mut-2.result.now ≡ v.items = c.deref_mut-2.ensures.value in
    let was : v.items ≡ at.desks = c.into_vec-desks.ensures ∙ c.replace.ensures.value in
    let items : take v.len (later ++ drop (length later) v.items) ≡ later =
    desks_are later v.items v.len (c.trace_each-round.auto.desks ∙ c.deref_mut-2.ensures.len) (ap (λ w. length w) (sym value) ∙ c.deref_mut-2.ensures.len) in
    let before : record { env = at.env; state = at.state; desks = c.deref_mut-2.result.now } ≡ c.args.self.now.env =
    ap (λ (d : List DeskState). record { env = at.env; state = at.state; desks = d }) (value ∙ was) ∙ same_env c.self.view_is in
    let told = c.trace_each-round.ensures.traced in
    subst (λ (z : Environment × List DeskState × ℤ). IsTraced z.0 (record { env = at.env; state = c.trace_each-round.new.state; desks = z.1 }) z.2 c.args.stopping.now c.args.places.now (threads_at z.0.desks c.args.places.now) infos round) (λ j. (before j, sym (c.from_vec.ensures ∙ items) j, m j)) told

pub trace_each-round-requires-clause-bufs : goal.trace_each-round-requires-clause-bufs
trace_each-round-requires-clause-bufs g c =
    (c.in_ok-bufs.ensures.made, c.in_ok-bufs.ensures.room c.self.inside.state.limits (sym (ap (λ (l : Limits). l.depth) c.limits.ensures)))
