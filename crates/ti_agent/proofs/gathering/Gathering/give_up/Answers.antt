use Rattle.std.proofs.Common.{rules, ◌≡◌, length}
use Rattle.ti_agent.specs.Gathering.{Gathered}
use Rattle.ti_agent.proofs.AtWork.{given_up_at_looks, given_up_at_stops}
use Rattle.ti_agent.specs.HousedTrace.{envs_of}
use Rattle.ti_agent.proofs.gathering.Gathering.give_up.Goals as goal

pub invariant_of-self : goal.invariant_of-self
invariant_of-self g c =
    let z : Gathered = record { began = envs_of c.self.inside.began.items; now = record { env = c.self.inside.env; state = c.self.inside.state; desks = c.self.inside.desks }; stopping = c.self.inside.stopping.items; places = c.self.inside.places.items; max_count = c.self.inside.max_count; is_alive_only = c.self.inside.is_alive_only; bufs = c.self.inside.bufs.items; infos = c.self.inside.infos.items; phase = c.self.inside.phase } in
    (given_up_at_stops z c.self.invariant.0 c.in-Stopping.stopped c.in-Stopping.is, c.self.invariant.1, c.self.invariant.2)

pub invariant_of-self-in-Seeing : goal.invariant_of-self-in-Seeing
invariant_of-self-in-Seeing g c =
    let z : Gathered = record { began = envs_of c.self.inside.began.items; now = record { env = c.self.inside.env; state = c.self.inside.state; desks = c.self.inside.desks }; stopping = c.self.inside.stopping.items; places = c.self.inside.places.items; max_count = c.self.inside.max_count; is_alive_only = c.self.inside.is_alive_only; bufs = c.self.inside.bufs.items; infos = c.self.inside.infos.items; phase = c.self.inside.phase } in
    let all : c.len.result ≡ length c.self.inside.stopping.items = search rules in
    (given_up_at_looks z c.self.invariant.0 c.in-Seeing.field-0 c.len.result c.in-Seeing.is all, c.self.invariant.1, c.self.invariant.2)
