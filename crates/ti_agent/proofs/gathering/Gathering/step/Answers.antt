use Rattle.std.proofs.Common.{rules, ◌≡◌, ◌≤◌, length, arith}
use Rattle.ti_agent.specs.Gathering.{Gathered}
use Rattle.ti_agent.proofs.AtWork.{all_read, all_seen, all_stopped}
use Rattle.ti_agent.specs.HousedTrace.{envs_of}
use Rattle.ti_agent.proofs.gathering.Gathering.step.Given.{Over}
use Rattle.ti_agent.proofs.gathering.Gathering.step.Goals.{After-len-count}
use Rattle.ti_agent.proofs.gathering.Gathering.step.Goals as goal

-- the trace as its fields have it
abbrev trace : (g : Over) (c : After-len-count g) → Gathered
trace g c = record { began = envs_of c.self.inside.began.items; now = record { env = c.self.inside.env; state = c.self.inside.state; desks = c.self.inside.desks }; stopping = c.self.inside.stopping.items; places = c.self.inside.places.items; max_count = c.self.inside.max_count; is_alive_only = c.self.inside.is_alive_only; bufs = c.self.inside.bufs.items; infos = c.self.inside.infos.items; phase = c.self.inside.phase }

count : (g : Over) (c : After-len-count g) → c.len-count.result ≡ length (trace g c).stopping
count g c = search rules

pub invariant_of-self : goal.invariant_of-self
invariant_of-self g c =
    let l = (goal.at.invariant_of-self g c).After-len-count in
    (all_stopped (trace g l) c.self.invariant.0 c.in-Stopping.stopped c.in-Stopping.is (omega (arith, count g l, c.if-stopped-count.false)), c.self.invariant.1, c.self.invariant.2)

pub invariant_of-self-in-Seeing-2 : goal.invariant_of-self-in-Seeing-2
invariant_of-self-in-Seeing-2 g c =
    let l = (goal.at.invariant_of-self-in-Seeing-2 g c).After-len-count in
    (all_seen (trace g l) c.self.invariant.0 c.in-Seeing.seen c.in-Seeing.is (omega (arith, count g l, c.if-seen-count.false)), c.self.invariant.1, c.self.invariant.2)

pub invariant_of-self-in-Reading-2 : goal.invariant_of-self-in-Reading-2
invariant_of-self-in-Reading-2 g c =
    let l = (goal.at.invariant_of-self-in-Reading-2 g c).After-len-count in
    let read : length (trace g l).places ≤ length (trace g l).infos = search rules in
    (all_read (trace g l) c.self.invariant.0 c.in-Reading.is read, c.self.invariant.1, c.self.invariant.2)
