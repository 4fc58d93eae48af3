use Rattle.std.proofs.Common.{[]}
use Rattle.std.proofs.lemmas.List.Sorted.{All-permutation}
use Rattle.ti_agent.specs.Env.{Environment}
use Rattle.ti_roster.specs.Roster.{IsOwn}
use Rattle.ti_service.proofs.Homes.{held_home, home_of_ours, ours_of, ours_took}
use Rattle.ti_service.proofs.agent_meetings.take_desks.Goals as goal

pub invariant_of-agent : goal.invariant_of-agent
invariant_of-agent g c =
    let at = c.agent.inside in
    let s : Environment = record { env = at.env; state = at.state; desks = at.desks } in
    let waits = at.home.waiting.items in
    (c.agent.invariant.0, held_home at.home.service c.meet.new.self s waits c.meet.new.self.view.seen [] c.in_err-desks.ensures.unchanged c.agent.invariant.1)

pub invariant_of-agent-2 : goal.invariant_of-agent-2
invariant_of-agent-2 g c =
    let at = c.agent.inside in
    let s : Environment = record { env = at.env; state = at.state; desks = at.desks } in
    let waits = at.home.waiting.items in
    let back = c.reverse.new.self.items in
    let o = ours_of at.home.service s waits c.agent.invariant.1.0 c.agent.invariant.1.1 in (
      c.agent.invariant.0,
      home_of_ours c.meet.new.self s back
          (ours_took at.home.service c.meet.new.self s waits c.in_ok-desks.desks.items back c.in_ok-desks.next c.in_ok-desks.ensures.taken
          (All-permutation (IsOwn c.meet.new.self.view.seen c.meet.new.self.view.limits at.env) c.in_ok-desks.desks.items back c.reverse.ensures.permutation) o),
    )
