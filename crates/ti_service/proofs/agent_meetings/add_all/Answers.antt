use Rattle.std.proofs.Common.{◌<◌, ◌≤◌, suc, length, refl, subst, arith}
use Rattle.std.proofs.lemmas.Bool.Decides.{nat_tests}
use Rattle.ti_types.specs.declared.error.TiError.{TiError}
use Rattle.ti_service.specs.Agent.{AgentState, IsWhyNot}
use Rattle.ti_service.specs.Meeting.{HasNoRoom}
use Rattle.ti_service.specs.Meeting.AddsNot.{NoRoom, Refused}
use Rattle.ti_service.specs.Memberships.{state_of}
use Rattle.ti_service.proofs.Meetings.{fewer_left}
use Rattle.ti_service.proofs.agent_meetings.add_all.Given.{Over}
use Rattle.ti_service.proofs.agent_meetings.add_all.Goals.{In-Full}
use Rattle.ti_service.proofs.agent_meetings.add_all.Goals as goal

-- there was no room for the next desk
no_room : (g : Over) (c : In-Full g) → HasNoRoom (state_of c.loop-error.agent) (state_of c.add_waiting.new.agent)
no_room g c = (c.in-Err.ensures.adds, subst (λ (e : TiError). IsWhyNot (state_of c.add_waiting.new.agent) e) c.in-Full.is c.in-Err.ensures.refused)

pub returns-in_default-error-clause-refused : goal.returns-in_default-error-clause-refused
returns-in_default-error-clause-refused g c =
    let at : AgentState = state_of c.loop-error.agent in
    Refused at (c.loop-error.invariant at (0, refl)) c.in-Err.ensures.adds c.in-Err.ensures.refused c.in_default-error.not-Full

pub returns-then-not-make_room-clause-refused : goal.returns-then-not-make_room-clause-refused
returns-then-not-make_room-clause-refused g c =
    let at : AgentState = state_of c.loop-error.agent in
    let full : AgentState = state_of c.add_waiting.new.agent in
    let same : length full.env.desks ≤ length c.make_room.new.agent.env.desks = grind (arith, nat_tests, c.make_room.ensures.fewer, c.if-not-make_room.true) in
    NoRoom at full (c.loop-error.invariant at (0, refl)) (no_room g (goal.at.returns-then-not-make_room-clause-refused g c).In-Full) c.make_room.ensures.steps same refl

pub loop-error-smaller : goal.loop-error-smaller
loop-error-smaller g c =
    let full : AgentState = state_of c.add_waiting.new.agent in
    let fewer : length c.make_room.new.agent.env.desks < length full.env.desks = grind (arith, nat_tests, c.make_room.ensures.fewer, c.if-not-make_room.false) in
    fewer_left (state_of c.loop-error.agent) full (state_of c.make_room.new.agent) c.in-Err.ensures.adds c.make_room.ensures.steps fewer

pub loop-error-preserved : goal.loop-error-preserved
loop-error-preserved g c =
    let full : AgentState = state_of c.add_waiting.new.agent in
    let fewer : length c.make_room.new.agent.env.desks < length full.env.desks = grind (arith, nat_tests, c.make_room.ensures.fewer, c.if-not-make_room.false) in
    λ new below. c.loop-error.invariant new (suc below.0, (full, state_of c.make_room.new.agent, no_room g (goal.at.loop-error-preserved g c).In-Full, c.make_room.ensures.steps, fewer, below.1))

pub returns-clause-added : goal.returns-clause-added
returns-clause-added g c =
    let at : AgentState = state_of c.loop-error.agent in
    record { mid = at; room = c.loop-error.invariant at (0, refl); adds = c.add_waiting.ensures.adds; none_waits = c.in_default.ensures.done }
