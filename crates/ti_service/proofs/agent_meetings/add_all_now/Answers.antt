use Rattle.std.proofs.Common.{rules, ◌≡◌, ◌⊎◌, ◌<◌, ◌≤◌, inl, inr, suc, length, refl, subst, arith}
use Rattle.std.proofs.lemmas.Bool.Decides.{nat_tests}
use Rattle.ti_types.specs.declared.error.TiError.{TiError}
use Rattle.ti_types.specs.declared.error.TiError.TheVariants.{Busy}
use Rattle.ti_service.specs.Agent.{AgentState, IsWhyNot}
use Rattle.ti_service.specs.Meeting.{AddsNot, HasNoRoom, StopsAmid}
use Rattle.ti_service.specs.Meeting.AddsNot.{NoRoom, Refused}
use Rattle.ti_service.specs.Memberships.{state_of}
use Rattle.ti_service.proofs.Meetings.{fewer_left}
use Rattle.ti_service.proofs.Moves.{if_err}
use Rattle.ti_service.proofs.agent_meetings.add_all_now.Goals.{In-Full}
use Rattle.ti_service.proofs.agent_meetings.add_all_now.Goals as goal

-- there was no room for the next desk
no_room : (c : In-Full) → HasNoRoom (state_of c.loop-error.agent) (state_of c.add_waiting.new.agent)
no_room c = (c.in-Err.ensures.adds, subst (λ (e : TiError). IsWhyNot (state_of c.add_waiting.new.agent) e) c.in-Full.is c.in-Err.ensures.refused)

pub returns-in_default-error-clause-refused : goal.returns-in_default-error-clause-refused
returns-in_default-error-clause-refused c =
    let at : AgentState = state_of c.loop-error.agent in
    inl (Refused at (c.loop-error.invariant at (0, refl)) c.in-Err.ensures.adds c.in-Err.ensures.refused c.in_default-error.not-Full)

pub returns-in_err-make_room_now-clause-refused : goal.returns-in_err-make_room_now-clause-refused
returns-in_err-make_room_now-clause-refused c =
    let old : AgentState = state_of c.args.agent.now in
    let at : AgentState = state_of c.loop-error.agent in
    let new : AgentState = state_of c.make_room_now.new.agent in
    let busy = c.in_err-make_room_now.ensures.busy in
    let stops : StopsAmid old new = record { mid = at; room = c.loop-error.invariant at (0, refl); full = state_of c.add_waiting.new.agent; no_room = no_room (goal.at.returns-in_err-make_room_now-clause-refused c).In-Full; goes = busy.1 } in
    if_err (λ (e : TiError). AddsNot old new e ⊎ ((e ≡ Busy) × StopsAmid old new)) c.from_residual.result c.in_err-make_room_now.field-0.0 (search rules) (inr (busy.0, stops))

pub returns-then-not-branch-clause-refused : goal.returns-then-not-branch-clause-refused
returns-then-not-branch-clause-refused c =
    let at : AgentState = state_of c.loop-error.agent in
    let full : AgentState = state_of c.add_waiting.new.agent in
    let same : length full.env.desks ≤ length c.make_room_now.new.agent.env.desks = grind (arith, nat_tests, c.in_ok-make_room_now.ensures.fewer, c.if-not-branch.true) in
    inl (NoRoom at full (c.loop-error.invariant at (0, refl)) (no_room (goal.at.returns-then-not-branch-clause-refused c).In-Full) c.in_ok-make_room_now.ensures.steps same refl)

pub loop-error-smaller : goal.loop-error-smaller
loop-error-smaller c =
    let full : AgentState = state_of c.add_waiting.new.agent in
    let fewer : length c.make_room_now.new.agent.env.desks < length full.env.desks = grind (arith, nat_tests, c.in_ok-make_room_now.ensures.fewer, c.if-not-branch.false) in
    fewer_left (state_of c.loop-error.agent) full (state_of c.make_room_now.new.agent) c.in-Err.ensures.adds c.in_ok-make_room_now.ensures.steps fewer

pub loop-error-preserved : goal.loop-error-preserved
loop-error-preserved c =
    let full : AgentState = state_of c.add_waiting.new.agent in
    let fewer : length c.make_room_now.new.agent.env.desks < length full.env.desks = grind (arith, nat_tests, c.in_ok-make_room_now.ensures.fewer, c.if-not-branch.false) in
    λ new below. c.loop-error.invariant new (suc below.0, (full, state_of c.make_room_now.new.agent, no_room (goal.at.loop-error-preserved c).In-Full, c.in_ok-make_room_now.ensures.steps, fewer, below.1))

pub returns-clause-added : goal.returns-clause-added
returns-clause-added c =
    let at : AgentState = state_of c.loop-error.agent in
    record { mid = at; room = c.loop-error.invariant at (0, refl); adds = c.add_waiting.ensures.adds; none_waits = c.in_default.ensures.done }
