use Rattle.std.proofs.Common.{rules, subst}
use Rattle.ti_types.specs.declared.error.TiError.{TiError}
use Rattle.ti_service.specs.Agent.{AgentState}
use Rattle.ti_service.specs.Meeting.{AddsAll, AddsNot, Keeps}
use Rattle.ti_service.specs.Meeting.Keeps.{NotAdded, TookNone, TookSome}
use Rattle.ti_service.specs.Memberships.{state_of}
use Rattle.ti_service.proofs.Moves.{if_err}
use Rattle.ti_service.proofs.agent_calls.EnvMembershipServiceCalls.meet.Goals as goal

pub returns-clause-met : goal.returns-clause-met
returns-clause-met g c = record {
  first = state_of c.add_all.new.agent;
  adds = subst (λ (a : AgentState). AddsAll a (state_of c.add_all.new.agent)) c.begin_meeting.ensures c.in_ok-add_all.ensures.added;
  taken = state_of c.take_desks.new.agent;
  next = c.in_ok-next.next;
  takes = c.in_ok-next.ensures.taken;
  last = state_of c.add_all-2.new.agent;
  adds_taken = c.in_ok-add_all-2.ensures.added;
  new_is = c.end_meeting.ensures;
}

pub returns-in_err-add_all-clause-kept : goal.returns-in_err-add_all-clause-kept
returns-in_err-add_all-clause-kept g c =
    let old : AgentState = state_of c.args.self.now in
    let new : AgentState = state_of c.add_all.new.agent in
    let e : TiError = c.in_err-add_all.field-0.0 in
    if_err (λ (e : TiError). Keeps old new e) c.from_residual.result e (search rules) (NotAdded (subst (λ (a : AgentState). AddsNot a new e) c.begin_meeting.ensures c.in_err-add_all.ensures.refused))

pub returns-in_err-next-clause-kept : goal.returns-in_err-next-clause-kept
returns-in_err-next-clause-kept g c =
    let old : AgentState = state_of c.args.self.now in
    let first : AgentState = state_of c.add_all.new.agent in
    let new : AgentState = state_of c.take_desks.new.agent in
    let adds = subst (λ (a : AgentState). AddsAll a first) c.begin_meeting.ensures c.in_ok-add_all.ensures.added in
    if_err (λ (e : TiError). Keeps old new e) c.from_residual-in_err-next.result c.in_err-next.field-0.0 (search rules) (TookNone first adds c.in_err-next.ensures.refused)

pub returns-in_err-add_all-2-clause-kept : goal.returns-in_err-add_all-2-clause-kept
returns-in_err-add_all-2-clause-kept g c =
    let old : AgentState = state_of c.args.self.now in
    let first : AgentState = state_of c.add_all.new.agent in
    let new : AgentState = state_of c.add_all-2.new.agent in
    let adds = subst (λ (a : AgentState). AddsAll a first) c.begin_meeting.ensures c.in_ok-add_all.ensures.added in
    if_err (λ (e : TiError). Keeps old new e) c.from_residual-in_err-add_all-2.result c.in_err-add_all-2.field-0.0 (search rules)
    (TookSome first (state_of c.take_desks.new.agent) c.in_ok-next.next adds c.in_ok-next.ensures.taken c.in_err-add_all-2.ensures.refused)
