use Rattle.std.proofs.Common.{rules, ◌≡◌, ◌⊎◌, inl, inr, ap, subst}
use Rattle.ti_types.specs.declared.error.TiError.{TiError}
use Rattle.ti_types.specs.declared.error.TiError.TheVariants.{Busy}
use Rattle.ti_service.specs.Agent.{AgentState}
use Rattle.ti_service.specs.Meeting.{AddsAll, AddsNot, KeepsNow, StopsAmid, TakesNone}
use Rattle.ti_service.specs.Memberships.{AgentValue, state_of}
use Rattle.ti_service.proofs.Meetings.{first_kept, last_kept, took_none}
use Rattle.ti_service.proofs.Moves.{if_err}
use Rattle.ti_service.proofs.agent_tries.EnvMembershipServiceTries.meet_now.Goals as goal

pub returns-clause-met : goal.returns-clause-met
returns-clause-met c = record {
  first = state_of c.add_all_now.new.agent;
  adds = subst (λ (a : AgentState). AddsAll a (state_of c.add_all_now.new.agent)) c.begin_meeting.ensures c.in_ok-add_all_now.ensures.added;
  taken = state_of c.take_desks_now.new.agent;
  next = c.in_ok-next.next;
  takes = c.in_ok-next.ensures.taken;
  last = state_of c.add_all_now-2.new.agent;
  adds_taken = c.in_ok-add_all_now-2.ensures.added;
  new_is = c.end_meeting.ensures;
}

pub returns-in_err-add_all_now-clause-kept : goal.returns-in_err-add_all_now-clause-kept
returns-in_err-add_all_now-clause-kept c =
    let old : AgentState = state_of c.args.self.now in
    let new : AgentState = state_of c.add_all_now.new.agent in
    let e : TiError = c.in_err-add_all_now.field-0.0 in
    if_err (λ (e : TiError). KeepsNow old new e) c.from_residual.result e (search rules)
    (first_kept old new e (subst (λ (a : AgentState). AddsNot a new e ⊎ ((e ≡ Busy) × StopsAmid a new)) c.begin_meeting.ensures c.in_err-add_all_now.ensures.refused))

pub returns-in_err-next-clause-kept : goal.returns-in_err-next-clause-kept
returns-in_err-next-clause-kept c =
    let old : AgentState = state_of c.args.self.now in
    let first : AgentState = state_of c.add_all_now.new.agent in
    let new : AgentState = state_of c.take_desks_now.new.agent in
    let e : TiError = c.in_err-next.field-0.0 in
    let adds = subst (λ (a : AgentState). AddsAll a first) c.begin_meeting.ensures c.in_ok-add_all_now.ensures.added in
    if_err (λ (e : TiError). KeepsNow old new e) c.from_residual-in_err-next.result e (search rules) (took_none old first new e adds (as_state c.add_all_now.new.agent c.take_desks_now.new.agent e c.in_err-next.ensures.refused))
  where
    as_state : (a b : AgentValue) (e : TiError) → TakesNone (state_of a) (state_of b) e ⊎ ((e ≡ Busy) × (b ≡ a)) → TakesNone (state_of a) (state_of b) e ⊎ ((e ≡ Busy) × (state_of b ≡ state_of a))
    as_state a b e (inl none) = inl none
    as_state a b e (inr busy) = inr (busy.0, ap state_of busy.1)

pub returns-in_err-add_all_now-2-clause-kept : goal.returns-in_err-add_all_now-2-clause-kept
returns-in_err-add_all_now-2-clause-kept c =
    let old : AgentState = state_of c.args.self.now in
    let first : AgentState = state_of c.add_all_now.new.agent in
    let taken : AgentState = state_of c.take_desks_now.new.agent in
    let new : AgentState = state_of c.add_all_now-2.new.agent in
    let e : TiError = c.in_err-add_all_now-2.field-0.0 in
    let adds = subst (λ (a : AgentState). AddsAll a first) c.begin_meeting.ensures c.in_ok-add_all_now.ensures.added in
    if_err (λ (e : TiError). KeepsNow old new e) c.from_residual-in_err-add_all_now-2.result e (search rules) (last_kept old first taken new c.in_ok-next.next e adds c.in_ok-next.ensures.taken c.in_err-add_all_now-2.ensures.refused)
