-- An agent stays at home over a call about stops.
use Rattle.std.proofs.Common.{inl, inr, sym, subst, List, [], ◌∷◌, Result, Ok, Err}
use Rattle.std.specs.List.{All}
use Rattle.std.specs.Prelude.{IfErr, IfOk, if◌then◌else◌}
use Rattle.ti_agent.specs.Env.{Environment}
use Rattle.ti_agent.specs.FreeDesk.{FreeState}
use Rattle.ti_agent.specs.Spots.{spots_of}
use Rattle.ti_stops.specs.declared.call.StopCall.{StopCall}
use Rattle.ti_stops.specs.declared.call.StopReply.{StopReply}
use Rattle.ti_stops.specs.declared.error.StopError.{StopError}
use Rattle.ti_stops.specs.Stops.{is_news}
use Rattle.ti_roster.specs.declared.coming.Coming.TheVariants.{Stop}
use Rattle.ti_service.specs.Homes.{HasCome, IsHomeOf}
use Rattle.ti_service.specs.Service.{Member}
use Rattle.ti_service.specs.Stops.{Calls, RefusesCall, RefusesHeld}
use Rattle.ti_service.proofs.Homes.{held_home}
use Rattle.ti_methods.specs.declared.info.Lines.TheVariants as lines

pub stop_home : (s s' : Member) (env : Environment) (waits : List FreeState) (call : StopCall) (res : Result StopReply StopError) → IfOk res (λ r. Calls s.view s'.view call r) → IfErr res (λ e. RefusesCall s s' call e)
    → IsHomeOf s waits env.env env.state.limits × All (HasCome s.view.seen) (spots_of env.desks) → IsHomeOf s' waits env.env env.state.limits × All (HasCome s'.view.seen) (spots_of env.desks)
stop_home s s' env waits call (Ok r) took refused k = held_home s s' env waits took.found (if is_news r then Stop s.view.place call ∷ [] else []) took.hold k
stop_home s s' env waits call (Err e) took (inl held) k = held_home s s' env waits s'.view.seen [] held.1.0 k
stop_home s s' env waits call (Err e) took (inr busy) k = subst (λ (m : Member). IsHomeOf m waits env.env env.state.limits × All (HasCome m.view.seen) (spots_of env.desks)) (sym busy.1) k

pub as_refused : (s s' : Member) (call : StopCall) (res : Result StopReply StopError) → IfErr res (λ e. RefusesHeld s s' call e) → IfErr res (λ e. RefusesCall s s' call e)
as_refused s s' call (Ok r) held = held
as_refused s s' call (Err e) held = inl held
