-- The codes of calls about stops.
use Rattle.std.proofs.Common.{◌≡◌, ℕ, ap, ◌∙◌, refl, sym, subst, Bool, Option, Some, Result, Ok, Err}
use Rattle.std.specs.Prelude.{IfErr, OnOk}
use Rattle.ti_types.specs.declared.numbers.MethodNo.{MethodNo}
use Rattle.ti_stops.specs.declared.call.StopCall.{StopCall}
use Rattle.ti_stops.specs.declared.error.StopError.{StopError}
use Rattle.ti_service.specs.Memberships.{AgentValue}
use Rattle.ti_service.specs.Stops.{Breaks, BreaksNot}
use Rattle.ti_types.specs.declared.numbers.ThreadNo.{ThreadNo}
use Rattle.ti_thread.specs.AnyThread.{number_in}
use Rattle.ti_thread.specs.declared.host_thread.HostThread.{HostThread}
use Rattle.ti_service.specs.Service.{Member}
use Rattle.ti_capi.specs.Handles.{Handle, thread_in, with_held_thread}
use Rattle.ti_capi.specs.Stops.{BreaksBy, BreakDone, BreakRefused, ReachesBehind, ReachesFor, ReachesTo, call_of, code_of, with_own_service}
use Rattle.ti_capi.specs.declared.held.HeldThread.{HeldThread}
use Rattle.ti_capi.specs.declared.thread_stops.Reach.{Reach}

pub broken : (method : MethodNo) (at : ℕ) (c : StopCall) (s n : AgentValue) (res : Result (Unit {0}) StopError) (code : ℕ) → OnOk res (Breaks s n method at c) → IfErr res (λ e. BreaksNot s n method at c e) → code ≡ code_of res → BreaksBy method at c s n code
broken method at c s n res code done refused is = subst (λ (k : ℕ). BreaksBy method at c s n k) (sym is) (by_result res done refused)
  where
    by_result : (r : Result (Unit {0}) StopError) → OnOk r (Breaks s n method at c) → IfErr r (λ e. BreaksNot s n method at c e) → BreaksBy method at c s n (code_of r)
    by_result (Ok d) done refused = BreakDone refl done
    by_result (Err e) done refused = BreakRefused e refl refused

-- a call by the handle of the service beside a thread
pub reached : (old : Handle) (h : HeldThread) (t : HostThread) (m : Member) (w : Reach) (k : ThreadNo) (c : StopCall) (b0 b1 : Bool) (code : ℕ) → thread_in old ≡ Some h → h.thread ≡ Some t → c ≡ call_of w k → k ≡ number_in t.thread
    → ReachesFor c b0 b1 h.service m code → ReachesBehind (thread_in old) (Some (with_own_service h m)) w b0 b1 old (with_held_thread old (with_own_service h m)) code
reached old h t m w k c b0 b1 code is there called number says =
    let n : HeldThread = with_own_service h m in
    let own : ReachesFor (call_of w (number_in t.thread)) b0 b1 h.service m code = subst (λ (x : StopCall). ReachesFor x b0 b1 h.service m code) (called ∙ ap (call_of w) number) says in
    subst (λ (e : Option HeldThread). ReachesBehind e (Some n) w b0 b1 old (with_held_thread old n) code) (sym is)
    (refl, subst (λ (a : Option HostThread). ReachesTo a w b0 b1 h n code) (sym there) (refl, own))
