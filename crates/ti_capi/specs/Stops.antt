-- Stops of threads, as C makes the calls about them.
use Rattle.std.specs.Prelude.{ℕ, ◌≡◌, ◌⊎◌, ◌+◌, ◌==◌, Bool, true, false, Option, Some, None, Result, Ok, Err, [], ◌∷◌, slice_get, if◌then◌else◌}
use Rattle.ti_types.specs.TiError.{number_of}
use Rattle.ti_types.specs.declared.error.TiError.TheVariants.{IllegalArgument}
use Rattle.ti_types.specs.declared.numbers.MethodNo.{MethodNo}
use Rattle.ti_types.specs.declared.numbers.ThreadNo.{ThreadNo}
use Rattle.ti_stops.specs.declared.call.StopCall.{StopCall}
use Rattle.ti_stops.specs.declared.call.StopCall.TheVariants as call
use Rattle.ti_stops.specs.declared.call.StopReply.{StopReply}
use Rattle.ti_stops.specs.declared.call.StopReply.TheVariants.{Stops, Told, Waits}
use Rattle.ti_stops.specs.declared.error.StopError.{StopError}
use Rattle.ti_stops.specs.declared.kind.StopKind.{StopKind}
use Rattle.ti_stops.specs.declared.kind.StopKind.TheVariants as kind
use Rattle.ti_stops.specs.declared.stop.Stop.{Stop}
use Rattle.ti_stops.specs.Errors.{number_of as stop_number_of}
use Rattle.ti_service.specs.Memberships.{AgentValue}
use Rattle.ti_service.specs.Service.{Member, TellsCount}
use Rattle.ti_service.specs.Stops.{AgentCalls, AgentRefuses, Breaks, BreaksNot, Calls, RefusesCall, TellsWatch}
use Rattle.ti_thread.specs.AnyThread.{number_in}
use Rattle.ti_thread.specs.declared.host_thread.HostThread.{HostThread}
use Rattle.ti_capi.specs.declared.held.HeldThread.{HeldThread}
use Rattle.ti_capi.specs.declared.thread_stops.Reach.{Reach}
use Rattle.ti_capi.specs.declared.thread_stops.Reach.TheVariants as reach
use Rattle.ti_capi.specs.declared.values.CqStop.{CqStop}
use Rattle.ti_capi.specs.Codes.{misused, none_told}
use Rattle.ti_capi.specs.Handles.{Handle, with_held_thread}
use Rattle.ti_capi.specs.Values.{location_of}

-- An environment's call about stops took place, or why it did not (`ti_service`, `StopCalls::stop_now`)
pub data StopsBy (c : StopCall) (s n : AgentValue) (code : ℕ) : Type 0 where
  StopDone : (r : StopReply) → code ≡ 0 → AgentCalls s n c r → StopsBy c s n code
  StopRefused : (e : StopError) → code ≡ stop_number_of e → AgentRefuses s n c e → StopsBy c s n code

-- a breakpoint is set or cleared (`ti_service`, `StopCalls::set_breakpoint_now`)
pub data BreaksBy (method : MethodNo) (at : ℕ) (c : StopCall) (s n : AgentValue) (code : ℕ) : Type 0 where
  BreakDone : code ≡ 0 → Breaks s n method at c → BreaksBy method at c s n code
  BreakRefused : (e : StopError) → code ≡ stop_number_of e → BreaksNot s n method at c e → BreaksBy method at c s n code

-- the code of what is done or refused
abbrev pub code_of : Result (Unit {0}) StopError → ℕ
code_of (Ok d) = 0
code_of (Err e) = stop_number_of e

abbrev pub thread_no : ℕ → ThreadNo
thread_no n = record { 0 = n }

-- the kinds of stops, by number
abbrev pub kind_read : ℕ → Option StopKind
kind_read n = slice_get (kind.Breakpoint ∷ kind.SingleStep ∷ kind.FramePop ∷ []) n

-- one thread, or all
abbrev pub thread_read : ℕ → Option ThreadNo
thread_read n = if n == 4294967295 then None else Some (record { 0 = n })

abbrev pub mode_call : Bool → StopKind → Option ThreadNo → StopCall
mode_call true k t = call.Enable k t
mode_call false k t = call.Disable k t

-- an environment is told of a kind of stop from now on, or no more. Nothing changes if there is no such kind
abbrev pub ModesFor : Bool → Option StopKind → Option ThreadNo → AgentValue → AgentValue → ℕ → Type 0
ModesFor enabled (Some k) t s n code = StopsBy (mode_call enabled k t) s n code
ModesFor enabled None t s n code = (n ≡ s) × (code ≡ number_of IllegalArgument)

abbrev pub bit : Bool → ℕ → ℕ
bit b n = if b then n else 0

-- a stop as C has it
abbrev pub stop_written : Stop → CqStop
stop_written x = record { thread = x.thread.0; method = x.at.method.0; location = location_of x.at.place; why = bit x.breakpoint 1 + bit x.single_step 2 + bit x.frame_pop 4 }

-- the next stop of an environment is told, there is none, or why it is not told
pub data NextStopBy (x0 x1 : CqStop) (s n : AgentValue) (code : ℕ) : Type 0 where
  StopTold : (x : Stop) → code ≡ 0 → AgentCalls s n call.Next (Told (Some x)) → x1 ≡ stop_written x → NextStopBy x0 x1 s n code
  NoStop : code ≡ none_told → AgentCalls s n call.Next (Told None) → x1 ≡ x0 → NextStopBy x0 x1 s n code
  StopUntold : (e : StopError) → code ≡ stop_number_of e → AgentRefuses s n call.Next e → x1 ≡ x0 → NextStopBy x0 x1 s n code

-- what a thread reached or may reach, as a call
abbrev pub call_of : Reach → ThreadNo → StopCall
call_of (reach.At f) t = call.Reached t f
call_of (reach.Leaving f n) t = call.Leaves t f n
call_of reach.Waiting t = call.IsStopped t
call_of (reach.Within m n) t = call.MayStopIn t m n

abbrev pub says : Bool → StopReply → Type 0
says b r = (r ≡ Stops b) ⊎ (r ≡ Waits b)

-- the runtime is told whether the thread has to wait, or may have to, or why it is not told
pub data ReachesFor (c : StopCall) (b0 b1 : Bool) (m n : Member) (code : ℕ) : Type 0 where
  ReachTold : (r : StopReply) → code ≡ 0 → n.cell ≡ m.cell → Calls m.view n.view c r → says b1 r → ReachesFor c b0 b1 m n code
  ReachUntold : (e : StopError) → code ≡ stop_number_of e → RefusesCall m n c e → b1 ≡ b0 → ReachesFor c b0 b1 m n code

-- the handle of the service beside a thread has made a call, and nothing else of the box has changed
abbrev pub with_own_service : HeldThread → Member → HeldThread
with_own_service h m = record { service = m; thread = h.thread; frames = h.frames }

abbrev pub ReachesTo : Option HostThread → Reach → Bool → Bool → HeldThread → HeldThread → ℕ → Type 0
ReachesTo (Some t) w b0 b1 old new code = (new ≡ with_own_service old new.service) × ReachesFor (call_of w (number_in t.thread)) b0 b1 old.service new.service code
ReachesTo None w b0 b1 old new code = (new ≡ old) × (code ≡ misused) × (b1 ≡ b0)

-- the same behind a handle: if it is empty or of another kind, nothing changes
abbrev pub ReachesBehind : Option HeldThread → Option HeldThread → Reach → Bool → Bool → Handle → Handle → ℕ → Type 0
ReachesBehind (Some h) (Some n) w b0 b1 old new code = (new ≡ with_held_thread old n) × ReachesTo h.thread w b0 b1 h n code
ReachesBehind (Some h) None w b0 b1 old new code = ⊥
ReachesBehind None n w b0 b1 old new code = (new ≡ old) × (code ≡ misused) × (b1 ≡ b0)

-- one look at what the service's handle beside a thread has seen
abbrev pub LooksTo : {X : Type 0} → (Member → Member → X → Type 0) → HeldThread → HeldThread → X → Type 0
LooksTo tells old new x = (new ≡ with_own_service old new.service) × tells old.service new.service x

-- the same behind a handle: if it is empty or of another kind, nothing changes, and this is told
abbrev pub LooksBehind : {X : Type 0} → X → (Member → Member → X → Type 0) → Option HeldThread → Option HeldThread → Handle → Handle → X → Type 0
LooksBehind otherwise tells (Some h) (Some n) old new x = (new ≡ with_held_thread old n) × LooksTo tells h n x
LooksBehind otherwise tells (Some h) None old new x = ⊥
LooksBehind otherwise tells None n old new x = (new ≡ old) × (x ≡ otherwise)

abbrev pub MayStopBehind : Option HeldThread → Option HeldThread → Handle → Handle → Bool → Type 0
MayStopBehind h n old new may = LooksBehind false TellsWatch h n old new may

abbrev pub VersionBehind : Option HeldThread → Option HeldThread → Handle → Handle → ℕ → Type 0
VersionBehind h n old new version = LooksBehind 0 TellsCount h n old new version
