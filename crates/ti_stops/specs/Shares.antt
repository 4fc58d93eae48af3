-- What one environment is told of stops, over a whole list of calls: a function of its own calls, and of where threads come.
use Rattle.std.specs.Prelude.{ℕ, ◌≡◌, ◌==◌, ◌&&◌, not, Bool, true, false, if◌then◌else◌, List, Option, Some, Result, Ok, Err}
use Rattle.std.specs.List.{fold, filter, list_any}
use Rattle.ti_types.specs.declared.numbers.EnvNo.{EnvNo}
use Rattle.ti_types.specs.declared.numbers.MethodNo.{MethodNo}
use Rattle.ti_types.specs.declared.numbers.ThreadNo.{ThreadNo}
use Rattle.ti_types.specs.declared.place.Frame.{Frame}
use Rattle.ti_stops.specs.declared.call.StopCall.{StopCall}
use Rattle.ti_stops.specs.declared.call.StopCall.TheVariants.{Enable, Disable, SetBreakpoint, ClearBreakpoint, NotifyFramePop, Next, LetGo, Reached, Leaves, IsStopped, MayStopIn}
use Rattle.ti_stops.specs.declared.call.StopReply.{StopReply}
use Rattle.ti_stops.specs.declared.error.StopError.{StopError}
use Rattle.ti_stops.specs.declared.lists.Waiting.{Waiting}
use Rattle.ti_stops.specs.Lists.{is_among, is_env, is_mode_of, is_breakpoint_of, is_pop_of, waits_at, waits_for}
use Rattle.ti_stops.specs.Stops.{StopsNow, after, is_news, left_by, may_stop_in, no_stops, outcome, reached_by, stops_for, without_env, without_thread}
use Rattle.ti_stops.specs.Own.{is_other}

-- What happens to stops: a call that is made, by an environment or by a runtime; an environment that is disposed of; a thread
-- that is given back
pub data Happens : Type 0 where
  Made : (by : Option EnvNo) → (call : StopCall) → Happens
  Disposed : (env : EnvNo) → Happens
  Left : (thread : ThreadNo) → Happens

-- a call that is answered with news takes place; any other changes nothing
abbrev pub made_with : StopsNow → Option EnvNo → StopCall → Result StopReply StopError → StopsNow
made_with s o call (Ok r) = if is_news r then after s o call else s
made_with s o call (Err e) = s

abbrev pub happened : StopsNow → Happens → StopsNow
happened s (Made o call) = made_with s o call (outcome s o call)
happened s (Disposed e) = without_env s e
happened s (Left t) = without_thread s t

abbrev pub all_happened : List Happens → StopsNow
all_happened hs = fold happened no_stops hs

-- the share of one environment: what it asked for, and what waits for it
abbrev pub share : EnvNo → StopsNow → StopsNow
share e s = record {
  envs = filter (is_env e) s.envs;
  modes = filter (is_mode_of e) s.modes;
  breakpoints = filter (is_breakpoint_of e) s.breakpoints;
  pops = filter (is_pop_of e) s.pops;
  waiting = filter (waits_for e) s.waiting;
}

-- whether a call counts for an environment: its own, and where a thread comes to
abbrev pub call_counts : EnvNo → Option EnvNo → StopCall → Bool
call_counts e o (Reached t at) = true
call_counts e o (Leaves t at n) = true
call_counts e o (IsStopped t) = false
call_counts e o (MayStopIn t m n) = false
call_counts e o (Enable k t) = not (is_other e o)
call_counts e o (Disable k t) = not (is_other e o)
call_counts e o (SetBreakpoint at) = not (is_other e o)
call_counts e o (ClearBreakpoint at) = not (is_other e o)
call_counts e o (NotifyFramePop t n) = not (is_other e o)
call_counts e o Next = not (is_other e o)
call_counts e o (LetGo t) = not (is_other e o)

abbrev pub counts : EnvNo → Happens → Bool
counts e (Made o call) = call_counts e o call
counts e (Disposed f) = f.0 == e.0
counts e (Left t) = true

-- An environment has the share that its own calls leave, the places that threads reach, and the frames that they leave, whatever
-- others ask for
abbrev pub SharesAreOwn : Type 0
SharesAreOwn = (e : EnvNo) (hs : List Happens) → share e (all_happened hs) ≡ share e (all_happened (filter (counts e) hs))

-- an environment's own calls
abbrev pub is_envs : StopCall → Bool
is_envs (Reached t at) = false
is_envs (Leaves t at n) = false
is_envs (IsStopped t) = false
is_envs (MayStopIn t m n) = false
is_envs _ = true

-- an environment's call is answered by its share alone
abbrev pub SharesAnswer : Type 0
SharesAnswer = (s : StopsNow) (e : EnvNo) (call : StopCall) → is_envs call ≡ true → outcome s (Some e) call ≡ outcome (share e s) (Some e) call

-- Two runs in which an environment makes the same calls, and threads reach the same places and leave the same frames. Then each
-- of its calls is answered the same in both
abbrev pub StopsAgree : Type 0
StopsAgree =
    (e : EnvNo) (one other : List Happens) (call : StopCall) →
    is_envs call ≡ true →
    filter (counts e) one ≡ filter (counts e) other →
    outcome (all_happened one) (Some e) call ≡ outcome (all_happened other) (Some e) call

-- a stop of the thread waits for the environment
abbrev pub is_wait_of : EnvNo → ThreadNo → Waiting → Bool
is_wait_of e t w = w.env.0 == e.0 && w.stop.thread.0 == t.0

abbrev pub waits_of : EnvNo → ThreadNo → StopsNow → Bool
waits_of e t s = list_any (is_wait_of e t) s.waiting

-- whether this may end what a thread waits for: the environment lets it go or is disposed of, or the thread is given back
abbrev pub may_end : EnvNo → ThreadNo → Happens → Bool
may_end e t (Made o (LetGo u)) = not (is_other e o) && u.0 == t.0
may_end e t (Made o call) = false
may_end e t (Disposed f) = f.0 == e.0
may_end e t (Left u) = u.0 == t.0

-- a thread that waits for an environment goes on waiting, whatever others do, and has to wait for that
-- A thread stops in a method, at a location or as it leaves a frame, only if it may stop in one of the methods that are asked about
abbrev pub StopsWhereItMay : Type 0
StopsWhereItMay =
    (s : StopsNow) (t : ThreadNo) (first : MethodNo) (n : ℕ) (at : Frame) → is_among first n at.method ≡ true
    → (stops_for (reached_by s t at) s.envs ≡ true → may_stop_in s t first n ≡ true)
    × ((k : ℕ) → stops_for (left_by s t at k) s.envs ≡ true → may_stop_in s t first n ≡ true)

abbrev pub WaitsUntilEnded : Type 0
WaitsUntilEnded =
    (e : EnvNo) (t : ThreadNo) (s : StopsNow) (more : List Happens) →
    waits_of e t s ≡ true → list_any (may_end e t) more ≡ false →
    (waits_of e t (fold happened s more) ≡ true) × (list_any (waits_at t) (fold happened s more).waiting ≡ true)
