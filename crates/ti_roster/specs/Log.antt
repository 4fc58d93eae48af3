-- What happened to a service's threads and environments.
use Rattle.std.specs.Prelude.{ℕ, ◌==◌, ◌&&◌, nat_lt, not, Bool, false, length, if◌then◌else◌, List, [], ◌∷◌, ◌++◌, Option, Some, None}
use Rattle.std.specs.List.{fold, filter, list_any}
use Rattle.ti_types.specs.declared.limits.Limits.{Limits}
use Rattle.ti_types.specs.declared.numbers.EnvNo.{EnvNo}
use Rattle.ti_types.specs.declared.numbers.ThreadNo.{ThreadNo}
use Rattle.ti_roster.specs.declared.coming.Coming.{Coming}
use Rattle.ti_roster.specs.declared.newcomer.Newcomer.{Newcomer}
use Rattle.ti_roster.specs.declared.coming.Coming.TheVariants.{Came, Started, Ended, Left, Attached, Met, GaveBack, Disposed, Stop}

-- a roster: what happened, the earliest first, the limits, and whose seat it goes to when it is put back
pub record Log : Type 0 where
  pub items : List Coming
  pub limits : Limits
  pub user : Option EnvNo

-- the roster with one more coming or going
abbrev pub with_item : Log → Coming → Log
with_item r x = record { items = r.items ++ x ∷ []; limits = r.limits; user = r.user }

-- the roster with these comings and goings besides
abbrev pub with_items : Log → List Coming → Log
with_items r more = record { items = r.items ++ more; limits = r.limits; user = r.user }

-- the roster in the service of an environment
abbrev pub with_user : Log → EnvNo → Log
with_user r e = record { items = r.items; limits = r.limits; user = Some e }

-- each thread that came, as it was attached
abbrev pub came_after : List Newcomer → Coming → List Newcomer
came_after l (Came n) = l ++ n ∷ []
came_after l _ = l

abbrev pub came : List Coming → List Newcomer
came log = fold came_after [] log

-- how many threads came
abbrev pub threads_in : List Coming → ℕ
threads_in log = length (came log)

-- What is noted of an environment's place: nothing while no environment has it. Otherwise the environment has taken its
-- desks at the threads below this number
abbrev pub mark_after : EnvNo → Option ℕ → Coming → Option ℕ
mark_after e mark (Came n) = mark
mark_after e mark (Started t) = mark
mark_after e mark (Ended t) = mark
mark_after e mark (Left t) = mark
mark_after e mark (Attached f) = if f.0 == e.0 then Some 0 else mark
mark_after e mark (Met f m) = if f.0 == e.0 then Some m else mark
mark_after e mark (GaveBack f t) = if f.0 == e.0 then Some 0 else mark
mark_after e mark (Disposed f) = if f.0 == e.0 then None else mark
mark_after e mark (Stop o call) = mark

abbrev pub mark_of : EnvNo → List Coming → Option ℕ
mark_of e log = fold (mark_after e) None log

-- whether this is about an environment's place, or a call about stops that was made from there
abbrev pub is_about : EnvNo → Coming → Bool
is_about e (Came n) = false
is_about e (Started t) = false
is_about e (Ended t) = false
is_about e (Left t) = false
is_about e (Attached f) = f.0 == e.0
is_about e (Met f m) = f.0 == e.0
is_about e (GaveBack f t) = f.0 == e.0
is_about e (Disposed f) = f.0 == e.0
is_about e (Stop None call) = false
is_about e (Stop (Some f) call) = f.0 == e.0

-- all that happened to an environment's place, and all that it asked about stops
abbrev pub noted : EnvNo → List Coming → List Coming
noted e log = filter (is_about e) log

-- where the desk for an environment's place is that is at a thread: in the thread's row and unused; with an environment that
-- took it; or in the row again
pub data Lies : Type 0 where
  Unused : Lies
  Out : Lies
  Returned : Lies

abbrev pub lies_after : EnvNo → ThreadNo → Lies → Coming → Lies
lies_after e t l (Came n) = l
lies_after e t l (Started u) = l
lies_after e t l (Ended u) = l
lies_after e t l (Left u) = l
lies_after e t l (Attached f) = l
lies_after e t l (Met f m) = if f.0 == e.0 && nat_lt t.0 m then Out else l
lies_after e t l (GaveBack f u) = if f.0 == e.0 && u.0 == t.0 then Returned else l
lies_after e t l (Disposed f) = l
lies_after e t l (Stop o call) = l

abbrev pub lies : EnvNo → ThreadNo → List Coming → Lies
lies e t log = fold (lies_after e t) Unused log

abbrev pub is_thread : ThreadNo → Newcomer → Bool
is_thread t n = n.thread.0 == t.0

abbrev pub is_other : ThreadNo → Newcomer → Bool
is_other t n = not (is_thread t n)

-- the threads that are there, in the order of their numbers: each one that came, and was not given back
abbrev pub live_after : List Newcomer → Coming → List Newcomer
live_after l (Came n) = l ++ n ∷ []
live_after l (Left t) = filter (is_other t) l
live_after l _ = l

abbrev pub live : List Coming → List Newcomer
live log = fold live_after [] log

-- whether a thread of this number is there
abbrev pub is_live : ThreadNo → List Coming → Bool
is_live t log = list_any (is_thread t) (live log)
