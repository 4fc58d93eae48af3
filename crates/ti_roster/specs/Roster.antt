-- What the roster's calls say.
use Rattle.std.specs.Prelude.{ℕ, ◌≡◌, ◌<◌, ◌++◌, ◌==◌, ◌&&◌, nat_lt, All, Bool, true, false, is_some, if◌then◌else◌, length, List, [], ◌∷◌, Option, Some, None, slice_get}
use Rattle.std.specs.List.{fold}
use Rattle.ti_types.specs.declared.limits.Limits.{Limits}
use Rattle.ti_types.specs.declared.error.TiError.{TiError}
use Rattle.ti_types.specs.declared.error.TiError.TheVariants.{Full, InvalidEnvironment, InvalidThread, OutOfMemory, ThreadNotAlive}
use Rattle.ti_types.specs.declared.numbers.EnvNo.{EnvNo}
use Rattle.ti_types.specs.declared.numbers.ThreadNo.{ThreadNo}
use Rattle.ti_agent.specs.FreeDesk.{FreeState, IsClean}
use Rattle.ti_roster.specs.declared.coming.Coming.{Coming}
use Rattle.ti_roster.specs.declared.coming.Coming.TheVariants.{Met, GaveBack, Disposed}
use Rattle.ti_roster.specs.declared.info.ThreadInfo.{ThreadInfo}
use Rattle.ti_roster.specs.declared.newcomer.Newcomer.{Newcomer}
use Rattle.ti_roster.specs.Info.{IsSameInfo}
use Rattle.ti_roster.specs.Log.{Lies, Out, Log, came, is_live, lies, live, mark_of, threads_in, with_item, with_items}
use Rattle.ti_roster.specs.Rows.{AreLeft, IsAt}

-- how much may happen at most
abbrev pub most_items : ℕ
most_items = 4611686018427387903

-- whether one thing more may happen
abbrev pub has_room : Log → Bool
has_room r = nat_lt (length r.items) most_items

-- how many threads may come at most
abbrev pub most_threads : ℕ
most_threads = 4294967295

-- whether there is a number for one thread more
abbrev pub has_number : Log → Bool
has_number r = nat_lt (threads_in r.items) most_threads

-- each environment's place is taken
abbrev pub AreTaken : Log → Type 0
AreTaken r = (p : ℕ) → p < r.limits.envs → is_some (mark_of (record { 0 = p }) r.items) ≡ true

-- no environment has a place left
abbrev pub IsPlaceless : Log → Type 0
IsPlaceless r = length r.items < most_items → AreTaken r

-- why no thread came: there is no number for it, nothing more may happen, or there is no memory for it
abbrev pub coming_refusal : Log → TiError
coming_refusal r = if has_number r && has_room r then OutOfMemory else Full

-- why a thread is not there, or else this
abbrev pub missing_or : TiError → Log → ThreadNo → TiError
missing_or e r t = if is_live t r.items then e else if nat_lt t.0 (threads_in r.items) then ThreadNotAlive else InvalidThread

-- why nothing is told of a thread
abbrev pub info_refusal : Log → ThreadNo → TiError
info_refusal r t = missing_or OutOfMemory r t

-- the thread of a number that is there: it came under this number, and was not given back
pub record IsListed (r : Log) (t : ThreadNo) : Type 0 where
  pub who : Newcomer
  pub index : ℕ
  pub at : slice_get (live r.items) index ≡ Some who
  pub came_as : slice_get (came r.items) t.0 ≡ Some who

-- what was given when a thread that is there was attached
pub record IsToldOf (r : Log) (t : ThreadNo) (i : ThreadInfo) : Type 0 where
  pub index : ℕ
  pub one : Newcomer
  pub at : slice_get (live r.items) index ≡ Some one
  pub is : one.thread.0 ≡ t.0
  pub same : IsSameInfo i one.info

-- whether an environment of this service is served
abbrev pub serves_of : Option EnvNo → ℕ → Bool
serves_of (Some e) envs = nat_lt e.0 envs
serves_of None envs = false

abbrev pub serves : Log → Bool
serves r = serves_of r.user r.limits.envs

-- why an environment that is served meets nobody: nothing more may happen, or there is no memory
abbrev pub room_refusal : Log → TiError
room_refusal r = if has_room r then OutOfMemory else Full

-- why the roster's environment meets nobody: there is none, or one of the above
abbrev pub meeting_refusal : Log → TiError
meeting_refusal r = if serves r then room_refusal r else InvalidEnvironment

-- A desk is the environment's, and at the thread that came under its number. Nothing is left there of what environments did
pub record IsOwn (log : List Coming) (limits : Limits) (e : EnvNo) (f : FreeState) : Type 0 where
  pub at : IsAt f.desk.view.subject.thread f.desk.cell log
  pub env : f.desk.env ≡ e
  pub limits_are : f.desk.view.subject.limits ≡ limits
  pub clean : IsClean f

-- whether an environment has taken its desks at all of so many threads
abbrev pub is_up_to : ℕ → Option ℕ → Bool
is_up_to n (Some m) = m == n
is_up_to n None = false

abbrev pub has_met_all : EnvNo → List Coming → Bool
has_met_all e log = is_up_to (threads_in log) (mark_of e log)

-- what a meeting adds to what happened: nothing if no thread came since the last one
abbrev pub meeting : EnvNo → List Coming → List Coming
meeting e log = if has_met_all e log then [] else Met e (threads_in log) ∷ []

-- the environment that is served took these desks
abbrev pub HasMetOf : Option EnvNo → Log → Log → List FreeState → Type 0
HasMetOf None old new desks = ⊥
HasMetOf (Some e) old new desks =
    AreLeft old.items old.limits e (live old.items) desks × All (λ f. IsOwn old.items old.limits e f) desks × (new ≡ with_items old (meeting e old.items))

abbrev pub HasMet : Log → Log → List FreeState → Type 0
HasMet old new desks = HasMetOf old.user old new desks

-- a desk may go back: it is that of the environment that is served
pub record MayGoBack (r : Log) (f : FreeState) : Type 0 where
  pub served : r.user ≡ Some f.desk.env
  pub own : IsOwn r.items r.limits f.desk.env f

abbrev pub is_out : Lies → Bool
is_out Out = true
is_out _ = false

-- whether the row of its thread misses a desk
abbrev pub is_missed : Log → FreeState → Bool
is_missed r f = is_live f.desk.view.subject.thread r.items && is_out (lies f.desk.env f.desk.view.subject.thread r.items)

-- the roster with a desk that went back, if its row misses it
abbrev pub and_back : Log → FreeState → Log
and_back r f = if is_missed r f then with_item r (GaveBack f.desk.env f.desk.view.subject.thread) else r

-- the environment that was served is disposed of, and gave these desks back
abbrev pub HasDisposedOf : Option EnvNo → Log → Log → List FreeState → Type 0
HasDisposedOf None old new desks = ⊥
HasDisposedOf (Some e) old new desks = new ≡ record { items = (fold and_back old desks).items ++ Disposed e ∷ []; limits = old.limits; user = None }

abbrev pub HasDisposed : Log → Log → List FreeState → Type 0
HasDisposed old new desks = HasDisposedOf old.user old new desks
