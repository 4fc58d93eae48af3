-- A handle of the service, and what its calls say.
use Rattle.std.specs.Prelude.{All, ℕ, ◌≡◌, ◌+◌, ◌<◌, ◌≤◌, ◌++◌, nat_lt, Bool, false, length, List, [], ◌∷◌, Option, Some, None}
use Rattle.std.specs.List.{fold}
use Rattle.atomic_table.specs.Seated.{TableId}
use Rattle.ti_types.specs.Least.{least}
use Rattle.ti_types.specs.declared.caps.Caps.{Caps}
use Rattle.ti_types.specs.declared.error.TiError.{TiError}
use Rattle.ti_types.specs.declared.error.TiError.TheVariants.{Full}
use Rattle.ti_types.specs.declared.numbers.EnvNo.{EnvNo}
use Rattle.ti_types.specs.declared.numbers.ThreadNo.{ThreadNo}
use Rattle.ti_agent.specs.FreeDesk.{FreeState}
use Rattle.ti_cell.specs.Seats.{Sitting as ThreadSitting}
use Rattle.ti_cell.specs.View.{newcomer, subject_of}
use Rattle.ti_methods.specs.Classes.{Known}
use Rattle.ti_roster.specs.declared.coming.Coming.{Coming}
use Rattle.ti_roster.specs.declared.coming.Coming.TheVariants.{Came, Attached, Disposed}
use Rattle.ti_roster.specs.declared.info.ThreadInfo.{ThreadInfo}
use Rattle.ti_roster.specs.declared.view.RosterView.{RosterView}
use Rattle.ti_roster.specs.Log.{Log, live, mark_of, threads_in}
use Rattle.ti_roster.specs.Roster.{IsOwn, IsPlaceless, and_back, info_refusal, meeting}
use Rattle.ti_roster.specs.Rows.{AreLeft}
use Rattle.ti_roster.specs.Rule.{Begins, Claims}
use Rattle.ti_roster.specs.Seats.{Sitting}
use Rattle.ti_roster.specs.View.{AreWithin, first_view, glanced, splitter}

-- Which service it is: the cell of its roster, the table of its classes, and the capabilities that its environments can have.
-- With it the classes that a handle has seen
pub record Base : Type 0 where
  pub roster : TableId
  pub classes : Known
  pub potential : Caps

abbrev pub base_of : TableId → Known → Caps → Base
base_of roster classes potential = record { roster = roster; classes = classes; potential = potential }

-- a handle: which service it is of, and what it knows of the roster
pub record Member : Type 0 where
  pub cell : Base
  pub view : RosterView

-- the handle has its seat between calls
abbrev pub member_in : Base → Option Sitting → Member
member_in cell (Some s) = record { cell = cell; view = s.view }
member_in cell None = record { cell = cell; view = first_view least }

abbrev pub IsThere : Base → Option Sitting → Type 0
IsThere cell (Some s) = s.cell ≡ cell.roster
IsThere cell None = ⊥

-- the roster as a handle has seen it
abbrev pub roster_of : RosterView → List Coming → Log
roster_of v items = record { items = items; limits = v.limits; user = v.place }

abbrev pub roster_seen : RosterView → Log
roster_seen v = roster_of v v.seen

-- the handle after one more look, at which so much had happened
abbrev pub with_look : Member → ℕ → Member
with_look m count = record { cell = m.cell; view = glanced m.view count }

-- the handle once it has seen these classes
abbrev pub with_classes : Member → Known → Member
with_classes m classes = record { cell = base_of m.cell.roster classes m.cell.potential; view = m.view }

-- the handle after one more was made from it
abbrev pub with_handle : Member → Member
with_handle m = record { cell = m.cell; view = splitter m.view }

-- One look. It showed how much had happened: no less than was seen, or than any earlier look showed
pub record TellsCount (old new : Member) (count : ℕ) : Type 0 where
  pub new_is : new ≡ with_look old count
  pub seen : length old.view.seen ≤ count
  pub looked : AreWithin count old.view.looked

-- One look. It showed how much had happened: no less than was seen, or than any earlier look showed. There is news exactly if
-- it was more than was seen
pub record TellsNews (old new : Member) (news : Bool) : Type 0 where
  pub count : ℕ
  pub new_is : new ≡ with_look old count
  pub seen : length old.view.seen ≤ count
  pub looked : AreWithin count old.view.looked
  pub news_is : news ≡ nat_lt (length old.view.seen) count

-- One hold of the roster. It found this list, and added these. The list begins with what the handle had seen, and is as long
-- as each of its looks showed
pub record Holds (old new : RosterView) (found more : List Coming) : Type 0 where
  pub begins : Begins found old.seen
  pub claims : Claims found old.place old.seen
  pub looked : AreWithin (length found) old.looked
  pub new_is : new ≡ record { limits = old.limits; seen = found ++ more; found = found; looked = old.looked; taken = old.taken + 1; made = old.made; holds = false; place = old.place }

-- a hold that added nothing
abbrev pub Looks : RosterView → RosterView → Type 0
Looks old new = Holds old new new.seen []

-- A thread came: its number is how many came before it
pub record Attaches (old new : RosterView) (info : ThreadInfo) (fresh : ThreadSitting) : Type 0 where
  pub found : List Coming
  pub hold : Holds old new found (Came (record { thread = record { 0 = threads_in found }; info = info; cell = fresh.cell }) ∷ [])
  pub fresh_is : fresh.view ≡ newcomer (subject_of old.limits (record { 0 = threads_in found })) 0 (old.limits.envs + 1)

-- nothing was told of it, for this reason
pub record RefusesInfo (old new : RosterView) (t : ThreadNo) (e : TiError) : Type 0 where
  pub looks : Looks old new
  pub why : e ≡ info_refusal (roster_seen new) t

-- Why no environment came, and what it left. No handle could be made for it; or one was made and let go of, since the roster
-- had no place for an environment
pub data RefusesPlace (old new : Member) (e : TiError) : Type 0 where
  NoHandle : e ≡ Full → new ≡ old → RefusesPlace old new e
  NoPlace : e ≡ Full → new ≡ with_handle old → (found : List Coming) → Begins found old.view.seen → IsPlaceless (roster_of old.view found) → RefusesPlace old new e

-- an environment came, at one of the places of the limits, which was nobody's
pub record Claimed (old new : RosterView) (e : EnvNo) : Type 0 where
  pub found : List Coming
  pub begins : Begins found old.seen
  pub looked : AreWithin (length found) old.looked
  pub there : e.0 < old.limits.envs
  pub free : mark_of e found ≡ None
  pub new_is : new ≡ record { limits = old.limits; seen = found ++ Attached e ∷ []; found = found; looked = old.looked; taken = old.taken + 1; made = old.made; holds = false; place = Some e }

-- an environment took its desks at the threads that came since it last did, and are there
pub record TakesDesks (old new : RosterView) (desks : List FreeState) (next : ℕ) : Type 0 where
  pub env : EnvNo
  pub place : old.place ≡ Some env
  pub found : List Coming
  pub hold : Holds old new found (meeting env found)
  pub desks_are : AreLeft found old.limits env (live found) desks
  pub own : All (IsOwn found old.limits env) desks
  pub next_is : next ≡ threads_in found

-- an environment may give these desks back: they are its own
pub record MayLeave (v : RosterView) (desks : List FreeState) : Type 0 where
  pub env : EnvNo
  pub place : v.place ≡ Some env
  pub there : env.0 < v.limits.envs
  pub own : All (IsOwn v.seen v.limits env) desks

-- What happened once an environment is disposed of. Each of its desks went back into the row of its thread, if the thread is
-- there. Then its place was free
abbrev pub left_log : Log → EnvNo → List FreeState → List Coming
left_log r e desks = (fold and_back r desks).items ++ Disposed e ∷ []

-- an environment was disposed of, and gave these desks back
pub record Leaves (old new : RosterView) (desks : List FreeState) : Type 0 where
  pub env : EnvNo
  pub place : old.place ≡ Some env
  pub found : List Coming
  pub begins : Begins found old.seen
  pub claims : Claims found old.place old.seen
  pub looked : AreWithin (length found) old.looked
  pub new_is : new ≡ record { limits = old.limits; seen = left_log (roster_of old found) env desks; found = found; looked = old.looked; taken = old.taken + 1; made = old.made; holds = false; place = None }
