-- What the calls about stops say.
use Rattle.std.specs.Prelude.{ℕ, ◌≡◌, ◌⊎◌, ◌<◌, ◌≤◌, ◌==◌, ◌&&◌, ◌||◌, nat_lt, not, Bool, true, false, List, [], ◌∷◌, length, Ok, Err, IsSomeAnd, if◌then◌else◌}
use Rattle.std.specs.List.{list_any}
use Rattle.ti_types.specs.declared.numbers.MethodNo.{MethodNo}
use Rattle.ti_types.specs.declared.place.Frame.{Frame}
use Rattle.ti_types.specs.declared.place.Place.TheVariants.{Java}
use Rattle.ti_methods.specs.declared.info.ClassInfo.{ClassInfo}
use Rattle.ti_methods.specs.declared.info.MethodInfo.{MethodInfo}
use Rattle.ti_methods.specs.declared.info.LineEntry.{LineEntry}
use Rattle.ti_methods.specs.declared.info.Lines.{Lines}
use Rattle.ti_methods.specs.declared.info.Lines.TheVariants as lines
use Rattle.ti_methods.specs.Classes.{method_at, methods_in}
use Rattle.ti_stops.specs.declared.call.StopCall.{StopCall}
use Rattle.ti_stops.specs.declared.call.StopReply.{StopReply}
use Rattle.ti_stops.specs.declared.error.StopError.{StopError}
use Rattle.ti_stops.specs.declared.error.StopError.TheVariants as error
use Rattle.ti_stops.specs.Stops.{is_news, is_watched, outcome}
use Rattle.ti_roster.specs.declared.coming.Coming.{Coming}
use Rattle.ti_roster.specs.declared.coming.Coming.TheVariants.{Stop}
use Rattle.ti_roster.specs.declared.view.RosterView.{RosterView}
use Rattle.ti_roster.specs.Roster.{most_items}
use Rattle.ti_roster.specs.Stops.{stops_of}
use Rattle.ti_roster.specs.View.{AreWithin}
use Rattle.ti_service.specs.Agent.{IsSameBut}
use Rattle.ti_service.specs.Classes.{SeesClasses, classes_of}
use Rattle.ti_service.specs.Memberships.{AgentValue, state_of}
use Rattle.ti_service.specs.Service.{Holds, Looks, Member, with_look}

-- One look. It showed how much had happened: no less than was seen, or than any earlier look showed. No thread has to stop if it was
-- as much as was seen, and by that nobody is told of anything
pub record TellsWatch (old new : Member) (watched : Bool) : Type 0 where
  pub count : ℕ
  pub new_is : new ≡ with_look old count
  pub seen : length old.view.seen ≤ count
  pub looked : AreWithin count old.view.looked
  pub watched_is : watched ≡ (nat_lt (length old.view.seen) count || is_watched (stops_of old.view.seen))

-- One hold, in which a call took place. The reply is by what had happened, and the call is added if it changed something
pub record Calls (old new : RosterView) (call : StopCall) (r : StopReply) : Type 0 where
  pub found : List Coming
  pub hold : Holds old new found (if is_news r then Stop old.place call ∷ [] else [])
  pub reply_is : outcome (stops_of found) old.place call ≡ Ok r

-- Why a call did not take place, and what it left. The roster was in use; or one hold added nothing, since nothing more may happen,
-- there is no memory, or by what had happened
abbrev pub RefusedBy : RosterView → StopCall → StopError → Type 0
RefusedBy v call e = (e ≡ error.OutOfMemory) ⊎ (((e ≡ error.Full) × (most_items ≤ length v.seen)) ⊎ (outcome (stops_of v.seen) v.place call ≡ Err e))

abbrev pub RefusesHeld : Member → Member → StopCall → StopError → Type 0
RefusesHeld old new call e = (new.cell ≡ old.cell) × (Looks old.view new.view × RefusedBy new.view call e)

abbrev pub RefusesCall : Member → Member → StopCall → StopError → Type 0
RefusesCall old new call e = RefusesHeld old new call e ⊎ ((e ≡ error.Busy) × (new ≡ old))

-- an agent's call took place, and nothing but what its handle knows of the roster has changed
pub record AgentCalls (old new : AgentValue) (call : StopCall) (r : StopReply) : Type 0 where
  pub rest : IsSameBut (state_of old) (state_of new)
  pub calls : Calls old.home.service.view new.home.service.view call r

-- it did not, and nothing else has changed either
pub record AgentRefuses (old new : AgentValue) (call : StopCall) (e : StopError) : Type 0 where
  pub rest : IsSameBut (state_of old) (state_of new)
  pub refused : RefusesCall old.home.service new.home.service call e

-- Whether there may be a breakpoint at a location of a method. In a method with a table of lines, where an entry begins. In one without
-- a table, anywhere. In a native method, nowhere
abbrev pub begins_at : ℕ → LineEntry → Bool
begins_at at e = e.start_location == at

abbrev pub has_location : Lines → ℕ → Bool
has_location lines.Absent at = true
has_location lines.Locations at = true
has_location (lines.Table t) at = list_any (begins_at at) t.items

abbrev pub may_break : ℕ → MethodInfo → Bool
may_break at m = not m.is_native && has_location m.lines at

-- the method is there, and there may be a breakpoint
abbrev pub IsPlace : List ClassInfo → MethodNo → ℕ → Type 0
IsPlace log method at = IsSomeAnd (method_at log method) (λ m. may_break at m ≡ true)

-- why there may be none: no such method, no such location, one that is just being defined, or no memory for its lines
abbrev pub IsNoPlace : List ClassInfo → MethodNo → ℕ → StopError → Type 0
IsNoPlace log method at e =
    ((e ≡ error.InvalidMethod) × (length (methods_in log) ≤ method.0)) ⊎ (((e ≡ error.InvalidLocation) × IsSomeAnd (method_at log method) (λ m. may_break at m ≡ false))
    ⊎ (((e ≡ error.Busy) × (method.0 < length (methods_in log))) ⊎ (e ≡ error.OutOfMemory)))

-- a breakpoint was set or cleared where there may be one
pub record Breaks (old new : AgentValue) (method : MethodNo) (at : ℕ) (call : StopCall) : Type 0 where
  pub mid : AgentValue
  pub reply : StopReply
  pub sees : SeesClasses old mid
  pub place : IsPlace (classes_of mid) method at
  pub calls : AgentCalls mid new call reply

-- the calls at a location of a method
abbrev pub place_of : MethodNo → ℕ → Frame
place_of method at = record { method = method; place = Java at }

-- it was not: there may be none, or the call was refused
pub data BreaksNot (old new : AgentValue) (method : MethodNo) (at : ℕ) (call : StopCall) (e : StopError) : Type 0 where
  NoPlace : SeesClasses old new → IsNoPlace (classes_of new) method at e → BreaksNot old new method at call e
  Refused : (mid : AgentValue) → SeesClasses old mid → IsPlace (classes_of mid) method at → AgentRefuses mid new call e → BreaksNot old new method at call e
