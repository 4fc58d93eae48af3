-- Breakpoints that the service has, and where a thread stands.
use Rattle.std.specs.Prelude.{ℕ, pos, ◌≡◌, ◌≤◌, ◌<◌, ◌⊎◌, ◌++◌, ◌∷◌, true, false, List, Option, Some, None, Result, Ok, Err, IsSomeAnd}
use Rattle.std.specs.List.{All}
use Rattle.ti_types.specs.declared.answer.Answer.TheVariants as answer
use Rattle.ti_types.specs.declared.call.Call.TheVariants as call
use Rattle.ti_types.specs.declared.numbers.MethodNo.{MethodNo}
use Rattle.ti_types.specs.declared.numbers.ThreadNo.{ThreadNo}
use Rattle.ti_types.specs.declared.place.Frame.{Frame}
use Rattle.ti_types.specs.declared.place.Place.{Place}
use Rattle.ti_types.specs.declared.place.Place.TheVariants as place
use Rattle.ti_slot.specs.declared.asked.Asked.TheVariants.{Answered}
use Rattle.ti_agent.specs.Posts.{Posts}
use Rattle.ti_jdwp.specs.declared.error.JdwpError.{JdwpError}
use Rattle.ti_jdwp.specs.declared.error.JdwpError.TheVariants as wire
use Rattle.ti_jdwp.specs.declared.stops.Standing.{Standing}
use Rattle.ti_methods.specs.Classes.{IsDeclaredBy, RefusesMethod, method_at}
use Rattle.ti_methods.specs.declared.error.ClassError.{ClassError}
use Rattle.ti_methods.specs.declared.info.ClassInfo.{ClassInfo}
use Rattle.ti_methods.specs.declared.info.ClassNo.{ClassNo}
use Rattle.ti_methods.specs.declared.info.LineEntry.{LineEntry}
use Rattle.ti_methods.specs.declared.info.Lines.{Lines}
use Rattle.ti_methods.specs.declared.info.Lines.TheVariants as lines
use Rattle.ti_stops.specs.declared.call.StopCall.{StopCall}
use Rattle.ti_stops.specs.declared.call.StopCall.TheVariants.{Enable, SetBreakpoint}
use Rattle.ti_stops.specs.declared.call.StopReply.{StopReply}
use Rattle.ti_stops.specs.declared.error.StopError.{StopError}
use Rattle.ti_stops.specs.declared.error.StopError.TheVariants.{Duplicate}
use Rattle.ti_stops.specs.declared.kind.StopKind.{StopKind}
use Rattle.ti_stops.specs.declared.kind.StopKind.TheVariants.{Breakpoint, FramePop, SingleStep}
use Rattle.ti_service.specs.Classes.{SeesClasses, classes_of}
use Rattle.ti_service.specs.Memberships.{AgentValue}
use Rattle.ti_service.specs.Stops.{AgentCalls, AgentRefuses, Breaks, BreaksNot, place_of}
use Rattle.ti_debugger.specs.declared.refusal.Refusal.{Refusal}
use Rattle.ti_debugger.specs.declared.refusal.Refusal.TheVariants as refusal
use Rattle.ti_debugger.specs.declared.stopping.Spot.{Spot}
use Rattle.ti_debugger.specs.Refusals.{class_refusal}
use Rattle.ti_debugger.specs.Stopping.{stop_refusal}

abbrev pub method_of : Spot → MethodNo
method_of spot = record { 0 = spot.method }

abbrev pub breakpoint_at : Spot → StopCall
breakpoint_at spot = SetBreakpoint (place_of (method_of spot) spot.index)

-- The agent looked which class declares the method, and it is the one that is named.
pub record IsOfClass (spot : Spot) (old new : AgentValue) : Type 0 where
  pub looked : SeesClasses old new
  pub declared : IsDeclaredBy (classes_of new) (method_of spot) (record { 0 = spot.class })

-- It looked, and there is no such method, or another class declares it; or it is just being defined.
pub data IsNotOfClass (spot : Spot) (old new : AgentValue) (r : Refusal) : Type 0 where
  NoMethod : (e : ClassError) → SeesClasses old new → RefusesMethod (classes_of new) (method_of spot) e → r ≡ class_refusal e → IsNotOfClass spot old new r
  OfAnother : (class : ClassNo) → SeesClasses old new → IsDeclaredBy (classes_of new) (method_of spot) class → (class.0 ≡ spot.class → ⊥) → r ≡ refusal.Error wire.InvalidMethodId
      → IsNotOfClass spot old new r

-- the agent is told of this kind of stop from now on, at one thread or at all
abbrev pub Hears : StopKind → Option ThreadNo → AgentValue → AgentValue → Type 0
Hears kind thread old new = (reply : StopReply) × AgentCalls old new (Enable kind thread) reply

-- the service refused that
abbrev pub HearsNot : StopKind → Option ThreadNo → AgentValue → AgentValue → Refusal → Type 0
HearsNot kind thread old new r = (e : StopError) × AgentRefuses old new (Enable kind thread) e × (r ≡ stop_refusal e)

-- The class declares the method, the agent is told of breakpoints, and then the service set this one, or said that the agent had set
-- it before. Each step begins with the agent that the one before it left.
pub record IsSet (spot : Spot) (old new : AgentValue) : Type 0 where
  pub asked : AgentValue
  pub before : AgentValue
  pub class : IsOfClass spot old asked
  pub hears : Hears Breakpoint None asked before
  pub set : Breaks before new (method_of spot) spot.index (breakpoint_at spot) ⊎ BreaksNot before new (method_of spot) spot.index (breakpoint_at spot) Duplicate

-- Why it is not set: the class does not declare the method, there is no memory, or the service refused one of the two calls. That the
-- agent has set it before is no such reason.
pub data IsNotSet (spot : Spot) (old new : AgentValue) (r : Refusal) : Type 0 where
  NotOfClass : IsNotOfClass spot old new r → IsNotSet spot old new r
  NoMemory : IsOfClass spot old new → r ≡ refusal.Error wire.OutOfMemory → IsNotSet spot old new r
  NotHeard : (asked : AgentValue) → IsOfClass spot old asked → HearsNot Breakpoint None asked new r → IsNotSet spot old new r
  NotSet : (asked before : AgentValue) (e : StopError) → IsOfClass spot old asked → Hears Breakpoint None asked before
      → BreaksNot before new (method_of spot) spot.index (breakpoint_at spot) e → (e ≡ Duplicate → ⊥) → r ≡ stop_refusal e → IsNotSet spot old new r

-- what a session is told of a breakpoint: that it is set, or why it is not
abbrev pub IsPlacedAs : Result (Unit {0}) JdwpError → Spot → AgentValue → AgentValue → Type 0
IsPlacedAs (Ok done) spot old new = IsSet spot old new
IsPlacedAs (Err error) spot old new = IsNotSet spot old new (refusal.Error error)

-- The entry of a table that says the line of a location begins there or before, and none that does begins later. If several begin at
-- the same location, it is the last of them.
pub record IsNearest (entries : List LineEntry) (index : ℕ) (entry : LineEntry) : Type 0 where
  pub front : List LineEntry
  pub back : List LineEntry
  pub there : entries ≡ front ++ entry ∷ back
  pub begins : entry.start_location ≤ index
  pub before : All (λ e. e.start_location ≤ index → e.start_location ≤ entry.start_location) front
  pub behind : All (λ e. e.start_location ≤ index → e.start_location < entry.start_location) back

-- such an entry, if there is one
abbrev pub IsEntryAt : List LineEntry → ℕ → Option LineEntry → Type 0
IsEntryAt entries index None = All (λ e. index < e.start_location) entries
IsEntryAt entries index (Some entry) = IsNearest entries index entry

-- the line of a location by a table
abbrev pub IsLineBy : List LineEntry → ℕ → Option ℕ → Type 0
IsLineBy entries index None = IsEntryAt entries index None
IsLineBy entries index (Some line) = (entry : LineEntry) × IsNearest entries index entry × (line ≡ entry.line)

-- the line of a location by these lines: where they are absent it has none, or the location is its line
abbrev pub IsLineAt : Lines → ℕ → Option ℕ → Type 0
IsLineAt lines.Absent index line = line ≡ None
IsLineAt lines.Locations index line = line ≡ Some index
IsLineAt (lines.Table table) index line = IsLineBy table.items index line

-- the line of a location of a method, as the method was defined; a native one has none
abbrev pub IsLineIn : List ClassInfo → MethodNo → ℕ → Option ℕ → Type 0
IsLineIn log method index line = IsSomeAnd (method_at log method) (λ m. ((m.is_native ≡ true) × (line ≡ None)) ⊎ ((m.is_native ≡ false) × IsLineAt m.lines index line))

-- the agent looked for the line at which a frame is, which has none in native code
abbrev pub TellsLine : Place → MethodNo → AgentValue → AgentValue → Option ℕ → Type 0
TellsLine (place.Java index) method old new line = SeesClasses old new × IsLineIn (classes_of new) method index line
TellsLine place.Native method old new line = (new ≡ old) × (line ≡ None)

-- The thread told how many frames it has, and then where the newest is. The line is that of this place.
pub record Stands (thread : ℕ) (old new : AgentValue) (s : Standing) : Type 0 where
  pub counted : AgentValue
  pub located : AgentValue
  pub frame : Frame
  pub frames : Posts old.env counted.env (record { 0 = thread }) call.FrameCount (Answered (answer.Count s.frames))
  pub counts : counted.home ≡ old.home
  pub newest : Posts counted.env located.env (record { 0 = thread }) (call.Location (pos 0)) (Answered (answer.Location frame))
  pub locates : located.home ≡ counted.home
  pub method : s.method ≡ frame.method.0
  pub line : TellsLine frame.place frame.method located new s.line

-- From then on it makes single steps, and the agent is told of the frames that it leaves.
pub record Steps (thread : ℕ) (old new : AgentValue) (s : Standing) : Type 0 where
  pub stood : AgentValue
  pub stepping : AgentValue
  pub stands : Stands thread old stood s
  pub steps : Hears SingleStep (Some (record { 0 = thread })) stood stepping
  pub pops : Hears FramePop (Some (record { 0 = thread })) stepping new

-- what a session is told of where a thread stands that is to step; nothing is said of an error
abbrev pub StandsAs : Option Standing → ℕ → AgentValue → AgentValue → Type 0
StandsAs None thread old new = Unit {0}
StandsAs (Some s) thread old new = Steps thread old new s
