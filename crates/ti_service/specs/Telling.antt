-- An agent that is told of events.
use Rattle.std.specs.Prelude.{ℕ, zero, suc, ◌≡◌, ◌<◌, Bool, true, is_some, length, Option, Some, None}
use mathlib.Core.List.{IsPrefix}
use Rattle.ti_methods.specs.declared.error.ClassError.{ClassError}
use Rattle.ti_methods.specs.declared.info.ClassNo.{ClassNo}
use Rattle.ti_methods.specs.Classes.{RefusesLook}
use Rattle.ti_roster.specs.declared.life_event.LifeKind.{LifeKind}
use Rattle.ti_roster.specs.declared.life_event.LifeKind.TheVariants as life
use Rattle.ti_roster.specs.declared.life_event.NextLife.{NextLife}
use Rattle.ti_roster.specs.declared.life_modes.LifeModes.{LifeModes}
use Rattle.ti_roster.specs.Events.{AreInOrder, life_of}
use Rattle.ti_roster.specs.Modes.{first_index, no_modes, since, told_of, with_next, with_since}
use Rattle.ti_service.specs.declared.event.EventKind.{EventKind}
use Rattle.ti_service.specs.declared.event.EventKind.TheVariants as kind
use Rattle.ti_service.specs.declared.event.Event.TheVariants as event
use Rattle.ti_service.specs.declared.event.EventModes.{EventModes}
use Rattle.ti_service.specs.declared.event.NextEvent.{NextEvent}
use Rattle.ti_service.specs.Agent.{AgentState}
use Rattle.ti_service.specs.Service.{Looks, Member, with_classes}

-- the kind of an event of a thread's life
abbrev pub life_kind : EventKind → Option LifeKind
life_kind kind.ThreadStart = Some life.ThreadStart
life_kind kind.ThreadEnd = Some life.ThreadEnd
life_kind kind.ClassPrepare = None
life_kind kind.ThreadAttached = Some life.ThreadAttached
life_kind kind.ThreadDetached = Some life.ThreadDetached

abbrev pub IsLife : EventKind → Type 0
IsLife k = is_some (life_kind k) ≡ true

-- all kinds are disabled
abbrev pub no_events : EventModes
no_events = record { life = no_modes; class = None }

-- the same modes, with others for threads' lives, or another class that is told next
abbrev pub with_life : EventModes → LifeModes → EventModes
with_life m l = record { life = l; class = m.class }

abbrev pub with_class : EventModes → Option ℕ → EventModes
with_class m c = record { life = m.life; class = c }

-- whether a kind is enabled
abbrev pub is_enabled_by : EventModes → Option LifeKind → Bool
is_enabled_by m (Some k) = is_some (since m.life k)
is_enabled_by m None = is_some m.class

abbrev pub is_enabled : EventModes → EventKind → Bool
is_enabled m k = is_enabled_by m (life_kind k)

-- the modes in which a kind is disabled
abbrev pub without_by : EventModes → Option LifeKind → EventModes
without_by m (Some k) = with_life m (with_since m.life k None)
without_by m None = with_class m None

abbrev pub without : EventModes → EventKind → EventModes
without m k = without_by m (life_kind k)

-- the agent with these modes
abbrev pub with_events : AgentState → EventModes → AgentState
with_events a events = record { service = a.service; env = a.env; waiting = a.waiting; events = events; unmet = a.unmet }

-- One hold, from which on the agent is told of each event of this kind: what had happened before is not told
pub record EnablesLife (k : LifeKind) (old new : AgentState) : Type 0 where
  pub hold : Looks old.service.view new.service.view
  pub cell : new.service.cell ≡ old.service.cell
  pub env : new.env ≡ old.env
  pub waiting : new.waiting ≡ old.waiting
  pub events : new.events ≡ with_life old.events (with_since old.events.life k (Some (length (life_of new.service.view.seen))))
  pub unmet : new.unmet ≡ old.unmet

-- the handle has seen which classes there are, and is otherwise as it was
pub record SeesMore (old new : Member) : Type 0 where
  pub service : new ≡ with_classes old new.cell.classes
  pub book : new.cell.classes.book ≡ old.cell.classes.book
  pub grows : IsPrefix old.cell.classes.seen new.cell.classes.seen

-- One look, from which on the agent is told of each class: those that it sees now are not told
pub record EnablesClasses (old new : AgentState) : Type 0 where
  pub sees : SeesMore old.service new.service
  pub env : new.env ≡ old.env
  pub waiting : new.waiting ≡ old.waiting
  pub events : new.events ≡ with_class old.events (Some (length new.service.cell.classes.seen))
  pub unmet : new.unmet ≡ old.unmet

abbrev pub EnablesBy : Option LifeKind → AgentState → AgentState → Type 0
EnablesBy (Some k) = EnablesLife k
EnablesBy None = EnablesClasses

abbrev pub Enables : EventKind → AgentState → AgentState → Type 0
Enables k = EnablesBy (life_kind k)

-- One hold, in which the agent is told of the first event of a thread's life that is kept, whose kind is enabled, and that happened
-- since: since the kind was enabled, and since the event that was told last. It is an event of the list of what happened, in which
-- each event is once, and those of a thread's life have their order
pub record LooksForLife (old new : AgentState) (told : Option NextLife) : Type 0 where
  pub hold : Looks old.service.view new.service.view
  pub cell : new.service.cell ≡ old.service.cell
  pub env : new.env ≡ old.env
  pub waiting : new.waiting ≡ old.waiting
  pub told_is : told ≡ (told_of (life_of new.service.view.seen) old.events.life).told
  pub events : new.events ≡ with_life old.events (with_next old.events.life (told_of (life_of new.service.view.seen) old.events.life).next)
  pub order : AreInOrder (life_of new.service.view.seen)
  pub unmet : new.unmet ≡ old.unmet

-- without a kind that is enabled, nothing happens
abbrev pub IsLifeEnabled : AgentState → Type 0
IsLifeEnabled a = is_some (first_index a.events.life) ≡ true

abbrev pub TellsLifeFrom : Option ℕ → AgentState → AgentState → Option NextLife → Type 0
TellsLifeFrom None old new told = (new ≡ old) × (told ≡ None)
TellsLifeFrom (Some from) old new told = LooksForLife old new told

abbrev pub TellsLife : AgentState → AgentState → Option NextLife → Type 0
TellsLife old new told = TellsLifeFrom (first_index old.events.life) old new told

-- The class of this number is told, and the next one is told next. Or it is not told: no class has the number, or its definition has
-- not ended
abbrev pub FindsClass : ℕ → AgentState → AgentState → Option ClassNo → Type 0
FindsClass next old new (Some c) = (c ≡ record { 0 = next }) × (next < length new.service.cell.classes.seen) × (new.events ≡ with_class old.events (Some (suc next)))
FindsClass next old new None = (new.events ≡ old.events) × (e : ClassError) × RefusesLook new.service.cell.classes.seen (record { 0 = next }) e

-- one look for the class of this number
pub record LooksForClass (next : ℕ) (old new : AgentState) (told : Option ClassNo) : Type 0 where
  pub sees : SeesMore old.service new.service
  pub env : new.env ≡ old.env
  pub waiting : new.waiting ≡ old.waiting
  pub found : FindsClass next old new told
  pub unmet : new.unmet ≡ old.unmet

abbrev pub TellsClassFrom : Option ℕ → AgentState → AgentState → Option ClassNo → Type 0
TellsClassFrom None old new told = (new ≡ old) × (told ≡ None)
TellsClassFrom (Some next) old new told = LooksForClass next old new told

abbrev pub TellsClass : AgentState → AgentState → Option ClassNo → Type 0
TellsClass old new told = TellsClassFrom old.events.class old new told

-- a class, as an event
abbrev pub class_event : Option ClassNo → Option NextEvent
class_event (Some c) = Some (record { event = event.ClassPrepare c; lost = 0 })
class_event None = None

-- The agent is told of an event of a thread's life. Or there is none, and it is told of a class, or of nothing
pub data TellsNext (old new : AgentState) (told : Option NextEvent) : Type 0 where
  ToldLife : (n : NextLife) → TellsLife old new (Some n) → told ≡ Some (record { event = event.Life n.event; lost = n.lost }) → TellsNext old new told
  ToldClass : (mid : AgentState) → TellsLife old mid None → (c : Option ClassNo) → TellsClass mid new c → told ≡ class_event c → TellsNext old new told

-- so many times it was told of nothing
abbrev pub TellsNothing : ℕ → AgentState → AgentState → Type 0
TellsNothing zero old new = new ≡ old
TellsNothing (suc n) old new = (mid : AgentState) × TellsNothing n old mid × TellsNext mid new None

-- it was told of nothing, any number of times, and then of an event, or of nothing for the last time
pub record TellsInTime (old new : AgentState) (told : Option NextEvent) : Type 0 where
  pub times : ℕ
  pub mid : AgentState
  pub nothing : TellsNothing times old mid
  pub tells : TellsNext mid new told
