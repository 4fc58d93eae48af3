-- The events of threads' lives, which agents are told.
use Rattle.std.specs.Prelude.{ℕ, ◌≡◌, ◌-◌, ◌<◌, ◌≤◌, List, [], ◌∷◌, ◌++◌, length, Option, Some, None, slice_get}
use Rattle.std.specs.List.{fold}
use Rattle.ti_types.specs.declared.numbers.ThreadNo.{ThreadNo}
use Rattle.ti_roster.specs.declared.coming.Coming.{Coming}
use Rattle.ti_roster.specs.declared.coming.Coming.TheVariants.{Came, Started, Ended, Left}
use Rattle.ti_roster.specs.declared.life_event.LifeEvent.{LifeEvent}
use Rattle.ti_roster.specs.declared.life_event.LifeKind.{LifeKind}
use Rattle.ti_roster.specs.declared.life_event.LifeKind.TheVariants.{ThreadAttached, ThreadStart, ThreadEnd, ThreadDetached}
use Rattle.ti_roster.specs.declared.newcomer.Newcomer.{Newcomer}
use Rattle.ti_roster.specs.declared.stage.Stage.{Stage}
use Rattle.ti_roster.specs.declared.stage.Stage.TheVariants.{New, Alive, Over}
use Rattle.ti_roster.specs.Log.{live, threads_in}
use Rattle.ti_roster.specs.Stages.{stage_of}

-- an event of a thread's life
abbrev pub event_of : LifeKind → ThreadNo → LifeEvent
event_of k t = record { kind = k; thread = t }

-- the events of threads' lives, the earliest first
abbrev pub life_after : List LifeEvent → Coming → List LifeEvent
life_after l (Came n) = l ++ event_of ThreadAttached n.thread ∷ []
life_after l (Started t) = l ++ event_of ThreadStart t ∷ []
life_after l (Ended t) = l ++ event_of ThreadEnd t ∷ []
life_after l (Left t) = l ++ event_of ThreadDetached t ∷ []
life_after l _ = l

abbrev pub life_of : List Coming → List LifeEvent
life_of log = fold life_after [] log

-- all events that happened, as contracts see those that are kept
pub record Lives : Type 0 where
  pub events : List LifeEvent

-- how many of the last events are kept
abbrev pub most_kept : ℕ
most_kept = 4096

-- these are the last of the events, as many as are kept
pub record AreLast (all kept : List LifeEvent) : Type 0 where
  pub dropped : List LifeEvent
  pub all_are : all ≡ dropped ++ kept
  pub lost : length dropped ≡ length all - most_kept

-- how many events from an index on are lost: those before the last ones, which are kept
abbrev pub lost_from : List LifeEvent → ℕ → ℕ
lost_from life from = length life - most_kept - from

-- which event of the thread's came before an event of this kind
abbrev pub needs : LifeKind → Option LifeKind
needs ThreadAttached = None
needs ThreadStart = Some ThreadAttached
needs ThreadEnd = Some ThreadStart
needs ThreadDetached = Some ThreadAttached

-- an event of this kind of the thread's has happened, or has not
abbrev pub Has : List LifeEvent → ThreadNo → LifeKind → Type 0
Has life t k = (i : ℕ) × (slice_get life i ≡ Some (event_of k t))

abbrev pub Lacks : List LifeEvent → ThreadNo → LifeKind → Type 0
Lacks life t k = (i : ℕ) → slice_get life i ≡ Some (event_of k t) → ⊥

-- No event happens twice. A thread starts after it was attached, ends after it has started, and is given back after it was attached.
-- Nothing happens to it after it was given back. If it had started then, it had ended
pub record AreInOrder (life : List LifeEvent) : Type 0 where
  pub once : (i j : ℕ) (e : LifeEvent) → slice_get life i ≡ Some e → slice_get life j ≡ Some e → i ≡ j
  pub after : (j : ℕ) (t : ThreadNo) (k n : LifeKind) → slice_get life j ≡ Some (event_of k t) → needs k ≡ Some n → (i : ℕ) × (i < j) × (slice_get life i ≡ Some (event_of n t))
  pub last : (i j : ℕ) (t : ThreadNo) (k : LifeKind) → slice_get life j ≡ Some (event_of ThreadDetached t) → slice_get life i ≡ Some (event_of k t) → i ≤ j
  pub ended : (j : ℕ) (t : ThreadNo) → slice_get life j ≡ Some (event_of ThreadDetached t) → Has life t ThreadStart → Has life t ThreadEnd

-- what has happened to a thread that is there, by how far it has come
pub record HasCome (life : List LifeEvent) (t : ThreadNo) (Start End : LifeKind → Type 0) : Type 0 where
  pub attached : Has life t ThreadAttached
  pub started : Start ThreadStart
  pub ended : End ThreadEnd
  pub here : Lacks life t ThreadDetached

abbrev pub HasReached : List LifeEvent → ThreadNo → Stage → Type 0
HasReached life t New = HasCome life t (Lacks life t) (Lacks life t)
HasReached life t Alive = HasCome life t (Has life t) (Lacks life t)
HasReached life t Over = HasCome life t (Has life t) (Has life t)

-- these are the events of this list, in order, each of a thread that came. They say how far each thread has come that is there
pub record AreEvents (log : List Coming) (events : List LifeEvent) : Type 0 where
  pub events_are : events ≡ life_of log
  pub in_order : AreInOrder (life_of log)
  pub numbered : (i : ℕ) (e : LifeEvent) → slice_get (life_of log) i ≡ Some e → e.thread.0 < threads_in log
  pub reached : (i : ℕ) (n : Newcomer) → slice_get (live log) i ≡ Some n → HasReached (life_of log) n.thread (stage_of n.thread log)
