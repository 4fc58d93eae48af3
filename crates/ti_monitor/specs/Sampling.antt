-- What threads tell one after the other, and what the readings count of it.
use Rattle.std.specs.Prelude.{ℕ, zero, suc, ◌≡◌, ◌⊎◌, ◌&&◌, Bool, true, false, List, None, Some, length, slice_get, slice_set}
use Rattle.std.specs.List.{AllZip, list_any}
use Rattle.ti_types.specs.Frames.{Trace}
use Rattle.ti_pprof.specs.declared.stacks.Frame.{Frame}
use Rattle.ti_service.specs.Memberships.{AgentValue}
use Rattle.ti_monitor.specs.declared.asking.Told.{Told}
use Rattle.ti_monitor.specs.declared.asking.Told.TheVariants.{Stack, NotAlive, Unanswered, NotYet}
use Rattle.ti_monitor.specs.declared.monitor.ReadingNo.{ReadingNo}
use Rattle.ti_monitor.specs.declared.running.Running.{Running}
use Rattle.ti_monitor.specs.declared.sampling.Readings.{Readings}
use Rattle.ti_monitor.specs.declared.watched.Watched.{Watched}
use Rattle.ti_monitor.specs.Asking.{TellsAtOnce, TellsLater}
use Rattle.ti_monitor.specs.Watching.{is_free}
use Rattle.ti_monitor.specs.Counted.{AreNamed, CountsLost, CountsStack, KnowsMore, TakesBackAt, waits_for}
use Rattle.ti_monitor.specs.Monitors.{reading_in}
use Rattle.ti_monitor.specs.Ticking.{EndsIfOver, EndsNow, TicksIfDue}

-- each reading counts the frames of the trace, named; or, if there is no memory for them, that nothing was answered
abbrev pub CountsTrace : Trace → ℕ → List Watched → Readings → Readings → Type 0
CountsTrace trace place watched r s =
    ((frames : List Frame) × AreNamed s.methods trace.frames frames × AllZip (CountsStack place frames watched) r.running.items s.running.items)
    ⊎ AllZip (CountsLost place 0 watched) r.running.items s.running.items

-- each reading counts what the thread at a place told. One that is not alive gives no sample
abbrev pub CountsTold : Told → ℕ → List Watched → Readings → Readings → Type 0
CountsTold NotYet place watched r s = s.running.items ≡ r.running.items
CountsTold NotAlive place watched r s = AllZip (TakesBackAt place) r.running.items s.running.items
CountsTold Unanswered place watched r s = AllZip (CountsLost place 0 watched) r.running.items s.running.items
CountsTold (Stack trace) place watched r s = CountsTrace trace place watched r s

-- the agent, the threads and the readings
pub record Sampling : Type 0 where
  pub agent : AgentValue
  pub watched : List Watched
  pub readings : Readings

abbrev pub sampling : AgentValue → List Watched → Readings → Sampling
sampling agent watched readings = record { agent = agent; watched = watched; readings = readings }

-- the thread at a place told something, as `Tells` says, and each reading counts that. It is the same thread, and methods keep their numbers
pub record TellsAt (Tells : AgentValue → AgentValue → Watched → Watched → Told → Type 0) (place : ℕ) (s u : Sampling) : Type 0 where
  pub old : Watched
  pub new : Watched
  pub told : Told
  pub agent : AgentValue
  pub there : slice_get s.watched place ≡ Some old
  pub thread : new.thread ≡ old.thread
  pub tells : Tells s.agent agent old new told
  pub watched : u.watched ≡ slice_set s.watched place new
  pub counts : CountsTold told place u.watched s.readings u.readings
  pub knows : KnowsMore s.readings.methods u.readings.methods
  pub env : u.agent.env ≡ agent.env

-- so at the first places, one after the other, by the answers to the calls that were out
abbrev pub CollectsUpTo : ℕ → Sampling → Sampling → Type 0
CollectsUpTo zero s u = u ≡ s
CollectsUpTo (suc place) s u = (t : Sampling) × CollectsUpTo place s t × TellsAt TellsLater place t u

-- a thread at which no call is out, and of which a stack is owed, is asked. Another is not
abbrev pub AsksAt : ℕ → Sampling → Sampling → Type 0
AsksAt place s u =
    let asked : Bool = is_free s.watched place && list_any (waits_for place) s.readings.running.items in
    (asked ≡ false → u ≡ s) × (asked ≡ true → TellsAt TellsAtOnce place s u)

abbrev pub AsksUpTo : ℕ → Sampling → Sampling → Type 0
AsksUpTo zero s u = u ≡ s
AsksUpTo (suc place) s u = (t : Sampling) × AsksUpTo place s t × AsksAt place t u

-- the readings go on so, each by itself. What is known of methods stays
pub record EachGoesOn (P : Running → Running → Type 0) (r s : Readings) : Type 0 where
  pub running : AllZip P r.running.items s.running.items
  pub methods : s.methods ≡ r.methods

-- the reading of a number, if it goes on, ends now. No other changes
abbrev pub EndsOne : ReadingNo → ℕ → List Watched → List Running → List Running → Type 0
EndsOne number now watched rs ss =
    ((reading_in rs number ≡ None) × (ss ≡ rs))
    ⊎ ((place : ℕ) × (r s : Running) × (slice_get rs place ≡ Some r) × (reading_in rs number ≡ Some r) × EndsNow now watched r s × (ss ≡ slice_set rs place s))

-- What a tick of the monitor counts: first what the threads tell by the answers that are there, then what those tell that are asked, and
-- at last what is owed to readings that are over, which end. In between threads are met and probed; and readings tick, unless the
-- threads could not be met
pub record Samples (now : ℕ) (s u : Sampling) : Type 0 where
  pub collected : Sampling
  pub met : Sampling
  pub ticked : Sampling
  pub asked : Sampling
  pub collects : CollectsUpTo (length s.watched) s collected
  pub meets : met.readings ≡ collected.readings
  pub still : (ticked.agent ≡ met.agent) × (ticked.watched ≡ met.watched)
  pub ticks : (ticked.readings ≡ met.readings) ⊎ EachGoesOn (TicksIfDue now ticked.watched) met.readings ticked.readings
  pub asks : AsksUpTo (length ticked.watched) ticked asked
  pub left : (u.agent ≡ asked.agent) × (u.watched ≡ asked.watched)
  pub ends : EachGoesOn (EndsIfOver now u.watched) asked.readings u.readings
