-- The walk that a document says, and the first fault of a document that says none.
use Rattle.std.specs.Prelude.{◌≡◌, ◌⊎◌, ◌+◌, ℕ, List, [], ◌∷◌, length, codes, Option, None, Some, Result, Ok}
use Rattle.std.specs.Result.{result_err}
use Rattle.std.specs.Str.{IsUtf8}
use Rattle.serde_json.specs.Data.{Data}
use Rattle.serde_json.specs.Read.{read}
use Rattle.ti_types.specs.declared.event.Event.{Event}
use Rattle.ti_script.specs.declared.located.LocatedFault.{LocatedFault}
use Rattle.ti_script.specs.declared.located.LocatedFault.TheVariants.{Json, Memory}
use Rattle.ti_script.specs.declared.fault.ScriptFault.{ScriptFault}
use Rattle.ti_script.specs.declared.names.Cast.{Cast}
use Rattle.ti_script.specs.declared.walk.Walk.{Walk}
use Rattle.ti_script.specs.Tree.{elements, at}
use Rattle.ti_script.specs.Faults.{first_of, fault_of}
use Rattle.ti_script.specs.Head.{texts, bounds_of, head_fault}
use Rattle.ti_script.specs.Events.{◌>>=◌, event_in}

-- the names that a document declares
abbrev pub cast_of : Data → Cast
cast_of d = record { threads = texts (at (codes "threads") d); agents = texts (at (codes "agents") d); methods = texts (at (codes "methods") d) }

-- the events of items that are numbered from this one on, or the first fault
abbrev pub events_in : Cast → ℕ → List Data → Result (List Event) LocatedFault
events_in cast item [] = Ok []
events_in cast item (d ∷ ds) = event_in cast item d >>= λ e. events_in cast (item + 1) ds >>= λ es. Ok (e ∷ es)

abbrev pub events_of : Data → Result (List Event) LocatedFault
events_of d = events_in (cast_of d) 1 (elements (at (codes "events") d))

-- the first fault, in the order of the tests
abbrev pub walk_fault : Data → Option LocatedFault
walk_fault d = first_of (head_fault d ∷ result_err (events_of d) ∷ [])

-- the walk is what the document says
pub record IsWalk (d : Data) (w : Walk) : Type 0 where
  pub bounds : (w.limits.depth, w.limits.own, w.limits.calls) ≡ bounds_of (at (codes "limits") d)
  pub threads : w.threads ≡ texts (at (codes "threads") d)
  pub agents : w.agents ≡ texts (at (codes "agents") d)
  pub methods : w.methods ≡ texts (at (codes "methods") d)
  pub events : events_of d ≡ Ok w.events
  pub thread_count : w.limits.threads ≡ length w.threads
  pub agent_count : w.limits.envs ≡ length w.agents

-- the bytes are a text that is read as this tree
pub record IsDocument (bytes : List ℕ) (d : Data) : Type 0 where
  pub utf8 : IsUtf8 bytes
  pub tree : read bytes ≡ Some d

-- why bytes are no document: memory ran out, or they are no JSON
abbrev pub IsNoDocument : LocatedFault → List ℕ → Type 0
IsNoDocument e bytes = (e ≡ Memory) ⊎ ((e ≡ Json) × (IsUtf8 bytes → read bytes ≡ None))

-- Why bytes are no script, with the part at fault: memory ran out, they are no JSON, or this is the first fault of the
-- document.
abbrev pub IsLocatedBy : (Data → Option LocatedFault) → LocatedFault → List ℕ → Type 0
IsLocatedBy first f bytes = (f ≡ Memory) ⊎ (((f ≡ Json) × (IsUtf8 bytes → read bytes ≡ None)) ⊎ ((d : Data) × IsDocument bytes d × (first d ≡ Some f)))

-- why bytes are no script: the same fault, with its part left out
abbrev pub IsRefusalBy : (Data → Option LocatedFault) → ScriptFault → List ℕ → Type 0
IsRefusalBy first e bytes = (f : LocatedFault) × IsLocatedBy first f bytes × (e ≡ fault_of f)

-- why bytes are no walk
abbrev pub IsRefusal : ScriptFault → List ℕ → Type 0
IsRefusal e bytes = IsRefusalBy walk_fault e bytes
