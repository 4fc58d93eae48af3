-- A run of the program on a walk or on a history.
use Rattle.std.specs.Prelude.{◌≡◌, ◌⊎◌, ◌<◌, ℕ, ◌++◌, List, codes, decimal, length, map, Option, None, Some, IfSome, ⊤}
use Rattle.serde_json.specs.Data.{Data}
use Rattle.ti_replay.specs.Admission.{Happening}
use Rattle.ti_replay.specs.Outcomes.{outs, was_for_memory}
use Rattle.ti_script.specs.declared.fault.ScriptFault.{ScriptFault}
use Rattle.ti_script.specs.declared.fault.ScriptFault.TheVariants.{Limit}
use Rattle.ti_script.specs.declared.located.LocatedFault.{LocatedFault}
use Rattle.ti_script.specs.declared.fault.LimitName.TheVariants.{Input}
use Rattle.ti_script.specs.declared.walk.Walk.{Walk}
use Rattle.ti_script.specs.Walks.{IsDocument, IsWalk, IsRefusalBy, walk_fault}
use Rattle.ti_script.specs.declared.history.History.{History}
use Rattle.ti_script.specs.Histories.{history_fault, IsHistory}
use Rattle.ti_script.specs.Texts.{lines_text}
use Rattle.ti_driver.specs.declared.fault.Fault.{Fault}
use Rattle.ti_driver.specs.declared.fault.Fault.TheVariants.{Script, Memory, Read, Write, Usage, Cell}
use Rattle.ti_driver.specs.Streams.{IsAllOf}

-- the reader gave a document that says this walk
pub record IsGiven (known : Option (List ℕ)) (w : Walk) : Type 0 where
  pub input : List ℕ
  pub all : IsAllOf known input
  pub tree : Data
  pub document : IsDocument input tree
  pub faultless : walk_fault tree ≡ None
  pub says : IsWalk tree w

-- The walk's events happen. An event is marked for lack of memory if, and only if, its outcome says so.
pub record IsRun (w : Walk) (hs : List Happening) : Type 0 where
  pub events : map (λ h. h.event) hs ≡ w.events
  pub marks : map (λ h. h.wanting) hs ≡ map was_for_memory (outs w.limits hs)

-- what is written for a walk
abbrev pub text_of : Walk → List Happening → List ℕ
text_of w hs = lines_text w.methods 0 (outs w.limits hs)

-- the reader gave a document that says this history
pub record IsGivenHistory (known : Option (List ℕ)) (h : History) : Type 0 where
  pub input : List ℕ
  pub all : IsAllOf known input
  pub tree : Data
  pub document : IsDocument input tree
  pub faultless : history_fault tree ≡ None
  pub says : IsHistory tree h

-- what is written for a history, by the place of its first illegal entry
abbrev pub verdict_text : Option ℕ → List ℕ
verdict_text None = codes "legal\n"
verdict_text (Some place) = codes "illegal " ++ decimal place ++ codes "\n"

-- the reader gave more than a document may have
abbrev pub IsTooLong : Option (List ℕ) → ScriptFault → Type 0
IsTooLong known e = (e ≡ Limit Input) × IfSome known (λ xs. 8388608 < length xs)

-- why the input was not read whole
abbrev pub IsReadFault : Option (List ℕ) → Fault → Type 0
IsReadFault known Memory = ⊤
IsReadFault known Read = ⊤
IsReadFault known (Script f) = IsTooLong known f
IsReadFault known Write = ⊥
IsReadFault known Cell = ⊥
IsReadFault known Usage = ⊥

-- the reader gave too much, or the document that it gave is refused with this fault
abbrev pub IsInputRefusal : (Data → Option LocatedFault) → Option (List ℕ) → ScriptFault → Type 0
IsInputRefusal first known e = IsTooLong known e ⊎ ((input : List ℕ) × IsAllOf known input × IsRefusalBy first e input)

-- why a run on a document, with these tests, ended before it wrote
abbrev pub IsEarlyFault : (Data → Option LocatedFault) → Option (List ℕ) → Fault → Type 0
IsEarlyFault first known Memory = ⊤
IsEarlyFault first known Read = ⊤
IsEarlyFault first known (Script f) = IsInputRefusal first known f
IsEarlyFault first known Write = ⊥
IsEarlyFault first known Cell = ⊥
IsEarlyFault first known Usage = ⊥
