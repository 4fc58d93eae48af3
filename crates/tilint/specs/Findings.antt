-- What is found in a document, and what is written of it.
use Rattle.std.specs.Prelude.{◌≡◌, ◌⊎◌, ℕ, List, [], ◌++◌, Option, None, Some, Bool, Result, Ok, Err, if◌then◌else◌}
use Rattle.serde_json.specs.Data.{Data}
use Rattle.ti_script.specs.declared.located.LocatedFault.{LocatedFault}
use Rattle.ti_script.specs.Faults.{fault_of}
use Rattle.ti_script.specs.Walks.{IsLocatedBy, walk_fault}
use Rattle.ti_script.specs.Lives.{live_fault}
use Rattle.ti_script.specs.Histories.{history_fault}
use Rattle.ti_driver.specs.declared.arguments.Command.{Command}
use Rattle.ti_driver.specs.declared.arguments.Command.TheVariants as asked
use Rattle.ti_driver.specs.declared.fault.Fault.{Fault}
use Rattle.ti_driver.specs.declared.fault.Fault.TheVariants.{Script}
use Rattle.ti_driver.specs.Faults.{fault_line, status_of}
use Rattle.ti_driver.specs.Runs.{IsTooLong}
use Rattle.ti_driver.specs.Streams.{IsAllOf}

-- the tests of the document that a command reads
abbrev pub tests_of : Command → Data → Option LocatedFault
tests_of asked.Walk = walk_fault
tests_of asked.Live = live_fault
tests_of asked.Check = history_fault

-- the reader gave too much, or this is the first fault of the document that it gave
abbrev pub IsFoundBy : Command → Option (List ℕ) → LocatedFault → Type 0
IsFoundBy command known f = IsTooLong known (fault_of f) ⊎ ((input : List ℕ) × IsAllOf known input × IsLocatedBy (tests_of command) f input)

-- the line by which the program `tiwalk` refuses a document, after the words
abbrev pub refusal_line : Option LocatedFault → List ℕ
refusal_line None = []
refusal_line (Some f) = fault_line (Script (fault_of f))

-- the status with which a run ends
abbrev pub end_status : Result Bool Fault → ℕ
end_status (Ok fine) = if fine then 0 else 2
end_status (Err fault) = status_of fault
