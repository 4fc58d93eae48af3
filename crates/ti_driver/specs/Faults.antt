-- The text of a fault, and the status with which it ends.
use Rattle.std.specs.Prelude.{ℕ, Bool, List, ◌++◌, codes, decimal, Result, Ok, Err, if◌then◌else◌}
use Rattle.ti_script.specs.LimitNames.{limit_text}
use Rattle.ti_script.specs.declared.fault.ScriptFault.{ScriptFault}
use Rattle.ti_script.specs.declared.fault.ScriptFault.TheVariants as script
use Rattle.ti_driver.specs.declared.fault.Fault.{Fault}
use Rattle.ti_driver.specs.declared.fault.Fault.TheVariants.{Script, Memory, Read, Write, Cell, Usage}

abbrev pub script_text : ScriptFault → List ℕ
script_text script.Json = codes "json"
script_text (script.Shape item) = codes "shape at item " ++ decimal item
script_text (script.Name item) = codes "name at item " ++ decimal item
script_text (script.Limit which) = codes "limit " ++ limit_text which
script_text script.Memory = codes "memory"

abbrev pub fault_text : Fault → List ℕ
fault_text (Script f) = script_text f
fault_text Memory = codes "memory"
fault_text Read = codes "read"
fault_text Write = codes "write"
fault_text Cell = codes "cell"
fault_text Usage = codes "usage: tiwalk [walk|live|check]"

-- the fault line on standard error
abbrev pub fault_line : Fault → List ℕ
fault_line fault = codes "tiwalk: " ++ (fault_text fault ++ codes "\n")

abbrev pub status_of : Fault → ℕ
status_of (Script script.Memory) = 3
status_of (Script f) = 2
status_of Memory = 3
status_of Read = 4
status_of Write = 4
status_of Cell = 4
status_of Usage = 2

-- the status with which a run ends; without a fault it is 0, or 1 if a history is illegal
abbrev pub end_status : Result Bool Fault → ℕ
end_status (Ok legal) = if legal then 0 else 1
end_status (Err fault) = status_of fault
