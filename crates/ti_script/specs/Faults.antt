-- Tests in their order, the fault of each, and the first fault.
use Rattle.std.specs.Prelude.{◌≡◌, ◌⊎◌, List, [], ◌∷◌, Bool, Option, None, Some, Result, Ok, Err, if◌then◌else◌}
use Rattle.std.specs.Result.{result_err}
use Rattle.ti_script.specs.declared.located.LocatedFault.{LocatedFault}
use Rattle.ti_script.specs.declared.located.MemberName.{MemberName}
use Rattle.ti_script.specs.declared.located.Part.TheVariants.{Member}
use Rattle.ti_script.specs.declared.located.LocatedFault.TheVariants.{Json, Shape, Name, Limit, Memory}
use Rattle.ti_script.specs.declared.fault.ScriptFault.{ScriptFault}
use Rattle.ti_script.specs.declared.fault.ScriptFault.TheVariants as plain

-- the faults of a member of the head
abbrev pub member_shape : MemberName → LocatedFault
member_shape which = Shape 0 (Member which)

abbrev pub member_name : MemberName → LocatedFault
member_name which = Name 0 (Member which)

-- no fault if the test is true, and otherwise this one
abbrev pub unless : Bool → LocatedFault → Option LocatedFault
unless test fault = if test then None else Some fault

abbrev pub first_of : List (Option LocatedFault) → Option LocatedFault
first_of [] = None
first_of (None ∷ faults) = first_of faults
first_of (Some fault ∷ faults) = Some fault

-- It ended with this error: the first fault, unless memory ran out.
abbrev pub Faults : LocatedFault → Option LocatedFault → Type 0
Faults e fault = (e ≡ Memory) ⊎ (fault ≡ Some e)

-- It was read without a fault, as this value, or it ended with the first fault.
abbrev pub Reads : {X Y : Type 0} → (X → Y) → Result X LocatedFault → Option LocatedFault → Y → Type 0
Reads view (Ok x) fault y = (fault ≡ None) × (view x ≡ y)
Reads view (Err e) fault y = Faults e fault

-- It gave what is given, or the first fault, unless memory ran out.
abbrev pub Gives : {X Y : Type 0} → (X → Y) → Result X LocatedFault → Result Y LocatedFault → Type 0
Gives view (Ok x) given = given ≡ Ok (view x)
Gives view (Err e) given = Faults e (result_err given)

-- a fault with its part left out
abbrev pub fault_of : LocatedFault → ScriptFault
fault_of Json = plain.Json
fault_of (Shape item part) = plain.Shape item
fault_of (Name item part) = plain.Name item
fault_of (Limit which) = plain.Limit which
fault_of Memory = plain.Memory
