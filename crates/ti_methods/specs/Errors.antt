-- The numbers of the errors, and their names.
use Rattle.std.specs.Prelude.{ℕ, List, codes, ◌≡◌, ◌⊎◌}
use Rattle.ti_methods.specs.declared.error.ClassError.{ClassError}
use Rattle.ti_methods.specs.declared.error.ClassError.TheVariants as error

-- JVM TI's numbers, and from 201 on this project's own
abbrev pub number_of : ClassError → ℕ
number_of error.InvalidClass = 21
number_of error.InvalidMethod = 23
number_of error.AbsentInformation = 101
number_of error.NativeMethod = 104
number_of error.OutOfMemory = 110
number_of error.Busy = 215
number_of error.Full = 216

-- their names in JVM TI's spelling
abbrev pub name_of : ClassError → List ℕ
name_of error.InvalidClass = codes "INVALID_CLASS"
name_of error.InvalidMethod = codes "INVALID_METHODID"
name_of error.AbsentInformation = codes "ABSENT_INFORMATION"
name_of error.NativeMethod = codes "NATIVE_METHOD"
name_of error.OutOfMemory = codes "OUT_OF_MEMORY"
name_of error.Busy = codes "BUSY"
name_of error.Full = codes "FULL"

-- it says nothing of what was defined
abbrev pub IsTransient : ClassError → Type 0
IsTransient e = (e ≡ error.OutOfMemory) ⊎ (e ≡ error.Busy)
