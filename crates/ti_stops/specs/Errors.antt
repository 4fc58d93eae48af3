-- The numbers of the errors, and their names.
use Rattle.std.specs.Prelude.{ℕ, List, codes}
use Rattle.ti_stops.specs.declared.error.StopError.{StopError}
use Rattle.ti_stops.specs.declared.error.StopError.TheVariants as error

-- JVM TI's numbers, and from 201 on this project's own
abbrev pub number_of : StopError → ℕ
number_of error.ThreadNotSuspended = 13
number_of error.InvalidMethod = 23
number_of error.InvalidLocation = 24
number_of error.NoMoreFrames = 31
number_of error.Duplicate = 40
number_of error.NotFound = 41
number_of error.OutOfMemory = 110
number_of error.InvalidEnvironment = 116
number_of error.Busy = 215
number_of error.Full = 216

-- their names in JVM TI's spelling
abbrev pub name_of : StopError → List ℕ
name_of error.ThreadNotSuspended = codes "THREAD_NOT_SUSPENDED"
name_of error.InvalidMethod = codes "INVALID_METHODID"
name_of error.InvalidLocation = codes "INVALID_LOCATION"
name_of error.NoMoreFrames = codes "NO_MORE_FRAMES"
name_of error.Duplicate = codes "DUPLICATE"
name_of error.NotFound = codes "NOT_FOUND"
name_of error.OutOfMemory = codes "OUT_OF_MEMORY"
name_of error.InvalidEnvironment = codes "INVALID_ENVIRONMENT"
name_of error.Busy = codes "BUSY"
name_of error.Full = codes "FULL"
