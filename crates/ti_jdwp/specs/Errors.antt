-- The errors of a reply.
use Rattle.std.specs.Prelude.{ℕ}
use Rattle.ti_jdwp.specs.declared.error.JdwpError.{JdwpError}
use Rattle.ti_jdwp.specs.declared.error.JdwpError.TheVariants as error

-- the numbers of JDWP's "Error" constants
abbrev pub number_of : JdwpError → ℕ
number_of error.InvalidThread = 10
number_of error.InvalidThreadGroup = 11
number_of error.ThreadNotSuspended = 13
number_of error.InvalidObject = 20
number_of error.InvalidClass = 21
number_of error.InvalidMethodId = 23
number_of error.InvalidLocation = 24
number_of error.InvalidFrameId = 30
number_of error.NoMoreFrames = 31
number_of error.OpaqueFrame = 32
number_of error.InvalidSlot = 35
number_of error.NotImplemented = 99
number_of error.AbsentInformation = 101
number_of error.InvalidEventType = 102
number_of error.IllegalArgument = 103
number_of error.OutOfMemory = 110
number_of error.VmDead = 112
number_of error.InvalidIndex = 503
number_of error.InvalidLength = 504
number_of error.NativeMethod = 511
