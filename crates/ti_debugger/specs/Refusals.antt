-- What a reply says where the service refuses a call.
use Rattle.ti_jdwp.specs.declared.error.JdwpError.TheVariants as wire
use Rattle.ti_methods.specs.declared.error.ClassError.{ClassError}
use Rattle.ti_methods.specs.declared.error.ClassError.TheVariants as class
use Rattle.ti_types.specs.declared.error.TiError.{TiError}
use Rattle.ti_types.specs.declared.error.TiError.TheVariants as call
use Rattle.ti_debugger.specs.declared.refusal.Refusal.{Refusal}
use Rattle.ti_debugger.specs.declared.refusal.Refusal.TheVariants as refusal

abbrev pub class_refusal : ClassError → Refusal
class_refusal class.InvalidClass = refusal.Error wire.InvalidClass
class_refusal class.InvalidMethod = refusal.Error wire.InvalidMethodId
class_refusal class.AbsentInformation = refusal.Error wire.AbsentInformation
class_refusal class.NativeMethod = refusal.Error wire.NativeMethod
class_refusal class.OutOfMemory = refusal.Error wire.OutOfMemory
class_refusal class.Full = refusal.Error wire.OutOfMemory
class_refusal class.Busy = refusal.Later

abbrev pub call_refusal : TiError → Refusal
call_refusal call.Busy = refusal.Later
call_refusal call.InvalidThread = refusal.Error wire.InvalidThread
call_refusal call.ThreadNotAlive = refusal.Error wire.ThreadNotSuspended
call_refusal _ = refusal.Error wire.OutOfMemory
