-- What is done with each request.
use Rattle.std.specs.Prelude.{ℕ, ◌==◌, ◌||◌, Option, Some, None, is_some, not, if◌then◌else◌}
use Rattle.ti_jdwp.specs.declared.error.JdwpError.TheVariants as error
use Rattle.ti_jdwp.specs.declared.session_error.SessionError.{SessionError}
use Rattle.ti_jdwp.specs.declared.session_error.SessionError.TheVariants as session_error
use Rattle.ti_jdwp.specs.declared.plan.Constant.{Constant}
use Rattle.ti_jdwp.specs.declared.plan.Constant.TheVariants as constant
use Rattle.ti_jdwp.specs.declared.plan.Plan.{Plan}
use Rattle.ti_jdwp.specs.declared.plan.Plan.TheVariants as plan
use Rattle.ti_jdwp.specs.declared.request.Request.{Request}
use Rattle.ti_jdwp.specs.declared.request.Request.TheVariants as request
use Rattle.ti_jdwp.specs.Ids.{number_from, first_thread, first_class, first_method, first_text, first_table, thread_class, group_class, text_class, table_class, thread_group}

abbrev pub session_number : SessionError → ℕ
session_number session_error.OutOfMemory = 110
session_number session_error.NotAsked = 112

-- a plan for the thread with an id, if it is one's
abbrev pub for_thread : Option ℕ → (ℕ → Plan) → Plan
for_thread None p = plan.Refuse error.InvalidThread
for_thread (Some thread) p = p thread

abbrev pub at_thread : ℕ → Plan → Plan
at_thread id p = for_thread (number_from first_thread id) (λ thread. p)

abbrev pub stack_of : ℕ → Plan
stack_of id = for_thread (number_from first_thread id) (λ thread. plan.AskStack thread)

abbrev pub at_group : ℕ → Plan → Plan
at_group id p = if id == thread_group then p else plan.Refuse error.InvalidThreadGroup

abbrev pub at_class : ℕ → Plan → Plan → Plan
at_class id objects others =
    if ((id == thread_class || id == group_class) || id == text_class) || id == table_class then objects
    else (if is_some (number_from first_class id) then others else plan.Refuse error.InvalidClass)

abbrev pub signature_of : ℕ → Constant → Constant → Constant → Constant → Plan
signature_of id threads group texts tables =
    if id == group_class then plan.Constant group
    else (if id == text_class then plan.Constant texts
    else (if id == table_class then plan.Constant tables
    else at_class id (plan.Constant threads) plan.Ask))

abbrev pub at_each_class : ℕ → Constant → Plan
at_each_class id c = at_class id (plan.Constant c) (plan.Constant c)

abbrev pub at_method : ℕ → ℕ → Plan
at_method class method =
    if not (is_some (number_from first_class class)) then plan.Refuse error.InvalidClass
    else (if not (is_some (number_from first_method method)) then plan.Refuse error.InvalidMethodId
    else plan.Ask)

abbrev pub at_object : ℕ → Plan → Plan → Plan
at_object id threads group =
    if is_some (number_from first_thread id) then threads
    else (if id == thread_group then group
    else (if is_some (number_from first_text id) || is_some (number_from first_table id) then plan.Ask else plan.Refuse error.InvalidObject))

abbrev pub at_text : ℕ → Plan
at_text id = if is_some (number_from first_text id) then plan.Ask else plan.Refuse error.InvalidObject

abbrev pub at_table : ℕ → Plan
at_table id = if is_some (number_from first_table id) then plan.Ask else plan.Refuse error.InvalidObject

abbrev pub class_plan : Request → Plan
class_plan (request.Signature id) = signature_of id constant.ThreadSignature constant.GroupSignature constant.TextSignature constant.TableSignature
class_plan (request.SignatureWithGeneric id) = signature_of id constant.ThreadGenericSignature constant.GroupGenericSignature constant.TextGenericSignature constant.TableGenericSignature
class_plan (request.SourceFile id) = at_class id (plan.Refuse error.AbsentInformation) plan.Ask
class_plan (request.MethodsWithGeneric id) = at_class id (plan.Constant constant.NoItems) plan.Ask
class_plan (request.ClassLoader id) = at_each_class id constant.NoId
class_plan (request.Superclass id) = at_each_class id constant.NoId
class_plan (request.Modifiers id) = at_each_class id constant.Public
class_plan (request.ClassStatus id) = at_each_class id constant.Initialized
class_plan (request.Fields id) = at_each_class id constant.NoItems
class_plan (request.Interfaces id) = at_each_class id constant.NoItems
class_plan _ = plan.Refuse error.NotImplemented

abbrev pub thread_plan : Request → Plan
thread_plan (request.ThreadName id) = at_thread id plan.Ask
thread_plan (request.ThreadStatus id) = at_thread id plan.Ask
thread_plan (request.ThreadGroup id) = at_thread id (plan.Constant constant.GroupId)
thread_plan (request.Frames id start length) = stack_of id
thread_plan (request.FrameCount id) = stack_of id
thread_plan (request.FrameValues thread frame slots) = stack_of thread
thread_plan (request.PopFrames thread frame) = stack_of thread
thread_plan (request.ThisObject thread frame) = at_thread thread (plan.Constant constant.NoObject)
thread_plan (request.SuspendCount id) = for_thread (number_from first_thread id) (λ thread. plan.Count thread)
thread_plan (request.Suspend id) = for_thread (number_from first_thread id) (λ thread. plan.Suspend thread)
thread_plan (request.Resume id) = for_thread (number_from first_thread id) (λ thread. plan.Resume thread)
thread_plan _ = plan.Refuse error.NotImplemented

abbrev pub plan_of : Request → Plan
plan_of request.Version = plan.Ask
plan_of (request.ClassesBySignature range) = plan.Ask
plan_of request.AllClasses = plan.Ask
plan_of request.AllThreads = plan.Ask
plan_of request.ClassPaths = plan.Ask
plan_of request.TopLevelThreadGroups = plan.Constant constant.Groups
plan_of request.Dispose = plan.Dispose
plan_of request.IdSizes = plan.Constant constant.IdSizes
plan_of request.SuspendAll = plan.SuspendAll
plan_of request.ResumeAll = plan.ResumeAll
plan_of request.Capabilities = plan.Constant constant.Capabilities
plan_of (request.DisposeObjects range) = plan.Ask
plan_of request.HoldEvents = plan.Hold
plan_of request.ReleaseEvents = plan.Release
plan_of request.CapabilitiesNew = plan.Ask
plan_of (request.SetEvent kind policy modifiers count) = plan.Set (record { kind = kind; policy = policy; at = modifiers.start; count = count })
plan_of (request.ClearEvent kind number) = plan.Clear kind number
plan_of (request.ReferenceType id) = at_object id (plan.Constant constant.ThreadClass) (plan.Constant constant.GroupClass)
plan_of (request.IsCollected id) = at_object id (plan.Constant constant.False) (plan.Constant constant.False)
plan_of (request.GroupName id) = at_group id (plan.Constant constant.GroupName)
plan_of (request.GroupParent id) = at_group id (plan.Constant constant.NoId)
plan_of (request.GroupChildren id) = at_group id plan.Ask
plan_of (request.LineTable class method) = at_method class method
plan_of (request.VariableTable class method) = at_method class method
plan_of (request.IsObsolete class method) = at_method class method
plan_of (request.VariableTableWithGeneric class method) = at_method class method
plan_of (request.TextValue id) = at_text id
plan_of (request.TableLength id) = at_table id
plan_of (request.TableEntries table start length) = at_table table
plan_of (request.Signature id) = class_plan (request.Signature id)
plan_of (request.SignatureWithGeneric id) = class_plan (request.SignatureWithGeneric id)
plan_of (request.ClassLoader id) = class_plan (request.ClassLoader id)
plan_of (request.Modifiers id) = class_plan (request.Modifiers id)
plan_of (request.Fields id) = class_plan (request.Fields id)
plan_of (request.SourceFile id) = class_plan (request.SourceFile id)
plan_of (request.ClassStatus id) = class_plan (request.ClassStatus id)
plan_of (request.Interfaces id) = class_plan (request.Interfaces id)
plan_of (request.MethodsWithGeneric id) = class_plan (request.MethodsWithGeneric id)
plan_of (request.Superclass id) = class_plan (request.Superclass id)
plan_of (request.ThreadName id) = thread_plan (request.ThreadName id)
plan_of (request.Suspend id) = thread_plan (request.Suspend id)
plan_of (request.Resume id) = thread_plan (request.Resume id)
plan_of (request.ThreadStatus id) = thread_plan (request.ThreadStatus id)
plan_of (request.ThreadGroup id) = thread_plan (request.ThreadGroup id)
plan_of (request.Frames id start length) = thread_plan (request.Frames id start length)
plan_of (request.FrameCount id) = thread_plan (request.FrameCount id)
plan_of (request.SuspendCount id) = thread_plan (request.SuspendCount id)
plan_of (request.FrameValues thread frame slots) = thread_plan (request.FrameValues thread frame slots)
plan_of (request.ThisObject thread frame) = thread_plan (request.ThisObject thread frame)
plan_of (request.PopFrames thread frame) = thread_plan (request.PopFrames thread frame)
