-- What the body of a reply says.
use Rattle.std.specs.Prelude.{ℕ, suc, ◌≡◌, ◌⊎◌, ◌++◌, ◌==◌, true, false, List, [], ◌∷◌, Some, length, map, filter, bytes_eq, codes, string_bytes, if◌then◌else◌}
use Rattle.std.specs.Fmt.{decimal}
use mathlib.Core.List.{IsPrefix}
use Rattle.ti_jdwp.specs.Bodies.{found_list, list, thread_list}
use Rattle.ti_jdwp.specs.Fields.{bytes_at, int, long, text}
use Rattle.ti_jdwp.specs.Ids.{id_from, number_from, first_class, first_thread}
use Rattle.ti_jdwp.specs.declared.request.Request.{Request}
use Rattle.ti_jdwp.specs.declared.request.Request.TheVariants as request
use Rattle.ti_methods.specs.Classes.{IsSignature, IsSourceFile}
use Rattle.ti_methods.specs.declared.info.ClassInfo.{ClassInfo}
use Rattle.ti_methods.specs.declared.info.ClassNo.{ClassNo}
use Rattle.ti_service.specs.Classes.{classes_of}
use Rattle.ti_debugger.specs.declared.about.About.{About}
use Rattle.ti_debugger.specs.declared.class_answers.Known.{Known}
use Rattle.ti_debugger.specs.declared.desk.Desk.{Desk}
use Rattle.ti_debugger.specs.declared.watched.Watched.{Watched}
use Rattle.ti_debugger.specs.Crowds.{IsGone, live_in}
use Rattle.ti_debugger.specs.Sources.{file_in}
use Rattle.ti_debugger.specs.LineReplies.{IsNotObsolete, TellsLines}
use Rattle.ti_debugger.specs.MethodReplies.{TellsMethods}
use Rattle.ti_debugger.specs.Pops.{PopsFrames, can_pop, capabilities_text}
use Rattle.ti_debugger.specs.StackReplies.{IsWatched, TellsDepth, TellsFrames, TellsState}
use Rattle.ti_debugger.specs.VariableReplies.{TellsClass, TellsEntries, TellsFrame, TellsLength, TellsText, TellsVariables}

abbrev pub version_text : About → List ℕ
version_text about = text (string_bytes about.description) ++ int 1 ++ int 5 ++ text (string_bytes about.version) ++ text (string_bytes about.name)

abbrev pub paths_text : About → List ℕ
paths_text about = text (string_bytes about.base) ++ int 1 ++ text (string_bytes about.path) ++ int 0

-- the name of a thread, or its number if it has none
abbrev pub name_in : Watched → List ℕ
name_in w = if length (string_bytes w.name) == 0 then codes "thread " ++ decimal w.thread.0 else string_bytes w.name

abbrev pub NamesThread : List Watched → ℕ → List ℕ → Type 0
NamesThread list thread body = ((one : Watched) × IsWatched list thread one × (body ≡ text (name_in one))) ⊎ (IsGone list thread × (body ≡ text (codes "(ended)")))

-- a text that the class with this id has, as it was defined
abbrev pub TellsOfClass : (List ClassInfo → ClassNo → List ℕ → Type 0) → List ClassInfo → ℕ → (List ℕ → List ℕ) → List ℕ → Type 0
TellsOfClass Has log id spell body = (class : ℕ) × (told : List ℕ) × (number_from first_class id ≡ Some class) × Has log (record { 0 = class }) told × (body ≡ spell told)

-- a signature, and the empty generic one
abbrev pub with_generic : List ℕ → List ℕ
with_generic signature = text signature ++ text []

-- a source file without its folders
abbrev pub file_text : List ℕ → List ℕ
file_text path = text (file_in path)

abbrev pub known_class : Known → ℕ × List ℕ
known_class k = (k.class, string_bytes k.signature)

-- classes in the order of their numbers, from n on
abbrev pub numbered : ℕ → List ClassInfo → List (ℕ × List ℕ)
numbered n [] = []
numbered n (info ∷ log) = (n, string_bytes info.signature) ∷ numbered (suc n) log

-- a tag for a class, its id, its signature, no generic one, and a status
abbrev pub class_item : ℕ × List ℕ → List ℕ
class_item c = 1 ∷ long (id_from first_class c.0) ++ text c.1 ++ text [] ++ int 7

-- All classes that were defined at some moment between before and after are listed.
abbrev pub ListsAll : List ClassInfo → List ClassInfo → List (ℕ × List ℕ) → Type 0
ListsAll before after listed = (log : List ClassInfo) × IsPrefix before log × IsPrefix log after × (listed ≡ numbered 0 log)

abbrev pub TellsAllClasses : List ClassInfo → List ClassInfo → List ℕ → Type 0
TellsAllClasses before after body = (listed : List (ℕ × List ℕ)) × ListsAll before after listed × (body ≡ list class_item listed)

-- the numbers of the classes that have this signature
abbrev pub found_in : List ℕ → List (ℕ × List ℕ) → List ℕ
found_in signature listed = map (λ (c : ℕ × List ℕ). c.0) (filter (λ (c : ℕ × List ℕ). bytes_eq c.1 signature) listed)

abbrev pub TellsFound : List ℕ → List ClassInfo → List ClassInfo → List ℕ → Type 0
TellsFound signature before after body = (listed : List (ℕ × List ℕ)) × ListsAll before after listed × (body ≡ found_list (found_in signature listed))

-- What the body of the reply to a request whose data are these bytes says. Nothing is said of the bodies of other requests.
abbrev pub IsBodyOf : Request → List ℕ → Desk → Desk → List ℕ → Type 0
IsBodyOf request.Version bytes old new body = body ≡ version_text old.about
IsBodyOf request.ClassPaths bytes old new body = body ≡ paths_text old.about
IsBodyOf request.AllThreads bytes old new body = body ≡ thread_list (live_in old.crowd.list.items)
IsBodyOf (request.GroupChildren id) bytes old new body = body ≡ thread_list (live_in old.crowd.list.items) ++ int 0
IsBodyOf (request.ThreadName id) bytes old new body = (thread : ℕ) × (number_from first_thread id ≡ Some thread) × NamesThread old.crowd.list.items thread body
IsBodyOf (request.ThreadStatus id) bytes old new body = (thread : ℕ) × (number_from first_thread id ≡ Some thread) × TellsState old new thread body
IsBodyOf (request.FrameCount id) bytes old new body = (thread : ℕ) × (number_from first_thread id ≡ Some thread) × TellsDepth old new thread body
IsBodyOf (request.Frames id start length) bytes old new body = (thread : ℕ) × (number_from first_thread id ≡ Some thread) × TellsFrames old new thread start length body
IsBodyOf (request.MethodsWithGeneric id) bytes old new body = TellsMethods (classes_of new.agent) id body
IsBodyOf (request.LineTable class method) bytes old new body = TellsLines (classes_of new.agent) class method body
IsBodyOf (request.IsObsolete class method) bytes old new body = IsNotObsolete (classes_of new.agent) class method body
IsBodyOf request.AllClasses bytes old new body = TellsAllClasses (classes_of old.agent) (classes_of new.agent) body
IsBodyOf (request.ClassesBySignature range) bytes old new body = TellsFound (bytes_at range bytes) (classes_of old.agent) (classes_of new.agent) body
IsBodyOf (request.Signature id) bytes old new body = TellsOfClass IsSignature (classes_of new.agent) id text body
IsBodyOf (request.SignatureWithGeneric id) bytes old new body = TellsOfClass IsSignature (classes_of new.agent) id with_generic body
IsBodyOf (request.SourceFile id) bytes old new body = TellsOfClass IsSourceFile (classes_of new.agent) id file_text body
IsBodyOf (request.VariableTable class method) bytes old new body = TellsVariables false method old.asked body
IsBodyOf (request.VariableTableWithGeneric class method) bytes old new body = TellsVariables true method old.asked body
IsBodyOf (request.FrameValues id frame slots) bytes old new body = (thread : ℕ) × (number_from first_thread id ≡ Some thread) × TellsFrame thread frame (bytes_at slots bytes) old.asked body
IsBodyOf request.CapabilitiesNew bytes old new body = body ≡ capabilities_text (can_pop old.agent)
IsBodyOf (request.PopFrames id frame) bytes old new body = (thread : ℕ) × (number_from first_thread id ≡ Some thread) × PopsFrames old new thread frame × (body ≡ [])
IsBodyOf (request.DisposeObjects range) bytes old new body = body ≡ []
IsBodyOf (request.TextValue id) bytes old new body = TellsText old.objects.list.items id body
IsBodyOf (request.TableLength id) bytes old new body = TellsLength old.objects.list.items id body
IsBodyOf (request.TableEntries id start len) bytes old new body = TellsEntries old.objects.list.items id start len body
IsBodyOf (request.ReferenceType id) bytes old new body = TellsClass old.objects.list.items id body
IsBodyOf _ bytes old new body = Unit {0}
