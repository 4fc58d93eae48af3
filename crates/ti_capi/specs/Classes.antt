-- Classes and methods, as C defines them and is told of them.
use Rattle.std.specs.Prelude.{ℕ, ◌≡◌, Bool, List, Option, Some, None, IsSomeAnd, length, map, string_bytes}
use mathlib.Core.List.{IsPrefix}
use Rattle.ti_types.specs.TiError.{number_of}
use Rattle.ti_types.specs.declared.error.TiError.{TiError}
use Rattle.ti_types.specs.declared.numbers.MethodNo.{MethodNo}
use Rattle.ti_methods.specs.Classes.{AreLinesOf, AreMethodsOf, IsDeclaredBy, IsDefined, IsNameOf, IsSignature, IsSourceFile, RefusesClass, count_from, method_at}
use Rattle.ti_methods.specs.Errors.{number_of as class_number_of}
use Rattle.ti_methods.specs.declared.error.ClassError.{ClassError}
use Rattle.ti_methods.specs.declared.error.ClassError.TheVariants.{OutOfMemory as NoMemory}
use Rattle.ti_methods.specs.declared.info.ClassInfo.{ClassInfo}
use Rattle.ti_methods.specs.declared.info.ClassNo.{ClassNo}
use Rattle.ti_methods.specs.declared.info.Defined.{Defined}
use Rattle.ti_methods.specs.declared.info.Lines.{Lines}
use Rattle.ti_methods.specs.declared.info.Lines.TheVariants.{Absent, Locations, Table}
use Rattle.ti_methods.specs.declared.info.MethodName.{MethodName}
use Rattle.ti_service.specs.Classes.{SeesClasses, classes_of}
use Rattle.ti_service.specs.Memberships.{AgentValue}
use Rattle.ti_service.specs.Service.{Member, with_classes}
use Rattle.ti_capi.specs.declared.class_values.CqLineEntry.{CqLineEntry}
use Rattle.ti_capi.specs.declared.class_values.CqMethodName.{CqMethodName}
use Rattle.ti_capi.specs.Calls.{Calls}
use Rattle.ti_capi.specs.Codes.{misused}
use Rattle.ti_capi.specs.Defining.{Given, HasClass, IsClass, Lacks, line_written}
use Rattle.ti_capi.specs.Handles.{Handle, service_in, with_service}
use Rattle.ti_capi.specs.Values.{over}

abbrev pub class_no : ℕ → ClassNo
class_no n = record { 0 = n }

-- a handle of the service has seen more classes of the same table, and nothing else has changed
pub record SeesTable (m n : Member) : Type 0 where
  pub rest : n ≡ with_classes m n.cell.classes
  pub book : n.cell.classes.book ≡ m.cell.classes.book
  pub grows : IsPrefix m.cell.classes.seen n.cell.classes.seen

-- the code tells why the class is refused
pub record RefusesBy (log : List ClassInfo) (info : ClassInfo) (code : ℕ) : Type 0 where
  pub error : ClassError
  pub code_is : code ≡ class_number_of error
  pub refused : RefusesClass log info error

-- A class is defined, or why it is not: C describes none, there is no memory to read it, or the service refuses it
-- (`ti_service`, `Service::define_class`)
pub data DefinesFor (g : Given) (c0 c1 f0 f1 : ℕ) (m n : Member) (code : ℕ) : Type 0 where
  ClassDefined : (info : ClassInfo) (d : Defined) → code ≡ 0 → IsClass g info → SeesTable m n → IsDefined m.cell.classes n.cell.classes info d → c1 ≡ d.class.0 → f1 ≡ d.first.0 → DefinesFor g c0 c1 f0 f1 m n code
  ClassUnread : (e : TiError) → code ≡ number_of e → Lacks (HasClass g) e → n ≡ m → c1 ≡ c0 → f1 ≡ f0 → DefinesFor g c0 c1 f0 f1 m n code
  ClassRefused : (info : ClassInfo) → IsClass g info → SeesTable m n → RefusesBy n.cell.classes.seen info code → c1 ≡ c0 → f1 ≡ f0 → DefinesFor g c0 c1 f0 f1 m n code

-- the same behind a handle: if it is empty or of another kind, nothing changes
abbrev pub DefinesBehind : Option Member → Option Member → Given → ℕ → ℕ → ℕ → ℕ → Handle → Handle → ℕ → Type 0
DefinesBehind (Some m) (Some n) g c0 c1 f0 f1 old new code = (new ≡ with_service old n) × DefinesFor g c0 c1 f0 f1 m n code
DefinesBehind (Some m) None g c0 c1 f0 f1 old new code = ⊥
DefinesBehind None n g c0 c1 f0 f1 old new code = (new ≡ old) × (c1 ≡ c0) × (f1 ≡ f0) × (code ≡ misused)

abbrev pub Defines : Given → ℕ → ℕ → ℕ → ℕ → Handle → Handle → ℕ → Type 0
Defines g c0 c1 f0 f1 old new code = DefinesBehind (service_in old) (service_in new) g c0 c1 f0 f1 old new code

-- An environment is told of the classes that it has seen then, or why it is not, and nothing is written (`ti_service`,
-- `ClassCalls`)
pub data ToldOf (Told : List ClassInfo → Type 0) (Refuses : List ClassInfo → ClassError → Type 0) (unwritten : Type 0) (s n : AgentValue) (code : ℕ) : Type 0 where
  ClassTold : code ≡ 0 → SeesClasses s n → Told (classes_of n) → ToldOf Told Refuses unwritten s n code
  ClassUntold : (e : ClassError) → code ≡ class_number_of e → SeesClasses s n → Refuses (classes_of n) e → unwritten → ToldOf Told Refuses unwritten s n code

abbrev pub Tells : (List ClassInfo → Type 0) → (List ClassInfo → ClassError → Type 0) → (unwritten : Type 0) → Handle → Handle → ℕ → Type 0
Tells Told Refuses unwritten old new code = Calls (ToldOf Told Refuses unwritten) unwritten old new code

-- a list is written as far as there is room, and how long it is
pub record IsListWritten {X : Type 0} (list : List X) (l0 l1 : List X) (n1 : ℕ) : Type 0 where
  pub items : l1 ≡ over list l0
  pub count : n1 ≡ length list

-- the numbers of all classes
abbrev pub AllWritten : List ℕ → List ℕ → ℕ → List ClassInfo → Type 0
AllWritten l0 l1 n1 log = IsListWritten (count_from 0 (length log)) l0 l1 n1

abbrev pub RefusesAll : List ClassInfo → ClassError → Type 0
RefusesAll log e = e ≡ NoMemory

abbrev pub SignatureWritten : ClassNo → List ℕ → List ℕ → ℕ → List ClassInfo → Type 0
SignatureWritten class l0 l1 n1 log = (text : List ℕ) × IsSignature log class text × IsListWritten text l0 l1 n1

abbrev pub SourceFileWritten : ClassNo → List ℕ → List ℕ → ℕ → List ClassInfo → Type 0
SourceFileWritten class l0 l1 n1 log = (text : List ℕ) × IsSourceFile log class text × IsListWritten text l0 l1 n1

abbrev pub MethodsWritten : ClassNo → List ℕ → List ℕ → ℕ → List ClassInfo → Type 0
MethodsWritten class l0 l1 n1 log = (methods : List MethodNo) × AreMethodsOf log class methods × IsListWritten (map (λ m. m.0) methods) l0 l1 n1

abbrev pub name_written : MethodName → CqMethodName
name_written n = record { name_length = length (string_bytes n.name); signature_length = length (string_bytes n.signature); first_line = n.first_line }

-- a method's name and signature, each as far as there is room, and their lengths
pub record NameWritten (method : MethodNo) (i1 : CqMethodName) (a0 a1 b0 b1 : List ℕ) (log : List ClassInfo) : Type 0 where
  pub told : MethodName
  pub is_name : IsNameOf log method told
  pub info : i1 ≡ name_written told
  pub name : a1 ≡ over (string_bytes told.name) a0
  pub signature : b1 ≡ over (string_bytes told.signature) b0

abbrev pub ClassWritten : MethodNo → ℕ → List ClassInfo → Type 0
ClassWritten method c1 log = (class : ClassNo) × IsDeclaredBy log method class × (c1 ≡ class.0)

abbrev pub NativeWritten : MethodNo → Bool → List ClassInfo → Type 0
NativeWritten method b1 log = IsSomeAnd (method_at log method) (λ m. b1 ≡ m.is_native)

-- the kind of a method's lines, and the entries of a table
abbrev pub AreWritten : Lines → ℕ → List CqLineEntry → List CqLineEntry → ℕ → Type 0
AreWritten Absent k1 l0 l1 n1 = (k1 ≡ 0) × (l1 ≡ l0) × (n1 ≡ 0)
AreWritten Locations k1 l0 l1 n1 = (k1 ≡ 1) × (l1 ≡ l0) × (n1 ≡ 0)
AreWritten (Table t) k1 l0 l1 n1 = (k1 ≡ 2) × IsListWritten (map line_written t.items) l0 l1 n1

pub record LinesWritten (method : MethodNo) (k1 : ℕ) (l0 l1 : List CqLineEntry) (n1 : ℕ) (log : List ClassInfo) : Type 0 where
  pub told : Lines
  pub are_lines : AreLinesOf log method told
  pub written : AreWritten told k1 l0 l1 n1
