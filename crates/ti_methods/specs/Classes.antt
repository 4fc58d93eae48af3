-- What was defined: a list of classes, each under the number of those before it.
use Rattle.std.specs.Prelude.{ℕ, zero, suc, ◌≡◌, ◌+◌, ◌^◌, ◌<◌, ◌≤◌, ◌⊎◌, ◌++◌, ◌∷◌, [], List, Option, Some, None, true, false, ⊤, IsSomeAnd, length, map, take, slice_get, string_bytes}
use Rattle.logbook.specs.Pages.{Book}
use Rattle.ti_types.specs.declared.numbers.MethodNo.{MethodNo}
use Rattle.ti_methods.specs.declared.info.ClassNo.{ClassNo}
use Rattle.ti_methods.specs.declared.info.ClassInfo.{ClassInfo}
use Rattle.ti_methods.specs.declared.info.MethodInfo.{MethodInfo}
use Rattle.ti_methods.specs.declared.info.MethodName.{MethodName}
use Rattle.ti_methods.specs.declared.info.Defined.{Defined}
use Rattle.ti_methods.specs.declared.info.Lines.{Lines}
use Rattle.ti_methods.specs.declared.info.Lines.TheVariants as lines
use Rattle.ti_methods.specs.declared.error.ClassError.{ClassError}
use Rattle.ti_methods.specs.declared.error.ClassError.TheVariants as error

-- which table, and the classes that were seen of it
pub record Known : Type 0 where
  pub book : Book
  pub seen : List ClassInfo

-- how many methods it has
abbrev pub count : ClassInfo → ℕ
count class = length class.methods.items

-- all methods, in the order of their numbers
abbrev pub methods_in : List ClassInfo → List MethodInfo
methods_in [] = []
methods_in (class ∷ log) = class.methods.items ++ methods_in log

abbrev pub class_at : List ClassInfo → ClassNo → Option ClassInfo
class_at log class = slice_get log class.0

abbrev pub method_at : List ClassInfo → MethodNo → Option MethodInfo
method_at log method = slice_get (methods_in log) method.0

-- no number names two classes, or two methods
pub record AreAlike (a b : List ClassInfo) : Type 0 where
  pub classes : (class : ClassNo) (x y : ClassInfo) → class_at a class ≡ Some x → class_at b class ≡ Some y → x ≡ y
  pub methods : (method : MethodNo) (x y : MethodInfo) → method_at a method ≡ Some x → method_at b method ≡ Some y → x ≡ y

-- how many methods the classes below this number have
abbrev pub first_of : List ClassInfo → ℕ → ℕ
first_of log class = length (methods_in (take class log))

-- so many numbers, from the first on
abbrev pub count_from : ℕ → ℕ → List ℕ
count_from first zero = []
count_from first (suc n) = first ∷ count_from (suc first) n

-- there are numbers left for the class and its methods
pub record HasRoom (log : List ClassInfo) (class : ClassInfo) : Type 0 where
  pub classes : length log + 1 < 2 ^ 32
  pub methods : length (methods_in log) + count class < 2 ^ 32

-- there are not
abbrev pub IsFull : List ClassInfo → ClassInfo → Type 0
IsFull log class = (2 ^ 32 ≤ length log + 1) ⊎ (2 ^ 32 ≤ length (methods_in log) + count class)

-- the class has the numbers that were given, which nothing had that was seen before. It is the last that was defined
pub record IsDefined (old new : Known) (class : ClassInfo) (d : Defined) : Type 0 where
  pub at : class_at new.seen d.class ≡ Some class
  pub first : d.first.0 ≡ first_of new.seen d.class.0
  pub last : length new.seen ≡ d.class.0 + 1
  pub unused : length old.seen ≤ d.class.0

-- the class stands in the list under these numbers
pub record IsPut (log : List ClassInfo) (class : ClassInfo) (d : Defined) : Type 0 where
  pub at : class_at log d.class ≡ Some class
  pub first : d.first.0 ≡ first_of log d.class.0
  pub room : d.first.0 + count class < 2 ^ 32

-- the class that declares a method is the one in whose range of numbers it is
pub record IsDeclaredBy (log : List ClassInfo) (method : MethodNo) (class : ClassNo) : Type 0 where
  pub there : IsSomeAnd (class_at log class) (λ c. (first_of log class.0 ≤ method.0) × (method.0 < first_of log class.0 + count c))

abbrev pub RefusesClass : List ClassInfo → ClassInfo → ClassError → Type 0
RefusesClass log class e = ((e ≡ error.Full) × IsFull log class) ⊎ ((e ≡ error.OutOfMemory) ⊎ (e ≡ error.Busy))

-- no class has the number; or one has, and whoever defines it has not ended
abbrev pub RefusesLook : List ClassInfo → ClassNo → ClassError → Type 0
RefusesLook log class e = ((e ≡ error.InvalidClass) × (length log ≤ class.0)) ⊎ ((e ≡ error.Busy) × (class.0 < length log))

abbrev pub RefusesClassCall : List ClassInfo → ClassNo → ClassError → Type 0
RefusesClassCall log class e = RefusesLook log class e ⊎ (e ≡ error.OutOfMemory)

abbrev pub RefusesSourceFile : List ClassInfo → ClassNo → ClassError → Type 0
RefusesSourceFile log class e = RefusesClassCall log class e ⊎ ((e ≡ error.AbsentInformation) × IsSomeAnd (class_at log class) (λ c. c.source_file ≡ None))

-- no method has the number; or one has, and whoever defines its class has not ended
abbrev pub RefusesMethod : List ClassInfo → MethodNo → ClassError → Type 0
RefusesMethod log method e = ((e ≡ error.InvalidMethod) × (length (methods_in log) ≤ method.0)) ⊎ ((e ≡ error.Busy) × (method.0 < length (methods_in log)))

abbrev pub RefusesMethodCall : List ClassInfo → MethodNo → ClassError → Type 0
RefusesMethodCall log method e = RefusesMethod log method e ⊎ (e ≡ error.OutOfMemory)

-- why a method has no lines to be told
abbrev pub HasNoLines : MethodInfo → ClassError → Type 0
HasNoLines m e = ((e ≡ error.NativeMethod) × (m.is_native ≡ true)) ⊎ ((e ≡ error.AbsentInformation) × (m.is_native ≡ false) × (m.lines ≡ lines.Absent))

abbrev pub RefusesLines : List ClassInfo → MethodNo → ClassError → Type 0
RefusesLines log method e = RefusesMethodCall log method e ⊎ IsSomeAnd (method_at log method) (λ m. HasNoLines m e)

abbrev pub IsSignature : List ClassInfo → ClassNo → List ℕ → Type 0
IsSignature log class text = IsSomeAnd (class_at log class) (λ c. text ≡ string_bytes c.signature)

abbrev pub IsSourceFile : List ClassInfo → ClassNo → List ℕ → Type 0
IsSourceFile log class text = IsSomeAnd (class_at log class) (λ c. IsSomeAnd c.source_file (λ f. text ≡ string_bytes f))

abbrev pub AreMethodsOf : List ClassInfo → ClassNo → List MethodNo → Type 0
AreMethodsOf log class methods = IsSomeAnd (class_at log class) (λ c. map (λ m. m.0) methods ≡ count_from (first_of log class.0) (count c))

pub record IsSameName (n : MethodName) (m : MethodInfo) : Type 0 where
  pub name : string_bytes n.name ≡ string_bytes m.name
  pub signature : string_bytes n.signature ≡ string_bytes m.signature
  pub first_line : n.first_line ≡ m.first_line

abbrev pub IsNameOf : List ClassInfo → MethodNo → MethodName → Type 0
IsNameOf log method n = IsSomeAnd (method_at log method) (λ m. IsSameName n m)

-- the same lines, which are known
abbrev pub AreSameLines : Lines → Lines → Type 0
AreSameLines lines.Absent b = true ≡ false
AreSameLines lines.Locations lines.Absent = true ≡ false
AreSameLines lines.Locations lines.Locations = ⊤
AreSameLines lines.Locations (lines.Table b) = true ≡ false
AreSameLines (lines.Table a) lines.Absent = true ≡ false
AreSameLines (lines.Table a) lines.Locations = true ≡ false
AreSameLines (lines.Table a) (lines.Table b) = a.items ≡ b.items

abbrev pub AreLinesOf : List ClassInfo → MethodNo → Lines → Type 0
AreLinesOf log method l = IsSomeAnd (method_at log method) (λ m. (m.is_native ≡ false) × AreSameLines l m.lines)
