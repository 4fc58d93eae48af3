-- What the body of a reply about methods says.
use Rattle.std.specs.Prelude.{ℕ, suc, ◌≡◌, ◌++◌, Bool, List, [], ◌∷◌, Some, IsSomeAnd, codes, string_bytes}
use Rattle.ti_types.specs.declared.numbers.MethodNo.{MethodNo}
use Rattle.ti_jdwp.specs.Bodies.{list, method_flags}
use Rattle.ti_jdwp.specs.Fields.{int, long, text}
use Rattle.ti_jdwp.specs.Ids.{id_from, number_from, first_class, first_method}
use Rattle.ti_methods.specs.Classes.{class_at, first_of, method_at}
use Rattle.ti_methods.specs.declared.info.ClassInfo.{ClassInfo}
use Rattle.ti_methods.specs.declared.info.MethodInfo.{MethodInfo}
use Rattle.ti_debugger.specs.declared.method_answers.Known.{Known}

-- a method as it is told: its number, its name, its signature, and whether it is native
pub record MethodTold : Type 0 where
  pub number : ℕ
  pub name : List ℕ
  pub signature : List ℕ
  pub native : Bool

-- the signature of each method: the runtime's own need not be one of Java's
abbrev pub any_signature : List ℕ
any_signature = codes "()V"

abbrev pub known_method : Known → MethodTold
known_method k = record { number = k.method; name = string_bytes k.name; signature = any_signature; native = k.native }

-- what is told of a method with this number
abbrev pub told_of : ℕ → MethodInfo → MethodTold
told_of n m = record { number = n; name = string_bytes m.name; signature = any_signature; native = m.is_native }

-- methods in the order of their numbers, from n on
abbrev pub told_from : ℕ → List MethodInfo → List MethodTold
told_from n [] = []
told_from n (m ∷ methods) = told_of n m ∷ told_from (suc n) methods

-- the method with this number was defined so
abbrev pub IsKnown : List ClassInfo → MethodNo → MethodTold → Type 0
IsKnown log method told = IsSomeAnd (method_at log method) (λ m. told ≡ told_of method.0 m)

-- its id, its name, its signature, no generic one, and modifiers
abbrev pub method_item : MethodTold → List ℕ
method_item m = long (id_from first_method m.number) ++ text m.name ++ text m.signature ++ text [] ++ int (method_flags m.native)

-- all methods of the class with this id, as they were defined
abbrev pub TellsMethods : List ClassInfo → ℕ → List ℕ → Type 0
TellsMethods log id body =
    (class : ℕ) × (number_from first_class id ≡ Some class)
    × IsSomeAnd (class_at log (record { 0 = class })) (λ c. body ≡ list method_item (told_from (first_of log class) c.methods.items))
