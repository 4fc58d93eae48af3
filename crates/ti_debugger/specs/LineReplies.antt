-- What the body of a reply about a method's lines says.
use Rattle.std.specs.Prelude.{⊤, ℕ, zero, suc, ◌≡◌, ◌+◌, ◌-◌, ◌^◌, ◌++◌, List, [], ◌∷◌, Some, IsSomeAnd, map, min, max}
use Rattle.std.specs.List.Sorted.{IsNonDecreasingBy, IsPermutation}
use Rattle.ti_types.specs.declared.numbers.MethodNo.{MethodNo}
use Rattle.ti_jdwp.specs.Bodies.{identity_list, line_list}
use Rattle.ti_jdwp.specs.Fields.{long}
use Rattle.ti_jdwp.specs.Ids.{number_from, first_class, first_method}
use Rattle.ti_jdwp.specs.declared.lists.LineRow.{LineRow}
use Rattle.ti_methods.specs.Classes.{IsDeclaredBy, method_at}
use Rattle.ti_methods.specs.declared.info.ClassInfo.{ClassInfo}
use Rattle.ti_methods.specs.declared.info.LineEntry.{LineEntry}
use Rattle.ti_methods.specs.declared.info.Lines.{Lines}
use Rattle.ti_methods.specs.declared.info.Lines.TheVariants as lines

-- so many lines from this one on, which count up to 2^32 - 1
unfoldable pub lines_for : ℕ → ℕ → List ℕ
lines_for from zero = []
lines_for from (suc n) = min from (2 ^ 32 - 1) ∷ lines_for (from + 1) n

abbrev pub row_of : LineEntry → LineRow
row_of e = record { index = e.start_location; line = e.line }

abbrev pub index_of : LineRow → ℕ
index_of r = r.index

-- the location at which a table begins
abbrev pub start_of : List LineRow → ℕ
start_of [] = 0
start_of (r ∷ rows) = r.index

-- the body of a method with these lines, the first of which is this. A table is told in the order of its locations
abbrev pub TellsTable : Lines → ℕ → List ℕ → Type 0
TellsTable lines.Absent first body = body ≡ long 0 ++ long 4294967295 ++ identity_list []
TellsTable lines.Locations first body = body ≡ long 0 ++ long 4294967295 ++ identity_list (lines_for (max first 1) 4096)
TellsTable (lines.Table entries) first body =
    (rows : List LineRow) × IsPermutation (map row_of entries.items) rows × IsNonDecreasingBy index_of rows
    × (body ≡ long (start_of rows) ++ long 4294967295 ++ line_list rows)

-- the lines that the method was defined with
abbrev pub AreLines : Lines → Lines → Type 0
AreLines lines.Absent lines.Absent = ⊤
AreLines lines.Absent lines.Locations = ⊥
AreLines lines.Absent (lines.Table b) = ⊥
AreLines lines.Locations lines.Absent = ⊥
AreLines lines.Locations lines.Locations = ⊤
AreLines lines.Locations (lines.Table b) = ⊥
AreLines (lines.Table a) lines.Absent = ⊥
AreLines (lines.Table a) lines.Locations = ⊥
AreLines (lines.Table a) (lines.Table b) = a.items ≡ b.items

abbrev pub HasLines : List ClassInfo → MethodNo → Lines → Type 0
HasLines log method l = IsSomeAnd (method_at log method) (λ m. AreLines l m.lines)

-- the class with this id declares the method
abbrev pub Declares : List ClassInfo → ℕ → MethodNo → Type 0
Declares log class m = (c : ℕ) × (number_from first_class class ≡ Some c) × IsDeclaredBy log m (record { 0 = c })

-- no: a method that the class with this id declares is as it was defined
abbrev pub IsNotObsolete : List ClassInfo → ℕ → ℕ → List ℕ → Type 0
IsNotObsolete log class method body = (m : MethodNo) × (number_from first_method method ≡ Some m.0) × Declares log class m × (body ≡ 0 ∷ [])

-- the lines of the method with this id, which the class with this id declares, as they were defined
abbrev pub TellsLines : List ClassInfo → ℕ → ℕ → List ℕ → Type 0
TellsLines log class method body =
    (m : MethodNo) × (number_from first_method method ≡ Some m.0) × Declares log class m × IsSomeAnd (method_at log m) (λ info. TellsTable info.lines info.first_line body)
