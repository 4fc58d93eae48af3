-- The lines of a method, as they are told.
use Rattle.std.proofs.lemmas.List.{append-nil}
use Rattle.std.proofs.Common.{◌≡◌, inl, inr, false, map, ◌+◌, ◌-◌, ◌^◌, ◌<◌, ◌≤◌, ℕ, suc, List, [], ◌∷◌, ◌++◌, Option, Some, None, min, refl, sym, ap, subst, ◌∙◌, append_assoc, arith}
use Rattle.std.specs.Prelude.{IsSomeAnd}
use Rattle.std.specs.List.Sorted.{IsPermutation}
use mathlib.Core.List.{IsPrefix}
use Rattle.ti_types.specs.declared.numbers.MethodNo.{MethodNo}
use Rattle.ti_methods.specs.Classes.{AreLinesOf, AreSameLines, HasNoLines, IsNameOf, IsSameName, RefusesLines, method_at, methods_in}
use Rattle.ti_methods.specs.declared.error.ClassError.{ClassError}
use Rattle.ti_methods.specs.declared.error.ClassError.TheVariants as error
use Rattle.ti_methods.specs.declared.info.ClassInfo.{ClassInfo}
use Rattle.ti_methods.specs.declared.info.LineEntry.{LineEntry}
use Rattle.ti_methods.specs.declared.info.Lines.{Lines}
use Rattle.ti_methods.specs.declared.info.Lines.TheVariants as lines
use Rattle.ti_methods.specs.declared.info.MethodInfo.{MethodInfo}
use Rattle.ti_methods.specs.declared.info.MethodName.{MethodName}
use Rattle.ti_methods.proofs.Lists.{methods_prefix, prefix_get}
use Rattle.ti_debugger.specs.LineReplies.{AreLines, Declares, HasLines, TellsTable, lines_for, row_of}
use Rattle.ti_debugger.proofs.StackLaws.{declared_still}

pub lines_more : (first count i : ℕ) (old new total : List ℕ) → i < count → new ≡ old ++ min (first + i) (2 ^ 32 - 1) ∷ [] → old ++ lines_for (first + i) (count - i) ≡ total → new ++ lines_for (first + (i + 1)) (count - (i + 1)) ≡ total
unfolding lines_for
lines_more first count i old new total lt is so_far =
    let k : count - i ≡ suc (count - (i + 1)) = omega arith in
    let at : first + (i + 1) ≡ (first + i) + 1 = omega arith in
    ap (λ (n : ℕ). new ++ lines_for n (count - (i + 1))) at
    ∙ ap (λ (l : List ℕ). l ++ lines_for ((first + i) + 1) (count - (i + 1))) is
    ∙ append_assoc old (min (first + i) (2 ^ 32 - 1) ∷ []) (lines_for ((first + i) + 1) (count - (i + 1)))
    ∙ sym (ap (λ (n : ℕ). old ++ lines_for (first + i) n) k)
    ∙ so_far

pub lines_all : (first count i : ℕ) (told total : List ℕ) → count ≤ i → told ++ lines_for (first + i) (count - i) ≡ total → told ≡ total
unfolding lines_for
lines_all first count i told total le so_far =
    let k : count - i ≡ 0 = omega arith in
    sym (append-nil told) ∙ sym (ap (λ (n : ℕ). told ++ lines_for (first + i) n) k) ∙ so_far

same_lines : (l k : Lines) → AreSameLines l k → AreLines l k
same_lines lines.Absent k same = absurd (cc same)
same_lines lines.Locations lines.Absent same = absurd (cc same)
same_lines lines.Locations lines.Locations same = tt
same_lines lines.Locations (lines.Table b) same = absurd (cc same)
same_lines (lines.Table a) lines.Absent same = absurd (cc same)
same_lines (lines.Table a) lines.Locations same = absurd (cc same)
same_lines (lines.Table a) (lines.Table b) same = same

-- the lines that are told are those that the method was defined with
has_lines : (o : Option MethodInfo) (l : Lines) → IsSomeAnd o (λ m. (m.is_native ≡ false) × AreSameLines l m.lines) → IsSomeAnd o (λ m. AreLines l m.lines)
has_lines None l is = absurd is
has_lines (Some m) l is = same_lines l m.lines is.1

pub lines_there : (log : List ClassInfo) (method : MethodNo) (l : Lines) → AreLinesOf log method l → HasLines log method l
lines_there log method l is = has_lines (method_at log method) l is

absent_in : (m : MethodInfo) (e : ClassError) → HasNoLines m e → e ≡ error.AbsentInformation → AreLines lines.Absent m.lines
absent_in m e (inl native) is = absurd (cc (native.0, is))
absent_in m e (inr none) is = subst (λ (l : Lines). AreLines lines.Absent l) (sym none.2) tt

has_none : (o : Option MethodInfo) (e : ClassError) → IsSomeAnd o (λ m. HasNoLines m e) → e ≡ error.AbsentInformation → IsSomeAnd o (λ m. AreLines lines.Absent m.lines)
has_none None e none is = absurd none
has_none (Some m) e none is = absent_in m e none is

-- a method that was defined without lines
pub lines_absent : (log : List ClassInfo) (method : MethodNo) (e : ClassError) → RefusesLines log method e → e ≡ error.AbsentInformation → HasLines log method lines.Absent
lines_absent log method e (inl (inl (inl r))) is = absurd (cc (r.0, is))
lines_absent log method e (inl (inl (inr r))) is = absurd (cc (r.0, is))
lines_absent log method e (inl (inr r)) is = absurd (cc (r, is))
lines_absent log method e (inr none) is = has_none (method_at log method) e none is

in_lines : (l k : Lines) (first : ℕ) (body : List ℕ) → AreLines l k → TellsTable l first body → TellsTable k first body
in_lines lines.Absent lines.Absent first body same told = told
in_lines lines.Absent lines.Locations first body same told = absurd same
in_lines lines.Absent (lines.Table b) first body same told = absurd same
in_lines lines.Locations lines.Absent first body same told = absurd same
in_lines lines.Locations lines.Locations first body same told = told
in_lines lines.Locations (lines.Table b) first body same told = absurd same
in_lines (lines.Table a) lines.Absent first body same told = absurd same
in_lines (lines.Table a) lines.Locations first body same told = absurd same
in_lines (lines.Table a) (lines.Table b) first body same told = (told.0, subst (λ (es : List LineEntry). IsPermutation (map row_of es) told.0) same told.1, told.2, told.3)

-- the method's lines, by its name and then by its lines
info_told : (o : Option MethodInfo) (a b : List ClassInfo) (method : MethodNo) (n : MethodName) (l : Lines) (body : List ℕ) → method_at a method ≡ o → IsPrefix a b
    → IsSomeAnd o (λ m. IsSameName n m) → HasLines b method l → TellsTable l n.first_line body → IsSomeAnd (method_at b method) (λ m. TellsTable m.lines m.first_line body)
info_told None a b method n l body at pre name is told = absurd name
info_told (Some m) a b method n l body at pre name is told =
    let found : method_at b method ≡ Some m = prefix_get (methods_in a) (methods_in b) method.0 m (methods_prefix a b pre) at in
    let here = subst (λ (o : Option MethodInfo). IsSomeAnd o (λ (i : MethodInfo). AreLines l i.lines)) found is in
    let first = subst (λ (f : ℕ). TellsTable l f body) name.first_line told in
    subst (λ (o : Option MethodInfo). IsSomeAnd o (λ (i : MethodInfo). TellsTable i.lines i.first_line body)) (sym found) (in_lines l m.lines m.first_line body here first)

pub lines_told : (a b : List ClassInfo) (method : MethodNo) (n : MethodName) (l : Lines) (body : List ℕ) → IsPrefix a b → IsNameOf a method n → HasLines b method l → TellsTable l n.first_line body
    → IsSomeAnd (method_at b method) (λ m. TellsTable m.lines m.first_line body)
lines_told a b method n l body pre name is told = info_told (method_at a method) a b method n l body refl pre name is told

-- the class still declares the method
pub declares_still : (a b : List ClassInfo) (class : ℕ) (method : MethodNo) → IsPrefix a b → Declares a class method → Declares b class method
declares_still a b class method pre is = (is.0, is.1, declared_still a b method (record { 0 = is.0 }) pre is.2)
