-- How many stacks were folded, and how often each was seen.
use Rattle.std.specs.Prelude.{ℕ, ◌≡◌, Bool, List, map, Some, slice_get, ◌==◌, if◌then◌else◌}
use Rattle.std.specs.Cmp.Lexicographic.{pointwise}
use Rattle.std.specs.List.{sum_by}
use Rattle.ti_types.specs.declared.numbers.MethodNo.{MethodNo}
use Rattle.tiprof.specs.declared.fold.Folded.{Folded}

-- the sum of the counts
abbrev pub counts_of : List Folded → ℕ
counts_of stacks = sum_by (λ (f : Folded). f.count) stacks

-- the methods of each stack
abbrev pub stacks_of : List Folded → List (List MethodNo)
stacks_of stacks = map (λ (f : Folded). f.methods.items) stacks

-- no stack is there twice
abbrev pub AreDistinct : List (List MethodNo) → Type 0
AreDistinct l = (i j : ℕ) (m : List MethodNo) → slice_get l i ≡ Some m → slice_get l j ≡ Some m → i ≡ j

-- whether two stacks have the same methods in the same order
abbrev pub same_methods : List MethodNo → List MethodNo → Bool
same_methods ms ns = pointwise (λ (m n : MethodNo). m.0 == n.0) ms ns

-- how often the stack of exactly these methods was seen; the newest method comes first
abbrev pub seen : List MethodNo → List Folded → ℕ
seen methods stacks = sum_by (λ (f : Folded). if same_methods f.methods.items methods then f.count else 0) stacks
