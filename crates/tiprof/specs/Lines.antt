-- The line of a stack.
use Rattle.std.specs.Prelude.{ℕ, suc, ◌≡◌, ◌++◌, ◌==◌, Bool, if◌then◌else◌, codes, decimal, map, List, [], ◌∷◌, Option, Some, None, String, IsPermutation}
use Rattle.std.specs.Global.{Global}
use Rattle.std.specs.String.{string_bytes}
use Rattle.ti_types.specs.declared.numbers.MethodNo.{MethodNo}
use Rattle.tiprof.specs.declared.fold.Folded.{Folded}
use Rattle.tiprof.specs.declared.roots.Doing.{Doing}
use Rattle.tiprof.specs.declared.roots.Doing.TheVariants.{Running, Away}
use Rattle.tiprof.specs.declared.roots.Owner.{Owner}
use Rattle.tiprof.specs.declared.roots.Owner.TheVariants.{Workers, Worker, NewThreads}
use Rattle.tiprof.specs.declared.roots.Part.{Part}
use Rattle.tiprof.specs.Roots.{owner_at, word_of}

-- the name of a method, by its number
abbrev pub name_of : ℕ → List ℕ
name_of n =
    if n == 0 then codes "worker"
    else (if n == 1 then codes "parse"
    else (if n == 2 then codes "parse_object"
    else (if n == 3 then codes "parse_array"
    else (if n == 4 then codes "parse_string"
    else (if n == 5 then codes "sort"
    else (if n == 6 then codes "fill"
    else (if n == 7 then codes "merge_sort"
    else (if n == 8 then codes "sort_run"
    else (if n == 9 then codes "merge"
    else (if n == 10 then codes "search"
    else (if n == 11 then codes "place"
    else (if n == 12 then codes "rest"
    else codes "unknown"))))))))))))

-- the names of these methods, of which the newest comes first: the oldest first, each behind a semicolon
abbrev pub names_of : List MethodNo → List ℕ
names_of [] = []
names_of (m ∷ methods) = names_of methods ++ (codes ";" ++ name_of m.0)

-- a stack's line: its root, its methods, the oldest first, and how often it was seen
abbrev pub line_of : List ℕ → Folded → List ℕ
line_of root f = root ++ (names_of f.methods.items ++ (codes " " ++ decimal f.count))

-- the name at the root of an owner's stacks, if they have one
abbrev pub owner_name : Owner → Option (List ℕ)
owner_name Workers = None
owner_name (Worker n) = Some (codes "worker " ++ decimal n)
owner_name NewThreads = Some (codes "new threads")

abbrev pub name_before : Option (List ℕ) → List ℕ
name_before None = []
name_before (Some name) = name ++ codes ";"

-- the root of the lines of an owner's threads that did this
abbrev pub root_of : Owner → Doing → List ℕ
root_of owner doing = name_before (owner_name owner) ++ word_of doing

-- the lines of these stacks, in their order
abbrev pub lines_in : List ℕ → List Folded → List (List ℕ)
lines_in root stacks = map (line_of root) stacks

-- the lines of an owner's stacks: first those of threads that ran
abbrev pub lines_at : Owner → Part → List (List ℕ)
lines_at owner part = lines_in (root_of owner Running) part.running.stacks.items ++ lines_in (root_of owner Away) part.away.stacks.items

-- the lines of the stacks of all parts, of which the first is at this place
abbrev pub lines_from : Bool → ℕ → ℕ → List Part → List (List ℕ)
lines_from by_thread workers place [] = []
lines_from by_thread workers place (part ∷ parts) = lines_at (owner_at by_thread workers place) part ++ lines_from by_thread workers (suc place) parts

-- these are the lines of all stacks, each once, in the order of their bytes
pub record AreLinesOf (by_thread : Bool) (workers : ℕ) (parts : List Part) (lines : List (String Global)) : Type 0 where
  pub as_folded : List (String Global)
  pub lines_are : map string_bytes as_folded ≡ lines_from by_thread workers 0 parts
  pub reordered : IsPermutation as_folded lines
