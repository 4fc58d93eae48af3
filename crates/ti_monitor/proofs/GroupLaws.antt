use Rattle.std.proofs.Common.{◌≡◌, ℕ, suc, ◌≤◌, ◌<◌, Bool, true, false, List, [], ◌∷◌, ◌++◌, fold, get_or, length, map, All, arith, ap, ◌∙◌, if◌then◌else◌, ◌⊎◌, inl, inr}
use Rattle.std.specs.List.{list_any}
use Rattle.std.proofs.lemmas.Bool.{cases_lt}
use Rattle.std.proofs.lemmas.List.{get_or_append_left, get_or_push, length_push, map-append}
use Rattle.std.proofs.lemmas.List.Sums.{fold_push}
use Rattle.indexmap.specs.IndexSet.{insert_key}
use Rattle.ti_pprof.specs.declared.table.Row.{Row}
use Rattle.ti_pprof.specs.Samples.{AreNumbered}
use Rattle.ti_monitor.specs.declared.groups_text.Group.{Group}
use Rattle.ti_monitor.specs.Threads.{group_of, groups_of, is_same_group}

-- the groups of one more sample
pub groups_of-push : (rows : List Row) (row : Row) → groups_of (rows ++ row ∷ []) ≡ insert_key is_same_group (groups_of rows) (group_of row)
groups_of-push rows row =
    ap (fold (insert_key is_same_group) []) (map-append group_of rows (row ∷ []))
    ∙ fold_push (insert_key is_same_group) [] (map group_of rows) (group_of row)

all_insert : (most : ℕ) (found : Bool) (keys : List Group) (g : Group) → All (λ (x : Group). x.stack ≤ most) keys → g.stack ≤ most
    → All (λ (x : Group). x.stack ≤ most) (if found then keys else keys ++ g ∷ [])
all_insert most true keys g h k = h
all_insert most false keys g h k = λ i d within. place i d within (cases_lt i (length keys))
  where
    place : (i : ℕ) (d : Group) → i < length (keys ++ g ∷ []) → (i < length keys) ⊎ (length keys ≤ i) → (get_or (keys ++ g ∷ []) i d).stack ≤ most
    place i d within (inl before) = omega (arith, ap (λ (x : Group). x.stack) (get_or_append_left keys (g ∷ []) d i before), h i d before)
    place i d within (inr behind) =
        let last : length keys ≡ i = omega (arith, length_push keys g) in
        omega (arith, ap (λ (x : Group). x.stack) (get_or_push keys g d i last), k)

all_fold : (most : ℕ) (rows : List Row) (keys : List Group) → All (λ (x : Group). x.stack ≤ most) keys → AreNumbered rows most
    → All (λ (x : Group). x.stack ≤ most) (fold (insert_key is_same_group) keys (map group_of rows))
all_fold most [] keys h numbered = h
all_fold most (row ∷ rows) keys h numbered =
    all_fold most rows (insert_key is_same_group keys (group_of row))
    (all_insert most (list_any (is_same_group (group_of row)) keys) keys (group_of row) h (numbered 0 row (omega arith)))
    (λ i d lt. numbered (suc i) d (omega arith))

-- each group's stack is one of the stacks
pub groups_within : (rows : List Row) (most : ℕ) → AreNumbered rows most → All (λ (x : Group). x.stack ≤ most) (groups_of rows)
groups_within rows most numbered = all_fold most rows [] (λ i d within. absurd (omega arith)) numbered
