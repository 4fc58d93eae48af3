-- Rows and their counts.
use Rattle.std.specs.Prelude.{ℕ, ◌≡◌, ◌<◌, ◌+◌, ◌&&◌, ◌==◌, ◌⊎◌, Bool, false, List, [], ◌∷◌, ◌++◌, get_or, length, slice_set}
use Rattle.std.specs.List.{list_any}
use Rattle.ti_pprof.specs.declared.table.Row.{Row}

-- whether two rows are of one stack, one thread and one state
abbrev pub is_same_row : Row → Row → Bool
is_same_row a b = (a.stack == b.stack) && ((a.thread == b.thread) && (a.state == b.state))

-- a row was counted so many times: one that was not there goes last, with that count, and one that was there has a count
-- that is so much higher
abbrev pub IsRowCounted : List Row → List ℕ → List Row → List ℕ → Row → ℕ → Type 0
IsRowCounted rows counts rows' counts' row times =
    ((rows' ≡ rows ++ row ∷ []) × (counts' ≡ counts ++ times ∷ []) × (list_any (is_same_row row) rows ≡ false))
    ⊎ ((i : ℕ) × (i < length rows) × (get_or rows i row ≡ row) × (rows' ≡ rows) × (counts' ≡ slice_set counts i (get_or counts i 0 + times)))
