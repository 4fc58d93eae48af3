-- What contracts of a door see of the books.
use Rattle.std.specs.Prelude.{ℕ, List}
use Rattle.ti_monitor.specs.declared.metrics.Metrics.{Metrics}
use Rattle.ti_monitor.specs.declared.running.Running.{Running}
use Rattle.ti_monitor.specs.Serving.{Books}

-- what the monitor has counted, and how many answers had each status
pub record Kept : Type 0 where
  pub metrics : Metrics
  pub rows : List (ℕ × ℕ)

abbrev pub kept : Metrics → List (ℕ × ℕ) → Kept
kept metrics rows = record { metrics = metrics; rows = rows }

-- the books with these readings, of which so many were begun
abbrev pub books_at : Kept → List Running → ℕ → Books
books_at k readings begun = record { readings = readings; begun = begun; metrics = k.metrics; rows = k.rows }
