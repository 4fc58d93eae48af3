use Rattle.std.proofs.Common.{◌≡◌, ◌<◌, ◌≤◌, ◌+◌, ℕ, Some, drop, length, ◌++◌}
use Rattle.std.specs.Prelude.{slice_get, vec_capacity}
use Rattle.ti_roster.specs.declared.row.Row.{Row}
use Rattle.ti_roster.specs.Rows.{IsTaken, desks_in}
use Rattle.ti_roster.proofs.roster.take_desks.Given as goal

-- with the desks that are still in the rows they are all desks
abbrev pub invariant-loop-i : goal.invariant-loop-i
invariant-loop-i l =
    (length l.rows ≡ length l.fn.rows)
    × ((j : ℕ) (r q : Row) → l.fn.start ≤ j → j < l.i → slice_get l.fn.rows j ≡ Some r → slice_get l.rows j ≡ Some q → IsTaken l.fn.env r q)
    × ((j : ℕ) (r q : Row) → l.i ≤ j → slice_get l.fn.rows j ≡ Some r → slice_get l.rows j ≡ Some q → q ≡ r)
    × (l.desks.items ++ desks_in l.fn.env (drop l.i l.fn.rows) ≡ l.fn.desks.items ++ desks_in l.fn.env (drop l.fn.start l.fn.rows))
    × (length l.fn.desks.items + length l.fn.rows ≤ vec_capacity l.desks + l.fn.start)
    × (length l.desks.items + l.fn.start ≤ length l.fn.desks.items + l.i)
    × ((j : ℕ) (r q : Row) → j < l.fn.start → slice_get l.fn.rows j ≡ Some r → slice_get l.rows j ≡ Some q → q ≡ r)
    × (l.fn.start ≤ l.i)
