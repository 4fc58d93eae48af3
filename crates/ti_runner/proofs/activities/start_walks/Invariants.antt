use Rattle.std.proofs.Common.{◌≡◌, ◌≤◌, ◌++◌, length, map}
use Rattle.std.specs.Prelude.{vec_capacity}
use Rattle.std.specs.Vec.Iter.{into_iter_items}
use Rattle.ti_runner.specs.Cells.{seats_at}
use Rattle.ti_runner.proofs.activities.start_walks.Given as goal

abbrev pub invariant-loop-fresh : goal.invariant-loop-fresh
invariant-loop-fresh g l =
    (map (λ h. h.promise.0.now) l.walkers.items ++ seats_at (into_iter_items l.fresh-iterator) ≡ l.cells) × (length l.cells ≤ vec_capacity l.walkers)
