use Rattle.std.proofs.Common.{◌≡◌, ◌+◌, ◌≤◌, ◌++◌, length}
use Rattle.std.specs.Prelude.{vec_capacity}
use Rattle.std.specs.Vec.Iter.{into_iter_items}
use Rattle.ti_agent.specs.Env.{cells_at}
use Rattle.ti_runner.specs.Cells.{seats_at}
use Rattle.ti_runner.proofs.agent_calls.seats_of.Given as goal

abbrev pub invariant-loop-desk : goal.invariant-loop-desk
invariant-loop-desk l =
    (seats_at l.seats.items ++ cells_at (into_iter_items l.desk-iterator) ≡ cells_at l.fn.desks.items)
    × (length l.seats.items + length (into_iter_items l.desk-iterator) ≤ vec_capacity l.seats)
