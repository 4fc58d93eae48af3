use Rattle.std.proofs.Common.{◌≡◌, ◌≤◌, length, map}
use Rattle.std.specs.Prelude.{vec_capacity}
use Rattle.ti_runner.specs.Cells.{AreDesks, seats_at}
use Rattle.ti_runner.proofs.cells.make_cells.Given as goal

abbrev pub invariant-loop-number : goal.invariant-loop-number
invariant-loop-number l =
    (length l.cells.items ≡ l.number) × (length l.threads.items ≡ l.number) × (length l.desks.items ≡ l.number)
    × (l.limits.threads ≤ vec_capacity l.cells) × (l.limits.threads ≤ vec_capacity l.threads) × (l.limits.threads ≤ vec_capacity l.desks)
    × (seats_at l.threads.items ≡ l.cells.items) × AreDesks l.limits l.limits.envs l.cells.items (map (λ v. v.items) l.desks.items)
