use Rattle.std.proofs.Common.{◌≡◌, ◌-◌, ◌≤◌, length, map}
use Rattle.std.specs.Prelude.{vec_capacity}
use Rattle.std.specs.List.{All}
use Rattle.ti_agent.specs.Env.{cells_at}
use Rattle.ti_runner.specs.Cells.{AreDesks}
use Rattle.ti_runner.proofs.cells.environments.Given as goal

abbrev pub invariant-loop-i : goal.invariant-loop-i
invariant-loop-i l =
    (length l.envs.items ≡ l.i) × (l.limits.envs ≤ vec_capacity l.envs) × AreDesks l.limits (l.limits.envs - l.i) l.cells (map (λ v. v.items) l.desks.items)
    × All (λ e. cells_at e.env.desks ≡ l.cells) l.envs.items
