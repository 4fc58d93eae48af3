use Rattle.std.proofs.Common.{◌≡◌, ◌+◌, ◌≤◌, length}
use Rattle.std.specs.Prelude.{vec_capacity}
use Rattle.std.specs.List.{All}
use Rattle.std.specs.Vec.Iter.{into_iter_items}
use Rattle.ti_agent.specs.Env.{cells_at}
use Rattle.ti_runner.proofs.activities.start_agents.Given as goal

abbrev pub invariant-loop-env : goal.invariant-loop-env
invariant-loop-env g l =
    (length l.agents.items + length (into_iter_items l.env-iterator) ≡ length l.calls)
    × All (λ e. cells_at e.env.desks ≡ l.cells) (into_iter_items l.env-iterator)
    × All (λ h. h.promise.0.now ≡ l.cells) l.agents.items × (length l.calls ≤ vec_capacity l.agents)
