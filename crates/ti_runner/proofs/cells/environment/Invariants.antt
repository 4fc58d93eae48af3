use Rattle.std.proofs.Common.{◌≡◌, map, take}
use Rattle.ti_agent.specs.Env.{cells_at}
use Rattle.ti_runner.proofs.NewDesks.{AreHalf}
use Rattle.ti_runner.proofs.cells.environment.Given as goal

abbrev pub invariant-loop-thread : goal.invariant-loop-thread
invariant-loop-thread l =
    (l.environment.env.state.limits ≡ l.limits) × (cells_at l.environment.env.desks ≡ take l.thread l.cells) × AreHalf l.limits l.env.0 l.thread l.cells (map (λ v. v.items) l.desks)
