use Rattle.std.proofs.Common.{◌≡◌}
use Rattle.tiprof.proofs.search.+place.Given as goal

abbrev pub decreases-place : goal.decreases-place
decreases-place g l = l.left

-- the worker stays at its cell
abbrev pub invariant-loop-column : goal.invariant-loop-column
invariant-loop-column g l = l.worker ≡ l.fn.worker
