use Rattle.std.proofs.Common.{◌≡◌}
use Rattle.tiprof.proofs.parse.parse_string.Given as goal

abbrev pub invariant-loop-i : goal.invariant-loop-i
invariant-loop-i g l = l.worker ≡ l.fn.worker
