use Rattle.std.proofs.Common.{◌≡◌, ◌+◌, ◌*◌}
use Rattle.tiprof.proofs.parse.+parsing.Given as goal

abbrev pub decreases-parse_value : goal.decreases-parse_value
decreases-parse_value g l = l.depth * 2

abbrev pub decreases-parse_group : goal.decreases-parse_group
decreases-parse_group g l = l.depth * 2 + 1

abbrev pub invariant-parse_group-loop : goal.invariant-parse_group-loop
invariant-parse_group-loop g l = l.worker ≡ l.fn.worker
