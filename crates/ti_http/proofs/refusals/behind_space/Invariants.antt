use Rattle.std.proofs.Common.{◌≡◌, length}
use Rattle.ti_http.specs.Refusals.{behind_space}
use Rattle.ti_http.proofs.refusals.behind_space.Given as goal

abbrev pub invariant-loop-rest : goal.invariant-loop-rest
invariant-loop-rest l = behind_space l.rest ≡ behind_space l.bytes

abbrev pub decreases-loop-rest : goal.decreases-loop-rest
decreases-loop-rest l = length l.rest
