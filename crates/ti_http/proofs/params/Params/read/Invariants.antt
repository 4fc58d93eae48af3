use Rattle.std.proofs.Common.{◌≡◌, ◌≤◌, length}
use Rattle.std.specs.List.{slice_split}
use Rattle.ti_http.specs.Targets.{is_byte, with_parts, params_of}
use Rattle.ti_http.proofs.params.Params.read.Given as goal

abbrev pub invariant-loop-rest : goal.invariant-loop-rest
invariant-loop-rest l = (with_parts l.all (slice_split (is_byte 38) l.rest) ≡ params_of l.query) × (length l.rest ≤ length l.query)

abbrev pub decreases-loop-rest : goal.decreases-loop-rest
decreases-loop-rest l = length l.rest
