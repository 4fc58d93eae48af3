use Rattle.std.proofs.Common.{◌-◌, ◌<◌, ◌≤◌}
use Rattle.ti_chunked.proofs.Keys.{IsBetween}
use Rattle.ti_chunked.proofs.key_of.place_in.Given as goal

abbrev pub invariant-loop-low : goal.invariant-loop-low
invariant-loop-low g l = IsBetween g.row.T.Denot (λ x. g.K.KeyOf.key x < l.key) (λ x. l.key ≤ g.K.KeyOf.key x) l.chunk.items l.low l.high

abbrev pub decreases-loop-low : goal.decreases-loop-low
decreases-loop-low g l = l.high - l.low
