use Rattle.std.proofs.Common.{◌-◌, ◌<◌, ◌≤◌}
use Rattle.ti_chunked.proofs.Keys.{IsBetween}
use Rattle.ti_chunked.proofs.chunked.Chunked.index_of.Given as goal

abbrev pub invariant-loop-low : goal.invariant-loop-low
invariant-loop-low g l = IsBetween g.row.T.Denot (λ x. g.K.KeyOf.key x < l.key) (λ x. l.key ≤ g.K.KeyOf.key x) l.self l.low l.high

abbrev pub decreases-loop-low : goal.decreases-loop-low
decreases-loop-low g l = l.high - l.low
