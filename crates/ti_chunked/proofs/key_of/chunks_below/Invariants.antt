use Rattle.std.proofs.Common.{◌≡◌, ◌-◌, ◌<◌, ◌≤◌, length, slice_get, Some, Vec, Global}
use Rattle.ti_chunked.proofs.Keys.{IsBetween}
use Rattle.ti_chunked.proofs.key_of.chunks_below.Given as goal

abbrev pub invariant-loop-low : goal.invariant-loop-low
invariant-loop-low g l =
    IsBetween (Vec g.row.T.Denot Global) (λ v. (0 < length v.items) × ((x : g.row.T.Denot) → slice_get v.items 0 ≡ Some x → g.K.KeyOf.key x < l.key)) (λ v. (x : g.row.T.Denot) → slice_get v.items 0 ≡ Some x → l.key ≤ g.K.KeyOf.key x) l.chunks.items l.low l.high

abbrev pub decreases-loop-low : goal.decreases-loop-low
decreases-loop-low g l = l.high - l.low
