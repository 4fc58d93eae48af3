use Rattle.std.proofs.Common.{◌≡◌, map}
use Rattle.std.proofs.Math.Seq.{paste}
use Rattle.ti_capi.proofs.writes.write_each.Given as goal

abbrev pub invariant-loop-i : goal.invariant-loop-i
invariant-loop-i g l = l.room ≡ paste l.fn.room 0 (map g.T.ForC.written l.items) l.i
