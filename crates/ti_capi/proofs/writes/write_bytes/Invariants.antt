use Rattle.std.proofs.Common.{◌≡◌}
use Rattle.std.proofs.Math.Seq.{paste}
use Rattle.ti_capi.proofs.writes.write_bytes.Given as goal

abbrev pub invariant-loop-i : goal.invariant-loop-i
invariant-loop-i l = l.room ≡ paste l.fn.room 0 l.bytes l.i
