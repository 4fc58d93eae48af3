use Rattle.std.specs.Prelude.{◌≡◌, ◌++◌, ◌<◌, ◌≤◌, ◌*◌, ◌^◌}
use Rattle.ti_pprof.specs.Wire.{varint, varint_within}
use Rattle.ti_pprof.proofs.wire.push_varint.Given as goal

abbrev pub invariant-next : goal.invariant-next
invariant-next l =
    (l.more ≤ 9) × (l.rest < 2 * 128 ^ l.more)
    × (l.out.items ++ varint_within l.more l.rest ≡ l.fn.out.items ++ varint l.number)

abbrev pub decreases-next : goal.decreases-next
decreases-next l = l.more
