use Rattle.std.proofs.Common.{◌≡◌, arith, length, ap, ◌∙◌}
use Rattle.std.proofs.Math.ListN.{get_or}
use Rattle.std.proofs.Math.Nat.{min-le_left, min-le_right}
use Rattle.ti_capi.proofs.Over.{step}
use Rattle.ti_capi.proofs.writes.write_each.Goals as goal

pub loop-i-preserved : goal.loop-i-preserved
loop-i-preserved g c =
    let items = c.args.items.now in
    let old = c.args.room.now in
    let below = c.loop-i-test.true in
    let count = c.smaller-i-end.ensures in
    let one = min-le_left (length items) (length old) in
    let two = min-le_right (length items) (length old) in
    let x = c.index-items-i.result in
    let it : c.for_c.result ≡ g.T.ForC.written (get_or items c.loop-i.i x) = c.for_c.ensures ∙ ap g.T.ForC.written c.index-items-i.is in
    step g.T.ForC.written items old c.loop-i.room c.loop-i.i x c.for_c.result c.loop-i.invariant it (omega (arith, below, count, one)) (omega (arith, below, count, two))
