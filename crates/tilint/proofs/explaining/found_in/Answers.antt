use Rattle.std.proofs.Common.{sym}
use Rattle.tilint.proofs.ItemLaws.{stepped}
use Rattle.tilint.proofs.explaining.found_in.Goals as goal

pub loop-list-preserved : goal.loop-list-preserved
loop-list-preserved c =
    let v = c.index-lists-list.result in
    stepped c.args.lists.now c.loop-list.list c.loop-list.left c.args.number v c.elements-here.result.now c.loop-list-test.true (sym c.index-lists-list.is) c.elements-here.ensures c.if-left-here.false c.loop-list.invariant
