use Rattle.std.proofs.Common.{subst, ◌∷◌}
use Rattle.std.specs.Vec.Iter.{into_iter_items}
use Rattle.ti_runner.specs.Cells.{AreBack}
use Rattle.ti_runner.proofs.Owners.{back_rest}
use Rattle.ti_runner.proofs.closed_cells.close_all.Goals as goal

pub loop-done-preserved : goal.loop-done-preserved
loop-done-preserved c =
    let at = c.loop-done in
    let one = subst (λ l. AreBack (into_iter_items at.cells) l) c.in-Some.ensures.steps.0 at.invariant in
    let both = subst (λ l. AreBack l (c.in-Some.done ∷ into_iter_items c.next.new.self)) c.in-Some-next.ensures.cases.0 one in
    back_rest _ _ c.in-Some-next.cell c.in-Some.done both
