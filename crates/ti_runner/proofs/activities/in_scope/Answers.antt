use Rattle.std.proofs.Common.{rules}
use Rattle.ti_runner.proofs.Owners.{walked_kept}
use Rattle.ti_runner.proofs.activities.in_scope.Goals as goal

pub returns-clause-walked : goal.returns-clause-walked
returns-clause-walked g c =
    let joined = c.in_ok-join_promised in
    walked_kept _ _ c.in_ok-walkers.walkers.items joined.field-0.items c.args.cells.now (λ p w kept. kept) (search rules) (search rules) joined.ensures.each c.in_ok-walkers.ensures
