use Rattle.std.proofs.Common.{arith}
use Rattle.ti_ops.proofs.StepLaws.{kept_new, lists_new}
use Rattle.ti_ops.proofs.pending.PendingOps.new.Goals as goal

pub invariant_of-result : goal.invariant_of-result
invariant_of-result c =
    kept_new c.args.window _ c.args.envs c.in_ok-counts.counts.items c.in_ok-kept.kept.items (c.in_ok-counts.ensures.items_if_clones_equal (λ y same. same)) c.in_ok-kept.ensures.items (omega (arith, c.in_ok-kept.ensures.capacity))

pub returns-clause-statuses : goal.returns-clause-statuses
returns-clause-statuses c =
    lists_new c.args.envs _ _ (c.in_ok-counts.ensures.items_if_clones_equal (λ y same. same)) c.in_ok-kept.ensures.items
