use Rattle.std.proofs.Common.{ap, ◌∙◌, arith}
use Rattle.ti_ops.specs.declared.outbox_entry.Count.{Count}
use Rattle.ti_ops.proofs.ViewLaws.{env_here, held_here, read_here}
use Rattle.ti_ops.proofs.pending.PendingOps.out.Goals as goal

pub index-requires : goal.index-requires
index-requires c = let i = c.self.inside in omega (arith, env_here _ i.window i.taken _ i.counts.items i.kept.items c.args.env c.self.view_is c.self.invariant c.requires)

pub returns : goal.returns
returns c =
    let i = c.self.inside in
    ap (λ (n : Count). n.held) (read_here _ i.window i.taken _ i.counts.items i.kept.items c.args.env c.self.view_is c.self.invariant c.requires _ c.index.ensures)
    ∙ held_here _ i.window i.taken _ i.counts.items i.kept.items c.args.env c.self.view_is c.self.invariant c.requires
