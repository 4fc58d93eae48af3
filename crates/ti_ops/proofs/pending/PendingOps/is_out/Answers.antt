use Rattle.std.proofs.Common.{◌≡◌, ap, sym, ◌∙◌, arith}
use Rattle.std.proofs.lemmas.Bool.Decides.{nat_tests}
use Rattle.ti_ops.specs.Statuses.{status_of, is_open}
use Rattle.ti_ops.specs.Ops.{Ops}
use Rattle.ti_ops.proofs.StepLaws.{is_found}
use Rattle.ti_ops.proofs.pending.PendingOps.is_out.Goals as goal

pub returns : goal.returns
returns c =
    let i = c.self.inside in
    sym (ap (λ (o : Ops). is_open (status_of c.args.ticket o.statuses)) (sym c.self.view_is)
    ∙ is_found i.window i.taken _ i.counts.items i.kept.items c.args.ticket c.len-all.result c.find.result c.self.invariant (omega (arith, c.len-all.ensures)) c.find.ensures.within c.find.ensures.there c.find.ensures.nowhere)
