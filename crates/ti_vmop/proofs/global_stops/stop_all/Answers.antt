use Rattle.std.proofs.Common.{[], ◌∷◌}
use Rattle.ti_types.specs.declared.entry.Entry.TheVariants.{Stop}
use Rattle.ti_vmop.proofs.Each.{each_then}
use Rattle.ti_vmop.proofs.global_stops.stop_all.Goals as goal

pub returns-clause-desks : goal.returns-clause-desks
returns-clause-desks g c =
    each_then c.args.threads.now c.args.desks.now c.stop_each.new.desks c.await_each.new.desks (λ e. Stop e ∷ []) c.stop_each.ensures.desks c.await_each.ensures.desks
