use Rattle.std.proofs.Common.{arith, refl}
use Rattle.ti_types.specs.declared.entry.Entry.TheVariants as entry
use Rattle.ti_replay.proofs.Charging.{charged_free}
use Rattle.ti_replay.proofs.progress.Progress.advance_by_go.Goals as goal

pub returns-then-fits-clause-state : goal.returns-then-fits-clause-state
returns-then-fits-clause-state c h =
    let s = c.args.self.now in
    let free = charged_free s.costs (entry.Go c.args.env) refl in
    grind (arith, free, c.self.view_is)
