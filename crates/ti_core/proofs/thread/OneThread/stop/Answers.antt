use Rattle.std.proofs.Common.{refl}
use Rattle.ti_types.specs.declared.entry.Entry.TheVariants.{Stop}
use Rattle.ti_core.proofs.WholeLaws.{whole_held}
use Rattle.ti_core.proofs.thread.OneThread.stop.Goals as goal

pub invariant_of-self : goal.invariant_of-self
invariant_of-self c = whole_held c.self.inside.slot c.stop.new.self c.self.inside.frames c.self.inside.log _ (Stop c.args.env) refl c.self.invariant c.stop.ensures.thread c.stop.ensures.legal
