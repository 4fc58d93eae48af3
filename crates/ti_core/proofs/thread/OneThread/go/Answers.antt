use Rattle.std.proofs.Common.{refl}
use Rattle.ti_types.specs.declared.entry.Entry.TheVariants.{Go}
use Rattle.ti_core.proofs.WholeLaws.{whole_held}
use Rattle.ti_core.proofs.thread.OneThread.go.Goals as goal

pub invariant_of-self : goal.invariant_of-self
invariant_of-self c = whole_held c.self.inside.slot c.go.new.self c.self.inside.frames c.self.inside.log _ (Go c.args.env) refl c.self.invariant c.go.ensures.thread c.go.ensures.legal
