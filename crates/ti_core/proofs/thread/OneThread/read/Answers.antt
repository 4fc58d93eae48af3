use Rattle.std.proofs.Common.{◌≡◌, refl, subst, to_z, of_z, w32, Some}
use Rattle.std.proofs.lemmas.Int.{to_z-of_z}
use Rattle.ti_types.specs.Answer.{said}
use Rattle.ti_types.specs.declared.event.Outcome.TheVariants.{Gave}
use Rattle.ti_core.specs.Thread.{ThreadState, read_told}
use Rattle.ti_core.specs.Inside.{steps_in}
use Rattle.ti_core.proofs.WholeLaws.{whole_read, read_said}
use Rattle.ti_core.proofs.thread.OneThread.read.Goals as goal

pub invariant_of-self : goal.invariant_of-self
invariant_of-self c = whole_read c.self.inside.slot c.read.new.self c.self.inside.frames c.self.inside.log c.args.env (to_z w32 (of_z w32 c.args.max_count)) _ refl c.self.invariant c.read.ensures.thread c.read.ensures.legal

pub returns-clause-said : goal.returns-clause-said
returns-clause-said c =
    let m = to_z w32 (of_z w32 c.args.max_count) in
    let z : m ≡ c.args.max_count = to_z-of_z w32 c.args.max_count c.ranges.max_count in
    subst (λ (s : ThreadState). Some (Gave (said c.read.result)) ≡ read_told s.thread.limits s c.args.env s.thread.number c.args.max_count) c.self.view_is
    (read_said c.self.inside.slot c.read.new.self (steps_in c.self.inside.log) c.args.env c.args.max_count m (said c.read.result) z c.read.ensures.thread c.read.ensures.answer)
