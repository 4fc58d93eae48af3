use Rattle.std.proofs.Common.{◌≡◌, refl, subst, ap, sym, ◌∙◌, Some, true}
use Rattle.ti_types.specs.declared.entry.Entry.TheVariants.{Hand}
use Rattle.ti_replay.specs.Legal.{is_armed}
use Rattle.ti_frames.specs.Log.{Steps}
use Rattle.ti_core.specs.Thread.{ThreadState, entries}
use Rattle.ti_core.specs.Inside.{steps_in, IsWhole}
use Rattle.ti_replay.proofs.LoggedLaws.{logged_armed}
use Rattle.ti_core.proofs.WholeLaws.{whole_home}
use Rattle.ti_core.proofs.thread.OneThread.hand_over.Goals as goal

pub hand_over-requires-clause-armed : goal.hand_over-requires-clause-armed
hand_over-requires-clause-armed c = λ p.
    let t = c.self.inside.slot in
    let a = subst (λ (z : ThreadState). is_armed z.thread.limits (entries z) ≡ true) (sym c.self.view_is) (c.requires.armed p) in
    sym (logged_armed t.limits t.history (steps_in c.self.inside.log)) ∙ a

pub invariant_of-self-in-Ok : goal.invariant_of-self-in-Ok
invariant_of-self-in-Ok c =
    let old : IsWhole c.self.inside.slot (Some c.in-Some.frames) (Some c.in-Some-log.log) = rw (sym c.in-Some.is ∙ c.take.ensures.value, sym c.in-Some-log.is) c.self.invariant in
    rw c.take.ensures.after (whole_home c.self.inside.slot c.hand_over.new.self (Hand c.args.safe) c.in-Some-log.log.steps c.hand_over.new.log refl c.in-Ok.ensures.thread (ap (λ (l : Steps). l.steps) c.in-Ok.ensures.log)
    (ap (λ (l : Steps). l.room) c.in-Ok.ensures.log ∙ old.parts.room, ap (λ (l : Steps). l.kept) c.in-Ok.ensures.log ∙ old.parts.kept) old.wide c.in-Ok.ensures.legal)
