use Rattle.std.proofs.Common.{◌≡◌, refl, ap, sym, subst, ◌∙◌, Some}
use Rattle.ti_types.specs.declared.entry.Entry.TheVariants.{Start}
use Rattle.ti_core.specs.Thread.{ThreadState, refusal_at, own_next, own_said}
use Rattle.ti_core.specs.Inside.{state_in}
use Rattle.ti_core.proofs.WholeLaws.{whole_away, start_same, refused_next}
use Rattle.ti_core.proofs.thread.OneThread.start.Goals as goal

pub invariant_of-self : goal.invariant_of-self
invariant_of-self c = whole_away c.self.inside.slot c.start.new.self Start c.in-Ok.frames c.in-Ok.log (λ r. refl) c.in-Ok.ensures.thread c.in-Ok.ensures.frames.0 c.in-Ok.ensures.frames.1 c.in-Ok.ensures.log.0 (c.in-Ok.ensures.log.1, c.in-Ok.ensures.log.2) c.self.invariant.wide c.in-Ok.ensures.legal

pub returns-in-Err-clause-next : goal.returns-in-Err-clause-next
returns-in-Err-clause-next c =
    let s = state_in c.self.inside.slot c.self.inside.log in
    let r : refusal_at s.thread.limits s Start ≡ Some c.in-Err.error = start_same s.thread.limits s.thread.history s.steps ∙ c.in-Err.ensures.when in
    subst (λ (z : ThreadState). state_in c.start.new.self c.self.inside.log ≡ own_next z.thread.limits z Start) c.self.view_is
    (ap (λ z. state_in z c.self.inside.log) c.in-Err.ensures.thread ∙ sym (refused_next s.thread.limits s Start c.in-Err.error r))

pub returns-in-Err-clause-said : goal.returns-in-Err-clause-said
returns-in-Err-clause-said c =
    let s = state_in c.self.inside.slot c.self.inside.log in
    let r : refusal_at s.thread.limits s Start ≡ Some c.in-Err.error = start_same s.thread.limits s.thread.history s.steps ∙ c.in-Err.ensures.when in
    subst (λ (z : ThreadState). own_said (Some c.in-Err.error) ≡ own_said (refusal_at z.thread.limits z Start)) c.self.view_is (ap own_said (sym r))
