use Rattle.std.proofs.Common.{◌≡◌, ap, sym, subst, ◌∙◌, Some}
use Rattle.ti_types.specs.declared.entry.Entry.TheVariants.{Back}
use Rattle.ti_core.specs.Thread.{ThreadState, refusal_at, own_next, own_said}
use Rattle.ti_core.specs.Inside.{state_in}
use Rattle.ti_core.proofs.WholeLaws.{whole_back, back_same, refused_next}
use Rattle.ti_core.proofs.thread.OneThread.back.Goals as goal

pub invariant_of-self : goal.invariant_of-self
invariant_of-self c = whole_back c.self.inside.slot c.back.new.self c.self.inside.frames c.in-Ok.frames c.self.inside.log c.self.invariant c.in-Ok.ensures.when c.in-Ok.ensures.thread c.in-Ok.ensures.frames.0 c.in-Ok.ensures.frames.1 c.in-Ok.ensures.legal

pub returns-in-Err-clause-next : goal.returns-in-Err-clause-next
returns-in-Err-clause-next c =
    let s = state_in c.self.inside.slot c.self.inside.log in
    let r : refusal_at s.thread.limits s Back ≡ Some c.in-Err.error = back_same s.thread.limits s.thread.history s.steps ∙ c.in-Err.ensures.when in
    subst (λ (z : ThreadState). state_in c.back.new.self c.self.inside.log ≡ own_next z.thread.limits z Back) c.self.view_is
    (ap (λ z. state_in z c.self.inside.log) c.in-Err.ensures.thread ∙ sym (refused_next s.thread.limits s Back c.in-Err.error r))

pub returns-in-Err-clause-said : goal.returns-in-Err-clause-said
returns-in-Err-clause-said c =
    let s = state_in c.self.inside.slot c.self.inside.log in
    let r : refusal_at s.thread.limits s Back ≡ Some c.in-Err.error = back_same s.thread.limits s.thread.history s.steps ∙ c.in-Err.ensures.when in
    subst (λ (z : ThreadState). own_said (Some c.in-Err.error) ≡ own_said (refusal_at z.thread.limits z Back)) c.self.view_is (ap own_said (sym r))
