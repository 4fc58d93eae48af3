use Rattle.std.proofs.Common.{◌≡◌, ◌<◌, ◌≤◌, subst, ap, sym, ◌∙◌, Some, None, arith, length}
use Rattle.ti_types.specs.declared.entry.Entry.TheVariants.{Own}
use Rattle.ti_types.specs.declared.error.TiError.TheVariants.{OwnSpent}
use Rattle.ti_frames.specs.Frames.{step_refusal}
use Rattle.ti_frames.specs.Log.{Steps}
use Rattle.ti_core.specs.Thread.{ThreadState, refusal_at, own_next, own_said, entered_unless}
use Rattle.ti_core.specs.Inside.{state_in, IsWhole}
use Rattle.ti_core.proofs.WholeLaws.{step_refused, step_spent, step_free, whole_stepped, refused_next}
use Rattle.ti_core.proofs.thread.OneThread.own.Goals as goal

pub returns-in-Some-refusal-clause-said : goal.returns-in-Some-refusal-clause-said
returns-in-Some-refusal-clause-said c =
    let k : IsWhole c.self.inside.slot (Some c.in-Some.frames) (Some c.in-Some-log.log) = rw (sym c.in-Some.is, sym c.in-Some-log.is) c.self.invariant in
    let s = state_in c.self.inside.slot (Some c.in-Some-log.log) in
    let r : refusal_at s.thread.limits s (Own c.args.step) ≡ Some c.in-Some-refusal.error = step_refused c.self.inside.slot c.in-Some.frames c.in-Some-log.log c.args.step c.in-Some-refusal.error k (sym c.refusal.ensures ∙ c.in-Some-refusal.is) in
    let v = ap (λ l. state_in c.self.inside.slot l) (sym c.in-Some-log.is) ∙ c.self.view_is in
    subst (λ (z : ThreadState). own_said (Some c.in-Some-refusal.error) ≡ own_said (refusal_at z.thread.limits z (Own c.args.step))) v (ap own_said (sym r))

pub returns-then-left-len-clause-next : goal.returns-then-left-len-clause-next
returns-then-left-len-clause-next c =
    let k : IsWhole c.self.inside.slot (Some c.in-Some.frames) (Some c.in-Some-log.log) = rw (sym c.in-Some.is, sym c.in-Some-log.is) c.self.invariant in
    let s = state_in c.self.inside.slot (Some c.in-Some-log.log) in
    let free : step_refusal c.in-Some.frames.depth c.in-Some.frames.frames c.args.step ≡ None = sym c.refusal.ensures ∙ c.in_default-refusal.is in
    let few : c.own_left-left.result ≤ length c.in-Some-log.log.steps = omega (arith, c.len.ensures.len, c.if-left-len.true) in
    let r : refusal_at s.thread.limits s (Own c.args.step) ≡ Some OwnSpent = step_spent c.self.inside.slot c.in-Some.frames c.in-Some-log.log c.args.step c.own_left-left.result k free c.own_left-left.ensures.left few in
    let v = ap (λ l. state_in c.self.inside.slot l) (sym c.in-Some-log.is) ∙ c.self.view_is in
    subst (λ (z : ThreadState). s ≡ own_next z.thread.limits z (Own c.args.step)) v (sym (refused_next s.thread.limits s (Own c.args.step) OwnSpent r))

pub returns-then-left-len-clause-said : goal.returns-then-left-len-clause-said
returns-then-left-len-clause-said c =
    let k : IsWhole c.self.inside.slot (Some c.in-Some.frames) (Some c.in-Some-log.log) = rw (sym c.in-Some.is, sym c.in-Some-log.is) c.self.invariant in
    let s = state_in c.self.inside.slot (Some c.in-Some-log.log) in
    let free : step_refusal c.in-Some.frames.depth c.in-Some.frames.frames c.args.step ≡ None = sym c.refusal.ensures ∙ c.in_default-refusal.is in
    let few : c.own_left-left.result ≤ length c.in-Some-log.log.steps = omega (arith, c.len.ensures.len, c.if-left-len.true) in
    let r : refusal_at s.thread.limits s (Own c.args.step) ≡ Some OwnSpent = step_spent c.self.inside.slot c.in-Some.frames c.in-Some-log.log c.args.step c.own_left-left.result k free c.own_left-left.ensures.left few in
    let v = ap (λ l. state_in c.self.inside.slot l) (sym c.in-Some-log.is) ∙ c.self.view_is in
    subst (λ (z : ThreadState). own_said (Some OwnSpent) ≡ own_said (refusal_at z.thread.limits z (Own c.args.step))) v (ap own_said (sym r))

pub invariant_of-self-2 : goal.invariant_of-self-2
invariant_of-self-2 c =
    let k : IsWhole c.self.inside.slot (Some c.in-Some.frames) (Some c.in-Some-log.log) = rw (sym c.in-Some.is, sym c.in-Some-log.is) c.self.invariant in
    let s = state_in c.self.inside.slot (Some c.in-Some-log.log) in
    let free : step_refusal c.in-Some.frames.depth c.in-Some.frames.frames c.args.step ≡ None = sym c.refusal.ensures ∙ c.in_default-refusal.is in
    let few : length c.in-Some-log.log.steps < c.own_left-left.result = omega (arith, c.len.ensures.len, c.if-left-len.false) in
    let r : refusal_at s.thread.limits s (Own c.args.step) ≡ None = step_free c.self.inside.slot c.in-Some.frames c.in-Some-log.log c.args.step c.own_left-left.result k free c.own_left-left.ensures.left few in
    whole_stepped c.self.inside.slot c.in-Some.frames c.apply.new.self c.in-Some-log.log c.push.new.self c.args.step k r c.in-Ok.ensures.frames c.push.ensures

pub returns-clause-next : goal.returns-clause-next
returns-clause-next c =
    let k : IsWhole c.self.inside.slot (Some c.in-Some.frames) (Some c.in-Some-log.log) = rw (sym c.in-Some.is, sym c.in-Some-log.is) c.self.invariant in
    let s = state_in c.self.inside.slot (Some c.in-Some-log.log) in
    let free : step_refusal c.in-Some.frames.depth c.in-Some.frames.frames c.args.step ≡ None = sym c.refusal.ensures ∙ c.in_default-refusal.is in
    let few : length c.in-Some-log.log.steps < c.own_left-left.result = omega (arith, c.len.ensures.len, c.if-left-len.false) in
    let r : refusal_at s.thread.limits s (Own c.args.step) ≡ None = step_free c.self.inside.slot c.in-Some.frames c.in-Some-log.log c.args.step c.own_left-left.result k free c.own_left-left.ensures.left few in
    let v = ap (λ l. state_in c.self.inside.slot l) (sym c.in-Some-log.is) ∙ c.self.view_is in
    subst (λ (z : ThreadState). state_in c.self.inside.slot (Some c.push.new.self) ≡ own_next z.thread.limits z (Own c.args.step)) v
    (ap (λ (l : Steps). state_in c.self.inside.slot (Some l)) c.push.ensures ∙ ap (λ o. entered_unless o s (Own c.args.step)) (sym r))

pub returns-clause-said : goal.returns-clause-said
returns-clause-said c =
    let k : IsWhole c.self.inside.slot (Some c.in-Some.frames) (Some c.in-Some-log.log) = rw (sym c.in-Some.is, sym c.in-Some-log.is) c.self.invariant in
    let s = state_in c.self.inside.slot (Some c.in-Some-log.log) in
    let free : step_refusal c.in-Some.frames.depth c.in-Some.frames.frames c.args.step ≡ None = sym c.refusal.ensures ∙ c.in_default-refusal.is in
    let few : length c.in-Some-log.log.steps < c.own_left-left.result = omega (arith, c.len.ensures.len, c.if-left-len.false) in
    let r : refusal_at s.thread.limits s (Own c.args.step) ≡ None = step_free c.self.inside.slot c.in-Some.frames c.in-Some-log.log c.args.step c.own_left-left.result k free c.own_left-left.ensures.left few in
    let v = ap (λ l. state_in c.self.inside.slot l) (sym c.in-Some-log.is) ∙ c.self.view_is in
    subst (λ (z : ThreadState). own_said None ≡ own_said (refusal_at z.thread.limits z (Own c.args.step))) v (ap own_said (sym r))
