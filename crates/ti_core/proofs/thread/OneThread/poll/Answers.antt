use Rattle.std.proofs.Common.{◌≡◌, subst, sym, ◌∙◌, arith, true, false}
use Rattle.ti_types.specs.declared.event.Outcome.TheVariants.{Clear}
use Rattle.ti_replay.specs.Answers.{is_running}
use Rattle.ti_replay.specs.Legal.{is_armed}
use Rattle.std.specs.Prelude.{is_some}
use Rattle.ti_core.specs.Thread.{ThreadState, entries, seen, poll_next, poll_said}
use Rattle.ti_core.specs.Inside.{steps_in, state_in}
use Rattle.ti_replay.proofs.LoggedLaws.{logged_armed}
use Rattle.ti_core.proofs.WholeLaws.{frames_run}
use Rattle.ti_core.proofs.PollLaws.{poll_calm, poll_went, poll_stayed}
use Rattle.ti_core.proofs.thread.OneThread.poll.Goals as goal

pub returns-then-not-armed-clause-next : goal.returns-then-not-armed-clause-next
returns-then-not-armed-clause-next c =
    let i = c.self.inside in
    let f : is_some i.frames ≡ true = grind (arith, c.is_none.ensures, c.if-is_none.false) in
    let s = state_in i.slot i.log in
    let r = frames_run i.slot i.frames i.log c.self.invariant f in
    let a : is_armed i.slot.limits (entries s) ≡ false = logged_armed i.slot.limits i.slot.history (steps_in i.log) ∙ sym c.armed.ensures ∙ c.if-not-armed.true in
    subst (λ (z : ThreadState). z ≡ poll_next z.thread.limits z) c.self.view_is (poll_calm i.slot.limits s r a).0

pub returns-then-not-armed-clause-said : goal.returns-then-not-armed-clause-said
returns-then-not-armed-clause-said c =
    let i = c.self.inside in
    let f : is_some i.frames ≡ true = grind (arith, c.is_none.ensures, c.if-is_none.false) in
    let s = state_in i.slot i.log in
    let r = frames_run i.slot i.frames i.log c.self.invariant f in
    let a : is_armed i.slot.limits (entries s) ≡ false = logged_armed i.slot.limits i.slot.history (steps_in i.log) ∙ sym c.armed.ensures ∙ c.if-not-armed.true in
    subst (λ (z : ThreadState). Clear ≡ poll_said z.thread.limits z) c.self.view_is (poll_calm i.slot.limits s r a).1

pub hand_over-handed-requires : goal.hand_over-handed-requires
hand_over-handed-requires c =
    let i = c.self.inside in
    let a : is_armed i.slot.limits (entries (state_in i.slot i.log)) ≡ true = logged_armed i.slot.limits i.slot.history (steps_in i.log) ∙ sym c.armed.ensures ∙ c.if-not-armed.false in
    record { armed = λ p. subst (λ (z : ThreadState). is_armed z.thread.limits (entries z) ≡ true) c.self.view_is a }

pub returns-in-Ok-clause-next : goal.returns-in-Ok-clause-next
returns-in-Ok-clause-next c =
    let i = c.self.inside in
    let f : is_some i.frames ≡ true = grind (arith, c.is_none.ensures, c.if-is_none.false) in
    let r : is_running (seen c.args.self.now.thread.limits c.args.self.now).mode ≡ true = subst (λ (z : ThreadState). is_running (seen z.thread.limits z).mode ≡ true) c.self.view_is (frames_run i.slot i.frames i.log c.self.invariant f) in
    let a : is_armed i.slot.limits (entries (state_in i.slot i.log)) ≡ true = logged_armed i.slot.limits i.slot.history (steps_in i.log) ∙ sym c.armed.ensures ∙ c.if-not-armed.false in
    let b : is_armed c.args.self.now.thread.limits (entries c.args.self.now) ≡ true = subst (λ (z : ThreadState). is_armed z.thread.limits (entries z) ≡ true) c.self.view_is a in
    (poll_went c.args.self.now c.hand_over-handed.new.self c.back.new.self r b c.hand_over-handed.ensures.next c.in-Ok.ensures.next c.in-Ok.ensures.said).0

pub returns-in-Ok-clause-said : goal.returns-in-Ok-clause-said
returns-in-Ok-clause-said c =
    let i = c.self.inside in
    let f : is_some i.frames ≡ true = grind (arith, c.is_none.ensures, c.if-is_none.false) in
    let r : is_running (seen c.args.self.now.thread.limits c.args.self.now).mode ≡ true = subst (λ (z : ThreadState). is_running (seen z.thread.limits z).mode ≡ true) c.self.view_is (frames_run i.slot i.frames i.log c.self.invariant f) in
    let a : is_armed i.slot.limits (entries (state_in i.slot i.log)) ≡ true = logged_armed i.slot.limits i.slot.history (steps_in i.log) ∙ sym c.armed.ensures ∙ c.if-not-armed.false in
    let b : is_armed c.args.self.now.thread.limits (entries c.args.self.now) ≡ true = subst (λ (z : ThreadState). is_armed z.thread.limits (entries z) ≡ true) c.self.view_is a in
    (poll_went c.args.self.now c.hand_over-handed.new.self c.back.new.self r b c.hand_over-handed.ensures.next c.in-Ok.ensures.next c.in-Ok.ensures.said).1

pub returns-in-Err-clause-next : goal.returns-in-Err-clause-next
returns-in-Err-clause-next c =
    let i = c.self.inside in
    let f : is_some i.frames ≡ true = grind (arith, c.is_none.ensures, c.if-is_none.false) in
    let r : is_running (seen c.args.self.now.thread.limits c.args.self.now).mode ≡ true = subst (λ (z : ThreadState). is_running (seen z.thread.limits z).mode ≡ true) c.self.view_is (frames_run i.slot i.frames i.log c.self.invariant f) in
    let a : is_armed i.slot.limits (entries (state_in i.slot i.log)) ≡ true = logged_armed i.slot.limits i.slot.history (steps_in i.log) ∙ sym c.armed.ensures ∙ c.if-not-armed.false in
    let b : is_armed c.args.self.now.thread.limits (entries c.args.self.now) ≡ true = subst (λ (z : ThreadState). is_armed z.thread.limits (entries z) ≡ true) c.self.view_is a in
    (poll_stayed c.args.self.now c.hand_over-handed.new.self c.back.new.self c.in-Err.field-0 r b c.hand_over-handed.ensures.next c.in-Err.ensures.next c.in-Err.ensures.said).0

pub returns-in-Err-clause-said : goal.returns-in-Err-clause-said
returns-in-Err-clause-said c =
    let i = c.self.inside in
    let f : is_some i.frames ≡ true = grind (arith, c.is_none.ensures, c.if-is_none.false) in
    let r : is_running (seen c.args.self.now.thread.limits c.args.self.now).mode ≡ true = subst (λ (z : ThreadState). is_running (seen z.thread.limits z).mode ≡ true) c.self.view_is (frames_run i.slot i.frames i.log c.self.invariant f) in
    let a : is_armed i.slot.limits (entries (state_in i.slot i.log)) ≡ true = logged_armed i.slot.limits i.slot.history (steps_in i.log) ∙ sym c.armed.ensures ∙ c.if-not-armed.false in
    let b : is_armed c.args.self.now.thread.limits (entries c.args.self.now) ≡ true = subst (λ (z : ThreadState). is_armed z.thread.limits (entries z) ≡ true) c.self.view_is a in
    (poll_stayed c.args.self.now c.hand_over-handed.new.self c.back.new.self c.in-Err.field-0 r b c.hand_over-handed.ensures.next c.in-Err.ensures.next c.in-Err.ensures.said).1
