use Rattle.std.proofs.Common.{◌≡◌, refl, subst, ap, sym, ◌∙◌, Some, None, arith, true, ◌++◌, ◌∷◌, []}
use Rattle.ti_types.specs.declared.entry.Entry.TheVariants.{End}
use Rattle.ti_replay.specs.Answers.{is_running}
use Rattle.ti_frames.specs.Log.{Steps}
use Rattle.ti_replay.specs.LateTickets.{steps_of}
use Rattle.ti_slot.specs.Thread.{Thread, with_more}
use Rattle.ti_core.specs.Thread.{ThreadState, refusal_at, own_next, own_said, entered_unless, seen}
use Rattle.ti_core.specs.Inside.{state_in, IsWhole}
use Rattle.ti_core.proofs.WholeLaws.{whole_home, running_here}
use Rattle.ti_core.proofs.thread.OneThread.end.Goals as goal

pub invariant_of-self-2 : goal.invariant_of-self-2
invariant_of-self-2 c =
    let old : IsWhole c.self.inside.slot (Some c.in-Some.frames) (Some c.in-Some-log.log) = rw (sym c.in-Some.is ∙ c.take.ensures.value, sym c.in-Some-log.is) c.self.invariant in
    rw c.take.ensures.after (whole_home c.self.inside.slot c.end.new.self End c.in-Some-log.log.steps c.end.new.log refl c.end.ensures.thread (ap (λ (l : Steps). l.steps) c.end.ensures.log)
    (ap (λ (l : Steps). l.room) c.end.ensures.log ∙ old.parts.room, ap (λ (l : Steps). l.kept) c.end.ensures.log ∙ old.parts.kept) old.wide c.end.ensures.legal)

pub returns-clause-next : goal.returns-clause-next
returns-clause-next c =
    let k : IsWhole c.self.inside.slot (Some c.in-Some.frames) (Some c.in-Some-log.log) = rw (sym c.in-Some.is ∙ c.take.ensures.value, sym c.in-Some-log.is) c.self.invariant in
    let s = state_in c.self.inside.slot (Some c.in-Some-log.log) in
    let runs : is_running (seen s.thread.limits s).mode ≡ true = running_here c.self.inside.slot c.in-Some.frames (Some c.in-Some-log.log) k in
    let r : refusal_at s.thread.limits s End ≡ None = grind (arith, runs) in
    let v = ap (λ l. state_in c.self.inside.slot l) (sym c.in-Some-log.is) ∙ c.self.view_is in
    subst (λ (z : ThreadState). state_in c.end.new.self (Some c.end.new.log) ≡ own_next z.thread.limits z End) v
    (ap (λ (t : Thread). state_in t (Some c.end.new.log)) c.end.ensures.thread ∙ ap (λ (l : Steps). state_in (with_more c.self.inside.slot (steps_of c.in-Some-log.log.steps ++ End ∷ [])) (Some l)) c.end.ensures.log ∙ ap (λ o. entered_unless o s End) (sym r))

pub returns-clause-said : goal.returns-clause-said
returns-clause-said c =
    let k : IsWhole c.self.inside.slot (Some c.in-Some.frames) (Some c.in-Some-log.log) = rw (sym c.in-Some.is ∙ c.take.ensures.value, sym c.in-Some-log.is) c.self.invariant in
    let s = state_in c.self.inside.slot (Some c.in-Some-log.log) in
    let runs : is_running (seen s.thread.limits s).mode ≡ true = running_here c.self.inside.slot c.in-Some.frames (Some c.in-Some-log.log) k in
    let r : refusal_at s.thread.limits s End ≡ None = grind (arith, runs) in
    let v = ap (λ l. state_in c.self.inside.slot l) (sym c.in-Some-log.is) ∙ c.self.view_is in
    subst (λ (z : ThreadState). own_said None ≡ own_said (refusal_at z.thread.limits z End)) v (ap own_said (sym r))
