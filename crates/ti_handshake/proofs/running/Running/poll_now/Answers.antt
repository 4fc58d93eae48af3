use Rattle.std.proofs.Common.{[], ◌∷◌, ◌++◌, refl, ap, sym, ◌∙◌, subst, inl, inr}
use Rattle.ti_types.specs.declared.entry.Entry.TheVariants.{Hand, Back}
use Rattle.ti_types.specs.declared.state.Safe.TheVariants.{AtPoll}
use Rattle.ti_frames.specs.Log.{Steps}
use Rattle.ti_replay.specs.Legal.{is_armed}
use Rattle.ti_replay.specs.LateTickets.{steps_of}
use Rattle.ti_cell.specs.Seats.{Sitting}
use Rattle.ti_handshake.specs.Thread.{Runner, runner_in}
use Rattle.ti_handshake.specs.Polls.{IsClear, HasGone, HasStayed, polled}
use Rattle.ti_handshake.specs.Call.{Holds, found}
use Rattle.ti_handshake.proofs.Owners.{Owns, owns, home, steps_and, may_store, may_keep, nothing, stores, leaves, left_at, runs_on, rests, no_refusal, gone_thread, poll_barred, same_history, clear_entries, gone_entries, held_entries}
use Rattle.ti_handshake.proofs.running.Running.poll_now.Goals.{After-slot-slot}
use Rattle.ti_handshake.proofs.running.Running.poll_now.Goals as goal

-- the slot that the thread took
taken : (c : After-slot-slot) → Owns c.self.inside.seat c.in-Ok.hold c.slot-slot.result.now
taken c = owns c.self.inside.seat c.in-Ok.hold c.slot-slot.result.now c.self.invariant.thread.owner c.in-Ok.ensures.view c.in-Ok.ensures.taken c.slot-slot.ensures.value

pub store_quietly-seat-requires-clause-adds : goal.store_quietly-seat-requires-clause-adds
store_quietly-seat-requires-clause-adds c =
    let k = taken (goal.at.store_quietly-seat-requires-clause-adds c).After-slot-slot in
    may_store _ _ c.slot-slot.result.now c.slot-slot.result.now [] k tt (nothing c.slot-slot.result.now c.slot-slot.result.now refl)

pub of-requires : goal.of-requires
of-requires c =
    let k = taken (goal.at.of-requires c).After-slot-slot in
    let s = c.store_quietly-seat.ensures in
    let at = leaves _ c.store_quietly-seat.result _ _ _ c.slot-slot.result.now.history _ k c.self.invariant.here (c.in-Ok.ensures.cell ∙ c.deref.ensures) s.cell s.view s.mine in
    record { runs = runs_on _ _ _ _ _ _ _ _ _ _ c.self.invariant k at refl refl }

pub hand_over-requires-clause-running : goal.hand_over-requires-clause-running
hand_over-requires-clause-running c =
    let k = taken (goal.at.hand_over-requires-clause-running c).After-slot-slot in
    (home _ _ _ _ _ _ _ c.self.invariant k).running

pub hand_over-requires-clause-steps : goal.hand_over-requires-clause-steps
hand_over-requires-clause-steps c =
    let k = taken (goal.at.hand_over-requires-clause-steps c).After-slot-slot in
    (home _ _ _ _ _ _ _ c.self.invariant k).steps

pub hand_over-requires-clause-frames : goal.hand_over-requires-clause-frames
hand_over-requires-clause-frames c =
    let k = taken (goal.at.hand_over-requires-clause-frames c).After-slot-slot in
    (home _ _ _ _ _ _ _ c.self.invariant k).frames

pub unreachable-requires : goal.unreachable-requires
unreachable-requires c =
    let k = taken (goal.at.unreachable-requires c).After-slot-slot in
    no_refusal _ _ _ _ (home _ _ _ _ _ _ _ c.self.invariant k) c.in-Err-hand_over.ensures.when

pub store_quietly-seat-requires-in-Ok-back-clause-adds : goal.store_quietly-seat-requires-in-Ok-back-clause-adds
store_quietly-seat-requires-in-Ok-back-clause-adds c =
    let k = taken (goal.at.store_quietly-seat-requires-in-Ok-back-clause-adds c).After-slot-slot in
    let l = c.self.inside.log.steps in
    may_store _ _ c.slot-slot.result.now c.back.new.self (steps_of l ++ Hand AtPoll ∷ Back ∷ []) k (steps_and l (Hand AtPoll ∷ Back ∷ []) (refl, (refl, tt))) (gone_thread c.slot-slot.result.now c.hand_over.new.self c.back.new.self l c.in-Ok-hand_over.ensures.thread c.in-Ok-back.ensures.thread)

pub store_quietly-seat-requires-in-Err-back-clause-adds : goal.store_quietly-seat-requires-in-Err-back-clause-adds
store_quietly-seat-requires-in-Err-back-clause-adds c =
    let k = taken (goal.at.store_quietly-seat-requires-in-Err-back-clause-adds c).After-slot-slot in
    let l = c.self.inside.log.steps in
    may_store _ _ c.slot-slot.result.now c.back.new.self (steps_of l ++ Hand AtPoll ∷ []) k (steps_and l (Hand AtPoll ∷ []) (refl, tt)) (c.in-Err-back.ensures.thread ∙ c.in-Ok-hand_over.ensures.thread)

pub of-requires-in-Err-back : goal.of-requires-in-Err-back
of-requires-in-Err-back c =
    let k = taken (goal.at.of-requires-in-Err-back c).After-slot-slot in
    let s = c.store_quietly-seat-in-Err-back.ensures in
    let at = leaves _ c.store_quietly-seat-in-Err-back.result _ _ _ c.back.new.self.history _ k c.self.invariant.here (c.in-Ok.ensures.cell ∙ c.deref.ensures) s.cell s.view s.mine in
    record { rests = rests _ _ _ _ _ c.hand_over.new.self _ _ _ _ _ c.self.invariant k (left_at _ _ _ _ (same_history c.hand_over.new.self c.back.new.self c.in-Err-back.ensures.thread) at) c.in-Ok-hand_over.ensures.thread c.in-Ok-hand_over.ensures.log }

pub returns-in-Ok-back-clause-polled : goal.returns-in-Ok-back-clause-polled
returns-in-Ok-back-clause-polled c =
    let k = taken (goal.at.returns-in-Ok-back-clause-polled c).After-slot-slot in
    let l = c.self.inside.log.steps in
    let s = c.store_quietly-seat-in-Ok-back.ensures in
    let at = leaves _ c.store_quietly-seat-in-Ok-back.result _ _ _ c.back.new.self.history _ k c.self.invariant.here (c.in-Ok.ensures.cell ∙ c.deref.ensures) s.cell s.view s.mine in
    let gone : HasGone (runner_in c.self.inside.seat c.self.inside.frames c.self.inside.log) (runner_in c.store_quietly-seat-in-Ok-back.result c.in-Ok-back.frames c.hand_over.new.log) = record {
      cell = at.cell;
      hold = stores _ _ c.slot-slot.result.now c.back.new.self _ (steps_of l ++ Hand AtPoll ∷ Back ∷ []) k s.view (gone_thread c.slot-slot.result.now c.hand_over.new.self c.back.new.self l c.in-Ok-hand_over.ensures.thread c.in-Ok-back.ensures.thread) s.legal s.mine;
      steps = ap (λ (x : Steps). x.steps) c.in-Ok-hand_over.ensures.log;
    } in
    inr (subst (λ (x : Runner × Runner). HasGone x.0 x.1) (λ i. (c.self.view_is i, sym c.of-in-Ok-back.ensures.of i)) gone)

pub returns-in-Err-back-clause-polled : goal.returns-in-Err-back-clause-polled
returns-in-Err-back-clause-polled c =
    let k = taken (goal.at.returns-in-Err-back-clause-polled c).After-slot-slot in
    let l = c.self.inside.log.steps in
    let s = c.store_quietly-seat-in-Err-back.ensures in
    let same = same_history c.hand_over.new.self c.back.new.self c.in-Err-back.ensures.thread in
    let at = leaves _ c.store_quietly-seat-in-Err-back.result _ _ _ c.back.new.self.history _ k c.self.invariant.here (c.in-Ok.ensures.cell ∙ c.deref.ensures) s.cell s.view s.mine in
    let held : HasStayed (runner_in c.self.inside.seat c.self.inside.frames c.self.inside.log) c.store_quietly-seat-in-Err-back.result = record {
      cell = at.cell;
      hold = stores _ _ c.slot-slot.result.now c.back.new.self _ (steps_of l ++ Hand AtPoll ∷ []) k s.view (c.in-Err-back.ensures.thread ∙ c.in-Ok-hand_over.ensures.thread) s.legal s.mine;
      barred = poll_barred _ _ _ _ c.hand_over.new.self l _ k (left_at _ _ _ _ same at) c.in-Ok-hand_over.ensures.thread c.in-Err-back.ensures.when;
    } in
    subst (λ (x : Runner × Sitting). HasStayed x.0 x.1) (λ i. (c.self.view_is i, sym c.of-in-Err-back.ensures.of i)) held

pub returns-in-Ok-back-clause-entries : goal.returns-in-Ok-back-clause-entries
returns-in-Ok-back-clause-entries c =
    let k = taken (goal.at.returns-in-Ok-back-clause-entries c).After-slot-slot in
    let l = c.self.inside.log in
    let s = c.store_quietly-seat-in-Ok-back.ensures in
    let held = stores _ _ c.slot-slot.result.now c.back.new.self _ (steps_of l.steps ++ Hand AtPoll ∷ Back ∷ []) k s.view (gone_thread c.slot-slot.result.now c.hand_over.new.self c.back.new.self l.steps c.in-Ok-hand_over.ensures.thread c.in-Ok-back.ensures.thread) s.legal s.mine in
    let all = gone_entries _ _ _ c.hand_over.new.self c.back.new.self _ l _ k (home _ _ _ _ _ _ _ c.self.invariant k) s.view (sym c.armed.ensures ∙ c.if-not-armed.false) c.in-Ok-hand_over.ensures.thread c.in-Ok-back.ensures.thread c.in-Ok-back.ensures.when held in
    subst (λ (x : Runner × Runner). Holds x.0.view x.1.view (polled x.0.view.subject.limits (found x.0.view x.1.view) x.0.steps)) (λ i. (c.self.view_is i, sym c.of-in-Ok-back.ensures.of i)) all

pub returns-in-Err-back-clause-entries : goal.returns-in-Err-back-clause-entries
returns-in-Err-back-clause-entries c =
    let k = taken (goal.at.returns-in-Err-back-clause-entries c).After-slot-slot in
    let l = c.self.inside.log in
    let s = c.store_quietly-seat-in-Err-back.ensures in
    let held = stores _ _ c.slot-slot.result.now c.back.new.self _ (steps_of l.steps ++ Hand AtPoll ∷ []) k s.view (c.in-Err-back.ensures.thread ∙ c.in-Ok-hand_over.ensures.thread) s.legal s.mine in
    let all = held_entries _ _ _ c.hand_over.new.self c.back.new.self _ l _ _ k (home _ _ _ _ _ _ _ c.self.invariant k) s.view (sym c.armed.ensures ∙ c.if-not-armed.false) c.in-Ok-hand_over.ensures.thread c.in-Err-back.ensures.thread c.in-Err-back.ensures.when held in
    subst (λ (x : Runner × Sitting). Holds x.0.view x.1.view (polled x.0.view.subject.limits (found x.0.view x.1.view) x.0.steps)) (λ i. (c.self.view_is i, sym c.of-in-Err-back.ensures.of i)) all

pub returns-then-not-armed-clause-entries : goal.returns-then-not-armed-clause-entries
returns-then-not-armed-clause-entries c =
    let k = taken (goal.at.returns-then-not-armed-clause-entries c).After-slot-slot in
    let s = c.store_quietly-seat.ensures in
    let held = stores _ _ c.slot-slot.result.now c.slot-slot.result.now _ [] k s.view (nothing c.slot-slot.result.now c.slot-slot.result.now refl) s.legal s.mine in
    let all = clear_entries _ _ c.slot-slot.result.now _ c.self.inside.log.steps k s.view (sym c.armed.ensures ∙ c.if-not-armed.true) held in
    subst (λ (x : Runner × Runner). Holds x.0.view x.1.view (polled x.0.view.subject.limits (found x.0.view x.1.view) x.0.steps)) (λ i. (c.self.view_is i, sym c.of.ensures.of i)) all

pub store_quietly-seat-requires-clause-keeps : goal.store_quietly-seat-requires-clause-keeps
store_quietly-seat-requires-clause-keeps c =
    let k = taken (goal.at.store_quietly-seat-requires-clause-keeps c).After-slot-slot in
    may_keep _ _ c.slot-slot.result.now c.slot-slot.result.now [] k (nothing c.slot-slot.result.now c.slot-slot.result.now refl)

pub store_quietly-seat-requires-in-Ok-back-clause-keeps : goal.store_quietly-seat-requires-in-Ok-back-clause-keeps
store_quietly-seat-requires-in-Ok-back-clause-keeps c =
    let k = taken (goal.at.store_quietly-seat-requires-in-Ok-back-clause-keeps c).After-slot-slot in
    may_keep _ _ c.slot-slot.result.now c.back.new.self (steps_of c.self.inside.log.steps ++ Hand AtPoll ∷ Back ∷ []) k (gone_thread c.slot-slot.result.now c.hand_over.new.self c.back.new.self c.self.inside.log.steps c.in-Ok-hand_over.ensures.thread c.in-Ok-back.ensures.thread)

pub store_quietly-seat-requires-in-Err-back-clause-keeps : goal.store_quietly-seat-requires-in-Err-back-clause-keeps
store_quietly-seat-requires-in-Err-back-clause-keeps c =
    let k = taken (goal.at.store_quietly-seat-requires-in-Err-back-clause-keeps c).After-slot-slot in
    may_keep _ _ c.slot-slot.result.now c.back.new.self (steps_of c.self.inside.log.steps ++ Hand AtPoll ∷ []) k (c.in-Err-back.ensures.thread ∙ c.in-Ok-hand_over.ensures.thread)

pub returns-then-not-armed-clause-polled : goal.returns-then-not-armed-clause-polled
returns-then-not-armed-clause-polled c =
    let k = taken (goal.at.returns-then-not-armed-clause-polled c).After-slot-slot in
    let i = c.self.inside in
    let w = c.store_quietly-seat.result in
    let s = c.store_quietly-seat.ensures in
    let at = leaves _ w _ _ _ c.slot-slot.result.now.history _ k c.self.invariant.here (c.in-Ok.ensures.cell ∙ c.deref.ensures) s.cell s.view s.mine in
    let clear : IsClear (runner_in i.seat i.frames i.log) (runner_in w i.frames i.log) = record {
      hold = stores _ _ c.slot-slot.result.now c.slot-slot.result.now _ [] k s.view (nothing c.slot-slot.result.now c.slot-slot.result.now refl) s.legal s.mine;
      calm = (λ j. is_armed (sym k.taken.about.0 j) (at.seen j)) ∙ (sym c.armed.ensures ∙ c.if-not-armed.true);
      thread = λ j. record { cell = at.cell j; view = w.view; frames = i.frames.frames; steps = i.log.steps };
    } in
    inl (subst (λ (x : Runner × Runner). IsClear x.0 x.1) (λ j. (c.self.view_is j, sym c.of.ensures.of j)) clear)
