use Rattle.std.proofs.Common.{◌≡◌, [], ◌∷◌, ◌++◌, refl, sym, ◌∙◌, subst, None, inr}
use Rattle.ti_types.specs.declared.entry.Entry.TheVariants.{Hand}
use Rattle.ti_replay.specs.LateTickets.{steps_of}
use Rattle.ti_cell.specs.Seats.{Sitting}
use Rattle.ti_handshake.specs.Call.{Holds, found}
use Rattle.ti_handshake.specs.Thread.{Runner, refused_at, logged}
use Rattle.ti_handshake.proofs.Owners.{Owns, owns, home, steps_and, may_store, may_keep, stores, leaves, left_at, nothing, same_history, runs_on, rests, refused_there}
use Rattle.ti_handshake.specs.Tries.{RunsOn}
use Rattle.ti_handshake.proofs.Tries.{still_runs, not_busy}
use Rattle.ti_handshake.proofs.running.Running.hand_over_now.Goals.{After-slot}
use Rattle.ti_handshake.proofs.running.Running.hand_over_now.Goals as goal

-- the slot that the thread took
taken : (c : After-slot) → Owns c.self.inside.seat c.in-Ok.hold c.slot.result.now
taken c = owns c.self.inside.seat c.in-Ok.hold c.slot.result.now c.self.invariant.thread.owner c.in-Ok.ensures.view c.in-Ok.ensures.taken c.slot.ensures.value

pub hand_over-requires-clause-running : goal.hand_over-requires-clause-running
hand_over-requires-clause-running c =
    let k = taken (goal.at.hand_over-requires-clause-running c).After-slot in
    (home _ _ _ _ _ _ _ c.self.invariant k).running

pub hand_over-requires-clause-steps : goal.hand_over-requires-clause-steps
hand_over-requires-clause-steps c =
    let k = taken (goal.at.hand_over-requires-clause-steps c).After-slot in
    (home _ _ _ _ _ _ _ c.self.invariant k).steps

pub hand_over-requires-clause-frames : goal.hand_over-requires-clause-frames
hand_over-requires-clause-frames c =
    let k = taken (goal.at.hand_over-requires-clause-frames c).After-slot in
    (home _ _ _ _ _ _ _ c.self.invariant k).frames

pub store_quietly-seat-requires-clause-adds : goal.store_quietly-seat-requires-clause-adds
store_quietly-seat-requires-clause-adds c =
    let k = taken (goal.at.store_quietly-seat-requires-clause-adds c).After-slot in
    may_store _ _ c.slot.result.now c.hand_over.new.self (steps_of c.self.inside.log.steps ++ Hand c.args.safe ∷ []) k (steps_and c.self.inside.log.steps (Hand c.args.safe ∷ []) (refl, tt)) c.in-Ok-hand_over.ensures.thread

pub of-requires : goal.of-requires
of-requires c =
    let k = taken (goal.at.of-requires c).After-slot in
    let s = c.store_quietly-seat.ensures in
    let at = leaves _ c.store_quietly-seat.result _ _ _ c.hand_over.new.self.history _ k c.self.invariant.here (c.in-Ok.ensures.cell ∙ c.deref.ensures) s.cell s.view s.mine in
    record { rests = rests _ _ _ _ _ c.hand_over.new.self _ _ _ _ _ c.self.invariant k at c.in-Ok-hand_over.ensures.thread c.in-Ok-hand_over.ensures.log }

pub store_quietly-seat-requires-in-Err-hand_over-clause-adds : goal.store_quietly-seat-requires-in-Err-hand_over-clause-adds
store_quietly-seat-requires-in-Err-hand_over-clause-adds c =
    let k = taken (goal.at.store_quietly-seat-requires-in-Err-hand_over-clause-adds c).After-slot in
    may_store _ _ c.slot.result.now c.hand_over.new.self [] k tt (nothing c.slot.result.now c.hand_over.new.self c.in-Err-hand_over.ensures.thread)

pub of-requires-in-Err-hand_over : goal.of-requires-in-Err-hand_over
of-requires-in-Err-hand_over c =
    let k = taken (goal.at.of-requires-in-Err-hand_over c).After-slot in
    let s = c.store_quietly-seat-in-Err-hand_over.ensures in
    let at = leaves _ c.store_quietly-seat-in-Err-hand_over.result _ _ _ c.hand_over.new.self.history _ k c.self.invariant.here (c.in-Ok.ensures.cell ∙ c.deref.ensures) s.cell s.view s.mine in
    record { runs = runs_on _ _ _ _ _ _ _ _ _ _ c.self.invariant k (left_at _ _ _ _ (same_history c.slot.result.now c.hand_over.new.self c.in-Err-hand_over.ensures.thread) at) c.in-Err-hand_over.ensures.back c.in-Err-hand_over.ensures.log }

pub returns-in-Ok-hand_over-clause-hold : goal.returns-in-Ok-hand_over-clause-hold
returns-in-Ok-hand_over-clause-hold c =
    let k = taken (goal.at.returns-in-Ok-hand_over-clause-hold c).After-slot in
    let s = c.store_quietly-seat.ensures in
    let held = stores _ _ c.slot.result.now c.hand_over.new.self _ (steps_of c.self.inside.log.steps ++ Hand c.args.safe ∷ []) k s.view c.in-Ok-hand_over.ensures.thread s.legal s.mine in
    subst (λ (x : Runner × Sitting). Holds x.0.view x.1.view (steps_of x.0.steps ++ Hand c.args.safe ∷ [])) (λ i. (c.self.view_is i, sym c.of.ensures.of i)) held

pub returns-in-Ok-hand_over-clause-when : goal.returns-in-Ok-hand_over-clause-when
returns-in-Ok-hand_over-clause-when c =
    let k = taken (goal.at.returns-in-Ok-hand_over-clause-when c).After-slot in
    let s = c.store_quietly-seat.ensures in
    let why = refused_there _ _ c.slot.result.now c.hand_over.new.self _ (steps_of c.self.inside.log.steps ++ Hand c.args.safe ∷ []) c.self.inside.log.steps (Hand c.args.safe) None k s.view c.in-Ok-hand_over.ensures.thread c.in-Ok-hand_over.ensures.when in
    subst (λ (x : Runner × Sitting). refused_at x.0.view.subject.limits (logged (found x.0.view x.1.view) x.0.steps) (Hand c.args.safe) ≡ None) (λ i. (c.self.view_is i, sym c.of.ensures.of i)) why

pub store_quietly-seat-requires-clause-keeps : goal.store_quietly-seat-requires-clause-keeps
store_quietly-seat-requires-clause-keeps c =
    let k = taken (goal.at.store_quietly-seat-requires-clause-keeps c).After-slot in
    may_keep _ _ c.slot.result.now c.hand_over.new.self (steps_of c.self.inside.log.steps ++ Hand c.args.safe ∷ []) k c.in-Ok-hand_over.ensures.thread

pub store_quietly-seat-requires-in-Err-hand_over-clause-keeps : goal.store_quietly-seat-requires-in-Err-hand_over-clause-keeps
store_quietly-seat-requires-in-Err-hand_over-clause-keeps c =
    let k = taken (goal.at.store_quietly-seat-requires-in-Err-hand_over-clause-keeps c).After-slot in
    may_keep _ _ c.slot.result.now c.hand_over.new.self [] k (nothing c.slot.result.now c.hand_over.new.self c.in-Err-hand_over.ensures.thread)

pub returns-in-Err-hand_over-clause-refused : goal.returns-in-Err-hand_over-clause-refused
returns-in-Err-hand_over-clause-refused c =
    let k = taken (goal.at.returns-in-Err-hand_over-clause-refused c).After-slot in
    let i = c.self.inside in
    let s = c.store_quietly-seat-in-Err-hand_over.ensures in
    let w = c.store_quietly-seat-in-Err-hand_over.result in
    let e = c.in-Err-hand_over.ensures in
    let at = leaves _ w _ _ _ c.hand_over.new.self.history _ k c.self.invariant.here (c.in-Ok.ensures.cell ∙ c.deref.ensures) s.cell s.view s.mine in
    let runs = still_runs (Hand c.args.safe) _ w _ c.slot.result.now c.hand_over.new.self i.frames c.in-Err-hand_over.frames i.log c.hand_over.new.log c.in-Err-hand_over.error k s.view e.thread s.legal s.mine at.cell e.when e.back e.log in
    inr (subst (λ (x : Runner × Runner). RunsOn (Hand c.args.safe) x.0 x.1 c.in-Err-hand_over.error) (λ j. (c.self.view_is j, sym c.of-in-Err-hand_over.ensures.of j)) runs)

pub returns-in-Err-hand_over-clause-busy : goal.returns-in-Err-hand_over-clause-busy
returns-in-Err-hand_over-clause-busy c = λ busy. absurd (not_busy c.slot.result.now.limits (c.slot.result.now.history ++ steps_of c.self.inside.log.steps) c.args.safe _ c.in-Err-hand_over.ensures.when busy)
