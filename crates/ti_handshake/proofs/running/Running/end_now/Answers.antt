use Rattle.std.proofs.Common.{[], ◌∷◌, ◌++◌, refl, sym, ◌∙◌, subst}
use Rattle.ti_types.specs.declared.entry.Entry.TheVariants.{End}
use Rattle.ti_replay.specs.LateTickets.{steps_of}
use Rattle.ti_cell.specs.Seats.{Sitting}
use Rattle.ti_handshake.specs.Call.{Holds}
use Rattle.ti_handshake.specs.Thread.{Runner}
use Rattle.ti_handshake.proofs.Owners.{Owns, owns, home, steps_and, may_store, may_keep, stores, leaves, ended}
use Rattle.ti_handshake.proofs.running.Running.end_now.Goals.{After-slot}
use Rattle.ti_handshake.proofs.running.Running.end_now.Goals as goal

-- the slot that the thread took
taken : (c : After-slot) → Owns c.self.inside.seat c.in-Ok.hold c.slot.result.now
taken c = owns c.self.inside.seat c.in-Ok.hold c.slot.result.now c.self.invariant.thread.owner c.in-Ok.ensures.view c.in-Ok.ensures.taken c.slot.ensures.value

pub end-requires-clause-running : goal.end-requires-clause-running
end-requires-clause-running c =
    let k = taken (goal.at.end-requires-clause-running c).After-slot in
    (home _ _ _ _ _ _ _ c.self.invariant k).running

pub end-requires-clause-steps : goal.end-requires-clause-steps
end-requires-clause-steps c =
    let k = taken (goal.at.end-requires-clause-steps c).After-slot in
    (home _ _ _ _ _ _ _ c.self.invariant k).steps

pub store_quietly-seat-requires-clause-adds : goal.store_quietly-seat-requires-clause-adds
store_quietly-seat-requires-clause-adds c =
    let k = taken (goal.at.store_quietly-seat-requires-clause-adds c).After-slot in
    may_store _ _ c.slot.result.now c.end.new.self (steps_of c.self.inside.log.steps ++ End ∷ []) k (steps_and c.self.inside.log.steps (End ∷ []) (refl, tt)) c.end.ensures.thread

pub of-requires : goal.of-requires
of-requires c =
    let k = taken (goal.at.of-requires c).After-slot in
    let s = c.store_quietly-seat.ensures in
    let at = leaves _ c.store_quietly-seat.result _ _ _ c.end.new.self.history _ k c.self.invariant.here (c.in-Ok.ensures.cell ∙ c.deref.ensures) s.cell s.view s.mine in
    record { ended = ended _ _ _ _ _ c.end.new.self c.self.inside.log.steps k at c.self.invariant.here c.end.ensures.thread }

pub returns-in-Ok-clause-hold : goal.returns-in-Ok-clause-hold
returns-in-Ok-clause-hold c =
    let k = taken (goal.at.returns-in-Ok-clause-hold c).After-slot in
    let s = c.store_quietly-seat.ensures in
    let held = stores _ _ c.slot.result.now c.end.new.self _ (steps_of c.self.inside.log.steps ++ End ∷ []) k s.view c.end.ensures.thread s.legal s.mine in
    subst (λ (x : Runner × Sitting). Holds x.0.view x.1.view (steps_of x.0.steps ++ End ∷ [])) (λ i. (c.self.view_is i, sym c.of.ensures.of i)) held

pub store_quietly-seat-requires-clause-keeps : goal.store_quietly-seat-requires-clause-keeps
store_quietly-seat-requires-clause-keeps c =
    let k = taken (goal.at.store_quietly-seat-requires-clause-keeps c).After-slot in
    may_keep _ _ c.slot.result.now c.end.new.self (steps_of c.self.inside.log.steps ++ End ∷ []) k c.end.ensures.thread
