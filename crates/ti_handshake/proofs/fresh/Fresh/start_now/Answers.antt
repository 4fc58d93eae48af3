use Rattle.std.proofs.Common.{[], sym, ◌∙◌, subst, inr}
use Rattle.ti_types.specs.declared.entry.Entry.TheVariants.{Start}
use Rattle.ti_cell.specs.Seats.{Sitting}
use Rattle.ti_handshake.proofs.Owners.{Owns, owns, may_store, may_keep, leaves, left_at, nothing, same_history, start_barred}
use Rattle.ti_handshake.specs.Tries.{StaysBarred}
use Rattle.ti_handshake.proofs.Tries.{stays_barred}
use Rattle.ti_handshake.proofs.fresh.Fresh.start_now.Goals.{After-slot-slot}
use Rattle.ti_handshake.proofs.fresh.Fresh.start_now.Goals as goal

-- the slot that the thread took
taken : (c : After-slot-slot) → Owns c.self.inside.seat c.in-Ok.hold c.slot-slot.result.now
taken c = owns c.self.inside.seat c.in-Ok.hold c.slot-slot.result.now c.self.invariant.1.owner c.in-Ok.ensures.view c.in-Ok.ensures.taken c.slot-slot.ensures.value

pub store_quietly-seat-requires-in-Err-start-clause-adds : goal.store_quietly-seat-requires-in-Err-start-clause-adds
store_quietly-seat-requires-in-Err-start-clause-adds c =
    let k = taken (goal.at.store_quietly-seat-requires-in-Err-start-clause-adds c).After-slot-slot in
    may_store _ _ c.slot-slot.result.now c.start.new.self [] k tt (nothing c.slot-slot.result.now c.start.new.self c.in-Err-start.ensures.thread)

pub store_quietly-seat-requires-in-Err-start-clause-keeps : goal.store_quietly-seat-requires-in-Err-start-clause-keeps
store_quietly-seat-requires-in-Err-start-clause-keeps c =
    let k = taken (goal.at.store_quietly-seat-requires-in-Err-start-clause-keeps c).After-slot-slot in
    may_keep _ _ c.slot-slot.result.now c.start.new.self [] k (nothing c.slot-slot.result.now c.start.new.self c.in-Err-start.ensures.thread)

pub returns-in-Err-start-clause-refused : goal.returns-in-Err-start-clause-refused
returns-in-Err-start-clause-refused c =
    let k = taken (goal.at.returns-in-Err-start-clause-refused c).After-slot-slot in
    let s = c.store_quietly-seat-in-Err-start.ensures in
    let w = c.store_quietly-seat-in-Err-start.result in
    let e = c.in-Err-start.ensures in
    let at = leaves _ w _ _ _ c.start.new.self.history _ k c.self.invariant.0 (c.in-Ok.ensures.cell ∙ c.deref.ensures) s.cell s.view s.mine in
    let b = start_barred _ _ _ _ _ c.self.invariant.1 k (left_at _ _ _ _ (same_history c.slot-slot.result.now c.start.new.self e.thread) at) e.when in
    inr (subst (λ (s : Sitting). StaysBarred Start s w c.in-Err-start.error) c.self.view_is (stays_barred Start _ w _ c.slot-slot.result.now c.start.new.self _ k s.view e.thread s.legal s.mine e.when b))

pub returns-in-Err-start-clause-busy : goal.returns-in-Err-start-clause-busy
returns-in-Err-start-clause-busy c = λ busy.
    let k = taken (goal.at.returns-in-Err-start-clause-busy c).After-slot-slot in
    let s = c.store_quietly-seat-in-Err-start.ensures in
    let at = leaves _ c.store_quietly-seat-in-Err-start.result _ _ _ c.start.new.self.history _ k c.self.invariant.0 (c.in-Ok.ensures.cell ∙ c.deref.ensures) s.cell s.view s.mine in
    let b = start_barred _ _ _ _ _ c.self.invariant.1 k (left_at _ _ _ _ (same_history c.slot-slot.result.now c.start.new.self c.in-Err-start.ensures.thread) at) c.in-Err-start.ensures.when in
    cc (sym b.0 ∙ busy)
