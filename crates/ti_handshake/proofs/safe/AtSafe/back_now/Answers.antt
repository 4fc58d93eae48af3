use Rattle.std.proofs.Common.{[], sym, ◌∙◌, subst, inr}
use Rattle.ti_types.specs.declared.entry.Entry.TheVariants.{Back}
use Rattle.ti_cell.specs.Seats.{Sitting}
use Rattle.ti_handshake.proofs.Owners.{Owns, owns, may_store, may_keep, leaves, left_at, nothing, same_history, back_barred, still_safe}
use Rattle.ti_handshake.specs.Tries.{StaysBarred}
use Rattle.ti_handshake.proofs.Tries.{stays_barred}
use Rattle.ti_handshake.proofs.safe.AtSafe.back_now.Goals.{After-slot-slot}
use Rattle.ti_handshake.proofs.safe.AtSafe.back_now.Goals as goal

-- the slot that the thread took
taken : (c : After-slot-slot) → Owns c.self.inside.seat c.in-Ok.hold c.slot-slot.result.now
taken c = owns c.self.inside.seat c.in-Ok.hold c.slot-slot.result.now c.self.invariant.owner c.in-Ok.ensures.view c.in-Ok.ensures.taken c.slot-slot.ensures.value

pub store_quietly-seat-requires-in-Err-back-clause-adds : goal.store_quietly-seat-requires-in-Err-back-clause-adds
store_quietly-seat-requires-in-Err-back-clause-adds c =
    let k = taken (goal.at.store_quietly-seat-requires-in-Err-back-clause-adds c).After-slot-slot in
    may_store _ _ c.slot-slot.result.now c.back.new.self [] k tt (nothing c.slot-slot.result.now c.back.new.self c.in-Err-back.ensures.thread)

pub invariant_of-result : goal.invariant_of-result
invariant_of-result c =
    let k = taken (goal.at.invariant_of-result c).After-slot-slot in
    let s = c.store_quietly-seat-in-Err-back.ensures in
    let at = leaves _ c.store_quietly-seat-in-Err-back.result _ _ _ c.back.new.self.history _ k c.self.invariant.here (c.in-Ok.ensures.cell ∙ c.deref.ensures) s.cell s.view s.mine in
    still_safe _ _ _ _ _ _ c.self.invariant k (left_at _ _ _ _ (same_history c.slot-slot.result.now c.back.new.self c.in-Err-back.ensures.thread) at)

pub store_quietly-seat-requires-in-Err-back-clause-keeps : goal.store_quietly-seat-requires-in-Err-back-clause-keeps
store_quietly-seat-requires-in-Err-back-clause-keeps c =
    let k = taken (goal.at.store_quietly-seat-requires-in-Err-back-clause-keeps c).After-slot-slot in
    may_keep _ _ c.slot-slot.result.now c.back.new.self [] k (nothing c.slot-slot.result.now c.back.new.self c.in-Err-back.ensures.thread)

pub returns-in-Err-back-clause-refused : goal.returns-in-Err-back-clause-refused
returns-in-Err-back-clause-refused c =
    let k = taken (goal.at.returns-in-Err-back-clause-refused c).After-slot-slot in
    let s = c.store_quietly-seat-in-Err-back.ensures in
    let w = c.store_quietly-seat-in-Err-back.result in
    let e = c.in-Err-back.ensures in
    let at = leaves _ w _ _ _ c.back.new.self.history _ k c.self.invariant.here (c.in-Ok.ensures.cell ∙ c.deref.ensures) s.cell s.view s.mine in
    let b = back_barred _ _ _ _ _ _ _ c.self.invariant k (left_at _ _ _ _ (same_history c.slot-slot.result.now c.back.new.self e.thread) at) e.when in
    inr (subst (λ (s : Sitting). StaysBarred Back s w c.in-Err-back.error) c.self.view_is (stays_barred Back _ w _ c.slot-slot.result.now c.back.new.self _ k s.view e.thread s.legal s.mine e.when b))

pub returns-in-Err-back-clause-busy : goal.returns-in-Err-back-clause-busy
returns-in-Err-back-clause-busy c = λ busy.
    let k = taken (goal.at.returns-in-Err-back-clause-busy c).After-slot-slot in
    let s = c.store_quietly-seat-in-Err-back.ensures in
    let at = leaves _ c.store_quietly-seat-in-Err-back.result _ _ _ c.back.new.self.history _ k c.self.invariant.here (c.in-Ok.ensures.cell ∙ c.deref.ensures) s.cell s.view s.mine in
    let b = back_barred _ _ _ _ _ _ _ c.self.invariant k (left_at _ _ _ _ (same_history c.slot-slot.result.now c.back.new.self c.in-Err-back.ensures.thread) at) c.in-Err-back.ensures.when in
    cc (sym b.0 ∙ busy)
