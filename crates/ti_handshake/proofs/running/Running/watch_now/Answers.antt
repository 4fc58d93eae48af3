use Rattle.std.proofs.Common.{◌≡◌, refl, ap, sym, ◌∙◌, subst}
use Rattle.ti_cell.specs.Rule.{IsTaken}
use Rattle.ti_cell.specs.Seats.{Holding}
use Rattle.ti_cell.specs.View.{holding}
use Rattle.ti_handshake.proofs.Owners.{Owns, owns, leaves, runs_on}
use Rattle.ti_handshake.proofs.running.Running.watch_now.Goals.{After-slot-slot}
use Rattle.ti_handshake.proofs.running.Running.watch_now.Goals as goal

-- the slot that the thread took
taken : (c : After-slot-slot) → Owns c.self.inside.seat c.watch.new.self c.slot-slot.result.now
taken c =
    let back = sym c.watch.ensures.hold in
    let seat = c.self.inside.seat in
    owns seat c.watch.new.self c.slot-slot.result.now c.self.invariant.thread.owner
    (subst (λ (h : Holding). h.view ≡ holding seat.view h.slot.history h.slot.uncollected) back c.in-Ok.ensures.view)
    (subst (λ (h : Holding). IsTaken seat.view h.slot) back c.in-Ok.ensures.taken)
    c.slot-slot.ensures.value

pub of-requires : goal.of-requires
of-requires c =
    let k = taken (goal.at.of-requires c).After-slot-slot in
    let s = c.store_quietly-seat.ensures in
    let cell = ap (λ (h : Holding). h.cell) c.watch.ensures.hold ∙ c.in-Ok.ensures.cell ∙ c.deref.ensures in
    let at = leaves _ c.store_quietly-seat.result _ _ _ c.slot-slot.result.now.history _ k c.self.invariant.here cell s.cell s.view s.mine in
    record { runs = runs_on _ _ _ _ _ _ _ _ _ _ c.self.invariant k at refl refl }
