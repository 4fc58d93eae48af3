use Rattle.std.proofs.Common.{◌+◌, sym, ◌∙◌, subst, ap, arith}
use Rattle.ti_cell.specs.View.{tickets_of}
use Rattle.ti_handshake.specs.Cancelled.{Given}
use Rattle.ti_handshake.proofs.CancellingAll.{Adding, passed, added, has_room, below_entries, ends, ends_early}
use Rattle.ti_handshake.proofs.desk_cancel.add_own_out.Goals.{then-not-has, else-not-has}
use Rattle.ti_handshake.proofs.desk_cancel.add_own_out.Goals as goal

pub returns-in_default-clause-added : goal.returns-in_default-clause-added
returns-in_default-clause-added c = ends_early c.args.env c.args.slot.now c.args.cancelled.now.tickets c.args.cancelled.now.room c.loop-from.from c.loop-from.cancelled c.loop-from.invariant.0 c.in_default.ensures

pub add-requires : goal.add-requires
add-requires c =
    has_room c.args.env c.args.slot.now c.args.cancelled.now.tickets c.args.cancelled.now.room c.loop-from.from c.loop-from.cancelled c.in-Some.ticket c.loop-from.invariant.0 c.in-Some.ensures
    (sym c.has.ensures ∙ c.if-not-has.true) c.requires.room

pub overflow_add-from : goal.overflow_add-from
overflow_add-from c = omega (arith, below_entries c.args.slot.now c.in-Some.ticket c.tickets.ensures.known c.in-Some.ensures.3, c.len-entries.ensures.len)

pub loop-from-preserved : goal.loop-from-preserved
loop-from-preserved c = elim c.if-not-has.branch [
  | then-not-has w ↦ (
    added c.args.env c.args.slot.now c.args.cancelled.now.tickets c.args.cancelled.now.room c.loop-from.from c.loop-from.cancelled c.if-not-has.cancelled c.in-Some.ticket c.tickets.ensures.known c.loop-from.invariant.0
        c.in-Some.ensures (sym c.has.ensures ∙ w.if-not-has.true) (ap (λ (g : Given). g.tickets) w.cancelled-is ∙ w.add.ensures.tickets) (ap (λ (g : Given). g.room) w.cancelled-is ∙ w.add.ensures.room),
    ap (λ (g : Given). g.former) w.cancelled-is ∙ (w.add.ensures.former ∙ c.loop-from.invariant.1),
  )
  | else-not-has w ↦ (
    subst (λ (g : Given). Adding (tickets_of (c.args.env.0 + 1) c.args.slot.now.uncollected) c.args.cancelled.now.tickets c.args.cancelled.now.room g (c.in-Some.ticket.no + 1)) (sym w.cancelled-is)
        (passed c.args.env c.args.slot.now c.args.cancelled.now.tickets c.args.cancelled.now.room c.loop-from.from c.loop-from.cancelled c.in-Some.ticket c.tickets.ensures.known c.loop-from.invariant.0
        c.in-Some.ensures (sym c.has.ensures ∙ w.if-not-has.false)),
    ap (λ (g : Given). g.former) w.cancelled-is ∙ c.loop-from.invariant.1,
  )
]

pub returns-clause-added : goal.returns-clause-added
returns-clause-added c =
    ends c.args.env c.args.slot.now c.args.cancelled.now.tickets c.args.cancelled.now.room c.loop-from.from c.loop-from.cancelled c.tickets.ensures.known c.loop-from.invariant.0
    (omega (arith, c.loop-from-test.false, c.len-entries.ensures.len))
