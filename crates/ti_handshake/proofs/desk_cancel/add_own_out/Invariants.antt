use Rattle.std.proofs.Common.{◌≡◌, ◌+◌, ◌-◌}
use Rattle.ti_cell.specs.View.{tickets_of}
use Rattle.ti_handshake.proofs.CancellingAll.{Adding}
use Rattle.ti_handshake.proofs.desk_cancel.add_own_out.Given as goal

abbrev pub invariant-loop-from : goal.invariant-loop-from
invariant-loop-from l = Adding (tickets_of (l.env.0 + 1) l.slot.uncollected) l.fn.cancelled.tickets l.fn.cancelled.room l.cancelled l.from × (l.cancelled.former ≡ l.fn.cancelled.former)

abbrev pub decreases-loop-from : goal.decreases-loop-from
decreases-loop-from l = l.entries - l.from
