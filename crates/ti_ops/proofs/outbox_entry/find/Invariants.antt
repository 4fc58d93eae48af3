use Rattle.std.proofs.Common.{◌≡◌, false, take}
use Rattle.ti_ops.specs.OutboxEntry.{has}
use Rattle.ti_ops.proofs.outbox_entry.find.Given as goal

abbrev pub invariant-loop-at : goal.invariant-loop-at
invariant-loop-at l = has l.ticket (take l.at l.kept.items) ≡ false
