use Rattle.std.proofs.Common.{ℕ, take}
use Rattle.ti_ops.specs.Statuses.{IsFirstFrom, call_at}
use Rattle.ti_ops.specs.OutboxEntry.{has}
use Rattle.ti_ops.proofs.pending.PendingOps.next_out.Given as goal

abbrev pub invariant-loop-at : goal.invariant-loop-at
invariant-loop-at l = IsFirstFrom (λ n. has (call_at l.env n) (take l.at l.self-inside.kept.items)) l.from l.next
