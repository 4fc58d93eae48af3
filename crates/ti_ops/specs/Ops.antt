-- The calls that wait at one thread, and what has become of all calls.
use Rattle.std.specs.Prelude.{ℕ, List, [], ◌∷◌, ◌++◌}
use Rattle.ti_ops.specs.declared.pending.Pending.{Pending}
use Rattle.ti_ops.specs.declared.status.CallStatus.{CallStatus}
use Rattle.ti_ops.specs.declared.status.CallStatus.TheVariants.{Waiting}
use Rattle.ti_ops.specs.Statuses.{with_call}

-- The calls that wait, the earliest posted first. The statuses of each environment's calls, by number. And how many calls of an
-- environment may have something left at once
pub record Ops : Type 0 where
  pub waiting : List Pending
  pub statuses : List (List CallStatus)
  pub window : ℕ

abbrev pub with_waiting : Ops → List Pending → Ops
with_waiting o waiting = record { waiting = waiting; statuses = o.statuses; window = o.window }

abbrev pub with_statuses : Ops → List (List CallStatus) → Ops
with_statuses o statuses = record { waiting = o.waiting; statuses = statuses; window = o.window }

-- with one more call that waits
abbrev pub with_posted : Ops → Pending → Ops
with_posted o p =
    record { waiting = o.waiting ++ p ∷ []; statuses = with_call p.ticket.env Waiting o.statuses; window = o.window }
