-- What has become of the calls that environments asked of one thread.
use Rattle.std.specs.Prelude.{ℕ, ◌≡◌, ◌≤◌, ◌<◌, Bool, true, false, ◌==◌, ◌&&◌, List, [], ◌∷◌, ◌++◌, Option, Some, None, slice_index_or, slice_set}
use Rattle.std.specs.List.{list_any, count_by}
use Rattle.ti_types.specs.declared.numbers.EnvNo.{EnvNo}
use Rattle.ti_types.specs.declared.event.Ticket.{Ticket}
use Rattle.ti_types.specs.declared.answer.Answer.{Answer}
use Rattle.ti_ops.specs.declared.pending.Pending.{Pending}
use Rattle.ti_ops.specs.declared.status.CallStatus.{CallStatus}
use Rattle.ti_ops.specs.declared.status.CallStatus.TheVariants.{Waiting, Answered, Gone}

-- the answer that is there to be collected
abbrev pub answer_by : CallStatus → Option Answer
answer_by (Answered a) = Some a
answer_by Waiting = None
answer_by Gone = None

-- whether the call waits, or its answer is there to be collected
abbrev pub is_open : CallStatus → Bool
is_open Waiting = true
is_open (Answered a) = true
is_open Gone = false

-- the statuses of the calls of an environment, in a list with a place for each environment
abbrev pub statuses_by : EnvNo → List (List CallStatus) → List CallStatus
statuses_by env statuses = slice_index_or statuses env.0 []

-- nothing is left of a call that was never asked
abbrev pub status_of : Ticket → List (List CallStatus) → CallStatus
status_of t statuses = slice_index_or (statuses_by t.env statuses) t.no Gone

-- how many calls of an environment have something left
abbrev pub open_by : EnvNo → List (List CallStatus) → ℕ
open_by env statuses = count_by is_open (statuses_by env statuses)

-- one more call of an environment
abbrev pub with_call : EnvNo → CallStatus → List (List CallStatus) → List (List CallStatus)
with_call env status statuses = slice_set statuses env.0 (statuses_by env statuses ++ status ∷ [])

-- another status of a call
abbrev pub with_status : Ticket → CallStatus → List (List CallStatus) → List (List CallStatus)
with_status t status statuses = slice_set statuses t.env.0 (slice_set (statuses_by t.env statuses) t.no status)

-- whether two tickets of one thread name the same call
abbrev pub is_at : Ticket → Ticket → Bool
is_at t u = t.no == u.no && t.env.0 == u.env.0

-- whether a call is among those that wait
abbrev pub is_awaited : Ticket → List Pending → Bool
is_awaited t waiting = list_any (λ p. is_at p.ticket t) waiting

-- a call of an environment by its number
abbrev pub call_at : EnvNo → ℕ → Ticket
call_at env n = record { env = env; thread = record { 0 = 0 }; no = n }

-- the first number, from a number on, of which this is true
abbrev pub IsFirstFrom : (ℕ → Bool) → ℕ → Option ℕ → Type 0
IsFirstFrom p from None = (n : ℕ) → from ≤ n → p n ≡ false
IsFirstFrom p from (Some n) = (from ≤ n) × (p n ≡ true) × ((m : ℕ) → from ≤ m → m < n → p m ≡ false)
