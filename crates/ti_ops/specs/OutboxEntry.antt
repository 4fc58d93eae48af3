-- The calls that something is kept of, and their statuses.
use Rattle.std.specs.Prelude.{ℕ, zero, suc, ◌≡◌, ◌<◌, ◌≤◌, ◌*◌, Bool, true, false, if◌then◌else◌, ◌&&◌, ◌==◌, nat_le, Option, Some, None, List, [], ◌∷◌, ◌++◌, length, map, drop, slice_index_or}
use Rattle.std.specs.List.{All, list_any, sum_by}
use Rattle.ti_types.specs.declared.numbers.EnvNo.{EnvNo}
use Rattle.ti_types.specs.declared.event.Ticket.{Ticket}
use Rattle.ti_types.specs.declared.call.Call.{Call}
use Rattle.ti_types.specs.declared.call.Call.TheVariants.{State}
use Rattle.ti_types.specs.Frames.{Trace}
use Rattle.ti_ops.specs.declared.pending.Pending.{Pending}
use Rattle.ti_ops.specs.declared.status.CallStatus.{CallStatus}
use Rattle.ti_ops.specs.declared.status.CallStatus.TheVariants as status
use Rattle.ti_ops.specs.declared.outbox_entry.OutboxEntry.{OutboxEntry}
use Rattle.ti_ops.specs.declared.outbox_entry.Count.{Count}
use Rattle.ti_ops.specs.declared.outbox_entry.Stage.{Stage}
use Rattle.ti_ops.specs.declared.outbox_entry.Stage.TheVariants.{Posted, Taken, Answered}
use Rattle.ti_ops.specs.Statuses.{is_at, open_by}
use Rattle.ti_ops.specs.Ops.{Ops}

abbrev pub status_in : Stage → CallStatus
status_in (Posted c b) = status.Waiting
status_in Taken = status.Waiting
status_in (Answered a) = status.Answered a

abbrev pub is_posted : Stage → Bool
is_posted (Posted c b) = true
is_posted Taken = false
is_posted (Answered a) = false

abbrev pub has_answer : Stage → Bool
has_answer (Posted c b) = false
has_answer Taken = false
has_answer (Answered a) = true

abbrev pub call_in : Stage → Call
call_in (Posted c b) = c
call_in _ = State

abbrev pub buf_in : Stage → Trace
buf_in (Posted c b) = b
buf_in _ = record { frames = []; room = 0 }

abbrev pub pending_in : OutboxEntry → Pending
pending_in k = record { ticket = k.ticket; call = call_in k.stage; buf = buf_in k.stage }

-- a call by its environment and number: that of its ticket
abbrev pub ticket_at : ℕ → ℕ → Ticket
ticket_at env number = record { env = record { 0 = env }; thread = record { 0 = 0 }; no = number }

-- whether the ticket's call is kept
abbrev pub has : Ticket → List OutboxEntry → Bool
has t kept = list_any (λ k. is_at k.ticket t) kept

-- no call is kept twice
abbrev pub AreOnce : List OutboxEntry → Type 0
AreOnce [] = Unit {0}
AreOnce (k ∷ kept) = (has k.ticket kept ≡ false) × AreOnce kept

-- the status of a ticket's call. Nothing is left of a call that is not kept
abbrev pub status_among : Ticket → List OutboxEntry → CallStatus
status_among t [] = status.Gone
status_among t (k ∷ kept) = if is_at k.ticket t then status_in k.stage else status_among t kept

-- what a function gives for each number below a bound
abbrev pub listed : {A : Type 0} → (ℕ → A) → ℕ → List A
listed f zero = []
listed f (suc n) = listed f n ++ f n ∷ []

abbrev pub count_of : List Count → ℕ → Count
count_of counts env = slice_index_or counts env (record { asked = 0; held = 0 })

-- the statuses of the calls that an environment has asked
abbrev pub list_of : List Count → List OutboxEntry → ℕ → List CallStatus
list_of counts kept env = listed (λ number. status_among (ticket_at env number) kept) (count_of counts env).asked

-- the statuses of each environment
abbrev pub lists_of : List Count → List OutboxEntry → List (List CallStatus)
lists_of counts kept = listed (list_of counts kept) (length counts)

abbrev pub ops_in : ℕ → ℕ → List Count → List OutboxEntry → Ops
ops_in window taken counts kept = record { waiting = map pending_in (drop taken kept); statuses = lists_of counts kept; window = window }

-- The calls that wait come last. Each kept call was asked. Each environment has as many kept calls as its count says, and no
-- more than the window.
pub record IsKept (window first capacity : ℕ) (counts : List Count) (kept : List OutboxEntry) : Type 0 where
  pub taken : first ≤ length kept
  pub waits : All (λ k. is_posted k.stage ≡ true) (drop first kept)
  pub once : AreOnce kept
  pub asked : All (λ k. k.ticket.no < (count_of counts k.ticket.env.0).asked) kept
  pub few : All (λ c. c.held ≤ window) counts
  pub all : sum_by (λ c. c.held) counts ≡ length kept
  pub held : (env : EnvNo) → env.0 < length counts → (count_of counts env.0).held ≡ open_by env (lists_of counts kept)
  pub room : length counts * window ≤ capacity

-- the lower of two numbers, if there is a first one
abbrev pub lower_of : Option ℕ → ℕ → Option ℕ
lower_of None n = Some n
lower_of (Some m) n = if nat_le m n then Some m else Some n

-- the number of a call, if it is the environment's, not below `from`, and nearer to it
abbrev pub nearer_of : EnvNo → ℕ → Option ℕ → Ticket → Option ℕ
nearer_of env from next t = if t.env.0 == env.0 && nat_le from t.no then lower_of next t.no else next
