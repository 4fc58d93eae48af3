-- Which tickets a slot still has.
use Rattle.std.specs.Prelude.{ℕ, ◌≡◌, ◌≤◌, ◌<◌, Bool, true, false, ◌==◌, ◌&&◌, nat_lt, if◌then◌else◌, length, List, [], ◌∷◌, Option, Some, None}
use Rattle.std.specs.List.{list_any, flat_map, count_by}
use Rattle.ti_types.specs.declared.limits.Limits.{Limits}
use Rattle.ti_types.specs.declared.numbers.EnvNo.{EnvNo}
use Rattle.ti_types.specs.declared.numbers.ThreadNo.{ThreadNo}
use Rattle.ti_types.specs.declared.event.Ticket.{Ticket}
use Rattle.ti_types.specs.declared.answer.Answer.{Answer}
use Rattle.ti_types.specs.declared.entry.Entry.{Entry}
use Rattle.ti_types.specs.declared.entry.Entry.TheVariants.{Asked}
pub use Rattle.ti_ops.specs.Statuses.{is_at, is_awaited}
use Rattle.ti_ops.specs.Statuses.{statuses_by, status_of, open_by, answer_by, is_open}
use Rattle.ti_ops.specs.declared.pending.Pending.{Pending}
use Rattle.ti_ops.specs.declared.status.CallStatus.{CallStatus}
use Rattle.ti_ops.specs.declared.status.CallStatus.TheVariants.{Waiting}
use Rattle.ti_replay.specs.Legal.{asked_by}
use Rattle.ti_replay.specs.Tickets.{reply_to}

-- whether two tickets name the same call
abbrev pub same : Ticket → Ticket → Bool
same a b = a.no == b.no && a.env.0 == b.env.0 && a.thread.0 == b.thread.0

-- whether a ticket is among these
abbrev pub has : Ticket → List Ticket → Bool
has t tickets = list_any (λ u. same u t) tickets

-- the tickets without the first one that is the same
abbrev pub without_ticket : Ticket → List Ticket → List Ticket
without_ticket t [] = []
without_ticket t (u ∷ tickets) = if same u t then tickets else u ∷ without_ticket t tickets

-- no ticket is there twice
abbrev pub AreOnce : List Ticket → Type 0
AreOnce [] = Unit {0}
AreOnce (u ∷ tickets) = (has u tickets ≡ false) × AreOnce tickets

-- none of these is the ticket of a call of an environment, from a number on and below another
abbrev pub NoneBetween : List Ticket → EnvNo → ℕ → ℕ → Type 0
NoneBetween tickets env from past = (k : Ticket) → k.env.0 ≡ env.0 → from ≤ k.no → k.no < past → has k tickets ≡ false

-- the first ticket of an environment, from a number on, at a thread of this number
abbrev pub IsNextOut : ThreadNo → List Ticket → EnvNo → ℕ → Option Ticket → Type 0
IsNextOut number tickets env from None = (past : ℕ) → NoneBetween tickets env from past
IsNextOut number tickets env from (Some t) = (t.env ≡ env) × (t.thread ≡ number) × (from ≤ t.no) × (has t tickets ≡ true) × NoneBetween tickets env from t.no

-- the ticket of a call
abbrev pub ticket_in : ThreadNo → Entry → List Ticket
ticket_in number (Asked env n call) = (record { env = env; thread = number; no = n }) ∷ []
ticket_in number _ = []

-- the tickets of all calls of a history, the earliest first
abbrev pub asked_in : ThreadNo → List Entry → List Ticket
asked_in number history = flat_map (ticket_in number) history

-- the tickets whose call waits, or was answered later and not collected
abbrev pub open_in : List (List CallStatus) → List Ticket → List Ticket
open_in statuses [] = []
open_in statuses (t ∷ tickets) = if is_open (status_of t statuses) then t ∷ open_in statuses tickets else open_in statuses tickets

-- how many tickets are an environment's
abbrev pub held_by : EnvNo → List Ticket → ℕ
held_by env tickets = count_by (λ t. t.env.0 == env.0) tickets

-- the calls that wait have no answer yet
abbrev pub AreAwaited : List (List CallStatus) → List Pending → Type 0
AreAwaited statuses [] = Unit {0}
AreAwaited statuses (p ∷ waiting) = (status_of p.ticket statuses ≡ Waiting) × AreAwaited statuses waiting

-- no call waits twice
abbrev pub AreApart : List Pending → Type 0
AreApart [] = Unit {0}
AreApart (p ∷ waiting) = (is_awaited p.ticket waiting ≡ false) × AreApart waiting

-- The statuses of a history's calls. An answer that is kept is the reply, and a call that waits has no reply yet
pub record Tells (limits : Limits) (number : ThreadNo) (history : List Entry) (waiting : List Pending) (statuses : List (List CallStatus)) : Type 0 where
  pub fresh : (t : Ticket) → asked_by t.env history ≤ t.no → reply_to limits history t ≡ None
  pub envs : length statuses ≡ limits.envs
  pub lists : (env : EnvNo) → length (statuses_by env statuses) ≡ asked_by env history
  pub quiet : (t : Ticket) → status_of t statuses ≡ Waiting → reply_to limits history t ≡ None
  pub told : (t : Ticket) (a : Answer) → answer_by (status_of t statuses) ≡ Some a → reply_to limits history t ≡ Some a
  pub awaited : AreAwaited statuses waiting
  pub apart : AreApart waiting
  pub listed : (t : Ticket) → has t (asked_in number history) ≡ (t.thread.0 == number.0 && nat_lt t.no (asked_by t.env history))
  pub once : AreOnce (asked_in number history)
  pub held : (env : EnvNo) → held_by env (open_in statuses (asked_in number history)) ≡ open_by env statuses
