-- An environment, with a desk at each of its threads.
use Rattle.std.specs.Prelude.{ℕ, zero, suc, ◌≡◌, ◌+◌, ◌-◌, ◌<◌, ◌≤◌, ◌==◌, ◌||◌, nat_le, nat_lt, Bool, true, false, if◌then◌else◌, List, [], ◌∷◌, length, map, Option, Some, None, slice_get}
use Rattle.atomic_table.specs.Seated.{TableId}
use Rattle.ti_types.specs.declared.numbers.EnvNo.{EnvNo}
use Rattle.ti_types.specs.declared.numbers.ThreadNo.{ThreadNo}
use Rattle.ti_types.specs.declared.caps.Caps.{Caps}
use Rattle.ti_types.specs.Caps.{caps_with, has_all}
use Rattle.ti_types.specs.Call.{needed_by}
use Rattle.ti_types.specs.declared.call.Call.{Call}
use Rattle.ti_types.specs.declared.call.Call.TheVariants.{Suspend, Pop}
use Rattle.ti_types.specs.declared.error.TiError.{TiError}
use Rattle.ti_types.specs.declared.error.TiError.TheVariants.{InvalidThread, ThreadNotAlive}
use Rattle.ti_env.specs.Env.{EnvValue, spent_at, call_refusal}
use Rattle.ti_replay.specs.Legal.{calls_spent}
use Rattle.ti_handshake.specs.Desk.{DeskState}
use Rattle.ti_replay.specs.Fronts.{stops_by}

-- its number, what it keeps for itself, and its desks
pub record Environment : Type 0 where
  pub env : EnvNo
  pub state : EnvValue
  pub desks : List DeskState

-- The place of a thread: that of the first desk at a thread of its number. If there is none, it is the number of desks
abbrev pub place_in : List DeskState → ThreadNo → ℕ
place_in [] t = 0
place_in (p ∷ desks) t = if p.view.subject.thread.0 == t.0 then 0 else suc (place_in desks t)

-- the same, as what an environment keeps for itself names a thread
abbrev pub place_of : List DeskState → ThreadNo → ThreadNo
place_of desks t = record { 0 = place_in desks t }

-- the places of these threads
abbrev pub places_of : List DeskState → List ThreadNo → List ThreadNo
places_of desks threads = map (λ t. place_of desks t) threads

-- the number of the thread whose desk is at a place. It has no meaning if there is no such place
abbrev pub thread_at : List DeskState → ℕ → ThreadNo
thread_at [] i = record { 0 = 0 }
thread_at (p ∷ desks) zero = p.view.subject.thread
thread_at (p ∷ desks) (suc i) = thread_at desks i

-- the numbers of the threads at these places
abbrev pub threads_at : List DeskState → List ThreadNo → List ThreadNo
threads_at desks places = map (λ x. thread_at desks x.0) places

-- the numbers of the desks' threads, in the order of their places
abbrev pub threads_of : List DeskState → List ThreadNo
threads_of desks = map (λ p. p.view.subject.thread) desks

-- the desks are in the order of their threads' numbers, and no two are at threads of one number
abbrev pub AreInOrder : List DeskState → Type 0
AreInOrder desks = (i j : ℕ) → i < j → j < length desks → (thread_at desks i).0 < (thread_at desks j).0

-- The desk of the environment at place i. None of its stops is in force. Its thread has room for as many calls as the
-- environment has left there. At most `window` of its calls are out
pub record IsDesk (s : Environment) (i : ℕ) (p : DeskState) : Type 0 where
  pub env_is : p.env ≡ s.env
  pub about : p.view.subject.limits ≡ s.state.limits
  pub free : stops_by p.env p.view.mine ≡ false
  pub paid : s.state.limits.calls - spent_at s.state (record { 0 = i }) + calls_spent p.env p.view.mine ≤ s.state.limits.calls
  pub within : length p.view.posted ≤ s.state.limits.window

-- how many calls of the environment are out at the thread
abbrev pub out_of : Option DeskState → ℕ
out_of (Some p) = length p.view.posted
out_of None = 0

abbrev pub outstanding : Environment → ThreadNo → ℕ
outstanding s t = out_of (slice_get s.desks (place_in s.desks t))

-- as many calls are out as the window allows
abbrev pub is_full : Environment → ThreadNo → Bool
is_full s t = nat_le s.state.limits.window (outstanding s t)

-- what is told of a number without a desk: if it was a thread's once, the thread is not alive
abbrev pub map_error : Bool → TiError → TiError
map_error true InvalidThread = ThreadNotAlive
map_error _ e = e

-- the same of a refusal, at a thread of this number. The numbers below `known` were threads once
abbrev pub told : ℕ → ThreadNo → Option TiError → Option TiError
told known t None = None
told known t (Some e) = Some (map_error (nat_lt t.0 known) e)

-- why a call does not reach its thread: the environment refuses it by itself
abbrev pub thread_refusal : Environment → ThreadNo → Call → Option TiError
thread_refusal s t c = told s.state.known t (call_refusal s.state (place_of s.desks t) c)

-- what is true of an environment between calls
pub record IsWhole (s : Environment) : Type 0 where
  pub count : length s.state.spent ≡ length s.desks
  pub in_order : AreInOrder s.desks
  pub desks : (i : ℕ) (p : DeskState) → slice_get s.desks i ≡ Some p → IsDesk s i p

-- the desks are the environment's, in the order of their threads' numbers, under its limits, and have made no call
abbrev pub AreNewDesks : EnvNo → EnvValue → List DeskState → Type 0
AreNewDesks env state desks =
    AreInOrder desks × ((i : ℕ) (p : DeskState) → slice_get desks i ≡ Some p → (p.env ≡ env) × (p.view.subject.limits ≡ state.limits) × (p.view.mine ≡ []))

-- the cells of the threads, in the order of their places
abbrev pub cells_at : List DeskState → List TableId
cells_at desks = map (λ p. p.cell) desks

-- the capabilities that can be had
abbrev pub potential_caps : Caps
potential_caps = caps_with (record { bits = 1 }) (record { bits = 2 })

-- whether calls that these capabilities allow may suspend a thread, or pop a frame
abbrev pub may_change : Caps → Bool
may_change caps = has_all caps (needed_by Suspend) || has_all caps (needed_by Pop)
