-- The threads that are watched.
use Rattle.std.specs.Prelude.{ℕ, ◌≡◌, ◌==◌, Bool, true, not, List, [], ◌∷◌, Option, Some, None, map, filter, nat_lt, slice_get, All}
use Rattle.std.specs.List.{list_any}
use Rattle.ti_debugger.specs.declared.watched.Watched.{Watched}
use Rattle.ti_debugger.specs.Status.{is_alive}
use Rattle.ti_debugger.specs.Holding.{is_awaited, is_open, is_let_go}

abbrev pub number_of : Option Watched → Option ℕ
number_of None = None
number_of (Some w) = Some w.thread.0

-- the number of the thread at a place
abbrev pub number_at : List Watched → ℕ → Option ℕ
number_at list place = number_of (slice_get list place)

-- the threads with this number
abbrev pub watched_in : ℕ → List Watched → List Watched
watched_in thread list = filter (λ (w : Watched). w.thread.0 == thread) list

-- the numbers of the threads that are there
abbrev pub alive_in : List Watched → List ℕ
alive_in list = map (λ (w : Watched). w.thread.0) (filter (λ (w : Watched). not w.ended) list)

-- the numbers of the threads that have started and not ended
abbrev pub live_in : List Watched → List ℕ
live_in list = map (λ (w : Watched). w.thread.0) (filter (λ (w : Watched). is_alive w.life) list)

-- a thread with a higher number is watched
abbrev pub any_later : ℕ → List Watched → Bool
any_later thread list = list_any (λ (w : Watched). nat_lt thread w.thread.0) list

-- a thread is not watched any more: one with a higher number is
abbrev pub IsGone : List Watched → ℕ → Type 0
IsGone list thread = (watched_in thread list ≡ []) × (any_later thread list ≡ true)

abbrev pub first : List ℕ → Option ℕ
first [] = None
first (n ∷ numbers) = Some n

-- the debugger waits for some suspension
abbrev pub any_awaited : List Watched → ℕ → Bool
any_awaited list now = list_any (λ (w : Watched). is_awaited w.hold now) list

-- some suspension is out, or is to be undone
abbrev pub any_open : List Watched → Bool
any_open list = list_any (λ (w : Watched). is_open w.hold) list

-- Each suspension of the agent's is undone, or will be.
abbrev pub NoneHeld : List Watched → Type 0
NoneHeld list = All (λ (w : Watched). is_let_go w.hold ≡ true) list
