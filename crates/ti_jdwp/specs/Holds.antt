-- How often the debugger suspended each thread, and by whose suspension the thread stands.
use Rattle.std.specs.Prelude.{◌≡◌, ◌≢◌, ℕ, ◌+◌, ◌-◌, ◌<◌, ◌==◌, ◌&&◌, Bool, true, false, nat_eq, nat_lt, List, length, Option, Some, None, if◌then◌else◌}
use Rattle.std.specs.Option.{ForSome}
use Rattle.std.specs.Map.{lookup, keys_of}
use Rattle.ti_jdwp.specs.declared.suspensions.Hold.{Hold}
use Rattle.ti_jdwp.specs.declared.suspensions.Holder.{Holder}
use Rattle.ti_jdwp.specs.declared.suspensions.Holder.TheVariants.{Debugger, Another}

-- what is kept of each thread that the debugger suspends
abbrev pub Holds : Type 0
Holds = List (ℕ × Hold)

abbrev pub hold_of : Holds → ℕ → Option Hold
hold_of s t = lookup (nat_eq t) s

-- how many threads the debugger suspends
abbrev pub held_of : Holds → ℕ
held_of s = length s

-- those threads, each once
abbrev pub held_threads : Holds → List ℕ
held_threads s = keys_of s

-- each of them has a count above 0
abbrev pub AreCounted : Holds → Type 0
AreCounted s = (t : ℕ) → ForSome (hold_of s t) (λ h. 0 < h.count)

abbrev pub is_debugger : Holder → Bool
is_debugger Debugger = true
is_debugger Another = false

abbrev pub count_in : Option Hold → ℕ
count_in None = 0
count_in (Some h) = h.count

abbrev pub is_own_in : Option Hold → Bool
is_own_in None = false
is_own_in (Some h) = is_debugger h.holder

-- how often the debugger suspended the thread, less its resumptions
abbrev pub count_of : Holds → ℕ → ℕ
count_of s t = count_in (hold_of s t)

-- whether the debugger suspends the thread, by a suspension of the service that is its own
abbrev pub is_own : Holds → ℕ → Bool
is_own s t = is_own_in (hold_of s t)

-- what is known of one thread stays
pub record IsKeptAt (old new : Holds) (t : ℕ) : Type 0 where
  pub count : count_of new t ≡ count_of old t
  pub own : is_own new t ≡ is_own old t

-- nothing changes at other threads
abbrev pub AreOthersKept : Holds → Holds → ℕ → Type 0
AreOthersKept old new t = (u : ℕ) → u ≢ t → IsKeptAt old new u

-- the debugger suspends no thread
abbrev pub AreAllFree : Holds → Type 0
AreAllFree s = (t : ℕ) → count_of s t ≡ 0

-- A thread's count is one more. At 0 it is told whose suspension of the service it is.
pub record Suspends (old : Holds) (t : ℕ) (holder : Holder) (new : Holds) : Type 0 where
  pub count : count_of new t ≡ count_of old t + 1
  pub own : is_own new t ≡ (if count_of old t == 0 then is_debugger holder else is_own old t)
  pub others : AreOthersKept old new t

-- A thread's count is one less, and never below 0. The service resumes the thread if the count comes to 0 and the suspension is
-- the debugger's own.
pub record Resumes (old : Holds) (t : ℕ) (told : Bool) (new : Holds) : Type 0 where
  pub resumes : told ≡ (is_own old t && (count_of old t == 1))
  pub count : count_of new t ≡ count_of old t - 1
  pub own : is_own new t ≡ (is_own old t && nat_lt 1 (count_of old t))
  pub others : AreOthersKept old new t

-- A thread that the debugger suspends is suspended no more. The service resumes it if the suspension is the debugger's own.
pub record LetsGo (old : Holds) (t : ℕ) (told : Bool) (new : Holds) : Type 0 where
  pub held : 0 < count_of old t
  pub fewer : held_of new + 1 ≡ held_of old
  pub resumes : told ≡ is_own old t
  pub count : count_of new t ≡ 0
  pub own : is_own new t ≡ false
  pub others : AreOthersKept old new t
