-- Whole runs of calls of the suspensions, and what they leave.
use Rattle.std.specs.Prelude.{◌≡◌, ℕ, ◌+◌, ◌-◌, ◌==◌, ◌&&◌, Bool, false, List, [], ◌∷◌, fold, count_by, if◌then◌else◌}
use Rattle.ti_jdwp.specs.declared.suspensions.Holder.{Holder}
use Rattle.ti_jdwp.specs.Holds.{Holds, count_of, is_own, is_debugger, Suspends, Resumes, LetsGo, AreAllFree}

-- A call that succeeded, with what it told. One that fails changes nothing.
pub data Call : Type 0 where
  Suspended : ℕ → Holder → Call
  Resumed : ℕ → Bool → Call
  LetGo : ℕ → Bool → Call

-- what the contracts of the calls say
abbrev pub Step : Holds → Call → Holds → Type 0
Step old (Suspended t holder) new = Suspends old t holder new
Step old (Resumed t told) new = Resumes old t told new
Step old (LetGo t told) new = LetsGo old t told new

-- these calls, in this order
abbrev pub Runs : Holds → List Call → Holds → Type 0
Runs old [] new = old ≡ new
Runs old (c ∷ calls) new = (next : Holds) × Step old c next × Runs next calls new

-- the count of a thread after one more call
abbrev pub counted : ℕ → ℕ → Call → ℕ
counted t n (Suspended u holder) = if u == t then n + 1 else n
counted t n (Resumed u told) = if u == t then n - 1 else n
counted t n (LetGo u told) = if u == t then 0 else n

-- whether a call tells the service to resume the thread
abbrev pub resumes : ℕ → Call → Bool
resumes t (Suspended u holder) = false
resumes t (Resumed u told) = (u == t) && told
resumes t (LetGo u told) = (u == t) && told

-- whether a call, at this count of the thread, comes with a suspension of the service that is the debugger's own
abbrev pub suspends : ℕ → ℕ → Call → Bool
suspends t n (Suspended u holder) = (u == t) && ((n == 0) && is_debugger holder)
suspends t n (Resumed u told) = false
suspends t n (LetGo u told) = false

-- how often the service suspended the thread for the debugger, from this count on
abbrev pub suspensions_from : ℕ → ℕ → List Call → ℕ
suspensions_from t n [] = 0
suspensions_from t n (c ∷ calls) = (if suspends t n c then 1 else 0) + suspensions_from t (counted t n c) calls

-- A run from the beginning: the count of each thread is its suspensions less its resumptions, never below 0. The service is
-- told to resume the thread as often as it suspended it for the debugger, but for the suspension that still is in force.
-- Where the debugger suspends no thread any more, none is.
pub record IsBalanced (calls : List Call) (end : Holds) (t : ℕ) : Type 0 where
  pub count : count_of end t ≡ fold (counted t) 0 calls
  pub balance : suspensions_from t 0 calls ≡ count_by (resumes t) calls + (if is_own end t then 1 else 0)
  pub free : AreAllFree end → suspensions_from t 0 calls ≡ count_by (resumes t) calls

abbrev pub AreBalanced : Type 0
AreBalanced = (calls : List Call) (end : Holds) (t : ℕ) → Runs [] calls end → IsBalanced calls end t
