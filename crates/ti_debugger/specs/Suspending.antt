-- How a thread is suspended for a session, and resumed.
use Rattle.std.specs.Prelude.{ℕ, ◌≡◌, ◌≤◌, ◌⊎◌, ⊤, true, false, is_some, List, [], ◌∷◌, Option, Some, slice_get, slice_set}
use Rattle.ti_agent.specs.Env.{Environment}
use Rattle.ti_jdwp.specs.declared.actions.Posted.{Posted}
use Rattle.ti_jdwp.specs.declared.actions.Posted.TheVariants as posted
use Rattle.ti_debugger.specs.declared.desk.Desk.{Desk}
use Rattle.ti_debugger.specs.declared.watched.Watched.{Watched}
use Rattle.ti_debugger.specs.Crowds.{watched_in}
use Rattle.ti_debugger.specs.Holding.{IsPostedAs, PostsAs, again, is_let_go, is_open}

-- calls are posted at threads that are watched and collected, and nothing else changes
pub record CallsThreads (old new : Desk) : Type 0 where
  pub rest : new ≡ record old { agent = new.agent; crowd = new.crowd; resumptions = new.resumptions }
  pub home : new.agent.home ≡ old.agent.home
  pub grows : old.resumptions ≤ new.resumptions

-- the thread with this number is another, and no other thread is
abbrev pub AtThread : ℕ → List Watched → List Watched → (Watched → Watched → Type 0) → Type 0
AtThread thread old new P =
    (place : ℕ) × (one : Watched) × (one' : Watched) × (slice_get old place ≡ Some one) × (one.thread.0 ≡ thread) × (new ≡ slice_set old place one') × P one one'

-- why a thread is suspended as a session is told: it has ended; the suspension that is to be undone serves again; or this is what the
-- service answered
abbrev pub IsAnsweredFor : Option Posted → Environment → Environment → Watched → Type 0
IsAnsweredFor p old new one =
    ((one.ended ≡ true) × (p ≡ Some posted.NotAlive) × (new ≡ old))
    ⊎ (((until : ℕ) × (is_some (again one.hold until) ≡ true) × (p ≡ Some posted.Suspended) × (new ≡ old))
    ⊎ PostsAs p old new one.thread)

abbrev pub IsSuspendedAs : Option Posted → Environment → Environment → Watched → Watched → Type 0
IsSuspendedAs p old new one one' = (one' ≡ record one { hold = one'.hold }) × IsPostedAs p one.hold one'.hold × IsAnsweredFor p old new one

-- A thread that is watched is suspended, and the session is told what came of it. Where none is, nothing changes.
abbrev pub Suspends : ℕ → Option Posted → Desk → Desk → Type 0
Suspends thread p old new =
    ((p ≡ Some posted.Unknown) × (watched_in thread old.crowd.list.items ≡ []) × (new ≡ old))
    ⊎ AtThread thread old.crowd.list.items new.crowd.list.items (IsSuspendedAs p old.agent.env new.agent.env)

-- what the agent has at the thread is undone, or will be
abbrev pub IsResumed : Watched → Watched → Type 0
IsResumed one one' = (one' ≡ record one { hold = one'.hold }) × (is_let_go one'.hold ≡ true)

-- A thread that is watched is resumed. Where none is, nothing changes.
abbrev pub Resumes : ℕ → Desk → Desk → Type 0
Resumes thread old new = ((watched_in thread old.crowd.list.items ≡ []) × (new ≡ old)) ⊎ AtThread thread old.crowd.list.items new.crowd.list.items IsResumed

-- A thread at which nothing is open stays as it is.
pub record IsSettled (one one' : Watched) : Type 0 where
  pub rest : one' ≡ record one { hold = one'.hold }
  pub closed : is_open one.hold ≡ false → one' ≡ one

abbrev pub AreSettled : List Watched → List Watched → Type 0
AreSettled [] [] = ⊤
AreSettled [] (one' ∷ new) = ⊥
AreSettled (one ∷ old) [] = ⊥
AreSettled (one ∷ old) (one' ∷ new) = IsSettled one one' × AreSettled old new

-- What threads answered is collected, and suspensions that are not wanted any more are undone. Each thread is still watched.
abbrev pub Settles : Desk → Desk → Type 0
Settles old new = AreSettled old.crowd.list.items new.crowd.list.items × CallsThreads old new
