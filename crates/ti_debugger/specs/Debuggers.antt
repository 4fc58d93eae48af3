-- An agent for debuggers, as contracts see it.
use Rattle.std.specs.Prelude.{ℕ, ◌≡◌, ◌≤◌, Bool, List, Option}
use Rattle.ti_jdwp.specs.Talks.{Talk}
use Rattle.ti_service.specs.Memberships.{AgentValue}
use Rattle.ti_debugger.specs.declared.about.About.{About}
use Rattle.ti_debugger.specs.declared.asked.Asked.{Asked}
use Rattle.ti_debugger.specs.declared.due.Due.{Due}
use Rattle.ti_debugger.specs.declared.objects.Kept.{Kept}
use Rattle.ti_debugger.specs.Kept.{Names}
use Rattle.ti_debugger.specs.declared.watched.Watched.{Watched}

-- the session of the debugger that is connected and what it waits for, the threads that are watched, the environment, what is told
-- of the runtime, the class that is told next, how many times a thread was resumed, whether the runtime waits for its first debugger
-- and tells variables, how far a question is, the texts and tables that are kept, and how many numbers of those were given
pub record DebuggerValue : Type 0 where
  pub session : Option Talk
  pub due : Option Due
  pub watched : List Watched
  pub agent : AgentValue
  pub about : About
  pub next_class : ℕ
  pub resumptions : ℕ
  pub starts : Bool
  pub tells : Bool
  pub asked : Asked
  pub objects : List Kept
  pub numbers : ℕ

-- Threads are suspended, asked and resumed. No number names another text or table than before.
pub record Works (old new : DebuggerValue) : Type 0 where
  pub classes : new.next_class ≡ old.next_class
  pub resumptions : old.resumptions ≤ new.resumptions
  pub about : new.about ≡ old.about
  pub starts : new.starts ≡ old.starts
  pub tells : new.tells ≡ old.tells
  pub numbers : new.numbers ≡ old.numbers
  pub same : Names old.objects new.objects
