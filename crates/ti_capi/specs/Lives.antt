-- Starts and ends of threads, which their service notes.
use Rattle.std.specs.Prelude.{ℕ, ◌≡◌, ◌⊎◌, Option, Some, None}
use Rattle.ti_types.specs.declared.error.TiError.TheVariants.{Busy, NotNew, NotRunning}
use Rattle.ti_service.specs.Service.{Member}
use Rattle.ti_service.specs.Starting.{DoesNotEnd, DoesNotStart, EndsThread, StartsThread}
use Rattle.ti_thread.specs.Hosts.{pops_after, pops_before}
use Rattle.ti_thread.specs.declared.any_thread.AnyThread.{AnyThread}
use Rattle.ti_thread.specs.declared.any_thread.AnyThread.TheVariants.{Fresh, Running, Safe, Ended}
use Rattle.ti_thread.specs.declared.any_thread.TurnOutcome.{TurnOutcome}
use Rattle.ti_thread.specs.declared.any_thread.TurnOutcome.TheVariants.{Done, Refused}
use Rattle.ti_thread.specs.declared.host_thread.HostThread.{HostThread}
use Rattle.ti_capi.specs.declared.held.HeldThread.{HeldThread}
use Rattle.ti_capi.specs.declared.thread_lives.Noted.{Noted}
use Rattle.ti_capi.specs.declared.thread_lives.Noted.TheVariants as noted
use Rattle.ti_capi.specs.Codes.{code_told, misused}
use Rattle.ti_capi.specs.Handles.{Handle, thread_in, with_held_thread}

-- A thread that has not started starts, and its service notes it by the same hold (`ti_service`, `start_thread_now`). Or it stays as it
-- is. Any other thread is refused
abbrev pub Starts : AnyThread → AnyThread → Member → Member → TurnOutcome → Type 0
Starts (Fresh f) (Running r) s n Done = (n.cell ≡ s.cell) × StartsThread s.view n.view f r
Starts (Fresh f) (Fresh b) s n (Refused e) = ((n.cell ≡ s.cell) × DoesNotStart s.view n.view f b e) ⊎ ((e ≡ Busy) × (b ≡ f) × (n ≡ s))
Starts (Fresh f) _ s n told = ⊥
Starts (Running r) t s n told = (t ≡ Running r) × (n ≡ s) × (told ≡ Refused NotNew)
Starts (Safe r) t s n told = (t ≡ Safe r) × (n ≡ s) × (told ≡ Refused NotNew)
Starts (Ended r) t s n told = (t ≡ Ended r) × (n ≡ s) × (told ≡ Refused NotNew)

-- a thread that runs ends, likewise (`ti_service`, `end_thread_now`)
abbrev pub Ends : AnyThread → AnyThread → Member → Member → TurnOutcome → Type 0
Ends (Running r) (Ended d) s n Done = (n.cell ≡ s.cell) × EndsThread s.view n.view r d
Ends (Running r) (Running b) s n (Refused e) = (b ≡ r) × (((n.cell ≡ s.cell) × DoesNotEnd s.view n.view r.view.subject.thread e) ⊎ ((e ≡ Busy) × (n ≡ s)))
Ends (Running r) _ s n told = ⊥
Ends (Fresh r) t s n told = (t ≡ Fresh r) × (n ≡ s) × (told ≡ Refused NotRunning)
Ends (Safe r) t s n told = (t ≡ Safe r) × (n ≡ s) × (told ≡ Refused NotRunning)
Ends (Ended r) t s n told = (t ≡ Ended r) × (n ≡ s) × (told ≡ Refused NotRunning)

abbrev pub Does : Noted → AnyThread → AnyThread → Member → Member → TurnOutcome → Type 0
Does noted.Start = Starts
Does noted.End = Ends

-- The thread of a box does it, and comes to its code. The frames that it lost are counted as popped. Nothing else of the box changes
pub record NotesFor (what : Noted) (t n : HostThread) (old new : HeldThread) (code : ℕ) : Type 0 where
  pub told : TurnOutcome
  pub does : Does what t.thread n.thread old.service new.service told
  pub code_is : code ≡ code_told told
  pub pops : n.pops ≡ pops_after (pops_before t) n.thread
  pub box : new ≡ record { service = new.service; thread = Some n; frames = old.frames }

abbrev pub NotesTo : Option HostThread → Option HostThread → Noted → HeldThread → HeldThread → ℕ → Type 0
NotesTo (Some t) (Some n) what old new code = NotesFor what t n old new code
NotesTo (Some t) None what old new code = ⊥
NotesTo None n what old new code = (new ≡ old) × (code ≡ misused)

abbrev pub NotesIn : Noted → HeldThread → HeldThread → ℕ → Type 0
NotesIn what old new code = NotesTo old.thread new.thread what old new code

-- the same behind a handle: if it is empty or of another kind, nothing changes
abbrev pub NotesBehind : Option HeldThread → Option HeldThread → Noted → Handle → Handle → ℕ → Type 0
NotesBehind (Some h) (Some n) what old new code = (new ≡ with_held_thread old n) × NotesIn what h n code
NotesBehind (Some h) None what old new code = ⊥
NotesBehind None n what old new code = (new ≡ old) × (code ≡ misused)

abbrev pub Notes : Noted → Handle → Handle → ℕ → Type 0
Notes what old new code = NotesBehind (thread_in old) (thread_in new) what old new code
