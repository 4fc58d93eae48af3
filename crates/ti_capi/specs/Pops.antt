-- How many frames a thread has, and how many of them were popped, as C is told.
use Rattle.std.specs.Prelude.{ℕ, ◌≡◌, length, Option, Some, None}
use Rattle.ti_types.specs.TiError.{number_of}
use Rattle.ti_types.specs.declared.error.TiError.TheVariants.{NotRunning}
use Rattle.ti_thread.specs.Hosts.{with_popped}
use Rattle.ti_thread.specs.declared.any_thread.AnyThread.{AnyThread}
use Rattle.ti_thread.specs.declared.any_thread.AnyThread.TheVariants.{Fresh, Running, Safe, Ended}
use Rattle.ti_thread.specs.declared.host_thread.HostThread.{HostThread}
use Rattle.ti_capi.specs.declared.held.HeldThread.{HeldThread}
use Rattle.ti_capi.specs.Codes.{misused}
use Rattle.ti_capi.specs.Handles.{Handle, held_with, thread_in, with_held_thread}

-- A running thread's frames are counted. Of another thread nothing is written
abbrev pub CountOf : AnyThread → ℕ → ℕ → ℕ → Type 0
CountOf (Running r) n0 n1 code = (n1 ≡ length r.frames) × (code ≡ 0)
CountOf (Fresh s) n0 n1 code = (n1 ≡ n0) × (code ≡ number_of NotRunning)
CountOf (Safe s) n0 n1 code = (n1 ≡ n0) × (code ≡ number_of NotRunning)
CountOf (Ended s) n0 n1 code = (n1 ≡ n0) × (code ≡ number_of NotRunning)

abbrev pub CountTo : Option HostThread → ℕ → ℕ → ℕ → Type 0
CountTo (Some t) n0 n1 code = CountOf t.thread n0 n1 code
CountTo None n0 n1 code = (n1 ≡ n0) × (code ≡ misused)

abbrev pub CountBehind : Option HeldThread → Handle → Handle → ℕ → ℕ → ℕ → Type 0
CountBehind (Some h) old new n0 n1 code = (thread_in new ≡ Some h) × CountTo h.thread n0 n1 code
CountBehind None old new n0 n1 code = (new ≡ old) × (n1 ≡ n0) × (code ≡ misused)

-- The pops are told. From then on there are none, and nothing else of the box changes
abbrev pub NotesTo : Option HostThread → HeldThread → HeldThread → ℕ → ℕ → ℕ → Type 0
NotesTo (Some t) old new n0 n1 code = (new ≡ held_with old (with_popped t 0)) × (n1 ≡ t.pops.popped) × (code ≡ 0)
NotesTo None old new n0 n1 code = (new ≡ old) × (n1 ≡ n0) × (code ≡ misused)

abbrev pub NotesBehind : Option HeldThread → Option HeldThread → Handle → Handle → ℕ → ℕ → ℕ → Type 0
NotesBehind (Some h) (Some n) old new n0 n1 code = (new ≡ with_held_thread old n) × NotesTo h.thread h n n0 n1 code
NotesBehind (Some h) None old new n0 n1 code = ⊥
NotesBehind None n old new n0 n1 code = (new ≡ old) × (n1 ≡ n0) × (code ≡ misused)
