-- Watches, as C makes and asks them.
use Rattle.std.specs.Prelude.{ℕ, ◌≡◌, ◌⊎◌, ⊤, Bool, List, [], Option, Some, None, Result, Ok, Err}
use Rattle.ti_types.specs.TiError.{number_of}
use Rattle.ti_types.specs.declared.error.TiError.{TiError}
use Rattle.ti_types.specs.declared.error.TiError.TheVariants.{Busy, OutOfMemory}
use Rattle.ti_types.specs.declared.numbers.ThreadNo.{ThreadNo}
use Rattle.ti_service.specs.Service.{Looks, Member}
use Rattle.ti_thread.specs.AnyThread.{number_in}
use Rattle.ti_thread.specs.Changes.{Watches}
use Rattle.ti_thread.specs.Hosts.{with_thread}
use Rattle.ti_thread.specs.declared.host_thread.HostThread.{HostThread}
use Rattle.ti_wanted.specs.Watching.{Gains, IsAmong}
use Rattle.ti_capi.specs.declared.held.Held.{Held}
use Rattle.ti_capi.specs.declared.held.HeldThread.{HeldThread}
use Rattle.ti_capi.specs.Codes.{code_done, misused, none_told}
use Rattle.ti_capi.specs.Handles.{Handle, held_with, service_in, thread_in, watch_in, watch_of, with_held_thread, with_service, with_watch}
use Rattle.ti_capi.specs.Services.{Fills}

-- a watch of no thread is behind the handle, or there was no memory for it. The other handle has the watch that it had, if any
abbrev pub OpensWatch : Handle → Handle → Handle → Handle → ℕ → Type 0
OpensWatch beside0 beside1 old new code =
    (watch_in beside1 ≡ watch_in beside0) × Fills ⊤ (λ held. watch_of held ≡ Some []) (λ e. e ≡ OutOfMemory) old new code

-- a watch is closed: its handle is empty
abbrev pub ClosesBehind : Option (List ThreadNo) → Handle → Handle → ℕ → Type 0
ClosesBehind (Some w) old new code = (new.kind ≡ 0) × (code ≡ 0)
ClosesBehind None old new code = (new ≡ old) × (code ≡ misused)

abbrev pub ClosesWatch : Handle → Handle → ℕ → Type 0
ClosesWatch old new code = ClosesBehind (watch_in old) old new code

-- what is told of the thread of a box is another watch, or nobody
abbrev pub TellsAnother : HostThread → HostThread → ℕ → Type 0
TellsAnother t n code = (n ≡ with_thread t n.thread) × (called : Result Bool TiError) × Watches t.thread n.thread called × (code ≡ code_done called)

abbrev pub TellsNobodyTo : Option HostThread → Option HostThread → HeldThread → HeldThread → ℕ → Type 0
TellsNobodyTo (Some t) (Some n) old new code = (new ≡ held_with old n) × TellsAnother t n code
TellsNobodyTo (Some t) None old new code = ⊥
TellsNobodyTo None n old new code = (new ≡ old) × (code ≡ misused)

abbrev pub TellsNobodyIn : HeldThread → HeldThread → ℕ → Type 0
TellsNobodyIn old new code = TellsNobodyTo old.thread new.thread old new code

abbrev pub TellsNobodyBehind : Option HeldThread → Option HeldThread → Handle → Handle → ℕ → Type 0
TellsNobodyBehind (Some h) (Some n) old new code = (new ≡ with_held_thread old n) × TellsNobodyIn h n code
TellsNobodyBehind (Some h) None old new code = ⊥
TellsNobodyBehind None n old new code = (new ≡ old) × (code ≡ misused)

abbrev pub TellsNobody : Handle → Handle → ℕ → Type 0
TellsNobody old new code = TellsNobodyBehind (thread_in old) (thread_in new) old new code

-- The watch has a place for the thread of a box, and is told of it unless that is refused. Or there was no memory for the place, and
-- nothing has changed
abbrev pub WatchesTo : Option HostThread → Option HostThread → List ThreadNo → List ThreadNo → HeldThread → HeldThread → ℕ → Type 0
WatchesTo (Some t) (Some n) w v old new code =
    (new ≡ held_with old n) × ((Gains (number_in t.thread) w v × TellsAnother t n code) ⊎ ((n ≡ t) × (v ≡ w) × (code ≡ number_of OutOfMemory)))
WatchesTo (Some t) None w v old new code = ⊥
WatchesTo None n w v old new code = (new ≡ old) × (v ≡ w) × (code ≡ misused)

abbrev pub WatchesIn : HeldThread → HeldThread → List ThreadNo → List ThreadNo → ℕ → Type 0
WatchesIn old new w v code = WatchesTo old.thread new.thread w v old new code

-- the same behind handles
abbrev pub WatchesBehind : Option HeldThread → Option HeldThread → Option (List ThreadNo) → Option (List ThreadNo) → Handle → Handle → Handle → Handle → ℕ → Type 0
WatchesBehind (Some h) (Some n) (Some w) (Some v) t0 t1 w0 w1 code = (t1 ≡ with_held_thread t0 n) × (w1 ≡ with_watch w0 v) × WatchesIn h n w v code
WatchesBehind (Some h) (Some n) (Some w) None t0 t1 w0 w1 code = ⊥
WatchesBehind (Some h) n None v t0 t1 w0 w1 code = (n ≡ Some h) × (w1 ≡ w0) × (code ≡ misused)
WatchesBehind (Some h) None (Some w) v t0 t1 w0 w1 code = ⊥
WatchesBehind None n w v t0 t1 w0 w1 code = (t1 ≡ t0) × (w1 ≡ w0) × (code ≡ misused)

abbrev pub WatchesThread : Handle → Handle → Handle → Handle → ℕ → Type 0
WatchesThread t0 t1 w0 w1 code = WatchesBehind (thread_in t0) (thread_in t1) (watch_in w0) (watch_in w1) t0 t1 w0 w1 code

-- the number under which a watch tells that somebody asks for a stop, or no longer does: no thread has it
abbrev pub all_threads : ThreadNo
all_threads = record { 0 = 4294967295 }

-- The watch has a place for stops, and is told of those of a service unless that is in use. Or there was no memory for the place, and
-- nothing has changed
abbrev pub StopsWatched : Member → Member → List ThreadNo → List ThreadNo → ℕ → Type 0
StopsWatched m n w v code =
    (Gains all_threads w v × (((code ≡ 0) × (n.cell ≡ m.cell) × Looks m.view n.view) ⊎ ((code ≡ number_of Busy) × (n ≡ m))))
    ⊎ ((n ≡ m) × (v ≡ w) × (code ≡ number_of OutOfMemory))

abbrev pub StopsWatchedBehind : Option Member → Option Member → Option (List ThreadNo) → Option (List ThreadNo) → Handle → Handle → Handle → Handle → ℕ → Type 0
StopsWatchedBehind (Some m) (Some n) (Some w) (Some v) s0 s1 w0 w1 code = (s1 ≡ with_service s0 n) × (w1 ≡ with_watch w0 v) × StopsWatched m n w v code
StopsWatchedBehind (Some m) (Some n) (Some w) None s0 s1 w0 w1 code = ⊥
StopsWatchedBehind (Some m) n None v s0 s1 w0 w1 code = (n ≡ Some m) × (w1 ≡ w0) × (code ≡ misused)
StopsWatchedBehind (Some m) None (Some w) v s0 s1 w0 w1 code = ⊥
StopsWatchedBehind None n w v s0 s1 w0 w1 code = (s1 ≡ s0) × (w1 ≡ w0) × (code ≡ misused)

abbrev pub WatchesStops : Handle → Handle → Handle → Handle → ℕ → Type 0
WatchesStops s0 s1 w0 w1 code = StopsWatchedBehind (service_in s0) (service_in s1) (watch_in w0) (watch_in w1) s0 s1 w0 w1 code

-- a thread that is watched is told of, or there is none and nothing is written
abbrev pub TellsNextBehind : Option (List ThreadNo) → Option (List ThreadNo) → Handle → Handle → ℕ → ℕ → ℕ → Type 0
TellsNextBehind (Some w) v old new n0 n1 code = (v ≡ Some w) × (((code ≡ 0) × IsAmong w (record { 0 = n1 })) ⊎ ((code ≡ none_told) × (n1 ≡ n0)))
TellsNextBehind None v old new n0 n1 code = (new ≡ old) × (n1 ≡ n0) × (code ≡ misused)

abbrev pub TellsNext : Handle → Handle → ℕ → ℕ → ℕ → Type 0
TellsNext old new n0 n1 code = TellsNextBehind (watch_in old) (watch_in new) old new n0 n1 code

-- the address of a word of a watch is written. No contract says what is found there
abbrev pub NewsBehind : Option (List ThreadNo) → Option (List ThreadNo) → (unwritten : Type 0) → Handle → Handle → ℕ → Type 0
NewsBehind (Some w) v unwritten old new code = (v ≡ Some w) × (code ≡ 0)
NewsBehind None v unwritten old new code = (new ≡ old) × unwritten × (code ≡ misused)
