-- A thread's own calls, as C makes them.
use Rattle.std.specs.Prelude.{ℕ, ◌≡◌, ◌⊎◌, Bool, true, false, Option, Some, None}
use Rattle.ti_types.specs.TiError.{number_of}
use Rattle.ti_types.specs.declared.error.TiError.TheVariants.{NotRunning}
use Rattle.ti_types.specs.declared.numbers.MethodNo.{MethodNo}
use Rattle.ti_thread.specs.AnyThread.{is_running, number_in}
use Rattle.ti_thread.specs.Changes.{LooksFor}
use Rattle.ti_thread.specs.Hosts.{with_thread}
use Rattle.ti_thread.specs.declared.host_thread.HostThread.{HostThread}
use Rattle.ti_thread.specs.declared.any_thread.TurnOutcome.{TurnOutcome}
use Rattle.ti_capi.specs.declared.held.HeldThread.{HeldThread}
use Rattle.ti_capi.specs.Codes.{code_told, misused}
use Rattle.ti_capi.specs.Handles.{Handle, held_with, thread_in, with_held_thread}

abbrev pub method_no : ℕ → MethodNo
method_no n = record { 0 = n }

-- A call of the thread of a box comes to what this relation says, and to its code. Nothing else of the box changes
pub record ChangesFor (t n : HostThread) (R : HostThread → HostThread → TurnOutcome → Type 0) (old new : HeldThread) (code : ℕ) : Type 0 where
  pub told : TurnOutcome
  pub says : R t n told
  pub code_is : code ≡ code_told told
  pub box : new ≡ held_with old n

abbrev pub ChangesTo : Option HostThread → Option HostThread → (HostThread → HostThread → TurnOutcome → Type 0) → HeldThread → HeldThread → ℕ → Type 0
ChangesTo (Some t) (Some n) R old new code = ChangesFor t n R old new code
ChangesTo (Some t) None R old new code = ⊥
ChangesTo None n R old new code = (new ≡ old) × (code ≡ misused)

abbrev pub ChangesIn : (HostThread → HostThread → TurnOutcome → Type 0) → HeldThread → HeldThread → ℕ → Type 0
ChangesIn R old new code = ChangesTo old.thread new.thread R old new code

-- the same behind a handle: if it is empty or of another kind, nothing changes
abbrev pub ChangesBehind : Option HeldThread → Option HeldThread → (HostThread → HostThread → TurnOutcome → Type 0) → Handle → Handle → ℕ → Type 0
ChangesBehind (Some h) (Some n) R old new code = (new ≡ with_held_thread old n) × ChangesIn R h n code
ChangesBehind (Some h) None R old new code = ⊥
ChangesBehind None n R old new code = (new ≡ old) × (code ≡ misused)

abbrev pub Changes : (HostThread → HostThread → TurnOutcome → Type 0) → Handle → Handle → ℕ → Type 0
Changes R old new code = ChangesBehind (thread_in old) (thread_in new) R old new code

-- one look at the word of the thread of a box
abbrev pub LooksTo : Option HostThread → Option HostThread → HeldThread → HeldThread → Bool → Type 0
LooksTo (Some t) (Some n) old new clear = (new ≡ held_with old n) × (n ≡ with_thread t n.thread) × LooksFor t.thread n.thread clear
LooksTo (Some t) None old new clear = ⊥
LooksTo None n old new clear = (new ≡ old) × (clear ≡ true)

abbrev pub LooksBehind : Option HeldThread → Option HeldThread → Handle → Handle → Bool → Type 0
LooksBehind (Some h) (Some n) old new clear = (new ≡ with_held_thread old n) × LooksTo h.thread n.thread h n clear
LooksBehind (Some h) None old new clear = ⊥
LooksBehind None n old new clear = (new ≡ old) × (clear ≡ true)

-- the number of the thread of a box
abbrev pub NumberTo : Option HostThread → ℕ → ℕ → ℕ → Type 0
NumberTo (Some t) n0 n1 code = (n1 ≡ (number_in t.thread).0) × (code ≡ 0)
NumberTo None n0 n1 code = (n1 ≡ n0) × (code ≡ misused)

abbrev pub NumberBehind : Option HeldThread → Handle → Handle → ℕ → ℕ → ℕ → Type 0
NumberBehind (Some h) old new n0 n1 code = (thread_in new ≡ Some h) × NumberTo h.thread n0 n1 code
NumberBehind None old new n0 n1 code = (new ≡ old) × (n1 ≡ n0) × (code ≡ misused)

-- the word at which compiled code looks: of a thread that runs
abbrev pub WordTo : Option HostThread → ℕ → (unwritten : Type 0) → ℕ → Type 0
WordTo (Some t) mask unwritten code =
    ((is_running t.thread ≡ true) × (mask ≡ 1) × (code ≡ 0)) ⊎ ((is_running t.thread ≡ false) × unwritten × (code ≡ number_of NotRunning))
WordTo None mask unwritten code = unwritten × (code ≡ misused)

abbrev pub WordBehind : Option HeldThread → ℕ → (unwritten : Type 0) → Handle → Handle → ℕ → Type 0
WordBehind (Some h) mask unwritten old new code = (thread_in new ≡ Some h) × WordTo h.thread mask unwritten code
WordBehind None mask unwritten old new code = (new ≡ old) × unwritten × (code ≡ misused)
