-- A thread's own calls that lead to another state, as C makes them.
use Rattle.std.specs.Prelude.{ℕ, ◌≡◌, Option, Some, None}
use Rattle.ti_types.specs.declared.state.Kind.{Kind}
use Rattle.ti_thread.specs.Hosts.{TakesTurn}
use Rattle.ti_thread.specs.declared.host_thread.HostThread.{HostThread}
use Rattle.ti_thread.specs.declared.turn.Turn.TheVariants as turn
use Rattle.ti_capi.specs.Codes.{misused}
use Rattle.ti_capi.specs.Handles.{Handle, thread_in}
use Rattle.ti_capi.specs.Threads.{Changes}
use Rattle.ti_capi.specs.declared.held.HeldThread.{HeldThread}

-- the code of a block for no reason: 103, if there is a thread
abbrev pub code_unknown : Option HostThread → ℕ
code_unknown (Some t) = 103
code_unknown None = misused

abbrev pub UnknownBehind : Option HeldThread → Handle → Handle → ℕ → Type 0
UnknownBehind (Some h) old new code = (thread_in new ≡ Some h) × (code ≡ code_unknown h.thread)
UnknownBehind None old new code = (new ≡ old) × (code ≡ misused)

-- a thread blocks for a reason, if there is such a reason
abbrev pub Blocks : Option Kind → Handle → Handle → ℕ → Type 0
Blocks (Some k) old new code = Changes (TakesTurn (turn.Block k)) old new code
Blocks None old new code = UnknownBehind (thread_in old) old new code
