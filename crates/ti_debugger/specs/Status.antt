-- A thread's status on the wire, by the bits of JVM TI's GetThreadState.
use Rattle.std.specs.Prelude.{ℕ, ℤ, pos, Bool, true, false, not, bit_and, ◌==◌, if◌then◌else◌}
use Rattle.ti_debugger.specs.declared.watched.Life.{Life}
use Rattle.ti_debugger.specs.declared.watched.Life.TheVariants as life

-- the thread has started, and has not ended
abbrev pub is_alive : Life → Bool
is_alive life.New = false
is_alive life.Alive = true
is_alive life.Ended = false

-- whether one of these bits is set
abbrev pub has : ℕ → ℕ → Bool
has bits mask = not (bit_and bits mask == 0)

-- TERMINATED, SLEEPING, BLOCKED_ON_MONITOR_ENTER, WAITING
abbrev pub status_of : ℕ → ℤ
status_of bits =
    if has bits 0x2 then pos 0
    else if has bits 0x40 then pos 2
    else if has bits 0x400 then pos 3
    else if has bits 0x80 then pos 4
    else pos 1

-- TERMINATED
abbrev pub is_terminated : ℕ → Bool
is_terminated bits = has bits 0x2

-- SUSPENDED
abbrev pub is_suspended : ℕ → Bool
is_suspended bits = has bits 0x100000
