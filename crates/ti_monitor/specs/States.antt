-- The states of threads, by JVM TI's bits.
use Rattle.std.specs.Prelude.{ℕ, Bool, not, bit_and, ◌==◌, if◌then◌else◌}

-- whether one of these bits is set
abbrev pub has : ℕ → ℕ → Bool
has bits mask = not (bit_and bits mask == 0)

-- TERMINATED, then IN_NATIVE, BLOCKED_ON_MONITOR_ENTER, PARKED, SLEEPING, WAITING_WITH_TIMEOUT, WAITING_INDEFINITELY, RUNNABLE
abbrev pub place_of : ℕ → ℕ
place_of bits =
    if has bits 0x2 then 8
    else if has bits 0x400000 then 2
    else if has bits 0x400 then 3
    else if has bits 0x200 then 7
    else if has bits 0x40 then 6
    else if has bits 0x20 then 5
    else if has bits 0x10 then 4
    else if has bits 0x4 then 1
    else 0

-- SUSPENDED
abbrev pub is_suspended : ℕ → Bool
is_suspended bits = has bits 0x100000
