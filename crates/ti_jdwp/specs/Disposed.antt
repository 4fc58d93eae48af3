-- The objects that a debugger does not need any more.
use Rattle.std.specs.Prelude.{ℕ, ◌+◌, ◌*◌, ◌/◌, List, length, Option, Some, None, nat_lt, if◌then◌else◌}
use Rattle.ti_jdwp.specs.Fields.{int_at, long_at}

-- the object at a place, with how often the debugger was told it: twelve bytes for each
abbrev pub disposed_at : List ℕ → ℕ → Option (ℕ × ℕ)
disposed_at bytes place = if nat_lt place (length bytes / 12) then Some (long_at (12 * place) bytes, int_at (12 * place + 8) bytes) else None
