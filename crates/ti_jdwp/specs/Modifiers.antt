-- The modifiers of an event request.
use Rattle.std.specs.Prelude.{ℕ, suc, zero, pos, ◌+◌, ◌^◌, Bool, false, ◌||◌, ◌&&◌, List, [], ◌∷◌, length, drop, slice_index, Result, Ok, Err, nat_le, nat_lt, ◌==◌, if◌then◌else◌}
use Rattle.ti_jdwp.specs.declared.error.JdwpError.{JdwpError}
use Rattle.ti_jdwp.specs.declared.error.JdwpError.TheVariants as error
use Rattle.ti_jdwp.specs.declared.modifiers.Modifier.{Modifier}
use Rattle.ti_jdwp.specs.declared.modifiers.Modifier.TheVariants as modifier
use Rattle.ti_jdwp.specs.Fields.{◌>>=◌, int_at, long_at}

abbrev pub within : ℕ → List ℕ → Result ℕ JdwpError
within len rest = if nat_le len (length rest) then Ok len else Err error.IllegalArgument

-- a length of four bytes, not negative, and that many bytes
abbrev pub text_len : List ℕ → Result ℕ JdwpError
text_len rest = if nat_le 4 (length rest) && nat_lt (int_at 0 rest) (2 ^ 31) then within (4 + int_at 0 rest) rest else Err error.IllegalArgument

abbrev pub is_one_of : List ℕ → ℕ → Bool
is_one_of [] n = false
is_one_of (m ∷ ms) n = (n == m) || is_one_of ms n

-- JDWP, EventRequest.Set: how long the fields of each modifier are
abbrev pub fields_len : ℕ → List ℕ → Result ℕ JdwpError
fields_len number rest =
    if is_one_of (1 ∷ 2 ∷ []) number then within 4 rest
    else (if is_one_of (3 ∷ 4 ∷ 11 ∷ []) number then within 8 rest
    else (if is_one_of (5 ∷ 6 ∷ 12 ∷ []) number then text_len rest
    else (if number == 7 then within 25 rest
    else (if number == 8 then within 10 rest
    else (if is_one_of (9 ∷ 10 ∷ []) number then within 16 rest
    else (if number == 13 then within 0 rest
    else Err error.IllegalArgument))))))

abbrev pub counted : ℕ → Result Modifier JdwpError
counted n = if nat_le 1 n && nat_lt n (2 ^ 31) then Ok (modifier.Count (pos n)) else Err error.IllegalArgument

-- what a modifier says whose fields begin the rest, and stand from a place to another
abbrev pub made : ℕ → List ℕ → ℕ → ℕ → Result Modifier JdwpError
made number rest start end =
    if number == 1 then counted (int_at 0 rest)
    else (if number == 3 then Ok (modifier.ThreadOnly (long_at 0 rest))
    else (if number == 4 then Ok (modifier.ClassOnly (long_at 0 rest))
    else (if number == 5 then Ok (modifier.ClassMatch (record { start = start + 4; end = end }))
    else (if number == 6 then Ok (modifier.ClassExclude (record { start = start + 4; end = end }))
    else (if number == 7 then Ok (modifier.LocationOnly (long_at 1 rest) (long_at 9 rest) (long_at 17 rest))
    else (if number == 10 then Ok (modifier.Step (long_at 0 rest) (int_at 8 rest) (int_at 12 rest))
    else Ok modifier.Other))))))

-- the modifier with this number whose fields begin the rest, and where the next one begins
abbrev pub modifier_in : ℕ → List ℕ → ℕ → Result (Modifier × ℕ) JdwpError
modifier_in number rest start = fields_len number rest >>= λ len. made number rest start (start + len) >>= λ m. Ok (m, start + len)

abbrev pub modifier_at : ℕ → List ℕ → Result (Modifier × ℕ) JdwpError
modifier_at at bytes = if nat_lt at (length bytes) then modifier_in (slice_index bytes at) (drop (at + 1) bytes) (at + 1) else Err error.IllegalArgument

-- where the data goes on behind this many modifiers
unfoldable pub modifiers_end : ℕ → ℕ → List ℕ → Result ℕ JdwpError
modifiers_end zero at bytes = Ok at
modifiers_end (suc count) at bytes = modifier_at at bytes >>= λ m. modifiers_end count m.1 bytes
