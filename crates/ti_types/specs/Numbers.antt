-- Numbers that may be negative.
use Rattle.std.specs.Prelude.{ℕ, Bool, true, false, ℤ, pos, negsuc}

-- the number, or 0 for a negative one
abbrev pub or_zero : ℤ → ℕ
or_zero (pos n) = n
or_zero (negsuc n) = 0

abbrev pub is_not_negative : ℤ → Bool
is_not_negative (pos n) = true
is_not_negative (negsuc n) = false
