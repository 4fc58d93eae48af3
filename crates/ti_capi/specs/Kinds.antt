-- The kinds of what a handle holds, by number.
use Rattle.std.specs.Prelude.{ℕ, ◌≡◌, ◌==◌, ◌||◌, Bool, false, Option, Some, None}
use Rattle.ti_capi.specs.declared.held.Held.{Held}
use Rattle.ti_capi.specs.declared.held.Held.TheVariants as held

abbrev pub kind_of : Held → ℕ
kind_of (held.Service m) = 1
kind_of (held.Thread t) = 2
kind_of (held.Env e) = 3
kind_of (held.Door d) = 4
kind_of (held.Watch w) = 5

abbrev pub is_kind : ℕ → Bool
is_kind n = n == 1 || n == 2 || n == 3 || n == 4 || n == 5

-- the number is that of what is held, or of no kind if nothing is
abbrev pub IsKindOf : ℕ → Option Held → Type 0
IsKindOf n (Some x) = n ≡ kind_of x
IsKindOf n None = is_kind n ≡ false
