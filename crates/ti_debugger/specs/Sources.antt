-- The name of a source file.
use Rattle.std.specs.Prelude.{ℕ, ◌-◌, Bool, ◌==◌, List, length, drop, reverse}
use Rattle.std.specs.List.{position_or_len}

abbrev pub is_slash : ℕ → Bool
is_slash b = b == 47

-- the bytes behind the last slash, or all of them
abbrev pub file_in : List ℕ → List ℕ
file_in path = drop (length path - position_or_len is_slash (reverse path)) path
