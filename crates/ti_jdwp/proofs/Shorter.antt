-- An input stays within its bound when its front is dropped.
use Rattle.std.proofs.Common.{ℕ, ◌≤◌, List, length, drop, arith}
use Rattle.std.proofs.lemmas.List.{length-drop}

pub shorter : (count : ℕ) (input : List ℕ) (bound : ℕ) → length input ≤ bound → length (drop count input) ≤ bound
shorter count input bound h = omega (arith, length-drop count input, h)
