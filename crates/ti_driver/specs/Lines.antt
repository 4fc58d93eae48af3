-- The room that the lines of outcomes need.
use Rattle.std.specs.Prelude.{ℕ, ◌+◌, ◌≤◌, List, [], ◌∷◌, length, Option, ⊤}
use Rattle.ti_types.specs.declared.event.Outcome.{Outcome}
use Rattle.ti_script.specs.Texts.{line_text}

-- no line of the outcomes, which are numbered from this one on, is longer than this
abbrev pub AreWithin : ℕ → List (List ℕ) → ℕ → List (Option Outcome) → Type 0
AreWithin most methods index [] = ⊤
AreWithin most methods index (o ∷ os) = (length (line_text methods index o) ≤ most) × AreWithin most methods (index + 1) os

-- there is room for a chunk, and for each line after it
abbrev pub HasRoom : ℕ → List (List ℕ) → ℕ → List (Option Outcome) → Type 0
HasRoom capacity methods index outcomes = (most : ℕ) × AreWithin most methods index outcomes × (65536 + most ≤ capacity)
