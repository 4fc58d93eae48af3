-- Chunks of a list, and the indexes at which they start.
use Rattle.std.specs.Prelude.{ℕ, zero, suc, ◌+◌, ◌-◌, ◌<◌, ◌≤◌, List, [], ◌∷◌, ◌++◌, length}

module _ {T : Type 0} where
  -- the elements of the chunks
  abbrev pub joined : List (List T) → List T
  joined [] = []
  joined (c ∷ cs) = c ++ joined cs

  -- the index at which each chunk starts, if the first starts here
  abbrev pub starts_from : ℕ → List (List T) → List ℕ
  starts_from n [] = []
  starts_from n (c ∷ cs) = n ∷ starts_from (n + length c) cs

-- each number from this place on is one less
abbrev pub lowered : ℕ → List ℕ → List ℕ
lowered k [] = []
lowered zero (s ∷ ss) = (s - 1) ∷ lowered zero ss
lowered (suc k) (s ∷ ss) = s ∷ lowered k ss

-- each number from this place on is above 0
abbrev pub ArePositive : ℕ → List ℕ → Type 0
ArePositive k [] = Unit {0}
ArePositive zero (s ∷ ss) = (0 < s) × ArePositive zero ss
ArePositive (suc k) (s ∷ ss) = ArePositive k ss

module _ {T : Type 0} where
  -- A chunk has the element with this index, if the first chunk starts at n. It is the chunk of this place
  abbrev pub HasIndex : ℕ → List (List T) → ℕ → ℕ → Type 0
  HasIndex n [] c i = ⊥
  HasIndex n (x ∷ cs) zero i = (n ≤ i) × (i < n + length x)
  HasIndex n (x ∷ cs) (suc c) i = HasIndex (n + length x) cs c i
