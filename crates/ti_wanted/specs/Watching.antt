-- The threads that are watched.
use Rattle.std.specs.Prelude.{ℕ, ◌≡◌, ◌⊎◌, ◌<◌, List, [], ◌∷◌, ◌++◌, length, Some, slice_get, slice_set}
use Rattle.ti_types.specs.declared.numbers.ThreadNo.{ThreadNo}

-- the thread is one of these
abbrev pub IsAmong : List ThreadNo → ThreadNo → Type 0
IsAmong threads thread = (i : ℕ) × (slice_get threads i ≡ Some thread)

-- the thread comes behind the others, or to the place of one of them
abbrev pub Gains : ThreadNo → List ThreadNo → List ThreadNo → Type 0
Gains thread old new = (new ≡ old ++ thread ∷ []) ⊎ ((i : ℕ) × (i < length old) × (new ≡ slice_set old i thread))
