-- What a debugger writes for the modifiers of an event request (JDWP, EventRequest.Set).
use Rattle.std.specs.Prelude.{◌≡◌, ◌⊎◌, ℕ, suc, zero, pos, ◌+◌, ◌^◌, ◌<◌, ◌≤◌, Bool, true, ◌||◌, ◌&&◌, List, [], ◌∷◌, ◌++◌, length, drop, ◌==◌}
use Rattle.ti_jdwp.specs.declared.modifiers.Modifier.{Modifier}
use Rattle.ti_jdwp.specs.declared.modifiers.Modifier.TheVariants as modifier
use Rattle.ti_jdwp.specs.Fields.{int, long, text}

-- how long the fields are of the modifiers that are not looked into
abbrev pub is_other : ℕ → ℕ → Bool
is_other number len =
    ((number == 2) && (len == 4))
    || (((number == 8) && (len == 10))
    || (((number == 9) && (len == 16))
    || (((number == 11) && (len == 8))
    || ((number == 13) && (len == 0)))))

abbrev pub IsOther : ℕ → List ℕ → Type 0
IsOther number fields = (is_other number (length fields) ≡ true) ⊎ ((number ≡ 12) × ((t : List ℕ) × (length t < 2 ^ 31) × (fields ≡ text t)))

-- These bytes of a modifier, which stand at a place of the data, say this.
abbrev pub Says : ℕ → List ℕ → Modifier → Type 0
Says at own (modifier.Count n) = (k : ℕ) × (1 ≤ k) × (k < 2 ^ 31) × (own ≡ 1 ∷ int k) × (n ≡ pos k)
Says at own (modifier.ThreadOnly id) = (id < 2 ^ 64) × (own ≡ 3 ∷ long id)
Says at own (modifier.ClassOnly id) = (id < 2 ^ 64) × (own ≡ 4 ∷ long id)
Says at own (modifier.ClassMatch r) = (t : List ℕ) × (length t < 2 ^ 31) × (own ≡ 5 ∷ text t) × (r ≡ record { start = at + 5; end = at + 5 + length t })
Says at own (modifier.ClassExclude r) = (t : List ℕ) × (length t < 2 ^ 31) × (own ≡ 6 ∷ text t) × (r ≡ record { start = at + 5; end = at + 5 + length t })
Says at own (modifier.LocationOnly class method index) =
    (tag : ℕ) × (class < 2 ^ 64) × (method < 2 ^ 64) × (index < 2 ^ 64) × (own ≡ 7 ∷ tag ∷ long class ++ long method ++ long index)
Says at own (modifier.Step thread size depth) = (thread < 2 ^ 64) × (size < 2 ^ 32) × (depth < 2 ^ 32) × (own ≡ 10 ∷ long thread ++ int size ++ int depth)
Says at own modifier.Other = (number : ℕ) × (fields : List ℕ) × IsOther number fields × (own ≡ number ∷ fields)

-- At a place of the data stands a modifier that says this, and the next place is behind it.
abbrev pub StandsAt : ℕ → List ℕ → Modifier → ℕ → Type 0
StandsAt at bytes m next = (own rest : List ℕ) × (drop at bytes ≡ own ++ rest) × Says at own m × (next ≡ at + length own)

-- so many modifiers, which are all of the rest
unfoldable pub AreModifiers : ℕ → ℕ → List ℕ → Type 0
AreModifiers zero at rest = rest ≡ []
AreModifiers (suc count) at rest = (m : Modifier) × (own others : List ℕ) × (rest ≡ own ++ others) × Says at own m × AreModifiers count (at + length own) others
