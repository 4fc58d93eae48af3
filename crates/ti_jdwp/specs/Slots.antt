-- The slots of the variables whose values are asked for.
use Rattle.std.specs.Prelude.{◌≡◌, ◌<◌, ◌+◌, ◌^◌, ℕ, zero, suc, List, [], ◌∷◌, ◌++◌}
use Rattle.ti_jdwp.specs.Fields.{int, int_at}

-- a slot and a tag for each variable, one behind the other
unfoldable pub AreSlots : List ℕ → List ℕ → Type 0
AreSlots [] bytes = bytes ≡ []
AreSlots (slot ∷ slots) bytes = (tag : ℕ) × (rest : List ℕ) × (slot < 2 ^ 32) × (bytes ≡ int slot ++ tag ∷ rest) × AreSlots slots rest

-- so many slots from a place on
unfoldable pub slots_from : ℕ → ℕ → List ℕ → List ℕ
slots_from zero at bytes = []
slots_from (suc n) at bytes = int_at at bytes ∷ slots_from n (at + 5) bytes
