-- How the starts of chunks are lowered, one after another.
use Rattle.std.proofs.Common.{◌≡◌, ℕ, zero, suc, ◌-◌, ◌<◌, ◌≤◌, List, [], ◌∷◌, length, slice_index, slice_set, refl, ap, arith}
use Rattle.ti_chunked.specs.Chunks.{ArePositive, lowered}

-- the number at this place is above 0
pub positive_here : (k : ℕ) (l : List ℕ) → ArePositive k l → k < length l → 0 < slice_index l k
positive_here k [] p h = absurd (omega (arith, h))
positive_here zero (s ∷ l) p h = p.0
positive_here (suc k) (s ∷ l) p h = positive_here k l p (omega (arith, h))

-- once it is lowered, those behind it are left
pub one_lower : (k : ℕ) (l : List ℕ) → k < length l → lowered (suc k) (slice_set l k (slice_index l k - 1)) ≡ lowered k l
one_lower k [] h = absurd (omega (arith, h))
one_lower zero (s ∷ l) h = refl
one_lower (suc k) (s ∷ l) h = ap (λ r. s ∷ r) (one_lower k l (omega (arith, h)))

pub positive_on : (k : ℕ) (l : List ℕ) → ArePositive k l → k < length l → ArePositive (suc k) (slice_set l k (slice_index l k - 1))
positive_on k [] p h = absurd (omega (arith, h))
positive_on zero (s ∷ l) p h = p.1
positive_on (suc k) (s ∷ l) p h = positive_on k l p (omega (arith, h))

-- nothing is behind the last
pub lowered_past : (k : ℕ) (l : List ℕ) → length l ≤ k → lowered k l ≡ l
lowered_past k [] h = refl
lowered_past zero (s ∷ l) h = absurd (omega (arith, h))
lowered_past (suc k) (s ∷ l) h = ap (λ r. s ∷ r) (lowered_past k l (omega (arith, h)))

pub length-lowered : (k : ℕ) (l : List ℕ) → length (lowered k l) ≡ length l
length-lowered k [] = refl
length-lowered zero (s ∷ l) = ap suc (length-lowered zero l)
length-lowered (suc k) (s ∷ l) = ap suc (length-lowered k l)
