-- Sums of lists of numbers.
use Rattle.std.specs.Prelude.{suc, slice_set, sum}
use Rattle.std.proofs.Common.{◌≡◌, ℕ, ◌+◌, ◌*◌, ◌<◌, ◌≤◌, List, [], ◌∷◌, ◌++◌, length, get_or, refl, arith}
use Rattle.std.proofs.lemmas.List.Sums.{sum_by-set, sum_by-append, sum_by-cons}
use Rattle.std.proofs.lemmas.Grind.{common_steps}
use Rattle.std.proofs.Math.Nat.{mul-le-mul_left, mul-le-mul_right}

-- a number that is set changes the sum by as much
pub sum_set : (xs : List ℕ) (i y : ℕ) → i < length xs → sum (slice_set xs i y) + get_or xs i 0 ≡ sum xs + y
sum_set xs i y h = sum_by-set (λ n. n) xs i y 0 h

-- one more 0 does not change it
pub sum_snoc : (xs : List ℕ) → sum (xs ++ 0 ∷ []) ≡ sum xs
sum_snoc xs = omega (arith, sum_by-append (λ n. n) xs (0 ∷ []))

-- a list of zeros
pub sum_none : (xs : List ℕ) → ((k : ℕ) → k < length xs → get_or xs k 0 ≡ 0) → sum xs ≡ 0
sum_none [] none = refl
sum_none (x ∷ xs) none =
    let first : x ≡ 0 = none 0 (omega arith) in
    omega (arith, first, sum_by-cons (λ n. n) x xs, sum_none xs (λ k h. none (suc k) (omega arith)))

-- the numbers before a place are 0, and then the one there is set to 0
pub paid_more : (xs : List ℕ) (i : ℕ) → ((k : ℕ) → k < i → get_or xs k 0 ≡ 0) → (k : ℕ) → k < i + 1 → get_or (slice_set xs i 0) k 0 ≡ 0
paid_more xs i paid k h = grind (arith, common_steps, paid k)

-- so many a second, for so many seconds
pub count_within : (seconds rate : ℕ) → seconds ≤ 300 → rate ≤ 1000 → seconds * rate ≤ 300000
count_within seconds rate s r =
    let one : seconds * rate ≤ 300 * rate = mul-le-mul_right rate s in
    let two : 300 * rate ≤ 300 * 1000 = mul-le-mul_left 300 r in
    omega (arith, one, two)
