use Rattle.std.proofs.Common.{◌≡◌, ℕ, zero, suc, ◌+◌, ◌-◌, ◌*◌, ◌/◌, ◌%◌, ◌^◌, ◌<◌, ◌≤◌, [], ◌∷◌, arith, ap, refl, ◌∙◌, pow-suc, add-one}
use Rattle.std.proofs.lemmas.Bool.Decides.{nat_tests}
use Rattle.ti_pprof.specs.Wire.{varint_within}

-- a digit that is not the last
pub one_more : (more n : ℕ) → 0 < more → 128 ≤ n
    → varint_within more n ≡ (128 + n % 128) ∷ varint_within (more - 1) (n / 128)
unfolding varint_within
one_more zero n some big = absurd (omega arith)
one_more (suc more) n some big =
    let back : suc more - 1 ≡ more = omega arith in rw back (grind (arith, nat_tests))

-- the last digit
pub last_by_count : (more n : ℕ) → more ≡ 0 → varint_within more n ≡ n ∷ []
unfolding varint_within
last_by_count more n none = rw none refl

pub last : (more n : ℕ) → n < 128 → varint_within more n ≡ n ∷ []
unfolding varint_within
last zero n small = refl
last (suc more) n small = grind (arith, nat_tests)

-- a number below twice a power, less its lowest digit
pub shorter : (rest more : ℕ) → 0 < more → rest < 2 * 128 ^ more → rest / 128 < 2 * 128 ^ (more - 1)
shorter rest more pos below =
    let back : more ≡ more - 1 + 1 = omega arith in
    let power : 128 ^ (more - 1 + 1) ≡ 128 ^ (more - 1) * 128 = rw add-one (pow-suc 128 (more - 1)) in
    omega (arith, ap (λ j. 128 ^ j) back ∙ power)
