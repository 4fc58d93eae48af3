-- How many calls are left at a thread.
use Rattle.std.proofs.Common.{◌≡◌, ◌<◌, ◌-◌, Bool, true, if◌then◌else◌, length, arith, ap, inl, inr}
use Rattle.std.proofs.lemmas.Bool.Decides.{nat_tests}
use Rattle.std.proofs.lemmas.Bool.{cases_Bool}
use Rattle.ti_types.specs.declared.numbers.ThreadNo.{ThreadNo}
use Rattle.ti_env.specs.Env.{EnvValue, is_there, spent_at, left_at}

-- at one that is there
pub left_is : (s : EnvValue) (t : ThreadNo) → t.0 < length s.spent → left_at s t ≡ s.limits.calls - spent_at s t
left_is s t there =
    let here : is_there s t ≡ true = grind (arith, nat_tests, there) in
    ap (λ (b : Bool). if b then s.limits.calls - spent_at s t else 0) here

-- where one is left, one may be spent
pub left_some : (s : EnvValue) (t : ThreadNo) → 0 < left_at s t → spent_at s t < s.limits.calls
left_some s t some =
    elim (cases_Bool (is_there s t)) [
      | inl here ↦ let e : left_at s t ≡ s.limits.calls - spent_at s t = ap (λ (b : Bool). if b then s.limits.calls - spent_at s t else 0) here in omega (arith, e, some)
      | inr gone ↦ let e : left_at s t ≡ 0 = ap (λ (b : Bool). if b then s.limits.calls - spent_at s t else 0) gone in absurd (omega (arith, e, some))
    ]
