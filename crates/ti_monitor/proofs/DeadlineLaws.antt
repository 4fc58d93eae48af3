-- When something is due of some readings.
use Rattle.std.proofs.Common.{◌≡◌, ◌⊎◌, ◌<◌, ◌≤◌, ◌+◌, ℕ, min, inl, inr, List, length, refl, subst, arith, true, false, nat_lt, Some}
use Rattle.std.specs.Prelude.{slice_get}
use Rattle.std.proofs.lemmas.Bool.{cases_Bool}
use Rattle.std.proofs.lemmas.Bool.Decides.{nat_tests}
use Rattle.std.proofs.lemmas.Option.{slice_get_within}
use Rattle.ti_monitor.specs.declared.running.Running.{Running}
use Rattle.ti_monitor.specs.Deadlines.{IsNextIn, IsNextOf, RestsBefore, is_at_rest}

-- one of the readings ticks or ends then
abbrev pub IsBusyIn : List Running → ℕ → Type 0
IsBusyIn rs next = (next ≡ 18446744073709551615) ⊎ ((place : ℕ) × (r : Running) × (slice_get rs place ≡ Some r) × (is_at_rest next r ≡ false))

-- the first of them do nothing before it
pub record IsNextFirst (n : ℕ) (rs : List Running) (next : ℕ) : Type 0 where
  pub before : (place : ℕ) (r : Running) → place < n → slice_get rs place ≡ Some r → RestsBefore next r
  pub at : IsBusyIn rs next

pub next_none : (rs : List Running) → IsNextFirst 0 rs 18446744073709551615
next_none rs = record { before = λ place r h _. absurd (omega (arith, h)); at = inl refl }

pub next_more : (n : ℕ) (rs : List Running) (r : Running) (next one : ℕ) → slice_get rs n ≡ Some r → IsNextFirst n rs next → IsNextOf r one → IsNextFirst (n + 1) rs (min next one)
next_more n rs r next one this first here = record { before = before; at = at }
  where
    before : (place : ℕ) (s : Running) → place < n + 1 → slice_get rs place ≡ Some s → RestsBefore (min next one) s
    before place s h is now early = elim (cases_Bool (nat_lt place n)) [
      | inl less ↦ first.before place s (grind (arith, nat_tests, less)) is now (omega (arith, early))
      | inr not_less ↦ (
          let last : place ≡ n = grind (arith, nat_tests, h, not_less) in
          let same : r ≡ s = cc (this, is, last) in
          subst (λ (x : Running). is_at_rest now x ≡ true) same (here.before now (omega (arith, early))))
    ]

    busy : (one ≡ 18446744073709551615) ⊎ (is_at_rest one r ≡ false) → IsBusyIn rs one
    busy (inl end) = inl end
    busy (inr due) = inr (n, r, this, due)

    at : IsBusyIn rs (min next one)
    at = elim (cases_Bool (nat_lt next one)) [
      | inl less ↦ subst (λ (k : ℕ). IsBusyIn rs k) (grind (arith, nat_tests, less)) first.at
      | inr not_less ↦ subst (λ (k : ℕ). IsBusyIn rs k) (grind (arith, nat_tests, not_less)) (busy here.at)
    ]

-- of all of them
pub next_all : (n : ℕ) (rs : List Running) (next : ℕ) → length rs ≤ n → IsNextFirst n rs next → IsNextIn rs next
next_all n rs next over first = record { before = λ place r is. first.before place r (omega (arith, over, slice_get_within rs place r is)) is; at = first.at }
