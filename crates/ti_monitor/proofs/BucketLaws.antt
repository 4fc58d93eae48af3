-- The buckets of a histogram, one after the other.
use Rattle.std.specs.Prelude.{slice_set}
use Rattle.std.proofs.Common.{◌≡◌, ℕ, ◌+◌, ◌<◌, ◌≤◌, List, length, get_or, arith, ap, sym, inl, inr, ◌∙◌}
use Rattle.std.proofs.Math.Nat.{eq-or-lt_of_le}
use Rattle.std.proofs.lemmas.List.{get_or-set_other}
use Rattle.std.proofs.lemmas.Grind.{common_steps, get_or-set_at}
use Rattle.ti_monitor.specs.Histograms.{bucket_with}

-- one bucket more is done
pub bucket_done : (bounds old now : List ℕ) (i nanos : ℕ) → i < length now
    → ((k : ℕ) → k < i → get_or now k 0 ≡ bucket_with (get_or bounds k 0) (get_or old k 0) nanos) → ((k : ℕ) → i ≤ k → get_or now k 0 ≡ get_or old k 0)
    → (k : ℕ) → k < i + 1 → get_or (slice_set now i (bucket_with (get_or bounds i 0) (get_or now i 0) nanos)) k 0 ≡ bucket_with (get_or bounds k 0) (get_or old k 0) nanos
bucket_done bounds old now i nanos h done rest k below =
    let v = bucket_with (get_or bounds i 0) (get_or now i 0) nanos in
    let within : k ≤ i = omega arith in
    elim (eq-or-lt_of_le within) [
      | inl same ↦ get_or-set_at now i k v 0 same h ∙ ap (λ n. bucket_with (get_or bounds i 0) n nanos) (rest i (omega arith)) ∙ ap (λ j. bucket_with (get_or bounds j 0) (get_or old j 0) nanos) (sym same)
      | inr less ↦ get_or-set_other now i k v 0 (λ e. omega arith) ∙ done k less
    ]

-- the buckets behind it stay
pub bucket_left : (old now : List ℕ) (i v : ℕ) → ((k : ℕ) → i ≤ k → get_or now k 0 ≡ get_or old k 0) → (k : ℕ) → i + 1 ≤ k → get_or (slice_set now i v) k 0 ≡ get_or old k 0
bucket_left old now i v rest k above = grind (arith, common_steps, rest k)
