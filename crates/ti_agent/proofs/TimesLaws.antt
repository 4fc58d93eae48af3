-- How often each thread is in a list, one element after another.
use Rattle.std.proofs.Common.{◌≡◌, ℕ, ◌+◌, ◌-◌, ◌<◌, ◌≤◌, ◌==◌, ◌≢◌, Bool, cond, true, inl, inr, List, [], ◌∷◌, ◌++◌, length, refl, ap, sym, ◌∙◌, arith, subst, eq-eqb, ne_eqb, Option, Some, None, if◌then◌else◌}
use Rattle.std.specs.Prelude.{nat_eq, unwrap_or}
use Rattle.std.specs.Map.{lookup}
use Rattle.std.proofs.lemmas.Bool.{cases_eq}
use Rattle.ti_types.specs.declared.error.TiError.TheVariants.{CallsSpent}
use Rattle.ti_types.specs.declared.numbers.ThreadNo.{ThreadNo}
use Rattle.ti_env.specs.Env.{EnvValue, left_at}
use Rattle.ti_agent.specs.Traces.{times, counted, AreCounts, IsNotCounted}
use Rattle.ti_agent.proofs.Listing.{times-append, times_here, times_apart, few_once}

-- Each thread so far has a call left for its stop and each of its reads
abbrev pub AreEnough : EnvValue → List ThreadNo → Type 0
AreEnough state threads = (i : ℕ) → times i threads ≤ left_at state (record { 0 = i }) - 1

pub counted_none : (i : ℕ) (l : List ThreadNo) → times i l ≡ 0 → counted i l ≡ None
counted_none i l none = ap (λ (b : Bool). if b then None else Some (times i l)) (eq-eqb (times i l) 0 none)

pub counted_some : (i : ℕ) (l : List ThreadNo) → times i l ≢ 0 → counted i l ≡ Some (times i l)
counted_some i l some = ap (λ (b : Bool). if b then None else Some (times i l)) (ne_eqb (times i l) 0 some)

-- what a look-up finds is the count, or there is none
pub count_found : (i : ℕ) (l : List ThreadNo) → unwrap_or (counted i l) 0 ≡ times i l
count_found i l =
    elim (cases_eq (times i l) 0) [
      | inl none ↦ ap (λ (o : Option ℕ). unwrap_or o 0) (counted_none i l none) ∙ sym none
      | inr some ↦ ap (λ (o : Option ℕ). unwrap_or o 0) (counted_some i l some)
    ]

-- one element more
pub counts_more : (l : List ThreadNo) (x : ThreadNo) (old new : List (ℕ × ℕ)) → AreCounts l old → ((i : ℕ) → lookup (nat_eq i) new ≡ cond (nat_eq x.0 i) (Some (times x.0 l + 1)) (lookup (nat_eq i) old)) → AreCounts (l ++ x ∷ []) new
counts_more l x old new so_far set i =
    let more = times-append i l (x ∷ []) in
    elim (cases_eq x.0 i) [
      | inl same ↦
          let now : times i (l ++ x ∷ []) ≡ times i l + 1 = omega (arith, more, times_here i x [] same) in
          let here : times x.0 l + 1 ≡ times i (l ++ x ∷ []) = ap (λ (j : ℕ). times j l + 1) same ∙ sym now in
          set i ∙ (ap (λ (b : Bool). cond b (Some (times x.0 l + 1)) (lookup (nat_eq i) old)) (eq-eqb x.0 i same) ∙ (ap Some here ∙ sym (counted_some i (l ++ x ∷ []) (λ e. absurd (omega (arith, e, now))))))
      | inr other ↦
          let now : times i (l ++ x ∷ []) ≡ times i l = omega (arith, more, times_apart i x [] other) in
          set i ∙ (ap (λ (b : Bool). cond b (Some (times x.0 l + 1)) (lookup (nat_eq i) old)) (ne_eqb x.0 i other) ∙ (so_far i ∙ ap (λ (n : ℕ). if n == 0 then None else Some n) (sym now)))
    ]

pub enough_more : (s : EnvValue) (l : List ThreadNo) (x : ThreadNo) → AreEnough s l → times x.0 l < left_at s x - 1 → AreEnough s (l ++ x ∷ [])
enough_more s l x done less i =
    let more = times-append i l (x ∷ []) in
    elim (cases_eq x.0 i) [
      | inl same ↦
          let here : times i l < left_at s (record { 0 = i }) - 1 = subst (λ (j : ℕ). times j l < left_at s (record { 0 = j }) - 1) same less in
          omega (arith, more, times_here i x [] same, here)
      | inr other ↦ omega (arith, more, times_apart i x [] other, done i)
    ]

-- where one element is too many, the list is not paid
pub too_many : (s : EnvValue) (all front rest : List ThreadNo) (x : ThreadNo) → all ≡ front ++ x ∷ rest → x.0 < length s.spent → left_at s x - 1 ≤ times x.0 front → IsNotCounted s all CallsSpent
too_many s all front rest x is here many =
    let more : times x.0 all ≡ times x.0 front + times x.0 (x ∷ rest) = ap (times x.0) is ∙ times-append x.0 front (x ∷ rest) in
    let one = times_here x.0 x rest refl in
    record {
      counted = true;
      is = ap (λ (b : Bool). if b then None else Some CallsSpent) (sym (few_once s (length s.spent) x.0 all here (omega (arith, many, more, one))));
    }
