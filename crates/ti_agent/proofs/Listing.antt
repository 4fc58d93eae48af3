-- All threads of an environment as a list, and the threads of a list each once.
use Rattle.std.proofs.Common.{◌≡◌, ◌≢◌, ℕ, zero, suc, ◌+◌, ◌-◌, ◌<◌, ◌≤◌, ◌==◌, ◌&&◌, Bool, true, false, inl, inr, List, [], ◌∷◌, ◌++◌, length, refl, ap, sym, ◌∙◌, arith, subst, eq-eqb, ne_eqb, nat_lt, length-append, if◌then◌else◌}
use Rattle.std.specs.Prelude.{slice_index_or}
use Rattle.std.specs.List.{list_all}
use Rattle.std.proofs.lemmas.Bool.{cases_eq, cases_Bool, ltb-true, and_parts}
use Rattle.std.proofs.lemmas.Bool.Decides.{nat_tests}
use Rattle.std.proofs.lemmas.List.Folds.{list_all-append}
use Rattle.ti_types.specs.declared.numbers.ThreadNo.{ThreadNo}
use Rattle.ti_env.specs.Env.{EnvValue, left_at}
use Rattle.ti_vmop.specs.Turns.{Listed, is_listed, AreDistinct, AreThere, are_paid}
use Rattle.ti_vmop.proofs.Each.{listed-snoc}
use Rattle.ti_agent.specs.Traces.{all_once, each_once, each_thread, where_some, times, are_there, AreListed}

-- what is paid of the threads so far, and of one more
pub paid_snoc : (s : EnvValue) (n : ℕ) → are_paid s (all_once (suc n)) ≡ (are_paid s (all_once n) && (nat_lt 1 (left_at s (record { 0 = n })) && true))
paid_snoc s n = list_all-append (λ (x : ThreadNo × ℕ). nat_lt x.1 (left_at s x.0)) (all_once n) ((record { 0 = n }, 1) ∷ [])

paid_before : (s : EnvValue) (n : ℕ) → are_paid s (all_once n) ≡ false → are_paid s (all_once (suc n)) ≡ false
paid_before s n h = paid_snoc s n ∙ ap (λ (b : Bool). b && (nat_lt 1 (left_at s (record { 0 = n })) && true)) h

-- one that is not paid is enough
pub few_then : (s : EnvValue) (n m : ℕ) → n < m → left_at s (record { 0 = n }) < 2 → are_paid s (all_once m) ≡ false
few_then s n zero h few = absurd (omega (arith, h))
few_then s n (suc m) h few =
    elim (cases_eq n m) [
      | inl same ↦
          let less : left_at s (record { 0 = m }) < 2 = subst (λ (i : ℕ). left_at s (record { 0 = i }) < 2) same few in
          grind (arith, nat_tests, paid_snoc s m, less)
      | inr other ↦ paid_before s m (few_then s n m (omega (arith, h, other)) few)
    ]

pub count_all : (n : ℕ) → length (all_once n) ≡ n
count_all zero = refl
count_all (suc n) = length-append (all_once n) ((record { 0 = n }, 1) ∷ []) ∙ omega (arith, count_all n)

pub count_each : (n : ℕ) → length (each_thread n) ≡ n
count_each zero = refl
count_each (suc n) = length-append (each_thread n) ((record { 0 = n }) ∷ []) ∙ omega (arith, count_each n)

-- How often a thread is in a list

pub times-append : (i : ℕ) (l m : List ThreadNo) → times i (l ++ m) ≡ times i l + times i m
times-append i [] m = omega arith
times-append i (x ∷ l) m =
    elim (cases_eq x.0 i) [
      | inl same ↦ grind (arith, eq-eqb x.0 i same, times-append i l m)
      | inr other ↦ grind (arith, ne_eqb x.0 i other, times-append i l m)
    ]

pub times_here : (i : ℕ) (x : ThreadNo) (l : List ThreadNo) → x.0 ≡ i → times i (x ∷ l) ≡ suc (times i l)
times_here i x l same = grind (arith, eq-eqb x.0 i same)

pub times_apart : (i : ℕ) (x : ThreadNo) (l : List ThreadNo) → x.0 ≢ i → times i (x ∷ l) ≡ times i l
times_apart i x l other = grind (arith, ne_eqb x.0 i other)

-- one that is not there is in no list of those that are
pub times_high : (n i : ℕ) (l : List ThreadNo) → are_there n l ≡ true → n ≤ i → times i l ≡ 0
times_high n i [] there h = refl
times_high n i (x ∷ l) there h =
    let here : x.0 < n = ltb-true _ _ (and_parts _ _ there).0 in
    times_apart i x l (λ e. absurd (omega (arith, e, here, h))) ∙ times_high n i l (and_parts _ _ there).1 h

all_there : (n m : ℕ) → m ≤ n → are_there n (each_thread m) ≡ true
all_there n zero h = refl
all_there n (suc m) h =
    list_all-append (λ (x : ThreadNo). nat_lt x.0 n) (each_thread m) ((record { 0 = m }) ∷ []) ∙ grind (arith, nat_tests, h, all_there n m (omega (arith, h)))

pub there_each : (n : ℕ) → are_there n (each_thread n) ≡ true
there_each n = all_there n n (omega arith)

-- each of all threads is there once
times_each : (n i : ℕ) → i < n → times i (each_thread n) ≡ 1
times_each zero i h = absurd (omega (arith, h))
times_each (suc n) i h =
    let more = times-append i (each_thread n) ((record { 0 = n }) ∷ []) in
    elim (cases_eq n i) [
      | inl same ↦ omega (arith, more, times_here i (record { 0 = n }) [] same, times_high n i (each_thread n) (there_each n) (omega (arith, same)))
      | inr other ↦ omega (arith, more, times_apart i (record { 0 = n }) [] other, times_each n i (omega (arith, h, other)))
    ]

-- Each once

some_none : (n k : ℕ) → k ≡ 0 → where_some n k ≡ []
some_none n k none = ap (λ (b : Bool). if b then [] else (record { 0 = n }, k) ∷ []) (eq-eqb k 0 none)

some_one : (n k : ℕ) → k ≢ 0 → where_some n k ≡ (record { 0 = n }, k) ∷ []
some_one n k some = ap (λ (b : Bool). if b then [] else (record { 0 = n }, k) ∷ []) (ne_eqb k 0 some)

append_none : (l : Listed) → l ++ [] ≡ l
append_none [] = refl
append_none (x ∷ l) = ap (λ (m : Listed). x ∷ m) (append_none l)

-- a thread that is not in the list changes nothing, and one that is comes at the end
pub once_none : (n : ℕ) (l : List ThreadNo) → times n l ≡ 0 → each_once (suc n) l ≡ each_once n l
once_none n l none = ap (λ (m : Listed). each_once n l ++ m) (some_none n (times n l) none) ∙ append_none (each_once n l)

pub once_one : (n : ℕ) (l : List ThreadNo) → times n l ≢ 0 → each_once (suc n) l ≡ each_once n l ++ (record { 0 = n }, times n l) ∷ []
once_one n l some = ap (λ (m : Listed). each_once n l ++ m) (some_one n (times n l) some)

once_more : (n m : ℕ) → m ≤ n → each_once m (each_thread n) ≡ all_once m
once_more n zero h = refl
once_more n (suc m) h =
    let one = times_each n m (omega (arith, h)) in
    once_one m (each_thread n) (λ e. absurd (omega (arith, e, one)))
    ∙ (λ j. once_more n m (omega (arith, h)) j ++ (record { 0 = m }, one j) ∷ [])

-- all threads, each once
pub once_all : (n : ℕ) → each_once n (each_thread n) ≡ all_once n
once_all n = once_more n n (omega arith)

listed_high : (n i : ℕ) (l : List ThreadNo) → n ≤ i → is_listed i (each_once n l) ≡ false
listed_high zero i l h = refl
listed_high (suc n) i l h =
    let rest = listed_high n i l (omega (arith, h)) in
    elim (cases_eq (times n l) 0) [
      | inl none ↦ ap (is_listed i) (once_none n l none) ∙ rest
      | inr some ↦
          let apart : (n == i) ≡ false = ne_eqb n i (λ e. absurd (omega (arith, e, h))) in
          ap (is_listed i) (once_one n l some) ∙ (listed-snoc i (each_once n l) (record { 0 = n }, times n l) ∙ grind (arith, rest, apart))
    ]

-- a thread of the list is among them
pub listed_once : (n i : ℕ) (l : List ThreadNo) → i < n → times i l ≢ 0 → is_listed i (each_once n l) ≡ true
listed_once zero i l h some = absurd (omega (arith, h))
listed_once (suc n) i l h some =
    elim (cases_eq n i) [
      | inl same ↦
          let here : times n l ≢ 0 = subst (λ (j : ℕ). times j l ≢ 0) (sym same) some in
          ap (is_listed i) (once_one n l here) ∙ (listed-snoc i (each_once n l) (record { 0 = n }, times n l) ∙ grind (arith, eq-eqb n i same))
      | inr other ↦
          let rest = listed_once n i l (omega (arith, h, other)) some in
          elim (cases_eq (times n l) 0) [
            | inl none ↦ ap (is_listed i) (once_none n l none) ∙ rest
            | inr more ↦ ap (is_listed i) (once_one n l more) ∙ (listed-snoc i (each_once n l) (record { 0 = n }, times n l) ∙ grind (arith, rest))
          ]
    ]

distinct_snoc : (l : Listed) (x : ThreadNo × ℕ) → AreDistinct l → is_listed x.0.0 l ≡ false → AreDistinct (l ++ x ∷ [])
distinct_snoc [] x d n = (refl, tt)
distinct_snoc (y ∷ l) x d n =
    let rest : is_listed x.0.0 l ≡ false = grind arith in
    let apart : (x.0.0 == y.0.0) ≡ false = grind arith in
    let still : is_listed y.0.0 (l ++ x ∷ []) ≡ false = listed-snoc y.0.0 l x ∙ grind (arith, d.0, apart) in
    (still, distinct_snoc l x d.1 rest)

pub distinct_once : (n : ℕ) (l : List ThreadNo) → AreDistinct (each_once n l)
distinct_once zero l = tt
distinct_once (suc n) l =
    elim (cases_eq (times n l) 0) [
      | inl none ↦ subst AreDistinct (sym (once_none n l none)) (distinct_once n l)
      | inr some ↦ subst AreDistinct (sym (once_one n l some)) (distinct_snoc (each_once n l) (record { 0 = n }, times n l) (distinct_once n l) (listed_high n n l (omega arith)))
    ]

there_more : (n m : ℕ) (l : List ThreadNo) → m ≤ n → AreThere n (each_once m l)
there_more n zero l h = refl
there_more n (suc m) l h =
    let rest = there_more n m l (omega (arith, h)) in
    elim (cases_eq (times m l) 0) [
      | inl none ↦ subst (AreThere n) (sym (once_none m l none)) rest
      | inr some ↦
          subst (AreThere n) (sym (once_one m l some))
          (list_all-append (λ (x : ThreadNo × ℕ). nat_lt x.0.0 n) (each_once m l) ((record { 0 = m }, times m l) ∷ []) ∙ grind (arith, nat_tests, h, rest))
    ]

pub there_once : (n : ℕ) (l : List ThreadNo) → AreThere n (each_once n l)
there_once n l = there_more n n l (omega arith)

-- each thread of a list is among its threads
listed_part : (n : ℕ) (l part : List ThreadNo) → are_there n part ≡ true → ((i : ℕ) → times i part ≤ times i l) → AreListed (each_once n l) part
listed_part n l [] there fewer = refl
listed_part n l (x ∷ part) there fewer =
    let here : x.0 < n = ltb-true _ _ (and_parts _ _ there).0 in
    let some : times x.0 l ≢ 0 = λ e. absurd (omega (arith, e, fewer x.0, times_here x.0 x part refl)) in
    let rest : list_all (λ (y : ThreadNo). is_listed y.0 (each_once n l)) part ≡ true = listed_part n l part (and_parts _ _ there).1 fewer_yet in
    ap (λ (b : Bool). b && list_all (λ (y : ThreadNo). is_listed y.0 (each_once n l)) part) (listed_once n x.0 l here some) ∙ rest
  where
    fewer_yet : (i : ℕ) → times i part ≤ times i l
    fewer_yet i =
        elim (cases_eq x.0 i) [
          | inl same ↦ omega (arith, fewer i, times_here i x part same)
          | inr other ↦ omega (arith, fewer i, times_apart i x part other)
        ]

pub are_listed : (n : ℕ) (l : List ThreadNo) → are_there n l ≡ true → AreListed (each_once n l) l
are_listed n l there = listed_part n l l there (λ i. omega arith)

pub listed_in : (stopping : Listed) (l : List ThreadNo) (k : ℕ) (d : ThreadNo) → AreListed stopping l → k < length l → is_listed (slice_index_or l k d).0 stopping ≡ true
listed_in stopping [] k d all h = absurd (omega (arith, h))
listed_in stopping (x ∷ l) zero d all h = (and_parts _ _ all).0
listed_in stopping (x ∷ l) (suc k) d all h = listed_in stopping l k d (and_parts _ _ all).1 (omega (arith, h))

pub there_at : (n : ℕ) (l : List ThreadNo) (k : ℕ) (d : ThreadNo) → are_there n l ≡ true → k < length l → (slice_index_or l k d).0 < n
there_at n [] k d there h = absurd (omega (arith, h))
there_at n (x ∷ l) zero d there h = ltb-true _ _ (and_parts _ _ there).0
there_at n (x ∷ l) (suc k) d there h = there_at n l k d (and_parts _ _ there).1 (omega (arith, h))

pub there_listed : (n i : ℕ) (stopping : Listed) → AreThere n stopping → is_listed i stopping ≡ true → i < n
there_listed n i [] there h = absurd (none h)
  where
    none : false ≡ true → ⊥
    none e = cc
there_listed n i (x ∷ stopping) there h =
    elim (cases_eq x.0.0 i) [
      | inl same ↦ let here : x.0.0 < n = ltb-true _ _ (and_parts _ _ there).0 in omega (arith, same, here)
      | inr other ↦
          let rest : is_listed i stopping ≡ true = grind (arith, ne_eqb x.0.0 i other, h) in
          there_listed n i stopping (and_parts _ _ there).1 rest
    ]

-- What is left for a stop and each read

pub paid_once : (s : EnvValue) (n : ℕ) (l : List ThreadNo) → ((i : ℕ) → times i l ≤ left_at s (record { 0 = i }) - 1) → are_paid s (each_once n l) ≡ true
paid_once s zero l enough = refl
paid_once s (suc n) l enough =
    let rest = paid_once s n l enough in
    elim (cases_eq (times n l) 0) [
      | inl none ↦ ap (are_paid s) (once_none n l none) ∙ rest
      | inr some ↦
          let less : times n l < left_at s (record { 0 = n }) = omega (arith, enough n, some) in
          ap (are_paid s) (once_one n l some) ∙ (list_all-append (λ (x : ThreadNo × ℕ). nat_lt x.1 (left_at s x.0)) (each_once n l) ((record { 0 = n }, times n l) ∷ []) ∙ grind (arith, nat_tests, rest, less))
    ]

pub paid_for : (s : EnvValue) (n i : ℕ) (l : List ThreadNo) → i < n → are_paid s (each_once n l) ≡ true → times i l ≢ 0 → times i l < left_at s (record { 0 = i })
paid_for s zero i l h paid some = absurd (omega (arith, h))
paid_for s (suc n) i l h paid some =
    elim (cases_eq n i) [
      | inl same ↦
          let here : times n l ≢ 0 = subst (λ (j : ℕ). times j l ≢ 0) (sym same) some in
          let less : times n l < left_at s (record { 0 = n }) = ltb-true _ _ (and_parts _ _ (and_parts _ _ (last here)).1).0 in
          subst (λ (j : ℕ). times j l < left_at s (record { 0 = j })) same less
      | inr other ↦
          let rest : are_paid s (each_once n l) ≡ true = elim (cases_eq (times n l) 0) [
            | inl none ↦ ap (are_paid s) (sym (once_none n l none)) ∙ paid
            | inr more ↦ (and_parts _ _ (last more)).0
          ] in
          paid_for s n i l (omega (arith, h, other)) rest some
    ]
  where
    last : times n l ≢ 0 → (are_paid s (each_once n l) && (nat_lt (times n l) (left_at s (record { 0 = n })) && true)) ≡ true
    last more =
        sym (list_all-append (λ (x : ThreadNo × ℕ). nat_lt x.1 (left_at s x.0)) (each_once n l) ((record { 0 = n }, times n l) ∷ []))
        ∙ (ap (are_paid s) (sym (once_one n l more)) ∙ paid)

pub few_once : (s : EnvValue) (n i : ℕ) (l : List ThreadNo) → i < n → left_at s (record { 0 = i }) - 1 < times i l → are_paid s (each_once n l) ≡ false
few_once s n i l h few =
    elim (cases_Bool (are_paid s (each_once n l))) [
      | inl paid ↦ absurd (omega (arith, few, paid_for s n i l h paid (λ e. absurd (omega (arith, e, few)))))
      | inr not_paid ↦ not_paid
    ]
