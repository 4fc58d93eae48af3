-- A sorted list of counts is the list of each thread once: two lists that rise and have the same look-ups are equal.
use Rattle.std.proofs.Common.{◌≡◌, ◌≢◌, ℕ, zero, suc, ◌+◌, ◌<◌, ◌≤◌, ◌==◌, Bool, cond, true, false, inl, inr, List, [], ◌∷◌, ◌++◌, take, refl, ap, sym, ◌∙◌, arith, subst, eq-eqb, ne_eqb, Option, Some, None, if◌then◌else◌}
use Rattle.std.specs.Prelude.{nat_eq, slice_get, slice_index_or, Result, Ok, Err, IfOk}
use Rattle.std.proofs.lemmas.List.{map-append}
use Rattle.std.specs.List.{IsDistinct}
use Rattle.std.specs.List.Sorted.{IsSorted}
use Rattle.std.specs.Map.{lookup, keys_of}
use Rattle.std.specs.Ordering.{nat_cmp}
use Rattle.std.specs.Ordering.{is_lt}
use Rattle.std.proofs.lemmas.Bool.{cases_eq, cases_lt, lt-ltb}
use Rattle.std.specs.declared.cmp.Ordering.TheVariants.{Less, Equal, Greater}
use Rattle.ti_types.specs.declared.numbers.ThreadNo.{ThreadNo}
use Rattle.ti_vmop.specs.Turns.{Listed}
use Rattle.ti_agent.specs.Traces.{counted, each_once, listed_of, times, are_there, AreCounts}
use Rattle.ti_agent.proofs.Listing.{once_none, once_one, times_high}
use Rattle.ti_agent.proofs.TimesLaws.{counted_none, counted_some}

-- the count beside a thread
abbrev pub look : ℕ → Listed → Option ℕ
look i [] = None
look i (x ∷ l) = if i == x.0.0 then Some x.1 else look i l

-- all are above, or below
abbrev pub Above : ℕ → Listed → Type 0
Above n [] = Unit {0}
Above n (x ∷ l) = (n < x.0.0) × Above n l

abbrev pub Below : ℕ → Listed → Type 0
Below n [] = Unit {0}
Below n (x ∷ l) = (x.0.0 < n) × Below n l

abbrev pub Rising : Listed → Type 0
Rising [] = Unit {0}
Rising (x ∷ l) = Above x.0.0 l × Rising l

above_less : (m n : ℕ) (l : Listed) → m ≤ n → Above n l → Above m l
above_less m n [] h a = tt
above_less m n (x ∷ l) h a = (omega (arith, h, a.0), above_less m n l h a.1)

below_more : (m n : ℕ) (l : Listed) → m ≤ n → Below m l → Below n l
below_more m n [] h b = tt
below_more m n (x ∷ l) h b = (omega (arith, h, b.0), below_more m n l h b.1)

above_snoc : (n : ℕ) (l : Listed) (x : ThreadNo × ℕ) → Above n l → n < x.0.0 → Above n (l ++ x ∷ [])
above_snoc n [] x a h = (h, tt)
above_snoc n (y ∷ l) x a h = (a.0, above_snoc n l x a.1 h)

below_snoc : (n : ℕ) (l : Listed) (x : ThreadNo × ℕ) → Below n l → x.0.0 < n → Below n (l ++ x ∷ [])
below_snoc n [] x b h = (h, tt)
below_snoc n (y ∷ l) x b h = (b.0, below_snoc n l x b.1 h)

rising_snoc : (l : Listed) (x : ThreadNo × ℕ) → Rising l → Below x.0.0 l → Rising (l ++ x ∷ [])
rising_snoc [] x r b = (tt, tt)
rising_snoc (y ∷ l) x r b = (above_snoc y.0.0 l x r.0 b.0, rising_snoc l x r.1 b.1)

none_above : (i : ℕ) (l : Listed) → Above i l → look i l ≡ None
none_above i [] a = refl
none_above i (x ∷ l) a =
    ap (λ (b : Bool). if b then Some x.1 else look i l) (ne_eqb i x.0.0 (λ e. absurd (omega (arith, e, a.0)))) ∙ none_above i l a.1

here : (x : ThreadNo × ℕ) (l : Listed) → look x.0.0 (x ∷ l) ≡ Some x.1
here x l = ap (λ (b : Bool). if b then Some x.1 else look x.0.0 l) (eq-eqb x.0.0 x.0.0 refl)

apart : (i : ℕ) (x : ThreadNo × ℕ) (l : Listed) → i ≢ x.0.0 → look i (x ∷ l) ≡ look i l
apart i x l ne = ap (λ (b : Bool). if b then Some x.1 else look i l) (ne_eqb i x.0.0 ne)

some_none : {n : ℕ} → Some n ≡ None → ⊥
some_none h = cc h

some_some : {m n : ℕ} → Some m ≡ Some n → m ≡ n
some_some h = cc h

-- the first key of one list is no lower than that of the other
no_lower : (x y : ThreadNo × ℕ) (l m : Listed) → Above y.0.0 m → look x.0.0 (x ∷ l) ≡ look x.0.0 (y ∷ m) → x.0.0 < y.0.0 → ⊥
no_lower x y l m a same less = some_none (sym (here x l) ∙ (same ∙ none_above x.0.0 (y ∷ m) (less, above_less x.0.0 y.0.0 m (omega (arith, less)) a)))

pub same_lists : (a b : Listed) → Rising a → Rising b → ((i : ℕ) → look i a ≡ look i b) → a ≡ b
same_lists [] [] ra rb same = refl
same_lists [] (y ∷ b) ra rb same = absurd (some_none (sym (here y b) ∙ sym (same y.0.0)))
same_lists (x ∷ a) [] ra rb same = absurd (some_none (sym (here x a) ∙ same x.0.0))
same_lists (x ∷ a) (y ∷ b) ra rb same = λ i. first i ∷ same_lists a b ra.1 rb.1 rest i
  where
    key : x.0.0 ≡ y.0.0
    key =
        elim (cases_eq x.0.0 y.0.0) [
          | inl e ↦ e
          | inr ne ↦ absurd (no_lower x y a b rb.0 (same x.0.0) (lower ne))
        ]
      where
        lower : x.0.0 ≢ y.0.0 → x.0.0 < y.0.0
        lower ne =
            elim (cases_lt x.0.0 y.0.0) [
              | inl h ↦ h
              | inr h ↦ absurd (no_lower y x b a ra.0 (sym (same y.0.0)) (omega (arith, h, ne)))
            ]

    count : x.1 ≡ y.1
    count = some_some (sym (here x a) ∙ (same x.0.0 ∙ (ap (λ (i : ℕ). look i (y ∷ b)) key ∙ here y b)))

    first : x ≡ y
    first i = (record { 0 = key i }, count i)

    rest : (i : ℕ) → look i a ≡ look i b
    rest i =
        elim (cases_eq i x.0.0) [
          | inl e ↦
              none_above i a (subst (λ (n : ℕ). Above n a) (sym e) ra.0) ∙ sym (none_above i b (subst (λ (n : ℕ). Above n b) (sym (e ∙ key)) rb.0))
          | inr ne ↦ sym (apart i x a ne) ∙ (same i ∙ apart i y b (λ e. ne (e ∙ sym key)))
        ]

-- each thread once, in the order of the places

below_once : (n : ℕ) (l : List ThreadNo) → Below n (each_once n l)
below_once zero l = tt
below_once (suc n) l =
    let rest : Below (suc n) (each_once n l) = below_more n (suc n) (each_once n l) (omega arith) (below_once n l) in
    elim (cases_eq (times n l) 0) [
      | inl none ↦ subst (Below (suc n)) (sym (once_none n l none)) rest
      | inr some ↦ subst (Below (suc n)) (sym (once_one n l some)) (below_snoc (suc n) (each_once n l) (record { 0 = n }, times n l) rest (omega arith))
    ]

rising_once : (n : ℕ) (l : List ThreadNo) → Rising (each_once n l)
rising_once zero l = tt
rising_once (suc n) l =
    elim (cases_eq (times n l) 0) [
      | inl none ↦ subst Rising (sym (once_none n l none)) (rising_once n l)
      | inr some ↦ subst Rising (sym (once_one n l some)) (rising_snoc (each_once n l) (record { 0 = n }, times n l) (rising_once n l) (below_once n l))
    ]

look_below : (i : ℕ) (l : Listed) → Below i l → look i l ≡ None
look_below i [] b = refl
look_below i (x ∷ l) b = apart i x l (λ e. absurd (omega (arith, e, b.0))) ∙ look_below i l b.1

look_snoc : (i : ℕ) (l : Listed) (x : ThreadNo × ℕ) → i ≢ x.0.0 → look i (l ++ x ∷ []) ≡ look i l
look_snoc i [] x ne = apart i x [] ne
look_snoc i (y ∷ l) x ne = ap (λ (o : Option ℕ). if i == y.0.0 then Some y.1 else o) (look_snoc i l x ne)

look_last : (l : Listed) (x : ThreadNo × ℕ) → Below x.0.0 l → look x.0.0 (l ++ x ∷ []) ≡ Some x.1
look_last [] x b = here x []
look_last (y ∷ l) x b = apart x.0.0 y (l ++ x ∷ []) (λ e. absurd (omega (arith, e, b.0))) ∙ look_last l x b.1

look_once : (n i : ℕ) (l : List ThreadNo) → i < n → look i (each_once n l) ≡ counted i l
look_once zero i l h = absurd (omega (arith, h))
look_once (suc n) i l h =
    elim (cases_eq (times n l) 0) [
      | inl none ↦
          ap (look i) (once_none n l none)
          ∙ elim (cases_eq i n) [
            | inl e ↦ look_below i (each_once n l) (subst (λ (k : ℕ). Below k (each_once n l)) (sym e) (below_once n l)) ∙ sym (counted_none i l (ap (λ (k : ℕ). times k l) e ∙ none))
            | inr ne ↦ look_once n i l (omega (arith, h, ne))
          ]
      | inr some ↦
          ap (look i) (once_one n l some)
          ∙ elim (cases_eq i n) [
            | inl e ↦
                ap (λ (k : ℕ). look k (each_once n l ++ (record { 0 = n }, times n l) ∷ [])) e
                ∙ (look_last (each_once n l) (record { 0 = n }, times n l) (below_once n l) ∙ sym (ap (λ (k : ℕ). counted k l) e ∙ counted_some n l some))
            | inr ne ↦ look_snoc i (each_once n l) (record { 0 = n }, times n l) ne ∙ look_once n i l (omega (arith, h, ne))
          ]
    ]

look_each : (n i : ℕ) (l : List ThreadNo) → are_there n l ≡ true → look i (each_once n l) ≡ counted i l
look_each n i l there =
    elim (cases_lt i n) [
      | inl h ↦ look_once n i l h
      | inr h ↦ look_below i (each_once n l) (below_more n i (each_once n l) h (below_once n l)) ∙ sym (counted_none i l (times_high n i l there h))
    ]

-- counts in the order of their places

look_listed : (i : ℕ) (es : List (ℕ × ℕ)) → look i (listed_of es) ≡ lookup (nat_eq i) es
look_listed i [] = refl
look_listed i (e ∷ es) = ap (λ (o : Option ℕ). if i == e.0 then Some e.1 else o) (look_listed i es)

never : true ≡ false → ⊥
never h = cc h

next_above : (a b : ℕ) → is_lt (nat_cmp b a) ≡ false → nat_eq a b ≡ false → a < b
next_above a b no_less apart =
    let ne : a ≢ b = λ e. never (sym (eq-eqb a b e) ∙ apart) in
    elim (cases_lt b a) [
      | inl less ↦ absurd (never (sym (ap (λ (t : Bool). is_lt (cond t Less (cond (b == a) Equal Greater))) (lt-ltb b a less)) ∙ no_less))
      | inr le ↦ omega (arith, le, ne)
    ]

pub sorted_rises : (es : List (ℕ × ℕ)) → IsSorted nat_cmp (keys_of es) → IsDistinct nat_eq (keys_of es) → Rising (listed_of es)
unfolding IsDistinct
sorted_rises [] s d = tt
sorted_rises (e ∷ []) s d = (tt, tt)
sorted_rises (e ∷ f ∷ es) s d =
    let rest : Rising (listed_of (f ∷ es)) = sorted_rises (f ∷ es) later d.1 in
    let less : e.0 < f.0 = next_above e.0 f.0 (s 0 0 (omega arith) (omega arith)) d.0.0 in
    ((less, above_less e.0 f.0 (listed_of es) (omega (arith, less)) rest.0), rest)
  where
    later : IsSorted nat_cmp (keys_of (f ∷ es))
    later k x low high =
        let one : suc k + 1 ≡ suc (k + 1) = omega arith in
        subst (λ (n : ℕ). is_lt (nat_cmp (slice_index_or (keys_of (e ∷ f ∷ es)) n x) (slice_index_or (keys_of (f ∷ es)) k x)) ≡ false) one (s (suc k) x (omega arith) (omega (arith, high)))

pub each_counted : (n : ℕ) (l : List ThreadNo) (es : List (ℕ × ℕ)) → are_there n l ≡ true → AreCounts l es → Rising (listed_of es) → listed_of es ≡ each_once n l
each_counted n l es there counts rises =
    same_lists (listed_of es) (each_once n l) rises (rising_once n l) (λ i. look_listed i es ∙ (counts i ∙ sym (look_each n i l there)))

-- one count more
pub listed_more : (es : List (ℕ × ℕ)) (k : ℕ) (e : ℕ × ℕ) → slice_get es k ≡ Some e → listed_of (take (k + 1) es) ≡ listed_of (take k es) ++ (record { 0 = e.0 }, e.1) ∷ []
listed_more es k e at = ap listed_of (take_at es k e at) ∙ map-append (λ (x : ℕ × ℕ). (record { 0 = x.0 }, x.1)) (take k es) (e ∷ [])
  where
    take_at : (es : List (ℕ × ℕ)) (k : ℕ) (e : ℕ × ℕ) → slice_get es k ≡ Some e → take (k + 1) es ≡ take k es ++ e ∷ []
    take_at [] k e at = cc
    take_at (x ∷ es) zero e at = first es ∙ ap (λ (y : ℕ × ℕ). y ∷ []) (cc at)
      where
        first : (ys : List (ℕ × ℕ)) → take 1 (x ∷ ys) ≡ x ∷ []
        first [] = refl
        first (y ∷ ys) = refl
    take_at (x ∷ es) (suc k) e at =
        let one : suc k + 1 ≡ suc (k + 1) = omega arith in
        ap (λ (n : ℕ). take n (x ∷ es)) one ∙ ap (λ (l : List (ℕ × ℕ)). x ∷ l) (take_at es k e at)

pub then_ok : {X E : Type 0} {P Q : X → Type 0} (r : Result X E) → ((x : X) → P x → Q x) → IfOk r P → IfOk r Q
then_ok (Ok x) f h = f x h
then_ok (Err e) f h = tt
