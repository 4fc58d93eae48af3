-- Threads that are listed.
use Rattle.std.proofs.Common.{◌≡◌, ℤ, map, ap₂, ℕ, zero, suc, ◌+◌, ◌-◌, ◌<◌, ◌≤◌, nat_lt, Bool, true, ◌==◌, if◌then◌else◌, List, [], ◌∷◌, ◌++◌, length, take, refl, ap, sym, ◌∙◌, arith, slice_index, inl, inr, get_or, append_assoc, append-nil, ltb-true}
use Rattle.std.specs.List.{filter, list_all}
use Rattle.std.proofs.lemmas.Bool.{cases_Bool}
use Rattle.std.proofs.lemmas.Grind.{take_at_read}
use Rattle.std.proofs.lemmas.List.Sums.{sum_by-append}
use Rattle.ti_types.specs.declared.limits.Limits.{Limits}
use Rattle.ti_types.specs.declared.numbers.ThreadNo.{ThreadNo}
use Rattle.ti_types.specs.declared.numbers.EnvNo.{EnvNo}
use Rattle.ti_types.specs.declared.event.Event.{Event}
use Rattle.ti_types.specs.declared.event.Event.TheVariants.{Stop, Read, Go}
use Rattle.ti_report.specs.Doings.{looks, times, once, threads_from, every_thread}

times_snoc : (t : ThreadNo) (threads : List ThreadNo) (u : ThreadNo) → times t (threads ++ u ∷ []) ≡ times t threads + (if u.0 == t.0 then 1 else 0)
times_snoc t threads u = sum_by-append (λ (u : ThreadNo). if u.0 == t.0 then 1 else 0) threads (u ∷ []) ∙ grind arith

-- one more thread of a list
pub times_take : (t : ThreadNo) (threads : List ThreadNo) (i : ℕ) (d : ThreadNo) → i < length threads
    → times t (take (i + 1) threads) ≡ times t (take i threads) + (if (get_or threads i d).0 == t.0 then 1 else 0)
times_take t threads i d h =
    ap (times t) (take_at_read threads i d h).1 ∙ times_snoc t (take i threads) (get_or threads i d)

-- the next thread
pub threads_next : (first most : ℕ) → first < most → threads_from first (most - first) ≡ record { 0 = first } ∷ threads_from (first + 1) (most - (first + 1))
threads_next first most h =
    let e : most - first ≡ suc (most - (first + 1)) = omega (arith, h) in
    ap (threads_from first) e

once_from : (counts : List ℕ) (threads : List ThreadNo) (first n most : ℕ) → first + n ≤ most → ((t : ThreadNo) → t.0 < most → slice_index counts t.0 ≡ times t threads)
    → filter (λ t. nat_lt 0 (slice_index counts t.0)) (threads_from first n) ≡ filter (λ t. nat_lt 0 (times t threads)) (threads_from first n)
once_from counts threads first zero most h c = refl
once_from counts threads first (suc n) most h c =
    let here = c (record { 0 = first }) (omega (arith, h)) in
    let rest = once_from counts threads (first + 1) n most (omega (arith, h)) c in
    grind (arith, here, rest)

-- a table of how often each thread is listed says which are
pub once_is : (counts : List ℕ) (limits : Limits) (threads : List ThreadNo) → ((t : ThreadNo) → t.0 < limits.threads → slice_index counts t.0 ≡ times t threads)
    → filter (λ t. nat_lt 0 (slice_index counts t.0)) (every_thread limits) ≡ once limits threads
once_is counts limits threads c = once_from counts threads 0 limits.threads limits.threads (omega arith) c

-- the next thread, where it is counted
pub counted_next : (counts : List ℕ) (listed listed' : List ThreadNo) (n most : ℕ) (all : List ThreadNo) → n < most
    → listed' ≡ listed ++ (if nat_lt 0 (slice_index counts n) then record { 0 = n } ∷ [] else [])
    → listed ++ filter (λ t. nat_lt 0 (slice_index counts t.0)) (threads_from n (most - n)) ≡ all
    → listed' ++ filter (λ t. nat_lt 0 (slice_index counts t.0)) (threads_from (n + 1) (most - (n + 1))) ≡ all
counted_next counts listed listed' n most all h is inv =
    let p : ThreadNo → Bool = λ t. nat_lt 0 (slice_index counts t.0) in
    let x : ThreadNo = record { 0 = n } in
    let rest = threads_from (n + 1) (most - (n + 1)) in
    let next = ap (λ (l : List ThreadNo). listed ++ filter p l) (threads_next n most h) in
    elim (cases_Bool (nat_lt 0 (slice_index counts n))) [
      | inl yes' ↦
          let e : listed' ≡ listed ++ x ∷ [] = grind (arith, is, yes') in
          let f : filter p (x ∷ rest) ≡ x ∷ filter p rest = grind (arith, yes') in
          ap (λ (l : List ThreadNo). l ++ filter p rest) e ∙ append_assoc listed (x ∷ []) (filter p rest) ∙ ap (λ (l : List ThreadNo). listed ++ l) (sym f) ∙ sym next ∙ inv
      | inr no' ↦
          let e : listed' ≡ listed = is ∙ rw (no', append-nil) refl in
          let f : filter p (x ∷ rest) ≡ filter p rest = grind (arith, no') in
          ap (λ (l : List ThreadNo). l ++ filter p rest) e ∙ ap (λ (l : List ThreadNo). listed ++ l) (sym f) ∙ sym next ∙ inv
    ]

-- a test of listed threads that are all there may look them up in a table
pub all_alike : (f g : ThreadNo → Bool) (most : ℕ) (ts : List ThreadNo) → ((t : ThreadNo) → t.0 < most → f t ≡ g t) → list_all (λ t. nat_lt t.0 most) ts ≡ true → list_all f ts ≡ list_all g ts
all_alike f g most [] h k = refl
all_alike f g most (t ∷ ts) h k =
    let here : t.0 < most = ltb-true _ _ (grind (arith, k)) in
    let e = h t here in
    let r = all_alike f g most ts h (grind (arith, k)) in
    grind (arith, e, r)

-- of every thread
pub all_from : (f g : ThreadNo → Bool) (first n most : ℕ) → first + n ≤ most → ((t : ThreadNo) → t.0 < most → f t ≡ g t) → list_all f (threads_from first n) ≡ list_all g (threads_from first n)
all_from f g first zero most h e = refl
all_from f g first (suc n) most h e =
    let x = e (record { 0 = first }) (omega (arith, h)) in
    let r = all_from f g (first + 1) n most (omega (arith, h)) e in
    grind (arith, x, r)

-- the events of a look, added one after another
pub looks_are : (limits : Limits) (e : EnvNo) (ts : List ThreadNo) (n : ℤ) (listed one two : List ThreadNo) (none stops reads gos : List Event)
    → listed ≡ once limits ts → one ≡ listed → two ≡ listed → none ≡ [] → stops ≡ none ++ map (λ t. Stop e t) one → reads ≡ stops ++ map (λ t. Read e t n) ts → gos ≡ reads ++ map (λ t. Go e t) two
    → gos ≡ looks limits e ts n
looks_are limits e ts n listed one two none stops reads gos a b c d f g h =
    h ∙ ap (λ (l : List Event). l ++ map (λ t. Go e t) two) (g ∙ ap (λ (l : List Event). l ++ map (λ t. Read e t n) ts) (f ∙ ap (λ (l : List Event). l ++ map (λ t. Stop e t) one) d))
    ∙ append_assoc (map (λ t. Stop e t) one) (map (λ t. Read e t n) ts) (map (λ t. Go e t) two)
    ∙ ap₂ (λ (u v : List ThreadNo). map (λ t. Stop e t) u ++ (map (λ t. Read e t n) ts ++ map (λ t. Go e t) v)) (b ∙ a) (c ∙ a)
