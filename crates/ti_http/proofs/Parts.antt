-- The parameters of a query, one part after another.
use Rattle.std.proofs.Common.{◌≡◌, ℕ, suc, ◌+◌, ◌<◌, ◌≤◌, Bool, true, false, not, cond, List, [], ◌∷◌, length, take, drop, Some, None, Option, refl, sym, ap, ◌∙◌, subst, arith}
use Rattle.std.specs.List.{slice_split, onto_first, position_or_len}
use Rattle.std.proofs.lemmas.List.Splits.{slice_split_first}
use Rattle.ti_http.specs.declared.params.Params.{Params}
use Rattle.ti_http.specs.Targets.{is_byte, and_then, with_part, with_parts}

-- where nothing passes, the whole is one part
one_part : (p : ℕ → Bool) (xs : List ℕ) → length xs ≤ position_or_len p xs → slice_split p xs ≡ xs ∷ []
one_part p [] h = refl
one_part p (x ∷ xs) h = by_test (p x) h (one_part p xs)
  where
    by_test : (t : Bool) → suc (length xs) ≤ cond (not t) (1 + position_or_len p xs) 0 → (length xs ≤ position_or_len p xs → slice_split p xs ≡ xs ∷ []) → cond t ([] ∷ slice_split p xs) (onto_first x (slice_split p xs)) ≡ (x ∷ xs) ∷ []
    by_test true h later = absurd (omega arith)
    by_test false h later = ap (onto_first x) (later (omega arith))

first_part : (p : Params) (rest : List ℕ) (at : ℕ) → at ≡ position_or_len (is_byte 38) rest → at < length rest → with_parts p (slice_split (is_byte 38) rest) ≡ and_then (with_part p (take at rest)) (λ q. with_parts q (slice_split (is_byte 38) (drop (at + 1) rest)))
first_part p rest at is inside =
    let split : slice_split (is_byte 38) rest ≡ take at rest ∷ slice_split (is_byte 38) (drop (at + 1) rest) =
    subst (λ (n : ℕ). slice_split (is_byte 38) rest ≡ take n rest ∷ slice_split (is_byte 38) (drop (n + 1) rest)) (sym is)
    (slice_split_first (is_byte 38) rest 0 (omega (arith, is))) in
    ap (with_parts p) split

-- a part more that is one
pub goes_on : (p q : Params) (rest : List ℕ) (at : ℕ) → at ≡ position_or_len (is_byte 38) rest → at < length rest → with_part p (take at rest) ≡ Some q → with_parts q (slice_split (is_byte 38) (drop (at + 1) rest)) ≡ with_parts p (slice_split (is_byte 38) rest)
goes_on p q rest at is inside one =
    sym (first_part p rest at is inside ∙ ap (λ t. and_then t (λ q. with_parts q (slice_split (is_byte 38) (drop (at + 1) rest)))) one)

-- a part that is none
pub stops : (p : Params) (rest : List ℕ) (at : ℕ) → at ≡ position_or_len (is_byte 38) rest → at < length rest → with_part p (take at rest) ≡ None → None ≡ with_parts p (slice_split (is_byte 38) rest)
stops p rest at is inside none =
    sym (first_part p rest at is inside ∙ ap (λ t. and_then t (λ q. with_parts q (slice_split (is_byte 38) (drop (at + 1) rest)))) none)

some_or_none : (o : Option Params) → o ≡ and_then o (λ q. Some q)
some_or_none None = refl
some_or_none (Some q) = refl

-- the part behind the end of the others
pub last_part : (p : Params) (rest : List ℕ) → length rest ≤ position_or_len (is_byte 38) rest → with_part p rest ≡ with_parts p (slice_split (is_byte 38) rest)
last_part p rest h = some_or_none (with_part p rest) ∙ sym (ap (with_parts p) (one_part (is_byte 38) rest h))
