-- Names by what they are read as.
use Rattle.std.proofs.Common.{◌≡◌, ℕ, ◌+◌, ◌<◌, ◌≤◌, List, [], ◌∷◌, length, map, Bool, not, ◌||◌, refl, ap, sym, subst, arith, ◌⊎◌, inl, inr, position, slice_get, unwrap_or, string_bytes, String, Global}
use Rattle.std.proofs.lemmas.Option.{slice_get_cases}
use Rattle.std.proofs.lemmas.Bool.{cases_order}
use mathlib.Core.Logic.{⊎_elim}
use Rattle.ti_script.specs.Bounds.{AreNamesWithin, AreWithinBelow}
use Rattle.std.specs.List.{list_any, prefix_len}
use Rattle.std.specs.Str.{bytes_eq}
use Rattle.ti_script.specs.Names.{number_in, is_among}

list_any_of_map : {X Y : Type 0} (p : Y → Bool) (f : X → Y) → (xs : List X) → list_any p (map f xs) ≡ list_any (λ x. p (f x)) xs
list_any_of_map p f [] = refl
list_any_of_map p f (x ∷ xs) = ap (λ b. p (f x) || b) (list_any_of_map p f xs)

prefix_len_of_map : {X Y : Type 0} (p : Y → Bool) (f : X → Y) → (xs : List X) → prefix_len p (map f xs) ≡ prefix_len (λ x. p (f x)) xs
prefix_len_of_map p f [] = refl
prefix_len_of_map p f (x ∷ xs) = simp (prefix_len_of_map p f xs) refl

length_of_map : {X Y : Type 0} (f : X → Y) → (xs : List X) → length (map f xs) ≡ length xs
length_of_map f [] = refl
length_of_map f (x ∷ xs) = simp (length_of_map f xs) refl

-- the place of a name among the names is its place among the texts
pub number_in_texts : (texts : List (String Global)) (name : List ℕ) → number_in (map string_bytes texts) name ≡ position (λ k. bytes_eq name (string_bytes k)) texts
number_in_texts texts name = simp (prefix_len_of_map (λ k. not (bytes_eq name k)) string_bytes texts, length_of_map string_bytes texts) refl

pub is_among_texts : (texts : List (String Global)) (name : List ℕ) → is_among (map string_bytes texts) name ≡ list_any (λ k. bytes_eq name (string_bytes k)) texts
is_among_texts texts name = list_any_of_map (bytes_eq name) string_bytes texts

is_below : (k at : ℕ) → k < at + 1 → (k ≡ at) ⊎ ((k < at) ⊎ (at < k)) → (k < at) ⊎ (k ≡ at)
is_below k at h (inl e) = inr e
is_below k at h (inr (inl l)) = inl l
is_below k at h (inr (inr g)) = absurd (omega arith)

below_or_last : (k at : ℕ) → k < at + 1 → (k < at) ⊎ (k ≡ at)
below_or_last k at h = is_below k at h (cases_order k at)

-- names before one, and that one
pub within_more : (names : List (List ℕ)) (at most longer : ℕ) → AreWithinBelow most at names → most ≤ longer → length (unwrap_or (slice_get names at) []) ≤ longer → AreWithinBelow longer (at + 1) names
within_more names at most longer before grows last k h = ⊎_elim
    (λ l. let old = before k l in omega (arith, old))
    (λ e. subst (λ i. length (unwrap_or (slice_get names i) []) ≤ longer) (sym e) last)
    (below_or_last k at h)

-- there is no name past the last
pub within_all : (names : List (List ℕ)) (most : ℕ) → AreWithinBelow most (length names) names → AreNamesWithin most names
within_all names most below k = ⊎_elim
    (λ there. below k there.1)
    (λ past. subst (λ x. length (unwrap_or x []) ≤ most) (sym past.1) (omega arith))
    (slice_get_cases names k).1

pub ruleset within = (within_more, within_all)
