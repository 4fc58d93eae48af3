-- Lists that are read by index.
use Rattle.std.proofs.Common.{◌≡◌, ◌≢◌, ◌⊎◌, ℕ, zero, suc, ◌<◌, ◌≤◌, List, [], ◌∷◌, ◌++◌, length, take, Some, refl, sym, ap, ◌∙◌, inl, inr, arith, map}
use Rattle.std.specs.Prelude.{replicate, slice_get, slice_index_or, slice_set}
use Rattle.std.specs.List.{remove}

pub is_same : {A : Type 0} (x y : A) → Some x ≡ Some y → x ≡ y
is_same x y e = cc

pub nothing_at : {A : Type 0} (i : ℕ) (y : A) → slice_get [] i ≡ Some y → ⊥
nothing_at i y e = cc

pub get_within : {A : Type 0} (l : List A) (i : ℕ) (y : A) → slice_get l i ≡ Some y → i < length l
get_within [] i y e = absurd (nothing_at i y e)
get_within (x ∷ l) zero y e = omega arith
get_within (x ∷ l) (suc i) y e = let h = get_within l i y e in omega (arith, h)

pub get_front : {A : Type 0} (l more : List A) (i : ℕ) → i < length l → slice_get (l ++ more) i ≡ slice_get l i
get_front [] more i h = absurd (omega (arith, h))
get_front (x ∷ l) more zero h = refl
get_front (x ∷ l) more (suc i) h = get_front l more i (omega (arith, h))

pub get_last : {A : Type 0} (l : List A) (x : A) (i : ℕ) → i ≡ length l → slice_get (l ++ x ∷ []) i ≡ Some x
get_last [] x zero h = refl
get_last [] x (suc i) h = absurd (omega (arith, h))
get_last (y ∷ l) x zero h = absurd (omega (arith, h))
get_last (y ∷ l) x (suc i) h = get_last l x i (omega (arith, h))

pub get_end : {A : Type 0} (l : List A) (x y : A) (i : ℕ) → slice_get (l ++ x ∷ []) i ≡ Some y → (slice_get l i ≡ Some y) ⊎ (x ≡ y)
get_end [] x y zero e = inr (is_same x y e)
get_end [] x y (suc i) e = absurd (nothing_at i y e)
get_end (z ∷ l) x y zero e = inl e
get_end (z ∷ l) x y (suc i) e = get_end l x y i e

pub set_here : {A : Type 0} (l : List A) (i : ℕ) (x : A) → i < length l → slice_get (slice_set l i x) i ≡ Some x
set_here [] i x h = absurd (omega (arith, h))
set_here (y ∷ l) zero x h = refl
set_here (y ∷ l) (suc i) x h = set_here l i x (omega (arith, h))

pub set_other : {A : Type 0} (l : List A) (i j : ℕ) (x : A) → j ≢ i → slice_get (slice_set l i x) j ≡ slice_get l j
set_other [] i j x other = refl
set_other (y ∷ l) zero zero x other = absurd (other refl)
set_other (y ∷ l) zero (suc j) x other = refl
set_other (y ∷ l) (suc i) zero x other = refl
set_other (y ∷ l) (suc i) (suc j) x other = set_other l i j x (λ same. other (ap suc same))

pub remove_get : {A : Type 0} (l : List A) (i j : ℕ) (y : A) → slice_get (remove l i) j ≡ Some y → (k : ℕ) × (slice_get l k ≡ Some y)
remove_get [] zero j y e = absurd (nothing_at j y e)
remove_get [] (suc i) j y e = absurd (nothing_at j y e)
remove_get (x ∷ l) zero j y e = (suc j, e)
remove_get (x ∷ l) (suc i) zero y e = (0, e)
remove_get (x ∷ l) (suc i) (suc j) y e = let r = remove_get l i j y e in (suc r.0, r.1)

pub map_remove : {A B : Type 0} (f : A → B) (l : List A) (i : ℕ) → map f (remove l i) ≡ remove (map f l) i
map_remove f [] zero = refl
map_remove f [] (suc i) = refl
map_remove f (x ∷ l) zero = refl
map_remove f (x ∷ l) (suc i) = ap (λ r. f x ∷ r) (map_remove f l i)

pub get_map : {A B : Type 0} (f : A → B) (l : List A) (i : ℕ) (y : A) → slice_get l i ≡ Some y → slice_get (map f l) i ≡ Some (f y)
get_map f [] i y e = absurd (nothing_at i y e)
get_map f (x ∷ l) zero y e = ap (λ z. Some (f z)) (is_same x y e)
get_map f (x ∷ l) (suc i) y e = get_map f l i y e

pub get_replicated : {A : Type 0} (n i : ℕ) (x : A) → i < n → slice_get (replicate n x) i ≡ Some x
get_replicated zero i x h = absurd (omega (arith, h))
get_replicated (suc n) zero x h = refl
get_replicated (suc n) (suc i) x h = get_replicated n i x (omega (arith, h))

-- two lists of one length whose elements are alike
pub alike_map : {A B : Type 0} (f : A → B) (old new : List A) → length new ≡ length old → ((i : ℕ) (p q : A) → slice_get old i ≡ Some p → slice_get new i ≡ Some q → f q ≡ f p) → map f new ≡ map f old
alike_map f [] [] len same = refl
alike_map f [] (q ∷ new) len same = absurd (omega (arith, len))
alike_map f (p ∷ old) [] len same = absurd (omega (arith, len))
alike_map f (p ∷ old) (q ∷ new) len same =
    ap (λ y. y ∷ map f new) (same 0 p q refl refl) ∙ ap (λ r. f p ∷ r) (alike_map f old new (omega (arith, len)) (λ i a b. same (suc i) a b))

pub get_there : {A : Type 0} (l : List A) (i : ℕ) → i < length l → (y : A) × (slice_get l i ≡ Some y)
get_there [] i h = absurd (omega (arith, h))
get_there (x ∷ l) zero h = (x, refl)
get_there (x ∷ l) (suc i) h = get_there l i (omega (arith, h))

pub length_map : {A B : Type 0} (f : A → B) (l : List A) → length (map f l) ≡ length l
length_map f [] = refl
length_map f (x ∷ l) = ap suc (length_map f l)

pub length_set : {A : Type 0} (l : List A) (i : ℕ) (x : A) → length (slice_set l i x) ≡ length l
length_set [] i x = refl
length_set (y ∷ l) zero x = refl
length_set (y ∷ l) (suc i) x = ap suc (length_set l i x)

pub take_past : {A : Type 0} (l : List A) (n : ℕ) → length l ≤ n → take n l ≡ l
take_past [] zero h = refl
take_past [] (suc n) h = refl
take_past (x ∷ l) zero h = absurd (omega (arith, h))
take_past (x ∷ l) (suc n) h = ap (λ r. x ∷ r) (take_past l n (omega (arith, h)))

pub at_index : {A : Type 0} (l : List A) (k : ℕ) (d : A) → k < length l → slice_get l k ≡ Some (slice_index_or l k d)
at_index [] k d h = absurd (omega (arith, h))
at_index (x ∷ xs) zero d h = refl
at_index (x ∷ xs) (suc k) d h = at_index xs k d (omega (arith, h))

-- what code reads at an index
pub read_at : {A : Type 0} (l : List A) (k : ℕ) (d : A) → k < length l → d ≡ slice_index_or l k d → slice_get l k ≡ Some d
read_at l k d h is = at_index l k d h ∙ ap (λ x. Some x) (sym is)
