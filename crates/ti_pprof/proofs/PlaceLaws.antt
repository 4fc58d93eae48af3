use Rattle.std.proofs.Common.{◌≡◌, ℕ, ◌+◌, ◌||◌, Bool, true, false, cond, not, nat_lt, if◌then◌else◌, List, [], ◌∷◌, ◌++◌, length, map, position, Some, None, arith, refl, ap, sym, ◌∙◌}
use Rattle.std.specs.List.{list_any, position_or_len}
use Rattle.std.proofs.lemmas.Bool.Decides.{nat_tests}
use Rattle.std.proofs.lemmas.List.{map-append}
use Rattle.std.proofs.lemmas.List.Sums.{prefix_len-le-length}
use Rattle.indexmap.specs.IndexSet.{insert_key}

module _ {X Y : Type 0} (p : Y → Bool) (f : X → Y) where
  -- the place of what f makes of an element is the place of the element
  pub position_or_len-map : (xs : List X) → position_or_len p (map f xs) ≡ position_or_len (λ x. p (f x)) xs
  position_or_len-map [] = refl
  position_or_len-map (x ∷ xs) = ap (λ n. cond (not (p (f x))) (1 + n) 0) (position_or_len-map xs)

  -- and one is there if the other is
  pub list_any-map : (xs : List X) → list_any p (map f xs) ≡ list_any (λ x. p (f x)) xs
  list_any-map [] = refl
  list_any-map (x ∷ xs) = ap (λ b. p (f x) || b) (list_any-map xs)

-- what f makes of the keys behind an insertion
pub map-insert_key : {X Y : Type 0} (eq : Y → Y → Bool) (f : X → Y) (ks : List X) (k : X)
    → map f (insert_key (λ a b. eq (f a) (f b)) ks k) ≡ insert_key eq (map f ks) (f k)
map-insert_key eq f ks k = by (list_any (λ x. eq (f k) (f x)) ks) refl
  where
    by : (b : Bool) → list_any (λ x. eq (f k) (f x)) ks ≡ b → map f (insert_key (λ a c. eq (f a) (f c)) ks k) ≡ insert_key eq (map f ks) (f k)
    by true e =
        ap (λ b. map f (if b then ks else ks ++ k ∷ [])) e
        ∙ sym (ap (λ b. if b then map f ks else map f ks ++ f k ∷ []) (list_any-map (eq (f k)) f ks ∙ e))
    by false e =
        ap (λ b. map f (if b then ks else ks ++ k ∷ [])) e ∙ map-append f ks (k ∷ [])
        ∙ sym (ap (λ b. if b then map f ks else map f ks ++ f k ∷ []) (list_any-map (eq (f k)) f ks ∙ e))

module _ {X : Type 0} (p : X → Bool) (xs : List X) where
  -- the index that was found is the place
  pub position_or_len-Some : (i : ℕ) → position p xs ≡ Some i → position_or_len p xs ≡ i
  position_or_len-Some i h = by (nat_lt (position_or_len p xs) (length xs)) h
    where
      by : (b : Bool) → cond b (Some (position_or_len p xs)) None ≡ Some i → position_or_len p xs ≡ i
      by true e = cc
      by false e = absurd (cc)

  -- where none was found, the place is behind the last
  pub position_or_len-None : position p xs ≡ None → position_or_len p xs ≡ length xs
  position_or_len-None h = by (nat_lt (position_or_len p xs) (length xs)) refl h
    where
      by : (b : Bool) → nat_lt (position_or_len p xs) (length xs) ≡ b → cond b (Some (position_or_len p xs)) None ≡ None → position_or_len p xs ≡ length xs
      by true t e = absurd (cc)
      by false t e = grind (arith, nat_tests, prefix_len-le-length (λ x. not (p x)) xs)
