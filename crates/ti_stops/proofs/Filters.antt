-- Filters of lists.
use Rattle.std.proofs.Common.{◌≡◌, Bool, true, false, not, List, [], ◌∷◌, refl, arith}
use Rattle.std.specs.List.{filter, list_any}

module _ {X : Type 0} (p q : X → Bool) where
  -- two filters in either order
  pub both_filter : (xs : List X) → filter p (filter q xs) ≡ filter q (filter p xs)
  both_filter [] = refl
  both_filter (x ∷ xs) = grind (arith, both_filter xs)

  -- what is looked for is among those that are kept
  pub any_filter : ((x : X) → p x ≡ true → q x ≡ true) → (xs : List X) → list_any p (filter q xs) ≡ list_any p xs
  any_filter h [] = refl
  any_filter h (x ∷ xs) = grind (arith, any_filter h xs, h x)

module _ {X : Type 0} where
  -- nothing goes where nothing is due
  pub none_goes : (f : X → Bool) (xs : List X) → list_any f xs ≡ false → filter (λ x. not (f x)) xs ≡ xs
  none_goes f [] h = refl
  none_goes f (x ∷ xs) h = grind (arith, none_goes f xs, h)

  pub any_more : (f g : X → Bool) → ((x : X) → f x ≡ true → g x ≡ true) → (xs : List X) → list_any f xs ≡ true → list_any g xs ≡ true
  any_more f g h [] k = k
  any_more f g h (x ∷ xs) k = grind (arith, any_more f g h xs, h x, k)

  -- two filters, of tests that agree on what is kept
  pub filters_agree : (p f g : X → Bool) → ((x : X) → p x ≡ true → f x ≡ g x) → (xs : List X) → filter p (filter (λ x. not (f x)) xs) ≡ filter (λ x. not (g x)) (filter p xs)
  filters_agree p f g h [] = refl
  filters_agree p f g h (x ∷ xs) = grind (arith, filters_agree p f g h xs, h x)
