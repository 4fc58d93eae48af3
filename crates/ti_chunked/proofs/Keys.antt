-- Binary searches: an index between what is below a key and what is not.
use Rattle.std.proofs.Common.{◌≡◌, ℕ, zero, suc, ◌+◌, ◌-◌, ◌/◌, ◌<◌, ◌≤◌, List, [], ◌∷◌, ◌++◌, length, map, Some, slice_get, slice_index, slice_index_or, refl, ap, sym, subst, ◌∙◌, arith}
use Rattle.std.proofs.lemmas.List.{length-append}
use Rattle.std.proofs.lemmas.Option.{slice_get_past, slice_get_read}
use Rattle.std.proofs.lemmas.Grind.{get_or_default_zero}
use Rattle.ti_chunked.specs.Chunks.{joined, starts_from}

-- what a loop knows: the element before `low` is of the one kind, and the element at `high` of the other
pub record IsBetween (X : Type 0) (B F : X → Type 0) (l : List X) (low high : ℕ) : Type 0 where
  pub order : low ≤ high
  pub there : high ≤ length l
  pub below : (i : ℕ) (x : X) → i + 1 ≡ low → slice_get l i ≡ Some x → B x
  pub from : (x : X) → slice_get l high ≡ Some x → F x

nothing_at : {A : Type 0} (i : ℕ) (y : A) → slice_get [] i ≡ Some y → ⊥
nothing_at i y e = cc

is_same : {A : Type 0} (x y : A) → Some x ≡ Some y → x ≡ y
is_same x y e = cc

nothing_past : {A : Type 0} (l : List A) (i : ℕ) (x : A) → length l ≤ i → slice_get l i ≡ Some x → ⊥
nothing_past l i x h e = let none = slice_get_past l i h in cc

module _ {X : Type 0} (B F : X → Type 0) (l : List X) where
  pub first : (n : ℕ) → n ≡ length l → IsBetween X B F l 0 n
  first n is = record {
    order = omega arith;
    there = omega (arith, is);
    below = λ i x at e. absurd (omega (arith, at));
    from = λ x e. absurd (nothing_past l n x (omega (arith, is)) e);
  }

  module _ (low high : ℕ) (was : IsBetween X B F l low high) (less : low < high) where
    pub middle : low + (high - low) / 2 < high
    middle = omega (arith, less)

    module _ (x : X) (read : x ≡ slice_index_or l (low + (high - low) / 2) x) where
      the_one : (i : ℕ) → i + 1 ≡ low + (high - low) / 2 + 1 → low + (high - low) / 2 ≡ i
      the_one i next = omega (arith, next)

      at : slice_get l (low + (high - low) / 2) ≡ Some x
      at = slice_get_read l (length l) (low + (high - low) / 2) x refl (omega (arith, middle, was.there)) read

      pub up : B x → IsBetween X B F l (low + (high - low) / 2 + 1) high
      up yes' = record {
        order = omega (arith, middle);
        there = was.there;
        below = λ i y next e. subst B (is_same x y (sym at ∙ ap (slice_get l) (the_one i next) ∙ e)) yes';
        from = was.from;
      }

      pub down : F x → IsBetween X B F l low (low + (high - low) / 2)
      down no' = record {
        order = omega arith;
        there = omega (arith, middle, was.there);
        below = was.below;
        from = λ y e. subst F (is_same x y (sym at ∙ e)) no';
      }

get_front : {A : Type 0} (l more : List A) (i : ℕ) → i < length l → slice_get (l ++ more) i ≡ slice_get l i
get_front [] more i h = absurd (omega (arith, h))
get_front (x ∷ l) more zero h = refl
get_front (x ∷ l) more (suc i) h = get_front l more i (omega (arith, h))

get_behind : {A : Type 0} (l more : List A) (i j : ℕ) → j ≡ length l + i → slice_get (l ++ more) j ≡ slice_get more i
get_behind [] more i j is = ap (slice_get more) (omega (arith, is))
get_behind (x ∷ l) more i zero is = absurd (omega (arith, is))
get_behind (x ∷ l) more i (suc j) is = get_behind l more i j (omega (arith, is))

module _ {X T : Type 0} (f : X → List T) (key : T → ℕ) (k : ℕ) where
  -- a chunk begins with a key that is not below, and so does what is behind the chunks before it
  front_from : (front : List T) (cs : List X) (w : ℕ) → w ≤ length front → ((x : T) → slice_get front w ≡ Some x → k ≤ key x) → ((v : X) → slice_get cs 0 ≡ Some v → 0 < length (f v))
      → ((v : X) (x : T) → slice_get cs 0 ≡ Some v → slice_get (f v) 0 ≡ Some x → k ≤ key x) → (x : T) → slice_get (front ++ joined (map f cs)) w ≡ Some x → k ≤ key x
  front_from [] [] w h own filled head x e = absurd (nothing_at w x e)
  front_from [] (v ∷ cs) zero h own filled head x e = head v x refl (sym (get_front (f v) (joined (map f cs)) 0 (filled v refl)) ∙ e)
  front_from [] (v ∷ cs) (suc w) h own filled head x e = absurd (omega (arith, h))
  front_from (y ∷ front) cs zero h own filled head x e = own x e
  front_from (y ∷ front) cs (suc w) h own filled head x e = front_from front cs w (omega (arith, h)) own filled head x e

  -- a chunk that begins with a key below has an element before the place that was found
  pub some_way : (l : List T) (w : ℕ) → 0 < length l → ((x : T) → slice_get l 0 ≡ Some x → key x < k) → ((x : T) → slice_get l w ≡ Some x → k ≤ key x) → 0 < w
  some_way [] w h below from = absurd (omega (arith, h))
  some_way (y ∷ l) zero h below from = let a = below y refl in let b = from y refl in absurd (omega (arith, a, b))
  some_way (y ∷ l) (suc w) h below from = omega arith

  no_earlier : (n : ℕ) (cs : List X) (c : ℕ) (v : X) → slice_get cs c ≡ Some v → n ≤ slice_index (starts_from n (map f cs)) c
  no_earlier n [] c v at = absurd (nothing_at c v at)
  no_earlier n (y ∷ cs) zero v at = omega arith
  no_earlier n (y ∷ cs) (suc c) v at = let z = no_earlier (n + length (f y)) cs c v at in omega (arith, z)

  chunk_within : (n : ℕ) (cs : List X) (c w : ℕ) (v : X) → slice_get cs c ≡ Some v → w ≤ length (f v) → slice_index (starts_from n (map f cs)) c + w ≤ n + length (joined (map f cs))
  chunk_within n [] c w v at h = absurd (nothing_at c v at)
  chunk_within n (y ∷ cs) zero w v at h = let is = ap (λ (u : X). length (f u)) (is_same y v at) in omega (arith, h, is, length-append (f y) (joined (map f cs)))
  chunk_within n (y ∷ cs) (suc c) w v at h = let z = chunk_within (n + length (f y)) cs c w v at h in omega (arith, z, length-append (f y) (joined (map f cs)))

  -- what is next to a place within a chunk, in the elements of all chunks
  chunk_from : (n : ℕ) (cs : List X) (c w i : ℕ) (v : X) → slice_get cs c ≡ Some v → w ≤ length (f v) → ((x : T) → slice_get (f v) w ≡ Some x → k ≤ key x) → ((u : X) → slice_get cs (suc c) ≡ Some u → 0 < length (f u))
      → ((u : X) (x : T) → slice_get cs (suc c) ≡ Some u → slice_get (f u) 0 ≡ Some x → k ≤ key x) → n + i ≡ slice_index (starts_from n (map f cs)) c + w → (x : T) → slice_get (joined (map f cs)) i ≡ Some x → k ≤ key x
  chunk_from n [] c w i v at h own filled head is x e = absurd (nothing_at c v at)
  chunk_from n (y ∷ cs) zero w i v at h own filled head is x e =
      let same : y ≡ v = is_same y v at in
      let here : i ≡ w = omega (arith, is) in
      let own' : (z : T) → slice_get (f y) w ≡ Some z → k ≤ key z = subst (λ (u : X). (z : T) → slice_get (f u) w ≡ Some z → k ≤ key z) (sym same) own in
      front_from (f y) cs w (omega (arith, h, ap (λ (u : X). length (f u)) same)) own' filled head x (ap (slice_get (f y ++ joined (map f cs))) (sym here) ∙ e)
  chunk_from n (y ∷ cs) (suc c) w i v at h own filled head is x e =
      let m = no_earlier (n + length (f y)) cs c v at in
      let there : i ≡ length (f y) + (i - length (f y)) = omega (arith, m, is) in
      chunk_from (n + length (f y)) cs c w (i - length (f y)) v at h own filled head (omega (arith, m, is)) x (sym (get_behind (f y) (joined (map f cs)) (i - length (f y)) i there) ∙ e)

  chunk_below : (n : ℕ) (cs : List X) (c w i : ℕ) (v : X) → slice_get cs c ≡ Some v → w ≤ length (f v) → 0 < w → ((j : ℕ) (x : T) → j + 1 ≡ w → slice_get (f v) j ≡ Some x → key x < k)
      → n + i + 1 ≡ slice_index (starts_from n (map f cs)) c + w → (x : T) → slice_get (joined (map f cs)) i ≡ Some x → key x < k
  chunk_below n [] c w i v at h some own is x e = absurd (nothing_at c v at)
  chunk_below n (y ∷ cs) zero w i v at h some own is x e =
      let same : y ≡ v = is_same y v at in
      let here : i < length (f y) = omega (arith, is, h, ap (λ (u : X). length (f u)) same) in
      own i x (omega (arith, is)) (ap (λ (u : X). slice_get (f u) i) (sym same) ∙ sym (get_front (f y) (joined (map f cs)) i here) ∙ e)
  chunk_below n (y ∷ cs) (suc c) w i v at h some own is x e =
      let m = no_earlier (n + length (f y)) cs c v at in
      let there : i ≡ length (f y) + (i - length (f y)) = omega (arith, m, is, some) in
      chunk_below (n + length (f y)) cs c w (i - length (f y)) v at h some own (omega (arith, m, is, some)) x (sym (get_behind (f y) (joined (map f cs)) (i - length (f y)) i there) ∙ e)

  -- a place in the first chunk
  module _ (front : List T) (cs : List X) (w : ℕ) (h : w ≤ length front) where
    pub first_within : w ≤ length (front ++ joined (map f cs))
    first_within = omega (arith, h, length-append front (joined (map f cs)))

    pub first_below : ((j : ℕ) (x : T) → j + 1 ≡ w → slice_get front j ≡ Some x → key x < k) → (j : ℕ) (x : T) → j + 1 ≡ w → slice_get (front ++ joined (map f cs)) j ≡ Some x → key x < k
    first_below own j x is e = own j x is (sym (get_front front (joined (map f cs)) j (omega (arith, is, h))) ∙ e)

    pub first_from : ((x : T) → slice_get front w ≡ Some x → k ≤ key x) → ((v : X) → slice_get cs 0 ≡ Some v → 0 < length (f v)) → ((v : X) (x : T) → slice_get cs 0 ≡ Some v → slice_get (f v) 0 ≡ Some x → k ≤ key x)
        → (x : T) → slice_get (front ++ joined (map f cs)) w ≡ Some x → k ≤ key x
    first_from own filled head x e = front_from front cs w h own filled head x e

  -- or in the chunk at a place of the others
  module _ (front : List T) (cs : List X) (ss : List ℕ) (c w s : ℕ) (v : X) (is : ss ≡ starts_from (length front) (map f cs)) (at : slice_get cs c ≡ Some v) (there : c < length ss) (h : w ≤ length (f v)) (read : s ≡ slice_index_or ss c s) where
    start_is : s ≡ slice_index (starts_from (length front) (map f cs)) c
    start_is = read ∙ get_or_default_zero ss c s there ∙ ap (λ (l : List ℕ). slice_index l c) is

    behind : length front ≤ s
    behind = omega (arith, start_is, no_earlier (length front) cs c v at)

    as_behind : (i : ℕ) → length front ≤ i → slice_get (front ++ joined (map f cs)) i ≡ slice_get (joined (map f cs)) (i - length front)
    as_behind i past =
        get_behind front (joined (map f cs)) (i - length front) i (omega (arith, past))

    pub other_within : s + w ≤ length (front ++ joined (map f cs))
    other_within = let z = chunk_within (length front) cs c w v at h in omega (arith, start_is, z, length-append front (joined (map f cs)))

    pub other_below : 0 < w → ((j : ℕ) (x : T) → j + 1 ≡ w → slice_get (f v) j ≡ Some x → key x < k) → (j : ℕ) (x : T) → j + 1 ≡ s + w → slice_get (front ++ joined (map f cs)) j ≡ Some x → key x < k
    other_below some own j x next e =
        let past : length front ≤ j = omega (arith, behind, some, next) in
        chunk_below (length front) cs c w (j - length front) v at h some own (omega (arith, past, next, start_is)) x (sym (as_behind j past) ∙ e)

    pub other_from : ((x : T) → slice_get (f v) w ≡ Some x → k ≤ key x) → ((u : X) → slice_get cs (suc c) ≡ Some u → 0 < length (f u)) → ((u : X) (x : T) → slice_get cs (suc c) ≡ Some u → slice_get (f u) 0 ≡ Some x → k ≤ key x)
        → (x : T) → slice_get (front ++ joined (map f cs)) (s + w) ≡ Some x → k ≤ key x
    other_from own filled head x e =
        let past : length front ≤ s + w = omega (arith, behind) in
        chunk_from (length front) cs c w (s + w - length front) v at h own filled head (omega (arith, past, start_is)) x (sym (as_behind (s + w) past) ∙ e)
