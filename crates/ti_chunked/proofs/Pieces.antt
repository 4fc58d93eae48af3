-- The same of a first chunk with those behind it, as a chunked list has them.
use Rattle.std.proofs.Common.{◌≡◌, ℕ, zero, suc, ◌+◌, ◌-◌, ◌<◌, ◌≤◌, List, [], ◌∷◌, ◌++◌, length, map, take, drop, slice_index, slice_index_or, slice_set, refl, ap, ap₂, sym, subst, ◌∙◌, arith}
use Rattle.std.specs.List.{remove}
use Rattle.std.proofs.lemmas.List.{length-append, length-map, length-set, get_or-map, drop-map, map-append, map-set, take-map, get_or-append_right, set-append_right}
use Rattle.std.proofs.lemmas.List.Edits.{get_or-remove_below, length-remove, remove-append_right}
use Rattle.std.proofs.lemmas.Grind.{get_or_default_zero}
use Rattle.ti_chunked.specs.Chunks.{ArePositive, HasIndex, joined, lowered, starts_from}
use Rattle.ti_chunked.proofs.Cutting.{all_lower, all_positive, element, found, later_lower, later_positive, length-starts_from, more_joined, more_starts, not_before, pushed, pushed_starts, reaches, replaced, same_starts, starts_before, taken_out, two_joined, two_starts}

module _ {X T : Type 0} (f : X → List T) (front : List T) where
  -- there are chunks behind the first one, if it does not have the index
  pub some_chunk : (cs : List X) (ss : List ℕ) (i : ℕ) → ss ≡ starts_from (length front) (map f cs) → length front ≤ i → i < length (front ++ joined (map f cs)) → 0 < length ss
  some_chunk [] ss i is behind there = absurd (omega (arith, behind, there, length-append front []))
  some_chunk (x ∷ cs) ss i is behind there = omega (arith, ap (λ (l : List ℕ). length l) is)

  pub first_start : (cs : List X) (ss : List ℕ) (i : ℕ) → ss ≡ starts_from (length front) (map f cs) → length front ≤ i → slice_index ss 0 ≤ i
  first_start [] ss i is behind = omega (arith, ap (λ (l : List ℕ). slice_index l 0) is)
  first_start (x ∷ cs) ss i is behind = omega (arith, behind, ap (λ (l : List ℕ). slice_index l 0) is)

  -- an element is taken out of the first chunk
  pub front_starts : (cs : List X) (ss : List ℕ) (i : ℕ) → ss ≡ starts_from (length front) (map f cs) → i < length front → lowered zero ss ≡ starts_from (length (remove front i)) (map f cs)
  front_starts cs ss i is h =
      let less = length-remove front i h in
      let at : length front - 1 ≡ length (remove front i) = omega (arith, less) in
      ap (lowered zero) is ∙ sym (all_lower (length front) (map f cs) (omega (arith, h))) ∙ ap (λ (n : ℕ). starts_from n (map f cs)) at

  pub front_positive : (cs : List X) (ss : List ℕ) (i : ℕ) → ss ≡ starts_from (length front) (map f cs) → i < length front → ArePositive zero ss
  front_positive cs ss i is h = subst (λ (l : List ℕ). ArePositive zero l) (sym is) (all_positive (length front) (map f cs) (omega (arith, h)))

  module _ (cs : List X) (ss : List ℕ) (c i : ℕ) (is : ss ≡ starts_from (length front) (map f cs)) where
    pub in_chunks : c < length ss → c < length cs
    in_chunks h = omega (arith, h, ap (λ (l : List ℕ). length l) is, length-starts_from (length front) (map f cs), length-map cs f)

    -- the chunk that was found
    pub has_index : i < length (front ++ joined (map f cs)) → c < length ss → slice_index ss c ≤ i → (c + 1 < length ss → i < slice_index ss (c + 1)) → HasIndex (length front) (map f cs) c i
    has_index there h from below =
        let count = length-starts_from (length front) (map f cs) in
        let same = ap (λ (l : List ℕ). length l) is in
        let next : c + 1 ≡ suc c = omega arith in
        found (length front) (map f cs) c i (omega (arith, h, same, count)) (subst (λ (l : List ℕ). slice_index l c ≤ i) is from)
        (λ more. subst (λ (l : List ℕ). i < slice_index l (suc c)) is (subst (λ (k : ℕ). i < slice_index ss k) next (below (omega (arith, more, same, count))))) (omega (arith, there, length-append front (joined (map f cs))))

    module _ (has : HasIndex (length front) (map f cs) c i) (h : c < length ss) where
      -- where it starts
      start_is : (s : ℕ) → s ≡ slice_index_or ss c s → s ≡ slice_index (starts_from (length front) (map f cs)) c
      start_is s e = e ∙ get_or_default_zero ss c s h ∙ ap (λ (l : List ℕ). slice_index l c) is

      pub starts_at : (s : ℕ) → s ≡ slice_index_or ss c s → s ≤ i
      starts_at s e = omega (arith, start_is s e, starts_before (length front) (map f cs) c i [] has)

      module _ (v : X) (at : v ≡ slice_index_or cs c v) where
        chunk_is : slice_index_or (map f cs) c [] ≡ f v
        chunk_is = get_or-map f cs c v [] (in_chunks h) ∙ ap f (sym at)

        module _ (s : ℕ) (e : s ≡ slice_index_or ss c s) where
          -- the index within the chunk
          pub offset : i - s < length (f v)
          offset = omega (arith, start_is s e, ap (λ (l : List T). length l) chunk_is, reaches (length front) (map f cs) c i [] has)

          pub value : (d : T) → slice_index_or (front ++ joined (map f cs)) i d ≡ slice_index_or (f v) (i - s) d
          value d =
              get_or-append_right front (joined (map f cs)) (length front) i d refl (not_before (length front) (map f cs) c i has)
              ∙ element (length front) (map f cs) c i [] d has
              ∙ ap (λ (l : List T). slice_index_or l (i - slice_index (starts_from (length front) (map f cs)) c) d) chunk_is
              ∙ ap (λ (k : ℕ). slice_index_or (f v) (i - k) d) (sym (start_is s e))

          -- what is in place of the chunk
          chunk_set : (w : X) (y : List T) → f w ≡ y → map f (slice_set cs c w) ≡ slice_set (map f cs) c y
          chunk_set w y same = map-set f cs c w ∙ ap (λ (l : List T). slice_set (map f cs) c l) same

          -- an element is replaced
          pub lent : (w : X) (x : T) → f w ≡ slice_set (f v) (i - s) x → front ++ joined (map f (slice_set cs c w)) ≡ slice_set (front ++ joined (map f cs)) i x
          lent w x same =
              let y = same ∙ ap (λ (l : List T). slice_set l (i - s) x) (sym chunk_is) ∙ ap (λ (k : ℕ). slice_set (slice_index_or (map f cs) c []) (i - k) x) (start_is s e) in
              ap (λ (l : List (List T)). front ++ joined l) (chunk_set w _ y)
              ∙ ap (λ (l : List T). front ++ l) (replaced (length front) (map f cs) c i [] x has)
              ∙ sym (set-append_right front (joined (map f cs)) (length front) i x refl (not_before (length front) (map f cs) c i has))

          pub lent_starts : (w : X) → length (f w) ≡ length (f v) → ss ≡ starts_from (length front) (map f (slice_set cs c w))
          lent_starts w same =
              is
              ∙ sym (same_starts (length front) (map f cs) c [] (f w) (same ∙ ap (λ (l : List T). length l) (sym chunk_is)))
              ∙ ap (λ (l : List (List T)). starts_from (length front) l) (sym (chunk_set w (f w) refl))

          -- an element is taken out
          gone : (w : X) → f w ≡ remove (f v) (i - s) → f w ≡ remove (slice_index_or (map f cs) c []) (i - slice_index (starts_from (length front) (map f cs)) c)
          gone w same = same ∙ ap (λ (l : List T). remove l (i - s)) (sym chunk_is) ∙ ap (λ (k : ℕ). remove (slice_index_or (map f cs) c []) (i - k)) (start_is s e)

          pub removed : (w : X) → f w ≡ remove (f v) (i - s) → front ++ joined (map f (slice_set cs c w)) ≡ remove (front ++ joined (map f cs)) i
          removed w same =
              ap (λ (l : List (List T)). front ++ joined l) (chunk_set w _ (gone w same))
              ∙ ap (λ (l : List T). front ++ l) (taken_out (length front) (map f cs) c i [] has)
              ∙ sym (remove-append_right front (joined (map f cs)) (length front) i refl (not_before (length front) (map f cs) c i has))

          pub removed_starts : (w : X) → f w ≡ remove (f v) (i - s) → starts_from (length front) (map f (slice_set cs c w)) ≡ lowered (suc c) ss
          removed_starts w same =
              ap (λ (l : List (List T)). starts_from (length front) l) (chunk_set w _ (gone w same))
              ∙ later_lower (length front) (map f cs) c i [] has
              ∙ ap (lowered (suc c)) (sym is)

      pub removed_positive : ArePositive (suc c) ss
      removed_positive = subst (λ (l : List ℕ). ArePositive (suc c) l) (sym is) (later_positive (length front) (map f cs) c i has)

module _ {X T : Type 0} (f : X → List T) where
  -- a chunk is replaced by one with the same elements
  pub same_set : (cs : List X) (c : ℕ) (v w : X) → c < length cs → v ≡ slice_index_or cs c v → f w ≡ f v → map f (slice_set cs c w) ≡ map f cs
  same_set [] c v w h at same = absurd (omega (arith, h))
  same_set (x ∷ cs) zero v w h at same = ap (λ (l : List T). l ∷ map f cs) (same ∙ ap f at)
  same_set (x ∷ cs) (suc c) v w h at same = ap (λ (l : List (List T)). f x ∷ l) (same_set cs c v w (omega (arith, h)) at same)

  -- two chunks are joined
  pub map_remove : (cs : List X) (c : ℕ) → map f (remove cs c) ≡ remove (map f cs) c
  map_remove cs c = map-append f (take c cs) (drop (suc c) cs) ∙ ap₂ (λ (a b : List (List T)). a ++ b) (sym (take-map f c cs)) (sym (drop-map f (suc c) cs))

  joined_set : (cs : List X) (c : ℕ) (v y w : X) → suc c < length cs → v ≡ slice_index_or cs c v → y ≡ slice_index_or cs (suc c) y → f w ≡ f v ++ f y
      → map f (slice_set (remove cs (suc c)) c w) ≡ slice_set (remove (map f cs) (suc c)) c (slice_index_or (map f cs) c [] ++ slice_index_or (map f cs) (suc c) [])
  joined_set cs c v y w h at behind same =
      let one = get_or-map f cs c v [] (omega (arith, h)) ∙ ap f (sym at) in
      let two = get_or-map f cs (suc c) y [] h ∙ ap f (sym behind) in
      map-set f (remove cs (suc c)) c w
      ∙ ap (λ (l : List (List T)). slice_set l c (f w)) (map_remove cs (suc c))
      ∙ ap (λ (l : List T). slice_set (remove (map f cs) (suc c)) c l) (same ∙ ap₂ (λ (a b : List T). a ++ b) (sym one) (sym two))

  pub joined_same : (cs : List X) (c : ℕ) (v y w : X) → suc c < length cs → v ≡ slice_index_or cs c v → y ≡ slice_index_or cs (suc c) y → f w ≡ f v ++ f y
      → joined (map f (slice_set (remove cs (suc c)) c w)) ≡ joined (map f cs)
  joined_same cs c v y w h at behind same =
      ap (λ (l : List (List T)). joined l) (joined_set cs c v y w h at behind same) ∙ two_joined (map f cs) c [] (omega (arith, h, length-map cs f))

  pub joined_starts : (cs : List X) (ss : List ℕ) (c : ℕ) (v y w : X) → suc c < length cs → v ≡ slice_index_or cs c v → y ≡ slice_index_or cs (suc c) y → f w ≡ f v ++ f y
      → (n : ℕ) → ss ≡ starts_from n (map f cs) → remove ss (suc c) ≡ starts_from n (map f (slice_set (remove cs (suc c)) c w))
  joined_starts cs ss c v y w h at behind same n is =
      ap (λ (l : List ℕ). remove l (suc c)) is
      ∙ sym (two_starts n (map f cs) c [] (omega (arith, h, length-map cs f)))
      ∙ ap (λ (l : List (List T)). starts_from n l) (sym (joined_set cs c v y w h at behind same))

  -- what `join` does, step by step
  module _ (cs two left : List X) (c k : ℕ) (v r one y w : X) (next : k ≡ suc c) (h : k < length cs) (at : v ≡ slice_index_or cs c v) (room : f r ≡ f v) (two_is : two ≡ slice_set cs c r)
      (left_is : left ≡ remove two k) (one_at : one ≡ slice_index_or left c one) (y_at : y ≡ slice_index_or two k y) (both : f w ≡ f one ++ f y) where
    same_two : map f two ≡ map f cs
    same_two = ap (map f) two_is ∙ same_set cs c v r (omega (arith, h, next)) at room

    more : suc c < length two
    more = omega (arith, h, next, ap (λ (l : List X). length l) two_is, length-set cs c r)

    left_next : left ≡ remove two (suc c)
    left_next = left_is ∙ ap (λ (n : ℕ). remove two n) next

    one_there : one ≡ slice_index_or two c one
    one_there = one_at ∙ ap (λ (l : List X). slice_index_or l c one) left_next ∙ get_or-remove_below two (suc c) one c (omega arith) more

    y_there : y ≡ slice_index_or two (suc c) y
    y_there = y_at ∙ ap (λ (n : ℕ). slice_index_or two n y) next

    pub join_same : joined (map f (slice_set left c w)) ≡ joined (map f cs)
    join_same =
        ap (λ (l : List X). joined (map f (slice_set l c w))) left_next
        ∙ joined_same two c one y w more one_there y_there both
        ∙ ap (λ (l : List (List T)). joined l) same_two

    pub join_starts : (ss : List ℕ) (n : ℕ) → ss ≡ starts_from n (map f cs) → remove ss k ≡ starts_from n (map f (slice_set left c w))
    join_starts ss n is =
        ap (λ (i : ℕ). remove ss i) next
        ∙ joined_starts two ss c one y w more one_there y_there both n (is ∙ ap (λ (l : List (List T)). starts_from n l) (sym same_two))
        ∙ ap (λ (l : List X). starts_from n (map f (slice_set l c w))) (sym left_next)

  -- an element is pushed into the last chunk, which was there or is new
  pub last_pushed : (cs : List X) (c : ℕ) (v w : X) (e : T) → suc c ≡ length cs → v ≡ slice_index_or cs c v → f w ≡ f v ++ e ∷ [] → joined (map f (slice_set cs c w)) ≡ joined (map f cs) ++ e ∷ []
  last_pushed cs c v w e h at same =
      let one = get_or-map f cs c v [] (omega (arith, h)) ∙ ap f (sym at) in
      ap (λ (l : List (List T)). joined l) (map-set f cs c w ∙ ap (λ (l : List T). slice_set (map f cs) c l) (same ∙ ap (λ (l : List T). l ++ e ∷ []) (sym one)))
      ∙ pushed (map f cs) c [] e (omega (arith, h, length-map cs f))

  pub last_starts : (cs : List X) (c n : ℕ) (w : X) → suc c ≡ length cs → starts_from n (map f (slice_set cs c w)) ≡ starts_from n (map f cs)
  last_starts cs c n w h =
      ap (λ (l : List (List T)). starts_from n l) (map-set f cs c w) ∙ pushed_starts n (map f cs) c (f w) (omega (arith, h, length-map cs f))

  pub new_joined : (cs : List X) (w : X) → f w ≡ [] → joined (map f (cs ++ w ∷ [])) ≡ joined (map f cs)
  new_joined cs w none = ap (λ (l : List (List T)). joined l) (map-append f cs (w ∷ []) ∙ ap (λ (l : List T). map f cs ++ l ∷ []) none) ∙ more_joined (map f cs)

  pub new_starts : (cs : List X) (w : X) (n m : ℕ) → f w ≡ [] → m ≡ n + length (joined (map f cs)) → starts_from n (map f cs) ++ m ∷ [] ≡ starts_from n (map f (cs ++ w ∷ []))
  new_starts cs w n m none all =
      sym (more_starts n m (map f cs) all) ∙ ap (λ (l : List (List T)). starts_from n l) (sym (map-append f cs (w ∷ []) ∙ ap (λ (l : List T). map f cs ++ l ∷ []) none))
