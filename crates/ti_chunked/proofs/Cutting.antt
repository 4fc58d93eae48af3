-- Lists cut into chunks: where an element is, and what a change of one chunk does.
use Rattle.std.proofs.Common.{◌≡◌, ℕ, zero, suc, ◌+◌, ◌-◌, ◌<◌, ◌≤◌, List, [], ◌∷◌, ◌++◌, length, slice_index, slice_index_or, slice_set, refl, ap, sym, ◌∙◌, arith}
use Rattle.std.specs.List.{remove}
use Rattle.std.proofs.lemmas.List.{append-nil, append_assoc, length-append, get_or_append_left, get_or-append_right, set-append_left, set-append_right}
use Rattle.std.proofs.lemmas.List.Edits.{length-remove, remove-append_left, remove-append_right}
use Rattle.ti_chunked.specs.Chunks.{ArePositive, HasIndex, joined, lowered, starts_from}

module _ {T : Type 0} where
  pub length-starts_from : (n : ℕ) (cs : List (List T)) → length (starts_from n cs) ≡ length cs
  length-starts_from n [] = refl
  length-starts_from n (c ∷ cs) = ap suc (length-starts_from (n + length c) cs)

  -- the chunk that starts at an index or before it, if the next one starts behind it, has that index
  pub found : (n : ℕ) (cs : List (List T)) (c i : ℕ) → c < length cs → slice_index (starts_from n cs) c ≤ i
      → (suc c < length cs → i < slice_index (starts_from n cs) (suc c)) → i < n + length (joined cs) → HasIndex n cs c i
  found n [] c i h from below all = absurd (omega (arith, h))
  found n (x ∷ []) zero i h from below all = (from, omega (arith, all, length-append x []))
  found n (x ∷ y ∷ cs) zero i h from below all = (from, below (omega arith))
  found n (x ∷ cs) (suc c) i h from below all =
      found (n + length x) cs c i (omega (arith, h)) from (λ more. below (omega (arith, more))) (omega (arith, all, length-append x (joined cs)))

  -- the first chunk starts no later
  pub not_before : (n : ℕ) (cs : List (List T)) (c i : ℕ) → HasIndex n cs c i → n ≤ i
  not_before n [] c i has = absurd has
  not_before n (x ∷ cs) zero i has = has.0
  not_before n (x ∷ cs) (suc c) i has = omega (arith, not_before (n + length x) cs c i has)

  -- where the chunk starts, and that it reaches so far
  pub starts_before : (n : ℕ) (cs : List (List T)) (c i : ℕ) (d : List T) → HasIndex n cs c i → slice_index (starts_from n cs) c ≤ i
  starts_before n [] c i d has = absurd has
  starts_before n (x ∷ cs) zero i d has = has.0
  starts_before n (x ∷ cs) (suc c) i d has = starts_before (n + length x) cs c i d has

  pub reaches : (n : ℕ) (cs : List (List T)) (c i : ℕ) (d : List T) → HasIndex n cs c i → i - slice_index (starts_from n cs) c < length (slice_index_or cs c d)
  reaches n [] c i d has = absurd has
  reaches n (x ∷ cs) zero i d has = omega (arith, has.0, has.1)
  reaches n (x ∷ cs) (suc c) i d has = reaches (n + length x) cs c i d has

  -- the element with the index
  pub element : (n : ℕ) (cs : List (List T)) (c i : ℕ) (d : List T) (e : T) → HasIndex n cs c i
      → slice_index_or (joined cs) (i - n) e ≡ slice_index_or (slice_index_or cs c d) (i - slice_index (starts_from n cs) c) e
  element n [] c i d e has = absurd has
  element n (x ∷ cs) zero i d e has = get_or_append_left x (joined cs) e (i - n) (omega (arith, has.0, has.1))
  element n (x ∷ cs) (suc c) i d e has =
      let past = not_before (n + length x) cs c i has in
      let at : i - n - length x ≡ i - (n + length x) = omega arith in
      get_or-append_right x (joined cs) (length x) (i - n) e refl (omega (arith, past))
      ∙ ap (λ k. slice_index_or (joined cs) k e) at
      ∙ element (n + length x) cs c i d e has

  -- an element taken out of its chunk
  pub taken_out : (n : ℕ) (cs : List (List T)) (c i : ℕ) (d : List T) → HasIndex n cs c i
      → joined (slice_set cs c (remove (slice_index_or cs c d) (i - slice_index (starts_from n cs) c))) ≡ remove (joined cs) (i - n)
  taken_out n [] c i d has = absurd has
  taken_out n (x ∷ cs) zero i d has = sym (remove-append_left x (joined cs) (i - n) (omega (arith, has.0, has.1)))
  taken_out n (x ∷ cs) (suc c) i d has =
      let past = not_before (n + length x) cs c i has in
      let at : i - n - length x ≡ i - (n + length x) = omega arith in
      ap (λ l. x ++ l) (taken_out (n + length x) cs c i d has)
      ∙ ap (λ k. x ++ remove (joined cs) k) (sym at)
      ∙ sym (remove-append_right x (joined cs) (length x) (i - n) refl (omega (arith, past)))

  -- all chunks start one element earlier, if the first does
  pub all_lower : (n : ℕ) (cs : List (List T)) → 0 < n → starts_from (n - 1) cs ≡ lowered zero (starts_from n cs)
  all_lower n [] h = refl
  all_lower n (x ∷ cs) h =
      let at : n - 1 + length x ≡ n + length x - 1 = omega (arith, h) in
      ap (λ l. (n - 1) ∷ l) (ap (λ k. starts_from k cs) at ∙ all_lower (n + length x) cs (omega (arith, h)))

  pub all_positive : (n : ℕ) (cs : List (List T)) → 0 < n → ArePositive zero (starts_from n cs)
  all_positive n [] h = tt
  all_positive n (x ∷ cs) h = (h, all_positive (n + length x) cs (omega (arith, h)))

  -- those behind a chunk start one element earlier, if one is taken out of it
  pub later_lower : (n : ℕ) (cs : List (List T)) (c i : ℕ) (d : List T) → HasIndex n cs c i
      → starts_from n (slice_set cs c (remove (slice_index_or cs c d) (i - slice_index (starts_from n cs) c))) ≡ lowered (suc c) (starts_from n cs)
  later_lower n [] c i d has = absurd has
  later_lower n (x ∷ cs) zero i d has =
      let less = length-remove x (i - n) (omega (arith, has.0, has.1)) in
      let at : n + length (remove x (i - n)) ≡ n + length x - 1 = omega (arith, less) in
      ap (λ l. n ∷ l) (ap (λ k. starts_from k cs) at ∙ all_lower (n + length x) cs (omega (arith, has.0, has.1)))
  later_lower n (x ∷ cs) (suc c) i d has = ap (λ l. n ∷ l) (later_lower (n + length x) cs c i d has)

  pub later_positive : (n : ℕ) (cs : List (List T)) (c i : ℕ) → HasIndex n cs c i → ArePositive (suc c) (starts_from n cs)
  later_positive n [] c i has = absurd has
  later_positive n (x ∷ cs) zero i has = all_positive (n + length x) cs (omega (arith, has.0, has.1))
  later_positive n (x ∷ cs) (suc c) i has = later_positive (n + length x) cs c i has

  -- an element of a chunk is replaced
  pub replaced : (n : ℕ) (cs : List (List T)) (c i : ℕ) (d : List T) (e : T) → HasIndex n cs c i
      → joined (slice_set cs c (slice_set (slice_index_or cs c d) (i - slice_index (starts_from n cs) c) e)) ≡ slice_set (joined cs) (i - n) e
  replaced n [] c i d e has = absurd has
  replaced n (x ∷ cs) zero i d e has = sym (set-append_left x (joined cs) (i - n) e (omega (arith, has.0, has.1)))
  replaced n (x ∷ cs) (suc c) i d e has =
      let past = not_before (n + length x) cs c i has in
      let at : i - (n + length x) ≡ i - n - length x = omega arith in
      ap (λ l. x ++ l) (replaced (n + length x) cs c i d e has)
      ∙ ap (λ k. x ++ slice_set (joined cs) k e) at
      ∙ sym (set-append_right x (joined cs) (length x) (i - n) e refl (omega (arith, past)))

  -- the starts stay, if the chunk has as many elements as before
  pub same_starts : (n : ℕ) (cs : List (List T)) (c : ℕ) (d y : List T) → length y ≡ length (slice_index_or cs c d) → starts_from n (slice_set cs c y) ≡ starts_from n cs
  same_starts n [] c d y h = refl
  same_starts n (x ∷ cs) zero d y h = ap (λ k. n ∷ starts_from (n + k) cs) h
  same_starts n (x ∷ cs) (suc c) d y h = ap (λ l. n ∷ l) (same_starts (n + length x) cs c d y h)

  -- an element more in the last chunk
  pub pushed : (cs : List (List T)) (c : ℕ) (d : List T) (e : T) → suc c ≡ length cs
      → joined (slice_set cs c (slice_index_or cs c d ++ e ∷ [])) ≡ joined cs ++ e ∷ []
  pushed [] c d e h = absurd (omega (arith, h))
  pushed (x ∷ []) zero d e h = append-nil (x ++ e ∷ []) ∙ ap (λ l. l ++ e ∷ []) (sym (append-nil x))
  pushed (x ∷ y ∷ cs) zero d e h = absurd (omega (arith, h))
  pushed (x ∷ cs) (suc c) d e h = ap (λ l. x ++ l) (pushed cs c d e (omega (arith, h))) ∙ sym (append_assoc x (joined cs) (e ∷ []))

  pub pushed_starts : (n : ℕ) (cs : List (List T)) (c : ℕ) (y : List T) → suc c ≡ length cs → starts_from n (slice_set cs c y) ≡ starts_from n cs
  pushed_starts n [] c y h = refl
  pushed_starts n (x ∷ []) zero y h = refl
  pushed_starts n (x ∷ z ∷ cs) zero y h = absurd (omega (arith, h))
  pushed_starts n (x ∷ cs) (suc c) y h = ap (λ l. n ∷ l) (pushed_starts (n + length x) cs c y (omega (arith, h)))

  -- one more chunk, with nothing in it
  pub more_joined : (cs : List (List T)) → joined (cs ++ [] ∷ []) ≡ joined cs
  more_joined [] = refl
  more_joined (x ∷ cs) = ap (λ l. x ++ l) (more_joined cs)

  pub more_starts : (n m : ℕ) (cs : List (List T)) → m ≡ n + length (joined cs) → starts_from n (cs ++ [] ∷ []) ≡ starts_from n cs ++ m ∷ []
  more_starts n m [] h = ap (λ k. k ∷ []) (omega (arith, h))
  more_starts n m (x ∷ cs) h = ap (λ l. n ∷ l) (more_starts (n + length x) m cs (omega (arith, h, length-append x (joined cs))))

  -- two chunks in one
  pub two_joined : (cs : List (List T)) (c : ℕ) (d : List T) → suc c < length cs
      → joined (slice_set (remove cs (suc c)) c (slice_index_or cs c d ++ slice_index_or cs (suc c) d)) ≡ joined cs
  two_joined [] c d h = absurd (omega (arith, h))
  two_joined (x ∷ []) c d h = absurd (omega (arith, h))
  two_joined (x ∷ y ∷ cs) zero d h = append_assoc x y (joined cs)
  two_joined (x ∷ y ∷ cs) (suc c) d h = ap (λ l. x ++ l) (two_joined (y ∷ cs) c d (omega (arith, h)))

  pub two_starts : (n : ℕ) (cs : List (List T)) (c : ℕ) (d : List T) → suc c < length cs
      → starts_from n (slice_set (remove cs (suc c)) c (slice_index_or cs c d ++ slice_index_or cs (suc c) d)) ≡ remove (starts_from n cs) (suc c)
  two_starts n [] c d h = absurd (omega (arith, h))
  two_starts n (x ∷ []) c d h = absurd (omega (arith, h))
  two_starts n (x ∷ y ∷ cs) zero d h =
      let at : n + length (x ++ y) ≡ n + length x + length y = omega (arith, length-append x y) in
      ap (λ k. n ∷ starts_from k cs) at
  two_starts n (x ∷ y ∷ cs) (suc c) d h = ap (λ l. n ∷ l) (two_starts (n + length x) (y ∷ cs) c d (omega (arith, h)))
