-- A loop that writes over what was there.
use Rattle.std.proofs.Common.{◌≡◌, ℕ, ◌+◌, ◌<◌, suc, List, map, slice_set, length, sym, ap, subst, ◌∙◌, arith}
use Rattle.std.proofs.Math.ListN.{get_or, get_or-map, length-map}
use Rattle.std.proofs.Math.Seq.{paste, paste-suc}

module _ {X Y : Type 0} (f : X → Y) (items : List X) (old room : List Y) (i : ℕ) (d : X) (y : Y) where
  -- one more is written
  pub step : room ≡ paste old 0 (map f items) i → y ≡ f (get_or items i d) → i < length items → i < length old
      → slice_set room i y ≡ paste old 0 (map f items) (i + 1)
  step was is here there =
      let same : 0 + i ≡ i = omega (arith) in
      let next : suc i ≡ i + 1 = omega (arith) in
      let within : i < length (map f items) = subst (λ (n : ℕ). i < n) (sym (length-map items f)) here in
      let room_at : 0 + i < length old = subst (λ (n : ℕ). n < length old) (sym same) there in
      ap (λ (l : List Y). slice_set l i y) was
      ∙ (ap (λ (z : Y). slice_set (paste old 0 (map f items) i) i z) (is ∙ sym (get_or-map f items i d))
      ∙ (ap (λ (n : ℕ). slice_set (paste old 0 (map f items) i) n (get_or (map f items) i (f d))) (sym same)
      ∙ (paste-suc old 0 (map f items) i (f d) room_at within
      ∙ ap (λ (n : ℕ). paste old 0 (map f items) n) next)))
