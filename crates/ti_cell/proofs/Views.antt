-- Lists of views, and how many of their seats are there.
use Rattle.std.proofs.Common.{◌≡◌, ◌≢◌, ◌⊎◌, ℕ, zero, suc, ◌+◌, ◌<◌, List, [], ◌∷◌, ◌++◌, length, set, Bool, true, false, true≢false, refl, sym, ap, ◌∙◌, subst, ⊎_elim, inl, inr, arith, if◌then◌else◌}
use mathlib.Core.Option.{some, some-injective, some-ne-none}
use lib.ListN.{get_elem?}
use Rattle.atomic_table.proofs.Lists.{at_set, set_else, at_longer}
use Rattle.ti_cell.specs.declared.view.View.{View}
use Rattle.ti_cell.specs.Rule.{IsGone, left_out}

pub at_below : (l : List View) (i : ℕ) (a : View) → get_elem? l i ≡ some a → i < length l
at_below [] i a e = absurd (some-ne-none a (sym e))
at_below (x ∷ xs) zero a e = omega arith
at_below (x ∷ xs) (suc i) a e = let h = at_below xs i a e in omega arith

pub at_end : (l : List View) (a b : View) (j : ℕ) → get_elem? (l ++ a ∷ []) j ≡ some b → (get_elem? l j ≡ some b) ⊎ ((j ≡ length l) × (a ≡ b))
at_end [] a b zero e = inr (refl, some-injective a b e)
at_end [] a b (suc j) e = absurd (some-ne-none b (sym e))
at_end (x ∷ xs) a b zero e = inl e
at_end (x ∷ xs) a b (suc j) e = ⊎_elim (λ h. inl h) (λ (t : (j ≡ length xs) × (a ≡ b)). inr (ap suc t.0, t.1)) (at_end xs a b j e)

pub one_set : (P : ℕ → View → Type 0) (vs : List View) (me : ℕ) (w : View) → P me w → ((j : ℕ) (u : View) → j ≢ me → get_elem? vs j ≡ some u → P j u) → (j : ℕ) (u : View) → get_elem? (set vs me w) j ≡ some u → P j u
one_set P vs me w mine others j u e =
    ⊎_elim
    (λ (t : (j ≡ me) × (w ≡ u)). subst (λ (x : ℕ × View). P x.0 x.1) (λ i. (sym t.0 i, t.1 i)) mine)
    (λ (t : (j ≢ me) × (get_elem? vs j ≡ some u)). others j u t.0 t.1)
    (at_set vs me j w u e)

-- Seats that are gone

-- a seat that is gone is not one that is there
pub apart : (vs : List View) (me n : ℕ) (v : View) → get_elem? vs me ≡ some v → v.gone ≡ false → IsGone vs n → n ≢ me
apart vs me n v at there g e =
    let same : g.0 ≡ v = some-injective g.0 v (sym g.1 ∙ (ap (λ (k : ℕ). get_elem? vs k) e ∙ at)) in
    true≢false (sym g.2 ∙ (ap (λ (x : View). x.gone) same ∙ there))

pub gone_set : (vs : List View) (me n : ℕ) (v w : View) → get_elem? vs me ≡ some v → v.gone ≡ false → IsGone vs n → IsGone (set vs me w) n
gone_set vs me n v w at there g = (g.0, set_else vs me n w (apart vs me n v at there g) ∙ g.1, g.2)

pub gone_longer : (vs : List View) (c : View) (n : ℕ) → IsGone vs n → IsGone (vs ++ c ∷ []) n
gone_longer vs c n g = (g.0, at_longer vs (c ∷ []) n g.0 g.1, g.2)

abbrev counted : Bool → ℕ → ℕ
counted gone n = if gone then n else suc n

pub left_set : (vs : List View) (me : ℕ) (v w : View) → get_elem? vs me ≡ some v → w.gone ≡ v.gone → left_out (set vs me w) ≡ left_out vs
left_set [] me v w at same = absurd (some-ne-none v (sym at))
left_set (x ∷ xs) zero v w at same = ap (λ (b : Bool). counted b (left_out xs)) (same ∙ ap (λ (y : View). y.gone) (sym (some-injective x v at)))
left_set (x ∷ xs) (suc i) v w at same = ap (counted x.gone) (left_set xs i v w at same)

pub left_fewer : (vs : List View) (me : ℕ) (v w : View) → get_elem? vs me ≡ some v → v.gone ≡ false → w.gone ≡ true → left_out vs ≡ left_out (set vs me w) + 1
left_fewer [] me v w at there gone = absurd (some-ne-none v (sym at))
left_fewer (x ∷ xs) zero v w at there gone =
    let before : left_out (x ∷ xs) ≡ suc (left_out xs) = ap (λ (b : Bool). counted b (left_out xs)) (ap (λ (y : View). y.gone) (some-injective x v at) ∙ there) in
    let after : left_out (w ∷ xs) ≡ left_out xs = ap (λ (b : Bool). counted b (left_out xs)) gone in
    omega arith
left_fewer (x ∷ xs) (suc i) v w at there gone = fewer x.gone (left_out xs) (left_out (set xs i w)) (left_fewer xs i v w at there gone)
  where
    fewer : (b : Bool) (m n : ℕ) → m ≡ n + 1 → counted b m ≡ counted b n + 1
    fewer true m n e = e
    fewer false m n e = omega arith

pub left_more : (vs : List View) (c : View) → c.gone ≡ false → left_out (vs ++ c ∷ []) ≡ left_out vs + 1
left_more [] c there = ap (λ (b : Bool). counted b 0) there
left_more (x ∷ xs) c there = more x.gone (left_out (xs ++ c ∷ [])) (left_out xs) (left_more xs c there)
  where
    more : (b : Bool) (m n : ℕ) → m ≡ n + 1 → counted b m ≡ counted b n + 1
    more true m n e = e
    more false m n e = omega arith

-- where no seat is there, each is gone
none_left : (vs : List View) → left_out vs ≡ 0 → (j : ℕ) (u : View) → get_elem? vs j ≡ some u → u.gone ≡ true
none_left [] z j u at = absurd (some-ne-none u (sym at))
none_left (x ∷ xs) z zero u at = here x.gone (left_out xs) z (ap (λ (y : View). y.gone) (some-injective x u at))
  where
    here : (b : Bool) (n : ℕ) → counted b n ≡ 0 → b ≡ u.gone → u.gone ≡ true
    here true n e is = sym is
    here false n e is = absurd (omega arith)
none_left (x ∷ xs) z (suc j) u at = none_left xs (rest x.gone (left_out xs) z) j u at
  where
    rest : (b : Bool) (n : ℕ) → counted b n ≡ 0 → n ≡ 0
    rest true n e = e
    rest false n e = absurd (omega arith)

-- where only the first is there, each other is gone
pub one_left : (vs : List View) (v : View) → get_elem? vs 0 ≡ some v → v.gone ≡ false → left_out vs ≡ 1 → (j : ℕ) (u : View) → get_elem? vs j ≡ some u → j ≢ 0 → u.gone ≡ true
one_left [] v first there one j u at ne = absurd (some-ne-none u (sym at))
one_left (x ∷ xs) v first there one zero u at ne = absurd (ne refl)
one_left (x ∷ xs) v first there one (suc j) u at ne =
    let before : left_out (x ∷ xs) ≡ suc (left_out xs) = ap (λ (b : Bool). counted b (left_out xs)) (ap (λ (y : View). y.gone) (some-injective x v first) ∙ there) in
    none_left xs (omega arith) j u at

pub view_at : (vs : List View) (n : ℕ) → n < length vs → (u : View) × (get_elem? vs n ≡ some u)
view_at [] n h = absurd (omega arith)
view_at (x ∷ xs) zero h = (x, refl)
view_at (x ∷ xs) (suc n) h = view_at xs n (omega arith)
