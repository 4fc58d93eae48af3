-- Lists of views.
use Rattle.std.proofs.Common.{◌≡◌, ◌≢◌, ◌⊎◌, ℕ, zero, suc, List, [], ◌∷◌, ◌++◌, set, Some, None, sym, ap, ◌∙◌, subst, ⊎_elim, inl, inr}
use mathlib.Core.Option.{some, some-injective, some-ne-none}
use lib.ListN.{get_elem?}
use Rattle.atomic_table.proofs.Lists.{at_set}
use Rattle.ti_types.specs.declared.numbers.EnvNo.{EnvNo}
use Rattle.ti_roster.specs.declared.view.RosterView.{RosterView}
use Rattle.ti_roster.specs.Rule.{OneEach}

pub at_end : (l : List RosterView) (a b : RosterView) (j : ℕ) → get_elem? (l ++ a ∷ []) j ≡ some b → (get_elem? l j ≡ some b) ⊎ (a ≡ b)
at_end [] a b zero e = inr (some-injective a b e)
at_end [] a b (suc j) e = absurd (some-ne-none b (sym e))
at_end (x ∷ xs) a b zero e = inl e
at_end (x ∷ xs) a b (suc j) e = at_end xs a b j e

pub one_set : (P : ℕ → RosterView → Type 0) (vs : List RosterView) (me : ℕ) (w : RosterView) → P me w → ((j : ℕ) (u : RosterView) → j ≢ me → get_elem? vs j ≡ some u → P j u) → (j : ℕ) (u : RosterView) → get_elem? (set vs me w) j ≡ some u → P j u
one_set P vs me w mine others j u e =
    ⊎_elim
    (λ (t : (j ≡ me) × (w ≡ u)). subst (λ (x : ℕ × RosterView). P x.0 x.1) (λ i. (sym t.0 i, t.1 i)) mine)
    (λ (t : (j ≢ me) × (get_elem? vs j ≡ some u)). others j u t.0 t.1)
    (at_set vs me j w u e)

-- Which environment's a seat is

-- one view in the place of another, if no other is the same environment's
pub one_each_set : (vs : List RosterView) (me : ℕ) (w : RosterView) → OneEach vs
    → ((k : ℕ) (u : RosterView) (e : EnvNo) → k ≢ me → get_elem? vs k ≡ some u → w.place ≡ Some e → u.place ≡ Some e → ⊥)
    → OneEach (set vs me w)
one_each_set vs me w one clash j k v u e at_j at_k is_v is_u =
    ⊎_elim
    (λ (a : (j ≡ me) × (w ≡ v)). ⊎_elim
    (λ (b : (k ≡ me) × (w ≡ u)). a.0 ∙ sym b.0)
    (λ (b : (k ≢ me) × (get_elem? vs k ≡ some u)). absurd (clash k u e b.0 b.1 (ap (λ (x : RosterView). x.place) a.1 ∙ is_v) is_u))
    (at_set vs me k w u at_k))
    (λ (a : (j ≢ me) × (get_elem? vs j ≡ some v)). ⊎_elim
    (λ (b : (k ≡ me) × (w ≡ u)). absurd (clash j v e a.0 a.1 (ap (λ (x : RosterView). x.place) b.1 ∙ is_u) is_v))
    (λ (b : (k ≢ me) × (get_elem? vs k ≡ some u)). one j k v u e a.1 b.1 is_v is_u)
    (at_set vs me k w u at_k))
    (at_set vs me j w v at_j)

-- a view that is as much an environment's as the one in its place
pub one_each_same : (vs : List RosterView) (me : ℕ) (v w : RosterView) → OneEach vs → get_elem? vs me ≡ some v → w.place ≡ v.place → OneEach (set vs me w)
one_each_same vs me v w one at same =
    one_each_set vs me w one (λ k u e other at_k is_w is_u. other (one k me u v e at_k at is_u (sym same ∙ is_w)))

-- one view more, which is no environment's
pub one_each_end : (vs : List RosterView) (a : RosterView) → OneEach vs → a.place ≡ None → OneEach (vs ++ a ∷ [])
one_each_end vs a one none j k v u e at_j at_k is_v is_u =
    ⊎_elim
    (λ (g : get_elem? vs j ≡ some v). ⊎_elim
    (λ (h : get_elem? vs k ≡ some u). one j k v u e g h is_v is_u)
    (λ (h : a ≡ u). absurd (nobody e (sym none ∙ (ap (λ (x : RosterView). x.place) h ∙ is_u))))
    (at_end vs a u k at_k))
    (λ (g : a ≡ v). absurd (nobody e (sym none ∙ (ap (λ (x : RosterView). x.place) g ∙ is_v))))
    (at_end vs a v j at_j)
  where
    nobody : (e : EnvNo) → None ≡ Some e → ⊥
    nobody e h = cc
