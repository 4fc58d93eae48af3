-- Two lists, element by element.
use Rattle.std.proofs.Common.{◌≡◌, ℕ, zero, suc, List, [], ◌∷◌, ◌++◌, length, arith, Some, slice_set, subst}
use Rattle.std.specs.Prelude.{slice_get}

-- one more of each
pub pairs_push : {A B : Type 0} (P : ℕ → A → B → Type 0) (xs : List A) (ys : List B) (x : A) (y : B) → length xs ≡ length ys
    → ((k : ℕ) (a : A) (b : B) → slice_get xs k ≡ Some a → slice_get ys k ≡ Some b → P k a b) → P (length xs) x y
    → (k : ℕ) (a : A) (b : B) → slice_get (xs ++ x ∷ []) k ≡ Some a → slice_get (ys ++ y ∷ []) k ≡ Some b → P k a b
pairs_push P [] [] x y len old new zero a b ga gb =
    let ea : x ≡ a = cc ga in
    let eb : y ≡ b = cc gb in
    subst (λ z. P 0 z b) ea (subst (λ z. P 0 x z) eb new)
pairs_push P [] [] x y len old new (suc k) a b ga gb = cc
pairs_push P [] (q ∷ ys) x y len old new k a b ga gb = cc
pairs_push P (p ∷ xs) [] x y len old new k a b ga gb = cc
pairs_push P (p ∷ xs) (q ∷ ys) x y len old new zero a b ga gb = old 0 a b ga gb
pairs_push P (p ∷ xs) (q ∷ ys) x y len old new (suc k) a b ga gb = pairs_push (λ i. P (suc i)) xs ys x y (omega (arith, len)) (λ i. old (suc i)) new k a b ga gb

-- one of the first changed
pub pairs_set : {A B : Type 0} (P Q : ℕ → A → B → Type 0) (xs : List A) (ys : List B) (i : ℕ) (x : A)
    → ((k : ℕ) (a : A) (b : B) → slice_get xs k ≡ Some a → slice_get ys k ≡ Some b → P k a b)
    → ((k : ℕ) (a : A) (b : B) → (k ≡ i → ⊥) → P k a b → Q k a b)
    → ((b : B) → slice_get ys i ≡ Some b → Q i x b)
    → (k : ℕ) (a : A) (b : B) → slice_get (slice_set xs i x) k ≡ Some a → slice_get ys k ≡ Some b → Q k a b
pairs_set P Q [] ys i x old keep new k a b ga gb = cc
pairs_set P Q (p ∷ xs) ys zero x old keep new zero a b ga gb = let e : x ≡ a = cc ga in subst (λ z. Q 0 z b) e (new b gb)
pairs_set P Q (p ∷ xs) [] zero x old keep new (suc k) a b ga gb = cc
pairs_set P Q (p ∷ xs) (q ∷ ys) zero x old keep new (suc k) a b ga gb = keep (suc k) a b (λ e. omega (arith, e)) (old (suc k) a b ga gb)
pairs_set P Q (p ∷ xs) ys (suc i) x old keep new zero a b ga gb = keep 0 a b (λ e. omega (arith, e)) (old 0 a b ga gb)
pairs_set P Q (p ∷ xs) [] (suc i) x old keep new (suc k) a b ga gb = cc
pairs_set P Q (p ∷ xs) (q ∷ ys) (suc i) x old keep new (suc k) a b ga gb =
    pairs_set (λ j. P (suc j)) (λ j. Q (suc j)) xs ys i x (λ j. old (suc j)) (λ j c d differ. keep (suc j) c d (λ e. differ (omega (arith, e)))) new k a b ga gb
