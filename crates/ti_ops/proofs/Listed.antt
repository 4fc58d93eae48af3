-- Lists made from a function of the index.
use Rattle.std.proofs.Common.{◌≡◌, ℕ, ◌<◌, ◌+◌, ◌-◌, [], ◌∷◌, ◌++◌, length, get_or, set, replicate, refl, arith, suc, zero, ap, sym, ◌∙◌, inl, inr}
use Rattle.std.proofs.lemmas.Bool.{cases_lt}
use Rattle.std.proofs.lemmas.List.{length-append, get_or_append_left, get_or-append_right, set-append_left, set-append_right, replicate_more}
use Rattle.ti_ops.specs.OutboxEntry.{listed}

pub length-listed : {A : Type 0} → (f : ℕ → A) (n : ℕ) → length (listed f n) ≡ n
length-listed f zero = refl
length-listed f (suc n) = omega (arith, length-append (listed f n) (f n ∷ []), length-listed f n)

pub listed_same : {A : Type 0} → (f g : ℕ → A) (n : ℕ) → ((i : ℕ) → i < n → g i ≡ f i) → listed g n ≡ listed f n
listed_same f g zero same = refl
listed_same f g (suc n) same =
    ap (λ xs. xs ++ g n ∷ []) (listed_same f g n (λ i h. same i (omega (arith, h)))) ∙ ap (λ x. listed f n ++ x ∷ []) (same n (omega arith))

pub listed_all : {A : Type 0} → (a : A) (n : ℕ) → listed (λ _. a) n ≡ replicate n a
listed_all a zero = refl
listed_all a (suc n) =
    let one : n + 1 ≡ suc n = omega arith in
    ap (λ xs. xs ++ a ∷ []) (listed_all a n) ∙ replicate_more n a ∙ ap (λ m. replicate m a) one

pub listed_at : {A : Type 0} → (f : ℕ → A) (n i : ℕ) (d : A) → i < n → get_or (listed f n) i d ≡ f i
listed_at f zero i d h = grind arith
listed_at f (suc n) i d h =
    elim (cases_lt i n) [
      | inl below ↦
          get_or_append_left (listed f n) (f n ∷ []) d i (omega (arith, below, length-listed f n))
          ∙ listed_at f n i d below
      | inr last ↦
          let e : i ≡ n = omega (arith, h, last) in
          let z : i - n ≡ 0 = omega (arith, e) in
          get_or-append_right (listed f n) (f n ∷ []) n i d (length-listed f n) last
          ∙ ap (λ k. get_or (f n ∷ []) k d) z
          ∙ ap f (sym e)
    ]

-- a function that differs at one place
pub listed_set : {A : Type 0} → (f g : ℕ → A) (n k : ℕ) (x : A) → k < n → g k ≡ x → ((i : ℕ) → i < n → (i ≡ k → ⊥) → g i ≡ f i) → listed g n ≡ set (listed f n) k x
listed_set f g zero k x h e same = grind arith
listed_set f g (suc n) k x h e same =
    elim (cases_lt k n) [
      | inl below ↦
          ap (λ xs. xs ++ g n ∷ []) (listed_set f g n k x below e (λ i h. same i (omega (arith, h))))
          ∙ ap (λ y. set (listed f n) k x ++ y ∷ []) (same n (omega arith) (λ z. omega (arith, z, below)))
          ∙ sym (set-append_left (listed f n) (f n ∷ []) k x (omega (arith, below, length-listed f n)))
      | inr last ↦
          let i : k ≡ n = omega (arith, h, last) in
          let z : 0 ≡ k - n = omega (arith, i) in
          ap (λ xs. xs ++ g n ∷ []) (listed_same f g n (λ i h. same i (omega (arith, h)) (λ z. omega (arith, z, h, last))))
          ∙ ap (λ y. listed f n ++ y ∷ []) (ap g (sym i) ∙ e)
          ∙ ap (λ j. listed f n ++ set (f n ∷ []) j x) z
          ∙ sym (set-append_right (listed f n) (f n ∷ []) n k x (length-listed f n) last)
    ]
