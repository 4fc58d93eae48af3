-- A thread's part, and one part in the place of another.
use Rattle.std.proofs.Common.{ℕ, zero, suc, ◌≡◌, ◌<◌, ◌+◌, ◌∙◌, inl, inr, Bool, true, false, List, [], ◌∷◌, length, map, ap, arith}
use Rattle.std.specs.Prelude.{nat_lt, slice_index_or, slice_set}
use Rattle.std.proofs.lemmas.Bool.{cases_Bool}
use Rattle.std.proofs.lemmas.Bool.Decides.{nat_tests}
use Rattle.tiprof.specs.Roots.{parts_of_workers, place_of}

-- each thread has a part
pub place_there : (by_thread : Bool) (workers thread : ℕ) → place_of by_thread workers thread < parts_of_workers by_thread workers + 1
place_there true workers thread =
    elim (cases_Bool (nat_lt thread workers)) [
      | inl worker ↦ rw worker (let h : thread < workers = grind (arith, nat_tests, worker) in omega (arith, h))
      | inr new ↦ rw new (omega arith)
    ]
place_there false workers thread =
    elim (cases_Bool (nat_lt thread workers)) [
      | inl worker ↦ rw worker (omega arith)
      | inr new ↦ rw new (omega arith)
    ]

-- a part whose stacks are the same, in the place of the one before
pub kept_at : {X Y : Type 0} (f : X → Y) (l : List X) (i : ℕ) (x d : X) → i < length l → d ≡ slice_index_or l i d → f x ≡ f d → map f (slice_set l i x) ≡ map f l
kept_at f [] i x d h e same = absurd (omega (arith, h))
kept_at f (y ∷ ys) zero x d h e same = ap (λ z. z ∷ map f ys) (same ∙ ap f e)
kept_at f (y ∷ ys) (suc i) x d h e same = ap (λ z. f y ∷ z) (kept_at f ys i x d (omega (arith, h)) e same)
