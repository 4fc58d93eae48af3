-- For callers: what a round at the threads of a list tells of one desk, and what is left to it.
use Rattle.std.proofs.Common.{◌≡◌, ℕ, zero, suc, ◌+◌, ◌<◌, true, false, List, [], ◌∷◌, ◌++◌, length, refl, ◌∙◌, arith, subst, Some, Bool}
use Rattle.std.specs.Prelude.{slice_get, slice_index, slice_index_or, slice_set}
use Rattle.std.proofs.lemmas.List.Sums.{sum_by-append}
use Rattle.ti_types.specs.declared.entry.Entry.{Entry}
use Rattle.ti_types.specs.declared.numbers.EnvNo.{EnvNo}
use Rattle.ti_types.specs.declared.numbers.ThreadNo.{ThreadNo}
use Rattle.ti_env.specs.Env.{EnvValue, spent_at, with_spent}
use Rattle.ti_replay.specs.Legal.{calls_spent, call_cost}
use Rattle.ti_handshake.specs.Desk.{DeskState}
use Rattle.ti_vmop.specs.Turns.{Listed, is_listed, AtEach, AtDesk, HasAdded}
use Rattle.ti_vmop.proofs.Each.{at_index, in_range}

-- a desk was there before
pub was_there : (threads : Listed) (old new : List DeskState) (more : EnvNo → List Entry) (i : ℕ) (q : DeskState) → AtEach threads old new more → slice_get new i ≡ Some q → (p : DeskState) × (slice_get old i ≡ Some p)
was_there threads old new more i q each at = (slice_index_or old i q, at_index old i q (let r = in_range new i q at in omega (arith, each.0, r)))

-- what a listed desk has added
pub has_added : (threads : Listed) (old new : List DeskState) (more : EnvNo → List Entry) (i : ℕ) (p q : DeskState) → AtEach threads old new more → is_listed i threads ≡ true → slice_get old i ≡ Some p → slice_get new i ≡ Some q
    → HasAdded p q (more p.env)
has_added threads old new more i p q each listed before after =
    subst (λ (b : Bool). AtDesk b p q (more p.env)) listed (each.1 i p q before after)

-- a desk that is not listed is as it was
pub unlisted_stays : (threads : Listed) (old new : List DeskState) (more : EnvNo → List Entry) (i : ℕ) (p q : DeskState) → AtEach threads old new more → is_listed i threads ≡ false → slice_get old i ≡ Some p → slice_get new i ≡ Some q
    → q ≡ p
unlisted_stays threads old new more i p q each unlisted before after =
    subst (λ (b : Bool). AtDesk b p q (more p.env)) unlisted (each.1 i p q before after)

set_same : (l : List ℕ) (i v : ℕ) → i < length l → slice_index (slice_set l i v) i ≡ v
set_same [] i v h = absurd (omega arith)
set_same (x ∷ xs) zero v h = refl
set_same (x ∷ xs) (suc i) v h = set_same xs i v (omega arith)

-- what is left after a call more was spent
pub spent_then : (s : EnvValue) (t : ThreadNo) → t.0 < length s.spent → spent_at (with_spent s t) t ≡ spent_at s t + 1
spent_then s t h = set_same s.spent t.0 (spent_at s t + 1) h

pub more_spent : (env : EnvNo) (mine : List Entry) (x : Entry) → call_cost env x ≡ 1 → calls_spent env (mine ++ x ∷ []) ≡ calls_spent env mine + 1
more_spent env mine x one = sum_by-append (call_cost env) mine (x ∷ []) ∙ omega (arith, one)
