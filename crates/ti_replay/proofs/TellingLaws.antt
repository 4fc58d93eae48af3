-- What a replay keeps while it tells the replies of all places.
use Rattle.std.proofs.Common.{◌≡◌, ℕ, zero, suc, ◌+◌, ◌<◌, true, false, List, [], ◌∷◌, ◌++◌, length, get_or, refl, sym, arith, Option, Some, None, slice_set, if◌then◌else◌, ◌==◌, is_some}
use Rattle.std.specs.Option.{option_map, option_or}
use Rattle.std.proofs.lemmas.Bool.Decides.{nat_tests}
use Rattle.ti_types.specs.declared.answer.Answer.{Answer}
use Rattle.ti_types.specs.Answer.{said}
use Rattle.ti_types.specs.declared.entry.Entry.{Entry}
use Rattle.ti_replay.specs.Settling.{Placed}
use Rattle.ti_replay.specs.Replies.{told_at}
use Rattle.ti_replay.specs.PlacedState.{PlacedState, are_below, entered}

or_none : (o : Option Answer) → option_or o None ≡ o
or_none (Some a) = refl
or_none None = refl

-- a place at which nothing was said, and which is set
pub told_put : (told : List (Option Answer)) (at place : ℕ) (a d : Option Answer) → at < length told → is_some (get_or told at d) ≡ false
    → told_at (slice_set told at a) place ≡ option_or (told_at told place) (if at == place then option_map said a else None)
told_put [] at place a d h none = grind arith
told_put (Some t ∷ told) zero place a d h none = cc
told_put (None ∷ told) zero zero a d h none = refl
told_put (None ∷ told) zero (suc place) a d h none = grind (arith, nat_tests, or_none (told_at told place))
told_put (t ∷ told) (suc at) zero a d h none = grind (arith, nat_tests, or_none (told_at (t ∷ told) zero))
told_put (t ∷ told) (suc at) (suc place) a d h none = grind (arith, nat_tests, told_put told at place a d)

-- a place at which something was said stays
pub told_kept : (told : List (Option Answer)) (at place : ℕ) (a d : Option Answer) → at < length told → is_some (get_or told at d) ≡ true
    → told_at told place ≡ option_or (told_at told place) (if at == place then option_map said a else None)
told_kept [] at place a d h some = grind arith
told_kept (Some t ∷ told) zero zero a d h some = refl
told_kept (None ∷ told) zero zero a d h some = cc
told_kept (t ∷ told) zero (suc place) a d h some = grind (arith, nat_tests, or_none (told_at told place))
told_kept (t ∷ told) (suc at) zero a d h some = grind (arith, nat_tests, or_none (told_at (t ∷ told) zero))
told_kept (t ∷ told) (suc at) (suc place) a d h some = grind (arith, nat_tests, told_kept told at place a d)

-- a new place says nothing
pub told_more : (told : List (Option Answer)) (place : ℕ) → told_at (told ++ None ∷ []) place ≡ told_at told place
told_more [] zero = refl
told_more [] (suc place) = refl
told_more (t ∷ told) zero = refl
told_more (t ∷ told) (suc place) = told_more told place

-- a new place says what is put there
pub told_push : (told : List (Option Answer)) (a : Option Answer) (place : ℕ) → told_at (told ++ a ∷ []) place ≡ option_or (told_at told place) (if length told == place then option_map said a else None)
told_push [] a zero = grind (arith, nat_tests)
told_push [] a (suc place) = grind (arith, nat_tests)
told_push (t ∷ told) a zero = grind (arith, nat_tests, or_none (told_at (t ∷ told) zero))
told_push (t ∷ told) a (suc place) = grind (arith, nat_tests, told_push told a place)

pub below_all : (n : ℕ) (waiting : List Placed) → are_below n waiting ≡ true → are_below (n + 1) waiting ≡ true
below_all n [] h = refl
below_all n (p ∷ waiting) h = grind (arith, nat_tests, below_all n waiting)

below_more : (n : ℕ) (waiting : List Placed) (x : Entry) → are_below n waiting ≡ true → are_below (n + 1) (waiting ++ (n, x) ∷ []) ≡ true
below_more n [] x h = grind (arith, nat_tests)
below_more n (p ∷ waiting) x h = grind (arith, nat_tests, below_more n waiting x)

-- what waits is at a place before the next one
pub below_kept : (n : ℕ) (s : PlacedState) (x : Entry) → s.next ≡ n → are_below n s.waiting ≡ true → are_below (n + 1) (entered s x).waiting ≡ true
below_kept n s x e h = rw (sym e) (grind (arith, below_all s.next s.waiting, below_more s.next s.waiting x))
