-- The first of the threads that are there.
use Rattle.std.proofs.Common.{◌≡◌, ◌<◌, ℕ, zero, suc, Bool, true, false, not, cond, List, [], ◌∷◌, Option, Some, length, map, filter, take, get_or, ap, subst, arith}
use Rattle.ti_debugger.specs.Crowds.{alive_in, first}
use Rattle.ti_debugger.specs.declared.watched.Watched.{Watched}

abbrev number : Watched → ℕ
number w = w.thread.0

abbrev is_there : Watched → Bool
is_there w = not w.ended

behind : (ended : Bool) (w : Watched) (front all : List Watched) (found : Option ℕ) → map number (cond (not ended) (w ∷ front) front) ≡ []
    → (map number front ≡ [] → first (map number all) ≡ found) → first (map number (cond (not ended) (w ∷ all) all)) ≡ found
behind true w front all found none rest = rest none
behind false w front all found none rest = absurd (cc none)

-- the thread at a place is the first that is there, if no other is before it
pub first_there : (list : List Watched) (place : ℕ) (w : Watched) → place < length list → alive_in (take place list) ≡ [] → w ≡ get_or list place w → w.ended ≡ false
    → first (alive_in list) ≡ Some w.thread.0
first_there [] place w within none is there = absurd (omega arith)
first_there (v ∷ list) zero w within none is there =
    subst (λ (x : Watched). first (alive_in (x ∷ list)) ≡ Some w.thread.0) is
    (ap (λ (ended : Bool). first (map number (cond (not ended) (w ∷ filter is_there list) (filter is_there list)))) there)
first_there (v ∷ list) (suc place) w within none is there =
    behind v.ended v (filter is_there (take place list)) (filter is_there list) (Some w.thread.0) none
    (λ none_before. first_there list place w (omega arith) none_before is there)
