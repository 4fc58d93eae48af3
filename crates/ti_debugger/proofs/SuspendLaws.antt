-- A thread that is watched becomes another, and what is open at threads is settled.
use Rattle.std.proofs.Common.{◌≡◌, ◌<◌, ◌∙◌, ℕ, zero, suc, List, [], ◌∷◌, Some, length, slice_get, slice_index_or, slice_set, refl, sym, ap, subst, arith}
use Rattle.std.proofs.lemmas.Option.{slice_get_read}
use Rattle.ti_debugger.specs.declared.watched.Watched.{Watched}
use Rattle.ti_debugger.specs.Crowds.{number_at, number_of}
use Rattle.ti_debugger.specs.Holding.{is_open}
use Rattle.ti_debugger.specs.Suspending.{AreSettled, AtThread, IsSettled}

pub at_thread : (list new : List Watched) (place thread : ℕ) (one one' : Watched) (P : Watched → Watched → Type 0) → place < length list → number_at list place ≡ Some thread
    → one ≡ slice_index_or list place one → new ≡ slice_set list place one' → P one one' → AtThread thread list new P
at_thread list new place thread one one' P within found is set p =
    let at : slice_get list place ≡ Some one = slice_get_read list (length list) place one refl within is in
    let number : Some one.thread.0 ≡ Some thread = sym (ap number_of at) ∙ found in
    (place, one, one', at, cc number, set, p)

pub settled_same : (list : List Watched) → AreSettled list list
settled_same [] = tt
settled_same (one ∷ list) = (record { rest = refl; closed = λ h. refl }, settled_same list)

settled_again : (a b c : Watched) → IsSettled a b → IsSettled b c → IsSettled a c
settled_again a b c one two = record {
  rest = two.rest ∙ ap (λ (w : Watched). record w { hold = c.hold }) one.rest;
  closed = λ h. two.closed (ap (λ (w : Watched). is_open w.hold) (one.closed h) ∙ h) ∙ one.closed h;
}

settled_in : (old list : List Watched) (place : ℕ) (one one' : Watched) → AreSettled old list → place < length list → one ≡ slice_index_or list place one → IsSettled one one'
    → AreSettled old (slice_set list place one')
settled_in [] [] place one one' are within is settles = absurd (omega (arith, within))
settled_in [] (b ∷ list) place one one' are within is settles = absurd are
settled_in (a ∷ old) [] place one one' are within is settles = absurd are
settled_in (a ∷ old) (b ∷ list) zero one one' are within is settles = (settled_again a b one' are.0 (subst (λ (w : Watched). IsSettled w one') is settles), are.1)
settled_in (a ∷ old) (b ∷ list) (suc place) one one' are within is settles = (are.0, settled_in old list place one one' are.1 (omega (arith, within)) is settles)

-- one more thread is settled
pub settled_set : (old list new : List Watched) (place : ℕ) (one one' : Watched) → AreSettled old list → place < length list → one ≡ slice_index_or list place one → IsSettled one one'
    → new ≡ slice_set list place one' → AreSettled old new
settled_set old list new place one one' are within is settles set = subst (λ (l : List Watched). AreSettled old l) (sym set) (settled_in old list place one one' are within is settles)
