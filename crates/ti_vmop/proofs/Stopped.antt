-- Threads that were stopped, and the first of a list.
use Rattle.std.proofs.Common.{◌≡◌, ℕ, zero, suc, true, false, [], ◌∷◌, take, refl, ◌∙◌, arith, eq-eqb}
use Rattle.std.proofs.lemmas.List.Sums.{fold-append}
use Rattle.ti_types.specs.declared.entry.Entry.TheVariants.{Stop}
use Rattle.ti_replay.specs.Fronts.{stops_by, stops_after}
use Rattle.ti_handshake.specs.Desk.{DeskState}
use Rattle.ti_vmop.specs.Turns.{Listed, is_listed, AreDistinct, AreThere, HasAdded}

-- who was stopped is, until it is let go
pub now_stops : (x y : DeskState) → HasAdded x y (Stop x.env ∷ []) → stops_by y.env y.view.mine ≡ true
now_stops x y h =
    (λ i. stops_by (h.same.env i) (h.mine i)) ∙ (fold-append (stops_after x.env) false x.view.mine (Stop x.env ∷ []) ∙ grind (arith, eq-eqb x.env.0 x.env.0 refl))

-- the first of a list are there, each once

pub there_some : (n k : ℕ) (threads : Listed) → AreThere n threads → AreThere n (take k threads)
there_some n zero threads h = refl
there_some n (suc k) [] h = refl
there_some n (suc k) (x ∷ threads) h = grind (arith, h, there_some n k threads)

listed_some : (i k : ℕ) (threads : Listed) → is_listed i threads ≡ false → is_listed i (take k threads) ≡ false
listed_some i zero threads h = refl
listed_some i (suc k) [] h = refl
listed_some i (suc k) (x ∷ threads) h = grind (arith, h, listed_some i k threads)

pub distinct_some : (k : ℕ) (threads : Listed) → AreDistinct threads → AreDistinct (take k threads)
distinct_some zero threads h = tt
distinct_some (suc k) [] h = tt
distinct_some (suc k) (x ∷ threads) h = (listed_some x.0.0 k threads h.0, distinct_some k threads h.1)
