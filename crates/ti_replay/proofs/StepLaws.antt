-- A replay goes through a history entry by entry.
use Rattle.std.proofs.Common.{◌≡◌, ℕ, ◌+◌, ◌<◌, ◌≤◌, true, false, List, [], ◌∷◌, length, get_or, take, drop, refl, ap, ◌∙◌, arith, Some, None, inl, inr, add-one, drop-cons, length-take, drop_of_length-le}
use Rattle.std.proofs.lemmas.Bool.{cases_Bool}
use Rattle.std.proofs.lemmas.Grind.{take_at_read}
use Rattle.ti_types.specs.declared.limits.Limits.{Limits}
use Rattle.ti_types.specs.declared.entry.Entry.{Entry}
use Rattle.ti_types.specs.declared.entry.Entry.TheVariants.{Start}
use Rattle.ti_replay.specs.Legal.{first_illegal, may_follow, is_legal}
use Rattle.ti_replay.specs.PlacedState.{placed_state, may_enter, entered}
use Rattle.ti_replay.proofs.HistoryLaws.{placed_state-snoc}
use Rattle.ti_replay.proofs.CostLaws.{may_follow_is, goes_on_is}

abbrev pub entry_at : List Entry → ℕ → Entry
entry_at es i = get_or es i Start

-- the state moves on by one entry
pub placed_state-take : (limits : Limits) (es : List Entry) (i : ℕ) → i < length es → placed_state limits (take (i + 1) es) ≡ entered (placed_state limits (take i es)) (entry_at es i)
placed_state-take limits es i h = ap (placed_state limits) (take_at_read es i Start h).1 ∙ placed_state-snoc limits (take i es) (entry_at es i)

-- an entry that may come is not illegal
pub first_illegal_on : (limits : Limits) (es : List Entry) (i : ℕ) → i < length es → may_enter limits (placed_state limits (take i es)) (entry_at es i) ≡ true
    → first_illegal limits (take (i + 1) es) (drop (i + 1) es) ≡ first_illegal limits (take i es) (drop i es)
first_illegal_on limits es i h may =
    let m : may_follow limits (take i es) (entry_at es i) ≡ true = may_follow_is limits (take i es) (entry_at es i) ∙ may in
    let d : drop i es ≡ entry_at es i ∷ drop (i + 1) es = rw add-one (drop-cons es i Start h) in
    rw (d, m, (take_at_read es i Start h).1) refl

-- an entry that may not come is the first illegal one
pub first_illegal_here : (limits : Limits) (es : List Entry) (i : ℕ) → i < length es → may_enter limits (placed_state limits (take i es)) (entry_at es i) ≡ false
    → first_illegal limits (take i es) (drop i es) ≡ Some i
first_illegal_here limits es i h may_not =
    let m : may_follow limits (take i es) (entry_at es i) ≡ false = may_follow_is limits (take i es) (entry_at es i) ∙ may_not in
    let d : drop i es ≡ entry_at es i ∷ drop (i + 1) es = rw add-one (drop-cons es i Start h) in
    let n : length (take i es) ≡ i = omega (arith, length-take i es) in
    rw (d, m, n) refl

-- at the end no entry is left
pub none_at_end : (limits : Limits) (front es : List Entry) (i : ℕ) → length es ≤ i → first_illegal limits front (drop i es) ≡ None
none_at_end limits front es i h = rw (drop_of_length-le es h) refl

pub legal_from_none : (limits : Limits) (es : List Entry) → first_illegal limits [] es ≡ None → is_legal limits es ≡ true
legal_from_none limits es h = (goes_on_is limits [] es).1 h

-- a history with an illegal entry is illegal
pub illegal_from_some : (limits : Limits) (es : List Entry) (i : ℕ) → first_illegal limits [] es ≡ Some i → is_legal limits es ≡ false
illegal_from_some limits es i h =
    elim (cases_Bool (is_legal limits es)) [
      | inl legal ↦ let n = (goes_on_is limits [] es).0 legal in cc
      | inr illegal ↦ illegal
    ]
