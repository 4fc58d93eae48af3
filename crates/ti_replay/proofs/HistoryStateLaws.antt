-- The state of a history goes on entry by entry.
use Rattle.std.proofs.Common.{◌≡◌, List, [], ◌∷◌, ◌++◌, length, map, refl, ap, sym, ◌∙◌, arith, append_assoc, append-nil}
use Rattle.std.specs.List.{fold}
use Rattle.ti_types.specs.declared.limits.Limits.{Limits}
use Rattle.ti_types.specs.declared.entry.Entry.{Entry}
use Rattle.ti_types.specs.declared.view.ThreadView.{ThreadView}
use Rattle.ti_replay.specs.Settling.{Placed}
use Rattle.ti_replay.specs.View.{after, after_all}
use Rattle.ti_replay.specs.Legal.{may_follow, goes_on}
use Rattle.ti_replay.specs.PlacedState.{PlacedState, placed_state, entered}
use Rattle.ti_replay.specs.HistoryState.{HistoryState, history_state}
use Rattle.ti_replay.proofs.NextStates.{next_state, allows, allows_all}
use Rattle.ti_replay.proofs.HistoryLaws.{placed_state-snoc}
use Rattle.ti_replay.proofs.CostLaws.{may_follow_is}

-- without the places
abbrev pub bare : PlacedState → HistoryState
bare s = record { view = s.view; waiting = map (λ p. p.1) s.waiting; own = s.own; costs = s.costs }

after_all-bare : (v : ThreadView) (s : List Placed) → fold after v (map (λ p. p.1) s) ≡ after_all v s
after_all-bare v [] = refl
after_all-bare v (p ∷ s) = after_all-bare (after v p.1) s

map-snoc : (s : List Placed) (p : Placed) → map (λ q. q.1) (s ++ p ∷ []) ≡ map (λ q. q.1) s ++ p.1 ∷ []
map-snoc [] p = refl
map-snoc (q ∷ s) p = ap (λ t. q.1 ∷ t) (map-snoc s p)

length-bare : (s : List Placed) → length (map (λ p. p.1) s) ≡ length s
length-bare [] = refl
length-bare (p ∷ s) = grind (arith, length-bare s)

entered-bare : (s : PlacedState) (x : Entry) → bare (entered s x) ≡ next_state (bare s) x
entered-bare s x = grind (arith, after_all-bare (after s.view x) s.waiting, map-snoc s.waiting (s.next, x))

-- the state after one more entry
pub history_state-snoc : (limits : Limits) (history : List Entry) (x : Entry) → history_state limits (history ++ x ∷ []) ≡ next_state (history_state limits history) x
history_state-snoc limits history x = ap bare (placed_state-snoc limits history x) ∙ entered-bare (placed_state limits history) x

-- an entry may follow where the state allows it
pub may_follow-allows : (limits : Limits) (history : List Entry) (x : Entry) → may_follow limits history x ≡ allows limits (history_state limits history) x
may_follow-allows limits history x = may_follow_is limits history x ∙ grind (arith, length-bare (placed_state limits history).waiting)

pub goes_on-allows : (limits : Limits) (front history : List Entry) → goes_on limits front history ≡ allows_all limits (history_state limits front) history
goes_on-allows limits front [] = refl
goes_on-allows limits front (x ∷ history) =
    rw (may_follow-allows limits front x, goes_on-allows limits (front ++ x ∷ []) history, history_state-snoc limits front x) refl

pub history_state-append : (limits : Limits) (front history : List Entry) → history_state limits (front ++ history) ≡ fold next_state (history_state limits front) history
history_state-append limits front [] = rw append-nil refl
history_state-append limits front (x ∷ history) =
    ap (history_state limits) (sym (append_assoc front (x ∷ []) history)) ∙ history_state-append limits (front ++ x ∷ []) history
    ∙ ap (λ s. fold next_state s history) (history_state-snoc limits front x)
