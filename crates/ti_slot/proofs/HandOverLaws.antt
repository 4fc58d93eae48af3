-- The count of a slot's hand-overs, entry by entry.
use Rattle.std.proofs.Common.{◌≡◌, ◌+◌, ◌*◌, ◌<◌, ◌≤◌, ◌^◌, false, List, [], ◌∷◌, ◌++◌, refl, ◌∙◌, arith}
use Rattle.std.proofs.lemmas.Nat.{mul-le}
use Rattle.std.proofs.lemmas.List.Sums.{sum_by-append, count_by-le-length}
use Rattle.ti_types.specs.declared.step.Step.{Step}
use Rattle.ti_types.specs.declared.state.Safe.{Safe}
use Rattle.ti_types.specs.declared.entry.Entry.{Entry}
use Rattle.ti_types.specs.declared.entry.Entry.TheVariants.{Hand}
use Rattle.ti_replay.specs.LateTickets.{steps_of}
use Rattle.ti_replay.proofs.BoundLaws.{length_bounded}
use Rattle.ti_slot.specs.declared.slot.Slot.TheInside.{Inside}
use Rattle.ti_slot.specs.Inside.{IsWhole}
use Rattle.ti_slot.specs.HandOvers.{is_hand, hand_overs}

hand_overs-append : (front rest : List Entry) → hand_overs (front ++ rest) ≡ hand_overs front + hand_overs rest
hand_overs-append front rest = sum_by-append _ front rest

-- a step is no hand-over
no_steps : (steps : List Step) → hand_overs (steps_of steps) ≡ 0
no_steps [] = refl
no_steps (x ∷ steps) = no_steps steps

-- one more entry that is no hand-over
pub count_stays : (a : Inside) (x : Entry) (h : List Entry) → IsWhole a → is_hand x ≡ false → h ≡ a.history.items ++ x ∷ [] → a.handed ≡ hand_overs h
count_stays a x h s other e = s.2 ∙ rw (e, hand_overs-append a.history.items (x ∷ [])) (grind (arith, other))

-- the logged steps, and then an entry that is no hand-over
pub count_stays_behind : (a : Inside) (steps : List Step) (x : Entry) (h : List Entry) → IsWhole a → is_hand x ≡ false → h ≡ (a.history.items ++ steps_of steps) ++ x ∷ [] → a.handed ≡ hand_overs h
count_stays_behind a steps x h s other e = s.2 ∙ rw (e, hand_overs-append (a.history.items ++ steps_of steps) (x ∷ []), hand_overs-append a.history.items (steps_of steps), no_steps steps) (grind (arith, other))

-- and then a hand-over
pub one_more : (a : Inside) (steps : List Step) (safe : Safe) (h : List Entry) → IsWhole a → h ≡ (a.history.items ++ steps_of steps) ++ Hand safe ∷ [] → a.handed + 1 ≡ hand_overs h
one_more a steps safe h s e = rw (e, hand_overs-append (a.history.items ++ steps_of steps) (Hand safe ∷ []), hand_overs-append a.history.items (steps_of steps), no_steps steps) (omega (arith, s.2))

-- there are few enough to be counted
pub count_bounded : (a : Inside) → IsWhole a → a.handed < 2 ^ 61
count_bounded a s =
    let r = a.limits.in_range in
    let calls : a.limits.envs * a.limits.calls ≤ 32 * 2 ^ 52 = mul-le a.limits.envs a.limits.calls 32 (2 ^ 52) r.1.1 r.4.1 in
    omega (arith, s.2, count_by-le-length is_hand a.history.items, length_bounded a.limits a.history.items s.0.legal, r.3.1, calls)
