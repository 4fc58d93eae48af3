-- The first event of a list that is told.
use Rattle.std.proofs.Common.{◌≡◌, ◌≤◌, ℕ, zero, suc, List, [], ◌∷◌, length, drop, Bool, true, false, if◌then◌else◌, Some, None, refl, ap, ◌∙◌, arith}
use Rattle.std.specs.Prelude.{slice_get}
use Rattle.ti_roster.specs.declared.life_event.LifeEvent.{LifeEvent}
use Rattle.ti_roster.specs.declared.life_modes.LifeModes.{LifeModes}
use Rattle.ti_roster.specs.Modes.{seek, tells}
use Rattle.ti_roster.proofs.Places.{is_same, nothing_at}

drop_at : {A : Type 0} (l : List A) (i : ℕ) (x : A) → slice_get l i ≡ Some x → drop i l ≡ x ∷ drop (suc i) l
drop_at [] i x at = absurd (nothing_at i x at)
drop_at (y ∷ l) zero x at = ap (λ z. z ∷ l) (is_same y x at)
drop_at (y ∷ l) (suc i) x at = drop_at l i x at

drop_past : {A : Type 0} (l : List A) (i : ℕ) → length l ≤ i → drop i l ≡ []
drop_past [] zero h = refl
drop_past [] (suc i) h = refl
drop_past (x ∷ l) zero h = absurd (omega (arith, h))
drop_past (x ∷ l) (suc i) h = drop_past l i (omega (arith, h))

-- an event that is told is found
pub seek_here : (m : LifeModes) (life : List LifeEvent) (i : ℕ) (e : LifeEvent) → slice_get life i ≡ Some e → tells m i e ≡ true → seek m i (drop i life) ≡ Some (record { index = i; event = e })
seek_here m life i e at yes' =
    ap (seek m i) (drop_at life i e at) ∙ ap (λ (b : Bool). if b then Some (record { index = i; event = e }) else seek m (suc i) (drop (suc i) life)) yes'

-- one that is not told is passed by
pub seek_past : (m : LifeModes) (life : List LifeEvent) (i : ℕ) (e : LifeEvent) → slice_get life i ≡ Some e → tells m i e ≡ false → seek m i (drop i life) ≡ seek m (suc i) (drop (suc i) life)
seek_past m life i e at no' =
    ap (seek m i) (drop_at life i e at) ∙ ap (λ (b : Bool). if b then Some (record { index = i; event = e }) else seek m (suc i) (drop (suc i) life)) no'

-- behind all there is none
pub seek_end : (m : LifeModes) (life : List LifeEvent) (i : ℕ) → length life ≤ i → seek m i (drop i life) ≡ None
seek_end m life i h = ap (seek m i) (drop_past life i h)
