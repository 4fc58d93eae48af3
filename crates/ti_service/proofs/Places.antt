-- Why no environment came.
use Rattle.std.proofs.Common.{◌≡◌, ◌⊎◌, inl, inr, None, ap, ◌∙◌, subst}
use Rattle.ti_types.specs.declared.error.TiError.{TiError}
use Rattle.ti_types.specs.declared.error.TiError.TheVariants.{Busy, Full}
use Rattle.ti_types.specs.declared.limits.Limits.{Limits}
use Rattle.ti_roster.specs.declared.view.RosterView.{RosterView}
use Rattle.ti_roster.specs.Roster.{IsPlaceless}
use Rattle.ti_roster.specs.Rule.{Begins}
use Rattle.ti_roster.specs.View.{split_off}
use Rattle.ti_service.specs.Service.{Looks, Member, NoPlace, RefusesPlace, roster_seen, with_handle}

-- a further handle held the roster, and found no place
pub no_place : (old new service after : Member) (e : TiError) → new ≡ with_handle old → service.view ≡ split_off old.view → Looks service.view after.view → e ≡ Full → IsPlaceless (roster_seen after.view) → RefusesPlace old new e
no_place old new service after e made split looks is placeless =
    NoPlace is made after.view.seen
    (subst (λ (v : RosterView). Begins after.view.seen v.seen) split looks.begins)
    (subst (λ (l : Limits). IsPlaceless (record { items = after.view.seen; limits = l; user = None })) (ap (λ (v : RosterView). v.limits) looks.new_is ∙ ap (λ (v : RosterView). v.limits) split) placeless)

-- or the roster was in use
pub no_place_or_busy : (old new service after : Member) (e : TiError) → new ≡ with_handle old → service.view ≡ split_off old.view → (((e ≡ Full) × IsPlaceless (roster_seen after.view)) × Looks service.view after.view) ⊎ ((e ≡ Busy) × (after ≡ service))
    → RefusesPlace old new e ⊎ ((e ≡ Busy) × (new ≡ with_handle old))
no_place_or_busy old new service after e made split (inl found) = inl (no_place old new service after e made split found.1 found.0.0 found.0.1)
no_place_or_busy old new service after e made split (inr busy) = inr (busy.0, made)
