-- An environment that enables its events, or finds the roster in use.
use Rattle.std.proofs.Common.{◌≡◌, Bool, true, false, inl, inr, refl, ap}
use Rattle.std.specs.Prelude.{⊤, Result, Ok, Err, IfErr, OnOk}
use Rattle.ti_types.specs.declared.error.TiError.{TiError}
use Rattle.ti_types.specs.declared.error.TiError.TheVariants.{Busy}
use Rattle.ti_service.specs.declared.event.EventKind.{EventKind}
use Rattle.ti_service.specs.Memberships.{AgentValue, state_of}
use Rattle.ti_service.specs.Telling.{Enables, IsLife, is_enabled}
use Rattle.ti_monitor.specs.Monitors.{MayEnableOne}

by_mode : (k : EventKind) (b : Bool) (old new : AgentValue) → is_enabled old.home.events k ≡ b → (is_enabled old.home.events k ≡ true → new ≡ old)
    → (is_enabled old.home.events k ≡ false → Enables k (state_of old) (state_of new)) → MayEnableOne k (state_of old) (state_of new)
by_mode k true old new is stays enables = inl (ap state_of (stays is))
by_mode k false old new is stays enables = inr (enables is)

pub may_enable : (k : EventKind) (r : Result ⊤ TiError) (old new : AgentValue) → OnOk r (true ≡ true → is_enabled old.home.events k ≡ true → new ≡ old)
    → OnOk r (true ≡ true → is_enabled old.home.events k ≡ false → Enables k (state_of old) (state_of new))
    → IfErr r (λ e. (e ≡ Busy) × (true ≡ true) × (is_enabled old.home.events k ≡ false) × IsLife k × (new ≡ old)) → MayEnableOne k (state_of old) (state_of new)
may_enable k (Ok u) old new stays enables busy = by_mode k (is_enabled old.home.events k) old new refl (stays refl) (enables refl)
may_enable k (Err e) old new stays enables busy = inl (ap state_of busy.4)
