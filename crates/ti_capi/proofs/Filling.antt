-- Handles that are filled.
use Rattle.std.proofs.Common.{◌≡◌, ℕ, true, Option, Some, Result, Ok, Err, refl, sym, subst}
use Rattle.std.specs.Prelude.{◌==◌, IfErr, IfOk, OnOk}
use Rattle.ti_types.specs.TiError.{number_of}
use Rattle.ti_types.specs.declared.error.TiError.{TiError}
use Rattle.ti_service.specs.Service.{Member}
use Rattle.ti_capi.specs.declared.held.Held.{Held}
use Rattle.ti_capi.specs.Handles.{Handle, service_in, with_service}
use Rattle.ti_capi.specs.Services.{Fills, FillRefused, Filled, FillsBy}

-- two clauses of what was done are one
pub both_ok : {V E : Type 0} (P : Type 0) (Q : V → Type 0) (r : Result V E) → OnOk r P → IfOk r Q → IfOk r (λ v. P × Q v)
both_ok P Q (Ok v) p q = (p, q)
both_ok P Q (Err e) p q = tt

-- what was made is behind the handle, or the code tells why not
module _ {B : Type 0} (value : B → Held) (Same : Type 0) (Made : Option Held → Type 0) (Refused : TiError → Type 0) (old new : Handle) (code : ℕ) where
  pub filled : (r : Result B TiError) → (old.kind == 0) ≡ true → IfOk r (λ b. (new.place.held ≡ Some (value b)) × (code ≡ 0)) → IfErr r (λ e. (new ≡ old) × (code ≡ number_of e))
      → IfOk r (λ b. Made (Some (value b))) → IfErr r Refused → Fills Same Made Refused old new code
  filled (Ok b) empty put kept made refused = Filled put.1 empty (subst Made (sym put.0) made)
  filled (Err e) empty put kept made refused = FillRefused e kept.1 empty kept.0 refused

-- the same by a handle of the service
pub filled_by : (R : Member → Member → Handle → Handle → ℕ → Type 0) (m n : Member) (s old new : Handle) (code : ℕ) → Some m ≡ service_in s → R m n old new code → FillsBy R (service_in s) (Some n) s (with_service s n) old new code
filled_by R m n s old new code is says = subst (λ (o : Option Member). FillsBy R o (Some n) s (with_service s n) old new code) is (refl, says)
