use Rattle.std.proofs.Common.{rules, ◌≡◌, ◌⊎◌}
use Rattle.ti_types.specs.declared.error.TiError.{TiError}
use Rattle.ti_types.specs.declared.error.TiError.TheVariants.{Busy}
use Rattle.ti_service.specs.Service.{RefusesPlace, with_handle}
use Rattle.ti_service.proofs.Moves.{if_err}
use Rattle.ti_service.proofs.Places.{no_place_or_busy}
use Rattle.ti_service.proofs.service.Service.attach_environment_now.Goals as goal

pub returns-in_err-env-clause-refused : goal.returns-in_err-env-clause-refused
returns-in_err-env-clause-refused c =
    let old = c.args.self.now in
    if_err (λ (e : TiError). RefusesPlace old c.share.new.self e ⊎ ((e ≡ Busy) × (c.share.new.self ≡ with_handle old))) c.from_residual-in_err-env.result c.in_err-env.field-0.0 (search rules)
    (no_place_or_busy old c.share.new.self c.in_ok-service.service c.claim_now.new.self c.in_err-env.field-0.0 c.in_ok-service.ensures.made c.in_ok-service.ensures.other.1 c.in_err-env.ensures.refused)
