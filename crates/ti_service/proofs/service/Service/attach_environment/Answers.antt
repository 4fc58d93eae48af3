use Rattle.std.proofs.Common.{rules}
use Rattle.ti_types.specs.declared.error.TiError.{TiError}
use Rattle.ti_service.specs.Service.{RefusesPlace}
use Rattle.ti_service.proofs.Moves.{if_err}
use Rattle.ti_service.proofs.Places.{no_place}
use Rattle.ti_service.proofs.service.Service.attach_environment.Goals as goal

pub returns-in_err-env-clause-refused : goal.returns-in_err-env-clause-refused
returns-in_err-env-clause-refused g c =
    let old = c.args.self.now in
    if_err (λ (e : TiError). RefusesPlace old c.share.new.self e) c.from_residual-in_err-env.result c.in_err-env.field-0.0 (search rules)
    (no_place old c.share.new.self c.in_ok-service.service c.claim.new.self c.in_err-env.field-0.0 c.in_ok-service.ensures.made c.in_ok-service.ensures.other.1 c.in_err-env.ensures.unchanged c.in_err-env.ensures.full.0 c.in_err-env.ensures.full.1)
