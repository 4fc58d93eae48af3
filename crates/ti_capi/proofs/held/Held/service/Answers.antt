use Rattle.std.proofs.Common.{refl}
use Rattle.ti_capi.proofs.held.Held.service.Goals as goal

pub returns-in-Service : goal.returns-in-Service
returns-in-Service c = rw c.in-Service.is (refl, record { writes_back = tt; value = refl })
