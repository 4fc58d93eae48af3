use Rattle.std.proofs.Common.{refl}
use Rattle.ti_capi.proofs.held.Held.env.Goals as goal

pub returns-in-Env : goal.returns-in-Env
returns-in-Env c = rw c.in-Env.is (refl, record { writes_back = tt; value = refl })
