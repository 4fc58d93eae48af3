use Rattle.std.proofs.Common.{refl}
use Rattle.ti_capi.proofs.held.Held.watch.Goals as goal

pub returns-in-Watch : goal.returns-in-Watch
returns-in-Watch c = rw c.in-Watch.is (refl, record { writes_back = tt; value = refl })
