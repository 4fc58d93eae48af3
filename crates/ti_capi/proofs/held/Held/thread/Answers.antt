use Rattle.std.proofs.Common.{refl}
use Rattle.ti_capi.proofs.held.Held.thread.Goals as goal

pub returns-in-Thread : goal.returns-in-Thread
returns-in-Thread c = rw c.in-Thread.is (refl, record { writes_back = tt; value = refl })
