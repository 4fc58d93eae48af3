use Rattle.std.proofs.Common.{refl}
use Rattle.ti_capi.proofs.held.Held.door.Goals as goal

pub returns-in-Door : goal.returns-in-Door
returns-in-Door c = rw c.in-Door.is (refl, record { writes_back = tt; value = refl })
