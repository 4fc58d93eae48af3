use Rattle.std.proofs.Common.{refl}
use Rattle.ti_jdwp.specs.SessionRuns.{StoppedAt}
use Rattle.ti_debugger.proofs.TellLaws.{tells_one}
use Rattle.ti_debugger.proofs.halting.tell.Goals as goal

pub returns : goal.returns
returns c = λ log n. tells_one log n n (StoppedAt _ _) _ _ refl c.stopped-verdict.ensures refl
