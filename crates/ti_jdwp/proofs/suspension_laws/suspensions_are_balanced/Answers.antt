use Rattle.ti_jdwp.proofs.Balance.{balanced}
use Rattle.ti_jdwp.proofs.suspension_laws.suspensions_are_balanced.Goals as goal

pub returns : goal.returns
returns c = balanced
