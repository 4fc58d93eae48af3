use Rattle.ti_laws.proofs.ListLaws as laws
use Rattle.ti_laws.proofs.runs.lists_are_deeds.Goals as goal

pub returns : goal.returns
returns c = laws.lists_are_deeds
