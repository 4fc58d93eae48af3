use Rattle.std.proofs.Common.{rules}
use Rattle.ti_cell.proofs.Steps.{looks_keep}
use Rattle.ti_cell.proofs.cell.ThreadCell.look.Goals as goal

pub load-requires : goal.load-requires
load-requires g c = (search rules, search rules, looks_keep _ _ _ _ (search rules))
