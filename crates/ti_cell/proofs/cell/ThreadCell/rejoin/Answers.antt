use Rattle.std.proofs.Common.{rules}
use Rattle.ti_cell.proofs.Steps.{joins_keep}
use Rattle.ti_cell.proofs.cell.ThreadCell.rejoin.Goals as goal

pub join_seat-requires : goal.join_seat-requires
join_seat-requires c = (search rules, search rules, search rules, search rules, joins_keep _ _ _ _ _ (search rules) (search rules) (search rules) (search rules))
