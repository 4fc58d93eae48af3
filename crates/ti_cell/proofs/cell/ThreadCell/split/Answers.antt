use Rattle.std.proofs.Common.{rules}
use Rattle.ti_cell.proofs.Steps.{seats_keep}
use Rattle.ti_cell.proofs.cell.ThreadCell.split.Goals as goal

pub split_seat-seat-requires : goal.split_seat-seat-requires
split_seat-seat-requires c = (search rules, search rules, seats_keep _ _ _ c.requires.owner.0 c.requires.owner.1)
