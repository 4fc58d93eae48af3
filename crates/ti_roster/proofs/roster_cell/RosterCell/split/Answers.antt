use Rattle.std.proofs.Common.{rules}
use Rattle.ti_roster.proofs.Steps.{splits_keep}
use Rattle.ti_roster.proofs.roster_cell.RosterCell.split.Goals as goal

pub split_seat-seat-requires : goal.split_seat-seat-requires
split_seat-seat-requires c = (search rules, search rules, splits_keep _ _ _ c.seat.invariant.1)
