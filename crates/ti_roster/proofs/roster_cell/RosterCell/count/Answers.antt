use Rattle.std.proofs.Common.{rules}
use Rattle.ti_roster.proofs.Steps.{looks_keep}
use Rattle.ti_roster.proofs.roster_cell.RosterCell.count.Goals as goal

pub load-requires : goal.load-requires
load-requires c = (search rules, search rules, looks_keep _ _ _ _)
