use Rattle.std.proofs.Common.{sym, ◌∙◌}
use Rattle.ti_runner.proofs.NewDesks.{last_desk}
use Rattle.ti_runner.proofs.cells.take_desk.Goals as goal

pub returns-clause-desk : goal.returns-clause-desk
returns-clause-desk c = (last_desk c.args.cell.now c.args.limits c.args.thread c.args.env c.pop.new.self.items c.in-Some.desk (sym c.in-Some.ensures.items ∙ c.requires.desks)).1

pub returns-clause-rest : goal.returns-clause-rest
returns-clause-rest c = (last_desk c.args.cell.now c.args.limits c.args.thread c.args.env c.pop.new.self.items c.in-Some.desk (sym c.in-Some.ensures.items ∙ c.requires.desks)).0
