use Rattle.ti_cell_tests.proofs.ClearPolls.{calm_then}
use Rattle.ti_cell_tests.proofs.clear_polls.finish.Goals as goal

pub returns : goal.returns
returns c = record { calm = λ is_clear. calm_then c.close.result c.args.own.view c.args.clear c.requires.polled is_clear c.close.ensures.users }
