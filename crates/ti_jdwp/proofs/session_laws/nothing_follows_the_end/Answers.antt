use Rattle.ti_jdwp.proofs.Ending as ending
use Rattle.ti_jdwp.proofs.session_laws.nothing_follows_the_end.Goals as goal

pub returns : goal.returns
returns c = ending.nothing_follows
