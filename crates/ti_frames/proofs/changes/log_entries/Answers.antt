use Rattle.ti_frames.proofs.ChangeLaws.{log_fit}
use Rattle.ti_frames.proofs.changes.log_entries.Goals as goal

pub log_entry-requires : goal.log_entry-requires
log_entry-requires c = log_fit c.args.log.now c.loop-i.log c.args.newest.now c.loop-i.i _ c.loop-i.invariant c.requires c.loop-i-test.true
