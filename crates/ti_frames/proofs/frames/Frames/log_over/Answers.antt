use Rattle.std.proofs.Common.{arith}
use Rattle.ti_frames.proofs.ChangeLaws.{keeping_len}
use Rattle.ti_frames.proofs.frames.Frames.log_over.Goals as goal

pub log_leaves-requires-clause-room : goal.log_leaves-requires-clause-room
log_leaves-requires-clause-room c = omega (arith, c.len.ensures.len, c.requires.room, keeping_len c.args.keep c.args.self.now.frames c.args.newest.now)
