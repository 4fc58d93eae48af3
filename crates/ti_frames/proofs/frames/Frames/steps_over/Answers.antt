use Rattle.std.proofs.Common.{arith}
use Rattle.ti_frames.proofs.ChangeLaws.{keeping_len, entries_few}
use Rattle.ti_frames.proofs.frames.Frames.steps_over.Goals as goal

pub entries_len-requires : goal.entries_len-requires
entries_len-requires c = omega (arith, c.requires.depth, c.depth-depth.ensures, c.depth-depth.type_inv)

pub overflow_add-result : goal.overflow_add-result
overflow_add-result c = omega (arith, c.requires.depth, c.depth-depth.ensures, c.depth-depth.type_inv, c.len.ensures.len, c.len.ensures.fits, c.entries_len.ensures, entries_few c.args.newest.now)

pub returns : goal.returns
returns c = omega (arith, c.len.ensures.len, c.entries_len.ensures, keeping_len c.args.keep c.args.self.now.frames c.args.newest.now)
