use Rattle.std.proofs.Common.{arith}
use Rattle.ti_frames.proofs.ChangeLaws.{leaves_fit, leaves_on}
use Rattle.ti_frames.proofs.frames.Frames.log_leaves.Goals as goal

pub push-requires : goal.push-requires
push-requires c = leaves_fit c.args.log.now c.loop-i.log c.args.self.now.frames c.loop-i.i c.args.count c.loop-i.invariant c.loop-i-test.true c.requires.count c.requires.room

pub loop-i-preserved : goal.loop-i-preserved
loop-i-preserved c = leaves_on c.args.log.now c.loop-i.log c.push.new.self c.args.self.now.frames c.loop-i.i c.loop-i.invariant c.push.ensures (omega (arith, c.loop-i-test.true, c.requires.count))
