use Rattle.std.proofs.Common.{arith}
use Rattle.ti_script.proofs.NameLaws.{within_all}
use Rattle.ti_script.proofs.names.Names.longest.Goals as goal

pub returns : goal.returns
returns c = within_all c.args.self.now c.loop-at.longest (λ k h. c.loop-at.invariant k (omega (arith, h, c.len-at-end.ensures.length, c.loop-at-test.false)))
