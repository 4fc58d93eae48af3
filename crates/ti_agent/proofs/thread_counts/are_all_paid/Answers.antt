use Rattle.std.proofs.Common.{sym, arith}
use Rattle.ti_agent.proofs.Listing.{few_then}
use Rattle.ti_agent.proofs.thread_counts.are_all_paid.Goals as goal

pub returns-then-left-lt2 : goal.returns-then-left-lt2
returns-then-left-lt2 c = sym (few_then c.args.state.now c.loop-i.i c.args.count c.loop-i-test.true (omega (arith, c.left.ensures, c.if-left-lt2.true)))
