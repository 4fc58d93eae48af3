use Rattle.std.proofs.Common.{arith, ◌-◌}
use Rattle.tiprof.proofs.LineLaws.{goes_on}
use Rattle.tiprof.proofs.folded.line_of.Goals as goal

pub loop-left-preserved : goal.loop-left-preserved
loop-left-preserved c =
    let at = c.loop-left in (
      omega (arith, at.invariant.0),
      goes_on c.methods-methods.result.now c.args.root.now at.line.bytes.items _ _ c.name_of.result.now at.left (at.left - 1) _ (omega (arith, c.loop-left-test.true)) at.invariant.0 at.invariant.1 c.in_ok-push_str-2.ensures.bytes c.in_ok-push_str-3.ensures.bytes c.name_of.ensures,
    )
