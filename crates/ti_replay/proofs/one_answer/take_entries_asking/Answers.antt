use Rattle.std.proofs.Common.{arith, ◌<◌, length}
use Rattle.std.proofs.lemmas.Grind.{common_steps}
use Rattle.ti_replay.proofs.AskingLaws.{wait_few, calls_here}
use Rattle.ti_replay.proofs.one_answer.take_entries_asking.Goals as goal

pub loop-at-preserved : goal.loop-at-preserved
loop-at-preserved c =
    let within : c.loop-at.at-index < length c.args.entries.now = omega arith in
    let waits = calls_here c.args.entries.now c.loop-at.at-index within c.loop-at.invariant.calls in
    record {
      view = grind (arith, common_steps);
      reply = grind (arith, common_steps);
      few = rw c.in_ok-told.ensures.view (wait_few c.loop-at.view _ _ waits c.loop-at.invariant.few);
      calls = grind (arith, common_steps);
    }
