use Rattle.std.proofs.Common.{arith, length-set, ◌∙◌}
use Rattle.ti_monitor.specs.declared.metrics.TheConstants.{BOUNDS}
use Rattle.ti_monitor.proofs.BucketLaws.{bucket_done, bucket_left}
use Rattle.ti_monitor.proofs.metrics.Histogram.add.Goals as goal

pub loop-place-preserved : goal.loop-place-preserved
loop-place-preserved c =
    let old = c.args.self.now.within in
    let now = c.loop-place.self.within in
    let place = c.loop-place.place in
    record {
      done = λ k h. rw c.with_time.ensures (bucket_done BOUNDS old now place c.args.nanos (omega (arith, c.loop-place.invariant.long)) c.loop-place.invariant.done c.loop-place.invariant.rest k h);
      rest = λ k h. bucket_left old now place c.with_time.result c.loop-place.invariant.rest k h;
      long = length-set now place c.with_time.result ∙ c.loop-place.invariant.long;
      sum = c.loop-place.invariant.sum;
      count = c.loop-place.invariant.count;
    }
