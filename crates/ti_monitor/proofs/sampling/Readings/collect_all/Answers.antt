use Rattle.std.proofs.Common.{◌≡◌, ◌<◌, ◌∙◌, get_or, length, length-set, Some, arith}
use Rattle.std.specs.Prelude.{slice_get}
use Rattle.std.proofs.lemmas.Bool.Decides.{nat_tests}
use Rattle.std.proofs.lemmas.Option.{slice_get-get_or}
use Rattle.ti_monitor.specs.Sampling.{sampling}
use Rattle.ti_monitor.proofs.SamplingLaws.{collects_more}
use Rattle.ti_monitor.proofs.sampling.Readings.collect_all.Goals as goal

pub loop-place-preserved : goal.loop-place-preserved
loop-place-preserved c =
    let n = c.loop-place.place in
    let ws = c.loop-place.watched in
    let w = get_or ws n c.index-watched-place.result in
    let v = c.collect-told.new.watched in
    let below : n < length ws = grind (arith, nat_tests, c.loop-place-test.true, c.loop-place.auto.place-end, c.loop-place.invariant.many) in
    let at : slice_get ws n ≡ Some w = slice_get-get_or ws n c.index-watched-place.result below in
    record {
      collects = collects_more n (sampling c.args.agent.now c.args.watched.now c.args.self.now) (sampling c.loop-place.agent ws c.loop-place.self) c.tell.new.agent c.tell.new.self c.collect-told.new.agent w v c.collect-told.result
          c.loop-place.invariant.collects at c.collect-told.ensures.thread c.collect-told.ensures.tells c.tell.ensures.counts c.tell.ensures.grows c.tell.ensures.env;
      many = length-set ws n v ∙ c.loop-place.invariant.many;
      orders = c.tell.ensures.orders ∙ c.loop-place.invariant.orders;
    }
