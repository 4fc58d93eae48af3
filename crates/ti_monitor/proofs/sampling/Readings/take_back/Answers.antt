use Rattle.std.proofs.Common.{◌∙◌, ◌≤◌, List, length, ap, subst, sym}
use Rattle.ti_monitor.specs.declared.running.Running.{Running}
use Rattle.ti_monitor.specs.Counted.{TakesBackAt}
use Rattle.ti_monitor.proofs.OrderLaws.{orders_item}
use Rattle.ti_monitor.proofs.SamplingLaws.{each_more, each_written}
use Rattle.ti_monitor.proofs.sampling.Readings.take_back.Goals as goal

pub loop-reading-preserved : goal.loop-reading-preserved
loop-reading-preserved c = record {
  takes = each_more (TakesBackAt c.args.place) c.loop-reading.reading-index c.args.self.now.running.items c.loop-reading.reading-items c.take_back.new.self c.reading-item.result
      c.loop-reading.invariant.takes c.take_back.ensures.takes;
  orders = orders_item c.loop-reading.reading-items c.loop-reading.reading-index c.take_back.new.self c.reading-item.result (λ i. (c.take_back.ensures.no i, c.take_back.ensures.order i))
      ∙ c.loop-reading.invariant.orders;
}

pub returns-clause-takes : goal.returns-clause-takes
returns-clause-takes c =
    let value = c.deref_mut-reading-items.ensures.value in
    let over = subst (λ (l : List Running). length l ≤ c.loop-reading.reading-index) value c.loop-reading-test.false in
    let same = c.loop-reading.auto.reading-items ∙ ap (λ (l : List Running). length l) value in
    let long = sym c.deref_mut-reading-items.ensures.len ∙ ap (λ (l : List Running). length l) value in
    each_written (TakesBackAt c.args.place) c.loop-reading.reading-index c.args.self.now.running.len c.args.self.now.running.items c.loop-reading.reading-items c.loop-reading.invariant.takes over same long
