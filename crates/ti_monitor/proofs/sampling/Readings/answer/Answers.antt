use Rattle.std.proofs.Common.{◌∙◌, ◌≤◌, List, length, ap, subst, sym}
use Rattle.ti_monitor.specs.declared.running.Running.{Running}
use Rattle.ti_monitor.specs.Counted.{CountsStack}
use Rattle.ti_monitor.proofs.OrderLaws.{orders_item}
use Rattle.ti_monitor.proofs.SamplingLaws.{each_more, each_written}
use Rattle.ti_monitor.proofs.sampling.Readings.answer.Goals as goal

pub loop-reading-preserved : goal.loop-reading-preserved
loop-reading-preserved c = record {
  counts = each_more (CountsStack c.args.place c.args.self.now.stack.frames.items c.args.watched.now) c.loop-reading.reading-index c.args.self.now.running.items c.loop-reading.reading-items c.answer-owed.new.self c.reading-item.result
      c.loop-reading.invariant.counts c.answer-owed.ensures.counts;
  orders = orders_item c.loop-reading.reading-items c.loop-reading.reading-index c.answer-owed.new.self c.reading-item.result (λ i. (c.answer-owed.ensures.no i, c.answer-owed.ensures.order i))
      ∙ c.loop-reading.invariant.orders;
}

pub returns-clause-counts : goal.returns-clause-counts
returns-clause-counts c =
    let value = c.deref_mut-reading-items.ensures.value in
    let over = subst (λ (l : List Running). length l ≤ c.loop-reading.reading-index) value c.loop-reading-test.false in
    let same = c.loop-reading.auto.reading-items ∙ ap (λ (l : List Running). length l) value in
    let long = sym c.deref_mut-reading-items.ensures.len ∙ ap (λ (l : List Running). length l) value in
    each_written (CountsStack c.args.place c.args.self.now.stack.frames.items c.args.watched.now) c.loop-reading.reading-index c.args.self.now.running.len c.args.self.now.running.items c.loop-reading.reading-items c.loop-reading.invariant.counts over same long
