use Rattle.std.proofs.Common.{◌∙◌, ◌≤◌, List, length, ap, refl, subst, sym}
use Rattle.ti_monitor.specs.declared.running.Running.{Running}
use Rattle.ti_monitor.specs.Ticking.{EndsIfOver}
use Rattle.ti_monitor.proofs.OrderLaws.{orders_item}
use Rattle.ti_monitor.proofs.SamplingLaws.{each_more, each_written}
use Rattle.ti_monitor.proofs.sampling.Readings.end_all.Goals as goal

pub loop-reading-preserved : goal.loop-reading-preserved
loop-reading-preserved c = record {
  ends = each_more (EndsIfOver c.args.now c.args.watched.now) c.loop-reading.reading-index c.args.self.now.running.items c.loop-reading.reading-items c.end_if_over.new.reading c.reading-item.result c.loop-reading.invariant.ends c.end_if_over.ensures.ends;
  orders = orders_item c.loop-reading.reading-items c.loop-reading.reading-index c.end_if_over.new.reading c.reading-item.result c.end_if_over.ensures.order ∙ c.loop-reading.invariant.orders;
}

pub returns-clause-ends : goal.returns-clause-ends
returns-clause-ends c =
    let value = c.deref_mut-reading-items.ensures.value in
    let over = subst (λ (l : List Running). length l ≤ c.loop-reading.reading-index) value c.loop-reading-test.false in
    let same = c.loop-reading.auto.reading-items ∙ ap (λ (l : List Running). length l) value in
    let long = sym c.deref_mut-reading-items.ensures.len ∙ ap (λ (l : List Running). length l) value in
    record { running = each_written (EndsIfOver c.args.now c.args.watched.now) c.loop-reading.reading-index c.args.self.now.running.len c.args.self.now.running.items c.loop-reading.reading-items c.loop-reading.invariant.ends over same long; methods = refl }
