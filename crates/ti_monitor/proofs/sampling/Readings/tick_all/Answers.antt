use Rattle.std.proofs.Common.{◌∙◌, ◌≤◌, List, length, ap, refl, subst, sym}
use Rattle.ti_monitor.specs.declared.running.Running.{Running}
use Rattle.ti_monitor.specs.Ticking.{TicksIfDue}
use Rattle.ti_monitor.proofs.OrderLaws.{orders_item}
use Rattle.ti_monitor.proofs.SamplingLaws.{each_more, each_written}
use Rattle.ti_monitor.proofs.sampling.Readings.tick_all.Goals as goal

pub loop-reading-preserved : goal.loop-reading-preserved
loop-reading-preserved c = record {
  ticks = each_more (TicksIfDue c.args.now c.args.watched.now) c.loop-reading.reading-index c.args.self.now.running.items c.loop-reading.reading-items c.tick.new.reading c.reading-item.result c.loop-reading.invariant.ticks c.tick.ensures.ticks;
  orders = orders_item c.loop-reading.reading-items c.loop-reading.reading-index c.tick.new.reading c.reading-item.result c.tick.ensures.order ∙ c.loop-reading.invariant.orders;
}

pub returns-clause-ticks : goal.returns-clause-ticks
returns-clause-ticks c =
    let value = c.deref_mut-reading-items.ensures.value in
    let over = subst (λ (l : List Running). length l ≤ c.loop-reading.reading-index) value c.loop-reading-test.false in
    let same = c.loop-reading.auto.reading-items ∙ ap (λ (l : List Running). length l) value in
    let long = sym c.deref_mut-reading-items.ensures.len ∙ ap (λ (l : List Running). length l) value in
    record { running = each_written (TicksIfDue c.args.now c.args.watched.now) c.loop-reading.reading-index c.args.self.now.running.len c.args.self.now.running.items c.loop-reading.reading-items c.loop-reading.invariant.ticks over same long; methods = refl }
