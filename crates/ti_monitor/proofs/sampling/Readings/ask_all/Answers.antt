use Rattle.std.proofs.Common.{◌∙◌}
use Rattle.ti_monitor.specs.Sampling.{sampling}
use Rattle.ti_monitor.proofs.SamplingLaws.{asks_more}
use Rattle.ti_monitor.proofs.sampling.Readings.ask_all.Goals as goal

pub loop-place-preserved : goal.loop-place-preserved
loop-place-preserved c = record {
  asks = asks_more c.loop-place.place (sampling c.args.agent.now c.args.watched.now c.args.self.now) (sampling c.loop-place.agent c.loop-place.watched c.loop-place.self)
      (sampling c.ask_at.new.agent c.ask_at.new.watched c.ask_at.new.self) c.loop-place.invariant.asks c.ask_at.ensures.asks;
  many = c.ask_at.ensures.many ∙ c.loop-place.invariant.many;
  orders = c.ask_at.ensures.orders ∙ c.loop-place.invariant.orders;
}
