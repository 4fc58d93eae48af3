use Rattle.std.proofs.Common.{rules, refl, [], ◌∙◌}
use Rattle.ti_monitor.proofs.SamplingLaws.{grows_self, grows_then, named_more}
use Rattle.ti_monitor.proofs.sampling.Readings.take.Goals as goal

pub loop-frame-init : goal.loop-frame-init
loop-frame-init c = record { named = ([], c.in_ok-begin.ensures, tt); grows = grows_self c.args.self.now.methods; running = refl; env = refl }

pub loop-frame-preserved : goal.loop-frame-preserved
loop-frame-preserved c = record {
  named = named_more _ _ c.args.frames.now c.loop-frame.frame-index _ _ _ _ c.frame_of.ensures.grows c.loop-frame-test.true c.loop-frame.invariant.named c.frame_of.ensures.named c.in_ok-push.ensures;
  grows = grows_then _ _ _ c.loop-frame.invariant.grows c.frame_of.ensures.grows;
  running = search rules;
  env = c.frame_of.ensures.env ∙ c.loop-frame.invariant.env;
}
