use Rattle.std.proofs.Common.{◌≡◌, ◌∙◌, List, length, inl, inr, refl, ap, sym, subst}
use Rattle.ti_monitor.specs.declared.monitor.Monitor.{Monitor}
use Rattle.ti_monitor.specs.declared.sampling.Readings.{Readings}
use Rattle.ti_monitor.specs.declared.watched.Watched.{Watched}
use Rattle.ti_monitor.specs.Sampling.{AsksUpTo, CollectsUpTo, EachGoesOn, sampling}
use Rattle.ti_monitor.specs.Ticking.{EndsIfOver, TicksIfDue}
use Rattle.ti_monitor.proofs.SamplingLaws.{written}
use Rattle.ti_monitor.proofs.monitor.Monitor.tick.Goals as goal
use Rattle.ti_monitor.proofs.monitor.Monitor.tick.Goals.{then-is_met, else-is_met}

pub returns-clause-samples : goal.returns-clause-samples
returns-clause-samples c =
    let old = c.args.self.now in
    let met = c.probe_if_due.new.self in
    let ticked = c.if-is_met.self in
    let collected = sampling c.collect_all.new.agent c.collect_all.new.watched c.collect_all.new.self in
    let asked = sampling c.ask_all.new.agent c.ask_all.new.watched c.ask_all.new.self in
    let there = c.deref_mut-2.ensures.value in
    let same = c.ask_all.auto.watched ∙ ap (λ (l : List Watched). length l) there in
    let long = sym c.deref_mut-2.ensures.len ∙ ap (λ (l : List Watched). length l) there in
    record {
      collected = collected;
      met = sampling met.agent met.watched.items met.readings;
      ticked = sampling ticked.agent ticked.watched.items ticked.readings;
      asked = asked;
      collects = subst (λ (ws : List Watched). CollectsUpTo (length ws) (sampling old.agent ws old.readings) collected) c.deref_mut.ensures.value c.collect_all.ensures.collects;
      meets = c.probe_if_due.ensures.readings ∙ c.meet_if_due-is_met.ensures.readings;
      still = elim c.if-is_met.branch [
        | then-is_met w ↦ (ap (λ (m : Monitor). m.agent) w.self-is, ap (λ (m : Monitor). m.watched.items) w.self-is)
        | else-is_met w ↦ (ap (λ (m : Monitor). m.agent) w.self-is, ap (λ (m : Monitor). m.watched.items) w.self-is)
      ];
      ticks = elim c.if-is_met.branch [
        | then-is_met w ↦ (
            let agent_is : ticked.watched.items ≡ met.watched.items = ap (λ (m : Monitor). m.watched.items) w.self-is in
            let ticks : EachGoesOn (TicksIfDue c.args.now met.watched.items) met.readings w.tick_all.new.self =
            subst (λ (ws : List Watched). EachGoesOn (TicksIfDue c.args.now ws) met.readings w.tick_all.new.self) w.deref.ensures.value w.tick_all.ensures.ticks in
            inr (subst (λ (z : List Watched × Readings). EachGoesOn (TicksIfDue c.args.now z.0) met.readings z.1) (λ i. (sym agent_is i, sym (ap (λ (m : Monitor). m.readings) w.self-is) i)) ticks))
        | else-is_met w ↦ inl (ap (λ (m : Monitor). m.readings) w.self-is)
      ];
      asks = subst (λ (ws : List Watched). AsksUpTo (length ws) (sampling ticked.agent ws ticked.readings) asked) there c.ask_all.ensures.asks;
      left = (refl, written ticked.watched.len ticked.watched.items c.ask_all.new.watched same long);
      ends = subst (λ (ws : List Watched). EachGoesOn (EndsIfOver c.args.now ws) asked.readings c.end_all.new.self) c.deref-2.ensures.value c.end_all.ensures.ends;
    }
