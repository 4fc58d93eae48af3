use Rattle.std.proofs.Common.{rules, arith, ◌≡◌, ◌<◌, ◌+◌, ◌++◌, ◌∷◌, [], length, take, get_or, sym, ap, subst, ◌∙◌, length-append}
use Rattle.std.proofs.lemmas.Grind.{take_at_read}
use Rattle.std.proofs.lemmas.List.{length-take-le, take_all}
use Rattle.ti_types.specs.declared.numbers.ThreadNo.{ThreadNo}
use Rattle.ti_types.specs.declared.event.Event.{Event}
use Rattle.ti_core.specs.Lists.{event_at, HappenedAtEach}
use Rattle.ti_core.proofs.ListLaws.{OneStep, one_more}
use Rattle.ti_core.proofs.engine.Core.each.Goals as goal

pub loop-thread-preserved : goal.loop-thread-preserved
loop-thread-preserved c =
    let ts = c.args.threads.now in
    let i = c.loop-thread.thread-index in
    let os = c.loop-thread.outcomes.items in
    let o = c.step-outcome.result in
    let at = event_at c.args.env c.args.asked in
    let none : ThreadNo = record { 0 = 0 } in
    let t : ThreadNo = get_or ts i none in
    let within : i < length ts = omega arith in
    let more : take (i + 1) ts ≡ take i ts ++ t ∷ [] = (take_at_read ts i none within).1 in
    let count : length (take i ts) ≡ length os = length-take-le i ts (omega (arith, within)) ∙ sym c.loop-thread.invariant.count in
    let items : c.push.new.self.items ≡ os ++ o ∷ [] = c.in-Ok.ensures.items in
    let f = c.step-outcome.ensures in
    let one : OneStep (at t) c.loop-thread.self c.step-outcome.new.self o =
    subst (λ (x : Event). OneStep x c.loop-thread.self c.step-outcome.new.self o) c.event.ensures
    (record { limits = f.limits; refines = f.refines; said = λ events k. (f.outcome events k, f.ticket events k); fresh = f.fresh; kept = f.kept }) in
    let h = one_more at (take i ts) c.args.self.now c.loop-thread.self c.step-outcome.new.self os t o count c.loop-thread.invariant.happened one in
    record {
      count = ap (λ v. length v) items ∙ length-append os (o ∷ []) ∙ ap (λ n. n + 1) c.loop-thread.invariant.count;
      room = search rules;
      happened = rw (more, items) h;
    }

pub returns-clause-each : goal.returns-clause-each
returns-clause-each c =
    let whole = take_all c.loop-thread.thread-index c.args.threads.now (omega arith) in
    subst (λ ts. HappenedAtEach (event_at c.args.env c.args.asked) ts c.args.self.now c.loop-thread.self c.loop-thread.outcomes.items) whole c.loop-thread.invariant.happened
