use Rattle.std.proofs.Common.{arith, true, ◌≡◌, ◌<◌, ◌+◌, ◌++◌, ◌∷◌, [], List, Option, Some, length, map, take, get_or, sym, ap, subst, ◌∙◌, length-append}
use Rattle.std.proofs.lemmas.Grind.{take_at_read}
use Rattle.std.proofs.lemmas.List.{length-take-le, take_all}
use Rattle.ti_types.specs.declared.limits.Limits.{Limits}
use Rattle.ti_types.specs.declared.event.Event.{Event}
use Rattle.ti_types.specs.declared.event.Event.TheVariants.{Start}
use Rattle.ti_types.specs.declared.event.Outcome.{Outcome}
use Rattle.ti_replay.specs.Admission.{Happening}
use Rattle.ti_replay.specs.Outcomes.{happening, happenings, told_now, told_later, out_of, outs}
use Rattle.ti_core.specs.Refines.{Refines}
use Rattle.ti_core.specs.Runs.{HasSeen, is_final}
use Rattle.std.specs.List.{list_all}
use Rattle.ti_core.proofs.NewLaws.{restored}
use Rattle.ti_core.proofs.RunLaws.{happenings-snoc, seen_on, told_happening}
use Rattle.ti_core.proofs.TurnLaws.{same_happenings}
use Rattle.ti_core.proofs.engine.Core.run.Goals as goal

pub loop-event-preserved : goal.loop-event-preserved
loop-event-preserved c =
    let es = c.args.events.now in
    let i = c.loop-event.event-index in
    let os = c.loop-event.outcomes.items in
    let s = c.loop-event.core in
    let o = c.step-outcome.result in
    let x : Event = get_or es i (Start (record { 0 = 0 })) in
    let within : i < length es = omega arith in
    let more : take (i + 1) es ≡ take i es ++ x ∷ [] = (take_at_read es i (Start (record { 0 = 0 })) within).1 in
    let count : length (take i es) ≡ length os = length-take-le i es (omega (arith, within)) ∙ sym c.loop-event.invariant.count in
    let items : c.push.new.self.items ≡ os ++ Some o ∷ [] = c.in-Ok-push.ensures.items in
    let hs = happenings (take i es) os in
    let k = c.loop-event.invariant.seen in
    let h : Happening = happening x (Some o) in
    let same : happening x (told_now o) ≡ h = told_happening x o in
    let st = subst (λ (g : Happening). Refines (hs ++ g ∷ []) c.step-outcome.new.self) same (c.step-outcome.ensures.refines hs k.refines) in
    let told = subst (λ (g : Happening). told_now o ≡ out_of s.limits (hs ++ g ∷ []) hs g) same (c.step-outcome.ensures.outcome hs k.refines) in
    let on = seen_on hs os s c.step-outcome.new.self h o k st c.step-outcome.ensures.limits (told, c.step-outcome.ensures.ticket hs k.refines) c.step-outcome.ensures.kept c.step-outcome.ensures.fresh in
    record {
      limits = c.step-outcome.ensures.limits ∙ c.loop-event.invariant.limits;
      count = ap (λ v. length v) items ∙ length-append os (Some o ∷ []) ∙ ap (λ n. n + 1) c.loop-event.invariant.count;
      seen = rw (more, items, happenings-snoc (take i es) os x (Some o) count) on;
    }

pub returns-clause-outcomes : goal.returns-clause-outcomes
returns-clause-outcomes c =
    let es = c.args.events.now in
    let i = c.loop-event.event-index in
    let os = c.loop-event.outcomes.items in
    let new = c.answer_all.new.outcomes in
    let v = c.deref_mut.ensures.value in
    let q = restored c.loop-event.outcomes.len os new (grind (arith, c.answer_all.auto.outcomes, v)) (grind (arith, c.deref_mut.ensures.len, v)) in
    let whole : take i es ≡ es = take_all i es (omega arith) in
    let hs = happenings (take i es) os in
    let k : HasSeen hs c.deref_mut.result.now c.loop-event.core = subst (λ (z : List (Option Outcome)). HasSeen hs z c.loop-event.core) (sym v) c.loop-event.invariant.seen in
    let told = c.answer_all.ensures.told hs k in
    let marks = same_happenings es new c.deref_mut.result.now (c.answer_all.ensures.marks hs k) in
    let e : map told_later new ≡ outs c.args.limits (happenings es new) =
    told ∙ ap (λ (l : Limits). outs l hs) c.loop-event.invariant.limits ∙ ap (λ z. outs c.args.limits (happenings z os)) whole ∙ ap (λ z. outs c.args.limits (happenings es z)) (sym v) ∙ ap (outs c.args.limits) (sym marks) in
    subst (λ (z : List (Option Outcome)). map told_later z ≡ outs c.args.limits (happenings es z)) (sym q) e

pub returns-clause-settled : goal.returns-clause-settled
returns-clause-settled c =
    let os = c.loop-event.outcomes.items in
    let new = c.answer_all.new.outcomes in
    let v = c.deref_mut.ensures.value in
    let q = restored c.loop-event.outcomes.len os new (grind (arith, c.answer_all.auto.outcomes, v)) (grind (arith, c.deref_mut.ensures.len, v)) in
    subst (λ (z : List (Option Outcome)). list_all is_final z ≡ true) (sym q) c.answer_all.ensures.settled
