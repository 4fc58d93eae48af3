use Rattle.std.proofs.Common.{◌≡◌, take, ◌++◌, ◌∷◌, [], refl, ◌<◌, ◌≤◌, ◌+◌, true, false, length, get_or, set, ap, sym, subst, ◌∙◌, arith, Option, None}
use Rattle.std.proofs.lemmas.List.{get_or_default, take_more_set, take_all}
use Rattle.std.proofs.lemmas.List.Folds.{list_all-append}
use Rattle.std.specs.List.{list_all}
use Rattle.ti_types.specs.declared.event.Outcome.{Outcome}
use Rattle.ti_types.specs.declared.event.Ticket.{Ticket}
use Rattle.ti_core.specs.Core.{is_uncollected}
use Rattle.ti_core.specs.Refines.{Refines}
use Rattle.ti_core.specs.Runs.{IsFinished, is_posted, is_final}
use Rattle.ti_core.proofs.TurnLaws.{first_turn, turn, last_turn}
use Rattle.ti_core.proofs.outcomes.answer_all.Goals as goal

pub loop-place-init : goal.loop-place-init
loop-place-init c = (λ hs k. first_turn hs c.args.outcomes.now c.args.core.now k, refl)

pub loop-place-preserved : goal.loop-place-preserved
loop-place-preserved c = (
  λ hs k. (
      let os = c.loop-place.outcomes in
      let j = c.loop-place.place in
      let s = c.loop-place.core in
      let o = c.finish.new.outcome in
      let a = c.loop-place.invariant.0 hs k in
      let n = a.count in
      let lt : j < length os = omega (arith, n) in
      let is : get_or os j c.index-outcomes-place.result ≡ get_or os j None = get_or_default os j c.index-outcomes-place.result None lt in
      let fin : IsFinished hs s (get_or os j None) o = subst (λ (x : Option Outcome). IsFinished hs s x o) is (c.finish.ensures.finished hs a.refines) in
      let others : (u : Ticket) → is_uncollected s u ≡ true → is_posted (get_or os j None) u ≡ false → is_uncollected c.finish.new.core u ≡ true =
      λ u p q. c.finish.ensures.kept u p (ap (λ (x : Option Outcome). is_posted x u) is ∙ q) in
      let st : Refines hs c.finish.new.core = c.finish.ensures.refines hs a.refines in
      (turn c.args.core.now.limits hs c.args.outcomes.now j os s c.finish.new.core o a lt fin others st c.finish.ensures.limits)),
  let os = c.loop-place.outcomes in
      let j = c.loop-place.place in
      let r = c.finish.new.outcome in
      let lt : j < length os = omega arith in
      let more : take (j + 1) (set os j r) ≡ take j os ++ r ∷ [] = take_more_set os j r lt in
      ap (list_all is_final) more ∙ list_all-append is_final (take j os) (r ∷ []) ∙ grind (arith, c.loop-place.invariant.1, c.finish.ensures.settled),
)

pub returns-clause-told : goal.returns-clause-told
returns-clause-told c = λ hs k.
    let a = c.loop-place.invariant.0 hs k in
    let n = a.count in
    let over : length c.loop-place.outcomes ≤ c.loop-place.place = omega (arith, n) in
    last_turn c.args.core.now.limits hs c.args.outcomes.now c.loop-place.outcomes c.loop-place.place c.loop-place.core a over

pub returns-clause-settled : goal.returns-clause-settled
returns-clause-settled c =
    let os = c.loop-place.outcomes in
    let over : length os ≤ c.loop-place.place = omega arith in
    ap (list_all is_final) (sym (take_all c.loop-place.place os over)) ∙ c.loop-place.invariant.1
