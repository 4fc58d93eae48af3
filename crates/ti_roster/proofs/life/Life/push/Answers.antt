use Rattle.std.proofs.Common.{◌≡◌, ◌+◌, ◌<◌, List, [], ◌∷◌, ◌++◌, length, length-append, drop, ap, sym, ◌∙◌, subst, arith}
use Rattle.std.specs.VecDeque.{deque_capacity}
use Rattle.ti_roster.specs.declared.life_event.LifeEvent.{LifeEvent}
use Rattle.ti_roster.specs.Events.{AreLast, Lives, most_kept}
use Rattle.ti_roster.proofs.Lives.{last_few, last_full, last_more}
use Rattle.ti_roster.proofs.life.Life.push.Goals.{then-len-eq-MOST_KEPT, else-len-eq-MOST_KEPT}
use Rattle.ti_roster.proofs.life.Life.push.Goals as goal

pub invariant_of-self : goal.invariant_of-self
invariant_of-self c =
    let old = c.self.inside in
    let e : LifeEvent = c.args.event in
    let items : c.and-self-inside.result.items ≡ old.all.items ++ e ∷ [] = c.and-self-inside.ensures in
    let fits = ap (λ (l : Lives). length l.events) c.self.view_is in
    let longer : length c.and-self-inside.result.items ≡ length old.all.items + 1 = ap (λ (l : List LifeEvent). length l) items ∙ length-append old.all.items (e ∷ []) in
    elim c.if-len-eq-MOST_KEPT.branch [
      | then-len-eq-MOST_KEPT w ↦
          let s = w.self-inside-is in
          let all : c.if-len-eq-MOST_KEPT.self-inside.all.items ≡ old.all.items ++ e ∷ [] = ap (λ x. x.all.items) s ∙ items in
          let kept : c.push_back_reserved.new.self.items ≡ drop 1 old.kept.items ++ e ∷ [] =
          c.push_back_reserved.ensures.items ∙ (ap (λ x. x.kept.items ++ e ∷ []) s ∙ ap (λ (l : List LifeEvent). l ++ e ∷ []) w.pop_front.ensures.rest) in
          let full : length old.kept.items ≡ most_kept = omega (arith, w.if-len-eq-MOST_KEPT.true, c.len.ensures, old.kept.ok) in (
            omega (arith, ap (λ x. x.count) s, ap (λ (l : List LifeEvent). length l) all, length-append old.all.items (e ∷ []), c.self.invariant.0),
            omega (arith, ap (λ x. x.count) s, c.self.invariant.0, fits, c.requires),
            omega (arith, ap (λ x. deque_capacity x.kept) s, w.pop_front.ensures.capacity, c.push_back_reserved.ensures.capacity, c.self.invariant.2),
            subst (λ (x : List LifeEvent × List LifeEvent). AreLast x.0 x.1) (λ j. (sym all j, sym kept j)) (last_full old.all.items old.kept.items e c.self.invariant.3 full),
          )
      | else-len-eq-MOST_KEPT w ↦
          let s = w.self-inside-is in
          let all : c.if-len-eq-MOST_KEPT.self-inside.all.items ≡ old.all.items ++ e ∷ [] = ap (λ x. x.all.items) s ∙ items in
          let kept : c.push_back_reserved.new.self.items ≡ old.kept.items ++ e ∷ [] =
          c.push_back_reserved.ensures.items ∙ ap (λ x. x.kept.items ++ e ∷ []) s in
          let few = last_few old.all.items old.kept.items c.self.invariant.3 in
          let room : length old.kept.items < most_kept = omega (arith, few, w.if-len-eq-MOST_KEPT.false, c.len.ensures, old.kept.ok) in (
            omega (arith, ap (λ x. x.count) s, ap (λ (l : List LifeEvent). length l) all, length-append old.all.items (e ∷ []), c.self.invariant.0),
            omega (arith, ap (λ x. x.count) s, c.self.invariant.0, fits, c.requires),
            omega (arith, ap (λ x. deque_capacity x.kept) s, c.push_back_reserved.ensures.capacity, c.self.invariant.2),
            subst (λ (x : List LifeEvent × List LifeEvent). AreLast x.0 x.1) (λ j. (sym all j, sym kept j)) (last_more old.all.items old.kept.items e c.self.invariant.3 room),
          )
    ]
