use Rattle.std.proofs.Common.{◌≡◌, ◌+◌, suc, List, [], ◌∷◌, ◌++◌, length, length-append, refl, ap, sym, ◌∙◌, subst, arith, rules}
use Rattle.std.proofs.lemmas.Bool.Decides.{nat_tests}
use Rattle.ti_types.specs.declared.numbers.ThreadNo.{ThreadNo}
use Rattle.ti_roster.specs.declared.coming.Coming.{Coming}
use Rattle.ti_roster.specs.declared.coming.Coming.TheVariants.{Came, Started, Ended, Left, Attached, Met, GaveBack, Disposed, Stop}
use Rattle.ti_roster.specs.declared.newcomer.Newcomer.{Newcomer}
use Rattle.ti_roster.specs.declared.row.Row.{Row}
use Rattle.ti_roster.specs.Log.{threads_in}
use Rattle.ti_roster.specs.Rows.{AreRows}
use Rattle.ti_roster.proofs.Logs.{threads_more}
use Rattle.ti_roster.proofs.Rows.{rows_come}
use Rattle.ti_roster.specs.declared.life_event.LifeEvent.{LifeEvent}
use Rattle.ti_roster.specs.declared.life_event.LifeKind.TheVariants.{ThreadAttached}
use Rattle.ti_roster.specs.Events.{AreEvents, Lives, event_of}
use Rattle.ti_roster.proofs.Lives.{events_came, life_few}
use Rattle.ti_roster.proofs.Stopped.{still_stops}
use Rattle.ti_roster.proofs.roster.Roster.come.Goals as goal

abbrev newcomer_in : Coming → Newcomer → Newcomer
newcomer_in (Came n) d = n
newcomer_in (Started t) d = d
newcomer_in (Ended t) d = d
newcomer_in (Left t) d = d
newcomer_in (Attached e) d = d
newcomer_in (Met e m) d = d
newcomer_in (GaveBack e t) d = d
newcomer_in (Disposed e) d = d
newcomer_in (Stop o call) d = d

pub push-requires-2 : goal.push-requires-2
push-requires-2 c =
    let same = ap (λ (l : List LifeEvent). length l) c.self.invariant.4.events_are in
    let z = life_few c.self.inside.log.items in
    omega (arith, same, z, c.self.invariant.0, c.if-self-ge-LAST.false)

pub invariant_of-self-2 : goal.invariant_of-self-2
invariant_of-self-2 c =
    let log : List Coming = c.self.inside.log.items in
    let limits = c.self.inside.limits in
    let rows : List Row = c.self.inside.rows in
    let marks = c.self.inside.marks.items in
    let row : Row = c.in_ok-fresh.row in
    let new = c.in_ok-fresh.ensures.row in
    let number : row.newcomer.thread.0 ≡ threads_in log = ap (λ (t : ThreadNo). t.0) new.0 ∙ c.self.invariant.2 in
    let items : c.and-log.result.items ≡ log ++ Came row.newcomer ∷ [] = c.and-log.ensures in
    let len : length c.and-log.result.items ≡ length log + 1 = ap (λ (l : List Coming). length l) items ∙ length-append log (Came row.newcomer ∷ []) in
    let count : threads_in c.and-log.result.items ≡ suc (threads_in log) = ap threads_in items ∙ threads_more log row.newcomer in
    let back : c.in-Came.newcomer ≡ row.newcomer = sym (ap (λ (x : Coming). newcomer_in x row.newcomer) c.in-Came.is) in
    let more : c.push.new.self ≡ rows ++ record { newcomer = c.in-Came.newcomer; stage = row.stage; desks = row.desks } ∷ [] = search rules in
    let pushed : c.push.new.self ≡ rows ++ row ∷ [] = more ∙ ap (λ (n : Newcomer). rows ++ record { newcomer = n; stage = row.stage; desks = row.desks } ∷ []) back in
    let after : AreRows (log ++ Came row.newcomer ∷ []) limits (rows ++ row ∷ []) marks = rows_come log limits rows marks row c.self.invariant.3 new.2 number in (
      omega (arith, len, c.self.invariant.0),
      omega (arith, c.if-self-ge-LAST.false),
      grind (arith, nat_tests, count, c.self.invariant.2, c.in-Some.ensures, c.in-Some.is, c.checked_add.ensures),
      subst (λ (x : List Coming × List Row). AreRows x.0 limits x.1 marks) (λ j. (sym items j, sym pushed j)) after,
      subst (λ (x : List Coming × List LifeEvent). AreEvents x.0 x.1) (λ j. (sym items j, sym (ap (λ (l : Lives). l.events) c.push-2.ensures ∙ ap (λ (t : ThreadNo). c.self.inside.life.events ++ event_of ThreadAttached t ∷ []) c.thread-thread.ensures) j)) (events_came log c.self.inside.life.events row.newcomer number (c.self.invariant.3.unborn row.newcomer.thread (omega (arith, number))) c.self.invariant.4),
      still_stops log c.and-log.result.items (Came row.newcomer) c.self.inside.stops c.self.inside.stops items c.self.invariant.5 refl,
    )
