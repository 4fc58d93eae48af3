use Rattle.std.proofs.Common.{◌≡◌, ◌+◌, ◌<◌, ℕ, List, [], ◌∷◌, ◌++◌, length, length-append, drop, false, inl, inr, Option, Some, refl, ap, sym, ◌∙◌, subst, arith}
use Rattle.std.specs.Prelude.{slice_get, slice_set}
use Rattle.std.proofs.lemmas.Bool.Decides.{nat_tests}
use Rattle.ti_roster.specs.declared.row.Row.{Row}
use Rattle.std.proofs.lemmas.Bool.{cases_lt}
use Rattle.ti_types.specs.declared.numbers.EnvNo.{EnvNo}
use Rattle.ti_agent.specs.FreeDesk.{FreeState}
use Rattle.ti_roster.specs.declared.coming.Coming.{Coming}
use Rattle.ti_roster.specs.declared.coming.Coming.TheVariants.{Met}
use Rattle.ti_roster.specs.declared.newcomer.Newcomer.{Newcomer}
use Rattle.ti_roster.specs.Log.{Log, Out, lies, live, threads_in, with_items}
use Rattle.ti_roster.specs.Roster.{HasMet, HasMetOf, has_met_all, meeting}
use Rattle.ti_roster.specs.Rows.{AreLeft, AreRows, IsTaken, desks_in}
use Rattle.ti_roster.proofs.Logs.{threads_met}
use Rattle.ti_roster.proofs.Meeting.{none_left, notes_it, notes_nothing}
use Rattle.ti_roster.proofs.Rows.{desks_behind, desks_left, left_own, rows_meet, taken_before}
use Rattle.ti_roster.proofs.Searching.{live_at}
use Rattle.ti_roster.specs.Events.{AreEvents}
use Rattle.ti_roster.proofs.Lives.{events_met}
use Rattle.ti_roster.proofs.Stopped.{still_stops}
use Rattle.ti_roster.proofs.roster.Roster.meet.Goals.{After-has_met_all, After-count_below-first, After-take_desks}
use Rattle.ti_roster.proofs.roster.Roster.meet.Goals as goal

-- the rows before the first one in which a desk may lie miss theirs
out_before : (c : After-count_below-first) → (i : ℕ) (r : Row) → i < c.count_below-first.result → slice_get c.self.inside.rows i ≡ Some r → lies c.in-Some.env r.newcomer.thread c.self.inside.log.items ≡ Out
out_before c i r h at =
    let log = c.self.inside.log.items in
    let there : slice_get (live log) i ≡ Some r.newcomer = live_at log c.self.inside.limits c.self.inside.rows c.self.inside.marks.items i r c.self.invariant.3 at in
    let less = c.count_below-first.ensures.below i r.newcomer h (ap (λ (x : Log). slice_get (live x.items) i) (sym c.self.view_is) ∙ there) in
    ap (λ (x : Log). lies c.in-Some.env r.newcomer.thread x.items) c.self.view_is ∙ c.first_left.ensures r.newcomer.thread less

-- each row is as if the desk was taken out of it
all_taken : (c : After-take_desks) → ((i : ℕ) (r : Row) → i < c.count_below-first.result → slice_get c.self.inside.rows i ≡ Some r → lies c.in-Some.env r.newcomer.thread c.self.inside.log.items ≡ Out)
    → (i : ℕ) (r q : Row) → slice_get c.self.inside.rows i ≡ Some r → slice_get c.take_desks.new.rows i ≡ Some q → IsTaken c.in-Some.env r q
all_taken c out i r q a b =
    elim (cases_lt i c.count_below-first.result) [
      | inl before ↦
          subst (λ (x : Row). IsTaken c.in-Some.env r x) (sym (c.take_desks.ensures.before i r q before a b))
          (taken_before c.self.inside.log.items c.self.inside.limits c.in-Some.env r c.if-env-self.true (c.self.invariant.3.each i r a) (out i r before a))
      | inr from ↦ c.take_desks.ensures.each i r q from a b
    ]

-- what the code found is so of the list
met_all : (c : After-has_met_all) → has_met_all c.in-Some.env c.self.inside.log.items ≡ c.has_met_all.result
met_all c = ap (λ (x : Log). has_met_all c.in-Some.env x.items) c.self.view_is ∙ sym c.has_met_all.ensures

pub returns-then-has_met_all-clause-met : goal.returns-then-has_met_all-clause-met
returns-then-has_met_all-clause-met c =
    let log = c.self.inside.log.items in
    let limits = c.self.inside.limits in
    let e : EnvNo = c.in-Some.env in
    let old : Log = record { items = log; limits = limits; user = c.self.inside.user } in
    let all = met_all (goal.at.returns-then-has_met_all-clause-met c).After-has_met_all ∙ c.if-has_met_all.true in
    let left : AreLeft log limits e (live log) [] = none_left log limits c.self.inside.rows c.self.inside.marks.items e c.self.invariant.3 all in
    let met : HasMet old old [] = subst (λ (u : Option EnvNo). HasMetOf u old old []) (sym c.in-Some.is) (left, left_own log limits e (live log) [] c.self.invariant.3.listed left, notes_nothing old e all) in
    subst (λ (x : Log × List FreeState). HasMet x.0 x.0 x.1) (λ j. (c.self.view_is j, sym c.new.ensures.items j)) met

pub invariant_of-self : goal.invariant_of-self
invariant_of-self c =
    let log = c.self.inside.log.items in
    let rows = c.self.inside.rows in
    let marks = c.self.inside.marks.items in
    let e : EnvNo = c.in-Some.env in
    let next : c.self.inside.next ≡ threads_in log = c.self.invariant.2 in
    let items : c.and-self-inside.result.items ≡ log ++ Met e (threads_in log) ∷ [] = c.and-self-inside.ensures ∙ ap (λ (n : ℕ). log ++ Met e n ∷ []) next in
    let len : length c.and-self-inside.result.items ≡ length log + 1 = ap (λ (l : List Coming). length l) items ∙ length-append log (Met e (threads_in log) ∷ []) in
    let count : threads_in c.and-self-inside.result.items ≡ threads_in log = ap threads_in items ∙ threads_met log e (threads_in log) in
    let after : AreRows (log ++ Met e (threads_in log) ∷ []) c.self.inside.limits c.take_desks.new.rows (slice_set marks e.0 (Some (threads_in log))) =
    rows_meet log c.self.inside.limits rows c.take_desks.new.rows marks e c.self.invariant.3 c.if-env-self.true c.take_desks.ensures.count (all_taken (goal.at.invariant_of-self c).After-take_desks (out_before (goal.at.invariant_of-self c).After-count_below-first)) in (
      omega (arith, len, c.self.invariant.0),
      omega (arith, c.if-self-ge-LAST.false),
      next ∙ sym count,
      subst (λ (x : List Coming × ℕ). AreRows x.0 c.self.inside.limits c.take_desks.new.rows (slice_set marks e.0 (Some x.1))) (λ j. (sym items j, sym next j)) after,
      subst (λ (x : List Coming). AreEvents x c.self.inside.life.events) (sym items) (events_met log c.self.inside.life.events e (threads_in log) c.self.invariant.4),
      still_stops log c.and-self-inside.result.items (Met e (threads_in log)) c.self.inside.stops c.self.inside.stops items c.self.invariant.5 refl,
    )

pub returns-clause-met : goal.returns-clause-met
returns-clause-met c =
    let log = c.self.inside.log.items in
    let limits = c.self.inside.limits in
    let rows = c.self.inside.rows in
    let e : EnvNo = c.in-Some.env in
    let old : Log = record { items = log; limits = limits; user = c.self.inside.user } in
    let next : c.self.inside.next ≡ threads_in log = c.self.invariant.2 in
    let items : c.and-self-inside.result.items ≡ log ++ Met e (threads_in log) ∷ [] = c.and-self-inside.ensures ∙ ap (λ (n : ℕ). log ++ Met e n ∷ []) next in
    let got : c.take_desks.new.desks.items ≡ desks_in e rows =
    c.take_desks.ensures.desks
    ∙ (ap (λ (l : List FreeState). l ++ desks_in e (drop c.count_below-first.result rows)) c.in_ok-desks.ensures.items
    ∙ sym (desks_behind log limits e rows c.count_below-first.result c.if-env-self.true c.self.invariant.3.each (out_before (goal.at.returns-clause-met c).After-count_below-first))) in
    let left : AreLeft log limits e (live log) c.take_desks.new.desks.items =
    subst (λ (x : List Newcomer × List FreeState). AreLeft log limits e x.0 x.1) (λ j. (c.self.invariant.3.live_are j, sym got j)) (desks_left log limits e rows c.if-env-self.true c.self.invariant.3.each) in
    let now : Log = record { items = c.and-self-inside.result.items; limits = limits; user = c.self.inside.user } in
    let some : has_met_all e log ≡ false = met_all (goal.at.returns-clause-met c).After-has_met_all ∙ c.if-has_met_all.false in
    let after : now ≡ with_items old (meeting e log) = ap (λ (l : List Coming). record { items = l; limits = limits; user = c.self.inside.user }) items ∙ notes_it old e some in
    subst (λ (x : Log). HasMet x now c.take_desks.new.desks.items) c.self.view_is
    (subst (λ (u : Option EnvNo). HasMetOf u old now c.take_desks.new.desks.items) (sym c.in-Some.is) (left, left_own log limits e (live log) c.take_desks.new.desks.items c.self.invariant.3.listed left, after))

pub take_desks-requires-clause-places : goal.take_desks-requires-clause-places
take_desks-requires-clause-places c = λ i r at.
    let places : length r.desks.items ≡ c.self.inside.limits.envs = (c.self.invariant.3.each i r at).places in
    grind (arith, nat_tests, places, c.if-env-self.true)
