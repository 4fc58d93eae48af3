use Rattle.std.proofs.Common.{◌≡◌, ◌+◌, List, [], ◌∷◌, ◌++◌, length, length-append, None, ap, sym, ◌∙◌, subst, arith}
use Rattle.std.specs.Prelude.{All, slice_set}
use Rattle.std.specs.List.{fold}
use Rattle.std.specs.Vec.Iter.{into_iter_items}
use Rattle.std.proofs.lemmas.List.Elements.{All-head, All-tail}
use Rattle.ti_agent.specs.FreeDesk.{FreeState}
use Rattle.ti_roster.specs.declared.coming.Coming.{Coming}
use Rattle.ti_roster.specs.declared.coming.Coming.TheVariants.{Disposed}
use Rattle.ti_roster.specs.Log.{Log, threads_in}
use Rattle.ti_roster.specs.Roster.{MayGoBack, and_back}
use Rattle.ti_roster.specs.Rows.{AreRows}
use Rattle.ti_roster.proofs.Logs.{threads_disposed}
use Rattle.ti_roster.proofs.Returning.{all_still, back_length, back_limits, back_user}
use Rattle.ti_roster.proofs.Rows.{rows_dispose}
use Rattle.ti_roster.specs.Events.{AreEvents}
use Rattle.ti_roster.proofs.Lives.{events_disposed}
use Rattle.ti_roster.proofs.Stopped.{still_stops}
use Rattle.ti_roster.proofs.roster.Roster.dispose.Goals as goal

pub take_back-requires-clause-may : goal.take_back-requires-clause-may
take_back-requires-clause-may c =
    let s : Log = c.loop-desk.self in
    let desk : FreeState = c.in-Some-desk.desk in
    let rest = into_iter_items c.next.new.self in
    All-head (λ f. MayGoBack s f) desk rest (subst (λ (l : List FreeState). All (λ f. MayGoBack s f) l) c.in-Some-desk.ensures.steps.0 c.loop-desk.invariant.1)

pub loop-desk-preserved : goal.loop-desk-preserved
loop-desk-preserved c =
    let s : Log = c.loop-desk.self in
    let desk : FreeState = c.in-Some-desk.desk in
    let rest = into_iter_items c.next.new.self in
    let steps : into_iter_items c.loop-desk.desk-iterator ≡ desk ∷ rest = c.in-Some-desk.ensures.steps.0 in
    let is : c.take_back.new.self ≡ and_back s desk = c.take_back.ensures in
    let others = All-tail (λ f. MayGoBack s f) desk rest (subst (λ (l : List FreeState). All (λ f. MayGoBack s f) l) steps c.loop-desk.invariant.1) in
    let fewer = ap (λ (l : List FreeState). length l) steps in (
      ap (λ (r : Log). fold and_back r rest) is ∙ (ap (λ (l : List FreeState). fold and_back s l) (sym steps) ∙ c.loop-desk.invariant.0),
      subst (λ (r : Log). All (λ f. MayGoBack r f) rest) (sym is) (all_still s desk rest others),
      omega (arith, c.loop-desk.invariant.2, fewer, back_length s desk, ap (λ (r : Log). length r.items) is),
      ap (λ (r : Log). r.limits) is ∙ (back_limits s desk ∙ c.loop-desk.invariant.3),
      ap (λ (r : Log). r.user) is ∙ (back_user s desk ∙ c.loop-desk.invariant.4),
    )

pub invariant_of-self : goal.invariant_of-self
invariant_of-self c =
    let log = c.self-2.inside.log.items in
    let rows = c.self-2.inside.rows in
    let marks = c.self-2.inside.marks.items in
    let e = c.in-Some.env in
    let items : c.and-self-inside.result.items ≡ log ++ Disposed e ∷ [] = c.and-self-inside.ensures in
    let len : length c.and-self-inside.result.items ≡ length log + 1 = ap (λ (l : List Coming). length l) items ∙ length-append log (Disposed e ∷ []) in
    let count : threads_in c.and-self-inside.result.items ≡ threads_in log = ap threads_in items ∙ threads_disposed log e in
    let after : AreRows (log ++ Disposed e ∷ []) c.self-2.inside.limits rows (slice_set marks e.0 None) = rows_dispose log c.self-2.inside.limits rows marks e c.self-2.invariant.3 in
    let same = ap (λ (x : Log). length x.items) c.self-2.view_is in (
      omega (arith, len, c.self-2.invariant.0),
      omega (arith, c.self-2.invariant.0, c.loop-desk.invariant.2, same),
      c.self-2.invariant.2 ∙ sym count,
      subst (λ (x : List Coming). AreRows x c.self-2.inside.limits rows (slice_set marks e.0 None)) (sym items) after,
      subst (λ (x : List Coming). AreEvents x c.self-2.inside.life.events) (sym items) (events_disposed log c.self-2.inside.life.events e c.self-2.invariant.4),
      still_stops log c.and-self-inside.result.items (Disposed e) c.self-2.inside.stops c.leave.new.self items c.self-2.invariant.5 c.leave.ensures,
    )
