use Rattle.std.proofs.Common.{◌≡◌, ◌+◌, List, [], ◌∷◌, ◌++◌, length, length-append, Some, refl, ap, sym, ◌∙◌, subst, arith}
use Rattle.std.specs.Prelude.{slice_set}
use Rattle.ti_types.specs.declared.numbers.EnvNo.{EnvNo}
use Rattle.ti_roster.specs.declared.coming.Coming.{Coming}
use Rattle.ti_roster.specs.declared.coming.Coming.TheVariants.{Attached}
use Rattle.ti_roster.specs.Log.{threads_in}
use Rattle.ti_roster.specs.Rows.{AreRows}
use Rattle.ti_roster.proofs.Logs.{threads_attached}
use Rattle.ti_roster.proofs.Rows.{rows_attach}
use Rattle.ti_roster.specs.Events.{AreEvents}
use Rattle.ti_roster.proofs.Lives.{events_attached}
use Rattle.ti_roster.proofs.Stopped.{still_stops}
use Rattle.ti_roster.proofs.roster.Roster.attach.Goals as goal

pub invariant_of-self : goal.invariant_of-self
invariant_of-self c =
    let log = c.self.inside.log.items in
    let rows = c.self.inside.rows in
    let marks = c.self.inside.marks.items in
    let e : EnvNo = record { 0 = c.in-Some.place } in
    let items : c.and-self-inside.result.items ≡ log ++ Attached e ∷ [] = c.and-self-inside.ensures in
    let len : length c.and-self-inside.result.items ≡ length log + 1 = ap (λ (l : List Coming). length l) items ∙ length-append log (Attached e ∷ []) in
    let count : threads_in c.and-self-inside.result.items ≡ threads_in log = ap threads_in items ∙ threads_attached log e in
    let after : AreRows (log ++ Attached e ∷ []) c.self.inside.limits rows (slice_set marks e.0 (Some 0)) = rows_attach log c.self.inside.limits rows marks e c.self.invariant.3 in (
      omega (arith, len, c.self.invariant.0),
      omega (arith, c.if-self-ge-LAST.false),
      c.self.invariant.2 ∙ sym count,
      subst (λ (x : List Coming). AreRows x c.self.inside.limits rows (slice_set marks e.0 (Some 0))) (sym items) after,
      subst (λ (x : List Coming). AreEvents x c.self.inside.life.events) (sym items) (events_attached log c.self.inside.life.events e c.self.invariant.4),
      still_stops log c.and-self-inside.result.items (Attached e) c.self.inside.stops c.self.inside.stops items c.self.invariant.5 refl,
    )
