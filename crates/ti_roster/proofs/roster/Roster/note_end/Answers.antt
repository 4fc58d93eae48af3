use Rattle.std.proofs.Common.{◌≡◌, ◌+◌, ℕ, List, [], ◌∷◌, ◌++◌, length, length-append, true, Some, refl, ap, sym, ◌∙◌, subst, arith}
use Rattle.std.specs.Prelude.{slice_get, slice_set}
use Rattle.ti_types.specs.declared.numbers.ThreadNo.{ThreadNo}
use Rattle.ti_roster.specs.declared.coming.Coming.{Coming}
use Rattle.ti_roster.specs.declared.coming.Coming.TheVariants.{Ended}
use Rattle.ti_roster.specs.declared.life_event.LifeEvent.{LifeEvent}
use Rattle.ti_roster.specs.declared.row.Row.{Row}
use Rattle.ti_roster.specs.declared.stage.Stage.TheVariants.{Over}
use Rattle.ti_roster.specs.Events.{AreEvents, Lives}
use Rattle.ti_roster.specs.Log.{Log, live, threads_in}
use Rattle.ti_roster.specs.Rows.{AreRows, IsIndex, reached}
use Rattle.ti_roster.specs.Stages.{is_alive, stage_of}
use Rattle.ti_roster.proofs.Lives.{events_ended, life_few}
use Rattle.ti_roster.proofs.Logs.{threads_ended}
use Rattle.ti_roster.proofs.Rows.{rows_reach}
use Rattle.ti_roster.proofs.Stopped.{still_stops}
use Rattle.ti_roster.proofs.Searching.{row_number, row_of}
use Rattle.ti_roster.proofs.roster.Roster.note_end.Goals as goal

pub push-requires : goal.push-requires
push-requires c =
    let same = ap (λ (l : List LifeEvent). length l) c.self.invariant.4.events_are in
    let fits = ap (λ (r : Log). length r.items) c.self.view_is in
    let z = life_few c.self.inside.log.items in
    omega (arith, same, z, fits, c.requires.room)

pub invariant_of-self : goal.invariant_of-self
invariant_of-self c =
    let log : List Coming = c.self.inside.log.items in
    let limits = c.self.inside.limits in
    let rows : List Row = c.self.inside.rows in
    let marks = c.self.inside.marks.items in
    let t : ThreadNo = c.args.thread in
    let i : ℕ = c.args.i in
    let at : IsIndex (live log) t i = subst (λ (x : Log). IsIndex (live x.items) t i) (sym c.self.view_is) c.requires.index in
    let here : slice_get rows i ≡ Some c.index_mut.result.now = row_of log limits rows marks t i c.index_mut.result.now c.self.invariant.3 at c.index_mut.ensures.value in
    let is : c.index_mut.result.now.newcomer.thread.0 ≡ t.0 = row_number log limits rows marks t i c.index_mut.result.now c.self.invariant.3 at here in
    let stage : is_alive (stage_of t log) ≡ true = subst (λ (x : Log). is_alive (stage_of t x.items) ≡ true) (sym c.self.view_is) c.requires.alive in
    let fits = ap (λ (r : Log). length r.items) c.self.view_is in
    let items : c.and-self-inside.result.items ≡ log ++ Ended t ∷ [] = c.and-self-inside.ensures in
    let len : length c.and-self-inside.result.items ≡ length log + 1 = ap (λ (l : List Coming). length l) items ∙ length-append log (Ended t ∷ []) in
    let count : threads_in c.and-self-inside.result.items ≡ threads_in log = ap threads_in items ∙ threads_ended log t in
    let after : AreRows (log ++ Ended t ∷ []) limits (slice_set rows i (reached c.index_mut.result.now Over)) marks =
    rows_reach log limits rows marks t i c.index_mut.result.now Over (Ended t) c.self.invariant.3 here is refl refl (λ e u. refl) (λ e. refl) (λ u. refl) in (
      omega (arith, len, c.self.invariant.0),
      omega (arith, c.self.invariant.0, fits, c.requires.room),
      c.self.invariant.2 ∙ sym count,
      subst (λ (x : List Coming × Row). AreRows x.0 limits (slice_set rows i x.1) marks) (λ j. (sym items j, sym c.reach.ensures j)) after,
      subst (λ (x : List Coming × List LifeEvent). AreEvents x.0 x.1) (λ j. (sym items j, sym (ap (λ (l : Lives). l.events) c.push.ensures) j)) (events_ended log c.self.inside.life.events t i at stage c.self.invariant.4),
      still_stops log c.and-self-inside.result.items (Ended t) c.self.inside.stops c.self.inside.stops items c.self.invariant.5 refl,
    )
