use Rattle.std.proofs.Common.{◌≡◌, ◌+◌, ◌<◌, List, [], ◌∷◌, ◌++◌, length, length-append, false, ap, sym, ◌∙◌, subst, arith}
use Rattle.std.specs.List.{remove}
use Rattle.ti_types.specs.declared.numbers.ThreadNo.{ThreadNo}
use Rattle.ti_roster.specs.declared.coming.Coming.{Coming}
use Rattle.ti_roster.specs.declared.coming.Coming.TheVariants.{Left}
use Rattle.ti_roster.specs.declared.life_event.LifeEvent.{LifeEvent}
use Rattle.ti_roster.specs.declared.row.Row.{Row}
use Rattle.ti_roster.specs.Events.{AreEvents, Lives}
use Rattle.ti_roster.specs.Log.{Log, live, threads_in}
use Rattle.ti_roster.specs.Rows.{AreRows, IsIndex}
use Rattle.ti_roster.specs.Stages.{is_alive, stage_of}
use Rattle.ti_roster.proofs.Lives.{events_left, life_few}
use Rattle.ti_roster.proofs.Logs.{threads_left}
use Rattle.ti_roster.proofs.Places.{get_within}
use Rattle.ti_roster.proofs.Rows.{rows_count, rows_left}
use Rattle.ti_roster.proofs.Stopped.{still_stops}
use Rattle.ti_roster.proofs.roster.Roster.note_leave.Goals as goal

pub push-requires : goal.push-requires
push-requires c =
    let same = ap (λ (l : List LifeEvent). length l) c.self.invariant.4.events_are in
    let fits = ap (λ (r : Log). length r.items) c.self.view_is in
    let z = life_few c.self.inside.log.items in
    omega (arith, same, z, fits, c.requires.room)

pub remove-row-requires : goal.remove-row-requires
remove-row-requires c =
    let log = c.self.inside.log.items in
    let at : IsIndex (live log) c.args.thread c.args.i = subst (λ (x : Log). IsIndex (live x.items) c.args.thread c.args.i) (sym c.self.view_is) c.requires.index in
    let within : c.args.i < length (live log) = get_within (live log) c.args.i at.one at.at in
    let count : length c.self.inside.rows ≡ length (live log) = rows_count c.self.inside.rows (live log) c.self.invariant.3.live_are in
    omega (arith, within, count)

pub invariant_of-self : goal.invariant_of-self
invariant_of-self c =
    let log : List Coming = c.self.inside.log.items in
    let limits = c.self.inside.limits in
    let rows : List Row = c.self.inside.rows in
    let marks = c.self.inside.marks.items in
    let t : ThreadNo = c.args.thread in
    let at : IsIndex (live log) t c.args.i = subst (λ (x : Log). IsIndex (live x.items) t c.args.i) (sym c.self.view_is) c.requires.index in
    let dead : is_alive (stage_of t log) ≡ false = subst (λ (x : Log). is_alive (stage_of t x.items) ≡ false) (sym c.self.view_is) c.requires.dead in
    let fits = ap (λ (r : Log). length r.items) c.self.view_is in
    let items : c.and-self-inside.result.items ≡ log ++ Left t ∷ [] = c.and-self-inside.ensures in
    let len : length c.and-self-inside.result.items ≡ length log + 1 = ap (λ (l : List Coming). length l) items ∙ length-append log (Left t ∷ []) in
    let count : threads_in c.and-self-inside.result.items ≡ threads_in log = ap threads_in items ∙ threads_left log t in
    let after : AreRows (log ++ Left t ∷ []) limits (remove rows c.args.i) marks = rows_left log limits rows marks t c.args.i c.self.invariant.3 at in (
      omega (arith, len, c.self.invariant.0),
      omega (arith, c.self.invariant.0, fits, c.requires.room),
      c.self.invariant.2 ∙ sym count,
      subst (λ (x : List Coming × List Row). AreRows x.0 limits x.1 marks) (λ j. (sym items j, sym c.remove-row.ensures.items j)) after,
      subst (λ (x : List Coming × List LifeEvent). AreEvents x.0 x.1) (λ j. (sym items j, sym (ap (λ (l : Lives). l.events) c.push.ensures) j)) (events_left log c.self.inside.life.events t c.args.i at dead c.self.invariant.4),
      still_stops log c.and-self-inside.result.items (Left t) c.self.inside.stops c.end_thread.new.self items c.self.invariant.5 c.end_thread.ensures,
    )
