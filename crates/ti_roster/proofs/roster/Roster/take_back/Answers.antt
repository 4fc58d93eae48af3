use Rattle.std.proofs.Common.{◌≡◌, ◌+◌, ◌<◌, ℕ, List, [], ◌∷◌, ◌++◌, length, length-append, Bool, true, false, if◌then◌else◌, Some, refl, ap, sym, ◌∙◌, subst, arith}
use Rattle.std.specs.Prelude.{slice_set}
use Rattle.ti_types.specs.declared.limits.Limits.{Limits}
use Rattle.ti_types.specs.declared.numbers.EnvNo.{EnvNo}
use Rattle.ti_agent.specs.FreeDesk.{FreeState}
use Rattle.ti_roster.specs.declared.coming.Coming.{Coming}
use Rattle.ti_roster.specs.declared.coming.Coming.TheVariants.{GaveBack}
use Rattle.ti_roster.specs.declared.row.Row.{Row}
use Rattle.ti_roster.specs.Log.{Log, threads_in, with_item}
use Rattle.ti_roster.specs.Roster.{is_missed, most_items}
use Rattle.ti_roster.specs.Rows.{AreRows, IsPut}
use Rattle.ti_roster.proofs.Logs.{threads_back}
use Rattle.ti_roster.proofs.Places.{is_same, read_at}
use Rattle.ti_roster.proofs.Returning.{Found, found_row, missed_by_row, returned}
use Rattle.ti_roster.proofs.Rows.{rows_back}
use Rattle.ti_roster.specs.Events.{AreEvents}
use Rattle.ti_roster.proofs.Lives.{events_back}
use Rattle.ti_roster.proofs.Stopped.{still_stops}
use Rattle.ti_roster.proofs.roster.Roster.take_back.Goals.{After-index, After-has, After-index_mut}
use Rattle.ti_roster.proofs.roster.Roster.take_back.Goals as goal

-- the row of the desk's thread
found : (c : After-index) → Found c.args.self.now c.self.inside.rows c.args.desk c.in-Some.i c.index.result.now
found c =
    let k : AreRows c.args.self.now.items c.args.self.now.limits c.self.inside.rows c.self.inside.marks.items = subst (λ (x : Log). AreRows x.items x.limits c.self.inside.rows c.self.inside.marks.items) c.self.view_is c.self.invariant.3 in
    found_row c.args.self.now c.self.inside.rows c.self.inside.marks.items c.args.desk c.thread-thread.result c.in-Some.i c.index.result.now k c.in-Some.ensures.there c.thread-thread.ensures c.index.ensures

-- whether the row misses the desk
misses : (c : After-has) → Found c.args.self.now c.self.inside.rows c.args.desk c.in-Some.i c.index.result.now → (c.has.result ≡ false → is_missed c.args.self.now c.args.desk ≡ true) × (c.has.result ≡ true → is_missed c.args.self.now c.args.desk ≡ false)
misses c f =
    missed_by_row c.args.self.now c.index.result.now c.args.desk c.env-env.result.0 c.has.result (ap (λ (e : EnvNo). e.0) c.env-env.ensures) f.is_row c.requires.place f.number f.alive c.has.ensures

pub has-requires : goal.has-requires
has-requires c =
    let f = found (goal.at.has-requires c).After-index in
    omega (arith, f.is_row.places, c.requires.place, ap (λ (e : EnvNo). e.0) c.env-env.ensures)

pub returns-then-has : goal.returns-then-has
returns-then-has c =
    let off = (misses (goal.at.returns-then-has c).After-has (found (goal.at.returns-then-has c).After-index)).1 c.if-has.true in
    sym (ap (λ (b : Bool). if b then with_item c.args.self.now (GaveBack c.args.desk.desk.env c.args.desk.desk.view.subject.thread) else c.args.self.now) off)

pub index_mut-requires : goal.index_mut-requires
index_mut-requires c =
    let f = found (goal.at.index_mut-requires c).After-index in
    omega (arith, f.within)

-- the row that the desk goes into
same_row : (c : After-index_mut) → Found c.args.self.now c.self.inside.rows c.args.desk c.in-Some.i c.index.result.now → c.index_mut.result.now ≡ c.index.result.now
same_row c f =
    is_same _ _ (sym (read_at c.self.inside.rows c.in-Some.i c.index_mut.result.now f.within c.index_mut.ensures.value) ∙ f.here)

pub put-requires : goal.put-requires
put-requires c =
    let f = found (goal.at.put-requires c).After-index in
    let same = same_row (goal.at.put-requires c).After-index_mut f in
    omega (arith, f.is_row.places, ap (λ (r : Row). length r.desks.items) same, c.requires.place, ap (λ (e : EnvNo). e.0) c.env-env.ensures)

pub invariant_of-self : goal.invariant_of-self
invariant_of-self c =
    let log = c.self.inside.log.items in
    let limits = c.self.inside.limits in
    let rows = c.self.inside.rows in
    let marks = c.self.inside.marks.items in
    let e : EnvNo = c.env-env.result in
    let s : Log = c.args.self.now in
    let desk : FreeState = c.args.desk in
    let at = found (goal.at.invariant_of-self c).After-index in
    let row : Row = c.index.result.now in
    let same = same_row (goal.at.invariant_of-self c).After-index_mut at in
    let put : IsPut desk.desk.env desk row c.put.new.self = record {
      newcomer = c.put.ensures.rest.0 ∙ ap (λ (r : Row). r.newcomer) same;
      stage = c.put.ensures.rest.1 ∙ ap (λ (r : Row). r.stage) same;
      desks = c.put.ensures.put ∙ (λ j. slice_set (same j).desks.items (c.env-env.ensures j).0 (Some desk));
    } in
    let back = returned s desk row.newcomer c.requires.may at.listed at.number in
    let k : AreRows s.items s.limits rows marks = subst (λ (x : Log). AreRows x.items x.limits rows marks) c.self.view_is c.self.invariant.3 in
    let after : AreRows (s.items ++ GaveBack desk.desk.env desk.desk.view.subject.thread ∷ []) s.limits (slice_set rows c.in-Some.i c.put.new.self) (slice_set marks desk.desk.env.0 (Some 0)) =
    rows_back s.items s.limits rows marks desk.desk.env desk.desk.view.subject.thread c.in-Some.i row c.put.new.self desk k c.requires.place at.here at.number put back in
    let items : c.and-self-inside.result.items ≡ log ++ GaveBack e c.thread-thread.result ∷ [] = c.and-self-inside.ensures in
    let now : c.and-self-inside.result.items ≡ s.items ++ GaveBack desk.desk.env desk.desk.view.subject.thread ∷ [] = items ∙ (λ j. (c.self.view_is j).items ++ GaveBack (c.env-env.ensures j) (c.thread-thread.ensures j) ∷ []) in
    let len : length c.and-self-inside.result.items ≡ length log + 1 = ap (λ (l : List Coming). length l) items ∙ length-append log (GaveBack e c.thread-thread.result ∷ []) in
    let count : threads_in c.and-self-inside.result.items ≡ threads_in log = ap threads_in items ∙ threads_back log e c.thread-thread.result in
    let few : length log < most_items = subst (λ (x : Log). length x.items < most_items) (sym c.self.view_is) c.requires.room in (
      omega (arith, len, c.self.invariant.0),
      omega (arith, few, c.self.invariant.0),
      c.self.invariant.2 ∙ sym count,
      subst (λ (x : List Coming × ℕ × Limits). AreRows x.0 x.2 (slice_set rows c.in-Some.i c.put.new.self) (slice_set marks x.1 (Some 0))) (λ j. (sym now j, (sym c.env-env.ensures j).0, (sym c.self.view_is j).limits)) after,
      subst (λ (x : List Coming). AreEvents x c.self.inside.life.events) (sym items) (events_back log c.self.inside.life.events e c.thread-thread.result c.self.invariant.4),
      still_stops log c.and-self-inside.result.items (GaveBack e c.thread-thread.result) c.self.inside.stops c.self.inside.stops items c.self.invariant.5 refl,
    )

pub returns : goal.returns
returns c =
    let s : Log = c.args.self.now in
    let desk : FreeState = c.args.desk in
    let on = (misses (goal.at.returns c).After-has (found (goal.at.returns c).After-index)).0 c.if-has.false in
    let now : c.and-self-inside.result.items ≡ s.items ++ GaveBack desk.desk.env desk.desk.view.subject.thread ∷ [] = c.and-self-inside.ensures ∙ (λ j. (c.self.view_is j).items ++ GaveBack (c.env-env.ensures j) (c.thread-thread.ensures j) ∷ []) in
    (λ j. record { items = now j; limits = (c.self.view_is j).limits; user = (c.self.view_is j).user })
    ∙ sym (ap (λ (b : Bool). if b then with_item s (GaveBack desk.desk.env desk.desk.view.subject.thread) else s) on)
