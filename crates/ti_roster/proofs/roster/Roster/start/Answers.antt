use Rattle.std.proofs.Common.{◌≡◌, length, Bool, true, false, if◌then◌else◌, nat_lt, refl, ap, sym, ◌∙◌, subst, arith, ⊎_elim}
use Rattle.ti_types.specs.declared.error.TiError.{TiError}
use Rattle.ti_types.specs.declared.error.TiError.TheVariants.{Full, InvalidThread, NotNew, ThreadNotAlive, Busy}
use Rattle.ti_types.specs.declared.numbers.ThreadNo.{ThreadNo}
use Rattle.ti_roster.specs.declared.row.Row.{Row}
use Rattle.ti_cell.specs.Seats.{Sitting}
use Rattle.ti_roster.specs.declared.coming.Coming.TheVariants.{Started}
use Rattle.ti_roster.specs.Log.{Log, is_live, live, threads_in, with_item}
use Rattle.ti_roster.specs.Roster.{IsListed}
use Rattle.ti_roster.specs.Rows.{AreRows, IsIndex}
use Rattle.ti_roster.specs.Stages.{is_new, stage_of}
use Rattle.ti_roster.specs.Starting.{IsBarred, InUse, MayStep, NotHere, start_refusal}
use Rattle.ti_roster.proofs.Rows.{there_live}
use Rattle.ti_roster.proofs.Searching.{index_listed, row_stage}
use Rattle.ti_roster.proofs.roster.Roster.start.Goals.{After-is_new}
use Rattle.ti_roster.proofs.roster.Roster.start.Goals as goal

-- the rows of the roster as it is seen
rows_in : (c : After-is_new) → AreRows c.args.self.now.items c.args.self.now.limits c.self.inside.rows c.self.inside.marks.items
rows_in c = subst (λ (x : Log). AreRows x.items x.limits c.self.inside.rows c.self.inside.marks.items) c.self.view_is c.self.invariant.3

there : (c : After-is_new) → is_live c.thread-thread.result c.args.self.now.items ≡ true
there c =
    let at : IsIndex (live c.args.self.now.items) c.thread-thread.result c.in-Some.i = c.in-Some.ensures.there in
    there_live (live c.args.self.now.items) c.thread-thread.result c.in-Some.i at.one at.at at.is

listed : (c : After-is_new) → IsListed c.args.self.now c.thread-thread.result
listed c = index_listed c.args.self.now c.self.inside.rows c.self.inside.marks.items c.thread-thread.result c.in-Some.i (rows_in c) c.in-Some.ensures.there

-- how far the thread has come is what its row says
fits : (c : After-is_new) → is_new (stage_of c.thread-thread.result c.args.self.now.items) ≡ c.is_new.result
fits c =
    let r : Row = c.index.result.now in
    let stage : r.stage ≡ stage_of c.thread-thread.result c.args.self.now.items =
    row_stage c.args.self.now.items c.args.self.now.limits c.self.inside.rows c.self.inside.marks.items c.thread-thread.result c.in-Some.i r (rows_in c) c.in-Some.ensures.there c.index.ensures in
    ap is_new (sym stage) ∙ sym c.is_new.ensures

number : (c : After-is_new) → c.thread-thread.result ≡ c.args.fresh.view.subject.thread
number c = c.thread-thread.ensures

why : (c : After-is_new) (b : Bool) → c.is_new.result ≡ b → (if b then Full else NotNew) ≡ start_refusal c.args.self.now c.args.fresh.view.subject.thread
why c b is =
    subst (λ (t : ThreadNo). (if b then Full else NotNew) ≡ start_refusal c.args.self.now t) (number c)
    (sym (ap (λ (x : Bool). if x then (if is_new (stage_of c.thread-thread.result c.args.self.now.items) then Full else NotNew) else if nat_lt c.thread-thread.result.0 (threads_in c.args.self.now.items) then ThreadNotAlive else InvalidThread) (there c)
    ∙ ap (λ (x : Bool). if x then Full else NotNew) (fits c ∙ is)))

pub returns-then-not-is_new-clause-refused : goal.returns-then-not-is_new-clause-refused
returns-then-not-is_new-clause-refused c =
    let w = (goal.at.returns-then-not-is_new-clause-refused c).After-is_new in
    NotHere (why w false c.if-not-is_new.true) (λ full. absurd (not_full full)) refl
  where
    not_full : NotNew ≡ Full → ⊥
    not_full h = cc

pub returns-then-self-ge-LAST-clause-refused : goal.returns-then-self-ge-LAST-clause-refused
returns-then-self-ge-LAST-clause-refused c =
    let w = (goal.at.returns-then-self-ge-LAST-clause-refused c).After-is_new in
    let same = ap (λ (r : Log). length r.items) c.self.view_is in
    NotHere (why w true c.if-not-is_new.false) (λ _. omega (arith, same, c.if-self-ge-LAST.true, c.self.invariant.0)) refl

pub note_start-requires-clause-new : goal.note_start-requires-clause-new
note_start-requires-clause-new c = fits (goal.at.note_start-requires-clause-new c).After-is_new ∙ c.if-not-is_new.false

pub returns-in-Ok-clause-started : goal.returns-in-Ok-clause-started
returns-in-Ok-clause-started c =
    let w = (goal.at.returns-in-Ok-clause-started c).After-is_new in
    let n = number w in record {
      there = subst (λ (t : ThreadNo). IsListed c.args.self.now t) n (listed w);
      was_new = subst (λ (t : ThreadNo). is_new (stage_of t c.args.self.now.items) ≡ true) n (fits w ∙ c.if-not-is_new.false);
      starts = record { cell = c.in-Ok.ensures.cell; hold = c.in-Ok.ensures.hold; when = c.in-Ok.ensures.when; steps = c.in-Ok.ensures.steps };
      new_is = c.note_start.ensures ∙ ap (λ (t : ThreadNo). with_item c.args.self.now (Started t)) n;
    }

pub returns-in-Err-clause-refused : goal.returns-in-Err-clause-refused
returns-in-Err-clause-refused c =
    let w = (goal.at.returns-in-Err-clause-refused c).After-is_new in
    let n = number w in
    let same = ap (λ (r : Log). length r.items) c.self.view_is in
    let may : MayStep c.args.self.now c.args.fresh.view.subject.thread (is_new (stage_of c.args.fresh.view.subject.thread c.args.self.now.items)) = record {
      there = subst (λ (t : ThreadNo). is_live t c.args.self.now.items ≡ true) n (there w);
      fits_is = subst (λ (t : ThreadNo). is_new (stage_of t c.args.self.now.items) ≡ true) n (fits w ∙ c.if-not-is_new.false);
      room = omega (arith, same, c.if-self-ge-LAST.false, c.self.invariant.0);
    } in
    ⊎_elim
    (λ (busy : c.in-Err.refused ≡ (Busy, c.args.fresh)). InUse may (ap (λ (x : TiError × Sitting). x.0) busy) (ap (λ (x : TiError × Sitting). x.1) busy))
    (λ barred. IsBarred may c.in-Err.ensures.cell barred)
    c.in-Err.ensures.refused
