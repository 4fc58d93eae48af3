use Rattle.std.proofs.Common.{◌≡◌, length, Bool, true, false, if◌then◌else◌, nat_lt, refl, ap, sym, ◌∙◌, subst, arith}
use Rattle.ti_types.specs.declared.error.TiError.TheVariants.{Full, InvalidThread, NotRunning, ThreadNotAlive}
use Rattle.ti_types.specs.declared.numbers.ThreadNo.{ThreadNo}
use Rattle.ti_roster.specs.declared.row.Row.{Row}
use Rattle.ti_roster.specs.declared.coming.Coming.TheVariants.{Ended}
use Rattle.ti_roster.specs.Log.{Log, is_live, live, threads_in, with_item}
use Rattle.ti_roster.specs.Roster.{IsListed}
use Rattle.ti_roster.specs.Rows.{AreRows, IsIndex}
use Rattle.ti_roster.specs.Stages.{is_alive, stage_of}
use Rattle.ti_roster.specs.Starting.{EndInUse, EndNotHere, end_refusal}
use Rattle.ti_roster.proofs.Rows.{there_live}
use Rattle.ti_roster.proofs.Searching.{index_listed, row_stage}
use Rattle.ti_roster.proofs.roster.Roster.end.Goals.{After-is_alive}
use Rattle.ti_roster.proofs.roster.Roster.end.Goals as goal

-- the rows of the roster as it is seen
rows_in : (c : After-is_alive) → AreRows c.args.self.now.items c.args.self.now.limits c.self.inside.rows c.self.inside.marks.items
rows_in c = subst (λ (x : Log). AreRows x.items x.limits c.self.inside.rows c.self.inside.marks.items) c.self.view_is c.self.invariant.3

there : (c : After-is_alive) → is_live c.thread-thread.result c.args.self.now.items ≡ true
there c =
    let at : IsIndex (live c.args.self.now.items) c.thread-thread.result c.in-Some.i = c.in-Some.ensures.there in
    there_live (live c.args.self.now.items) c.thread-thread.result c.in-Some.i at.one at.at at.is

listed : (c : After-is_alive) → IsListed c.args.self.now c.thread-thread.result
listed c = index_listed c.args.self.now c.self.inside.rows c.self.inside.marks.items c.thread-thread.result c.in-Some.i (rows_in c) c.in-Some.ensures.there

-- how far the thread has come is what its row says
fits : (c : After-is_alive) → is_alive (stage_of c.thread-thread.result c.args.self.now.items) ≡ c.is_alive.result
fits c =
    let r : Row = c.index.result.now in
    let stage : r.stage ≡ stage_of c.thread-thread.result c.args.self.now.items =
    row_stage c.args.self.now.items c.args.self.now.limits c.self.inside.rows c.self.inside.marks.items c.thread-thread.result c.in-Some.i r (rows_in c) c.in-Some.ensures.there c.index.ensures in
    ap is_alive (sym stage) ∙ sym c.is_alive.ensures

number : (c : After-is_alive) → c.thread-thread.result ≡ c.args.running.view.subject.thread
number c = c.thread-thread.ensures

why : (c : After-is_alive) (b : Bool) → c.is_alive.result ≡ b → (if b then Full else NotRunning) ≡ end_refusal c.args.self.now c.args.running.view.subject.thread
why c b is =
    subst (λ (t : ThreadNo). (if b then Full else NotRunning) ≡ end_refusal c.args.self.now t) (number c)
    (sym (ap (λ (x : Bool). if x then (if is_alive (stage_of c.thread-thread.result c.args.self.now.items) then Full else NotRunning) else if nat_lt c.thread-thread.result.0 (threads_in c.args.self.now.items) then ThreadNotAlive else InvalidThread) (there c)
    ∙ ap (λ (x : Bool). if x then Full else NotRunning) (fits c ∙ is)))

pub returns-then-not-is_alive-clause-refused : goal.returns-then-not-is_alive-clause-refused
returns-then-not-is_alive-clause-refused c =
    let w = (goal.at.returns-then-not-is_alive-clause-refused c).After-is_alive in
    EndNotHere (why w false c.if-not-is_alive.true) (λ full. absurd (not_full full))
  where
    not_full : NotRunning ≡ Full → ⊥
    not_full h = cc

pub returns-then-self-ge-LAST-clause-refused : goal.returns-then-self-ge-LAST-clause-refused
returns-then-self-ge-LAST-clause-refused c =
    let w = (goal.at.returns-then-self-ge-LAST-clause-refused c).After-is_alive in
    let same = ap (λ (r : Log). length r.items) c.self.view_is in
    EndNotHere (why w true c.if-not-is_alive.false) (λ _. omega (arith, same, c.if-self-ge-LAST.true, c.self.invariant.0))

pub note_end-requires-clause-alive : goal.note_end-requires-clause-alive
note_end-requires-clause-alive c = fits (goal.at.note_end-requires-clause-alive c).After-is_alive ∙ c.if-not-is_alive.false

pub returns-in-Ok-clause-ended : goal.returns-in-Ok-clause-ended
returns-in-Ok-clause-ended c =
    let w = (goal.at.returns-in-Ok-clause-ended c).After-is_alive in
    let n = number w in record {
      there = subst (λ (t : ThreadNo). IsListed c.args.self.now t) n (listed w);
      was_alive = subst (λ (t : ThreadNo). is_alive (stage_of t c.args.self.now.items) ≡ true) n (fits w ∙ c.if-not-is_alive.false);
      cell = c.in-Ok.ensures.cell;
      hold = c.in-Ok.ensures.hold;
      new_is = c.note_end.ensures ∙ ap (λ (t : ThreadNo). with_item c.args.self.now (Ended t)) n;
    }

pub returns-in-Err-clause-refused : goal.returns-in-Err-clause-refused
returns-in-Err-clause-refused c =
    let w = (goal.at.returns-in-Err-clause-refused c).After-is_alive in
    let n = number w in
    let same = ap (λ (r : Log). length r.items) c.self.view_is in
    EndInUse (record {
      there = subst (λ (t : ThreadNo). is_live t c.args.self.now.items ≡ true) n (there w);
      fits_is = subst (λ (t : ThreadNo). is_alive (stage_of t c.args.self.now.items) ≡ true) n (fits w ∙ c.if-not-is_alive.false);
      room = omega (arith, same, c.if-self-ge-LAST.false, c.self.invariant.0);
    }) refl
