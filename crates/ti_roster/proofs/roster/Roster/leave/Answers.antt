use Rattle.std.proofs.Common.{◌≡◌, List, [], ◌∷◌, ◌++◌, length, append_assoc, eq-eqb, Bool, true, if◌then◌else◌, nat_lt, refl, ap, sym, ◌∙◌, subst, arith}
use Rattle.ti_types.specs.declared.error.TiError.TheVariants.{Full, InvalidThread, ThreadNotAlive}
use Rattle.ti_types.specs.declared.numbers.ThreadNo.{ThreadNo}
use Rattle.ti_roster.specs.declared.coming.Coming.{Coming}
use Rattle.ti_roster.specs.declared.coming.Coming.TheVariants.{Ended, Left}
use Rattle.ti_roster.specs.declared.newcomer.Newcomer.{Newcomer}
use Rattle.ti_roster.specs.declared.row.Row.{Row}
use Rattle.ti_roster.specs.declared.stage.Stage.TheVariants.{Over}
use Rattle.ti_roster.specs.Log.{Log, is_live, live, threads_in, with_item, with_items}
use Rattle.ti_roster.specs.Rows.{AreRows, IsIndex}
use Rattle.ti_roster.specs.Stages.{is_alive, stage_of}
use Rattle.ti_roster.specs.Starting.{leave_refusal, leaving_from}
use Rattle.ti_roster.proofs.Logs.{live_more, stage_more}
use Rattle.ti_roster.proofs.Rows.{there_live}
use Rattle.ti_roster.proofs.Searching.{index_listed, row_stage}
use Rattle.ti_roster.proofs.roster.Roster.leave.Goals.{After-is_alive, then-is_alive+else-self, else-is_alive+else-self-ge-LAST}
use Rattle.ti_roster.proofs.roster.Roster.leave.Goals as goal

rows_in : (c : After-is_alive) → AreRows c.args.self.now.items c.args.self.now.limits c.self.inside.rows c.self.inside.marks.items
rows_in c = subst (λ (x : Log). AreRows x.items x.limits c.self.inside.rows c.self.inside.marks.items) c.self.view_is c.self.invariant.3

there : (c : After-is_alive) → is_live c.args.thread c.args.self.now.items ≡ true
there c =
    let at : IsIndex (live c.args.self.now.items) c.args.thread c.in-Some.i = c.in-Some.ensures.there in
    there_live (live c.args.self.now.items) c.args.thread c.in-Some.i at.one at.at at.is

-- how far the thread has come is what its row says
fits : (c : After-is_alive) → is_alive (stage_of c.args.thread c.args.self.now.items) ≡ c.is_alive.result
fits c =
    let r : Row = c.index.result.now in
    let stage : r.stage ≡ stage_of c.args.thread c.args.self.now.items =
    row_stage c.args.self.now.items c.args.self.now.limits c.self.inside.rows c.self.inside.marks.items c.args.thread c.in-Some.i r (rows_in c) c.in-Some.ensures.there c.index.ensures in
    ap is_alive (sym stage) ∙ sym c.is_alive.ensures

full : (c : After-is_alive) → Full ≡ leave_refusal c.args.self.now c.args.thread
full c = sym (ap (λ (x : Bool). if x then Full else if nat_lt c.args.thread.0 (threads_in c.args.self.now.items) then ThreadNotAlive else InvalidThread) (there c))

pub returns-then-self-clause-refused : goal.returns-then-self-clause-refused
returns-then-self-clause-refused c = full (goal.at.returns-then-self-clause-refused c).After-is_alive

pub returns-then-self-clause-limit : goal.returns-then-self-clause-limit
returns-then-self-clause-limit c =
    let w = (goal.at.returns-then-self-clause-limit c).After-is_alive in
    let same = ap (λ (r : Log). length r.items) c.self.view_is in
    let two = ap (λ (b : Bool). length (leaving_from b c.args.thread)) (fits w ∙ c.if-is_alive.true) in
    λ _. omega (arith, same, two, c.if-self.true, c.self.invariant.0)

pub note_end-requires-clause-alive : goal.note_end-requires-clause-alive
note_end-requires-clause-alive c = fits (goal.at.note_end-requires-clause-alive c).After-is_alive ∙ c.if-is_alive.true

pub returns-then-self-ge-LAST-clause-refused : goal.returns-then-self-ge-LAST-clause-refused
returns-then-self-ge-LAST-clause-refused c = full (goal.at.returns-then-self-ge-LAST-clause-refused c).After-is_alive

pub note_leave-requires-clause-index : goal.note_leave-requires-clause-index
note_leave-requires-clause-index c =
    let items : List Coming = c.args.self.now.items in
    let t : ThreadNo = c.args.thread in
    elim c.if-is_alive.branch [
      | then-is_alive+else-self w ↦
          let now : c.if-is_alive.self ≡ with_item c.args.self.now (Ended t) = w.self-is ∙ w.note_end.ensures in
          subst (λ (l : List Newcomer). IsIndex l t c.in-Some.i) (sym (ap (λ (r : Log). live r.items) now ∙ live_more items (Ended t))) c.in-Some.ensures.there
      | else-is_alive+else-self-ge-LAST w ↦ subst (λ (r : Log). IsIndex (live r.items) t c.in-Some.i) (sym w.self-is) c.in-Some.ensures.there
    ]

pub note_leave-requires-clause-dead : goal.note_leave-requires-clause-dead
note_leave-requires-clause-dead c =
    let b = (goal.at.note_leave-requires-clause-dead c).After-is_alive in
    let items : List Coming = c.args.self.now.items in
    let t : ThreadNo = c.args.thread in
    elim c.if-is_alive.branch [
      | then-is_alive+else-self w ↦
          let now : c.if-is_alive.self ≡ with_item c.args.self.now (Ended t) = w.self-is ∙ w.note_end.ensures in
          let over : stage_of t (items ++ Ended t ∷ []) ≡ Over = stage_more t items (Ended t) ∙ ap (λ (x : Bool). if x then Over else stage_of t items) (eq-eqb t.0 t.0 refl) in
          ap (λ (r : Log). is_alive (stage_of t r.items)) now ∙ ap is_alive over
      | else-is_alive+else-self-ge-LAST w ↦ ap (λ (r : Log). is_alive (stage_of t r.items)) w.self-is ∙ (fits b ∙ w.if-is_alive.false)
    ]

pub returns-clause-there : goal.returns-clause-there
returns-clause-there c = there (goal.at.returns-clause-there c).After-is_alive

pub returns-clause-who : goal.returns-clause-who
returns-clause-who c =
    let w = (goal.at.returns-clause-who c).After-is_alive in
    index_listed c.args.self.now c.self.inside.rows c.self.inside.marks.items c.args.thread c.in-Some.i (rows_in w) c.in-Some.ensures.there

pub returns-clause-left : goal.returns-clause-left
returns-clause-left c =
    let b = (goal.at.returns-clause-left c).After-is_alive in
    let old : Log = c.args.self.now in
    let t : ThreadNo = c.args.thread in
    elim c.if-is_alive.branch [
      | then-is_alive+else-self w ↦
          let now : c.if-is_alive.self ≡ with_item old (Ended t) = w.self-is ∙ w.note_end.ensures in
          c.note_leave.ensures ∙ (ap (λ (r : Log). with_item r (Left t)) now ∙ (ap (λ (l : List Coming). record { items = l; limits = old.limits; user = old.user }) (append_assoc old.items (Ended t ∷ []) (Left t ∷ []))
          ∙ ap (λ (x : Bool). with_items old (leaving_from x t)) (sym (fits b ∙ w.if-is_alive.true))))
      | else-is_alive+else-self-ge-LAST w ↦
          c.note_leave.ensures ∙ (ap (λ (r : Log). with_item r (Left t)) w.self-is ∙ ap (λ (x : Bool). with_items old (leaving_from x t)) (sym (fits b ∙ w.if-is_alive.false)))
    ]
