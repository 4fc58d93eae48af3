use Rattle.std.proofs.Common.{◌≡◌, ◌≢◌, Some, ap, sym, ◌∙◌, subst, arith}
use Rattle.std.specs.Prelude.{slice_get}
use Rattle.ti_types.specs.declared.numbers.ThreadNo.{ThreadNo}
use Rattle.ti_roster.specs.declared.row.Row.{Row}
use Rattle.ti_roster.specs.Log.{Log, live}
use Rattle.ti_roster.specs.Rows.{AreRows, IsIndex}
use Rattle.ti_roster.proofs.Places.{get_within, is_same, read_at}
use Rattle.ti_roster.proofs.Searching.{live_at, not_live}
use Rattle.ti_roster.proofs.roster.Roster.index_of.Goals.{Joined-else-i-len, else-i-len-via-then-i-len+else-thread, else-i-len-via-else-i-len}
use Rattle.ti_roster.proofs.roster.Roster.index_of.Goals as goal

pub returns-then-thread-clause-there : goal.returns-then-thread-clause-there
returns-then-thread-clause-there c =
    let rows = c.self.inside.rows in
    let i = c.count_below-i.result in
    let d : Row = c.index.result.now in
    let here : slice_get rows i ≡ Some d = read_at rows i d (omega (arith, c.if-i-len.true, c.len.ensures)) c.index.ensures in
    let at = live_at c.self.inside.log.items c.self.inside.limits rows c.self.inside.marks.items i d c.self.invariant.3 here in
    let is : d.newcomer.thread.0 ≡ c.args.thread.0 = ap (λ (t : ThreadNo). t.0) (sym c.thread.ensures) ∙ c.if-thread.true in
    subst (λ (r : Log). IsIndex (live r.items) c.args.thread i) c.self.view_is (record { one = d.newcomer; at = at; is = is })

-- the row at the index is another thread's, if there is one
others : (c : Joined-else-i-len) → (r : Row) → slice_get c.self.inside.rows c.count_below-i.result ≡ Some r → r.newcomer.thread.0 ≢ c.args.thread.0
others c r at = elim c.else-i-len.branch [
  | else-i-len-via-then-i-len+else-thread w ↦
      λ same.
      let rows = c.self.inside.rows in
      let i = c.count_below-i.result in
      let here : slice_get rows i ≡ Some w.index.result.now = read_at rows i w.index.result.now (omega (arith, w.if-i-len.true, c.len.ensures)) w.index.ensures in
      let is : r ≡ w.index.result.now = is_same r w.index.result.now (sym at ∙ here) in
      w.if-thread.false (ap (λ (t : ThreadNo). t.0) w.thread.ensures ∙ (ap (λ (x : Row). x.newcomer.thread.0) (sym is) ∙ same))
  | else-i-len-via-else-i-len w ↦ λ same. omega (arith, get_within c.self.inside.rows c.count_below-i.result r at, w.if-i-len.false, c.len.ensures)
]

pub returns-else-i-len-clause-none : goal.returns-else-i-len-clause-none
returns-else-i-len-clause-none c =
    let s : Log = c.args.self.now in
    let rows = c.self.inside.rows in
    let marks = c.self.inside.marks.items in
    let k : AreRows s.items s.limits rows marks = subst (λ (x : Log). AreRows x.items x.limits rows marks) c.self.view_is c.self.invariant.3 in
    not_live s.items s.limits rows marks c.args.thread c.count_below-i.result k c.count_below-i.ensures.below c.count_below-i.ensures.from (others (goal.at.returns-else-i-len-clause-none c).Joined-else-i-len)
