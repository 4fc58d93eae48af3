use Rattle.std.proofs.Common.{◌≡◌, ◌-◌, ◌<◌, ◌≤◌, ℕ, Some, ap, ◌∙◌, subst, arith}
use Rattle.std.specs.Prelude.{slice_get}
use Rattle.ti_roster.specs.declared.newcomer.Newcomer.{Newcomer}
use Rattle.ti_roster.specs.Log.{Log, live}
use Rattle.ti_roster.proofs.Places.{get_there, get_within}
use Rattle.ti_roster.proofs.Searching.{from_here, row_at, up_to}
use Rattle.ti_roster.proofs.roster.Roster.count_below.Goals as goal

pub returns-clause-below : goal.returns-clause-below
returns-clause-below c j n h at =
    let rows = c.self.inside.rows in
    let i : ℕ = c.partition_point.result in
    let was : slice_get (live c.self.inside.log.items) j ≡ Some n = ap (λ (r : Log). slice_get (live r.items) j) c.self.view_is ∙ at in
    let r = row_at c.self.inside.log.items c.self.inside.limits rows c.self.inside.marks.items j n c.self.invariant.3 was in
    let last = get_there rows (i - 1) (omega (arith, h, c.partition_point.ensures.within)) in
    let less = c.partition_point.ensures.below (i - 1) last.0 (omega (arith, h)) last.1 in
    subst (λ (x : Newcomer). x.thread.0 < c.args.number) r.2 (up_to c.self.inside.log.items c.self.inside.limits rows c.self.inside.marks.items (i - 1) c.args.number last.0 c.self.invariant.3 last.1 less j r.0 (omega (arith, h)) r.1)

pub returns-clause-from : goal.returns-clause-from
returns-clause-from c j n h at =
    let rows = c.self.inside.rows in
    let i : ℕ = c.partition_point.result in
    let was : slice_get (live c.self.inside.log.items) j ≡ Some n = ap (λ (r : Log). slice_get (live r.items) j) c.self.view_is ∙ at in
    let r = row_at c.self.inside.log.items c.self.inside.limits rows c.self.inside.marks.items j n c.self.invariant.3 was in
    let first = get_there rows i (omega (arith, h, get_within rows j r.0 r.1)) in
    let more = c.partition_point.ensures.from first.0 first.1 in
    subst (λ (x : Newcomer). c.args.number ≤ x.thread.0) r.2 (from_here c.self.inside.log.items c.self.inside.limits rows c.self.inside.marks.items i c.args.number first.0 c.self.invariant.3 first.1 more j r.0 h r.1)
