use Rattle.std.proofs.Common.{◌≡◌, Some, sym, ◌∙◌, subst, arith}
use Rattle.std.specs.Prelude.{slice_get}
use Rattle.ti_roster.specs.Log.{Log, mark_of}
use Rattle.ti_roster.specs.Rows.{AreRows}
use Rattle.ti_roster.proofs.Places.{is_same, read_at}
use Rattle.ti_roster.proofs.roster.Roster.first_left.Goals as goal

pub returns-in-Some : goal.returns-in-Some
returns-in-Some c t h =
    let s : Log = c.args.self.now in
    let e = c.args.env in
    let marks = c.self.inside.marks.items in
    let k : AreRows s.items s.limits c.self.inside.rows marks = subst (λ (x : Log). AreRows x.items x.limits c.self.inside.rows marks) c.self.view_is c.self.invariant.3 in
    let read : slice_get marks e.0 ≡ Some c.index.result.now = read_at marks e.0 c.index.result.now (omega (arith, c.requires, k.places)) c.index.ensures in
    let mark : mark_of e s.items ≡ Some c.in-Some.first = is_same _ _ (sym (k.marks_are e.0 c.requires) ∙ read) ∙ c.in-Some.is in
    k.passed e c.in-Some.first t mark h
