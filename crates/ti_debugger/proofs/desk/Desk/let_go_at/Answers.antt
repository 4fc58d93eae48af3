use Rattle.std.proofs.Common.{◌≡◌, ◌∙◌, List, true, Some, slice_get, refl, rules, ap, sym, ltb-true}
use Rattle.std.specs.List.{remove}
use Rattle.std.proofs.lemmas.Option.{slice_get_read}
use Rattle.ti_debugger.specs.declared.halted.Halted.{Halted}
use Rattle.ti_debugger.specs.Stopping.{may_go, stopped_in}
use Rattle.ti_debugger.proofs.StopLaws.{stopped_out}
use Rattle.ti_debugger.proofs.desk.Desk.let_go_at.Goals as goal

pub returns-then-end_stop-clause-stopped : goal.returns-then-end_stop-clause-stopped
returns-then-end_stop-clause-stopped c =
    let list = c.args.self.now.stops.halted.items in
    let halted = c.in-Some.halted.now in
    let l = c.in-Some.ensures.lookup in
    let at : slice_get list c.args.index ≡ Some halted =
    ap (λ (s : List Halted). slice_get s c.args.index) (sym c.deref.ensures.value) ∙ slice_get_read _ _ _ _ refl (ltb-true _ _ (sym l.0)) l.1 in
    let goes : may_go halted.stage ≡ true = sym c.may_go.ensures ∙ c.if-not-may_go.false in
    let left : c.remove-gone.new.self.items ≡ remove list c.args.index = search rules in
    ap stopped_in left ∙ stopped_out list c.args.index halted at goes
