use Rattle.std.proofs.Common.{◌≡◌, List, [], ◌∷◌, ◌++◌, Option, Some, sym, ap, ◌∙◌, subst}
use Rattle.atomic_table.specs.Table.{opening}
use Rattle.ti_slot.specs.Thread.{Thread}
use Rattle.ti_cell.specs.View.{subject_of, newcomer}
use Rattle.ti_cell.specs.Rule.{CellInvariant}
use Rattle.ti_cell.proofs.Steps.{opens}
use Rattle.ti_cell.proofs.cell.ThreadCell.open.Goals as goal

pub new-requires-2 : goal.new-requires-2
new-requires-2 c =
    let slot : Thread = c.in_ok-parked.parked in
    let about = subject_of c.args.limits c.args.number in
    let is : c.push.new.self.items ≡ Some slot ∷ [] = c.in-Ok.ensures.items ∙ ap (λ (xs : List (Option Thread)). xs ++ Some slot ∷ []) c.in_ok-slots.ensures.items in
    subst (λ (xs : List (Option Thread)). CellInvariant about (opening (0 ∷ []) xs (newcomer about 0 1))) (sym is)
    (opens about slot (ap (λ (t : Thread). t.history) c.in_ok-parked.ensures.thread) (ap (λ (t : Thread). t.uncollected) c.in_ok-parked.ensures.thread) (ap (λ (t : Thread). t.limits) c.in_ok-parked.ensures.thread, ap (λ (t : Thread). t.number) c.in_ok-parked.ensures.thread))
