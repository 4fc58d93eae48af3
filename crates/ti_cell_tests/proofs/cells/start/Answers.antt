use Rattle.std.proofs.Common.{[], append-nil, sym, ap, ◌∙◌}
use Rattle.ti_slot.specs.Thread.{Thread}
use Rattle.ti_cell.specs.declared.view.View.{View}
use Rattle.ti_cell_tests.proofs.cells.start.Goals as goal

pub store-requires-in-Err-clause-adds : goal.store-requires-in-Err-clause-adds
store-requires-in-Err-clause-adds g c =
    let same = c.in-Err.ensures.thread ∙ c.slot.ensures.value in
    ([], ap (λ (t : Thread). t.history) same ∙ (ap (λ (v : View). v.seen) (sym c.hold-hold.ensures.view) ∙ sym (append-nil c.hold-hold.result.view.seen)), tt)
