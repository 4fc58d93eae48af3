use Rattle.std.proofs.Common.{◌≡◌, ◌+◌, []}
use Rattle.ti_cell.specs.View.{subject_of, newcomer}
use Rattle.ti_cell.specs.Seats.{env_seats}
use Rattle.ti_cell.proofs.cell.ThreadCell.make.Given as goal

abbrev pub invariant-loop-env : goal.invariant-loop-env
invariant-loop-env l =
    (l.pass.table_id ≡ l.initial.pass.table_id)
    × (l.initial.pass.table_id ≡ l.cell-inside.table.shared.table_id)
    × (l.pass.me ≡ (newcomer (subject_of l.fn.limits l.fn.number) 0 (l.env + 1), []))
    × (l.seats.items ≡ env_seats l.pass.table_id (subject_of l.fn.limits l.fn.number) l.env)
