use Rattle.std.proofs.Common.{◌≡◌, ◌≤◌, length, map, take}
use Rattle.std.specs.Prelude.{vec_capacity}
use Rattle.ti_capi.specs.Defining.{line_read}
use Rattle.ti_capi.proofs.class_parts.table_at.Given as goal

abbrev pub invariant-loop-i : goal.invariant-loop-i
invariant-loop-i l = (l.table.items ≡ map line_read (take l.i l.given)) × (length l.given ≤ vec_capacity l.table)
