use Rattle.std.proofs.Common.{◌≡◌, ◌++◌, length, take, All}
use Rattle.std.specs.List.{flat_map}
use Rattle.ti_jdwp.specs.Fields.{int}
use Rattle.ti_jdwp.proofs.rows.put_rows.Given as goal

abbrev pub invariant-loop-row : goal.invariant-loop-row
invariant-loop-row g l = record {
  items : l.out.items ≡ l.fn.out.items ++ (int (length l.rows) ++ flat_map (g.P.PutRow.bytes l.by) (take l.row-index l.rows));
  fits : All g.P.PutRow.Fits (take l.row-index l.rows);
}
