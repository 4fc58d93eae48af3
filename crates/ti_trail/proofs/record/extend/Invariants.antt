use Rattle.std.proofs.Common.{◌≡◌, ◌≤◌, ◌++◌, map, take, vec_capacity}
use Rattle.ti_trail.proofs.record.extend.Given as goal

abbrev pub invariant-loop-thing : goal.invariant-loop-thing
invariant-loop-thing g l = record {
  items : l.items.items ≡ l.fn.items.items ++ map g.M.Reads.read (take l.thing-index l.more);
  capacity : vec_capacity l.fn.items ≤ vec_capacity l.items;
}
