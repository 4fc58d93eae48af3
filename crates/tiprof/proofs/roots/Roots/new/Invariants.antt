use Rattle.std.proofs.Common.{◌≡◌, ◌≤◌, length, vec_capacity}
use Rattle.std.specs.List.{All, sum_by}
use Rattle.tiprof.specs.Roots.{folded_in, IsEmpty}
use Rattle.tiprof.proofs.roots.Roots.new.Given as goal

-- the parts so far
abbrev pub invariant-loop : goal.invariant-loop
invariant-loop l = record {
  room : l.count ≤ vec_capacity l.parts;
  count : length l.parts.items ≡ l.counter;
  none : sum_by folded_in l.parts.items ≡ 0;
  empty : All IsEmpty l.parts.items;
}
