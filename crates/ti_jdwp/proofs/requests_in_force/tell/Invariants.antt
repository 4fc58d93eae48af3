use Rattle.std.proofs.Common.{◌≡◌, ◌+◌, ◌-◌, ◌≤◌, ◌++◌, length, take, drop, map, filter, vec_len, vec_capacity}
use Rattle.ti_jdwp.specs.InForce.{is_told, after, strongest}
use Rattle.ti_jdwp.proofs.requests_in_force.tell.Given as goal

-- those so far were told, and the rest is as it was
abbrev pub invariant-loop-i : goal.invariant-loop-i
invariant-loop-i l = record {
  list : l.list ≡ map (after l.event) (take l.i l.fn.list) ++ drop l.i l.fn.list;
  numbers : l.numbers.items ≡ l.fn.numbers.items ++ map (λ r. r.number) (filter (is_told l.event) (take l.i l.fn.list));
  policy : l.policy ≡ strongest (filter (is_told l.event) (take l.i l.fn.list));
  room : vec_len l.numbers + (length l.fn.list - l.i) ≤ vec_capacity l.numbers;
}
