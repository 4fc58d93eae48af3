use Rattle.std.proofs.Common.{◌≡◌, ◌++◌, take, drop}
use Rattle.ti_stops.specs.Lists.{next_stop, next_told}
use Rattle.ti_stops.proofs.lists.tell_next.Given as goal

-- what is told is told of the rest, and nothing has changed
abbrev pub invariant-loop-i : goal.invariant-loop-i
invariant-loop-i l = record {
  same : l.waiting ≡ l.fn.waiting;
  told : next_stop l.env (drop l.i l.fn.waiting) ≡ next_stop l.env l.fn.waiting;
  list : take l.i l.fn.waiting ++ next_told l.env (drop l.i l.fn.waiting) ≡ next_told l.env l.fn.waiting;
}
