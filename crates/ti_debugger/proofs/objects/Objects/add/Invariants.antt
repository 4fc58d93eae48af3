use Rattle.std.specs.Prelude.{◌≡◌, ◌≤◌, ◌+◌, ◌++◌, length, vec_len, vec_capacity}
use Rattle.std.specs.Vec.Iter.{into_iter_items}
use Rattle.ti_debugger.specs.Kept.{numbered}
use Rattle.ti_debugger.proofs.objects.Objects.add.Given as goal

-- what is kept so far, and what comes
abbrev pub invariant-loop-object : goal.invariant-loop-object
invariant-loop-object l = record {
  list : l.self.list.items ++ numbered l.thread l.number (into_iter_items l.object-iterator) ≡ l.fn.self.list.items ++ numbered l.thread l.fn.self.numbers l.fn.more.items;
  room : vec_len l.self.list + length (into_iter_items l.object-iterator) ≤ vec_capacity l.self.list;
  numbers : l.number + length (into_iter_items l.object-iterator) ≡ l.numbers;
}
