use Rattle.std.proofs.Common.{◌≡◌, ◌+◌, ◌-◌, ◌≤◌, drop, length}
use Rattle.ti_frames.specs.Changes.{entries}
use Rattle.ti_frames.proofs.changes.entries_len.Given as goal

abbrev pub invariant-loop-i : goal.invariant-loop-i
invariant-loop-i l = record {
  count : l.count ≡ length (entries (drop (length l.newest - l.i) l.newest));
  few : l.count ≤ l.i + l.i;
}
