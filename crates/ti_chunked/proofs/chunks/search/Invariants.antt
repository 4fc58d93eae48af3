use Rattle.std.proofs.Common.{◌-◌, ◌<◌, ◌≤◌, length, slice_index}
use Rattle.ti_chunked.proofs.chunks.search.Given as goal

-- the chunk at `low` starts at the index or before it, and the one at `high` behind it
abbrev pub invariant-loop-high : goal.invariant-loop-high
invariant-loop-high l = record {
  order : l.low < l.high;
  there : l.high ≤ length l.starts.items;
  from : slice_index l.starts.items l.low ≤ l.index;
  below : l.high < length l.starts.items → l.index < slice_index l.starts.items l.high;
}

abbrev pub decreases-loop-high : goal.decreases-loop-high
decreases-loop-high l = l.high - l.low
