use Rattle.std.proofs.Common.{◌≡◌, ◌+◌, drop, reverse}
use Rattle.std.specs.List.{common_prefix_len}
use Rattle.ti_frames.specs.Changes.{is_same_frame}
use Rattle.ti_frames.proofs.changes.shared_frames.Given as goal

abbrev pub invariant-loop-i : goal.invariant-loop-i
invariant-loop-i l = common_prefix_len is_same_frame l.old (reverse l.new) ≡ l.i + common_prefix_len is_same_frame (drop l.i l.old) (drop l.i (reverse l.new))
