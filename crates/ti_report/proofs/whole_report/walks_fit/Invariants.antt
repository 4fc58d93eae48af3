use Rattle.std.proofs.Common.{◌<◌, [], slice_index_or}
use Rattle.ti_types.specs.declared.numbers.ThreadNo.{ThreadNo}
use Rattle.ti_report.specs.Told.{history_at}
use Rattle.ti_report.specs.Walks.{WalkFits}
use Rattle.ti_report.proofs.whole_report.walks_fit.Given as goal

abbrev pub invariant-loop-i : goal.invariant-loop-i
invariant-loop-i l = (t : ThreadNo) → t.0 < l.i
    → WalkFits l.fn.limits l.fn.spent (slice_index_or l.walks t.0 []) (slice_index_or l.refused t.0 []) (history_at l.histories t)
