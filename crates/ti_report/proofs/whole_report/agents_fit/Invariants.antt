use Rattle.std.proofs.Common.{◌<◌, [], List, slice_index_or}
use Rattle.ti_types.specs.declared.entry.Entry.{Entry}
use Rattle.ti_types.specs.declared.numbers.EnvNo.{EnvNo}
use Rattle.ti_report.specs.Books.{AreBooks}
use Rattle.ti_report.specs.Fits.{AgentFits}
use Rattle.ti_report.proofs.whole_report.agents_fit.Given as goal

abbrev pub invariant-loop-i : goal.invariant-loop-i
invariant-loop-i l = (histories : List (List Entry)) → AreBooks l.fn.limits histories l.books → (e : EnvNo) → e.0 < l.i
    → AgentFits l.fn.limits histories e l.fn.spent (slice_index_or l.calls e.0 []) (slice_index_or l.replies e.0 [])
