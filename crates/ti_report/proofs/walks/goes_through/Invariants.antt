use Rattle.std.proofs.Common.{◌≤◌, ◌↔◌, drop}
use Rattle.ti_types.specs.declared.state.Mode.TheVariants as mode
use Rattle.ti_report.specs.Walks.{GoneThrough}
use Rattle.ti_report.proofs.walks.goes_through.Given as goal

abbrev pub invariant-loop-i : goal.invariant-loop-i
invariant-loop-i l = record {
  paid : l.own ≤ l.fn.limits.own;
  same : GoneThrough l.fn.limits l.fn.spent l.mode l.own l.i (drop l.i l.walk) l.refused l.entries ↔ GoneThrough l.fn.limits l.fn.spent mode.New 0 0 l.fn.walk l.fn.refused l.fn.entries;
}
