use Rattle.std.proofs.Common.{◌≡◌, ℕ, ◌<◌, ◌≤◌, get_or, length}
use Rattle.ti_monitor.specs.Histograms.{bucket_with}
use Rattle.ti_monitor.specs.declared.metrics.TheConstants.{BOUNDS}
use Rattle.ti_monitor.proofs.metrics.Histogram.add.Given as goal

abbrev pub invariant-loop-place : goal.invariant-loop-place
invariant-loop-place l = record {
  done : (k : ℕ) → k < l.place → get_or l.self.within k 0 ≡ bucket_with (get_or BOUNDS k 0) (get_or l.fn.self.within k 0) l.nanos;
  rest : (k : ℕ) → l.place ≤ k → get_or l.self.within k 0 ≡ get_or l.fn.self.within k 0;
  long : length l.self.within ≡ 13;
  sum : l.self.sum ≡ l.fn.self.sum;
  count : l.self.count ≡ l.fn.self.count;
}
