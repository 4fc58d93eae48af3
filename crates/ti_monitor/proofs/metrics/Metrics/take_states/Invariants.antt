use Rattle.std.specs.Prelude.{◌≡◌, ℕ, ◌*◌, ◌<◌, ◌≤◌, count_by, get_or, length}
use Rattle.ti_monitor.specs.Counters.{KeepsOthers}
use Rattle.ti_monitor.specs.Histograms.{added}
use Rattle.ti_monitor.specs.Watching.{is_in_state}
use Rattle.ti_monitor.proofs.metrics.Metrics.take_states.Given as goal

abbrev pub invariant-loop-place : goal.invariant-loop-place
invariant-loop-place l = record {
  threads : (k : ℕ) → k < l.place → get_or l.self.threads k 0 ≡ count_by (is_in_state k) l.watched;
  state_time : (k : ℕ) → k < l.place → get_or l.self.state_time k 0 ≡ added (get_or l.fn.self.state_time k 0) (count_by (is_in_state k) l.watched * l.passed);
  rest : (k : ℕ) → l.place ≤ k → get_or l.self.state_time k 0 ≡ get_or l.fn.self.state_time k 0;
  suspended_time : l.self.suspended_time ≡ l.fn.self.suspended_time;
  others : KeepsOthers l.fn.self l.self;
  long : length l.self.threads ≡ 9;
  times_long : length l.self.state_time ≡ 9;
}
