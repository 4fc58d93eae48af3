-- What a monitor counts of the states of threads.
use Rattle.std.specs.Prelude.{◌≡◌, ℕ, ◌*◌, ◌<◌, List, count_by, get_or}
use Rattle.ti_monitor.specs.declared.metrics.Metrics.{Metrics}
use Rattle.ti_monitor.specs.declared.watched.Watched.{Watched}
use Rattle.ti_monitor.specs.Histograms.{added}
use Rattle.ti_monitor.specs.Watching.{is_held, is_in_state}

-- the numbers of threads are those of these threads, by state, and the times have grown by so many nanoseconds for each of them
pub record CountsStates (old new : Metrics) (watched : List Watched) (passed : ℕ) : Type 0 where
  pub threads : (k : ℕ) → k < 9 → get_or new.threads k 0 ≡ count_by (is_in_state k) watched
  pub suspended : new.suspended ≡ count_by is_held watched
  pub state_time : (k : ℕ) → k < 9 → get_or new.state_time k 0 ≡ added (get_or old.state_time k 0) (count_by (is_in_state k) watched * passed)
  pub suspended_time : new.suspended_time ≡ added old.suspended_time (count_by is_held watched * passed)

-- what does not speak of states is as it was
pub record KeepsOthers (old new : Metrics) : Type 0 where
  pub attached : new.attached ≡ old.attached
  pub detached : new.detached ≡ old.detached
  pub events_lost : new.events_lost ≡ old.events_lost
  pub hand_overs : new.hand_overs ≡ old.hand_overs
  pub answers : new.answers ≡ old.answers
  pub calls_out : new.calls_out ≡ old.calls_out
  pub oldest_call : new.oldest_call ≡ old.oldest_call
  pub profiles : new.profiles ≡ old.profiles
  pub ticks : new.ticks ≡ old.ticks
  pub missed : new.missed ≡ old.missed
  pub at_once : new.at_once ≡ old.at_once
  pub late : new.late ≡ old.late
  pub unanswered : new.unanswered ≡ old.unanswered
  pub no_room : new.no_room ≡ old.no_room

-- the same with so many calls that are out, and the age of the oldest one
abbrev pub with_calls : Metrics → ℕ → ℕ → Metrics
with_calls m n oldest = record {
  threads = m.threads;
  suspended = m.suspended;
  attached = m.attached;
  detached = m.detached;
  events_lost = m.events_lost;
  hand_overs = m.hand_overs;
  state_time = m.state_time;
  suspended_time = m.suspended_time;
  answers = m.answers;
  calls_out = n;
  oldest_call = oldest;
  profiles = m.profiles;
  ticks = m.ticks;
  missed = m.missed;
  at_once = m.at_once;
  late = m.late;
  unanswered = m.unanswered;
  no_room = m.no_room;
}
