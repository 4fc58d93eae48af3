-- Whole runs of the calls of an account.
use Rattle.std.specs.Prelude.{ℕ, ◌≡◌, ◌+◌, List, [], ◌∷◌, sum}
use Rattle.std.specs.List.{sum_by}
use Rattle.ti_pprof.specs.declared.stacks.Frame.{Frame}
use Rattle.ti_pprof.specs.Samples.{Sample, samples_of}
use Rattle.ti_monitor.specs.declared.account.Account.{Account}
use Rattle.ti_monitor.specs.declared.label.Label.{Label}
use Rattle.ti_monitor.specs.Accounts.{Answers, Loses, TakesBack, TicksAt, Widens, owed_at}

-- A call: one more place, a tick at a place, the stack of a place, a frame in its stead, and so many ticks at a place taken back.
pub data Act : Type 0 where
  Widened : Act
  Ticked : ℕ → Act
  Answered : ℕ → List Frame → List Frame → Label → Act
  Lost : ℕ → Frame → Label → Act
  TakenBack : ℕ → ℕ → Act

-- what the contracts of the calls say
abbrev pub Step : Account → Act → Account → Type 0
Step old Widened new = Widens old new
Step old (Ticked place) new = TicksAt old new place
Step old (Answered place frames late l) new = Answers old new place frames late l
Step old (Lost place f l) new = Loses old new place f l
Step old (TakenBack place count) new = TakesBack old new place × (count ≡ owed_at old place)

-- these calls, in this order
abbrev pub RunsBy : Account → List Act → Account → Type 0
RunsBy old [] new = new ≡ old
RunsBy old (act ∷ acts) new = (next : Account) × Step old act next × RunsBy next acts new

-- how many of them are ticks at a place
abbrev pub ticks_by : Act → ℕ
ticks_by Widened = 0
ticks_by (Ticked place) = 1
ticks_by (Answered place frames late l) = 0
ticks_by (Lost place f l) = 0
ticks_by (TakenBack place count) = 0

abbrev pub ticks_in : List Act → ℕ
ticks_in [] = 0
ticks_in (act ∷ acts) = ticks_by act + ticks_in acts

-- how many of the ticks were taken back
abbrev pub taken_by : Act → ℕ
taken_by Widened = 0
taken_by (Ticked place) = 0
taken_by (Answered place frames late l) = 0
taken_by (Lost place f l) = 0
taken_by (TakenBack place count) = count

abbrev pub taken_in : List Act → ℕ
taken_in [] = 0
taken_in (act ∷ acts) = taken_by act + taken_in acts

-- how many samples were counted, with those that had no room
abbrev pub samples_in : Account → ℕ
samples_in a = sum_by (λ (s : Sample). s.count) (samples_of a.counts.trie a.counts.table) + a.counts.no_room

-- Whatever calls come, in whatever order: the samples that were counted, the stacks that are owed and the ticks that were taken back
-- are as many as the ticks at places.
abbrev pub SamplesAreTicks : Type 0
SamplesAreTicks =
    (old new : Account) (acts : List Act) → old.thread_ticks ≡ 0 → RunsBy old acts new → samples_in new + (sum new.owed.items + taken_in acts) ≡ ticks_in acts
