-- Accounts of the stacks that are counted and owed.
use Rattle.std.specs.Prelude.{ℕ, zero, suc, ◌≡◌, ◌≢◌, ◌≤◌, ◌+◌, ◌-◌, ◌^◌, ◌⊎◌, List, [], ◌∷◌, ◌++◌, get_or, length, min, slice_set}
use Rattle.ti_pprof.specs.declared.stacks.Frame.{Frame}
use Rattle.ti_pprof.specs.Samples.{samples_of}
use Rattle.ti_monitor.specs.declared.account.Account.{Account}
use Rattle.ti_monitor.specs.declared.label.Label.{Label}
use Rattle.ti_monitor.specs.Counting.{PutsFrame, PutsStack}

-- how many stacks are owed at a place
abbrev pub owed_at : Account → ℕ → ℕ
owed_at a place = get_or a.owed.items place 0

-- one more stack is owed at a place
abbrev pub TicksAt : Account → Account → ℕ → Type 0
TicksAt old new place =
    (new.owed.items ≡ slice_set old.owed.items place (owed_at old place + 1))
    × (new.thread_ticks ≡ old.thread_ticks + 1)
    × (new.counts ≡ old.counts) × (new.at_once ≡ old.at_once) × (new.late ≡ old.late) × (new.unanswered ≡ old.unanswered)

-- nothing is owed at a place any more
abbrev pub Pays : Account → Account → ℕ → Type 0
Pays old new place = (new.owed.items ≡ slice_set old.owed.items place 0) × (new.thread_ticks ≡ old.thread_ticks)

-- the stack of a place is there: it is counted once for the newest tick, and with the frame `(late)` for each before it
abbrev pub Answers : Account → Account → ℕ → List Frame → List Frame → Label → Type 0
Answers old new place frames late l =
    PutsStack old.counts new.counts frames late l (owed_at old place)
    × Pays old new place
    × (new.at_once ≡ old.at_once + min (owed_at old place) 1) × (new.late ≡ old.late + (owed_at old place - 1)) × (new.unanswered ≡ old.unanswered)

-- the thread of a place is not alive: its ticks that owe a stack are taken back, and nothing is counted
abbrev pub TakesBack : Account → Account → ℕ → Type 0
TakesBack old new place =
    (new.owed.items ≡ slice_set old.owed.items place 0) × (new.thread_ticks + owed_at old place ≡ old.thread_ticks)
    × (new.counts ≡ old.counts) × (new.at_once ≡ old.at_once) × (new.late ≡ old.late) × (new.unanswered ≡ old.unanswered)

-- what is owed at a place is counted under one frame
abbrev pub Loses : Account → Account → ℕ → Frame → Label → Type 0
Loses old new place f l =
    PutsFrame old.counts new.counts f l (owed_at old place)
    × Pays old new place
    × (new.at_once ≡ old.at_once) × (new.late ≡ old.late) × (new.unanswered ≡ old.unanswered + owed_at old place)

-- what is owed at the first places is counted under one frame, one place after the other; `labels` gives each place its label
abbrev pub LosesUpTo : Account → Account → ℕ → Frame → (ℕ → Label) → Type 0
LosesUpTo old new zero f labels = new ≡ old
LosesUpTo old new (suc place) f labels =
    (between : Account) × LosesUpTo old between place f labels × Loses between new place f (labels place)

-- one more place, at which nothing is owed
abbrev pub Widens : Account → Account → Type 0
Widens old new =
    (new.owed.items ≡ old.owed.items ++ 0 ∷ []) × (new.thread_ticks ≡ old.thread_ticks)
    × (new.counts ≡ old.counts) × (new.at_once ≡ old.at_once) × (new.late ≡ old.late) × (new.unanswered ≡ old.unanswered)

-- nothing has changed but the room for places
abbrev pub IsSame : Account → Account → Type 0
IsSame old new =
    (new.owed.items ≡ old.owed.items) × (new.thread_ticks ≡ old.thread_ticks)
    × (new.counts ≡ old.counts) × (new.at_once ≡ old.at_once) × (new.late ≡ old.late) × (new.unanswered ≡ old.unanswered)

-- nothing was counted, and no place is gone
pub record IsUncounted (a b : Account) : Type 0 where
  pub places : length a.owed.items ≤ length b.owed.items
  pub counts : b.counts ≡ a.counts
  pub at_once : b.at_once ≡ a.at_once
  pub late : b.late ≡ a.late
  pub unanswered : b.unanswered ≡ a.unanswered

-- at each place as many stacks are owed as before
abbrev pub OwesAsBefore : Account → Account → Type 0
OwesAsBefore a b = (place : ℕ) → owed_at b place ≡ owed_at a place

-- at one place so many more are
abbrev pub OwesMore : ℕ → ℕ → Account → Account → Type 0
OwesMore place n a b = (owed_at b place ≡ owed_at a place + n) × ((other : ℕ) → other ≢ place → owed_at b other ≡ owed_at a other)

-- no more stacks can be owed: there is no memory for a place, or there were 2^62 ticks at threads
abbrev pub IsExhausted : ℕ → Account → Type 0
IsExhausted place b = (length b.owed.items ≤ place) ⊎ (b.thread_ticks ≡ 2 ^ 62)

-- there is room for so many frames, and for as many samples
abbrev pub HasRoom : ℕ → Account → Type 0
HasRoom room a = (a.counts.trie.most ≡ room) × (a.counts.table.most ≡ room)

-- nothing was counted, and nothing is owed
pub record IsEmpty (a : Account) : Type 0 where
  pub samples : samples_of a.counts.trie a.counts.table ≡ []
  pub no_room : a.counts.no_room ≡ 0
  pub owed : a.owed.items ≡ []
  pub thread_ticks : a.thread_ticks ≡ 0
