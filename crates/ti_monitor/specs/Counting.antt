-- How stacks are counted.
use Rattle.std.specs.Prelude.{ℕ, ◌≡◌, ◌+◌, ◌-◌, ◌<◌, ◌⊎◌, List, [], ◌∷◌}
use Rattle.ti_pprof.specs.declared.counting.Counts.{Counts}
use Rattle.ti_pprof.specs.declared.stacks.Frame.{Frame}
use Rattle.ti_pprof.specs.Samples.{IsCounted, IsFull, SameBounds, samples_of}
use Rattle.ti_monitor.specs.declared.label.Label.{Label}

abbrev pub frame : ℕ → ℕ → Frame
frame function line = record { function = function; line = line }

-- A stack was put so many times: it is counted, or there is no room for it. Then that is counted.
abbrev pub Puts : Counts → Counts → List Frame → Label → ℕ → Type 0
Puts old new frames l times =
    ((IsCounted (samples_of old.trie old.table) (samples_of new.trie new.table) frames l.thread l.state times × (new.no_room ≡ old.no_room))
    ⊎ ((samples_of new.trie new.table ≡ samples_of old.trie old.table) × (new.no_room ≡ old.no_room + times) × IsFull new.trie new.table))
    × SameBounds old.trie old.table new.trie new.table

-- A stack was counted that was owed so many times: once as it is, and else with the frame `(late)` on it.
abbrev pub PutsStack : Counts → Counts → List Frame → List Frame → Label → ℕ → Type 0
PutsStack old new frames late l owed =
    (owed ≡ 0 → new ≡ old)
    × (owed ≡ 1 → Puts old new frames l 1)
    × (1 < owed → (between : Counts) × Puts old between frames l 1 × Puts between new late l (owed - 1))

-- A stack of one frame was counted as often as it was owed.
abbrev pub PutsFrame : Counts → Counts → Frame → Label → ℕ → Type 0
PutsFrame old new f l owed = (owed ≡ 0 → new ≡ old) × (0 < owed → Puts old new (f ∷ []) l owed)
