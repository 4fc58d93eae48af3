-- Calls that lead to another state.
use Rattle.std.specs.Prelude.{◌≡◌, ◌⊎◌, [], ◌∷◌, ◌++◌, None}
use Rattle.ti_types.specs.declared.entry.Entry.TheVariants as entry
use Rattle.ti_types.specs.declared.error.TiError.{TiError}
use Rattle.ti_types.specs.declared.error.TiError.TheVariants.{Busy, NotNew, NotRunning, NotSafe}
use Rattle.ti_types.specs.declared.state.Safe.{Safe as Manner}
use Rattle.ti_replay.specs.LateTickets.{steps_of}
use Rattle.ti_cell.specs.Seats.{Sitting}
use Rattle.ti_handshake.specs.Call.{Holds, found}
use Rattle.ti_handshake.specs.Polls.{IsClear, HasGone, HasStayed}
use Rattle.ti_handshake.specs.Thread.{Runner, refused_at, logged}
use Rattle.ti_handshake.specs.Tries.{StaysBarred, RunsOn}
use Rattle.ti_thread.specs.declared.any_thread.AnyThread.{AnyThread}
use Rattle.ti_thread.specs.declared.any_thread.AnyThread.TheVariants.{Fresh, Running, Safe, Ended}
use Rattle.ti_thread.specs.declared.any_thread.TurnOutcome.{TurnOutcome}
use Rattle.ti_thread.specs.declared.any_thread.TurnOutcome.TheVariants.{Done, Held, Refused}

-- the thread is in no state for the call, and is as it was
abbrev pub IsUnfit : TiError → AnyThread → AnyThread → TurnOutcome → Type 0
IsUnfit e old new told = (new ≡ old) × (told ≡ Refused e)

-- A thread that has not started starts in one hold, or stays as it is
abbrev pub StartsFrom : Sitting → AnyThread → TurnOutcome → Type 0
StartsFrom f (Running r) Done = (r.cell ≡ f.cell) × Holds f.view r.view (entry.Start ∷ []) × (refused_at f.view.subject.limits (found f.view r.view) entry.Start ≡ None) × (r.steps ≡ [])
StartsFrom f (Fresh g) (Refused e) = (g.cell ≡ f.cell) × (((e ≡ Busy) × (g ≡ f)) ⊎ StaysBarred entry.Start f g e)
StartsFrom f _ _ = ⊥

abbrev pub Starts : AnyThread → AnyThread → TurnOutcome → Type 0
Starts (Fresh f) new told = StartsFrom f new told
Starts (Running r) new told = IsUnfit NotNew (Running r) new told
Starts (Safe s) new told = IsUnfit NotNew (Safe s) new told
Starts (Ended s) new told = IsUnfit NotNew (Ended s) new told

-- A running thread goes on from its poll, stays there, or has not polled
abbrev pub PollsFrom : Runner → AnyThread → TurnOutcome → Type 0
PollsFrom r (Running n) Done = IsClear r n ⊎ HasGone r n
PollsFrom r (Safe s) Held = HasStayed r s
PollsFrom r (Running n) (Refused e) = (n ≡ r) × (e ≡ Busy)
PollsFrom r _ _ = ⊥

abbrev pub Polls : AnyThread → AnyThread → TurnOutcome → Type 0
Polls (Running r) new told = PollsFrom r new told
Polls (Fresh s) new told = IsUnfit NotRunning (Fresh s) new told
Polls (Safe s) new told = IsUnfit NotRunning (Safe s) new told
Polls (Ended s) new told = IsUnfit NotRunning (Ended s) new told

-- a running thread hands over in one hold, or runs on
abbrev pub HandsOverFrom : Manner → Runner → AnyThread → TurnOutcome → Type 0
HandsOverFrom m r (Safe s) Done = (s.cell ≡ r.cell) × Holds r.view s.view (steps_of r.steps ++ entry.Hand m ∷ []) × (refused_at r.view.subject.limits (logged (found r.view s.view) r.steps) (entry.Hand m) ≡ None)
HandsOverFrom m r (Running n) (Refused e) = (n.cell ≡ r.cell) × (((e ≡ Busy) × (n ≡ r)) ⊎ RunsOn (entry.Hand m) r n e)
HandsOverFrom m r _ _ = ⊥

abbrev pub HandsOver : Manner → AnyThread → AnyThread → TurnOutcome → Type 0
HandsOver m (Running r) new told = HandsOverFrom m r new told
HandsOver m (Fresh s) new told = IsUnfit NotRunning (Fresh s) new told
HandsOver m (Safe s) new told = IsUnfit NotRunning (Safe s) new told
HandsOver m (Ended s) new told = IsUnfit NotRunning (Ended s) new told

-- a safe thread returns in one hold, or stays safe
abbrev pub ReturnsFrom : Sitting → AnyThread → TurnOutcome → Type 0
ReturnsFrom s (Running r) Done = (r.cell ≡ s.cell) × Holds s.view r.view (entry.Back ∷ []) × (refused_at s.view.subject.limits (found s.view r.view) entry.Back ≡ None) × (r.steps ≡ [])
ReturnsFrom s (Safe t) (Refused e) = (t.cell ≡ s.cell) × (((e ≡ Busy) × (t ≡ s)) ⊎ StaysBarred entry.Back s t e)
ReturnsFrom s _ _ = ⊥

abbrev pub Returns : AnyThread → AnyThread → TurnOutcome → Type 0
Returns (Safe s) new told = ReturnsFrom s new told
Returns (Fresh s) new told = IsUnfit NotSafe (Fresh s) new told
Returns (Running r) new told = IsUnfit NotSafe (Running r) new told
Returns (Ended s) new told = IsUnfit NotSafe (Ended s) new told

-- a running thread ends in one hold, or runs on
abbrev pub EndsFrom : Runner → AnyThread → TurnOutcome → Type 0
EndsFrom r (Ended s) Done = (s.cell ≡ r.cell) × Holds r.view s.view (steps_of r.steps ++ entry.End ∷ [])
EndsFrom r (Running n) (Refused e) = (n ≡ r) × (e ≡ Busy)
EndsFrom r _ _ = ⊥

abbrev pub Ends : AnyThread → AnyThread → TurnOutcome → Type 0
Ends (Running r) new told = EndsFrom r new told
Ends (Fresh s) new told = IsUnfit NotRunning (Fresh s) new told
Ends (Safe s) new told = IsUnfit NotRunning (Safe s) new told
Ends (Ended s) new told = IsUnfit NotRunning (Ended s) new told
