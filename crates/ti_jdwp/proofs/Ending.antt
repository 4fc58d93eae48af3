-- Once the runtime has ended, a session adds nothing to what is to be sent.
use Rattle.std.proofs.Common.{◌≡◌, ℕ, Bool, true, false, List, [], ◌∷◌, ◌++◌, length, take, min, Some, refl, sym, ap, subst, ◌∙◌, append_assoc, inl, inr}
use Rattle.std.proofs.lemmas.Bool.{true≢false}
use Rattle.std.proofs.lemmas.List.{take-append-drop}
use Rattle.ti_jdwp.specs.declared.actions.Action.{Action}
use Rattle.ti_jdwp.specs.declared.actions.Action.TheVariants as action
use Rattle.ti_jdwp.specs.declared.actions.Phase.{Phase}
use Rattle.ti_jdwp.specs.declared.actions.Phase.TheVariants as phase
use Rattle.ti_jdwp.specs.declared.actions.Posted.{Posted}
use Rattle.ti_jdwp.specs.declared.actions.Posted.TheVariants as posted
use Rattle.ti_jdwp.specs.declared.actions.Purpose.{Purpose}
use Rattle.ti_jdwp.specs.declared.actions.Purpose.TheVariants as purpose
use Rattle.ti_jdwp.specs.Answered.{is_asked, listed_in, settled_in, placed_in, located_in, PostedBy, PostedIn}
use Rattle.ti_jdwp.specs.Lines.{Bytes}
use Rattle.ti_jdwp.specs.Notes.{DiesIn, hears_end, winds_up}
use Rattle.ti_jdwp.specs.SessionEnds.{NothingFollowsTheEnd}
use Rattle.ti_jdwp.specs.SessionRuns.{Call, Fed, PeerEnded, Shut, Went, Failed, Replied, Listed, PostedAs, Settled, PlacedAs, LocatedAs, StoppedAt, Written, Happened, Began, Died, Step, taken, Runs}
use Rattle.ti_jdwp.specs.Steps.{EndsBy, GoesIn, writes_first, GoesFirst}
use Rattle.ti_jdwp.specs.Talks.{Talk, closing, fed}
use Rattle.ti_jdwp.proofs.Noting.{begins_keep, dies_ends, keeps, stops_keep}

never : {X : Type 0} → false ≡ true → X
never h = absurd (true≢false (sym h))

abbrev is_end : Purpose → Bool
is_end purpose.One = false
is_end purpose.All = false
is_end purpose.Event = false
is_end purpose.End = true

-- the session ends, and all that it does any more is to resume threads
abbrev is_last : Phase → Bool
is_last phase.Greeting = false
is_last phase.Ready = false
is_last phase.Asking = false
is_last (phase.Listing p) = false
is_last (phase.Stopping p) = false
is_last (phase.Suspending p u) = is_end p
is_last (phase.Undoing p u) = is_end p
is_last (phase.Settling p) = false
is_last (phase.Finishing p) = false
is_last phase.Refusing = false
is_last (phase.Placing w) = false
is_last (phase.Locating w) = false
is_last (phase.Putting w k) = false
is_last (phase.Denied d) = false
is_last (phase.Numbered n) = false
is_last phase.Resuming = false
is_last phase.Ending = true
is_last phase.Closed = true

at_end : (P : Purpose → Type 0) → P purpose.End → (p : Purpose) → is_end p ≡ true → P p
at_end P x purpose.One h = never h
at_end P x purpose.All h = never h
at_end P x purpose.Event h = never h
at_end P x purpose.End h = x

-- what holds of the phases in which a session ends
at_last : (P : Phase → Type 0) → ((u : ℕ) → P (phase.Suspending purpose.End u)) → ((u : ℕ) → P (phase.Undoing purpose.End u)) → P phase.Ending → P phase.Closed → (q : Phase) → is_last q ≡ true → P q
at_last P s u e k phase.Greeting h = never h
at_last P s u e k phase.Ready h = never h
at_last P s u e k phase.Asking h = never h
at_last P s u e k (phase.Listing p) h = never h
at_last P s u e k (phase.Stopping p) h = never h
at_last P s u e k (phase.Suspending p t) h = at_end (λ p. P (phase.Suspending p t)) (s t) p h
at_last P s u e k (phase.Undoing p t) h = at_end (λ p. P (phase.Undoing p t)) (u t) p h
at_last P s u e k (phase.Settling p) h = never h
at_last P s u e k (phase.Finishing p) h = never h
at_last P s u e k phase.Refusing h = never h
at_last P s u e k (phase.Placing w) h = never h
at_last P s u e k (phase.Locating w) h = never h
at_last P s u e k (phase.Putting w from) h = never h
at_last P s u e k (phase.Denied d) h = never h
at_last P s u e k (phase.Numbered n) h = never h
at_last P s u e k phase.Resuming h = never h
at_last P s u e k phase.Ending h = e
at_last P s u e k phase.Closed h = k

closing_last : (q : Phase) → is_last (closing q) ≡ true
closing_last phase.Greeting = refl
closing_last phase.Ready = refl
closing_last phase.Asking = refl
closing_last (phase.Listing p) = refl
closing_last (phase.Stopping p) = refl
closing_last (phase.Suspending p u) = refl
closing_last (phase.Undoing p u) = refl
closing_last (phase.Settling p) = refl
closing_last (phase.Finishing p) = refl
closing_last phase.Refusing = refl
closing_last (phase.Placing w) = refl
closing_last (phase.Locating w) = refl
closing_last (phase.Putting w k) = refl
closing_last (phase.Denied d) = refl
closing_last (phase.Numbered n) = refl
closing_last phase.Resuming = refl
closing_last phase.Ending = refl
closing_last phase.Closed = refl

-- what a step leaves, with which the socket took these bytes
record Adds-none (old new : Talk) (took : List ℕ) : Type 0 where
  last : is_last new.phase ≡ true
  output : old.bytes.output ≡ took ++ new.bytes.output

-- a step that leaves what is to be sent
quiet : (old new next : Talk) → new ≡ next → is_last next.phase ≡ true → next.bytes.output ≡ old.bytes.output → Adds-none old new []
quiet old new next is last output = record {
  last = ap (λ (x : Talk). is_last x.phase) is ∙ last;
  output = sym (ap (λ (x : Talk). x.bytes.output) is ∙ output);
}

ends : (old new : Talk) (act : Action) → old.phase ≡ phase.Ending → EndsBy act old new → Adds-none old new []
ends old new (action.Resume u) at s = quiet old new (record old { holds = new.holds }) s.1 (ap is_last at) refl
ends old new action.Again at s = quiet old new (record old { holds = new.holds }) s.1 (ap is_last at) refl
ends old new action.Write at s = quiet old new old s.2 (ap is_last at) refl
ends old new action.Close at s = quiet old new (record old { phase = phase.Closed }) s.2 refl refl
ends old new (action.Ask r) at s = absurd s
ends old new action.ListThreads at s = absurd s
ends old new (action.SetBreakpoint k m i) at s = absurd s
ends old new (action.Locate v) at s = absurd s
ends old new (action.LetGo v) at s = absurd s
ends old new (action.Suspend v) at s = absurd s
ends old new action.Settle at s = absurd s
ends old new action.Wait at s = absurd s

goes : (old new : Talk) (act : Action) → is_last old.phase ≡ true → GoesIn old.phase old act new → Adds-none old new []
goes old new act h s = at_last (λ q. old.phase ≡ q → GoesIn q old act new → Adds-none old new [])
    (λ u at s. quiet old new old s.1 h refl)
    (λ u at s. quiet old new (record old { phase = phase.Ending }) s.1 refl refl)
    (λ at s. ends old new act at s)
    (λ at s. quiet old new old s.1 h refl)
    old.phase h refl s

goes_first : (b : Bool) (old new : Talk) (act : Action) → is_last old.phase ≡ true → GoesFirst b old act new → Adds-none old new []
goes_first true old new act h s = quiet old new old s.1 h refl
goes_first false old new act h s = goes old new act h s

posts_by : (u : ℕ) (post : Posted) (old new : Talk) → PostedBy purpose.End u post old new → Adds-none old new []
posts_by u posted.Suspended old new s = elim s [
  | inl a ↦ quiet old new (record old { phase = phase.Ending; holds = new.holds }) a.1 refl refl
  | inr a ↦ quiet old new (record old { phase = phase.Undoing purpose.End u; short = true }) a refl refl
]
posts_by u posted.ByAnother old new s = elim s [
  | inl a ↦ quiet old new (record old { phase = phase.Ending; holds = new.holds }) a.1 refl refl
  | inr a ↦ quiet old new (record old { phase = phase.Ending; short = true }) a refl refl
]
posts_by u posted.NotAlive old new s = quiet old new (record old { phase = phase.Ending }) s refl refl
posts_by u posted.Unknown old new s = quiet old new (record old { phase = phase.Ending }) s refl refl

posts : (post : Posted) (old new : Talk) (q : Phase) → is_last q ≡ true → PostedIn q post old new → Adds-none old new []
posts post old new q h = at_last (λ q. PostedIn q post old new → Adds-none old new []) (λ u s. posts_by u post old new s) (λ u s. absurd s) (λ s. absurd s) (λ s. absurd s) q h

unasked : (q : Phase) → is_last q ≡ true → is_asked q ≡ true → false ≡ true
unasked q h = at_last (λ q. is_asked q ≡ true → false ≡ true) (λ u k. k) (λ u k. k) (λ k. k) (λ k. k) q h

unlisted : (threads : List ℕ) (old new : Talk) (q : Phase) → is_last q ≡ true → listed_in q threads old ≡ Some new → false ≡ true
unlisted threads old new q h = at_last (λ q. listed_in q threads old ≡ Some new → false ≡ true) (λ u s. cc) (λ u s. cc) (λ s. cc) (λ s. cc) q h

unsettled : (old new : Talk) (q : Phase) → is_last q ≡ true → settled_in q old ≡ Some new → false ≡ true
unsettled old new q h = at_last (λ q. settled_in q old ≡ Some new → false ≡ true) (λ u s. cc) (λ u s. cc) (λ s. cc) (λ s. cc) q h

deaf : (q : Phase) → is_last q ≡ true → hears_end q ≡ false
deaf q h = at_last (λ q. hears_end q ≡ false) (λ u. refl) (λ u. refl) refl refl q h

-- a session that has ended is not told of the end once more
ends_again : (result : Bool) (old new : Talk) → is_last old.phase ≡ true → DiesIn (hears_end old.phase) old result new → Adds-none old new []
ends_again result old new h s =
    let d = subst (λ b. DiesIn b old result new) (deaf old.phase h) s in
    quiet old new (winds_up old) d.1 (closing_last old.phase) refl

step : (old new : Talk) (c : Call) → is_last old.phase ≡ true → Step old c new → Adds-none old new (taken old c)
step old new (Fed bytes) h s = quiet old new (fed old bytes) s.1 h refl
step old new PeerEnded h s = quiet old new (record old { ended = true }) s h refl
step old new Shut h s = quiet old new (record old { phase = closing old.phase; gone = true }) s (closing_last old.phase) refl
step old new (Went act) h s = goes_first (writes_first old.phase old.bytes.output) old new act h s
step old new Failed h s = quiet old new (record old { first = new.first }) s.0 h refl
step old new (Replied a) h s = never (unasked old.phase h s.0)
step old new (Listed threads) h s = never (unlisted threads old new old.phase h s)
step old new (PostedAs post) h s = posts post old new old.phase h s
step old new Settled h s = never (unsettled old new old.phase h s)
step old new (PlacedAs placed) h s = never (at_last (λ q. placed_in q placed old ≡ Some new → false ≡ true) (λ u s. cc) (λ u s. cc) (λ s. cc) (λ s. cc) old.phase h s)
step old new (LocatedAs standing) h s = never (at_last (λ q. located_in q standing old ≡ Some new → false ≡ true) (λ u s. cc) (λ u s. cc) (λ s. cc) (λ s. cc) old.phase h s)
step old new (StoppedAt x v) h s = let k = stops_keep x v old new s in record { last = ap is_last k.phase ∙ h; output = sym (ap (λ (b : Bytes). b.output) k.bytes) }
step old new (Written count) h s = record {
  last = ap (λ (x : Talk). is_last x.phase) s ∙ h;
  output =
      let n = min count (length old.bytes.output) in
      sym (ap (λ (x : Talk). take n old.bytes.output ++ x.bytes.output) s ∙ take-append-drop n old.bytes.output);
}
step old new (Happened e o result) h s = let k = keeps e o result old new s in record { last = ap is_last k.phase ∙ h; output = sym (ap (λ (b : Bytes). b.output) k.bytes) }
step old new (Began v result) h s = let k = begins_keep v result old new s in record { last = ap is_last k.phase ∙ h; output = sym (ap (λ (b : Bytes). b.output) k.bytes) }
step old new (Died result) h s = ends_again result old new h s

runs : (old end : Talk) (calls : List Call) (sent : List ℕ) → is_last old.phase ≡ true → Runs old calls sent end → old.bytes.output ≡ sent ++ end.bytes.output
runs old end [] sent h run = ap (λ (x : Talk). x.bytes.output) run.0 ∙ ap (λ l. l ++ end.bytes.output) (sym run.1)
runs old end (c ∷ calls) sent h run =
    let l = step old run.0 c h run.2 in
    l.output ∙ ap (λ x. taken old c ++ x) (runs run.0 end calls run.1 l.last run.4)
    ∙ sym (append_assoc (taken old c) run.1 end.bytes.output) ∙ ap (λ x. x ++ end.bytes.output) (sym run.3)

pub nothing_follows : NothingFollowsTheEnd
nothing_follows old ended end is_told calls sent dies run =
    runs ended end calls sent (ap is_last (dies_ends is_told old ended dies).phase ∙ closing_last old.phase) run
