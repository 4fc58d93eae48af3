-- Each call is allowed by the protocol, and so is each run.
use Rattle.std.proofs.Common.{◌≡◌, ℕ, Bool, true, false, cond, ◌&&◌, ◌||◌, List, [], ◌∷◌, length, take, drop, Option, Some, None, Result, Ok, Err, refl, sym, ap, subst, ◌∙◌, eqb}
use Rattle.std.specs.Prelude.{nat_lt, min}
use Rattle.ti_http.specs.declared.answers.ContentType.{ContentType}
use Rattle.ti_http.specs.declared.connection.Action.{Action}
use Rattle.ti_http.specs.declared.connection.Action.TheVariants as action
use Rattle.ti_http.specs.declared.connection.Phase.{Phase}
use Rattle.ti_http.specs.declared.connection.Phase.TheVariants as phase
use Rattle.ti_http.specs.declared.head.Request.{Request}
use Rattle.ti_http.specs.declared.head.Seen.{Seen}
use Rattle.ti_http.specs.declared.head.Seen.TheVariants as seen
use Rattle.ti_http.specs.declared.head.Whole.{Whole}
use Rattle.ti_http.specs.declared.refusals.Refusal.{Refusal}
use Rattle.ti_http.specs.declared.refusals.Refusal.TheVariants as refusal
use Rattle.ti_http.specs.declared.status.Status.{Status}
use Rattle.ti_http.specs.Targets.{or_else}
use Rattle.ti_http.specs.Talks.{Talk, opened, room_in, fed, GoesWith, GoesIn, goes_by, judged, refuses, closed, answered_in, patience_in, patience, ticks}
use Rattle.ti_http.specs.Runs.{Call, Fed, PeerEnded, Told, Answered, Written, Ticked, Step, Runs, State, idle, waits, shut, state_of, is_idle, is_waiting, is_shut, is_same, may_tell, allows, Follows, FollowsTheProtocol}
use Rattle.ti_http.proofs.Rests.{nothing_left}

-- Nothing is to be written while a request waits, nor after a close.
abbrev pub FineIn : Phase → List ℕ → Type 0
FineIn phase.Reading out = Unit {0}
FineIn (phase.Waiting manner) out = out ≡ []
FineIn phase.Closing out = Unit {0}
FineIn phase.Closed out = out ≡ []

abbrev pub Fine : Talk → Type 0
Fine t = FineIn t.phase t.output

same_state : (s : State) → is_same s s ≡ true
same_state idle = refl
same_state waits = refl
same_state shut = refl

-- a call that leaves the phase
keeps_state : (t m : Talk) → m.phase ≡ t.phase → is_same (state_of t.phase) (state_of m.phase) ≡ true
keeps_state t m h = ap (λ (p : Phase). is_same (state_of t.phase) (state_of p)) h ∙ same_state (state_of t.phase)

fed_phase : (t : Talk) (bytes : List ℕ) (now : ℕ) → (fed t bytes now).phase ≡ t.phase
fed_phase t [] now = refl
fed_phase t (b ∷ bytes) now = refl

fed_fine : (t : Talk) (bytes : List ℕ) (now : ℕ) → Fine t → Fine (fed t bytes now)
fed_fine t [] now h = h
fed_fine t (b ∷ bytes) now h = h

after_answer : (keeps : Bool) → state_of (cond keeps phase.Reading phase.Closing) ≡ idle
after_answer true = refl
after_answer false = refl

fine_answer : (keeps : Bool) (out : List ℕ) → FineIn (cond keeps phase.Reading phase.Closing) out
fine_answer true out = tt
fine_answer false out = tt

-- what a connection that reads may say, and that it is fine afterwards
pub record Told-well (act : Action) (old : State) (m : Talk) : Type 0 where
  pub tells : may_tell act old (state_of m.phase) ≡ true
  pub fine : Fine m

abbrev pub starving : Talk → ℕ → Bool → Bool → Action × Talk
starving t now more empty =
    cond more (action.Wait, t) (cond empty (action.Close, closed t) (action.Write, refuses t now refusal.NoRequest))

starved : (t : Talk) (now : ℕ) (more empty : Bool) → t.phase ≡ phase.Reading → Fine t → Told-well (starving t now more empty).0 idle (starving t now more empty).1
starved t now true empty reads h = record { tells = ap (λ (p : Phase). is_idle (state_of p)) reads; fine = h }
starved t now false true reads h = record { tells = refl; fine = refl }
starved t now false false reads h = record { tells = refl; fine = tt }

judged_well : (t : Talk) (now : ℕ) (w : Whole) (o : Result Request Refusal) → t.output ≡ [] → Told-well (judged t now w o).0 idle (judged t now w o).1
judged_well t now w (Ok request) none = record { tells = refl; fine = none }
judged_well t now w (Err r) none = record { tells = ap is_idle (after_answer _); fine = fine_answer _ _ }

reads_well : (t : Talk) (now : ℕ) (s : Seen) → t.phase ≡ phase.Reading → t.output ≡ [] → Fine t → Told-well (goes_by t now s).0 idle (goes_by t now s).1
reads_well t now seen.More reads none h = starved t now _ _ reads h
reads_well t now (seen.Broken r) reads none h = record { tells = refl; fine = tt }
reads_well t now (seen.Whole w) reads none h = judged_well t now w w.outcome none

-- an action that changes nothing
told_same : (t m : Talk) (act other : Action) → act ≡ other → m ≡ t → may_tell other (state_of t.phase) (state_of t.phase) ≡ true → Fine t → Told-well act (state_of t.phase) m
told_same t m act other is same may h = record {
  tells = ap (λ (a : Action). may_tell a (state_of t.phase) (state_of m.phase)) is ∙ ap (λ (x : Talk). may_tell other (state_of t.phase) (state_of x.phase)) same ∙ may;
  fine = subst Fine (sym same) h;
}

told_in : (p : Phase) (t m : Talk) (now : ℕ) (act : Action) → t.phase ≡ p → t.output ≡ [] → Fine t → GoesIn p t now act m → Told-well act (state_of t.phase) m
told_in phase.Reading t m now act is none h goes =
    subst (λ (s : State). Told-well act s m) (sym (ap state_of is))
    (subst (λ (x : Action × Talk). Told-well x.0 idle x.1) (sym goes.2) (reads_well t now goes.0 is none h))
told_in (phase.Waiting manner) t m now act is none h goes =
    told_same t m act action.Wait goes.0 goes.1 (ap (λ (p : Phase). may_tell action.Wait (state_of p) (state_of p)) is) h
told_in phase.Closing t m now act is none h goes =
    subst (λ (s : State). Told-well act s m) (sym (ap state_of is))
    (subst (λ (x : Talk). Told-well act idle x) (sym goes.1) (subst (λ (a : Action). Told-well a idle (closed t)) (sym goes.0) (record { tells = refl; fine = refl })))
told_in phase.Closed t m now act is none h goes =
    told_same t m act action.Close goes.0 goes.1 (ap (λ (p : Phase). may_tell action.Close (state_of p) (state_of p)) is) h

may_write : (p : Phase) (b : ℕ) (bytes : List ℕ) → FineIn p (b ∷ bytes) → may_tell action.Write (state_of p) (state_of p) ≡ true
may_write phase.Reading b bytes h = refl
may_write (phase.Waiting manner) b bytes h = refl
may_write phase.Closing b bytes h = refl
may_write phase.Closed b bytes h = cc

told_with : (out : List ℕ) (t m : Talk) (now : ℕ) (act : Action) → t.output ≡ out → Fine t → GoesWith out t now act m → Told-well act (state_of t.phase) m
told_with [] t m now act is h goes = told_in t.phase t m now act refl is h goes
told_with (b ∷ bytes) t m now act is h goes =
    told_same t m act action.Write goes.0 goes.1 (may_write t.phase b bytes (subst (FineIn t.phase) is h)) h

-- an answer
answered_well : (p : Phase) (t m : Talk) (now : ℕ) (status : Status) (type : ContentType) (body : List ℕ) → answered_in p t now status type body ≡ Some m → ((is_waiting (state_of p) && is_idle (state_of m.phase)) ≡ true) × Fine m
answered_well phase.Reading t m now status type body h = cc
answered_well (phase.Waiting asked) t m now status type body h =
    let is = ap (λ (o : Option Talk). or_else o t) h in (
      ap (λ (x : Talk). is_idle (state_of x.phase)) (sym is) ∙ ap is_idle (after_answer _),
      subst Fine is (fine_answer _ _),
    )
answered_well phase.Closing t m now status type body h = cc
answered_well phase.Closed t m now status type body h = cc

still_fine : (p : Phase) (out : List ℕ) (count : ℕ) → FineIn p out → FineIn p (drop count out)
still_fine phase.Reading out count h = tt
still_fine (phase.Waiting manner) out count h = ap (drop count) h ∙ nothing_left count
still_fine phase.Closing out count h = tt
still_fine phase.Closed out count h = ap (drop count) h ∙ nothing_left count

written_well : (t : Talk) (none : Bool) (count now : ℕ) → Fine t → ((cond none t (record t { output = drop count t.output; since = now })).phase ≡ t.phase) × Fine (cond none t (record t { output = drop count t.output; since = now }))
written_well t true count now h = (refl, h)
written_well t false count now h = (refl, still_fine t.phase t.output count h)

-- where time runs, no request waits
idle_in_time : (p : Phase) (out input : List ℕ) (wait : ℕ) → FineIn p out → cond (nat_lt 0 (length out)) (Some 10000) (patience_in p input) ≡ Some wait → state_of p ≡ idle
idle_in_time phase.Reading out input wait h runs = refl
idle_in_time (phase.Waiting manner) [] input wait h runs = cc
idle_in_time (phase.Waiting manner) (b ∷ bytes) input wait h runs = cc
idle_in_time phase.Closing out input wait h runs = refl
idle_in_time phase.Closed [] input wait h runs = cc
idle_in_time phase.Closed (b ∷ bytes) input wait h runs = cc

abbrev pub Ticks-well : State → Talk → Type 0
Ticks-well old m = ((is_same old (state_of m.phase) || (is_idle old && is_shut (state_of m.phase))) ≡ true) × Fine m

or_true : (a b : Bool) → a ≡ true → (a || b) ≡ true
or_true true b h = refl
or_true false b h = cc

late_well : (t : Talk) (now : ℕ) (early shuts : Bool) → state_of t.phase ≡ idle → Fine t → Ticks-well (state_of t.phase) (cond early t (cond shuts (closed t) (refuses t now refusal.Late)))
late_well t now true shuts is h = (or_true _ _ (same_state (state_of t.phase)), h)
late_well t now false true is h = (ap (λ (s : State). is_same s shut || (is_idle s && true)) is, refl)
late_well t now false false is h = (ap (λ (s : State). is_same s idle || (is_idle s && false)) is, tt)

ticked_well : (o : Option ℕ) (t : Talk) (now : ℕ) → patience t ≡ o → Fine t → Ticks-well (state_of t.phase) (ticks o t now)
ticked_well None t now is h = (or_true _ _ (same_state (state_of t.phase)), h)
ticked_well (Some wait) t now is h = late_well t now _ _ (idle_in_time t.phase t.output t.input wait h is) h

pub step_well : (t m : Talk) (c : Call) → Fine t → Step t c m → (allows c (state_of t.phase) (state_of m.phase) ≡ true) × Fine m
step_well t m (Fed bytes now) h step =
    (keeps_state t m (ap (λ (x : Talk). x.phase) step ∙ fed_phase t (take (room_in t) bytes) now), subst Fine (sym step) (fed_fine t (take (room_in t) bytes) now h))
step_well t m PeerEnded h step = (keeps_state t m (ap (λ (x : Talk). x.phase) step), subst Fine (sym step) h)
step_well t m (Told act now) h step = let well = told_with t.output t m now act refl h step in (well.tells, well.fine)
step_well t m (Answered status type body now) h step = answered_well t.phase t m now status type body step
step_well t m (Written count now) h step =
    let well = written_well t (eqb (min count (length t.output)) 0) (min count (length t.output)) now h in
    (keeps_state t m (ap (λ (x : Talk). x.phase) step ∙ well.0), subst Fine (sym step) well.1)
step_well t m (Ticked now) h step = subst (Ticks-well (state_of t.phase)) (sym step) (ticked_well (patience t) t now refl h)

run_well : (t u : Talk) (calls : List Call) → Fine t → Runs t calls u → Follows (state_of t.phase) calls (state_of u.phase)
run_well t u [] h run = ap (λ (x : Talk). state_of x.phase) run
run_well t u (c ∷ calls) h run =
    let well = step_well t run.0 c h run.1 in
    (state_of (run.0).phase, well.0, run_well run.0 u calls well.1 run.2)

pub each_run : FollowsTheProtocol
each_run hosts start calls end run = run_well (opened hosts start) end calls tt run
