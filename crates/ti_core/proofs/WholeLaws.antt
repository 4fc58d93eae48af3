-- A thread's parts stay where they belong.
use Rattle.std.proofs.Common.{is_none, ◌≡◌, ℕ, ◌+◌, ◌<◌, ◌≤◌, Bool, true, false, List, [], ◌∷◌, ◌++◌, length, refl, ap, sym, ◌∙◌, arith, Option, Some, None, append_assoc, append-nil, subst, nat_lt, ℤ, is_some}
use Rattle.std.proofs.lemmas.Bool.Decides.{nat_tests}
use Rattle.std.proofs.lemmas.List.Sums.{fold-append}
use Rattle.ti_types.specs.declared.limits.Limits.{Limits}
use Rattle.ti_types.specs.declared.numbers.EnvNo.{EnvNo}
use Rattle.ti_types.specs.declared.place.Frame.{Frame}
use Rattle.ti_types.specs.declared.step.Step.{Step}
use Rattle.ti_types.specs.declared.state.Mode.{Mode}
use Rattle.ti_types.specs.declared.answer.Answer.{Answer}
use Rattle.ti_types.specs.declared.event.Outcome.TheVariants.{Gave}
use Rattle.ti_types.specs.declared.entry.Entry.{Entry}
use Rattle.ti_types.specs.declared.entry.Entry.TheVariants.{Start, Own, Hand, Back, End, Asked, Stop, Read, Go}
use Rattle.ti_types.specs.declared.event.Event.TheVariants as event
use Rattle.ti_types.specs.declared.error.TiError.{TiError}
use Rattle.ti_types.specs.declared.error.TiError.TheVariants.{OwnSpent}
use Rattle.ti_replay.specs.Answers.{is_running}
use Rattle.ti_replay.specs.Settling.{placed, runs_behind, runs_after, is_hand_over}
use Rattle.ti_replay.specs.View.{view}
use Rattle.ti_replay.specs.Legal.{is_legal, is_new, goes_on, may_follow, own_spent, step_fits}
use Rattle.ti_replay.specs.Refusals.{own_refusal}
use Rattle.ti_replay.specs.Events.{stopping_refusal, if_none}
use Rattle.ti_replay.specs.HistoryState.{HistoryState, history_state}
use Rattle.ti_replay.specs.LateSteps.{is_passed}
use Rattle.ti_replay.specs.LateTickets.{steps_of}
use Rattle.ti_replay.proofs.CostLaws.{goes_on-append}
use Rattle.ti_replay.proofs.HistoryLaws.{view_runs, placed-snoc}
use Rattle.ti_replay.proofs.HistoryStateLaws.{history_state-snoc}
use Rattle.ti_replay.proofs.LateTicketLaws.{steps_late}
use Rattle.ti_replay.proofs.StepsStay.{steps_stay, passed_same, IsSameForSteps}
use Rattle.ti_frames.specs.Frames.{Stack, with_frames}
use Rattle.ti_types.specs.Steps.{step_refusal, frames_after}
use Rattle.ti_frames.specs.Log.{Steps, with_steps}
use Rattle.ti_slot.specs.Thread.{Thread, with_more}
use Rattle.ti_replay.specs.Replies.{reply}
use Rattle.ti_replay.specs.Events.{read_outcome}
use Rattle.ti_slot.specs.Thread.{read_answer}
use Rattle.ti_core.specs.Thread.{ThreadState, seen, refusal_at, own_next, read_next, read_told}
use Rattle.ti_core.specs.Inside.{state_in, HasLog, AreWith, IsWhole}
use Rattle.ti_replay.proofs.LoggedLaws.{logged, logged_runs, logged_own, steps-snoc}

-- what a call, a stop or a go leaves of what steps depend on
passed_here : (limits : Limits) (h : List Entry) (x : Entry) → is_passed x ≡ true → IsSameForSteps (history_state limits (h ++ x ∷ [])) (history_state limits h)
passed_here limits h x p = rw (history_state-snoc limits h x) (passed_same (history_state limits h) x p)

pub passed_mode : (limits : Limits) (h : List Entry) (x : Entry) → is_passed x ≡ true → (view limits (h ++ x ∷ [])).mode ≡ (view limits h).mode
passed_mode limits h x p = (passed_here limits h x p).mode

passed_frames : (limits : Limits) (h : List Entry) (steps : List Step) (x : Entry) → is_passed x ≡ true → is_running (view limits h).mode ≡ true
    → (view limits ((h ++ x ∷ []) ++ steps_of steps)).frames ≡ (view limits (h ++ steps_of steps)).frames
passed_frames limits h steps x p r =
    let late = steps_late limits h steps x p r in
    ap (λ (s : HistoryState). s.view.frames) (sym late.state) ∙ (passed_here limits (h ++ steps_of steps) x p).frames (logged_runs limits h steps ∙ r)

has_log : (limits : Limits) (m n : Mode) (l : Option Steps) → n ≡ m → HasLog limits m l → HasLog limits n l
has_log limits m n l e k = subst (λ z. HasLog limits z l) (sym e) k

parts_passed : (limits : Limits) (h : List Entry) (f : Option Stack) (l : Option Steps) (x : Entry) → is_passed x ≡ true → AreWith limits h f l → AreWith limits (h ++ x ∷ []) f l
parts_passed limits h None l x p k =
    (record { rests = ap is_running (passed_mode limits h x p) ∙ k.0.rests; none = k.0.none }, has_log limits (view limits h).mode (view limits (h ++ x ∷ [])).mode l (passed_mode limits h x p) k.1)
parts_passed limits h (Some f) None x p k = k
parts_passed limits h (Some f) (Some l) x p k = record {
  runs = ap is_running (passed_mode limits h x p) ∙ k.runs;
  newest = k.newest ∙ sym (passed_frames limits h l.steps x p k.runs);
  depth = k.depth;
  goes = steps_stay limits h l.steps x p ∙ k.goes;
  room = k.room;
  kept = k.kept;
}

-- limits that stay are as wide as they were
still_wide : (t u : Thread) → u.limits ≡ t.limits → t.limits.calls ≤ t.limits.window → u.limits.calls ≤ u.limits.window
still_wide t u e w = subst (λ (z : Limits). z.calls ≤ z.window) (sym e) w

-- a call, a stop or a go
pub whole_passed : (t u : Thread) (f : Option Stack) (l : Option Steps) (x : Entry) → is_passed x ≡ true → IsWhole t f l
    → u.limits ≡ t.limits → u.history ≡ t.history ++ x ∷ [] → is_legal u.limits u.history ≡ true → IsWhole u f l
whole_passed t u f l x p k el eh legal = record {
  legal = legal;
  parts = rw (el, eh) (parts_passed t.limits t.history f l x p k.parts);
  wide = still_wide t u el k.wide;
}

-- the same, where the thread's own answer may be a refusal
pub whole_held : (t u : Thread) (f : Option Stack) (l : Option Steps) (r : Option TiError) (x : Entry) → is_passed x ≡ true → IsWhole t f l
    → u ≡ with_more t (if_none r (x ∷ [])) → is_legal u.limits u.history ≡ true → IsWhole u f l
whole_held t u f l None x p k e legal = whole_passed t u f l x p k (ap (λ (z : Thread). z.limits) e) (ap (λ (z : Thread). z.history) e) legal
whole_held t u f l (Some error) x p k e legal = record {
  legal = legal;
  parts =
      let el : u.limits ≡ t.limits = ap (λ (z : Thread). z.limits) e in
      let eh : u.history ≡ t.history = ap (λ (z : Thread). z.history) e ∙ append-nil t.history in
      rw (el, eh) k.parts;
  wide = still_wide t u (ap (λ (z : Thread). z.limits) e) k.wide;
}

read_mode : (limits : Limits) (h : List Entry) (env : EnvNo) (n : ℤ) → (view limits (h ++ Read env n ∷ [])).mode ≡ (view limits h).mode
read_mode limits h env n = ap (λ (s : HistoryState). s.view.mode) (history_state-snoc limits h (Read env n)) ∙ grind arith

parts_read : (limits : Limits) (h : List Entry) (f : Option Stack) (l : Option Steps) (env : EnvNo) (n : ℤ) → is_running (view limits h).mode ≡ false → AreWith limits h f l → AreWith limits (h ++ Read env n ∷ []) f l
parts_read limits h None l env n r k =
    (record { rests = ap is_running (read_mode limits h env n) ∙ k.0.rests; none = k.0.none }, has_log limits (view limits h).mode (view limits (h ++ Read env n ∷ [])).mode l (read_mode limits h env n) k.1)
parts_read limits h (Some f) None env n r k = k
parts_read limits h (Some f) (Some l) env n r k = let o : true ≡ false = sym k.runs ∙ r in cc

read_rests : (limits : Limits) (h : List Entry) (env : EnvNo) (t : Thread) (n : ℤ) → stopping_refusal (view limits h) (event.Read env t.number n) ≡ None → is_running (view limits h).mode ≡ false
read_rests limits h env t n e = grind (arith, e)

pub whole_read : (t u : Thread) (f : Option Stack) (l : Option Steps) (env : EnvNo) (n : ℤ) (r : Option TiError) → r ≡ stopping_refusal (view t.limits t.history) (event.Read env t.number n) → IsWhole t f l
    → u ≡ with_more t (if_none r (Read env n ∷ [])) → is_legal u.limits u.history ≡ true → IsWhole u f l
whole_read t u f l env n None er k e legal = record {
  legal = legal;
  parts =
      let el : u.limits ≡ t.limits = ap (λ (z : Thread). z.limits) e in
      let eh : u.history ≡ t.history ++ Read env n ∷ [] = ap (λ (z : Thread). z.history) e in
      rw (el, eh) (parts_read t.limits t.history f l env n (read_rests t.limits t.history env t n (sym er)) k.parts);
  wide = still_wide t u (ap (λ (z : Thread). z.limits) e) k.wide;
}
whole_read t u f l env n (Some error) er k e legal = record {
  legal = legal;
  parts =
      let el : u.limits ≡ t.limits = ap (λ (z : Thread). z.limits) e in
      let eh : u.history ≡ t.history = ap (λ (z : Thread). z.history) e ∙ append-nil t.history in
      rw (el, eh) k.parts;
  wide = still_wide t u (ap (λ (z : Thread). z.limits) e) k.wide;
}

-- whether a thread runs after one more entry
pub runs-snoc : (limits : Limits) (h : List Entry) (x : Entry) → is_running (view limits (h ++ x ∷ [])).mode ≡ runs_after (is_running (view limits h).mode) x
runs-snoc limits h x =
    view_runs limits (h ++ x ∷ []) ∙ ap (runs_behind false) (placed-snoc h x)
    ∙ fold-append (λ r p. runs_after r p.1) false (placed h) ((length h, x) ∷ [])
    ∙ ap (λ r. runs_after r x) (sym (view_runs limits h))

-- the thread gets its frames, and a log with nothing in it
pub whole_away : (t u : Thread) (x : Entry) (f : Stack) (l : Steps) → ((r : Bool) → runs_after r x ≡ true) → u ≡ with_more t (x ∷ []) → f.frames ≡ (view u.limits u.history).frames → f.depth ≡ t.limits.depth
    → l.steps ≡ [] → (l.room ≡ t.limits.own) × (l.kept ≡ t.limits.kept) → t.limits.calls ≤ t.limits.window → is_legal u.limits u.history ≡ true → IsWhole u (Some f) (Some l)
whole_away t u x f l a e newest depth none room wide legal =
    let el : u.limits ≡ t.limits = ap (λ (z : Thread). z.limits) e in
    let eh : u.history ≡ t.history ++ x ∷ [] = ap (λ (z : Thread). z.history) e in
    record {
      legal = legal;
      parts = record {
        runs = rw (el, eh) (runs-snoc t.limits t.history x ∙ a (is_running (view t.limits t.history).mode));
        newest = newest ∙ rw (none, append-nil) refl;
        depth = depth ∙ ap (λ (z : Limits). z.depth) (sym el);
        goes = rw none refl;
        room = room.0 ∙ ap (λ (z : Limits). z.own) (sym el);
        kept = room.1 ∙ ap (λ (z : Limits). z.kept) (sym el);
      };
      wide = still_wide t u el wide;
    }

-- a thread that returns has a log already
pub whole_back : (t u : Thread) (g : Option Stack) (f : Stack) (l : Option Steps) → IsWhole t g l → own_refusal t.limits (view t.limits t.history) (own_spent t.history) Back ≡ None
    → u ≡ with_more t (Back ∷ []) → f.frames ≡ (view u.limits u.history).frames → f.depth ≡ t.limits.depth → is_legal u.limits u.history ≡ true → IsWhole u (Some f) l
whole_back t u None f None k free e newest depth legal = let n : is_new (view t.limits t.history).mode ≡ true = k.parts.1 in absurd (grind (arith, n, free))
whole_back t u None f (Some l) k free e newest depth legal = whole_away t u Back f l (λ r. refl) e newest depth k.parts.0.none k.parts.1 k.wide legal
whole_back t u (Some g) f None k free e newest depth legal = absurd k.parts
whole_back t u (Some g) f (Some l) k free e newest depth legal = let n : is_running (view t.limits t.history).mode ≡ true = k.parts.runs in absurd (grind (arith, n, free))

-- a thread that hands over or ends
pub whole_home : (t u : Thread) (x : Entry) (steps : List Step) (l : Steps) → is_hand_over x ≡ true → u ≡ with_more t (steps_of steps ++ x ∷ []) → l.steps ≡ [] → (l.room ≡ t.limits.own) × (l.kept ≡ t.limits.kept) → t.limits.calls ≤ t.limits.window
    → is_legal u.limits u.history ≡ true → IsWhole u None (Some l)
whole_home t u x steps l hand e none room wide legal =
    let el : u.limits ≡ t.limits = ap (λ (z : Thread). z.limits) e in
    let eh : u.history ≡ (t.history ++ steps_of steps) ++ x ∷ [] = ap (λ (z : Thread). z.history) e ∙ sym (append_assoc t.history (steps_of steps) (x ∷ [])) in
    let off : runs_after (is_running (view t.limits (t.history ++ steps_of steps)).mode) x ≡ false = hand_stops (is_running (view t.limits (t.history ++ steps_of steps)).mode) x hand in
    record {
      legal = legal;
      parts = (record { rests = rw (el, eh) (runs-snoc t.limits (t.history ++ steps_of steps) x ∙ off); none = none }, (room.0 ∙ ap (λ (z : Limits). z.own) (sym el), room.1 ∙ ap (λ (z : Limits). z.kept) (sym el)));
      wide = still_wide t u el wide;
    }
  where
    hand_stops : (r : Bool) (x : Entry) → is_hand_over x ≡ true → runs_after r x ≡ false
    hand_stops r Start h = cc
    hand_stops r (Own step) h = cc
    hand_stops r (Hand safe) h = refl
    hand_stops r Back h = cc
    hand_stops r End h = refl
    hand_stops r (Asked env n call) h = cc
    hand_stops r (Stop env) h = cc
    hand_stops r (Read env n) h = cc
    hand_stops r (Go env) h = cc

fits_is : (limits : Limits) (frames : List Frame) (step : Step) → step_refusal limits.depth frames step ≡ None → step_fits limits frames step ≡ true
fits_is limits frames step h = ap is_none h

-- what the frames of a running thread refuse is what its history refuses
pub fault_here : (t : Thread) (f : Stack) (l : Steps) (step : Step) → IsWhole t (Some f) (Some l) → step_refusal f.depth f.frames step ≡ step_refusal t.limits.depth (view t.limits (t.history ++ steps_of l.steps)).frames step
fault_here t f l step k = rw (k.parts.depth, k.parts.newest) refl

runs_here : (t : Thread) (f : Stack) (l : Steps) → IsWhole t (Some f) (Some l) → is_running (view t.limits (t.history ++ steps_of l.steps)).mode ≡ true
runs_here t f l k = logged_runs t.limits t.history l.steps ∙ k.parts.runs

pub step_refused : (t : Thread) (f : Stack) (l : Steps) (step : Step) (error : TiError) → IsWhole t (Some f) (Some l) → step_refusal f.depth f.frames step ≡ Some error → refusal_at t.limits (state_in t (Some l)) (Own step) ≡ Some error
step_refused t f l step error k e = let q = sym (fault_here t f l step k) ∙ e in grind (arith, runs_here t f l k, q)

pub step_spent : (t : Thread) (f : Stack) (l : Steps) (step : Step) (left : ℕ) → IsWhole t (Some f) (Some l) → step_refusal f.depth f.frames step ≡ None → left + own_spent t.history ≡ t.limits.own → left ≤ length l.steps
    → refusal_at t.limits (state_in t (Some l)) (Own step) ≡ Some OwnSpent
step_spent t f l step left k e is few =
    let q = sym (fault_here t f l step k) ∙ e in
    let o = logged_own t.history l.steps in
    let n : nat_lt (own_spent (t.history ++ steps_of l.steps)) t.limits.own ≡ false = grind (arith, nat_tests, o, is, few) in
    grind (arith, runs_here t f l k, q, n)

pub step_free : (t : Thread) (f : Stack) (l : Steps) (step : Step) (left : ℕ) → IsWhole t (Some f) (Some l) → step_refusal f.depth f.frames step ≡ None → left + own_spent t.history ≡ t.limits.own → length l.steps < left
    → refusal_at t.limits (state_in t (Some l)) (Own step) ≡ None
step_free t f l step left k e is few =
    let q = sym (fault_here t f l step k) ∙ e in
    let o = logged_own t.history l.steps in
    let n : nat_lt (own_spent (t.history ++ steps_of l.steps)) t.limits.own ≡ true = grind (arith, nat_tests, o, is, few) in
    grind (arith, runs_here t f l k, q, n)

step_may : (t : Thread) (steps : List Step) (step : Step) → own_refusal t.limits (view t.limits (t.history ++ steps_of steps)) (own_spent (t.history ++ steps_of steps)) (Own step) ≡ None
    → may_follow t.limits (t.history ++ steps_of steps) (Own step) ≡ true
step_may t steps step h =
    let frames = (view t.limits (t.history ++ steps_of steps)).frames in
    let free : step_refusal t.limits.depth frames step ≡ None = grind (arith, h) in
    grind (arith, h, fits_is t.limits frames step free)

own_frames : (limits : Limits) (h : List Entry) (step : Step) → (view limits (h ++ Own step ∷ [])).frames ≡ frames_after (view limits h).frames step
own_frames limits h step = ap (λ (z : HistoryState). z.view.frames) (history_state-snoc limits h (Own step)) ∙ grind arith

-- a step that is logged
pub whole_stepped : (t : Thread) (f g : Stack) (l m : Steps) (step : Step) → IsWhole t (Some f) (Some l) → refusal_at t.limits (state_in t (Some l)) (Own step) ≡ None
    → g ≡ with_frames f (frames_after f.frames step) → m ≡ with_steps l (l.steps ++ step ∷ []) → IsWhole t (Some g) (Some m)
whole_stepped t f g l m step k free eg em =
    let h = t.history ++ steps_of l.steps in
    let one : t.history ++ steps_of m.steps ≡ h ++ Own step ∷ [] = ap (λ (z : Steps). t.history ++ steps_of z.steps) em ∙ steps-snoc t.history l.steps step in
    record {
      legal = k.legal;
      parts = record {
        runs = k.parts.runs;
        newest =
            ap (λ (z : Stack). z.frames) eg ∙ ap (λ z. frames_after z step) k.parts.newest
            ∙ sym (own_frames t.limits h step) ∙ ap (λ z. (view t.limits z).frames) (sym one);
        depth = ap (λ (z : Stack). z.depth) eg ∙ k.parts.depth;
        goes =
            ap (λ (z : Steps). goes_on t.limits t.history (steps_of z.steps)) em
            ∙ ap (λ z. goes_on t.limits t.history z) (steps-snoc [] l.steps step)
            ∙ goes_on-append t.limits t.history (steps_of l.steps) (Own step ∷ [])
            ∙ grind (arith, k.parts.goes, step_may t l.steps step free);
        room = ap (λ (z : Steps). z.room) em ∙ k.parts.room;
        kept = ap (λ (z : Steps). z.kept) em ∙ k.parts.kept;
      };
      wide = k.wide;
    }

-- what is refused leaves the thread
pub refused_next : (limits : Limits) (s : ThreadState) (x : Entry) (error : TiError) → refusal_at limits s x ≡ Some error → own_next limits s x ≡ s
refused_next limits s x error e = rw e refl

-- a start and a return are refused by what the slot tells
pub start_same : (limits : Limits) (h : List Entry) (steps : List Step) → own_refusal limits (view limits (h ++ steps_of steps)) (own_spent (h ++ steps_of steps)) Start ≡ own_refusal limits (view limits h) (own_spent h) Start
start_same limits h steps = let k = logged limits h steps in grind (arith, k.mode, k.stopper)

pub back_same : (limits : Limits) (h : List Entry) (steps : List Step) → own_refusal limits (view limits (h ++ steps_of steps)) (own_spent (h ++ steps_of steps)) Back ≡ own_refusal limits (view limits h) (own_spent h) Back
back_same limits h steps = let k = logged limits h steps in grind (arith, k.mode, k.stopper, k.suspended)

-- a read's answer is its outcome
outcome_of : (r : Option TiError) (x : Option Answer) (a : Answer) → read_answer r x ≡ Some a → Some (Gave a) ≡ read_outcome r x
outcome_of None x a e = rw e refl
outcome_of (Some error) x a e = cc

pub read_said : (t u : Thread) (steps : List Step) (env : EnvNo) (n m : ℤ) (a : Answer) → m ≡ n
    → u ≡ with_more t (if_none (stopping_refusal (view t.limits t.history) (event.Read env t.number m)) (Read env m ∷ []))
    → read_answer (stopping_refusal (view t.limits t.history) (event.Read env t.number m)) (reply u.limits u.history (length t.history)) ≡ Some a
    → Some (Gave a) ≡ read_told t.limits (record { thread = t; steps = steps }) env t.number n
read_said t u steps env n m a en eu e =
    let s : ThreadState = record { thread = t; steps = steps } in
    let same : reply u.limits u.history (length t.history) ≡ reply t.limits (read_next t.limits s env t.number m).thread.history (length t.history) = ap (λ (z : Thread). reply z.limits z.history (length t.history)) eu in
    outcome_of (stopping_refusal (view t.limits t.history) (event.Read env t.number m)) (reply u.limits u.history (length t.history)) a e
    ∙ ap (read_outcome (stopping_refusal (view t.limits t.history) (event.Read env t.number m))) same
    ∙ ap (λ k. read_told t.limits s env t.number k) en

-- what the frames of a running thread say of its history
pub running_here : (t : Thread) (f : Stack) (l : Option Steps) → IsWhole t (Some f) l → is_running (seen t.limits (state_in t l)).mode ≡ true
running_here t f None k = absurd k.parts
running_here t f (Some l) k = runs_here t f l k

pub frames_run : (t : Thread) (f : Option Stack) (l : Option Steps) → IsWhole t f l → is_some f ≡ true → is_running (seen t.limits (state_in t l)).mode ≡ true
frames_run t None l k h = cc
frames_run t (Some f) l k h = running_here t f l k
