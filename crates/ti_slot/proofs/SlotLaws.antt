-- A slot stands for its history, entry by entry.
use Rattle.std.proofs.Common.{◌≡◌, ℕ, ◌+◌, ◌<◌, ◌≤◌, true, false, List, [], ◌∷◌, ◌++◌, length, refl, ap, sym, ◌∙◌, arith, Option, Some, None, append-nil, length-append, subst, append_assoc, add-zero, le_refl, replicate, ◌*◌}
use Rattle.std.specs.List.{list_all, fold}
use Rattle.ti_types.specs.declared.limits.Limits.{Limits}
use Rattle.ti_types.specs.declared.place.Frame.{Frame}
use Rattle.ti_types.specs.declared.step.Step.{Step}
use Rattle.ti_types.specs.declared.state.Mode.{Mode}
use Rattle.ti_types.specs.declared.state.Mode.TheVariants as mode
use Rattle.ti_types.specs.declared.entry.Entry.{Entry}
use Rattle.ti_types.specs.declared.entry.Entry.TheVariants.{Own}
use Rattle.ti_types.specs.declared.view.ThreadView.{ThreadView}
use Rattle.ti_frames.specs.Frames.{Stack}
use Rattle.ti_frames.specs.Log.{Steps}
use Rattle.ti_ops.specs.Ops.{Ops}
use Rattle.ti_ops.specs.declared.pending.Pending.{Pending}
use Rattle.ti_replay.specs.declared.costs.Costs.{Costs}
use Rattle.ti_replay.specs.Answers.{is_running}
use Rattle.ti_replay.specs.Settling.{waits, is_waiting_call, is_hand_over}
use Rattle.ti_replay.specs.Legal.{is_legal, may_follow, is_new, is_safe, goes_on, own_cost}
use Rattle.ti_replay.specs.View.{view, frames_after, after}
use Rattle.ti_replay.specs.Costs.{charged, no_costs}
use Rattle.ti_replay.specs.HistoryState.{HistoryState, history_state}
use Rattle.ti_replay.proofs.HistoryStateLaws.{history_state-snoc}
use Rattle.ti_replay.proofs.CostLaws.{is_legal-snoc}
use Rattle.ti_replay.proofs.Charging.{charged_free}
use Rattle.ti_replay.proofs.BoundLaws.{length_bounded, all_quiet}
use Rattle.ti_slot.specs.declared.condition.Condition.{Condition}
use Rattle.ti_slot.specs.Condition.{view_of, frames_or}
use Rattle.ti_slot.specs.Waiting.{AreReady, calls_of, entries_of}
use Rattle.ti_replay.specs.LateTickets.{steps_of}
use Rattle.ti_replay.proofs.NextStates.{next_state}
use Rattle.ti_slot.specs.Slot.{Refines, state_of, FramesAreHome, LogIsHome, Shelf, shelf_of}

-- the frames that are here are those
pub home : (f : Option Stack) (others : List Frame) → frames_or f (frames_or f others) ≡ frames_or f others
home (Some s) others = refl
home None others = refl

-- once the thread has started, the log is away
pub log_away : (limits : Limits) (m n : Mode) (l : Option Steps) → LogIsHome limits m l → is_safe m ≡ true → is_new n ≡ false → LogIsHome limits n l
log_away limits m n None k h e = e
log_away limits mode.New n (Some l) k h e = cc
log_away limits mode.Running n (Some l) k h e = cc
log_away limits (mode.AtSafe safe) n (Some l) k h e = cc
log_away limits mode.Ended n (Some l) k h e = cc

module _ (limits : Limits) (h : List Entry) (cap : Shelf) (c : Condition) (f : Option Stack) (l : Option Steps) (own : ℕ) (costs : List Costs) (ops : Ops) where
  -- the frames of the view
  abbrev pub frames_of : List Frame
  frames_of = frames_or f (view limits h).frames

  pub view_is : Refines limits h cap c f l own costs ops → view limits h ≡ view_of c (frames_or f (view limits h).frames)
  view_is s = ap (λ (t : HistoryState). t.view) s.state

  -- there is room for an entry that may come
  pub room_for : (x : Entry) → Refines limits h cap c f l own costs ops → may_follow limits h x ≡ true → length h < cap.room
  room_for x s may =
      let legal : is_legal limits (h ++ x ∷ []) ≡ true = is_legal-snoc limits h x ∙ grind (arith, s.legal, may) in
      omega (arith, length_bounded limits (h ++ x ∷ []) legal, length-append h (x ∷ []), ap (λ (z : Shelf). z.room) s.room)

  -- a slot after one more entry
  pub goes : (x : Entry) (h' : List Entry) (cap' : Shelf) (c' : Condition) (f' : Option Stack) (l' : Option Steps) (own' : ℕ) (costs' : List Costs) (ops' : Ops) (frames : List Frame)
      → Refines limits h cap c f l own costs ops → may_follow limits h x ≡ true → h' ≡ h ++ x ∷ [] → cap' ≡ cap
      → next_state (state_of c (frames_or f (view limits h).frames) ops.waiting own costs) x ≡ state_of c' frames ops'.waiting own' costs'
      → frames_or f' frames ≡ frames → FramesAreHome limits c'.mode f' → LogIsHome limits c'.mode l'
      → ops'.window ≡ ops.window
      → AreReady limits ops'.waiting → list_all waits (calls_of ops'.waiting) ≡ true
      → Refines limits h' cap' c' f' l' own' costs' ops'
  goes x h' cap' c' f' l' own' costs' ops' frames s may e le next home fh lh window ready calls =
      let legal : is_legal limits (h ++ x ∷ []) ≡ true = is_legal-snoc limits h x ∙ grind (arith, s.legal, may) in
      let state : history_state limits (h ++ x ∷ []) ≡ state_of c' frames ops'.waiting own' costs' =
      history_state-snoc limits h x ∙ ap (λ t. next_state t x) s.state ∙ next in
      let same : (view limits (h ++ x ∷ [])).frames ≡ frames = ap (λ (t : HistoryState). t.view.frames) state in
      rw e (record {
        legal = legal;
        state = state ∙ ap (λ fs. state_of c' fs ops'.waiting own' costs') (sym home ∙ ap (frames_or f') (sym same));
        frames_home = fh;
        log_home = lh;
        room = le ∙ s.room;
        window = window ∙ s.window;
        ready = ready;
        calls = calls;
      })

  -- the costs are those that the history has
  pub own_costs : Refines limits h cap c f l own costs ops → Refines limits h cap c f l own (history_state limits h).costs ops
  own_costs s = subst (λ z. Refines limits h cap c f l own z ops) (sym (ap (λ (t : HistoryState). t.costs) s.state)) s

-- calls that wait are waiting calls
pub calls_wait : (waiting : List Pending) → list_all waits (calls_of waiting) ≡ true → list_all is_waiting_call (entries_of waiting) ≡ true
calls_wait [] k = refl
calls_wait (p ∷ waiting) k = grind (arith, calls_wait waiting)

pub log_stays : (limits : Limits) (m n : Mode) (l : Option Steps) → LogIsHome limits m l → is_running m ≡ true → is_new n ≡ false → LogIsHome limits n l
log_stays limits m n None k h e = e
log_stays limits mode.New n (Some l) k h e = cc
log_stays limits mode.Running n (Some l) k h e = cc
log_stays limits (mode.AtSafe safe) n (Some l) k h e = cc
log_stays limits mode.Ended n (Some l) k h e = cc

pub away : (limits : Limits) (m : Mode) (f : Option Stack) → FramesAreHome limits m f → is_running m ≡ true → f ≡ None
away limits m None k h = refl
away limits m (Some s) k h = cc

-- the thread's own steps enter the history, while it runs
pub steps_stand : (limits : Limits) (h : List Entry) (cap : Shelf) (c : Condition) (l : Option Steps) (own : ℕ) (costs : List Costs) (ops : Ops) (steps : List Step)
    → Refines limits h cap c None l own costs ops → goes_on limits h (steps_of steps) ≡ true → Refines limits (h ++ steps_of steps) cap c None l (own + length steps) costs ops
steps_stand limits h cap c l own costs ops [] s g = rw (append-nil, add-zero) s
steps_stand limits h cap c l own costs ops (x ∷ steps) s g =
    let here : may_follow limits h (Own x) ≡ true = grind arith in
    let there : goes_on limits (h ++ Own x ∷ []) (steps_of steps) ≡ true = grind arith in
    let one : Refines limits (h ++ Own x ∷ []) cap c None l (own + 1) costs ops =
    goes limits h cap c None l own costs ops (Own x) (h ++ Own x ∷ []) cap c None l (own + 1) costs ops (frames_after (view limits h).frames x) s here refl refl
    (grind (arith, charged_free costs (Own x))) refl s.frames_home s.log_home refl s.ready s.calls in
    let rest = steps_stand limits (h ++ Own x ∷ []) cap c l (own + 1) costs ops steps one there in
    let e1 : (h ++ Own x ∷ []) ++ steps_of steps ≡ h ++ steps_of (x ∷ steps) = append_assoc h (Own x ∷ []) (steps_of steps) in
    let e2 : own + 1 + length steps ≡ own + length (x ∷ steps) = omega arith in
    subst (λ n. Refines limits (h ++ steps_of (x ∷ steps)) cap c None l n costs ops) e2 (subst (λ t. Refines limits t cap c None l (own + 1 + length steps) costs ops) e1 rest)

abbrev pub at_mode : Condition → Mode → Condition
at_mode c m = record { mode = m; suspended = c.suspended; stopper = c.stopper; words = c.words }

-- the frames come home, and the waiting calls take place
pub serve_stands : (limits : Limits) (h : List Entry) (cap cap' : Shelf) (c c' : Condition) (l : Option Steps) (own own' : ℕ) (costs : List Costs) (ops ops' : Ops) (x : Entry) (m : Mode) (fr fr' : Stack) (h' : List Entry)
    → Refines limits h cap c None l own costs ops → may_follow limits h x ≡ true → h' ≡ h ++ x ∷ [] → cap' ≡ cap
    → is_hand_over x ≡ true → after (view_of c (view limits h).frames) x ≡ view_of (at_mode c m) fr.frames
    → is_running m ≡ false → is_new m ≡ false → fr'.depth ≡ limits.depth
    → view_of c' fr'.frames ≡ fold after (view_of (at_mode c m) fr.frames) (entries_of ops.waiting)
    → ops'.waiting ≡ [] → ops'.window ≡ ops.window
    → own' ≡ own + own_cost x → charged costs x ≡ costs
    → Refines limits h' cap' c' (Some fr') l own' costs ops'
serve_stands limits h cap cap' c c' l own own' costs ops ops' x m fr fr' h' s may e le hands first nr nn depth served none window oe ce =
    let quiet = all_quiet (view_of (at_mode c m) fr.frames) (entries_of ops.waiting) (calls_wait ops.waiting s.calls) in
    let same : c'.mode ≡ m = ap (λ (v : ThreadView). v.mode) served ∙ quiet.mode in
    let next : next_state (state_of c (view limits h).frames ops.waiting own costs) x ≡ state_of c' fr'.frames ops'.waiting own' costs =
    grind (arith, hands, first, served, none, oe, ce) in
    goes limits h cap c None l own costs ops x h' cap' c' (Some fr') l own' costs ops' fr'.frames s may e le next refl
    (ap is_running same ∙ nr, depth) (log_stays limits c.mode c'.mode l s.log_home s.frames_home (ap is_new same ∙ nn)) window (rw none tt) (rw none refl)

-- a thread that has not started
pub new_stands : (limits : Limits) (h : List Entry) (cap : Shelf) (words : List ℕ) (f : Stack) (l : Steps) (ops : Ops) → h ≡ [] → cap ≡ shelf_of limits → words ≡ replicate limits.envs 0
    → f.frames ≡ [] → f.depth ≡ limits.depth → l.steps ≡ [] → l.room ≡ limits.own → l.kept ≡ limits.kept → ops.waiting ≡ [] → ops.window ≡ limits.window + 1
    → Refines limits h cap (record { mode = mode.New; suspended = false; stopper = None; words = words }) (Some f) (Some l) 0 (history_state limits h).costs ops
new_stands limits h cap words f l ops eh le ew ff fd ls lr lk none window =
    own_costs limits h cap (record { mode = mode.New; suspended = false; stopper = None; words = words }) (Some f) (Some l) 0 (replicate limits.envs no_costs) ops (rw eh (record {
      legal = refl;
      state = grind (arith, ew, ff, none);
      frames_home = (refl, fd);
      log_home = (refl, ls, lr, lk);
      room = le;
      window = window;
      ready = rw none tt;
      calls = rw none refl;
    }))
