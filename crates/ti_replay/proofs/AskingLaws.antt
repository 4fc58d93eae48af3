-- What a replay keeps while it looks for a reply.
use Rattle.std.proofs.Common.{◌≡◌, ℕ, ◌+◌, ◌<◌, ◌≤◌, true, List, [], ◌∷◌, ◌++◌, length, take, drop, get_or, zero, suc, ap, ◌∙◌, arith, append-nil}
use Rattle.std.specs.Option.{option_or}
use Rattle.std.proofs.lemmas.Bool.Decides.{nat_tests}
use Rattle.std.proofs.lemmas.List.Folds.{list_all-append}
use Rattle.std.proofs.lemmas.Grind.{take_at_read}
use Rattle.ti_types.specs.declared.limits.Limits.{Limits}
use Rattle.ti_types.specs.declared.place.Frame.{Frame}
use Rattle.ti_types.specs.declared.step.Step.{Step}
use Rattle.ti_types.specs.declared.step.Step.TheVariants.{Enter, EnterNative, At, Leave}
use Rattle.ti_types.specs.declared.numbers.EnvNo.{EnvNo}
use Rattle.ti_types.specs.declared.call.Call.{Call}
use Rattle.ti_types.specs.declared.call.Call.TheVariants.{State, FrameCount, Trace, Location, Suspend, Resume, GetWord, SetWord, Pop}
use Rattle.ti_types.specs.declared.entry.Entry.{Entry}
use Rattle.ti_types.specs.declared.entry.Entry.TheVariants.{Start, Own, Hand, Back, End, Asked, Stop, Read, Go}
use Rattle.ti_types.specs.declared.view.ThreadView.{ThreadView}
use Rattle.ti_replay.specs.Settling.{Placed, is_hand_over, is_waiting_call, settled}
use Rattle.ti_replay.specs.View.{view, after, after_all, called, frames_after, new_thread}
use Rattle.ti_replay.specs.Legal.{step_fits}
use Rattle.ti_replay.specs.Replies.{reply, reply_from}
use Rattle.ti_replay.specs.PlacedState.{PlacedState, placed_state, may_enter, entered, settled_by, all_calls}
use Rattle.ti_replay.proofs.HistoryLaws.{view_runs, settled_hand, settled_wait, settled_now}
use Rattle.ti_replay.proofs.LateStepLaws.{reply_from-append}
use Rattle.ti_replay.proofs.StepLaws.{entry_at}

leave_fewer : (frames : List Frame) → length (frames_after frames Leave) ≤ length frames
leave_fewer [] = omega arith
leave_fewer (f ∷ frames) = omega arith

-- a call leaves no more frames
called_fewer : (v : ThreadView) (env : EnvNo) (call : Call) → length (called v env call).frames ≤ length v.frames
called_fewer v env State = omega arith
called_fewer v env FrameCount = omega arith
called_fewer v env (Trace start max_count) = omega arith
called_fewer v env (Location depth) = omega arith
called_fewer v env Suspend = grind arith
called_fewer v env Resume = grind arith
called_fewer v env GetWord = omega arith
called_fewer v env (SetWord word) = grind arith
called_fewer v env Pop = grind (arith, leave_fewer v.frames)

-- a hand-over leaves the frames
pub hand_frames : (v : ThreadView) (x : Entry) → is_hand_over x ≡ true → length (after v x).frames ≤ length v.frames
hand_frames v Start h = cc
hand_frames v (Own step) h = cc
hand_frames v (Hand safe) h = omega arith
hand_frames v Back h = cc
hand_frames v End h = omega arith
hand_frames v (Asked e n call) h = cc
hand_frames v (Stop e) h = cc
hand_frames v (Read e n) h = cc
hand_frames v (Go e) h = cc

-- a waiting call leaves no more frames
pub wait_frames : (v : ThreadView) (x : Entry) → is_waiting_call x ≡ true → length (after v x).frames ≤ length v.frames
wait_frames v Start h = cc
wait_frames v (Own step) h = cc
wait_frames v (Hand safe) h = cc
wait_frames v Back h = cc
wait_frames v End h = cc
wait_frames v (Asked env number call) h = called_fewer v env call
wait_frames v (Stop env) h = cc
wait_frames v (Read env n) h = cc
wait_frames v (Go env) h = cc

pub wait_few : (v : ThreadView) (x : Entry) (n : ℕ) → is_waiting_call x ≡ true → length v.frames < n → length (after v x).frames < n
wait_few v x n h le = omega (arith, le, wait_frames v x h)

-- the first of the calls that are left
pub calls_here : (w : List Placed) (i : ℕ) → i < length w → all_calls (drop i w) ≡ true → is_waiting_call (get_or w i (0, Start)).1 ≡ true
calls_here [] i l h = absurd (omega arith)
calls_here (p ∷ w) zero l h = grind arith
calls_here (p ∷ w) (suc i) l h = calls_here w i (omega arith) h

all_frames : (v : ThreadView) (w : List Placed) → all_calls w ≡ true → length (after_all v w).frames ≤ length v.frames
all_frames v [] h = omega arith
all_frames v (p ∷ w) h = grind (arith, all_frames (after v p.1) w, wait_frames v p.1)

step_depth : (limits : Limits) (frames : List Frame) (step : Step) → step_fits limits frames step ≡ true → length frames ≤ limits.depth → length (frames_after frames step) ≤ limits.depth
step_depth limits frames (Enter m) h le = grind (arith, nat_tests)
step_depth limits frames (EnterNative m) h le = grind (arith, nat_tests)
step_depth limits [] (At p) h le = le
step_depth limits (f ∷ frames) (At p) h le = le
step_depth limits [] Leave h le = le
step_depth limits (f ∷ frames) Leave h le = grind arith

-- the frames stay within the depth
pub depth_kept : (limits : Limits) (s : PlacedState) (x : Entry) → may_enter limits s x ≡ true → length s.view.frames ≤ limits.depth → all_calls s.waiting ≡ true → length (entered s x).view.frames ≤ limits.depth
depth_kept limits s Start h le c = grind arith
depth_kept limits s (Own step) h le c = grind (arith, step_depth limits s.view.frames step)
depth_kept limits s (Hand safe) h le c = grind (arith, all_frames (after s.view (Hand safe)) s.waiting)
depth_kept limits s Back h le c = grind arith
depth_kept limits s End h le c = grind (arith, all_frames (after s.view End) s.waiting)
depth_kept limits s (Asked env number call) h le c = grind (arith, called_fewer s.view env call)
depth_kept limits s (Stop env) h le c = grind arith
depth_kept limits s (Read env n) h le c = grind arith
depth_kept limits s (Go env) h le c = grind arith

-- only waiting calls wait
pub calls_kept : (s : PlacedState) (x : Entry) → all_calls s.waiting ≡ true → all_calls (entered s x).waiting ≡ true
calls_kept s x c = grind (arith, list_all-append (λ (p : Placed). is_waiting_call p.1) s.waiting ((s.next, x) ∷ []))

-- what one more entry settles
pub settled-snoc : (limits : Limits) (history : List Entry) (x : Entry) → settled (history ++ x ∷ []) ≡ settled history ++ settled_by (placed_state limits history) x
settled-snoc limits history x = grind (arith, view_runs limits history, settled_hand history x, settled_wait history x, settled_now history x, append-nil (settled history))

pub reply-snoc : (limits : Limits) (history : List Entry) (x : Entry) (place : ℕ) → reply limits (history ++ x ∷ []) place ≡ option_or (reply limits history place) (reply_from (view limits history) (settled_by (placed_state limits history) x) place)
reply-snoc limits history x place =
    ap (λ s. reply_from (new_thread limits) s place) (settled-snoc limits history x)
    ∙ reply_from-append (new_thread limits) (settled history) (settled_by (placed_state limits history) x) place

pub reply-take : (limits : Limits) (es : List Entry) (i place : ℕ) → i < length es
    → reply limits (take (i + 1) es) place ≡ option_or (reply limits (take i es) place) (reply_from (view limits (take i es)) (settled_by (placed_state limits (take i es)) (entry_at es i)) place)
reply-take limits es i place h = ap (λ l. reply limits l place) (take_at_read es i Start h).1 ∙ reply-snoc limits (take i es) (entry_at es i) place
