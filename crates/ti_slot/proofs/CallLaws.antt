-- Each call of a slot: the entry may come, there is room for it, and the slot stands for the longer history.
use Rattle.std.proofs.Common.{◌≡◌, ℕ, ◌+◌, ◌<◌, ◌≤◌, true, false, List, [], ◌∷◌, ◌++◌, length, refl, ap, sym, ◌∙◌, arith, Option, Some, None, is_some, length-append, subst}
use Rattle.ti_trail.specs.Record.{Recorded}
use Rattle.std.proofs.lemmas.Bool.Decides.{nat_tests}
use Rattle.ti_types.specs.declared.numbers.EnvNo.{EnvNo}
use Rattle.ti_types.specs.declared.state.Mode.{Mode}
use Rattle.ti_types.specs.declared.state.Mode.TheVariants as mode
use Rattle.ti_types.specs.declared.state.Safe.{Safe}
use Rattle.ti_types.specs.declared.state.Safe.TheVariants.{Native, Blocked, AtPoll}
use Rattle.ti_types.specs.declared.step.Step.{Step}
use Rattle.ti_types.specs.declared.error.TiError.{TiError}
use Rattle.ti_types.specs.declared.view.ThreadView.{ThreadView}
use Rattle.ti_types.specs.declared.entry.Entry.{Entry}
use Rattle.ti_types.specs.declared.entry.Entry.TheVariants.{Start, Hand, Back, End, Stop, Go}
use Rattle.ti_replay.specs.Answers.{is_running}
use Rattle.ti_replay.specs.Legal.{may_follow, is_new, is_safe, is_stopper, calls_spent, own_spent, goes_on, is_armed}
use Rattle.ti_replay.specs.View.{view}
use Rattle.ti_replay.specs.Costs.{charged}
use Rattle.ti_types.specs.declared.limits.Limits.{Limits}
use Rattle.ti_replay.specs.HistoryState.{HistoryState, history_state}
use Rattle.ti_frames.specs.Frames.{Stack}
use Rattle.ti_replay.proofs.HistoryStateLaws.{history_state-snoc, may_follow-allows}
use Rattle.ti_replay.proofs.Charging.{charged_free}
use Rattle.ti_slot.specs.declared.condition.Condition.{Condition}
use Rattle.ti_slot.specs.declared.slot.Slot.TheInside.{Inside}
use Rattle.ti_slot.specs.Condition.{view_of, frames_or}
use Rattle.ti_slot.specs.Inside.{IsSlot, costs_in, thread_in}
use Rattle.ti_slot.specs.Thread.{Thread}
use Rattle.ti_slot.specs.Refusal.{hand_refusal}
use Rattle.ti_replay.specs.LateTickets.{steps_of}
use Rattle.ti_replay.specs.Refusals.{own_refusal}
use Rattle.ti_replay.proofs.NextStates.{next_state, allows}
use Rattle.ti_slot.specs.Slot.{Refines, Shelf, shelf, state_of, FramesAreHome}
use Rattle.ti_slot.proofs.SlotLaws as laws
use Rattle.ti_replay.proofs.BoundLaws.{own_bounded}

-- an entry that may come
abbrev pub May : Inside → Entry → Type 0
May a x = may_follow a.limits a.history.items x ≡ true

pub view_is : (a : Inside) → IsSlot a → view a.limits a.history.items ≡ view_of a.condition (frames_or a.frames (view a.limits a.history.items).frames)
view_is a s = ap (λ (t : HistoryState). t.view) s.state

-- what such an entry finds: there is room for it
pub record Comes (a : Inside) (x : Entry) : Type 0 where
  pub may : May a x
  pub room : length a.history.items < a.history.room

pub comes : (a : Inside) (x : Entry) → IsSlot a → May a x → Comes a x
comes a x s may = record {
  may = may;
  room = laws.room_for a.limits a.history.items (shelf a.history) a.condition a.frames a.log a.own (costs_in a) a.ops x s may;
}

-- an environment that may call the thread, by the fields
pub may_call : (a : Inside) (t : Thread) (env : EnvNo) → thread_in a ≡ t → env.0 < t.limits.envs → calls_spent env t.history < t.limits.calls → (env.0 < a.limits.envs) × (calls_spent env a.history.items < a.limits.calls)
may_call a t env e = subst (λ (z : Thread). env.0 < z.limits.envs → calls_spent env z.history < z.limits.calls → (env.0 < a.limits.envs) × (calls_spent env a.history.items < a.limits.calls)) e (λ he hc. (he, hc))

pub own_is : (a : Inside) → IsSlot a → (own_spent a.history.items ≡ a.own) × (a.own ≤ a.limits.own)
own_is a s =
    let e : own_spent a.history.items ≡ a.own = ap (λ (t : HistoryState). t.own) s.state in
    (e, omega (arith, e, own_bounded a.limits a.history.items s.legal))

pub stop_comes : (a : Inside) (t : Thread) (env : EnvNo) → IsSlot a → thread_in a ≡ t → env.0 < t.limits.envs → calls_spent env t.history < t.limits.calls → is_some a.condition.stopper ≡ false → Comes a (Stop env)
stop_comes a t env s e he hc hs =
    let h = may_call a t env e he hc in
    comes a (Stop env) s (grind (arith, nat_tests, view_is a s, h.0, h.1))

pub go_comes : (a : Inside) (t : Thread) (env : EnvNo) → IsSlot a → thread_in a ≡ t → env.0 < t.limits.envs → is_stopper a.condition.stopper env ≡ true → Comes a (Go env)
go_comes a t env s e he hs =
    let h : env.0 < a.limits.envs = subst (λ (z : Thread). env.0 < z.limits.envs) (sym e) he in
    comes a (Go env) s (grind (arith, nat_tests, view_is a s, h))

pub start_comes : (a : Inside) → IsSlot a → is_new a.condition.mode ≡ true → is_some a.condition.stopper ≡ false → Comes a Start
start_comes a s hm hs = comes a Start s (grind (arith, view_is a s))

pub back_comes : (a : Inside) → IsSlot a → is_safe a.condition.mode ≡ true → a.condition.suspended ≡ false → is_some a.condition.stopper ≡ false → Comes a Back
back_comes a s hm hu hs = comes a Back s (grind (arith, view_is a s))

-- the fields after a stop
pub stopped : (a : Inside) (env : EnvNo) (h : Recorded Entry) → IsSlot a → May a (Stop env) → h.items ≡ a.history.items ++ Stop env ∷ [] → shelf h ≡ shelf a.history
    → Refines a.limits h.items (shelf h) (record { mode = a.condition.mode; suspended = a.condition.suspended; stopper = Some env; words = a.condition.words }) a.frames a.log a.own (history_state a.limits h.items).costs a.ops
stopped a env h s may e le =
    laws.own_costs a.limits h.items (shelf h) _ a.frames a.log a.own (charged (costs_in a) (Stop env)) a.ops (laws.goes a.limits a.history.items (shelf a.history) a.condition a.frames a.log a.own (costs_in a) a.ops (Stop env) h.items (shelf h) _ a.frames a.log a.own (charged (costs_in a) (Stop env)) a.ops
    (frames_or a.frames (view a.limits a.history.items).frames) s may e le
    (grind arith) (laws.home a.frames (view a.limits a.history.items).frames) s.frames_home s.log_home refl s.ready s.calls)

pub let_go : (a : Inside) (env : EnvNo) (h : Recorded Entry) → IsSlot a → May a (Go env) → h.items ≡ a.history.items ++ Go env ∷ [] → shelf h ≡ shelf a.history
    → Refines a.limits h.items (shelf h) (record { mode = a.condition.mode; suspended = a.condition.suspended; stopper = None; words = a.condition.words }) a.frames a.log a.own (history_state a.limits h.items).costs a.ops
let_go a env h s may e le =
    laws.own_costs a.limits h.items (shelf h) _ a.frames a.log a.own (costs_in a) a.ops (laws.goes a.limits a.history.items (shelf a.history) a.condition a.frames a.log a.own (costs_in a) a.ops (Go env) h.items (shelf h) _ a.frames a.log a.own (costs_in a) a.ops
    (frames_or a.frames (view a.limits a.history.items).frames) s may e le
    (grind (arith, charged_free (costs_in a) (Go env))) (laws.home a.frames (view a.limits a.history.items).frames) s.frames_home s.log_home refl s.ready s.calls)

-- the thread runs, and its frames are away
pub started : (a : Inside) (h : Recorded Entry) → IsSlot a → May a Start → h.items ≡ a.history.items ++ Start ∷ [] → shelf h ≡ shelf a.history
    → Refines a.limits h.items (shelf h) (record { mode = mode.Running; suspended = a.condition.suspended; stopper = a.condition.stopper; words = a.condition.words }) None None a.own (history_state a.limits h.items).costs a.ops
started a h s may e le =
    laws.own_costs a.limits h.items (shelf h) _ None None a.own (costs_in a) a.ops (laws.goes a.limits a.history.items (shelf a.history) a.condition a.frames a.log a.own (costs_in a) a.ops Start h.items (shelf h) _ None None a.own (costs_in a) a.ops
    (frames_or a.frames (view a.limits a.history.items).frames) s may e le
    (grind (arith, charged_free (costs_in a) Start)) refl refl refl refl s.ready s.calls)

pub returned : (a : Inside) (h : Recorded Entry) → IsSlot a → May a Back → is_safe a.condition.mode ≡ true → h.items ≡ a.history.items ++ Back ∷ [] → shelf h ≡ shelf a.history
    → Refines a.limits h.items (shelf h) (record { mode = mode.Running; suspended = a.condition.suspended; stopper = a.condition.stopper; words = a.condition.words }) None a.log a.own (history_state a.limits h.items).costs a.ops
returned a h s may safe e le =
    laws.own_costs a.limits h.items (shelf h) _ None a.log a.own (costs_in a) a.ops (laws.goes a.limits a.history.items (shelf a.history) a.condition a.frames a.log a.own (costs_in a) a.ops Back h.items (shelf h) _ None a.log a.own (costs_in a) a.ops
    (frames_or a.frames (view a.limits a.history.items).frames) s may e le
    (grind (arith, charged_free (costs_in a) Back)) refl refl (laws.log_away a.limits a.condition.mode mode.Running a.log s.log_home safe refl) refl s.ready s.calls)

-- the frames that go out are those of the view
pub frames_go : (a : Inside) (t : Thread) (x : Entry) (h : List Entry) (f : Stack) → IsSlot a → thread_in a ≡ t → a.frames ≡ Some f → h ≡ a.history.items ++ x ∷ []
    → (next_state (state_of a.condition (frames_or a.frames (view a.limits a.history.items).frames) a.ops.waiting a.own (costs_in a)) x).view.frames ≡ frames_or a.frames (view a.limits a.history.items).frames
    → (f.frames ≡ (view a.limits h).frames) × (f.depth ≡ t.limits.depth)
frames_go a t x h f s et is e keeps =
    let state = history_state-snoc a.limits a.history.items x ∙ ap (λ t. next_state t x) s.state in
    let same : (view a.limits (a.history.items ++ x ∷ [])).frames ≡ frames_or a.frames (view a.limits a.history.items).frames = ap (λ (t : HistoryState). t.view.frames) state ∙ keeps in
    (rw (e, same, is) refl, (subst (FramesAreHome a.limits a.condition.mode) is s.frames_home).1 ∙ ap (λ (z : Thread). z.limits.depth) et)

-- the condition as it was, with another mode
abbrev pub at_mode : Condition → Mode → Condition
at_mode c m = record { mode = m; suspended = c.suspended; stopper = c.stopper; words = c.words }

-- the logged steps enter the history of a running thread
abbrev pub Ran : Inside → List Step → Type 0
Ran a steps = Refines a.limits (a.history.items ++ steps_of steps) (shelf a.history) a.condition None a.log (a.own + length steps) (costs_in a) a.ops

pub runs_here : (a : Inside) → IsSlot a → is_running (view a.limits a.history.items).mode ≡ true → is_running a.condition.mode ≡ true
runs_here a s r = sym (ap (λ (v : ThreadView). is_running v.mode) (view_is a s)) ∙ r

pub ran : (a : Inside) (steps : List Step) → IsSlot a → is_running (view a.limits a.history.items).mode ≡ true → goes_on a.limits a.history.items (steps_of steps) ≡ true → Ran a steps
ran a steps s r g =
    let here = subst (λ f. Refines a.limits a.history.items (shelf a.history) a.condition f a.log a.own (costs_in a) a.ops) (laws.away a.limits a.condition.mode a.frames s.frames_home (runs_here a s r)) s in
    laws.steps_stand a.limits a.history.items (shelf a.history) a.condition a.log a.own (costs_in a) a.ops steps here g

pub ran_own : (a : Inside) (steps : List Step) → Ran a steps → (own_spent (a.history.items ++ steps_of steps) ≡ a.own + length steps) × (a.own + length steps ≤ a.limits.own)
ran_own a steps s =
    let e : own_spent (a.history.items ++ steps_of steps) ≡ a.own + length steps = ap (λ (t : HistoryState). t.own) s.state in
    (e, omega (arith, e, own_bounded a.limits (a.history.items ++ steps_of steps) s.legal))

-- a running thread goes on by its logged steps
pub record Runs (a : Inside) (steps : List Step) : Type 0 where
  pub runs : is_running a.condition.mode ≡ true
  pub ran : Ran a steps
  pub few : a.own + length steps ≤ a.limits.own

pub runs_on : (a : Inside) (t : Thread) (steps : List Step) → IsSlot a → thread_in a ≡ t → is_running (view t.limits t.history).mode ≡ true → goes_on t.limits t.history (steps_of steps) ≡ true → Runs a steps
runs_on a t steps s e =
    subst (λ (z : Thread). is_running (view z.limits z.history).mode ≡ true → goes_on z.limits z.history (steps_of steps) ≡ true → Runs a steps) e
    (λ r g. let on = ran a steps s r g in record { runs = runs_here a s r; ran = on; few = (ran_own a steps on).1 })

pub ran_view : (a : Inside) (steps : List Step) → Ran a steps → view a.limits (a.history.items ++ steps_of steps) ≡ view_of a.condition (view a.limits (a.history.items ++ steps_of steps)).frames
ran_view a steps s = ap (λ (t : HistoryState). t.view) s.state

pub length-steps : (steps : List Step) → length (steps_of steps) ≡ length steps
length-steps [] = refl
length-steps (x ∷ steps) = grind (arith, length-steps steps)

pub ran_room : (a : Inside) (steps : List Step) (x : Entry) → Ran a steps → may_follow a.limits (a.history.items ++ steps_of steps) x ≡ true → length a.history.items + length steps < a.history.room
ran_room a steps x s may =
    let r = laws.room_for a.limits (a.history.items ++ steps_of steps) (shelf a.history) a.condition None a.log (a.own + length steps) (costs_in a) a.ops x s may in
    omega (arith, r, length-append a.history.items (steps_of steps), length-steps steps)

-- the steps enter the history, and there is room for one entry more
pub room_behind : (a : Inside) (steps given : List Step) (x : Entry) (h : Recorded Entry) → Ran a steps → may_follow a.limits (a.history.items ++ steps_of steps) x ≡ true → given ≡ steps → h.items ≡ a.history.items ++ steps_of given → shelf h ≡ shelf a.history → length h.items < h.room
room_behind a steps given x h s may same e le = omega (arith, ran_room a steps x s may, ap length e, length-append a.history.items (steps_of given), length-steps given, ap length same, ap (λ (z : Shelf). z.room) le)

pub entry_behind : (steps given : List Step) (x : Entry) (h h1 h2 : List Entry) → given ≡ steps → h1 ≡ h ++ steps_of given → h2 ≡ h1 ++ x ∷ [] → h2 ≡ (h ++ steps_of steps) ++ x ∷ []
entry_behind steps given x h h1 h2 same e1 e2 = e2 ∙ ap (λ l. l ++ x ∷ []) (e1 ∙ ap (λ s. h ++ steps_of s) same)

pub may_end : (a : Inside) (steps : List Step) → Ran a steps → is_running a.condition.mode ≡ true → may_follow a.limits (a.history.items ++ steps_of steps) End ≡ true
may_end a steps s r = grind (arith, ran_view a steps s)

-- whether a poll may hand over does not change by own steps
pub poll_same : (a : Inside) (steps : List Step) → IsSlot a → Ran a steps → may_follow a.limits (a.history.items ++ steps_of steps) (Hand AtPoll) ≡ may_follow a.limits a.history.items (Hand AtPoll)
poll_same a steps s t =
    may_follow-allows a.limits (a.history.items ++ steps_of steps) (Hand AtPoll)
    ∙ ap (λ z. allows a.limits z (Hand AtPoll)) t.state
    ∙ sym (may_follow-allows a.limits a.history.items (Hand AtPoll) ∙ ap (λ z. allows a.limits z (Hand AtPoll)) s.state)

pub may_hand : (a : Inside) (steps : List Step) (safe : Safe) → IsSlot a → Ran a steps → is_running a.condition.mode ≡ true → hand_refusal a.limits (a.history.items ++ steps_of steps) safe ≡ None
    → (safe ≡ AtPoll → is_armed a.limits a.history.items ≡ true) → may_follow a.limits (a.history.items ++ steps_of steps) (Hand safe) ≡ true
may_hand a steps Native s t r ok armed = grind (arith, nat_tests, ran_view a steps t)
may_hand a steps (Blocked kind) s t r ok armed = grind (arith, nat_tests, ran_view a steps t)
may_hand a steps AtPoll s t r ok armed =
    let arm : is_armed a.limits a.history.items ≡ true = armed refl in
    poll_same a steps s t ∙ grind (arith, arm, view_is a s)

pub ran_runs : (a : Inside) (steps : List Step) → Ran a steps → is_running a.condition.mode ≡ true → is_running (view a.limits (a.history.items ++ steps_of steps)).mode ≡ true
ran_runs a steps t r = ap (λ (v : ThreadView). is_running v.mode) (ran_view a steps t) ∙ r

-- what refusal_of_hand says of each view with these frames is what the definitions have
pub refusal_is : (a : Inside) (t : Thread) (steps : List Step) (safe : Safe) (fr : Stack) (n : ℕ) (r : Option TiError) → thread_in a ≡ t → Runs a steps → fr.frames ≡ (view t.limits (t.history ++ steps_of steps)).frames → n ≡ length steps
    → ((v : ThreadView) → is_running v.mode ≡ true → v.frames ≡ fr.frames → r ≡ own_refusal a.limits v (a.own + n) (Hand safe)) → hand_refusal t.limits (t.history ++ steps_of steps) safe ≡ r
refusal_is a t steps safe fr n r et k ef en said =
    let v = view a.limits (a.history.items ++ steps_of steps) in
    let frames = subst (λ (z : Thread). fr.frames ≡ (view z.limits (z.history ++ steps_of steps)).frames) (sym et) ef in
    let own : own_spent (a.history.items ++ steps_of steps) ≡ a.own + n = (ran_own a steps k.ran).0 ∙ ap (λ m. a.own + m) (sym en) in
    subst (λ (z : Thread). hand_refusal z.limits (z.history ++ steps_of steps) safe ≡ r) et
    (ap (λ m. own_refusal a.limits v m (Hand safe)) own ∙ sym (said v (ran_runs a steps k.ran k.runs) (sym frames)))

-- a hand-over that is not refused, with these frames
pub record Hands (a : Inside) (steps : List Step) (safe : Safe) (fr : Stack) : Type 0 where
  pub ran : Ran a steps
  pub may : may_follow a.limits (a.history.items ++ steps_of steps) (Hand safe) ≡ true
  pub frames : fr.frames ≡ (view a.limits (a.history.items ++ steps_of steps)).frames

pub hands_here : (a : Inside) (t : Thread) (steps : List Step) (safe : Safe) (fr : Stack) → IsSlot a → thread_in a ≡ t → Runs a steps → fr.frames ≡ (view t.limits (t.history ++ steps_of steps)).frames → hand_refusal t.limits (t.history ++ steps_of steps) safe ≡ None
    → (safe ≡ AtPoll → is_armed t.limits t.history ≡ true) → Hands a steps safe fr
hands_here a t steps safe fr s et k ef free armed =
    subst (λ (z : Thread). fr.frames ≡ (view z.limits (z.history ++ steps_of steps)).frames → hand_refusal z.limits (z.history ++ steps_of steps) safe ≡ None → (safe ≡ AtPoll → is_armed z.limits z.history ≡ true) → Hands a steps safe fr) et
    (λ f ok arm. record { ran = k.ran; may = may_hand a steps safe s k.ran k.runs ok arm; frames = f }) ef free armed

-- a thread that has started, or returned, runs
pub runs_started : (limits : Limits) (history later : List Entry) → later ≡ history ++ Start ∷ [] → is_running (view limits later).mode ≡ true
runs_started limits history later e =
    let runs : is_running (next_state (history_state limits history) Start).view.mode ≡ true = grind arith in
    ap (λ l. is_running (view limits l).mode) e ∙ ap (λ (z : HistoryState). is_running z.view.mode) (history_state-snoc limits history Start) ∙ runs

pub runs_returned : (limits : Limits) (history later : List Entry) → later ≡ history ++ Back ∷ [] → is_running (view limits later).mode ≡ true
runs_returned limits history later e =
    let runs : is_running (next_state (history_state limits history) Back).view.mode ≡ true = grind arith in
    ap (λ l. is_running (view limits l).mode) e ∙ ap (λ (z : HistoryState). is_running z.view.mode) (history_state-snoc limits history Back) ∙ runs
