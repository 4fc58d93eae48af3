-- Calls of environments: their numbers, their room, and their replies.
use Rattle.std.proofs.Common.{◌≡◌, ℕ, ◌<◌, ◌≤◌, true, false, List, [], ◌∷◌, ◌++◌, length, refl, ap, sym, ◌∙◌, arith, Option, Some, None, length-append, subst, ◌&&◌, ℤ, le_refl}
use Rattle.std.proofs.lemmas.List.{map-append}
use Rattle.ti_trail.specs.Record.{Recorded}
use Rattle.std.specs.List.{list_all}
use Rattle.std.proofs.lemmas.Bool.Decides.{nat_tests}
use Rattle.std.proofs.lemmas.List.Sums.{sum_by-cons}
use Rattle.std.proofs.lemmas.List.Folds.{list_all-append}
use Rattle.ti_types.specs.declared.limits.Limits.{Limits}
use Rattle.ti_types.specs.declared.numbers.EnvNo.{EnvNo}
use Rattle.ti_types.specs.declared.numbers.ThreadNo.{ThreadNo}
use Rattle.ti_types.specs.declared.place.Frame.{Frame}
use Rattle.ti_types.specs.declared.state.Mode.{Mode}
use Rattle.ti_types.specs.declared.call.Call.{Call}
use Rattle.ti_types.specs.declared.answer.Answer.{Answer}
use Rattle.ti_types.specs.declared.entry.Entry.{Entry}
use Rattle.ti_types.specs.declared.entry.Entry.TheVariants.{Start, Own, Hand, Back, End, Asked, Stop, Read, Go}
use Rattle.ti_types.specs.declared.view.ThreadView.{ThreadView}
use Rattle.ti_types.specs.Frames as buffer
use Rattle.ti_types.specs.Answer.{said}
use Rattle.ti_frames.specs.Frames.{Stack}
use Rattle.ti_ops.specs.Ops.{Ops, with_posted, with_statuses}
use Rattle.ti_ops.specs.declared.status.CallStatus.{CallStatus}
use Rattle.ti_ops.specs.declared.pending.Pending.{Pending}
use Rattle.ti_replay.specs.Answers.{is_running, answer_of, stack_of}
use Rattle.ti_replay.specs.Settling.{waits}
use Rattle.ti_replay.specs.Legal.{is_stopper, is_well_formed, is_not_negative, calls_spent, asked_by, ask_count, call_cost}
use Rattle.ti_replay.specs.View.{view, called}
use Rattle.ti_replay.specs.Replies.{reply}
use Rattle.ti_replay.specs.Costs.{charged}
use Rattle.ti_replay.specs.HistoryState.{history_state}
use Rattle.ti_replay.proofs.LateStepLaws.{called_keeps}
use Rattle.ti_replay.proofs.PlaceLaws.{reply_at_once, reply_later, reply_past}
use Rattle.ti_replay.proofs.AskingLaws.{reply-snoc}
use Rattle.ti_slot.specs.declared.condition.Condition.{Condition}
use Rattle.ti_slot.specs.declared.slot.Slot.TheInside.{Inside}
use Rattle.ti_slot.specs.Condition.{view_of, frames_or, AreWhereTheyWere}
use Rattle.ti_slot.specs.Waiting.{entry_of, entries_of, calls_of, AreReady, IsBufferOf}
use Rattle.ti_slot.specs.Inside.{IsSlot, costs_in, thread_in}
use Rattle.ti_slot.specs.Thread.{Thread, IsAsked, read_answer}
use Rattle.ti_types.specs.declared.event.Event.TheVariants as event
use Rattle.ti_replay.specs.Events.{stopping_refusal}
use Rattle.ti_slot.specs.declared.asked.Asked.TheVariants.{Answered, Waiting}
use Rattle.ti_types.specs.declared.event.Ticket.{Ticket}
use Rattle.ti_slot.specs.Slot.{Refines, shelf, FramesAreHome, LogIsHome}
use Rattle.ti_slot.proofs.SlotLaws as laws
use Rattle.ti_slot.proofs.CallLaws.{May, Comes, comes, may_call, view_is}

asked_one : (env : EnvNo) (x : Entry) → ask_count env x ≤ call_cost env x
asked_one env Start = omega arith
asked_one env (Own step) = omega arith
asked_one env (Hand safe) = omega arith
asked_one env Back = omega arith
asked_one env End = omega arith
asked_one env (Asked other number call) = le_refl _
asked_one env (Stop other) = grind arith
asked_one env (Read other n) = grind arith
asked_one env (Go other) = omega arith

asked_le : (env : EnvNo) (history : List Entry) → asked_by env history ≤ calls_spent env history
asked_le env [] = omega arith
asked_le env (x ∷ history) = omega (arith, asked_le env history, asked_one env x, sum_by-cons (ask_count env) x history, sum_by-cons (call_cost env) x history)

-- there is a number left for the next call
pub asked_less : (a : Inside) (env : EnvNo) → IsSlot a → calls_spent env a.history.items < a.limits.calls → asked_by env a.history.items < a.limits.calls
asked_less a env s hc = omega (arith, asked_le env a.history.items)

pub may_ask : (a : Inside) (env : EnvNo) (n : ℕ) (call : Call) → IsSlot a → env.0 < a.limits.envs → calls_spent env a.history.items < a.limits.calls → is_well_formed call ≡ true → n ≡ asked_by env a.history.items → May a (Asked env n call)
may_ask a env n call s he hc hw hn = grind (arith, nat_tests)

pub ready_more : (limits : Limits) (waiting : List Pending) (p : Pending) → AreReady limits waiting → IsBufferOf limits p.call p.buf → AreReady limits (waiting ++ p ∷ [])
ready_more limits [] p r b = (b, tt)
ready_more limits (q ∷ waiting) p r b = (r.0, ready_more limits waiting p r.1 b)

pub put_off_is : (a : Inside) (call : Call) → IsSlot a → (waits call && is_running (view a.limits a.history.items).mode) ≡ (waits call && is_running a.condition.mode)
put_off_is a call s = ap (λ (v : ThreadView). waits call && is_running v.mode) (view_is a s)

-- the slot after a call that waits
pub asked_waits : (a : Inside) (env : EnvNo) (n : ℕ) (call : Call) (thread : ThreadNo) (buf : buffer.Trace) (h : Recorded Entry) (ops : Ops)
    → IsSlot a → May a (Asked env n call) → (waits call && is_running a.condition.mode) ≡ true → h.items ≡ a.history.items ++ Asked env n call ∷ [] → shelf h ≡ shelf a.history
    → ops ≡ with_posted a.ops (record { ticket = record { env = env; thread = thread; no = n }; call = call; buf = buf }) → IsBufferOf a.limits call buf
    → Refines a.limits h.items (shelf h) a.condition a.frames a.log a.own (history_state a.limits h.items).costs ops
asked_waits a env n call thread buf h ops s may off e le eo b =
    let x = Asked env n call in
    let p : Pending = record { ticket = record { env = env; thread = thread; no = n }; call = call; buf = buf } in
    let w : waits call ≡ true = grind arith in
    let more : entries_of (a.ops.waiting ++ p ∷ []) ≡ entries_of a.ops.waiting ++ x ∷ [] = map-append entry_of a.ops.waiting (p ∷ []) in
    let calls : list_all waits (calls_of (a.ops.waiting ++ p ∷ [])) ≡ true = grind (arith, s.calls, w, map-append (λ (q : Pending). q.call) a.ops.waiting (p ∷ []), list_all-append waits (calls_of a.ops.waiting) (call ∷ [])) in
    rw eo (laws.own_costs a.limits h.items (shelf h) a.condition a.frames a.log a.own (charged (costs_in a) x) (with_posted a.ops p) (laws.goes a.limits a.history.items (shelf a.history) a.condition a.frames a.log a.own (costs_in a) a.ops x h.items (shelf h) a.condition a.frames a.log a.own (charged (costs_in a) x) (with_posted a.ops p)
    (frames_or a.frames (view a.limits a.history.items).frames) s may e le
    (grind (arith, off, more)) (laws.home a.frames (view a.limits a.history.items).frames) s.frames_home s.log_home refl (ready_more a.limits a.ops.waiting p s.ready b) calls))

-- frames that are where they were are at home there
frames_stay : (limits : Limits) (m : Mode) (f g : Option Stack) → AreWhereTheyWere f g → FramesAreHome limits m f → FramesAreHome limits m g
frames_stay limits m (Some s) (Some t) same k = (k.0, same ∙ k.1)
frames_stay limits m None None same k = k
frames_stay limits m (Some s) None same k = absurd same
frames_stay limits m None (Some t) same k = absurd same

-- the slot after a call that is answered at once
pub answered : (a : Inside) (env : EnvNo) (n : ℕ) (call : Call) (h : Recorded Entry) (c : Condition) (g : Option Stack) (ops : Ops)
    → IsSlot a → May a (Asked env n call) → (waits call && is_running a.condition.mode) ≡ false → h.items ≡ a.history.items ++ Asked env n call ∷ [] → shelf h ≡ shelf a.history
    → ((others : List Frame) → view_of c (frames_or g others) ≡ called (view_of a.condition (frames_or a.frames others)) env call) → AreWhereTheyWere a.frames g
    → (statuses : List (List CallStatus)) → ops ≡ with_statuses a.ops statuses
    → Refines a.limits h.items (shelf h) c g a.log a.own (history_state a.limits h.items).costs ops
answered a env n call h c g ops s may off e le vc stay statuses eo =
    let x = Asked env n call in
    let f = (view a.limits a.history.items).frames in
    let same : c.mode ≡ a.condition.mode = ap (λ (v : ThreadView). v.mode) (vc []) ∙ (called_keeps (view_of a.condition (frames_or a.frames [])) env call).0 in
    rw eo (laws.own_costs a.limits h.items (shelf h) c g a.log a.own (charged (costs_in a) x) (with_statuses a.ops statuses) (laws.goes a.limits a.history.items (shelf a.history) a.condition a.frames a.log a.own (costs_in a) a.ops x h.items (shelf h) c g a.log a.own (charged (costs_in a) x) (with_statuses a.ops statuses) (frames_or g f) s may e le
    (grind (arith, off, vc f)) (laws.home g f) (subst (λ m. FramesAreHome a.limits m g) (sym same) (frames_stay a.limits a.condition.mode a.frames g stay s.frames_home)) (subst (λ m. LogIsHome a.limits m a.log) (sym same) s.log_home) refl s.ready s.calls))

pub replied : (a : Inside) (env : EnvNo) (n : ℕ) (call : Call) (h : List Entry) (told : Answer) → IsSlot a → (waits call && is_running a.condition.mode) ≡ false → h ≡ a.history.items ++ Asked env n call ∷ []
    → ((others : List Frame) → said told ≡ answer_of (view_of a.condition (frames_or a.frames others)) env call) → reply a.limits h (length a.history.items) ≡ Some (said told)
replied a env n call h told s off e tell =
    ap (λ l. reply a.limits l (length a.history.items)) e ∙ reply_at_once a.limits a.history.items env n call (put_off_is a call s ∙ off)
    ∙ ap Some (ap (λ v. answer_of v env call) (view_is a s) ∙ sym (tell (view a.limits a.history.items).frames))

pub not_replied : (a : Inside) (env : EnvNo) (n : ℕ) (call : Call) (h : List Entry) → IsSlot a → (waits call && is_running a.condition.mode) ≡ true → h ≡ a.history.items ++ Asked env n call ∷ [] → reply a.limits h (length a.history.items) ≡ None
not_replied a env n call h s off e =
    ap (λ l. reply a.limits l (length a.history.items)) e ∙ reply_later a.limits a.history.items env n call (put_off_is a call s ∙ off)

-- a read that is let through
pub record Reads (a : Inside) (env : EnvNo) (n : ℤ) : Type 0 where
  pub free : stopping_refusal (view a.limits a.history.items) (event.Read env a.number n) ≡ None
  pub comes : Comes a (Read env n)

pub reads_here : (a : Inside) (t : Thread) (env : EnvNo) (n : ℤ) (f : Stack) → IsSlot a → thread_in a ≡ t → env.0 < t.limits.envs → calls_spent env t.history < t.limits.calls → is_not_negative n ≡ true
    → is_stopper a.condition.stopper env ≡ true → a.frames ≡ Some f → Reads a env n
reads_here a t env n f s e he hc hn hs is =
    let h = may_call a t env e he hc in
    let hr : is_running a.condition.mode ≡ false = (subst (FramesAreHome a.limits a.condition.mode) is s.frames_home).0 in
    record { free = grind (arith, view_is a s, hs, hr); comes = comes a (Read env n) s (grind (arith, nat_tests, view_is a s, h.0, h.1)) }

pub was_read : (a : Inside) (env : EnvNo) (n : ℤ) (h : Recorded Entry) → IsSlot a → May a (Read env n) → h.items ≡ a.history.items ++ Read env n ∷ [] → shelf h ≡ shelf a.history
    → Refines a.limits h.items (shelf h) a.condition a.frames a.log a.own (history_state a.limits h.items).costs a.ops
was_read a env n h s may e le =
    laws.own_costs a.limits h.items (shelf h) a.condition a.frames a.log a.own (charged (costs_in a) (Read env n)) a.ops (laws.goes a.limits a.history.items (shelf a.history) a.condition a.frames a.log a.own (costs_in a) a.ops (Read env n) h.items (shelf h) a.condition a.frames a.log a.own (charged (costs_in a) (Read env n)) a.ops
    (frames_or a.frames (view a.limits a.history.items).frames) s may e le
    (grind arith) (laws.home a.frames (view a.limits a.history.items).frames) s.frames_home s.log_home refl s.ready s.calls)

pub reply_read : (limits : Limits) (history : List Entry) (env : EnvNo) (n : ℤ) → reply limits (history ++ Read env n ∷ []) (length history) ≡ Some (stack_of (view limits history) n)
reply_read limits history env n =
    grind (arith, nat_tests, reply-snoc limits history (Read env n) (length history), reply_past limits history (length history))

pub read_replied : (a : Inside) (env : EnvNo) (n : ℤ) (h : List Entry) (f : Stack) (told : Answer) → IsSlot a → a.frames ≡ Some f → h ≡ a.history.items ++ Read env n ∷ []
    → said told ≡ stack_of (view_of a.condition f.frames) n → reply a.limits h (length a.history.items) ≡ Some (said told)
read_replied a env n h f told s is e tell =
    ap (λ l. reply a.limits l (length a.history.items)) e ∙ reply_read a.limits a.history.items env n
    ∙ ap Some (ap (λ v. stack_of v n) (view_is a s ∙ ap (λ g. view_of a.condition (frames_or g (view a.limits a.history.items).frames)) is) ∙ sym tell)

-- what a call that waits comes to
pub told_waits : (a : Inside) (env : EnvNo) (n : ℕ) (call : Call) (h : List Entry) (tickets : List Ticket)
    → IsSlot a → n ≡ asked_by env a.history.items → (waits call && is_running a.condition.mode) ≡ true → h ≡ a.history.items ++ Asked env n call ∷ []
    → tickets ≡ (thread_in a).uncollected ++ (record { env = env; thread = a.number; no = n }) ∷ []
    → IsAsked (thread_in a) (record { limits = a.limits; number = a.number; history = h; uncollected = tickets }) env call (Waiting (record { env = env; thread = a.number; no = n }))
told_waits a env n call h tickets s hn off e et =
    (grind (arith, e, hn, et), not_replied a env n call h s off e, grind (arith, hn))

pub told_now : (a : Inside) (env : EnvNo) (n : ℕ) (call : Call) (h : List Entry) (tickets : List Ticket) (told : Answer)
    → IsSlot a → n ≡ asked_by env a.history.items → (waits call && is_running a.condition.mode) ≡ false → h ≡ a.history.items ++ Asked env n call ∷ []
    → tickets ≡ (thread_in a).uncollected
    → ((others : List Frame) → said told ≡ answer_of (view_of a.condition (frames_or a.frames others)) env call)
    → IsAsked (thread_in a) (record { limits = a.limits; number = a.number; history = h; uncollected = tickets }) env call (Answered told)
told_now a env n call h tickets told s hn off e et tell = (grind (arith, e, hn, et), replied a env n call h told s off e tell)

-- what an accepted read answers
pub read_told : (a : Inside) (t : Thread) (env : EnvNo) (n : ℤ) (h : List Entry) (f : Stack) (told : Answer) → IsSlot a → thread_in a ≡ t → Reads a env n → a.frames ≡ Some f → h ≡ a.history.items ++ Read env n ∷ []
    → said told ≡ stack_of (view_of a.condition f.frames) n → read_answer (stopping_refusal (view t.limits t.history) (event.Read env t.number n)) (reply a.limits h (length t.history)) ≡ Some (said told)
read_told a t env n h f told s et r is e tell =
    subst (λ (z : Thread). read_answer (stopping_refusal (view z.limits z.history) (event.Read env z.number n)) (reply a.limits h (length z.history)) ≡ Some (said told)) et
    (rw r.free (read_replied a env n h f told s is e tell))
