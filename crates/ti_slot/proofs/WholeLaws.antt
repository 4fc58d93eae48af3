-- What a slot tells of its tickets, call by call.
use Rattle.std.proofs.Common.{◌≡◌, ℕ, ◌+◌, ◌<◌, ◌≤◌, true, false, ◌&&◌, if◌then◌else◌, List, [], ◌∷◌, ◌++◌, length, map, get_or, replicate, suc, zero, refl, ap, sym, ◌∙◌, arith, Option, Some, None, append-nil, append_assoc, subst, is_some, inl, inr}
use Rattle.std.proofs.lemmas.Bool.{cases_eq}
use Rattle.std.specs.Option.{option_map}
use Rattle.std.proofs.lemmas.List.{length-map, length-replicate}
use Rattle.std.proofs.lemmas.List.Sums.{sum_by-cons, count_by-le-length}
use Rattle.ti_types.specs.declared.limits.Limits.{Limits}
use Rattle.ti_types.specs.declared.numbers.EnvNo.{EnvNo}
use Rattle.ti_types.specs.declared.numbers.ThreadNo.{ThreadNo}
use Rattle.ti_types.specs.declared.event.Ticket.{Ticket}
use Rattle.ti_types.specs.declared.call.Call.{Call}
use Rattle.ti_types.specs.declared.call.Call.TheVariants.{State, FrameCount, Trace, Location, Suspend, Resume, GetWord, SetWord, Pop}
use Rattle.ti_types.specs.declared.state.Mode.{Mode}
use Rattle.ti_types.specs.declared.answer.Answer.{Answer}
use Rattle.ti_types.specs.declared.step.Step.{Step}
use Rattle.ti_types.specs.declared.state.Safe.{Safe}
use Rattle.ti_types.specs.declared.state.Mode.TheVariants as mode
use Rattle.ti_types.specs.declared.entry.Entry.{Entry}
use Rattle.ti_types.specs.declared.event.Event.{Event}
use Rattle.ti_types.specs.declared.place.Frame.{Frame}
use Rattle.ti_trail.specs.Record.{Recorded}
use Rattle.ti_replay.specs.Events.{stopping_refusal, if_none}
use Rattle.ti_slot.specs.declared.asked.Asked.TheVariants as asked
use Rattle.ti_slot.specs.declared.condition.Condition.{Condition}
use Rattle.ti_types.specs.declared.entry.Entry.TheVariants.{Own, Hand, End, Asked}
use Rattle.ti_types.specs.declared.view.ThreadView.{ThreadView}
use Rattle.ti_types.specs.Frames as buffer
use Rattle.ti_types.specs.Answer.{said}
use Rattle.ti_frames.specs.Frames.{Stack, with_frames}
use Rattle.ti_ops.specs.declared.status.CallStatus.{CallStatus}
use Rattle.ti_ops.specs.declared.status.CallStatus.TheVariants.{Waiting, Answered, Gone}
use Rattle.ti_ops.specs.declared.pending.Pending.{Pending}
use Rattle.ti_ops.specs.Statuses.{statuses_by, status_of, open_by, with_call, with_status, answer_by, is_open, call_at, IsFirstFrom}
use Rattle.ti_ops.specs.Ops.{Ops, with_posted, with_statuses}
use Rattle.ti_replay.specs.Answers.{is_running, answer_of}
use Rattle.ti_replay.specs.Settling.{waits, is_hand_over}
use Rattle.ti_replay.specs.View.{view, after, called}
use Rattle.ti_replay.specs.Legal.{asked_by, calls_spent, is_well_formed, may_follow, own_cost}
use Rattle.ti_replay.proofs.Charging.{charged_free}
use Rattle.std.specs.List.{fold, count_by}
use Rattle.ti_replay.specs.HistoryState.{HistoryState, history_state}
use Rattle.ti_replay.specs.LateTickets.{steps_of}
use Rattle.ti_replay.specs.Tickets.{reply_to}
use Rattle.ti_slot.specs.declared.slot.Slot.TheInside.{Inside}
use Rattle.ti_slot.specs.Condition.{view_of, frames_or, AreWhereTheyWere, is_pop}
use Rattle.ti_slot.specs.Waiting.{answers_of, entries_of, said_in, said_status, delivered, IsBufferOf}
use Rattle.ti_slot.specs.Tickets.{Tells, NoneBetween, IsNextOut, has, held_by, without_ticket, asked_in, open_in, AreAwaited}
use Rattle.ti_slot.specs.Thread.{Thread, with_more, IsAsked}
use Rattle.ti_slot.specs.Inside.{IsSlot, IsWhole, costs_in, thread_in}
use Rattle.ti_slot.specs.Slot.{Refines, shelf}
use Rattle.ti_slot.proofs.SlotLaws as laws
use Rattle.ti_slot.proofs.CallLaws.{Comes, comes, may_call, Ran, ran_view, at_mode, Hands}
use Rattle.ti_slot.proofs.AskLaws.{put_off_is, asked_less, may_ask, asked_waits, answered, told_waits, told_now}
use Rattle.ti_slot.proofs.CallStatusLaws.{by-said, status-said, length-said, said-with_status, said-with_call, waits-said}
use Rattle.ti_ops.proofs.StepLaws.{opens}
use Rattle.ti_slot.proofs.TicketLaws.{asked_stay, asked-steps}
use Rattle.ti_slot.proofs.TellLaws.{is_plain, is_call, no_ticket, hand_free, tells_plain, open_now, open_later, tells_now, tells_later}
use Rattle.ti_slot.proofs.OpenLaws.{tells_hand, tells_less, collected_is, out_is, not_mine, open_hand, open_taken}

none_by : (n i : ℕ) → get_or {A = List CallStatus} (replicate n []) i [] ≡ []
none_by zero i = refl
none_by (suc n) zero = refl
none_by (suc n) (suc i) = none_by n i

pub tells_nothing : (limits : Limits) (number : ThreadNo) → Tells limits number [] [] (said_in (replicate limits.envs []))
tells_nothing limits number =
    let statuses : List (List CallStatus) = replicate limits.envs [] in
    let none : (env : EnvNo) → statuses_by env (said_in statuses) ≡ [] = λ env. by-said env statuses ∙ ap (λ xs. map said_status xs) (none_by limits.envs env.0) in
    let gone : (t : Ticket) → status_of t (said_in statuses) ≡ Gone = λ t. ap (λ xs. get_or xs t.no Gone) (none t.env) in
    record {
      fresh = λ t le. refl;
      envs = length-map statuses (λ (xs : List CallStatus). map said_status xs) ∙ length-replicate limits.envs [];
      lists = λ env. ap length (none env);
      quiet = λ t w. let g = gone t in cc;
      told = λ t a w. let g : answer_by (status_of t (said_in statuses)) ≡ None = ap answer_by (gone t) in cc;
      awaited = tt;
      apart = tt;
      listed = λ t. grind arith;
      once = tt;
      held = λ env. sym (ap (count_by is_open) (none env));
    }

-- the lists of statuses are those of the history's calls
pub lists_here : (a : Inside) → IsWhole a → length a.ops.statuses ≡ a.limits.envs
lists_here a s = sym (length-map a.ops.statuses (λ (xs : List CallStatus). map said_status xs)) ∙ s.1.envs

pub list_here : (a : Inside) (env : EnvNo) → IsWhole a → length (statuses_by env a.ops.statuses) ≡ asked_by env a.history.items
list_here a env s = sym (length-said env a.ops.statuses) ∙ s.1.lists env

-- the thread with other entries and statuses
abbrev pub thread_with : Inside → List Entry → List (List CallStatus) → Thread
thread_with a h statuses = record { limits = a.limits; number = a.number; history = h; uncollected = open_in (said_in statuses) (asked_in a.number h) }

pub plain_after : (a : Inside) (x : Entry) (h : List Entry) → IsWhole a → is_plain x ≡ true → h ≡ a.history.items ++ x ∷ [] → Tells a.limits a.number h a.ops.waiting (said_in a.ops.statuses)
plain_after a x h s p e = rw e (tells_plain a.limits a.number a.history.items a.ops.waiting (said_in a.ops.statuses) x p s.1)

-- the thread after one more entry that is no call
pub plain_thread : (a : Inside) (t : Thread) (x : Entry) (h : List Entry) → thread_in a ≡ t → is_call x ≡ false → h ≡ a.history.items ++ x ∷ [] → thread_with a h a.ops.statuses ≡ with_more t (x ∷ [])
plain_thread a t x h et p e =
    let same : asked_in a.number h ≡ asked_in a.number a.history.items = ap (asked_in a.number) e ∙ asked_stay a.number a.history.items x (no_ticket a.number x p) in
    ap (λ l. record { limits = a.limits; number = a.number; history = l; uncollected = open_in (said_in a.ops.statuses) (asked_in a.number h) }) e
    ∙ ap (λ ts. record { limits = a.limits; number = a.number; history = a.history.items ++ x ∷ []; uncollected = open_in (said_in a.ops.statuses) ts }) same
    ∙ ap (λ (z : Thread). with_more z (x ∷ [])) et

-- and where an event that is let through brings it
pub held_thread : (a : Inside) (t : Thread) (event : ThreadNo → Event) (x : Entry) (h : List Entry) → thread_in a ≡ t → is_call x ≡ false → h ≡ a.history.items ++ x ∷ [] → stopping_refusal (view a.limits a.history.items) (event a.number) ≡ None
    → thread_with a h a.ops.statuses ≡ with_more t (if_none (stopping_refusal (view t.limits t.history) (event t.number)) (x ∷ []))
held_thread a t event x h et p e free =
    plain_thread a (thread_in a) x h refl p e ∙ ap (λ r. with_more (thread_in a) (if_none r (x ∷ []))) (sym free)
    ∙ ap (λ (z : Thread). with_more z (if_none (stopping_refusal (view z.limits z.history) (event z.number)) (x ∷ []))) et

-- of how many calls of an environment something is left, said or not
open-said : (env : EnvNo) (statuses : List (List CallStatus)) → open_by env (said_in statuses) ≡ open_by env statuses
open-said env statuses = ap (count_by is_open) (by-said env statuses) ∙ mapped (statuses_by env statuses)
  where
    one : (x : CallStatus) → opens (said_status x) ≡ opens x
    one Waiting = refl
    one (Answered a) = refl
    one Gone = refl

    mapped : (xs : List CallStatus) → count_by is_open (map said_status xs) ≡ count_by is_open xs
    mapped [] = refl
    mapped (x ∷ xs) = omega (arith, sum_by-cons opens (said_status x) (map said_status xs), sum_by-cons opens x xs, mapped xs, one x)

pub held_here : (a : Inside) (t : Thread) (env : EnvNo) → IsWhole a → thread_in a ≡ t → open_by env a.ops.statuses ≡ held_by env t.uncollected
held_here a t env s et = sym (open-said env a.ops.statuses) ∙ sym (s.1.held env) ∙ ap (λ (z : Thread). held_by env z.uncollected) et

-- and at most as many as it has asked
pub few_here : (a : Inside) (t : Thread) (env : EnvNo) → IsWhole a → thread_in a ≡ t → held_by env t.uncollected ≤ asked_by env t.history
few_here a t env s et =
    omega (arith, held_here a t env s et, count_by-le-length is_open (statuses_by env a.ops.statuses), list_here a env s, ap (λ (z : Thread). asked_by env z.history) et)

-- a call that may be asked, and the room for it
pub record Asks (a : Inside) (env : EnvNo) (n : ℕ) (call : Call) : Type 0 where
  pub there : env.0 < a.limits.envs
  pub number : n ≡ asked_by env a.history.items
  pub listed : env.0 < length a.ops.statuses
  pub next : n ≡ length (statuses_by env a.ops.statuses)
  pub left : n < a.limits.calls
  pub room : waits call ≡ true → open_by env a.ops.statuses < a.ops.window
  pub comes : Comes a (Asked env n call)

pub asks_here : (a : Inside) (t : Thread) (env : EnvNo) (n : ℕ) (call : Call) → IsWhole a → thread_in a ≡ t → env.0 < t.limits.envs → calls_spent env t.history < t.limits.calls → is_well_formed call ≡ true
    → (waits call ≡ true → held_by env t.uncollected ≤ t.limits.window) → n ≡ length (statuses_by env a.ops.statuses) → Asks a env n call
asks_here a t env n call s et he hc hw hh en =
    let h = may_call a t env et he hc in
    let number : n ≡ asked_by env a.history.items = en ∙ list_here a env s in
    let may = may_ask a env n call s.0 h.0 h.1 hw number in
    record {
      there = h.0;
      number = number;
      listed = omega (arith, lists_here a s, h.0);
      next = en;
      left = omega (arith, number, asked_less a env s.0 h.1);
      room = λ w. omega (arith, hh w, held_here a t env s et, s.0.window, ap (λ (z : Thread). z.limits.window) et);
      comes = comes a (Asked env n call) s.0 may;
    }

-- a call that does not wait
pub now_formed : (call : Call) → waits call ≡ false → is_well_formed call ≡ true
now_formed State h = refl
now_formed FrameCount h = cc
now_formed (Trace start max_count) h = cc
now_formed (Location depth) h = cc
now_formed Suspend h = cc
now_formed Resume h = refl
now_formed GetWord h = refl
now_formed (SetWord word) h = refl
now_formed Pop h = cc

pub now_keeps : (call : Call) → waits call ≡ false → is_pop call ≡ false
now_keeps State h = refl
now_keeps FrameCount h = refl
now_keeps (Trace start max_count) h = refl
now_keeps (Location depth) h = refl
now_keeps Suspend h = refl
now_keeps Resume h = refl
now_keeps GetWord h = refl
now_keeps (SetWord word) h = refl
now_keeps Pop h = cc

pub now_off : (call : Call) (mode : Mode) → waits call ≡ false → (waits call && is_running mode) ≡ false
now_off call mode h = ap (λ b. b && is_running mode) h

pub asks_now : (a : Inside) (t : Thread) (env : EnvNo) (n : ℕ) (call : Call) → IsWhole a → thread_in a ≡ t → env.0 < t.limits.envs → calls_spent env t.history < t.limits.calls → waits call ≡ false
    → n ≡ length (statuses_by env a.ops.statuses) → Asks a env n call
asks_now a t env n call s et he hc off en = asks_here a t env n call s et he hc (now_formed call off) (λ w. absurd (never w)) en
  where
    never : waits call ≡ true → ⊥
    never w = let both : true ≡ false = sym w ∙ off in cc

-- frames that nobody moves
pub where_they_are : (g : Option Stack) → AreWhereTheyWere g g
where_they_are (Some s) = refl
where_they_are None = tt

-- the slot after a call that is answered at once, and what it comes to
pub now_whole : (a : Inside) (env : EnvNo) (n : ℕ) (call : Call) (h : Recorded Entry) (c : Condition) (g : Option Stack) (ops : Ops) → IsWhole a → Asks a env n call → (waits call && is_running a.condition.mode) ≡ false
    → h.items ≡ a.history.items ++ Asked env n call ∷ [] → shelf h ≡ shelf a.history
    → ((others : List Frame) → view_of c (frames_or g others) ≡ called (view_of a.condition (frames_or a.frames others)) env call) → AreWhereTheyWere a.frames g → ops ≡ with_statuses a.ops (with_call env Gone a.ops.statuses)
    → Refines a.limits h.items (shelf h) c g a.log a.own (history_state a.limits h.items).costs ops × Tells a.limits a.number h.items ops.waiting (said_in ops.statuses)
now_whole a env n call h c g ops s k off e le vc stay eo = (
  answered a env n call h c g ops s.0 k.comes.may off e le vc stay (with_call env Gone a.ops.statuses) eo,
  rw (e, eo, said-with_call env Gone a.ops.statuses) (tells_now a.limits a.number a.history.items a.ops.waiting (said_in a.ops.statuses) env n call k.there k.number (put_off_is a call s.0 ∙ off) s.1),
)

pub now_told : (a : Inside) (t : Thread) (env : EnvNo) (n : ℕ) (call : Call) (h : List Entry) (ops : Ops) (told : Answer) → IsWhole a → thread_in a ≡ t → Asks a env n call → (waits call && is_running a.condition.mode) ≡ false
    → h ≡ a.history.items ++ Asked env n call ∷ [] → ops ≡ with_statuses a.ops (with_call env Gone a.ops.statuses) → ((others : List Frame) → said told ≡ answer_of (view_of a.condition (frames_or a.frames others)) env call)
    → IsAsked t (thread_with a h ops.statuses) env call (asked.Answered told)
now_told a t env n call h ops told s et k off e eo tell =
    let same : open_in (said_in ops.statuses) (asked_in a.number h) ≡ (thread_in a).uncollected =
    rw (e, eo, said-with_call env Gone a.ops.statuses) (open_now a.limits a.number a.history.items a.ops.waiting (said_in a.ops.statuses) env n call k.there k.number s.1) in
    subst (λ (z : Thread). IsAsked z (thread_with a h ops.statuses) env call (asked.Answered told)) et
    (told_now a env n call h (open_in (said_in ops.statuses) (asked_in a.number h)) told s.0 k.number off e same tell)

-- the slot after a call that waits, and what it comes to
pub later_whole : (a : Inside) (t : Thread) (env : EnvNo) (n : ℕ) (call : Call) (buf : buffer.Trace) (h : Recorded Entry) (ops : Ops) → IsWhole a → thread_in a ≡ t → Asks a env n call → (waits call && is_running a.condition.mode) ≡ true
    → h.items ≡ a.history.items ++ Asked env n call ∷ [] → shelf h ≡ shelf a.history
    → ops ≡ with_posted a.ops (record { ticket = record { env = env; thread = a.number; no = n }; call = call; buf = buf }) → IsBufferOf t.limits call buf
    → Refines a.limits h.items (shelf h) a.condition a.frames a.log a.own (history_state a.limits h.items).costs ops × Tells a.limits a.number h.items ops.waiting (said_in ops.statuses)
later_whole a t env n call buf h ops s et k off e le eo b =
    let p : Pending = record { ticket = record { env = env; thread = a.number; no = n }; call = call; buf = buf } in (
      asked_waits a env n call a.number buf h ops s.0 k.comes.may off e le eo (subst (λ (z : Thread). IsBufferOf z.limits call buf) (sym et) b),
      rw (e, eo, said-with_call env Waiting a.ops.statuses) (tells_later a.limits a.number a.history.items a.ops.waiting (said_in a.ops.statuses) env n call p k.there k.number (put_off_is a call s.0 ∙ off) refl s.1),
    )

pub later_told : (a : Inside) (t : Thread) (env : EnvNo) (n : ℕ) (call : Call) (buf : buffer.Trace) (h : List Entry) (ops : Ops) → IsWhole a → thread_in a ≡ t → Asks a env n call → (waits call && is_running a.condition.mode) ≡ true
    → h ≡ a.history.items ++ Asked env n call ∷ [] → ops ≡ with_posted a.ops (record { ticket = record { env = env; thread = a.number; no = n }; call = call; buf = buf })
    → IsAsked t (thread_with a h ops.statuses) env call (asked.Waiting (record { env = env; thread = a.number; no = n }))
later_told a t env n call buf h ops s et k off e eo =
    let u : Ticket = record { env = env; thread = a.number; no = n } in
    let more : open_in (said_in ops.statuses) (asked_in a.number h) ≡ (thread_in a).uncollected ++ u ∷ [] =
    rw (e, eo, said-with_call env Waiting a.ops.statuses) (open_later a.limits a.number a.history.items a.ops.waiting (said_in a.ops.statuses) env n call k.there k.number s.1) in
    subst (λ (z : Thread). IsAsked z (thread_with a h ops.statuses) env call (asked.Waiting u)) et
    (told_waits a env n call h (open_in (said_in ops.statuses) (asked_in a.number h)) s.0 k.number off e more)

tells_steps : (limits : Limits) (number : ThreadNo) (h : List Entry) (waiting : List Pending) (statuses : List (List CallStatus)) (steps : List Step) → Tells limits number h waiting statuses → Tells limits number (h ++ steps_of steps) waiting statuses
tells_steps limits number h waiting statuses [] s = rw append-nil s
tells_steps limits number h waiting statuses (x ∷ steps) s =
    subst (λ z. Tells limits number z waiting statuses) (append_assoc h (Own x ∷ []) (steps_of steps)) (tells_steps limits number (h ++ Own x ∷ []) waiting statuses steps (tells_plain limits number h waiting statuses (Own x) refl s))

pub served_after : (a : Inside) (steps : List Step) (x : Entry) (v : ThreadView) (h : List Entry) (ops : Ops) → IsWhole a → Ran a steps → is_hand_over x ≡ true → after (view a.limits (a.history.items ++ steps_of steps)) x ≡ v
    → h ≡ (a.history.items ++ steps_of steps) ++ x ∷ [] → ops.waiting ≡ [] → said_in ops.statuses ≡ delivered (answers_of v a.ops.waiting) (said_in a.ops.statuses)
    → Tells a.limits a.number h ops.waiting (said_in ops.statuses)
served_after a steps x v h ops s t hx ev e none given =
    let h1 = a.history.items ++ steps_of steps in
    let w : (history_state a.limits h1).waiting ≡ entries_of a.ops.waiting = ap (λ (z : HistoryState). z.waiting) t.state in
    let all = tells_hand a.limits a.number h1 a.ops.waiting (said_in a.ops.statuses) x hx w (tells_steps a.limits a.number a.history.items a.ops.waiting (said_in a.ops.statuses) steps s.1) in
    rw (e, none, given) (subst (λ z. Tells a.limits a.number (h1 ++ x ∷ []) [] (delivered (answers_of z a.ops.waiting) (said_in a.ops.statuses))) ev all)

pub served_thread : (a : Inside) (t : Thread) (steps : List Step) (x : Entry) (v : ThreadView) (h : List Entry) (ops : Ops) → IsWhole a → thread_in a ≡ t → is_hand_over x ≡ true
    → h ≡ (a.history.items ++ steps_of steps) ++ x ∷ [] → said_in ops.statuses ≡ delivered (answers_of v a.ops.waiting) (said_in a.ops.statuses)
    → thread_with a h ops.statuses ≡ with_more t (steps_of steps ++ x ∷ [])
served_thread a t steps x v h ops s et hx e given =
    let h1 = a.history.items ++ steps_of steps in
    let same : asked_in a.number h ≡ asked_in a.number a.history.items = ap (asked_in a.number) e ∙ asked_stay a.number h1 x (no_ticket a.number x (hand_free x hx)) ∙ asked-steps a.number a.history.items steps in
    let open_ones : open_in (said_in ops.statuses) (asked_in a.number h) ≡ (thread_in a).uncollected =
    ap (λ f. open_in f (asked_in a.number h)) given ∙ ap (open_in (delivered (answers_of v a.ops.waiting) (said_in a.ops.statuses))) same
    ∙ open_hand (said_in a.ops.statuses) v a.ops.waiting (asked_in a.number a.history.items) s.1.awaited s.1.apart in
    ap (λ l. record { limits = a.limits; number = a.number; history = l; uncollected = open_in (said_in ops.statuses) (asked_in a.number h) }) (e ∙ append_assoc a.history.items (steps_of steps) (x ∷ []))
    ∙ ap (λ ts. record { limits = a.limits; number = a.number; history = a.history.items ++ (steps_of steps ++ x ∷ []); uncollected = ts }) open_ones
    ∙ ap (λ (z : Thread). with_more z (steps_of steps ++ x ∷ [])) et

-- the slot after a hand-over
pub hand_whole : (a : Inside) (t : Thread) (steps : List Step) (safe : Safe) (fr fr' : Stack) (h : Recorded Entry) (c : Condition) (own : ℕ) (ops : Ops) → IsWhole a → thread_in a ≡ t → Hands a steps safe fr
    → h.items ≡ (a.history.items ++ steps_of steps) ++ Hand safe ∷ [] → shelf h ≡ shelf a.history → fr'.depth ≡ a.limits.depth → own ≡ a.own + length steps + own_cost (Hand safe)
    → view_of c fr'.frames ≡ fold after (view_of (at_mode a.condition (mode.AtSafe safe)) fr.frames) (entries_of a.ops.waiting)
    → ops.waiting ≡ [] → said_in ops.statuses ≡ delivered (answers_of (view_of (at_mode a.condition (mode.AtSafe safe)) fr.frames) a.ops.waiting) (said_in a.ops.statuses) → ops.window ≡ a.ops.window
    → Refines a.limits h.items (shelf h) c (Some fr') a.log own (history_state a.limits h.items).costs ops × Tells a.limits a.number h.items ops.waiting (said_in ops.statuses)
hand_whole a t steps safe fr fr' h c own ops s et k e le depth oe served none given window =
    let here = ap (view_of (at_mode a.condition (mode.AtSafe safe))) (sym k.frames) in (
      laws.own_costs a.limits h.items (shelf h) c (Some fr') a.log own (costs_in a) ops (laws.serve_stands a.limits (a.history.items ++ steps_of steps) (shelf a.history) (shelf h) a.condition c a.log (a.own + length steps) own (costs_in a) a.ops ops (Hand safe) (mode.AtSafe safe) fr fr' h.items k.ran k.may e le
          refl here refl refl depth served none window oe (charged_free (costs_in a) (Hand safe) refl)),
      served_after a steps (Hand safe) _ h.items ops s k.ran refl (ap (λ v. after v (Hand safe)) (ran_view a steps k.ran) ∙ here) e none given,
    )

-- and after the end, with no frames
pub end_whole : (a : Inside) (t : Thread) (steps : List Step) (fr cleared fr' : Stack) (h : Recorded Entry) (c : Condition) (own : ℕ) (ops : Ops) → IsWhole a → thread_in a ≡ t → Ran a steps
    → may_follow a.limits (a.history.items ++ steps_of steps) End ≡ true → h.items ≡ (a.history.items ++ steps_of steps) ++ End ∷ [] → shelf h ≡ shelf a.history
    → cleared ≡ with_frames fr [] → fr'.depth ≡ a.limits.depth → own ≡ a.own + length steps
    → view_of c fr'.frames ≡ fold after (view_of (at_mode a.condition mode.Ended) cleared.frames) (entries_of a.ops.waiting)
    → ops.waiting ≡ [] → said_in ops.statuses ≡ delivered (answers_of (view_of (at_mode a.condition mode.Ended) cleared.frames) a.ops.waiting) (said_in a.ops.statuses) → ops.window ≡ a.ops.window
    → Refines a.limits h.items (shelf h) c (Some fr') a.log own (history_state a.limits h.items).costs ops × Tells a.limits a.number h.items ops.waiting (said_in ops.statuses)
end_whole a t steps fr cleared fr' h c own ops s et ran may e le ec depth oe served none given window =
    let here = ap (view_of (at_mode a.condition mode.Ended)) (sym (ap (λ (f : Stack). f.frames) ec)) in (
      laws.own_costs a.limits h.items (shelf h) c (Some fr') a.log own (costs_in a) ops (laws.serve_stands a.limits (a.history.items ++ steps_of steps) (shelf a.history) (shelf h) a.condition c a.log (a.own + length steps) own (costs_in a) a.ops ops End mode.Ended cleared fr' h.items ran may e le
          refl here refl refl depth served none window (omega (arith, oe)) (charged_free (costs_in a) End refl)),
      served_after a steps End _ h.items ops s ran refl (ap (λ v. after v End) (ran_view a steps ran) ∙ here) e none given,
    )

-- the calls that wait have no answer yet
pub awaited_here : (statuses : List (List CallStatus)) (waiting : List Pending) → AreAwaited (said_in statuses) waiting → AreAwaited statuses waiting
awaited_here statuses [] k = tt
awaited_here statuses (p ∷ waiting) k = (waits-said (status_of p.ticket statuses) (sym (status-said p.ticket statuses) ∙ k.0), awaited_here statuses waiting k.1)

told_said : (x : CallStatus) → option_map said (answer_by x) ≡ answer_by (said_status x)
told_said Waiting = refl
told_said (Answered a) = refl
told_said Gone = refl

pub collected : (a : Inside) (t : Ticket) (r : Option Answer) → IsWhole a → t.thread.0 ≡ a.number.0 → r ≡ answer_by (status_of t a.ops.statuses)
    → option_map said r ≡ (if has t (thread_in a).uncollected then reply_to a.limits a.history.items t else None)
collected a t r s e er =
    ap (option_map said) er ∙ told_said (status_of t a.ops.statuses) ∙ ap answer_by (sym (status-said t a.ops.statuses))
    ∙ collected_is a.limits a.number a.history.items a.ops.waiting (said_in a.ops.statuses) t e s.1

open_status : (x : CallStatus) → is_open (said_status x) ≡ is_open x
open_status Waiting = refl
open_status (Answered a) = refl
open_status Gone = refl

pub out_here : (a : Inside) (t : Ticket) → IsWhole a → t.thread.0 ≡ a.number.0 → is_open (status_of t a.ops.statuses) ≡ has t (thread_in a).uncollected
out_here a t s e =
    sym (open_status (status_of t a.ops.statuses)) ∙ ap is_open (sym (status-said t a.ops.statuses))
    ∙ out_is a.limits a.number a.history.items a.ops.waiting (said_in a.ops.statuses) t e s.1

pub collected_none : (a : Inside) (t : Ticket) → IsWhole a → (t.thread.0 ≡ a.number.0 → ⊥) → has t (thread_in a).uncollected ≡ false
collected_none a t s e = not_mine a.limits a.number a.history.items a.ops.waiting (said_in a.ops.statuses) t e s.1

-- a call of an environment is out if something is left of the call of its number
out_as : (a : Inside) (env : EnvNo) (k : Ticket) → IsWhole a → k.env.0 ≡ env.0 → k.thread.0 ≡ a.number.0 → has k (thread_in a).uncollected ≡ is_open (status_of (call_at env k.no) a.ops.statuses)
out_as a env k s here at = sym (out_here a k s at) ∙ ap (λ (e : ℕ). is_open (get_or (get_or a.ops.statuses e []) k.no Gone)) here

-- none of an environment's calls between two numbers is out, if nothing is left of them
pub none_out : (a : Inside) (env : EnvNo) (from past : ℕ) → IsWhole a → ((n : ℕ) → from ≤ n → n < past → is_open (status_of (call_at env n) a.ops.statuses) ≡ false) → NoneBetween (thread_in a).uncollected env from past
none_out a env from past s none k here above below =
    elim (cases_eq k.thread.0 a.number.0) [
      | inl at ↦ out_as a env k s here at ∙ none k.no above below
      | inr other ↦ collected_none a k s other
    ]

pub first_out : (a : Inside) (env : EnvNo) (from n : ℕ) → IsWhole a → IsFirstFrom (λ m. is_open (status_of (call_at env m) a.ops.statuses)) from (Some n)
    → IsNextOut a.number (thread_in a).uncollected env from (Some (record { env = env; thread = a.number; no = n }))
first_out a env from n s f = (refl, refl, f.0, out_as a env (record { env = env; thread = a.number; no = n }) s refl refl ∙ f.1, none_out a env from n s (λ m above below. f.2 m above below))

told_status : (x : CallStatus) (b : Answer) → answer_by x ≡ Some b → x ≡ Answered b
told_status Waiting b e = cc
told_status (Answered c) b e = cc
told_status Gone b e = cc

said_told : (a : Inside) (t : Ticket) (b : Answer) → Some b ≡ answer_by (status_of t a.ops.statuses) → status_of t (said_in a.ops.statuses) ≡ Answered (said b)
said_told a t b e = status-said t a.ops.statuses ∙ ap said_status (told_status (status_of t a.ops.statuses) b (sym e))

pub less_after : (a : Inside) (t : Ticket) (ops : Ops) (r : Option Answer) → IsWhole a → r ≡ answer_by (status_of t a.ops.statuses) → ops ≡ with_statuses a.ops (if is_some r then with_status t Gone a.ops.statuses else a.ops.statuses)
    → Tells a.limits a.number a.history.items ops.waiting (said_in ops.statuses)
less_after a t ops None s er e = rw e s.1
less_after a t ops (Some b) s er e =
    rw (e, said-with_status t Gone a.ops.statuses) (tells_less a.limits a.number a.history.items a.ops.waiting (said_in a.ops.statuses) t (said b) (said_told a t b er) s.1)

pub less_stands : (a : Inside) (ops : Ops) (statuses : List (List CallStatus)) → IsSlot a → ops ≡ with_statuses a.ops statuses
    → Refines a.limits a.history.items (shelf a.history) a.condition a.frames a.log a.own (costs_in a) ops
less_stands a ops statuses s e =
    rw e (record {
      legal = s.legal;
      state = s.state;
      frames_home = s.frames_home;
      log_home = s.log_home;
      room = s.room;
      window = s.window;
      ready = s.ready;
      calls = s.calls;
    })

-- the tickets without the one that was collected
pub less_open : (a : Inside) (t : Ticket) (ops : Ops) (r : Option Answer) → IsWhole a → t.thread.0 ≡ a.number.0 → r ≡ answer_by (status_of t a.ops.statuses) → ops ≡ with_statuses a.ops (if is_some r then with_status t Gone a.ops.statuses else a.ops.statuses)
    → open_in (said_in ops.statuses) (asked_in a.number a.history.items) ≡ (if is_some r then without_ticket t (thread_in a).uncollected else (thread_in a).uncollected)
less_open a t ops None s et er e = rw e refl
less_open a t ops (Some b) s et er e =
    rw (e, said-with_status t Gone a.ops.statuses) (open_taken a.limits a.number a.history.items a.ops.waiting (said_in a.ops.statuses) t (said b) et (said_told a t b er) s.1)
