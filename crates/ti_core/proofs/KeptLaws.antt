-- Which tickets a core has given out and not answered to.
use Rattle.std.proofs.Common.{◌≡◌, ◌≢◌, ℕ, ◌<◌, Bool, true, false, not, ◌&&◌, ◌||◌, nat_lt, cond, List, [], ◌∷◌, length, refl, ap, sym, ◌∙◌, arith, Option, Some, None, is_none, slice_set, get_or-set_same, get_or-set_other, inl, inr, ltb-true}
use Rattle.std.proofs.lemmas.List.{set_past}
use Rattle.std.proofs.lemmas.Bool.Decides.{nat_tests}
use Rattle.std.proofs.lemmas.Bool.{cases_eq, cases_Bool}
use Rattle.std.proofs.lemmas.List.Folds.{list_any-append}
use Rattle.ti_types.specs.declared.limits.Limits.{Limits}
use Rattle.ti_types.specs.declared.numbers.EnvNo.{EnvNo}
use Rattle.ti_types.specs.declared.numbers.ThreadNo.{ThreadNo}
use Rattle.ti_types.specs.declared.call.Call.{Call}
use Rattle.ti_types.specs.declared.entry.Entry.{Entry}
use Rattle.ti_types.specs.declared.entry.Entry.TheVariants as entry
use Rattle.ti_types.specs.declared.event.Event.{Event}
use Rattle.ti_types.specs.declared.event.Event.TheVariants.{Start, Own, Poll, ToNative, ToBlocked, Back, End, Ask, Stop, Read, Go, AddCaps, Relinquish, GetCaps, SetEnvWord, GetEnvWord}
use Rattle.ti_types.specs.declared.event.Ticket.{Ticket}
use Rattle.ti_types.specs.declared.event.Outcome.{Outcome}
use Rattle.ti_types.specs.declared.event.Outcome.TheVariants as outcome
use Rattle.ti_types.specs.declared.answer.Answer.{Answer}
use Rattle.ti_types.specs.declared.error.TiError.{TiError}
use Rattle.ti_types.specs.declared.state.Safe.TheVariants.{Native, Blocked}
use Rattle.ti_replay.specs.Admission.{Happening}
use Rattle.ti_replay.specs.Events.{given, history_of}
use Rattle.ti_replay.specs.Outcomes.{told_now}
use Rattle.std.proofs.Math.ListN.{get_or-eq_default}
use Rattle.ti_replay.specs.View.{view}
use Rattle.ti_replay.specs.HistoryState.{HistoryState}
use Rattle.ti_replay.specs.Standing.{is_standing}
use Rattle.ti_replay.specs.Tickets.{reply_to}
use Rattle.ti_core.proofs.CallLaws.{fresh_ticket, asked_same}
use Rattle.ti_replay.proofs.LoggedLaws.{logged, logged_reply}
use Rattle.ti_slot.specs.Tickets.{has, same, without_ticket, AreOnce}
use Rattle.ti_slot.specs.Thread.{Thread, ticket_of}
use Rattle.ti_core.specs.Thread.{ThreadState, own_next, entered_unless, refusal_at, poll_next, reply_now, tickets_after, ask_next, taken}
use Rattle.ti_core.specs.Threads.{IfPosted, is_ticket_of}
use Rattle.ti_core.specs.Core.{CoreState, StepResult, thread_at, no_thread, stepped_by, core_told, core_taken, is_uncollected, posts, refused_or_else, stepped_own, IsTicketOf}
use Rattle.ti_replay.specs.Legal.{asked_by}
use Rattle.ti_core.specs.Runs.{IsTicketBy}
use Rattle.ti_core.specs.Refines.{Refines}
use Rattle.ti_core.proofs.ThreadLaws.{entered_tickets}
use Rattle.ti_core.proofs.StepLaws.{env_threads, is_alone, happened, whys, in_core, ask_there, stop_there, read_there, go_there}

or_false : (b : Bool) → (b || false) ≡ b
or_false true = refl
or_false false = refl

-- one thread moves, and its tickets are these
moved_kept : (limits : Limits) (threads : List ThreadState) (u : ThreadNo) (x : ThreadState) (k : Ticket) (b : Bool) → u.0 < length threads
    → (k.thread.0 ≡ u.0 → has k x.thread.uncollected ≡ (has k (thread_at limits threads u).thread.uncollected || b)) → (k.thread.0 ≢ u.0 → b ≡ false)
    → has k (thread_at limits (slice_set threads u.0 x) k.thread).thread.uncollected ≡ (has k (thread_at limits threads k.thread).thread.uncollected || b)
moved_kept limits threads u x k b there here away =
    elim (cases_eq k.thread.0 u.0) [
      | inl at ↦
          let z : k.thread ≡ u = ap (λ (n : ℕ). record { 0 = n }) at in
          let q : thread_at limits (slice_set threads u.0 x) u ≡ x = get_or-set_same threads u.0 x _ there in
          ap (λ (v : ThreadNo). has k (thread_at limits (slice_set threads u.0 x) v).thread.uncollected) z ∙ ap (λ (y : ThreadState). has k y.thread.uncollected) q ∙ here at
          ∙ ap (λ (v : ThreadNo). has k (thread_at limits threads v).thread.uncollected || b) (sym z)
      | inr other ↦
          let q : thread_at limits (slice_set threads u.0 x) k.thread ≡ thread_at limits threads k.thread = get_or-set_other threads u.0 k.thread.0 x _ other in
          ap (λ (y : ThreadState). has k y.thread.uncollected) q ∙ sym (or_false (has k (thread_at limits threads k.thread).thread.uncollected)) ∙ ap (λ c. has k (thread_at limits threads k.thread).thread.uncollected || c) (sym (away other))
    ]

-- one thread may move, and keeps its tickets
still_kept : (limits : Limits) (threads threads' : List ThreadState) (u : ThreadNo) (x : ThreadState) (k : Ticket) (goes : Bool) → (goes ≡ true → u.0 < length threads) → threads' ≡ cond goes (slice_set threads u.0 x) threads
    → x.thread.uncollected ≡ (thread_at limits threads u).thread.uncollected
    → has k (thread_at limits threads' k.thread).thread.uncollected ≡ (has k (thread_at limits threads k.thread).thread.uncollected || false)
still_kept limits threads threads' u x k true there e same_ts =
    ap (λ ts. has k (thread_at limits ts k.thread).thread.uncollected) e
    ∙ moved_kept limits threads u x k false (there refl) (λ h. ap (has k) same_ts ∙ sym (or_false (has k (thread_at limits threads u).thread.uncollected))) (λ h. refl)
still_kept limits threads threads' u x k false there e same_ts = ap (λ ts. has k (thread_at limits ts k.thread).thread.uncollected) e ∙ sym (or_false (has k (thread_at limits threads k.thread).thread.uncollected))

own_tickets : (limits : Limits) (s : ThreadState) (x : Entry) (r : Option TiError) → (entered_unless r s x).thread.uncollected ≡ s.thread.uncollected
own_tickets limits s x None = entered_tickets s x
own_tickets limits s x (Some error) = refl

poll_tickets : (limits : Limits) (s : ThreadState) → (poll_next limits s).thread.uncollected ≡ s.thread.uncollected
poll_tickets limits s = grind arith

own_kept : (s : CoreState) (u : ThreadNo) (x : Entry) (k : Ticket) → has k (thread_at s.limits (stepped_own s.limits s.envs s.threads u x).threads k.thread).thread.uncollected ≡ (has k (thread_at s.limits s.threads k.thread).thread.uncollected || false)
own_kept s u x k =
    let t = thread_at s.limits s.threads u in
    still_kept s.limits s.threads (stepped_own s.limits s.envs s.threads u x).threads u (own_next t.thread.limits t x) k (nat_lt u.0 (length s.threads)) (λ h. ltb-true _ _ h) (grind arith) (own_tickets t.thread.limits t x (refusal_at t.thread.limits t x))

tickets_has : (t : Thread) (e : EnvNo) (r : Option Answer) (k : Ticket) → has k (tickets_after t e r) ≡ (has k t.uncollected || (is_none (given r) && same (ticket_of t e) k))
tickets_has t e None k = list_any-append (λ v. same v k) t.uncollected (ticket_of t e ∷ []) ∙ grind arith
tickets_has t e (Some a) k = sym (or_false (has k t.uncollected))

other_thread : (t : Thread) (e : EnvNo) (u : ThreadNo) (k : Ticket) → t.number ≡ u → k.thread.0 ≢ u.0 → same (ticket_of t e) k ≡ false
other_thread t e u k n h = grind (arith, nat_tests, n, h)

and_false : (b : Bool) → (b && false) ≡ false
and_false true = refl
and_false false = refl

ask_kept : (events : List Happening) (s : CoreState) (w : Bool) (e : EnvNo) (u : ThreadNo) (call : Call) (k : Ticket) → Refines events s → is_none (whys s w (Ask e u call)) ≡ true → u.0 < length s.threads
    → has k (thread_at s.limits (slice_set s.threads u.0 (ask_next (thread_at s.limits s.threads u).thread.limits (thread_at s.limits s.threads u) e call)) k.thread).thread.uncollected
    ≡ (has k (thread_at s.limits s.threads k.thread).thread.uncollected || (is_none (given (reply_now (thread_at s.limits s.threads u).thread.limits (thread_at s.limits s.threads u) e call)) && same (ticket_of (thread_at s.limits s.threads u).thread e) k))
ask_kept events s w e u call k st free there =
    let t = thread_at s.limits s.threads u in
    let r = reply_now t.thread.limits t e call in
    let n : t.thread.number ≡ u = (st.threads u (omega (arith, there, st.thread_count))).number_is in
    moved_kept s.limits s.threads u (ask_next t.thread.limits t e call) k (is_none (given r) && same (ticket_of t.thread e) k) there
    (λ h. tickets_has t.thread e r k) (λ h. ap (λ b. is_none (given r) && b) (other_thread t.thread e u k n h) ∙ and_false (is_none (given r)))

refused_kept : (s : CoreState) (why : Option TiError) (other : StepResult) (k : Ticket) (b : Bool) → (why ≡ None → has k (thread_at s.limits other.threads k.thread).thread.uncollected ≡ (has k (thread_at s.limits s.threads k.thread).thread.uncollected || (is_none other.told && b)))
    → has k (thread_at s.limits (refused_or_else s.envs s.threads why other).threads k.thread).thread.uncollected ≡ (has k (thread_at s.limits s.threads k.thread).thread.uncollected || (is_none (refused_or_else s.envs s.threads why other).told && b))
refused_kept s None other k b h = h refl
refused_kept s (Some error) other k b h = sym (or_false (has k (thread_at s.limits s.threads k.thread).thread.uncollected))

held_kept : (s : CoreState) (why : Option TiError) (other : StepResult) (u : ThreadNo) (x : ThreadState) (k : Ticket) → (why ≡ None → u.0 < length s.threads) → other.threads ≡ slice_set s.threads u.0 x → x.thread.uncollected ≡ (thread_at s.limits s.threads u).thread.uncollected
    → has k (thread_at s.limits (refused_or_else s.envs s.threads why other).threads k.thread).thread.uncollected ≡ (has k (thread_at s.limits s.threads k.thread).thread.uncollected || false)
held_kept s None other u x k there e same_ts = still_kept s.limits s.threads other.threads u x k true (λ h. there refl) e same_ts
held_kept s (Some error) other u x k there e same_ts = sym (or_false (has k (thread_at s.limits s.threads k.thread).thread.uncollected))

alone_kept : (s : CoreState) (w : Bool) (event : Event) (k : Ticket) → is_alone event ≡ true
    → has k (thread_at s.limits (stepped_by s.limits s.envs s.threads w event).threads k.thread).thread.uncollected ≡ (has k (thread_at s.limits s.threads k.thread).thread.uncollected || false)
alone_kept s w event k h = ap (λ ts. has k (thread_at s.limits ts k.thread).thread.uncollected) (env_threads s w event h) ∙ sym (or_false (has k (thread_at s.limits s.threads k.thread).thread.uncollected))

-- an event posts its ticket, and takes none away
pub kept_goes : (events : List Happening) (s : CoreState) (w : Bool) (event : Event) (k : Ticket) → Refines events s
    → has k (thread_at s.limits (stepped_by s.limits s.envs s.threads w event).threads k.thread).thread.uncollected ≡ (has k (thread_at s.limits s.threads k.thread).thread.uncollected || posts s (happened event w) event k)
kept_goes events s w (Start u) k st = own_kept s u entry.Start k
kept_goes events s w (Own u step) k st = own_kept s u (entry.Own step) k
kept_goes events s w (ToNative u) k st = own_kept s u (entry.Hand Native) k
kept_goes events s w (ToBlocked u kind) k st = own_kept s u (entry.Hand (Blocked kind)) k
kept_goes events s w (Back u) k st = own_kept s u entry.Back k
kept_goes events s w (End u) k st = own_kept s u entry.End k
kept_goes events s w (Poll u) k st =
    let t = thread_at s.limits s.threads u in
    still_kept s.limits s.threads _ u (poll_next t.thread.limits t) k (nat_lt u.0 (length s.threads)) (λ h. ltb-true _ _ h) (grind arith) (poll_tickets t.thread.limits t)
kept_goes events s w (Ask e u call) k st =
    let why = whys s w (Ask e u call) in
    refused_kept s why _ k (same (ticket_of (thread_at s.limits s.threads u).thread e) k)
    (λ h. ask_kept events s w e u call k st (ap is_none h) (in_core events s u st (ask_there events s w e u call st (ap is_none h))))
kept_goes events s w (Stop e u) k st = held_kept s (whys s w (Stop e u)) _ u _ k (λ h. in_core events s u st (stop_there events s w e u st (ap is_none h))) refl refl
kept_goes events s w (Read e u n) k st = held_kept s (whys s w (Read e u n)) _ u _ k (λ h. in_core events s u st (read_there events s w e u n st (ap is_none h))) refl refl
kept_goes events s w (Go e u) k st = held_kept s (whys s w (Go e u)) _ u _ k (λ h. in_core events s u st (go_there events s w e u st (ap is_none h))) refl refl
kept_goes events s w (AddCaps e caps) k st = alone_kept s w (AddCaps e caps) k refl
kept_goes events s w (Relinquish e caps) k st = alone_kept s w (Relinquish e caps) k refl
kept_goes events s w (GetCaps e) k st = alone_kept s w (GetCaps e) k refl
kept_goes events s w (SetEnvWord e v) k st = alone_kept s w (SetEnvWord e v) k refl
kept_goes events s w (GetEnvWord e) k st = alone_kept s w (GetEnvWord e) k refl

not_ticket : (o : Outcome) (k : Ticket) {P : Ticket → Type 0} → ((v : Ticket) → P v → ⊥) → IfPosted o P → false ≡ is_ticket_of o k
not_ticket outcome.Done k n p = refl
not_ticket outcome.Clear k n p = refl
not_ticket outcome.Went k n p = refl
not_ticket outcome.Held k n p = refl
not_ticket (outcome.Refused error) k n p = refl
not_ticket (outcome.Gave a) k n p = refl
not_ticket (outcome.Posted ticket) k n p = absurd (n ticket p)

ask_posted : (t : Ticket) (o : Outcome) (told : Option Outcome) (k : Ticket) → told_now o ≡ told → (A B : Type 0) → IfPosted o (λ u. A × (B × (u ≡ t))) → (is_none told && same t k) ≡ is_ticket_of o k
ask_posted t outcome.Done told k e A B p = rw (sym e) refl
ask_posted t outcome.Clear told k e A B p = rw (sym e) refl
ask_posted t outcome.Went told k e A B p = rw (sym e) refl
ask_posted t outcome.Held told k e A B p = rw (sym e) refl
ask_posted t (outcome.Refused error) told k e A B p = rw (sym e) refl
ask_posted t (outcome.Gave a) told k e A B p = rw (sym e) refl
ask_posted t (outcome.Posted ticket) told k e A B p = rw (sym e) (ap (λ u. same u k) (sym p.1.1))

-- what was posted is what the outcome says
pub posted_is : (s : CoreState) (h : Happening) (event : Event) (o : Outcome) (k : Ticket) → told_now o ≡ core_told s h → IfPosted o (λ u. IsTicketOf s.limits s.envs s.threads event u) → posts s h event k ≡ is_ticket_of o k
posted_is s h (Start u) o k e p = not_ticket o k (λ v q. q) p
posted_is s h (Own u step) o k e p = not_ticket o k (λ v q. q) p
posted_is s h (ToNative u) o k e p = not_ticket o k (λ v q. q) p
posted_is s h (ToBlocked u kind) o k e p = not_ticket o k (λ v q. q) p
posted_is s h (Back u) o k e p = not_ticket o k (λ v q. q) p
posted_is s h (End u) o k e p = not_ticket o k (λ v q. q) p
posted_is s h (Poll u) o k e p = not_ticket o k (λ v q. q) p
posted_is s h (Stop f u) o k e p = not_ticket o k (λ v q. q) p
posted_is s h (Read f u n) o k e p = not_ticket o k (λ v q. q) p
posted_is s h (Go f u) o k e p = not_ticket o k (λ v q. q) p
posted_is s h (AddCaps f caps) o k e p = not_ticket o k (λ v q. q) p
posted_is s h (Relinquish f caps) o k e p = not_ticket o k (λ v q. q) p
posted_is s h (GetCaps f) o k e p = not_ticket o k (λ v q. q) p
posted_is s h (SetEnvWord f v) o k e p = not_ticket o k (λ v q. q) p
posted_is s h (GetEnvWord f) o k e p = not_ticket o k (λ v q. q) p
posted_is s h (Ask f u call) o k e p = ask_posted (ticket_of (thread_at s.limits s.threads u).thread f) o (core_told s h) k e (u.0 < length s.threads) (f.0 < length s.envs) p

-- an answer that is taken
without_has : (k t : Ticket) (ts : List Ticket) → AreOnce ts → has k (without_ticket t ts) ≡ (has k ts && not (same t k))
without_has k t [] h = refl
without_has k t (x ∷ ts) h = grind (arith, nat_tests, without_has k t ts h.1, h.0)

no_find : (found there : Bool) → there ≡ false → (found ≡ true → there ≡ true) → found ≡ false
no_find true there e h = sym (h refl) ∙ e
no_find false there e h = refl

taken_tickets : (k t : Ticket) (ts : List Ticket) (found : Bool) → AreOnce ts → has k (cond found (without_ticket t ts) ts) ≡ (has k ts && not (same t k && found))
taken_tickets k t ts true h = without_has k t ts h ∙ grind arith
taken_tickets k t ts false h = grind arith

taken_there : (s : CoreState) (t k : Ticket) (found : Bool) → t.thread.0 < length s.threads → AreOnce (thread_at s.limits s.threads t.thread).thread.uncollected
    → is_uncollected (core_taken s t found) k ≡ (is_uncollected s k && not (same t k && found))
taken_there s t k found lt once =
    let x = taken (thread_at s.limits s.threads t.thread) t found in
    elim (cases_eq k.thread.0 t.thread.0) [
      | inl at ↦
          let z : k.thread ≡ t.thread = ap (λ (n : ℕ). record { 0 = n }) at in
          let q : thread_at s.limits (slice_set s.threads t.thread.0 x) t.thread ≡ x = get_or-set_same s.threads t.thread.0 x _ lt in
          ap (λ (v : ThreadNo). has k (thread_at s.limits (slice_set s.threads t.thread.0 x) v).thread.uncollected) z ∙ ap (λ (y : ThreadState). has k y.thread.uncollected) q
          ∙ taken_tickets k t (thread_at s.limits s.threads t.thread).thread.uncollected found once
          ∙ ap (λ (v : ThreadNo). has k (thread_at s.limits s.threads v).thread.uncollected && not (same t k && found)) (sym z)
      | inr other ↦
          let q : thread_at s.limits (slice_set s.threads t.thread.0 x) k.thread ≡ thread_at s.limits s.threads k.thread = get_or-set_other s.threads t.thread.0 k.thread.0 x _ other in
          let n : same t k ≡ false = grind (arith, nat_tests, other) in
          ap (λ (y : ThreadState). has k y.thread.uncollected) q ∙ (let b = is_uncollected s k in grind (arith, n))
    ]

pub taken_kept : (events : List Happening) (s : CoreState) (t k : Ticket) (found : Bool) → Refines events s → (found ≡ true → t.thread.0 < length s.threads)
    → is_uncollected (core_taken s t found) k ≡ (is_uncollected s k && not (same t k && found))
taken_kept events s t k found st there =
    elim (cases_Bool (nat_lt t.thread.0 (length s.threads))) [
      | inl in_range ↦
          let lt = ltb-true _ _ in_range in
          let u = thread_at s.limits s.threads t.thread in
          let once = (st.threads t.thread (omega (arith, lt, st.thread_count))).once in
          taken_there s t k found lt once
      | inr beyond ↦
          let off : found ≡ false = no_find found (nat_lt t.thread.0 (length s.threads)) beyond (λ h. grind (arith, nat_tests, there h)) in
          let e : slice_set s.threads t.thread.0 (taken (thread_at s.limits s.threads t.thread) t found) ≡ s.threads = set_past s.threads t.thread.0 _ (grind (arith, nat_tests, beyond)) in
          ap (λ ts. has k (thread_at s.limits ts k.thread).thread.uncollected) e ∙ (let b = is_uncollected s k in grind (arith, off))
    ]

-- a ticket that is given out was none before
fresh_posted : (events : List Happening) (s : CoreState) (event : Event) (k : Ticket) → Refines events s → IsTicketOf s.limits s.envs s.threads event k → is_uncollected s k ≡ false
fresh_posted events s (Ask e t call) k st p =
    let u = thread_at s.limits s.threads t in
    let l : t.0 < s.limits.threads = (let q = p.0 in omega (arith, q, st.thread_count)) in
    let here = st.threads t l in
    let at : k.thread ≡ t = ap (λ (z : Ticket). z.thread) p.1.1 ∙ here.number_is in
    ap (λ (v : ThreadNo). has k (thread_at s.limits s.threads v).thread.uncollected) at ∙ ap (λ z. has z u.thread.uncollected) p.1.1 ∙ fresh_ticket u e here.known
fresh_posted events s (Start u) k st p = absurd p
fresh_posted events s (Own u step) k st p = absurd p
fresh_posted events s (ToNative u) k st p = absurd p
fresh_posted events s (ToBlocked u kind) k st p = absurd p
fresh_posted events s (Back u) k st p = absurd p
fresh_posted events s (End u) k st p = absurd p
fresh_posted events s (Poll u) k st p = absurd p
fresh_posted events s (Stop f u) k st p = absurd p
fresh_posted events s (Read f u n) k st p = absurd p
fresh_posted events s (Go f u) k st p = absurd p
fresh_posted events s (AddCaps f caps) k st p = absurd p
fresh_posted events s (Relinquish f caps) k st p = absurd p
fresh_posted events s (GetCaps f) k st p = absurd p
fresh_posted events s (SetEnvWord f v) k st p = absurd p
fresh_posted events s (GetEnvWord f) k st p = absurd p

pub ticket_fresh : (events : List Happening) (s : CoreState) (event : Event) (o : Outcome) → Refines events s → IfPosted o (λ k. IsTicketOf s.limits s.envs s.threads event k) → IfPosted o (λ k. is_uncollected s k ≡ false)
ticket_fresh events s event outcome.Done st p = tt
ticket_fresh events s event outcome.Clear st p = tt
ticket_fresh events s event outcome.Went st p = tt
ticket_fresh events s event outcome.Held st p = tt
ticket_fresh events s event (outcome.Refused error) st p = tt
ticket_fresh events s event (outcome.Gave a) st p = tt
ticket_fresh events s event (outcome.Posted k) st p = fresh_posted events s event k st p

-- its number is the definitions'
ticket_by : (events : List Happening) (s : CoreState) (event : Event) (k : Ticket) → Refines events s → IsTicketOf s.limits s.envs s.threads event k → IsTicketBy s.limits events event k
ticket_by events s (Ask e t call) k st p =
    let u = thread_at s.limits s.threads t in
    let l : t.0 < s.limits.threads = (let q = p.0 in omega (arith, q, st.thread_count)) in
    let le : e.0 < s.limits.envs = (let q = p.1.0 in omega (arith, q, st.env_count)) in
    let here = st.threads t l in
    let n = asked_same s.limits t (history_of s.limits t events) u e here le in
    p.1.1 ∙ ap (λ (v : ThreadNo). record { env = e; thread = v; no = asked_by e u.thread.history }) here.number_is ∙ ap (λ (m : ℕ). record { env = e; thread = t; no = m }) n
ticket_by events s (Start u) k st p = absurd p
ticket_by events s (Own u step) k st p = absurd p
ticket_by events s (ToNative u) k st p = absurd p
ticket_by events s (ToBlocked u kind) k st p = absurd p
ticket_by events s (Back u) k st p = absurd p
ticket_by events s (End u) k st p = absurd p
ticket_by events s (Poll u) k st p = absurd p
ticket_by events s (Stop f u) k st p = absurd p
ticket_by events s (Read f u n) k st p = absurd p
ticket_by events s (Go f u) k st p = absurd p
ticket_by events s (AddCaps f caps) k st p = absurd p
ticket_by events s (Relinquish f caps) k st p = absurd p
ticket_by events s (GetCaps f) k st p = absurd p
ticket_by events s (SetEnvWord f v) k st p = absurd p
ticket_by events s (GetEnvWord f) k st p = absurd p

pub ticket_as : (events : List Happening) (s : CoreState) (event : Event) (o : Outcome) → Refines events s → IfPosted o (λ k. IsTicketOf s.limits s.envs s.threads event k) → IfPosted o (λ k. IsTicketBy s.limits events event k)
ticket_as events s event outcome.Done st p = tt
ticket_as events s event outcome.Clear st p = tt
ticket_as events s event outcome.Went st p = tt
ticket_as events s event outcome.Held st p = tt
ticket_as events s event (outcome.Refused error) st p = tt
ticket_as events s event (outcome.Gave a) st p = tt
ticket_as events s event (outcome.Posted k) st p = ticket_by events s event k st p

-- what is taken is what the definition's history replies to the ticket
pub taken_is : (events : List Happening) (s : CoreState) (k : Ticket) → Refines events s
    → cond (is_uncollected s k) (reply_to (thread_at s.limits s.threads k.thread).thread.limits (thread_at s.limits s.threads k.thread).thread.history k) None
    ≡ cond (is_uncollected s k) (reply_to s.limits (history_of s.limits k.thread events) k) None
taken_is events s k st =
    elim (cases_Bool (nat_lt k.thread.0 (length s.threads))) [
      | inl in_range ↦
          let l : k.thread.0 < s.limits.threads = (let q = ltb-true _ _ in_range in omega (arith, q, st.thread_count)) in
          let u = thread_at s.limits s.threads k.thread in
          let here = st.threads k.thread l in
          let e : reply_to u.thread.limits u.thread.history k ≡ reply_to s.limits (history_of s.limits k.thread events) k =
          ap (λ (m : Limits). reply_to m u.thread.history k) here.limits_are ∙ sym (logged_reply s.limits u.thread.history u.steps k) ∙ sym (here.alike.replies k) in
          ap (λ r. cond (is_uncollected s k) r None) e
      | inr beyond ↦
          let q : thread_at s.limits s.threads k.thread ≡ no_thread s.limits = get_or-eq_default s.threads (no_thread s.limits) (grind (arith, nat_tests, beyond)) in
          let none : is_uncollected s k ≡ false = ap (λ (y : ThreadState). has k y.thread.uncollected) q in
          rw none refl
    ]

pub standing_is : (events : List Happening) (s : CoreState) (e : EnvNo) (t : ThreadNo) → Refines events s
    → is_standing (thread_at s.limits s.threads t).thread.limits (thread_at s.limits s.threads t).thread.history e ≡ (nat_lt t.0 s.limits.threads && is_standing s.limits (history_of s.limits t events) e)
standing_is events s e t st =
    let u = thread_at s.limits s.threads t in
    elim (cases_Bool (nat_lt t.0 s.limits.threads)) [
      | inl in_range ↦
          let l = ltb-true _ _ in_range in
          let here = st.threads t l in
          let k = logged s.limits u.thread.history u.steps in
          let v = here.alike.state in
          let m : (view s.limits u.thread.history).mode ≡ (view s.limits (history_of s.limits t events)).mode = sym k.mode ∙ ap (λ (z : HistoryState). z.view.mode) (sym v) in
          let n : (view s.limits u.thread.history).stopper ≡ (view s.limits (history_of s.limits t events)).stopper = sym k.stopper ∙ ap (λ (z : HistoryState). z.view.stopper) (sym v) in
          ap (λ (m : Limits). is_standing m u.thread.history e) here.limits_are ∙ rw in_range (grind (arith, m, n))
      | inr beyond ↦
          let q : thread_at s.limits s.threads t ≡ no_thread s.limits = get_or-eq_default s.threads (no_thread s.limits) (grind (arith, nat_tests, beyond, st.thread_count)) in
          ap (λ (y : ThreadState). is_standing y.thread.limits y.thread.history e) q ∙ rw beyond refl
    ]
