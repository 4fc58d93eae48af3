-- Waiting calls take place, answers are collected, and which tickets are open then.
use Rattle.std.proofs.Common.{◌≡◌, ℕ, ◌+◌, ◌<◌, ◌==◌, nat_lt, true, false, ◌&&◌, List, [], ◌∷◌, ◌++◌, refl, ap, sym, ◌∙◌, arith, Option, Some, None, inl, inr, if◌then◌else◌, length, length-set, append-nil, subst}
use Rattle.std.specs.Option.{option_or}
use Rattle.std.proofs.lemmas.Bool.{cases_Bool}
use Rattle.std.proofs.lemmas.Bool.Decides.{nat_tests}
use Rattle.std.proofs.lemmas.List.{get_or_past}
use Rattle.ti_types.specs.declared.limits.Limits.{Limits}
use Rattle.ti_types.specs.declared.numbers.EnvNo.{EnvNo}
use Rattle.ti_types.specs.declared.numbers.ThreadNo.{ThreadNo}
use Rattle.ti_types.specs.declared.event.Ticket.{Ticket}
use Rattle.ti_types.specs.declared.answer.Answer.{Answer}
use Rattle.ti_types.specs.declared.entry.Entry.{Entry}
use Rattle.ti_types.specs.declared.entry.Entry.TheVariants.{Start, Own, Hand, Back, End, Asked, Stop, Read, Go}
use Rattle.ti_types.specs.declared.view.ThreadView.{ThreadView}
use Rattle.ti_ops.specs.declared.status.CallStatus.{CallStatus}
use Rattle.ti_ops.specs.declared.status.CallStatus.TheVariants.{Waiting, Answered, Gone}
use Rattle.ti_ops.specs.declared.pending.Pending.{Pending}
use Rattle.ti_ops.specs.Statuses.{status_of, open_by, with_status, answer_by, is_open}
use Rattle.ti_ops.proofs.StepLaws.{open-with_status}
use Rattle.ti_replay.specs.Settling.{is_hand_over}
use Rattle.ti_replay.specs.View.{view, after, called}
use Rattle.ti_replay.specs.Legal.{asked_by}
use Rattle.ti_replay.specs.HistoryState.{history_state}
use Rattle.ti_replay.specs.Tickets.{is_call_of, reply_in, reply_to}
use Rattle.ti_replay.proofs.TicketReplies.{reply_to-snoc, settling}
use Rattle.ti_slot.specs.Waiting.{answers_of, entries_of, delivered}
use Rattle.ti_slot.specs.Tickets.{same, has, held_by, without_ticket, asked_in, open_in, is_at, AreAwaited, AreApart, AreOnce, Tells}
use Rattle.ti_slot.proofs.CallStatusLaws.{saying_for, status_or, status-with_status, length-with_status, same_status, said_waits, status-delivered, open-delivered, length-delivered, within, envs-delivered}
use Rattle.ti_slot.proofs.TicketLaws.{asked_stay, open_same, open_less, has-open}
use Rattle.ti_slot.proofs.TellLaws.{held-cons, asked-snoc, still, hand_free, no_asking, no_ticket, awaited_on, asked_before}

hand_no_call : (t : Ticket) (x : Entry) → is_hand_over x ≡ true → is_call_of t x ≡ false
hand_no_call t Start h = cc
hand_no_call t (Own step) h = cc
hand_no_call t (Hand safe) h = refl
hand_no_call t Back h = cc
hand_no_call t End h = refl
hand_no_call t (Asked env number call) h = cc
hand_no_call t (Stop env) h = cc
hand_no_call t (Read env n) h = cc
hand_no_call t (Go env) h = cc

replies_are : (w : ThreadView) (waiting : List Pending) (t : Ticket) → reply_in w (entries_of waiting) t ≡ saying_for t (answers_of w waiting)
replies_are w [] t = refl
replies_are w (p ∷ waiting) t = grind (arith, nat_tests, replies_are (called w p.ticket.env p.call) waiting t)

-- a saying, and how it changes the status
data Spoken (t : Ticket) (r : Option Answer) : Type 0 where
  Says : (a : Answer) → r ≡ Some a → Spoken t r
  Silent : r ≡ None → Spoken t r

spoken : (t : Ticket) (r : Option Answer) → Spoken t r
spoken t (Some a) = Says a refl
spoken t None = Silent refl

-- after the waiting calls took place
pub open_hand : (statuses : List (List CallStatus)) (w : ThreadView) (waiting : List Pending) (ts : List Ticket) → AreAwaited statuses waiting → AreApart waiting → open_in (delivered (answers_of w waiting) statuses) ts ≡ open_in statuses ts
open_hand statuses w waiting ts k a =
    let ans = answers_of w waiting in
    let f : (t : Ticket) → status_of t (delivered ans statuses) ≡ status_or (saying_for t ans) (status_of t statuses) = λ t. status-delivered t w waiting statuses k a in
    open_same (delivered ans statuses) statuses ts (λ t h. elim (spoken t (saying_for t ans)) [
      | Says y e ↦
          let told : status_of t (delivered ans statuses) ≡ Answered y = f t ∙ ap (λ q. status_or q (status_of t statuses)) e in
          ap is_open told ∙ sym (ap is_open (said_waits t w waiting statuses y k e))
      | Silent e ↦ ap is_open (f t ∙ ap (λ q. status_or q (status_of t statuses)) e)
    ])

-- the waiting calls take place
pub tells_hand : (limits : Limits) (number : ThreadNo) (h : List Entry) (waiting : List Pending) (statuses : List (List CallStatus)) (x : Entry) → is_hand_over x ≡ true → (history_state limits h).waiting ≡ entries_of waiting
    → Tells limits number h waiting statuses → Tells limits number (h ++ x ∷ []) [] (delivered (answers_of (after (view limits h) x) waiting) statuses)
tells_hand limits number h waiting statuses x hx ew s =
    let v = view limits h in
    let ans = answers_of (after v x) waiting in
    let new = delivered ans statuses in
    let b : (t : Ticket) → reply_in v (settling (history_state limits h) x) t ≡ saying_for t ans =
    λ t. let e : reply_in v (settling (history_state limits h) x) t ≡ reply_in (after v x) (entries_of waiting) t = grind (arith, hx, ew, hand_no_call t x hx) in e ∙ replies_are (after v x) waiting t in
    let r : (t : Ticket) → reply_to limits (h ++ x ∷ []) t ≡ option_or (reply_to limits h t) (saying_for t ans) = λ t. reply_to-snoc limits h x t ∙ ap (option_or (reply_to limits h t)) (b t) in
    let f : (t : Ticket) → status_of t new ≡ status_or (saying_for t ans) (status_of t statuses) = λ t. status-delivered t (after v x) waiting statuses s.awaited s.apart in
    let a : (env : EnvNo) → asked_by env (h ++ x ∷ []) ≡ asked_by env h = λ env. omega (arith, asked-snoc env h x, no_asking env x (hand_free x hx)) in
    let same : asked_in number (h ++ x ∷ []) ≡ asked_in number h = asked_stay number h x (no_ticket number x (hand_free x hx)) in
    record {
      fresh = λ t le.
          let old : reply_to limits h t ≡ None = s.fresh t (omega (arith, a t.env, le)) in
          elim (spoken t (saying_for t ans)) [
            | Says y e ↦ absurd (let w = said_waits t (after v x) waiting statuses y s.awaited e in let k = asked_before limits number h waiting statuses t s (ap is_open w) in omega (arith, k, le, a t.env))
            | Silent e ↦ r t ∙ ap (option_or (reply_to limits h t)) e ∙ ap (λ z. option_or z None) old
          ];
      envs = envs-delivered (after v x) waiting statuses ∙ s.envs;
      lists = λ env. length-delivered env (after v x) waiting statuses s.awaited s.apart ∙ s.lists env ∙ sym (a env);
      quiet = λ t w.
          elim (spoken t (saying_for t ans)) [
            | Says y e ↦ absurd (let z : status_of t new ≡ Answered y = f t ∙ ap (λ q. status_or q (status_of t statuses)) e in cc)
            | Silent e ↦
                let z : status_of t new ≡ status_of t statuses = f t ∙ ap (λ q. status_or q (status_of t statuses)) e in
                r t ∙ ap (option_or (reply_to limits h t)) e ∙ ap (λ q. option_or q None) (s.quiet t (sym z ∙ w))
          ];
      told = λ t y w.
          elim (spoken t (saying_for t ans)) [
            | Says u e ↦
                let z : status_of t new ≡ Answered u = f t ∙ ap (λ q. status_or q (status_of t statuses)) e in
                let old : reply_to limits h t ≡ None = s.quiet t (said_waits t (after v x) waiting statuses u s.awaited e) in
                r t ∙ ap (option_or (reply_to limits h t)) e ∙ ap (λ q. option_or q (Some u)) old ∙ (sym (ap answer_by z) ∙ w)
            | Silent e ↦
                let z : status_of t new ≡ status_of t statuses = f t ∙ ap (λ q. status_or q (status_of t statuses)) e in
                still limits h x t y (s.told t y (ap answer_by (sym z) ∙ w))
          ];
      awaited = tt;
      apart = tt;
      listed = λ t. ap (has t) same ∙ s.listed t ∙ ap (λ m. t.thread.0 == number.0 && nat_lt t.no m) (sym (a t.env));
      once = subst AreOnce (sym same) s.once;
      held = λ env. ap (λ ts. held_by env (open_in new ts)) same ∙ ap (held_by env) (open_hand statuses (after v x) waiting (asked_in number h) s.awaited s.apart) ∙ s.held env ∙ sym (open-delivered env (after v x) waiting statuses s.awaited s.apart);
    }

held-without : (e : EnvNo) (t : Ticket) (ts : List Ticket) → has t ts ≡ true → held_by e (without_ticket t ts) + (if t.env.0 == e.0 then 1 else 0) ≡ held_by e ts
held-without e t [] h = cc
held-without e t (u ∷ ts) h =
    elim (cases_Bool (same u t)) [
      | inl it ↦ let s : u.env.0 ≡ t.env.0 = grind (arith, nat_tests) in grind (arith, nat_tests, it, s, held-cons e u ts)
      | inr other ↦ let z = held-without e t ts (grind (arith, h, other)) in grind (arith, nat_tests, other, z, held-cons e u ts, held-cons e u (without_ticket t ts))
    ]

-- an answer is collected
pub tells_less : (limits : Limits) (number : ThreadNo) (h : List Entry) (waiting : List Pending) (statuses : List (List CallStatus)) (t : Ticket) (a : Answer) → status_of t statuses ≡ Answered a
    → Tells limits number h waiting statuses → Tells limits number h waiting (with_status t Gone statuses)
tells_less limits number h waiting statuses t a e s =
    let o : is_open (status_of t statuses) ≡ true = ap is_open e in
    let new = with_status t Gone statuses in
    let f : (u : Ticket) → status_of u new ≡ (if is_at t u then Gone else status_of u statuses) = λ u. status-with_status u t Gone statuses o in
    let old : (u : Ticket) (y : CallStatus) → status_of u new ≡ y → is_open y ≡ true → status_of u statuses ≡ y =
    λ u y w k. elim (cases_Bool (is_at t u)) [
      | inl it ↦ absurd (let z : status_of u new ≡ Gone = f u ∙ grind (arith, it) in let q = sym (ap is_open (sym w ∙ z)) ∙ k in cc)
      | inr other ↦ let z : status_of u new ≡ status_of u statuses = f u ∙ grind (arith, other) in sym z ∙ w
    ] in
    let stays : (u : Ticket) → status_of u statuses ≡ Waiting → status_of u new ≡ Waiting =
    λ u w. elim (cases_Bool (is_at t u)) [
      | inl it ↦ absurd (let z = same_status u t statuses it in cc)
      | inr other ↦ f u ∙ grind (arith, other, w)
    ] in
    record {
      fresh = s.fresh;
      envs = length-set statuses t.env.0 _ ∙ s.envs;
      lists = λ env. length-with_status env t Gone statuses o ∙ s.lists env;
      quiet = λ u w. s.quiet u (old u Waiting w refl);
      told = λ u y w. s.told u y (ap answer_by (old u (Answered y) (is_answered (status_of u new) y w) refl));
      awaited = awaited_on statuses new waiting stays s.awaited;
      apart = s.apart;
      listed = s.listed;
      once = s.once;
      held = λ e. held_less e;
    }
  where
    here : Ticket
    here = record { env = t.env; thread = number; no = t.no }

    held_less : (e : EnvNo) → held_by e (open_in (with_status t Gone statuses) (asked_in number h)) ≡ open_by e (with_status t Gone statuses)
    held_less env =
        let o : is_open (status_of here statuses) ≡ true = ap is_open e in
        let there = within here statuses o in
        let k = asked_before limits number h waiting statuses here s o in
        let is_there : has here (open_in statuses (asked_in number h)) ≡ true = grind (arith, nat_tests, has-open here statuses (asked_in number h), o, s.listed here, k) in
        let less = open_less here statuses (asked_in number h) o s.once (λ u k. let l = s.listed u in grind (arith, nat_tests, l, k)) in
        let one = held-without env here (open_in statuses (asked_in number h)) is_there in
        let now = open-with_status env here Gone statuses there.0 there.1 in
        ap (held_by env) less ∙ grind (arith, nat_tests, one, now, s.held env, o)

    is_answered : (x : CallStatus) (y : Answer) → answer_by x ≡ Some y → x ≡ Answered y
    is_answered Waiting y w = cc
    is_answered (Answered z) y w = cc
    is_answered Gone y w = cc

-- the status of a ticket tells what is collected, and what a caller who has the history knows of it
pub collected_is : (limits : Limits) (number : ThreadNo) (h : List Entry) (waiting : List Pending) (statuses : List (List CallStatus)) (t : Ticket) → t.thread.0 ≡ number.0 → Tells limits number h waiting statuses
    → answer_by (status_of t statuses) ≡ (if has t (open_in statuses (asked_in number h)) then reply_to limits h t else None)
collected_is limits number h waiting statuses t e s = by_status (status_of t statuses) refl
  where
    listed : is_open (status_of t statuses) ≡ true → has t (asked_in number h) ≡ true
    listed o = let k = asked_before limits number h waiting statuses t s o in grind (arith, nat_tests, s.listed t, e, k)

    by_status : (x : CallStatus) → status_of t statuses ≡ x → answer_by (status_of t statuses) ≡ (if has t (open_in statuses (asked_in number h)) then reply_to limits h t else None)
    by_status Waiting w = let q = s.quiet t w in grind (arith, w, q)
    by_status (Answered a) w =
        let q = s.told t a (ap answer_by w) in
        let l = listed (ap is_open w) in
        grind (arith, w, q, l, has-open t statuses (asked_in number h))
    by_status Gone w = grind (arith, w, has-open t statuses (asked_in number h))

-- a ticket of another thread is none of this one
-- whether a ticket's call is open, as the tickets say it
pub out_is : (limits : Limits) (number : ThreadNo) (h : List Entry) (waiting : List Pending) (statuses : List (List CallStatus)) (t : Ticket) → t.thread.0 ≡ number.0 → Tells limits number h waiting statuses
    → is_open (status_of t statuses) ≡ has t (open_in statuses (asked_in number h))
out_is limits number h waiting statuses t e s =
    elim (cases_Bool (is_open (status_of t statuses))) [
      | inl o ↦ let k = asked_before limits number h waiting statuses t s o in grind (arith, nat_tests, has-open t statuses (asked_in number h), s.listed t, e, k, o)
      | inr n ↦ grind (arith, has-open t statuses (asked_in number h), n)
    ]

pub not_mine : (limits : Limits) (number : ThreadNo) (h : List Entry) (waiting : List Pending) (statuses : List (List CallStatus)) (t : Ticket) → (t.thread.0 ≡ number.0 → ⊥) → Tells limits number h waiting statuses
    → has t (open_in statuses (asked_in number h)) ≡ false
not_mine limits number h waiting statuses t e s = grind (arith, nat_tests, has-open t statuses (asked_in number h), s.listed t, e)

-- after an answer was collected
pub open_taken : (limits : Limits) (number : ThreadNo) (h : List Entry) (waiting : List Pending) (statuses : List (List CallStatus)) (t : Ticket) (a : Answer) → t.thread.0 ≡ number.0 → status_of t statuses ≡ Answered a → Tells limits number h waiting statuses
    → open_in (with_status t Gone statuses) (asked_in number h) ≡ without_ticket t (open_in statuses (asked_in number h))
open_taken limits number h waiting statuses t a e w s =
    open_less t statuses (asked_in number h) (ap is_open w) s.once (λ u k. let l = s.listed u in grind (arith, nat_tests, l, k, e))
