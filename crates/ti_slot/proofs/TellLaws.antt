-- What the statuses of a history's calls tell, entry by entry.
use Rattle.std.proofs.Common.{◌≡◌, ℕ, ◌+◌, ◌<◌, ◌≤◌, ◌==◌, nat_lt, Bool, true, false, ◌&&◌, List, [], ◌∷◌, ◌++◌, length, refl, ap, sym, ◌∙◌, arith, Option, Some, None, inl, inr, not, if◌then◌else◌, length-set, subst, append-nil}
use Rattle.std.specs.Option.{option_or}
use Rattle.std.proofs.lemmas.Bool.{cases_Bool}
use Rattle.std.proofs.lemmas.Bool.Decides.{nat_tests}
use Rattle.std.proofs.lemmas.List.{get_or_past}
use Rattle.std.proofs.lemmas.List.Sums.{sum_by-append, sum_by-cons}
use Rattle.ti_types.specs.declared.limits.Limits.{Limits}
use Rattle.ti_types.specs.declared.numbers.EnvNo.{EnvNo}
use Rattle.ti_types.specs.declared.numbers.ThreadNo.{ThreadNo}
use Rattle.ti_types.specs.declared.event.Ticket.{Ticket}
use Rattle.ti_types.specs.declared.call.Call.{Call}
use Rattle.ti_types.specs.declared.answer.Answer.{Answer}
use Rattle.ti_types.specs.declared.entry.Entry.{Entry}
use Rattle.ti_types.specs.declared.entry.Entry.TheVariants.{Start, Own, Hand, Back, End, Asked, Stop, Read, Go}
use Rattle.ti_types.specs.declared.view.ThreadView.{ThreadView}
use Rattle.ti_ops.specs.declared.status.CallStatus.{CallStatus}
use Rattle.ti_ops.specs.declared.status.CallStatus.TheVariants.{Waiting, Gone}
use Rattle.ti_ops.specs.declared.pending.Pending.{Pending}
use Rattle.ti_ops.specs.Statuses.{statuses_by, status_of, with_call, answer_by, is_open}
use Rattle.ti_ops.proofs.StepLaws.{open-with_call}
use Rattle.ti_replay.specs.Settling.{is_hand_over}
use Rattle.ti_replay.specs.View.{view}
use Rattle.ti_replay.specs.Legal.{asked_by, ask_count}
use Rattle.ti_replay.specs.HistoryState.{HistoryState, history_state}
use Rattle.ti_replay.specs.Tickets.{reply_in, reply_to}
use Rattle.ti_replay.proofs.NextStates.{is_put_off}
use Rattle.ti_replay.proofs.TicketReplies.{reply_to-snoc, settling}
use Rattle.ti_slot.specs.Tickets.{has, held_by, open_in, AreOnce, ticket_in, asked_in, is_at, is_awaited, AreAwaited, AreApart, Tells}
use Rattle.ti_slot.proofs.CallStatusLaws.{within, status-passed, status-with_call, length-with_call, same_status}
use Rattle.ti_slot.proofs.TicketLaws.{open-append, open_same, asked_in-snoc, asked_stay, listed_more, once_more}

pub asked-snoc : (env : EnvNo) (history : List Entry) (x : Entry) → asked_by env (history ++ x ∷ []) ≡ asked_by env history + ask_count env x
asked-snoc env history x = omega (arith, sum_by-append (ask_count env) history (x ∷ []), sum_by-cons (ask_count env) x [])

-- entries that are no calls
abbrev pub is_plain : Entry → Bool
is_plain (Asked env number call) = false
is_plain x = not (is_hand_over x)

abbrev pub is_call : Entry → Bool
is_call (Asked env number call) = true
is_call x = false

pub no_asking : (env : EnvNo) (x : Entry) → is_call x ≡ false → ask_count env x ≡ 0
no_asking env Start h = refl
no_asking env (Own step) h = refl
no_asking env (Hand safe) h = refl
no_asking env Back h = refl
no_asking env End h = refl
no_asking env (Asked other number call) h = cc
no_asking env (Stop other) h = refl
no_asking env (Read other n) h = refl
no_asking env (Go other) h = refl

pub no_ticket : (number : ThreadNo) (x : Entry) → is_call x ≡ false → ticket_in number x ≡ []
no_ticket number Start h = refl
no_ticket number (Own step) h = refl
no_ticket number (Hand safe) h = refl
no_ticket number Back h = refl
no_ticket number End h = refl
no_ticket number (Asked other n call) h = cc
no_ticket number (Stop other) h = refl
no_ticket number (Read other n) h = refl
no_ticket number (Go other) h = refl

plain_free : (x : Entry) → is_plain x ≡ true → is_call x ≡ false
plain_free Start h = refl
plain_free (Own step) h = refl
plain_free (Hand safe) h = refl
plain_free Back h = refl
plain_free End h = refl
plain_free (Asked other n call) h = cc
plain_free (Stop other) h = refl
plain_free (Read other n) h = refl
plain_free (Go other) h = refl

pub hand_free : (x : Entry) → is_hand_over x ≡ true → is_call x ≡ false
hand_free Start h = refl
hand_free (Own step) h = refl
hand_free (Hand safe) h = refl
hand_free Back h = refl
hand_free End h = refl
hand_free (Asked other n call) h = cc
hand_free (Stop other) h = refl
hand_free (Read other n) h = refl
hand_free (Go other) h = refl

plain_tells : (v : ThreadView) (s : HistoryState) (x : Entry) (k : Ticket) → is_plain x ≡ true → reply_in v (settling s x) k ≡ None
plain_tells v s Start k h = grind arith
plain_tells v s (Own step) k h = grind arith
plain_tells v s (Hand safe) k h = cc
plain_tells v s Back k h = grind arith
plain_tells v s End k h = cc
plain_tells v s (Asked other number call) k h = cc
plain_tells v s (Stop other) k h = grind arith
plain_tells v s (Read other n) k h = grind arith
plain_tells v s (Go other) k h = grind arith

pub or_none : (a : Option Answer) → option_or a None ≡ a
or_none None = refl
or_none (Some x) = refl

-- the reply where the entry brings none, and where it was there before
pub unchanged : (limits : Limits) (h : List Entry) (x : Entry) (t : Ticket) → reply_in (view limits h) (settling (history_state limits h) x) t ≡ None → reply_to limits (h ++ x ∷ []) t ≡ reply_to limits h t
unchanged limits h x t e = reply_to-snoc limits h x t ∙ ap (option_or (reply_to limits h t)) e ∙ or_none (reply_to limits h t)

pub still : (limits : Limits) (h : List Entry) (x : Entry) (t : Ticket) (a : Answer) → reply_to limits h t ≡ Some a → reply_to limits (h ++ x ∷ []) t ≡ Some a
still limits h x t a e = reply_to-snoc limits h x t ∙ ap (λ r. option_or r (reply_in (view limits h) (settling (history_state limits h) x) t)) e

pub tells_plain : (limits : Limits) (number : ThreadNo) (h : List Entry) (waiting : List Pending) (statuses : List (List CallStatus)) (x : Entry) → is_plain x ≡ true → Tells limits number h waiting statuses → Tells limits number (h ++ x ∷ []) waiting statuses
tells_plain limits number h waiting statuses x p s =
    let r : (t : Ticket) → reply_to limits (h ++ x ∷ []) t ≡ reply_to limits h t = λ t. unchanged limits h x t (plain_tells (view limits h) (history_state limits h) x t p) in
    let a : (env : EnvNo) → asked_by env (h ++ x ∷ []) ≡ asked_by env h = λ env. omega (arith, asked-snoc env h x, no_asking env x (plain_free x p)) in
    let same : asked_in number (h ++ x ∷ []) ≡ asked_in number h = asked_stay number h x (no_ticket number x (plain_free x p)) in
    record {
      fresh = λ t le. r t ∙ s.fresh t (omega (arith, a t.env, le));
      envs = s.envs;
      lists = λ env. s.lists env ∙ sym (a env);
      quiet = λ t w. r t ∙ s.quiet t w;
      told = λ t b w. r t ∙ s.told t b w;
      awaited = s.awaited;
      apart = s.apart;
      listed = λ t. ap (has t) same ∙ s.listed t ∙ ap (λ m. t.thread.0 == number.0 && nat_lt t.no m) (sym (a t.env));
      once = subst AreOnce (sym same) s.once;
      held = λ env. ap (λ ts. held_by env (open_in statuses ts)) same ∙ s.held env;
    }

-- the number of an open call is below that of the next
pub asked_before : (limits : Limits) (number : ThreadNo) (h : List Entry) (waiting : List Pending) (statuses : List (List CallStatus)) (t : Ticket) → Tells limits number h waiting statuses → is_open (status_of t statuses) ≡ true → t.no < asked_by t.env h
asked_before limits number h waiting statuses t s o = omega (arith, (within t statuses o).1, s.lists t.env)

-- the number of a new call
abbrev pub is_next : EnvNo → ℕ → Ticket → Bool
is_next env n t = n == t.no && env.0 == t.env.0

same_env : (a b : EnvNo) → a.0 ≡ b.0 → a ≡ b
same_env a b h = ap (λ (n : ℕ). record { 0 = n }) h

pub next_asked : (t : Ticket) (env : EnvNo) (h : List Entry) → is_next env (asked_by env h) t ≡ true → asked_by t.env h ≡ t.no
next_asked t env h e =
    let a : env.0 ≡ t.env.0 = grind (arith, nat_tests) in
    let b : asked_by env h ≡ t.no = grind (arith, nat_tests) in
    ap (λ o. asked_by o h) (sym (same_env env t.env a)) ∙ b

pub not_next : (t : Ticket) (env : EnvNo) (h : List Entry) (n : ℕ) → n ≡ asked_by env h → t.no < asked_by t.env h → is_next env n t ≡ false
not_next t env h n hn below =
    elim (cases_Bool (is_next env n t)) [
      | inl e ↦ absurd (let k = next_asked t env h (sym (ap (λ m. is_next env m t) hn) ∙ e) in omega (arith, k, below))
      | inr e ↦ e
    ]

-- another ticket has its status, whatever is asked
pub awaited_on : (statuses others : List (List CallStatus)) (waiting : List Pending) → ((t : Ticket) → status_of t statuses ≡ Waiting → status_of t others ≡ Waiting) → AreAwaited statuses waiting → AreAwaited others waiting
awaited_on statuses others [] k a = tt
awaited_on statuses others (p ∷ waiting) k a = (k p.ticket a.0, awaited_on statuses others waiting k a.1)

-- how the calls are listed with one more
record ListedMore (number : ThreadNo) (h : List Entry) (x : Entry) : Type 0 where
  listed : (t : Ticket) → has t (asked_in number (h ++ x ∷ [])) ≡ (t.thread.0 == number.0 && nat_lt t.no (asked_by t.env (h ++ x ∷ [])))
  once : AreOnce (asked_in number (h ++ x ∷ []))

asked_more : (limits : Limits) (number : ThreadNo) (h : List Entry) (waiting : List Pending) (statuses : List (List CallStatus)) (env : EnvNo) (n : ℕ) (call : Call) → n ≡ asked_by env h → Tells limits number h waiting statuses → ListedMore number h (Asked env n call)
asked_more limits number h waiting statuses env n call hn s =
    let x = Asked env n call in
    let u : Ticket = record { env = env; thread = number; no = n } in
    let more : asked_in number (h ++ x ∷ []) ≡ asked_in number h ++ u ∷ [] = asked_in-snoc number h x in
    let not_there : has u (asked_in number h) ≡ false = grind (arith, nat_tests, s.listed u, hn) in
    record {
      listed = λ t.
          ap (has t) more
          ∙ listed_more t env number n (asked_by t.env h) (asked_in number h) (λ e. ap (λ o. asked_by o h) (sym (same_env env t.env e)) ∙ sym hn) (s.listed t)
          ∙ ap (λ m. t.thread.0 == number.0 && nat_lt t.no m) (sym (asked-snoc t.env h x));
      once = subst AreOnce (sym more) (once_more (asked_in number h) u s.once not_there);
    }

-- which tickets are open after a call that is answered at once
pub open_now : (limits : Limits) (number : ThreadNo) (h : List Entry) (waiting : List Pending) (statuses : List (List CallStatus)) (env : EnvNo) (n : ℕ) (call : Call) → env.0 < limits.envs → n ≡ asked_by env h → Tells limits number h waiting statuses
    → open_in (with_call env Gone statuses) (asked_in number (h ++ Asked env n call ∷ [])) ≡ open_in statuses (asked_in number h)
open_now limits number h waiting statuses env n call he hn s =
    let u : Ticket = record { env = env; thread = number; no = n } in
    let new = with_call env Gone statuses in
    let inside : env.0 < length statuses = omega (arith, he, s.envs) in
    let none : status_of u new ≡ Gone = status-passed u env statuses inside ∙ get_or_past (statuses_by env statuses) n Gone (omega (arith, hn, s.lists env)) in
    let same_ones : open_in new (asked_in number h) ≡ open_in statuses (asked_in number h) = open_same new statuses (asked_in number h) (λ t k. ap is_open (status-passed t env statuses inside)) in
    let last : open_in new (u ∷ []) ≡ [] = grind (arith, none) in
    ap (open_in new) (asked_in-snoc number h (Asked env n call)) ∙ open-append new (asked_in number h) (u ∷ [])
    ∙ ap (λ ts. open_in new (asked_in number h) ++ ts) last ∙ append-nil (open_in new (asked_in number h)) ∙ same_ones

-- after a call that waits
pub open_later : (limits : Limits) (number : ThreadNo) (h : List Entry) (waiting : List Pending) (statuses : List (List CallStatus)) (env : EnvNo) (n : ℕ) (call : Call) → env.0 < limits.envs → n ≡ asked_by env h → Tells limits number h waiting statuses
    → open_in (with_call env Waiting statuses) (asked_in number (h ++ Asked env n call ∷ [])) ≡ open_in statuses (asked_in number h) ++ (record { env = env; thread = number; no = n }) ∷ []
open_later limits number h waiting statuses env n call he hn s =
    let u : Ticket = record { env = env; thread = number; no = n } in
    let new = with_call env Waiting statuses in
    let inside : env.0 < length statuses = omega (arith, he, s.envs) in
    let len : length (statuses_by env statuses) ≡ n = s.lists env ∙ sym hn in
    let f : (t : Ticket) → status_of t new ≡ (if is_next env n t then Waiting else status_of t statuses) = λ t. status-with_call t env Waiting statuses inside ∙ ap (λ m. if is_next env m t then Waiting else status_of t statuses) len in
    let here : is_next env n u ≡ true = grind (arith, nat_tests) in
    let waits : status_of u new ≡ Waiting = f u ∙ grind (arith, here) in
    let same_ones : open_in new (asked_in number h) ≡ open_in statuses (asked_in number h) =
    open_same new statuses (asked_in number h) (λ t k.
    let below : t.no < asked_by t.env h = (let l = s.listed t in grind (arith, nat_tests, l, k)) in
    let other : is_next env n t ≡ false = not_next t env h n hn below in
    let same_statuses : status_of t new ≡ status_of t statuses = f t ∙ grind (arith, other) in
    ap is_open same_statuses) in
    let last : open_in new (u ∷ []) ≡ u ∷ [] = grind (arith, waits) in
    ap (open_in new) (asked_in-snoc number h (Asked env n call)) ∙ open-append new (asked_in number h) (u ∷ [])
    ∙ ap (λ ts. open_in new (asked_in number h) ++ ts) last ∙ ap (λ ts. ts ++ u ∷ []) same_ones

pub held-cons : (e : EnvNo) (u : Ticket) (ts : List Ticket) → held_by e (u ∷ ts) ≡ (if u.env.0 == e.0 then 1 else 0) + held_by e ts
held-cons e u ts = sum_by-cons (λ (t : Ticket). if t.env.0 == e.0 then 1 else 0) u ts

held-more : (e : EnvNo) (ts : List Ticket) (u : Ticket) → held_by e (ts ++ u ∷ []) ≡ held_by e ts + (if u.env.0 == e.0 then 1 else 0)
held-more e ts u = omega (arith, sum_by-append (λ (t : Ticket). if t.env.0 == e.0 then 1 else 0) ts (u ∷ []), held-cons e u [])

-- a call that is answered at once
pub tells_now : (limits : Limits) (number : ThreadNo) (h : List Entry) (waiting : List Pending) (statuses : List (List CallStatus)) (env : EnvNo) (n : ℕ) (call : Call) → env.0 < limits.envs → n ≡ asked_by env h
    → is_put_off (history_state limits h) (Asked env n call) ≡ false → Tells limits number h waiting statuses → Tells limits number (h ++ Asked env n call ∷ []) waiting (with_call env Gone statuses)
tells_now limits number h waiting statuses env n call he hn off s =
    let x = Asked env n call in
    let inside : env.0 < length statuses = omega (arith, he, s.envs) in
    let f : (t : Ticket) → status_of t (with_call env Gone statuses) ≡ status_of t statuses = λ t. status-passed t env statuses inside in
    let r : (t : Ticket) → is_next env n t ≡ false → reply_to limits (h ++ x ∷ []) t ≡ reply_to limits h t = λ t e. unchanged limits h x t (grind (arith, off, e)) in
    let later : (t : Ticket) → asked_by t.env (h ++ x ∷ []) ≤ t.no → is_next env n t ≡ false =
    λ t le. elim (cases_Bool (is_next env n t)) [
      | inl e ↦ absurd (let k = next_asked t env h (sym (ap (λ m. is_next env m t) hn) ∙ e) in let one : ask_count t.env x ≡ 1 = grind (arith, nat_tests) in omega (arith, k, le, one, asked-snoc t.env h x))
      | inr e ↦ e
    ] in
    let l = asked_more limits number h waiting statuses env n call hn s in
    record {
      fresh = λ t le. r t (later t le) ∙ s.fresh t (omega (arith, le, asked-snoc t.env h x));
      envs = length-set statuses env.0 _ ∙ s.envs;
      lists = λ other. length-with_call other env Gone statuses inside ∙ omega (arith, s.lists other, asked-snoc other h x);
      quiet = λ t w.
          let w1 : status_of t statuses ≡ Waiting = sym (f t) ∙ w in
          r t (not_next t env h n hn (asked_before limits number h waiting statuses t s (ap is_open w1))) ∙ s.quiet t w1;
      told = λ t a w. still limits h x t a (s.told t a (ap answer_by (sym (f t)) ∙ w));
      awaited = awaited_on statuses (with_call env Gone statuses) waiting (λ t w. f t ∙ w) s.awaited;
      apart = s.apart;
      listed = l.listed;
      once = l.once;
      held = λ e. ap (held_by e) (open_now limits number h waiting statuses env n call he hn s) ∙ s.held e ∙ sym (open-with_call e env Gone statuses inside ∙ grind (arith, nat_tests));
    }

awaited_more : (statuses : List (List CallStatus)) (waiting : List Pending) (p : Pending) → AreAwaited statuses waiting → status_of p.ticket statuses ≡ Waiting → AreAwaited statuses (waiting ++ p ∷ [])
awaited_more statuses [] p k w = (w, tt)
awaited_more statuses (q ∷ waiting) p k w = (k.0, awaited_more statuses waiting p k.1 w)

apart_more : (statuses : List (List CallStatus)) (waiting : List Pending) (p : Pending) → AreApart waiting → AreAwaited statuses waiting → status_of p.ticket statuses ≡ Gone → AreApart (waiting ++ p ∷ [])
apart_more statuses [] p a k g = (refl, tt)
apart_more statuses (q ∷ waiting) p a k g =
    let differs : is_at p.ticket q.ticket ≡ false = elim (cases_Bool (is_at p.ticket q.ticket)) [ inl e ↦ absurd (let z = same_status q.ticket p.ticket statuses e in let w = k.0 in cc) | inr e ↦ e ] in
    (not_more q.ticket waiting p a.0 differs, apart_more statuses waiting p a.1 k.1 g)
  where
    not_more : (t : Ticket) (waiting : List Pending) (p : Pending) → is_awaited t waiting ≡ false → is_at p.ticket t ≡ false → is_awaited t (waiting ++ p ∷ []) ≡ false
    not_more t [] p n d = grind (arith, d)
    not_more t (q ∷ waiting) p n d = let z = not_more t waiting p (grind (arith, n)) d in grind (arith, n, z)

-- a call that waits
pub tells_later : (limits : Limits) (number : ThreadNo) (h : List Entry) (waiting : List Pending) (statuses : List (List CallStatus)) (env : EnvNo) (n : ℕ) (call : Call) (p : Pending) → env.0 < limits.envs → n ≡ asked_by env h
    → is_put_off (history_state limits h) (Asked env n call) ≡ true → p.ticket ≡ record { env = env; thread = number; no = n } → Tells limits number h waiting statuses → Tells limits number (h ++ Asked env n call ∷ []) (waiting ++ p ∷ []) (with_call env Waiting statuses)
tells_later limits number h waiting statuses env n call p he hn off ep s =
    let x = Asked env n call in
    let inside : env.0 < length statuses = omega (arith, he, s.envs) in
    let new = with_call env Waiting statuses in
    let len : length (statuses_by env statuses) ≡ n = s.lists env ∙ sym hn in
    let f : (t : Ticket) → status_of t new ≡ (if is_next env n t then Waiting else status_of t statuses) = λ t. status-with_call t env Waiting statuses inside ∙ ap (λ m. if is_next env m t then Waiting else status_of t statuses) len in
    let r : (t : Ticket) → reply_to limits (h ++ x ∷ []) t ≡ reply_to limits h t = λ t. unchanged limits h x t (grind (arith, off)) in
    let gone : (t : Ticket) → is_next env n t ≡ true → asked_by t.env h ≤ t.no = λ t e. let k = next_asked t env h (sym (ap (λ m. is_next env m t) hn) ∙ e) in omega (arith, k) in
    let here : is_next env n p.ticket ≡ true = grind (arith, nat_tests, ep) in
    let none : status_of p.ticket statuses ≡ Gone = get_or_past (statuses_by p.ticket.env statuses) p.ticket.no Gone (omega (arith, gone p.ticket here, s.lists p.ticket.env)) in
    let stays : (t : Ticket) → status_of t statuses ≡ Waiting → status_of t new ≡ Waiting = λ t w. f t ∙ grind (arith, w) in
    let l = asked_more limits number h waiting statuses env n call hn s in
    record {
      fresh = λ t le. r t ∙ s.fresh t (omega (arith, le, asked-snoc t.env h x));
      envs = length-set statuses env.0 _ ∙ s.envs;
      lists = λ other. length-with_call other env Waiting statuses inside ∙ omega (arith, s.lists other, asked-snoc other h x);
      quiet = λ t w.
          r t ∙ elim (cases_Bool (is_next env n t)) [
            | inl e ↦ s.fresh t (gone t e)
            | inr e ↦ let w1 : status_of t statuses ≡ Waiting = grind (arith, f t, e, w) in s.quiet t w1
          ];
      told = λ t a w.
          r t ∙ elim (cases_Bool (is_next env n t)) [
            | inl e ↦ let z : status_of t new ≡ Waiting = f t ∙ grind (arith, e) in let none_told : answer_by (status_of t new) ≡ None = ap answer_by z in absurd (cc)
            | inr e ↦ let z : status_of t new ≡ status_of t statuses = f t ∙ grind (arith, e) in s.told t a (ap answer_by (sym z) ∙ w)
          ];
      awaited = awaited_more new waiting p (awaited_on statuses new waiting stays s.awaited) (f p.ticket ∙ grind (arith, here));
      apart = apart_more statuses waiting p s.apart s.awaited none;
      listed = l.listed;
      once = l.once;
      held = λ e.
          ap (held_by e) (open_later limits number h waiting statuses env n call he hn s) ∙ held-more e (open_in statuses (asked_in number h)) (record { env = env; thread = number; no = n })
          ∙ ap (λ m. m + (if env.0 == e.0 then 1 else 0)) (s.held e) ∙ sym (open-with_call e env Waiting statuses inside ∙ grind (arith, nat_tests));
    }
