-- The statuses of calls, one after another.
use Rattle.std.proofs.Common.{◌≡◌, ℕ, ◌+◌, ◌<◌, ◌≤◌, ◌==◌, true, false, ◌&&◌, ◌||◌, if◌then◌else◌, List, [], ◌∷◌, ◌++◌, length, map, get_or, set, suc, zero, refl, ap, sym, ◌∙◌, arith, Option, Some, None, inl, inr, get_or-set_same, get_or-set_other, length-set, length-append}
use Rattle.std.proofs.Math.ListN as math
use Rattle.std.proofs.lemmas.List.{map-append, map-set, length-map, get_or_past}
use Rattle.std.proofs.lemmas.Bool.{cases_eq, cases_lt, cases_Bool}
use Rattle.std.proofs.lemmas.Bool.Decides.{nat_tests}
use Rattle.ti_types.specs.declared.numbers.EnvNo.{EnvNo}
use Rattle.ti_types.specs.declared.event.Ticket.{Ticket}
use Rattle.ti_types.specs.declared.answer.Answer.{Answer}
use Rattle.ti_types.specs.declared.view.ThreadView.{ThreadView}
use Rattle.ti_types.specs.Answer.{said}
use Rattle.ti_ops.specs.declared.status.CallStatus.{CallStatus}
use Rattle.ti_ops.specs.declared.status.CallStatus.TheVariants.{Waiting, Answered, Gone}
use Rattle.ti_ops.specs.declared.pending.Pending.{Pending}
use Rattle.ti_ops.specs.Statuses.{statuses_by, status_of, open_by, with_call, with_status, is_open}
use Rattle.ti_ops.proofs.StepLaws.{open-with_status}
use Rattle.ti_replay.specs.Answers.{answer_of}
use Rattle.ti_replay.specs.View.{called}
use Rattle.ti_slot.specs.Waiting.{Saying, answers_of, said_status, said_in, delivered}
use Rattle.ti_slot.specs.Tickets.{is_at, is_awaited, AreAwaited, AreApart}

-- statuses as they are said
pub by-said : (env : EnvNo) (statuses : List (List CallStatus)) → statuses_by env (said_in statuses) ≡ map said_status (statuses_by env statuses)
by-said env statuses = math.get_or-map (map said_status) statuses env.0 []

pub status-said : (t : Ticket) (statuses : List (List CallStatus)) → status_of t (said_in statuses) ≡ said_status (status_of t statuses)
status-said t statuses = ap (λ xs. get_or xs t.no Gone) (by-said t.env statuses) ∙ math.get_or-map said_status (statuses_by t.env statuses) t.no Gone

pub length-said : (env : EnvNo) (statuses : List (List CallStatus)) → length (statuses_by env (said_in statuses)) ≡ length (statuses_by env statuses)
length-said env statuses = ap length (by-said env statuses) ∙ length-map (statuses_by env statuses) said_status

pub said-with_status : (t : Ticket) (x : CallStatus) (statuses : List (List CallStatus)) → said_in (with_status t x statuses) ≡ with_status t (said_status x) (said_in statuses)
said-with_status t x statuses =
    map-set (map said_status) statuses t.env.0 (set (statuses_by t.env statuses) t.no x)
    ∙ ap (λ xs. set (said_in statuses) t.env.0 xs) (map-set said_status (statuses_by t.env statuses) t.no x ∙ ap (λ xs. set xs t.no (said_status x)) (sym (by-said t.env statuses)))

pub said-with_call : (env : EnvNo) (x : CallStatus) (statuses : List (List CallStatus)) → said_in (with_call env x statuses) ≡ with_call env (said_status x) (said_in statuses)
said-with_call env x statuses =
    map-set (map said_status) statuses env.0 (statuses_by env statuses ++ x ∷ [])
    ∙ ap (λ xs. set (said_in statuses) env.0 xs) (map-append said_status (statuses_by env statuses) (x ∷ []) ∙ ap (λ xs. xs ++ said_status x ∷ []) (sym (by-said env statuses)))

pub waits-said : (x : CallStatus) → said_status x ≡ Waiting → x ≡ Waiting
waits-said Waiting e = refl
waits-said (Answered a) e = cc
waits-said Gone e = cc

-- the list of an environment, where one list changes
by_set : (statuses : List (List CallStatus)) (e i : ℕ) (xs : List CallStatus) → e < length statuses → get_or (set statuses e xs) i [] ≡ (if i == e then xs else get_or statuses i [])
by_set statuses e i xs h =
    elim (cases_eq i e) [
      | inl same ↦ grind (arith, nat_tests, get_or-set_same statuses e xs [] h)
      | inr other ↦ grind (arith, nat_tests, get_or-set_other statuses e i xs [] other)
    ]

at_end : (xs : List CallStatus) (x : CallStatus) (i : ℕ) → get_or (xs ++ x ∷ []) i Gone ≡ (if i == length xs then x else get_or xs i Gone)
at_end [] x zero = refl
at_end [] x (suc i) = grind (arith, nat_tests)
at_end (y ∷ xs) x zero = grind (arith, nat_tests)
at_end (y ∷ xs) x (suc i) = at_end xs x i ∙ grind (arith, nat_tests)

at_set : (xs : List CallStatus) (n i : ℕ) (x : CallStatus) → n < length xs → get_or (set xs n x) i Gone ≡ (if n == i then x else get_or xs i Gone)
at_set xs n i x h =
    elim (cases_eq i n) [
      | inl same ↦ grind (arith, nat_tests, get_or-set_same xs n x Gone h)
      | inr other ↦ grind (arith, nat_tests, get_or-set_other xs n i x Gone other)
    ]

-- one more call
pub status-with_call : (t : Ticket) (env : EnvNo) (x : CallStatus) (statuses : List (List CallStatus)) → env.0 < length statuses
    → status_of t (with_call env x statuses) ≡ (if length (statuses_by env statuses) == t.no && env.0 == t.env.0 then x else status_of t statuses)
status-with_call t env x statuses h =
    let e = by_set statuses env.0 t.env.0 (statuses_by env statuses ++ x ∷ []) h in
    elim (cases_eq t.env.0 env.0) [
      | inl same ↦
          let a : statuses_by t.env (with_call env x statuses) ≡ statuses_by env statuses ++ x ∷ [] = grind (arith, nat_tests, e) in
          let b : statuses_by t.env statuses ≡ statuses_by env statuses = ap (λ i. get_or statuses i []) same in
          ap (λ xs. get_or xs t.no Gone) a ∙ at_end (statuses_by env statuses) x t.no ∙ grind (arith, nat_tests, b)
      | inr other ↦
          let a : statuses_by t.env (with_call env x statuses) ≡ statuses_by t.env statuses = grind (arith, nat_tests, e) in
          ap (λ xs. get_or xs t.no Gone) a ∙ grind (arith, nat_tests)
    ]

past : (t : Ticket) (statuses : List (List CallStatus)) → length (statuses_by t.env statuses) ≤ t.no → status_of t statuses ≡ Gone
past t statuses h = get_or_past (statuses_by t.env statuses) t.no Gone h

-- nothing is left of a call that is answered at once
pub status-passed : (t : Ticket) (env : EnvNo) (statuses : List (List CallStatus)) → env.0 < length statuses → status_of t (with_call env Gone statuses) ≡ status_of t statuses
status-passed t env statuses h =
    elim (cases_Bool (length (statuses_by env statuses) == t.no && env.0 == t.env.0)) [
      | inl here ↦
          let e : env.0 ≡ t.env.0 = grind (arith, nat_tests) in
          let n : length (statuses_by env statuses) ≡ t.no = grind (arith, nat_tests) in
          let b : statuses_by t.env statuses ≡ statuses_by env statuses = ap (λ i. get_or statuses i []) (sym e) in
          status-with_call t env Gone statuses h ∙ grind (arith, here, past t statuses (omega (arith, n, ap length b)))
      | inr not_here ↦ status-with_call t env Gone statuses h ∙ grind (arith, not_here)
    ]

pub length-with_call : (other env : EnvNo) (x : CallStatus) (statuses : List (List CallStatus)) → env.0 < length statuses
    → length (statuses_by other (with_call env x statuses)) ≡ length (statuses_by other statuses) + (if env.0 == other.0 then 1 else 0)
length-with_call other env x statuses h =
    let e = by_set statuses env.0 other.0 (statuses_by env statuses ++ x ∷ []) h in
    elim (cases_eq other.0 env.0) [
      | inl same ↦
          let b : statuses_by other statuses ≡ statuses_by env statuses = ap (λ i. get_or statuses i []) same in
          let a : statuses_by other (with_call env x statuses) ≡ statuses_by env statuses ++ x ∷ [] = grind (arith, nat_tests, e) in
          grind (arith, nat_tests, a, b, length-append (statuses_by env statuses) (x ∷ []))
      | inr differs ↦
          let a : statuses_by other (with_call env x statuses) ≡ statuses_by other statuses = grind (arith, nat_tests, e) in
          grind (arith, nat_tests, a)
    ]

-- a call of which something is left was asked
pub within : (t : Ticket) (statuses : List (List CallStatus)) → is_open (status_of t statuses) ≡ true → (t.env.0 < length statuses) × (t.no < length (statuses_by t.env statuses))
within t statuses o =
    elim (cases_lt t.no (length (statuses_by t.env statuses))) [
      | inr far ↦ let g = past t statuses far in absurd (grind (arith, g))
      | inl near ↦
          elim (cases_lt t.env.0 (length statuses)) [
            | inl there ↦ (there, near)
            | inr out ↦ let e : statuses_by t.env statuses ≡ [] = get_or_past statuses t.env.0 [] out in absurd (omega (arith, near, ap length e))
          ]
    ]

-- another status of a call
pub status-with_status : (u t : Ticket) (x : CallStatus) (statuses : List (List CallStatus)) → is_open (status_of t statuses) ≡ true
    → status_of u (with_status t x statuses) ≡ (if is_at t u then x else status_of u statuses)
status-with_status u t x statuses o =
    let w = within t statuses o in
    let e = by_set statuses t.env.0 u.env.0 (set (statuses_by t.env statuses) t.no x) w.0 in
    elim (cases_eq u.env.0 t.env.0) [
      | inl same ↦
          let a : statuses_by u.env (with_status t x statuses) ≡ set (statuses_by t.env statuses) t.no x = grind (arith, nat_tests, e) in
          let b : statuses_by u.env statuses ≡ statuses_by t.env statuses = ap (λ i. get_or statuses i []) same in
          ap (λ xs. get_or xs u.no Gone) a ∙ at_set (statuses_by t.env statuses) t.no u.no x w.1 ∙ grind (arith, nat_tests, b)
      | inr other ↦
          let a : statuses_by u.env (with_status t x statuses) ≡ statuses_by u.env statuses = grind (arith, nat_tests, e) in
          ap (λ xs. get_or xs u.no Gone) a ∙ grind (arith, nat_tests)
    ]

pub length-with_status : (other : EnvNo) (t : Ticket) (x : CallStatus) (statuses : List (List CallStatus)) → is_open (status_of t statuses) ≡ true
    → length (statuses_by other (with_status t x statuses)) ≡ length (statuses_by other statuses)
length-with_status other t x statuses o =
    let e = by_set statuses t.env.0 other.0 (set (statuses_by t.env statuses) t.no x) (within t statuses o).0 in
    elim (cases_eq other.0 t.env.0) [
      | inl same ↦
          let b : statuses_by other statuses ≡ statuses_by t.env statuses = ap (λ i. get_or statuses i []) same in
          let a : statuses_by other (with_status t x statuses) ≡ set (statuses_by t.env statuses) t.no x = grind (arith, nat_tests, e) in
          ap length a ∙ length-set (statuses_by t.env statuses) t.no x ∙ ap length (sym b)
      | inr differs ↦ ap length (grind (arith, nat_tests, e))
    ]

-- the first answer to a ticket, as it is said
abbrev pub saying_for : Ticket → List Saying → Option Answer
saying_for t [] = None
saying_for t (s ∷ sayings) = if is_at s.ticket t then Some s.answer else saying_for t sayings

abbrev pub status_or : Option Answer → CallStatus → CallStatus
status_or (Some a) x = Answered a
status_or None x = x

pub awaited_after : (statuses : List (List CallStatus)) (t : Ticket) (x : CallStatus) (waiting : List Pending) → is_open (status_of t statuses) ≡ true → is_awaited t waiting ≡ false → AreAwaited statuses waiting → AreAwaited (with_status t x statuses) waiting
awaited_after statuses t x [] o n k = tt
awaited_after statuses t x (p ∷ waiting) o n k =
    let other : is_at t p.ticket ≡ false = grind (arith, nat_tests) in
    (status-with_status p.ticket t x statuses o ∙ grind (arith, other, k.0), awaited_after statuses t x waiting o (grind arith) k.1)

no_saying : (w : ThreadView) (waiting : List Pending) (t : Ticket) → is_awaited t waiting ≡ false → saying_for t (answers_of w waiting) ≡ None
no_saying w [] t h = refl
no_saying w (p ∷ waiting) t h = grind (arith, no_saying (called w p.ticket.env p.call) waiting t)

awaited_same : (t u : Ticket) (waiting : List Pending) → is_at t u ≡ true → is_awaited u waiting ≡ is_awaited t waiting
awaited_same t u [] h = refl
awaited_same t u (p ∷ waiting) h =
    let e : is_at p.ticket u ≡ is_at p.ticket t = grind (arith, nat_tests, h) in
    ap (λ b. b || is_awaited u waiting) e ∙ ap (λ b. is_at p.ticket t || b) (awaited_same t u waiting h)

-- each call that waits gets its answer
pub status-delivered : (t : Ticket) (w : ThreadView) (waiting : List Pending) (statuses : List (List CallStatus)) → AreAwaited statuses waiting → AreApart waiting
    → status_of t (delivered (answers_of w waiting) statuses) ≡ status_or (saying_for t (answers_of w waiting)) (status_of t statuses)
status-delivered t w [] statuses k a = refl
status-delivered t w (p ∷ waiting) statuses k a =
    let answer = answer_of w p.ticket.env p.call in
    let v = called w p.ticket.env p.call in
    let o : is_open (status_of p.ticket statuses) ≡ true = ap is_open k.0 in
    let one = with_status p.ticket (Answered answer) statuses in
    let rest = status-delivered t v waiting one (awaited_after statuses p.ticket (Answered answer) waiting o a.0 k.1) a.1 in
    let here = status-with_status t p.ticket (Answered answer) statuses o in
    elim (cases_Bool (is_at p.ticket t)) [
      | inl it ↦
          let none : saying_for t (answers_of v waiting) ≡ None = no_saying v waiting t (awaited_same p.ticket t waiting it ∙ a.0) in
          rest ∙ ap (λ z. status_or z (status_of t one)) none ∙ here ∙ grind (arith, it)
      | inr other ↦
          let stays : status_of t one ≡ status_of t statuses = here ∙ grind (arith, other) in
          rest ∙ ap (status_or (saying_for t (answers_of v waiting))) stays ∙ grind (arith, other)
    ]

pub same_status : (t u : Ticket) (statuses : List (List CallStatus)) → is_at u t ≡ true → status_of t statuses ≡ status_of u statuses
same_status t u statuses h =
    let n : t.no ≡ u.no = grind (arith, nat_tests) in
    let e : t.env.0 ≡ u.env.0 = grind (arith, nat_tests) in
    ap (λ i. get_or (get_or statuses i []) t.no Gone) e ∙ ap (λ i. get_or (statuses_by u.env statuses) i Gone) n

-- only a call that waits gets an answer
pub said_waits : (t : Ticket) (w : ThreadView) (waiting : List Pending) (statuses : List (List CallStatus)) (a : Answer) → AreAwaited statuses waiting → saying_for t (answers_of w waiting) ≡ Some a → status_of t statuses ≡ Waiting
said_waits t w [] statuses a k e = cc
said_waits t w (p ∷ waiting) statuses a k e =
    elim (cases_Bool (is_at p.ticket t)) [
      | inl it ↦ same_status t p.ticket statuses it ∙ k.0
      | inr other ↦ said_waits t (called w p.ticket.env p.call) waiting statuses a k.1 (grind (arith, other, e))
    ]

pub length-delivered : (env : EnvNo) (w : ThreadView) (waiting : List Pending) (statuses : List (List CallStatus)) → AreAwaited statuses waiting → AreApart waiting
    → length (statuses_by env (delivered (answers_of w waiting) statuses)) ≡ length (statuses_by env statuses)
length-delivered env w [] statuses k a = refl
length-delivered env w (p ∷ waiting) statuses k a =
    let answer = answer_of w p.ticket.env p.call in
    let o : is_open (status_of p.ticket statuses) ≡ true = ap is_open k.0 in
    length-delivered env (called w p.ticket.env p.call) waiting (with_status p.ticket (Answered answer) statuses) (awaited_after statuses p.ticket (Answered answer) waiting o a.0 k.1) a.1
    ∙ length-with_status env p.ticket (Answered answer) statuses o

-- an answer leaves as many open
pub open-delivered : (env : EnvNo) (w : ThreadView) (waiting : List Pending) (statuses : List (List CallStatus)) → AreAwaited statuses waiting → AreApart waiting
    → open_by env (delivered (answers_of w waiting) statuses) ≡ open_by env statuses
open-delivered env w [] statuses k a = refl
open-delivered env w (p ∷ waiting) statuses k a =
    let answer = answer_of w p.ticket.env p.call in
    let o : is_open (status_of p.ticket statuses) ≡ true = ap is_open k.0 in
    let there = within p.ticket statuses o in
    let one = open-with_status env p.ticket (Answered answer) statuses there.0 there.1 in
    open-delivered env (called w p.ticket.env p.call) waiting (with_status p.ticket (Answered answer) statuses) (awaited_after statuses p.ticket (Answered answer) waiting o a.0 k.1) a.1
    ∙ grind (arith, nat_tests, one, o)

pub envs-delivered : (w : ThreadView) (waiting : List Pending) (statuses : List (List CallStatus)) → length (delivered (answers_of w waiting) statuses) ≡ length statuses
envs-delivered w [] statuses = refl
envs-delivered w (p ∷ waiting) statuses =
    let f = with_status p.ticket (Answered (answer_of w p.ticket.env p.call)) statuses in
    envs-delivered (called w p.ticket.env p.call) waiting f ∙ length-set statuses p.ticket.env.0 _

-- the first call that waits is answered
pub one_served : (w : ThreadView) (p : Pending) (waiting : List Pending) (statuses : List (List CallStatus)) (a : Answer) → AreAwaited statuses (p ∷ waiting) → AreApart (p ∷ waiting) → said a ≡ answer_of w p.ticket.env p.call
    → AreAwaited (with_status p.ticket (Answered a) statuses) waiting × (delivered (answers_of (called w p.ticket.env p.call) waiting) (said_in (with_status p.ticket (Answered a) statuses)) ≡ delivered (answers_of w (p ∷ waiting)) (said_in statuses))
one_served w p waiting statuses a k once e = (
  awaited_after statuses p.ticket (Answered a) waiting (ap is_open k.0) once.0 k.1,
  ap (delivered (answers_of (called w p.ticket.env p.call) waiting)) (said-with_status p.ticket (Answered a) statuses ∙ ap (λ b. with_status p.ticket (Answered b) (said_in statuses)) e),
)
