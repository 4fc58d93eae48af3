-- A desk's call: what was taken, what was stored, and what the call tells.
use Rattle.std.proofs.Common.{◌≡◌, ℕ, suc, ◌+◌, ◌<◌, ◌≤◌, ◌==◌, Bool, cond, true, false, inl, inr, eq-eqb, ne_eqb, append-nil, refl, List, [], ◌∷◌, ◌++◌, length, append_assoc, sym, ap, ◌∙◌, subst, arith, Option, Some, None}
use Rattle.atomic_table.specs.Seated.{TableId}
use Rattle.ti_types.specs.declared.answer.Answer.{Answer}
use Rattle.ti_types.specs.declared.call.Call.{Call}
use Rattle.ti_types.specs.declared.entry.Entry.{Entry}
use Rattle.ti_types.specs.declared.entry.Entry.TheVariants.{Asked}
use Rattle.ti_types.specs.declared.event.Ticket.{Ticket}
use Rattle.ti_types.specs.declared.limits.Limits.{Limits}
use Rattle.ti_types.specs.declared.numbers.EnvNo.{EnvNo}
use Rattle.ti_types.specs.declared.numbers.ThreadNo.{ThreadNo}
use Rattle.ti_replay.specs.Legal.{is_legal, asked_by, calls_spent}
use Rattle.ti_replay.specs.Makers.{made_by, maker, AllBy, Adds}
use Rattle.std.specs.Prelude.{is_some, IfSome, nat_lt, ◌&&◌, if◌then◌else◌}
use Rattle.std.proofs.lemmas.Bool.{cases_Bool, cases_eq, eqb-true}
use Rattle.std.specs.Option.{option_map}
use Rattle.ti_types.specs.Answer.{said}
use Rattle.std.proofs.lemmas.Bool.Decides.{nat_tests}
use Rattle.std.proofs.lemmas.List.Elements.{filter-append}
use Rattle.ti_replay.specs.Events.{if_none}
use Rattle.ti_replay.specs.Tickets.{reply_to}
use Rattle.ti_replay.proofs.PlaceTickets.{reply_by_ticket}
use Rattle.ti_types.specs.declared.error.TiError.{TiError}
use Rattle.ti_replay.specs.Replies.{reply}
use Rattle.ti_slot.specs.declared.asked.Asked as asked
use Rattle.ti_slot.specs.declared.asked.Asked.TheVariants.{Answered, Waiting}
use Rattle.ti_slot.specs.Thread.{Thread, IsAsked, next_asked, ticket_of, with_more, with_tickets}
use Rattle.ti_slot.specs.Tickets.{same, has, held_by, without_ticket, AreOnce}
use Rattle.ti_cell.specs.declared.view.View.{View}
use Rattle.ti_cell.specs.View.{holding, stored, tickets_of, tickets_but}
use Rattle.ti_cell.specs.Rule.{IsTaken, Keeps}
use Rattle.ti_cell.specs.Asking.{AsksAtOnce}
use Rattle.ti_cell.proofs.Tickets.{out_of_env}
use Rattle.ti_cell.proofs.Calls.{has_of, left_of, collect_keeps}
use Rattle.ti_cell.specs.Seats.{Sitting, Holding}
use Rattle.ti_cell.proofs.Goes.{asked_more, asked_is, may_ask}
use Rattle.ti_handshake.specs.Call.{WaitsWith, HoldsWith, Holds, found, IsTold, IsAnswered, next_call, ticket_told}
use Rattle.ti_handshake.specs.Desk.{DeskState, Sits, ReplyAtPlace}
use Rattle.ti_handshake.specs.Seated.{IsThere, place_in}
use Rattle.ti_handshake.specs.Cancelled.{Given}
use Rattle.ti_handshake.proofs.Holding.{held, held_with, found_held}

-- p is the desk before, s its seat, h the hold, and n the slot as the hold lends it
pub record Took (p : DeskState) (env : EnvNo) (s : Sitting) (h : Holding) (n : Thread) : Type 0 where
  pub view : p.view ≡ s.view
  pub env_is : p.env ≡ env
  pub number : s.view.number ≡ env.0 + 1
  pub there : env.0 < s.view.subject.limits.envs
  pub holds : h.view ≡ holding s.view h.slot.history h.slot.uncollected
  pub taken : IsTaken s.view h.slot
  pub lent : n ≡ h.slot

pub took : (cell : TableId) (env : EnvNo) (o r : Option Sitting) (s : Sitting) (g : Given) (p : DeskState) (h : Holding) (n : Thread)
    → IsThere cell env o g.tickets → place_in cell env o g ≡ p → r ≡ Some s → r ≡ o → h.view ≡ holding s.view h.slot.history h.slot.uncollected → IsTaken s.view h.slot → n ≡ h.slot → Took p env s h n
took cell env o r s g p h n there is some same holds taken lent =
    let e : o ≡ Some s = sym same ∙ some in
    let sits : Sits cell env s = (subst (λ (x : Option Sitting). IsThere cell env x g.tickets) e there).0 in
    let place : place_in cell env (Some s) g ≡ p = ap (λ (x : Option Sitting). place_in cell env x g) (sym e) ∙ is in
    record {
      view = ap (λ (x : DeskState). x.view) (sym place);
      env_is = ap (λ (x : DeskState). x.env) (sym place);
      number = sits.number;
      there = sits.there;
      holds = holds;
      taken = taken;
      lent = lent;
    }

pub may_call : (p : DeskState) (env : EnvNo) (s : Sitting) (h : Holding) (n : Thread) → Took p env s h n → calls_spent p.env p.view.mine < p.view.subject.limits.calls → calls_spent env n.history < n.limits.calls
may_call p env s h n k left =
    let here : calls_spent env s.view.mine < s.view.subject.limits.calls = subst (λ (x : EnvNo × View). calls_spent x.0 x.1.mine < x.1.subject.limits.calls) (λ i. (k.env_is i, k.view i)) left in
    subst (λ (t : Thread). calls_spent env t.history < t.limits.calls) (sym k.lent) (may_ask s.view h.slot env k.taken k.number here)

taken_here : (p : DeskState) (env : EnvNo) (s : Sitting) (h : Holding) (n : Thread) → Took p env s h n → IsTaken s.view n
taken_here p env s h n k = subst (λ (t : Thread). IsTaken s.view t) (sym k.lent) k.taken

-- the desk's tickets are those of the slot that are its own
pub posted_is : (p : DeskState) (env : EnvNo) (s : Sitting) (h : Holding) (n : Thread) → Took p env s h n → p.view.posted ≡ tickets_of (env.0 + 1) n.uncollected
posted_is p env s h n k =
    ap (λ (v : View). v.posted) k.view ∙ ((taken_here p env s h n k).posted ∙ ap (λ (i : ℕ). tickets_of i n.uncollected) k.number)

-- there is room in the slot, if there is at the desk
pub has_room : (p : DeskState) (env : EnvNo) (s : Sitting) (h : Holding) (n : Thread) → Took p env s h n → length p.view.posted ≤ p.view.subject.limits.window → held_by env n.uncollected ≤ n.limits.window
has_room p env s h n k few =
    let t = taken_here p env s h n k in
    omega (arith, few, ap (λ (l : List Ticket). length l) (posted_is p env s h n k), out_of_env (env.0 + 1) env refl n.uncollected, ap (λ (l : Limits). l.window) t.about.0, ap (λ (v : View). v.subject.limits.window) k.view)

store_is : (p : DeskState) (env : EnvNo) (s : Sitting) (h : Holding) (n : Thread) (w : View) (history : List Entry) (left : List Ticket) → Took p env s h n → w ≡ stored h.view history left → w ≡ stored (holding s.view n.history n.uncollected) history left
store_is p env s h n w history left k store = store ∙ (λ i. stored (k.holds i) history left) ∙ sym (λ i. stored (holding s.view (k.lent i).history (k.lent i).uncollected) history left)

-- what is stored is what was found, with more after it, and other tickets of the desk
pub stores_with : (p : DeskState) (env : EnvNo) (s : Sitting) (h : Holding) (n m : Thread) (w : View) (more : List Entry) (tickets : List Ticket) → Took p env s h n
    → w ≡ stored h.view m.history m.uncollected → m.history ≡ n.history ++ more → is_legal w.subject.limits w.seen ≡ true → w.mine ≡ made_by w.number w.seen
    → tickets_of (env.0 + 1) m.uncollected ≡ tickets → HoldsWith p.view w more tickets
stores_with p env s h n m w more tickets k store longer legal whole posted =
    subst (λ (v : View). HoldsWith v w more tickets) (sym k.view)
    (held_with s.view w n m.history more m.uncollected tickets (taken_here p env s h n k) (store_is p env s h n w m.history m.uncollected k store) longer legal whole (ap (λ (i : ℕ). tickets_of i m.uncollected) k.number ∙ posted))

pub stores : (p : DeskState) (env : EnvNo) (s : Sitting) (h : Holding) (n m : Thread) (w : View) (more : List Entry) → Took p env s h n
    → w ≡ stored h.view m.history m.uncollected → m ≡ with_more n more → is_legal w.subject.limits w.seen ≡ true → w.mine ≡ made_by w.number w.seen → Holds p.view w more
stores p env s h n m w more k store is legal whole =
    subst (λ (v : View). Holds v w more) (sym k.view)
    (held s.view w n m.history more m.uncollected (taken_here p env s h n k) (store_is p env s h n w m.history m.uncollected k store) (ap (λ (t : Thread). t.history) is) (ap (λ (t : Thread). t.uncollected) is) legal whole)

pub finds : (p : DeskState) (env : EnvNo) (s : Sitting) (h : Holding) (n m : Thread) (w : View) (more : List Entry) → Took p env s h n
    → w ≡ stored h.view m.history m.uncollected → m.history ≡ n.history ++ more → found p.view w ≡ n.history
finds p env s h n m w more k store longer =
    subst (λ (v : View). found v w ≡ n.history) (sym k.view) (found_held s.view w n m.history more m.uncollected (store_is p env s h n w m.history m.uncollected k store) longer)

-- the tickets of others are left as they were
pub may_keep : (p : DeskState) (env : EnvNo) (s : Sitting) (h : Holding) (n m : Thread) → Took p env s h n → Keeps (env.0 + 1) n.uncollected m.uncollected → Keeps h.view.number h.view.found m.uncollected
may_keep p env s h n m k keeps =
    let found : n.uncollected ≡ h.view.found = ap (λ (t : Thread). t.uncollected) k.lent ∙ sym (ap (λ (v : View). v.found) k.holds) in
    let number : env.0 + 1 ≡ h.view.number = sym (ap (λ (v : View). v.number) k.holds ∙ k.number) in
    subst (λ (x : ℕ × List Ticket). Keeps x.0 x.1 m.uncollected) (λ i. (number i, found i)) keeps

-- so they are where all are
pub keeps_all : (p : DeskState) (env : EnvNo) (s : Sitting) (h : Holding) (n m : Thread) → Took p env s h n → m.uncollected ≡ n.uncollected → Keeps h.view.number h.view.found m.uncollected
keeps_all p env s h n m k same = may_keep p env s h n m k (ap (tickets_but (env.0 + 1)) same)

-- what a refusal or an answer of the slot depends on
pub record Known : Type 0 where
  pub limits : Limits
  pub history : List Entry
  pub thread : ThreadNo
  pub env : EnvNo

abbrev pub in_slot : Thread → EnvNo → Known
in_slot n env = record { limits = n.limits; history = n.history; thread = n.number; env = env }

abbrev pub at_desk : DeskState → View → Known
at_desk p w = record { limits = p.view.subject.limits; history = found p.view w; thread = p.view.subject.thread; env = p.env }

pub knows : (p : DeskState) (env : EnvNo) (s : Sitting) (h : Holding) (n m : Thread) (w : View) (more : List Entry) → Took p env s h n
    → w ≡ stored h.view m.history m.uncollected → m.history ≡ n.history ++ more → in_slot n env ≡ at_desk p w
knows p env s h n m w more k store longer =
    let t = taken_here p env s h n k in
    let limits : n.limits ≡ p.view.subject.limits = t.about.0 ∙ ap (λ (v : View). v.subject.limits) (sym k.view) in
    let number : n.number ≡ p.view.subject.thread = t.about.1 ∙ ap (λ (v : View). v.subject.thread) (sym k.view) in
    let there = sym (finds p env s h n m w more k store longer) in
    let same = sym k.env_is in
    λ i. record { limits = limits i; history = there i; thread = number i; env = same i }

-- where what is added is said of the slot, it is said of the desk
pub stores_as : (F : Known → List Entry) (p : DeskState) (env : EnvNo) (s : Sitting) (h : Holding) (n m : Thread) (w : View) → Took p env s h n
    → w ≡ stored h.view m.history m.uncollected → m ≡ with_more n (F (in_slot n env)) → is_legal w.subject.limits w.seen ≡ true → w.mine ≡ made_by w.number w.seen → Holds p.view w (F (at_desk p w))
stores_as F p env s h n m w k store is legal whole =
    subst (λ (x : Known). Holds p.view w (F x)) (knows p env s h n m w (F (in_slot n env)) k store (ap (λ (t : Thread). t.history) is)) (stores p env s h n m w (F (in_slot n env)) k store is legal whole)

next_is : (p : DeskState) (env : EnvNo) (s : Sitting) (h : Holding) (n : Thread) (call : Call) → Took p env s h n → next_asked n env call ≡ next_call p.view p.env call
next_is p env s h n call k =
    ap (λ (i : ℕ). Asked env i call) (asked_is s.view n env (taken_here p env s h n k) k.number) ∙ (λ i. Asked (sym k.env_is i) (asked_by (sym k.env_is i) (sym k.view i).mine) call)

-- the ticket of a call that waits is new
pub ticket_fresh : (n : Thread) (env : EnvNo) → ((k : Ticket) → has k n.uncollected ≡ true → (k.thread.0 == n.number.0 && nat_lt k.no (asked_by k.env n.history)) ≡ true) → has (ticket_of n env) n.uncollected ≡ false
ticket_fresh n env known =
    elim (cases_Bool (has (ticket_of n env) n.uncollected)) [
      | inl out ↦ let k = known (ticket_of n env) out in absurd (grind (arith, nat_tests, k))
      | inr fresh ↦ fresh
    ]

-- the tickets of a slot after a call
asked_tickets : (n m : Thread) (env : EnvNo) (call : Call) (r : asked.Asked) → IsAsked n m env call r → m.uncollected ≡ n.uncollected ++ ticket_told r
asked_tickets n m env call (Answered a) is = ap (λ (t : Thread). t.uncollected) is.0 ∙ sym (append-nil n.uncollected)
asked_tickets n m env call (Waiting t) is = ap (λ (t : Thread). t.uncollected) is.0

-- the ticket is the seat's own
own_ticket : (n m : Thread) (env : EnvNo) (call : Call) (r : asked.Asked) → IsAsked n m env call r → tickets_of (env.0 + 1) (ticket_told r) ≡ ticket_told r
own_ticket n m env call (Answered a) is = refl
own_ticket n m env call (Waiting t) is =
    let own : (suc t.env.0 == env.0 + 1) ≡ true = eq-eqb (suc t.env.0) (env.0 + 1) (omega (arith, ap (λ (u : Ticket). u.env.0) is.2)) in
    ap (λ (b : Bool). cond b (t ∷ []) []) own

pub asks : (p : DeskState) (env : EnvNo) (s : Sitting) (h : Holding) (n m : Thread) (w : View) (call : Call) (r : asked.Asked) → Took p env s h n → IsAsked n m env call r
    → w ≡ stored h.view m.history m.uncollected → is_legal w.subject.limits w.seen ≡ true → w.mine ≡ made_by w.number w.seen
    → HoldsWith p.view w (next_call p.view p.env call ∷ []) (p.view.posted ++ ticket_told r)
asks p env s h n m w call r k is store legal whole =
    let posted : tickets_of (env.0 + 1) m.uncollected ≡ p.view.posted ++ ticket_told r =
    ap (tickets_of (env.0 + 1)) (asked_tickets n m env call r is)
    ∙ (filter-append (λ (t : Ticket). suc t.env.0 == env.0 + 1) n.uncollected (ticket_told r)
    ∙ (λ i. sym (posted_is p env s h n k) i ++ own_ticket n m env call r is i)) in
    stores_with p env s h n m w (next_call p.view p.env call ∷ []) (p.view.posted ++ ticket_told r) k store
    ((asked_more n m env call r is).0 ∙ ap (λ (x : Entry). n.history ++ x ∷ []) (next_is p env s h n call k)) legal whole posted

-- the reply to a call is the same at the desk as in the slot
reply_here : (p : DeskState) (env : EnvNo) (s : Sitting) (h : Holding) (n m : Thread) (w : View) (call : Call) (r : asked.Asked) → Took p env s h n → IsAsked n m env call r
    → w ≡ stored h.view m.history m.uncollected → reply m.limits m.history (length n.history) ≡ reply p.view.subject.limits w.seen (length (found p.view w))
reply_here p env s h n m w call r k is store =
    let more = asked_more n m env call r is in
    let known = knows p env s h n m w (next_asked n env call ∷ []) k store more.0 in
    let limits : m.limits ≡ p.view.subject.limits = more.1 ∙ ap (λ (x : Known). x.limits) known in
    let seen : m.history ≡ w.seen = sym (ap (λ (v : View). v.seen) store) in
    let place : n.history ≡ found p.view w = ap (λ (x : Known). x.history) known in
    λ i. reply (limits i) (seen i) (length (place i))

pub told : (p : DeskState) (env : EnvNo) (s : Sitting) (h : Holding) (n m : Thread) (w : View) (call : Call) (r : asked.Asked) → Took p env s h n → IsAsked n m env call r
    → has (ticket_of n env) n.uncollected ≡ false → w ≡ stored h.view m.history m.uncollected → IsTold p.view w p.env call r
told p env s h n m w call r k is fresh store = by_case r is
  where
    ticket_same : (t : Ticket) → t ≡ ticket_of n env → t ≡ record { env = p.env; thread = p.view.subject.thread; no = asked_by p.env p.view.mine }
    ticket_same t e =
        let taken = taken_here p env s h n k in
        let number : n.number ≡ p.view.subject.thread = taken.about.1 ∙ ap (λ (v : View). v.subject.thread) (sym k.view) in
        let no' : asked_by env n.history ≡ asked_by p.env p.view.mine = asked_is s.view n env taken k.number ∙ (λ i. asked_by (sym k.env_is i) (sym k.view i).mine) in
        e ∙ (λ i. record { env = sym k.env_is i; thread = number i; no = no' i })

    not_out : (t : Ticket) → t ≡ ticket_of n env → has t p.view.posted ≡ false
    not_out t e =
        (λ i. has (e i) (posted_is p env s h n k i)) ∙ (has_of (env.0 + 1) (ticket_of n env) (omega arith) n.uncollected ∙ fresh)

    by_case : (r : asked.Asked) → IsAsked n m env call r → IsTold p.view w p.env call r
    by_case (Answered a) is = sym (reply_here p env s h n m w call (Answered a) k is store) ∙ is.1
    by_case (Waiting t) is = (sym (reply_here p env s h n m w call (Waiting t) k is store) ∙ is.1, ticket_same t is.2, not_out t is.2)

-- a call that was asked and answered in one hold
abbrev hold_of : TableId → View → Thread → Holding
hold_of cell v t = record { cell = cell; view = holding v t.history t.uncollected; slot = t }

pub took_now : (cell : TableId) (env : EnvNo) (o : Option Sitting) (s : Sitting) (g : Given) (p : DeskState) (w : View) (call : Call) (a : Answer) → IsThere cell env o g.tickets → place_in cell env o g ≡ p → o ≡ Some s
    → (k : AsksAtOnce s.view w env call a) → Took p env s (hold_of cell s.view k.slot) k.slot
took_now cell env o s g p w call a there is some k = took cell env o o s g p (hold_of cell s.view k.slot) k.slot there is some refl refl k.taken refl

pub asks_now : (p : DeskState) (cell : TableId) (env : EnvNo) (s : Sitting) (w : View) (call : Call) (a : Answer) (k : AsksAtOnce s.view w env call a) → Took p env s (hold_of cell s.view k.slot) k.slot
    → is_legal w.subject.limits w.seen ≡ true → w.mine ≡ made_by w.number w.seen → Holds p.view w (next_call p.view p.env call ∷ [])
asks_now p cell env s w call a k took legal whole =
    subst (λ (l : List Ticket). HoldsWith p.view w (next_call p.view p.env call ∷ []) l) (append-nil p.view.posted)
    (asks p env s (hold_of cell s.view k.slot) k.slot k.left w call (Answered a) took k.asked k.store legal whole)

pub told_now : (p : DeskState) (cell : TableId) (env : EnvNo) (s : Sitting) (w : View) (call : Call) (a : Answer) (k : AsksAtOnce s.view w env call a) → Took p env s (hold_of cell s.view k.slot) k.slot
    → IsTold p.view w p.env call (Answered a)
told_now p cell env s w call a k took = sym (reply_here p env s (hold_of cell s.view k.slot) k.slot k.left w call (Answered a) took k.asked k.store) ∙ k.asked.1

-- of tickets that are there once, none is left when it is taken out
pub out_once : (t : Ticket) (tickets : List Ticket) → AreOnce tickets → has t (without_ticket t tickets) ≡ false
out_once t [] once = refl
out_once t (u ∷ tickets) once =
    elim (cases_Bool (same u t)) [
      | inl it ↦
          let gone : has t tickets ≡ false = has_same u t tickets it ∙ once.0 in
          grind (arith, it, gone)
      | inr other ↦ grind (arith, other, out_once t tickets once.1)
    ]
  where
    one_same : (v u t : Ticket) → same u t ≡ true → same v t ≡ same v u
    one_same v u t it = grind (arith, nat_tests, it)

    has_same : (u t : Ticket) (tickets : List Ticket) → same u t ≡ true → has t tickets ≡ has u tickets
    has_same u t [] it = refl
    has_same u t (v ∷ tickets) it = grind (arith, one_same v u t it, has_same u t tickets it)

-- so it is with those of one seat
pub once_of : (n : ℕ) (tickets : List Ticket) → AreOnce tickets → AreOnce (tickets_of n tickets)
once_of n [] once = tt
once_of n (u ∷ tickets) once =
    elim (cases_Bool (suc u.env.0 == n)) [
      | inl own ↦
          let e : suc u.env.0 ≡ n = eqb-true _ _ own in
          let none : has u (tickets_of n tickets) ≡ false = has_of n u e tickets ∙ once.0 in
          subst (λ (b : Bool). AreOnce (cond b (u ∷ tickets_of n tickets) (tickets_of n tickets))) (sym own) (none, once_of n tickets once.1)
      | inr other ↦ subst (λ (b : Bool). AreOnce (cond b (u ∷ tickets_of n tickets) (tickets_of n tickets))) (sym other) (once_of n tickets once.1)
    ]

-- a ticket of a seat is of its number
of_number : (n : ℕ) (t : Ticket) (tickets : List Ticket) → has t (tickets_of n tickets) ≡ true → suc t.env.0 ≡ n
of_number n t [] h = cc
of_number n t (u ∷ tickets) h =
    elim (cases_Bool (suc u.env.0 == n)) [
      | inl own ↦
          elim (cases_Bool (same u t)) [
            | inl it ↦ eqb-true (suc t.env.0) n (grind (arith, nat_tests, it, own))
            | inr other ↦ of_number n t tickets (grind (arith, h, own, other))
          ]
      | inr not_own ↦ of_number n t tickets (grind (arith, h, not_own))
    ]

-- a ticket is among those of its environment's seat alone
pub own_has : (env : EnvNo) (t : Ticket) (tickets : List Ticket) → has t (tickets_of (env.0 + 1) tickets) ≡ (t.env.0 == env.0 && has t tickets)
own_has env t tickets =
    elim (cases_eq t.env.0 env.0) [
      | inl e ↦ let is = has_of (env.0 + 1) t (omega (arith, e)) tickets in grind (arith, nat_tests, e, is)
      | inr n ↦
          let none : has t (tickets_of (env.0 + 1) tickets) ≡ false = elim (cases_Bool (has t (tickets_of (env.0 + 1) tickets))) [
            | inl h ↦ absurd (let e = of_number (env.0 + 1) t tickets h in n (omega (arith, e)))
            | inr h ↦ h
          ] in
          let other : (t.env.0 == env.0) ≡ false = ne_eqb t.env.0 env.0 n in
          none ∙ sym (ap (λ (b : Bool). b && has t tickets) other)
    ]

-- who is answered asked by a ticket of its own
pub own_answered : (env : EnvNo) (t : Ticket) (there : Bool) (told : Option Answer) (r : Option Answer) → option_map said r ≡ (if t.env.0 == env.0 && there then told else None)
    → IfSome r (λ a. suc t.env.0 ≡ env.0 + 1)
own_answered env t there told None e = tt
own_answered env t there told (Some a) e =
    elim (cases_Bool (t.env.0 == env.0)) [
      | inl own ↦ let q = eqb-true t.env.0 env.0 own in omega (arith, q)
      | inr other ↦
          let never : Some (said a) ≡ None = e ∙ ap (λ (b : Bool). if b && there then told else None) other in
          absurd (let z : ⊥ = some_none never in z)
    ]
  where
    some_none : Some (said a) ≡ None → ⊥
    some_none h = cc

-- a collection by one hold
pub collects : (p : DeskState) (env : EnvNo) (s : Sitting) (h : Holding) (n m : Thread) (w : View) (t : Ticket) (r : Option Answer) → Took p env s h n → IfSome r (λ a. suc t.env.0 ≡ env.0 + 1)
    → m ≡ with_tickets n (if is_some r then without_ticket t n.uncollected else n.uncollected)
    → w ≡ stored h.view m.history m.uncollected → is_legal w.subject.limits w.seen ≡ true → w.mine ≡ made_by w.number w.seen
    → HoldsWith p.view w [] (if is_some r then without_ticket t p.view.posted else p.view.posted)
collects p env s h n m w t r k own is store legal whole =
    stores_with p env s h n m w [] (if is_some r then without_ticket t p.view.posted else p.view.posted) k store
    (ap (λ (x : Thread). x.history) is ∙ sym (append-nil n.history)) legal whole (ap (λ (x : Thread). tickets_of (env.0 + 1) x.uncollected) is ∙ left r own)
  where
    left : (r : Option Answer) → IfSome r (λ a. suc t.env.0 ≡ env.0 + 1) → tickets_of (env.0 + 1) (if is_some r then without_ticket t n.uncollected else n.uncollected) ≡ if is_some r then without_ticket t p.view.posted else p.view.posted
    left None o = sym (posted_is p env s h n k)
    left (Some a) o = left_of (env.0 + 1) t o n.uncollected ∙ ap (without_ticket t) (sym (posted_is p env s h n k))

-- it adds nothing, and leaves the tickets of others
pub collect_adds : (p : DeskState) (env : EnvNo) (s : Sitting) (h : Holding) (n m : Thread) (tickets : List Ticket) → Took p env s h n → m ≡ with_tickets n tickets → Adds h.view.number h.view.seen m.history
collect_adds p env s h n m tickets k is =
    let seen : h.view.seen ≡ m.history = ap (λ (v : View). v.seen) k.holds ∙ (ap (λ (t : Thread). t.history) (sym k.lent) ∙ sym (ap (λ (t : Thread). t.history) is)) in
    ([], sym seen ∙ sym (append-nil h.view.seen), tt)

pub collect_may_keep : (p : DeskState) (env : EnvNo) (s : Sitting) (h : Holding) (n m : Thread) (t : Ticket) (r : Option Answer) → Took p env s h n → IfSome r (λ a. suc t.env.0 ≡ env.0 + 1)
    → m ≡ with_tickets n (if is_some r then without_ticket t n.uncollected else n.uncollected) → Keeps h.view.number h.view.found m.uncollected
collect_may_keep p env s h n m t r k own is =
    may_keep p env s h n m k (ap (λ (x : Thread). tickets_but (env.0 + 1) x.uncollected) is ∙ all r own)
  where
    all : (r : Option Answer) → IfSome r (λ a. suc t.env.0 ≡ env.0 + 1) → tickets_but (env.0 + 1) (if is_some r then without_ticket t n.uncollected else n.uncollected) ≡ tickets_but (env.0 + 1) n.uncollected
    all None o = refl
    all (Some a) o = collect_keeps (env.0 + 1) t o n.uncollected

-- what is collected is the reply to the ticket, where that is one of the desk's
pub collected : (p : DeskState) (env : EnvNo) (s : Sitting) (h : Holding) (n m : Thread) (w : View) (t : Ticket) (a : Option Answer) (tickets : List Ticket) → Took p env s h n
    → w ≡ stored h.view m.history m.uncollected → m ≡ with_tickets n tickets
    → a ≡ (if t.env.0 == env.0 && has t n.uncollected then reply_to n.limits n.history t else None) → a ≡ (if has t p.view.posted then reply_to p.view.subject.limits w.seen t else None)
collected p env s h n m w t a tickets k store same is =
    let there : (t.env.0 == env.0 && has t n.uncollected) ≡ has t p.view.posted = sym (own_has env t n.uncollected) ∙ ap (has t) (sym (posted_is p env s h n k)) in
    let limits : n.limits ≡ p.view.subject.limits = (taken_here p env s h n k).about.0 ∙ ap (λ (v : View). v.subject.limits) (sym k.view) in
    let seen : n.history ≡ w.seen = sym (ap (λ (v : View). v.seen) store ∙ ap (λ (x : Thread). x.history) same) in
    is ∙ (λ i. if there i then reply_to (limits i) (seen i) t else None)

-- the reply to a ticket that is out
pub told_out : (t : Ticket) (out : Bool) (x : Option Answer) (a : Answer) → out ≡ true → Some a ≡ (if out then x else None) → x ≡ Some a
told_out t out x a there is = sym (is ∙ ap (λ (b : Bool). if b then x else None) there)

-- and it is none of the desk's tickets any more
pub gone_then : (p : DeskState) (env : EnvNo) (s : Sitting) (h : Holding) (n : Thread) (w : View) (t : Ticket) (r : Option Answer) → Took p env s h n → AreOnce n.uncollected
    → w.posted ≡ (if is_some r then without_ticket t p.view.posted else p.view.posted) → IfSome r (λ a. has t w.posted ≡ false)
gone_then p env s h n w t None k once is = tt
gone_then p env s h n w t (Some a) k once is =
    ap (has t) (is ∙ ap (without_ticket t) (posted_is p env s h n k)) ∙ out_once t (tickets_of (env.0 + 1) n.uncollected) (once_of (env.0 + 1) n.uncollected once)

-- what a stop, a read or a go adds is the desk's own
pub adds_held : (p : DeskState) (env : EnvNo) (s : Sitting) (h : Holding) (n m : Thread) (r : Option TiError) (x : Entry) → Took p env s h n → maker x ≡ suc env.0 → m ≡ with_more n (if_none r (x ∷ []))
    → Adds h.view.number h.view.seen m.history
adds_held p env s h n m r x k by is =
    let seen : h.view.seen ≡ n.history = ap (λ (v : View). v.seen) k.holds ∙ ap (λ (t : Thread). t.history) (sym k.lent) in
    let number : h.view.number ≡ suc env.0 = ap (λ (v : View). v.number) k.holds ∙ omega (arith, k.number) in
    subst (λ (a : ℕ × List Entry). Adds a.0 a.1 m.history) (λ i. (sym number i, sym seen i)) (if_none r (x ∷ []), ap (λ (t : Thread). t.history) is, all r)
  where
    all : (r : Option TiError) → AllBy (suc env.0) (if_none r (x ∷ []))
    all None = (by, tt)
    all (Some e) = tt

-- an answer that is said of the slot is said of the desk
pub answers_as : (F : Known → Type 0) (p : DeskState) (env : EnvNo) (s : Sitting) (h : Holding) (n m : Thread) (w : View) (more : List Entry) → Took p env s h n
    → w ≡ stored h.view m.history m.uncollected → m ≡ with_more n more → F (in_slot n env) → F (at_desk p w)
answers_as F p env s h n m w more k store is f = subst F (knows p env s h n m w more k store (ap (λ (t : Thread). t.history) is)) f

-- the reply to a ticket is the reply at the place of its call
pub at_place : (limits : Limits) (history : List Entry) (t : Ticket) (a : Answer) → is_legal limits history ≡ true → reply_to limits history t ≡ Some a → ReplyAtPlace limits history t a
at_place limits history t a legal is front rest call stands =
    (λ i. reply limits (stands i) (length front))
    ∙ (reply_by_ticket limits front rest t call (subst (λ (h : List Entry). is_legal limits h ≡ true) stands legal)
    ∙ ((λ i. reply_to limits (sym stands i) t) ∙ is))

-- so is what is collected where it is there
pub at_place_if : (limits : Limits) (history : List Entry) (t : Ticket) (out : Bool) (r : Option Answer) → is_legal limits history ≡ true → option_map said r ≡ (if out then reply_to limits history t else None)
    → IfSome r (λ a. ReplyAtPlace limits history t (said a))
at_place_if limits history t out None legal is = tt
at_place_if limits history t true (Some a) legal is = at_place limits history t (said a) legal (sym is)
at_place_if limits history t false (Some a) legal is = absurd (never is)
  where
    never : Some (said a) ≡ None → ⊥
    never h = cc

-- a call that waited, and was collected
pub answered_later : (p m q : DeskState) (call : Call) (t : Ticket) (a : Answer) (tickets left : List Ticket) → WaitsWith p.view m.view (next_call p.view p.env call ∷ []) tickets → IsTold p.view m.view p.env call (Waiting t)
    → WaitsWith m.view q.view [] left → ReplyAtPlace m.view.subject.limits q.view.seen t a → IsAnswered p.view q.view (next_call p.view p.env call) a
answered_later p m q call t a tickets left k is l place =
    let front = found p.view m.view in
    let next = next_call p.view p.env call in
    let longer : q.view.seen ≡ front ++ next ∷ l.goes.begins.0 =
    l.goes.begins.1 ∙ (ap (λ (x : List Entry). x ++ l.goes.begins.0) k.last ∙ append_assoc front (next ∷ []) l.goes.begins.0) in
    let ticket : next ≡ Asked t.env t.no call = λ i. Asked (sym is.1 i).env (sym is.1 i).no call in
    let there : q.view.seen ≡ front ++ Asked t.env t.no call ∷ l.goes.begins.0 = longer ∙ ap (λ (x : Entry). front ++ x ∷ l.goes.begins.0) ticket in
    record {
      front = front;
      rest = l.goes.begins.0;
      stands = longer;
      behind = k.here;
      replied = subst (λ (x : Limits). reply x q.view.seen (length front) ≡ Some a) (ap (λ x. x.limits) k.goes.subject) (place front l.goes.begins.0 call there);
    }

-- a ticket that is new comes out of the tickets as it came in
pub in_and_out : (t : Ticket) (tickets : List Ticket) → has t tickets ≡ false → without_ticket t (tickets ++ t ∷ []) ≡ tickets
in_and_out t [] h =
    ap (λ (b : Bool). cond b [] (t ∷ [])) (same_self t)
  where
    same_self : (t : Ticket) → same t t ≡ true
    same_self t = grind (arith, eq-eqb t.no t.no refl, eq-eqb t.env.0 t.env.0 refl, eq-eqb t.thread.0 t.thread.0 refl)
in_and_out t (u ∷ tickets) h =
    let other : same u t ≡ false = grind (arith, h) in
    let rest : has t tickets ≡ false = grind (arith, h) in
    grind (arith, other, in_and_out t tickets rest)
