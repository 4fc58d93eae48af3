-- A desk and its calls that were cancelled.
use Rattle.std.proofs.Common.{◌≡◌, ◌<◌, Bool, true, false, if◌then◌else◌, inl, inr, List, [], ◌∷◌, ◌++◌, append-nil, drop, refl, ap, sym, ◌∙◌, subst, arith, Option, Some, None}
use Rattle.std.specs.Prelude.{slice_get}
use Rattle.std.proofs.lemmas.Bool.{cases_Bool}
use Rattle.std.proofs.lemmas.Bool.Decides.{nat_tests}
use Rattle.std.proofs.lemmas.List.Folds.{list_any-append}
use Rattle.atomic_table.specs.Seated.{TableId}
use Rattle.ti_types.specs.declared.call.Call.{Call}
use Rattle.ti_types.specs.declared.event.Ticket.{Ticket}
use Rattle.ti_types.specs.declared.numbers.EnvNo.{EnvNo}
use Rattle.ti_slot.specs.declared.asked.Asked as asked
use Rattle.ti_slot.specs.declared.asked.Asked.TheVariants.{Answered, Waiting}
use Rattle.ti_slot.specs.Tickets.{same, has, without_ticket, AreOnce}
use Rattle.ti_cell.specs.declared.view.Subject.{Subject}
use Rattle.ti_cell.specs.declared.view.View.{View}
use Rattle.ti_cell.specs.Seats.{Sitting}
use Rattle.ti_handshake.specs.Call.{IsTold, ticket_told}
use Rattle.ti_handshake.specs.Cancelled.{AreCancelled, Given}
use Rattle.ti_handshake.specs.Desk.{DeskState, IsTicketOut, is_out}
use Rattle.ti_handshake.specs.Seated.{IsThere, place_in}

-- tickets

pub same_is : (a b : Ticket) → same a b ≡ true → a ≡ b
same_is a b h =
    let no : a.no ≡ b.no = grind (arith, nat_tests, h) in
    let env : a.env.0 ≡ b.env.0 = grind (arith, nat_tests, h) in
    let thread : a.thread.0 ≡ b.thread.0 = grind (arith, nat_tests, h) in
    λ i. record { env = record { 0 = env i }; thread = record { 0 = thread i }; no = no i }

same_self : (a : Ticket) → same a a ≡ true
same_self a = grind (arith, nat_tests)

pub has_last : (k : Ticket) (ts : List Ticket) → has k (ts ++ k ∷ []) ≡ true
has_last k ts = list_any-append (λ (u : Ticket). same u k) ts (k ∷ []) ∙ (let e = same_self k in grind (arith, e))

pub has_more : (k : Ticket) (ts us : List Ticket) → has k ts ≡ true → has k (ts ++ us) ≡ true
has_more k ts us h = list_any-append (λ (u : Ticket). same u k) ts us ∙ grind (arith, h)

pub has_without : (j k : Ticket) (ts : List Ticket) → same j k ≡ false → has j (without_ticket k ts) ≡ has j ts
has_without j k [] h = refl
has_without j k (u ∷ ts) h =
    elim (cases_Bool (same u k)) [
      | inl it ↦
          let is : u ≡ k = same_is u k it in
          let apart : same u j ≡ false = ap (λ (x : Ticket). same x j) is ∙ grind (arith, nat_tests, h) in
          grind (arith, it, apart)
      | inr other ↦ let rest = has_without j k ts h in grind (arith, other, rest)
    ]

-- a ticket that is here and another that is not are two
pub apart : (j k : Ticket) (ts : List Ticket) → has j ts ≡ true → has k ts ≡ false → same j k ≡ false
apart j k ts h n =
    elim (cases_Bool (same j k)) [
      | inr e ↦ e
      | inl e ↦ let never : true ≡ false = sym h ∙ (ap (λ (x : Ticket). has x ts) (same_is j k e) ∙ n) in cc
    ]

once_more : (ts : List Ticket) (k : Ticket) → AreOnce ts → has k ts ≡ false → AreOnce (ts ++ k ∷ [])
once_more [] k once n = (refl, tt)
once_more (u ∷ ts) k once n =
    let other : same u k ≡ false = grind (arith, n) in
    let rest : has k ts ≡ false = grind (arith, n) in
    let back : same k u ≡ false = grind (arith, nat_tests, other) in
    (list_any-append (λ (v : Ticket). same v u) ts (k ∷ []) ∙ (let none = once.0 in grind (arith, none, back)), once_more ts k once.1 rest)

-- a desk, by what it has inside

pub place_given : (cell : TableId) (env : EnvNo) (o : Option Sitting) (g : Given) (p : DeskState) → place_in cell env o g ≡ p → p.cancelled ≡ g.tickets
place_given cell env None g p is = ap (λ (x : DeskState). x.cancelled) (sym is)
place_given cell env (Some s) g p is = ap (λ (x : DeskState). x.cancelled) (sym is)

pub given_there : (cell : TableId) (env : EnvNo) (o : Option Sitting) (g : Given) (p : DeskState) → IsThere cell env o g.tickets → place_in cell env o g ≡ p → AreCancelled g.tickets p.view.posted
given_there cell env None g p k is = absurd k
given_there cell env (Some s) g p k is = subst (λ (x : DeskState). AreCancelled g.tickets x.view.posted) is k.1

pub seat_again : (cell : TableId) (env : EnvNo) (o : Option Sitting) (g : Given) (z : List Ticket) (p : DeskState) (s : Sitting) → IsThere cell env o g.tickets → place_in cell env o g ≡ p
    → s.cell ≡ cell → s.view.number ≡ p.view.number → s.view.subject ≡ p.view.subject → AreCancelled z s.view.posted → IsThere cell env (Some s) z
seat_again cell env None g z p s k is here number subject given = absurd k
seat_again cell env (Some t) g z p s k is here number subject given =
    let view : t.view ≡ p.view = ap (λ (x : DeskState). x.view) is in
    let same_number : s.view.number ≡ t.view.number = number ∙ sym (ap (λ (v : View). v.number) view) in
    let same_subject : s.view.subject ≡ t.view.subject = subject ∙ sym (ap (λ (v : View). v.subject) view) in
    (record { here = here; number = same_number ∙ k.0.number; there = subst (λ (x : Subject). env.0 < x.limits.envs) (sym same_subject) k.0.there }, given)

-- a call that was not cancelled is out if it is posted
pub out_posted : (p : DeskState) (t : Ticket) → has t p.cancelled ≡ false → is_out p t ≡ has t p.view.posted
out_posted p t n = grind (arith, n)

-- a new ticket was not cancelled
pub ticket_out : (v w : View) (env : EnvNo) (call : Call) (r : asked.Asked) (g : List Ticket) (q : DeskState) → AreCancelled g v.posted → w.posted ≡ v.posted ++ ticket_told r → IsTold v w env call r
    → q.view ≡ w → q.cancelled ≡ g → IsTicketOut q r
ticket_out v w env call (Answered a) g q given more told view same = tt
ticket_out v w env call (Waiting k) g q given more told view same =
    let posted : has k q.view.posted ≡ true = ap (λ (x : View). has k x.posted) view ∙ (ap (has k) more ∙ has_last k v.posted) in
    let new : has k g ≡ false = elim (cases_Bool (has k g)) [
      | inl h ↦ let never : true ≡ false = sym (given.out k h) ∙ told.2 in cc
      | inr h ↦ h
    ] in
    let none : has k q.cancelled ≡ false = ap (has k) same ∙ new in
    grind (arith, posted, none)

-- those that were cancelled stay out when more is posted
pub posted_given : (g posted more left : List Ticket) → AreCancelled g posted → left ≡ posted ++ more → AreCancelled g left
posted_given g posted more left given is = subst (λ (l : List Ticket). AreCancelled g l) (sym is) (record { once = given.once; out = λ k h. has_more k posted more (given.out k h) })

-- those that were cancelled stay out where another's answer is collected
pub still_given : (g posted : List Ticket) (t : Ticket) (b : Bool) → AreCancelled g posted → has t g ≡ false → AreCancelled g (if b then without_ticket t posted else posted)
still_given g posted t false given n = given
still_given g posted t true given n = record { once = given.once; out = λ k h. has_without k t posted (apart k t g h n) ∙ given.out k h }

-- and the others where the first is discarded
pub less_given : (g posted : List Ticket) (t : Ticket) (b : Bool) → AreCancelled g posted → Some t ≡ slice_get g 0 → AreCancelled (if b then drop 1 g else g) (if b then without_ticket t posted else posted)
less_given g posted t false given first = given
less_given [] posted t true given first = let never : Some t ≡ None = first in cc
less_given (u ∷ g) posted t true given first =
    let is : u ≡ t = (let e : Some t ≡ Some u = first in cc) in
    record {
      once = given.once.1;
      out = λ k h. (let other : same k t ≡ false = ap (same k) (sym is) ∙ apart k u g h given.once.0 in
          has_without k t posted other ∙ given.out k (grind (arith, h)));
    }

-- one more is cancelled
pub more_given : (g posted more : List Ticket) (t : Ticket) → AreCancelled g posted → has t g ≡ false → has t (posted ++ more) ≡ true → AreCancelled (g ++ t ∷ []) (posted ++ more)
more_given g posted more t given n there = record {
  once = once_more g t given.once n;
  out = λ k h. elim (cases_Bool (has k g)) [
    | inl old ↦ has_more k posted more (given.out k old)
    | inr new ↦ (let either = list_any-append (λ (u : Ticket). same u k) g (t ∷ []) in
        let is : same t k ≡ true = grind (arith, either, h, new) in
        ap (λ (x : Ticket). has x (posted ++ more)) (sym (same_is t k is)) ∙ there)
  ];
}

-- the same, by what the lists are afterwards

pub discarded_given : (g posted z left : List Ticket) (t : Ticket) (b : Bool) → AreCancelled g posted → Some t ≡ slice_get g 0 → z ≡ (if b then drop 1 g else g) → left ≡ (if b then without_ticket t posted else posted) → AreCancelled z left
discarded_given g posted z left t b given first zs ls = subst (λ (x : List Ticket × List Ticket). AreCancelled x.0 x.1) (λ i. (sym zs i, sym ls i)) (less_given g posted t b given first)

pub left_given : (g posted z left : List Ticket) (t : Ticket) → AreCancelled g posted → has t posted ≡ false → z ≡ g ++ t ∷ [] → left ≡ posted ++ t ∷ [] → AreCancelled z left
left_given g posted z left t given new zs ls =
    let none : has t g ≡ false = elim (cases_Bool (has t g)) [
      | inl h ↦ let never : true ≡ false = sym (given.out t h) ∙ new in cc
      | inr h ↦ h
    ] in
    subst (λ (x : List Ticket × List Ticket). AreCancelled x.0 x.1) (λ i. (sym zs i, sym ls i)) (more_given g posted (t ∷ []) t given none (has_last t posted))

pub cancel_given : (g posted z left : List Ticket) (t : Ticket) → AreCancelled g posted → has t g ≡ false → has t posted ≡ true → z ≡ g ++ t ∷ [] → left ≡ posted → AreCancelled z left
cancel_given g posted z left t given none there zs ls =
    let all : posted ++ [] ≡ posted = append-nil posted in
    let h : has t (posted ++ []) ≡ true = ap (has t) all ∙ there in
    subst (λ (x : List Ticket × List Ticket). AreCancelled x.0 x.1) (λ i. (sym zs i, (all ∙ sym ls) i)) (more_given g posted [] t given none h)

pub same_given : (g posted z left : List Ticket) → AreCancelled g posted → z ≡ g → left ≡ posted → AreCancelled z left
same_given g posted z left given zs ls = subst (λ (x : List Ticket × List Ticket). AreCancelled x.0 x.1) (λ i. (sym zs i, sym ls i)) given
