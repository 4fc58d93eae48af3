-- The tickets of a history's calls, and those that are open.
use Rattle.std.proofs.Common.{◌≡◌, ℕ, ◌+◌, ◌==◌, nat_lt, Bool, true, false, ◌&&◌, ◌||◌, if◌then◌else◌, List, [], ◌∷◌, ◌++◌, refl, ap, sym, ◌∙◌, arith, append-nil, append_assoc, inl, inr, subst}
use Rattle.std.proofs.lemmas.List.{flat_map_more}
use Rattle.std.proofs.lemmas.List.Folds.{list_any-append}
use Rattle.std.proofs.lemmas.Bool.{cases_Bool, cases_eq}
use Rattle.std.proofs.lemmas.Bool.Decides.{nat_tests}
use Rattle.ti_types.specs.declared.numbers.EnvNo.{EnvNo}
use Rattle.ti_types.specs.declared.numbers.ThreadNo.{ThreadNo}
use Rattle.ti_types.specs.declared.event.Ticket.{Ticket}
use Rattle.ti_types.specs.declared.step.Step.{Step}
use Rattle.ti_types.specs.declared.entry.Entry.{Entry}
use Rattle.ti_types.specs.declared.entry.Entry.TheVariants.{Own}
use Rattle.ti_ops.specs.declared.status.CallStatus.{CallStatus}
use Rattle.ti_ops.specs.declared.status.CallStatus.TheVariants.{Gone}
use Rattle.ti_ops.specs.Statuses.{status_of, with_status, is_open}
use Rattle.ti_replay.specs.LateTickets.{steps_of}
use Rattle.ti_slot.specs.Tickets.{same, has, without_ticket, AreOnce, ticket_in, asked_in, open_in, is_at}
use Rattle.ti_slot.proofs.CallStatusLaws.{status-with_status, same_status}

pub asked_in-snoc : (number : ThreadNo) (history : List Entry) (x : Entry) → asked_in number (history ++ x ∷ []) ≡ asked_in number history ++ ticket_in number x
asked_in-snoc number history x = sym (flat_map_more (ticket_in number) [] history x)

pub asked_stay : (number : ThreadNo) (history : List Entry) (x : Entry) → ticket_in number x ≡ [] → asked_in number (history ++ x ∷ []) ≡ asked_in number history
asked_stay number history x e = asked_in-snoc number history x ∙ ap (λ ts. asked_in number history ++ ts) e ∙ append-nil (asked_in number history)

pub asked-steps : (number : ThreadNo) (history : List Entry) (steps : List Step) → asked_in number (history ++ steps_of steps) ≡ asked_in number history
asked-steps number history [] = ap (asked_in number) (append-nil history)
asked-steps number history (x ∷ steps) =
    ap (asked_in number) (sym (append_assoc history (Own x ∷ []) (steps_of steps))) ∙ asked-steps number (history ++ Own x ∷ []) steps ∙ asked_stay number history (Own x) refl

same_self : (t : Ticket) → same t t ≡ true
same_self t = grind (arith, nat_tests)

pub same_sym : (u v : Ticket) → same v u ≡ same u v
same_sym u v = grind (arith, nat_tests)

open_like : (t u : Ticket) (statuses : List (List CallStatus)) → same u t ≡ true → status_of u statuses ≡ status_of t statuses
open_like t u statuses h = same_status u t statuses (grind (arith, nat_tests))

pub open-append : (statuses : List (List CallStatus)) (ts us : List Ticket) → open_in statuses (ts ++ us) ≡ open_in statuses ts ++ open_in statuses us
open-append statuses [] us = refl
open-append statuses (t ∷ ts) us = grind (arith, open-append statuses ts us)

-- the same tickets are open
pub open_same : (statuses others : List (List CallStatus)) (ts : List Ticket) → ((t : Ticket) → has t ts ≡ true → is_open (status_of t statuses) ≡ is_open (status_of t others)) → open_in statuses ts ≡ open_in others ts
open_same statuses others [] k = refl
open_same statuses others (t ∷ ts) k =
    let here : is_open (status_of t statuses) ≡ is_open (status_of t others) = k t (ap (λ b. b || has t ts) (same_self t)) in
    let rest : open_in statuses ts ≡ open_in others ts = open_same statuses others ts (λ u h. k u (grind (arith, h))) in
    grind (arith, here, rest)

pub has-open : (t : Ticket) (statuses : List (List CallStatus)) (ts : List Ticket) → has t (open_in statuses ts) ≡ (is_open (status_of t statuses) && has t ts)
has-open t statuses [] = grind arith
has-open t statuses (u ∷ ts) =
    elim (cases_Bool (same u t)) [
      | inl it ↦ let e = ap is_open (open_like t u statuses it) in grind (arith, it, e, has-open t statuses ts)
      | inr other ↦ grind (arith, other, has-open t statuses ts)
    ]

at_same : (t u : Ticket) → u.thread.0 ≡ t.thread.0 → is_at t u ≡ same u t
at_same t u e = grind (arith, nat_tests)

-- a ticket of the list that is not open any more
pub open_less : (t : Ticket) (statuses : List (List CallStatus)) (ts : List Ticket) → is_open (status_of t statuses) ≡ true → AreOnce ts → ((u : Ticket) → has u ts ≡ true → u.thread.0 ≡ t.thread.0)
    → open_in (with_status t Gone statuses) ts ≡ without_ticket t (open_in statuses ts)
open_less t statuses [] o once k = refl
open_less t statuses (u ∷ ts) o once k =
    let one : is_at t u ≡ same u t = at_same t u (k u (ap (λ b. b || has u ts) (same_self u))) in
    let f = status-with_status u t Gone statuses o in
    elim (cases_Bool (same u t)) [
      | inl it ↦
          let here : is_open (status_of u statuses) ≡ true = ap is_open (open_like t u statuses it) ∙ o in
          let gone : status_of u (with_status t Gone statuses) ≡ Gone = f ∙ grind (arith, one, it) in
          let rest : open_in (with_status t Gone statuses) ts ≡ open_in statuses ts =
          open_same (with_status t Gone statuses) statuses ts (λ v h.
          let apart : same v t ≡ false = elim (cases_Bool (same v t)) [ inl e ↦ absurd (let z = met u v t ts it e h in let w = once.0 in cc) | inr e ↦ e ] in
          let v_at : is_at t v ≡ same v t = at_same t v (k v (grind (arith, h))) in
          let same_one : status_of v (with_status t Gone statuses) ≡ status_of v statuses = status-with_status v t Gone statuses o ∙ grind (arith, v_at, apart) in
          ap is_open same_one) in
          grind (arith, here, gone, rest, it)
      | inr other ↦
          let stays : status_of u (with_status t Gone statuses) ≡ status_of u statuses = f ∙ grind (arith, one, other) in
          let rest = open_less t statuses ts o once.1 (λ v h. k v (grind (arith, h))) in
          grind (arith, stays, rest, other)
    ]
  where
    met : (u v t : Ticket) (ts : List Ticket) → same u t ≡ true → same v t ≡ true → has v ts ≡ true → has u ts ≡ true
    met u v t [] a b h = cc
    met u v t (x ∷ ts) a b h =
        elim (cases_Bool (same x v)) [
          | inl e ↦ let z : same x u ≡ true = grind (arith, nat_tests) in grind (arith, z)
          | inr e ↦ let z = met u v t ts a b (grind (arith, e, h)) in grind (arith, z)
        ]

pub once_more : (ts : List Ticket) (u : Ticket) → AreOnce ts → has u ts ≡ false → AreOnce (ts ++ u ∷ [])
once_more [] u o h = (refl, tt)
once_more (v ∷ ts) u o h =
    let a : has u ts ≡ false = grind arith in
    let b : same u v ≡ false = sym (same_sym u v) ∙ grind arith in
    (grind (arith, o.0, b, list_any-append (λ (w : Ticket). same w v) ts (u ∷ [])), once_more ts u o.1 a)

-- the tickets of numbers below a bound, and one of the bound itself
pub listed_more : (t : Ticket) (env : EnvNo) (number : ThreadNo) (n m : ℕ) (ts : List Ticket) → (env.0 ≡ t.env.0 → m ≡ n) → has t ts ≡ (t.thread.0 == number.0 && nat_lt t.no m)
    → has t (ts ++ (record { env = env; thread = number; no = n }) ∷ []) ≡ (t.thread.0 == number.0 && nat_lt t.no (m + (if env.0 == t.env.0 then 1 else 0)))
listed_more t env number n m ts e h =
    let u : Ticket = record { env = env; thread = number; no = n } in
    let a : has t (ts ++ u ∷ []) ≡ (has t ts || (same u t || false)) = list_any-append (λ (w : Ticket). same w t) ts (u ∷ []) in
    elim (cases_eq env.0 t.env.0) [
      | inl here ↦ let z = e here in grind (arith, nat_tests, a, h, here, z)
      | inr other ↦ grind (arith, nat_tests, a, h, other)
    ]

pub open_once : (statuses : List (List CallStatus)) (ts : List Ticket) → AreOnce ts → AreOnce (open_in statuses ts)
open_once statuses [] o = tt
open_once statuses (t ∷ ts) o =
    let none : has t (open_in statuses ts) ≡ false = has-open t statuses ts ∙ ap (λ b. is_open (status_of t statuses) && b) o.0 ∙ and_false (is_open (status_of t statuses)) in
    let rest = open_once statuses ts o.1 in
    elim (cases_Bool (is_open (status_of t statuses))) [
      | inl is ↦ subst AreOnce (sym (ap (λ b. if b then t ∷ open_in statuses ts else open_in statuses ts) is)) (none, rest)
      | inr not ↦ subst AreOnce (sym (ap (λ b. if b then t ∷ open_in statuses ts else open_in statuses ts) not)) rest
    ]
  where
    and_false : (b : Bool) → (b && false) ≡ false
    and_false true = refl
    and_false false = refl
