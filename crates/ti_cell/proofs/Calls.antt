-- The tickets of a seat's calls.
use Rattle.std.proofs.Common.{◌≡◌, ◌≢◌, ℕ, suc, ◌+◌, ◌==◌, eqb, not, List, [], ◌∷◌, ◌++◌, cond, Bool, true, false, refl, sym, ap, ◌∙◌, eq-eqb, ne_eqb, inl, inr, append-nil, arith}
use Rattle.std.proofs.lemmas.Bool.{cases_Bool}
use Rattle.std.proofs.lemmas.List.Elements.{filter-append}
use mathlib.Core.Logic.{dite}
use native.Mathlib.Decide.{ℕ_discrete}
use Rattle.ti_types.specs.declared.event.Ticket.{Ticket}
use Rattle.std.proofs.lemmas.Bool.Decides.{nat_tests}
use Rattle.ti_types.specs.declared.numbers.EnvNo.{EnvNo}
use Rattle.ti_types.specs.declared.call.Call.{Call}
use Rattle.ti_slot.specs.declared.asked.Asked as asked
use Rattle.ti_slot.specs.declared.asked.Asked.TheVariants.{Answered, Waiting}
use Rattle.ti_slot.specs.Thread.{Thread, IsAsked}
use Rattle.ti_slot.specs.Tickets.{same, has, without_ticket}
use Rattle.ti_cell.specs.View.{tickets_of, tickets_but}
use Rattle.ti_cell.specs.Rule.{Keeps}

-- another seat's tickets are among those that are not the seat n's
pub of_but : (j n : ℕ) → j ≢ n → (ts : List Ticket) → tickets_of j (tickets_but n ts) ≡ tickets_of j ts
of_but j n ne [] = refl
of_but j n ne (t ∷ ts) = dite (ℕ_discrete (suc t.env.0) n)
    (λ (e : suc t.env.0 ≡ n).
    let here : eqb (suc t.env.0) n ≡ true = eq-eqb (suc t.env.0) n e in
    let there : eqb (suc t.env.0) j ≡ false = ne_eqb (suc t.env.0) j (λ q. ne (sym q ∙ e)) in
    ap (λ (b : Bool). tickets_of j (cond (not b) (t ∷ tickets_but n ts) (tickets_but n ts))) here
    ∙ (of_but j n ne ts ∙ sym (ap (λ (b : Bool). cond b (t ∷ tickets_of j ts) (tickets_of j ts)) there)))
    (λ ne'.
    let here : eqb (suc t.env.0) n ≡ false = ne_eqb (suc t.env.0) n ne' in
    ap (λ (b : Bool). tickets_of j (cond (not b) (t ∷ tickets_but n ts) (tickets_but n ts))) here
    ∙ ap (λ (l : List Ticket). cond (eqb (suc t.env.0) j) (t ∷ l) l) (of_but j n ne ts))

-- a call leaves the tickets of others as they were
pub asked_keeps : (old new : Thread) (env : EnvNo) (call : Call) (result : asked.Asked) → IsAsked old new env call result → Keeps (env.0 + 1) old.uncollected new.uncollected
asked_keeps old new env call (Answered a) h = ap (λ (t : Thread). tickets_but (env.0 + 1) t.uncollected) h.0
asked_keeps old new env call (Waiting ticket) h =
    let here : eqb (suc ticket.env.0) (env.0 + 1) ≡ true = eq-eqb (suc ticket.env.0) (env.0 + 1) (omega (arith, ap (λ (t : Ticket). t.env.0) h.2)) in
    ap (λ (t : Thread). tickets_but (env.0 + 1) t.uncollected) h.0
    ∙ (filter-append (λ (t : Ticket). not (eqb (suc t.env.0) (env.0 + 1))) old.uncollected (ticket ∷ [])
    ∙ (ap (λ (b : Bool). tickets_but (env.0 + 1) old.uncollected ++ cond (not b) (ticket ∷ []) []) here ∙ append-nil (tickets_but (env.0 + 1) old.uncollected)))

-- so does a collection
pub collect_keeps : (n : ℕ) (t : Ticket) → suc t.env.0 ≡ n → (ts : List Ticket) → tickets_but n (without_ticket t ts) ≡ tickets_but n ts
collect_keeps n t e [] = refl
collect_keeps n t e (u ∷ ts) =
    elim (cases_Bool (same u t)) [
      | inl it ↦
          let env : (u.env.0 == t.env.0) ≡ true = grind (arith, nat_tests, it) in
          let here : (suc u.env.0 == n) ≡ true = grind (arith, nat_tests, env, e) in
          grind (arith, it, here)
      | inr other ↦ grind (arith, other, collect_keeps n t e ts)
    ]

-- a seat's own ticket is among all where it is among the seat's
pub has_of : (n : ℕ) (t : Ticket) → suc t.env.0 ≡ n → (ts : List Ticket) → has t (tickets_of n ts) ≡ has t ts
has_of n t e [] = refl
has_of n t e (u ∷ ts) =
    elim (cases_Bool (suc u.env.0 == n)) [
      | inl it ↦ grind (arith, it, has_of n t e ts)
      | inr other ↦
          let apart : same u t ≡ false = elim (cases_Bool (same u t)) [ inl it ↦ absurd (let z : (suc u.env.0 == n) ≡ true = grind (arith, nat_tests, it, e) in cc) | inr it ↦ it ] in
          grind (arith, other, apart, has_of n t e ts)
    ]

-- and what is left of the seat's tickets
pub left_of : (n : ℕ) (t : Ticket) → suc t.env.0 ≡ n → (ts : List Ticket) → tickets_of n (without_ticket t ts) ≡ without_ticket t (tickets_of n ts)
left_of n t e [] = refl
left_of n t e (u ∷ ts) =
    elim (cases_Bool (same u t)) [
      | inl it ↦
          let here : (suc u.env.0 == n) ≡ true = grind (arith, nat_tests, it, e) in
          grind (arith, it, here)
      | inr other ↦
          elim (cases_Bool (suc u.env.0 == n)) [
            | inl mine ↦ grind (arith, other, mine, left_of n t e ts)
            | inr not_mine ↦ grind (arith, other, not_mine, left_of n t e ts)
          ]
    ]
