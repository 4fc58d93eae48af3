-- How many tickets are a seat's.
use Rattle.std.proofs.Common.{◌≡◌, ℕ, zero, suc, ◌+◌, ◌≤◌, ◌==◌, Bool, cond, if◌then◌else◌, inl, inr, eq-eqb, ne_eqb, List, [], ◌∷◌, length, refl, sym, ◌∙◌, ap, arith}
use Rattle.std.specs.List.{count_by}
use Rattle.std.proofs.lemmas.Bool.{cases_eq}
use Rattle.std.proofs.lemmas.List.Sums.{sum_by-cons, length-filter}
use Rattle.ti_types.specs.declared.entry.Entry.{Entry}
use Rattle.ti_types.specs.declared.entry.Entry.TheVariants.{Start, Own, Hand, Back, End, Asked, Stop, Read, Go}
use Rattle.ti_types.specs.declared.event.Ticket.{Ticket}
use Rattle.ti_types.specs.declared.numbers.EnvNo.{EnvNo}
use Rattle.ti_replay.specs.Legal.{asked_by, ask_count}
use Rattle.ti_replay.specs.Makers.{made_by}
use Rattle.ti_slot.specs.Thread.{Thread}
use Rattle.ti_slot.specs.Tickets.{held_by}
use Rattle.ti_cell.specs.View.{tickets_of}
use Rattle.ti_replay.proofs.MakerLaws.{asked_is_its_own}

-- an environment's are those that the slot counts
pub out_of_env : (n : ℕ) (env : EnvNo) → n ≡ env.0 + 1 → (tickets : List Ticket) → length (tickets_of n tickets) ≡ held_by env tickets
out_of_env n env e tickets = length-filter (λ (t : Ticket). suc t.env.0 == n) tickets ∙ counted tickets
  where
    same : (t : Ticket) → (suc t.env.0 == n) ≡ (t.env.0 == env.0)
    same t =
        elim (cases_eq t.env.0 env.0) [
          | inl it ↦ eq-eqb (suc t.env.0) n (omega (arith, it, e)) ∙ sym (eq-eqb t.env.0 env.0 it)
          | inr other ↦ ne_eqb (suc t.env.0) n (λ q. other (omega (arith, q, e))) ∙ sym (ne_eqb t.env.0 env.0 other)
        ]

    counted : (ts : List Ticket) → count_by (λ (t : Ticket). suc t.env.0 == n) ts ≡ held_by env ts
    counted [] = refl
    counted (t ∷ ts) =
        sum_by-cons (λ (u : Ticket). if suc u.env.0 == n then 1 else 0) t ts
        ∙ ((λ i. (if same t i then 1 else 0) + counted ts i) ∙ sym (sum_by-cons (λ (u : Ticket). if u.env.0 == env.0 then 1 else 0) t ts))

-- the owner has none
pub none_of_owner : (tickets : List Ticket) → tickets_of 0 tickets ≡ []
none_of_owner [] = refl
none_of_owner (t ∷ tickets) =
    ap (λ (b : Bool). cond b (t ∷ tickets_of 0 tickets) (tickets_of 0 tickets)) (ne_eqb (suc t.env.0) 0 (λ q. absurd (omega (arith, q)))) ∙ none_of_owner tickets

one_asked : (env : EnvNo) (x : Entry) → ask_count env x ≤ 1
one_asked env Start = omega arith
one_asked env (Own step) = omega arith
one_asked env (Hand safe) = omega arith
one_asked env Back = omega arith
one_asked env End = omega arith
one_asked env (Asked other number call) = grind arith
one_asked env (Stop other) = omega arith
one_asked env (Read other max_count) = omega arith
one_asked env (Go other) = omega arith

asked_few : (env : EnvNo) (history : List Entry) → asked_by env history ≤ length history
asked_few env [] = omega arith
asked_few env (x ∷ history) = omega (arith, asked_few env history, one_asked env x, sum_by-cons (ask_count env) x history)

-- a seat has no more of them than it made entries
pub few_of : (n : ℕ) (t : Thread) → ((env : EnvNo) → held_by env t.uncollected ≤ asked_by env t.history) → length (tickets_of n t.uncollected) ≤ length (made_by n t.history)
few_of zero t few = omega (arith, ap (λ (l : List Ticket). length l) (none_of_owner t.uncollected))
few_of (suc e) t few =
    let env : EnvNo = record { 0 = e } in
    let next : e + 1 ≡ suc e = omega arith in
    let own : asked_by env t.history ≡ asked_by env (made_by (suc e) t.history) = asked_is_its_own env t.history ∙ ap (λ (n : ℕ). asked_by env (made_by n t.history)) next in
    omega (arith, out_of_env (suc e) env (omega arith) t.uncollected, few env, own, asked_few env (made_by (suc e) t.history))
