-- All calls of a desk that are out are cancelled.
use Rattle.std.proofs.Common.{◌≡◌, ℕ, suc, ◌+◌, ◌<◌, ◌≤◌, ◌==◌, ◌&&◌, nat_lt, true, false, inl, inr, List, [], ◌∷◌, ◌++◌, length, append-nil, append_assoc, refl, ap, sym, ◌∙◌, subst, arith, Some, None}
use Rattle.std.proofs.lemmas.Bool.{cases_Bool, cases_lt}
use Rattle.std.proofs.lemmas.Bool.Decides.{nat_tests}
use Rattle.std.proofs.lemmas.List.Sums.{sum_by-cons}
use Rattle.ti_types.specs.declared.entry.Entry.{Entry}
use Rattle.ti_types.specs.declared.entry.Entry.TheVariants.{Start, Own, Hand, Back, End, Asked, Stop, Read, Go}
use Rattle.ti_types.specs.declared.event.Ticket.{Ticket}
use Rattle.ti_types.specs.declared.numbers.EnvNo.{EnvNo}
use Rattle.ti_types.specs.declared.numbers.ThreadNo.{ThreadNo}
use Rattle.ti_replay.specs.Legal.{asked_by, ask_count}
use Rattle.ti_slot.specs.Tickets.{has, without_ticket, IsNextOut, same}
use Rattle.ti_slot.specs.Thread.{Thread}
use Rattle.ti_cell.specs.View.{tickets_of}
use Rattle.ti_handshake.specs.Cancelled.{AddsAll, AreCancelled, Given}
use Rattle.ti_handshake.proofs.Desks.{own_has}
use Rattle.ti_handshake.proofs.Cancelling.{same_is, apart, has_without, more_given, has_last, has_more}

length_without : (k : Ticket) (ts : List Ticket) → has k ts ≡ true → suc (length (without_ticket k ts)) ≡ length ts
length_without k [] h = cc
length_without k (u ∷ ts) h =
    elim (cases_Bool (same u k)) [
      | inl it ↦ grind (arith, it)
      | inr other ↦ let rest = length_without k ts (grind (arith, h, other)) in grind (arith, other, rest)
    ]

-- no more calls were cancelled than are out
pub given_few : (g posted : List Ticket) → AreCancelled g posted → length g ≤ length posted
given_few [] posted given = omega arith
given_few (u ∷ g) posted given =
    let there : has u posted ≡ true = given.out u (let e : same u u ≡ true = grind (arith, nat_tests) in grind (arith, e)) in
    let rest : AreCancelled g (without_ticket u posted) = record {
      once = given.once.1;
      out = λ k h. has_without k u posted (apart k u g h given.once.0) ∙ given.out k (grind (arith, h));
    } in
    omega (arith, given_few g (without_ticket u posted) rest, length_without u posted there)

-- the list while tickets are added to it: those of calls below a number are there
pub record Adding (own old : List Ticket) (room : ℕ) (now : Given) (from : ℕ) : Type 0 where
  pub more : List Ticket
  pub behind : now.tickets ≡ old ++ more
  pub given : AreCancelled now.tickets own
  pub room_is : now.room ≡ room
  pub below : (k : Ticket) → has k own ≡ true → k.no < from → has k now.tickets ≡ true

-- the slot's tickets are of its thread, and of calls that were asked
abbrev pub AreKnown : Thread → Type 0
AreKnown z = (k : Ticket) → has k z.uncollected ≡ true → (k.thread.0 == z.number.0 && nat_lt k.no (asked_by k.env z.history)) ≡ true

abbrev own_of : EnvNo → Thread → List Ticket
own_of env z = tickets_of (env.0 + 1) z.uncollected

-- the ticket of an own call from a number on, up to the first one that is out, is that of the first one
it_is : (env : EnvNo) (z : Thread) (from : ℕ) (t k : Ticket) → AreKnown z → IsNextOut z.number z.uncollected env from (Some t) → has k (own_of env z) ≡ true → from ≤ k.no → k.no < t.no + 1 → t ≡ k
it_is env z from t k known next h above upto =
    let both : (k.env.0 == env.0 && has k z.uncollected) ≡ true = sym (own_has env k z.uncollected) ∙ h in
    let mine : k.env.0 ≡ env.0 = grind (arith, nat_tests, both) in
    let out : has k z.uncollected ≡ true = grind (arith, both) in
    let about = known k out in
    let thread : k.thread.0 ≡ z.number.0 = grind (arith, nat_tests, about) in
    elim (cases_lt k.no t.no) [
      | inl less ↦ absurd (let none = next.4 k mine above less in let never : true ≡ false = sym out ∙ none in cc)
      | inr not_less ↦
          let no : t.no ≡ k.no = omega (arith, not_less, upto) in
          let e : t.env.0 ≡ k.env.0 = ap (λ (x : EnvNo). x.0) next.0 ∙ sym mine in
          let a : t.thread.0 ≡ k.thread.0 = ap (λ (x : ThreadNo). x.0) next.1 ∙ sym thread in
          same_is t k (grind (arith, nat_tests, no, e, a))
    ]

-- the first one that is out is there already
pub passed : (env : EnvNo) (z : Thread) (old : List Ticket) (room from : ℕ) (now : Given) (t : Ticket) → AreKnown z → Adding (own_of env z) old room now from → IsNextOut z.number z.uncollected env from (Some t)
    → has t now.tickets ≡ true → Adding (own_of env z) old room now (t.no + 1)
passed env z old room from now t known a next there = record {
  more = a.more;
  behind = a.behind;
  given = a.given;
  room_is = a.room_is;
  below = λ k h less. elim (cases_lt k.no from) [
    | inl low ↦ a.below k h low
    | inr high ↦ ap (λ (x : Ticket). has x now.tickets) (sym (it_is env z from t k known next h high less)) ∙ there
  ];
}

mine_out : (env : EnvNo) (z : Thread) (from : ℕ) (t : Ticket) → IsNextOut z.number z.uncollected env from (Some t) → has t (own_of env z) ≡ true
mine_out env z from t next =
    let e : t.env.0 ≡ env.0 = ap (λ (x : EnvNo). x.0) next.0 in
    own_has env t z.uncollected ∙ (let out = next.3 in grind (arith, nat_tests, e, out))

-- or is added
pub added : (env : EnvNo) (z : Thread) (old : List Ticket) (room from : ℕ) (now after : Given) (t : Ticket) → AreKnown z → Adding (own_of env z) old room now from → IsNextOut z.number z.uncollected env from (Some t)
    → has t now.tickets ≡ false → after.tickets ≡ now.tickets ++ t ∷ [] → after.room ≡ now.room → Adding (own_of env z) old room after (t.no + 1)
added env z old room from now after t known a next none is same_room = record {
  more = a.more ++ t ∷ [];
  behind = is ∙ ap (λ (l : List Ticket). l ++ t ∷ []) a.behind ∙ append_assoc old a.more (t ∷ []);
  given = subst (λ (l : List Ticket). AreCancelled l own) (sym is) more;
  room_is = same_room ∙ a.room_is;
  below = λ k h less. ap (has k) is ∙ elim (cases_lt k.no from) [
    | inl low ↦ has_more k now.tickets (t ∷ []) (a.below k h low)
    | inr high ↦ ap (λ (x : Ticket). has x (now.tickets ++ t ∷ [])) (sym (it_is env z from t k known next h high less)) ∙ has_last t now.tickets
  ];
}
  where
    own : List Ticket
    own = own_of env z

    more : AreCancelled (now.tickets ++ t ∷ []) own
    more = subst (λ (l : List Ticket). AreCancelled (now.tickets ++ t ∷ []) l) (append-nil own) (more_given now.tickets own [] t a.given none (ap (has t) (append-nil own) ∙ mine_out env z from t next))

-- there is room for it
pub has_room : (env : EnvNo) (z : Thread) (old : List Ticket) (room from : ℕ) (now : Given) (t : Ticket) → Adding (own_of env z) old room now from → IsNextOut z.number z.uncollected env from (Some t) → has t now.tickets ≡ false
    → length (own_of env z) ≤ room → length now.tickets < now.room
has_room env z old room from now t a next none fits =
    let own : List Ticket = own_of env z in
    let more = more_given now.tickets own [] t a.given none (ap (has t) (append-nil own) ∙ mine_out env z from t next) in
    let few = given_few (now.tickets ++ t ∷ []) (own ++ []) more in
    let l = ap (λ (l : List Ticket). length l) (append-nil own) in
    omega (arith, few, l, fits, a.room_is, one now.tickets t)
  where
    one : (ts : List Ticket) (t : Ticket) → length (ts ++ t ∷ []) ≡ suc (length ts)
    one [] t = refl
    one (u ∷ ts) t = ap suc (one ts t)

one_asked : (env : EnvNo) (x : Entry) → ask_count env x ≤ 1
one_asked env Start = omega arith
one_asked env (Own step) = omega arith
one_asked env (Hand safe) = omega arith
one_asked env Back = omega arith
one_asked env End = omega arith
one_asked env (Asked other number call) = grind arith
one_asked env (Stop other) = omega arith
one_asked env (Read other max_count) = omega arith
one_asked env (Go other) = omega arith

asked_few : (env : EnvNo) (history : List Entry) → asked_by env history ≤ length history
asked_few env [] = omega arith
asked_few env (x ∷ history) = omega (arith, asked_few env history, one_asked env x, sum_by-cons (ask_count env) x history)

-- the number of a call is below the number of entries
pub below_entries : (z : Thread) (k : Ticket) → AreKnown z → has k z.uncollected ≡ true → k.no < length z.history
below_entries z k known out =
    let about = known k out in
    let less : k.no < asked_by k.env z.history = grind (arith, nat_tests, about) in
    omega (arith, less, asked_few k.env z.history)

-- when all calls have been looked at, all that are out are there
pub ends : (env : EnvNo) (z : Thread) (old : List Ticket) (room from : ℕ) (now : Given) → AreKnown z → Adding (own_of env z) old room now from → length z.history ≤ from → AddsAll (own_of env z) old now.tickets
ends env z old room from now known a past = record {
  more = a.more;
  behind = a.behind;
  given = a.given;
  all = λ k h. a.below k h (let both = sym (own_has env k z.uncollected) ∙ h in let out : has k z.uncollected ≡ true = grind (arith, both) in omega (arith, below_entries z k known out, past));
}

-- or when none is out from here on
pub ends_early : (env : EnvNo) (z : Thread) (old : List Ticket) (room from : ℕ) (now : Given) → Adding (own_of env z) old room now from → IsNextOut z.number z.uncollected env from None → AddsAll (own_of env z) old now.tickets
ends_early env z old room from now a none = record {
  more = a.more;
  behind = a.behind;
  given = a.given;
  all = λ k h. elim (cases_lt k.no from) [
    | inl low ↦ a.below k h low
    | inr high ↦
        let both = sym (own_has env k z.uncollected) ∙ h in
        let mine : k.env.0 ≡ env.0 = grind (arith, nat_tests, both) in
        let out : has k z.uncollected ≡ true = grind (arith, both) in
        absurd (let off = none (suc k.no) k mine high (omega arith) in let never : true ≡ false = sym out ∙ off in cc)
  ];
}
