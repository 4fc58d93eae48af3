-- All calls of an environment that are out at a thread are cancelled, and stay so while answers are discarded.
use Rattle.std.proofs.Common.{◌≡◌, ◌<◌, ◌≤◌, ℕ, Bool, true, false, not, ◌&&◌, inl, inr, List, [], ◌∷◌, length, refl, ap, sym, ◌∙◌, arith, subst, Option, Some, None, Result, Ok, Err}
use Rattle.std.specs.Prelude.{slice_get, slice_set, is_some, IfSome, OnOk}
use Rattle.std.proofs.lemmas.Bool.{cases_Bool, cases_lt}
use Rattle.std.proofs.lemmas.Option.{slice_get_within}
use Rattle.ti_types.specs.Answer.{said}
use Rattle.ti_types.specs.declared.answer.Answer.{Answer}
use Rattle.ti_types.specs.declared.error.TiError.{TiError}
use Rattle.ti_types.specs.declared.event.Ticket.{Ticket}
use Rattle.ti_types.specs.declared.numbers.ThreadNo.{ThreadNo}
use Rattle.ti_replay.specs.Tickets.{reply_to}
use Rattle.ti_slot.specs.Tickets.{has, same}
use Rattle.ti_handshake.specs.Call.{Holds}
use Rattle.ti_handshake.specs.Desk.{CancelsAll, DeskState, DiscardsOf, is_out}
use Rattle.ti_handshake.specs.declared.discarded.Discarded.{Discarded}
use Rattle.ti_handshake.proofs.Cancelling.{same_is}
use Rattle.ti_agent.specs.Deadlines.{DiscardsAt, TellsDiscardedAt}
use Rattle.ti_agent.specs.Env.{Environment, place_in}
use Rattle.ti_agent.specs.Quiesced.{AllCancelled, AllCancelledAt, FirstWaits, FirstWaitsAt}
use Rattle.ti_agent.proofs.InTime.{discards_place}
use Rattle.ti_agent.proofs.Places.{place_set}
use Rattle.ti_agent.proofs.Quiescing.{has_more}
use Rattle.ti_agent.proofs.Whole.{seen_call}
use Rattle.ti_vmop.proofs.Each.{set_here}

-- the desk at a place is the one that was put there
desk_is : (s : Environment) (t : ThreadNo) (i : ℕ) (p q x : DeskState) → i ≡ place_in s.desks t → slice_get s.desks i ≡ Some p → q.view.subject ≡ p.view.subject
    → slice_get (slice_set s.desks i q) (place_in (slice_set s.desks i q) t) ≡ Some x → q ≡ x
desk_is s t i p q x is at about there =
    let place : place_in (slice_set s.desks i q) t ≡ i = place_set s.desks i p q t at about ∙ sym is in
    set_here s.desks i q x (ap (slice_get (slice_set s.desks i q)) (sym place) ∙ there)

-- nothing is said of a desk that is not there
none_waits : (s : Environment) (t : ThreadNo) → length s.desks ≤ place_in s.desks t → FirstWaitsAt s t
none_waits s t past p at = let within : place_in s.desks t < length s.desks = slice_get_within s.desks (place_in s.desks t) p at in absurd (omega (arith, within, past))

-- a desk cancelled all of its calls
pub all_cancelled : (s : Environment) (t : ThreadNo) (i : ℕ) (p q : DeskState) (r : Result (Unit {0}) TiError) → i ≡ place_in s.desks t → slice_get s.desks i ≡ Some p → OnOk r (Holds p.view q.view []) → OnOk r (CancelsAll p q)
    → OnOk r (AllCancelledAt (seen_call s i q) t)
all_cancelled s t i p q (Ok u) is at hold all = λ x there. subst AllCancelled (desk_is s t i p q x is at hold.waits.goes.subject there) all.none_out
all_cancelled s t i p q (Err e) is at hold all = tt

-- one answer was discarded, or none was there
left_cancelled : (l : List Ticket) (p q : DeskState) (was_there : Bool) → p.cancelled ≡ l → DiscardsOf l p q was_there → (was_there ≡ true → (u : Ticket) → Some u ≡ slice_get l 0 → has u q.view.posted ≡ false) → AllCancelled p → AllCancelled q
left_cancelled [] p q was_there is d gone all = subst AllCancelled (sym d.0) all
left_cancelled (u ∷ l) p q false is d gone all = λ k.
    (λ i. has k (d.hold.waits.posted i) && not (has k (d.cancelled i))) ∙ all k
left_cancelled (u ∷ l) p q true is d gone all = λ k. elim (cases_Bool (has k q.view.posted)) [
  | inr none ↦ grind (arith, none)
  | inl out ↦
      let was : has k p.view.posted ≡ true = has_more k u p.view.posted (ap (has k) (sym d.hold.waits.posted) ∙ out) in
      let all_k : is_out p k ≡ false = all k in
      let here : has k p.cancelled ≡ true = grind (arith, all_k, was) in
      let listed : has k (u ∷ l) ≡ true = ap (has k) (sym is) ∙ here in
      elim (cases_Bool (same u k)) [
        | inl it ↦ absurd (never (sym out ∙ (ap (λ (x : Ticket). has x q.view.posted) (sym (same_is u k it)) ∙ gone refl u refl)))
        | inr other ↦ let rest : has k q.cancelled ≡ true = ap (has k) d.cancelled ∙ grind (arith, listed, other) in grind (arith, rest)
      ]
]
  where
    never : true ≡ false → ⊥
    never e = cc

waits_first : (l : List Ticket) (p q : DeskState) → p.cancelled ≡ l → DiscardsOf l p q false → FirstWaits q
waits_first [] p q is d k at = absurd (never (sym at ∙ ap (λ (x : List Ticket). slice_get x 0) (ap (λ (x : DeskState). x.cancelled) d.0 ∙ is)))
  where
    never : Some k ≡ None → ⊥
    never e = cc
waits_first (u ∷ l) p q is d k at =
    let first : Some k ≡ Some u = sym at ∙ ap (λ (x : List Ticket). slice_get x 0) (d.cancelled ∙ is) in
    let it : k ≡ u = cc first in
    let none : reply_to p.view.subject.limits q.view.seen u ≡ None = unanswered _ d.answered_if in
    let limits : q.view.subject.limits ≡ p.view.subject.limits = ap (λ s. s.limits) d.hold.waits.goes.subject in
    (λ i. reply_to (limits i) q.view.seen (it i)) ∙ none
  where
    unanswered : (o : Option Answer) → false ≡ is_some o → o ≡ None
    unanswered None e = refl
    unanswered (Some a) e = absurd (let never = e in cc)

-- the desk at the thread, after an answer was looked for
after_is : (a b : Environment) (t : ThreadNo) (was_there : Bool) (d : DiscardsAt a b t was_there) (x : DeskState) → slice_get b.desks (place_in b.desks t) ≡ Some x → d.after ≡ x
after_is a b t was_there d x at =
    let desks : b.desks ≡ slice_set a.desks (place_in a.desks t) d.after = ap (λ (e : Environment). e.desks) d.new_is in
    let here : place_in b.desks t ≡ place_in a.desks t = discards_place a b t t was_there d in
    set_here a.desks (place_in a.desks t) d.after x (sym (λ j. slice_get (desks j) (here j)) ∙ at)

gone_after : (a b : Environment) (t : ThreadNo) (d : Option Discarded) (s : DiscardsAt a b t (is_some d)) → IfSome d (λ r. TellsDiscardedAt a b t r.ticket (said r.answer)) → is_some d ≡ true → (u : Ticket) → Some u ≡ slice_get s.before.cancelled 0
    → has u s.after.view.posted ≡ false
gone_after a b t None s tells e u first = absurd (never e)
  where
    never : false ≡ true → ⊥
    never h = cc
gone_after a b t (Some r) s tells e u first =
    let before : Some s.before ≡ Some tells.before = sym s.there ∙ tells.there in
    let was : s.before ≡ tells.before = cc before in
    let here : place_in b.desks t ≡ place_in a.desks t = discards_place a b t t true s in
    let after : s.after ≡ tells.after = after_is a b t true s tells.after (ap (slice_get b.desks) here ∙ tells.there_then) in
    let same : Some u ≡ Some r.ticket = first ∙ (ap (λ (x : DeskState). slice_get x.cancelled 0) was ∙ sym tells.tells.first) in
    let it : u ≡ r.ticket = cc same in
    (λ i. has (it i) (after i).view.posted) ∙ tells.tells.gone

pub still_cancelled : (a b : Environment) (t : ThreadNo) (d : Option Discarded) → (place_in a.desks t < length a.desks → DiscardsAt a b t (is_some d)) → (length a.desks ≤ place_in a.desks t → b ≡ a) → IfSome d (λ r. TellsDiscardedAt a b t r.ticket (said r.answer))
    → AllCancelledAt a t → AllCancelledAt b t
still_cancelled a b t d there nobody tells all x at =
    elim (cases_lt (place_in a.desks t) (length a.desks)) [
      | inl here ↦
          let s = there here in
          subst AllCancelled (after_is a b t (is_some d) s x at) (left_cancelled s.before.cancelled s.before s.after (is_some d) refl s.discards (gone_after a b t d s tells) (all s.before s.there))
      | inr past ↦ subst (λ (e : Environment). AllCancelledAt e t) (sym (nobody past)) all x at
    ]

-- no answer was there
pub first_waits : (a b : Environment) (t : ThreadNo) (d : Option Discarded) → is_some d ≡ false → (place_in a.desks t < length a.desks → DiscardsAt a b t (is_some d)) → (length a.desks ≤ place_in a.desks t → b ≡ a) → FirstWaitsAt b t
first_waits a b t d none there nobody =
    elim (cases_lt (place_in a.desks t) (length a.desks)) [
      | inl here ↦ let s : DiscardsAt a b t false = subst (DiscardsAt a b t) none (there here) in λ x at. subst FirstWaits (after_is a b t false s x at) (waits_first s.before.cancelled s.before s.after refl s.discards)
      | inr past ↦ subst (λ (e : Environment). FirstWaitsAt e t) (sym (nobody past)) (none_waits a t past)
    ]
