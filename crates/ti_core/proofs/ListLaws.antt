-- One more event of a list call.
use Rattle.std.proofs.Common.{◌≡◌, Bool, false, ◌||◌, List, [], ◌∷◌, ◌++◌, length, refl, ap, sym, subst, ◌∙◌, arith, append_assoc, append-nil}
use Rattle.ti_types.specs.declared.limits.Limits.{Limits}
use Rattle.ti_types.specs.declared.numbers.ThreadNo.{ThreadNo}
use Rattle.ti_types.specs.declared.event.Event.{Event}
use Rattle.ti_types.specs.declared.event.Ticket.{Ticket}
use Rattle.ti_types.specs.declared.event.Outcome.{Outcome}
use Rattle.ti_types.specs.declared.event.Outcome.TheVariants as outcome
use Rattle.ti_replay.specs.Admission.{Happening}
use Rattle.ti_replay.specs.Outcomes.{told_now, happening}
use Rattle.ti_core.specs.Threads.{IfPosted, is_ticket_of}
use Rattle.ti_core.specs.Core.{CoreState, is_uncollected}
use Rattle.ti_core.specs.Refines.{Refines}
use Rattle.ti_replay.specs.Refused.{is_refusal}
use Rattle.ti_replay.proofs.RefusedLaws.{refusals_keep}
use Rattle.ti_core.specs.Lists.{each_happened, IsSaid, AreSaid, AreUnchanged, AreFresh, are_tickets_of, HappenedAtEach}

-- what a core says of a step
pub record OneStep (x : Event) (s new : CoreState) (o : Outcome) : Type 0 where
  pub limits : new.limits ≡ s.limits
  pub refines : (events : List Happening) → Refines events s → Refines (events ++ happening x (told_now o) ∷ []) new
  pub said : (events : List Happening) → Refines events s → IsSaid s.limits events x o
  pub fresh : IfPosted o (λ k. is_uncollected s k ≡ false)
  pub kept : (k : Ticket) → is_uncollected new k ≡ (is_uncollected s k || is_ticket_of o k)

happened-snoc : (event : ThreadNo → Event) (ts : List ThreadNo) (os : List Outcome) (t : ThreadNo) (o : Outcome) → length ts ≡ length os → each_happened event (ts ++ t ∷ []) (os ++ o ∷ []) ≡ each_happened event ts os ++ happening (event t) (told_now o) ∷ []
happened-snoc event [] [] t o h = refl
happened-snoc event [] (p ∷ os) t o h = absurd (omega (arith, h))
happened-snoc event (u ∷ ts) [] t o h = absurd (omega (arith, h))
happened-snoc event (u ∷ ts) (p ∷ os) t o h = ap (λ r. happening (event u) (told_now p) ∷ r) (happened-snoc event ts os t o (omega (arith, h)))

said-snoc : (limits : Limits) (front : List Happening) (event : ThreadNo → Event) (ts : List ThreadNo) (os : List Outcome) (t : ThreadNo) (o : Outcome) → AreSaid limits front event ts os → IsSaid limits (front ++ each_happened event ts os) (event t) o → AreSaid limits front event (ts ++ t ∷ []) (os ++ o ∷ [])
said-snoc limits front event [] [] t o s one = (subst (λ f. IsSaid limits f (event t) o) (append-nil front) one, tt)
said-snoc limits front event [] (p ∷ os) t o s one = absurd s
said-snoc limits front event (u ∷ ts) [] t o s one = absurd s
said-snoc limits front event (u ∷ ts) (p ∷ os) t o s one =
    let h : Happening = happening (event u) (told_now p) in
    (s.0, said-snoc limits (front ++ h ∷ []) event ts os t o s.1 (subst (λ f. IsSaid limits f (event t) o) (sym (append_assoc front (h ∷ []) (each_happened event ts os))) one))

fresh-snoc : (s : CoreState) (os : List Outcome) (o : Outcome) → AreFresh s os → IfPosted o (λ k. is_uncollected s k ≡ false) → AreFresh s (os ++ o ∷ [])
fresh-snoc s [] o all one = (one, tt)
fresh-snoc s (p ∷ os) o all one = (all.0, fresh-snoc s os o all.1 one)

tickets-snoc : (os : List Outcome) (o : Outcome) (k : Ticket) → are_tickets_of (os ++ o ∷ []) k ≡ (are_tickets_of os k || is_ticket_of o k)
tickets-snoc [] o k = grind (arith)
tickets-snoc (p ∷ os) o k = let e = tickets-snoc os o k in grind (arith, e)

not_out : (a b : Bool) → (a || b) ≡ false → a ≡ false
not_out a b h = grind (arith, h)

-- a ticket that was not out is not out before the list either
fresh_before : (s mid : CoreState) (os : List Outcome) (o : Outcome) → ((k : Ticket) → is_uncollected mid k ≡ (is_uncollected s k || are_tickets_of os k)) → IfPosted o (λ k. is_uncollected mid k ≡ false) → IfPosted o (λ k. is_uncollected s k ≡ false)
fresh_before s mid os (outcome.Posted k) kept fresh = not_out (is_uncollected s k) (are_tickets_of os k) (sym (kept k) ∙ fresh)
fresh_before s mid os outcome.Done kept fresh = tt
fresh_before s mid os outcome.Clear kept fresh = tt
fresh_before s mid os outcome.Went kept fresh = tt
fresh_before s mid os outcome.Held kept fresh = tt
fresh_before s mid os (outcome.Refused error) kept fresh = tt
fresh_before s mid os (outcome.Gave a) kept fresh = tt

-- the definitions' refusals change nothing
said_unchanged : (limits : Limits) (front : List Happening) (event : ThreadNo → Event) (ts : List ThreadNo) (os : List Outcome) → AreSaid limits front event ts os → AreUnchanged limits front event ts os
said_unchanged limits front event [] os s = tt
said_unchanged limits front event (t ∷ ts) [] s = tt
said_unchanged limits front event (t ∷ ts) (o ∷ os) s =
    let h : Happening = happening (event t) (told_now o) in
    (λ r. refusals_keep limits front h (ap is_refusal (sym s.0.0) ∙ r), said_unchanged limits (front ++ h ∷ []) event ts os s.1)

more_said : (event : ThreadNo → Event) (ts : List ThreadNo) (s mid new : CoreState) (os : List Outcome) (t : ThreadNo) (o : Outcome)
    → HappenedAtEach event ts s mid os → OneStep (event t) mid new o → (events : List Happening) → Refines events s → AreSaid s.limits events event (ts ++ t ∷ []) (os ++ o ∷ [])
more_said event ts s mid new os t o h one events k =
    let said = one.said (events ++ each_happened event ts os) (h.refines events k) in
    said-snoc s.limits events event ts os t o (h.outcomes events k) (subst (λ m. IsSaid m (events ++ each_happened event ts os) (event t) o) h.limits said)

pub one_more : (event : ThreadNo → Event) (ts : List ThreadNo) (s mid new : CoreState) (os : List Outcome) (t : ThreadNo) (o : Outcome)
    → length ts ≡ length os → HappenedAtEach event ts s mid os → OneStep (event t) mid new o → HappenedAtEach event (ts ++ t ∷ []) s new (os ++ o ∷ [])
one_more event ts s mid new os t o count h one =
    let outcomes = more_said event ts s mid new os t o h one in
    record {
      limits = one.limits ∙ h.limits;
      refines = λ events k.
          let more = one.refines (events ++ each_happened event ts os) (h.refines events k) in
          let e = append_assoc events (each_happened event ts os) (happening (event t) (told_now o) ∷ []) ∙ ap (λ l. events ++ l) (sym (happened-snoc event ts os t o count)) in
          subst (λ l. Refines l new) e more;
      outcomes = outcomes;
      refused = λ events k. said_unchanged s.limits events event (ts ++ t ∷ []) (os ++ o ∷ []) (outcomes events k);
      fresh = fresh-snoc s os o h.fresh (fresh_before s mid os o h.kept one.fresh);
      kept = λ k.
          let a = one.kept k in
          let b = h.kept k in
          let c = tickets-snoc os o k in
          grind (arith, a, b, c);
    }
