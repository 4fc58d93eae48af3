-- The statuses of calls among those that are kept, where one is added, changed or taken out.
use Rattle.std.proofs.Common.{◌≡◌, ℕ, ◌<◌, true, false, ◌||◌, if◌then◌else◌, List, [], ◌∷◌, ◌++◌, length, take, drop, get_or, set, refl, arith, suc, zero, ap, sym, ◌∙◌, inl, inr}
use Rattle.std.specs.List.{All, remove}
use Rattle.std.proofs.lemmas.List.Elements.{All-append, All-take, All-drop}
use Rattle.std.proofs.lemmas.Bool.{cases_Bool}
use Rattle.std.proofs.lemmas.Bool.Decides.{nat_tests}
use Rattle.ti_types.specs.declared.event.Ticket.{Ticket}
use Rattle.ti_ops.specs.declared.status.CallStatus.TheVariants.{Gone}
use Rattle.ti_ops.specs.declared.outbox_entry.OutboxEntry.{OutboxEntry}
use Rattle.ti_ops.specs.Statuses.{is_at}
use Rattle.ti_ops.specs.OutboxEntry.{status_in, has, AreOnce, status_among}

-- a ticket that is at another is at whatever this is at
pub same_at : (t u v : Ticket) → is_at t u ≡ true → is_at u v ≡ is_at t v
same_at t u v h = grind (arith, nat_tests, h)

pub at_sym : (t u : Ticket) → is_at u t ≡ is_at t u
at_sym t u = grind (arith, nat_tests)

-- tickets of one call are kept together
pub has_same : (t u : Ticket) (kept : List OutboxEntry) → is_at t u ≡ true → has u kept ≡ has t kept
has_same t u [] h = refl
has_same t u (k ∷ kept) h =
    let e : is_at k.ticket u ≡ is_at k.ticket t = grind (arith, nat_tests, h) in
    ap (λ b. b || has u kept) e ∙ ap (λ b. is_at k.ticket t || b) (has_same t u kept h)

pub status_none : (t : Ticket) (kept : List OutboxEntry) → has t kept ≡ false → status_among t kept ≡ Gone
status_none t [] h = refl
status_none t (k ∷ kept) h = grind (arith, status_none t kept)

pub status-append : (t : Ticket) (xs ys : List OutboxEntry) → status_among t (xs ++ ys) ≡ (if has t xs then status_among t xs else status_among t ys)
status-append t [] ys = refl
status-append t (k ∷ xs) ys = grind (arith, status-append t xs ys)

pub has_at : (t : Ticket) (kept : List OutboxEntry) (i : ℕ) (d : OutboxEntry) → i < length kept → is_at (get_or kept i d).ticket t ≡ true → has t kept ≡ true
has_at t [] i d h e = absurd (omega (arith, h))
has_at t (k ∷ kept) zero d h e = grind (arith, e)
has_at t (k ∷ kept) (suc i) d h e = let z = has_at t kept i d (omega (arith, h)) e in grind (arith, z)

-- a call that is kept has its own status
pub status_at : (t : Ticket) (kept : List OutboxEntry) (i : ℕ) (d : OutboxEntry) → i < length kept → AreOnce kept → is_at (get_or kept i d).ticket t ≡ true → status_among t kept ≡ status_in (get_or kept i d).stage
status_at t [] i d h once e = absurd (omega (arith, h))
status_at t (k ∷ kept) zero d h once e = grind (arith, e)
status_at t (k ∷ kept) (suc i) d h once e =
    let there : has t kept ≡ true = has_at t kept i d (omega (arith, h)) e in
    let rest = status_at t kept i d (omega (arith, h)) once.1 e in
    elim (cases_Bool (is_at k.ticket t)) [
      | inl it ↦ absurd (let z = has_same k.ticket t kept it ∙ once.0 in cc)
      | inr other ↦ grind (arith, other, rest)
    ]

-- a call at another stage
pub status-set : (t : Ticket) (kept : List OutboxEntry) (i : ℕ) (d k' : OutboxEntry) → i < length kept → AreOnce kept → k'.ticket ≡ (get_or kept i d).ticket
    → status_among t (set kept i k') ≡ (if is_at k'.ticket t then status_in k'.stage else status_among t kept)
status-set t [] i d k' h once e = absurd (omega (arith, h))
status-set t (k ∷ kept) zero d k' h once e =
    let same : is_at k.ticket t ≡ is_at k'.ticket t = ap (λ (u : Ticket). is_at u t) (sym e) in
    grind (arith, same)
status-set t (k ∷ kept) (suc i) d k' h once e =
    let rest = status-set t kept i d k' (omega (arith, h)) once.1 e in
    elim (cases_Bool (is_at k.ticket t)) [
      | inl it ↦
          let no : is_at k'.ticket t ≡ false = elim (cases_Bool (is_at k'.ticket t)) [
            | inl is ↦ absurd (let there = has_at t kept i d (omega (arith, h)) (ap (λ (u : Ticket). is_at u t) (sym e) ∙ is) in let z = has_same k.ticket t kept it ∙ once.0 in cc)
            | inr e ↦ e
          ] in
          grind (arith, it, no)
      | inr other ↦ grind (arith, other, rest)
    ]

pub has-set : (t : Ticket) (kept : List OutboxEntry) (i : ℕ) (d k' : OutboxEntry) → i < length kept → k'.ticket ≡ (get_or kept i d).ticket → has t (set kept i k') ≡ has t kept
has-set t [] i d k' h e = absurd (omega (arith, h))
has-set t (k ∷ kept) zero d k' h e = ap (λ (u : Ticket). is_at u t || has t kept) e
has-set t (k ∷ kept) (suc i) d k' h e = ap (λ b. is_at k.ticket t || b) (has-set t kept i d k' (omega (arith, h)) e)

pub once-set : (kept : List OutboxEntry) (i : ℕ) (d k' : OutboxEntry) → i < length kept → k'.ticket ≡ (get_or kept i d).ticket → AreOnce kept → AreOnce (set kept i k')
once-set [] i d k' h e once = absurd (omega (arith, h))
once-set (k ∷ kept) zero d k' h e once = (ap (λ (u : Ticket). has u kept) e ∙ once.0, once.1)
once-set (k ∷ kept) (suc i) d k' h e once = (has-set k.ticket kept i d k' (omega (arith, h)) e ∙ once.0, once-set kept i d k' (omega (arith, h)) e once.1)

-- a call that is not kept any more
pub status-remove : (t : Ticket) (kept : List OutboxEntry) (i : ℕ) (d : OutboxEntry) → i < length kept → AreOnce kept → status_among t (remove kept i) ≡ (if is_at (get_or kept i d).ticket t then Gone else status_among t kept)
status-remove t [] i d h once = absurd (omega (arith, h))
status-remove t (k ∷ kept) zero d h once =
    elim (cases_Bool (is_at k.ticket t)) [
      | inl it ↦ let z = status_none t kept (has_same k.ticket t kept it ∙ once.0) in grind (arith, it, z)
      | inr other ↦ grind (arith, other)
    ]
status-remove t (k ∷ kept) (suc i) d h once =
    let rest = status-remove t kept i d (omega (arith, h)) once.1 in
    elim (cases_Bool (is_at k.ticket t)) [
      | inl it ↦
          let no : is_at (get_or kept i d).ticket t ≡ false = elim (cases_Bool (is_at (get_or kept i d).ticket t)) [
            | inl is ↦ absurd (let there = has_at t kept i d (omega (arith, h)) is in let z = has_same k.ticket t kept it ∙ once.0 in cc)
            | inr e ↦ e
          ] in
          grind (arith, it, no)
      | inr other ↦ grind (arith, other, rest)
    ]

has-remove : (t : Ticket) (kept : List OutboxEntry) (i : ℕ) → has t kept ≡ false → has t (remove kept i) ≡ false
has-remove t [] zero h = refl
has-remove t [] (suc i) h = refl
has-remove t (k ∷ kept) zero h = grind (arith, h)
has-remove t (k ∷ kept) (suc i) h = let z = has-remove t kept i in grind (arith, h, z)

pub once-remove : (kept : List OutboxEntry) (i : ℕ) → AreOnce kept → AreOnce (remove kept i)
once-remove [] zero once = tt
once-remove [] (suc i) once = tt
once-remove (k ∷ kept) zero once = once.1
once-remove (k ∷ kept) (suc i) once = (has-remove k.ticket kept i once.0, once-remove kept i once.1)

pub once-append : (kept : List OutboxEntry) (k : OutboxEntry) → has k.ticket kept ≡ false → AreOnce kept → AreOnce (kept ++ k ∷ [])
once-append [] k h once = (refl, tt)
once-append (j ∷ kept) k h once =
    let other : is_at k.ticket j.ticket ≡ false = grind (arith, at_sym j.ticket k.ticket, h) in
    let none : has j.ticket (kept ++ k ∷ []) ≡ false = more j.ticket kept k once.0 other in
    (none, once-append kept k (grind (arith, h)) once.1)
  where
    more : (t : Ticket) (kept : List OutboxEntry) (k : OutboxEntry) → has t kept ≡ false → is_at k.ticket t ≡ false → has t (kept ++ k ∷ []) ≡ false
    more t [] k h o = grind (arith, o)
    more t (j ∷ kept) k h o = let z = more t kept k in grind (arith, h, o, z)

-- facts of all but one
pub All-remove : (P : OutboxEntry → Type 0) (kept : List OutboxEntry) (i : ℕ) → All P kept → All P (remove kept i)
All-remove P kept i a = All-append P (take i kept) (drop (suc i) kept) (All-take P i kept a) (All-drop P (suc i) kept a)
