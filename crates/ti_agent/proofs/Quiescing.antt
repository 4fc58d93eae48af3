-- How an environment's calls at a thread come to be out no more.
use Rattle.std.proofs.Common.{length-set, ◌≡◌, ℕ, zero, suc, ◌<◌, ◌≤◌, Bool, true, false, if◌then◌else◌, inl, inr, List, [], ◌∷◌, ◌++◌, length, refl, ap, sym, ◌∙◌, arith, subst, append-nil, Option, Some, None, Result, Ok, Err}
use Rattle.std.specs.Prelude.{slice_get, slice_set, is_some, IfNone, IfSome, OnOk}
use Rattle.std.proofs.lemmas.Bool.{cases_Bool, cases_lt}
use Rattle.ti_types.specs.declared.error.TiError.{TiError}
use Rattle.ti_types.specs.declared.event.Ticket.{Ticket}
use Rattle.ti_types.specs.declared.numbers.ThreadNo.{ThreadNo}
use Rattle.ti_slot.specs.Tickets.{has, same, without_ticket}
use Rattle.ti_cell.specs.declared.view.View.{View}
use Rattle.ti_replay.specs.Legal.{is_legal}
use Rattle.ti_replay.specs.Makers.{made_by}
use Rattle.ti_handshake.specs.Call.{GoesOn, Holds, SawNews, Waits, WaitsWith}
use Rattle.ti_handshake.specs.Desk.{DeskState, DiscardsOf, IsSame}
use Rattle.ti_handshake.specs.declared.discarded.Discarded.{Discarded}
use Rattle.ti_handshake.proofs.Holding.{goes_then, waits_looks}
use Rattle.ti_agent.specs.Deadlines.{DiscardsAt, DiscardsEach}
use Rattle.ti_agent.specs.Desks.{Retires}
use Rattle.ti_agent.specs.Env.{Environment, place_in}
use Rattle.ti_agent.specs.FreeDesk.{FreeState}
use Rattle.ti_agent.specs.Home.{Housed}
use Rattle.ti_agent.specs.Quiesced.{MayQuiesce, Quiesces}
use Rattle.ti_agent.specs.Resumed.{cancelled_at, cancelled_of}
use Rattle.ti_agent.proofs.InTime.{discards_place, seen_same}
use Rattle.ti_agent.proofs.Places.{place_set, set_get}
use Rattle.ti_agent.proofs.Whole.{seen_call}
use Rattle.ti_vmop.proofs.Each.{set_here}

-- a ticket that is left was there
pub has_more : (j k : Ticket) (l : List Ticket) → has j (without_ticket k l) ≡ true → has j l ≡ true
has_more j k [] h = h
has_more j k (u ∷ l) h =
    elim (cases_Bool (same u k)) [
      | inl it ↦ grind (arith, h, it)
      | inr other ↦
          elim (cases_Bool (same u j)) [
            | inl its ↦ grind (arith, its)
            | inr not_its ↦
                let rest : has j (u ∷ without_ticket k l) ≡ true = grind (arith, h, other) in
                let fewer : has j (without_ticket k l) ≡ true = grind (arith, rest, not_its) in
                let more : has j l ≡ true = has_more j k l fewer in
                grind (arith, not_its, more)
          ]
    ]

fewer_if : (b : Bool) (j k : Ticket) (l : List Ticket) → has j (if b then without_ticket k l else l) ≡ true → has j l ≡ true
fewer_if true j k l h = has_more j k l h
fewer_if false j k l h = h

-- the desk at a place changed so
quiesced : (s : Environment) (t : ThreadNo) (i : ℕ) (p q : DeskState) (l : List Ticket) → i ≡ place_in s.desks t → slice_get s.desks i ≡ Some p → q.cell ≡ p.cell → q.env ≡ p.env → WaitsWith p.view q.view [] l → ((k : Ticket) → has k l ≡ true → has k p.view.posted ≡ true)
    → Quiesces s (seen_call s i q) t
quiesced s t i p q l is at cell env hold fewer = record {
  before = p;
  after = q;
  there = ap (slice_get s.desks) (sym is) ∙ at;
  cell = cell;
  env = env;
  goes = hold.goes;
  mine = hold.mine ∙ append-nil p.view.mine;
  fewer = λ k h. fewer k (ap (has k) (sym hold.posted) ∙ h);
  new_is = ap (λ (n : ℕ). seen_call s n q) is;
}

-- its calls are cancelled
pub cancelled : (s : Environment) (t : ThreadNo) (i : ℕ) (p q : DeskState) (r : Result (Unit {0}) TiError) → i ≡ place_in s.desks t → slice_get s.desks i ≡ Some p → (q.cell ≡ p.cell) × (q.env ≡ p.env) → OnOk r (Holds p.view q.view [])
    → OnOk r (MayQuiesce s (seen_call s i q) t)
cancelled s t i p q (Ok u) is at here hold = inr (quiesced s t i p q p.view.posted is at here.0 here.1 hold.waits (λ k h. h))
cancelled s t i p q (Err e) is at here hold = tt

-- an answer is discarded
discarded_of : (s : Environment) (t : ThreadNo) (i : ℕ) (l : List Ticket) (p q : DeskState) (was_there : Bool) → i ≡ place_in s.desks t → slice_get s.desks i ≡ Some p → DiscardsOf l p q was_there → MayQuiesce s (seen_call s i q) t
discarded_of s t i [] p q was_there is at d = inl (seen_same s i p q at d.0)
discarded_of s t i (u ∷ l) p q was_there is at d = inr (quiesced s t i p q _ is at d.cell d.env d.hold.waits (λ k h. fewer_if was_there k u p.view.posted h))

pub discarded : (s new : Environment) (t : ThreadNo) (was_there : Bool) → DiscardsAt s new t was_there → MayQuiesce s new t
discarded s new t was_there d = subst (λ (x : Environment). MayQuiesce s x t) (sym d.new_is) (discarded_of s t (place_in s.desks t) d.before.cancelled d.before d.after was_there refl d.there d.discards)

-- the desk looks, until there is news
pub waited : (s : Environment) (t : ThreadNo) (i : ℕ) (p q : DeskState) → i ≡ place_in s.desks t → slice_get s.desks i ≡ Some p → IsSame p q → Waits p.view q.view [] → MayQuiesce s (seen_call s i q) t
waited s t i p q is at here waits = inr (quiesced s t i p q p.view.posted is at here.cell here.env waits (λ k h. h))

-- it leaves all else
pub news : (v w : View) → (v.holds ≡ false) × (v.found ≡ []) → is_legal v.subject.limits v.seen ≡ true → v.mine ≡ made_by v.number v.seen → SawNews v w → Waits v w []
news v w rests legal whole n = waits_looks v w (n.0 ++ n.1 ∷ []) (record { rests = rests; legal = legal; whole = whole }) n.2

-- one step after another
set_twice : (l : List DeskState) (i : ℕ) (x y : DeskState) → slice_set (slice_set l i x) i y ≡ slice_set l i y
set_twice [] i x y = refl
set_twice (z ∷ l) zero x y = refl
set_twice (z ∷ l) (suc i) x y = ap (λ (m : List DeskState). z ∷ m) (set_twice l i x y)

quiesces_then : (a b c : Environment) (t : ThreadNo) → Quiesces a b t → Quiesces b c t → Quiesces a c t
quiesces_then a b c t k m = record {
  before = k.before;
  after = m.after;
  there = k.there;
  cell = m.cell ∙ ap (λ (x : DeskState). x.cell) (sym it) ∙ k.cell;
  env = m.env ∙ ap (λ (x : DeskState). x.env) (sym it) ∙ k.env;
  goes = goes_then k.before.view k.after.view m.after.view k.goes (subst (λ (x : DeskState). GoesOn x.view m.after.view) (sym it) m.goes);
  mine = m.mine ∙ ap (λ (x : DeskState). x.view.mine) (sym it) ∙ k.mine;
  fewer = λ u h. k.fewer u (ap (λ (x : DeskState). has u x.view.posted) it ∙ m.fewer u h);
  new_is = m.new_is ∙ (λ j. record { env = env j; state = state j; desks = desks j });
}
  where
    i : ℕ
    i = place_in a.desks t

    here : place_in b.desks t ≡ i
    here = ap (λ (x : Environment). place_in x.desks t) k.new_is ∙ place_set a.desks i k.before k.after t k.there k.goes.subject

    set : b.desks ≡ slice_set a.desks i k.after
    set = ap (λ (x : Environment). x.desks) k.new_is

    it : k.after ≡ m.before
    it = set_here a.desks i k.after m.before (subst (λ (z : List DeskState × ℕ). slice_get z.0 z.1 ≡ Some m.before) (λ j. (set j, here j)) m.there)

    env : b.env ≡ a.env
    env = ap (λ (x : Environment). x.env) k.new_is

    state : b.state ≡ a.state
    state = ap (λ (x : Environment). x.state) k.new_is

    desks : slice_set b.desks (place_in b.desks t) m.after ≡ slice_set a.desks i m.after
    desks = (λ j. slice_set (set j) (here j) m.after) ∙ set_twice a.desks i k.after m.after

pub quiesce_then : (a b c : Environment) (t : ThreadNo) → MayQuiesce a b t → MayQuiesce b c t → MayQuiesce a c t
quiesce_then a b c t (inl same) m = subst (λ (x : Environment). MayQuiesce x c t) same m
quiesce_then a b c t (inr k) (inl same) = inr (subst (λ (x : Environment). Quiesces a x t) (sym same) k)
quiesce_then a b c t (inr k) (inr m) = inr (quiesces_then a b c t k m)

-- the desk is where it was
pub quiesced_there : (a b : Environment) (t : ThreadNo) → MayQuiesce a b t → place_in a.desks t < length a.desks → place_in b.desks t < length b.desks
quiesced_there a b t (inl same) here = subst (λ (x : Environment). place_in x.desks t < length x.desks) (sym same) here
quiesced_there a b t (inr k) here =
    let place = ap (λ (x : Environment). place_in x.desks t) k.new_is ∙ place_set a.desks (place_in a.desks t) k.before k.after t k.there k.goes.subject in
    let long = ap (λ (x : Environment). length x.desks) k.new_is ∙ length-set a.desks (place_in a.desks t) k.after in
    omega (arith, place, long, here)

fewer_left : (l : List Ticket) (p q : DeskState) → p.cancelled ≡ l → DiscardsOf l p q true → length q.cancelled < length p.cancelled
fewer_left [] p q is d = absurd (never d.1)
  where
    never : true ≡ false → ⊥
    never h = cc
fewer_left (u ∷ l) p q is d = let was = ap (λ (x : List Ticket). length x) is in let now = ap (λ (x : List Ticket). length x) d.cancelled in omega (arith, was, now)

pub fewer_cancelled : (a b : Environment) (t : ThreadNo) → DiscardsAt a b t true → length (cancelled_at b t) < length (cancelled_at a t)
fewer_cancelled a b t d =
    let was : cancelled_at a t ≡ d.before.cancelled = ap cancelled_of d.there in
    let at : slice_get b.desks (place_in b.desks t) ≡ Some d.after = (λ j. slice_get (desks j) (here j)) ∙ set_get a.desks (place_in a.desks t) d.before d.after d.there in
    let now : cancelled_at b t ≡ d.after.cancelled = ap cancelled_of at in
    let less = fewer_left d.before.cancelled d.before d.after refl d.discards in
    omega (arith, less, ap (λ (x : List Ticket). length x) was, ap (λ (x : List Ticket). length x) now)
  where
    desks : b.desks ≡ slice_set a.desks (place_in a.desks t) d.after
    desks = ap (λ (x : Environment). x.desks) d.new_is

    here : place_in b.desks t ≡ place_in a.desks t
    here = discards_place a b t t true d

-- whatever came of one try
pub tried : (a b : Environment) (t : ThreadNo) (was_there : Bool) → (place_in a.desks t < length a.desks → DiscardsAt a b t was_there) → (length a.desks ≤ place_in a.desks t → b ≡ a) → MayQuiesce a b t
tried a b t was_there there nobody = elim (cases_lt (place_in a.desks t) (length a.desks)) [ inl here ↦ discarded a b t was_there (there here) | inr past ↦ inl (nobody past) ]

-- and of one more, after others
pub looks_more : (a b c : Environment) (t : ThreadNo) (was_there : Bool) → DiscardsEach a b t → (place_in b.desks t < length b.desks → DiscardsAt b c t was_there) → (length b.desks ≤ place_in b.desks t → c ≡ b) → DiscardsEach a c t
looks_more a b c t was_there before there nobody =
    elim (cases_lt (place_in b.desks t) (length b.desks)) [
      | inl here ↦ (suc before.0, (b, before.1, tt, (was_there, there here)))
      | inr past ↦ subst (λ (x : Environment). DiscardsEach a x t) (sym (nobody past)) before
    ]

-- an answer was discarded only where there is a desk
abbrev result : Option Discarded → Result (Option Discarded) TiError
result d = Ok d

pub discarded_there : {S : Type 0} → (a b : Environment) (t : ThreadNo) (d : Option Discarded) → is_some d ≡ true → (place_in a.desks t < length a.desks → DiscardsAt a b t (is_some d)) → (length a.desks ≤ place_in a.desks t → S × (result d ≡ result None)) → DiscardsAt a b t true
discarded_there a b t d is there nobody =
    elim (cases_lt (place_in a.desks t) (length a.desks)) [
      | inl here ↦ subst (λ (x : Bool). DiscardsAt a b t x) is (there here)
      | inr past ↦ absurd (never d is (nobody past).1)
    ]
  where
    never : (x : Option Discarded) → is_some x ≡ true → result x ≡ result None → ⊥
    never (Some v) e f = cc
    never None e f = cc

-- no desk is where none was
pub nobody_there : (a b : Environment) (t : ThreadNo) → MayQuiesce a b t → length b.desks ≤ place_in b.desks t → length a.desks ≤ place_in a.desks t
nobody_there a b t k past =
    elim (cases_lt (place_in a.desks t) (length a.desks)) [
      | inl here ↦ let there = quiesced_there a b t k here in absurd (omega (arith, past, there))
      | inr gone ↦ gone
    ]

-- a desk that left, or did not, after a wait
pub retires_then : (a b c : Environment) (t : ThreadNo) (o : Option FreeState) → MayQuiesce a b t → IfSome o (λ f. Retires b c t f) → IfSome o (λ f. Retires a c t f)
retires_then a b c t None k r = tt
retires_then a b c t (Some f) k r = (r.0, quiesce_then a b r.0 t k r.1, r.2)

pub nobody_then : (a b : Environment) (t : ThreadNo) (o : Option FreeState) → MayQuiesce a b t → IfNone o (length b.desks ≤ place_in b.desks t) → IfNone o (length a.desks ≤ place_in a.desks t)
nobody_then a b t None k past = nobody_there a b t k past
nobody_then a b t (Some f) k past = tt

pub same_then : {H : Type 0} (a : Environment) (b c : Housed H) (t : ThreadNo) (o : Option FreeState) → MayQuiesce a b.env t → IfNone o (c ≡ b) → IfNone o (MayQuiesce a c.env t)
same_then a b c t None k same = subst (λ (x : Environment). MayQuiesce a x t) (sym (ap (λ (x : Housed _). x.env) same)) k
same_then a b c t (Some f) k same = tt
