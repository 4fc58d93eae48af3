-- In a legal history the reply at the place of a call is the reply to its ticket.
use Rattle.std.proofs.Common.{◌≡◌, ℕ, ◌+◌, ◌<◌, ◌≤◌, ◌==◌, Bool, true, false, not, List, [], ◌∷◌, ◌++◌, length, map, refl, ap, sym, ◌∙◌, arith, append_assoc, inl, inr, if◌then◌else◌}
use Rattle.std.specs.List.{list_all, enumerate_from}
use Rattle.std.proofs.lemmas.Bool.{cases_Bool}
use Rattle.std.proofs.lemmas.Bool.Decides.{nat_tests}
use Rattle.std.proofs.lemmas.List.Sums.{sum_by-append, sum_by-cons}
use Rattle.std.proofs.lemmas.List.Folds.{list_all-append}
use Rattle.ti_types.specs.declared.limits.Limits.{Limits}
use Rattle.ti_types.specs.declared.numbers.EnvNo.{EnvNo}
use Rattle.ti_types.specs.declared.event.Ticket.{Ticket}
use Rattle.ti_types.specs.declared.call.Call.{Call}
use Rattle.ti_types.specs.declared.entry.Entry.{Entry}
use Rattle.ti_types.specs.declared.entry.Entry.TheVariants.{Start, Own, Hand, Back, End, Asked, Stop, Read, Go}
use Rattle.ti_types.specs.declared.view.ThreadView.{ThreadView}
use Rattle.ti_replay.specs.Settling.{Placed, placed, settle, settled, put_behind, runs_after}
use Rattle.ti_replay.specs.View.{new_thread, after}
use Rattle.ti_replay.specs.Legal.{is_legal, goes_on, may_follow, asked_by, ask_count}
use Rattle.ti_replay.specs.Replies.{reply, reply_from}
use Rattle.ti_replay.proofs.CostLaws.{goes_on-append}
use Rattle.ti_replay.proofs.HistoryLaws.{enumerate_from-append}
use Rattle.ti_replay.specs.Tickets.{is_call_of, reply_in, reply_to}

-- whether an entry is at the place exactly where it is the ticket's call
abbrev fits_place : Ticket → ℕ → Placed → Bool
fits_place t place p = if p.0 == place then is_call_of t p.1 else not (is_call_of t p.1)

all_put : (f : Placed → Bool) (c : Placed) (s : List Placed) → f c ≡ true → list_all f s ≡ true → list_all f (put_behind c s) ≡ true
all_put f c [] h k = refl
all_put f c (p ∷ s) h k = grind (arith, all_put f c s h)

all_settle : (f : Placed → Bool) (r : Bool) (s : List Placed) → list_all f s ≡ true → list_all f (settle r s) ≡ true
all_settle f r [] k = refl
all_settle f r (p ∷ s) k = grind (arith, all_settle f (runs_after r p.1) s, all_put f p (settle (runs_after r p.1) s))

agree : (v : ThreadView) (s : List Placed) (t : Ticket) (place : ℕ) → list_all (fits_place t place) s ≡ true → reply_from v s place ≡ reply_in v (map (λ p. p.1) s) t
agree v [] t place k = refl
agree v (p ∷ s) t place k = grind (arith, agree (after v p.1) s t place)

-- no call of the ticket
abbrev has_none : Ticket → List Entry → Bool
has_none t xs = list_all (λ x. not (is_call_of t x)) xs

none_here : (t : Ticket) (place a : ℕ) (xs : List Entry) → has_none t xs ≡ true → (a ≤ place → a + length xs ≤ place) → list_all (fits_place t place) (enumerate_from a xs) ≡ true
none_here t place a [] k h = refl
none_here t place a (x ∷ xs) k h = grind (arith, nat_tests, none_here t place (a + 1) xs)

asked-snoc : (env : EnvNo) (history : List Entry) (x : Entry) → asked_by env (history ++ x ∷ []) ≡ asked_by env history + ask_count env x
asked-snoc env history x = omega (arith, sum_by-append (ask_count env) history (x ∷ []), sum_by-cons (ask_count env) x [])

same_env : (a b : EnvNo) → a.0 ≡ b.0 → a ≡ b
same_env a b h = ap (λ (n : ℕ). record { 0 = n }) h

-- a call that may come has its environment's number
is_next : (limits : Limits) (f : List Entry) (t : Ticket) (x : Entry) → may_follow limits f x ≡ true → is_call_of t x ≡ true → (t.no ≡ asked_by t.env f) × (ask_count t.env x ≡ 1)
is_next limits f t Start m h = cc
is_next limits f t (Own step) m h = cc
is_next limits f t (Hand safe) m h = cc
is_next limits f t Back m h = cc
is_next limits f t End m h = cc
is_next limits f t (Asked env n call) m h =
    let e : env ≡ t.env = same_env env t.env (grind (arith, nat_tests)) in
    let k : n ≡ asked_by env f = grind (arith, nat_tests) in
    let b : n ≡ t.no = grind (arith, nat_tests) in
    (sym b ∙ k ∙ ap (λ z. asked_by z f) e, grind (arith, nat_tests))
is_next limits f t (Stop env) m h = cc
is_next limits f t (Read env n) m h = cc
is_next limits f t (Go env) m h = cc

-- after the call no other has its number
none_behind : (limits : Limits) (f rest : List Entry) (t : Ticket) → goes_on limits f rest ≡ true → t.no < asked_by t.env f → has_none t rest ≡ true
none_behind limits f [] t g h = refl
none_behind limits f (x ∷ rest) t g h =
    let here : may_follow limits f x ≡ true = grind arith in
    let there : goes_on limits (f ++ x ∷ []) rest ≡ true = grind arith in
    let more = none_behind limits (f ++ x ∷ []) rest t there (omega (arith, h, asked-snoc t.env f x)) in
    elim (cases_Bool (is_call_of t x)) [
      | inl e ↦ absurd (let k = is_next limits f t x here e in omega (arith, k.0, h))
      | inr e ↦ grind (arith, e, more)
    ]

-- before the call no other has its number
none_before : (limits : Limits) (f front : List Entry) (t : Ticket) → goes_on limits f front ≡ true → asked_by t.env (f ++ front) ≤ t.no → has_none t front ≡ true
none_before limits f [] t g h = refl
none_before limits f (x ∷ front) t g h =
    let here : may_follow limits f x ≡ true = grind arith in
    let there : goes_on limits (f ++ x ∷ []) front ≡ true = grind arith in
    let e1 : asked_by t.env ((f ++ x ∷ []) ++ front) ≤ t.no = rw (append_assoc f (x ∷ []) front) h in
    let more = none_before limits (f ++ x ∷ []) front t there e1 in
    elim (cases_Bool (is_call_of t x)) [
      | inl e ↦ absurd (let k = is_next limits f t x here e in omega (arith, k.0, k.1, h, sum_by-append (ask_count t.env) f (x ∷ front), sum_by-cons (ask_count t.env) x front))
      | inr e ↦ grind (arith, e, more)
    ]

pub reply_by_ticket : (limits : Limits) (front rest : List Entry) (t : Ticket) (call : Call) → is_legal limits (front ++ Asked t.env t.no call ∷ rest) ≡ true
    → reply limits (front ++ Asked t.env t.no call ∷ rest) (length front) ≡ reply_to limits (front ++ Asked t.env t.no call ∷ rest) t
reply_by_ticket limits front rest t call legal =
    let x = Asked t.env t.no call in
    let history = front ++ x ∷ rest in
    let both = goes_on-append limits [] front (x ∷ rest) in
    let g1 : goes_on limits [] front ≡ true = grind (arith, both, legal) in
    let g2 : goes_on limits front (x ∷ rest) ≡ true = grind (arith, both, legal) in
    let may : may_follow limits front x ≡ true = grind (arith, g2) in
    let g3 : goes_on limits (front ++ x ∷ []) rest ≡ true = grind (arith, g2) in
    let self : is_call_of t x ≡ true = grind (arith, nat_tests) in
    let next = is_next limits front t x may self in
    let b = none_before limits [] front t g1 (omega (arith, next.0)) in
    let a = none_behind limits (front ++ x ∷ []) rest t g3 (omega (arith, next.0, next.1, asked-snoc t.env front x)) in
    let place = length front in
    let first = none_here t place 0 front b (λ h. omega arith) in
    let last = none_here t place (place + 1) rest a (λ h. absurd (omega (arith, h))) in
    let mid : fits_place t place (place, x) ≡ true = grind (arith, nat_tests, self) in
    let all : list_all (fits_place t place) (placed history) ≡ true =
    grind (arith, enumerate_from-append 0 front (x ∷ rest), list_all-append (fits_place t place) (enumerate_from 0 front) ((place, x) ∷ enumerate_from (place + 1) rest), first, last, mid) in
    agree (new_thread limits) (settled history) t place (all_settle (fits_place t place) false (placed history) all)
