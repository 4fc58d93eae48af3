-- The numbers of an environment's calls in a legal history, and the reply to a read.
use Rattle.std.proofs.Common.{◌≡◌, ℕ, ℤ, ◌≤◌, Bool, true, not, List, [], ◌∷◌, ◌++◌, length, refl, ap, sym, ◌∙◌, arith, append_assoc, inl, inr, Some}
use Rattle.std.specs.List.{list_all}
use Rattle.std.proofs.lemmas.Bool.{cases_Bool}
use Rattle.std.proofs.lemmas.Bool.Decides.{nat_tests}
use Rattle.std.proofs.lemmas.List.Sums.{sum_by-append, sum_by-cons}
use Rattle.ti_types.specs.declared.limits.Limits.{Limits}
use Rattle.ti_types.specs.declared.numbers.EnvNo.{EnvNo}
use Rattle.ti_types.specs.declared.event.Ticket.{Ticket}
use Rattle.ti_types.specs.declared.entry.Entry.{Entry}
use Rattle.ti_types.specs.declared.entry.Entry.TheVariants as entry
use Rattle.ti_types.specs.declared.entry.Entry.TheVariants.{Start, Own, Hand, Back, End, Asked, Stop, Read, Go}
use Rattle.ti_replay.specs.Legal.{goes_on, may_follow, asked_by, ask_count}
use Rattle.ti_replay.specs.Tickets.{is_call_of}
use Rattle.ti_replay.specs.Answers.{stack_of}
use Rattle.ti_replay.specs.Replies.{reply}
use Rattle.ti_replay.proofs.AskingLaws.{reply-snoc}
use Rattle.ti_replay.proofs.PlaceLaws.{reply_past}
use Rattle.ti_replay.specs.View.{view}

-- no call of the ticket
abbrev pub has_none : Ticket → List Entry → Bool
has_none t xs = list_all (λ x. not (is_call_of t x)) xs

same_env : (a b : EnvNo) → a.0 ≡ b.0 → a ≡ b
same_env a b h = ap (λ (n : ℕ). record { 0 = n }) h

-- a call that may come has its environment's number
pub is_next : (limits : Limits) (f : List Entry) (t : Ticket) (x : Entry) → may_follow limits f x ≡ true → is_call_of t x ≡ true → (t.no ≡ asked_by t.env f) × (ask_count t.env x ≡ 1)
is_next limits f t Start m h = cc
is_next limits f t (Own step) m h = cc
is_next limits f t (Hand safe) m h = cc
is_next limits f t Back m h = cc
is_next limits f t End m h = cc
is_next limits f t (Asked env n call) m h =
    let e : env ≡ t.env = same_env env t.env (grind (arith, nat_tests)) in
    let k : n ≡ asked_by env f = grind (arith, nat_tests) in
    let b : n ≡ t.no = grind (arith, nat_tests) in
    (sym b ∙ k ∙ ap (λ z. asked_by z f) e, grind (arith, nat_tests))
is_next limits f t (Stop env) m h = cc
is_next limits f t (Read env n) m h = cc
is_next limits f t (Go env) m h = cc

-- before the call no other has its number
pub none_before : (limits : Limits) (f front : List Entry) (t : Ticket) → goes_on limits f front ≡ true → asked_by t.env (f ++ front) ≤ t.no → has_none t front ≡ true
none_before limits f [] t g h = refl
none_before limits f (x ∷ front) t g h =
    let here : may_follow limits f x ≡ true = grind arith in
    let there : goes_on limits (f ++ x ∷ []) front ≡ true = grind arith in
    let e1 : asked_by t.env ((f ++ x ∷ []) ++ front) ≤ t.no = rw (append_assoc f (x ∷ []) front) h in
    let more = none_before limits (f ++ x ∷ []) front t there e1 in
    elim (cases_Bool (is_call_of t x)) [
      | inl e ↦ absurd (let k = is_next limits f t x here e in omega (arith, k.0, k.1, h, sum_by-append (ask_count t.env) f (x ∷ front), sum_by-cons (ask_count t.env) x front))
      | inr e ↦ grind (arith, e, more)
    ]

-- a read is answered at once
pub read_at_once : (limits : Limits) (history : List Entry) (env : EnvNo) (n : ℤ) → reply limits (history ++ entry.Read env n ∷ []) (length history) ≡ Some (stack_of (view limits history) n)
read_at_once limits history env n =
    grind (arith, nat_tests, reply-snoc limits history (entry.Read env n) (length history), reply_past limits history (length history))
