-- The statuses of each environment's calls, where one is asked, changed or taken out.
use Rattle.std.proofs.Common.{◌≡◌, ℕ, ◌<◌, ◌≤◌, ◌+◌, ◌==◌, true, false, if◌then◌else◌, List, [], ◌∷◌, ◌++◌, length, get_or, set, refl, arith, suc, ap, sym, ◌∙◌, inl, inr, length-set, get_or-set_same, get_or-set_other}
use Rattle.std.specs.List.{All}
use Rattle.std.proofs.lemmas.List.{get_or_past}
use Rattle.std.proofs.lemmas.List.Elements.{All-head, All-tail}
use Rattle.std.proofs.lemmas.Bool.{cases_Bool, cases_eq, cases_lt}
use Rattle.std.proofs.lemmas.Bool.Decides.{nat_tests}
use Rattle.ti_types.specs.declared.numbers.EnvNo.{EnvNo}
use Rattle.ti_types.specs.declared.event.Ticket.{Ticket}
use Rattle.ti_ops.specs.declared.status.CallStatus.{CallStatus}
use Rattle.ti_ops.specs.declared.status.CallStatus.TheVariants.{Gone}
use Rattle.ti_ops.specs.declared.outbox_entry.OutboxEntry.{OutboxEntry}
use Rattle.ti_ops.specs.declared.outbox_entry.Count.{Count}
use Rattle.ti_ops.specs.Statuses.{is_at, statuses_by, status_of, with_call, with_status}
use Rattle.ti_ops.specs.OutboxEntry.{has, status_among, ticket_at, count_of, listed, list_of, lists_of}
use Rattle.ti_ops.proofs.Listed.{length-listed, listed_at, listed_same, listed_set}
use Rattle.ti_ops.proofs.OutboxLaws.{status_none}

-- a call was asked
abbrev pub IsAsked : List Count → OutboxEntry → Type 0
IsAsked counts k = k.ticket.no < (count_of counts k.ticket.env.0).asked

-- each environment has its list
pub by_env : (counts : List Count) (kept : List OutboxEntry) (env : EnvNo) → env.0 < length counts → statuses_by env (lists_of counts kept) ≡ list_of counts kept env.0
by_env counts kept env h = listed_at (list_of counts kept) (length counts) env.0 [] h

pub by_none : (counts : List Count) (kept : List OutboxEntry) (env : EnvNo) → length counts ≤ env.0 → statuses_by env (lists_of counts kept) ≡ []
by_none counts kept env h = get_or_past (lists_of counts kept) env.0 [] (omega (arith, h, length-listed (list_of counts kept) (length counts)))

pub length_by : (counts : List Count) (kept : List OutboxEntry) (env : EnvNo) → env.0 < length counts → length (statuses_by env (lists_of counts kept)) ≡ (count_of counts env.0).asked
length_by counts kept env h = ap length (by_env counts kept env h) ∙ length-listed (λ number. status_among (ticket_at env.0 number) kept) (count_of counts env.0).asked

-- the environment of a call that was asked is one of them
pub env_within : (counts : List Count) (env n : ℕ) → n < (count_of counts env).asked → env < length counts
env_within counts env n h =
    elim (cases_lt env (length counts)) [
      | inl below ↦ below
      | inr past ↦ absurd (let e : count_of counts env ≡ record { asked = 0; held = 0 } = get_or_past counts env (record { asked = 0; held = 0 }) past in omega (arith, h, ap (λ (c : Count). c.asked) e))
    ]

-- the number of a call is looked at, and its environment's
pub among_same : (t u : Ticket) (kept : List OutboxEntry) → t.no ≡ u.no → t.env.0 ≡ u.env.0 → status_among t kept ≡ status_among u kept
among_same t u [] n e = refl
among_same t u (k ∷ kept) n e =
    let same : is_at k.ticket t ≡ is_at k.ticket u = grind (arith, nat_tests, n, e) in
    grind (arith, same, among_same t u kept n e)

-- the status of a call that was asked, and of others
pub status_asked : (counts : List Count) (kept : List OutboxEntry) (t : Ticket) → t.no < (count_of counts t.env.0).asked → status_of t (lists_of counts kept) ≡ status_among t kept
status_asked counts kept t h =
    ap (λ xs. get_or xs t.no Gone) (by_env counts kept t.env (env_within counts t.env.0 t.no h))
    ∙ listed_at (λ number. status_among (ticket_at t.env.0 number) kept) (count_of counts t.env.0).asked t.no Gone h
    ∙ among_same (ticket_at t.env.0 t.no) t kept refl refl

pub not_asked : (counts : List Count) (kept : List OutboxEntry) (t : Ticket) → (count_of counts t.env.0).asked ≤ t.no → status_of t (lists_of counts kept) ≡ Gone
not_asked counts kept t h =
    elim (cases_lt t.env.0 (length counts)) [
      | inl there ↦ get_or_past (statuses_by t.env (lists_of counts kept)) t.no Gone (omega (arith, h, length_by counts kept t.env there))
      | inr out ↦ ap (λ xs. get_or xs t.no Gone) (by_none counts kept t.env out)
    ]

-- no call that was not asked is kept
pub not_kept : (counts : List Count) (kept : List OutboxEntry) (t : Ticket) → All (IsAsked counts) kept → (count_of counts t.env.0).asked ≤ t.no → has t kept ≡ false
not_kept counts [] t a h = refl
not_kept counts (k ∷ kept) t a h =
    let here : IsAsked counts k = All-head (IsAsked counts) k kept a in
    let rest = not_kept counts kept t (All-tail (IsAsked counts) k kept a) h in
    let no : is_at k.ticket t ≡ false = elim (cases_Bool (is_at k.ticket t)) [
      | inl e ↦
          let n : k.ticket.no ≡ t.no = grind (arith, nat_tests) in
          let s : k.ticket.env.0 ≡ t.env.0 = grind (arith, nat_tests) in
          absurd (let c = ap (λ env. (count_of counts env).asked) s in omega (arith, n, here, h, c))
      | inr e ↦ e
    ] in
    grind (arith, no, rest)

-- so the status of each call is that among the kept ones
pub status_is : (counts : List Count) (kept : List OutboxEntry) (t : Ticket) → All (IsAsked counts) kept → status_of t (lists_of counts kept) ≡ status_among t kept
status_is counts kept t a =
    elim (cases_lt t.no (count_of counts t.env.0).asked) [
      | inl asked ↦ status_asked counts kept t asked
      | inr past ↦ not_asked counts kept t past ∙ sym (status_none t kept (not_kept counts kept t a past))
    ]

-- another count of an environment
pub asked-set : (counts : List Count) (env e : ℕ) (c : Count) → env < length counts → (count_of (set counts env c) e).asked ≡ (if env == e then c.asked else (count_of counts e).asked)
asked-set counts env e c h =
    elim (cases_eq e env) [
      | inl same ↦ grind (arith, nat_tests, same, get_or-set_same counts env c (record { asked = 0; held = 0 }) h)
      | inr other ↦ grind (arith, nat_tests, get_or-set_other counts env e c (record { asked = 0; held = 0 }) other)
    ]

pub held-set : (counts : List Count) (env e : ℕ) (c : Count) → env < length counts → (count_of (set counts env c) e).held ≡ (if env == e then c.held else (count_of counts e).held)
held-set counts env e c h =
    elim (cases_eq e env) [
      | inl same ↦ grind (arith, nat_tests, same, get_or-set_same counts env c (record { asked = 0; held = 0 }) h)
      | inr other ↦ grind (arith, nat_tests, get_or-set_other counts env e c (record { asked = 0; held = 0 }) other)
    ]

-- one more call of an environment
pub lists_more : (counts : List Count) (kept kept' : List OutboxEntry) (env : EnvNo) (x : CallStatus) (c : Count) → env.0 < length counts → c.asked ≡ (count_of counts env.0).asked + 1
    → status_among (ticket_at env.0 (count_of counts env.0).asked) kept' ≡ x
    → ((t : Ticket) → t.no < (count_of counts t.env.0).asked → status_among t kept' ≡ status_among t kept)
    → lists_of (set counts env.0 c) kept' ≡ with_call env x (lists_of counts kept)
lists_more counts kept kept' env x c h n here others =
    let counts' = set counts env.0 c in
    let old = list_of counts kept in
    let new = list_of counts' kept' in
    let at_env : count_of counts' env.0 ≡ c = get_or-set_same counts env.0 c (record { asked = 0; held = 0 }) h in
    let more : new env.0 ≡ statuses_by env (lists_of counts kept) ++ x ∷ [] =
    ap (λ (d : Count). listed (λ number. status_among (ticket_at env.0 number) kept') d.asked) at_env
    ∙ ap (listed (λ number. status_among (ticket_at env.0 number) kept')) (n ∙ plus_one (count_of counts env.0).asked)
    ∙ ap (λ l. l ++ status_among (ticket_at env.0 (count_of counts env.0).asked) kept' ∷ [])
    (listed_same (λ number. status_among (ticket_at env.0 number) kept) (λ number. status_among (ticket_at env.0 number) kept') (count_of counts env.0).asked (λ i b. others (ticket_at env.0 i) b))
    ∙ ap (λ y. list_of counts kept env.0 ++ y ∷ []) here
    ∙ ap (λ l. l ++ x ∷ []) (sym (by_env counts kept env h)) in
    let same : (e : ℕ) → e < length counts → (e ≡ env.0 → ⊥) → new e ≡ old e =
    λ e b differs.
    let at_e : count_of counts' e ≡ count_of counts e = get_or-set_other counts env.0 e c (record { asked = 0; held = 0 }) differs in
    ap (λ (d : Count). listed (λ number. status_among (ticket_at e number) kept') d.asked) at_e
    ∙ listed_same (λ number. status_among (ticket_at e number) kept) (λ number. status_among (ticket_at e number) kept') (count_of counts e).asked (λ i b. others (ticket_at e i) b) in
    ap (listed new) (length-set counts env.0 c) ∙ listed_set old new (length counts) env.0 (statuses_by env (lists_of counts kept) ++ x ∷ []) h more same
  where
    plus_one : (n : ℕ) → n + 1 ≡ suc n
    plus_one n = omega arith

-- the same calls, whatever else is counted
pub lists_same : (counts counts' : List Count) (kept kept' : List OutboxEntry) → length counts' ≡ length counts → ((e : ℕ) → (count_of counts' e).asked ≡ (count_of counts e).asked)
    → ((t : Ticket) → status_among t kept' ≡ status_among t kept) → lists_of counts' kept' ≡ lists_of counts kept
lists_same counts counts' kept kept' l n same =
    ap (listed (list_of counts' kept')) l
    ∙ listed_same (list_of counts kept) (list_of counts' kept') (length counts)
    (λ e b. ap (listed (λ number. status_among (ticket_at e number) kept')) (n e)
    ∙ listed_same (λ number. status_among (ticket_at e number) kept) (λ number. status_among (ticket_at e number) kept') (count_of counts e).asked (λ i b. same (ticket_at e i)))

-- another status of a call
pub lists_set : (counts counts' : List Count) (kept kept' : List OutboxEntry) (u : Ticket) (x : CallStatus) → u.no < (count_of counts u.env.0).asked
    → length counts' ≡ length counts → ((e : ℕ) → (count_of counts' e).asked ≡ (count_of counts e).asked)
    → ((t : Ticket) → status_among t kept' ≡ (if is_at u t then x else status_among t kept))
    → lists_of counts' kept' ≡ with_status u x (lists_of counts kept)
lists_set counts counts' kept kept' u x h l n statuses =
    let there = env_within counts u.env.0 u.no h in
    let old = list_of counts kept in
    let new = list_of counts' kept' in
    let f = λ (e number : ℕ). status_among (ticket_at e number) kept in
    let g = λ (e number : ℕ). status_among (ticket_at e number) kept' in
    let changed : new u.env.0 ≡ set (statuses_by u.env (lists_of counts kept)) u.no x =
    ap (listed (g u.env.0)) (n u.env.0)
    ∙ listed_set (f u.env.0) (g u.env.0) (count_of counts u.env.0).asked u.no x h
    (statuses (ticket_at u.env.0 u.no) ∙ (let e : is_at u (ticket_at u.env.0 u.no) ≡ true = grind (arith, nat_tests) in grind (arith, e)))
    (λ i b differs. statuses (ticket_at u.env.0 i) ∙ (let e : is_at u (ticket_at u.env.0 i) ≡ false = other_number u i differs in grind (arith, e)))
    ∙ ap (λ l. set l u.no x) (sym (by_env counts kept u.env there)) in
    let same : (e : ℕ) → e < length counts → (e ≡ u.env.0 → ⊥) → new e ≡ old e =
    λ e b differs.
    ap (listed (g e)) (n e)
    ∙ listed_same (f e) (g e) (count_of counts e).asked (λ i b. statuses (ticket_at e i) ∙ (let d : is_at u (ticket_at e i) ≡ false = other_env u e i differs in grind (arith, d))) in
    ap (listed new) l ∙ listed_set old new (length counts) u.env.0 (set (statuses_by u.env (lists_of counts kept)) u.no x) there changed same
  where
    other_number : (u : Ticket) (i : ℕ) → (i ≡ u.no → ⊥) → is_at u (ticket_at u.env.0 i) ≡ false
    other_number u i d = elim (cases_eq i u.no) [ inl e ↦ absurd (d e) | inr e ↦ grind (arith, nat_tests) ]

    other_env : (u : Ticket) (e i : ℕ) → (e ≡ u.env.0 → ⊥) → is_at u (ticket_at e i) ≡ false
    other_env u e i d = elim (cases_eq e u.env.0) [ inl s ↦ absurd (d s) | inr s ↦ grind (arith, nat_tests) ]
