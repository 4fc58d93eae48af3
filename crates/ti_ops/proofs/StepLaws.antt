-- What is kept, where a call is posted, passed, taken, answered or collected.
use Rattle.std.proofs.Common.{◌≡◌, ℕ, ◌<◌, ◌≤◌, ◌+◌, ◌*◌, ◌==◌, ◌||◌, not, true, false, if◌then◌else◌, List, [], ◌∷◌, ◌++◌, length, map, take, drop, get_or, set, refl, arith, suc, zero, ap, sym, subst, ◌∙◌, inl, inr, None, replicate, length-set, length-append, get_or-set_same, get_or-set_other}
use Rattle.std.specs.List.{All, sum_by, count_by, remove}
use Rattle.std.proofs.lemmas.List.{drop-append-le, drop-set-lt, drop-drop, get_or-drop, length-drop, take-append-drop, length-replicate}
use Rattle.std.proofs.lemmas.List.Elements.{All-get_or, All-set, All-push, All-weaker, All-drop, All-head, All-tail, All-nil, All-replicate}
use Rattle.std.proofs.lemmas.List.Sums.{sum_by-set, sum_by-le, sum_by-append, sum_by-cons, get_or-le-sum_by}
use Rattle.std.proofs.Math.Seq.{take-length}
use Rattle.std.proofs.lemmas.Bool.{cases_Bool, cases_eq, cases_lt}
use Rattle.std.proofs.lemmas.Bool.Decides.{nat_tests}
use Rattle.ti_types.specs.declared.numbers.EnvNo.{EnvNo}
use Rattle.ti_types.specs.declared.event.Ticket.{Ticket}
use Rattle.ti_ops.specs.declared.status.CallStatus.{CallStatus}
use Rattle.ti_ops.specs.declared.status.CallStatus.TheVariants as status
use Rattle.ti_ops.specs.declared.outbox_entry.OutboxEntry.{OutboxEntry}
use Rattle.ti_ops.specs.declared.outbox_entry.Count.{Count}
use Rattle.ti_ops.specs.declared.outbox_entry.Stage.{Stage}
use Rattle.ti_ops.specs.declared.outbox_entry.Stage.TheVariants.{Posted, Taken, Answered}
use Rattle.ti_ops.specs.Statuses.{is_at, is_awaited, is_open, answer_by, statuses_by, status_of, open_by, with_call, with_status}
use Rattle.ti_ops.specs.OutboxEntry.{status_in, is_posted, has_answer, pending_in, has, status_among, ticket_at, count_of, listed, list_of, lists_of, IsKept}
use Rattle.ti_ops.proofs.Listed.{length-listed, listed_same, listed_all}
use Rattle.ti_ops.proofs.OutboxLaws.{status_none, status-append, status_at, status-set, status-remove, same_at, once-set, once-remove, once-append, All-remove}
use Rattle.ti_ops.proofs.TableLaws.{IsAsked, length_by, env_within, not_kept, status_is, asked-set, held-set, lists_more, lists_same, lists_set}

-- 1 for a call of which something is left
abbrev pub opens : CallStatus → ℕ
opens x = if is_open x then 1 else 0

-- of how many calls something is left, with one more call
pub open-with_call : (e env : EnvNo) (x : CallStatus) (statuses : List (List CallStatus)) → env.0 < length statuses
    → open_by e (with_call env x statuses) ≡ open_by e statuses + (if env.0 == e.0 then opens x else 0)
open-with_call e env x statuses h =
    elim (cases_eq e.0 env.0) [
      | inl same ↦
          let a : statuses_by e (with_call env x statuses) ≡ statuses_by env statuses ++ x ∷ [] = ap (λ i. get_or (with_call env x statuses) i []) same ∙ get_or-set_same statuses env.0 (statuses_by env statuses ++ x ∷ []) [] h in
          let b : statuses_by e statuses ≡ statuses_by env statuses = ap (λ i. get_or statuses i []) same in
          let c : count_by is_open (statuses_by env statuses ++ x ∷ []) ≡ count_by is_open (statuses_by env statuses) + opens x = counted (statuses_by env statuses) x in
          ap (count_by is_open) a ∙ c ∙ grind (arith, nat_tests, same, ap (count_by is_open) b)
      | inr other ↦
          let a : statuses_by e (with_call env x statuses) ≡ statuses_by e statuses = get_or-set_other statuses env.0 e.0 (statuses_by env statuses ++ x ∷ []) [] other in
          ap (count_by is_open) a ∙ grind (arith, nat_tests, other)
    ]
  where
    counted : (xs : List CallStatus) (x : CallStatus) → count_by is_open (xs ++ x ∷ []) ≡ count_by is_open xs + opens x
    counted xs x = omega (arith, sum_by-append opens xs (x ∷ []), sum_by-cons opens x [])

-- and with another status of a call
pub open-with_status : (e : EnvNo) (t : Ticket) (x : CallStatus) (statuses : List (List CallStatus)) → t.env.0 < length statuses → t.no < length (statuses_by t.env statuses)
    → open_by e (with_status t x statuses) + (if t.env.0 == e.0 then opens (status_of t statuses) else 0) ≡ open_by e statuses + (if t.env.0 == e.0 then opens x else 0)
open-with_status e t x statuses h n =
    elim (cases_eq e.0 t.env.0) [
      | inl same ↦
          let a : statuses_by e (with_status t x statuses) ≡ set (statuses_by t.env statuses) t.no x = ap (λ i. get_or (with_status t x statuses) i []) same ∙ get_or-set_same statuses t.env.0 (set (statuses_by t.env statuses) t.no x) [] h in
          let b : statuses_by e statuses ≡ statuses_by t.env statuses = ap (λ i. get_or statuses i []) same in
          let c : count_by is_open (set (statuses_by t.env statuses) t.no x) + opens (status_of t statuses) ≡ count_by is_open (statuses_by t.env statuses) + opens x =
          sum_by-set opens (statuses_by t.env statuses) t.no x status.Gone n in
          grind (arith, nat_tests, same, ap (count_by is_open) a, ap (count_by is_open) b, c)
      | inr other ↦
          let a : statuses_by e (with_status t x statuses) ≡ statuses_by e statuses = get_or-set_other statuses t.env.0 e.0 (set (statuses_by t.env statuses) t.no x) [] other in
          ap (λ xs. count_by is_open xs + (if t.env.0 == e.0 then opens (status_of t statuses) else 0)) a ∙ grind (arith, nat_tests, other)
    ]

abbrev pub nobody : Count
nobody = record { asked = 0; held = 0 }

-- as many are left as are counted
abbrev pub AreCounted : List Count → List OutboxEntry → Type 0
AreCounted counts kept = (env : EnvNo) → env.0 < length counts → (count_of counts env.0).held ≡ open_by env (lists_of counts kept)

-- a ticket that is asked, and one that is next, are two
not_next : (counts : List Count) (u t : Ticket) → u.no ≡ (count_of counts u.env.0).asked → t.no < (count_of counts t.env.0).asked → is_at u t ≡ false
not_next counts u t n h =
    elim (cases_Bool (is_at u t)) [
      | inl e ↦
          let a : u.no ≡ t.no = grind (arith, nat_tests) in
          let b : u.env.0 ≡ t.env.0 = grind (arith, nat_tests) in
          absurd (let z = ap (λ i. (count_of counts i).asked) b in omega (arith, a, n, h, z))
      | inr e ↦ e
    ]

asked_on : (counts : List Count) (env : ℕ) (c : Count) (k : OutboxEntry) → env < length counts → (count_of counts env).asked ≤ c.asked → IsAsked counts k → IsAsked (set counts env c) k
asked_on counts env c k h more a =
    let e = asked-set counts env k.ticket.env.0 c h in
    elim (cases_eq k.ticket.env.0 env) [
      | inl same ↦ let z = ap (λ i. (count_of counts i).asked) same in let f : (count_of (set counts env c) k.ticket.env.0).asked ≡ c.asked = grind (arith, nat_tests, e, same) in omega (arith, f, z, a, more)
      | inr other ↦ let f : (count_of (set counts env c) k.ticket.env.0).asked ≡ (count_of counts k.ticket.env.0).asked = grind (arith, nat_tests, e, other) in omega (arith, f, a)
    ]

-- one more call
counted_more : (counts : List Count) (kept kept' : List OutboxEntry) (env : EnvNo) (x : CallStatus) (c : Count) → env.0 < length counts → c.held ≡ (count_of counts env.0).held + opens x
    → lists_of (set counts env.0 c) kept' ≡ with_call env x (lists_of counts kept) → AreCounted counts kept → AreCounted (set counts env.0 c) kept'
counted_more counts kept kept' env x c h more lists s e he =
    let inside : env.0 < length (lists_of counts kept) = omega (arith, h, length-listed (list_of counts kept) (length counts)) in
    let now = ap (open_by e) lists ∙ open-with_call e env x (lists_of counts kept) inside in
    let old = s e (omega (arith, he, length-set counts env.0 c)) in
    let there = held-set counts env.0 e.0 c h in
    elim (cases_eq e.0 env.0) [
      | inl same ↦ let z = ap (λ i. (count_of counts i).held) same in grind (arith, nat_tests, now, old, there, same, z, more)
      | inr other ↦ grind (arith, nat_tests, now, old, there, other)
    ]

-- and another status
counted_set : (counts counts' : List Count) (kept kept' : List OutboxEntry) (u : Ticket) (x : CallStatus) → u.no < (count_of counts u.env.0).asked → length counts' ≡ length counts
    → ((e : ℕ) → (count_of counts' e).held + (if u.env.0 == e then opens (status_of u (lists_of counts kept)) else 0) ≡ (count_of counts e).held + (if u.env.0 == e then opens x else 0))
    → lists_of counts' kept' ≡ with_status u x (lists_of counts kept) → AreCounted counts kept → AreCounted counts' kept'
counted_set counts counts' kept kept' u x h l held lists s e he =
    let there = env_within counts u.env.0 u.no h in
    let inside : u.env.0 < length (lists_of counts kept) = omega (arith, there, length-listed (list_of counts kept) (length counts)) in
    let now = open-with_status e u x (lists_of counts kept) inside (omega (arith, h, length_by counts kept u.env there)) in
    let same = ap (open_by e) lists in
    let old = s e (omega (arith, he, l)) in
    omega (arith, now, same, old, held e.0)

-- there is room for one more
pub room_left : (window first cap : ℕ) (counts : List Count) (kept : List OutboxEntry) (env : ℕ) → IsKept window first cap counts kept → env < length counts → (count_of counts env).held < window → length kept < cap
room_left window first cap counts kept env s h room =
    let c : Count = record { asked = 0; held = (count_of counts env).held + 1 } in
    let few : All (λ (d : Count). d.held ≤ window) (set counts env c) = All-set (λ (d : Count). d.held ≤ window) counts env c (omega (arith, room)) s.few in
    omega (arith, sum_by-set (λ (d : Count). d.held) counts env c nobody h, sum_by-le (λ (d : Count). d.held) window (set counts env c) few, ap (λ n. n * window) (length-set counts env c), s.all, s.room)

pub waits_in : (x : Stage) → is_posted x ≡ true → status_in x ≡ status.Waiting
waits_in (Posted a b) e = refl
waits_in Taken e = refl
waits_in (Answered a) e = cc

-- the first that waits
pub posted_at : (kept : List OutboxEntry) (first : ℕ) (d : OutboxEntry) → first < length kept → All (λ (k : OutboxEntry). is_posted k.stage ≡ true) (drop first kept) → is_posted (get_or kept first d).stage ≡ true
posted_at kept first d h a =
    let at : get_or (drop first kept) 0 d ≡ get_or kept first d = get_or-drop first kept 0 d ∙ ap (λ n. get_or kept n d) (omega arith) in
    subst (λ (k : OutboxEntry). is_posted k.stage ≡ true) at (All-get_or (λ (k : OutboxEntry). is_posted k.stage ≡ true) (drop first kept) 0 d (omega (arith, h, length-drop first kept)) a)

awaited_has : (u : Ticket) (kept : List OutboxEntry) → is_awaited u (map pending_in kept) ≡ has u kept
awaited_has u [] = refl
awaited_has u (k ∷ kept) = ap (λ b. is_at k.ticket u || b) (awaited_has u kept)

-- a call that has no answer yet, and waits no more
pub found_taken : (window first cap : ℕ) (counts : List Count) (kept : List OutboxEntry) (u : Ticket) → IsKept window first cap counts kept → status_of u (lists_of counts kept) ≡ status.Waiting
    → is_awaited u (map pending_in (drop first kept)) ≡ false → has u (take first kept) ≡ true
found_taken window first cap counts kept u s w n =
    elim (cases_Bool (has u (take first kept))) [
      | inl e ↦ e
      | inr e ↦
          let a : status_among u kept ≡ status_among u (drop first kept) =
          ap (status_among u) (sym (take-append-drop first kept)) ∙ status-append u (take first kept) (drop first kept) ∙ grind (arith, e) in
          let b : status_among u (drop first kept) ≡ status.Gone = status_none u (drop first kept) (sym (awaited_has u (drop first kept)) ∙ n) in
          absurd (let z : status.Gone ≡ status.Waiting = sym (a ∙ b) ∙ sym (status_is counts kept u s.asked) ∙ w in cc)
    ]

-- a call is posted
module _ (window first cap : ℕ) (counts : List Count) (kept : List OutboxEntry) (k : OutboxEntry) (c : Count) (s : IsKept window first cap counts kept) (h : k.ticket.env.0 < length counts)
    (next : k.ticket.no ≡ (count_of counts k.ticket.env.0).asked) (more : c.asked ≡ (count_of counts k.ticket.env.0).asked + 1) (w : is_posted k.stage ≡ true) where
  pub lists_posted : lists_of (set counts k.ticket.env.0 c) (kept ++ k ∷ []) ≡ with_call k.ticket.env status.Waiting (lists_of counts kept)
  lists_posted =
      let t = ticket_at k.ticket.env.0 (count_of counts k.ticket.env.0).asked in
      let none : has t kept ≡ false = not_kept counts kept t s.asked (omega arith) in
      let it : is_at k.ticket t ≡ true = grind (arith, nat_tests, next) in
      lists_more counts kept (kept ++ k ∷ []) k.ticket.env status.Waiting c h more
      (status-append t kept (k ∷ []) ∙ grind (arith, none, it, waits_in k.stage w))
      (λ t b.
      let other : is_at k.ticket t ≡ false = not_next counts k.ticket t next b in
      status-append t kept (k ∷ []) ∙ elim (cases_Bool (has t kept)) [
        | inl e ↦ grind (arith, e)
        | inr e ↦ grind (arith, e, other, status_none t kept e)
      ])

  pub kept_posted : (cap' : ℕ) → cap' ≡ cap → c.held ≡ (count_of counts k.ticket.env.0).held + 1 → (count_of counts k.ticket.env.0).held < window → IsKept window first cap' (set counts k.ticket.env.0 c) (kept ++ k ∷ [])
  kept_posted cap' e held room = record {
    taken = omega (arith, s.taken, length-append kept (k ∷ []));
    waits = subst (All (λ (j : OutboxEntry). is_posted j.stage ≡ true)) (sym (drop-append-le first kept (k ∷ []) s.taken)) (All-push (λ (j : OutboxEntry). is_posted j.stage ≡ true) (drop first kept) k s.waits w);
    once = once-append kept k (not_kept counts kept k.ticket s.asked (omega (arith, next))) s.once;
    asked = All-push (IsAsked (set counts k.ticket.env.0 c)) kept k (All-weaker (IsAsked counts) (IsAsked (set counts k.ticket.env.0 c)) (λ j a. asked_on counts k.ticket.env.0 c j h (omega (arith, more)) a) kept s.asked)
        (let z = asked-set counts k.ticket.env.0 k.ticket.env.0 c h in let y : (count_of (set counts k.ticket.env.0 c) k.ticket.env.0).asked ≡ c.asked = grind (arith, nat_tests, z) in omega (arith, y, more, next));
    few = All-set (λ (d : Count). d.held ≤ window) counts k.ticket.env.0 c (omega (arith, held, room)) s.few;
    all = omega (arith, sum_by-set (λ (d : Count). d.held) counts k.ticket.env.0 c nobody h, s.all, held, length-append kept (k ∷ []));
    held = counted_more counts kept (kept ++ k ∷ []) k.ticket.env status.Waiting c h held lists_posted s.held;
    room = let z = ap (λ n. n * window) (length-set counts k.ticket.env.0 c) in omega (arith, z, e, s.room);
  }

-- a call is passed
module _ (window first cap : ℕ) (counts : List Count) (kept : List OutboxEntry) (env : EnvNo) (c : Count) (s : IsKept window first cap counts kept) (h : env.0 < length counts)
    (more : c.asked ≡ (count_of counts env.0).asked + 1) (held : c.held ≡ (count_of counts env.0).held) where
  pub lists_passed : lists_of (set counts env.0 c) kept ≡ with_call env status.Gone (lists_of counts kept)
  lists_passed =
      let t = ticket_at env.0 (count_of counts env.0).asked in
      lists_more counts kept kept env status.Gone c h more (status_none t kept (not_kept counts kept t s.asked (omega arith))) (λ t b. refl)

  pub kept_passed : IsKept window first cap (set counts env.0 c) kept
  kept_passed = record {
    taken = s.taken;
    waits = s.waits;
    once = s.once;
    asked = All-weaker (IsAsked counts) (IsAsked (set counts env.0 c)) (λ j a. asked_on counts env.0 c j h (omega (arith, more)) a) kept s.asked;
    few = All-set (λ (d : Count). d.held ≤ window) counts env.0 c (let z = All-get_or (λ (d : Count). d.held ≤ window) counts env.0 nobody h s.few in omega (arith, held, z)) s.few;
    all = omega (arith, sum_by-set (λ (d : Count). d.held) counts env.0 c nobody h, s.all, held);
    held = counted_more counts kept kept env status.Gone c h (omega (arith, held)) lists_passed s.held;
    room = let z = ap (λ n. n * window) (length-set counts env.0 c) in omega (arith, z, s.room);
  }

-- a kept call comes to another stage
module _ (window first cap : ℕ) (counts : List Count) (kept : List OutboxEntry) (i : ℕ) (d k : OutboxEntry) (s : IsKept window first cap counts kept) (h : i < length kept) (e : k.ticket ≡ (get_or kept i d).ticket) where
  still_asked : All (IsAsked counts) (set kept i k)
  still_asked = All-set (IsAsked counts) kept i k (subst (λ (t : Ticket). t.no < (count_of counts t.env.0).asked) (sym e) (All-get_or (IsAsked counts) kept i d h s.asked)) s.asked

  -- it is taken
  pub lists_taken : status_in k.stage ≡ status_in (get_or kept i d).stage → lists_of counts (set kept i k) ≡ lists_of counts kept
  lists_taken same =
      lists_same counts counts kept (set kept i k) refl (λ _. refl)
      (λ t. status-set t kept i d k h s.once e ∙ elim (cases_Bool (is_at k.ticket t)) [
        | inl it ↦ let z = status_at t kept i d h s.once (ap (λ (u : Ticket). is_at u t) (sym e) ∙ it) in grind (arith, it, z, same)
        | inr other ↦ grind (arith, other)
      ])

  pub kept_taken : i ≡ first → status_in k.stage ≡ status_in (get_or kept i d).stage → IsKept window (first + 1) cap counts (set kept i k)
  kept_taken at same =
      let rest : drop (first + 1) (set kept i k) ≡ drop 1 (drop first kept) = drop-set-lt (first + 1) kept i k (omega (arith, at)) ∙ sym (drop-drop 1 first kept) in
      record {
        taken = omega (arith, at, h, length-set kept i k);
        waits = subst (All (λ (j : OutboxEntry). is_posted j.stage ≡ true)) (sym rest) (All-drop (λ (j : OutboxEntry). is_posted j.stage ≡ true) 1 (drop first kept) s.waits);
        once = once-set kept i d k h e s.once;
        asked = still_asked;
        few = s.few;
        all = s.all ∙ sym (length-set kept i k);
        held = λ env he. s.held env he ∙ ap (open_by env) (sym (lists_taken same));
        room = s.room;
      }

  -- it has its answer, by a ticket
  pub u_asked : (u : Ticket) → is_at (get_or kept i d).ticket u ≡ true → u.no < (count_of counts u.env.0).asked
  u_asked u it =
      let a : (get_or kept i d).ticket.no ≡ u.no = grind (arith, nat_tests) in
      let b : (get_or kept i d).ticket.env.0 ≡ u.env.0 = grind (arith, nat_tests) in
      let c = All-get_or (IsAsked counts) kept i d h s.asked in
      let z = ap (λ j. (count_of counts j).asked) b in
      omega (arith, a, c, z)

  pub lists_told : (u : Ticket) (x : CallStatus) → is_at (get_or kept i d).ticket u ≡ true → status_in k.stage ≡ x → lists_of counts (set kept i k) ≡ with_status u x (lists_of counts kept)
  lists_told u x it ex =
      lists_set counts counts kept (set kept i k) u x (u_asked u it) refl (λ _. refl)
      (λ t. status-set t kept i d k h s.once e
      ∙ (let z : is_at k.ticket t ≡ is_at u t = ap (λ (v : Ticket). is_at v t) e ∙ sym (same_at (get_or kept i d).ticket u t it) in grind (arith, z, ex)))

  pub kept_told : (u : Ticket) (x : CallStatus) → i < first → is_at (get_or kept i d).ticket u ≡ true → status_in k.stage ≡ x → is_open x ≡ true → is_open (status_of u (lists_of counts kept)) ≡ true → IsKept window first cap counts (set kept i k)
  kept_told u x at it ex ox ou = record {
    taken = omega (arith, s.taken, length-set kept i k);
    waits = subst (All (λ (j : OutboxEntry). is_posted j.stage ≡ true)) (sym (drop-set-lt first kept i k at)) s.waits;
    once = once-set kept i d k h e s.once;
    asked = still_asked;
    few = s.few;
    all = s.all ∙ sym (length-set kept i k);
    held = counted_set counts counts kept (set kept i k) u x (u_asked u it) refl (λ env. grind (arith, ox, ou)) (lists_told u x it ex) s.held;
    room = s.room;
  }

length-remove : (kept : List OutboxEntry) (i : ℕ) → i < length kept → length (remove kept i) + 1 ≡ length kept
length-remove [] i h = absurd (omega (arith, h))
length-remove (k ∷ kept) zero h = omega arith
length-remove (k ∷ kept) (suc i) h = let z = length-remove kept i (omega (arith, h)) in omega (arith, z)

pub drop-remove : (kept : List OutboxEntry) (i n : ℕ) → i ≤ n → drop n (remove kept i) ≡ drop (suc n) kept
drop-remove [] zero zero h = refl
drop-remove [] zero (suc n) h = refl
drop-remove [] (suc i) zero h = refl
drop-remove [] (suc i) (suc n) h = refl
drop-remove (k ∷ kept) zero n h = refl
drop-remove (k ∷ kept) (suc i) zero h = absurd (omega (arith, h))
drop-remove (k ∷ kept) (suc i) (suc n) h = drop-remove kept i n (omega (arith, h))

-- an answer is collected
module _ (window first cap : ℕ) (counts : List Count) (kept : List OutboxEntry) (i : ℕ) (d : OutboxEntry) (u : Ticket) (c : Count) (s : IsKept window first cap counts kept) (h : i < first) (it : is_at (get_or kept i d).ticket u ≡ true)
    (same : c.asked ≡ (count_of counts u.env.0).asked) where
  within : i < length kept
  within = omega (arith, h, s.taken)

  asked_here : u.no < (count_of counts u.env.0).asked
  asked_here = u_asked window first cap counts kept i d (get_or kept i d) s within refl u it

  asked_same : (e : ℕ) → (count_of (set counts u.env.0 c) e).asked ≡ (count_of counts e).asked
  asked_same e =
      let z = asked-set counts u.env.0 e c (env_within counts u.env.0 u.no asked_here) in
      elim (cases_eq e u.env.0) [
        | inl is ↦ let y = ap (λ j. (count_of counts j).asked) is in grind (arith, nat_tests, z, is, y, same)
        | inr other ↦ grind (arith, nat_tests, z, other)
      ]

  pub lists_less : lists_of (set counts u.env.0 c) (remove kept i) ≡ with_status u status.Gone (lists_of counts kept)
  lists_less =
      lists_set counts (set counts u.env.0 c) kept (remove kept i) u status.Gone asked_here (length-set counts u.env.0 c) asked_same
      (λ t. status-remove t kept i d within s.once ∙ (let z : is_at (get_or kept i d).ticket t ≡ is_at u t = sym (same_at (get_or kept i d).ticket u t it) in grind (arith, z)))

  pub kept_less : (first' cap' : ℕ) → first' + 1 ≡ first → cap' ≡ cap → c.held + 1 ≡ (count_of counts u.env.0).held → is_open (status_of u (lists_of counts kept)) ≡ true → IsKept window first' cap' (set counts u.env.0 c) (remove kept i)
  kept_less first' cap' ef ec held ou =
      let there = env_within counts u.env.0 u.no asked_here in
      let rest : drop first' (remove kept i) ≡ drop first kept = drop-remove kept i first' (omega (arith, h, ef)) ∙ ap (λ n. drop n kept) (next first' first ef) in
      record {
        taken = omega (arith, s.taken, ef, length-remove kept i within);
        waits = subst (All (λ (j : OutboxEntry). is_posted j.stage ≡ true)) (sym rest) s.waits;
        once = once-remove kept i s.once;
        asked = All-remove (IsAsked (set counts u.env.0 c)) kept i (All-weaker (IsAsked counts) (IsAsked (set counts u.env.0 c)) (λ j a. asked_on counts u.env.0 c j there (omega (arith, same)) a) kept s.asked);
        few = All-set (λ (b : Count). b.held ≤ window) counts u.env.0 c (let z = All-get_or (λ (b : Count). b.held ≤ window) counts u.env.0 nobody there s.few in omega (arith, held, z)) s.few;
        all = omega (arith, sum_by-set (λ (b : Count). b.held) counts u.env.0 c nobody there, s.all, held, length-remove kept i within);
        held = counted_set counts (set counts u.env.0 c) kept (remove kept i) u status.Gone asked_here (length-set counts u.env.0 c)
            (λ e. let z = held-set counts u.env.0 e c there in elim (cases_eq e u.env.0) [
              | inl is ↦ let y = ap (λ j. (count_of counts j).held) is in grind (arith, nat_tests, z, is, y, held, ou)
              | inr other ↦ grind (arith, nat_tests, z, other)
            ]) lists_less s.held;
        room = let z = ap (λ n. n * window) (length-set counts u.env.0 c) in omega (arith, z, ec, s.room);
      }
    where
      next : (a b : ℕ) → a + 1 ≡ b → suc a ≡ b
      next a b e = omega (arith, e)

-- no call that waits has an answer
none_waiting : (u : Ticket) (kept : List OutboxEntry) → All (λ (k : OutboxEntry). is_posted k.stage ≡ true) kept → answer_by (status_among u kept) ≡ None
none_waiting u [] a = refl
none_waiting u (k ∷ kept) a =
    let here = waits_in k.stage (All-head (λ (k : OutboxEntry). is_posted k.stage ≡ true) k kept a) in
    let rest = none_waiting u kept (All-tail (λ (k : OutboxEntry). is_posted k.stage ≡ true) k kept a) in
    elim (cases_Bool (is_at k.ticket u)) [
      | inl it ↦ ap (λ b. answer_by (if b then status_in k.stage else status_among u kept)) it ∙ ap answer_by here
      | inr other ↦ ap (λ b. answer_by (if b then status_in k.stage else status_among u kept)) other ∙ rest
    ]

pub none_found : (window first cap : ℕ) (counts : List Count) (kept : List OutboxEntry) (u : Ticket) → IsKept window first cap counts kept → has u (take first kept) ≡ false → answer_by (status_of u (lists_of counts kept)) ≡ None
none_found window first cap counts kept u s e =
    let a : status_among u kept ≡ status_among u (drop first kept) =
    ap (status_among u) (sym (take-append-drop first kept)) ∙ status-append u (take first kept) (drop first kept) ∙ grind (arith, e) in
    ap answer_by (status_is counts kept u s.asked ∙ a) ∙ none_waiting u (drop first kept) s.waits

-- a call that is kept has its status
pub status_found : (window first cap : ℕ) (counts : List Count) (kept : List OutboxEntry) (i : ℕ) (d : OutboxEntry) (u : Ticket) → IsKept window first cap counts kept → i < first → is_at (get_or kept i d).ticket u ≡ true
    → status_of u (lists_of counts kept) ≡ status_in (get_or kept i d).stage
status_found window first cap counts kept i d u s h it = status_is counts kept u s.asked ∙ status_at u kept i d (omega (arith, h, s.taken)) s.once it

pub no_answer : (x : Stage) → has_answer x ≡ false → answer_by (status_in x) ≡ None
no_answer (Posted a b) e = refl
no_answer Taken e = refl
no_answer (Answered a) e = cc

-- an environment of which something is left has a count
-- a call that is kept is open
pub opens_in : (x : Stage) → is_open (status_in x) ≡ true
opens_in (Posted a b) = refl
opens_in Taken = refl
opens_in (Answered a) = refl

-- whether a call is open, by where it was found among those that are kept
pub is_found : (window first cap : ℕ) (counts : List Count) (kept : List OutboxEntry) (u : Ticket) (all at : ℕ) → IsKept window first cap counts kept → all ≡ length kept → at ≤ all
    → ((d : OutboxEntry) → at < all → is_at (get_or kept at d).ticket u ≡ true) → (at ≡ all → has u (take all kept) ≡ false) → is_open (status_of u (lists_of counts kept)) ≡ not (at == all)
is_found window first cap counts kept u all at s e h there nowhere =
    ap is_open (status_is counts kept u s.asked) ∙ elim (cases_lt at all) [
      | inl below ↦ let d : OutboxEntry = record { ticket = u; stage = Taken } in
          ap is_open (status_at u kept at d (omega (arith, below, e)) s.once (there d below)) ∙ opens_in (get_or kept at d).stage ∙ grind (arith, nat_tests, below)
      | inr past ↦ let n : at ≡ all = omega (arith, h, past) in
          ap is_open (status_none u kept (ap (has u) (sym (take-length kept)) ∙ ap (λ (m : ℕ). has u (take m kept)) (sym e) ∙ nowhere n)) ∙ grind (arith, nat_tests, n)
    ]

pub some_held : (window first cap : ℕ) (counts : List Count) (kept : List OutboxEntry) (u : Ticket) → IsKept window first cap counts kept → u.no < (count_of counts u.env.0).asked → is_open (status_of u (lists_of counts kept)) ≡ true
    → 1 ≤ (count_of counts u.env.0).held
some_held window first cap counts kept u s h o =
    let there = env_within counts u.env.0 u.no h in
    let one : opens (status_of u (lists_of counts kept)) ≡ 1 = grind (arith, o) in
    omega (arith, s.held u.env there, one, get_or-le-sum_by opens (statuses_by u.env (lists_of counts kept)) u.no status.Gone (omega (arith, h, length_by counts kept u.env there)))

-- nothing is asked, and nothing kept
nobody_at : (n e : ℕ) → count_of (replicate n nobody) e ≡ nobody
nobody_at zero e = refl
nobody_at (suc n) zero = refl
nobody_at (suc n) (suc e) = nobody_at n e

no_lists : (n : ℕ) → lists_of (replicate n nobody) [] ≡ replicate n []
no_lists n =
    listed_same (λ _. []) (list_of (replicate n nobody) []) (length (replicate n nobody)) (λ e h. ap (λ (d : Count). listed (λ number. status_among (ticket_at e number) []) d.asked) (nobody_at n e))
    ∙ listed_all [] (length (replicate n nobody)) ∙ ap (λ m. replicate m []) (length-replicate n nobody)

empty_at : (n e : ℕ) → statuses_by (record { 0 = e }) (replicate n []) ≡ []
empty_at zero e = refl
empty_at (suc n) zero = refl
empty_at (suc n) (suc e) = empty_at n e

none_held : (n : ℕ) (env : EnvNo) → (count_of (replicate n nobody) env.0).held ≡ open_by env (lists_of (replicate n nobody) [])
none_held n env = ap (λ (d : Count). d.held) (nobody_at n env.0) ∙ sym (ap (open_by env) (no_lists n) ∙ ap (count_by is_open) (empty_at n env.0))

none_in_all : (n : ℕ) → sum_by (λ (d : Count). d.held) (replicate n nobody) ≡ 0
none_in_all n = let z = sum_by-le (λ (d : Count). d.held) 0 (replicate n nobody) (All-replicate (λ (d : Count). d.held ≤ 0) n nobody (omega arith)) in omega (arith, z)

pub kept_new : (window cap envs : ℕ) (counts : List Count) (kept : List OutboxEntry) → counts ≡ replicate envs nobody → kept ≡ [] → envs * window ≤ cap → IsKept window 0 cap counts kept
kept_new window cap envs counts kept ec ek room = rw (ec, ek) (record {
  taken = omega arith;
  waits = All-nil (λ (k : OutboxEntry). is_posted k.stage ≡ true);
  once = tt;
  asked = All-nil (IsAsked (replicate envs nobody));
  few = All-replicate (λ (d : Count). d.held ≤ window) envs nobody (omega arith);
  all = none_in_all envs;
  held = λ env h. none_held envs env;
  room = let z = ap (λ n. n * window) (length-replicate envs nobody) in omega (arith, z, room);
})

pub lists_new : (envs : ℕ) (counts : List Count) (kept : List OutboxEntry) → counts ≡ replicate envs nobody → kept ≡ [] → lists_of counts kept ≡ replicate envs []
lists_new envs counts kept ec ek = rw (ec, ek) (no_lists envs)
