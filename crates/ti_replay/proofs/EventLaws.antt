-- The history that events leave is legal.
use Rattle.std.proofs.Common.{◌≡◌, ◌≤◌, sym, subst, Bool, true, false, cond, ◌&&◌, nat_lt, List, [], ◌∷◌, ◌++◌, refl, ap, ◌∙◌, arith, Some, None, is_none, append-nil, append_assoc}
use Rattle.std.proofs.lemmas.Bool.Decides.{nat_tests}
use Rattle.std.proofs.lemmas.List.Sums.{sum_by-cons, sum_by-append}
use Rattle.ti_types.specs.declared.limits.Limits.{Limits}
use Rattle.ti_types.specs.declared.numbers.EnvNo.{EnvNo}
use Rattle.ti_types.specs.declared.numbers.ThreadNo.{ThreadNo}
use Rattle.ti_types.specs.declared.state.Safe.{Safe}
use Rattle.ti_types.specs.declared.state.Safe.TheVariants.{AtPoll}
use Rattle.ti_types.specs.declared.entry.Entry.{Entry}
use Rattle.ti_types.specs.declared.entry.Entry.TheVariants as entry
use Rattle.ti_types.specs.declared.event.Event.{Event}
use Rattle.ti_types.specs.declared.event.Event.TheVariants.{Start, Own, Poll, ToNative, ToBlocked, Back, End, Ask, Stop, Read, Go, AddCaps, Relinquish, GetCaps, SetEnvWord, GetEnvWord}
use Rattle.ti_types.specs.declared.view.ThreadView.{ThreadView}
use Rattle.ti_replay.specs.Settling.{Placed, placed, left_out, runs_after, is_waiting_call}
use Rattle.ti_replay.specs.View.{view, after, after_all}
use Rattle.ti_replay.specs.Legal.{ask_count, asked_by, Situation, situation, fits, may_follow, goes_on, is_legal, calls_spent, call_cost, own_spent, is_well_formed, is_not_negative, env_of, is_safe}
use Rattle.ti_replay.specs.Refusals.{own_refusal}
use Rattle.ti_replay.specs.Admission.{Happening, Dealings, dealings, dealings_by, refusal, refusal_of, agent_of, is_own_of, is_by, is_paid}
use Rattle.ti_replay.specs.Events.{left_by, left_own, left_by_poll, own_entry, history_behind, history_from, history_of}
use Rattle.ti_replay.proofs.HistoryLaws.{view_hand}
use Rattle.ti_replay.proofs.LateStepLaws.{called_keeps}
use Rattle.ti_replay.proofs.CostLaws.{goes_on-append}
use Rattle.ti_replay.proofs.AgreementLaws.{dealings-snoc, by_is}

-- an own event that is not refused leaves an entry that may follow
own_allowed : (limits : Limits) (s : Situation) (event : Event) (x : Entry) → own_entry event ≡ Some x → is_none (own_refusal limits s.view s.own x) ≡ true → fits limits s x ≡ true
own_allowed limits s (Start t) x e h = grind arith
own_allowed limits s (Own t step) x e h = grind arith
own_allowed limits s (Poll t) x e h = cc
own_allowed limits s (ToNative t) x e h = grind arith
own_allowed limits s (ToBlocked t kind) x e h = grind arith
own_allowed limits s (Back t) x e h = grind arith
own_allowed limits s (End t) x e h = grind arith
own_allowed limits s (Ask e' t call) x e h = cc
own_allowed limits s (Stop e' t) x e h = cc
own_allowed limits s (Read e' t n) x e h = cc
own_allowed limits s (Go e' t) x e h = cc
own_allowed limits s (AddCaps e' caps) x e h = cc
own_allowed limits s (Relinquish e' caps) x e h = cc
own_allowed limits s (GetCaps e') x e h = cc
own_allowed limits s (SetEnvWord e' w) x e h = cc
own_allowed limits s (GetEnvWord e') x e h = cc

-- the calls that take place after a hand-over leave the mode
wait_mode : (v : ThreadView) (x : Entry) → is_waiting_call x ≡ true → (after v x).mode ≡ v.mode
wait_mode v entry.Start h = cc
wait_mode v (entry.Own step) h = cc
wait_mode v (entry.Hand safe) h = cc
wait_mode v entry.Back h = cc
wait_mode v entry.End h = cc
wait_mode v (entry.Asked env number call) h = (called_keeps v env call).0
wait_mode v (entry.Stop env) h = cc
wait_mode v (entry.Read env n) h = cc
wait_mode v (entry.Go env) h = cc

left_out_mode : (v : ThreadView) (r : Bool) (s : List Placed) → (after_all v (left_out r s)).mode ≡ v.mode
left_out_mode v r [] = refl
left_out_mode v r (p ∷ s) =
    grind (arith, left_out_mode v (runs_after r p.1) s, left_out_mode (after v p.1) (runs_after r p.1) s, wait_mode v p.1)

safe_behind_hand : (limits : Limits) (history : List Entry) (safe : Safe) → is_safe (view limits (history ++ entry.Hand safe ∷ [])).mode ≡ true
safe_behind_hand limits history safe =
    ap is_safe (ap (λ v. v.mode) (view_hand limits history (entry.Hand safe) refl) ∙ left_out_mode (after (view limits history) (entry.Hand safe)) false (placed history))

-- what admission has made sure of
abbrev pub callable : Limits → List Entry → Event → Bool
callable limits history (Ask e t call) = nat_lt e.0 limits.envs && nat_lt (calls_spent e history) limits.calls && is_well_formed call
callable limits history (Stop e t) = nat_lt e.0 limits.envs && nat_lt (calls_spent e history) limits.calls
callable limits history (Read e t n) = nat_lt e.0 limits.envs && nat_lt (calls_spent e history) limits.calls && is_not_negative n
callable limits history (Go e t) = nat_lt e.0 limits.envs
callable limits history _ = true

admitted_callable : (limits : Limits) (d : Dealings) (wanting : Bool) (history : List Entry) (event : Event)
    → is_none (refusal_of limits d wanting event) ≡ true → ((e : EnvNo) → agent_of event ≡ Some e → calls_spent e history ≤ d.spent) → callable limits history event ≡ true
admitted_callable limits d wanting history (Start t) h le = refl
admitted_callable limits d wanting history (Own t step) h le = refl
admitted_callable limits d wanting history (Poll t) h le = refl
admitted_callable limits d wanting history (ToNative t) h le = refl
admitted_callable limits d wanting history (ToBlocked t kind) h le = refl
admitted_callable limits d wanting history (Back t) h le = refl
admitted_callable limits d wanting history (End t) h le = refl
admitted_callable limits d wanting history (Ask e t call) h le = let few = le e refl in grind (arith, nat_tests, few)
admitted_callable limits d wanting history (Stop e t) h le = let few = le e refl in grind (arith, nat_tests, few)
admitted_callable limits d wanting history (Read e t n) h le = let few = le e refl in grind (arith, nat_tests, few)
admitted_callable limits d wanting history (Go e t) h le = grind (arith, nat_tests)
admitted_callable limits d wanting history (AddCaps e caps) h le = refl
admitted_callable limits d wanting history (Relinquish e caps) h le = refl
admitted_callable limits d wanting history (GetCaps e) h le = refl
admitted_callable limits d wanting history (SetEnvWord e w) h le = refl
admitted_callable limits d wanting history (GetEnvWord e) h le = refl

left_own_legal : (limits : Limits) (history : List Entry) (event : Event) → goes_on limits history (left_own limits history (own_entry event)) ≡ true
left_own_legal limits history event =
    elim (own_entry event) as (λ o. ((x : Entry) → o ≡ Some x → is_none (own_refusal limits (view limits history) (own_spent history) x) ≡ true → may_follow limits history x ≡ true) → goes_on limits history (left_own limits history o) ≡ true) [
      | None ↦ λ k. refl
      | Some x ↦ λ k. grind (arith, k x refl)
    ] (λ x e h. own_allowed limits (situation limits history (env_of x)) event x e h)

poll_legal : (limits : Limits) (history : List Entry) → goes_on limits history (left_by_poll limits history) ≡ true
poll_legal limits history = grind (arith, safe_behind_hand limits history AtPoll)

-- what an event leaves may follow
left_legal : (limits : Limits) (history : List Entry) (event : Event) → callable limits history event ≡ true → goes_on limits history (left_by limits history event) ≡ true
left_legal limits history (Start t) h = left_own_legal limits history (Start t)
left_legal limits history (Own t step) h = left_own_legal limits history (Own t step)
left_legal limits history (Poll t) h = poll_legal limits history
left_legal limits history (ToNative t) h = left_own_legal limits history (ToNative t)
left_legal limits history (ToBlocked t kind) h = left_own_legal limits history (ToBlocked t kind)
left_legal limits history (Back t) h = left_own_legal limits history (Back t)
left_legal limits history (End t) h = left_own_legal limits history (End t)
left_legal limits history (Ask e t call) h = grind (arith, nat_tests)
left_legal limits history (Stop e t) h = grind (arith, nat_tests)
left_legal limits history (Read e t n) h = grind (arith, nat_tests)
left_legal limits history (Go e t) h = grind (arith, nat_tests)
left_legal limits history (AddCaps e caps) h = refl
left_legal limits history (Relinquish e caps) h = refl
left_legal limits history (GetCaps e) h = refl
left_legal limits history (SetEnvWord e w) h = refl
left_legal limits history (GetEnvWord e) h = refl

-- an event leaves entries that cost an environment at most 1, and nothing where it is no paid call of it
left_cost : (limits : Limits) (history : List Entry) (event : Event) (env : EnvNo) → calls_spent env (left_by limits history event) ≤ cond (is_by env event && is_paid event) 1 0
left_cost limits history (Start t) env = grind arith
left_cost limits history (Own t step) env = grind arith
left_cost limits history (Poll t) env = grind arith
left_cost limits history (ToNative t) env = grind arith
left_cost limits history (ToBlocked t kind) env = grind arith
left_cost limits history (Back t) env = grind arith
left_cost limits history (End t) env = grind arith
left_cost limits history (Ask e t call) env = grind arith
left_cost limits history (Stop e t) env = grind arith
left_cost limits history (Read e t n) env = grind arith
left_cost limits history (Go e t) env = grind arith
left_cost limits history (AddCaps e caps) env = omega arith
left_cost limits history (Relinquish e caps) env = omega arith
left_cost limits history (GetCaps e) env = omega arith
left_cost limits history (SetEnvWord e w) env = omega arith
left_cost limits history (GetEnvWord e) env = omega arith

-- a thread's own events are not paid for, and not aimed at it
own_sort : (thread : ThreadNo) (event : Event) → is_own_of thread event ≡ true → (is_paid event ≡ false) × ((limits : Limits) → (history : List Entry) → callable limits history event ≡ true)
own_sort thread (Start t) h = (refl, λ limits history. refl)
own_sort thread (Own t step) h = (refl, λ limits history. refl)
own_sort thread (Poll t) h = (refl, λ limits history. refl)
own_sort thread (ToNative t) h = (refl, λ limits history. refl)
own_sort thread (ToBlocked t kind) h = (refl, λ limits history. refl)
own_sort thread (Back t) h = (refl, λ limits history. refl)
own_sort thread (End t) h = (refl, λ limits history. refl)
own_sort thread (Ask e t call) h = cc
own_sort thread (Stop e t) h = cc
own_sort thread (Read e t n) h = cc
own_sort thread (Go e t) h = cc
own_sort thread (AddCaps e caps) h = cc
own_sort thread (Relinquish e caps) h = cc
own_sort thread (GetCaps e) h = cc
own_sort thread (SetEnvWord e w) h = cc
own_sort thread (GetEnvWord e) h = cc

-- a legal history, of which each environment has spent no more than it was admitted to
record IsPaidFor (limits : Limits) (thread : ThreadNo) (front : List Happening) (history : List Entry) : Type 0 where
  legal : is_legal limits history ≡ true
  paid : (env : EnvNo) → calls_spent env history ≤ (dealings limits env thread front).spent

paid_one : (limits : Limits) (thread : ThreadNo) (front : List Happening) (history : List Entry) (h : Happening)
    → IsPaidFor limits thread front history → (env : EnvNo) → calls_spent env (history_behind limits thread front history h) ≤ (dealings limits env thread (front ++ h ∷ [])).spent
paid_one limits thread front history h k env =
    let cost = left_cost limits history h.event env in
    let sum = sum_by-append (call_cost env) history (left_by limits history h.event) in
    let before = k.paid env in
    rw (dealings-snoc limits env thread front h) (grind (arith, cost, sum, before, own_sort thread h.event, by_is env h.event))

legal_one : (limits : Limits) (thread : ThreadNo) (front : List Happening) (history : List Entry) (h : Happening)
    → IsPaidFor limits thread front history → is_legal limits (history_behind limits thread front history h) ≡ true
legal_one limits thread front history h k =
    let d = dealings_by limits (agent_of h.event) thread front in
    let paid : (e : EnvNo) → agent_of h.event ≡ Some e → calls_spent e history ≤ d.spent =
    λ e q. subst (λ o. calls_spent e history ≤ (dealings_by limits o thread front).spent) (sym q) (k.paid e) in
    let own : is_own_of thread h.event ≡ true → goes_on limits history (left_by limits history h.event) ≡ true =
    λ o. left_legal limits history h.event ((own_sort thread h.event o).1 limits history) in
    let aimed : is_none (refusal limits d h) ≡ true → goes_on limits history (left_by limits history h.event) ≡ true =
    λ o. left_legal limits history h.event (admitted_callable limits d h.wanting history h.event o paid) in
    grind (arith, own, aimed, k.legal, goes_on-append limits [] history (left_by limits history h.event))

history_from_paid : (limits : Limits) (thread : ThreadNo) (front : List Happening) (history : List Entry) (events : List Happening)
    → IsPaidFor limits thread front history → IsPaidFor limits thread (front ++ events) (history_from limits thread front history events)
history_from_paid limits thread front history [] k = rw append-nil k
history_from_paid limits thread front history (h ∷ events) k =
    rw (append_assoc front (h ∷ []) events) at (history_from_paid limits thread (front ++ h ∷ []) (history_behind limits thread front history h) events
    (record { legal = legal_one limits thread front history h k; paid = paid_one limits thread front history h k }))

-- the history of a thread is legal, whatever the events
pub history_is_legal : (limits : Limits) (thread : ThreadNo) (events : List Happening) → is_legal limits (history_of limits thread events) ≡ true
history_is_legal limits thread events = (history_from_paid limits thread [] [] events (record { legal = refl; paid = λ env. omega arith })).legal

-- each environment has spent at least what the history says
pub history_is_paid : (limits : Limits) (thread : ThreadNo) (events : List Happening) (env : EnvNo) → calls_spent env (history_of limits thread events) ≤ (dealings limits env thread events).spent
history_is_paid limits thread events env = (history_from_paid limits thread [] [] events (record { legal = refl; paid = λ f. omega arith })).paid env

ask_call : (env : EnvNo) (x : Entry) → ask_count env x ≤ call_cost env x
ask_call env entry.Start = omega arith
ask_call env (entry.Own step) = omega arith
ask_call env (entry.Hand safe) = omega arith
ask_call env entry.Back = omega arith
ask_call env entry.End = omega arith
ask_call env (entry.Asked e n c) = omega arith
ask_call env (entry.Stop e) = omega arith
ask_call env (entry.Read e n) = omega arith
ask_call env (entry.Go e) = omega arith

-- each call that was asked was paid for
pub asked_paid : (env : EnvNo) (history : List Entry) → asked_by env history ≤ calls_spent env history
asked_paid env [] = omega arith
asked_paid env (x ∷ history) = grind (arith, asked_paid env history, ask_call env x, sum_by-cons (ask_count env) x history, sum_by-cons (call_cost env) x history)
