-- A core goes on with each event as the definitions say.
use Rattle.std.proofs.Common.{◌≡◌, ℕ, ◌<◌, Bool, true, false, ◌&&◌, ◌||◌, ◌==◌, nat_lt, cond, List, ◌++◌, length, refl, ap, ap₂, sym, subst, ◌∙◌, arith, Option, Some, None, is_none, inl, inr, ltb-true, ℤ}
use Rattle.std.proofs.lemmas.Bool.Decides.{nat_tests}
use Rattle.std.proofs.lemmas.Bool.{cases_eq}
use Rattle.ti_types.specs.declared.limits.Limits.{Limits}
use Rattle.ti_types.specs.declared.numbers.EnvNo.{EnvNo}
use Rattle.ti_types.specs.declared.numbers.ThreadNo.{ThreadNo}
use Rattle.ti_types.specs.declared.call.Call.{Call}
use Rattle.ti_types.specs.declared.entry.Entry.{Entry}
use Rattle.ti_types.specs.declared.entry.Entry.TheVariants as entry
use Rattle.ti_types.specs.declared.event.Event.{Event}
use Rattle.ti_types.specs.declared.event.Event.TheVariants.{Start, Own, Poll, ToNative, ToBlocked, Back, End, Ask, Stop, Read, Go, AddCaps, Relinquish, GetCaps, SetEnvWord, GetEnvWord}
use Rattle.ti_types.specs.declared.error.TiError.{TiError}
use Rattle.ti_types.specs.declared.error.TiError.TheVariants.{MustPossessCapability}
use Rattle.ti_types.specs.declared.caps.Caps.{Caps}
use Rattle.ti_types.specs.Admitting.{reaching_refusal, going_refusal}
use Rattle.ti_types.specs.Call.{needed_by, is_well_formed}
use Rattle.ti_types.specs.Caps.{has_all}
use Rattle.ti_types.specs.Numbers.{is_not_negative}
use Rattle.ti_types.specs.Refusing.{or_else, unless}
use Rattle.ti_types.specs.declared.state.Safe.TheVariants.{Native, Blocked}
use Rattle.ti_replay.specs.Admission.{Happening, dealings, refusal_of, takes_buffer}
use Rattle.ti_replay.specs.Legal.{calls_spent}
use Rattle.ti_replay.specs.Events.{left_by, left_own, history_behind, history_of}
use Rattle.ti_replay.proofs.EventLaws.{history_is_paid}
use Rattle.ti_env.specs.Env.{EnvValue, is_there, spent_at, call_refusal, stop_refusal, read_refusal}
use Rattle.ti_core.specs.Thread.{ThreadState, own_next, poll_next, ask_next, stop_next, go_next, read_next}
use Rattle.ti_core.specs.Core.{CoreState, StepResult, thread_at, env_at, stepped_by, why_not, refused_or_else, stepped_own}
use Rattle.ti_core.specs.Refines.{ThreadRefines, Refines}
use Rattle.ti_core.proofs.ThreadLaws.{own_stands, poll_stands}
use Rattle.ti_core.proofs.CallLaws.{ask_stands, stop_stands, go_stands, read_stands}
use Rattle.ti_core.proofs.AdmitLaws.{Keeps, same_reach, where_known, moves}

pub same_thread : (t u : ThreadNo) → u.0 ≡ t.0 → u ≡ t
same_thread t u h = ap (λ (n : ℕ). record { 0 = n }) h

-- the history of a thread after an own event
own_history : (limits : Limits) (t u : ThreadNo) (n : ℕ) (history left : List Entry) (b : Bool) → n ≡ limits.threads
    → cond ((u.0 == t.0 && nat_lt t.0 limits.threads) || (false && b)) (history ++ left) history ≡ cond (u.0 == t.0 && nat_lt u.0 n) (history ++ left) history
own_history limits t u n history left b h =
    elim (cases_eq u.0 t.0) [
      | inl same ↦ grind (arith, nat_tests, h, same)
      | inr other ↦ grind (arith, nat_tests, other)
    ]

-- the history of a thread after an agent's event
agent_history : (limits : Limits) (t u : ThreadNo) (history left : List Entry) (why : Option TiError) (r : ThreadNo → Option TiError) → why ≡ r u
    → cond ((false && nat_lt t.0 limits.threads) || (u.0 == t.0 && is_none (r t))) (history ++ left) history ≡ cond (u.0 == t.0 && is_none why) (history ++ left) history
agent_history limits t u history left why r h =
    elim (cases_eq u.0 t.0) [
      | inl same ↦
          let q : r u ≡ r t = ap r (same_thread t u same) in
          let z : why ≡ r t = h ∙ q in
          rw z refl
      | inr other ↦ grind (arith, nat_tests, other)
    ]

agent_threads : (envs : List EnvValue) (threads : List ThreadState) (why : Option TiError) (other : StepResult)
    → (refused_or_else envs threads why other).threads ≡ cond (is_none why) other.threads threads
agent_threads envs threads None other = refl
agent_threads envs threads (Some error) other = refl

pub keeps : (events : List Happening) (s : CoreState) (e : EnvNo) (t : ThreadNo) → Refines events s → e.0 < s.limits.envs → Keeps s.limits (dealings s.limits e t events) t (env_at s.envs e)
keeps events s e t k h =
    let q = k.envs e h in
    record { caps = q.caps t; spent = λ l. q.spent t l; spent_count = q.spent_count; calls = q.calls }

abbrev pub happened : Event → Bool → Happening
happened event w = record { event = event; wanting = w }

-- the state of a thread after an own event
own_goes : (events : List Happening) (s : CoreState) (u : ThreadNo) (x : Entry) (t : ThreadNo) (history' : List Entry) → Refines events s → t.0 < s.limits.threads
    → history' ≡ cond (u.0 == t.0 && nat_lt u.0 (length s.threads)) (history_of s.limits t events ++ left_own s.limits (history_of s.limits t events) (Some x)) (history_of s.limits t events)
    → ThreadRefines s.limits t history' (thread_at s.limits (stepped_own s.limits s.envs s.threads u x).threads t)
own_goes events s u x t history' k l q =
    let history = history_of s.limits t events in
    moves s.limits t u s.threads (stepped_own s.limits s.envs s.threads u x).threads history history' (left_own s.limits history (Some x)) (nat_lt u.0 (length s.threads))
    (own_next (thread_at s.limits s.threads u).thread.limits (thread_at s.limits s.threads u) x) (λ h. ltb-true _ _ h) (grind arith) q
    (λ same on. rw (same_thread t u same) (own_stands s.limits t history (thread_at s.limits s.threads t) x (k.threads t l)))
    (k.threads t l)

-- why a call is refused, as the core tells it
abbrev pub whys : CoreState → Bool → Event → Option TiError
whys s w (Ask e t c) = why_not s.envs e (call_refusal (env_at s.envs e) t c) (w && takes_buffer c)
whys s w (Stop e t) = why_not s.envs e (stop_refusal (env_at s.envs e) t) false
whys s w (Read e t n) = why_not s.envs e (read_refusal (env_at s.envs e) t n) w
whys s w (Go e t) = why_not s.envs e (going_refusal (nat_lt t.0 (length s.threads))) false
whys s w _ = None

-- what an environment of a core refuses at a thread by itself
reach : (events : List Happening) (s : CoreState) (e : EnvNo) (t : ThreadNo) (well_formed : Bool) → Refines events s → nat_lt e.0 s.limits.envs ≡ true
    → reaching_refusal (is_there (env_at s.envs e) t) well_formed (spent_at (env_at s.envs e) t) (env_at s.envs e).limits.calls
    ≡ reaching_refusal (nat_lt t.0 s.limits.threads) well_formed (dealings s.limits e t events).spent s.limits.calls
reach events s e t well_formed k h = same_reach s.limits (dealings s.limits e t events) t (env_at s.envs e) well_formed (keeps events s e t k (ltb-true _ _ h))

pub whys_is_ask : (events : List Happening) (s : CoreState) (w : Bool) (e : EnvNo) (t : ThreadNo) (c : Call) → Refines events s → whys s w (Ask e t c) ≡ refusal_of s.limits (dealings s.limits e t events) w (Ask e t c)
whys_is_ask events s w e t c k =
    rw k.env_count (where_known (nat_lt e.0 s.limits.envs) _ _ (w && takes_buffer c)
    (λ h. ap₂ (λ (held : Caps) r. or_else (unless (has_all held (needed_by c)) MustPossessCapability) r) (keeps events s e t k (ltb-true _ _ h)).caps (reach events s e t (is_well_formed c) k h)))

pub whys_is_stop : (events : List Happening) (s : CoreState) (w : Bool) (e : EnvNo) (t : ThreadNo) → Refines events s → whys s w (Stop e t) ≡ refusal_of s.limits (dealings s.limits e t events) w (Stop e t)
whys_is_stop events s w e t k = rw k.env_count (where_known (nat_lt e.0 s.limits.envs) _ _ false (reach events s e t true k))

pub whys_is_read : (events : List Happening) (s : CoreState) (w : Bool) (e : EnvNo) (t : ThreadNo) (n : ℤ) → Refines events s → whys s w (Read e t n) ≡ refusal_of s.limits (dealings s.limits e t events) w (Read e t n)
whys_is_read events s w e t n k = rw k.env_count (where_known (nat_lt e.0 s.limits.envs) _ _ w (reach events s e t (is_not_negative n) k))

pub whys_is_go : (events : List Happening) (s : CoreState) (w : Bool) (e : EnvNo) (t : ThreadNo) → Refines events s → whys s w (Go e t) ≡ refusal_of s.limits (dealings s.limits e t events) w (Go e t)
whys_is_go events s w e t k = rw (k.env_count, k.thread_count) refl

-- a call that is let through is an environment's, at a thread, and is paid for
pub record IsLetThrough (limits : Limits) (events : List Happening) (e : EnvNo) (t : ThreadNo) : Type 0 where
  pub env : e.0 < limits.envs
  pub thread : t.0 < limits.threads
  pub calls : calls_spent e (history_of limits t events) < limits.calls

pub ask_through : (events : List Happening) (limits : Limits) (w : Bool) (e : EnvNo) (t : ThreadNo) (c : Call) → is_none (refusal_of limits (dealings limits e t events) w (Ask e t c)) ≡ true → IsLetThrough limits events e t
ask_through events limits w e t c h =
    let d = dealings limits e t events in
    let there : e.0 < limits.envs = grind (arith, nat_tests, h) in
    let here : t.0 < limits.threads = grind (arith, nat_tests, h) in
    let left : d.spent < limits.calls = grind (arith, nat_tests, h) in
    record { env = there; thread = here; calls = omega (arith, left, history_is_paid limits t events e) }

pub stop_through : (events : List Happening) (limits : Limits) (w : Bool) (e : EnvNo) (t : ThreadNo) → is_none (refusal_of limits (dealings limits e t events) w (Stop e t)) ≡ true → IsLetThrough limits events e t
stop_through events limits w e t h =
    let d = dealings limits e t events in
    let there : e.0 < limits.envs = grind (arith, nat_tests, h) in
    let here : t.0 < limits.threads = grind (arith, nat_tests, h) in
    let left : d.spent < limits.calls = grind (arith, nat_tests, h) in
    record { env = there; thread = here; calls = omega (arith, left, history_is_paid limits t events e) }

pub read_through : (events : List Happening) (limits : Limits) (w : Bool) (e : EnvNo) (t : ThreadNo) (n : ℤ) → is_none (refusal_of limits (dealings limits e t events) w (Read e t n)) ≡ true → IsLetThrough limits events e t
read_through events limits w e t n h =
    let d = dealings limits e t events in
    let there : e.0 < limits.envs = grind (arith, nat_tests, h) in
    let here : t.0 < limits.threads = grind (arith, nat_tests, h) in
    let left : d.spent < limits.calls = grind (arith, nat_tests, h) in
    record { env = there; thread = here; calls = omega (arith, left, history_is_paid limits t events e) }

-- where nothing refuses, the thread is there
pub ask_there : (events : List Happening) (s : CoreState) (w : Bool) (e : EnvNo) (t : ThreadNo) (c : Call) → Refines events s → is_none (whys s w (Ask e t c)) ≡ true → t.0 < s.limits.threads
ask_there events s w e t c k on = (ask_through events s.limits w e t c (ap is_none (sym (whys_is_ask events s w e t c k)) ∙ on)).thread

pub stop_there : (events : List Happening) (s : CoreState) (w : Bool) (e : EnvNo) (t : ThreadNo) → Refines events s → is_none (whys s w (Stop e t)) ≡ true → t.0 < s.limits.threads
stop_there events s w e t k on = (stop_through events s.limits w e t (ap is_none (sym (whys_is_stop events s w e t k)) ∙ on)).thread

pub read_there : (events : List Happening) (s : CoreState) (w : Bool) (e : EnvNo) (t : ThreadNo) (n : ℤ) → Refines events s → is_none (whys s w (Read e t n)) ≡ true → t.0 < s.limits.threads
read_there events s w e t n k on = (read_through events s.limits w e t n (ap is_none (sym (whys_is_read events s w e t n k)) ∙ on)).thread

pub go_there : (events : List Happening) (s : CoreState) (w : Bool) (e : EnvNo) (t : ThreadNo) → Refines events s → is_none (whys s w (Go e t)) ≡ true → t.0 < s.limits.threads
go_there events s w e t k on = grind (arith, nat_tests, k.thread_count, on)

pub in_core : (events : List Happening) (s : CoreState) (t : ThreadNo) → Refines events s → t.0 < s.limits.threads → t.0 < length s.threads
in_core events s t k h = omega (arith, h, k.thread_count)

pub cond_same : {X : Type 0} → (b : Bool) (x : X) → cond b x x ≡ x
cond_same true x = refl
cond_same false x = refl

-- an event of an environment alone
abbrev pub is_alone : Event → Bool
is_alone (AddCaps e caps) = true
is_alone (Relinquish e caps) = true
is_alone (GetCaps e) = true
is_alone (SetEnvWord e v) = true
is_alone (GetEnvWord e) = true
is_alone _ = false

pub env_threads : (s : CoreState) (w : Bool) (event : Event) → is_alone event ≡ true → (stepped_by s.limits s.envs s.threads w event).threads ≡ s.threads
env_threads s w (Start t) h = cc
env_threads s w (Own t step) h = cc
env_threads s w (Poll t) h = cc
env_threads s w (ToNative t) h = cc
env_threads s w (ToBlocked t kind) h = cc
env_threads s w (Back t) h = cc
env_threads s w (End t) h = cc
env_threads s w (Ask e t c) h = cc
env_threads s w (Stop e t) h = cc
env_threads s w (Read e t n) h = cc
env_threads s w (Go e t) h = cc
env_threads s w (AddCaps e caps) h = grind arith
env_threads s w (Relinquish e caps) h = grind arith
env_threads s w (GetCaps e) h = refl
env_threads s w (SetEnvWord e v) h = grind arith
env_threads s w (GetEnvWord e) h = refl

pub thread_goes : (events : List Happening) (s : CoreState) (w : Bool) (event : Event) (t : ThreadNo) → Refines events s → t.0 < s.limits.threads
    → ThreadRefines s.limits t (history_behind s.limits t events (history_of s.limits t events) (happened event w)) (thread_at s.limits (stepped_by s.limits s.envs s.threads w event).threads t)
thread_goes events s w (Start u) t k l = own_goes events s u entry.Start t _ k l (own_history s.limits t u (length s.threads) (history_of s.limits t events) _ true k.thread_count)
thread_goes events s w (Own u step) t k l = own_goes events s u (entry.Own step) t _ k l (own_history s.limits t u (length s.threads) (history_of s.limits t events) _ true k.thread_count)
thread_goes events s w (ToNative u) t k l = own_goes events s u (entry.Hand Native) t _ k l (own_history s.limits t u (length s.threads) (history_of s.limits t events) _ true k.thread_count)
thread_goes events s w (ToBlocked u kind) t k l = own_goes events s u (entry.Hand (Blocked kind)) t _ k l (own_history s.limits t u (length s.threads) (history_of s.limits t events) _ true k.thread_count)
thread_goes events s w (Back u) t k l = own_goes events s u entry.Back t _ k l (own_history s.limits t u (length s.threads) (history_of s.limits t events) _ true k.thread_count)
thread_goes events s w (End u) t k l = own_goes events s u entry.End t _ k l (own_history s.limits t u (length s.threads) (history_of s.limits t events) _ true k.thread_count)
thread_goes events s w (Poll u) t k l =
    let history = history_of s.limits t events in
    moves s.limits t u s.threads _ history _ (left_by s.limits history (Poll u)) (nat_lt u.0 (length s.threads))
    (poll_next (thread_at s.limits s.threads u).thread.limits (thread_at s.limits s.threads u)) (λ h. ltb-true _ _ h) (grind arith) (own_history s.limits t u (length s.threads) history _ true k.thread_count)
    (λ same on. rw (same_thread t u same) (poll_stands s.limits t history (thread_at s.limits s.threads t) (k.threads t l)))
    (k.threads t l)
thread_goes events s w (Ask e u c) t k l =
    let history = history_of s.limits t events in
    let why = whys s w (Ask e u c) in
    let is = whys_is_ask events s w e u c k in
    moves s.limits t u s.threads _ history _ (left_by s.limits history (Ask e u c)) (is_none why)
    (ask_next (thread_at s.limits s.threads u).thread.limits (thread_at s.limits s.threads u) e c) (λ h. in_core events s u k (ask_there events s w e u c k h)) (agent_threads s.envs s.threads why _)
    (agent_history s.limits t u history _ why (λ v. refusal_of s.limits (dealings s.limits e v events) w (Ask e u c)) is)
    (λ same on. rw (same_thread t u same) (ask_stands s.limits t history (thread_at s.limits s.threads t) e c (k.threads t l)
    (ask_through events s.limits w e t c (subst (λ (v : ThreadNo). is_none (refusal_of s.limits (dealings s.limits e v events) w (Ask e v c)) ≡ true) (same_thread t u same) (ap is_none (sym is) ∙ on))).env))
    (k.threads t l)
thread_goes events s w (Stop e u) t k l =
    let history = history_of s.limits t events in
    let why = whys s w (Stop e u) in
    let is = whys_is_stop events s w e u k in
    moves s.limits t u s.threads _ history _ (left_by s.limits history (Stop e u)) (is_none why)
    (stop_next (thread_at s.limits s.threads u).thread.limits (thread_at s.limits s.threads u) e (thread_at s.limits s.threads u).thread.number) (λ h. in_core events s u k (stop_there events s w e u k h)) (agent_threads s.envs s.threads why _)
    (agent_history s.limits t u history _ why (λ v. refusal_of s.limits (dealings s.limits e v events) w (Stop e u)) is)
    (λ same on. rw (same_thread t u same) (stop_stands s.limits t t history (thread_at s.limits s.threads t) e (k.threads t l)))
    (k.threads t l)
thread_goes events s w (Read e u n) t k l =
    let history = history_of s.limits t events in
    let why = whys s w (Read e u n) in
    let is = whys_is_read events s w e u n k in
    moves s.limits t u s.threads _ history _ (left_by s.limits history (Read e u n)) (is_none why)
    (read_next (thread_at s.limits s.threads u).thread.limits (thread_at s.limits s.threads u) e (thread_at s.limits s.threads u).thread.number n) (λ h. in_core events s u k (read_there events s w e u n k h)) (agent_threads s.envs s.threads why _)
    (agent_history s.limits t u history _ why (λ v. refusal_of s.limits (dealings s.limits e v events) w (Read e u n)) is)
    (λ same on. rw (same_thread t u same) (read_stands s.limits t t history (thread_at s.limits s.threads t) e n (k.threads t l)))
    (k.threads t l)
thread_goes events s w (Go e u) t k l =
    let history = history_of s.limits t events in
    let why = whys s w (Go e u) in
    let is = whys_is_go events s w e u k in
    moves s.limits t u s.threads _ history _ (left_by s.limits history (Go e u)) (is_none why)
    (go_next (thread_at s.limits s.threads u).thread.limits (thread_at s.limits s.threads u) e (thread_at s.limits s.threads u).thread.number) (λ h. in_core events s u k (go_there events s w e u k h)) (agent_threads s.envs s.threads why _)
    (agent_history s.limits t u history _ why (λ v. refusal_of s.limits (dealings s.limits e v events) w (Go e u)) is)
    (λ same on. rw (same_thread t u same) (go_stands s.limits t t history (thread_at s.limits s.threads t) e (k.threads t l)))
    (k.threads t l)
thread_goes events s w (AddCaps e caps) t k l = rw (env_threads s w (AddCaps e caps) refl) (k.threads t l)
thread_goes events s w (Relinquish e caps) t k l = rw (env_threads s w (Relinquish e caps) refl) (k.threads t l)
thread_goes events s w (GetCaps e) t k l = k.threads t l
thread_goes events s w (SetEnvWord e v) t k l = rw (env_threads s w (SetEnvWord e v) refl) (k.threads t l)
thread_goes events s w (GetEnvWord e) t k l = k.threads t l
