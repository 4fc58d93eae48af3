-- What a core says is what the definitions say, and the core refines for one more event.
use Rattle.std.proofs.Common.{◌≡◌, ◌≢◌, ℕ, ◌<◌, Bool, true, false, ◌==◌, nat_lt, cond, List, [], ◌∷◌, ◌++◌, length, refl, ap, sym, ◌∙◌, arith, Option, Some, None, is_none, slice_set, length-set, get_or-set_same, get_or-set_other, inl, inr, ltb-true, bit_or}
use Rattle.std.proofs.lemmas.List.{get_or-replicate, length-replicate}
use Rattle.std.proofs.lemmas.Bool.Decides.{nat_tests}
use Rattle.std.proofs.lemmas.Bool.{cases_eq, cases_Bool}
use Rattle.ti_types.specs.declared.limits.Limits.{Limits}
use Rattle.ti_types.specs.declared.numbers.EnvNo.{EnvNo}
use Rattle.ti_types.specs.declared.numbers.ThreadNo.{ThreadNo}
use Rattle.ti_types.specs.declared.entry.Entry.{Entry}
use Rattle.ti_types.specs.declared.entry.Entry.TheVariants as entry
use Rattle.ti_types.specs.declared.event.Event.{Event}
use Rattle.ti_types.specs.declared.event.Event.TheVariants.{Start, Own, Poll, ToNative, ToBlocked, Back, End, Ask, Stop, Read, Go, AddCaps, Relinquish, GetCaps, SetEnvWord, GetEnvWord}
use Rattle.ti_types.specs.declared.event.Ticket.{Ticket}
use Rattle.ti_types.specs.declared.event.Outcome.{Outcome}
use Rattle.ti_types.specs.declared.event.Outcome.TheVariants as outcome
use Rattle.ti_types.specs.declared.error.TiError.{TiError}
use Rattle.ti_types.specs.declared.error.TiError.TheVariants.{InvalidThread}
use Rattle.ti_types.specs.declared.state.Safe.TheVariants.{Native, Blocked}
use Rattle.ti_replay.specs.Outcomes.{out_of}
use Rattle.ti_replay.specs.Replies.{reply}
use Rattle.ti_replay.specs.View.{view}
use Rattle.ti_replay.specs.Admission.{Happening, dealings_by, refusal, agent_of, is_aimed_at, is_own_of}
use Rattle.ti_replay.specs.Events.{left_by, history_of, own_outcome, refused_or, read_outcome, stopping_refusal, given}
use Rattle.ti_replay.proofs.AgreementLaws.{history_of-snoc, caps_are}
use Rattle.ti_env.specs.Env.{EnvValue, new_env, with_caps}
use Rattle.ti_core.specs.Thread.{ThreadState, new_state, own_next, poll_next, taken}
use Rattle.ti_core.specs.Core.{CoreState, StepResult, thread_at, env_at, stepped_by, refused_or_else, stepped_own, core_next, core_taken, no_thread, with_env}
use Rattle.ti_core.specs.Refines.{ThreadRefines, EnvRefines, Refines, IsNext}
use Rattle.ti_core.proofs.ThreadLaws.{own_told, poll_told}
use Rattle.ti_core.proofs.CallLaws.{ask_told_is, stop_told_is, go_told_is, read_told_is, taken_stands}
use Rattle.ti_core.proofs.StepLaws.{happened, same_thread, whys, whys_is_ask, whys_is_stop, whys_is_read, whys_is_go, ask_there, stop_there, read_there, go_there, thread_goes, env_threads}
use Rattle.ti_core.proofs.EnvLaws.{env_goes, own_envs}

self : (n : ℕ) → (n == n) ≡ true
self n = grind (arith, nat_tests)

own_told_goes : (events : List Happening) (s : CoreState) (u : ThreadNo) (x : Entry) → Refines events s
    → (stepped_own s.limits s.envs s.threads u x).told ≡ cond (nat_lt u.0 s.limits.threads) (own_outcome s.limits (history_of s.limits u events) (Some x)) (Some (outcome.Refused InvalidThread))
own_told_goes events s u x k =
    elim (cases_Bool (nat_lt u.0 s.limits.threads)) [
      | inl on ↦
          let o : nat_lt u.0 (length s.threads) ≡ true = ap (nat_lt u.0) k.thread_count ∙ on in
          rw (o, on) (own_told s.limits u (history_of s.limits u events) (thread_at s.limits s.threads u) x (k.threads u (ltb-true _ _ on)))
      | inr off ↦
          let o : nat_lt u.0 (length s.threads) ≡ false = ap (nat_lt u.0) k.thread_count ∙ off in
          rw (o, off) refl
    ]

-- the history after a call that goes through
pub history_now : (events : List Happening) (limits : Limits) (u : ThreadNo) (h : Happening) → is_own_of u h.event ≡ false → is_aimed_at u h.event ≡ true
    → refusal limits (dealings_by limits (agent_of h.event) u events) h ≡ None → history_of limits u (events ++ h ∷ []) ≡ history_of limits u events ++ left_by limits (history_of limits u events) h.event
history_now events limits u h o a r = history_of-snoc limits u events h ∙ rw (o, a, r) refl

-- what is said of a call, where it is known of one that goes through
agent_told : (envs : List EnvValue) (threads : List ThreadState) (why r : Option TiError) (other : StepResult) (there : Option Outcome) → why ≡ r → (r ≡ None → other.told ≡ there)
    → (refused_or_else envs threads why other).told ≡ refused_or r there
agent_told envs threads why r other there e h =
    elim r as (λ (o : Option TiError). why ≡ o → (o ≡ None → other.told ≡ there) → (refused_or_else envs threads why other).told ≡ refused_or o there) [
      | None ↦ λ q g. rw q (g refl)
      | Some error ↦ λ q g. rw q refl
    ] e h

pub told_goes : (events : List Happening) (s : CoreState) (w : Bool) (event : Event) → Refines events s
    → (stepped_by s.limits s.envs s.threads w event).told ≡ out_of s.limits (events ++ happened event w ∷ []) events (happened event w)
told_goes events s w (Start u) k = rw (self u.0) (own_told_goes events s u entry.Start k)
told_goes events s w (Own u step) k = rw (self u.0) (own_told_goes events s u (entry.Own step) k)
told_goes events s w (ToNative u) k = rw (self u.0) (own_told_goes events s u (entry.Hand Native) k)
told_goes events s w (ToBlocked u kind) k = rw (self u.0) (own_told_goes events s u (entry.Hand (Blocked kind)) k)
told_goes events s w (Back u) k = rw (self u.0) (own_told_goes events s u entry.Back k)
told_goes events s w (End u) k = rw (self u.0) (own_told_goes events s u entry.End k)
told_goes events s w (Poll u) k =
    elim (cases_Bool (nat_lt u.0 s.limits.threads)) [
      | inl on ↦
          let o : nat_lt u.0 (length s.threads) ≡ true = ap (nat_lt u.0) k.thread_count ∙ on in
          rw (self u.0, o, on) (ap Some (poll_told s.limits u (history_of s.limits u events) (thread_at s.limits s.threads u) (k.threads u (ltb-true _ _ on))))
      | inr off ↦
          let o : nat_lt u.0 (length s.threads) ≡ false = ap (nat_lt u.0) k.thread_count ∙ off in
          rw (self u.0, o, off) refl
    ]
told_goes events s w (Ask e u c) k =
    let history = history_of s.limits u events in
    let why = whys s w (Ask e u c) in
    let is = whys_is_ask events s w e u c k in
    rw (self u.0) (agent_told s.envs s.threads why _ _ _ is
    (λ none.
    let on : is_none why ≡ true = ap is_none (is ∙ none) in
    let l = ask_there events s w e u c k on in
    let n = history_now events s.limits u (happened (Ask e u c) w) refl (self u.0) none in
    ask_told_is s.limits u history (thread_at s.limits s.threads u) e c (k.threads u l)
    ∙ ap (λ m. given (reply s.limits m (length history))) (sym n)))
told_goes events s w (Stop e u) k =
    let history = history_of s.limits u events in
    let why = whys s w (Stop e u) in
    let is = whys_is_stop events s w e u k in
    rw (self u.0) (agent_told s.envs s.threads why _ _ _ is
    (λ none.
    let on : is_none why ≡ true = ap is_none (is ∙ none) in
    let l = stop_there events s w e u k on in
    stop_told_is s.limits u u history (thread_at s.limits s.threads u) e (k.threads u l)))
told_goes events s w (Read e u n) k =
    let history = history_of s.limits u events in
    let why = whys s w (Read e u n) in
    let is = whys_is_read events s w e u n k in
    rw (self u.0) (agent_told s.envs s.threads why _ _ _ is
    (λ none.
    let on : is_none why ≡ true = ap is_none (is ∙ none) in
    let l = read_there events s w e u n k on in
    let m = history_now events s.limits u (happened (Read e u n) w) refl (self u.0) none in
    read_told_is s.limits u u history (thread_at s.limits s.threads u) e n (k.threads u l)
    ∙ ap (λ m. read_outcome (stopping_refusal (view s.limits history) (Read e u n)) (reply s.limits m (length history))) (sym m)))
told_goes events s w (Go e u) k =
    let history = history_of s.limits u events in
    let why = whys s w (Go e u) in
    let is = whys_is_go events s w e u k in
    rw (self u.0) (agent_told s.envs s.threads why _ _ _ is
    (λ none.
    let on : is_none why ≡ true = ap is_none (is ∙ none) in
    let l = go_there events s w e u k on in
    go_told_is s.limits u u history (thread_at s.limits s.threads u) e (k.threads u l)))
told_goes events s w (AddCaps e caps) k = rw k.env_count (grind (arith, k.env_count))
told_goes events s w (Relinquish e caps) k = grind (arith, k.env_count)
told_goes events s w (GetCaps e) k =
    elim (cases_Bool (nat_lt e.0 s.limits.envs)) [
      | inl on ↦ let q = (k.envs e (ltb-true _ _ on)).caps (record { 0 = 0 }) ∙ caps_are s.limits e (record { 0 = 0 }) events in grind (arith, k.env_count, on, q)
      | inr off ↦ grind (arith, k.env_count, off)
    ]
told_goes events s w (SetEnvWord e v) k = grind (arith, k.env_count)
told_goes events s w (GetEnvWord e) k =
    elim (cases_Bool (nat_lt e.0 s.limits.envs)) [
      | inl on ↦ let q = (k.envs e (ltb-true _ _ on)).word in grind (arith, k.env_count, on, q)
      | inr off ↦ grind (arith, k.env_count, off)
    ]

own_length : (s : CoreState) (u : ThreadNo) (x : Entry) → length (stepped_own s.limits s.envs s.threads u x).threads ≡ length s.threads
own_length s u x = grind (arith, length-set s.threads u.0 (own_next (thread_at s.limits s.threads u).thread.limits (thread_at s.limits s.threads u) x))

agent_length : (envs : List EnvValue) (threads : List ThreadState) (why : Option TiError) (other : StepResult) → length other.threads ≡ length threads
    → length (refused_or_else envs threads why other).threads ≡ length threads
agent_length envs threads None other h = h
agent_length envs threads (Some error) other h = refl

agent_env_length : (envs : List EnvValue) (threads : List ThreadState) (why : Option TiError) (other : StepResult) → length other.envs ≡ length envs
    → length (refused_or_else envs threads why other).envs ≡ length envs
agent_env_length envs threads None other h = h
agent_env_length envs threads (Some error) other h = refl

with_length : (envs : List EnvValue) (threads : List ThreadState) (e : EnvNo) (env : EnvValue) (told : Option Outcome) → length (with_env envs threads e env told).envs ≡ length envs
with_length envs threads e env told = grind (arith, length-set envs e.0 env)

thread_length : (s : CoreState) (w : Bool) (event : Event) → length (stepped_by s.limits s.envs s.threads w event).threads ≡ length s.threads
thread_length s w (Start u) = own_length s u entry.Start
thread_length s w (Own u step) = own_length s u (entry.Own step)
thread_length s w (ToNative u) = own_length s u (entry.Hand Native)
thread_length s w (ToBlocked u kind) = own_length s u (entry.Hand (Blocked kind))
thread_length s w (Back u) = own_length s u entry.Back
thread_length s w (End u) = own_length s u entry.End
thread_length s w (Poll u) = grind (arith, length-set s.threads u.0 (poll_next (thread_at s.limits s.threads u).thread.limits (thread_at s.limits s.threads u)))
thread_length s w (Ask e u c) = agent_length s.envs s.threads (whys s w (Ask e u c)) _ (length-set s.threads u.0 _)
thread_length s w (Stop e u) = agent_length s.envs s.threads (whys s w (Stop e u)) _ (length-set s.threads u.0 _)
thread_length s w (Read e u n) = agent_length s.envs s.threads (whys s w (Read e u n)) _ (length-set s.threads u.0 _)
thread_length s w (Go e u) = agent_length s.envs s.threads (whys s w (Go e u)) _ (length-set s.threads u.0 _)
thread_length s w (AddCaps e caps) = ap (λ (x : List ThreadState). length x) (env_threads s w (AddCaps e caps) refl)
thread_length s w (Relinquish e caps) = ap (λ (x : List ThreadState). length x) (env_threads s w (Relinquish e caps) refl)
thread_length s w (GetCaps e) = refl
thread_length s w (SetEnvWord e v) = ap (λ (x : List ThreadState). length x) (env_threads s w (SetEnvWord e v) refl)
thread_length s w (GetEnvWord e) = refl

env_length : (s : CoreState) (w : Bool) (event : Event) → length (stepped_by s.limits s.envs s.threads w event).envs ≡ length s.envs
env_length s w (Start u) = ap (λ (x : List EnvValue). length x) (own_envs s w (Start u) u entry.Start)
env_length s w (Own u step) = ap (λ (x : List EnvValue). length x) (own_envs s w (Own u step) u (entry.Own step))
env_length s w (ToNative u) = ap (λ (x : List EnvValue). length x) (own_envs s w (ToNative u) u (entry.Hand Native))
env_length s w (ToBlocked u kind) = ap (λ (x : List EnvValue). length x) (own_envs s w (ToBlocked u kind) u (entry.Hand (Blocked kind)))
env_length s w (Back u) = ap (λ (x : List EnvValue). length x) (own_envs s w (Back u) u entry.Back)
env_length s w (End u) = ap (λ (x : List EnvValue). length x) (own_envs s w (End u) u entry.End)
env_length s w (Poll u) = grind arith
env_length s w (Ask e u c) = agent_env_length s.envs s.threads (whys s w (Ask e u c)) _ (length-set s.envs e.0 _)
env_length s w (Stop e u) = agent_env_length s.envs s.threads (whys s w (Stop e u)) _ (length-set s.envs e.0 _)
env_length s w (Read e u n) = agent_env_length s.envs s.threads (whys s w (Read e u n)) _ (length-set s.envs e.0 _)
env_length s w (Go e u) = agent_env_length s.envs s.threads (whys s w (Go e u)) _ refl
env_length s w (AddCaps e caps) = grind (arith, length-set s.envs e.0 (with_caps (env_at s.envs e) (record { bits = bit_or (env_at s.envs e).caps.bits caps.bits })), length-set s.envs e.0 (env_at s.envs e))
env_length s w (Relinquish e caps) = with_length s.envs s.threads e _ _
env_length s w (GetCaps e) = refl
env_length s w (SetEnvWord e v) = with_length s.envs s.threads e _ _
env_length s w (GetEnvWord e) = refl

-- a thread that has not started refines for nothing
pub new_thread_stands : (limits : Limits) (t : ThreadNo) → ThreadRefines limits t [] (new_state limits t)
new_thread_stands limits t = record {
  limits_are = refl;
  number_is = refl;
  alike = record { state = refl; replies = λ k. refl };
  rests = λ h. refl;
  once = tt;
  known = λ k h. cc;
}

pub new_env_stands : (limits : Limits) (e : EnvNo) → EnvRefines limits e [] (new_env limits)
new_env_stands limits e = record {
  caps = λ t. refl;
  spent = λ t h. get_or-replicate limits.threads t.0 0 0 h;
  spent_count = length-replicate limits.threads 0;
  calls = refl;
  word = refl;
}

-- the core after one more event
pub stands_on : (events : List Happening) (s : CoreState) (h : Happening) → Refines events s → Refines (events ++ h ∷ []) (core_next s h)
stands_on events s h k = record {
  thread_count = thread_length s h.wanting h.event ∙ k.thread_count;
  env_count = env_length s h.wanting h.event ∙ k.env_count;
  threads = λ t l. rw (history_of-snoc s.limits t events h) (thread_goes events s h.wanting h.event t k l);
  envs = λ e l. env_goes events s h.wanting h.event e k l;
}

-- one event: the core refines for it too, and what it comes to is what the definitions say
pub steps : (events : List Happening) (s : CoreState) (h : Happening) → Refines events s → IsNext events s h
steps events s h k = record { refines = stands_on events s h k; told = told_goes events s h.wanting h.event k }

-- taking an answer changes nothing of what has happened
pub take_stands : (events : List Happening) (s : CoreState) (ticket : Ticket) (found : Bool) → Refines events s → Refines events (core_taken s ticket found)
take_stands events s ticket found k =
    let x = taken (thread_at s.limits s.threads ticket.thread) ticket found in
    record {
      thread_count = length-set s.threads ticket.thread.0 x ∙ k.thread_count;
      env_count = k.env_count;
      threads = λ t l.
          elim (cases_eq ticket.thread.0 t.0) [
            | inl same ↦
                let z : ticket.thread ≡ t = same_thread t ticket.thread same in
                let lt : t.0 < length s.threads = omega (arith, l, k.thread_count) in
                let q : thread_at s.limits (slice_set s.threads ticket.thread.0 x) t ≡ taken (thread_at s.limits s.threads t) ticket found =
                ap (λ u. thread_at s.limits (slice_set s.threads u.0 (taken (thread_at s.limits s.threads u) ticket found)) t) z ∙ get_or-set_same s.threads t.0 (taken (thread_at s.limits s.threads t) ticket found) (no_thread s.limits) lt in
                rw q (taken_stands s.limits t (history_of s.limits t events) (thread_at s.limits s.threads t) ticket found (k.threads t l))
            | inr other ↦
                let o : t.0 ≢ ticket.thread.0 = λ p. other (sym p) in
                let q : thread_at s.limits (slice_set s.threads ticket.thread.0 x) t ≡ thread_at s.limits s.threads t = get_or-set_other s.threads ticket.thread.0 t.0 x (no_thread s.limits) o in
                rw q (k.threads t l)
          ];
      envs = k.envs;
    }
