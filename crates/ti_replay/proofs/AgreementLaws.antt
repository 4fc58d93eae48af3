-- What is told of a thread to an environment depends on what is kept alone.
use Rattle.std.proofs.Common.{◌≡◌, ℕ, ◌==◌, Bool, true, false, cond, not, ◌&&◌, ◌||◌, List, [], ◌∷◌, ◌++◌, nat_lt, refl, ap, sym, ◌∙◌, arith, Option, Some, None, append-nil, append_assoc, eqb-true, is_none}
use Rattle.std.proofs.lemmas.List.Sums.{fold-append}
use Rattle.std.specs.List.{fold}
use Rattle.ti_types.specs.declared.limits.Limits.{Limits}
use Rattle.ti_types.specs.declared.numbers.EnvNo.{EnvNo}
use Rattle.ti_types.specs.declared.numbers.ThreadNo.{ThreadNo}
use Rattle.ti_types.specs.declared.caps.Caps.{Caps}
use Rattle.ti_types.specs.declared.entry.Entry.{Entry}
use Rattle.ti_types.specs.declared.event.Event.{Event}
use Rattle.ti_types.specs.declared.event.Event.TheVariants.{Start, Own, Poll, ToNative, ToBlocked, Back, End, Ask, Stop, Read, Go, AddCaps, Relinquish, GetCaps, SetEnvWord, GetEnvWord}
use Rattle.ti_types.specs.declared.event.Outcome.{Outcome}
use Rattle.ti_types.specs.declared.event.Outcome.TheVariants as outcome
use Rattle.ti_types.specs.declared.error.TiError.TheVariants.{InvalidThread, InvalidEnvironment}
use Rattle.ti_types.specs.declared.answer.Answer.TheVariants as answer
use Rattle.ti_replay.specs.Admission.{Happening, Dealings, dealings, dealt, refusal, refusal_of, agent_of, is_aimed_at, is_own_of, is_about_caps, is_env, is_by, dealings_by, no_dealings, caps_of, caps_after}
use Rattle.ti_replay.specs.Events.{left_by, history_behind, history_from, history_of, outcome_there, outcome_of, refused_or, caps_outcome}
use Rattle.ti_replay.specs.Outcomes.{out_of}
use Rattle.ti_replay.specs.Agreement.{is_for_want, marked, Kept, Taken, Called, kept_as, kept_from, kept, with_first, if_kept, told_from, told, TellsTheKept}

-- what is known of a thread and an environment from the kept events so far
pub record KeptState : Type 0 where
  pub history : List Entry
  pub dealings : Dealings

abbrev took : Limits → EnvNo → ThreadNo → KeptState → Kept → KeptState
took limits env thread s (Taken event) =
    record { history = cond (is_own_of thread event && not (nat_lt thread.0 limits.threads)) s.history (s.history ++ left_by limits s.history event); dealings = s.dealings }
took limits env thread s (Called h) =
    record {
      history = cond (is_aimed_at thread h.event && is_none (refusal limits s.dealings h)) (s.history ++ left_by limits s.history h.event) s.history;
      dealings = dealt limits env thread s.dealings h;
    }

abbrev took_if : Limits → EnvNo → ThreadNo → KeptState → Option Kept → KeptState
took_if limits env thread s None = s
took_if limits env thread s (Some k) = took limits env thread s k

-- an event is of one sort
record IsOneSort (thread : ThreadNo) (event : Event) : Type 0 where
  own_aimed : is_own_of thread event ≡ true → is_aimed_at thread event ≡ false
  own_caps : is_own_of thread event ≡ true → is_about_caps event ≡ false
  caps_aimed : is_about_caps event ≡ true → is_aimed_at thread event ≡ false
  caps_own : is_about_caps event ≡ true → is_own_of thread event ≡ false

one_sort : (thread : ThreadNo) (event : Event) → IsOneSort thread event
one_sort thread (Start t) = record { own_aimed = λ h. refl; own_caps = λ h. refl; caps_aimed = λ h. refl; caps_own = λ h. cc }
one_sort thread (Own t step) = record { own_aimed = λ h. refl; own_caps = λ h. refl; caps_aimed = λ h. refl; caps_own = λ h. cc }
one_sort thread (Poll t) = record { own_aimed = λ h. refl; own_caps = λ h. refl; caps_aimed = λ h. refl; caps_own = λ h. cc }
one_sort thread (ToNative t) = record { own_aimed = λ h. refl; own_caps = λ h. refl; caps_aimed = λ h. refl; caps_own = λ h. cc }
one_sort thread (ToBlocked t kind) = record { own_aimed = λ h. refl; own_caps = λ h. refl; caps_aimed = λ h. refl; caps_own = λ h. cc }
one_sort thread (Back t) = record { own_aimed = λ h. refl; own_caps = λ h. refl; caps_aimed = λ h. refl; caps_own = λ h. cc }
one_sort thread (End t) = record { own_aimed = λ h. refl; own_caps = λ h. refl; caps_aimed = λ h. refl; caps_own = λ h. cc }
one_sort thread (Ask e t call) = record { own_aimed = λ h. cc; own_caps = λ h. refl; caps_aimed = λ h. cc; caps_own = λ h. refl }
one_sort thread (Stop e t) = record { own_aimed = λ h. cc; own_caps = λ h. refl; caps_aimed = λ h. cc; caps_own = λ h. refl }
one_sort thread (Read e t n) = record { own_aimed = λ h. cc; own_caps = λ h. refl; caps_aimed = λ h. cc; caps_own = λ h. refl }
one_sort thread (Go e t) = record { own_aimed = λ h. cc; own_caps = λ h. refl; caps_aimed = λ h. cc; caps_own = λ h. refl }
one_sort thread (AddCaps e caps) = record { own_aimed = λ h. refl; own_caps = λ h. cc; caps_aimed = λ h. refl; caps_own = λ h. refl }
one_sort thread (Relinquish e caps) = record { own_aimed = λ h. refl; own_caps = λ h. cc; caps_aimed = λ h. refl; caps_own = λ h. refl }
one_sort thread (GetCaps e) = record { own_aimed = λ h. refl; own_caps = λ h. cc; caps_aimed = λ h. refl; caps_own = λ h. refl }
one_sort thread (SetEnvWord e w) = record { own_aimed = λ h. refl; own_caps = λ h. refl; caps_aimed = λ h. refl; caps_own = λ h. refl }
one_sort thread (GetEnvWord e) = record { own_aimed = λ h. refl; own_caps = λ h. refl; caps_aimed = λ h. refl; caps_own = λ h. refl }

-- only an environment's own calls change its capabilities
caps_kept : (env : EnvNo) (held : Caps) (event : Event) → (is_by env event && is_about_caps event) ≡ false → caps_after env held event ≡ held
caps_kept env held (Start t) h = refl
caps_kept env held (Own t step) h = refl
caps_kept env held (Poll t) h = refl
caps_kept env held (ToNative t) h = refl
caps_kept env held (ToBlocked t kind) h = refl
caps_kept env held (Back t) h = refl
caps_kept env held (End t) h = refl
caps_kept env held (Ask e t call) h = refl
caps_kept env held (Stop e t) h = refl
caps_kept env held (Read e t n) h = refl
caps_kept env held (Go e t) h = refl
caps_kept env held (AddCaps e caps) h = grind arith
caps_kept env held (Relinquish e caps) h = grind arith
caps_kept env held (GetCaps e) h = refl
caps_kept env held (SetEnvWord e w) h = refl
caps_kept env held (GetEnvWord e) h = refl

one_env : (env : EnvNo) (o : Option EnvNo) → is_env env o ≡ true → o ≡ Some env
one_env env (Some other) h = ap (λ (n : ℕ). Some (record { 0 = n })) (eqb-true _ _ h)
one_env env None h = cc

pub by_is : (env : EnvNo) (event : Event) → is_by env event ≡ true → agent_of event ≡ Some env
by_is env event h = one_env env (agent_of event) h

-- what the environment of an event holds is what this one does, where it is this one's
pub dealings_is : (limits : Limits) (env : EnvNo) (thread : ThreadNo) (front : List Happening) (event : Event) → is_by env event ≡ true
    → dealings_by limits (agent_of event) thread front ≡ dealings limits env thread front
dealings_is limits env thread front event h = ap (λ o. dealings_by limits o thread front) (by_is env event h)

-- one more event
abbrev behind : Limits → EnvNo → ThreadNo → List Happening → List Entry → Happening → KeptState
behind limits env thread front history h =
    record { history = history_behind limits thread front history h; dealings = dealt limits env thread (dealings limits env thread front) h }

-- where memory is marked as wanting, the refusal is the same
refused_marked : (limits : Limits) (d : Dealings) (wanting : Bool) (event : Event) → refusal_of limits d (wanting && is_for_want (refusal_of limits d wanting event)) event ≡ refusal_of limits d wanting event
refused_marked limits d wanting (Start t) = refl
refused_marked limits d wanting (Own t step) = refl
refused_marked limits d wanting (Poll t) = refl
refused_marked limits d wanting (ToNative t) = refl
refused_marked limits d wanting (ToBlocked t kind) = refl
refused_marked limits d wanting (Back t) = refl
refused_marked limits d wanting (End t) = refl
refused_marked limits d wanting (Ask e t call) = grind arith
refused_marked limits d wanting (Stop e t) = refl
refused_marked limits d wanting (Read e t n) = grind arith
refused_marked limits d wanting (Go e t) = refl
refused_marked limits d wanting (AddCaps e caps) = refl
refused_marked limits d wanting (Relinquish e caps) = refl
refused_marked limits d wanting (GetCaps e) = refl
refused_marked limits d wanting (SetEnvWord e w) = refl
refused_marked limits d wanting (GetEnvWord e) = refl

refusal_marked : (limits : Limits) (d : Dealings) (h : Happening) → refusal limits d (marked limits d h) ≡ refusal limits d h
refusal_marked limits d h = refused_marked limits d h.wanting h.event

took_one : (limits : Limits) (env : EnvNo) (thread : ThreadNo) (front : List Happening) (history : List Entry) (h : Happening)
    → behind limits env thread front history h ≡ took_if limits env thread (record { history = history; dealings = dealings limits env thread front }) (kept_as limits env thread front h)
took_one limits env thread front history h =
    let sort : IsOneSort thread h.event = one_sort thread h.event in
    grind (arith, sort, caps_kept env (dealings limits env thread front).caps h.event, dealings_is limits env thread front h.event, refusal_marked limits (dealings limits env thread front) h)

pub history_from-append : (limits : Limits) (thread : ThreadNo) (front : List Happening) (history : List Entry) (xs ys : List Happening)
    → history_from limits thread front history (xs ++ ys) ≡ history_from limits thread (front ++ xs) (history_from limits thread front history xs) ys
history_from-append limits thread front history [] ys = rw append-nil refl
history_from-append limits thread front history (h ∷ xs) ys =
    history_from-append limits thread (front ++ h ∷ []) (history_behind limits thread front history h) xs ys
    ∙ ap (λ f. history_from limits thread f (history_from limits thread (front ++ h ∷ []) (history_behind limits thread front history h) xs) ys) (append_assoc front (h ∷ []) xs)

-- the history after one more event
pub history_of-snoc : (limits : Limits) (thread : ThreadNo) (front : List Happening) (h : Happening) → history_of limits thread (front ++ h ∷ []) ≡ history_behind limits thread front (history_of limits thread front) h
history_of-snoc limits thread front h = history_from-append limits thread [] [] front (h ∷ [])

pub dealings-snoc : (limits : Limits) (env : EnvNo) (thread : ThreadNo) (front : List Happening) (h : Happening) → dealings limits env thread (front ++ h ∷ []) ≡ dealt limits env thread (dealings limits env thread front) h
dealings-snoc limits env thread front h = fold-append (dealt limits env thread) _ front (h ∷ [])

-- what a front leaves
abbrev left : Limits → EnvNo → ThreadNo → List Happening → KeptState
left limits env thread front = record { history = history_of limits thread front; dealings = dealings limits env thread front }

left-snoc : (limits : Limits) (env : EnvNo) (thread : ThreadNo) (front : List Happening) (h : Happening)
    → left limits env thread (front ++ h ∷ []) ≡ took_if limits env thread (left limits env thread front) (kept_as limits env thread front h)
left-snoc limits env thread front h =
    rw (history_of-snoc limits thread front h, dealings-snoc limits env thread front h) (took_one limits env thread front (history_of limits thread front) h)

fold-with_first : (limits : Limits) (env : EnvNo) (thread : ThreadNo) (s : KeptState) (k : Option Kept) (rest : List Kept)
    → fold (took limits env thread) s (with_first k rest) ≡ fold (took limits env thread) (took_if limits env thread s k) rest
fold-with_first limits env thread s None rest = refl
fold-with_first limits env thread s (Some k) rest = refl

left_run : (limits : Limits) (env : EnvNo) (thread : ThreadNo) (front events : List Happening)
    → left limits env thread (front ++ events) ≡ fold (took limits env thread) (left limits env thread front) (kept_from limits env thread front events)
left_run limits env thread front [] = rw append-nil refl
left_run limits env thread front (h ∷ events) =
    ap (left limits env thread) (sym (append_assoc front (h ∷ []) events)) ∙ left_run limits env thread (front ++ h ∷ []) events
    ∙ ap (λ s. fold (took limits env thread) s (kept_from limits env thread (front ++ h ∷ []) events)) (left-snoc limits env thread front h)
    ∙ sym (fold-with_first limits env thread (left limits env thread front) (kept_as limits env thread front h) (kept_from limits env thread (front ++ h ∷ []) events))

-- what a kept event comes to
abbrev kept_outcome : Limits → ThreadNo → List Entry → KeptState → Kept → Option Outcome
kept_outcome limits thread whole s (Taken event) =
    cond (is_own_of thread event && not (nat_lt thread.0 limits.threads)) (Some (outcome.Refused InvalidThread)) (outcome_there limits whole s.history event)
kept_outcome limits thread whole s (Called h) =
    cond (is_aimed_at thread h.event) (refused_or (refusal limits s.dealings h) (outcome_there limits whole s.history h.event)) (caps_outcome limits s.dealings.caps h.event)

abbrev outcome_if : Limits → ThreadNo → List Entry → KeptState → Option Kept → Option Outcome → Option Outcome
outcome_if limits thread whole s None other = other
outcome_if limits thread whole s (Some k) other = kept_outcome limits thread whole s k

outcome_one : (limits : Limits) (env : EnvNo) (thread : ThreadNo) (all front : List Happening) (h : Happening)
    → outcome_of limits thread all front h ≡ outcome_if limits thread (history_of limits thread all) (left limits env thread front) (kept_as limits env thread front h) (outcome_of limits thread all front h)
outcome_one limits env thread all front h =
    let sort : IsOneSort thread h.event = one_sort thread h.event in
    grind (arith, sort, dealings_is limits env thread front h.event, refusal_marked limits (dealings limits env thread front) h)

-- what an environment holds does not depend on the thread
caps_fold : (limits : Limits) (env : EnvNo) (t : ThreadNo) (d : Dealings) (events : List Happening) → (fold (dealt limits env t) d events).caps ≡ fold (λ held h. caps_after env held h.event) d.caps events
caps_fold limits env t d [] = refl
caps_fold limits env t d (x ∷ events) = caps_fold limits env t (dealt limits env t d x) events

pub caps_are : (limits : Limits) (env : EnvNo) (t : ThreadNo) (events : List Happening) → (dealings limits env t events).caps ≡ caps_of env events
caps_are limits env t events = caps_fold limits env t no_dealings events

pub same_thread : (t u : ThreadNo) → (t.0 == u.0) ≡ true → t ≡ u
same_thread t u h = ap (λ (n : ℕ). record { 0 = n }) (eqb-true _ _ h)

-- an event at a thread, or about capabilities, comes to what it comes to at the thread
pub out_there : (limits : Limits) (thread : ThreadNo) (all front : List Happening) (wanting : Bool) (event : Event)
    → (is_own_of thread event || (is_aimed_at thread event || is_about_caps event)) ≡ true
    → out_of limits all front (record { event = event; wanting = wanting }) ≡ outcome_of limits thread all front (record { event = event; wanting = wanting })
out_there limits thread all front wanting (Start t) h = ap (λ z. outcome_of limits z all front (record { event = Start t; wanting = wanting })) (same_thread t thread (grind arith))
out_there limits thread all front wanting (Own t step) h = ap (λ z. outcome_of limits z all front (record { event = Own t step; wanting = wanting })) (same_thread t thread (grind arith))
out_there limits thread all front wanting (Poll t) h = ap (λ z. outcome_of limits z all front (record { event = Poll t; wanting = wanting })) (same_thread t thread (grind arith))
out_there limits thread all front wanting (ToNative t) h = ap (λ z. outcome_of limits z all front (record { event = ToNative t; wanting = wanting })) (same_thread t thread (grind arith))
out_there limits thread all front wanting (ToBlocked t kind) h = ap (λ z. outcome_of limits z all front (record { event = ToBlocked t kind; wanting = wanting })) (same_thread t thread (grind arith))
out_there limits thread all front wanting (Back t) h = ap (λ z. outcome_of limits z all front (record { event = Back t; wanting = wanting })) (same_thread t thread (grind arith))
out_there limits thread all front wanting (End t) h = ap (λ z. outcome_of limits z all front (record { event = End t; wanting = wanting })) (same_thread t thread (grind arith))
out_there limits thread all front wanting (Ask e t call) h = ap (λ z. outcome_of limits z all front (record { event = Ask e t call; wanting = wanting })) (same_thread t thread (grind arith))
out_there limits thread all front wanting (Stop e t) h = ap (λ z. outcome_of limits z all front (record { event = Stop e t; wanting = wanting })) (same_thread t thread (grind arith))
out_there limits thread all front wanting (Read e t n) h = ap (λ z. outcome_of limits z all front (record { event = Read e t n; wanting = wanting })) (same_thread t thread (grind arith))
out_there limits thread all front wanting (Go e t) h = ap (λ z. outcome_of limits z all front (record { event = Go e t; wanting = wanting })) (same_thread t thread (grind arith))
out_there limits thread all front wanting (AddCaps e caps) h = refl
out_there limits thread all front wanting (Relinquish e caps) h = refl
out_there limits thread all front wanting (GetCaps e) h =
    ap (λ c. cond (nat_lt e.0 limits.envs) (Some (outcome.Gave (answer.Caps c))) (Some (outcome.Gave (answer.Refused InvalidEnvironment))))
    (sym (caps_are limits e thread front))
out_there limits thread all front wanting (SetEnvWord e w) h = cc
out_there limits thread all front wanting (GetEnvWord e) h = cc

out_one : (limits : Limits) (env : EnvNo) (thread : ThreadNo) (all front : List Happening) (h : Happening)
    → out_of limits all front h ≡ outcome_if limits thread (history_of limits thread all) (left limits env thread front) (kept_as limits env thread front h) (out_of limits all front h)
out_one limits env thread all front h =
    kept_out (out_of limits all front h) (outcome_of limits thread all front h) (out_there limits thread all front h.wanting h.event) (outcome_one limits env thread all front h)
  where
    kept_out : (o p : Option Outcome) → ((is_own_of thread h.event || (is_aimed_at thread h.event || is_about_caps h.event)) ≡ true → o ≡ p)
        → p ≡ outcome_if limits thread (history_of limits thread all) (left limits env thread front) (kept_as limits env thread front h) p
        → o ≡ outcome_if limits thread (history_of limits thread all) (left limits env thread front) (kept_as limits env thread front h) o
    kept_out o p same one = grind arith

abbrev kept_told : Limits → EnvNo → ThreadNo → List Entry → KeptState → List Kept → List (Option Outcome)
kept_told limits env thread whole s [] = []
kept_told limits env thread whole s (k ∷ rest) = kept_outcome limits thread whole s k ∷ kept_told limits env thread whole (took limits env thread s k) rest

told_one : (limits : Limits) (env : EnvNo) (thread : ThreadNo) (whole : List Entry) (s : KeptState) (k : Option Kept) (o : Option Outcome) (rest : List Kept)
    → o ≡ outcome_if limits thread whole s k o
    → if_kept k o (kept_told limits env thread whole (took_if limits env thread s k) rest) ≡ kept_told limits env thread whole s (with_first k rest)
told_one limits env thread whole s None o rest h = refl
told_one limits env thread whole s (Some k) o rest h = ap (λ x. x ∷ kept_told limits env thread whole (took limits env thread s k) rest) h

told_run : (limits : Limits) (env : EnvNo) (thread : ThreadNo) (all front events : List Happening)
    → told_from limits env thread all front events ≡ kept_told limits env thread (history_of limits thread all) (left limits env thread front) (kept_from limits env thread front events)
told_run limits env thread all front [] = refl
told_run limits env thread all front (h ∷ events) =
    let k = kept_as limits env thread front h in
    let o = out_of limits all front h in
    ap (if_kept k o) (told_run limits env thread all (front ++ h ∷ []) events
    ∙ ap (λ s. kept_told limits env thread (history_of limits thread all) s (kept_from limits env thread (front ++ h ∷ []) events)) (left-snoc limits env thread front h))
    ∙ told_one limits env thread (history_of limits thread all) (left limits env thread front) k o (kept_from limits env thread (front ++ h ∷ []) events) (out_one limits env thread all front h)

-- the whole of what is told, from what is kept
abbrev told_by : Limits → EnvNo → ThreadNo → List Kept → List (Option Outcome)
told_by limits env thread ks = kept_told limits env thread (fold (took limits env thread) (left limits env thread []) ks).history (left limits env thread []) ks

told_is : (limits : Limits) (env : EnvNo) (thread : ThreadNo) (events : List Happening) → told limits env thread events ≡ told_by limits env thread (kept limits env thread events)
told_is limits env thread events =
    told_run limits env thread events [] events
    ∙ ap (λ l. kept_told limits env thread l (left limits env thread []) (kept limits env thread events)) (ap (λ s. s.history) (left_run limits env thread [] events))

pub tells_the_kept : TellsTheKept
tells_the_kept limits env thread run other same =
    told_is limits env thread run ∙ ap (told_by limits env thread) same ∙ sym (told_is limits env thread other)
