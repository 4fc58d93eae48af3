-- The environments of a core go on with each event as the definitions say.
use Rattle.std.proofs.Common.{◌≡◌, ◌≢◌, ℕ, ◌+◌, ◌-◌, ◌<◌, Bool, true, false, ◌&&◌, ◌==◌, nat_lt, cond, List, [], ◌∷◌, ◌++◌, length, refl, ap, ap₂, sym, ◌∙◌, arith, Option, Some, None, is_none, slice_index, slice_set, get_or-set_same, get_or-set_other, length-set, inl, inr, bit_or, bit_and}
use Rattle.std.proofs.lemmas.Bool.Decides.{nat_tests}
use Rattle.std.proofs.lemmas.Bool.{cases_eq, cases_Bool}
use Rattle.std.proofs.lemmas.List.Sums.{fold-append}
use Rattle.ti_types.specs.declared.limits.Limits.{Limits}
use Rattle.ti_types.specs.declared.numbers.EnvNo.{EnvNo}
use Rattle.ti_types.specs.declared.numbers.ThreadNo.{ThreadNo}
use Rattle.ti_types.specs.declared.caps.Caps.{Caps}
use Rattle.ti_types.specs.declared.event.Event.{Event}
use Rattle.ti_types.specs.declared.event.Event.TheVariants.{Start, Own, Poll, ToNative, ToBlocked, Back, End, Ask, Stop, Read, Go, AddCaps, Relinquish, GetCaps, SetEnvWord, GetEnvWord}
use Rattle.ti_types.specs.declared.error.TiError.{TiError}
use Rattle.ti_types.specs.declared.entry.Entry.{Entry}
use Rattle.ti_types.specs.declared.entry.Entry.TheVariants as entry
use Rattle.ti_types.specs.declared.state.Safe.TheVariants.{Native, Blocked}
use Rattle.ti_replay.specs.Admission.{Happening, Dealings, dealings, spends, caps_after, refusal_of, can_be_had}
use Rattle.ti_replay.proofs.AgreementLaws.{dealings-snoc}
use Rattle.ti_env.specs.Env.{EnvValue, with_caps}
use Rattle.ti_core.specs.Thread.{ThreadState}
use Rattle.ti_core.specs.Core.{CoreState, StepResult, env_at, stepped_by, refused_or_else, spending, stepped_own, stepped_poll}
use Rattle.ti_replay.specs.Outcomes.{env_word, env_word_after}
use Rattle.ti_core.specs.Refines.{EnvRefines, Refines}
use Rattle.ti_core.proofs.StepLaws.{happened, same_thread, whys, whys_is_ask, whys_is_stop, whys_is_read, ask_there, stop_there, read_there, cond_same}

pub same_env : (e f : EnvNo) → e.0 ≡ f.0 → e ≡ f
same_env e f h = ap (λ (n : ℕ). record { 0 = n }) h

word-snoc : (e : EnvNo) (events : List Happening) (h : Happening) → env_word e (events ++ h ∷ []) ≡ env_word_after e (env_word e events) h
word-snoc e events h = fold-append (env_word_after e) 0 events (h ∷ [])

-- an environment of which nothing changes
same_stands : (limits : Limits) (e : EnvNo) (events : List Happening) (h : Happening) (env : EnvValue) → EnvRefines limits e events env
    → ((c : Caps) → caps_after e c h.event ≡ c) → ((t : ThreadNo) → (d : Dealings) → spends limits e t d h ≡ false) → ((n : ℕ) → env_word_after e n h ≡ n)
    → EnvRefines limits e (events ++ h ∷ []) env
same_stands limits e events h env k c s n = record {
  caps = λ t. k.caps t ∙ sym (ap (λ d. d.caps) (dealings-snoc limits e t events h) ∙ c (dealings limits e t events).caps);
  spent = λ t l.
      let x = dealings-snoc limits e t events h in
      let y = s t (dealings limits e t events) in
      k.spent t l ∙ sym (ap (λ d. d.spent) x ∙ ap (λ b. cond b ((dealings limits e t events).spent + 1) (dealings limits e t events).spent) y);
  spent_count = k.spent_count;
  calls = k.calls;
  word = k.word ∙ sym (word-snoc e events h ∙ n (env_word e events));
}

agent_envs : (envs : List EnvValue) (threads : List ThreadState) (why : Option TiError) (other : StepResult)
    → (refused_or_else envs threads why other).envs ≡ cond (is_none why) other.envs envs
agent_envs envs threads None other = refl
agent_envs envs threads (Some error) other = refl

-- an environment that pays for a call, where it goes through
paid_stands : (limits : Limits) (e f : EnvNo) (u : ThreadNo) (events : List Happening) (h : Happening) (envs envs' : List EnvValue) (goes : Bool)
    → EnvRefines limits e events (env_at envs e) → e.0 < length envs → envs' ≡ cond goes (spending envs f u) envs
    → ((c : Caps) → caps_after e c h.event ≡ c) → ((n : ℕ) → env_word_after e n h ≡ n)
    → ((t : ThreadNo) → spends limits e t (dealings limits e t events) h ≡ (u.0 == t.0 && (f.0 == e.0) && goes))
    → (goes ≡ true → u.0 < limits.threads)
    → EnvRefines limits e (events ++ h ∷ []) (env_at envs' e)
paid_stands limits e f u events h envs envs' goes k there es c n s exists =
    elim (cases_Bool (f.0 == e.0 && goes)) [
      | inl on ↦
          let go : goes ≡ true = grind (arith, on) in
          let same : f.0 ≡ e.0 = grind (arith, nat_tests, on) in
          let z : f ≡ e = same_env f e same in
          let new : EnvValue = record (env_at envs e) { spent = slice_set (env_at envs e).spent u.0 (slice_index (env_at envs e).spent u.0 + 1) } in
          let q : env_at envs' e ≡ new = rw (es, go, z) (get_or-set_same envs e.0 new _ there) in
          let lu : u.0 < length (env_at envs e).spent = (let x = exists go in omega (arith, x, k.spent_count)) in
          rw q (record {
            caps = λ t. k.caps t ∙ sym (ap (λ d. d.caps) (dealings-snoc limits e t events h) ∙ c (dealings limits e t events).caps);
            spent = λ t l.
                let x = ap (λ d. d.spent) (dealings-snoc limits e t events h) in
                let y = s t in
                let kt = k.spent t l in
                elim (cases_eq u.0 t.0) [
                  | inl here ↦
                      let g = get_or-set_same (env_at envs e).spent u.0 (slice_index (env_at envs e).spent u.0 + 1) 0 lu in
                      grind (arith, nat_tests, x, y, kt, here, g, go, same)
                  | inr away ↦
                      let o : t.0 ≢ u.0 = λ p. away (sym p) in
                      let g = get_or-set_other (env_at envs e).spent u.0 t.0 (slice_index (env_at envs e).spent u.0 + 1) 0 o in
                      grind (arith, nat_tests, x, y, kt, away, g)
                ];
            spent_count = length-set (env_at envs e).spent u.0 (slice_index (env_at envs e).spent u.0 + 1) ∙ k.spent_count;
            calls = k.calls;
            word = k.word ∙ sym (word-snoc e events h ∙ n (env_word e events));
          })
      | inr off ↦
          let q : env_at envs' e ≡ env_at envs e =
          elim (cases_Bool goes) [
            | inl go ↦
                let other : f.0 ≢ e.0 = grind (arith, nat_tests, off, go) in
                let o : e.0 ≢ f.0 = λ p. other (sym p) in
                rw (es, go) (get_or-set_other envs f.0 e.0 _ _ o)
            | inr no_go ↦ rw (es, no_go) refl
          ] in
          rw q (record {
            caps = λ t. k.caps t ∙ sym (ap (λ d. d.caps) (dealings-snoc limits e t events h) ∙ c (dealings limits e t events).caps);
            spent = λ t l.
                let x = ap (λ d. d.spent) (dealings-snoc limits e t events h) in
                let y = s t in
                let kt = k.spent t l in
                grind (arith, nat_tests, x, y, kt, off);
            spent_count = k.spent_count;
            calls = k.calls;
            word = k.word ∙ sym (word-snoc e events h ∙ n (env_word e events));
          })
    ]

-- a capability call or a word of one environment
one_stands : (limits : Limits) (e f : EnvNo) (events : List Happening) (h : Happening) (envs envs' : List EnvValue) (new : EnvValue) → EnvRefines limits e events (env_at envs e) → e.0 < length envs
    → envs' ≡ slice_set envs f.0 new
    → (f.0 ≢ e.0 → ((c : Caps) → caps_after e c h.event ≡ c) × ((n : ℕ) → env_word_after e n h ≡ n))
    → ((t : ThreadNo) → (d : Dealings) → spends limits e t d h ≡ false)
    → (f.0 ≡ e.0 → EnvRefines limits e (events ++ h ∷ []) new)
    → EnvRefines limits e (events ++ h ∷ []) (env_at envs' e)
one_stands limits e f events h envs envs' new k there es away s here =
    elim (cases_eq f.0 e.0) [
      | inl same ↦
          let z : f ≡ e = same_env f e same in
          let q : env_at envs' e ≡ new = rw (es, z) (get_or-set_same envs e.0 new _ there) in
          rw q (here same)
      | inr other ↦
          let o : e.0 ≢ f.0 = λ p. other (sym p) in
          let q : env_at envs' e ≡ env_at envs e = rw es (get_or-set_other envs f.0 e.0 new _ o) in
          rw q (same_stands limits e events h (env_at envs e) k (away other).0 s (away other).1)
    ]

spends_is : (t u : ThreadNo) (e f : EnvNo) (why : Option TiError) (r : EnvNo → ThreadNo → Option TiError) → why ≡ r f u
    → (u.0 == t.0 && f.0 == e.0 && true && is_none (r e t)) ≡ (u.0 == t.0 && (f.0 == e.0) && is_none why)
spends_is t u e f why r h =
    elim (cases_eq u.0 t.0) [
      | inl here ↦
          elim (cases_eq f.0 e.0) [
            | inl same ↦
                let z : why ≡ r e t = h ∙ ap₂ r (same_env f e same) (same_thread t u here) in
                rw z (grind arith)
            | inr other ↦ grind (arith, nat_tests, other)
          ]
      | inr away ↦ grind (arith, nat_tests, away)
    ]

with_stands : (limits : Limits) (e f : EnvNo) (events : List Happening) (h : Happening) (envs envs' : List EnvValue) (new : EnvValue) → EnvRefines limits e events (env_at envs e) → e.0 < length envs
    → envs' ≡ cond (nat_lt f.0 (length envs)) (slice_set envs f.0 new) envs
    → (f.0 ≢ e.0 → ((c : Caps) → caps_after e c h.event ≡ c) × ((n : ℕ) → env_word_after e n h ≡ n))
    → ((t : ThreadNo) → (d : Dealings) → spends limits e t d h ≡ false)
    → (f.0 ≡ e.0 → EnvRefines limits e (events ++ h ∷ []) new)
    → EnvRefines limits e (events ++ h ∷ []) (env_at envs' e)
with_stands limits e f events h envs envs' new k there es away s here =
    elim (cases_Bool (nat_lt f.0 (length envs))) [
      | inl on ↦ one_stands limits e f events h envs envs' new k there (rw (es, on) refl) away s here
      | inr off ↦
          let o : f.0 ≢ e.0 = grind (arith, nat_tests, off, there) in
          let q : envs' ≡ envs = rw (es, off) refl in
          rw q (same_stands limits e events h (env_at envs e) k (away o).0 s (away o).1)
    ]

pub own_envs : (s : CoreState) (w : Bool) (event : Event) (u : ThreadNo) (x : Entry) → (stepped_own s.limits s.envs s.threads u x).envs ≡ s.envs
own_envs s w event u x = grind arith

-- what changes an environment's own parts
changed : (limits : Limits) (e : EnvNo) (events : List Happening) (h : Happening) (env new : EnvValue) → EnvRefines limits e events env
    → new.spent ≡ env.spent → new.limits.calls ≡ env.limits.calls
    → ((d : Dealings) → env.caps ≡ d.caps → new.caps ≡ caps_after e d.caps h.event)
    → ((n : ℕ) → env.word ≡ n → new.word ≡ env_word_after e n h)
    → ((t : ThreadNo) → (d : Dealings) → spends limits e t d h ≡ false)
    → EnvRefines limits e (events ++ h ∷ []) new
changed limits e events h env new k ns nc c n s = record {
  caps = λ t. c (dealings limits e t events) (k.caps t) ∙ sym (ap (λ d. d.caps) (dealings-snoc limits e t events h));
  spent = λ t l.
      let x = ap (λ d. d.spent) (dealings-snoc limits e t events h) in
      let y = s t (dealings limits e t events) in
      let z = ap (λ (b : Bool). cond b ((dealings limits e t events).spent + 1) (dealings limits e t events).spent) y in
      ap (λ (v : List ℕ). slice_index v t.0) ns ∙ k.spent t l ∙ sym (x ∙ z);
  spent_count = ap (λ (v : List ℕ). length v) ns ∙ k.spent_count;
  calls = nc ∙ k.calls;
  word = n (env_word e events) k.word ∙ sym (word-snoc e events h);
}

pub env_goes : (events : List Happening) (s : CoreState) (w : Bool) (event : Event) (e : EnvNo) → Refines events s → e.0 < s.limits.envs
    → EnvRefines s.limits e (events ++ happened event w ∷ []) (env_at (stepped_by s.limits s.envs s.threads w event).envs e)
env_goes events s w (Start u) e k l = rw (own_envs s w (Start u) u entry.Start) (same_stands s.limits e events (happened (Start u) w) (env_at s.envs e) (k.envs e l) (λ c. refl) (λ t d. refl) (λ n. refl))
env_goes events s w (Own u step) e k l = rw (own_envs s w (Own u step) u (entry.Own step)) (same_stands s.limits e events (happened (Own u step) w) (env_at s.envs e) (k.envs e l) (λ c. refl) (λ t d. refl) (λ n. refl))
env_goes events s w (ToNative u) e k l = rw (own_envs s w (ToNative u) u (entry.Hand Native)) (same_stands s.limits e events (happened (ToNative u) w) (env_at s.envs e) (k.envs e l) (λ c. refl) (λ t d. refl) (λ n. refl))
env_goes events s w (ToBlocked u kind) e k l = rw (own_envs s w (ToBlocked u kind) u (entry.Hand (Blocked kind))) (same_stands s.limits e events (happened (ToBlocked u kind) w) (env_at s.envs e) (k.envs e l) (λ c. refl) (λ t d. refl) (λ n. refl))
env_goes events s w (Back u) e k l = rw (own_envs s w (Back u) u entry.Back) (same_stands s.limits e events (happened (Back u) w) (env_at s.envs e) (k.envs e l) (λ c. refl) (λ t d. refl) (λ n. refl))
env_goes events s w (End u) e k l = rw (own_envs s w (End u) u entry.End) (same_stands s.limits e events (happened (End u) w) (env_at s.envs e) (k.envs e l) (λ c. refl) (λ t d. refl) (λ n. refl))
env_goes events s w (Poll u) e k l =
    let q : (stepped_poll s.limits s.envs s.threads u).envs ≡ s.envs = grind arith in
    rw q (same_stands s.limits e events (happened (Poll u) w) (env_at s.envs e) (k.envs e l) (λ c. refl) (λ t d. refl) (λ n. refl))
env_goes events s w (Ask f u c) e k l =
    let why = whys s w (Ask f u c) in
    paid_stands s.limits e f u events (happened (Ask f u c) w) s.envs _ (is_none why) (k.envs e l) (omega (arith, l, k.env_count)) (agent_envs s.envs s.threads why _) (λ c. refl) (λ n. refl)
    (λ t. spends_is t u e f why (λ g v. refusal_of s.limits (dealings s.limits g v events) w (Ask f u c)) (whys_is_ask events s w f u c k))
    (λ on. ask_there events s w f u c k on)
env_goes events s w (Stop f u) e k l =
    let why = whys s w (Stop f u) in
    paid_stands s.limits e f u events (happened (Stop f u) w) s.envs _ (is_none why) (k.envs e l) (omega (arith, l, k.env_count)) (agent_envs s.envs s.threads why _) (λ c. refl) (λ n. refl)
    (λ t. spends_is t u e f why (λ g v. refusal_of s.limits (dealings s.limits g v events) w (Stop f u)) (whys_is_stop events s w f u k))
    (λ on. stop_there events s w f u k on)
env_goes events s w (Read f u n) e k l =
    let why = whys s w (Read f u n) in
    paid_stands s.limits e f u events (happened (Read f u n) w) s.envs _ (is_none why) (k.envs e l) (omega (arith, l, k.env_count)) (agent_envs s.envs s.threads why _) (λ c. refl) (λ n. refl)
    (λ t. spends_is t u e f why (λ g v. refusal_of s.limits (dealings s.limits g v events) w (Read f u n)) (whys_is_read events s w f u n k))
    (λ on. read_there events s w f u n k on)
env_goes events s w (Go f u) e k l =
    let q : (stepped_by s.limits s.envs s.threads w (Go f u)).envs ≡ s.envs = agent_envs s.envs s.threads (whys s w (Go f u)) _ ∙ cond_same (is_none (whys s w (Go f u))) s.envs in
    rw q (same_stands s.limits e events (happened (Go f u) w) (env_at s.envs e) (k.envs e l) (λ c. refl) (λ t d. grind arith) (λ n. refl))
env_goes events s w (AddCaps f caps) e k l =
    let env = env_at s.envs f in
    let new : EnvValue = cond (can_be_had caps) (with_caps env (record { bits = bit_or env.caps.bits caps.bits })) env in
    let q : (stepped_by s.limits s.envs s.threads w (AddCaps f caps)).envs ≡ cond (nat_lt f.0 (length s.envs)) (slice_set s.envs f.0 new) s.envs = grind arith in
    with_stands s.limits e f events (happened (AddCaps f caps) w) s.envs _ new (k.envs e l) (omega (arith, l, k.env_count)) q
    (λ o. (λ c. grind (arith, nat_tests, o), λ n. refl)) (λ t d. refl)
    (λ same. rw (same_env f e same) (changed s.limits e events (happened (AddCaps e caps) w) (env_at s.envs e) _ (k.envs e l) (grind arith) (grind arith) (λ d h. grind (arith, nat_tests, h)) (λ n h. grind (arith, h)) (λ t d. refl)))
env_goes events s w (Relinquish f caps) e k l =
    let env = env_at s.envs f in
    let new : EnvValue = with_caps env (record { bits = env.caps.bits - bit_and env.caps.bits caps.bits }) in
    with_stands s.limits e f events (happened (Relinquish f caps) w) s.envs _ new (k.envs e l) (omega (arith, l, k.env_count)) (grind arith)
    (λ o. (λ c. grind (arith, nat_tests, o), λ n. refl)) (λ t d. refl)
    (λ same. rw (same_env f e same) (changed s.limits e events (happened (Relinquish e caps) w) (env_at s.envs e) _ (k.envs e l) refl refl (λ d h. grind (arith, nat_tests, h)) (λ n h. h) (λ t d. refl)))
env_goes events s w (GetCaps f) e k l = same_stands s.limits e events (happened (GetCaps f) w) (env_at s.envs e) (k.envs e l) (λ c. refl) (λ t d. refl) (λ n. refl)
env_goes events s w (SetEnvWord f v) e k l =
    let env = env_at s.envs f in
    let new : EnvValue = record env { word = v } in
    with_stands s.limits e f events (happened (SetEnvWord f v) w) s.envs _ new (k.envs e l) (omega (arith, l, k.env_count)) (grind arith)
    (λ o. (λ c. refl, λ n. grind (arith, nat_tests, o))) (λ t d. refl)
    (λ same. rw (same_env f e same) (changed s.limits e events (happened (SetEnvWord e v) w) (env_at s.envs e) _ (k.envs e l) refl refl (λ d h. h) (λ n h. grind (arith, nat_tests)) (λ t d. refl)))
env_goes events s w (GetEnvWord f) e k l = same_stands s.limits e events (happened (GetEnvWord f) w) (env_at s.envs e) (k.envs e l) (λ c. refl) (λ t d. refl) (λ n. refl)
