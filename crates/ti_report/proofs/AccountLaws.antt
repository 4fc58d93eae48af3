-- An account goes on with its agent's doings.
use Rattle.std.proofs.Common.{◌≡◌, ◌≢◌, ℕ, ◌+◌, ◌<◌, ◌≤◌, Bool, true, false, ◌&&◌, ◌==◌, nat_lt, List, [], ◌∷◌, ◌++◌, length, refl, ap, ap₂, sym, ◌∙◌, arith, if◌then◌else◌, Option, Some, None, is_none, slice_get, slice_index, slice_set, get_or-set_same, get_or-set_other, length-set, inl, inr, ltb-true, append_assoc, append-nil}
use Rattle.std.proofs.lemmas.Bool.Decides.{nat_tests}
use Rattle.std.proofs.lemmas.Bool.{cases_eq, cases_Bool}
use Rattle.std.proofs.lemmas.List.Sums.{fold-append}
use Rattle.ti_types.specs.declared.limits.Limits.{Limits}
use Rattle.ti_types.specs.declared.numbers.EnvNo.{EnvNo}
use Rattle.ti_types.specs.declared.numbers.ThreadNo.{ThreadNo}
use Rattle.ti_types.specs.declared.caps.Caps.{Caps}
use Rattle.ti_types.specs.declared.entry.Entry.{Entry}
use Rattle.ti_types.specs.declared.event.Event.{Event}
use Rattle.ti_types.specs.declared.answer.Answer.{Answer}
use Rattle.ti_types.specs.declared.event.Event.TheVariants.{Start, Own, Poll, ToNative, ToBlocked, Back, End, Ask, Stop, Read, Go, AddCaps, Relinquish, GetCaps, SetEnvWord, GetEnvWord}
use Rattle.ti_types.specs.Limits.{most_calls}
use Rattle.ti_replay.specs.Admission.{Happening, Dealings, caps_after, dealings, refusal_of, is_paid, is_aimed_at, is_by, agent_of}
use Rattle.ti_replay.specs.Legal.{calls_spent}
use Rattle.ti_replay.specs.Outcomes.{out_of, env_word, env_word_after}
use Rattle.ti_replay.proofs.AgreementLaws.{dealings-snoc, caps_are}
use Rattle.ti_report.specs.Told.{thread_of, is_due, is_about_env, given_by, refused_or_got, got_by, why, uses, uses_from, used, is_call, told, got, history_at}
use Rattle.ti_report.specs.Books.{Row}
use Rattle.ti_report.specs.Accounts.{IsWithin, AccountValue, Accounts, ArePages, why_now, counted, accounted, told_now, own_answer}

-- one more at a thread keeps an account within its bounds
set_spent : (spent : List ℕ) (i k : ℕ) → i < length spent → ((k : ℕ) → slice_index spent k ≤ most_calls) → slice_index spent i < most_calls
    → slice_index (slice_set spent i (slice_index spent i + 1)) k ≤ most_calls
set_spent spent i k there few less =
    elim (cases_eq k i) [
      | inl same ↦ rw same (omega (arith, get_or-set_same spent i (slice_index spent i + 1) 0 there, less))
      | inr other ↦ omega (arith, get_or-set_other spent i k (slice_index spent i + 1) 0 other, few k)
    ]

pub within_spent : (used spent : List ℕ) (i : ℕ) → IsWithin used spent → i < length spent → slice_index spent i < most_calls
    → IsWithin used (slice_set spent i (slice_index spent i + 1))
within_spent used spent i w there room = record {
  alike = w.alike ∙ sym (length-set spent i (slice_index spent i + 1));
  few = λ k. set_spent spent i k there w.few room;
}

pub within_used : (used spent : List ℕ) (i : ℕ) → IsWithin used spent → IsWithin (slice_set used i (slice_index used i + 1)) spent
within_used used spent i w = record {
  alike = length-set used i (slice_index used i + 1) ∙ w.alike;
  few = w.few;
}

same_thread : (t u : ThreadNo) → u.0 ≡ t.0 → u ≡ t
same_thread t u h = ap (λ (n : ℕ). record { 0 = n }) h

-- ---- why an event does not reach its thread

why_there : (limits : Limits) (e : EnvNo) (done : List Happening) (a : AccountValue) (w : Bool) (x : Event) → Accounts limits e done a → (thread_of x).0 < limits.threads
    → why_now limits a w x ≡ refusal_of limits (dealings limits e (thread_of x) done) w x
why_there limits e done a w x k there =
    ap₂ (λ (c : Caps) (s : ℕ). refusal_of limits (record { caps = c; spent = s }) w x) (k.caps (thread_of x)) (k.spent (thread_of x) there)

-- at a thread that is not there
why_gone : (limits : Limits) (c : Caps) (s r : ℕ) (w : Bool) (x : Event) → nat_lt (thread_of x).0 limits.threads ≡ false
    → refusal_of limits (record { caps = c; spent = s }) w x ≡ refusal_of limits (record { caps = c; spent = r }) w x
why_gone limits c s r w (Start t) h = refl
why_gone limits c s r w (Own t step) h = refl
why_gone limits c s r w (Poll t) h = refl
why_gone limits c s r w (ToNative t) h = refl
why_gone limits c s r w (ToBlocked t kind) h = refl
why_gone limits c s r w (Back t) h = refl
why_gone limits c s r w (End t) h = refl
why_gone limits c s r w (Ask e t call) h = grind (arith, h)
why_gone limits c s r w (Stop e t) h = grind (arith, h)
why_gone limits c s r w (Read e t n) h = grind (arith, h)
why_gone limits c s r w (Go e t) h = grind (arith, h)
why_gone limits c s r w (AddCaps e caps) h = refl
why_gone limits c s r w (Relinquish e caps) h = refl
why_gone limits c s r w (GetCaps e) h = refl
why_gone limits c s r w (SetEnvWord e word) h = refl
why_gone limits c s r w (GetEnvWord e) h = refl

pub why_is : (limits : Limits) (e : EnvNo) (done : List Happening) (a : AccountValue) (w : Bool) (x : Event) → Accounts limits e done a
    → why_now limits a w x ≡ why limits e done (record { event = x; wanting = w })
why_is limits e done a w x k =
    elim (cases_Bool (nat_lt (thread_of x).0 limits.threads)) [
      | inl there ↦ why_there limits e done a w x k (ltb-true _ _ there)
      | inr gone ↦
          why_gone limits a.caps (slice_index a.spent (thread_of x).0) (dealings limits e (thread_of x) done).spent w x gone
          ∙ ap (λ c. refusal_of limits (record { caps = c; spent = (dealings limits e (thread_of x) done).spent }) w x) (k.caps (thread_of x))
    ]

-- ---- what it has done goes on by one

pub used-snoc : (limits : Limits) (e : EnvNo) (t : ThreadNo) (front done : List Happening) (h : Happening)
    → uses_from limits e t front (done ++ h ∷ []) ≡ uses_from limits e t front done + uses limits e t (front ++ done) h
used-snoc limits e t front [] h = rw append-nil (omega arith)
used-snoc limits e t front (g ∷ done) h =
    let q : (front ++ g ∷ []) ++ done ≡ front ++ (g ∷ done) = append_assoc front (g ∷ []) done in
    let r = used-snoc limits e t (front ++ g ∷ []) done h in
    let s = ap (λ l. uses limits e t l h) q in
    omega (arith, r, s)

word-snoc : (e : EnvNo) (done : List Happening) (h : Happening) → env_word e (done ++ h ∷ []) ≡ env_word_after e (env_word e done) h
word-snoc e done h = fold-append (env_word_after e) 0 done (h ∷ [])

-- a number by thread that goes up at one thread, where an event reaches it
counts : (numbers : List ℕ) (goes : Bool) (u t n : ℕ) → t < length numbers → slice_index numbers t ≡ n
    → slice_index (counted goes numbers u) t ≡ (if (u == t) && goes then n + 1 else n)
counts numbers goes u t n there is =
    elim (cases_eq u t) [
      | inl same ↦
          elim (cases_Bool goes) [
            | inl yes' ↦
                let g = get_or-set_same numbers t (slice_index numbers t + 1) 0 there in
                grind (arith, nat_tests, same, yes', g, is)
            | inr no' ↦ grind (arith, nat_tests, same, no', is)
          ]
      | inr other ↦
          let o : t ≢ u = λ p. other (sym p) in
          elim (cases_Bool goes) [
            | inl yes' ↦
                let g = get_or-set_other numbers u t (slice_index numbers u + 1) 0 o in
                grind (arith, nat_tests, other, yes', g, is)
            | inr no' ↦ grind (arith, nat_tests, other, no', is)
          ]
    ]

count_same : (numbers : List ℕ) (goes : Bool) (u : ℕ) → length (counted goes numbers u) ≡ length numbers
count_same numbers true u = length-set numbers u (slice_index numbers u + 1)
count_same numbers false u = refl

-- of this agent
abbrev pub IsBy : EnvNo → Event → Type 0
IsBy e x = agent_of x ≡ Some e

spent_goes : (limits : Limits) (e : EnvNo) (done : List Happening) (a : AccountValue) (w : Bool) (x : Event) (t : ThreadNo) → Accounts limits e done a → t.0 < limits.threads
    → ((u : ThreadNo) → is_paid x && is_aimed_at u x && is_by e x ≡ (is_paid x && ((thread_of x).0 == u.0)))
    → slice_index (accounted limits a w x).spent t.0 ≡ (dealings limits e t (done ++ record { event = x; wanting = w } ∷ [])).spent
spent_goes limits e done a w x t k l aimed =
    let h : Happening = record { event = x; wanting = w } in
    let snoc = ap (λ d. d.spent) (dealings-snoc limits e t done h) in
    let there : t.0 < length a.spent = omega (arith, l, k.spent_count) in
    let up = counts a.spent (is_paid x && is_none (why_now limits a w x)) (thread_of x).0 t.0 (dealings limits e t done).spent there (k.spent t l) in
    let paid = aimed t in
    let y = why_is limits e done a w x k in
    elim (cases_eq (thread_of x).0 t.0) [
      | inl same ↦
          let z : thread_of x ≡ t = same_thread t (thread_of x) same in
          let r : refusal_of limits (dealings limits e (thread_of x) done) w x ≡ refusal_of limits (dealings limits e t done) w x = ap (λ u. refusal_of limits (dealings limits e u done) w x) z in
          grind (arith, nat_tests, snoc, up, paid, y, r, same)
      | inr other ↦ grind (arith, nat_tests, snoc, up, paid, other)
    ]

used_goes : (limits : Limits) (e : EnvNo) (done : List Happening) (a : AccountValue) (w : Bool) (x : Event) (t : ThreadNo) → Accounts limits e done a → t.0 < limits.threads
    → ((u : ThreadNo) → is_call x && is_aimed_at u x ≡ (is_call x && ((thread_of x).0 == u.0)))
    → slice_index (accounted limits a w x).used t.0 ≡ used limits e t (done ++ record { event = x; wanting = w } ∷ [])
used_goes limits e done a w x t k l aimed =
    let h : Happening = record { event = x; wanting = w } in
    let snoc = used-snoc limits e t [] done h in
    let there : t.0 < length a.used = omega (arith, l, k.used_count) in
    let up = counts a.used (is_call x && is_none (why_now limits a w x)) (thread_of x).0 t.0 (used limits e t done) there (k.used t l) in
    let asks = aimed t in
    let y = why_is limits e done a w x k in
    grind (arith, nat_tests, snoc, up, asks, y)

goes : (limits : Limits) (e : EnvNo) (done : List Happening) (a : AccountValue) (w : Bool) (x : Event) → Accounts limits e done a
    → ((u : ThreadNo) → is_paid x && is_aimed_at u x && is_by e x ≡ (is_paid x && ((thread_of x).0 == u.0)))
    → ((u : ThreadNo) → is_call x && is_aimed_at u x ≡ (is_call x && ((thread_of x).0 == u.0)))
    → Accounts limits e (done ++ record { event = x; wanting = w } ∷ []) (accounted limits a w x)
goes limits e done a w x k paid asks =
    let h : Happening = record { event = x; wanting = w } in
    record {
      env = k.env;
      caps = λ t. ap₂ (λ (f : EnvNo) (c : Caps). caps_after f c x) k.env (k.caps t) ∙ sym (ap (λ d. d.caps) (dealings-snoc limits e t done h));
      word = ap₂ (λ (f : EnvNo) (n : ℕ). env_word_after f n h) k.env k.word ∙ sym (word-snoc e done h);
      spent_count = count_same a.spent (is_paid x && is_none (why_now limits a w x)) (thread_of x).0 ∙ k.spent_count;
      spent = λ t l. spent_goes limits e done a w x t k l paid;
      used_count = count_same a.used (is_call x && is_none (why_now limits a w x)) (thread_of x).0 ∙ k.used_count;
      used = λ t l. used_goes limits e done a w x t k l asks;
    }

-- the account goes on with each doing of its agent
pub accounts_go : (limits : Limits) (e : EnvNo) (done : List Happening) (a : AccountValue) (w : Bool) (x : Event) → IsBy e x → Accounts limits e done a
    → Accounts limits e (done ++ record { event = x; wanting = w } ∷ []) (accounted limits a w x)
accounts_go limits e done a w (Start t) by k = goes limits e done a w (Start t) k (λ u. refl) (λ u. refl)
accounts_go limits e done a w (Own t step) by k = goes limits e done a w (Own t step) k (λ u. refl) (λ u. refl)
accounts_go limits e done a w (Poll t) by k = goes limits e done a w (Poll t) k (λ u. refl) (λ u. refl)
accounts_go limits e done a w (ToNative t) by k = goes limits e done a w (ToNative t) k (λ u. refl) (λ u. refl)
accounts_go limits e done a w (ToBlocked t kind) by k = goes limits e done a w (ToBlocked t kind) k (λ u. refl) (λ u. refl)
accounts_go limits e done a w (Back t) by k = goes limits e done a w (Back t) k (λ u. refl) (λ u. refl)
accounts_go limits e done a w (End t) by k = goes limits e done a w (End t) k (λ u. refl) (λ u. refl)
accounts_go limits e done a w (Ask f t call) by k = let z : f ≡ e = cc by in rw z (goes limits e done a w (Ask e t call) k (λ u. grind (arith, nat_tests)) (λ u. refl))
accounts_go limits e done a w (Stop f t) by k = let z : f ≡ e = cc by in rw z (goes limits e done a w (Stop e t) k (λ u. grind (arith, nat_tests)) (λ u. refl))
accounts_go limits e done a w (Read f t n) by k = let z : f ≡ e = cc by in rw z (goes limits e done a w (Read e t n) k (λ u. grind (arith, nat_tests)) (λ u. refl))
accounts_go limits e done a w (Go f t) by k = goes limits e done a w (Go f t) k (λ u. refl) (λ u. refl)
accounts_go limits e done a w (AddCaps f caps) by k = goes limits e done a w (AddCaps f caps) k (λ u. refl) (λ u. refl)
accounts_go limits e done a w (Relinquish f caps) by k = goes limits e done a w (Relinquish f caps) k (λ u. refl) (λ u. refl)
accounts_go limits e done a w (GetCaps f) by k = goes limits e done a w (GetCaps f) k (λ u. refl) (λ u. refl)
accounts_go limits e done a w (SetEnvWord f word) by k = goes limits e done a w (SetEnvWord f word) k (λ u. refl) (λ u. refl)
accounts_go limits e done a w (GetEnvWord f) by k = goes limits e done a w (GetEnvWord f) k (λ u. refl) (λ u. refl)

-- ---- what it is told

refused_gone : (limits : Limits) (d : Dealings) (w : Bool) (x : Event) (m n : ℕ) (p q : Option Answer) → is_call x ≡ true → nat_lt (thread_of x).0 limits.threads ≡ false
    → refused_or_got (refusal_of limits d w x) (is_due limits.calls m) p ≡ refused_or_got (refusal_of limits d w x) (is_due limits.calls n) q
refused_gone limits d w (Ask e t call) m n p q h gone = grind (arith, gone)
refused_gone limits d w (Read e t r) m n p q h gone = grind (arith, gone)
refused_gone limits d w (Start t) m n p q h gone = cc
refused_gone limits d w (Own t step) m n p q h gone = cc
refused_gone limits d w (Poll t) m n p q h gone = cc
refused_gone limits d w (ToNative t) m n p q h gone = cc
refused_gone limits d w (ToBlocked t kind) m n p q h gone = cc
refused_gone limits d w (Back t) m n p q h gone = cc
refused_gone limits d w (End t) m n p q h gone = cc
refused_gone limits d w (Stop e t) m n p q h gone = grind (arith, gone)
refused_gone limits d w (Go e t) m n p q h gone = grind (arith, gone)
refused_gone limits d w (AddCaps e caps) m n p q h gone = cc
refused_gone limits d w (Relinquish e caps) m n p q h gone = cc
refused_gone limits d w (GetCaps e) m n p q h gone = cc
refused_gone limits d w (SetEnvWord e word) m n p q h gone = cc
refused_gone limits d w (GetEnvWord e) m n p q h gone = cc

asked_told : (limits : Limits) (histories : List (List Entry)) (e : EnvNo) (pages : ℕ → List Row × ℕ) (done : List Happening) (a : AccountValue) (w : Bool) (x : Event)
    → is_call x ≡ true → ArePages limits histories e pages → Accounts limits e done a
    → told_now limits pages a w x ≡ told limits histories e done (record { event = x; wanting = w })
asked_told limits histories e pages done a w x q are k =
    let t = thread_of x in
    let h : Happening = record { event = x; wanting = w } in
    let y = why_is limits e done a w x k in
    let all = calls_spent e (history_at histories t) in
    let m = got_by x (slice_get (pages t.0).0 (slice_index a.used t.0)) in
    let n = got_by x (slice_get (got limits e (history_at histories t)) (used limits e t done)) in
    let same : refused_or_got (why_now limits a w x) (is_due limits.calls (pages t.0).1) m ≡ refused_or_got (why limits e done h) (is_due limits.calls all) n =
    ap (λ r. refused_or_got r (is_due limits.calls (pages t.0).1) m) y ∙
    elim (cases_Bool (nat_lt t.0 limits.threads)) [
      | inl there ↦
          let l : t.0 < limits.threads = ltb-true _ _ there in
          ap₂ (λ (i : ℕ) (b : Option Answer). refused_or_got (why limits e done h) (is_due limits.calls i) b) (are t l).1
          (ap₂ (λ (r : List Row) (i : ℕ). got_by x (slice_get r i)) (are t l).0 (k.used t l))
      | inr gone ↦ refused_gone limits (dealings limits e t done) w x (pages t.0).1 all m n q gone
    ] in
    ap (λ b. if b then refused_or_got (why_now limits a w x) (is_due limits.calls (pages t.0).1) m else own_answer a x) q ∙ same
    ∙ sym (ap (λ b. if b then refused_or_got (why limits e done h) (is_due limits.calls all) n else (if is_about_env x then given_by (out_of limits done done h) else None)) q)

-- what an event is told is what the account says
pub told_is : (limits : Limits) (histories : List (List Entry)) (e : EnvNo) (pages : ℕ → List Row × ℕ) (done : List Happening) (a : AccountValue) (w : Bool) (x : Event)
    → e.0 < limits.envs → IsBy e x → ArePages limits histories e pages → Accounts limits e done a
    → told_now limits pages a w x ≡ told limits histories e done (record { event = x; wanting = w })
told_is limits histories e pages done a w (Ask f t call) there by are k = asked_told limits histories e pages done a w (Ask f t call) refl are k
told_is limits histories e pages done a w (Read f t n) there by are k = asked_told limits histories e pages done a w (Read f t n) refl are k
told_is limits histories e pages done a w (Start t) there by are k = refl
told_is limits histories e pages done a w (Own t step) there by are k = refl
told_is limits histories e pages done a w (Poll t) there by are k = refl
told_is limits histories e pages done a w (ToNative t) there by are k = refl
told_is limits histories e pages done a w (ToBlocked t kind) there by are k = refl
told_is limits histories e pages done a w (Back t) there by are k = refl
told_is limits histories e pages done a w (End t) there by are k = refl
told_is limits histories e pages done a w (Stop f t) there by are k = asked_told limits histories e pages done a w (Stop f t) refl are k
told_is limits histories e pages done a w (Go f t) there by are k = asked_told limits histories e pages done a w (Go f t) refl are k
told_is limits histories e pages done a w (AddCaps f caps) there by are k = let z : f ≡ e = cc by in rw z (grind (arith, nat_tests, there))
told_is limits histories e pages done a w (Relinquish f caps) there by are k = let z : f ≡ e = cc by in rw z (grind (arith, nat_tests, there))
told_is limits histories e pages done a w (GetCaps f) there by are k =
    let z : f ≡ e = cc by in
    rw z (grind (arith, nat_tests, there, k.caps (record { 0 = 0 }), caps_are limits e (record { 0 = 0 }) done))
told_is limits histories e pages done a w (SetEnvWord f word) there by are k = let z : f ≡ e = cc by in rw z (grind (arith, nat_tests, there))
told_is limits histories e pages done a w (GetEnvWord f) there by are k =
    let z : f ≡ e = cc by in
    rw z (grind (arith, nat_tests, there, k.word))
