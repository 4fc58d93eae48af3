-- One environment's deeds in two runs.
use Rattle.std.proofs.Common.{◌≡◌, ◌≢◌, ℕ, ◌<◌, ◌==◌, Bool, true, false, if◌then◌else◌, List, [], ◌∷◌, ◌++◌, refl, ap, ap₂, sym, subst, ◌∙◌, arith, append_assoc, append-nil, eqb-true, Option, Some, None, inl, inr}
use Rattle.std.specs.Prelude.{is_some, slice_get, slice_set}
use Rattle.std.proofs.lemmas.Bool.{cases_Bool, cases_eq}
use Rattle.std.proofs.lemmas.Bool.Decides.{nat_tests}
use Rattle.ti_types.specs.Refusing.{or_else}
use Rattle.ti_types.specs.declared.answer.Answer.{Answer}
use Rattle.ti_types.specs.declared.call.Call.{Call}
use Rattle.ti_types.specs.declared.caps.Caps.{Caps}
use Rattle.ti_types.specs.declared.entry.Entry.{Entry}
use Rattle.ti_types.specs.declared.error.TiError.{TiError}
use Rattle.ti_types.specs.declared.error.TiError.TheVariants.{OutOfMemory}
use Rattle.ti_types.specs.declared.event.Ticket.{Ticket}
use Rattle.ti_types.specs.declared.limits.Limits.{Limits}
use Rattle.ti_types.specs.declared.numbers.EnvNo.{EnvNo}
use Rattle.ti_types.specs.declared.numbers.ThreadNo.{ThreadNo}
use Rattle.ti_env.specs.Env.{EnvValue, with_caps, with_spent}
use Rattle.ti_replay.specs.Admission.{takes_buffer}
use Rattle.ti_laws.specs.Concerns.{ConcernAlike}
use Rattle.ti_replay.specs.Makers.{StartsWith}
use Rattle.ti_slot.specs.declared.asked.Asked.{Asked as AskedOf}
use Rattle.ti_handshake.specs.Desk.{DeskState, DiscardsOf}
use Rattle.ti_agent.specs.Env.{Environment, IsWhole, place_in, place_of}
use Rattle.ti_agent.specs.Asks.{IsCalledBy, refusal_of}
use Rattle.ti_agent.specs.Posts.{posting_refusal}
use Rattle.ti_laws.specs.Agreement.{AreAlikeAt, HasSeen, KeepAlike}
use Rattle.ti_agent.specs.Deadlines.{DiscardsAt}
use Rattle.ti_laws.specs.Runs.{Told, Deed, Asks, Puts, Fails, Looks, Stops, Drops, Holds, Does, DoesAll, RunsAgree, SameDeed, TellIf, TellSame, is_at, is_by_chance}
use Rattle.ti_laws.proofs.AgreementLaws.{calls_agree, is_same, place_set, set_get}
use Rattle.ti_laws.proofs.PostingAlike.{cancels_agree, discarded_subject, discards_agree, discards_tell_alike, elsewhere_stays, get_other, looks_agree, post_refusals_agree, posts_agree}

never : false ≡ true → ⊥
never h = cc h

never_so : true ≡ false → ⊥
never_so h = cc h

-- alike, the other way round
alike_back : (x y : Option DeskState) → AreAlikeAt x y → AreAlikeAt y x
alike_back None None k = k
alike_back (Some p) (Some q) k = record { env = sym k.env; asked = sym k.asked; posted = sym k.posted; cancelled = sym k.cancelled }
alike_back None (Some q) k = absurd k
alike_back (Some p) None k = absurd k

keep_back : (t : ThreadNo) (one other : Environment) → KeepAlike t one other → KeepAlike t other one
keep_back t one other k =
    record { env = sym k.env; caps = sym k.caps; limits = sym k.limits; known = sym k.known; there = sym k.there; spent = sym k.spent; desks = alike_back (slice_get one.desks (place_in one.desks t)) (slice_get other.desks (place_in other.desks t)) k.desks }

-- a deed at another thread, of one run
asked_elsewhere : (r : Option TiError) (t u : ThreadNo) (c : Call) (a : Answer) (old new other : Environment) → u.0 ≢ t.0 → IsWhole old → IsCalledBy r old new u c a → KeepAlike t old other → KeepAlike t new other
asked_elsewhere None t u c a old new other n whole w k =
    elsewhere_stays t u old new other n whole (record { before = w.before; after = w.after; paid = true; there = w.there; about = w.about; subject = w.asks.goes.subject; new_is = w.new_is }) k
asked_elsewhere (Some e) t u c a old new other n whole w k = subst (λ (s : Environment). KeepAlike t s other) (sym w.0) k

not_there : (a b : ℕ) → (a == b) ≡ false → a ≢ b
not_there a b h e = let t : (a == b) ≡ true = grind (arith, nat_tests, e) in let bad : true ≡ false = sym t ∙ h in cc bad

else_stays : (t : ThreadNo) (x : Deed) (old new other : Environment) → is_at t x ≡ false → IsWhole old → Does x old new → KeepAlike t old other → ((caps : Caps) → x ≡ Holds caps → ⊥) → KeepAlike t new other
else_stays t (Asks u c a) old new other n whole w k no_caps = asked_elsewhere (refusal_of old u c a) t u c a old new other (not_there u.0 t.0 n) whole w k
else_stays t (Puts u c r) old new other n whole w k no_caps =
    let z = w.1 in
    elsewhere_stays t u old new other (not_there u.0 t.0 n) whole (record { before = z.before; after = z.after; paid = true; there = z.there; about = z.about; subject = z.hold.waits.goes.subject; new_is = z.new_is }) k
else_stays t (Fails u c e) old new other n whole w k no_caps = subst (λ (s : Environment). KeepAlike t s other) (sym w.0) k
else_stays t (Looks l r) old new other n whole w k no_caps =
    let z = w.1 in
    elsewhere_stays t l.thread old new other (not_there l.thread.0 t.0 n) whole (record { before = z.before; after = z.after; paid = false; there = z.there; about = z.about; subject = z.hold.waits.goes.subject; new_is = z.new_is }) k
else_stays t (Stops l) old new other n whole w k no_caps =
    elsewhere_stays t l.thread old new other (not_there l.thread.0 t.0 n) whole (record { before = w.before; after = w.after; paid = false; there = w.there; about = w.about; subject = w.hold.waits.goes.subject; new_is = w.new_is }) k
else_stays t (Drops u b) old new other n whole w k no_caps =
    let z = w.0 in
    elsewhere_stays t u old new other (not_there u.0 t.0 n) whole (record { before = z.before; after = z.after; paid = false; there = z.there; about = z.about; subject = discarded_subject z.before.cancelled z.before z.after (is_some b) z.discards; new_is = z.new_is }) k
else_stays t (Holds caps) old new other n whole w k no_caps = absurd (no_caps caps refl)

-- what the desk at a thread has seen only grows
abbrev Grows : ThreadNo → Environment → Environment → Type 0
Grows t old new = (p : DeskState) → slice_get old.desks (place_in old.desks t) ≡ Some p → (q : DeskState) × (slice_get new.desks (place_in new.desks t) ≡ Some q) × StartsWith q.view.seen p.view.seen

starts_self : (l : List Entry) → StartsWith l l
starts_self l = ([], sym (append-nil l))

starts_on : (h l m : List Entry) → StartsWith h l → StartsWith l m → StartsWith h m
starts_on h l m a b = (b.0 ++ a.0, a.1 ∙ ap (λ x. x ++ a.0) b.1 ∙ append_assoc m b.0 a.0)

grows_self : (t : ThreadNo) (old new : Environment) → new ≡ old → Grows t old new
grows_self t old new e = subst (λ (s : Environment). Grows t old s) (sym e) (λ p at. (p, at, starts_self p.view.seen))

-- where one desk was set
grows_set : (t u : ThreadNo) (old : Environment) (p q : DeskState) (state : EnvValue) → slice_get old.desks (place_in old.desks u) ≡ Some p → q.view.subject ≡ p.view.subject → StartsWith q.view.seen p.view.seen
    → Grows t old (record { env = old.env; state = state; desks = slice_set old.desks (place_in old.desks u) q })
grows_set t u old p q state at same begins r there =
    let i = place_in old.desks u in
    let j = place_in old.desks t in
    let place : place_in (slice_set old.desks i q) t ≡ j = place_set old.desks i p q t at same in
    elim (cases_eq i j) [
      | inl here ↦
          let is : p ≡ r = is_same p r (sym at ∙ ap (slice_get old.desks) here ∙ there) in
          (q, ap (slice_get (slice_set old.desks i q)) (place ∙ sym here) ∙ set_get old.desks i p q at, subst (λ (d : DeskState). StartsWith q.view.seen d.view.seen) is begins)
      | inr apart ↦ (r, ap (slice_get (slice_set old.desks i q)) place ∙ get_other old.desks i j q apart ∙ there, starts_self r.view.seen)
    ]

asked_grows : (r : Option TiError) (t u : ThreadNo) (c : Call) (a : Answer) (old new : Environment) → IsCalledBy r old new u c a → Grows t old new
asked_grows None t u c a old new w =
    subst (λ (s : Environment). Grows t old s) (sym w.new_is) (grows_set t u old w.before w.after (with_spent old.state (place_of old.desks u)) w.there w.asks.goes.subject w.asks.goes.begins)
asked_grows (Some e) t u c a old new w = grows_self t old new w.0

discard_begins : (l : List Ticket) (p q : DeskState) (b : Bool) → DiscardsOf l p q b → StartsWith q.view.seen p.view.seen
discard_begins [] p q b h = subst (λ (d : DeskState). StartsWith d.view.seen p.view.seen) (sym h.0) (starts_self p.view.seen)
discard_begins (first ∷ rest) p q b h = h.hold.waits.goes.begins

deed_grows : (t : ThreadNo) (x : Deed) (old new : Environment) → Does x old new → Grows t old new
deed_grows t (Asks u c a) old new w = asked_grows (refusal_of old u c a) t u c a old new w
deed_grows t (Puts u c r) old new w =
    let z = w.1 in
    subst (λ (s : Environment). Grows t old s) (sym z.new_is) (grows_set t u old z.before z.after (with_spent old.state (place_of old.desks u)) z.there z.hold.waits.goes.subject z.hold.waits.goes.begins)
deed_grows t (Fails u c e) old new w = grows_self t old new w.0
deed_grows t (Looks l r) old new w =
    let z = w.1 in
    subst (λ (s : Environment). Grows t old s) (sym z.new_is) (grows_set t l.thread old z.before z.after old.state z.there z.hold.waits.goes.subject z.hold.waits.goes.begins)
deed_grows t (Stops l) old new w =
    subst (λ (s : Environment). Grows t old s) (sym w.new_is) (grows_set t l.thread old w.before w.after old.state w.there w.hold.waits.goes.subject w.hold.waits.goes.begins)
deed_grows t (Drops u b) old new w =
    let z = w.0 in
    subst (λ (s : Environment). Grows t old s) (sym z.new_is) (grows_set t u old z.before z.after old.state z.there (discarded_subject z.before.cancelled z.before z.after (is_some b) z.discards) (discard_begins z.before.cancelled z.before z.after (is_some b) z.discards))
deed_grows t (Holds caps) old new w = subst (λ (s : Environment). Grows t old s) (sym w) (λ p at. (p, at, starts_self p.view.seen))

grows_on : (t : ThreadNo) (old mid new : Environment) → Grows t old mid → Grows t mid new → Grows t old new
grows_on t old mid new a b p at =
    let x = a p at in
    let y = b x.0 x.1 in
    (y.0, y.1, starts_on y.0.view.seen x.0.view.seen p.view.seen y.2 x.2)

all_grow : (t : ThreadNo) (xs : List Deed) (old new : Environment) → DoesAll xs old new → Grows t old new
all_grow t [] old new w = grows_self t old new w
all_grow t (x ∷ xs) old new w = grows_on t old w.0 new (deed_grows t x old w.0 w.2) (all_grow t xs w.0 new w.3)

-- so a beginning of the history was seen before, too
seen_before : (t : ThreadNo) (old new : Environment) (history : List Entry) → Grows t old new → HasSeen t new history → HasSeen t old history
seen_before t old new history g h p at = let x = g p at in starts_on history x.0.view.seen p.view.seen (h x.0 x.1) x.2

-- the environment is the same
same_env : (x : Deed) (old new : Environment) → Does x old new → (new.env ≡ old.env) × (new.state.limits ≡ old.state.limits)
same_env (Asks u c a) old new w = asked_env (refusal_of old u c a) u c a old new w
  where
    asked_env : (r : Option TiError) (u : ThreadNo) (c : Call) (a : Answer) (old new : Environment) → IsCalledBy r old new u c a → (new.env ≡ old.env) × (new.state.limits ≡ old.state.limits)
    asked_env None u c a old new w = (ap (λ (s : Environment). s.env) w.new_is, ap (λ (s : Environment). s.state.limits) w.new_is)
    asked_env (Some e) u c a old new w = (ap (λ (s : Environment). s.env) w.0, ap (λ (s : Environment). s.state.limits) w.0)
same_env (Puts u c r) old new w = (ap (λ (s : Environment). s.env) w.1.new_is, ap (λ (s : Environment). s.state.limits) w.1.new_is)
same_env (Fails u c e) old new w = (ap (λ (s : Environment). s.env) w.0, ap (λ (s : Environment). s.state.limits) w.0)
same_env (Looks l r) old new w = (ap (λ (s : Environment). s.env) w.1.new_is, ap (λ (s : Environment). s.state.limits) w.1.new_is)
same_env (Stops l) old new w = (ap (λ (s : Environment). s.env) w.new_is, ap (λ (s : Environment). s.state.limits) w.new_is)
same_env (Drops u b) old new w = (ap (λ (s : Environment). s.env) w.0.new_is, ap (λ (s : Environment). s.state.limits) w.0.new_is)
same_env (Holds caps) old new w = (ap (λ (s : Environment). s.env) w, ap (λ (s : Environment). s.state.limits) w)

-- what one deed comes to in two runs, at its own thread
record Both (one one_new other other_new : Environment) (history other_history : List Entry) : Type 0 where
  whole : IsWhole one
  other_whole : IsWhole other
  there : one.env.0 < one.state.limits.envs
  same : ConcernAlike one.env history other_history

abbrev Agree : ThreadNo → Deed → Deed → Environment → Environment → Environment → Environment → List Entry → List Entry → Type 0
Agree t x y one one_new other other_new history other_history =
    KeepAlike t one other → HasSeen t one_new history → HasSeen t other_new other_history → TellSame x y × KeepAlike t one_new other_new

same_error : (e f : TiError) → Some e ≡ Some f → e ≡ f
same_error e f h = cc h

none_or : (r s : Option TiError) (e : TiError) → Some e ≡ or_else r s → r ≡ None → Some e ≡ s
none_or None s e h k = h
none_or (Some x) s e h k = cc k

for_memory : (b : Bool) (e : TiError) → Some e ≡ (if b then Some OutOfMemory else None) → e ≡ OutOfMemory
for_memory true e h = same_error e OutOfMemory h
for_memory false e h = cc h

-- a post that came through would not have failed but by chance
not_failed : (t : ThreadNo) (c : Call) (s new : Environment) (e : TiError) → Does (Fails t c e) s new → posting_refusal s t c ≡ None → is_by_chance e ≡ true
not_failed t c s new e w none =
    elim w.1 [
      | inl h ↦ ap is_by_chance (for_memory (takes_buffer c) e (none_or (posting_refusal s t c) (if takes_buffer c then Some OutOfMemory else None) e h none))
      | inr h ↦ ap is_by_chance h.0
    ]

-- two that failed have one reason
failed_alike : (t : ThreadNo) (c : Call) (s u sn un : Environment) (e f : TiError) → Does (Fails t c e) s sn → Does (Fails t c f) u un → posting_refusal s t c ≡ posting_refusal u t c
    → is_by_chance e ≡ is_by_chance f → (is_by_chance e ≡ true → e ≡ f) → e ≡ f
failed_alike t c s u sn un e f w z same chance if_so =
    elim (cases_Bool (is_by_chance e)) [
      | inl yes_so ↦ if_so yes_so
      | inr not_so ↦
          elim w.1 [
            | inl h ↦
                elim z.1 [
                  | inl k ↦ same_error e f (h ∙ ap (λ r. or_else r (if takes_buffer c then Some OutOfMemory else None)) same ∙ sym k)
                  | inr k ↦ let bad : true ≡ false = sym (ap is_by_chance k.0) ∙ sym chance ∙ not_so in cc bad
                ]
            | inr h ↦ let bad : true ≡ false = sym (ap is_by_chance h.0) ∙ not_so in cc bad
          ]
    ]

keep_caps : (t : ThreadNo) (one other : Environment) (a b : Caps) → a ≡ b → KeepAlike t one other
    → KeepAlike t (record { env = one.env; state = with_caps one.state a; desks = one.desks }) (record { env = other.env; state = with_caps other.state b; desks = other.desks })
keep_caps t one other a b e k = record { env = k.env; caps = e; limits = k.limits; known = k.known; there = k.there; spent = k.spent; desks = k.desks }

same_thread : (u t : ThreadNo) → (u.0 == t.0) ≡ true → u ≡ t
same_thread u t h = ap (λ (n : ℕ). record { 0 = n }) (eqb-true _ _ h)

here_asks : (v : ThreadNo) (t : ThreadNo) (c : Call) (a : Answer) (u : ThreadNo) (d : Call) (b : Answer) (one one_new other other_new : Environment) (history other_history : List Entry) → is_at v (Asks t c a) ≡ true → Both one one_new other other_new history other_history → SameDeed (Asks t c a) (Asks u d b) → Does (Asks t c a) one one_new → Does (Asks u d b) other other_new → Agree v (Asks t c a) (Asks u d b) one one_new other other_new history other_history
here_asks v t c a u d b one one_new other other_new history other_history at both same w z =
    let z2 : Does (Asks t c b) other other_new = subst (λ (q : ThreadNo). Does (Asks q c b) other other_new) (sym same.0) (subst (λ q. Does (Asks u q b) other other_new) (sym same.1) z) in
    subst (λ (q : ThreadNo). Agree q (Asks t c a) (Asks u d b) one one_new other other_new history other_history) (same_thread t v at)
    (λ k seen other_seen. calls_agree t c one one_new other other_new a b history other_history both.whole both.other_whole both.there k w z2 same.2 seen other_seen both.same)

here_puts : (v : ThreadNo) (t : ThreadNo) (c : Call) (r : AskedOf) (u : ThreadNo) (d : Call) (x : AskedOf) (one one_new other other_new : Environment) (history other_history : List Entry) → is_at v (Puts t c r) ≡ true → Both one one_new other other_new history other_history → SameDeed (Puts t c r) (Puts u d x) → Does (Puts t c r) one one_new → Does (Puts u d x) other other_new → Agree v (Puts t c r) (Puts u d x) one one_new other other_new history other_history
here_puts v t c r u d x one one_new other other_new history other_history at both same w z =
    let z2 : Does (Puts t c x) other other_new = subst (λ (q : ThreadNo). Does (Puts q c x) other other_new) (sym same.0) (subst (λ q. Does (Puts u q x) other other_new) (sym same.1) z) in
    subst (λ (q : ThreadNo). Agree q (Puts t c r) (Puts u d x) one one_new other other_new history other_history) (same_thread t v at)
    (λ k seen other_seen. posts_agree t c one one_new other other_new r x history other_history both.whole both.other_whole both.there k w.1 z2.1 seen other_seen both.same)

here_puts_fails : (v : ThreadNo) (t : ThreadNo) (c : Call) (r : AskedOf) (u : ThreadNo) (d : Call) (f : TiError) (one one_new other other_new : Environment) (history other_history : List Entry) → is_at v (Puts t c r) ≡ true → Both one one_new other other_new history other_history → SameDeed (Puts t c r) (Fails u d f) → Does (Puts t c r) one one_new → Does (Fails u d f) other other_new → Agree v (Puts t c r) (Fails u d f) one one_new other other_new history other_history
here_puts_fails v t c r u d f one one_new other other_new history other_history at both same w z =
    let z2 : Does (Fails t c f) other other_new = subst (λ (q : ThreadNo). Does (Fails q c f) other other_new) (sym same.0) (subst (λ q. Does (Fails u q f) other other_new) (sym same.1) z) in
    subst (λ (q : ThreadNo). Agree q (Puts t c r) (Fails u d f) one one_new other other_new history other_history) (same_thread t v at)
    (λ k seen other_seen. let bad : true ≡ false = sym (not_failed t c other other_new f z2 (sym (post_refusals_agree t c one other k) ∙ w.0)) ∙ same.2 in absurd (never_so bad))

here_fails_puts : (v : ThreadNo) (t : ThreadNo) (c : Call) (e : TiError) (u : ThreadNo) (d : Call) (x : AskedOf) (one one_new other other_new : Environment) (history other_history : List Entry) → is_at v (Fails t c e) ≡ true → Both one one_new other other_new history other_history → SameDeed (Fails t c e) (Puts u d x) → Does (Fails t c e) one one_new → Does (Puts u d x) other other_new → Agree v (Fails t c e) (Puts u d x) one one_new other other_new history other_history
here_fails_puts v t c e u d x one one_new other other_new history other_history at both same w z =
    let z2 : Does (Puts t c x) other other_new = subst (λ (q : ThreadNo). Does (Puts q c x) other other_new) (sym same.0) (subst (λ q. Does (Puts u q x) other other_new) (sym same.1) z) in
    subst (λ (q : ThreadNo). Agree q (Fails t c e) (Puts u d x) one one_new other other_new history other_history) (same_thread t v at)
    (λ k seen other_seen. let bad : true ≡ false = sym (not_failed t c one one_new e w (post_refusals_agree t c one other k ∙ z2.0)) ∙ same.2 in absurd (never_so bad))

here_fails : (v : ThreadNo) (t : ThreadNo) (c : Call) (e : TiError) (u : ThreadNo) (d : Call) (f : TiError) (one one_new other other_new : Environment) (history other_history : List Entry) → is_at v (Fails t c e) ≡ true → Both one one_new other other_new history other_history → SameDeed (Fails t c e) (Fails u d f) → Does (Fails t c e) one one_new → Does (Fails u d f) other other_new → Agree v (Fails t c e) (Fails u d f) one one_new other other_new history other_history
here_fails v t c e u d f one one_new other other_new history other_history at both same w z =
    let z2 : Does (Fails t c f) other other_new = subst (λ (q : ThreadNo). Does (Fails q c f) other other_new) (sym same.0) (subst (λ q. Does (Fails u q f) other other_new) (sym same.1) z) in
    subst (λ (q : ThreadNo). Agree q (Fails t c e) (Fails u d f) one one_new other other_new history other_history) (same_thread t v at)
    (λ k seen other_seen. (
      failed_alike t c one other one_new other_new e f w z2 (post_refusals_agree t c one other k) same.2 same.3,
      subst (λ (s : Environment). KeepAlike t s other_new) (sym w.0) (subst (λ (s : Environment). KeepAlike t one s) (sym z2.0) k),
    ))

here_looks : (v : ThreadNo) (k : Ticket) (r : Option Answer) (l : Ticket) (x : Option Answer) (one one_new other other_new : Environment) (history other_history : List Entry) → is_at v (Looks k r) ≡ true → Both one one_new other other_new history other_history → SameDeed (Looks k r) (Looks l x) → Does (Looks k r) one one_new → Does (Looks l x) other other_new → Agree v (Looks k r) (Looks l x) one one_new other other_new history other_history
here_looks v k r l x one one_new other other_new history other_history at both same w z =
    let z2 : Does (Looks k x) other other_new = subst (λ (q : Ticket). Does (Looks q x) other other_new) (sym same.0) z in
    subst (λ (q : ThreadNo). Agree q (Looks k r) (Looks l x) one one_new other other_new history other_history) (same_thread k.thread v at)
    (λ keep seen other_seen. looks_agree k one one_new other other_new r x history other_history both.whole both.other_whole w.0 both.there keep w.1 z2.1 same.1 seen other_seen both.same)

here_stops : (v : ThreadNo) (k : Ticket) (l : Ticket) (one one_new other other_new : Environment) (history other_history : List Entry) → is_at v (Stops k) ≡ true → Both one one_new other other_new history other_history → SameDeed (Stops k) (Stops l) → Does (Stops k) one one_new → Does (Stops l) other other_new → Agree v (Stops k) (Stops l) one one_new other other_new history other_history
here_stops v k l one one_new other other_new history other_history at both same w z =
    let z2 : Does (Stops k) other other_new = subst (λ (q : Ticket). Does (Stops q) other other_new) (sym same) z in
    subst (λ (q : ThreadNo). Agree q (Stops k) (Stops l) one one_new other other_new history other_history) (same_thread k.thread v at)
    (λ keep seen other_seen. (tt, cancels_agree k one one_new other other_new both.whole both.other_whole keep w z2))

-- what two discardings of one thread tell
told_alike : (t : ThreadNo) (r x : Option Told) (one one_new other other_new : Environment) (history other_history : List Entry) → Both one one_new other other_new history other_history → is_some r ≡ is_some x
    → Does (Drops t r) one one_new → Does (Drops t x) other other_new → KeepAlike t one other → HasSeen t one_new history → HasSeen t other_new other_history → r ≡ x
told_alike t None None one one_new other other_new history other_history both marks w z keep seen other_seen = refl
told_alike t None (Some y) one one_new other other_new history other_history both marks w z keep seen other_seen = cc marks
told_alike t (Some y) None one one_new other other_new history other_history both marks w z keep seen other_seen = cc marks
told_alike t (Some y) (Some y2) one one_new other other_new history other_history both marks w z keep seen other_seen =
    let same = discards_tell_alike t one one_new other other_new y.0 y2.0 y.1 y2.1 history other_history both.whole both.other_whole w.1.0 both.there keep w.0 z.0 w.1.1 z.1.1 seen other_seen both.same in
    ap₂ (λ (k : Ticket) (a : Answer). Some (k, a)) same.0 same.1

here_drops : (v : ThreadNo) (t : ThreadNo) (b : Option Told) (u : ThreadNo) (d : Option Told) (one one_new other other_new : Environment) (history other_history : List Entry) → is_at v (Drops t b) ≡ true → Both one one_new other other_new history other_history → SameDeed (Drops t b) (Drops u d) → Does (Drops t b) one one_new → Does (Drops u d) other other_new → Agree v (Drops t b) (Drops u d) one one_new other other_new history other_history
here_drops v t b u d one one_new other other_new history other_history at both same w z =
    let z2 : Does (Drops t d) other other_new = subst (λ (q : ThreadNo). Does (Drops q d) other other_new) (sym same.0) z in
    let z3 : DiscardsAt other other_new t (is_some b) = subst (DiscardsAt other other_new t) (sym same.1) z2.0 in
    subst (λ (q : ThreadNo). Agree q (Drops t b) (Drops u d) one one_new other other_new history other_history) (same_thread t v at)
    (λ keep seen other_seen. (
      told_alike t b d one one_new other other_new history other_history both same.1 w z2 keep seen other_seen,
      discards_agree t one one_new other other_new (is_some b) both.whole both.other_whole keep w.0 z3,
    ))

-- a deed at its own thread
deed_here : (t : ThreadNo) (x y : Deed) (one one_new other other_new : Environment) (history other_history : List Entry)
    → is_at t x ≡ true → Both one one_new other other_new history other_history → SameDeed x y → Does x one one_new → Does y other other_new
    → Agree t x y one one_new other other_new history other_history
deed_here v (Asks t c a) (Asks u d b) one one_new other other_new history other_history at both same w z = here_asks v t c a u d b one one_new other other_new history other_history at both same w z
deed_here v (Asks t c a) (Puts u d x) one one_new other other_new history other_history at both same w z = absurd same
deed_here v (Asks t c a) (Fails u d f) one one_new other other_new history other_history at both same w z = absurd same
deed_here v (Asks t c a) (Looks l x) one one_new other other_new history other_history at both same w z = absurd same
deed_here v (Asks t c a) (Stops l) one one_new other other_new history other_history at both same w z = absurd same
deed_here v (Asks t c a) (Drops u g) one one_new other other_new history other_history at both same w z = absurd same
deed_here v (Asks t c a) (Holds cs) one one_new other other_new history other_history at both same w z = absurd same
deed_here v (Puts t c r) (Asks u d g) one one_new other other_new history other_history at both same w z = absurd same
deed_here v (Puts t c r) (Puts u d x) one one_new other other_new history other_history at both same w z = here_puts v t c r u d x one one_new other other_new history other_history at both same w z
deed_here v (Puts t c r) (Fails u d f) one one_new other other_new history other_history at both same w z = here_puts_fails v t c r u d f one one_new other other_new history other_history at both same w z
deed_here v (Puts t c r) (Looks l x) one one_new other other_new history other_history at both same w z = absurd same
deed_here v (Puts t c r) (Stops l) one one_new other other_new history other_history at both same w z = absurd same
deed_here v (Puts t c r) (Drops u g) one one_new other other_new history other_history at both same w z = absurd same
deed_here v (Puts t c r) (Holds cs) one one_new other other_new history other_history at both same w z = absurd same
deed_here v (Fails t c e) (Asks u d g) one one_new other other_new history other_history at both same w z = absurd same
deed_here v (Fails t c e) (Puts u d x) one one_new other other_new history other_history at both same w z = here_fails_puts v t c e u d x one one_new other other_new history other_history at both same w z
deed_here v (Fails t c e) (Fails u d f) one one_new other other_new history other_history at both same w z = here_fails v t c e u d f one one_new other other_new history other_history at both same w z
deed_here v (Fails t c e) (Looks l x) one one_new other other_new history other_history at both same w z = absurd same
deed_here v (Fails t c e) (Stops l) one one_new other other_new history other_history at both same w z = absurd same
deed_here v (Fails t c e) (Drops u g) one one_new other other_new history other_history at both same w z = absurd same
deed_here v (Fails t c e) (Holds cs) one one_new other other_new history other_history at both same w z = absurd same
deed_here v (Looks k r) (Asks u d g) one one_new other other_new history other_history at both same w z = absurd same
deed_here v (Looks k r) (Puts u d x) one one_new other other_new history other_history at both same w z = absurd same
deed_here v (Looks k r) (Fails u d f) one one_new other other_new history other_history at both same w z = absurd same
deed_here v (Looks k r) (Looks l x) one one_new other other_new history other_history at both same w z = here_looks v k r l x one one_new other other_new history other_history at both same w z
deed_here v (Looks k r) (Stops l) one one_new other other_new history other_history at both same w z = absurd same
deed_here v (Looks k r) (Drops u g) one one_new other other_new history other_history at both same w z = absurd same
deed_here v (Looks k r) (Holds cs) one one_new other other_new history other_history at both same w z = absurd same
deed_here v (Stops k) (Asks u d g) one one_new other other_new history other_history at both same w z = absurd same
deed_here v (Stops k) (Puts u d x) one one_new other other_new history other_history at both same w z = absurd same
deed_here v (Stops k) (Fails u d f) one one_new other other_new history other_history at both same w z = absurd same
deed_here v (Stops k) (Looks l x) one one_new other other_new history other_history at both same w z = absurd same
deed_here v (Stops k) (Stops l) one one_new other other_new history other_history at both same w z = here_stops v k l one one_new other other_new history other_history at both same w z
deed_here v (Stops k) (Drops u g) one one_new other other_new history other_history at both same w z = absurd same
deed_here v (Stops k) (Holds cs) one one_new other other_new history other_history at both same w z = absurd same
deed_here v (Drops t b) (Asks u d g) one one_new other other_new history other_history at both same w z = absurd same
deed_here v (Drops t b) (Puts u d x) one one_new other other_new history other_history at both same w z = absurd same
deed_here v (Drops t b) (Fails u d f) one one_new other other_new history other_history at both same w z = absurd same
deed_here v (Drops t b) (Looks l x) one one_new other other_new history other_history at both same w z = absurd same
deed_here v (Drops t b) (Stops l) one one_new other other_new history other_history at both same w z = absurd same
deed_here v (Drops t b) (Drops u d) one one_new other other_new history other_history at both same w z = here_drops v t b u d one one_new other other_new history other_history at both same w z
deed_here v (Drops t b) (Holds cs) one one_new other other_new history other_history at both same w z = absurd same
deed_here v (Holds caps) (Asks u d g) one one_new other other_new history other_history at both same w z = absurd same
deed_here v (Holds caps) (Puts u d x) one one_new other other_new history other_history at both same w z = absurd same
deed_here v (Holds caps) (Fails u d f) one one_new other other_new history other_history at both same w z = absurd same
deed_here v (Holds caps) (Looks l x) one one_new other other_new history other_history at both same w z = absurd same
deed_here v (Holds caps) (Stops l) one one_new other other_new history other_history at both same w z = absurd same
deed_here v (Holds caps) (Drops u g) one one_new other other_new history other_history at both same w z = absurd same
deed_here v (Holds caps) (Holds cs) one one_new other other_new history other_history at both same w z = absurd (never at)

-- what is alike at the threads of both deeds
abbrev at_same : ThreadNo → Deed → Deed → Type 0
at_same t x y = is_at t y ≡ is_at t x

same_at : (t : ThreadNo) (x y : Deed) → SameDeed x y → at_same t x y
same_at v (Asks t c a) (Asks u d g) same = ap (λ (q : ThreadNo). q.0 == v.0) (sym same.0)
same_at v (Asks t c a) (Puts u d x) same = absurd same
same_at v (Asks t c a) (Fails u d f) same = absurd same
same_at v (Asks t c a) (Looks l x) same = absurd same
same_at v (Asks t c a) (Stops l) same = absurd same
same_at v (Asks t c a) (Drops u g) same = absurd same
same_at v (Asks t c a) (Holds cs) same = absurd same
same_at v (Puts t c r) (Asks u d g) same = absurd same
same_at v (Puts t c r) (Puts u d x) same = ap (λ (q : ThreadNo). q.0 == v.0) (sym same.0)
same_at v (Puts t c r) (Fails u d f) same = ap (λ (q : ThreadNo). q.0 == v.0) (sym same.0)
same_at v (Puts t c r) (Looks l x) same = absurd same
same_at v (Puts t c r) (Stops l) same = absurd same
same_at v (Puts t c r) (Drops u g) same = absurd same
same_at v (Puts t c r) (Holds cs) same = absurd same
same_at v (Fails t c e) (Asks u d g) same = absurd same
same_at v (Fails t c e) (Puts u d x) same = ap (λ (q : ThreadNo). q.0 == v.0) (sym same.0)
same_at v (Fails t c e) (Fails u d f) same = ap (λ (q : ThreadNo). q.0 == v.0) (sym same.0)
same_at v (Fails t c e) (Looks l x) same = absurd same
same_at v (Fails t c e) (Stops l) same = absurd same
same_at v (Fails t c e) (Drops u g) same = absurd same
same_at v (Fails t c e) (Holds cs) same = absurd same
same_at v (Looks k r) (Asks u d g) same = absurd same
same_at v (Looks k r) (Puts u d x) same = absurd same
same_at v (Looks k r) (Fails u d f) same = absurd same
same_at v (Looks k r) (Looks l x) same = ap (λ (q : Ticket). q.thread.0 == v.0) (sym same.0)
same_at v (Looks k r) (Stops l) same = absurd same
same_at v (Looks k r) (Drops u g) same = absurd same
same_at v (Looks k r) (Holds cs) same = absurd same
same_at v (Stops k) (Asks u d g) same = absurd same
same_at v (Stops k) (Puts u d x) same = absurd same
same_at v (Stops k) (Fails u d f) same = absurd same
same_at v (Stops k) (Looks l x) same = absurd same
same_at v (Stops k) (Stops l) same = ap (λ (q : Ticket). q.thread.0 == v.0) (sym same)
same_at v (Stops k) (Drops u g) same = absurd same
same_at v (Stops k) (Holds cs) same = absurd same
same_at v (Drops t b) (Asks u d g) same = absurd same
same_at v (Drops t b) (Puts u d x) same = absurd same
same_at v (Drops t b) (Fails u d f) same = absurd same
same_at v (Drops t b) (Looks l x) same = absurd same
same_at v (Drops t b) (Stops l) same = absurd same
same_at v (Drops t b) (Drops u g) same = ap (λ (q : ThreadNo). q.0 == v.0) (sym same.0)
same_at v (Drops t b) (Holds cs) same = absurd same
same_at v (Holds caps) (Asks u d g) same = absurd same
same_at v (Holds caps) (Puts u d x) same = absurd same
same_at v (Holds caps) (Fails u d f) same = absurd same
same_at v (Holds caps) (Looks l x) same = absurd same
same_at v (Holds caps) (Stops l) same = absurd same
same_at v (Holds caps) (Drops u g) same = absurd same
same_at v (Holds caps) (Holds cs) same = refl

-- a deed elsewhere, or about capabilities
abbrev is_holds : Deed → Bool
is_holds (Holds caps) = true
is_holds x = false

no_holds : (x : Deed) → is_holds x ≡ false → (caps : Caps) → x ≡ Holds caps → ⊥
no_holds x h caps e = let bad : true ≡ false = sym (ap is_holds e) ∙ h in cc bad

same_holds : (x y : Deed) → SameDeed x y → is_holds y ≡ is_holds x
same_holds (Asks t c a) (Asks u d g) same = refl
same_holds (Asks t c a) (Puts u d x) same = absurd same
same_holds (Asks t c a) (Fails u d f) same = absurd same
same_holds (Asks t c a) (Looks l x) same = absurd same
same_holds (Asks t c a) (Stops l) same = absurd same
same_holds (Asks t c a) (Drops u g) same = absurd same
same_holds (Asks t c a) (Holds cs) same = absurd same
same_holds (Puts t c r) (Asks u d g) same = absurd same
same_holds (Puts t c r) (Puts u d x) same = refl
same_holds (Puts t c r) (Fails u d f) same = refl
same_holds (Puts t c r) (Looks l x) same = absurd same
same_holds (Puts t c r) (Stops l) same = absurd same
same_holds (Puts t c r) (Drops u g) same = absurd same
same_holds (Puts t c r) (Holds cs) same = absurd same
same_holds (Fails t c e) (Asks u d g) same = absurd same
same_holds (Fails t c e) (Puts u d x) same = refl
same_holds (Fails t c e) (Fails u d f) same = refl
same_holds (Fails t c e) (Looks l x) same = absurd same
same_holds (Fails t c e) (Stops l) same = absurd same
same_holds (Fails t c e) (Drops u g) same = absurd same
same_holds (Fails t c e) (Holds cs) same = absurd same
same_holds (Looks k r) (Asks u d g) same = absurd same
same_holds (Looks k r) (Puts u d x) same = absurd same
same_holds (Looks k r) (Fails u d f) same = absurd same
same_holds (Looks k r) (Looks l x) same = refl
same_holds (Looks k r) (Stops l) same = absurd same
same_holds (Looks k r) (Drops u g) same = absurd same
same_holds (Looks k r) (Holds cs) same = absurd same
same_holds (Stops k) (Asks u d g) same = absurd same
same_holds (Stops k) (Puts u d x) same = absurd same
same_holds (Stops k) (Fails u d f) same = absurd same
same_holds (Stops k) (Looks l x) same = absurd same
same_holds (Stops k) (Stops l) same = refl
same_holds (Stops k) (Drops u g) same = absurd same
same_holds (Stops k) (Holds cs) same = absurd same
same_holds (Drops t b) (Asks u d g) same = absurd same
same_holds (Drops t b) (Puts u d x) same = absurd same
same_holds (Drops t b) (Fails u d f) same = absurd same
same_holds (Drops t b) (Looks l x) same = absurd same
same_holds (Drops t b) (Stops l) same = absurd same
same_holds (Drops t b) (Drops u g) same = refl
same_holds (Drops t b) (Holds cs) same = absurd same
same_holds (Holds caps) (Asks u d g) same = absurd same
same_holds (Holds caps) (Puts u d x) same = absurd same
same_holds (Holds caps) (Fails u d f) same = absurd same
same_holds (Holds caps) (Looks l x) same = absurd same
same_holds (Holds caps) (Stops l) same = absurd same
same_holds (Holds caps) (Drops u g) same = absurd same
same_holds (Holds caps) (Holds cs) same = refl

holds_alike : (t : ThreadNo) (x y : Deed) (one one_new other other_new : Environment) → is_holds x ≡ true → SameDeed x y → Does x one one_new → Does y other other_new → KeepAlike t one other → KeepAlike t one_new other_new
holds_alike v (Asks t c a) (Asks u d g) one one_new other other_new h same w z keep = absurd (never h)
holds_alike v (Asks t c a) (Puts u d x) one one_new other other_new h same w z keep = absurd (never h)
holds_alike v (Asks t c a) (Fails u d f) one one_new other other_new h same w z keep = absurd (never h)
holds_alike v (Asks t c a) (Looks l x) one one_new other other_new h same w z keep = absurd (never h)
holds_alike v (Asks t c a) (Stops l) one one_new other other_new h same w z keep = absurd (never h)
holds_alike v (Asks t c a) (Drops u g) one one_new other other_new h same w z keep = absurd (never h)
holds_alike v (Asks t c a) (Holds cs) one one_new other other_new h same w z keep = absurd (never h)
holds_alike v (Puts t c r) (Asks u d g) one one_new other other_new h same w z keep = absurd (never h)
holds_alike v (Puts t c r) (Puts u d x) one one_new other other_new h same w z keep = absurd (never h)
holds_alike v (Puts t c r) (Fails u d f) one one_new other other_new h same w z keep = absurd (never h)
holds_alike v (Puts t c r) (Looks l x) one one_new other other_new h same w z keep = absurd (never h)
holds_alike v (Puts t c r) (Stops l) one one_new other other_new h same w z keep = absurd (never h)
holds_alike v (Puts t c r) (Drops u g) one one_new other other_new h same w z keep = absurd (never h)
holds_alike v (Puts t c r) (Holds cs) one one_new other other_new h same w z keep = absurd (never h)
holds_alike v (Fails t c e) (Asks u d g) one one_new other other_new h same w z keep = absurd (never h)
holds_alike v (Fails t c e) (Puts u d x) one one_new other other_new h same w z keep = absurd (never h)
holds_alike v (Fails t c e) (Fails u d f) one one_new other other_new h same w z keep = absurd (never h)
holds_alike v (Fails t c e) (Looks l x) one one_new other other_new h same w z keep = absurd (never h)
holds_alike v (Fails t c e) (Stops l) one one_new other other_new h same w z keep = absurd (never h)
holds_alike v (Fails t c e) (Drops u g) one one_new other other_new h same w z keep = absurd (never h)
holds_alike v (Fails t c e) (Holds cs) one one_new other other_new h same w z keep = absurd (never h)
holds_alike v (Looks k r) (Asks u d g) one one_new other other_new h same w z keep = absurd (never h)
holds_alike v (Looks k r) (Puts u d x) one one_new other other_new h same w z keep = absurd (never h)
holds_alike v (Looks k r) (Fails u d f) one one_new other other_new h same w z keep = absurd (never h)
holds_alike v (Looks k r) (Looks l x) one one_new other other_new h same w z keep = absurd (never h)
holds_alike v (Looks k r) (Stops l) one one_new other other_new h same w z keep = absurd (never h)
holds_alike v (Looks k r) (Drops u g) one one_new other other_new h same w z keep = absurd (never h)
holds_alike v (Looks k r) (Holds cs) one one_new other other_new h same w z keep = absurd (never h)
holds_alike v (Stops k) (Asks u d g) one one_new other other_new h same w z keep = absurd (never h)
holds_alike v (Stops k) (Puts u d x) one one_new other other_new h same w z keep = absurd (never h)
holds_alike v (Stops k) (Fails u d f) one one_new other other_new h same w z keep = absurd (never h)
holds_alike v (Stops k) (Looks l x) one one_new other other_new h same w z keep = absurd (never h)
holds_alike v (Stops k) (Stops l) one one_new other other_new h same w z keep = absurd (never h)
holds_alike v (Stops k) (Drops u g) one one_new other other_new h same w z keep = absurd (never h)
holds_alike v (Stops k) (Holds cs) one one_new other other_new h same w z keep = absurd (never h)
holds_alike v (Drops t b) (Asks u d g) one one_new other other_new h same w z keep = absurd (never h)
holds_alike v (Drops t b) (Puts u d x) one one_new other other_new h same w z keep = absurd (never h)
holds_alike v (Drops t b) (Fails u d f) one one_new other other_new h same w z keep = absurd (never h)
holds_alike v (Drops t b) (Looks l x) one one_new other other_new h same w z keep = absurd (never h)
holds_alike v (Drops t b) (Stops l) one one_new other other_new h same w z keep = absurd (never h)
holds_alike v (Drops t b) (Drops u g) one one_new other other_new h same w z keep = absurd (never h)
holds_alike v (Drops t b) (Holds cs) one one_new other other_new h same w z keep = absurd (never h)
holds_alike v (Holds caps) (Asks u d g) one one_new other other_new h same w z keep = absurd same
holds_alike v (Holds caps) (Puts u d x) one one_new other other_new h same w z keep = absurd same
holds_alike v (Holds caps) (Fails u d f) one one_new other other_new h same w z keep = absurd same
holds_alike v (Holds caps) (Looks l x) one one_new other other_new h same w z keep = absurd same
holds_alike v (Holds caps) (Stops l) one one_new other other_new h same w z keep = absurd same
holds_alike v (Holds caps) (Drops u g) one one_new other other_new h same w z keep = absurd same
holds_alike v (Holds caps) (Holds cs) one one_new other other_new h same w z keep =
    subst (λ (s : Environment). KeepAlike v s other_new) (sym w) (subst (λ (s : Environment). KeepAlike v (record { env = one.env; state = with_caps one.state caps; desks = one.desks }) s) (sym z) (keep_caps v one other caps cs same keep))

else_alike : (t : ThreadNo) (x y : Deed) (one one_new other other_new : Environment) → is_at t x ≡ false → IsWhole one → IsWhole other → SameDeed x y → Does x one one_new → Does y other other_new → KeepAlike t one other → KeepAlike t one_new other_new
else_alike t x y one one_new other other_new at whole other_whole same w z k =
    elim (cases_Bool (is_holds x)) [
      | inl holds ↦ holds_alike t x y one one_new other other_new holds same w z k
      | inr none ↦
          let first : KeepAlike t one_new other = else_stays t x one one_new other at whole w k (no_holds x none) in
          keep_back t other_new one_new (else_stays t y other other_new one_new (same_at t x y same ∙ at) other_whole z (keep_back t one_new other first) (no_holds y (same_holds x y same ∙ none)))
    ]

tell_if : (b : Bool) (x y : Deed) → b ≡ true → TellSame x y → TellIf b x y
tell_if true x y h k = k
tell_if false x y h k = absurd (never h)

tell_not : (b : Bool) (x y : Deed) → b ≡ false → TellIf b x y
tell_not true x y h = absurd (never_so h)
tell_not false x y h = tt

pub runs_agree : RunsAgree
runs_agree t [] [] one one_end other other_end history other_history there k same w z seen other_seen concerns =
    (tt, subst (λ (s : Environment). KeepAlike t s other_end) (sym w) (subst (λ (s : Environment). KeepAlike t one s) (sym z) k))
runs_agree t [] (y ∷ ys) one one_end other other_end history other_history there k same w z seen other_seen concerns = absurd same
runs_agree t (x ∷ xs) [] one one_end other other_end history other_history there k same w z seen other_seen concerns = absurd same
runs_agree t (x ∷ xs) (y ∷ ys) one one_end other other_end history other_history there k same w z seen other_seen concerns =
    let mid = w.0 in
    let other_mid = z.0 in
    let mid_seen : HasSeen t mid history = seen_before t mid one_end history (all_grow t xs mid one_end w.3) seen in
    let other_mid_seen : HasSeen t other_mid other_history = seen_before t other_mid other_end other_history (all_grow t ys other_mid other_end z.3) other_seen in
    let e = same_env x one mid w.2 in
    let there_on : mid.env.0 < mid.state.limits.envs = omega (arith, there, ap (λ (n : EnvNo). n.0) e.0, ap (λ (l : Limits). l.envs) e.1) in
    let concerns_on : ConcernAlike mid.env history other_history = subst (λ (n : EnvNo). ConcernAlike n history other_history) (sym e.0) concerns in
    elim (cases_Bool (is_at t x)) [
      | inl here ↦
          let now = deed_here t x y one mid other other_mid history other_history here (record { whole = w.1; other_whole = z.1; there = there; same = concerns }) same.0 w.2 z.2 k mid_seen other_mid_seen in
          let rest = runs_agree t xs ys mid one_end other_mid other_end history other_history there_on now.1 same.1 w.3 z.3 seen other_seen concerns_on in
          ((tell_if (is_at t x) x y here now.0, rest.0), rest.1)
      | inr apart ↦
          let kept : KeepAlike t mid other_mid = else_alike t x y one mid other other_mid apart w.1 z.1 same.0 w.2 z.2 k in
          let rest = runs_agree t xs ys mid one_end other_mid other_end history other_history there_on kept same.1 w.3 z.3 seen other_seen concerns_on in
          ((tell_not (is_at t x) x y apart, rest.0), rest.1)
    ]
