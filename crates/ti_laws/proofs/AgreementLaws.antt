-- A call of one environment in two runs.
use Rattle.std.proofs.Common.{◌≡◌, ℕ, zero, suc, ◌+◌, ◌<◌, ◌==◌, ◌&&◌, not, nat_lt, if◌then◌else◌, List, [], ◌∷◌, length, length-set, refl, ap, ap₂, sym, subst, ◌∙◌, arith, Option, Some, None}
use Rattle.std.specs.Prelude.{slice_get, slice_index, slice_set}
use Rattle.std.proofs.lemmas.Bool.Decides.{nat_tests}
use Rattle.std.proofs.lemmas.List.Sums.{sum_by-append}
use Rattle.ti_types.specs.declared.answer.Answer.{Answer}
use Rattle.ti_types.specs.declared.answer.Answer.TheVariants as answer
use Rattle.ti_types.specs.declared.call.Call.{Call}
use Rattle.ti_types.specs.declared.entry.Entry.{Entry}
use Rattle.ti_types.specs.declared.entry.Entry.TheVariants.{Asked}
use Rattle.ti_types.specs.declared.error.TiError.{TiError}
use Rattle.ti_types.specs.declared.error.TiError.TheVariants.{OutOfMemory}
use Rattle.ti_types.specs.declared.limits.Limits.{Limits}
use Rattle.ti_types.specs.declared.numbers.EnvNo.{EnvNo}
use Rattle.ti_types.specs.declared.numbers.ThreadNo.{ThreadNo}
use Rattle.ti_types.specs.Admitting.{asking_refusal}
use Rattle.ti_types.specs.Refusing.{or_else, unless}
use Rattle.ti_env.specs.Env.{call_refusal, is_there, spent_at, with_spent}
use Rattle.ti_replay.specs.Admission.{takes_buffer}
use Rattle.ti_laws.specs.Concerns.{ConcernAlike, WasAnswered}
use Rattle.ti_replay.specs.Legal.{asked_by, ask_count}
use Rattle.ti_replay.specs.Makers.{StartsWith}
use Rattle.ti_laws.proofs.ConcernLaws.{answers_agree}
use Rattle.ti_agent.specs.Asks.{Asks, IsCalledBy, Went, refusal_of}
use Rattle.ti_handshake.specs.Desk.{DeskState}
use Rattle.ti_agent.specs.Env.{Environment, IsWhole, map_error, place_in, place_of, told}
use Rattle.ti_cell.specs.declared.view.Subject.{Subject}
use Rattle.ti_laws.specs.Agreement.{AreAlike, AreAlikeAt, CallsAgree, HasSeen, KeepAlike, RefusalsAgree}

pub told_same : (known other : ℕ) (t : ThreadNo) (r : Option TiError) → nat_lt t.0 known ≡ nat_lt t.0 other → told known t r ≡ told other t r
told_same known other t None h = refl
told_same known other t (Some e) h = ap (λ b. Some (map_error b e)) h

pub refusals_agree : RefusalsAgree
refusals_agree t c one other k =
    let x = place_of one.desks t in
    let y = place_of other.desks t in
    let by : call_refusal one.state x c ≡ call_refusal other.state y c =
    ap (λ h. asking_refusal h (is_there one.state x) (spent_at one.state x) one.state.limits.calls c) k.caps
    ∙ ap₂ (λ b n. asking_refusal other.state.caps b n one.state.limits.calls c) k.there k.spent
    ∙ ap (λ (l : Limits). asking_refusal other.state.caps (is_there other.state y) (spent_at other.state y) l.calls c) k.limits in
    ap (told one.state.known t) by ∙ told_same one.state.known other.state.known t (call_refusal other.state y c) k.known

pub alike_at : (x y : Option DeskState) (p q : DeskState) → x ≡ Some p → y ≡ Some q → AreAlikeAt x y → AreAlike p q
alike_at x y p q h k a = subst (λ z. AreAlikeAt (Some p) z) k (subst (λ z. AreAlikeAt z y) h a)

pub is_same : (x y : DeskState) → Some x ≡ Some y → x ≡ y
is_same x y e = cc

pub place_set : (l : List DeskState) (i : ℕ) (p q : DeskState) (t : ThreadNo) → slice_get l i ≡ Some p → q.view.subject ≡ p.view.subject → place_in (slice_set l i q) t ≡ place_in l t
place_set [] i p q t at same = refl
place_set (x ∷ l) zero p q t at same =
    let number : q.view.subject.thread.0 ≡ x.view.subject.thread.0 = ap (λ (s : Subject). s.thread.0) same ∙ ap (λ (y : DeskState). y.view.subject.thread.0) (sym (is_same x p at)) in
    ap (λ (n : ℕ). if n == t.0 then 0 else suc (place_in l t)) number
place_set (x ∷ l) (suc i) p q t at same = ap (λ (n : ℕ). if x.view.subject.thread.0 == t.0 then 0 else suc n) (place_set l i p q t at same)

pub set_get : (l : List DeskState) (i : ℕ) (p q : DeskState) → slice_get l i ≡ Some p → slice_get (slice_set l i q) i ≡ Some q
set_get [] i p q at = cc
set_get (x ∷ l) zero p q at = refl
set_get (x ∷ l) (suc i) p q at = set_get l i p q at

pub set_same : (l : List ℕ) (i v : ℕ) → i < length l → slice_index (slice_set l i v) i ≡ v
set_same [] i v h = absurd (omega (arith, h))
set_same (x ∷ xs) zero v h = refl
set_same (x ∷ xs) (suc i) v h = set_same xs i v (omega (arith, h))

pub is_within : (l : List DeskState) (i : ℕ) (p : DeskState) → slice_get l i ≡ Some p → i < length l
is_within [] i p at = absurd (none at)
  where
    none : slice_get [] i ≡ Some p → ⊥
    none e = cc
is_within (x ∷ l) zero p at = omega arith
is_within (x ∷ l) (suc i) p at = omega (arith, is_within l i p at)

-- the new environment as it is, with its desk at the thread where it was
pub record After (old new : Environment) (t : ThreadNo) (p : DeskState) : Type 0 where
  pub env : new.env ≡ old.env
  pub caps : new.state.caps ≡ old.state.caps
  pub limits : new.state.limits ≡ old.state.limits
  pub known : new.state.known ≡ old.state.known
  pub there : is_there new.state (place_of new.desks t) ≡ is_there old.state (place_of old.desks t)
  pub spent : spent_at new.state (place_of new.desks t) ≡ spent_at old.state (place_of old.desks t) + 1
  pub desk : slice_get new.desks (place_in new.desks t) ≡ Some p

after_went : (old new : Environment) (t : ThreadNo) (c : Call) (a : Answer) (w : Went old new t c a) → IsWhole old → After old new t w.after
after_went old new t c a w whole =
    let i = place_in old.desks t in
    let desks = slice_set old.desks i w.after in
    let state = with_spent old.state (place_of old.desks t) in
    let made : Environment = record { env = old.env; state = state; desks = desks } in
    let place : place_in desks t ≡ i = place_set old.desks i w.before w.after t w.there (w.asks.goes.subject) in
    let here : i < length old.state.spent = omega (arith, is_within old.desks i w.before w.there, whole.count) in
    let n = spent_at old.state (place_of old.desks t) in
    subst (λ (z : Environment). After old z t w.after) (sym w.new_is)
    (record {
      env = refl;
      caps = refl;
      limits = refl;
      known = refl;
      there = ap₂ (λ x l. nat_lt x l) place (length-set old.state.spent i (n + 1));
      spent = ap (slice_index (slice_set old.state.spent i (n + 1))) place ∙ set_same old.state.spent i (n + 1) here;
      desk = ap (slice_get desks) place ∙ set_get old.desks i w.before w.after w.there;
    })

-- the desk has made one call more
desk_after : (p q : DeskState) (c : Call) (a : Answer) → Asks p q c a → asked_by q.env q.view.mine ≡ asked_by p.env p.view.mine + 1
desk_after p q c a k =
    let x = Asked p.env (asked_by p.env p.view.mine) c in
    let one : ask_count p.env x ≡ 1 = grind (arith, nat_tests) in
    ap₂ (λ (e : EnvNo) l. asked_by e l) k.same.env k.mine ∙ sum_by-append (ask_count p.env) p.view.mine (x ∷ []) ∙ grind (arith, one)

-- an answer that the desk was given, in the history
pub desk_answered : (p q : DeskState) (c : Call) (a : Answer) (history : List Entry) → Asks p q c a → StartsWith history q.view.seen
    → WasAnswered p.view.subject.limits history p.env (asked_by p.env p.view.mine) c a
desk_answered p q c a history k begins =
    record { seen = q.view.seen; begins = begins; legal = k.goes.legal; front = k.answer.front; rest = k.answer.rest; stands = k.answer.stands; replied = k.answer.replied }

went_alike : (t : ThreadNo) (c : Call) (one one_new other other_new : Environment) (a b : Answer) (history other_history : List Entry)
    → IsWhole one → IsWhole other → one.env.0 < one.state.limits.envs → KeepAlike t one other
    → Went one one_new t c a → Went other other_new t c b
    → HasSeen t one_new history → HasSeen t other_new other_history → ConcernAlike one.env history other_history
    → (a ≡ b) × KeepAlike t one_new other_new
went_alike t c one one_new other other_new a b history other_history whole other_whole env_there k w z seen other_seen same =
    let p = w.before in
    let q = z.before in
    let alike : AreAlike p q = alike_at (slice_get one.desks (place_in one.desks t)) (slice_get other.desks (place_in other.desks t)) p q w.there z.there k.desks in
    let one_after = after_went one one_new t c a w whole in
    let other_after = after_went other other_new t c b z other_whole in
    let d = whole.desks (place_in one.desks t) p w.there in
    let f = other_whole.desks (place_in other.desks t) q z.there in
    let first = desk_answered p w.after c a history w.asks (seen w.after one_after.desk) in
    let second = desk_answered q z.after c b other_history z.asks (other_seen z.after other_after.desk) in
    let limits : p.view.subject.limits ≡ q.view.subject.limits = d.about ∙ k.limits ∙ sym f.about in
    let second_here : WasAnswered p.view.subject.limits other_history p.env (asked_by p.env p.view.mine) c b =
    subst (λ (l : Limits). WasAnswered l other_history p.env (asked_by p.env p.view.mine) c b) (sym limits)
    (subst (λ (e : EnvNo). WasAnswered q.view.subject.limits other_history e (asked_by p.env p.view.mine) c b) (sym alike.env)
    (subst (λ (n : ℕ). WasAnswered q.view.subject.limits other_history q.env n c b) (sym alike.asked) second)) in
    let there : p.env.0 < p.view.subject.limits.envs = omega (arith, env_there, ap (λ (e : EnvNo). e.0) d.env_is, ap (λ (l : Limits). l.envs) d.about) in
    let concerns : ConcernAlike p.env history other_history = subst (λ (e : EnvNo). ConcernAlike e history other_history) (sym d.env_is) same in
    let desks : AreAlike w.after z.after = record {
      env = w.asks.same.env ∙ alike.env ∙ sym z.asks.same.env;
      asked = desk_after p w.after c a w.asks ∙ ap (λ n. n + 1) alike.asked ∙ sym (desk_after q z.after c b z.asks);
      posted = w.asks.posted ∙ alike.posted ∙ sym z.asks.posted;
      cancelled = w.asks.same.cancelled ∙ alike.cancelled ∙ sym z.asks.same.cancelled;
    } in (
      answers_agree p.view.subject.limits p.env (asked_by p.env p.view.mine) c c history other_history a b there first second_here concerns,
      record {
        env = one_after.env ∙ k.env ∙ sym other_after.env;
        caps = one_after.caps ∙ k.caps ∙ sym other_after.caps;
        limits = one_after.limits ∙ k.limits ∙ sym other_after.limits;
        known = ap (nat_lt t.0) one_after.known ∙ k.known ∙ sym (ap (nat_lt t.0) other_after.known);
        there = one_after.there ∙ k.there ∙ sym other_after.there;
        spent = one_after.spent ∙ ap (λ n. n + 1) k.spent ∙ sym other_after.spent;
        desks = subst (λ x. AreAlikeAt x (slice_get other_new.desks (place_in other_new.desks t))) (sym one_after.desk) (subst (λ x. AreAlikeAt (Some w.after) x) (sym other_after.desk) desks);
      },
    )

by_refusal : (r s : Option TiError) (t : ThreadNo) (c : Call) (one one_new other other_new : Environment) (a b : Answer) (history other_history : List Entry)
    → r ≡ s → IsWhole one → IsWhole other → one.env.0 < one.state.limits.envs → KeepAlike t one other
    → IsCalledBy r one one_new t c a → IsCalledBy s other other_new t c b
    → HasSeen t one_new history → HasSeen t other_new other_history → ConcernAlike one.env history other_history
    → (a ≡ b) × KeepAlike t one_new other_new
by_refusal None None t c one one_new other other_new a b history other_history e whole other_whole env_there k w z seen other_seen same =
    went_alike t c one one_new other other_new a b history other_history whole other_whole env_there k w z seen other_seen same
by_refusal (Some x) (Some y) t c one one_new other other_new a b history other_history e whole other_whole env_there k w z seen other_seen same =
    let xy : x ≡ y = cc e in
    (w.1 ∙ ap answer.Refused xy ∙ sym z.1, subst (λ (s : Environment). KeepAlike t s other_new) (sym w.0) (subst (λ (s : Environment). KeepAlike t one s) (sym z.0) k))
by_refusal None (Some y) t c one one_new other other_new a b history other_history e whole other_whole env_there k w z seen other_seen same = cc e
by_refusal (Some x) None t c one one_new other other_new a b history other_history e whole other_whole env_there k w z seen other_seen same = cc e

pub calls_agree : CallsAgree
calls_agree t c one one_new other other_new a b history other_history whole other_whole env_there k w z memory seen other_seen same =
    by_refusal (refusal_of one t c a) (refusal_of other t c b) t c one one_new other other_new a b history other_history
    (ap₂ (λ r m. or_else r (unless (not (takes_buffer c && m)) OutOfMemory)) (refusals_agree t c one other k) memory)
    whole other_whole env_there k w z seen other_seen same
