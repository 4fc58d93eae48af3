-- Posts, looks, cancellations and calls elsewhere, in two runs.
use Rattle.std.proofs.Common.{◌≡◌, ◌≢◌, ℕ, zero, suc, ◌+◌, ◌<◌, ◌==◌, ◌&&◌, not, nat_le, nat_lt, Bool, true, false, if◌then◌else◌, List, [], ◌∷◌, ◌++◌, length, length-set, refl, ap, ap₂, sym, subst, ◌∙◌, arith, append_assoc, eqb-true, Option, Some, None, inl, inr}
use Rattle.std.specs.Prelude.{slice_get, slice_index, slice_set, is_some}
use Rattle.std.proofs.lemmas.Bool.{cases_Bool}
use Rattle.std.proofs.lemmas.Bool.Decides.{nat_tests}
use Rattle.std.proofs.lemmas.List.Sums.{sum_by-append}
use Rattle.ti_types.specs.Answer.{said}
use Rattle.ti_types.specs.declared.answer.Answer.{Answer}
use Rattle.ti_types.specs.declared.call.Call.{Call}
use Rattle.ti_types.specs.declared.entry.Entry.{Entry}
use Rattle.ti_types.specs.declared.entry.Entry.TheVariants.{Asked}
use Rattle.ti_types.specs.declared.error.TiError.TheVariants.{Full}
use Rattle.ti_types.specs.declared.event.Ticket.{Ticket}
use Rattle.ti_types.specs.declared.limits.Limits.{Limits}
use Rattle.ti_types.specs.declared.numbers.EnvNo.{EnvNo}
use Rattle.ti_types.specs.declared.numbers.ThreadNo.{ThreadNo}
use Rattle.ti_types.specs.Refusing.{or_else}
use Rattle.ti_env.specs.Env.{is_there, spent_at, with_spent}
use Rattle.ti_laws.specs.Concerns.{ConcernAlike}
use Rattle.ti_replay.specs.Legal.{asked_by, ask_count, is_legal}
use Rattle.ti_replay.specs.Makers.{StartsWith}
use Rattle.ti_replay.specs.Replies.{reply}
use Rattle.ti_replay.specs.Settling.{waits}
use Rattle.ti_replay.specs.Tickets.{reply_to}
use Rattle.ti_laws.proofs.ConcernLaws.{calls_told_alike, tickets_agree}
use Rattle.ti_slot.specs.declared.asked.Asked.{Asked as AskedOf}
use Rattle.ti_slot.specs.declared.asked.Asked.TheVariants.{Answered, Waiting}
use Rattle.ti_handshake.specs.Desk.{DeskState, DiscardsOf, is_out}
use Rattle.ti_agent.specs.Env.{Environment, IsWhole, is_full, out_of, place_in, place_of}
use Rattle.ti_handshake.specs.Call.{IsTold, found, ticket_told}
use Rattle.ti_agent.specs.Posts.{Posts}
use Rattle.ti_cell.specs.declared.view.View.{View}
use Rattle.ti_slot.specs.Tickets.{has, without_ticket}
use Rattle.ti_laws.specs.Agreement.{AreAlike, AreAlikeAt, CancelsAgree, DiscardsAgree, DiscardsTellAlike, ElsewhereStays, KeepAlike, LooksAgree, PostRefusalsAgree, PostsAgree, ToldAlike}
use Rattle.ti_laws.proofs.AgreementLaws.{alike_at, is_same, is_within, place_set, refusals_agree, set_get, set_same}

out_alike : (x y : Option DeskState) → AreAlikeAt x y → out_of x ≡ out_of y
out_alike None None k = refl
out_alike (Some p) (Some q) k = ap length k.posted
out_alike None (Some q) k = absurd k
out_alike (Some p) None k = absurd k

pub post_refusals_agree : PostRefusalsAgree
post_refusals_agree t c one other k =
    let full : is_full one t ≡ is_full other t =
    ap₂ (λ (l : Limits) n. nat_le l.window n) k.limits (out_alike (slice_get one.desks (place_in one.desks t)) (slice_get other.desks (place_in other.desks t)) k.desks) in
    ap₂ (λ r b. or_else r (if waits c && b then Some Full else None)) (refusals_agree t c one other k) full

-- one desk was set, and a call was paid for or not
abbrev paid_more : Bool → ℕ → ℕ
paid_more paid n = if paid then n + 1 else n

record Set (old new : Environment) (t : ThreadNo) (q : DeskState) (paid : Bool) : Type 0 where
  env : new.env ≡ old.env
  caps : new.state.caps ≡ old.state.caps
  limits : new.state.limits ≡ old.state.limits
  known : new.state.known ≡ old.state.known
  there : is_there new.state (place_of new.desks t) ≡ is_there old.state (place_of old.desks t)
  spent : spent_at new.state (place_of new.desks t) ≡ paid_more paid (spent_at old.state (place_of old.desks t))
  desk : slice_get new.desks (place_in new.desks t) ≡ Some q

abbrev set_in : Environment → ThreadNo → DeskState → Bool → Environment
set_in old t q paid = record { env = old.env; state = if paid then with_spent old.state (place_of old.desks t) else old.state; desks = slice_set old.desks (place_in old.desks t) q }

set_now : (old : Environment) (t : ThreadNo) (p q : DeskState) (paid : Bool) → IsWhole old → slice_get old.desks (place_in old.desks t) ≡ Some p → q.view.subject ≡ p.view.subject → Set old (set_in old t q paid) t q paid
set_now old t p q true whole at same =
    let i = place_in old.desks t in
    let place : place_in (slice_set old.desks i q) t ≡ i = place_set old.desks i p q t at same in
    let here : i < length old.state.spent = omega (arith, is_within old.desks i p at, whole.count) in
    let n = spent_at old.state (place_of old.desks t) in
    record {
      env = refl;
      caps = refl;
      limits = refl;
      known = refl;
      there = ap₂ (λ x l. nat_lt x l) place (length-set old.state.spent i (n + 1));
      spent = ap (slice_index (slice_set old.state.spent i (n + 1))) place ∙ set_same old.state.spent i (n + 1) here;
      desk = ap (slice_get (slice_set old.desks i q)) place ∙ set_get old.desks i p q at;
    }
set_now old t p q false whole at same =
    let i = place_in old.desks t in
    let place : place_in (slice_set old.desks i q) t ≡ i = place_set old.desks i p q t at same in
    record {
      env = refl;
      caps = refl;
      limits = refl;
      known = refl;
      there = ap (λ x. nat_lt x (length old.state.spent)) place;
      spent = ap (slice_index old.state.spent) place;
      desk = ap (slice_get (slice_set old.desks i q)) place ∙ set_get old.desks i p q at;
    }

-- desks that are alike were set in both
sets_alike : (t : ThreadNo) (one one_new other other_new : Environment) (p q : DeskState) (paid : Bool) → KeepAlike t one other → Set one one_new t p paid → Set other other_new t q paid → AreAlike p q → KeepAlike t one_new other_new
sets_alike t one one_new other other_new p q paid k w z desks =
    record {
      env = w.env ∙ k.env ∙ sym z.env;
      caps = w.caps ∙ k.caps ∙ sym z.caps;
      limits = w.limits ∙ k.limits ∙ sym z.limits;
      known = ap (nat_lt t.0) w.known ∙ k.known ∙ sym (ap (nat_lt t.0) z.known);
      there = w.there ∙ k.there ∙ sym z.there;
      spent = w.spent ∙ ap (paid_more paid) k.spent ∙ sym z.spent;
      desks = subst (λ x. AreAlikeAt x (slice_get other_new.desks (place_in other_new.desks t))) (sym w.desk) (subst (λ x. AreAlikeAt (Some p) x) (sym z.desk) desks);
    }

same_answer_of : (a b : Answer) → Some a ≡ Some b → a ≡ b
same_answer_of a b h = cc h

-- what is told of a post, by its reply and its ticket
told_alike : (old new old2 new2 : View) (env env2 : EnvNo) (c : Call) (r x : AskedOf) → IsTold old new env c r → IsTold old2 new2 env2 c x
    → reply old.subject.limits new.seen (length (found old new)) ≡ reply old2.subject.limits new2.seen (length (found old2 new2))
    → env ≡ env2 → old.subject.thread ≡ old2.subject.thread → asked_by env old.mine ≡ asked_by env2 old2.mine → ToldAlike r x
told_alike old new old2 new2 env env2 c (Answered a) (Answered b) h k e es ts ns = same_answer_of (said a) (said b) (sym h ∙ e ∙ k)
told_alike old new old2 new2 env env2 c (Waiting t) (Waiting u) h k e es ts ns =
    h.1 ∙ ap₂ (λ (a : EnvNo) (b : ThreadNo). record { env = a; thread = b; no = asked_by env old.mine }) es ts
    ∙ ap (λ (n : ℕ). record { env = env2; thread = old2.subject.thread; no = n }) ns ∙ sym k.1
told_alike old new old2 new2 env env2 c (Answered a) (Waiting u) h k e es ts ns = let n : Some (said a) ≡ None = sym h ∙ e ∙ k.0 in cc n
told_alike old new old2 new2 env env2 c (Waiting t) (Answered b) h k e es ts ns = let n : None ≡ Some (said b) = sym h.0 ∙ e ∙ k in cc n

ticket_alike : (r x : AskedOf) → ToldAlike r x → ticket_told r ≡ ticket_told x
ticket_alike (Answered a) (Answered b) h = refl
ticket_alike (Waiting k) (Waiting l) h = ap (λ t. t ∷ []) h
ticket_alike (Answered a) (Waiting l) h = absurd h
ticket_alike (Waiting k) (Answered b) h = absurd h

-- where a post stands in the history, and that it was legal up to there
record WasPosted (limits : Limits) (history : List Entry) (env : EnvNo) (number : ℕ) (c : Call) (front : List Entry) : Type 0 where
  rest : List Entry
  stands : history ≡ front ++ Asked env number c ∷ rest
  legal : is_legal limits (front ++ Asked env number c ∷ []) ≡ true

was_posted : (old new : Environment) (t : ThreadNo) (c : Call) (r : AskedOf) (w : Posts old new t c r) (history : List Entry) → StartsWith history w.after.view.seen
    → WasPosted w.before.view.subject.limits history w.before.env (asked_by w.before.env w.before.view.mine) c (found w.before.view w.after.view)
was_posted old new t c r w history begins =
    let x = Asked w.before.env (asked_by w.before.env w.before.view.mine) c in
    let front = found w.before.view w.after.view in
    record {
      rest = begins.0;
      stands = begins.1 ∙ ap (λ l. l ++ begins.0) w.hold.waits.last ∙ append_assoc front (x ∷ []) begins.0;
      legal = sym (ap (is_legal w.before.view.subject.limits) w.hold.waits.last) ∙ w.hold.waits.goes.legal;
    }

replies_alike : (limits : Limits) (env : EnvNo) (number : ℕ) (c : Call) (history other_history front other_front : List Entry) → env.0 < limits.envs
    → WasPosted limits history env number c front → WasPosted limits other_history env number c other_front → ConcernAlike env history other_history
    → reply limits (front ++ Asked env number c ∷ []) (length front) ≡ reply limits (other_front ++ Asked env number c ∷ []) (length other_front)
replies_alike limits env number c history other_history front other_front there w z same =
    calls_told_alike limits env number c c front w.rest other_front z.rest there w.legal z.legal
    (subst (λ h. ConcernAlike env h (other_front ++ Asked env number c ∷ z.rest)) w.stands (subst (λ h. ConcernAlike env history h) z.stands same))

-- a desk asked one call more
asked_more : (p q : DeskState) (c : Call) → q.env ≡ p.env → q.view.mine ≡ p.view.mine ++ Asked p.env (asked_by p.env p.view.mine) c ∷ [] → asked_by q.env q.view.mine ≡ asked_by p.env p.view.mine + 1
asked_more p q c env mine =
    let x = Asked p.env (asked_by p.env p.view.mine) c in
    let one : ask_count p.env x ≡ 1 = grind (arith, nat_tests) in
    ap₂ (λ (e : EnvNo) l. asked_by e l) env mine ∙ sum_by-append (ask_count p.env) p.view.mine (x ∷ []) ∙ grind (arith, one)

pub posts_agree : PostsAgree
posts_agree t c one one_new other other_new r x history other_history whole other_whole env_there k w z seen other_seen same =
    let p = w.before in
    let q = z.before in
    let alike : AreAlike p q = alike_at (slice_get one.desks (place_in one.desks t)) (slice_get other.desks (place_in other.desks t)) p q w.there z.there k.desks in
    let set : Set one one_new t w.after true = subst (λ (s : Environment). Set one s t w.after true) (sym w.new_is) (set_now one t p w.after true whole w.there w.hold.waits.goes.subject) in
    let other_set : Set other other_new t z.after true = subst (λ (s : Environment). Set other s t z.after true) (sym z.new_is) (set_now other t q z.after true other_whole z.there z.hold.waits.goes.subject) in
    let d = whole.desks (place_in one.desks t) p w.there in
    let f = other_whole.desks (place_in other.desks t) q z.there in
    let limits : p.view.subject.limits ≡ q.view.subject.limits = d.about ∙ k.limits ∙ sym f.about in
    let number = asked_by p.env p.view.mine in
    let first = was_posted one one_new t c r w history (seen w.after set.desk) in
    let second = was_posted other other_new t c x z other_history (other_seen z.after other_set.desk) in
    let other_front = found z.before.view z.after.view in
    let second_here : WasPosted p.view.subject.limits other_history p.env number c other_front =
    subst (λ (l : Limits). WasPosted l other_history p.env number c other_front) (sym limits)
    (subst (λ (e : EnvNo). WasPosted q.view.subject.limits other_history e number c other_front) (sym alike.env)
    (subst (λ (n : ℕ). WasPosted q.view.subject.limits other_history q.env n c other_front) (sym alike.asked) second)) in
    let there : p.env.0 < p.view.subject.limits.envs = omega (arith, env_there, ap (λ (e : EnvNo). e.0) d.env_is, ap (λ (l : Limits). l.envs) d.about) in
    let concerns : ConcernAlike p.env history other_history = subst (λ (e : EnvNo). ConcernAlike e history other_history) (sym d.env_is) same in
    let replies : reply p.view.subject.limits w.after.view.seen (length (found p.view w.after.view)) ≡ reply q.view.subject.limits z.after.view.seen (length other_front) =
    ap (λ l. reply p.view.subject.limits l (length (found p.view w.after.view))) w.hold.waits.last
    ∙ replies_alike p.view.subject.limits p.env number c history other_history (found p.view w.after.view) other_front there first second_here concerns
    ∙ ap₂ (λ (e : EnvNo) n. reply p.view.subject.limits (other_front ++ Asked e n c ∷ []) (length other_front)) alike.env alike.asked
    ∙ ap (λ (l : Limits). reply l (other_front ++ Asked q.env (asked_by q.env q.view.mine) c ∷ []) (length other_front)) limits
    ∙ sym (ap (λ l. reply q.view.subject.limits l (length other_front)) z.hold.waits.last) in
    let told : ToldAlike r x = told_alike p.view w.after.view q.view z.after.view p.env q.env c r x w.told z.told replies alike.env (w.about ∙ sym z.about) alike.asked in (
      told,
      sets_alike t one one_new other other_new w.after z.after true k set other_set (record {
        env = w.same.env ∙ alike.env ∙ sym z.same.env;
        asked = asked_more p w.after c w.same.env w.hold.waits.mine ∙ ap (λ n. n + 1) alike.asked ∙ sym (asked_more q z.after c z.same.env z.hold.waits.mine);
        posted = w.hold.waits.posted ∙ ap₂ (λ a b. a ++ b) alike.posted (ticket_alike r x told) ∙ sym z.hold.waits.posted;
        cancelled = w.same.cancelled ∙ alike.cancelled ∙ sym z.same.cancelled;
      }),
    )

nothing_more : (e f : EnvNo) (l m : List Entry) → f ≡ e → m ≡ l ++ [] → asked_by f m ≡ asked_by e l
nothing_more e f l m h k = ap₂ asked_by h k ∙ sum_by-append (ask_count e) l [] ∙ grind arith

out_same : (p q : DeskState) (k : Ticket) → AreAlike p q → is_out p k ≡ is_out q k
out_same p q k a = ap₂ (λ x y. has k x && not (has k y)) a.posted a.cancelled

looked_alike : (limits other_limits : Limits) (k : Ticket) (seen other_seen history other_history : List Entry) (out : Bool) (r x : Option Answer) → limits ≡ other_limits → k.env.0 < limits.envs
    → StartsWith history seen → StartsWith other_history other_seen → ConcernAlike k.env history other_history
    → r ≡ (if out then reply_to limits seen k else None) → x ≡ (if out then reply_to other_limits other_seen k else None) → is_some r ≡ is_some x → r ≡ x
looked_alike limits other_limits k seen other_seen history other_history out None None same there b ob c h l e = refl
looked_alike limits other_limits k seen other_seen history other_history out None (Some y) same there b ob c h l e = cc e
looked_alike limits other_limits k seen other_seen history other_history out (Some a) None same there b ob c h l e = cc e
looked_alike limits other_limits k seen other_seen history other_history false (Some a) (Some y) same there b ob c h l e = cc h
looked_alike limits other_limits k seen other_seen history other_history true (Some a) (Some y) same there b ob c h l e =
    ap Some (tickets_agree limits k history other_history seen other_seen a y there b ob (sym h) (ap (λ (z : Limits). reply_to z other_seen k) same ∙ sym l) c)

pub looks_agree : LooksAgree
looks_agree k one one_new other other_new r x history other_history whole other_whole own env_there alike_before w z marks seen other_seen same =
    let t = k.thread in
    let p = w.before in
    let q = z.before in
    let alike : AreAlike p q = alike_at (slice_get one.desks (place_in one.desks t)) (slice_get other.desks (place_in other.desks t)) p q w.there z.there alike_before.desks in
    let set : Set one one_new t w.after false = subst (λ (s : Environment). Set one s t w.after false) (sym w.new_is) (set_now one t p w.after false whole w.there w.hold.waits.goes.subject) in
    let other_set : Set other other_new t z.after false = subst (λ (s : Environment). Set other s t z.after false) (sym z.new_is) (set_now other t q z.after false other_whole z.there z.hold.waits.goes.subject) in
    let d = whole.desks (place_in one.desks t) p w.there in
    let f = other_whole.desks (place_in other.desks t) q z.there in
    let limits : p.view.subject.limits ≡ q.view.subject.limits = d.about ∙ alike_before.limits ∙ sym f.about in
    let there : k.env.0 < p.view.subject.limits.envs = omega (arith, env_there, ap (λ (e : EnvNo). e.0) own, ap (λ (l : Limits). l.envs) d.about) in
    let concerns : ConcernAlike k.env history other_history = subst (λ (e : EnvNo). ConcernAlike e history other_history) (sym own) same in
    let answer : x ≡ (if is_out p k then reply_to q.view.subject.limits z.after.view.seen k else None) =
    z.answer ∙ ap (λ b. if b then reply_to q.view.subject.limits z.after.view.seen k else None) (sym (out_same p q k alike)) in
    let equal : r ≡ x = looked_alike p.view.subject.limits q.view.subject.limits k w.after.view.seen z.after.view.seen history other_history (is_out p k) r x limits there
    (seen w.after set.desk) (other_seen z.after other_set.desk) concerns w.answer answer marks in (
      equal,
      sets_alike t one one_new other other_new w.after z.after false alike_before set other_set (record {
        env = w.same.env ∙ alike.env ∙ sym z.same.env;
        asked = nothing_more p.env w.after.env p.view.mine w.after.view.mine w.same.env w.hold.waits.mine ∙ alike.asked ∙ sym (nothing_more q.env z.after.env q.view.mine z.after.view.mine z.same.env z.hold.waits.mine);
        posted = w.hold.waits.posted ∙ ap₂ (λ b l. if b then without_ticket k l else l) marks alike.posted ∙ sym z.hold.waits.posted;
        cancelled = w.same.cancelled ∙ alike.cancelled ∙ sym z.same.cancelled;
      }),
    )

pub cancels_agree : CancelsAgree
cancels_agree k one one_new other other_new whole other_whole alike_before w z =
    let t = k.thread in
    let p = w.before in
    let q = z.before in
    let alike : AreAlike p q = alike_at (slice_get one.desks (place_in one.desks t)) (slice_get other.desks (place_in other.desks t)) p q w.there z.there alike_before.desks in
    let set : Set one one_new t w.after false = subst (λ (s : Environment). Set one s t w.after false) (sym w.new_is) (set_now one t p w.after false whole w.there w.hold.waits.goes.subject) in
    let other_set : Set other other_new t z.after false = subst (λ (s : Environment). Set other s t z.after false) (sym z.new_is) (set_now other t q z.after false other_whole z.there z.hold.waits.goes.subject) in
    sets_alike t one one_new other other_new w.after z.after false alike_before set other_set (record {
      env = w.env ∙ alike.env ∙ sym z.env;
      asked = nothing_more p.env w.after.env p.view.mine w.after.view.mine w.env w.hold.waits.mine ∙ alike.asked ∙ sym (nothing_more q.env z.after.env q.view.mine z.after.view.mine z.env z.hold.waits.mine);
      posted = w.hold.waits.posted ∙ alike.posted ∙ sym z.hold.waits.posted;
      cancelled = w.cancelled ∙ ap₂ (λ b l. if b then l ++ k ∷ [] else l) (out_same p q k alike) alike.cancelled ∙ sym z.cancelled;
    })

-- what a discarding makes of a desk
record Discarded (p q : DeskState) : Type 0 where
  subject : q.view.subject ≡ p.view.subject

pub discarded_subject : (l : List Ticket) (p q : DeskState) (b : Bool) → DiscardsOf l p q b → q.view.subject ≡ p.view.subject
discarded_subject [] p q b h = ap (λ (d : DeskState). d.view.subject) h.0
discarded_subject (first ∷ rest) p q b h = h.hold.waits.goes.subject

discarded_alike : (l m : List Ticket) (p q v w : DeskState) (b : Bool) → p.cancelled ≡ l → q.cancelled ≡ m → l ≡ m → AreAlike p q → DiscardsOf l p v b → DiscardsOf m q w b → AreAlike v w
discarded_alike [] [] p q v w b x y e alike h k =
    subst (λ (d : DeskState). AreAlike d w) (sym h.0) (subst (λ (d : DeskState). AreAlike p d) (sym k.0) alike)
discarded_alike [] (u ∷ m) p q v w b x y e alike h k = cc e
discarded_alike (u ∷ l) [] p q v w b x y e alike h k = cc e
discarded_alike (u ∷ l) (u2 ∷ m) p q v w b x y e alike h k =
    let first : u ≡ u2 = cc e in
    let rest : l ≡ m = cc e in
    record {
      env = h.env ∙ alike.env ∙ sym k.env;
      asked = nothing_more p.env v.env p.view.mine v.view.mine h.env h.hold.waits.mine ∙ alike.asked ∙ sym (nothing_more q.env w.env q.view.mine w.view.mine k.env k.hold.waits.mine);
      posted = h.hold.waits.posted ∙ ap₂ (λ (t : Ticket) o. if b then without_ticket t o else o) first alike.posted ∙ sym k.hold.waits.posted;
      cancelled = h.cancelled ∙ ap₂ (λ o n. if b then o else n) rest alike.cancelled ∙ sym k.cancelled;
    }

pub discards_agree : DiscardsAgree
discards_agree t one one_new other other_new b whole other_whole alike_before w z =
    let p = w.before in
    let q = z.before in
    let alike : AreAlike p q = alike_at (slice_get one.desks (place_in one.desks t)) (slice_get other.desks (place_in other.desks t)) p q w.there z.there alike_before.desks in
    let set : Set one one_new t w.after false = subst (λ (s : Environment). Set one s t w.after false) (sym w.new_is) (set_now one t p w.after false whole w.there (discarded_subject p.cancelled p w.after b w.discards)) in
    let other_set : Set other other_new t z.after false = subst (λ (s : Environment). Set other s t z.after false) (sym z.new_is) (set_now other t q z.after false other_whole z.there (discarded_subject q.cancelled q z.after b z.discards)) in
    sets_alike t one one_new other other_new w.after z.after false alike_before set other_set (discarded_alike p.cancelled q.cancelled p q w.after z.after b refl refl alike.cancelled alike w.discards z.discards)

-- the tickets of two calls
same_ticket : (k l : Ticket) → Some k ≡ Some l → k ≡ l
same_ticket k l h = cc h

pub discards_tell_alike : DiscardsTellAlike
discards_tell_alike t one one_new other other_new k l a b history other_history whole other_whole own env_there alike_before w z told other_told seen other_seen same =
    let p = w.before in
    let q = z.before in
    let i = place_in one.desks t in
    let j = place_in other.desks t in
    let alike : AreAlike p q = alike_at (slice_get one.desks i) (slice_get other.desks j) p q w.there z.there alike_before.desks in
    let before : told.before ≡ p = is_same told.before p (sym told.there ∙ w.there) in
    let other_before : other_told.before ≡ q = is_same other_told.before q (sym other_told.there ∙ z.there) in
    let after : told.after ≡ w.after = is_same told.after w.after (sym told.there_then ∙ ap (λ (s : Environment). slice_get s.desks i) w.new_is ∙ set_get one.desks i p w.after w.there) in
    let other_after : other_told.after ≡ z.after = is_same other_told.after z.after (sym other_told.there_then ∙ ap (λ (s : Environment). slice_get s.desks j) z.new_is ∙ set_get other.desks j q z.after z.there) in
    let ticket : k ≡ l = same_ticket k l (told.tells.first ∙ (ap (λ (d : DeskState). slice_get d.cancelled 0) before ∙ (ap (λ (c : List Ticket). slice_get c 0) alike.cancelled ∙ (sym (ap (λ (d : DeskState). slice_get d.cancelled 0) other_before) ∙ sym other_told.tells.first)))) in
    let set : Set one one_new t w.after false = subst (λ (s : Environment). Set one s t w.after false) (sym w.new_is) (set_now one t p w.after false whole w.there (discarded_subject p.cancelled p w.after true w.discards)) in
    let other_set : Set other other_new t z.after false = subst (λ (s : Environment). Set other s t z.after false) (sym z.new_is) (set_now other t q z.after false other_whole z.there (discarded_subject q.cancelled q z.after true z.discards)) in
    let d = whole.desks i p w.there in
    let f = other_whole.desks j q z.there in
    let limits : p.view.subject.limits ≡ q.view.subject.limits = d.about ∙ alike_before.limits ∙ sym f.about in
    let there : k.env.0 < p.view.subject.limits.envs = omega (arith, env_there, ap (λ (e : EnvNo). e.0) own, ap (λ (l : Limits). l.envs) d.about) in
    let concerns : ConcernAlike k.env history other_history = subst (λ (e : EnvNo). ConcernAlike e history other_history) (sym own) same in
    let replied : reply_to p.view.subject.limits w.after.view.seen k ≡ Some a =
    (λ x. reply_to (sym before x).view.subject.limits (sym after x).view.seen k) ∙ told.tells.replied in
    let other_replied : reply_to p.view.subject.limits z.after.view.seen k ≡ Some b =
    ap (λ (y : Limits). reply_to y z.after.view.seen k) limits ∙ ((λ x. reply_to (sym other_before x).view.subject.limits (sym other_after x).view.seen (ticket x)) ∙ other_told.tells.replied) in
    (ticket, tickets_agree p.view.subject.limits k history other_history w.after.view.seen z.after.view.seen a b there (seen w.after set.desk) (other_seen z.after other_set.desk) replied other_replied concerns)

-- another thread has another place
first_at : (l : List DeskState) (t : ThreadNo) (p : DeskState) → slice_get l (place_in l t) ≡ Some p → p.view.subject.thread.0 ≡ t.0
first_at [] t p at = cc at
first_at (x ∷ l) t p at =
    elim (cases_Bool (x.view.subject.thread.0 == t.0)) [
      | inl here ↦
          let is : x ≡ p = is_same x p (ap (λ b. slice_get (x ∷ l) (if b then 0 else suc (place_in l t))) (sym here) ∙ at) in
          ap (λ (d : DeskState). d.view.subject.thread.0) (sym is) ∙ eqb-true _ _ here
      | inr later ↦ first_at l t p (ap (λ b. slice_get (x ∷ l) (if b then 0 else suc (place_in l t))) (sym later) ∙ at)
    ]

pub get_other : (l : List DeskState) (i j : ℕ) (q : DeskState) → i ≢ j → slice_get (slice_set l i q) j ≡ slice_get l j
get_other [] i j q n = refl
get_other (x ∷ l) zero zero q n = absurd (n refl)
get_other (x ∷ l) zero (suc j) q n = refl
get_other (x ∷ l) (suc i) zero q n = refl
get_other (x ∷ l) (suc i) (suc j) q n = get_other l i j q (λ h. n (ap suc h))

set_other : (l : List ℕ) (i j v : ℕ) → i ≢ j → slice_index (slice_set l i v) j ≡ slice_index l j
set_other [] i j v n = refl
set_other (x ∷ xs) zero zero v n = absurd (n refl)
set_other (x ∷ xs) zero (suc j) v n = refl
set_other (x ∷ xs) (suc i) zero v n = refl
set_other (x ∷ xs) (suc i) (suc j) v n = set_other xs i j v (λ h. n (ap suc h))

pub places_differ : (l : List DeskState) (t u : ThreadNo) (p : DeskState) → slice_get l (place_in l u) ≡ Some p → u.0 ≢ t.0 → place_in l u ≢ place_in l t
places_differ l t u p at other same = other (sym (first_at l u p at) ∙ first_at l t p (ap (slice_get l) (sym same) ∙ at))

elsewhere_now : (t u : ThreadNo) (one other : Environment) (p q : DeskState) (paid : Bool) → u.0 ≢ t.0 → slice_get one.desks (place_in one.desks u) ≡ Some p → q.view.subject ≡ p.view.subject → KeepAlike t one other → KeepAlike t (set_in one u q paid) other
elsewhere_now t u one other p q true n at same k =
    let i = place_in one.desks u in
    let place : place_in (slice_set one.desks i q) t ≡ place_in one.desks t = place_set one.desks i p q t at same in
    let apart = places_differ one.desks t u p at n in
    let more = spent_at one.state (place_of one.desks u) + 1 in
    record {
      env = k.env;
      caps = k.caps;
      limits = k.limits;
      known = k.known;
      there = ap₂ (λ x l. nat_lt x l) place (length-set one.state.spent i more) ∙ k.there;
      spent = ap (slice_index (slice_set one.state.spent i more)) place ∙ set_other one.state.spent i (place_in one.desks t) more apart ∙ k.spent;
      desks = subst (λ x. AreAlikeAt x (slice_get other.desks (place_in other.desks t))) (sym (ap (slice_get (slice_set one.desks i q)) place ∙ get_other one.desks i (place_in one.desks t) q apart)) k.desks;
    }
elsewhere_now t u one other p q false n at same k =
    let i = place_in one.desks u in
    let place : place_in (slice_set one.desks i q) t ≡ place_in one.desks t = place_set one.desks i p q t at same in
    let apart = places_differ one.desks t u p at n in
    record {
      env = k.env;
      caps = k.caps;
      limits = k.limits;
      known = k.known;
      there = ap (λ x. nat_lt x (length one.state.spent)) place ∙ k.there;
      spent = ap (slice_index one.state.spent) place ∙ k.spent;
      desks = subst (λ x. AreAlikeAt x (slice_get other.desks (place_in other.desks t))) (sym (ap (slice_get (slice_set one.desks i q)) place ∙ get_other one.desks i (place_in one.desks t) q apart)) k.desks;
    }

pub elsewhere_stays : ElsewhereStays
elsewhere_stays t u one one_new other n whole e k =
    subst (λ (s : Environment). KeepAlike t s other) (sym e.new_is) (elsewhere_now t u one other e.before e.after e.paid n e.there e.subject k)
