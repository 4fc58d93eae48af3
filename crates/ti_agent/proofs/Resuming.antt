-- Suspensions that are taken back.
use Rattle.std.proofs.Common.{◌≡◌, ◌≢◌, ◌⊎◌, ◌<◌, ◌≤◌, ◌++◌, ◌∷◌, Bool, true, false, List, [], length, refl, ap, sym, ◌∙◌, subst, arith, inl, inr, Option, Some, None, Result, Ok, Err, ℕ, if◌then◌else◌}
use Rattle.std.specs.Prelude.{slice_get, is_some, IfOk, IfErr}
use Rattle.ti_types.specs.Refusing.{or_else}
use Rattle.std.proofs.lemmas.Bool.{cases_lt}
use Rattle.std.proofs.lemmas.Option.{slice_get_within}
use Rattle.ti_types.specs.Answer.{said}
use Rattle.ti_types.specs.declared.answer.Answer.{Answer}
use Rattle.ti_types.specs.declared.answer.Answer.TheVariants as answer
use Rattle.ti_types.specs.declared.call.Call.TheVariants.{Resume}
use Rattle.ti_types.specs.declared.entry.Entry.{Entry}
use Rattle.ti_types.specs.declared.entry.Entry.TheVariants.{Asked}
use Rattle.ti_types.specs.declared.event.Ticket.{Ticket}
use Rattle.ti_types.specs.declared.error.TiError.{TiError}
use Rattle.ti_types.specs.declared.error.TiError.TheVariants.{Busy, ThreadNotAlive, ThreadNotSuspended}
use Rattle.ti_types.specs.declared.limits.Limits.{Limits}
use Rattle.ti_types.specs.declared.numbers.EnvNo.{EnvNo}
use Rattle.ti_types.specs.declared.numbers.ThreadNo.{ThreadNo}
use Rattle.ti_types.specs.declared.view.ThreadView.{ThreadView}
use Rattle.ti_replay.specs.Answers.{answer_of, is_alive}
use Rattle.ti_replay.specs.Replies.{reply}
use Rattle.ti_replay.specs.View.{called, view}
use Rattle.ti_replay.proofs.HistoryLaws.{view-snoc}
use Rattle.ti_replay.proofs.PlaceLaws.{reply_at_once}
use Rattle.ti_slot.specs.declared.asked.Asked.{Asked as AskedOf}
use Rattle.ti_slot.specs.declared.asked.Asked.TheVariants.{Answered, Waiting}
use Rattle.ti_handshake.specs.Call.{next_call, found}
use Rattle.ti_handshake.specs.Desk.{DeskState}
use Rattle.ti_agent.specs.Asks.{IsKind}
use Rattle.ti_agent.specs.Deadlines.{DiscardsEach}
use Rattle.ti_agent.specs.Env.{Environment, place_in, thread_refusal}
use Rattle.ti_agent.specs.Posts.{Posts, posting_refusal}
use Rattle.ti_agent.specs.Resumed.{IsResumed, IsNotResumed, has_cancelled_at, is_resumed, is_suspended}

-- a resumption leaves a thread that it answers so not suspended
resumes : (v : ThreadView) (env : EnvNo) (alive : Bool) → alive ≡ is_alive v.mode → is_resumed (answer_of v env Resume) ≡ true → (called v env Resume).suspended ≡ false
resumes v env true is h = grind (arith, is)
resumes v env false is h = grind (arith, is, h)

pub resumed_after : (limits : Limits) (history : List Entry) (env : EnvNo) (number : ℕ) (a : Answer)
    → reply limits (history ++ Asked env number Resume ∷ []) (length history) ≡ Some a → is_resumed a ≡ true → (view limits (history ++ Asked env number Resume ∷ [])).suspended ≡ false
resumed_after limits history env number a is h =
    let at_once : reply limits (history ++ Asked env number Resume ∷ []) (length history) ≡ Some (answer_of (view limits history) env Resume) = reply_at_once limits history env number Resume refl in
    let same : Some a ≡ Some (answer_of (view limits history) env Resume) = sym is ∙ at_once in
    let answer : a ≡ answer_of (view limits history) env Resume = cc in
    let after : view limits (history ++ Asked env number Resume ∷ []) ≡ called (view limits history) env Resume = view-snoc limits history (Asked env number Resume) in
    ap (λ (v : ThreadView). v.suspended) after ∙ resumes (view limits history) env (is_alive (view limits history).mode) refl (subst (λ (x : Answer). is_resumed x ≡ true) answer h)

pub not_suspended : (s new : Environment) (thread : ThreadNo) (a : Answer) (k : Posts s new thread Resume (Answered a)) → is_resumed (said a) ≡ true → is_suspended k.after.view ≡ false
not_suspended s new thread a k h =
    let p = k.before.view in
    let q = k.after.view in
    let seen : q.seen ≡ found p q ++ next_call p k.before.env Resume ∷ [] = k.hold.waits.last in
    let told : reply p.subject.limits (found p q ++ next_call p k.before.env Resume ∷ []) (length (found p q)) ≡ Some (said a) = subst (λ (l : List Entry). reply p.subject.limits l (length (found p q)) ≡ Some (said a)) seen k.told in
    let free = resumed_after p.subject.limits (found p q) k.before.env _ (said a) told h in
    (λ i. (view (k.hold.waits.goes.subject i).limits (seen i)).suspended) ∙ free

-- a resumption is answered at once, by what the thread is when it comes
answered_by : (s new : Environment) (thread : ThreadNo) (r : AskedOf) (k : Posts s new thread Resume r)
    → reply k.before.view.subject.limits k.after.view.seen (length (found k.before.view k.after.view)) ≡ Some (answer_of (view k.before.view.subject.limits (found k.before.view k.after.view)) k.before.env Resume)
answered_by s new thread r k =
    let p = k.before.view in
    let q = k.after.view in
    let seen : q.seen ≡ found p q ++ next_call p k.before.env Resume ∷ [] = k.hold.waits.last in
    ap (λ (l : List Entry). reply p.subject.limits l (length (found p q))) seen ∙ reply_at_once p.subject.limits (found p q) k.before.env _ Resume refl

pub not_waiting : (s new : Environment) (thread : ThreadNo) (ticket : Ticket) → Posts s new thread Resume (Waiting ticket) → ⊥
not_waiting s new thread ticket k = never _ (sym (answered_by s new thread (Waiting ticket) k) ∙ k.told.0)
  where
    never : (a : Answer) → Some a ≡ None → ⊥
    never a e = cc

-- so it has an answer of its kind
kinds : (alive suspended : Bool) → IsKind Resume (if alive then (if suspended then answer.Done else answer.Refused ThreadNotSuspended) else answer.Refused ThreadNotAlive)
kinds true true = tt
kinds true false = tt
kinds false suspended = tt

pub resume_kind : (s new : Environment) (thread : ThreadNo) (a : Answer) → Posts s new thread Resume (Answered a) → IsKind Resume (said a)
resume_kind s new thread a k =
    let v : ThreadView = view k.before.view.subject.limits (found k.before.view k.after.view) in
    let both : Some (said a) ≡ Some (answer_of v k.before.env Resume) = sym k.told ∙ answered_by s new thread (Answered a) k in
    let same : said a ≡ answer_of v k.before.env Resume = cc in
    subst (λ (x : Answer). IsKind Resume x) (sym same) (kinds (is_alive v.mode) v.suspended)

-- what each result of a try comes to

pub resumed : (old mid new : Environment) (thread : ThreadNo) (a : Answer) (r : Result Bool TiError) → DiscardsEach old mid thread → has_cancelled_at mid thread ≡ false → Posts mid new thread Resume (Answered a)
    → IfOk r (λ b. (b ≡ true) × (is_resumed (said a) ≡ true)) → r ≡ Ok true → IsResumed old new thread
resumed old mid new thread a r discards none posts told ok =
    let done : is_resumed (said a) ≡ true = (subst (λ (x : Result Bool TiError). IfOk x (λ b. (b ≡ true) × (is_resumed (said a) ≡ true))) ok told).1 in
    record {
      mid = mid;
      discards = discards;
      none = none;
      answer = a;
      posts = posts;
      resumed = done;
      free = not_suspended mid new thread a posts done;
    }

pub not_resumed : (old mid new : Environment) (thread : ThreadNo) (a : Answer) (r : Result Bool TiError) → DiscardsEach old mid thread → Posts mid new thread Resume (Answered a) → IfErr r (λ e. said a ≡ answer.Refused e) → IfErr r (λ e. IsNotResumed old new thread e)
not_resumed old mid new thread a (Ok b) may posts told = tt
not_resumed old mid new thread a (Err e) may posts told = record { mid = mid; may = may; why = inr (a, posts, told) }

by_refusal : (o : Option TiError) (e : TiError) → Some e ≡ or_else (or_else o None) None → o ≡ Some e
by_refusal (Some x) e is = sym is
by_refusal None e is = absurd (never is)
  where
    never : Some e ≡ None → ⊥
    never e = cc

pub refused_post : (mid : Environment) (thread : ThreadNo) (e : TiError) → (Some e ≡ or_else (posting_refusal mid thread Resume) None) ⊎ ((e ≡ Busy) × (posting_refusal mid thread Resume ≡ None)) → (e ≡ Busy) ⊎ (thread_refusal mid thread Resume ≡ Some e)
refused_post mid thread e (inl is) = inr (by_refusal (thread_refusal mid thread Resume) e is)
refused_post mid thread e (inr busy) = inl busy.0
