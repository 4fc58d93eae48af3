-- The reply at the place of a call is an answer to that call.
use Rattle.std.proofs.Common.{◌≡◌, ℕ, ◌+◌, ◌<◌, ◌==◌, ◌&&◌, ◌||◌, Bool, true, false, List, [], ◌∷◌, ◌++◌, length, refl, ap, sym, ◌∙◌, arith, subst, inl, inr, Option, Some, None, if◌then◌else◌, ℤ}
use Rattle.std.specs.Prelude.{slice_get}
use Rattle.std.specs.List.{enumerate_from}
use Rattle.std.proofs.lemmas.Bool.{cases_Bool}
use Rattle.std.proofs.lemmas.Bool.Decides.{nat_tests}
use Rattle.ti_types.specs.declared.answer.Answer.{Answer}
use Rattle.ti_types.specs.declared.call.Call.{Call}
use Rattle.ti_types.specs.declared.call.Call.TheVariants as call
use Rattle.ti_types.specs.declared.entry.Entry.{Entry}
use Rattle.ti_types.specs.declared.numbers.EnvNo.{EnvNo}
use Rattle.ti_types.specs.declared.place.Frame.{Frame}
use Rattle.ti_types.specs.declared.view.ThreadView.{ThreadView}
use Rattle.ti_types.specs.declared.error.TiError.{TiError}
use Rattle.ti_types.specs.Pops.{popping_refusal, pop_refusal}
use Rattle.ti_replay.specs.Answers.{or_zero, answer_of, first_of_trace, trace_from, location_of, is_alive, done_or}
use Rattle.ti_replay.specs.Settling.{Placed, placed, settle, settled, put_behind, runs_after, is_waiting_call, hands_over}
use Rattle.ti_replay.specs.View.{new_thread, after}
use Rattle.ti_replay.specs.Replies.{reply_from, answer_to}
use Rattle.ti_cell.specs.declared.view.View.{View}
use Rattle.ti_handshake.specs.Call.{IsAnswered, next_call}
use Rattle.ti_agent.specs.Asks.{IsKind, is_for_memory, is_timed_out}

-- whatever is at the place is this entry
abbrev AllAt : ℕ → Entry → List Placed → Type 0
AllAt place x [] = Unit {0}
AllAt place x (p ∷ s) = (p.0 ≡ place → p.1 ≡ x) × AllAt place x s

all_put : (place : ℕ) (x : Entry) (c : Placed) (s : List Placed) → (c.0 ≡ place → c.1 ≡ x) → AllAt place x s → AllAt place x (put_behind c s)
all_put place x c [] h k = tt
all_put place x c (p ∷ s) h k = elim (cases_Bool (hands_over p)) [
  | inl e ↦ subst (λ (b : Bool). AllAt place x (if b then p ∷ c ∷ s else p ∷ put_behind c s)) (sym e) (k.0, (h, k.1))
  | inr e ↦ subst (λ (b : Bool). AllAt place x (if b then p ∷ c ∷ s else p ∷ put_behind c s)) (sym e) (k.0, all_put place x c s h k.1)
]

all_settle : (place : ℕ) (x : Entry) (r : Bool) (s : List Placed) → AllAt place x s → AllAt place x (settle r s)
all_settle place x r [] k = tt
all_settle place x r (p ∷ s) k =
    let rest = all_settle place x (runs_after r p.1) s k.1 in
    elim (cases_Bool (is_waiting_call p.1 && r)) [
      | inl e ↦ subst (λ (b : Bool). AllAt place x (if b then put_behind p (settle (runs_after r p.1) s) else p ∷ settle (runs_after r p.1) s)) (sym e) (all_put place x p _ k.0 rest)
      | inr e ↦ subst (λ (b : Bool). AllAt place x (if b then put_behind p (settle (runs_after r p.1) s) else p ∷ settle (runs_after r p.1) s)) (sym e) (k.0, rest)
    ]

none_here : (place : ℕ) (x : Entry) (a : ℕ) (xs : List Entry) → place < a → AllAt place x (enumerate_from a xs)
none_here place x a [] h = tt
none_here place x a (y ∷ ys) h = ((λ e. absurd (omega (arith, e, h))), none_here place x (a + 1) ys (omega (arith, h)))

one_here : (a : ℕ) (front rest : List Entry) (x : Entry) → AllAt (a + length front) x (enumerate_from a (front ++ x ∷ rest))
one_here a [] rest x = ((λ e. refl), none_here (a + 0) x (a + 1) rest (omega arith))
one_here a (y ∷ front) rest x =
    let e : a + 1 + length front ≡ a + length (y ∷ front) = omega arith in
    ((λ same. absurd (omega (arith, same))), subst (λ (n : ℕ). AllAt n x (enumerate_from (a + 1) (front ++ x ∷ rest))) e (one_here (a + 1) front rest x))

-- an answer was given at some view of the thread
replied : (v : ThreadView) (s : List Placed) (place : ℕ) (x : Entry) (a : Answer) → AllAt place x s → reply_from v s place ≡ Some a → (w : ThreadView) × (answer_to w x ≡ Some a)
replied v [] place x a k h = absurd (none h)
  where
    none : None ≡ Some a → ⊥
    none e = cc
replied v (p ∷ s) place x a k h =
    let later : reply_from (after v p.1) s place ≡ Some a → (w : ThreadView) × (answer_to w x ≡ Some a) = replied (after v p.1) s place x a k.1 in
    elim (cases_Bool (p.0 == place)) [
      | inl e ↦ by_case (answer_to v p.1) refl e later
      | inr e ↦ later (grind (arith, e, h))
    ]
  where
    by_case : (o : Option Answer) → o ≡ answer_to v p.1 → (p.0 == place) ≡ true → (reply_from (after v p.1) s place ≡ Some a → (w : ThreadView) × (answer_to w x ≡ Some a)) → (w : ThreadView) × (answer_to w x ≡ Some a)
    by_case (Some b) o e later =
        let at : p.1 ≡ x = k.0 (grind (arith, nat_tests, e)) in
        let same : b ≡ a = grind (arith, o, e, h) in
        (v, ap (answer_to v) (sym at) ∙ sym o ∙ ap (λ (z : Answer). Some z) same)
    by_case None o e later = later (grind (arith, o, e, h))

either : (c : Call) (b : Bool) (x y : Answer) → IsKind c x → IsKind c y → IsKind c (if b then x else y)
either c true x y p q = p
either c false x y p q = q

traced : (start max_count : ℤ) (o : Option ℕ) (most : ℕ) (frames : List Frame) → IsKind (call.Trace start max_count) (trace_from o most frames)
traced start max_count (Some n) most frames = tt
traced start max_count None most frames = tt

located : (depth : ℤ) (o : Option Frame) → IsKind (call.Location depth) (location_of o)
located depth (Some f) = tt
located depth None = tt

popped : (o : Option TiError) → IsKind call.Pop (done_or o)
popped (Some e) = tt
popped None = tt

kind_of : (v : ThreadView) (env : EnvNo) (c : Call) → IsKind c (answer_of v env c)
kind_of v env call.State = tt
kind_of v env call.FrameCount = either call.FrameCount (is_alive v.mode) _ _ tt tt
kind_of v env (call.Trace start max_count) = either (call.Trace start max_count) (is_alive v.mode) _ _ (traced start max_count (first_of_trace start (length v.frames)) (or_zero max_count) v.frames) tt
kind_of v env (call.Location depth) = either (call.Location depth) (is_alive v.mode) _ _ (located depth (slice_get v.frames (or_zero depth))) tt
kind_of v env call.Suspend = either call.Suspend (is_alive v.mode) _ _ (either call.Suspend v.suspended _ _ tt tt) tt
kind_of v env call.Resume = either call.Resume (is_alive v.mode) _ _ (either call.Resume v.suspended _ _ tt tt) tt
kind_of v env call.GetWord = either call.GetWord (is_alive v.mode) _ _ tt tt
kind_of v env call.Pop = either call.Pop (is_alive v.mode) _ _ (popped (pop_refusal v.suspended v.frames)) tt
kind_of v env (call.SetWord word) = either (call.SetWord word) (is_alive v.mode) _ _ tt tt

-- an answer that no thread gives
abbrev is_from_here : Answer → Bool
is_from_here a = is_for_memory a || is_timed_out a

either_not : (b : Bool) (x y : Answer) → is_from_here x ≡ false → is_from_here y ≡ false → is_from_here (if b then x else y) ≡ false
either_not true x y p q = p
either_not false x y p q = q

traced_not : (o : Option ℕ) (most : ℕ) (frames : List Frame) → is_from_here (trace_from o most frames) ≡ false
traced_not (Some n) most frames = refl
traced_not None most frames = refl

located_not : (o : Option Frame) → is_from_here (location_of o) ≡ false
located_not (Some f) = refl
located_not None = refl

popped_not : (suspended : Bool) (newest caller : Option Frame) → is_from_here (done_or (popping_refusal suspended newest caller)) ≡ false
popped_not false newest caller = refl
popped_not true None caller = refl
popped_not true (Some newest) None = refl
popped_not true (Some newest) (Some caller) = grind arith

-- no thread answers 110 or 214
from_thread : (v : ThreadView) (env : EnvNo) (c : Call) → is_from_here (answer_of v env c) ≡ false
from_thread v env call.State = refl
from_thread v env call.FrameCount = either_not (is_alive v.mode) _ _ refl refl
from_thread v env (call.Trace start max_count) = either_not (is_alive v.mode) _ _ (traced_not (first_of_trace start (length v.frames)) (or_zero max_count) v.frames) refl
from_thread v env (call.Location depth) = either_not (is_alive v.mode) _ _ (located_not (slice_get v.frames (or_zero depth))) refl
from_thread v env call.Suspend = either_not (is_alive v.mode) _ _ (either_not v.suspended _ _ refl refl) refl
from_thread v env call.Resume = either_not (is_alive v.mode) _ _ (either_not v.suspended _ _ refl refl) refl
from_thread v env call.GetWord = either_not (is_alive v.mode) _ _ refl refl
from_thread v env call.Pop = either_not (is_alive v.mode) _ _ (popped_not v.suspended (slice_get v.frames 0) (slice_get v.frames 1)) refl
from_thread v env (call.SetWord word) = either_not (is_alive v.mode) _ _ refl refl

-- what a desk was answered is what a thread answers to its call
answered_as : (old new : View) (env : EnvNo) (c : Call) (a : Answer) → IsAnswered old new (next_call old env c) a → (v : ThreadView) × (answer_of v env c ≡ a)
answered_as old new env c a k =
    let from : 0 + length k.front ≡ length k.front = omega arith in
    let all = all_settle (length k.front) (next_call old env c) false _ (subst (λ (h : List Entry). AllAt (length k.front) (next_call old env c) (placed h)) (sym k.stands) (subst (λ (n : ℕ). AllAt n (next_call old env c) (placed (k.front ++ next_call old env c ∷ k.rest))) from (one_here 0 k.front k.rest (next_call old env c)))) in
    let r = replied (new_thread old.subject.limits) (settled new.seen) (length k.front) (next_call old env c) a all k.replied in
    let same : answer_of r.0 env c ≡ a = grind (arith, r.1) in
    (r.0, same)

pub answered_kind : (old new : View) (env : EnvNo) (c : Call) (a : Answer) → IsAnswered old new (next_call old env c) a → IsKind c a
answered_kind old new env c a k = let r = answered_as old new env c a k in subst (λ (x : Answer). IsKind c x) r.1 (kind_of r.0 env c)

or_false : (x y : Bool) → (x || y) ≡ false → (x ≡ false) × (y ≡ false)
or_false true y e = cc e
or_false false y e = (refl, e)

answered_from_thread : (old new : View) (env : EnvNo) (c : Call) (a : Answer) → IsAnswered old new (next_call old env c) a → is_from_here a ≡ false
answered_from_thread old new env c a k = let r = answered_as old new env c a k in ap is_from_here (sym r.1) ∙ from_thread r.0 env c

pub answered_not : (old new : View) (env : EnvNo) (c : Call) (a : Answer) → IsAnswered old new (next_call old env c) a → is_for_memory a ≡ false
answered_not old new env c a k = let e = answered_from_thread old new env c a k in (or_false (is_for_memory a) (is_timed_out a) e).0

pub answered_in_time : (old new : View) (env : EnvNo) (c : Call) (a : Answer) → IsAnswered old new (next_call old env c) a → is_timed_out a ≡ false
answered_in_time old new env c a k = let e = answered_from_thread old new env c a k in (or_false (is_for_memory a) (is_timed_out a) e).1
