-- Calls with a deadline, and calls that are cancelled.
use Rattle.std.proofs.Common.{length-set, ◌≡◌, ℕ, zero, suc, ◌<◌, ◌&&◌, Bool, true, false, List, [], ◌∷◌, ◌++◌, length, refl, ap, sym, ◌∙◌, arith, subst, Option, Some, None, Result, Ok, Err}
use Rattle.std.specs.Prelude.{slice_get, slice_set, slice_index_or, if◌then◌else◌, OnOk, OnErr}
use Rattle.std.specs.Option.{option_map}
use Rattle.std.specs.Option.{unwrap_or}
use Rattle.std.proofs.lemmas.List.{length-append}
use Rattle.ti_types.specs.Answer.{said}
use Rattle.ti_types.specs.declared.answer.Answer.{Answer}
use Rattle.ti_types.specs.declared.answer.Answer.TheVariants as answer
use Rattle.ti_types.specs.declared.call.Call.{Call}
use Rattle.ti_types.specs.declared.event.Ticket.{Ticket}
use Rattle.ti_types.specs.declared.error.TiError.{TiError}
use Rattle.ti_types.specs.declared.error.TiError.TheVariants.{Full, OutOfMemory, TimedOut}
use Rattle.ti_types.specs.declared.numbers.ThreadNo.{ThreadNo}
use Rattle.ti_env.specs.Env.{EnvValue, call_refusal, with_spent}
use Rattle.ti_types.specs.Refusing.{or_else}
use Rattle.ti_replay.specs.Admission.{takes_buffer}
use Rattle.ti_replay.specs.Settling.{waits}
use Rattle.ti_handshake.specs.Call.{GoesOn, Holds, next_call, next_ticket}
use Rattle.ti_handshake.specs.Desk.{DeskState, Discards, DiscardsOf, IsInTime, is_out}
use Rattle.ti_agent.specs.Env.{Environment, IsWhole, place_in, place_of, thread_refusal, told, is_full}
use Rattle.ti_agent.proofs.Places.{about_at, place_set}
use Rattle.ti_agent.specs.Asks.{Asks, Went, IsKind, is_for_memory, is_timed_out}
use Rattle.ti_agent.specs.Deadlines.{Cancels, DiscardsAt, CancelsLateAt, ComesAs, ComesTo, ComesWith, IsCalledWithin, IsCalledWithinBy}
use Rattle.ti_agent.proofs.Replied.{answered_kind, answered_not, answered_in_time}
use Rattle.ti_agent.proofs.Whole.{desk_at, found_at, after_is, may_stay, fewer_if, whole_after, after_call, went, whole_seen, seen_call}

-- a desk in its own place

set_back : (l : List DeskState) (t : ℕ) (p : DeskState) → slice_get l t ≡ Some p → slice_set l t p ≡ l
set_back [] t p at = refl
set_back (x ∷ l) zero p at = ap (λ (y : DeskState). y ∷ l) (let e : Some x ≡ Some p = at in sym cc)
set_back (x ∷ l) (suc t) p at = ap (λ (m : List DeskState). x ∷ m) (set_back l t p at)

pub seen_same : (s : Environment) (t : ℕ) (p q : DeskState) → slice_get s.desks t ≡ Some p → q ≡ p → seen_call s t q ≡ s
seen_same s t p q at e =
    let desks : slice_set s.desks t q ≡ s.desks = ap (slice_set s.desks t) e ∙ set_back s.desks t p at in
    λ i. record { env = s.env; state = s.state; desks = desks i }

-- a call that is cancelled

pub cancel_whole : (s : Environment) (t : ℕ) (p q : DeskState) (r : Result (Unit {0}) TiError) → IsWhole s → slice_get s.desks t ≡ Some p → q.env ≡ p.env → OnOk r (Holds p.view q.view []) → OnErr r (q ≡ p)
    → IsWhole (seen_call s t q)
cancel_whole s t p q (Ok u) whole at env hold same = whole_seen s t p q p.view.posted whole at env hold.waits (omega arith)
cancel_whole s t p q (Err e) whole at env hold same = subst (λ (z : Environment). IsWhole z) (sym (seen_same s t p q at same)) whole

pub cancels : (s : Environment) (k : Ticket) (t : ℕ) (p q : DeskState) (r : Result (Unit {0}) TiError) → t ≡ place_in s.desks k.thread → slice_get s.desks t ≡ Some p → (q.cell ≡ p.cell) × (q.env ≡ p.env) → OnOk r (Holds p.view q.view [])
    → OnOk r (q.cancelled ≡ (if is_out p k then p.cancelled ++ k ∷ [] else p.cancelled)) → OnOk r (q.former ≡ p.former) → OnOk r (place_in s.desks k.thread < length s.desks → Cancels s (seen_call s t q) k)
cancels s k t p q (Ok u) is at here hold cancelled former = λ _.
    let there = ap (slice_get s.desks) (sym is) ∙ at in
    record { before = p; after = q; there = there; about = about_at s.desks k.thread p there; cell = here.0; env = here.1; hold = hold; cancelled = cancelled; former = former; new_is = ap (λ (n : ℕ). seen_call s n q) is }
cancels s k t p q (Err e) is at here hold cancelled former = tt

-- an answer that is discarded

pub discard_whole : (s : Environment) (t : ℕ) (p q : DeskState) (was_there : Bool) → IsWhole s → slice_get s.desks t ≡ Some p → Discards p q was_there → IsWhole (seen_call s t q)
discard_whole s t p q was_there whole at d = by_list p.cancelled d
  where
    by_list : (l : List Ticket) → DiscardsOf l p q was_there → IsWhole (seen_call s t q)
    by_list [] k = subst (λ (z : Environment). IsWhole z) (sym (seen_same s t p q at k.0)) whole
    by_list (u ∷ l) k = whole_seen s t p q _ whole at k.env k.hold.waits (fewer_if was_there u p.view.posted)

-- it leaves each thread in its place
discards_subject : (p q : DeskState) (was_there : Bool) → Discards p q was_there → q.view.subject ≡ p.view.subject
discards_subject p q was_there d = by_list p.cancelled d
  where
    by_list : (l : List Ticket) → DiscardsOf l p q was_there → q.view.subject ≡ p.view.subject
    by_list [] k = ap (λ (x : DeskState). x.view.subject) k.0
    by_list (u ∷ l) k = k.hold.waits.goes.subject

pub discards_place : (old mid : Environment) (thread t : ThreadNo) (was_there : Bool) → DiscardsAt old mid thread was_there → place_in mid.desks t ≡ place_in old.desks t
discards_place old mid thread t was_there d =
    ap (λ (x : Environment). place_in x.desks t) d.new_is ∙ place_set old.desks (place_in old.desks thread) d.before d.after t d.there (discards_subject d.before d.after was_there d.discards)

pub discards_there : (old mid : Environment) (thread t : ThreadNo) (was_there : Bool) → DiscardsAt old mid thread was_there → place_in old.desks t < length old.desks → place_in mid.desks t < length mid.desks
discards_there old mid thread t was_there d here =
    let same : length mid.desks ≡ length old.desks = ap (λ (x : Environment). length x.desks) d.new_is ∙ length-set old.desks (place_in old.desks thread) d.after in
    let still = discards_place old mid thread t was_there d in
    omega (arith, here, same, still)

pub discards_free : (old mid : Environment) (thread t : ThreadNo) (c : Call) (was_there : Bool) → DiscardsAt old mid thread was_there → thread_refusal old t c ≡ None → thread_refusal mid t c ≡ None
discards_free old mid thread t c was_there d free =
    let state : mid.state ≡ old.state = ap (λ (x : Environment). x.state) d.new_is in
    subst (λ (z : EnvValue × ℕ). told z.0.known t (call_refusal z.0 (record { 0 = z.1 }) c) ≡ None) (λ j. (sym state j, sym (discards_place old mid thread t was_there d) j)) free

-- a call with a deadline

pub in_time_whole : (s : Environment) (thread place : ThreadNo) (c : Call) (p q : DeskState) (r : Option Answer) (state : EnvValue) → IsWhole s → call_refusal s.state place c ≡ None → p ≡ slice_index_or s.desks place.0 p
    → place ≡ place_of s.desks thread → state ≡ with_spent s.state place → (waits c && is_full s thread) ≡ false → GoesOn p.view q.view → q.view.mine ≡ p.view.mine ++ next_call p.view p.env c ∷ [] → IsInTime p q c r
    → IsWhole (after_call s place state q)
in_time_whole s thread place c p q (Some a) state whole h e found spend free goes mine k =
    let old = whole.desks place.0 p (desk_at s place c p whole h e) in
    whole_after s place c p q state whole h e spend k.0.env goes mine (omega (arith, ap (λ (l : List Ticket). length l) k.1.posted, old.within))
in_time_whole s thread place c p q None state whole h e found spend free goes mine k =
    let room = may_stay s thread place c p whole h e found free k.left.late in
    whole_after s place c p q state whole h e spend k.env goes mine (omega (arith, ap (λ (l : List Ticket). length l) k.left.posted, length-append p.view.posted (next_ticket p.view p.env ∷ []), room))

-- what is answered when a time is over
abbrev pub or_late : Option Answer → Answer
or_late (Some a) = a
or_late None = answer.Refused TimedOut

pub in_time_comes : (s : Environment) (thread place : ThreadNo) (c : Call) (p q : DeskState) (r : Option Answer) (a : Answer) (state : EnvValue) → IsWhole s → call_refusal s.state place c ≡ None → p ≡ slice_index_or s.desks place.0 p
    → place ≡ place_of s.desks thread → state ≡ with_spent s.state place → GoesOn p.view q.view → q.view.mine ≡ p.view.mine ++ next_call p.view p.env c ∷ [] → IsInTime p q c r → a ≡ or_late r
    → ComesTo s (after_call s place state q) thread c a
in_time_comes s thread place c p q (Some b) a state whole h e found spend goes mine k is =
    let asks : Asks p q c b = record { same = k.0; goes = goes; mine = mine; posted = k.1.posted; answer = k.1.answered } in
    let done : Went s (after_call s place state q) thread c b = went s (after_call s place state q) thread place c p q b state whole h e found spend asks refl in
    let short : is_for_memory b ≡ false = answered_not _ _ _ c b k.1.answered in
    let late : is_timed_out b ≡ false = answered_in_time _ _ _ c b k.1.answered in
    subst (λ (x : Answer). ComesTo s (after_call s place state q) thread c x) (sym is)
    (subst (λ (x : Bool × Bool). ComesAs x.0 x.1 s (after_call s place state q) thread c b) (λ i. (sym short i, sym late i)) done)
in_time_comes s thread place c p q None a state whole h e found spend goes mine k is =
    let at = found_at s thread place c p whole h e found in
    let gives : CancelsLateAt s (after_call s place state q) thread c = record {
      before = p;
      after = q;
      there = at;
      about = about_at s.desks thread p at;
      goes = goes;
      mine = mine;
      cancels_late = k;
      new_is = after_is s thread place q state found spend;
    } in
    subst (λ (x : Answer). ComesTo s (after_call s place state q) thread c x) (sym is) gives

pub in_time_kind : (c : Call) (p q : DeskState) (r : Option Answer) (a : Answer) → IsInTime p q c r → a ≡ or_late r → IsKind c a
in_time_kind c p q (Some b) a k is = subst (λ (x : Answer). IsKind c x) (sym is) (answered_kind _ _ _ c b k.1.answered)
in_time_kind c p q None a k is = subst (λ (x : Answer). IsKind c x) (sym is) (late_kind c)
  where
    late_kind : (d : Call) → IsKind d (answer.Refused TimedOut)
    late_kind d = tt

pub unwrapped : (r : Option Answer) (a : Answer) → a ≡ unwrap_or r (answer.Refused TimedOut) → said a ≡ or_late (option_map said r)
unwrapped None a is = ap said is
unwrapped (Some b) a is = ap said is

-- no memory
short_comes : (s : Environment) (thread : ThreadNo) (c : Call) (e : TiError) → e ≡ OutOfMemory → ComesTo s s thread c (answer.Refused e)
short_comes s thread c e is =
    let none : ComesTo s s thread c (answer.Refused OutOfMemory) = refl in
    subst (λ (x : TiError). ComesTo s s thread c (answer.Refused x)) (sym is) none

pub comes_within : (old mid new : Environment) (thread : ThreadNo) (c : Call) (a : Answer) (was_there : Bool) → thread_refusal old thread c ≡ None → DiscardsAt old mid thread was_there → ComesWith (waits c && is_full mid thread) mid new thread c a
    → IsCalledWithin old new thread c a
comes_within old mid new thread c a was_there free discards comes =
    subst (λ (o : Option TiError). IsCalledWithinBy o old new thread c a) (sym free) (record { was_there = was_there; mid = mid; discards = discards; comes = comes })

-- where there is room
pub comes_with_room : (mid new : Environment) (thread : ThreadNo) (c : Call) (a : Answer) → (waits c && is_full mid thread) ≡ false → ComesTo mid new thread c a → ComesWith (waits c && is_full mid thread) mid new thread c a
comes_with_room mid new thread c a room comes = subst (λ (b : Bool). ComesWith b mid new thread c a) (sym room) comes

-- at a full window, and where there is no memory for the buffer
without_by : (full buffer : Bool) (mid : Environment) (thread : ThreadNo) (c : Call) (e : TiError) → Some e ≡ or_else (if full then Some Full else None) (if buffer then Some OutOfMemory else None) → ComesWith full mid mid thread c (answer.Refused e)
without_by true buffer mid thread c e is = (refl, (let h : Some e ≡ Some Full = is in ap (λ (x : TiError). answer.Refused x) cc))
without_by false true mid thread c e is = short_comes mid thread c e (let h : Some e ≡ Some OutOfMemory = is in cc)
without_by false false mid thread c e is = let h : Some e ≡ None = is in cc

pub comes_without : (mid : Environment) (thread : ThreadNo) (c : Call) (e : TiError) → Some e ≡ or_else (if waits c && is_full mid thread then Some Full else None) (if takes_buffer c then Some OutOfMemory else None)
    → ComesWith (waits c && is_full mid thread) mid mid thread c (answer.Refused e)
comes_without mid thread c e is = without_by (waits c && is_full mid thread) (takes_buffer c) mid thread c e is
