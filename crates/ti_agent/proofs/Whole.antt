-- What is true of an environment stays true.
use Rattle.std.proofs.Common.{◌≡◌, ◌≢◌, ℕ, zero, suc, ◌+◌, ◌-◌, ◌<◌, ◌≤◌, ◌&&◌, nat_le, nat_lt, Bool, true, false, if◌then◌else◌, inl, inr, List, [], ◌∷◌, ◌++◌, length, remove, refl, ap, sym, ◌∙◌, arith, subst, Some, None, length-set, length-append}
use Rattle.std.specs.Prelude.{slice_get, slice_index_or, slice_set, slice_index}
use Rattle.std.specs.List.{list_all}
use Rattle.std.proofs.lemmas.Bool.{cases_eq, cases_lt, cases_Bool, and_parts}
use Rattle.std.proofs.lemmas.List.Edits.{length-remove}
use Rattle.std.proofs.lemmas.Bool.Decides.{nat_tests}
use Rattle.std.proofs.lemmas.List.Sums.{fold-append}
use Rattle.ti_types.specs.declared.answer.Answer.{Answer}
use Rattle.ti_types.specs.declared.call.Call.{Call}
use Rattle.ti_types.specs.declared.entry.Entry.{Entry}
use Rattle.ti_types.specs.declared.entry.Entry.TheVariants.{Asked}
use Rattle.ti_types.specs.declared.limits.Limits.{Limits}
use Rattle.ti_types.specs.declared.numbers.EnvNo.{EnvNo}
use Rattle.ti_types.specs.declared.numbers.ThreadNo.{ThreadNo}
use Rattle.ti_types.specs.Frames as buffer
use Rattle.ti_env.specs.Env.{EnvValue, call_refusal, spent_at, with_spent, with_caps, with_known, without_place}
use Rattle.ti_replay.specs.Legal.{calls_spent}
use Rattle.ti_replay.specs.Settling.{waits}
use Rattle.ti_slot.specs.Waiting.{HasRoomFor, IsBufferOf}
use Rattle.ti_agent.specs.Buffers.{HasJustRoomFor, IsJustBufferOf}
use Rattle.ti_cell.proofs.Goes.{spent_more}
use Rattle.ti_handshake.specs.Call.{GoesOn, HoldsWith, WaitsWith, IsTold, next_call, ticket_told}
use Rattle.ti_types.specs.declared.event.Ticket.{Ticket}
use Rattle.ti_slot.specs.declared.asked.Asked.{Asked as AskedOf}
use Rattle.ti_slot.specs.declared.asked.Asked.TheVariants as asked
use Rattle.ti_slot.specs.Thread.{IsLate}
use Rattle.ti_slot.specs.Tickets.{same, without_ticket}
use Rattle.ti_agent.specs.Posts.{Posts}
use Rattle.ti_handshake.specs.Desk.{DeskState, IsSame, IsTicketOut}
use Rattle.ti_replay.specs.Fronts.{stops_by, stops_after}
use Rattle.ti_vmop.proofs.Each.{at_index, set_here}
use Rattle.ti_agent.specs.Env.{Environment, IsDesk, IsWhole, AreInOrder, place_in, place_of, thread_at, thread_refusal, told, out_of, is_full}
use Rattle.ti_agent.specs.FreeDesk.{FreeState, IsFree}
use Rattle.ti_agent.specs.Desks.{is_new, with_desk, without_desk, IsTaken}
use Rattle.ti_agent.proofs.Places.{about_at, order_set, below_at, behind, get_removed, spent_removed, order_removed, gone_from}
use Rattle.std.proofs.Common.{append-nil}
use Rattle.ti_agent.specs.Asks.{Asks, Went}
use Rattle.std.proofs.Common.{ℤ, Option, Ok, Err, OnOk, OnErr, Result}
use Rattle.ti_types.specs.declared.caps.Caps.{Caps}
use Rattle.ti_types.specs.declared.call.Call.TheVariants.{Trace}
use Rattle.ti_types.specs.declared.call.Call.TheVariants as call
use Rattle.ti_types.specs.Numbers.{or_zero}
use Rattle.ti_types.specs.declared.error.TiError.{TiError}

pub there : (s : EnvValue) (thread : ThreadNo) (c : Call) → call_refusal s thread c ≡ None → (thread.0 < length s.spent) × (spent_at s thread < s.limits.calls)
there s thread c h = (grind (arith, nat_tests, h), grind (arith, nat_tests, h))

-- the desk at a thread that a call reaches
pub desk_at : (s : Environment) (thread : ThreadNo) (c : Call) (p : DeskState) → IsWhole s → call_refusal s.state thread c ≡ None → p ≡ slice_index_or s.desks thread.0 p → slice_get s.desks thread.0 ≡ Some p
desk_at s thread c p whole h e = at_index s.desks thread.0 p (omega (arith, (there s.state thread c h).0, whole.count)) ∙ ap (λ (x : DeskState). Some x) (sym e)

pub may_call : (s : Environment) (thread : ThreadNo) (c : Call) (p : DeskState) → IsWhole s → call_refusal s.state thread c ≡ None → p ≡ slice_index_or s.desks thread.0 p
    → calls_spent p.env p.view.mine < p.view.subject.limits.calls
may_call s thread c p whole h e =
    let k = whole.desks thread.0 p (desk_at s thread c p whole h e) in
    let left = (there s.state thread c h).1 in
    let same : p.view.subject.limits.calls ≡ s.state.limits.calls = ap (λ x. x.calls) k.about in
    omega (arith, k.paid, left, same)

-- a buffer with just the room has the room
pub just_room : (limits : Limits) (m : ℤ) (b : buffer.Trace) → HasJustRoomFor limits m b → HasRoomFor limits (or_zero m) b
just_room limits m b h = let e = h.1 in (h.0, omega (arith, e))

just_buffer : (limits : Limits) (c : Call) (b : buffer.Trace) → IsJustBufferOf limits c b → IsBufferOf limits c b
just_buffer limits (call.Trace start m) b h = just_room limits m b h
just_buffer limits call.State b h = tt
just_buffer limits call.FrameCount b h = tt
just_buffer limits (call.Location depth) b h = tt
just_buffer limits call.Suspend b h = tt
just_buffer limits call.Resume b h = tt
just_buffer limits call.GetWord b h = tt
just_buffer limits (call.SetWord word) b h = tt
just_buffer limits call.Pop b h = tt

-- the desk there is under the environment's limits
pub desk_about : (s : Environment) (thread : ThreadNo) (c : Call) (p : DeskState) → IsWhole s → call_refusal s.state thread c ≡ None → p ≡ slice_index_or s.desks thread.0 p
    → p.view.subject.limits ≡ s.state.limits
desk_about s thread c p whole h e = (whole.desks thread.0 p (desk_at s thread c p whole h e)).about

-- its desk has room for one call more
pub has_room : (s : Environment) (thread : ThreadNo) (c : Call) (p : DeskState) → IsWhole s → call_refusal s.state thread c ≡ None → p ≡ slice_index_or s.desks thread.0 p
    → length p.view.posted ≤ p.view.subject.limits.window
has_room s thread c p whole h e =
    let k = whole.desks thread.0 p (desk_at s thread c p whole h e) in
    omega (arith, k.within, ap (λ x. x.window) k.about)

-- the desk at a thread's place
pub found_at : (s : Environment) (thread place : ThreadNo) (c : Call) (p : DeskState) → IsWhole s → call_refusal s.state place c ≡ None → p ≡ slice_index_or s.desks place.0 p → place ≡ place_of s.desks thread
    → slice_get s.desks (place_in s.desks thread) ≡ Some p
found_at s thread place c p whole h e found = ap (λ (x : ThreadNo). slice_get s.desks x.0) (sym found) ∙ desk_at s place c p whole h e

-- a call that is not refused is not refused by another word for it
pub told_none : (known : ℕ) (t : ThreadNo) (r : Option TiError) → told known t r ≡ None → r ≡ None
told_none known t None h = refl
told_none known t (Some e) h = absurd (never h)
  where
    never : told known t (Some e) ≡ None → ⊥
    never h = cc

-- a call that reaches a thread is admitted at its place
pub reaches : (a s : Environment) (thread place : ThreadNo) (c : Call) → s ≡ a → place ≡ place_of a.desks thread → thread_refusal a thread c ≡ None → call_refusal s.state place c ≡ None
reaches a s thread place c same found free = subst (λ (z : Environment × ThreadNo). call_refusal z.0.state z.1 c ≡ None) (λ j. (sym same j, sym found j)) (told_none a.state.known thread _ free)

pub found_in : (a s : Environment) (thread place : ThreadNo) → s ≡ a → place ≡ place_of a.desks thread → place ≡ place_of s.desks thread
found_in a s thread place same found = found ∙ ap (λ (x : Environment). place_of x.desks thread) (sym same)

-- and for one that stays out, if it may wait and not as many are out as may be
pub may_stay : (s : Environment) (thread place : ThreadNo) (c : Call) (p : DeskState) → IsWhole s → call_refusal s.state place c ≡ None → p ≡ slice_index_or s.desks place.0 p → place ≡ place_of s.desks thread
    → (waits c && is_full s thread) ≡ false → waits c ≡ true → length p.view.posted < s.state.limits.window
may_stay s thread place c p whole h e found free may =
    let less : nat_le s.state.limits.window (length p.view.posted) ≡ false = ap (λ (o : Option DeskState). nat_le s.state.limits.window (out_of o)) (sym (found_at s thread place c p whole h e found)) ∙ grind (arith, free, may) in
    grind (arith, nat_tests, less)

-- a call that may stay out is at most one ticket more
pub one_more : (old : List Ticket) (c : Call) (r : AskedOf) (window : ℕ) → length old ≤ window → (waits c ≡ true → length old < window) → IsLate c r → length (old ++ ticket_told r) ≤ window
one_more old c (asked.Answered a) window within free late = omega (arith, within, length-append old [])
one_more old c (asked.Waiting k) window within free late = omega (arith, free late, length-append old (k ∷ []))

-- and one that is collected is one less
pub fewer : (t : Ticket) (tickets : List Ticket) → length (without_ticket t tickets) ≤ length tickets
fewer t [] = omega arith
fewer t (u ∷ tickets) =
    elim (cases_Bool (same u t)) [
      | inl it ↦ grind (arith, it)
      | inr other ↦ grind (arith, other, fewer t tickets)
    ]

pub fewer_if : (b : Bool) (t : Ticket) (tickets : List Ticket) → length (if b then without_ticket t tickets else tickets) ≤ length tickets
fewer_if true t tickets = fewer t tickets
fewer_if false t tickets = omega arith

pub has_buffer : (s : Environment) (thread : ThreadNo) (c : Call) (p : DeskState) (b : buffer.Trace) → IsWhole s → call_refusal s.state thread c ≡ None → p ≡ slice_index_or s.desks thread.0 p
    → IsJustBufferOf s.state.limits c b → IsBufferOf p.view.subject.limits c b
has_buffer s thread c p b whole h e has =
    let k = whole.desks thread.0 p (desk_at s thread c p whole h e) in
    subst (λ (x : Limits). IsBufferOf x c b) (sym k.about) (just_buffer s.state.limits c b has)

pub set_there : (l : List DeskState) (t i : ℕ) (x w : DeskState) → t ≢ i → slice_get (slice_set l t x) i ≡ Some w → slice_get l i ≡ Some w
set_there [] t i x w n e = e
set_there (y ∷ ys) zero zero x w n e = absurd (n refl)
set_there (y ∷ ys) zero (suc i) x w n e = e
set_there (y ∷ ys) (suc t) zero x w n e = e
set_there (y ∷ ys) (suc t) (suc i) x w n e = set_there ys t i x w (λ h. n (ap suc h)) e

pub set_other : (l : List ℕ) (i j v : ℕ) → i ≢ j → slice_index (slice_set l i v) j ≡ slice_index l j
set_other [] i j v n = refl
set_other (x ∷ xs) zero zero v n = absurd (n refl)
set_other (x ∷ xs) zero (suc j) v n = refl
set_other (x ∷ xs) (suc i) zero v n = refl
set_other (x ∷ xs) (suc i) (suc j) v n = set_other xs i j v (λ h. n (ap suc h))

pub set_same : (l : List ℕ) (i v : ℕ) → i < length l → slice_index (slice_set l i v) i ≡ v
set_same [] i v h = absurd (omega (arith, h))
set_same (x ∷ xs) zero v h = refl
set_same (x ∷ xs) (suc i) v h = set_same xs i v (omega (arith, h))

-- a call stops nobody
pub stops_call : (env : EnvNo) (mine : List Entry) (n : ℕ) (c : Call) → stops_by env (mine ++ Asked env n c ∷ []) ≡ stops_by env mine
stops_call env mine n c = fold-append (stops_after env) false mine (Asked env n c ∷ [])

-- the environment after a call
abbrev pub after_call : Environment → ThreadNo → EnvValue → DeskState → Environment
after_call s thread state q = record { env = s.env; state = state; desks = slice_set s.desks thread.0 q }

pub whole_after : (s : Environment) (thread : ThreadNo) (c : Call) (p q : DeskState) (state : EnvValue) → IsWhole s → call_refusal s.state thread c ≡ None → p ≡ slice_index_or s.desks thread.0 p
    → state ≡ with_spent s.state thread → q.env ≡ p.env → GoesOn p.view q.view → q.view.mine ≡ p.view.mine ++ next_call p.view p.env c ∷ [] → length q.view.posted ≤ s.state.limits.window
    → IsWhole (after_call s thread state q)
whole_after s thread c p q state whole h e spend same_place goes_on more within = subst (λ (z : EnvValue). IsWhole (after_call s thread z q)) (sym spend) done
  where
    here : (i : ℕ) → thread.0 ≡ i → IsDesk (after_call s thread (with_spent s.state thread) q) i q
    here i same =
        let reach = there s.state thread c h in
        let old = whole.desks thread.0 p (desk_at s thread c p whole h e) in
        let mine : q.view.mine ≡ p.view.mine ++ next_call p.view p.env c ∷ [] = more in
        let stops : stops_by q.env q.view.mine ≡ stops_by p.env p.view.mine = (λ j. stops_by (same_place j) (mine j)) ∙ stops_call p.env p.view.mine _ c in
        let calls : calls_spent q.env q.view.mine ≡ calls_spent p.env p.view.mine + 1 = (λ j. calls_spent (same_place j) (mine j)) ∙ spent_more p.env p.view.mine _ c in
        let spent : slice_index (with_spent s.state thread).spent thread.0 ≡ spent_at s.state thread + 1 = set_same s.state.spent thread.0 (spent_at s.state thread + 1) reach.0 in
        let there : IsDesk (after_call s thread (with_spent s.state thread) q) thread.0 q = record {
          env_is = same_place ∙ old.env_is;
          about = ap (λ x. x.limits) goes_on.subject ∙ old.about;
          free = stops ∙ old.free;
          paid = omega (arith, old.paid, calls, spent, reach.1);
          within = within;
        } in
        subst (λ (j : ℕ). IsDesk (after_call s thread (with_spent s.state thread) q) j q) same there

    desks : (i : ℕ) (w : DeskState) → slice_get (slice_set s.desks thread.0 q) i ≡ Some w → IsDesk (after_call s thread (with_spent s.state thread) q) i w
    desks i w f = elim (cases_eq thread.0 i) [
      | inl same ↦
          let is : q ≡ w = set_here s.desks thread.0 q w (ap (slice_get (slice_set s.desks thread.0 q)) same ∙ f) in
          subst (λ (x : DeskState). IsDesk (after_call s thread (with_spent s.state thread) q) i x) is (here i same)
      | inr other ↦
          let old = whole.desks i w (set_there s.desks thread.0 i q w other f) in
          let spent : slice_index (with_spent s.state thread).spent i ≡ slice_index s.state.spent i = set_other s.state.spent thread.0 i (spent_at s.state thread + 1) other in
          record { env_is = old.env_is; about = old.about; free = old.free; paid = omega (arith, old.paid, spent); within = old.within }
    ]

    done : IsWhole (after_call s thread (with_spent s.state thread) q)
    done = record {
      count = length-set s.state.spent thread.0 (spent_at s.state thread + 1) ∙ (whole.count ∙ sym (length-set s.desks thread.0 q));
      in_order = order_set s.desks thread.0 p q (desk_at s thread c p whole h e) goes_on.subject whole.in_order;
      desks = desks;
    }

-- the environment after a call at a thread's place
pub after_is : (s : Environment) (thread place : ThreadNo) (q : DeskState) (state : EnvValue) → place ≡ place_of s.desks thread → state ≡ with_spent s.state place
    → after_call s place state q ≡ after_call s (place_of s.desks thread) (with_spent s.state (place_of s.desks thread)) q
after_is s thread place q state found spend = ap (λ (z : EnvValue). after_call s place z q) spend ∙ ap (λ (x : ThreadNo). after_call s x (with_spent s.state x) q) found

pub went : (s new : Environment) (thread place : ThreadNo) (c : Call) (p q : DeskState) (a : Answer) (state : EnvValue) → IsWhole s → call_refusal s.state place c ≡ None → p ≡ slice_index_or s.desks place.0 p → place ≡ place_of s.desks thread
    → state ≡ with_spent s.state place → Asks p q c a → new ≡ after_call s place state q → Went s new thread c a
went s new thread place c p q a state whole h e found spend k is =
    let at = found_at s thread place c p whole h e found in
    record {
      before = p;
      after = q;
      there = at;
      about = about_at s.desks thread p at;
      asks = k;
      new_is = is ∙ after_is s thread place q state found spend;
    }

-- an environment's state may change in what no desk knows
pub whole_with : (s : Environment) (state : EnvValue) → IsWhole s → state.spent ≡ s.state.spent → state.limits ≡ s.state.limits → IsWhole (record { env = s.env; state = state; desks = s.desks })
whole_with s state whole spent limits = record {
  count = ap (λ (l : List ℕ). length l) spent ∙ whole.count;
  in_order = whole.in_order;
  desks = λ i p e. (let old = whole.desks i p e in record {
    env_is = old.env_is;
    about = old.about ∙ sym limits;
    free = old.free;
    paid = subst (λ (z : List ℕ × ℕ). z.1 - slice_index z.0 i + calls_spent p.env p.view.mine ≤ z.1) (λ j. (sym spent j, (sym limits j).calls)) old.paid;
    within = subst (λ (l : Limits). length p.view.posted ≤ l.window) (sym limits) old.within;
  });
}

-- more or fewer capabilities, or as many
pub caps_whole : (s : Environment) (state : EnvValue) (r : Result (Unit {0}) TiError) (caps : Caps) → IsWhole s → OnOk r (state ≡ with_caps s.state caps) → OnErr r (state ≡ s.state)
    → IsWhole (record { env = s.env; state = state; desks = s.desks })
caps_whole s state (Ok u) caps whole added same = subst (λ (z : EnvValue). IsWhole (record { env = s.env; state = z; desks = s.desks })) (sym added) (whole_with s (with_caps s.state caps) whole refl refl)
caps_whole s state (Err e) caps whole added same = subst (λ (z : EnvValue). IsWhole (record { env = s.env; state = z; desks = s.desks })) (sym same) (whole_with s s.state whole refl refl)

pub posts : (s new : Environment) (thread place : ThreadNo) (c : Call) (p q : DeskState) (r : AskedOf) (state : EnvValue) → IsWhole s → call_refusal s.state place c ≡ None → p ≡ slice_index_or s.desks place.0 p → place ≡ place_of s.desks thread
    → state ≡ with_spent s.state place → IsSame p q → HoldsWith p.view q.view (next_call p.view p.env c ∷ []) (p.view.posted ++ ticket_told r) → IsTold p.view q.view p.env c r → IsTicketOut q r → new ≡ after_call s place state q → Posts s new thread c r
posts s new thread place c p q r state whole h e found spend same hold told out is = record {
  before = p;
  after = q;
  there = found_at s thread place c p whole h e found;
  about = about_at s.desks thread p (found_at s thread place c p whole h e found);
  same = same;
  hold = hold;
  told = told;
  out = out;
  new_is = is ∙ after_is s thread place q state found spend;
}

-- a desk saw more, and added nothing
pub whole_seen : (s : Environment) (t : ℕ) (p q : DeskState) (tickets : List Ticket) → IsWhole s → slice_get s.desks t ≡ Some p → q.env ≡ p.env → WaitsWith p.view q.view [] tickets → length tickets ≤ length p.view.posted
    → IsWhole (record { env = s.env; state = s.state; desks = slice_set s.desks t q })
whole_seen s t p q tickets whole at same hold fewer = record {
  count = whole.count ∙ sym (length-set s.desks t q);
  in_order = order_set s.desks t p q at hold.goes.subject whole.in_order;
  desks = desks;
}
  where
    here : IsDesk s t q
    here =
        let old = whole.desks t p at in
        let mine : q.view.mine ≡ p.view.mine = hold.mine ∙ append-nil p.view.mine in
        let calls : calls_spent q.env q.view.mine ≡ calls_spent p.env p.view.mine = λ j. calls_spent (same j) (mine j) in
        record {
          env_is = same ∙ old.env_is;
          about = ap (λ x. x.limits) hold.goes.subject ∙ old.about;
          free = (λ j. stops_by (same j) (mine j)) ∙ old.free;
          paid = omega (arith, old.paid, calls);
          within = omega (arith, old.within, fewer, ap (λ (l : List Ticket). length l) hold.posted);
        }

    desks : (i : ℕ) (w : DeskState) → slice_get (slice_set s.desks t q) i ≡ Some w → IsDesk (record { env = s.env; state = s.state; desks = slice_set s.desks t q }) i w
    desks i w f = elim (cases_eq t i) [
      | inl e ↦
          let is : q ≡ w = set_here s.desks t q w (ap (slice_get (slice_set s.desks t q)) e ∙ f) in
          let there : IsDesk s i w = subst (λ (z : ℕ × DeskState). IsDesk s z.0 z.1) (λ j. (e j, is j)) here in
          record { env_is = there.env_is; about = there.about; free = there.free; paid = there.paid; within = there.within }
      | inr other ↦
          let old = whole.desks i w (set_there s.desks t i q w other f) in
          record { env_is = old.env_is; about = old.about; free = old.free; paid = old.paid; within = old.within }
    ]

pub desk_there : (s : Environment) (t : ℕ) (p : DeskState) → t < length s.desks → p ≡ slice_index_or s.desks t p → slice_get s.desks t ≡ Some p
desk_there s t p h e = at_index s.desks t p h ∙ ap (λ (x : DeskState). Some x) (sym e)

abbrev pub seen_call : Environment → ℕ → DeskState → Environment
seen_call s t q = record { env = s.env; state = s.state; desks = slice_set s.desks t q }

-- One desk more

name_front : (l : List DeskState) (p : DeskState) (i : ℕ) → i < length l → thread_at (l ++ p ∷ []) i ≡ thread_at l i
name_front [] p i h = absurd (omega (arith, h))
name_front (x ∷ l) p zero h = refl
name_front (x ∷ l) p (suc i) h = name_front l p i (omega (arith, h))

name_last : (l : List DeskState) (p : DeskState) → thread_at (l ++ p ∷ []) (length l) ≡ p.view.subject.thread
name_last [] p = refl
name_last (x ∷ l) p = name_last l p

desk_front : (l : List DeskState) (p w : DeskState) (i : ℕ) → i < length l → slice_get (l ++ p ∷ []) i ≡ Some w → slice_get l i ≡ Some w
desk_front [] p w i h e = absurd (omega (arith, h))
desk_front (x ∷ l) p w zero h e = e
desk_front (x ∷ l) p w (suc i) h e = desk_front l p w i (omega (arith, h)) e

desk_last : (l : List DeskState) (p w : DeskState) (i : ℕ) → length l ≤ i → slice_get (l ++ p ∷ []) i ≡ Some w → (length l ≡ i) × (p ≡ w)
desk_last [] p w zero h e = (refl, is p w e)
  where
    is : (x y : DeskState) → Some x ≡ Some y → x ≡ y
    is x y e = cc
desk_last [] p w (suc i) h e = absurd (none e)
  where
    none : slice_get (p ∷ []) (suc i) ≡ Some w → ⊥
    none e = cc
desk_last (x ∷ l) p w zero h e = absurd (omega (arith, h))
desk_last (x ∷ l) p w (suc i) h e =
    let r = desk_last l p w i (omega (arith, h)) e in
    (ap suc r.0, r.1)

spent_front : (l : List ℕ) (v i : ℕ) → i < length l → slice_index (l ++ v ∷ []) i ≡ slice_index l i
spent_front [] v i h = absurd (omega (arith, h))
spent_front (x ∷ l) v zero h = refl
spent_front (x ∷ l) v (suc i) h = spent_front l v i (omega (arith, h))

spent_last : (l : List ℕ) (v : ℕ) → slice_index (l ++ v ∷ []) (length l) ≡ v
spent_last [] v = refl
spent_last (x ∷ l) v = spent_last l v

order_more : (l : List DeskState) (p : DeskState) → AreInOrder l → list_all (λ q. nat_lt q.view.subject.thread.0 p.view.subject.thread.0) l ≡ true → AreInOrder (l ++ p ∷ [])
order_more l p order new i j h k =
    let long = length-append l (p ∷ []) in
    let first : (thread_at (l ++ p ∷ []) i).0 ≡ (thread_at l i).0 = ap (λ (t : ThreadNo). t.0) (name_front l p i (omega (arith, h, k, long))) in
    elim (cases_lt j (length l)) [
      | inl b ↦
          let less = order i j h b in
          omega (arith, less, first, ap (λ (t : ThreadNo). t.0) (name_front l p j b))
      | inr b ↦
          let at : j ≡ length l = omega (arith, b, k, long) in
          let last : (thread_at (l ++ p ∷ []) j).0 ≡ p.view.subject.thread.0 = ap (λ (t : ThreadNo). t.0) (ap (thread_at (l ++ p ∷ [])) at ∙ name_last l p) in
          let less = below_at l p.view.subject.thread.0 i new (omega (arith, h, at)) in
          omega (arith, less, first, last)
    ]

-- a desk that no environment has, under an environment's limits
free_here : (s : Environment) (f : FreeState) (i : ℕ) → IsFree f → f.desk.env ≡ s.env → f.desk.view.subject.limits ≡ s.state.limits → spent_at s.state (record { 0 = i }) ≡ f.spent → IsDesk s i f.desk
free_here s f i k env limits spent = record {
  env_is = env;
  about = limits;
  free = k.free;
  paid = subst (λ (z : ℕ × ℕ). z.0 - z.1 + calls_spent f.desk.env f.desk.view.mine ≤ z.0) (λ j. ((limits j).calls, sym spent j)) k.paid;
  within = subst (λ (l : Limits). length f.desk.view.posted ≤ l.window) limits k.within;
}

pub whole_more : (s : Environment) (f : FreeState) → IsWhole s → f.desk.env ≡ s.env → f.desk.view.subject.limits ≡ s.state.limits → is_new s f.desk.view.subject.thread ≡ true → IsFree f → IsWhole (with_desk s f)
whole_more s f whole env limits new free = record {
  count = length-append s.state.spent (f.spent ∷ []) ∙ (ap (λ n. n + 1) whole.count ∙ sym (length-append s.desks (f.desk ∷ [])));
  in_order = order_more s.desks f.desk whole.in_order (and_parts _ _ new).1;
  desks = one;
}
  where
    one : (i : ℕ) (w : DeskState) → slice_get (s.desks ++ f.desk ∷ []) i ≡ Some w → IsDesk (with_desk s f) i w
    one i w e = elim (cases_lt i (length s.desks)) [
      | inl here ↦
          let old = whole.desks i w (desk_front s.desks f.desk w i here e) in
          let spent : slice_index (s.state.spent ++ f.spent ∷ []) i ≡ slice_index s.state.spent i = spent_front s.state.spent f.spent i (omega (arith, here, whole.count)) in
          record { env_is = old.env_is; about = old.about; free = old.free; paid = omega (arith, old.paid, spent); within = old.within }
      | inr over ↦
          let r = desk_last s.desks f.desk w i over e in
          let spent : slice_index (s.state.spent ++ f.spent ∷ []) i ≡ f.spent = ap (slice_index (s.state.spent ++ f.spent ∷ [])) (sym (whole.count ∙ r.0)) ∙ spent_last s.state.spent f.spent in
          subst (λ (x : DeskState). IsDesk (with_desk s f) i x) r.1 (free_here (with_desk s f) f i free env limits spent)
    ]

-- One desk less

pub whole_less : (s : Environment) (t : ThreadNo) → IsWhole s → place_in s.desks t < length s.desks → IsWhole (without_desk s t)
whole_less s t whole h = record {
  count = (let a = length-remove s.desks (place_in s.desks t) h in let b = length-remove s.state.spent (place_in s.desks t) (omega (arith, h, whole.count)) in omega (arith, a, b, whole.count));
  in_order = order_removed s.desks (place_in s.desks t) h whole.in_order;
  desks = λ i w e. (let p = place_in s.desks t in
      let old = whole.desks (behind p i) w (sym (get_removed s.desks p i) ∙ e) in
      record {
        env_is = old.env_is;
        about = old.about;
        free = old.free;
        paid = omega (arith, old.paid, spent_removed s.state.spent p i);
        within = old.within;
      });
}

-- the desk that leaves
pub free_of : (s : Environment) (i : ℕ) (p : DeskState) → IsDesk s i p → IsFree (record { desk = p; spent = spent_at s.state (record { 0 = i }) })
free_of s i p k = record {
  free = k.free;
  paid = subst (λ (n : ℕ). n - spent_at s.state (record { 0 = i }) + calls_spent p.env p.view.mine ≤ n) (sym (ap (λ (l : Limits). l.calls) k.about)) k.paid;
  within = subst (λ (l : Limits). length p.view.posted ≤ l.window) (sym k.about) k.within;
}

-- what an environment is without it
pub left_is : (s : Environment) (t place : ThreadNo) (mid state : EnvValue) (desks : List DeskState) (below : ℕ) → place ≡ place_of s.desks t → mid ≡ without_place s.state place → state ≡ with_known mid below → below ≡ t.0 + 1 → desks ≡ remove s.desks place.0
    → record { env = s.env; state = state; desks = desks } ≡ without_desk s t
left_is s t place mid state desks below found gone known up rest =
    let at : mid ≡ without_place s.state (place_of s.desks t) = gone ∙ ap (without_place s.state) found in
    let now : state ≡ with_known (without_place s.state (place_of s.desks t)) (t.0 + 1) = known ∙ (λ j. with_known (at j) (up j)) in
    let others : desks ≡ remove s.desks (place_in s.desks t) = rest ∙ ap (λ (x : ThreadNo). remove s.desks x.0) found in
    λ j. record { env = s.env; state = now j; desks = others j }

pub taken : (s new : Environment) (t place : ThreadNo) (p : DeskState) (spent : ℕ) → IsWhole s → place ≡ place_of s.desks t → place.0 < length s.desks → p ≡ slice_index_or s.desks place.0 p → spent ≡ spent_at s.state place → new ≡ without_desk s t
    → IsTaken s new t (record { desk = p; spent = spent })
taken s new t place p spent whole found h e is new_is =
    let here : place_in s.desks t < length s.desks = subst (λ (x : ThreadNo). x.0 < length s.desks) found h in
    let at : slice_get s.desks (place_in s.desks t) ≡ Some p = ap (λ (x : ThreadNo). slice_get s.desks x.0) (sym found) ∙ desk_there s place.0 p h e in
    record {
      there = at;
      about = about_at s.desks t p at;
      spent = is ∙ ap (spent_at s.state) found;
      gone = subst (λ (x : Environment). place_in x.desks t ≡ length x.desks) (sym new_is) (gone_from s.desks t whole.in_order here);
      new_is = new_is;
    }
