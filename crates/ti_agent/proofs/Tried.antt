-- Calls that never wait: what comes of each of their results.
use Rattle.std.proofs.Common.{◌≡◌, ℕ, ◌<◌, Bool, false, [], length, ap, sym, ◌∙◌, subst, Option, Some, None, arith, Result, Ok, Err}
use Rattle.std.specs.Prelude.{is_some, if◌then◌else◌, slice_get, IfSome, IfOk, IfErr, OnOk}
use Rattle.std.specs.Option.{option_map}
use Rattle.ti_types.specs.Answer.{said}
use Rattle.ti_types.specs.declared.answer.Answer.{Answer}
use Rattle.ti_types.specs.declared.call.Call.{Call}
use Rattle.ti_types.specs.declared.error.TiError.{TiError}
use Rattle.ti_types.specs.declared.error.TiError.TheVariants.{Busy}
use Rattle.ti_types.specs.declared.event.Ticket.{Ticket}
use Rattle.ti_types.specs.declared.numbers.ThreadNo.{ThreadNo}
use Rattle.ti_replay.specs.Tickets.{reply_to}
use Rattle.ti_slot.specs.Tickets.{has, without_ticket}
use Rattle.ti_slot.specs.declared.asked.Asked.{Asked as AskedOf}
use Rattle.ti_handshake.specs.Call.{Holds, HoldsWith}
use Rattle.ti_handshake.specs.Desk.{DeskState, Discards, IsSame, ReplyAtPlace, TellsDiscarded, is_out}
use Rattle.ti_handshake.specs.declared.discarded.Discarded.{Discarded}
use Rattle.ti_agent.specs.Deadlines.{DiscardsAt, TellsDiscardedAt}
use Rattle.ti_agent.specs.Env.{Environment, IsWhole, place_in}
use Rattle.ti_agent.specs.HandOvers.{LooksAt}
use Rattle.ti_agent.specs.Posts.{IsOutIfWaiting, LooksFor, Posts}
use Rattle.ti_agent.proofs.InTime.{discard_whole, seen_same}
use Rattle.ti_agent.proofs.Places.{about_at, set_get}
use Rattle.ti_agent.proofs.Posting.{looked_for, out_if_waiting}
use Rattle.ti_agent.proofs.Whole.{fewer_if, seen_call, whole_seen}

pub collect_whole : (s : Environment) (k : Ticket) (t : ℕ) (p q : DeskState) (r : Result (Option Answer) TiError) → IsWhole s → slice_get s.desks t ≡ Some p → IsSame p q
    → IfOk r (λ o. HoldsWith p.view q.view [] (if is_some o then without_ticket k p.view.posted else p.view.posted)) → IfErr r (λ e. (e ≡ Busy) × (q ≡ p)) → IsWhole (seen_call s t q)
collect_whole s k t p q (Ok o) whole at same hold busy = whole_seen s t p q _ whole at same.env hold.waits (fewer_if (is_some o) k p.view.posted)
collect_whole s k t p q (Err e) whole at same hold busy = subst (λ (z : Environment). IsWhole z) (sym (seen_same s t p q at busy.1)) whole

pub collect_looks : (s : Environment) (k : Ticket) (t : ℕ) (p q : DeskState) (r : Result (Option Answer) TiError) → t ≡ place_in s.desks k.thread → slice_get s.desks t ≡ Some p → IsSame p q
    → IfOk r (λ o. HoldsWith p.view q.view [] (if is_some o then without_ticket k p.view.posted else p.view.posted)) → IfOk r (λ o. IfSome o (λ a. has k q.view.posted ≡ false))
    → IfOk r (λ o. option_map said o ≡ (if is_out p k then reply_to p.view.subject.limits q.view.seen k else None)) → IfOk r (λ o. IfSome o (λ a. ReplyAtPlace p.view.subject.limits q.view.seen k (said a)))
    → IfOk r (λ o. place_in s.desks k.thread < length s.desks → LooksFor s (seen_call s t q) k (option_map said o))
collect_looks s k t p q (Ok o) is at same hold once answer place = λ _. looked_for s k t p q o is at same hold once answer place
collect_looks s k t p q (Err e) is at same hold once answer place = tt

pub tried_discard : (s : Environment) (t : ℕ) (p q : DeskState) (r : Result (Option Discarded) TiError) → IsWhole s → slice_get s.desks t ≡ Some p → IfOk r (λ d. Discards p q (is_some d)) → IfErr r (λ e. (e ≡ Busy) × (q ≡ p))
    → IsWhole (seen_call s t q)
tried_discard s t p q (Ok d) whole at discards busy = discard_whole s t p q (is_some d) whole at discards
tried_discard s t p q (Err e) whole at discards busy = subst (λ (z : Environment). IsWhole z) (sym (seen_same s t p q at busy.1)) whole

pub discarded : (s : Environment) (thread : ThreadNo) (t : ℕ) (p q : DeskState) (was_there : Bool) → t ≡ place_in s.desks thread → slice_get s.desks t ≡ Some p → Discards p q was_there → DiscardsAt s (seen_call s t q) thread was_there
discarded s thread t p q was_there is at discards =
    let there = ap (slice_get s.desks) (sym is) ∙ at in
    record { before = p; after = q; there = there; about = about_at s.desks thread p there; discards = discards; new_is = ap (λ (n : ℕ). seen_call s n q) is }

-- what is told of it
pub discarded_tells : (s : Environment) (thread : ThreadNo) (t : ℕ) (p q : DeskState) (k : Ticket) (a : Answer) → t ≡ place_in s.desks thread → slice_get s.desks t ≡ Some p → TellsDiscarded p q k a → TellsDiscardedAt s (seen_call s t q) thread k a
discarded_tells s thread t p q k a is at tells =
    record {
      before = p;
      after = q;
      there = ap (slice_get s.desks) (sym is) ∙ at;
      there_then = ap (λ (n : ℕ). slice_get (seen_call s t q).desks n) (sym is) ∙ set_get s.desks t p q at;
      tells = tells;
    }

pub tells_discarded : (s : Environment) (thread : ThreadNo) (t : ℕ) (p q : DeskState) (d : Option Discarded) → t ≡ place_in s.desks thread → slice_get s.desks t ≡ Some p → IfSome d (λ r. TellsDiscarded p q r.ticket (said r.answer))
    → IfSome d (λ r. TellsDiscardedAt s (seen_call s t q) thread r.ticket (said r.answer))
tells_discarded s thread t p q (Some r) is at tells = discarded_tells s thread t p q r.ticket (said r.answer) is at tells
tells_discarded s thread t p q None is at tells = tt

pub tried_tells : (s : Environment) (thread : ThreadNo) (t : ℕ) (p q : DeskState) (r : Result (Option Discarded) TiError) → t ≡ place_in s.desks thread → slice_get s.desks t ≡ Some p → IfOk r (λ d. IfSome d (λ o. TellsDiscarded p q o.ticket (said o.answer)))
    → IfOk r (λ d. IfSome d (λ o. TellsDiscardedAt s (seen_call s t q) thread o.ticket (said o.answer)))
tried_tells s thread t p q (Ok d) is at tells = tells_discarded s thread t p q d is at tells
tried_tells s thread t p q (Err e) is at tells = tt

pub discards_at : (s : Environment) (thread : ThreadNo) (t : ℕ) (p q : DeskState) (r : Result (Option Discarded) TiError) → t ≡ place_in s.desks thread → slice_get s.desks t ≡ Some p → IfOk r (λ d. Discards p q (is_some d))
    → IfOk r (λ d. place_in s.desks thread < length s.desks → DiscardsAt s (seen_call s t q) thread (is_some d))
discards_at s thread t p q (Ok d) is at discards = λ _. discarded s thread t p q (is_some d) is at discards
discards_at s thread t p q (Err e) is at discards = tt

-- if a call was posted and waits, its ticket is out
pub out_if_posted : (s new : Environment) (thread : ThreadNo) (c : Call) (r : Result AskedOf TiError) → IfOk r (λ a. Posts s new thread c a) → IfOk r (λ a. IsOutIfWaiting new a)
out_if_posted s new thread c (Ok a) posts = out_if_waiting s new thread c a posts
out_if_posted s new thread c (Err e) posts = tt

-- a look that adds nothing leaves the environment whole
pub look_whole : {A : Type 0} (s : Environment) (t : ℕ) (p q : DeskState) (r : Result A TiError) → IsWhole s → slice_get s.desks t ≡ Some p → IsSame p q → OnOk r (Holds p.view q.view []) → IfErr r (λ e. (e ≡ Busy) × (q ≡ p)) → IsWhole (seen_call s t q)
look_whole s t p q (Ok n) whole at same hold busy = whole_seen s t p q p.view.posted whole at same.env hold.waits (omega arith)
look_whole s t p q (Err e) whole at same hold busy = subst (λ (z : Environment). IsWhole z) (sym (seen_same s t p q at busy.1)) whole

-- what it takes is the same tickets, whatever it tells
pub takes_none : {A : Type 0} (p q : DeskState) (r : Result A TiError) → OnOk r (Holds p.view q.view []) → IfOk r (λ o. HoldsWith p.view q.view [] p.view.posted)
takes_none p q (Ok o) hold = hold
takes_none p q (Err e) hold = tt

-- what one look tells
pub looked : {A : Type 0} (tells : DeskState → A) (s : Environment) (thread : ThreadNo) (t : ℕ) (p q : DeskState) (r : Result A TiError) → t ≡ place_in s.desks thread → slice_get s.desks t ≡ Some p → IsSame p q → OnOk r (Holds p.view q.view []) → IfOk r (λ a. a ≡ tells q)
    → IfOk r (λ a. LooksAt tells s (seen_call s t q) thread a)
looked tells s thread t p q (Ok a) is at same hold told =
    let there = ap (slice_get s.desks) (sym is) ∙ at in
    record { before = p; after = q; there = there; about = about_at s.desks thread p there; same = same; hold = hold; told_is = told; new_is = ap (λ (n : ℕ). seen_call s n q) is }
looked tells s thread t p q (Err e) is at same hold told = tt
