-- What is tried at each thread of a list is one deed after another.
use Rattle.std.proofs.Common.{◌≡◌, ℕ, zero, suc, ◌≤◌, ◌&&◌, Bool, true, false, if◌then◌else◌, List, [], ◌∷◌, ◌++◌, length, refl, ap, sym, subst, ◌∙◌, arith, Option, Some, None, inl, inr}
use Rattle.std.specs.Prelude.{slice_get, slice_index_or, Result, Ok, Err}
use Rattle.std.proofs.lemmas.Bool.{cases_Bool}
use Rattle.ti_types.specs.Refusing.{or_else}
use Rattle.ti_types.specs.declared.call.Call.{Call}
use Rattle.ti_types.specs.declared.entry.Entry.{Entry}
use Rattle.ti_types.specs.declared.error.TiError.{TiError}
use Rattle.ti_types.specs.declared.error.TiError.TheVariants.{Full, OutOfMemory}
use Rattle.ti_types.specs.declared.event.Ticket.{Ticket}
use Rattle.ti_types.specs.declared.numbers.ThreadNo.{ThreadNo}
use Rattle.ti_env.specs.Env.{call_refusal, with_spent}
use Rattle.ti_replay.specs.Admission.{takes_buffer}
use Rattle.ti_replay.specs.Answers.{answer_of, is_running}
use Rattle.ti_replay.specs.Legal.{asked_by}
use Rattle.ti_replay.specs.Replies.{reply}
use Rattle.ti_replay.specs.Settling.{waits}
use Rattle.ti_replay.specs.View.{view}
use Rattle.ti_replay.proofs.PlaceLaws.{reply_at_once}
use Rattle.ti_slot.specs.declared.asked.Asked.{Asked as AskedOf}
use Rattle.ti_slot.specs.declared.asked.Asked.TheVariants.{Answered, Waiting}
use Rattle.ti_slot.specs.Thread.{IsLate}
use Rattle.ti_handshake.specs.Call.{found, ticket_told}
use Rattle.ti_handshake.specs.Desk.{DeskState}
use Rattle.ti_agent.specs.Env.{Environment, IsWhole, is_full, place_of, thread_refusal}
use Rattle.ti_agent.specs.Posts.{Posts, posting_refusal}
use Rattle.ti_agent.specs.ListTries.{IsTried}
use Rattle.ti_agent.proofs.Whole.{may_stay, one_more, told_none, whole_after}
use Rattle.ti_laws.specs.Lists.{ListsAreDeeds, deed_of}
use Rattle.ti_laws.specs.Runs.{Does}
use Rattle.ti_laws.proofs.AgreementLaws.{is_same}

none_first : (r s : Option TiError) → or_else r s ≡ None → r ≡ None
none_first None s h = refl
none_first (Some e) s h = cc h

none_next : (r s : Option TiError) → or_else r s ≡ None → s ≡ None
none_next None s h = h
none_next (Some e) s h = cc h

not_so : (b : Bool) → (if b then Some Full else None) ≡ None → b ≡ false
not_so true h = cc h
not_so false h = refl

get_or : (l : List DeskState) (i : ℕ) (p d : DeskState) → slice_get l i ≡ Some p → p ≡ slice_index_or l i d
get_or [] i p d h = cc h
get_or (x ∷ l) zero p d h = sym (is_same x p h)
get_or (x ∷ l) (suc i) p d h = get_or l i p d h

-- a call that got a ticket may wait
post_is_late : (old new : Environment) (t : ThreadNo) (c : Call) (r : AskedOf) → Posts old new t c r → IsLate c r
post_is_late old new t c (Answered a) w = tt
post_is_late old new t c (Waiting k) w =
    elim (cases_Bool (waits c)) [
      | inl may ↦ may
      | inr never ↦
          let p = w.before.view in
          let q = w.after.view in
          let limits = p.subject.limits in
          let front = found p q in
          let number = asked_by w.before.env p.mine in
          let at_once : (waits c && is_running (view limits front).mode) ≡ false = ap (λ (b : Bool). b && is_running (view limits front).mode) never in
          let replied : reply limits q.seen (length front) ≡ Some (answer_of (view limits front) w.before.env c) =
          ap (λ (l : List Entry). reply limits l (length front)) w.hold.waits.last ∙ reply_at_once limits front w.before.env number c at_once in
          let bad : None ≡ Some (answer_of (view limits front) w.before.env c) = sym w.told.0 ∙ replied in
          cc bad
    ]

post_is_whole : (old new : Environment) (t : ThreadNo) (c : Call) (r : AskedOf) → IsWhole old → posting_refusal old t c ≡ None → Posts old new t c r → IsWhole new
post_is_whole old new t c r whole free w =
    let place = place_of old.desks t in
    let p = w.before in
    let q = w.after in
    let reaches : call_refusal old.state place c ≡ None =
    told_none old.state.known t (call_refusal old.state place c) (none_first (thread_refusal old t c) (if waits c && is_full old t then Some Full else None) free) in
    let room : (waits c && is_full old t) ≡ false = not_so (waits c && is_full old t) (none_next (thread_refusal old t c) (if waits c && is_full old t then Some Full else None) free) in
    let at : p ≡ slice_index_or old.desks place.0 p = get_or old.desks place.0 p p w.there in
    let desk = whole.desks place.0 p w.there in
    let within : length (p.view.posted ++ ticket_told r) ≤ old.state.limits.window =
    one_more p.view.posted c r old.state.limits.window desk.within (may_stay old t place c p whole reaches at refl room) (post_is_late old new t c r w) in
    let fits : length q.view.posted ≤ old.state.limits.window = omega (arith, within, ap (λ (l : List Ticket). length l) w.hold.waits.posted) in
    subst IsWhole (sym w.new_is) (whole_after old place c p q (with_spent old.state place) whole reaches at refl w.same.env w.hold.waits.goes w.hold.waits.mine fits)

abbrev Follows : ThreadNo → Call → Result AskedOf TiError → Environment → Environment → Type 0
Follows t c x old new = Does (deed_of t c x) old new × IsWhole new

tried_is_done : (t : ThreadNo) (c : Call) (x : Result AskedOf TiError) (old new : Environment) → IsWhole old → IsTried old new c t x → Follows t c x old new
tried_is_done t c (Ok r) old new whole w = ((w.0, w.1), post_is_whole old new t c r whole w.0 w.1)
tried_is_done t c (Err e) old new whole w = (
  (
    w.0,
    elim w.1 [
      | inl refused ↦ inl (sym (ap (λ (r : Option TiError). or_else r (if takes_buffer c then Some OutOfMemory else None)) refused))
      | inr busy ↦ inr busy
    ],
  ),
  subst IsWhole (sym w.0) whole,
)

pub lists_are_deeds : ListsAreDeeds
lists_are_deeds c [] [] old new whole w = (w, subst IsWhole (sym w) whole)
lists_are_deeds c [] (x ∷ xs) old new whole w = absurd w
lists_are_deeds c (t ∷ ts) [] old new whole w = absurd w
lists_are_deeds c (t ∷ ts) (x ∷ xs) old new whole w =
    let first = tried_is_done t c x old w.0 whole w.1 in
    let rest = lists_are_deeds c ts xs w.0 new first.1 w.2 in
    ((w.0, whole, first.0, rest.0), rest.1)
