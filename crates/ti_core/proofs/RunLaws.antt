-- A run sees each event when it happens, and knows at its end what each came to.
use Rattle.std.proofs.Common.{◌≡◌, ℕ, Bool, true, false, ◌&&◌, ◌||◌, ◌==◌, List, [], ◌∷◌, ◌++◌, length, refl, ap, ap₂, sym, subst, ◌∙◌, arith, Option, Some, None, append_assoc, append-nil, inl, inr}
use Rattle.std.proofs.lemmas.Bool.Decides.{nat_tests}
use Rattle.std.proofs.lemmas.Bool.{cases_Bool}
use Rattle.std.proofs.lemmas.List.Folds.{list_all-append}
use Rattle.ti_types.specs.declared.limits.Limits.{Limits}
use Rattle.ti_types.specs.declared.numbers.EnvNo.{EnvNo}
use Rattle.ti_types.specs.declared.numbers.ThreadNo.{ThreadNo}
use Rattle.ti_types.specs.declared.call.Call.{Call}
use Rattle.ti_types.specs.declared.entry.Entry.{Entry}
use Rattle.ti_types.specs.declared.entry.Entry.TheVariants as entry
use Rattle.ti_types.specs.declared.event.Event.{Event}
use Rattle.ti_types.specs.declared.event.Event.TheVariants.{Start, Own, Poll, ToNative, ToBlocked, Back, End, Ask, Stop, Read, Go, AddCaps, Relinquish, GetCaps, SetEnvWord, GetEnvWord}
use Rattle.ti_types.specs.declared.event.Ticket.{Ticket}
use Rattle.ti_types.specs.declared.event.Outcome.{Outcome}
use Rattle.ti_types.specs.declared.event.Outcome.TheVariants as outcome
use Rattle.ti_types.specs.declared.answer.Answer.{Answer}
use Rattle.ti_types.specs.declared.answer.Answer.TheVariants as answer
use Rattle.ti_types.specs.declared.error.TiError.{TiError}
use Rattle.ti_replay.specs.Admission.{Happening, dealings, refusal}
use Rattle.ti_replay.specs.Events.{history_of, history_from, history_behind, left_by, reaches, given, refused_or, read_outcome, stopping_refusal}
use Rattle.ti_replay.specs.Legal.{asked_by, is_legal}
use Rattle.ti_replay.specs.View.{view}
use Rattle.ti_replay.specs.Replies.{reply}
use Rattle.ti_replay.specs.Tickets.{reply_to}
use Rattle.ti_replay.specs.Outcomes.{out_of, told_now, is_for_memory, was_for_memory, happening, happenings}
use Rattle.ti_replay.proofs.EventLaws.{history_is_legal}
use Rattle.ti_replay.proofs.PlaceTickets.{reply_by_ticket}
use Rattle.ti_replay.proofs.ReplyLaws.{reply_stays}
use Rattle.ti_slot.specs.Tickets.{has, same, AreOnce}
use Rattle.ti_core.specs.Core.{CoreState, is_uncollected}
use Rattle.ti_core.specs.Threads.{IfPosted, is_ticket_of}
use Rattle.ti_core.specs.Refines.{Refines}
use Rattle.ti_core.specs.Runs.{IsTicketBy, IsSeen, AreSeen, tickets, are_uncollected, HasSeen, IsDue, AreDue}
use Rattle.ti_core.proofs.CallLaws.{once_more}
use Rattle.ti_core.proofs.ToldLaws.{history_now}

-- more events leave a longer history
extends : (limits : Limits) (t : ThreadNo) (front : List Happening) (h : List Entry) (events : List Happening) → (rest : List Entry) × (history_from limits t front h events ≡ h ++ rest)
extends limits t front h [] = ([], sym (append-nil h))
extends limits t front h (x ∷ events) =
    let one : (left : List Entry) × (history_behind limits t front h x ≡ h ++ left) =
    elim (cases_Bool (reaches limits t front x)) [
      | inl on ↦ (left_by limits h x.event, rw on refl)
      | inr off ↦ ([], rw off (sym (append-nil h)))
    ] in
    let more = extends limits t (front ++ x ∷ []) (history_behind limits t front h x) events in
    (one.0 ++ more.0, more.1 ∙ ap (λ l. l ++ more.0) one.1 ∙ append_assoc h one.0 more.0)

from-append : (limits : Limits) (t : ThreadNo) (front : List Happening) (h : List Entry) (a b : List Happening) → history_from limits t front h (a ++ b) ≡ history_from limits t (front ++ a) (history_from limits t front h a) b
from-append limits t front h [] b = rw append-nil refl
from-append limits t front h (x ∷ a) b = from-append limits t (front ++ x ∷ []) (history_behind limits t front h x) a b ∙ ap (λ f. history_from limits t f (history_from limits t (front ++ x ∷ []) (history_behind limits t front h x) a) b) (append_assoc front (x ∷ []) a)

pub history_extends : (limits : Limits) (t : ThreadNo) (a b : List Happening) → (rest : List Entry) × (history_of limits t (a ++ b) ≡ history_of limits t a ++ rest)
history_extends limits t a b =
    let e = extends limits t a (history_of limits t a) b in
    (e.0, from-append limits t [] [] a b ∙ e.1)

self : (n : ℕ) → (n == n) ≡ true
self n = grind (arith, nat_tests)

-- a reply that is given stays as more happens
given_stays : (limits : Limits) (t : ThreadNo) (a b : List Happening) (place : ℕ) (x : Outcome) → given (reply limits (history_of limits t a) place) ≡ Some x → given (reply limits (history_of limits t (a ++ b)) place) ≡ Some x
given_stays limits t a b place x e =
    let more = history_extends limits t a b in
    elim (reply limits (history_of limits t a) place) as (λ (r : Option Answer). reply limits (history_of limits t a) place ≡ r → given r ≡ Some x → given (reply limits (history_of limits t (a ++ b)) place) ≡ Some x) [
      | None ↦ λ q g. cc
      | Some y ↦ λ q g. ap given (ap (λ l. reply limits l place) more.1 ∙ reply_stays limits (history_of limits t a) more.0 place y q) ∙ g
    ] refl e

refused_stays : (r : Option TiError) (a b : Option Outcome) (x : Outcome) → (a ≡ Some x → b ≡ Some x) → refused_or r a ≡ Some x → refused_or r b ≡ Some x
refused_stays None a b x h e = h e
refused_stays (Some error) a b x h e = e

read_stays : (r : Option TiError) (a b : Option Answer) (x : Outcome) → (given a ≡ Some x → given b ≡ Some x) → read_outcome r a ≡ Some x → read_outcome r b ≡ Some x
read_stays None a b x h e = h e
read_stays (Some error) a b x h e = e

pub ask_out : (limits : Limits) (all front : List Happening) (w : Bool) (e : EnvNo) (t : ThreadNo) (c : Call) → out_of limits all front (record { event = Ask e t c; wanting = w })
    ≡ refused_or (refusal limits (dealings limits e t front) (record { event = Ask e t c; wanting = w })) (given (reply limits (history_of limits t all) (length (history_of limits t front))))
ask_out limits all front w e t c = rw (self t.0) refl

-- what an event has come to stays as more happens
pub out_stays : (limits : Limits) (all more front : List Happening) (w : Bool) (event : Event) (x : Outcome) → out_of limits all front (record { event = event; wanting = w }) ≡ Some x → out_of limits (all ++ more) front (record { event = event; wanting = w }) ≡ Some x
out_stays limits all more front w (Start u) x e = e
out_stays limits all more front w (Own u step) x e = e
out_stays limits all more front w (Poll u) x e = e
out_stays limits all more front w (ToNative u) x e = e
out_stays limits all more front w (ToBlocked u kind) x e = e
out_stays limits all more front w (Back u) x e = e
out_stays limits all more front w (End u) x e = e
out_stays limits all more front w (Ask f u c) x e =
    ask_out limits (all ++ more) front w f u c
    ∙ refused_stays (refusal limits (dealings limits f u front) (record { event = Ask f u c; wanting = w })) _ _ x (given_stays limits u all more (length (history_of limits u front)) x) (sym (ask_out limits all front w f u c) ∙ e)
out_stays limits all more front w (Stop f u) x e = e
out_stays limits all more front w (Read f u n) x e =
    rw (self u.0) (refused_stays (refusal limits (dealings limits f u front) (record { event = Read f u n; wanting = w })) _ _ x
    (read_stays (stopping_refusal (view limits (history_of limits u front)) (Read f u n)) _ _ x (given_stays limits u all more (length (history_of limits u front)) x)) (rw (self u.0) at e))
out_stays limits all more front w (Go f u) x e = e
out_stays limits all more front w (AddCaps f caps) x e = e
out_stays limits all more front w (Relinquish f caps) x e = e
out_stays limits all more front w (GetCaps f) x e = e
out_stays limits all more front w (SetEnvWord f v) x e = e
out_stays limits all more front w (GetEnvWord f) x e = e

none_refuses : (r : Option TiError) (a : Option Outcome) → None ≡ refused_or r a → r ≡ None
none_refuses None a e = refl
none_refuses (Some error) a e = cc

-- a posted call comes to the reply to its ticket
posted_due : (limits : Limits) (front more : List Happening) (w : Bool) (e : EnvNo) (t : ThreadNo) (c : Call) (k : Ticket) → None ≡ out_of limits (front ++ record { event = Ask e t c; wanting = w } ∷ []) front (record { event = Ask e t c; wanting = w })
    → k ≡ record { env = e; thread = t; no = asked_by e (history_of limits t front) }
    → out_of limits ((front ++ record { event = Ask e t c; wanting = w } ∷ []) ++ more) front (record { event = Ask e t c; wanting = w }) ≡ given (reply_to limits (history_of limits k.thread ((front ++ record { event = Ask e t c; wanting = w } ∷ []) ++ more)) k)
posted_due limits front more w e t c k n is =
    let h : Happening = record { event = Ask e t c; wanting = w } in
    let all = (front ++ h ∷ []) ++ more in
    let L = history_of limits t front in
    let r : refusal limits (dealings limits e t front) h ≡ None = none_refuses _ _ (n ∙ ask_out limits (front ++ h ∷ []) front w e t c) in
    let now : history_of limits t (front ++ h ∷ []) ≡ L ++ entry.Asked e (asked_by e L) c ∷ [] = history_now front limits t h refl (self t.0) r in
    let ext = history_extends limits t (front ++ h ∷ []) more in
    let u : Ticket = record { env = e; thread = t; no = asked_by e L } in
    let whole : history_of limits t all ≡ L ++ entry.Asked u.env u.no c ∷ ext.0 = ext.1 ∙ ap (λ l. l ++ ext.0) now ∙ append_assoc L (entry.Asked e (asked_by e L) c ∷ []) ext.0 in
    let legal : is_legal limits (L ++ entry.Asked u.env u.no c ∷ ext.0) ≡ true = ap (is_legal limits) (sym whole) ∙ history_is_legal limits t all in
    ask_out limits all front w e t c ∙ ap (λ q. refused_or q (given (reply limits (history_of limits t all) (length L)))) r
    ∙ ap (λ l. given (reply limits l (length L))) whole ∙ ap given (reply_by_ticket limits L ext.0 u c legal)
    ∙ ap (λ l. given (reply_to limits l u)) (sym whole) ∙ ap (λ (z : Ticket). given (reply_to limits (history_of limits z.thread all) z)) (sym is)

ticket_due : (limits : Limits) (front more : List Happening) (w : Bool) (event : Event) (k : Ticket) → None ≡ out_of limits (front ++ record { event = event; wanting = w } ∷ []) front (record { event = event; wanting = w }) → IsTicketBy limits front event k
    → out_of limits ((front ++ record { event = event; wanting = w } ∷ []) ++ more) front (record { event = event; wanting = w }) ≡ given (reply_to limits (history_of limits k.thread ((front ++ record { event = event; wanting = w } ∷ []) ++ more)) k)
ticket_due limits front more w (Ask e t c) k n p = posted_due limits front more w e t c k n p
ticket_due limits front more w (Start u) k n p = absurd p
ticket_due limits front more w (Own u step) k n p = absurd p
ticket_due limits front more w (Poll u) k n p = absurd p
ticket_due limits front more w (ToNative u) k n p = absurd p
ticket_due limits front more w (ToBlocked u kind) k n p = absurd p
ticket_due limits front more w (Back u) k n p = absurd p
ticket_due limits front more w (End u) k n p = absurd p
ticket_due limits front more w (Stop f u) k n p = absurd p
ticket_due limits front more w (Read f u m) k n p = absurd p
ticket_due limits front more w (Go f u) k n p = absurd p
ticket_due limits front more w (AddCaps f caps) k n p = absurd p
ticket_due limits front more w (Relinquish f caps) k n p = absurd p
ticket_due limits front more w (GetCaps f) k n p = absurd p
ticket_due limits front more w (SetEnvWord f v) k n p = absurd p
ticket_due limits front more w (GetEnvWord f) k n p = absurd p

-- what was seen of an event is due at the end
one_due : (limits : Limits) (front more : List Happening) (h : Happening) (o : Option Outcome) → IsSeen limits front h o → IsDue limits ((front ++ h ∷ []) ++ more) front h o
one_due limits front more h None s = absurd s
one_due limits front more h (Some (outcome.Posted k)) s = ticket_due limits front more h.wanting h.event k s.0 s.1
one_due limits front more h (Some outcome.Done) s = sym (out_stays limits (front ++ h ∷ []) more front h.wanting h.event outcome.Done (sym s.0))
one_due limits front more h (Some outcome.Clear) s = sym (out_stays limits (front ++ h ∷ []) more front h.wanting h.event outcome.Clear (sym s.0))
one_due limits front more h (Some outcome.Went) s = sym (out_stays limits (front ++ h ∷ []) more front h.wanting h.event outcome.Went (sym s.0))
one_due limits front more h (Some outcome.Held) s = sym (out_stays limits (front ++ h ∷ []) more front h.wanting h.event outcome.Held (sym s.0))
one_due limits front more h (Some (outcome.Refused error)) s = sym (out_stays limits (front ++ h ∷ []) more front h.wanting h.event (outcome.Refused error) (sym s.0))
one_due limits front more h (Some (outcome.Gave a)) s = sym (out_stays limits (front ++ h ∷ []) more front h.wanting h.event _ (sym s.0))

pub all_due : (limits : Limits) (all front hs : List Happening) (os : List (Option Outcome)) → all ≡ front ++ hs → AreSeen limits front hs os → AreDue limits all front hs os
all_due limits all front [] [] e s = tt
all_due limits all front [] (o ∷ os) e s = absurd s
all_due limits all front (h ∷ hs) [] e s = absurd s
all_due limits all front (h ∷ hs) (o ∷ os) e s =
    let z : (front ++ h ∷ []) ++ hs ≡ all = append_assoc front (h ∷ []) hs ∙ sym e in
    (subst (λ l. IsDue limits l front h o) z (one_due limits front hs h o s.0), all_due limits all (front ++ h ∷ []) hs os (sym z) s.1)

pub seen-snoc : (limits : Limits) (front hs : List Happening) (os : List (Option Outcome)) (h : Happening) (o : Option Outcome) → AreSeen limits front hs os → IsSeen limits (front ++ hs) h o → AreSeen limits front (hs ++ h ∷ []) (os ++ o ∷ [])
seen-snoc limits front [] [] h o s t = (subst (λ f. IsSeen limits f h o) (append-nil front) t, tt)
seen-snoc limits front [] (p ∷ os) h o s t = absurd s
seen-snoc limits front (g ∷ hs) [] h o s t = absurd s
seen-snoc limits front (g ∷ hs) (p ∷ os) h o s t = (s.0, seen-snoc limits (front ++ g ∷ []) hs os h o s.1 (subst (λ f. IsSeen limits f h o) (sym (append_assoc front (g ∷ []) hs)) t))

-- the mark for memory is read off what is told
pub told_memory : (o : Outcome) → was_for_memory (told_now o) ≡ is_for_memory o
told_memory outcome.Done = refl
told_memory outcome.Clear = refl
told_memory outcome.Went = refl
told_memory outcome.Held = refl
told_memory (outcome.Refused error) = refl
told_memory (outcome.Posted k) = refl
told_memory (outcome.Gave answer.Done) = refl
told_memory (outcome.Gave (answer.State b)) = refl
told_memory (outcome.Gave (answer.Count n)) = refl
told_memory (outcome.Gave (answer.Trace b)) = refl
told_memory (outcome.Gave (answer.Location f)) = refl
told_memory (outcome.Gave (answer.Word w)) = refl
told_memory (outcome.Gave (answer.Caps c)) = refl
told_memory (outcome.Gave (answer.Stack b f)) = refl
told_memory (outcome.Gave (answer.Refused error)) = refl

pub happenings-snoc : (xs : List Event) (os : List (Option Outcome)) (x : Event) (o : Option Outcome) → length xs ≡ length os → happenings (xs ++ x ∷ []) (os ++ o ∷ []) ≡ happenings xs os ++ happening x o ∷ []
happenings-snoc [] [] x o h = refl
happenings-snoc [] (p ∷ os) x o h = absurd (omega (arith, h))
happenings-snoc (y ∷ xs) [] x o h = absurd (omega (arith, h))
happenings-snoc (y ∷ xs) (p ∷ os) x o h = ap (λ r. happening y p ∷ r) (happenings-snoc xs os x o (omega (arith, h)))

pub same_is : (a b : Ticket) → same a b ≡ true → a ≡ b
same_is a b h =
    let n : a.no ≡ b.no = grind (arith, nat_tests, h) in
    let e : a.env.0 ≡ b.env.0 = grind (arith, nat_tests, h) in
    let t : a.thread.0 ≡ b.thread.0 = grind (arith, nat_tests, h) in
    ap (λ (x : ℕ). record { env = record { 0 = x }; thread = a.thread; no = a.no }) e
    ∙ ap (λ (x : ℕ). record { env = b.env; thread = record { 0 = x }; no = a.no }) t
    ∙ ap (λ (x : ℕ). record { env = b.env; thread = b.thread; no = x }) n

not_among : (s : CoreState) (k : Ticket) (ks : List Ticket) → are_uncollected s ks ≡ true → is_uncollected s k ≡ false → has k ks ≡ false
not_among s k [] h f = refl
not_among s k (u ∷ ks) h f =
    let here : is_uncollected s u ≡ true = and_first (is_uncollected s u) (are_uncollected s ks) h in
    let rest : are_uncollected s ks ≡ true = and_rest (is_uncollected s u) (are_uncollected s ks) h in
    elim (cases_Bool (same u k)) [
      | inl yes_same ↦ let q : true ≡ false = sym here ∙ ap (is_uncollected s) (same_is u k yes_same) ∙ f in cc
      | inr other ↦ rw other (not_among s k ks rest f)
    ]
  where
    and_first : (a b : Bool) → (a && b) ≡ true → a ≡ true
    and_first true b h = refl
    and_first false b h = h

    and_rest : (a b : Bool) → (a && b) ≡ true → b ≡ true
    and_rest true b h = h
    and_rest false b h = cc

still_uncollected : (s s' : CoreState) (ks : List Ticket) (b : Ticket → Bool) → are_uncollected s ks ≡ true → ((k : Ticket) → is_uncollected s' k ≡ (is_uncollected s k || b k)) → are_uncollected s' ks ≡ true
still_uncollected s s' [] b h f = refl
still_uncollected s s' (u ∷ ks) b h f =
    let here : is_uncollected s u ≡ true = grind (arith, h) in
    let rest : are_uncollected s ks ≡ true = grind (arith, h) in
    let q = f u in
    let one : is_uncollected s' u ≡ true = q ∙ ap (λ c. c || b u) here in
    rw one (still_uncollected s s' ks b rest f)

tickets-append : (os ps : List (Option Outcome)) → tickets (os ++ ps) ≡ tickets os ++ tickets ps
tickets-append [] ps = refl
tickets-append (None ∷ os) ps = tickets-append os ps
tickets-append (Some outcome.Done ∷ os) ps = tickets-append os ps
tickets-append (Some outcome.Clear ∷ os) ps = tickets-append os ps
tickets-append (Some outcome.Went ∷ os) ps = tickets-append os ps
tickets-append (Some outcome.Held ∷ os) ps = tickets-append os ps
tickets-append (Some (outcome.Refused error) ∷ os) ps = tickets-append os ps
tickets-append (Some (outcome.Gave a) ∷ os) ps = tickets-append os ps
tickets-append (Some (outcome.Posted k) ∷ os) ps = ap (λ ks. k ∷ ks) (tickets-append os ps)

-- the tickets of a run after one more event
record HasTickets (s : CoreState) (ks : List Ticket) : Type 0 where
  kept : are_uncollected s ks ≡ true
  once : AreOnce ks

no_more : (s s' : CoreState) (ks : List Ticket) (b : Ticket → Bool) → HasTickets s ks → ((k : Ticket) → is_uncollected s' k ≡ (is_uncollected s k || b k)) → HasTickets s' (ks ++ [])
no_more s s' ks b h f = rw append-nil (record { kept = still_uncollected s s' ks b h.kept f; once = h.once })

one_more : (s s' : CoreState) (ks : List Ticket) (k : Ticket) → HasTickets s ks → ((u : Ticket) → is_uncollected s' u ≡ (is_uncollected s u || same k u)) → is_uncollected s k ≡ false → HasTickets s' (ks ++ k ∷ [])
one_more s s' ks k h f fresh = record {
  kept =
      let old = still_uncollected s s' ks (λ u. same k u) h.kept f in
      let q = f k in
      let me : same k k ≡ true = grind (arith, nat_tests) in
      let new : is_uncollected s' k ≡ true = q ∙ ap₂ (λ a c. a || c) fresh me in
      list_all-append (is_uncollected s') ks (k ∷ []) ∙ rw (old, new) refl;
  once = once_more ks k h.once (not_among s k ks h.kept fresh);
}

tickets_on : (s s' : CoreState) (ks : List Ticket) (o : Outcome) → HasTickets s ks → ((u : Ticket) → is_uncollected s' u ≡ (is_uncollected s u || is_ticket_of o u)) → IfPosted o (λ k. is_uncollected s k ≡ false) → HasTickets s' (ks ++ tickets (Some o ∷ []))
tickets_on s s' ks outcome.Done h f fresh = no_more s s' ks (λ u. false) h f
tickets_on s s' ks outcome.Clear h f fresh = no_more s s' ks (λ u. false) h f
tickets_on s s' ks outcome.Went h f fresh = no_more s s' ks (λ u. false) h f
tickets_on s s' ks outcome.Held h f fresh = no_more s s' ks (λ u. false) h f
tickets_on s s' ks (outcome.Refused error) h f fresh = no_more s s' ks (λ u. false) h f
tickets_on s s' ks (outcome.Gave a) h f fresh = no_more s s' ks (λ u. false) h f
tickets_on s s' ks (outcome.Posted k) h f fresh = one_more s s' ks k h f fresh

-- a run has seen one more event
pub seen_on : (hs : List Happening) (os : List (Option Outcome)) (s s' : CoreState) (h : Happening) (o : Outcome) → HasSeen hs os s → Refines (hs ++ h ∷ []) s' → s'.limits ≡ s.limits → IsSeen s.limits hs h (Some o)
    → ((u : Ticket) → is_uncollected s' u ≡ (is_uncollected s u || is_ticket_of o u)) → IfPosted o (λ k. is_uncollected s k ≡ false) → HasSeen (hs ++ h ∷ []) (os ++ Some o ∷ []) s'
seen_on hs os s s' h o k st l seen f fresh =
    let ts = tickets_on s s' (tickets os) o (record { kept = k.kept; once = k.once }) f fresh in
    let e = sym (tickets-append os (Some o ∷ [])) in
    record {
      refines = st;
      seen = subst (λ m. AreSeen m [] (hs ++ h ∷ []) (os ++ Some o ∷ [])) (sym l) (seen-snoc s.limits [] hs os h (Some o) k.seen seen);
      kept = subst (λ z. are_uncollected s' z ≡ true) e ts.kept;
      once = subst AreOnce e ts.once;
    }

pub told_happening : (x : Event) (o : Outcome) → happening x (told_now o) ≡ happening x (Some o)
told_happening x o = ap (λ (w : Bool). record { event = x; wanting = w }) (told_memory o)
