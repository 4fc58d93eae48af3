-- At the end of a run each posted call gets its answer.
use Rattle.std.proofs.Common.{◌≡◌, ℕ, ◌+◌, ◌<◌, ◌≤◌, true, false, cond, List, [], ◌∷◌, ◌++◌, length, map, take, drop, get_or, slice_set, refl, ap, ap₂, sym, subst, ◌∙◌, arith, Option, Some, None, append_assoc, append-nil, inl, inr, length-set, add-one, drop-cons}
use Rattle.std.proofs.lemmas.Bool.Decides.{nat_tests}
use Rattle.std.proofs.lemmas.Bool.{cases_Bool}
use Rattle.std.proofs.lemmas.List.{map-append, map-set, set-get_or, take_more_set, drop-set-lt, drop_all, take_all}
use Rattle.ti_types.specs.declared.limits.Limits.{Limits}
use Rattle.ti_types.specs.declared.entry.Entry.{Entry}
use Rattle.ti_types.specs.declared.event.Event.{Event}
use Rattle.ti_types.specs.declared.event.Ticket.{Ticket}
use Rattle.ti_types.specs.declared.event.Outcome.{Outcome}
use Rattle.ti_types.specs.declared.event.Outcome.TheVariants as outcome
use Rattle.ti_types.specs.declared.view.ThreadView.{ThreadView}
use Rattle.ti_replay.specs.Admission.{Happening}
use Rattle.ti_replay.specs.Events.{history_of, given}
use Rattle.ti_replay.specs.Settling.{settled}
use Rattle.ti_replay.specs.View.{new_thread, after}
use Rattle.ti_replay.specs.Replies.{answer_to}
use Rattle.ti_replay.specs.Tickets.{reply_in, reply_to, is_call_of}
use Rattle.ti_replay.specs.Outcomes.{out_of, outs, outs_from, told_later, was_for_memory, happenings}
use Rattle.ti_slot.specs.Tickets.{has, same, AreOnce}
use Rattle.ti_core.specs.Core.{CoreState, is_uncollected}
use Rattle.ti_core.specs.Refines.{Refines}
use Rattle.ti_core.specs.Runs.{tickets, are_uncollected, HasSeen, IsDue, AreDue, IsFinished, is_posted, AtTurn}
use Rattle.ti_core.proofs.MemoryLaws.{or_memory, if_memory, entry_memory}
use Rattle.ti_core.proofs.RunLaws.{all_due, told_memory, same_is}

reply_in_memory : (v : ThreadView) (xs : List Entry) (k : Ticket) → was_for_memory (given (reply_in v xs k)) ≡ false
reply_in_memory v [] k = refl
reply_in_memory v (x ∷ xs) k =
    or_memory (cond (is_call_of k x) (answer_to v x) None) (reply_in (after v x) xs k) (if_memory (is_call_of k x) (answer_to v x) (entry_memory v x)) (reply_in_memory (after v x) xs k)

later_memory : (o : Option Outcome) → was_for_memory (told_later o) ≡ was_for_memory o
later_memory None = refl
later_memory (Some o) = told_memory o

-- what was told at once is finished, and a posted call's outcome is told at the end
finished_told : (limits : Limits) (hs front : List Happening) (h : Happening) (s : CoreState) (o r : Option Outcome) → s.limits ≡ limits → IsDue limits hs front h o → IsFinished hs s o r → ((k : Ticket) → is_posted o k ≡ true → is_uncollected s k ≡ true) → told_later r ≡ out_of limits hs front h
finished_told limits hs front h s None r l d f u = ap told_later f ∙ d
finished_told limits hs front h s (Some outcome.Done) r l d f u = ap told_later f ∙ d
finished_told limits hs front h s (Some outcome.Clear) r l d f u = ap told_later f ∙ d
finished_told limits hs front h s (Some outcome.Went) r l d f u = ap told_later f ∙ d
finished_told limits hs front h s (Some outcome.Held) r l d f u = ap told_later f ∙ d
finished_told limits hs front h s (Some (outcome.Refused error)) r l d f u = ap told_later f ∙ d
finished_told limits hs front h s (Some (outcome.Gave a)) r l d f u = ap told_later f ∙ d
finished_told limits hs front h s (Some (outcome.Posted k)) r l d f u =
    let me : same k k ≡ true = grind (arith, nat_tests) in
    f (u k me) ∙ ap (λ (m : Limits). given (reply_to m (history_of m k.thread hs) k)) l ∙ sym d

finished_marks : (hs : List Happening) (s : CoreState) (o r : Option Outcome) → IsFinished hs s o r → ((k : Ticket) → is_posted o k ≡ true → is_uncollected s k ≡ true) → was_for_memory r ≡ was_for_memory o
finished_marks hs s None r f u = ap was_for_memory f
finished_marks hs s (Some outcome.Done) r f u = ap was_for_memory f
finished_marks hs s (Some outcome.Clear) r f u = ap was_for_memory f
finished_marks hs s (Some outcome.Went) r f u = ap was_for_memory f
finished_marks hs s (Some outcome.Held) r f u = ap was_for_memory f
finished_marks hs s (Some (outcome.Refused error)) r f u = ap was_for_memory f
finished_marks hs s (Some (outcome.Gave a)) r f u = ap was_for_memory f
finished_marks hs s (Some (outcome.Posted k)) r f u =
    let me : same k k ≡ true = grind (arith, nat_tests) in
    sym (later_memory r) ∙ ap was_for_memory (f (u k me)) ∙ reply_in_memory (new_thread s.limits) (map (λ p. p.1) (settled (history_of s.limits k.thread hs))) k

-- the tickets of an outcome and of those after it
head_kept : (s : CoreState) (o : Option Outcome) (os : List (Option Outcome)) (k : Ticket) → are_uncollected s (tickets (o ∷ os)) ≡ true → is_posted o k ≡ true → is_uncollected s k ≡ true
head_kept s None os k h p = cc
head_kept s (Some outcome.Done) os k h p = cc
head_kept s (Some outcome.Clear) os k h p = cc
head_kept s (Some outcome.Went) os k h p = cc
head_kept s (Some outcome.Held) os k h p = cc
head_kept s (Some (outcome.Refused error)) os k h p = cc
head_kept s (Some (outcome.Gave a)) os k h p = cc
head_kept s (Some (outcome.Posted t)) os k h p =
    let e : t ≡ k = same_is t k p in
    let here : is_uncollected s t ≡ true = grind (arith, h) in
    ap (is_uncollected s) (sym e) ∙ here

record IsLeft (s : CoreState) (o : Option Outcome) (ks : List Ticket) : Type 0 where
  kept : are_uncollected s ks ≡ true
  once : AreOnce ks
  apart : (k : Ticket) → has k ks ≡ true → is_posted o k ≡ false

tail_left : (s : CoreState) (o : Option Outcome) (os : List (Option Outcome)) → are_uncollected s (tickets (o ∷ os)) ≡ true → AreOnce (tickets (o ∷ os)) → IsLeft s o (tickets os)
tail_left s None os h a = record { kept = h; once = a; apart = λ k p. refl }
tail_left s (Some outcome.Done) os h a = record { kept = h; once = a; apart = λ k p. refl }
tail_left s (Some outcome.Clear) os h a = record { kept = h; once = a; apart = λ k p. refl }
tail_left s (Some outcome.Went) os h a = record { kept = h; once = a; apart = λ k p. refl }
tail_left s (Some outcome.Held) os h a = record { kept = h; once = a; apart = λ k p. refl }
tail_left s (Some (outcome.Refused error)) os h a = record { kept = h; once = a; apart = λ k p. refl }
tail_left s (Some (outcome.Gave x)) os h a = record { kept = h; once = a; apart = λ k p. refl }
tail_left s (Some (outcome.Posted t)) os h a = record {
  kept = grind (arith, h);
  once = a.1;
  apart = λ k p.
      elim (cases_Bool (same t k)) [
        | inl one ↦ let q : true ≡ false = sym p ∙ ap (λ z. has z (tickets os)) (sym (same_is t k one)) ∙ a.0 in cc
        | inr other ↦ other
      ];
}

others_kept : (s s' : CoreState) (o : Option Outcome) (ks : List Ticket) → are_uncollected s ks ≡ true → ((k : Ticket) → has k ks ≡ true → is_posted o k ≡ false) → ((k : Ticket) → is_uncollected s k ≡ true → is_posted o k ≡ false → is_uncollected s' k ≡ true) → are_uncollected s' ks ≡ true
others_kept s s' o [] h a f = refl
others_kept s s' o (u ∷ ks) h a f =
    let me : same u u ≡ true = grind (arith, nat_tests) in
    let here : is_uncollected s u ≡ true = grind (arith, h) in
    let rest : are_uncollected s ks ≡ true = grind (arith, h) in
    let there : has u (u ∷ ks) ≡ true = rw me refl in
    let one : is_uncollected s' u ≡ true = f u here (a u there) in
    let more = others_kept s s' o ks rest (λ k p. a k (let c = same u k in grind (arith, p))) f in
    rw one more

-- the first of what is due
record FirstDue (limits : Limits) (hs front rest : List Happening) (o : Option Outcome) (os : List (Option Outcome)) : Type 0 where
  h : Happening
  later_rest : List Happening
  is : rest ≡ h ∷ later_rest
  due : IsDue limits hs front h o
  later : AreDue limits hs (front ++ h ∷ []) later_rest os

split_due : (limits : Limits) (hs front rest : List Happening) (o : Option Outcome) (os : List (Option Outcome)) → AreDue limits hs front rest (o ∷ os) → FirstDue limits hs front rest o os
split_due limits hs front [] o os d = absurd d
split_due limits hs front (h ∷ rest) o os d = record { h = h; later_rest = rest; is = refl; due = d.0; later = d.1 }

no_rest : (limits : Limits) (hs front rest : List Happening) → AreDue limits hs front rest [] → rest ≡ []
no_rest limits hs front [] d = refl
no_rest limits hs front (h ∷ rest) d = absurd d

drop_at : (j : ℕ) (os : List (Option Outcome)) → j < length os → drop j os ≡ get_or os j None ∷ drop (j + 1) os
drop_at j os lt = rw (add-one, drop-cons os j None) refl

-- one turn
pub turn : (limits : Limits) (hs : List Happening) (first : List (Option Outcome)) (j : ℕ) (os : List (Option Outcome)) (s s' : CoreState) (r : Option Outcome) → AtTurn limits hs first j os s → j < length os
    → IsFinished hs s (get_or os j None) r → ((k : Ticket) → is_uncollected s k ≡ true → is_posted (get_or os j None) k ≡ false → is_uncollected s' k ≡ true) → Refines hs s' → s'.limits ≡ s.limits
    → AtTurn limits hs first (j + 1) (slice_set os j r) s'
turn limits hs first j os s s' r a lt fin others st l =
    let o = get_or os j None in
    let cut : drop j os ≡ o ∷ drop (j + 1) os = drop_at j os lt in
    let due : AreDue limits hs a.front a.rest (o ∷ drop (j + 1) os) = subst (AreDue limits hs a.front a.rest) cut a.due in
    let kept : are_uncollected s (tickets (o ∷ drop (j + 1) os)) ≡ true = ap (λ z. are_uncollected s (tickets z)) (sym cut) ∙ a.kept in
    let once : AreOnce (tickets (o ∷ drop (j + 1) os)) = subst (λ z. AreOnce (tickets z)) cut a.once in
    let left = tail_left s o (drop (j + 1) os) kept once in
    let posted : (k : Ticket) → is_posted o k ≡ true → is_uncollected s k ≡ true = λ k p. head_kept s o (drop (j + 1) os) k kept p in
    let same_rest : drop (j + 1) (slice_set os j r) ≡ drop (j + 1) os = drop-set-lt (j + 1) os j r (omega arith) in
    let step = split_due limits hs a.front a.rest o (drop (j + 1) os) due in
    record {
      front = a.front ++ step.h ∷ [];
      rest = step.later_rest;
      limits_are = l ∙ a.limits_are;
      refines = st;
      told =
          let t = finished_told limits hs a.front step.h s o r a.limits_are step.due fin posted in
          ap (λ z. map told_later z ++ outs_from limits hs (a.front ++ step.h ∷ []) step.later_rest) (take_more_set os j r lt)
          ∙ ap (λ z. z ++ outs_from limits hs (a.front ++ step.h ∷ []) step.later_rest) (map-append told_later (take j os) (r ∷ []))
          ∙ append_assoc (map told_later (take j os)) (told_later r ∷ []) (outs_from limits hs (a.front ++ step.h ∷ []) step.later_rest)
          ∙ ap (λ z. map told_later (take j os) ++ z ∷ outs_from limits hs (a.front ++ step.h ∷ []) step.later_rest) t
          ∙ ap (λ z. map told_later (take j os) ++ outs_from limits hs a.front z) (sym step.is) ∙ a.told;
      due = subst (AreDue limits hs (a.front ++ step.h ∷ []) step.later_rest) (sym same_rest) step.later;
      kept = ap (λ z. are_uncollected s' (tickets z)) same_rest ∙ others_kept s s' o (tickets (drop (j + 1) os)) left.kept left.apart others;
      once = subst (λ z. AreOnce (tickets z)) (sym same_rest) left.once;
      marks =
          map-set was_for_memory os j r ∙ ap (λ z. slice_set (map was_for_memory os) j z) (finished_marks hs s o r fin posted)
          ∙ sym (map-set was_for_memory os j o) ∙ ap (map was_for_memory) (set-get_or os j None) ∙ a.marks;
      count = length-set os j r ∙ a.count;
    }

pub first_turn : (hs : List Happening) (os : List (Option Outcome)) (s : CoreState) → HasSeen hs os s → AtTurn s.limits hs os 0 os s
first_turn hs os s k = record {
  front = [];
  rest = hs;
  limits_are = refl;
  refines = k.refines;
  told = refl;
  due = all_due s.limits hs [] hs os refl k.seen;
  kept = k.kept;
  once = k.once;
  marks = refl;
  count = refl;
}

pub last_turn : (limits : Limits) (hs : List Happening) (first : List (Option Outcome)) (os : List (Option Outcome)) (j : ℕ) (s : CoreState) → AtTurn limits hs first j os s → length os ≤ j → map told_later os ≡ outs limits hs
last_turn limits hs first os j s a h =
    let none : drop j os ≡ [] = drop_all j os h in
    let e : a.rest ≡ [] = no_rest limits hs a.front a.rest (subst (AreDue limits hs a.front a.rest) none a.due) in
    let whole : take j os ≡ os = take_all j os h in
    sym (ap (map told_later) whole) ∙ sym (append-nil (map told_later (take j os))) ∙ ap (λ z. map told_later (take j os) ++ outs_from limits hs a.front z) (sym e) ∙ a.told

-- the events of a run are told by the marks of its outcomes alone
pub same_happenings : (xs : List Event) (os ps : List (Option Outcome)) → map was_for_memory os ≡ map was_for_memory ps → happenings xs os ≡ happenings xs ps
same_happenings [] os ps h = refl
same_happenings (x ∷ xs) [] [] h = refl
same_happenings (x ∷ xs) [] (p ∷ ps) h = cc
same_happenings (x ∷ xs) (o ∷ os) [] h = cc
same_happenings (x ∷ xs) (o ∷ os) (p ∷ ps) h =
    let one : was_for_memory o ≡ was_for_memory p = cc in
    let rest : map was_for_memory os ≡ map was_for_memory ps = cc in
    ap₂ (λ w l. record { event = x; wanting = w } ∷ l) one (same_happenings xs os ps rest)
