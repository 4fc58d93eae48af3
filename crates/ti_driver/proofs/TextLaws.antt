-- What a walk's text says: the same of outcomes with and without the rooms of their buffers.
use Rattle.std.proofs.Common.{◌≡◌, ℕ, ◌+◌, List, [], ◌∷◌, length, map, Option, None, Some, ◌<◌, suc, drop, get_or, drop-cons, add-one, refl, ap, sym, ◌∙◌, arith}
use Rattle.ti_types.specs.declared.answer.Answer.{Answer}
use Rattle.ti_types.specs.declared.answer.Answer.TheVariants as answer
use Rattle.ti_types.specs.declared.event.Event.{Event}
use Rattle.ti_types.specs.declared.event.Outcome.{Outcome}
use Rattle.ti_types.specs.declared.event.Outcome.TheVariants as outcome
use Rattle.ti_types.specs.Answer.{said}
use Rattle.ti_replay.specs.Outcomes.{told_later, was_for_memory, is_for_memory, outs, happenings}
use Rattle.ti_script.specs.declared.walk.Walk.{Walk}
use Rattle.ti_script.specs.Texts.{answer_text, outcome_text, lines_text}
use Rattle.ti_driver.specs.Runs.{IsRun}

said_text : (methods : List (List ℕ)) (a : Answer) → answer_text methods (said a) ≡ answer_text methods a
said_text methods answer.Done = refl
said_text methods (answer.State bits) = refl
said_text methods (answer.Count n) = refl
said_text methods (answer.Trace b) = refl
said_text methods (answer.Location f) = refl
said_text methods (answer.Word w) = refl
said_text methods (answer.Caps c) = refl
said_text methods (answer.Stack state b) = refl
said_text methods (answer.Refused e) = refl

told_text : (methods : List (List ℕ)) (o : Option Outcome) → outcome_text methods (told_later o) ≡ outcome_text methods o
told_text methods None = refl
told_text methods (Some outcome.Done) = refl
told_text methods (Some outcome.Clear) = refl
told_text methods (Some outcome.Went) = refl
told_text methods (Some outcome.Held) = refl
told_text methods (Some (outcome.Refused e)) = refl
told_text methods (Some (outcome.Gave a)) = said_text methods a
told_text methods (Some (outcome.Posted ticket)) = refl

-- the text depends on what is told alone
pub told_lines : (methods : List (List ℕ)) (index : ℕ) (os : List (Option Outcome)) → lines_text methods index (map told_later os) ≡ lines_text methods index os
told_lines methods index [] = refl
told_lines methods index (o ∷ os) = simp (told_text methods o, told_lines methods (index + 1) os) refl

said_memory : (a : Answer) → is_for_memory (outcome.Gave (said a)) ≡ is_for_memory (outcome.Gave a)
said_memory answer.Done = refl
said_memory (answer.State bits) = refl
said_memory (answer.Count n) = refl
said_memory (answer.Trace b) = refl
said_memory (answer.Location f) = refl
said_memory (answer.Word w) = refl
said_memory (answer.Caps c) = refl
said_memory (answer.Stack state b) = refl
said_memory (answer.Refused e) = refl

told_memory : (o : Option Outcome) → was_for_memory (told_later o) ≡ was_for_memory o
told_memory None = refl
told_memory (Some outcome.Done) = refl
told_memory (Some outcome.Clear) = refl
told_memory (Some outcome.Went) = refl
told_memory (Some outcome.Held) = refl
told_memory (Some (outcome.Refused e)) = refl
told_memory (Some (outcome.Gave a)) = said_memory a
told_memory (Some (outcome.Posted ticket)) = refl

told_marks : (os : List (Option Outcome)) → map was_for_memory (map told_later os) ≡ map was_for_memory os
told_marks [] = refl
told_marks (o ∷ os) = simp (told_memory o, told_marks os) refl

events_there : (events : List Event) (os : List (Option Outcome)) → length os ≡ length events → map (λ h. h.event) (happenings events os) ≡ events
events_there [] os e = refl
events_there (x ∷ events) [] e = absurd (omega arith)
events_there (x ∷ events) (o ∷ os) e = let tail : length os ≡ length events = omega arith in ap (λ xs. x ∷ xs) (events_there events os tail)

marks_there : (events : List Event) (os : List (Option Outcome)) → length os ≡ length events → map (λ h. h.wanting) (happenings events os) ≡ map was_for_memory os
marks_there [] [] e = refl
marks_there [] (o ∷ os) e = absurd (omega arith)
marks_there (x ∷ events) [] e = absurd (omega arith)
marks_there (x ∷ events) (o ∷ os) e = let tail : length os ≡ length events = omega arith in ap (λ bs. was_for_memory o ∷ bs) (marks_there events os tail)

-- the events of a run, with the marks that its outcomes say
pub run_of : (w : Walk) (os : List (Option Outcome)) → length os ≡ length w.events → map told_later os ≡ outs w.limits (happenings w.events os) → IsRun w (happenings w.events os)
run_of w os count told = record {
  events = events_there w.events os count;
  marks = marks_there w.events os count ∙ sym (told_marks os) ∙ ap (map was_for_memory) told;
}

-- the elements from one on
pub drop_next : {A : Type 0} (xs : List A) (i : ℕ) (x : A) → i < length xs → x ≡ get_or xs i x → drop i xs ≡ x ∷ drop (i + 1) xs
drop_next xs i x h e = rw (add-one, drop-cons xs i x) (ap (λ y. y ∷ drop (suc i) xs) (sym e))
