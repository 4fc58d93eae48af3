-- The laws of what a run gives, from the laws of the definitions.
use Rattle.std.proofs.Common.{◌≡◌, Bool, true, is_some, List, [], ◌∷◌, ◌++◌, ◌+◌, length, length-append, map, refl, ap, ap₂, sym, ◌∙◌, arith, Option, Some, None, append_assoc, append-nil, is_none, take, drop, subst}
use Rattle.ti_types.specs.declared.limits.Limits.{Limits}
use Rattle.ti_types.specs.declared.numbers.EnvNo.{EnvNo}
use Rattle.ti_types.specs.declared.numbers.ThreadNo.{ThreadNo}
use Rattle.ti_types.specs.declared.call.Call.TheVariants.{GetWord}
use Rattle.ti_types.specs.declared.error.TiError.{TiError}
use Rattle.ti_types.specs.declared.event.Event.{Event}
use Rattle.ti_types.specs.declared.event.Event.TheVariants.{Ask, Read}
use Rattle.ti_types.specs.declared.event.Outcome.{Outcome}
use Rattle.ti_types.specs.declared.event.Outcome.TheVariants as outcome
use Rattle.ti_types.specs.declared.answer.Answer.TheVariants as answer
use Rattle.ti_types.specs.Frames.{bare_trace}
use Rattle.ti_types.specs.State.{bits_of}
use Rattle.ti_replay.specs.Answers.{or_zero}
use Rattle.ti_replay.specs.View.{view}
use Rattle.ti_replay.specs.Replies.{reply}
use Rattle.ti_replay.specs.Admission.{Happening, dealings, refusal}
use Rattle.ti_replay.specs.Agreement.{kept_as, if_kept, told_from}
use Rattle.ti_replay.specs.Events.{history_of, refused_or, given}
use Rattle.ti_replay.specs.Outcomes.{out_of, outs_from, told_later, was_for_memory, happening, happenings}
use Rattle.ti_replay.specs.Standing.{was_refused, pop_count, pops_done}
use Rattle.ti_replay.specs.Storage.{word_answer}
use Rattle.ti_replay.specs.Refused.{is_refusal}
use Rattle.ti_replay.proofs.RefusedLaws.{refusals_keep}
use Rattle.ti_replay.proofs.AgreementLaws.{tells_the_kept}
use Rattle.ti_replay.proofs.StopLaws.{one_state}
use Rattle.ti_replay.proofs.WordAnswers.{word_is_given}
use Rattle.ti_core.specs.OfRuns.{IsRunOf, pops_told, picked_from, RunsAgree, WordsAreTold, RunsTellOneState, RefusalsKeepInRuns}
use Rattle.ti_core.proofs.RunLaws.{ask_out, out_stays}

abbrev first_or : List (Option Outcome) → Option Outcome
first_or [] = None
first_or (o ∷ os) = o

abbrev rest_of : List (Option Outcome) → List (Option Outcome)
rest_of [] = []
rest_of (o ∷ os) = os

-- the outcomes of the kept events are what these events are told
picked_told : (limits : Limits) (env : EnvNo) (thread : ThreadNo) (all front hs : List Happening) (os : List (Option Outcome))
    → map told_later os ≡ outs_from limits all front hs → picked_from limits env thread front hs os ≡ told_from limits env thread all front hs
picked_told limits env thread all front [] os e = refl
picked_told limits env thread all front (h ∷ hs) [] e = cc
picked_told limits env thread all front (h ∷ hs) (o ∷ os) e =
    let one : told_later o ≡ out_of limits all front h = ap first_or e in
    let rest = picked_told limits env thread all (front ++ h ∷ []) hs os (ap rest_of e) in
    ap (λ x. if_kept (kept_as limits env thread front h) x (picked_from limits env thread (front ++ h ∷ []) hs os)) one
    ∙ ap (if_kept (kept_as limits env thread front h) (out_of limits all front h)) rest

pub runs_agree : RunsAgree
runs_agree limits env thread one other os ps first second same =
    picked_told limits env thread (happenings one os) [] (happenings one os) os first
    ∙ tells_the_kept limits env thread (happenings one os) (happenings other ps) same
    ∙ sym (picked_told limits env thread (happenings other ps) [] (happenings other ps) ps second)

happenings-append : (xs ys : List Event) (os ps : List (Option Outcome)) → length xs ≡ length os → happenings (xs ++ ys) (os ++ ps) ≡ happenings xs os ++ happenings ys ps
happenings-append [] ys [] ps h = refl
happenings-append [] ys (o ∷ os) ps h = absurd (omega (arith, h))
happenings-append (x ∷ xs) ys [] ps h = absurd (omega (arith, h))
happenings-append (x ∷ xs) ys (o ∷ os) ps h = ap (λ r. happening x o ∷ r) (happenings-append xs ys os ps (omega (arith, h)))

-- the outcome at a place after a front
at_place : (limits : Limits) (all front : List Happening) (before after : List Event) (x : Event) (os ps : List (Option Outcome)) (o : Option Outcome)
    → length before ≡ length os → map told_later (os ++ o ∷ ps) ≡ outs_from limits all front (happenings (before ++ x ∷ after) (os ++ o ∷ ps))
    → told_later o ≡ out_of limits all (front ++ happenings before os) (happening x o)
at_place limits all front [] after x [] ps o h e = ap first_or e ∙ ap (λ f. out_of limits all f (happening x o)) (sym (append-nil front))
at_place limits all front [] after x (p ∷ os) ps o h e = absurd (omega (arith, h))
at_place limits all front (y ∷ before) after x [] ps o h e = absurd (omega (arith, h))
at_place limits all front (y ∷ before) after x (p ∷ os) ps o h e =
    at_place limits all (front ++ happening y p ∷ []) before after x os ps o (omega (arith, h)) (ap rest_of e)
    ∙ ap (λ f. out_of limits all f (happening x o)) (append_assoc front (happening y p ∷ []) (happenings before os))

-- the outcome at a place of a run
run_place : (limits : Limits) (before after : List Event) (x : Event) (os ps : List (Option Outcome)) (o : Option Outcome)
    → length before ≡ length os → IsRunOf limits (before ++ x ∷ after) (os ++ o ∷ ps)
    → told_later o ≡ out_of limits (happenings before os ++ happening x o ∷ happenings after ps) (happenings before os) (happening x o)
run_place limits before after x os ps o h e =
    at_place limits (happenings (before ++ x ∷ after) (os ++ o ∷ ps)) [] before after x os ps o h e
    ∙ ap (λ all. out_of limits all (happenings before os) (happening x o)) (happenings-append before (x ∷ after) os (o ∷ ps) h)

word_out : (limits : Limits) (front rest : List Happening) (env : EnvNo) (thread : ThreadNo) (w : Bool)
    → out_of limits (front ++ record { event = Ask env thread GetWord; wanting = w } ∷ rest) front (record { event = Ask env thread GetWord; wanting = w })
    ≡ refused_or (refusal limits (dealings limits env thread front) (record { event = Ask env thread GetWord; wanting = w })) (Some (outcome.Gave (word_answer (history_of limits thread front) env)))
word_out limits front rest env thread w =
    let h : Happening = record { event = Ask env thread GetWord; wanting = w } in
    let all = front ++ h ∷ rest in
    let told = word_answer (history_of limits thread front) env in
    elim (refusal limits (dealings limits env thread front) h) as (λ (r : Option TiError). refusal limits (dealings limits env thread front) h ≡ r → out_of limits all front h ≡ refused_or r (Some (outcome.Gave told))) [
      | None ↦ λ q. word_is_given limits front rest env thread w (ap is_none q)
      | Some error ↦ λ q. ask_out limits all front w env thread GetWord ∙ ap (λ r. refused_or r (given (reply limits (history_of limits thread all) (length (history_of limits thread front))))) q
    ] refl

pub words_are_told : WordsAreTold
words_are_told limits env thread before after os ps o h run =
    run_place limits before after (Ask env thread GetWord) os ps o h run
    ∙ word_out limits (happenings before os) (happenings after ps) env thread (was_for_memory o)

-- the pops that are done, by what the events come to
pops_here : (limits : Limits) (thread : ThreadNo) (all front : List Happening) (more after : List Event) (ps qs : List (Option Outcome))
    → length more ≡ length ps → map told_later (ps ++ qs) ≡ outs_from limits all front (happenings (more ++ after) (ps ++ qs))
    → pops_done limits thread all front (happenings more ps) ≡ pops_told thread more ps
pops_here limits thread all front [] after [] qs h e = refl
pops_here limits thread all front [] after (p ∷ ps) qs h e = absurd (omega (arith, h))
pops_here limits thread all front (x ∷ more) after [] qs h e = absurd (omega (arith, h))
pops_here limits thread all front (x ∷ more) after (p ∷ ps) qs h e =
    let one : told_later p ≡ out_of limits all front (happening x p) = ap first_or e in
    let rest = pops_here limits thread all (front ++ happening x p ∷ []) more after ps qs (omega (arith, h)) (ap rest_of e) in
    ap₂ (λ o n. pop_count thread x o + n) (sym one) rest

-- and after a front
pops_at : (limits : Limits) (thread : ThreadNo) (all front : List Happening) (before more after : List Event) (os ps qs : List (Option Outcome))
    → length before ≡ length os → length more ≡ length ps → map told_later (os ++ (ps ++ qs)) ≡ outs_from limits all front (happenings (before ++ (more ++ after)) (os ++ (ps ++ qs)))
    → pops_done limits thread all (front ++ happenings before os) (happenings more ps) ≡ pops_told thread more ps
pops_at limits thread all front [] more after [] ps qs h k e = ap (λ f. pops_done limits thread all f (happenings more ps)) (append-nil front) ∙ pops_here limits thread all front more after ps qs k e
pops_at limits thread all front [] more after (o ∷ os) ps qs h k e = absurd (omega (arith, h))
pops_at limits thread all front (x ∷ before) more after [] ps qs h k e = absurd (omega (arith, h))
pops_at limits thread all front (x ∷ before) more after (o ∷ os) ps qs h k e =
    ap (λ f. pops_done limits thread all f (happenings more ps)) (sym (append_assoc front (happening x o ∷ []) (happenings before os)))
    ∙ pops_at limits thread all (front ++ happening x o ∷ []) before more after os ps qs (omega (arith, h)) k (ap rest_of e)

pub runs_tell_one_state : RunsTellOneState
runs_tell_one_state limits env thread before more after event os ps qs o h k run refines stays =
    let front = happenings before os in
    let now = front ++ happenings more ps in
    let count : length (before ++ more) ≡ length (os ++ ps) = length-append before more ∙ ap₂ (λ a b. a + b) h k ∙ sym (length-append os ps) in
    let split : happenings (before ++ more) (os ++ ps) ≡ now = happenings-append before more os ps h in
    let rest = happenings after qs in
    let held = one_state limits env thread front (happenings more ps) refines stays in
    let told : told_later o ≡ out_of limits (now ++ happening event o ∷ rest) now (happening event o) =
    run_place limits (before ++ more) after event (os ++ ps) qs o count run ∙ ap (λ f. out_of limits (f ++ happening event o ∷ rest) f (happening event o)) split in
    let whole : happenings ((before ++ more) ++ event ∷ after) ((os ++ ps) ++ o ∷ qs) ≡ now ++ happening event o ∷ rest =
    happenings-append (before ++ more) (event ∷ after) (os ++ ps) (o ∷ qs) count ∙ ap (λ f. f ++ happening event o ∷ rest) split in
    let apart : IsRunOf limits (before ++ (more ++ event ∷ after)) (os ++ (ps ++ o ∷ qs)) =
    subst (λ es. IsRunOf limits es (os ++ (ps ++ o ∷ qs))) (append_assoc before more (event ∷ after)) (subst (λ xs. IsRunOf limits ((before ++ more) ++ event ∷ after) xs) (append_assoc os ps (o ∷ qs)) run) in
    let same : happenings (before ++ (more ++ event ∷ after)) (os ++ (ps ++ o ∷ qs)) ≡ now ++ happening event o ∷ rest =
    ap₂ happenings (sym (append_assoc before more (event ∷ after))) (sym (append_assoc os ps (o ∷ qs))) ∙ whole in
    let popped : pops_done limits thread (now ++ happening event o ∷ rest) front (happenings more ps) ≡ pops_told thread more ps =
    ap (λ all. pops_done limits thread all front (happenings more ps)) (sym same)
    ∙ pops_at limits thread (happenings (before ++ (more ++ event ∷ after)) (os ++ (ps ++ o ∷ qs))) [] before more (event ∷ after) os ps (o ∷ qs) h k apart in
    record {
      own = λ own. ap was_refused told ∙ held.refused (now ++ happening event o ∷ rest) (happening event o) own;
      reads = λ n is admitted.
          let g : happening event o ≡ record { event = Read env thread n; wanting = was_for_memory o } = ap (λ (x : Event). happening x o) is in
          told ∙ ap (λ z. out_of limits (now ++ z ∷ rest) now z) g
          ∙ held.reads rest n (was_for_memory o) (ap (λ z. is_none (refusal limits (dealings limits env thread now) z)) (sym g) ∙ admitted)
          ∙ ap (λ c. Some (outcome.Gave (answer.Stack (bits_of (view limits (history_of limits thread front)).mode (view limits (history_of limits thread now)).suspended)
          (bare_trace (take (or_zero n) (drop c (view limits (history_of limits thread front)).frames))))))
          (ap (λ z. pops_done limits thread (now ++ z ∷ rest) front (happenings more ps)) (sym g) ∙ popped);
    }

-- what is answered when it comes is answered so at the end
as_it_came : (limits : Limits) (front rest : List Happening) (h : Happening) → is_some (out_of limits (front ++ h ∷ []) front h) ≡ true
    → out_of limits (front ++ h ∷ []) front h ≡ out_of limits (front ++ h ∷ rest) front h
as_it_came limits front rest h now =
    elim (out_of limits (front ++ h ∷ []) front h) as (λ (r : Option Outcome). out_of limits (front ++ h ∷ []) front h ≡ r → is_some r ≡ true → r ≡ out_of limits (front ++ h ∷ rest) front h) [
      | None ↦ λ q there. cc
      | Some x ↦ λ q there. sym (ap (λ all. out_of limits all front h) (sym (append_assoc front (h ∷ []) rest)) ∙ out_stays limits (front ++ h ∷ []) rest front h.wanting h.event x q)
    ] refl now

pub refusals_keep_in_runs : RefusalsKeepInRuns
refusals_keep_in_runs limits before after event os ps o count run now refused =
    let front = happenings before os in
    let h : Happening = happening event o in
    let told = run_place limits before after event os ps o count run in
    refusals_keep limits front h (ap is_refusal (as_it_came limits front (happenings after ps) h now ∙ sym told) ∙ refused)
