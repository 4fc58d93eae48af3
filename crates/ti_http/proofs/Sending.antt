-- What is sent are whole answers, in their order.
use Rattle.std.proofs.Common.{◌≡◌, ℕ, ◌+◌, Bool, true, false, cond, ◌||◌, List, [], ◌∷◌, ◌++◌, length, take, drop, Option, Some, None, Result, Ok, Err, refl, sym, ap, subst, ◌∙◌, eqb, append_assoc, arith}
use Rattle.std.specs.Prelude.{nat_lt, min, flat_map}
use Rattle.std.proofs.lemmas.List.{append-nil, length-append, take-append-drop}
use Rattle.std.proofs.lemmas.Bool.{eqb-true, false≢true, lt-ltb}
use Rattle.std.proofs.lemmas.Grind.{flat_map-append}
use Rattle.ti_http.specs.declared.answers.ContentType.{ContentType}
use Rattle.ti_http.specs.declared.answers.ContentType.TheVariants as content
use Rattle.ti_http.specs.declared.connection.Action.{Action}
use Rattle.ti_http.specs.declared.connection.Phase.{Phase}
use Rattle.ti_http.specs.declared.connection.Phase.TheVariants as phase
use Rattle.ti_http.specs.declared.head.Request.{Request}
use Rattle.ti_http.specs.declared.head.Seen.{Seen}
use Rattle.ti_http.specs.declared.head.Seen.TheVariants as seen
use Rattle.ti_http.specs.declared.head.Whole.{Whole}
use Rattle.ti_http.specs.declared.refusals.Refusal.{Refusal}
use Rattle.ti_http.specs.declared.refusals.Refusal.TheVariants as refusal
use Rattle.ti_http.specs.declared.status.Status.{Status}
use Rattle.ti_http.specs.Refusals.{status_of, text_of}
use Rattle.ti_http.specs.Targets.{or_else}
use Rattle.ti_http.specs.Talks.{Talk, opened, room_in, fed, GoesWith, GoesIn, goes_by, judged, closing, closed, refuses, manner_after, manner_of, answered_in, patience, ticks}
use Rattle.ti_http.specs.Runs.{Call, Fed, PeerEnded, Told, Answered, Written, Ticked, Step, state_of, is_shut, Reply, reply_text, taken_by, Sends, AreAnswers, SendsAnswers}
use Rattle.ti_http.proofs.Protocol.{Fine, FineIn, starving, step_well}

-- what a call does to what is to be sent
data Effect (t m : Talk) : Type 0 where
  quiet : m.output ≡ t.output → m.answered ≡ t.answered → (is_shut (state_of m.phase) ≡ false → is_shut (state_of t.phase) ≡ false) → Effect t m
  replied : (r : Reply) → t.output ≡ [] → is_shut (state_of t.phase) ≡ false → m.output ≡ reply_text r → m.answered ≡ t.answered + 1 → Effect t m
  shuts : m ≡ closed t → Effect t m

same : (t m : Talk) → m ≡ t → Effect t m
same t m is = quiet (ap (λ (x : Talk). x.output) is) (ap (λ (x : Talk). x.answered) is) (λ alive. sym (ap (λ (x : Talk). is_shut (state_of x.phase)) is) ∙ alive)

carried : (sent : List ℕ) (t m : Talk) → AreAnswers sent t → Effect t m → AreAnswers sent m
carried sent t m a (quiet out answered alive) = record {
  replies = a.replies;
  cut = a.cut;
  each = a.each ∙ sym answered;
  bytes = a.bytes ∙ ap (λ (o : List ℕ). sent ++ (o ++ a.cut)) (sym out);
  whole = λ is. a.whole (alive is);
}
carried sent t m a (replied r none alive out answered) =
    let old : flat_map reply_text a.replies ≡ sent = a.bytes ∙ ap (λ (o : List ℕ). sent ++ (o ++ a.cut)) none ∙ ap (λ (c : List ℕ). sent ++ c) (a.whole alive) ∙ append-nil sent in
    record {
      replies = a.replies ++ r ∷ [];
      cut = [];
      each = length-append a.replies (r ∷ []) ∙ ap (λ n. n + 1) a.each ∙ sym answered;
      bytes = flat_map-append reply_text a.replies (r ∷ []) ∙ ap (λ (b : List ℕ). b ++ (reply_text r ++ [])) old ∙ ap (λ (o : List ℕ). sent ++ (o ++ [])) (sym out);
      whole = λ is. refl;
    }
carried sent t m a (shuts is) = subst (AreAnswers sent) (sym is) (record {
  replies = a.replies;
  cut = t.output ++ a.cut;
  each = a.each;
  bytes = a.bytes;
  whole = λ alive. cc;
})

-- the socket takes some bytes
went : (sent : List ℕ) (t : Talk) (none : Bool) (n now : ℕ) → AreAnswers sent t → (none ≡ true → take n t.output ≡ []) → AreAnswers (sent ++ take n t.output) (cond none t (record t { output = drop n t.output; since = now }))
went sent t true n now a empty =
    subst (λ (s : List ℕ). AreAnswers s t) (sym (ap (λ (x : List ℕ). sent ++ x) (empty refl) ∙ append-nil sent)) a
went sent t false n now a empty =
    let front = take n t.output in
    let back = drop n t.output in
    record {
      replies = a.replies;
      cut = a.cut;
      each = a.each;
      bytes = a.bytes ∙ ap (λ (o : List ℕ). sent ++ (o ++ a.cut)) (sym (take-append-drop n t.output)) ∙ ap (λ (x : List ℕ). sent ++ x) (append_assoc front back a.cut) ∙ sym (append_assoc sent front (back ++ a.cut));
      whole = a.whole;
    }

starves_so : (t : Talk) (now : ℕ) (more empty : Bool) → is_shut (state_of t.phase) ≡ false → t.output ≡ [] → Effect t (starving t now more empty).1
starves_so t now true empty alive none = same t t refl
starves_so t now false true alive none = shuts refl
starves_so t now false false alive none =
    replied (record { status = status_of refusal.NoRequest; type = content.Text; manner = closing; body = text_of refusal.NoRequest }) none alive refl refl

judged_so : (t : Talk) (now : ℕ) (w : Whole) (o : Result Request Refusal) → is_shut (state_of t.phase) ≡ false → t.output ≡ [] → Effect t (judged t now w o).1
judged_so t now w (Ok request) alive none = quiet refl refl (λ is. alive)
judged_so t now w (Err r) alive none =
    replied (record { status = status_of r; type = content.Text; manner = manner_after t r w; body = text_of r }) none alive refl refl

reads_so : (t : Talk) (now : ℕ) (s : Seen) → is_shut (state_of t.phase) ≡ false → t.output ≡ [] → Effect t (goes_by t now s).1
reads_so t now seen.More alive none = starves_so t now _ _ alive none
reads_so t now (seen.Broken r) alive none =
    replied (record { status = status_of r; type = content.Text; manner = closing; body = text_of r }) none alive refl refl
reads_so t now (seen.Whole w) alive none = judged_so t now w w.outcome alive none

told_so : (p : Phase) (t m : Talk) (now : ℕ) (act : Action) → t.phase ≡ p → t.output ≡ [] → GoesIn p t now act m → Effect t m
told_so phase.Reading t m now act is none goes =
    subst (λ (x : Action × Talk). Effect t x.1) (sym goes.2) (reads_so t now goes.0 (ap (λ (p : Phase). is_shut (state_of p)) is) none)
told_so (phase.Waiting manner) t m now act is none goes = same t m goes.1
told_so phase.Closing t m now act is none goes = shuts goes.1
told_so phase.Closed t m now act is none goes = same t m goes.1

told_from : (out : List ℕ) (t m : Talk) (now : ℕ) (act : Action) → t.output ≡ out → GoesWith out t now act m → Effect t m
told_from [] t m now act is goes = told_so t.phase t m now act refl is goes
told_from (b ∷ bytes) t m now act is goes = same t m goes.1

answered_so : (p : Phase) (t m : Talk) (now : ℕ) (status : Status) (type : ContentType) (body : List ℕ) → t.phase ≡ p → FineIn p t.output → answered_in p t now status type body ≡ Some m → Effect t m
answered_so phase.Reading t m now status type body is fine h = cc
answered_so (phase.Waiting asked) t m now status type body is fine h =
    subst (Effect t) (ap (λ (o : Option Talk). or_else o t) h)
    (replied (record { status = status; type = type; manner = manner_of t asked; body = body }) fine (ap (λ (p : Phase). is_shut (state_of p)) is) refl refl)
answered_so phase.Closing t m now status type body is fine h = cc
answered_so phase.Closed t m now status type body is fine h = cc

nothing_out : (out : List ℕ) (other : Bool) → (nat_lt 0 (length out) || other) ≡ false → out ≡ []
nothing_out [] other h = refl
nothing_out (b ∷ bytes) other h = absurd (false≢true (sym h ∙ ap (λ t. t || other) (lt-ltb 0 (length (b ∷ bytes)) (omega arith))))

late_so : (t : Talk) (now : ℕ) (early gone : Bool) → (gone ≡ false → t.output ≡ []) → is_shut (state_of t.phase) ≡ false → Effect t (cond early t (cond gone (closed t) (refuses t now refusal.Late)))
late_so t now true gone none alive = same t t refl
late_so t now false true none alive = shuts refl
late_so t now false false none alive =
    replied (record { status = status_of refusal.Late; type = content.Text; manner = closing; body = text_of refusal.Late }) (none refl) alive refl refl

ticks_so : (o : Option ℕ) (t : Talk) (now : ℕ) → (t.phase ≡ phase.Closed → o ≡ None) → Effect t (ticks o t now)
ticks_so None t now h = same t t refl
ticks_so (Some wait) t now h = late_so t now _ _ (nothing_out t.output _) (alive t.phase h)
  where
    alive : (p : Phase) → (p ≡ phase.Closed → Some wait ≡ None) → is_shut (state_of p) ≡ false
    alive phase.Reading h = refl
    alive (phase.Waiting manner) h = refl
    alive phase.Closing h = refl
    alive phase.Closed h = let no : Some wait ≡ None = h refl in cc

no_patience : (t : Talk) → Fine t → t.phase ≡ phase.Closed → patience t ≡ None
no_patience t h is =
    let none : t.output ≡ [] = subst (λ (p : Phase). FineIn p t.output) is h in
    rw none (rw is refl)

fed_so : (t : Talk) (bytes : List ℕ) (now : ℕ) → Effect t (fed t bytes now)
fed_so t [] now = same t t refl
fed_so t (b ∷ bytes) now = quiet refl refl (λ is. is)

takes_nothing : (out : List ℕ) (n : ℕ) → eqb n 0 ≡ true → take n out ≡ []
takes_nothing out n h = ap (λ k. take k out) (eqb-true n 0 h)

steps_so : (before : List ℕ) (t m : Talk) (c : Call) → Fine t → AreAnswers before t → Step t c m → AreAnswers (before ++ taken_by t c) m
steps_so before t m (Fed bytes now) h a step =
    subst (λ (s : List ℕ). AreAnswers s m) (sym (append-nil before)) (carried before t m a (subst (Effect t) (sym step) (fed_so t (take (room_in t) bytes) now)))
steps_so before t m PeerEnded h a step =
    subst (λ (s : List ℕ). AreAnswers s m) (sym (append-nil before)) (carried before t m a (subst (Effect t) (sym step) (quiet refl refl (λ is. is))))
steps_so before t m (Told act now) h a step =
    subst (λ (s : List ℕ). AreAnswers s m) (sym (append-nil before)) (carried before t m a (told_from t.output t m now act refl step))
steps_so before t m (Answered status type body now) h a step =
    subst (λ (s : List ℕ). AreAnswers s m) (sym (append-nil before)) (carried before t m a (answered_so t.phase t m now status type body refl h step))
steps_so before t m (Written count now) h a step =
    subst (AreAnswers (before ++ take (min count (length t.output)) t.output)) (sym step)
    (went before t (eqb (min count (length t.output)) 0) (min count (length t.output)) now a (takes_nothing t.output (min count (length t.output))))
steps_so before t m (Ticked now) h a step =
    subst (λ (s : List ℕ). AreAnswers s m) (sym (append-nil before)) (carried before t m a (subst (Effect t) (sym step) (ticks_so (patience t) t now (no_patience t h))))

sends_well : (before sent : List ℕ) (t u : Talk) (calls : List Call) → Fine t → AreAnswers before t → Sends t calls sent u → AreAnswers (before ++ sent) u
sends_well before sent t u [] h a run =
    subst (λ (s : List ℕ). AreAnswers s u) (sym (append-nil before) ∙ ap (λ (x : List ℕ). before ++ x) (sym run.1)) (subst (AreAnswers before) run.0 a)
sends_well before sent t u (c ∷ calls) h a run =
    let next = run.0 in
    let later = run.1 in
    subst (λ (s : List ℕ). AreAnswers s u) (append_assoc before (taken_by t c) later ∙ ap (λ (x : List ℕ). before ++ x) (sym run.3))
    (sends_well (before ++ taken_by t c) later next u calls (step_well t next c h run.2).1 (steps_so before t next c h a run.2) run.4)

pub each_sends : SendsAnswers
each_sends hosts start calls sent end run =
    sends_well [] sent (opened hosts start) end calls tt (record { replies = []; cut = []; each = refl; bytes = refl; whole = λ is. refl }) run
