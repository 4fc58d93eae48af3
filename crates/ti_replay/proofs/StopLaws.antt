-- What a stop keeps as it is, whatever the events.
use Rattle.std.proofs.Common.{◌≡◌, ℕ, ℤ, ◌⊎◌, Bool, true, false, cond, ◌&&◌, ◌||◌, List, [], ◌∷◌, ◌++◌, length, take, refl, ap, ap₂, sym, subst, ◌∙◌, arith, Option, Some, None, append_assoc, append-nil, inl, inr, is_none, if◌then◌else◌, drop, ◌+◌, ◌==◌}
use Rattle.std.proofs.lemmas.List.{drop-drop}
use Rattle.std.proofs.lemmas.Bool.{cases_Bool}
use Rattle.std.proofs.lemmas.Bool.Decides.{nat_tests}
use Rattle.ti_types.specs.declared.limits.Limits.{Limits}
use Rattle.ti_types.specs.declared.numbers.EnvNo.{EnvNo}
use Rattle.ti_types.specs.declared.numbers.ThreadNo.{ThreadNo}
use Rattle.ti_types.specs.declared.call.Call.{Call}
use Rattle.ti_types.specs.declared.call.Call.TheVariants.{State, FrameCount, Trace, Location, Suspend, Resume, GetWord, SetWord, Pop}
use Rattle.ti_types.specs.declared.place.Frame.{Frame}
use Rattle.ti_types.specs.declared.step.Step.TheVariants.{Leave}
use Rattle.ti_types.specs.declared.state.Safe.TheVariants.{Native, Blocked, AtPoll}
use Rattle.ti_types.specs.declared.entry.Entry.{Entry}
use Rattle.ti_types.specs.declared.entry.Entry.TheVariants as entry
use Rattle.ti_types.specs.declared.error.TiError.{TiError}
use Rattle.ti_types.specs.declared.event.Event.{Event}
use Rattle.ti_types.specs.declared.event.Event.TheVariants.{Start, Own, Poll, ToNative, ToBlocked, Back, End, Ask, Stop, Read, Go, AddCaps, Relinquish, GetCaps, SetEnvWord, GetEnvWord}
use Rattle.ti_types.specs.declared.event.Outcome.{Outcome}
use Rattle.ti_types.specs.declared.event.Outcome.TheVariants as outcome
use Rattle.ti_types.specs.declared.answer.Answer.{Answer}
use Rattle.ti_types.specs.declared.answer.Answer.TheVariants as answer
use Rattle.ti_types.specs.declared.view.ThreadView.{ThreadView}
use Rattle.ti_types.specs.Frames.{bare_trace}
use Rattle.ti_types.specs.State.{bits_of}
use Rattle.ti_replay.specs.Answers.{or_zero, stack_of, answer_of, is_running}
use Rattle.ti_replay.specs.Settling.{waits}
use Rattle.ti_replay.specs.View.{view, called, frames_after}
use Rattle.ti_replay.specs.Laws.{is_done}
use Rattle.ti_replay.specs.Legal.{asked_by, own_spent}
use Rattle.ti_replay.specs.Refusals.{own_refusal}
use Rattle.ti_replay.specs.Replies.{reply}
use Rattle.ti_replay.specs.HistoryState.{HistoryState, history_state}
use Rattle.ti_replay.specs.Admission.{Happening, dealings, refusal, is_own_of, is_aimed_at}
use Rattle.ti_replay.specs.Events.{left_by, left_own, if_none, history_of, reaches, done_unless, outcome_there, outcome_of, stopping_refusal, read_outcome, given, refused_or}
use Rattle.ti_replay.specs.Outcomes.{out_of}
use Rattle.ti_replay.specs.Standing.{stands_for, is_standing, is_own_entry, is_go_at, lets_go, was_refused, is_pop_at, was_done, pop_count, pops_done, OneStateUnderAStop}
use Rattle.ti_replay.proofs.NextStates.{next_state}
use Rattle.ti_replay.proofs.AgreementLaws.{history_of-snoc, out_there, same_thread}
use Rattle.ti_replay.proofs.AskingLaws.{reply-snoc}
use Rattle.ti_replay.proofs.BoundLaws.{called_stopper}
use Rattle.ti_replay.proofs.DoneLaws.{change_where_done}
use Rattle.ti_replay.proofs.HistoryStateLaws.{history_state-snoc}
use Rattle.ti_replay.proofs.LateStepLaws.{called_keeps}
use Rattle.ti_replay.proofs.PlaceLaws.{reply_past, reply_at_once}
use Rattle.ti_replay.proofs.ReplyLaws.{reply_stays}
use Rattle.ti_replay.proofs.WordAnswers.{history_grows}

-- the stop stands in a later view, which has the mode and the frames of an earlier one, but this many of the newest
record IsKept (env : EnvNo) (n : ℕ) (v w : ThreadView) : Type 0 where
  stands : stands_for env w ≡ true
  mode : w.mode ≡ v.mode
  frames : w.frames ≡ drop n v.frames

-- an entry of the thread's own is refused
own_refused : (limits : Limits) (v : ThreadView) (own : ℕ) (x : Entry) (env : EnvNo) → stands_for env v ≡ true → is_own_entry x ≡ true → is_none (own_refusal limits v own x) ≡ false
own_refused limits v own entry.Start env k h = grind (arith, nat_tests)
own_refused limits v own (entry.Own step) env k h = grind (arith, nat_tests)
own_refused limits v own (entry.Hand Native) env k h = grind (arith, nat_tests)
own_refused limits v own (entry.Hand (Blocked kind)) env k h = grind (arith, nat_tests)
own_refused limits v own (entry.Hand AtPoll) env k h = grind (arith, nat_tests)
own_refused limits v own entry.Back env k h = grind (arith, nat_tests)
own_refused limits v own entry.End env k h = grind (arith, nat_tests)
own_refused limits v own (entry.Asked e n c) env k h = cc
own_refused limits v own (entry.Stop e) env k h = cc
own_refused limits v own (entry.Read e n) env k h = cc
own_refused limits v own (entry.Go e) env k h = cc

none_left : (r : Option TiError) (entries : List Entry) → is_none r ≡ false → if_none r entries ≡ []
none_left None entries h = cc
none_left (Some error) entries h = refl

refused_done : (r : Option TiError) → is_none r ≡ false → was_refused (done_unless r) ≡ true
refused_done None h = cc
refused_done (Some error) h = refl

same_view : (env : EnvNo) (v : ThreadView) → stands_for env v ≡ true → IsKept env 0 v v
same_view env v k = record { stands = k; mode = refl; frames = refl }

-- where nothing is left
kept_by_nothing : (limits : Limits) (history left : List Entry) (env : EnvNo) → stands_for env (view limits history) ≡ true → left ≡ [] → IsKept env 0 (view limits history) (view limits (history ++ left))
kept_by_nothing limits history left env k h =
    subst (λ l. IsKept env 0 (view limits history) (view limits l)) (sym (ap (λ l. history ++ l) h ∙ append-nil history)) (same_view env (view limits history) k)

kept_by_own : (limits : Limits) (history : List Entry) (x : Entry) (env : EnvNo) → stands_for env (view limits history) ≡ true → is_own_entry x ≡ true
    → IsKept env 0 (view limits history) (view limits (history ++ left_own limits history (Some x)))
kept_by_own limits history x env k h =
    kept_by_nothing limits history (left_own limits history (Some x)) env k
    (none_left (own_refusal limits (view limits history) (own_spent history) x) (x ∷ []) (own_refused limits (view limits history) (own_spent history) x env k h))

-- the view after one more entry
view_next : (limits : Limits) (history : List Entry) (x : Entry) → view limits (history ++ x ∷ []) ≡ (next_state (history_state limits history) x).view
view_next limits history x = ap (λ (s : HistoryState). s.view) (history_state-snoc limits history x)

-- how many frames a call takes away
abbrev taken : ThreadView → EnvNo → Call → ℕ
taken v e Pop = cond (is_done (answer_of v e Pop)) 1 0
taken v e call = 0

leave_drops : (frames : List Frame) → frames_after frames Leave ≡ drop 1 frames
leave_drops [] = refl
leave_drops (f ∷ frames) = refl

popped : (v : ThreadView) (e : EnvNo) (b : Bool) → (if b then record v { frames = frames_after v.frames Leave } else v).frames ≡ drop (cond b 1 0) v.frames
popped v e true = leave_drops v.frames
popped v e false = refl

pub call_frames : (v : ThreadView) (e : EnvNo) (call : Call) → (called v e call).frames ≡ drop (taken v e call) v.frames
call_frames v e State = refl
call_frames v e FrameCount = refl
call_frames v e (Trace start max_count) = refl
call_frames v e (Location depth) = refl
call_frames v e Suspend = grind arith
call_frames v e Resume = grind arith
call_frames v e GetWord = refl
call_frames v e (SetWord word) = grind arith
call_frames v e Pop = ap (λ (w : ThreadView). w.frames) (change_where_done v e Pop) ∙ popped v e (is_done (answer_of v e Pop))

kept_by_call : (limits : Limits) (history : List Entry) (e : EnvNo) (n : ℕ) (call : Call) (env : EnvNo) → stands_for env (view limits history) ≡ true
    → IsKept env (taken (view limits history) e call) (view limits history) (view limits (history ++ entry.Asked e n call ∷ []))
kept_by_call limits history e n call env k =
    let v = view limits history in
    let keeps = called_keeps v e call in
    let stop = called_stopper v e call in
    let gone = call_frames v e call in
    subst (IsKept env (taken v e call) v) (sym (view_next limits history (entry.Asked e n call)))
    (record { stands = grind (arith, keeps, stop); mode = grind (arith, keeps); frames = grind (arith, gone) })

kept_by_read : (limits : Limits) (history : List Entry) (e : EnvNo) (n : ℤ) (env : EnvNo) (r : Option TiError) → stands_for env (view limits history) ≡ true
    → IsKept env 0 (view limits history) (view limits (history ++ if_none r (entry.Read e n ∷ [])))
kept_by_read limits history e n env (Some error) k = kept_by_nothing limits history [] env k refl
kept_by_read limits history e n env None k = subst (IsKept env 0 (view limits history)) (sym (view_next limits history (entry.Read e n))) (same_view env (view limits history) k)

-- how many frames an event takes away
abbrev taken_by : ThreadView → Event → ℕ
taken_by v (Ask e t call) = taken v e call
taken_by v event = 0

-- what an event leaves that does not let the thread go
left_kept : (limits : Limits) (history : List Entry) (env : EnvNo) (thread : ThreadNo) (event : Event) → stands_for env (view limits history) ≡ true
    → is_go_at env thread event ≡ false → (is_own_of thread event ≡ true) ⊎ (is_aimed_at thread event ≡ true) → IsKept env (taken_by (view limits history) event) (view limits history) (view limits (history ++ left_by limits history event))
left_kept limits history env thread (Start t) k g at = kept_by_own limits history entry.Start env k refl
left_kept limits history env thread (Own t step) k g at = kept_by_own limits history (entry.Own step) env k refl
left_kept limits history env thread (Poll t) k g at = kept_by_nothing limits history (left_by limits history (Poll t)) env k (grind (arith, nat_tests))
left_kept limits history env thread (ToNative t) k g at = kept_by_own limits history (entry.Hand Native) env k refl
left_kept limits history env thread (ToBlocked t kind) k g at = kept_by_own limits history (entry.Hand (Blocked kind)) env k refl
left_kept limits history env thread (Back t) k g at = kept_by_own limits history entry.Back env k refl
left_kept limits history env thread (End t) k g at = kept_by_own limits history entry.End env k refl
left_kept limits history env thread (Ask e t call) k g at = kept_by_call limits history e (asked_by e history) call env k
left_kept limits history env thread (Stop e t) k g at = kept_by_nothing limits history (left_by limits history (Stop e t)) env k (grind (arith, nat_tests))
left_kept limits history env thread (Read e t n) k g at = kept_by_read limits history e n env (stopping_refusal (view limits history) (Read e t n)) k
left_kept limits history env thread (Go e t) k g (inl own) = cc
left_kept limits history env thread (Go e t) k g (inr aimed) = kept_by_nothing limits history (left_by limits history (Go e t)) env k (grind (arith, nat_tests))
left_kept limits history env thread (AddCaps e caps) k g at = kept_by_nothing limits history [] env k refl
left_kept limits history env thread (Relinquish e caps) k g at = kept_by_nothing limits history [] env k refl
left_kept limits history env thread (GetCaps e) k g at = kept_by_nothing limits history [] env k refl
left_kept limits history env thread (SetEnvWord e w) k g at = kept_by_nothing limits history [] env k refl
left_kept limits history env thread (GetEnvWord e) k g at = kept_by_nothing limits history [] env k refl

own_or_aimed : (a b c d : Bool) → ((a && b) || (c && d)) ≡ true → (a ≡ true) ⊎ (c ≡ true)
own_or_aimed true b c d h = inl refl
own_or_aimed false b true d h = inr refl
own_or_aimed false b false d h = cc

-- how many frames an event takes away, after a front
abbrev gone_by : Limits → ThreadNo → List Happening → Happening → ℕ
gone_by limits thread front h = cond (reaches limits thread front h) (taken_by (view limits (history_of limits thread front)) h.event) 0

-- one more event
behind_kept : (limits : Limits) (env : EnvNo) (thread : ThreadNo) (front : List Happening) (h : Happening) → is_standing limits (history_of limits thread front) env ≡ true
    → is_go_at env thread h.event ≡ false → IsKept env (gone_by limits thread front h) (view limits (history_of limits thread front)) (view limits (history_of limits thread (front ++ h ∷ [])))
behind_kept limits env thread front h k g =
    let l = history_of limits thread front in
    let n = taken_by (view limits l) h.event in
    subst (λ m. IsKept env (gone_by limits thread front h) (view limits l) (view limits m)) (sym (history_of-snoc limits thread front h))
    (elim (cases_Bool (reaches limits thread front h)) [
      | inl there ↦
          subst (λ b. IsKept env (cond b n 0) (view limits l) (view limits (cond b (l ++ left_by limits l h.event) l))) (sym there)
          (left_kept limits l env thread h.event k g (own_or_aimed _ _ _ _ there))
      | inr out ↦ subst (λ b. IsKept env (cond b n 0) (view limits l) (view limits (cond b (l ++ left_by limits l h.event) l))) (sym out) (same_view env (view limits l) k)
    ])

-- what an own event comes to
own_told : (limits : Limits) (whole history : List Entry) (thread : ThreadNo) (event : Event) (env : EnvNo) → stands_for env (view limits history) ≡ true
    → is_own_of thread event ≡ true → was_refused (outcome_there limits whole history event) ≡ true
own_told limits whole history thread (Start t) env k h = refused_done _ (own_refused limits (view limits history) (own_spent history) entry.Start env k refl)
own_told limits whole history thread (Own t step) env k h = refused_done _ (own_refused limits (view limits history) (own_spent history) (entry.Own step) env k refl)
own_told limits whole history thread (Poll t) env k h = grind (arith, nat_tests)
own_told limits whole history thread (ToNative t) env k h = refused_done _ (own_refused limits (view limits history) (own_spent history) (entry.Hand Native) env k refl)
own_told limits whole history thread (ToBlocked t kind) env k h = refused_done _ (own_refused limits (view limits history) (own_spent history) (entry.Hand (Blocked kind)) env k refl)
own_told limits whole history thread (Back t) env k h = refused_done _ (own_refused limits (view limits history) (own_spent history) entry.Back env k refl)
own_told limits whole history thread (End t) env k h = refused_done _ (own_refused limits (view limits history) (own_spent history) entry.End env k refl)
own_told limits whole history thread (Ask e t call) env k h = cc
own_told limits whole history thread (Stop e t) env k h = cc
own_told limits whole history thread (Read e t n) env k h = cc
own_told limits whole history thread (Go e t) env k h = cc
own_told limits whole history thread (AddCaps e caps) env k h = cc
own_told limits whole history thread (Relinquish e caps) env k h = cc
own_told limits whole history thread (GetCaps e) env k h = cc
own_told limits whole history thread (SetEnvWord e w) env k h = cc
own_told limits whole history thread (GetEnvWord e) env k h = cc

own_out : (limits : Limits) (thread : ThreadNo) (all front : List Happening) (h : Happening) (env : EnvNo) → is_standing limits (history_of limits thread front) env ≡ true
    → is_own_of thread h.event ≡ true → was_refused (out_of limits all front h) ≡ true
own_out limits thread all front h env k own =
    let told = own_told limits (history_of limits thread all) (history_of limits thread front) thread h.event env k own in
    let there : out_of limits all front h ≡ outcome_of limits thread all front h = out_there limits thread all front h.wanting h.event (grind arith) in
    ap was_refused there ∙ grind (arith, own, told)

-- an own event leaves nothing
own_left : (limits : Limits) (history : List Entry) (thread : ThreadNo) (event : Event) (env : EnvNo) → stands_for env (view limits history) ≡ true
    → is_own_of thread event ≡ true → left_by limits history event ≡ []
own_left limits history thread (Start t) env k h = none_left _ _ (own_refused limits (view limits history) (own_spent history) entry.Start env k refl)
own_left limits history thread (Own t step) env k h = none_left _ _ (own_refused limits (view limits history) (own_spent history) (entry.Own step) env k refl)
own_left limits history thread (Poll t) env k h = grind (arith, nat_tests)
own_left limits history thread (ToNative t) env k h = none_left _ _ (own_refused limits (view limits history) (own_spent history) (entry.Hand Native) env k refl)
own_left limits history thread (ToBlocked t kind) env k h = none_left _ _ (own_refused limits (view limits history) (own_spent history) (entry.Hand (Blocked kind)) env k refl)
own_left limits history thread (Back t) env k h = none_left _ _ (own_refused limits (view limits history) (own_spent history) entry.Back env k refl)
own_left limits history thread (End t) env k h = none_left _ _ (own_refused limits (view limits history) (own_spent history) entry.End env k refl)
own_left limits history thread (Ask e t call) env k h = cc
own_left limits history thread (Stop e t) env k h = cc
own_left limits history thread (Read e t n) env k h = cc
own_left limits history thread (Go e t) env k h = cc
own_left limits history thread (AddCaps e caps) env k h = cc
own_left limits history thread (Relinquish e caps) env k h = cc
own_left limits history thread (GetCaps e) env k h = cc
own_left limits history thread (SetEnvWord e w) env k h = cc
own_left limits history thread (GetEnvWord e) env k h = cc

own_stays : (limits : Limits) (thread : ThreadNo) (front : List Happening) (h : Happening) (env : EnvNo) → is_standing limits (history_of limits thread front) env ≡ true
    → is_own_of thread h.event ≡ true → history_of limits thread (front ++ h ∷ []) ≡ history_of limits thread front
own_stays limits thread front h env k own =
    let l = history_of limits thread front in
    history_of-snoc limits thread front h ∙ grind (arith, own_left limits l thread h.event env k own, append-nil l)

-- a read is answered at once by the view
read_at_once : (limits : Limits) (history : List Entry) (env : EnvNo) (n : ℤ) → reply limits (history ++ entry.Read env n ∷ []) (length history) ≡ Some (stack_of (view limits history) n)
read_at_once limits history env n =
    grind (arith, nat_tests, reply-snoc limits history (entry.Read env n) (length history), reply_past limits history (length history))

read_out : (limits : Limits) (env : EnvNo) (thread : ThreadNo) (front rest : List Happening) (n : ℤ) (wanting : Bool) → is_standing limits (history_of limits thread front) env ≡ true
    → is_none (refusal limits (dealings limits env thread front) (record { event = Read env thread n; wanting = wanting })) ≡ true
    → out_of limits (front ++ record { event = Read env thread n; wanting = wanting } ∷ rest) front (record { event = Read env thread n; wanting = wanting })
    ≡ Some (outcome.Gave (stack_of (view limits (history_of limits thread front)) n))
read_out limits env thread front rest n wanting k admitted =
    let h : Happening = record { event = Read env thread n; wanting = wanting } in
    let l = history_of limits thread front in
    let v = view limits l in
    let longer = l ++ entry.Read env n ∷ [] in
    let reached : reaches limits thread front h ≡ true = grind (arith, nat_tests) in
    let holds : stopping_refusal v (Read env thread n) ≡ None = grind (arith, nat_tests) in
    let behind : history_of limits thread (front ++ h ∷ []) ≡ longer =
    history_of-snoc limits thread front h ∙ ap (λ b. cond b (l ++ left_by limits l h.event) l) reached ∙ ap (λ r. l ++ if_none r (entry.Read env n ∷ [])) holds in
    let more = history_grows limits thread (front ++ h ∷ []) rest in
    let whole : history_of limits thread (front ++ h ∷ rest) ≡ longer ++ more.0 =
    ap (history_of limits thread) (sym (append_assoc front (h ∷ []) rest)) ∙ more.1 ∙ ap (λ x. x ++ more.0) behind in
    let given_is : reply limits (history_of limits thread (front ++ h ∷ rest)) (length l) ≡ Some (stack_of v n) =
    ap (λ x. reply limits x (length l)) whole ∙ reply_stays limits longer more.0 (length l) (stack_of v n) (read_at_once limits l env n) in
    let out : out_of limits (front ++ h ∷ rest) front h ≡ read_outcome (stopping_refusal v (Read env thread n)) (reply limits (history_of limits thread (front ++ h ∷ rest)) (length l)) = grind (arith, nat_tests) in
    out ∙ ap₂ read_outcome holds given_is

-- a call at a thread that does not run comes to its answer
ask_out : (limits : Limits) (thread : ThreadNo) (front rest : List Happening) (e : EnvNo) (call : Call) (wanting : Bool) → is_running (view limits (history_of limits thread front)).mode ≡ false
    → reaches limits thread front (record { event = Ask e thread call; wanting = wanting }) ≡ true
    → out_of limits (front ++ record { event = Ask e thread call; wanting = wanting } ∷ rest) front (record { event = Ask e thread call; wanting = wanting })
    ≡ Some (outcome.Gave (answer_of (view limits (history_of limits thread front)) e call))
ask_out limits thread front rest e call wanting still reached =
    let h : Happening = record { event = Ask e thread call; wanting = wanting } in
    let l = history_of limits thread front in
    let v = view limits l in
    let longer = l ++ entry.Asked e (asked_by e l) call ∷ [] in
    let behind : history_of limits thread (front ++ h ∷ []) ≡ longer = history_of-snoc limits thread front h ∙ ap (λ b. cond b longer l) reached in
    let more = history_grows limits thread (front ++ h ∷ []) rest in
    let whole : history_of limits thread (front ++ h ∷ rest) ≡ longer ++ more.0 =
    ap (history_of limits thread) (sym (append_assoc front (h ∷ []) rest)) ∙ more.1 ∙ ap (λ x. x ++ more.0) behind in
    let at_once : (waits call && is_running v.mode) ≡ false = grind (arith, still) in
    let given_is : reply limits (history_of limits thread (front ++ h ∷ rest)) (length l) ≡ Some (answer_of v e call) =
    ap (λ x. reply limits x (length l)) whole ∙ reply_stays limits longer more.0 (length l) (answer_of v e call) (reply_at_once limits l e (asked_by e l) call at_once) in
    let out : out_of limits (front ++ h ∷ rest) front h ≡ given (reply limits (history_of limits thread (front ++ h ∷ rest)) (length l)) = grind (arith, nat_tests) in
    out ∙ ap given given_is

-- a call that does not reach the thread is not done
not_reached : (limits : Limits) (thread : ThreadNo) (all front : List Happening) (e : EnvNo) (call : Call) (wanting : Bool)
    → reaches limits thread front (record { event = Ask e thread call; wanting = wanting }) ≡ false
    → was_done (out_of limits all front (record { event = Ask e thread call; wanting = wanting })) ≡ false
not_reached limits thread all front e call wanting out =
    let r = refusal limits (dealings limits e thread front) (record { event = Ask e thread call; wanting = wanting }) in
    let some : is_none r ≡ false = grind (arith, nat_tests, out) in
    let self : (thread.0 == thread.0) ≡ true = grind (arith, nat_tests) in
    let h : Happening = record { event = Ask e thread call; wanting = wanting } in
    let o = outcome_there limits (history_of limits thread all) (history_of limits thread front) (Ask e thread call) in
    let is : out_of limits all front h ≡ refused_or r o = rw self refl in
    ap was_done is ∙ refused_not_done r o some
  where
    refused_not_done : (r : Option TiError) (o : Option Outcome) → is_none r ≡ false → was_done (refused_or r o) ≡ false
    refused_not_done None o h = cc
    refused_not_done (Some error) o h = refl

done_is : (a : Answer) → was_done (Some (outcome.Gave a)) ≡ is_done a
done_is answer.Done = refl
done_is (answer.State b) = refl
done_is (answer.Count n) = refl
done_is (answer.Trace t) = refl
done_is (answer.Location f) = refl
done_is (answer.Word w) = refl
done_is (answer.Caps c) = refl
done_is (answer.Stack b t) = refl
done_is (answer.Refused e) = refl

-- a pop takes a frame away where it is done
pop_counted : (limits : Limits) (thread : ThreadNo) (front rest : List Happening) (e : EnvNo) (wanting : Bool) → is_running (view limits (history_of limits thread front)).mode ≡ false
    → gone_by limits thread front (record { event = Ask e thread Pop; wanting = wanting })
    ≡ pop_count thread (Ask e thread Pop) (out_of limits (front ++ record { event = Ask e thread Pop; wanting = wanting } ∷ rest) front (record { event = Ask e thread Pop; wanting = wanting }))
pop_counted limits thread front rest e wanting still =
    let h : Happening = record { event = Ask e thread Pop; wanting = wanting } in
    let all = front ++ h ∷ rest in
    let v = view limits (history_of limits thread front) in
    let here : is_pop_at thread (Ask e thread Pop) ≡ true = grind (arith, nat_tests) in
    elim (cases_Bool (reaches limits thread front h)) [
      | inl there ↦
          let done : was_done (out_of limits all front h) ≡ is_done (answer_of v e Pop) = ap was_done (ask_out limits thread front rest e Pop wanting still there) ∙ done_is (answer_of v e Pop) in
          ap (λ b. cond b (taken_by v h.event) 0) there ∙ sym (ap₂ (λ a b. cond (a && b) 1 0) here done)
      | inr out ↦
          ap (λ b. cond b (taken_by v h.event) 0) out ∙ sym (ap₂ (λ a b. cond (a && b) 1 0) here (not_reached limits thread all front e Pop wanting out))
    ]

-- an event that is no pop at the thread takes nothing away
nothing_gone : (b : Bool) → ◌≡◌ {A = ℕ} (cond b 0 0) 0
nothing_gone true = refl
nothing_gone false = refl

-- what an event takes away is counted by what it comes to
event_counted : (limits : Limits) (thread : ThreadNo) (front rest : List Happening) (wanting : Bool) (event : Event) → is_running (view limits (history_of limits thread front)).mode ≡ false
    → gone_by limits thread front (record { event = event; wanting = wanting })
    ≡ pop_count thread event (out_of limits (front ++ record { event = event; wanting = wanting } ∷ rest) front (record { event = event; wanting = wanting }))
event_counted limits thread front rest wanting (Ask e t State) still = nothing_gone _
event_counted limits thread front rest wanting (Ask e t FrameCount) still = nothing_gone _
event_counted limits thread front rest wanting (Ask e t (Trace start max_count)) still = nothing_gone _
event_counted limits thread front rest wanting (Ask e t (Location depth)) still = nothing_gone _
event_counted limits thread front rest wanting (Ask e t Suspend) still = nothing_gone _
event_counted limits thread front rest wanting (Ask e t Resume) still = nothing_gone _
event_counted limits thread front rest wanting (Ask e t GetWord) still = nothing_gone _
event_counted limits thread front rest wanting (Ask e t (SetWord word)) still = nothing_gone _
event_counted limits thread front rest wanting (Ask e t Pop) still =
    elim (cases_Bool (t.0 == thread.0)) [
      | inl same ↦
          subst (λ (u : ThreadNo). gone_by limits thread front (record { event = Ask e u Pop; wanting = wanting })
          ≡ pop_count thread (Ask e u Pop) (out_of limits (front ++ record { event = Ask e u Pop; wanting = wanting } ∷ rest) front (record { event = Ask e u Pop; wanting = wanting })))
          (sym (same_thread t thread same)) (pop_counted limits thread front rest e wanting still)
      | inr other ↦ grind (arith, other)
    ]
event_counted limits thread front rest wanting (Start t) still = nothing_gone _
event_counted limits thread front rest wanting (Own t step) still = nothing_gone _
event_counted limits thread front rest wanting (Poll t) still = nothing_gone _
event_counted limits thread front rest wanting (ToNative t) still = nothing_gone _
event_counted limits thread front rest wanting (ToBlocked t kind) still = nothing_gone _
event_counted limits thread front rest wanting (Back t) still = nothing_gone _
event_counted limits thread front rest wanting (End t) still = nothing_gone _
event_counted limits thread front rest wanting (Stop e t) still = nothing_gone _
event_counted limits thread front rest wanting (Read e t n) still = nothing_gone _
event_counted limits thread front rest wanting (Go e t) still = nothing_gone _
event_counted limits thread front rest wanting (AddCaps e caps) still = refl
event_counted limits thread front rest wanting (Relinquish e caps) still = refl
event_counted limits thread front rest wanting (GetCaps e) still = refl
event_counted limits thread front rest wanting (SetEnvWord e w) still = refl
event_counted limits thread front rest wanting (GetEnvWord e) still = refl

run_kept : (limits : Limits) (env : EnvNo) (thread : ThreadNo) (all front more rest : List Happening) → all ≡ front ++ (more ++ rest) → is_standing limits (history_of limits thread front) env ≡ true
    → lets_go env thread more ≡ false → IsKept env (pops_done limits thread all front more) (view limits (history_of limits thread front)) (view limits (history_of limits thread (front ++ more)))
run_kept limits env thread all front [] rest e k g =
    subst (λ f. IsKept env 0 (view limits (history_of limits thread front)) (view limits (history_of limits thread f))) (sym (append-nil front)) (same_view env (view limits (history_of limits thread front)) k)
run_kept limits env thread all front (h ∷ more) rest e k g =
    let here : is_go_at env thread h.event ≡ false = grind arith in
    let there : lets_go env thread more ≡ false = grind arith in
    let v = view limits (history_of limits thread front) in
    let still : is_running v.mode ≡ false = grind arith in
    let one = behind_kept limits env thread front h k here in
    let n = gone_by limits thread front h in
    let m = pops_done limits thread all (front ++ h ∷ []) more in
    let next = run_kept limits env thread all (front ++ h ∷ []) more rest (e ∙ sym (append_assoc front (h ∷ []) (more ++ rest))) one.stands there in
    let count : n ≡ pop_count thread h.event (out_of limits all front h) =
    event_counted limits thread front (more ++ rest) h.wanting h.event still ∙ ap (λ a. pop_count thread h.event (out_of limits a front h)) (sym e) in
    subst (λ f. IsKept env (pops_done limits thread all front (h ∷ more)) v (view limits (history_of limits thread f))) (append_assoc front (h ∷ []) more)
    (record {
      stands = next.stands;
      mode = next.mode ∙ one.mode;
      frames = next.frames ∙ ap (drop m) one.frames ∙ drop-drop m n v.frames ∙ ap (λ c. drop (c + m) v.frames) count;
    })

pub one_state : OneStateUnderAStop
one_state limits env thread front more k g =
    let now = front ++ more in
    let kept = λ (rest : List Happening). run_kept limits env thread (now ++ rest) front more rest (append_assoc front more rest) k g in
    let first = kept [] in
    let w = view limits (history_of limits thread now) in
    record {
      stands = first.stands;
      mode = first.mode;
      frames = λ rest. (kept rest).frames;
      refused = λ all h own. own_out limits thread all now h env first.stands own;
      nothing_left = λ h own. own_stays limits thread now h env first.stands own;
      reads = λ rest n wanting a. read_out limits env thread now rest n wanting first.stands a
          ∙ ap₂ (λ m f. Some (outcome.Gave (answer.Stack (bits_of m w.suspended) (bare_trace (take (or_zero n) f))))) first.mode
          (kept (record { event = Read env thread n; wanting = wanting } ∷ rest)).frames;
    }
