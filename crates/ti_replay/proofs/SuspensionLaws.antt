-- A suspended thread makes no entry of its own.
use Rattle.std.proofs.Common.{◌≡◌, ◌==◌, Bool, true, false, cond, List, [], ◌∷◌, ◌++◌, refl, ap, sym, ◌∙◌, arith, append-nil, append_assoc, Some, length}
use Rattle.std.specs.Prelude.{ℕ, ℤ, drop}
use Rattle.std.specs.List.{fold, list_any}
use Rattle.std.proofs.lemmas.List.{drop-drop}
use Rattle.std.proofs.lemmas.Bool.{and_parts}
use Rattle.std.proofs.lemmas.Bool.Decides.{nat_tests}
use Rattle.ti_types.specs.declared.limits.Limits.{Limits}
use Rattle.ti_types.specs.declared.numbers.EnvNo.{EnvNo}
use Rattle.ti_types.specs.declared.answer.Answer.{Answer}
use Rattle.ti_types.specs.declared.view.ThreadView.{ThreadView}
use Rattle.ti_types.specs.declared.state.Mode.{Mode}
use Rattle.ti_types.specs.declared.state.Mode.TheVariants.{New, Running, AtSafe, Ended}
use Rattle.ti_types.specs.declared.state.Safe.TheVariants.{Native, Blocked, AtPoll}
use Rattle.ti_types.specs.declared.entry.Entry.{Entry}
use Rattle.ti_types.specs.declared.entry.Entry.TheVariants.{Start, Own, Hand, Back, End, Asked, Stop, Read, Go}
use Rattle.ti_types.specs.declared.call.Call.TheVariants.{State, FrameCount, Trace, Location, Suspend, Resume, GetWord, SetWord, Pop}
use Rattle.ti_replay.specs.Answers.{is_running, is_safe, answer_of}
use Rattle.ti_replay.specs.View.{view}
use Rattle.ti_replay.specs.Legal.{is_legal}
use Rattle.ti_replay.specs.HistoryState.{HistoryState, history_state}
use Rattle.ti_replay.proofs.NextStates.{next_state, allows, allows_all}
use Rattle.ti_replay.specs.Makers.{maker, made_by}
use Rattle.ti_replay.specs.Standing.{is_own_entry}
use Rattle.ti_replay.specs.Fronts.{frames_popped, popped_behind}
use Rattle.ti_replay.proofs.CostLaws.{goes_on-append}
use Rattle.ti_replay.proofs.HistoryStateLaws.{history_state-append, history_state-snoc, goes_on-allows}
use Rattle.ti_replay.proofs.StopLaws.{call_frames}
use Rattle.ti_replay.proofs.AloneLaws.{others_leave}
use Rattle.ti_replay.proofs.PlaceLaws.{reply_at_once}
use Rattle.ti_replay.proofs.ReplyLaws.{reply_stays}
use Rattle.ti_replay.specs.Suspensions.{is_resumption, rests, SuspensionsStay, Traced, TracesAgree}

rest_step : (limits : Limits) (s : HistoryState) (x : Entry) → allows limits s x ≡ true → rests s.view ≡ true → is_resumption x ≡ false
    → (is_own_entry x ≡ false) × (rests (next_state s x).view ≡ true)
rest_step limits s Start a k r = absurd (grind (arith, nat_tests))
rest_step limits s (Own step) a k r = absurd (grind (arith, nat_tests))
rest_step limits s (Hand Native) a k r = absurd (grind (arith, nat_tests))
rest_step limits s (Hand (Blocked kind)) a k r = absurd (grind (arith, nat_tests))
rest_step limits s (Hand AtPoll) a k r = absurd (grind (arith, nat_tests))
rest_step limits s Back a k r = absurd (grind (arith, nat_tests))
rest_step limits s End a k r = absurd (grind (arith, nat_tests))
rest_step limits s (Asked env n State) a k r = (refl, grind arith)
rest_step limits s (Asked env n FrameCount) a k r = (refl, grind arith)
rest_step limits s (Asked env n (Trace start max_count)) a k r = (refl, grind arith)
rest_step limits s (Asked env n (Location depth)) a k r = (refl, grind arith)
rest_step limits s (Asked env n Suspend) a k r = (refl, grind arith)
rest_step limits s (Asked env n Resume) a k r = absurd (grind arith)
rest_step limits s (Asked env n GetWord) a k r = (refl, grind arith)
rest_step limits s (Asked env n (SetWord word)) a k r = (refl, grind arith)
rest_step limits s (Asked env n Pop) a k r = (refl, grind arith)
rest_step limits s (Stop env) a k r = (refl, grind arith)
rest_step limits s (Read env n) a k r = (refl, grind arith)
rest_step limits s (Go env) a k r = (refl, grind arith)

own_is_made : (x : Entry) → is_own_entry x ≡ (maker x == 0)
own_is_made Start = refl
own_is_made (Own step) = refl
own_is_made (Hand safe) = refl
own_is_made Back = refl
own_is_made End = refl
own_is_made (Asked env n call) = grind arith
own_is_made (Stop env) = grind arith
own_is_made (Read env n) = grind arith
own_is_made (Go env) = grind arith

rest_run : (limits : Limits) (s : HistoryState) (more : List Entry) → allows_all limits s more ≡ true → rests s.view ≡ true → list_any is_resumption more ≡ false
    → (made_by 0 more ≡ []) × (rests (fold next_state s more).view ≡ true)
rest_run limits s [] a k r = (refl, k)
rest_run limits s (x ∷ more) a k r =
    let here : allows limits s x ≡ true = grind arith in
    let there : allows_all limits (next_state s x) more ≡ true = grind arith in
    let first : is_resumption x ≡ false = grind arith in
    let rest : list_any is_resumption more ≡ false = grind arith in
    let one = rest_step limits s x here k first in
    let later = rest_run limits (next_state s x) more there one.1 rest in
    let other : (maker x == 0) ≡ false = sym (own_is_made x) ∙ one.0 in
    (ap (λ (b : Bool). cond b (x ∷ made_by 0 more) (made_by 0 more)) other ∙ later.0, later.1)

-- what one entry of another takes away from a thread that does not run
entry_frames : (limits : Limits) (before : List Entry) (x : Entry) → (maker x == 0) ≡ false → is_running (view limits before).mode ≡ false
    → (view limits (before ++ x ∷ [])).frames ≡ drop (frames_popped limits before x) (view limits before).frames
entry_frames limits before x other rests =
    ap (λ (s : HistoryState). s.view.frames) (history_state-snoc limits before x) ∙ one x other
  where
    s : HistoryState
    s = history_state limits before

    one : (x : Entry) → (maker x == 0) ≡ false → (next_state s x).view.frames ≡ drop (frames_popped limits before x) s.view.frames
    one Start h = cc
    one (Own step) h = cc
    one (Hand safe) h = cc
    one Back h = cc
    one End h = cc
    one (Asked env n State) h = refl
    one (Asked env n FrameCount) h = grind (arith, rests)
    one (Asked env n (Trace start max_count)) h = grind (arith, rests)
    one (Asked env n (Location depth)) h = grind (arith, rests)
    one (Asked env n Suspend) h = grind (arith, rests)
    one (Asked env n Resume) h = grind (arith, rests)
    one (Asked env n GetWord) h = refl
    one (Asked env n (SetWord word)) h = grind (arith, rests)
    one (Asked env n Pop) h = grind (arith, rests) ∙ call_frames s.view env Pop
    one (Stop env) h = refl
    one (Read env n) h = refl
    one (Go env) h = refl

frames_behind : (limits : Limits) (before more : List Entry) → made_by 0 more ≡ [] → is_running (view limits before).mode ≡ false
    → (view limits (before ++ more)).frames ≡ drop (popped_behind limits before more) (view limits before).frames
frames_behind limits before [] none rests = ap (λ (h : List Entry). (view limits h).frames) (append-nil before)
frames_behind limits before (x ∷ more) none rests =
    let k = none_own_first x more none (maker x == 0) refl in
    let still : is_running (view limits (before ++ x ∷ [])).mode ≡ false = ap is_running (others_leave limits before (x ∷ []) [] k.2).mode ∙ rests in
    ap (λ (h : List Entry). (view limits h).frames) (sym (append_assoc before (x ∷ []) more))
    ∙ (frames_behind limits (before ++ x ∷ []) more k.1 still
    ∙ (ap (drop (popped_behind limits (before ++ x ∷ []) more)) (entry_frames limits before x k.0 rests)
    ∙ drop-drop (popped_behind limits (before ++ x ∷ []) more) (frames_popped limits before x) (view limits before).frames))
  where
    none_own_first : (x : Entry) (more : List Entry) → made_by 0 (x ∷ more) ≡ [] → (b : Bool) → (maker x == 0) ≡ b → ((maker x == 0) ≡ false) × (made_by 0 more ≡ []) × (made_by 0 (x ∷ []) ≡ [])
    none_own_first x more none true is = let e : x ∷ made_by 0 more ≡ [] = sym (ap (λ (b : Bool). cond b (x ∷ made_by 0 more) (made_by 0 more)) is) ∙ none in cc
    none_own_first x more none false is =
        (is, sym (ap (λ (b : Bool). cond b (x ∷ made_by 0 more) (made_by 0 more)) is) ∙ none, ap (λ (b : Bool). cond b (x ∷ []) []) is)

-- what comes after a legal prefix may come at its state
comes : (limits : Limits) (before more : List Entry) → is_legal limits (before ++ more) ≡ true → allows_all limits (history_state limits before) more ≡ true
comes limits before more legal = sym (goes_on-allows limits before more) ∙ (and_parts _ _ (sym (goes_on-append limits [] before more) ∙ legal)).1

not_running : (v : ThreadView) → rests v ≡ true → is_running v.mode ≡ false
not_running v k = safe_rests v.mode (and_parts _ _ k).1
  where
    safe_rests : (m : Mode) → is_safe m ≡ true → is_running m ≡ false
    safe_rests New h = cc
    safe_rests Running h = cc
    safe_rests (AtSafe safe) h = refl
    safe_rests Ended h = cc

pub suspensions_stay : SuspensionsStay
suspensions_stay limits before more legal k none =
    let run = rest_run limits (history_state limits before) more (comes limits before more legal) k none in
    let left = others_leave limits before more [] run.0 in
    record {
      none = run.0;
      still = ap (λ (s : HistoryState). rests s.view) (history_state-append limits before more) ∙ run.1;
      mode = left.mode;
      frames = frames_behind limits before more run.0 (not_running (view limits before) k);
    }

-- the reply to a trace of a thread that rests
told : (limits : Limits) (before rest : List Entry) (e : EnvNo) (n : ℕ) (start max_count : ℤ) (a : Answer) → rests (view limits before) ≡ true → Traced limits before e n start max_count rest a
    → Some a ≡ Some (answer_of (view limits before) e (Trace start max_count))
told limits before rest e n start max_count a k is =
    let runs = not_running (view limits before) k in
    sym is ∙ reply_stays limits (before ++ Asked e n (Trace start max_count) ∷ []) rest (length before) (answer_of (view limits before) e (Trace start max_count)) (reply_at_once limits before e n (Trace start max_count) (grind (arith, runs)))

trace_of_frames : (v w : ThreadView) (e f : EnvNo) (start max_count : ℤ) → v.mode ≡ w.mode → v.frames ≡ w.frames → answer_of v e (Trace start max_count) ≡ answer_of w f (Trace start max_count)
trace_of_frames v w e f start max_count mode frames = grind (arith, mode, frames)

pub traces_agree : TracesAgree
traces_agree limits before one two rest_one rest_two e f m n start max_count a b legal_one legal_two k none_one none_two pops is_one is_two =
    let first = suspensions_stay limits before one legal_one k none_one in
    let second = suspensions_stay limits before two legal_two k none_two in
    let mode : (view limits (before ++ one)).mode ≡ (view limits (before ++ two)).mode = first.mode ∙ sym second.mode in
    let frames : (view limits (before ++ one)).frames ≡ (view limits (before ++ two)).frames =
    first.frames ∙ (ap (λ (i : ℕ). drop i (view limits before).frames) pops ∙ sym second.frames) in
    let x = told limits (before ++ one) rest_one e m start max_count a first.still is_one in
    let y = told limits (before ++ two) rest_two f n start max_count b second.still is_two in
    let same = trace_of_frames (view limits (before ++ one)) (view limits (before ++ two)) e f start max_count mode frames in
    let whole : Some a ≡ Some b = x ∙ (ap (λ (z : Answer). Some z) same ∙ sym y) in
    cc whole
