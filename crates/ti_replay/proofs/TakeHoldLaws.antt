-- When a suspension is answered Done, the thread rests suspended.
use Rattle.std.proofs.Common.{◌≡◌, ℕ, ◌+◌, ◌<◌, ◌==◌, ◌&&◌, Bool, true, false, cond, List, [], ◌∷◌, ◌++◌, length, refl, ap, sym, ◌∙◌, arith, append-nil, append_assoc, subst, Some, None, Option}
use Rattle.std.proofs.Common.{length-append}
use Rattle.std.specs.List.{list_all, list_any}
use Rattle.std.specs.Option.{option_or}
use Rattle.std.proofs.lemmas.Bool.{and_parts}
use Rattle.std.proofs.lemmas.Bool.Decides.{nat_tests}
use Rattle.std.proofs.lemmas.List.Folds.{list_all-append}
use Rattle.ti_types.specs.declared.limits.Limits.{Limits}
use Rattle.ti_types.specs.declared.numbers.EnvNo.{EnvNo}
use Rattle.ti_types.specs.declared.answer.Answer.{Answer}
use Rattle.ti_types.specs.declared.answer.Answer.TheVariants as answer
use Rattle.ti_types.specs.declared.view.ThreadView.{ThreadView}
use Rattle.ti_types.specs.declared.entry.Entry.{Entry}
use Rattle.ti_types.specs.declared.entry.Entry.TheVariants.{Start, Own, Hand, Back, End, Asked, Stop, Read, Go}
use Rattle.ti_types.specs.declared.call.Call.TheVariants.{State, FrameCount, Trace, Location, Suspend, Resume, GetWord, SetWord, Pop}
use Rattle.ti_replay.specs.Answers.{is_running, answer_of}
use Rattle.ti_replay.specs.Settling.{Placed, is_hand_over, is_waiting_call}
use Rattle.ti_replay.specs.View.{view, after, after_all, called}
use Rattle.ti_replay.specs.Replies.{reply, reply_from, answer_to}
use Rattle.ti_replay.specs.PlacedState.{PlacedState, placed_state, entered, settled_by, all_calls, are_below}
use Rattle.ti_replay.specs.Legal.{is_legal}
use Rattle.ti_replay.specs.Suspensions.{rests, is_resumption, suspending, SuspensionsTakeHold, SuspendedRest, SuspendedTracesAgree}
use Rattle.ti_replay.proofs.HistoryLaws.{placed_state-snoc}
use Rattle.ti_replay.proofs.AskingLaws.{reply-snoc, calls_kept}
use Rattle.ti_replay.proofs.LateStepLaws.{called_keeps}
use Rattle.ti_replay.proofs.PlaceLaws.{reply_past}
use Rattle.ti_replay.proofs.TellingLaws.{below_kept}
use Rattle.ti_replay.proofs.CostLaws.{goes_on-append}
use Rattle.ti_replay.proofs.SuspensionLaws.{suspensions_stay, traces_agree}
use Rattle.ti_replay.proofs.ReplyLaws.{reply_stays}

-- what has this place is a suspension
abbrev is_suspension : Entry → Bool
is_suspension (Asked env number Suspend) = true
is_suspension _ = false

abbrev suspends_at : ℕ → List Placed → Bool
suspends_at place s = list_all (λ p. cond (p.0 == place) (is_suspension p.1) true) s

-- a suspension that is done at a thread that does not run
suspends : (v : ThreadView) (env : EnvNo) → is_running v.mode ≡ false → answer_of v env Suspend ≡ answer.Done → rests (called v env Suspend) ≡ true
suspends v env still is = grind (arith, still, is)

-- the calls that wait suspend a thread, and none resumes it
rests_on : (v : ThreadView) (x : Entry) → is_waiting_call x ≡ true → rests v ≡ true → rests (after v x) ≡ true
rests_on v Start w k = cc
rests_on v (Own step) w k = cc
rests_on v (Hand safe) w k = cc
rests_on v Back w k = cc
rests_on v End w k = cc
rests_on v (Asked env n State) w k = cc
rests_on v (Asked env n FrameCount) w k = k
rests_on v (Asked env n (Trace start max_count)) w k = k
rests_on v (Asked env n (Location depth)) w k = k
rests_on v (Asked env n Suspend) w k = grind (arith, k)
rests_on v (Asked env n Resume) w k = cc
rests_on v (Asked env n GetWord) w k = cc
rests_on v (Asked env n (SetWord word)) w k = cc
rests_on v (Asked env n Pop) w k = grind (arith, k)
rests_on v (Stop env) w k = cc
rests_on v (Read env n) w k = cc
rests_on v (Go env) w k = cc

rests_all : (v : ThreadView) (s : List Placed) → all_calls s ≡ true → rests v ≡ true → rests (after_all v s) ≡ true
rests_all v [] w k = k
rests_all v (p ∷ s) w k = let parts = and_parts _ _ w in rests_all (after v p.1) s parts.1 (rests_on v p.1 parts.0 k)

still_on : (v : ThreadView) (x : Entry) → is_waiting_call x ≡ true → is_running v.mode ≡ false → is_running (after v x).mode ≡ false
still_on v Start w k = cc
still_on v (Own step) w k = cc
still_on v (Hand safe) w k = cc
still_on v Back w k = cc
still_on v End w k = cc
still_on v (Asked env n call) w k = ap is_running (called_keeps v env call).0 ∙ k
still_on v (Stop env) w k = cc
still_on v (Read env n) w k = cc
still_on v (Go env) w k = cc

-- a suspension that is answered
answered_rests : (v : ThreadView) (x : Entry) → is_suspension x ≡ true → is_running v.mode ≡ false → answer_to v x ≡ Some answer.Done → rests (after v x) ≡ true
answered_rests v Start w k is = cc
answered_rests v (Own step) w k is = cc
answered_rests v (Hand safe) w k is = cc
answered_rests v Back w k is = cc
answered_rests v End w k is = cc
answered_rests v (Asked env n State) w k is = cc
answered_rests v (Asked env n FrameCount) w k is = cc
answered_rests v (Asked env n (Trace start max_count)) w k is = cc
answered_rests v (Asked env n (Location depth)) w k is = cc
answered_rests v (Asked env n Suspend) w k is = suspends v env k (cc is)
answered_rests v (Asked env n Resume) w k is = cc
answered_rests v (Asked env n GetWord) w k is = cc
answered_rests v (Asked env n (SetWord word)) w k is = cc
answered_rests v (Asked env n Pop) w k is = cc
answered_rests v (Stop env) w k is = cc
answered_rests v (Read env n) w k is = cc
answered_rests v (Go env) w k is = cc

suspension_answers : (v : ThreadView) (x : Entry) (o : Option Answer) → is_suspension x ≡ true → option_or (answer_to v x) o ≡ Some answer.Done → answer_to v x ≡ Some answer.Done
suspension_answers v Start o w is = cc
suspension_answers v (Own step) o w is = cc
suspension_answers v (Hand safe) o w is = cc
suspension_answers v Back o w is = cc
suspension_answers v End o w is = cc
suspension_answers v (Asked env n call) o w is = is
suspension_answers v (Stop env) o w is = cc
suspension_answers v (Read env n) o w is = cc
suspension_answers v (Go env) o w is = cc

-- one of the waiting calls is a suspension that is done
served_rests : (v : ThreadView) (s : List Placed) (place : ℕ) → all_calls s ≡ true → suspends_at place s ≡ true → is_running v.mode ≡ false → reply_from v s place ≡ Some answer.Done
    → rests (after_all v s) ≡ true
served_rests v [] place w a k is = cc
served_rests v (p ∷ s) place w a k is = one (served_rests (after v p.1) s place) (p.0 == place) refl
  where
    one : (all_calls s ≡ true → suspends_at place s ≡ true → is_running (after v p.1).mode ≡ false → reply_from (after v p.1) s place ≡ Some answer.Done → rests (after_all (after v p.1) s) ≡ true)
        → (b : Bool) → (p.0 == place) ≡ b → rests (after_all (after v p.1) s) ≡ true
    one on true here =
        let wait = and_parts _ _ w in
        let kind : is_suspension p.1 ≡ true = sym (ap (λ (b : Bool). cond b (is_suspension p.1) true) here) ∙ (and_parts _ _ a).0 in
        let first : option_or (answer_to v p.1) (reply_from (after v p.1) s place) ≡ Some answer.Done =
        sym (ap (λ (b : Bool). option_or (cond b (answer_to v p.1) None) (reply_from (after v p.1) s place)) here) ∙ is in
        rests_all (after v p.1) s wait.1 (answered_rests v p.1 kind k (suspension_answers v p.1 _ kind first))
    one on false other =
        let wait = and_parts _ _ w in
        let later : reply_from (after v p.1) s place ≡ Some answer.Done =
        sym (ap (λ (b : Bool). option_or (cond b (answer_to v p.1) None) (reply_from (after v p.1) s place)) other) ∙ is in
        on wait.1 (and_parts _ _ a).1 (still_on v p.1 wait.0 k) later

hand_still : (v : ThreadView) (x : Entry) → is_hand_over x ≡ true → (is_running (after v x).mode ≡ false) × (answer_to v x ≡ None)
hand_still v Start h = cc
hand_still v (Own step) h = cc
hand_still v (Hand safe) h = (refl, refl)
hand_still v Back h = cc
hand_still v End h = (refl, refl)
hand_still v (Asked env n call) h = cc
hand_still v (Stop env) h = cc
hand_still v (Read env n) h = cc
hand_still v (Go env) h = cc

suspension_waits : (x : Entry) → is_suspension x ≡ true → (is_waiting_call x ≡ true) × (is_hand_over x ≡ false)
suspension_waits Start h = cc
suspension_waits (Own step) h = cc
suspension_waits (Hand safe) h = cc
suspension_waits Back h = cc
suspension_waits End h = cc
suspension_waits (Asked env n State) h = cc
suspension_waits (Asked env n FrameCount) h = (refl, refl)
suspension_waits (Asked env n (Trace start max_count)) h = (refl, refl)
suspension_waits (Asked env n (Location depth)) h = (refl, refl)
suspension_waits (Asked env n Suspend) h = (refl, refl)
suspension_waits (Asked env n Resume) h = cc
suspension_waits (Asked env n GetWord) h = cc
suspension_waits (Asked env n (SetWord word)) h = cc
suspension_waits (Asked env n Pop) h = (refl, refl)
suspension_waits (Stop env) h = cc
suspension_waits (Read env n) h = cc
suspension_waits (Go env) h = cc

-- what is kept of a prefix: only calls wait, and at the place of the suspension it alone
record Awaits (s : PlacedState) (place : ℕ) : Type 0 where
  calls : all_calls s.waiting ≡ true
  kind : suspends_at place s.waiting ≡ true

-- the entry that comes is the suspension, when it has its place
abbrev IsIt : PlacedState → Entry → ℕ → Type 0
IsIt s x place = cond (s.next == place) (is_suspension x) true ≡ true

awaits_on : (s : PlacedState) (x : Entry) (place : ℕ) → Awaits s place → IsIt s x place → Awaits (entered s x) place
awaits_on s x place k it = record {
  calls = calls_kept s x k.calls;
  kind = grind (arith, k.kind, it, list_all-append (λ (p : Placed). cond (p.0 == place) (is_suspension p.1) true) s.waiting ((s.next, x) ∷ []));
}

-- the entry with which the suspension is answered
answer_rests : (s : PlacedState) (x : Entry) (place : ℕ) → Awaits s place → IsIt s x place → reply_from s.view (settled_by s x) place ≡ Some answer.Done
    → rests (entered s x).view ≡ true
answer_rests s x place k it is = by_hand (is_hand_over x) refl
  where
    at_once : (b : Bool) → (s.next == place) ≡ b → (is_waiting_call x && is_running s.view.mode) ≡ false → reply_from s.view ((s.next, x) ∷ []) place ≡ Some answer.Done → rests (after s.view x) ≡ true
    at_once true here now told =
        let kind : is_suspension x ≡ true = sym (ap (λ (b : Bool). cond b (is_suspension x) true) here) ∙ it in
        let first : option_or (answer_to s.view x) None ≡ Some answer.Done = sym (ap (λ (b : Bool). option_or (cond b (answer_to s.view x) None) None) here) ∙ told in
        let wait = (suspension_waits x kind).0 in
        let still : is_running s.view.mode ≡ false = sym (ap (λ (b : Bool). b && is_running s.view.mode) wait) ∙ now in
        answered_rests s.view x kind still (suspension_answers s.view x None kind first)
    at_once false other now told =
        let none : None ≡ Some answer.Done = sym (ap (λ (b : Bool). option_or (cond b (answer_to s.view x) None) None) other) ∙ told in cc none

    by_hand : (b : Bool) → is_hand_over x ≡ b → rests (entered s x).view ≡ true
    by_hand true hand =
        let still = hand_still s.view x hand in
        let all : reply_from s.view ((s.next, x) ∷ s.waiting) place ≡ Some answer.Done =
        sym (ap (λ (b : Bool). reply_from s.view (cond b ((s.next, x) ∷ s.waiting) (cond (is_waiting_call x && is_running s.view.mode) [] ((s.next, x) ∷ []))) place) hand) ∙ is in
        let served : reply_from (after s.view x) s.waiting place ≡ Some answer.Done = grind (arith, all, still.1) in
        ap (λ (b : Bool). rests (cond b (after_all (after s.view x) s.waiting) (cond (is_waiting_call x && is_running s.view.mode) s.view (after s.view x)))) hand
        ∙ served_rests (after s.view x) s.waiting place k.calls k.kind still.0 served
    by_hand false none = by_wait (is_waiting_call x && is_running s.view.mode) refl
      where
        told : reply_from s.view (cond (is_waiting_call x && is_running s.view.mode) [] ((s.next, x) ∷ [])) place ≡ Some answer.Done
        told = sym (ap (λ (b : Bool). reply_from s.view (cond b ((s.next, x) ∷ s.waiting) (cond (is_waiting_call x && is_running s.view.mode) [] ((s.next, x) ∷ []))) place) none) ∙ is

        by_wait : (b : Bool) → (is_waiting_call x && is_running s.view.mode) ≡ b → rests (entered s x).view ≡ true
        by_wait true wait =
            let never : None ≡ Some answer.Done = sym (ap (λ (b : Bool). reply_from s.view (cond b [] ((s.next, x) ∷ [])) place) wait) ∙ told in cc never
        by_wait false now =
            ap (λ (b : Bool). rests (cond b (after_all (after s.view x) s.waiting) (cond (is_waiting_call x && is_running s.view.mode) s.view (after s.view x)))) none
            ∙ (ap (λ (b : Bool). rests (cond b s.view (after s.view x))) now
            ∙ at_once (s.next == place) refl now (sym (ap (λ (b : Bool). reply_from s.view (cond b [] ((s.next, x) ∷ [])) place) now) ∙ told))

-- how much of more is needed until the suspension is answered
record Until (limits : Limits) (before : List Entry) (place : ℕ) (more : List Entry) : Type 0 where
  until : List Entry
  later : List Entry
  parts : more ≡ until ++ later
  done : reply limits (before ++ until) place ≡ Some answer.Done
  still : rests (view limits (before ++ until)) ≡ true

not_it : (limits : Limits) (before : List Entry) (x : Entry) (place : ℕ) → place < length before → IsIt (placed_state limits before) x place
not_it limits before x place within = grind (arith, nat_tests, within)

snoc_rests : (limits : Limits) (before : List Entry) (x : Entry) (place : ℕ) → Awaits (placed_state limits before) place → IsIt (placed_state limits before) x place
    → reply limits before place ≡ None → reply limits (before ++ x ∷ []) place ≡ Some answer.Done → rests (view limits (before ++ x ∷ [])) ≡ true
snoc_rests limits before x place awaits it none is =
    let now : reply_from (view limits before) (settled_by (placed_state limits before) x) place ≡ Some answer.Done =
    ap (λ (o : Option Answer). option_or o (reply_from (view limits before) (settled_by (placed_state limits before) x) place)) (sym none) ∙ (sym (reply-snoc limits before x place) ∙ is) in
    ap (λ (s : PlacedState). rests s.view) (placed_state-snoc limits before x) ∙ answer_rests (placed_state limits before) x place awaits it now

awaits_snoc : (limits : Limits) (before : List Entry) (x : Entry) (place : ℕ) → Awaits (placed_state limits before) place → IsIt (placed_state limits before) x place
    → Awaits (placed_state limits (before ++ x ∷ [])) place
awaits_snoc limits before x place awaits it = subst (λ (s : PlacedState). Awaits s place) (sym (placed_state-snoc limits before x)) (awaits_on (placed_state limits before) x place awaits it)

holds_until : (limits : Limits) (before : List Entry) (place : ℕ) (more : List Entry) → Awaits (placed_state limits before) place → place < length before
    → (reply limits before place ≡ Some answer.Done → rests (view limits before) ≡ true) → reply limits (before ++ more) place ≡ Some answer.Done → Until limits before place more
holds_until limits before place [] awaits within now is = record {
  until = [];
  later = [];
  parts = refl;
  done = is;
  still = ap (λ (h : List Entry). rests (view limits h)) (append-nil before) ∙ now (ap (λ (h : List Entry). reply limits h place) (sym (append-nil before)) ∙ is);
}
holds_until limits before place (x ∷ more) awaits within now is = one (holds_until limits (before ++ x ∷ []) place more) (reply limits before place) refl
  where
    on : List Entry
    on = before ++ x ∷ []

    it : IsIt (placed_state limits before) x place
    it = not_it limits before x place within

    longer : place < length on
    longer = omega (arith, within, length-append before (x ∷ []))

    at_once : reply limits before place ≡ Some answer.Done → Until limits before place (x ∷ more)
    at_once told = record {
      until = [];
      later = x ∷ more;
      parts = refl;
      done = ap (λ (h : List Entry). reply limits h place) (append-nil before) ∙ told;
      still = ap (λ (h : List Entry). rests (view limits h)) (append-nil before) ∙ now told;
    }

    further : Until limits on place more → Until limits before place (x ∷ more)
    further next = record {
      until = x ∷ next.until;
      later = next.later;
      parts = ap (λ (l : List Entry). x ∷ l) next.parts;
      done = ap (λ (h : List Entry). reply limits h place) (sym (append_assoc before (x ∷ []) next.until)) ∙ next.done;
      still = ap (λ (h : List Entry). rests (view limits h)) (sym (append_assoc before (x ∷ []) next.until)) ∙ next.still;
    }

    one : (Awaits (placed_state limits on) place → place < length on → (reply limits on place ≡ Some answer.Done → rests (view limits on) ≡ true) → reply limits (on ++ more) place ≡ Some answer.Done → Until limits on place more)
        → (o : Option Answer) → reply limits before place ≡ o → Until limits before place (x ∷ more)
    one next (Some a) told =
        let same : Some a ≡ Some answer.Done = sym (reply_stays limits before (x ∷ more) place a told) ∙ is in
        at_once (told ∙ same)
    one next None told =
        further (next (awaits_snoc limits before x place awaits it) longer (snoc_rests limits before x place awaits it told)
        (ap (λ (h : List Entry). reply limits h place) (append_assoc before (x ∷ []) more) ∙ is))

-- what waits after any prefix is calls, at places before its end
record Queue (limits : Limits) (before : List Entry) : Type 0 where
  calls : all_calls (placed_state limits before).waiting ≡ true
  below : are_below (length before) (placed_state limits before).waiting ≡ true

queue_on : (limits : Limits) (before : List Entry) (x : Entry) → Queue limits before → Queue limits (before ++ x ∷ [])
queue_on limits before x k =
    let s = placed_state limits before in
    let on = placed_state-snoc limits before x in
    let longer : length before + 1 ≡ length (before ++ x ∷ []) = sym (length-append before (x ∷ [])) in
    record {
      calls = ap (λ (t : PlacedState). all_calls t.waiting) on ∙ calls_kept s x k.calls;
      below = ap (λ (t : PlacedState). are_below (length (before ++ x ∷ [])) t.waiting) on ∙ (ap (λ (n : ℕ). are_below n (entered s x).waiting) (sym longer) ∙ below_kept (length before) s x refl k.below);
    }

queue_all : (limits : Limits) (before more : List Entry) → Queue limits before → Queue limits (before ++ more)
queue_all limits before [] k = subst (Queue limits) (sym (append-nil before)) k
queue_all limits before (x ∷ more) k = subst (Queue limits) (append_assoc before (x ∷ []) more) (queue_all limits (before ++ x ∷ []) more (queue_on limits before x k))

none_there : (place : ℕ) (s : List Placed) → are_below place s ≡ true → suspends_at place s ≡ true
none_there place [] k = refl
none_there place (p ∷ s) k = grind (arith, nat_tests, none_there place s)

before_awaits : (limits : Limits) (before : List Entry) → Awaits (placed_state limits before) (length before)
before_awaits limits before =
    let k : Queue limits before = queue_all limits [] before (record { calls = refl; below = refl }) in
    record { calls = k.calls; kind = none_there (length before) (placed_state limits before).waiting k.below }

pub suspensions_take_hold : SuspensionsTakeHold
suspensions_take_hold limits before env number more is =
    let x = Asked env number Suspend in
    let asked = before ++ x ∷ [] in
    let awaits = before_awaits limits before in
    let it : IsIt (placed_state limits before) x (length before) = grind (arith, nat_tests) in
    let first = snoc_rests limits before x (length before) awaits it (reply_past limits before (length before) (omega arith)) in
    let within : length before < length asked = omega (arith, length-append before (x ∷ [])) in
    let found = holds_until limits asked (length before) more (awaits_snoc limits before x (length before) awaits it) within first is in
    record { until = found.until; later = found.later; parts = found.parts; done = found.done; still = found.still }

-- up to the answer the thread may run; after it, it rests
pub suspended_rest : SuspendedRest
suspended_rest limits before env number more legal is none =
    let hold = suspensions_take_hold limits before env number more is in
    let whole : suspending before env number more ≡ suspending before env number hold.until ++ hold.later =
    ap (suspending before env number) hold.parts ∙ sym (append_assoc (before ++ Asked env number Suspend ∷ []) hold.until hold.later) in
    let legal_parts : is_legal limits (suspending before env number hold.until ++ hold.later) ≡ true = ap (is_legal limits) (sym whole) ∙ legal in
    let none_later : list_any is_resumption hold.later ≡ false = later_none hold.until hold.later (ap (list_any is_resumption) (sym hold.parts) ∙ none) in
    ap (λ (h : List Entry). rests (view limits h)) whole ∙ (suspensions_stay limits (suspending before env number hold.until) hold.later legal_parts hold.still none_later).still
  where
    later_none : (xs ys : List Entry) → list_any is_resumption (xs ++ ys) ≡ false → list_any is_resumption ys ≡ false
    later_none [] ys none = none
    later_none (x ∷ xs) ys none = later_none xs ys (grind (arith, none))

pub suspended_traces_agree : SuspendedTracesAgree
suspended_traces_agree limits before env number more one two rest_one rest_two e f m n start max_count a b legal_one legal_two is none_one none_two pops is_one is_two =
    let whole = suspending before env number more in
    let legal : is_legal limits whole ≡ true = (and_parts _ _ (sym (goes_on-append limits [] whole one) ∙ legal_one)).0 in
    let rest = suspended_rest limits before env number more legal is (first_none more one none_one) in
    traces_agree limits whole one two rest_one rest_two e f m n start max_count a b legal_one legal_two rest (second_none more one none_one) (second_none more two none_two) pops is_one is_two
  where
    first_none : (xs ys : List Entry) → list_any is_resumption (xs ++ ys) ≡ false → list_any is_resumption xs ≡ false
    first_none [] ys none = refl
    first_none (x ∷ xs) ys none = let rest = first_none xs ys (grind (arith, none)) in grind (arith, none, rest)

    second_none : (xs ys : List Entry) → list_any is_resumption (xs ++ ys) ≡ false → list_any is_resumption ys ≡ false
    second_none [] ys none = none
    second_none (x ∷ xs) ys none = second_none xs ys (grind (arith, none))
