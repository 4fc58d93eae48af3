-- An environment's stop is a matter of its own entries, and what stays after a front that stands for it.
use Rattle.std.proofs.Common.{◌≡◌, ◌+◌, ◌==◌, Bool, true, false, cond, List, [], ◌∷◌, ◌++◌, refl, ap, sym, ◌∙◌, arith, append-nil, append_assoc, subst}
use Rattle.std.specs.Prelude.{ℕ, take, drop}
use Rattle.ti_types.specs.Frames.{bare_trace}
use Rattle.ti_types.specs.State.{bits_of}
use Rattle.ti_types.specs.declared.answer.Answer.TheVariants as answer
use Rattle.std.proofs.lemmas.List.{drop-drop}
use Rattle.std.specs.List.{fold, list_all}
use Rattle.std.proofs.lemmas.Bool.{and_parts}
use Rattle.std.proofs.lemmas.Bool.Decides.{nat_tests}
use Rattle.ti_types.specs.declared.limits.Limits.{Limits}
use Rattle.ti_types.specs.declared.numbers.EnvNo.{EnvNo}
use Rattle.ti_types.specs.declared.entry.Entry.{Entry}
use Rattle.ti_types.specs.declared.entry.Entry.TheVariants.{Start, Own, Hand, Back, End, Asked, Stop, Read, Go}
use Rattle.ti_replay.specs.Settling.{is_waiting_call}
use Rattle.ti_types.specs.declared.call.Call.TheVariants.{State, FrameCount, Trace, Location, Suspend, Resume, GetWord, SetWord, Pop}
use Rattle.ti_replay.specs.Answers.{is_running, or_zero}
use Rattle.ti_replay.specs.View.{view, after}
use Rattle.ti_replay.specs.Legal.{is_legal, is_stopper}
use Rattle.ti_replay.specs.HistoryState.{HistoryState, history_state}
use Rattle.ti_replay.proofs.NextStates.{next_state, allows, allows_all}
use Rattle.ti_replay.specs.Makers.{maker, made_by}
use Rattle.ti_replay.specs.Standing.{is_own_entry, is_go_of, is_still}
use Rattle.ti_replay.proofs.BoundLaws.{all_quiet, called_stopper}
use Rattle.ti_replay.proofs.CostLaws.{goes_on-append}
use Rattle.ti_replay.proofs.HistoryStateLaws.{history_state-append, history_state-snoc, goes_on-allows}
use Rattle.ti_replay.proofs.StandingLaws.{stands_still}
use Rattle.ti_replay.proofs.StopLaws.{call_frames}
use Rattle.ti_replay.proofs.MakerLaws.{calls_step}
use Rattle.ti_replay.proofs.AloneLaws.{others_leave}
use Rattle.ti_replay.specs.Fronts.{stops_after, StopsAreOwn, lets_go, frames_popped, popped_behind, FrontsStay, FrontsStayByOwn, FrontsTell}

stop_step : (limits : Limits) (s : HistoryState) (x : Entry) (env : EnvNo) → list_all is_waiting_call s.waiting ≡ true → allows limits s x ≡ true
    → is_stopper (next_state s x).view.stopper env ≡ stops_after env (is_stopper s.view.stopper env) x
stop_step limits s Start env w a = refl
stop_step limits s (Own step) env w a = refl
stop_step limits s (Hand safe) env w a = ap (λ o. is_stopper o env) (all_quiet (after s.view (Hand safe)) s.waiting w).stopper
stop_step limits s Back env w a = refl
stop_step limits s End env w a = ap (λ o. is_stopper o env) (all_quiet (after s.view End) s.waiting w).stopper
stop_step limits s (Asked other number call) env w a = grind (arith, called_stopper s.view other call)
stop_step limits s (Stop other) env w a = grind (arith, nat_tests, a)
stop_step limits s (Read other n) env w a = refl
stop_step limits s (Go other) env w a = grind (arith, nat_tests, a)

stop_run : (limits : Limits) (s : HistoryState) (history : List Entry) (env : EnvNo) → list_all is_waiting_call s.waiting ≡ true → allows_all limits s history ≡ true
    → is_stopper (fold next_state s history).view.stopper env ≡ fold (stops_after env) (is_stopper s.view.stopper env) history
stop_run limits s [] env w a = refl
stop_run limits s (x ∷ history) env w a =
    let here : allows limits s x ≡ true = grind arith in
    let there : allows_all limits (next_state s x) history ≡ true = grind arith in
    stop_run limits (next_state s x) history env (calls_step s x w) there ∙ ap (λ b. fold (stops_after env) b history) (stop_step limits s x env w here)

-- another's entry changes nothing
other_stop : (env : EnvNo) (b : Bool) (x : Entry) → (maker x == env.0 + 1) ≡ false → stops_after env b x ≡ b
other_stop env b Start h = refl
other_stop env b (Own step) h = refl
other_stop env b (Hand safe) h = refl
other_stop env b Back h = refl
other_stop env b End h = refl
other_stop env b (Asked other n call) h = refl
other_stop env b (Stop other) h = grind (arith, h)
other_stop env b (Read other n) h = refl
other_stop env b (Go other) h = grind (arith, h)

own_stops : (env : EnvNo) (b : Bool) (history : List Entry) → fold (stops_after env) b history ≡ fold (stops_after env) b (made_by (env.0 + 1) history)
own_stops env b [] = refl
own_stops env b (x ∷ history) = one (λ (c : Bool). own_stops env c history) (maker x == env.0 + 1) refl
  where
    one : ((c : Bool) → fold (stops_after env) c history ≡ fold (stops_after env) c (made_by (env.0 + 1) history)) → (t : Bool) → (maker x == env.0 + 1) ≡ t → fold (stops_after env) (stops_after env b x) history ≡ fold (stops_after env) b (cond (maker x == env.0 + 1) (x ∷ made_by (env.0 + 1) history) (made_by (env.0 + 1) history))
    one rest true is = rest (stops_after env b x) ∙ ap (λ (t : Bool). fold (stops_after env) b (cond t (x ∷ made_by (env.0 + 1) history) (made_by (env.0 + 1) history))) (sym is)
    one rest false is =
        ap (λ (z : Bool). fold (stops_after env) z history) (other_stop env b x is)
        ∙ (rest b ∙ ap (λ (t : Bool). fold (stops_after env) b (cond t (x ∷ made_by (env.0 + 1) history) (made_by (env.0 + 1) history))) (sym is))

pub stops_are_own : StopsAreOwn
stops_are_own limits env history legal =
    let all : allows_all limits (history_state limits []) history ≡ true = sym (goes_on-allows limits [] history) ∙ legal in
    ap (λ (s : HistoryState). is_stopper s.view.stopper env) (history_state-append limits [] history)
    ∙ (stop_run limits (history_state limits []) history env refl all ∙ own_stops env false history)

-- After a front that stands

own_is_made : (x : Entry) → is_own_entry x ≡ (maker x == 0)
own_is_made Start = refl
own_is_made (Own step) = refl
own_is_made (Hand safe) = refl
own_is_made Back = refl
own_is_made End = refl
own_is_made (Asked env n call) = grind arith
own_is_made (Stop env) = grind arith
own_is_made (Read env n) = grind arith
own_is_made (Go env) = grind arith

none_own : (env : EnvNo) (more : List Entry) → is_still env more ≡ true → lets_go env more ≡ false → made_by 0 more ≡ []
none_own env [] still stays = refl
none_own env (x ∷ more) still stays =
    let go : is_go_of env x ≡ false = grind arith in
    let rest : lets_go env more ≡ false = grind arith in
    let own : is_own_entry x ≡ false = grind (arith, go) in
    let later : is_still env more ≡ true = grind (arith, go) in
    let other : (maker x == 0) ≡ false = sym (own_is_made x) ∙ own in
    ap (λ (b : Bool). cond b (x ∷ made_by 0 more) (made_by 0 more)) other ∙ none_own env more later rest

stays_stopped : (env : EnvNo) (more : List Entry) → lets_go env more ≡ false → fold (stops_after env) true more ≡ true
stays_stopped env [] stays = refl
stays_stopped env (x ∷ more) stays =
    let go : is_go_of env x ≡ false = grind arith in
    let rest : lets_go env more ≡ false = grind arith in
    ap (λ (b : Bool). fold (stops_after env) b more) (one x go) ∙ stays_stopped env more rest
  where
    one : (x : Entry) → is_go_of env x ≡ false → stops_after env true x ≡ true
    one Start h = refl
    one (Own step) h = refl
    one (Hand safe) h = refl
    one Back h = refl
    one End h = refl
    one (Asked other n call) h = refl
    one (Stop other) h = grind arith
    one (Read other n) h = refl
    one (Go other) h = grind (arith, h)

-- what comes after a legal front may come at its state
comes : (limits : Limits) (front more : List Entry) → is_legal limits (front ++ more) ≡ true → allows_all limits (history_state limits front) more ≡ true
comes limits front more legal = sym (goes_on-allows limits front more) ∙ (and_parts _ _ (sym (goes_on-append limits [] front more) ∙ legal)).1

waiting_calls : (limits : Limits) (s : HistoryState) (history : List Entry) → list_all is_waiting_call s.waiting ≡ true → list_all is_waiting_call (fold next_state s history).waiting ≡ true
waiting_calls limits s [] w = w
waiting_calls limits s (x ∷ history) w = waiting_calls limits (next_state s x) history (calls_step s x w)

calls_of : (limits : Limits) (history : List Entry) → list_all is_waiting_call (history_state limits history).waiting ≡ true
calls_of limits history = subst (λ (s : HistoryState). list_all is_waiting_call s.waiting ≡ true) (sym (history_state-append limits [] history)) (waiting_calls limits (history_state limits []) history refl)

-- what one entry of another takes away from a thread that does not run
entry_frames : (limits : Limits) (front : List Entry) (x : Entry) → (maker x == 0) ≡ false → is_running (view limits front).mode ≡ false
    → (view limits (front ++ x ∷ [])).frames ≡ drop (frames_popped limits front x) (view limits front).frames
entry_frames limits front x other rests =
    ap (λ (s : HistoryState). s.view.frames) (history_state-snoc limits front x) ∙ one x other
  where
    s : HistoryState
    s = history_state limits front

    one : (x : Entry) → (maker x == 0) ≡ false → (next_state s x).view.frames ≡ drop (frames_popped limits front x) s.view.frames
    one Start h = cc
    one (Own step) h = cc
    one (Hand safe) h = cc
    one Back h = cc
    one End h = cc
    one (Asked env n State) h = refl
    one (Asked env n FrameCount) h = grind (arith, rests)
    one (Asked env n (Trace start max_count)) h = grind (arith, rests)
    one (Asked env n (Location depth)) h = grind (arith, rests)
    one (Asked env n Suspend) h = grind (arith, rests)
    one (Asked env n Resume) h = grind (arith, rests)
    one (Asked env n GetWord) h = refl
    one (Asked env n (SetWord word)) h = grind (arith, rests)
    one (Asked env n Pop) h = grind (arith, rests) ∙ call_frames s.view env Pop
    one (Stop env) h = refl
    one (Read env n) h = refl
    one (Go env) h = refl

-- and what others take away one after another
frames_behind : (limits : Limits) (front more : List Entry) → made_by 0 more ≡ [] → is_running (view limits front).mode ≡ false
    → (view limits (front ++ more)).frames ≡ drop (popped_behind limits front more) (view limits front).frames
frames_behind limits front [] none rests = ap (λ (h : List Entry). (view limits h).frames) (append-nil front)
frames_behind limits front (x ∷ more) none rests =
    let k = none_own_first x more none (maker x == 0) refl in
    let still : is_running (view limits (front ++ x ∷ [])).mode ≡ false = ap is_running (others_leave limits front (x ∷ []) [] k.2).mode ∙ rests in
    ap (λ (h : List Entry). (view limits h).frames) (sym (append_assoc front (x ∷ []) more))
    ∙ (frames_behind limits (front ++ x ∷ []) more k.1 still
    ∙ (ap (drop (popped_behind limits (front ++ x ∷ []) more)) (entry_frames limits front x k.0 rests)
    ∙ drop-drop (popped_behind limits (front ++ x ∷ []) more) (frames_popped limits front x) (view limits front).frames))
  where
    none_own_first : (x : Entry) (more : List Entry) → made_by 0 (x ∷ more) ≡ [] → (b : Bool) → (maker x == 0) ≡ b → ((maker x == 0) ≡ false) × (made_by 0 more ≡ []) × (made_by 0 (x ∷ []) ≡ [])
    none_own_first x more none true is = let e : x ∷ made_by 0 more ≡ [] = sym (ap (λ (b : Bool). cond b (x ∷ made_by 0 more) (made_by 0 more)) is) ∙ none in cc
    none_own_first x more none false is =
        (is, sym (ap (λ (b : Bool). cond b (x ∷ made_by 0 more) (made_by 0 more)) is) ∙ none, ap (λ (b : Bool). cond b (x ∷ []) []) is)

-- what is popped after a front is what is popped in a first part, and after that in the rest
pops_add_up : (limits : Limits) (front more rest : List Entry) → popped_behind limits front (more ++ rest) ≡ popped_behind limits front more + popped_behind limits (front ++ more) rest
pops_add_up limits front [] rest =
    let whole = ap (λ (h : List Entry). popped_behind limits h rest) (append-nil front) in
    omega (arith, whole)
pops_add_up limits front (x ∷ more) rest =
    let later = pops_add_up limits (front ++ x ∷ []) more rest in
    let whole = ap (λ (h : List Entry). popped_behind limits h rest) (append_assoc front (x ∷ []) more) in
    omega (arith, later, whole)

pub fronts_tell : FrontsTell
fronts_tell limits env front more rest max_count a still tells =
    let first = (view limits front).frames in
    let frames : drop (popped_behind limits (front ++ more) rest) (view limits (front ++ more)).frames ≡ drop (popped_behind limits front (more ++ rest)) first =
    ap (drop (popped_behind limits (front ++ more) rest)) still.frames
    ∙ (drop-drop (popped_behind limits (front ++ more) rest) (popped_behind limits front more) first ∙ ap (λ (n : ℕ). drop n first) (sym (pops_add_up limits front more rest))) in
    (tells.0, tells.1 ∙ (λ i. answer.Stack (bits_of (still.mode i) tells.0) (bare_trace (take (or_zero max_count) (frames i)))))

pub front_stays : FrontsStay
front_stays limits env front more legal stands stays =
    let still : is_still env more ≡ true = stands_still limits front more env legal stands in
    let none = none_own env more still stays in
    let left = others_leave limits front more [] none in
    let parts = and_parts _ _ stands in
    let stopped : is_stopper (view limits (front ++ more)).stopper env ≡ true =
    ap (λ (s : HistoryState). is_stopper s.view.stopper env) (history_state-append limits front more)
    ∙ (stop_run limits (history_state limits front) more env (calls_of limits front) (comes limits front more legal)
    ∙ (ap (λ (b : Bool). fold (stops_after env) b more) parts.0 ∙ stays_stopped env more stays)) in
    record {
      none = none;
      stands = grind (arith, stopped, left.mode, parts.1);
      mode = left.mode;
      frames = frames_behind limits front more none (grind (arith, parts.1));
    }

-- whom an environment lets go is a matter of its own entries
own_goes : (env : EnvNo) (more : List Entry) → lets_go env more ≡ lets_go env (made_by (env.0 + 1) more)
own_goes env [] = refl
own_goes env (x ∷ more) = one (own_goes env more) (maker x == env.0 + 1) refl
  where
    other : (x : Entry) → (maker x == env.0 + 1) ≡ false → is_go_of env x ≡ false
    other Start h = refl
    other (Own step) h = refl
    other (Hand safe) h = refl
    other Back h = refl
    other End h = refl
    other (Asked e n call) h = refl
    other (Stop e) h = refl
    other (Read e n) h = refl
    other (Go e) h = grind (arith, nat_tests, h)

    one : lets_go env more ≡ lets_go env (made_by (env.0 + 1) more) → (b : Bool) → (maker x == env.0 + 1) ≡ b → lets_go env (x ∷ more) ≡ lets_go env (cond (maker x == env.0 + 1) (x ∷ made_by (env.0 + 1) more) (made_by (env.0 + 1) more))
    one rest true is = grind (arith, rest) ∙ ap (λ (b : Bool). lets_go env (cond b (x ∷ made_by (env.0 + 1) more) (made_by (env.0 + 1) more))) (sym is)
    one rest false is = grind (arith, rest, other x is) ∙ ap (λ (b : Bool). lets_go env (cond b (x ∷ made_by (env.0 + 1) more) (made_by (env.0 + 1) more))) (sym is)

pub front_stays_by_own : FrontsStayByOwn
front_stays_by_own limits env front history legal stands later stays =
    front_stays limits env front later.0 (subst (λ (l : List Entry). is_legal limits l ≡ true) later.1 legal) stands (own_goes env later.0 ∙ stays)
