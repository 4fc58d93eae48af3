-- Only a thread's own steps add frames.
use Rattle.std.proofs.Common.{◌≡◌, ℕ, ◌≤◌, ◌==◌, Bool, true, false, cond, if◌then◌else◌, List, [], ◌∷◌, ◌++◌, length, length-drop, drop, refl, ap, sym, ◌∙◌, subst, arith}
use Rattle.std.specs.List.{fold, list_all}
use Rattle.std.proofs.lemmas.List.Folds.{list_all-append}
use Rattle.ti_types.specs.declared.limits.Limits.{Limits}
use Rattle.ti_types.specs.declared.numbers.EnvNo.{EnvNo}
use Rattle.ti_types.specs.declared.call.Call.{Call}
use Rattle.ti_types.specs.declared.place.Frame.{Frame}
use Rattle.ti_types.specs.declared.state.Safe.{Safe}
use Rattle.ti_types.specs.declared.entry.Entry.{Entry}
use Rattle.ti_types.specs.declared.entry.Entry.TheVariants.{Start, Own, Hand, Back, End, Asked, Stop, Read, Go}
use Rattle.ti_types.specs.declared.view.ThreadView.{ThreadView}
use Rattle.ti_replay.specs.Settling.{is_waiting_call}
use Rattle.ti_replay.specs.View.{view, called, after}
use Rattle.ti_replay.specs.HistoryState.{HistoryState, history_state}
use Rattle.ti_replay.specs.Makers.{maker, made_by, StartsWith}
use Rattle.ti_replay.proofs.AloneLaws.{made-append}
use Rattle.ti_replay.proofs.HistoryStateLaws.{history_state-append, history_state-snoc}
use Rattle.ti_replay.proofs.NextStates.{next_state, is_put_off}
use Rattle.ti_replay.proofs.StopLaws.{call_frames}

fewer_by : (n : ℕ) (xs ys : List Frame) → ys ≡ drop n xs → length ys ≤ length xs
fewer_by n xs ys e = omega (arith, ap (λ (l : List Frame). length l) e, length-drop n xs)

called_fewer : (v : ThreadView) (e : EnvNo) (call : Call) → length (called v e call).frames ≤ length v.frames
called_fewer v e call = fewer_by _ v.frames (called v e call).frames (call_frames v e call)

either_fewer : (b : Bool) (v w : ThreadView) → length w.frames ≤ length v.frames → length (if b then v else w).frames ≤ length v.frames
either_fewer true v w h = omega arith
either_fewer false v w h = h

-- an entry of another
other_fewer : (s : HistoryState) (x : Entry) → (maker x == 0) ≡ false → length (next_state s x).view.frames ≤ length s.view.frames
other_fewer s Start h = cc
other_fewer s (Own step) h = cc
other_fewer s (Hand safe) h = cc
other_fewer s Back h = cc
other_fewer s End h = cc
other_fewer s (Asked env n call) h = either_fewer (is_put_off s (Asked env n call)) s.view (called s.view env call) (called_fewer s.view env call)
other_fewer s (Stop env) h = omega arith
other_fewer s (Read env n) h = omega arith
other_fewer s (Go env) h = omega arith

none_own : (x : Entry) (more : List Entry) → made_by 0 (x ∷ more) ≡ [] → (b : Bool) → (maker x == 0) ≡ b → ((maker x == 0) ≡ false) × (made_by 0 more ≡ [])
none_own x more none true is = let e : x ∷ made_by 0 more ≡ [] = sym (ap (λ (b : Bool). cond b (x ∷ made_by 0 more) (made_by 0 more)) is) ∙ none in cc
none_own x more none false is = (is, sym (ap (λ (b : Bool). cond b (x ∷ made_by 0 more) (made_by 0 more)) is) ∙ none)

others_fewer : (s : HistoryState) (more : List Entry) → made_by 0 more ≡ [] → length (fold next_state s more).view.frames ≤ length s.view.frames
others_fewer s [] none = omega arith
others_fewer s (x ∷ more) none =
    let k = none_own x more none (maker x == 0) refl in
    omega (arith, others_fewer (next_state s x) more k.1, other_fewer s x k.0)

pub frames_left : (limits : Limits) (old more : List Entry) → made_by 0 more ≡ [] → length (view limits (old ++ more)).frames ≤ length (view limits old).frames
frames_left limits old more none =
    subst (λ (s : HistoryState). length s.view.frames ≤ length (view limits old).frames) (sym (history_state-append limits old more)) (others_fewer (history_state limits old) more none)

-- the calls that wait for a hand-over
waiting_fewer_one : (v : ThreadView) (x : Entry) → is_waiting_call x ≡ true → length (after v x).frames ≤ length v.frames
waiting_fewer_one v Start h = cc
waiting_fewer_one v (Own step) h = cc
waiting_fewer_one v (Hand safe) h = cc
waiting_fewer_one v Back h = cc
waiting_fewer_one v End h = cc
waiting_fewer_one v (Asked env n call) h = called_fewer v env call
waiting_fewer_one v (Stop env) h = cc
waiting_fewer_one v (Read env n) h = cc
waiting_fewer_one v (Go env) h = cc

waiting_fewer : (v : ThreadView) (w : List Entry) → list_all is_waiting_call w ≡ true → length (fold after v w).frames ≤ length v.frames
waiting_fewer v [] h = omega arith
waiting_fewer v (x ∷ w) h =
    let here : is_waiting_call x ≡ true = grind arith in
    let there : list_all is_waiting_call w ≡ true = grind arith in
    omega (arith, waiting_fewer (after v x) w there, waiting_fewer_one v x here)

all_wait_on : (s : HistoryState) (x : Entry) → list_all is_waiting_call s.waiting ≡ true → list_all is_waiting_call (next_state s x).waiting ≡ true
all_wait_on s x k = grind (arith, k, list_all-append is_waiting_call s.waiting (x ∷ []))

all_wait_after : (s : HistoryState) (history : List Entry) → list_all is_waiting_call s.waiting ≡ true → list_all is_waiting_call (fold next_state s history).waiting ≡ true
all_wait_after s [] k = k
all_wait_after s (x ∷ history) k = all_wait_after (next_state s x) history (all_wait_on s x k)

all_wait : (limits : Limits) (history : List Entry) → list_all is_waiting_call (history_state limits history).waiting ≡ true
all_wait limits history =
    subst (λ (s : HistoryState). list_all is_waiting_call s.waiting ≡ true) (sym (history_state-append limits [] history)) (all_wait_after (history_state limits []) history refl)

-- at a hand-over
pub frames_handed : (limits : Limits) (history : List Entry) (safe : Safe) → length (view limits (history ++ Hand safe ∷ [])).frames ≤ length (view limits history).frames
frames_handed limits history safe =
    subst (λ (s : HistoryState). length s.view.frames ≤ length (view limits history).frames) (sym (history_state-snoc limits history (Hand safe)))
    (waiting_fewer (after (view limits history) (Hand safe)) (history_state limits history).waiting (all_wait limits history))

-- as the thread starts or returns
pub frames_back : (limits : Limits) (history : List Entry) → (view limits (history ++ Back ∷ [])).frames ≡ (view limits history).frames
frames_back limits history = ap (λ (s : HistoryState). s.view.frames) (history_state-snoc limits history Back)

pub frames_start : (limits : Limits) (history : List Entry) → (view limits (history ++ Start ∷ [])).frames ≡ (view limits history).frames
frames_start limits history = ap (λ (s : HistoryState). s.view.frames) (history_state-snoc limits history Start)

nothing_more : (xs ys : List Entry) → xs ≡ xs ++ ys → ys ≡ []
nothing_more [] ys e = sym e
nothing_more (x ∷ xs) ys e = nothing_more xs ys (cc e)

-- where nothing of the thread's own came since
pub frames_seen : (limits : Limits) (seen history : List Entry) (s : StartsWith history seen) → made_by 0 seen ≡ made_by 0 history → length (view limits history).frames ≤ length (view limits seen).frames
frames_seen limits seen history s e =
    let none : made_by 0 s.0 ≡ [] = nothing_more (made_by 0 seen) (made_by 0 s.0) (e ∙ (ap (made_by 0) s.1 ∙ made-append 0 seen s.0)) in
    subst (λ (h : List Entry). length (view limits h).frames ≤ length (view limits seen).frames) (sym s.1) (frames_left limits seen s.0 none)
