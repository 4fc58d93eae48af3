-- No frame comes back to a thread that it did not hand over: turn by turn.
use Rattle.std.proofs.Common.{◌≡◌, ℕ, ◌≤◌, ◌⊎◌, inl, inr, List, [], ◌∷◌, ◌++◌, length, append-nil, append_assoc, refl, ap, sym, ◌∙◌, subst, arith}
use Rattle.std.proofs.lemmas.List.{append_cancel_right}
use Rattle.ti_types.specs.declared.error.TiError.{TiError}
use Rattle.ti_types.specs.declared.entry.Entry.{Entry}
use Rattle.ti_types.specs.declared.entry.Entry.TheVariants.{Start, Own, Hand, Back}
use Rattle.ti_types.specs.declared.error.TiError.TheVariants.{Busy, NotNew, NotRunning, NotSafe}
use Rattle.ti_types.specs.declared.state.Safe.{Safe as Manner}
use Rattle.ti_types.specs.declared.state.Safe.TheVariants.{Native as IntoNative, Blocked as IntoBlocked, AtPoll}
use Rattle.ti_types.specs.declared.step.Step.{Step}
use Rattle.ti_replay.specs.LateTickets.{steps_of}
use Rattle.ti_replay.specs.Makers.{made_by}
use Rattle.ti_replay.specs.View.{view}
use Rattle.ti_replay.proofs.AloneLaws.{left_alone, made-append}
use Rattle.ti_cell.specs.Seats.{Sitting}
use Rattle.ti_cell.specs.declared.view.View.{View}
use Rattle.ti_handshake.specs.Call.{Holds, found}
use Rattle.ti_handshake.specs.Polls.{IsClear, HasGone}
use Rattle.ti_handshake.specs.Thread.{IsRunning, Runner, logged}
use Rattle.ti_handshake.specs.Tries.{StaysBarred, RunsOn}
use Rattle.ti_thread.specs.Hosts.{Takes, count_or, given_by}
use Rattle.ti_thread.specs.Laws.{HasAtMost, IsWell, LeavesAtMost, NewIsCounted, TurnsAreCounted}
use Rattle.ti_thread.specs.Turns.{EndsFrom, HandsOverFrom, IsUnfit, PollsFrom, ReturnsFrom, StartsFrom}
use Rattle.ti_thread.specs.declared.any_thread.AnyThread.{AnyThread}
use Rattle.ti_thread.specs.declared.any_thread.AnyThread.TheVariants.{Fresh, Running, Safe, Ended}
use Rattle.ti_thread.specs.declared.any_thread.TurnOutcome.{TurnOutcome}
use Rattle.ti_thread.specs.declared.any_thread.TurnOutcome.TheVariants.{Done, Held, Popped, Refused}
use Rattle.ti_thread.specs.declared.turn.Turn.{Turn}
use Rattle.ti_thread.specs.declared.turn.Turn.TheVariants as turn
use Rattle.ti_thread.proofs.FewerLaws.{frames_back, frames_handed, frames_left, frames_seen, frames_start}

own_made : (steps : List Step) (tail : List Entry) → made_by 0 tail ≡ tail → made_by 0 (steps_of steps ++ tail) ≡ steps_of steps ++ tail
own_made [] tail e = e
own_made (x ∷ steps) tail e = ap (λ (l : List Entry). Own x ∷ l) (own_made steps tail e)

-- the history that a hold found has no further entry of the thread's own
home_again : (old new : View) (more : List Entry) → Holds old new more → old.number ≡ 0 → old.mine ≡ made_by 0 old.seen → made_by 0 more ≡ more → made_by 0 old.seen ≡ made_by 0 (found old new)
home_again old new more k owner whole own =
    let a : new.mine ≡ made_by 0 new.seen = k.waits.goes.whole ∙ ap (λ (n : ℕ). made_by n new.seen) owner in
    let b : made_by 0 new.seen ≡ made_by 0 (found old new) ++ more =
    ap (made_by 0) k.waits.last ∙ (made-append 0 (found old new) more ∙ ap (λ (l : List Entry). made_by 0 (found old new) ++ l) own) in
    append_cancel_right (made_by 0 old.seen) (made_by 0 (found old new)) more (ap (λ (l : List Entry). l ++ more) (sym whole) ∙ (sym k.waits.mine ∙ (a ∙ b)))

left_with : (n : ℕ) (old new : View) (more : List Entry) → Holds old new more → old.number ≡ 0 → length (view old.subject.limits new.seen).frames ≤ n → LeavesAtMost n new
left_with n old new more k owner few =
    record {
      owner = k.waits.goes.number ∙ owner;
      whole = k.waits.goes.whole ∙ ap (λ (i : ℕ). made_by i new.seen) owner;
      few = subst (λ x. length (view x.limits new.seen).frames ≤ n) (sym k.waits.goes.subject) few;
    }

-- a thread that does not run, after a hold that added nothing
still : (n : ℕ) (old new : View) → LeavesAtMost n old → Holds old new [] → LeavesAtMost n new
still n old new k h =
    let l = old.subject.limits in
    let seen : new.seen ≡ found old new = h.waits.last ∙ append-nil (found old new) in
    let fewer = frames_seen l old.seen (found old new) h.waits.here (home_again old new [] h k.owner k.whole refl) in
    let few : length (view l (found old new)).frames ≤ n = omega (arith, fewer, k.few) in
    left_with n old new [] h k.owner (subst (λ (z : List Entry). length (view l z).frames ≤ n) (sym seen) few)

running_frames : (r : Runner) → IsRunning r → r.steps ≡ [] → r.frames ≡ (view r.view.subject.limits r.view.seen).frames
running_frames r k none =
    k.frames ∙ (ap (λ (steps : List Step). (view r.view.subject.limits (logged r.view.seen steps)).frames) none ∙ ap (λ (z : List Entry). (view r.view.subject.limits z).frames) (append-nil r.view.seen))

-- it runs
came : (n : ℕ) (old : View) (r : Runner) (x : Entry) → LeavesAtMost n old → IsRunning r → r.steps ≡ [] → Holds old r.view (x ∷ []) → made_by 0 (x ∷ []) ≡ x ∷ []
    → ((history : List Entry) → (view old.subject.limits (history ++ x ∷ [])).frames ≡ (view old.subject.limits history).frames) → length r.frames ≤ n
came n old r x k runs none h own same =
    let l = old.subject.limits in
    let f = found old r.view in
    let fewer = frames_seen l old.seen f h.waits.here (home_again old r.view (x ∷ []) h k.owner k.whole own) in
    let frames : r.frames ≡ (view l f).frames = running_frames r runs none ∙ ((λ i. (view (h.waits.goes.subject i).limits (h.waits.last i)).frames) ∙ same f) in
    omega (arith, ap length frames, fewer, k.few)

-- the frames of a running thread, in the history that it finds
at_steps : (r : Runner) (new : View) (more : List Entry) → IsRunning r → Holds r.view new more → made_by 0 more ≡ more
    → (view r.view.subject.limits (logged (found r.view new) r.steps)).frames ≡ r.frames
at_steps r new more k h own =
    (left_alone r.view.subject.limits r.view.seen (found r.view new) r.steps h.waits.here (home_again r.view new more h k.owner k.whole own)).frames k.runs ∙ sym k.frames

-- it hands over
handed : (n : ℕ) (r : Runner) (new : View) (m : Manner) → IsRunning r → length r.frames ≤ n → Holds r.view new (steps_of r.steps ++ Hand m ∷ []) → LeavesAtMost n new
handed n r new m k few h =
    let l = r.view.subject.limits in
    let f = logged (found r.view new) r.steps in
    let same = at_steps r new (steps_of r.steps ++ Hand m ∷ []) k h (own_made r.steps (Hand m ∷ []) refl) in
    let seen : new.seen ≡ f ++ Hand m ∷ [] = h.waits.last ∙ sym (append_assoc (found r.view new) (steps_of r.steps) (Hand m ∷ [])) in
    let left : length (view l (f ++ Hand m ∷ [])).frames ≤ n = omega (arith, frames_handed l f m, ap length same, few) in
    left_with n r.view new (steps_of r.steps ++ Hand m ∷ []) h k.owner (subst (λ (z : List Entry). length (view l z).frames ≤ n) (sym seen) left)

-- it hands over at a poll, and returns at once
gone : (r t : Runner) → IsRunning r → IsRunning t → HasGone r t → length t.frames ≤ length r.frames
gone r t k w g =
    let l = r.view.subject.limits in
    let h = g.hold in
    let tail : List Entry = Hand AtPoll ∷ Back ∷ [] in
    let f = logged (found r.view t.view) r.steps in
    let same = at_steps r t.view (steps_of r.steps ++ tail) k h (own_made r.steps tail refl) in
    let seen : t.view.seen ≡ (f ++ Hand AtPoll ∷ []) ++ Back ∷ [] =
    h.waits.last ∙ (sym (append_assoc (found r.view t.view) (steps_of r.steps) tail) ∙ sym (append_assoc f (Hand AtPoll ∷ []) (Back ∷ []))) in
    let frames : t.frames ≡ (view l (f ++ Hand AtPoll ∷ [])).frames =
    running_frames t w g.steps ∙ ((λ i. (view (h.waits.goes.subject i).limits (seen i)).frames) ∙ frames_back l (f ++ Hand AtPoll ∷ [])) in
    omega (arith, ap length frames, frames_handed l f AtPoll, ap length same)

unfit : (n : ℕ) (e : TiError) (old new : AnyThread) (told : TurnOutcome) → HasAtMost n old → IsUnfit e old new told → HasAtMost n new
unfit n e old new told k u = subst (λ (t : AnyThread). HasAtMost n t) (sym u.0) k

stays : (n : ℕ) (x : Entry) (old t : Sitting) (e : TiError) → LeavesAtMost n old.view → ((e ≡ Busy) × (t ≡ old)) ⊎ StaysBarred x old t e → LeavesAtMost n t.view
stays n x old t e k (inl busy) = subst (λ (s : Sitting). LeavesAtMost n s.view) (sym busy.1) k
stays n x old t e k (inr barred) = still n old.view t.view k barred.hold

runs_on : (n : ℕ) (x : Entry) (old t : Runner) (e : TiError) → length old.frames ≤ n → ((e ≡ Busy) × (t ≡ old)) ⊎ RunsOn x old t e → length t.frames ≤ n
runs_on n x old t e few (inl busy) = subst (λ (r : Runner). length r.frames ≤ n) (sym busy.1) few
runs_on n x old t e few (inr on) = subst (λ (r : Runner). length r.frames ≤ n) (sym on.thread) few

goes_on : (n : ℕ) (old t : Runner) → IsRunning old → IsRunning t → length old.frames ≤ n → IsClear old t ⊎ HasGone old t → length t.frames ≤ n
goes_on n old t k w few (inl clear) = subst (λ (r : Runner). length r.frames ≤ n) (sym clear.thread) few
goes_on n old t k w few (inr g) = omega (arith, gone old t k w g, few)

starts : (n : ℕ) (old : Sitting) (new : AnyThread) (told : TurnOutcome) → LeavesAtMost n old.view → IsWell new → StartsFrom old new told → HasAtMost n new
starts n old (Fresh t) Done k w h = absurd h
starts n old (Fresh t) Held k w h = absurd h
starts n old (Fresh t) (Refused e) k w h = stays n Start old t e k h.1
starts n old (Fresh t) Popped k w h = absurd h
starts n old (Running t) Done k w h = (w, came n old.view t Start k w h.3 h.1 refl (frames_start old.view.subject.limits))
starts n old (Running t) Held k w h = absurd h
starts n old (Running t) (Refused e) k w h = absurd h
starts n old (Running t) Popped k w h = absurd h
starts n old (Safe t) Done k w h = absurd h
starts n old (Safe t) Held k w h = absurd h
starts n old (Safe t) (Refused e) k w h = absurd h
starts n old (Safe t) Popped k w h = absurd h
starts n old (Ended t) Done k w h = absurd h
starts n old (Ended t) Held k w h = absurd h
starts n old (Ended t) (Refused e) k w h = absurd h
starts n old (Ended t) Popped k w h = absurd h

returns : (n : ℕ) (old : Sitting) (new : AnyThread) (told : TurnOutcome) → LeavesAtMost n old.view → IsWell new → ReturnsFrom old new told → HasAtMost n new
returns n old (Fresh t) Done k w h = absurd h
returns n old (Fresh t) Held k w h = absurd h
returns n old (Fresh t) (Refused e) k w h = absurd h
returns n old (Fresh t) Popped k w h = absurd h
returns n old (Running t) Done k w h = (w, came n old.view t Back k w h.3 h.1 refl (frames_back old.view.subject.limits))
returns n old (Running t) Held k w h = absurd h
returns n old (Running t) (Refused e) k w h = absurd h
returns n old (Running t) Popped k w h = absurd h
returns n old (Safe t) Done k w h = absurd h
returns n old (Safe t) Held k w h = absurd h
returns n old (Safe t) (Refused e) k w h = stays n Back old t e k h.1
returns n old (Safe t) Popped k w h = absurd h
returns n old (Ended t) Done k w h = absurd h
returns n old (Ended t) Held k w h = absurd h
returns n old (Ended t) (Refused e) k w h = absurd h
returns n old (Ended t) Popped k w h = absurd h

polls : (n : ℕ) (old : Runner) (new : AnyThread) (told : TurnOutcome) → IsRunning old × (length old.frames ≤ n) → IsWell new → PollsFrom old new told → HasAtMost n new
polls n old (Fresh t) Done k w h = absurd h
polls n old (Fresh t) Held k w h = absurd h
polls n old (Fresh t) (Refused e) k w h = absurd h
polls n old (Fresh t) Popped k w h = absurd h
polls n old (Running t) Done k w h = (w, goes_on n old t k.0 w k.1 h)
polls n old (Running t) Held k w h = absurd h
polls n old (Running t) (Refused e) k w h = (w, subst (λ (r : Runner). length r.frames ≤ n) (sym h.0) k.1)
polls n old (Running t) Popped k w h = absurd h
polls n old (Safe t) Done k w h = absurd h
polls n old (Safe t) Held k w h = handed n old t.view AtPoll k.0 k.1 h.hold
polls n old (Safe t) (Refused e) k w h = absurd h
polls n old (Safe t) Popped k w h = absurd h
polls n old (Ended t) Done k w h = absurd h
polls n old (Ended t) Held k w h = absurd h
polls n old (Ended t) (Refused e) k w h = absurd h
polls n old (Ended t) Popped k w h = absurd h

hands_over : (m : Manner) (n : ℕ) (old : Runner) (new : AnyThread) (told : TurnOutcome) → IsRunning old × (length old.frames ≤ n) → IsWell new → HandsOverFrom m old new told → HasAtMost n new
hands_over m n old (Fresh t) Done k w h = absurd h
hands_over m n old (Fresh t) Held k w h = absurd h
hands_over m n old (Fresh t) (Refused e) k w h = absurd h
hands_over m n old (Fresh t) Popped k w h = absurd h
hands_over m n old (Running t) Done k w h = absurd h
hands_over m n old (Running t) Held k w h = absurd h
hands_over m n old (Running t) (Refused e) k w h = (w, runs_on n (Hand m) old t e k.1 h.1)
hands_over m n old (Running t) Popped k w h = absurd h
hands_over m n old (Safe t) Done k w h = handed n old t.view m k.0 k.1 h.1
hands_over m n old (Safe t) Held k w h = absurd h
hands_over m n old (Safe t) (Refused e) k w h = absurd h
hands_over m n old (Safe t) Popped k w h = absurd h
hands_over m n old (Ended t) Done k w h = absurd h
hands_over m n old (Ended t) Held k w h = absurd h
hands_over m n old (Ended t) (Refused e) k w h = absurd h
hands_over m n old (Ended t) Popped k w h = absurd h

ends : (n : ℕ) (old : Runner) (new : AnyThread) (told : TurnOutcome) → IsRunning old × (length old.frames ≤ n) → IsWell new → EndsFrom old new told → HasAtMost n new
ends n old (Fresh t) Done k w h = absurd h
ends n old (Fresh t) Held k w h = absurd h
ends n old (Fresh t) (Refused e) k w h = absurd h
ends n old (Fresh t) Popped k w h = absurd h
ends n old (Running t) Done k w h = absurd h
ends n old (Running t) Held k w h = absurd h
ends n old (Running t) (Refused e) k w h = (w, subst (λ (r : Runner). length r.frames ≤ n) (sym h.0) k.1)
ends n old (Running t) Popped k w h = absurd h
ends n old (Safe t) Done k w h = absurd h
ends n old (Safe t) Held k w h = absurd h
ends n old (Safe t) (Refused e) k w h = absurd h
ends n old (Safe t) Popped k w h = absurd h
ends n old (Ended t) Done k w h = tt
ends n old (Ended t) Held k w h = absurd h
ends n old (Ended t) (Refused e) k w h = absurd h
ends n old (Ended t) Popped k w h = absurd h

takes : (what : Turn) (n : ℕ) (old new : AnyThread) (told : TurnOutcome) → HasAtMost n old → IsWell new → Takes what old new told → HasAtMost n new
takes turn.Start n (Fresh s) new told k w h = starts n s new told k w h
takes turn.Start n (Running s) new told k w h = unfit n NotNew (Running s) new told k h
takes turn.Start n (Safe s) new told k w h = unfit n NotNew (Safe s) new told k h
takes turn.Start n (Ended s) new told k w h = unfit n NotNew (Ended s) new told k h
takes turn.Poll n (Fresh s) new told k w h = unfit n NotRunning (Fresh s) new told k h
takes turn.Poll n (Running s) new told k w h = polls n s new told k w h
takes turn.Poll n (Safe s) new told k w h = unfit n NotRunning (Safe s) new told k h
takes turn.Poll n (Ended s) new told k w h = unfit n NotRunning (Ended s) new told k h
takes turn.Native n (Fresh s) new told k w h = unfit n NotRunning (Fresh s) new told k h
takes turn.Native n (Running s) new told k w h = hands_over IntoNative n s new told k w h
takes turn.Native n (Safe s) new told k w h = unfit n NotRunning (Safe s) new told k h
takes turn.Native n (Ended s) new told k w h = unfit n NotRunning (Ended s) new told k h
takes (turn.Block kind) n (Fresh s) new told k w h = unfit n NotRunning (Fresh s) new told k h
takes (turn.Block kind) n (Running s) new told k w h = hands_over (IntoBlocked kind) n s new told k w h
takes (turn.Block kind) n (Safe s) new told k w h = unfit n NotRunning (Safe s) new told k h
takes (turn.Block kind) n (Ended s) new told k w h = unfit n NotRunning (Ended s) new told k h
takes turn.Back n (Fresh s) new told k w h = unfit n NotSafe (Fresh s) new told k h
takes turn.Back n (Running s) new told k w h = unfit n NotSafe (Running s) new told k h
takes turn.Back n (Safe s) new told k w h = returns n s new told k w h
takes turn.Back n (Ended s) new told k w h = unfit n NotSafe (Ended s) new told k h
takes turn.End n (Fresh s) new told k w h = unfit n NotRunning (Fresh s) new told k h
takes turn.End n (Running s) new told k w h = ends n s new told k w h
takes turn.End n (Safe s) new told k w h = unfit n NotRunning (Safe s) new told k h
takes turn.End n (Ended s) new told k w h = unfit n NotRunning (Ended s) new told k h

again : (t : AnyThread) (m n : ℕ) → m ≡ n → HasAtMost n t → HasAtMost (count_or t m) t × (count_or t n ≤ n)
again (Fresh s) m n e k = (subst (λ (i : ℕ). LeavesAtMost i s.view) (sym e) k, omega arith)
again (Running r) m n e k = ((k.0, omega arith), k.1)
again (Safe s) m n e k = (subst (λ (i : ℕ). LeavesAtMost i s.view) (sym e) k, omega arith)
again (Ended s) m n e k = (tt, omega arith)

pub turns_counted : TurnsAreCounted
turns_counted what old new told k w h = again new.thread new.pops.given (given_by old) h.1 (takes what (given_by old) old.thread new.thread told k w h.0)

-- a thread that has not started has made no entry, so it has no frames
pub new_counted : NewIsCounted
new_counted s owner none whole =
    record { owner = owner; whole = whole; few = frames_left s.view.subject.limits [] s.view.seen (sym whole ∙ none) }
