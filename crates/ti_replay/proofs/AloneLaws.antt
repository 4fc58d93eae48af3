-- What others do at a running thread changes neither its mode, nor its frames, nor what it has spent, and leaves what it
-- has logged legal.
use Rattle.std.proofs.Common.{◌≡◌, ℕ, ◌==◌, Bool, true, false, cond, List, [], ◌∷◌, ◌++◌, refl, ap, sym, ◌∙◌, arith, add-zero, subst}
use Rattle.std.specs.List.{fold}
use Rattle.ti_types.specs.declared.limits.Limits.{Limits}
use Rattle.ti_types.specs.declared.step.Step.{Step}
use Rattle.ti_types.specs.declared.entry.Entry.{Entry}
use Rattle.ti_types.specs.declared.entry.Entry.TheVariants.{Start, Own, Hand, Back, End, Asked, Stop, Read, Go}
use Rattle.ti_replay.specs.Answers.{is_running}
use Rattle.ti_replay.specs.View.{frames_after}
use Rattle.ti_replay.specs.HistoryState.{HistoryState, history_state}
use Rattle.ti_replay.proofs.NextStates.{next_state, allows, allows_all}
use Rattle.ti_replay.specs.LateTickets.{steps_of}
use Rattle.ti_replay.specs.Makers.{maker, made_by, StartsWith}
use Rattle.ti_replay.specs.Alone.{LeavesIt, LeftAlone}
use Rattle.ti_replay.proofs.HistoryStateLaws.{history_state-append, goes_on-allows}
use Rattle.ti_replay.proofs.LateStepLaws.{called_keeps}
use Rattle.ti_replay.proofs.StepsStay.{IsSameForSteps}

same_refl : (s : HistoryState) → IsSameForSteps s s
same_refl s = record { mode = refl; frames = λ r. refl; own = refl }

same_trans : (a b c : HistoryState) → IsSameForSteps a b → IsSameForSteps b c → IsSameForSteps a c
same_trans a b c p q = record { mode = p.mode ∙ q.mode; frames = λ r. p.frames (ap is_running q.mode ∙ r) ∙ q.frames r; own = p.own ∙ q.own }

-- an entry of another
other_same : (s : HistoryState) (x : Entry) → (maker x == 0) ≡ false → IsSameForSteps (next_state s x) s
other_same s Start h = cc
other_same s (Own step) h = cc
other_same s (Hand safe) h = cc
other_same s Back h = cc
other_same s End h = cc
other_same s (Asked env n call) h =
    record { mode = grind (arith, called_keeps s.view env call); frames = λ r. grind (arith, called_keeps s.view env call, r); own = add-zero s.own }
other_same s (Stop env) h = record { mode = grind arith; frames = λ r. refl; own = add-zero s.own }
other_same s (Read env n) h = record { mode = grind arith; frames = λ r. refl; own = add-zero s.own }
other_same s (Go env) h = record { mode = grind arith; frames = λ r. refl; own = add-zero s.own }

-- none of them is the thread's own
none_own : (x : Entry) (more : List Entry) → made_by 0 (x ∷ more) ≡ [] → (b : Bool) → (maker x == 0) ≡ b → ((maker x == 0) ≡ false) × (made_by 0 more ≡ [])
none_own x more none true is = let e : x ∷ made_by 0 more ≡ [] = sym (ap (λ (b : Bool). cond b (x ∷ made_by 0 more) (made_by 0 more)) is) ∙ none in cc
none_own x more none false is = (is, sym (ap (λ (b : Bool). cond b (x ∷ made_by 0 more) (made_by 0 more)) is) ∙ none)

pub others_same : (s : HistoryState) (more : List Entry) → made_by 0 more ≡ [] → IsSameForSteps (fold next_state s more) s
others_same s [] none = same_refl s
others_same s (x ∷ more) none =
    let k = none_own x more none (maker x == 0) refl in
    same_trans (fold next_state (next_state s x) more) (next_state s x) s (others_same (next_state s x) more k.1) (other_same s x k.0)

step_same : (s z : HistoryState) (step : Step) → IsSameForSteps s z → IsSameForSteps (next_state s (Own step)) (next_state z (Own step))
step_same s z step k =
    record { mode = grind (arith, k.mode); frames = λ r. ap (λ f. frames_after f step) (k.frames r); own = grind (arith, k.own) }

steps_same : (limits : Limits) (s z : HistoryState) (steps : List Step) → IsSameForSteps s z
    → (allows_all limits s (steps_of steps) ≡ allows_all limits z (steps_of steps)) × IsSameForSteps (fold next_state s (steps_of steps)) (fold next_state z (steps_of steps))
steps_same limits s z [] k = (refl, k)
steps_same limits s z (x ∷ steps) k =
    let one : allows limits s (Own x) ≡ allows limits z (Own x) = grind (arith, k.mode, k.frames, k.own) in
    let rest = steps_same limits (next_state s (Own x)) (next_state z (Own x)) steps (step_same s z x k) in
    (grind (arith, one, rest.0), rest.1)

-- logged steps leave the mode
steps_mode : (s : HistoryState) (steps : List Step) → (fold next_state s (steps_of steps)).view.mode ≡ s.view.mode
steps_mode s [] = refl
steps_mode s (x ∷ steps) = steps_mode (next_state s (Own x)) steps

-- after a history, entries of others
pub others_leave : (limits : Limits) (old more : List Entry) (steps : List Step) → made_by 0 more ≡ [] → LeavesIt limits old (old ++ more) steps
others_leave limits old more steps none =
    let s = history_state limits old in
    let z = history_state limits (old ++ more) in
    let same : IsSameForSteps z s = subst (λ (x : HistoryState). IsSameForSteps x s) (sym (history_state-append limits old more)) (others_same s more none) in
    let behind = steps_same limits z s steps same in
    record {
      mode = same.mode;
      frames = λ runs.
          ap (λ (x : HistoryState). x.view.frames) (history_state-append limits (old ++ more) (steps_of steps))
          ∙ (behind.1.frames (ap is_running (steps_mode s steps) ∙ runs) ∙ sym (ap (λ (x : HistoryState). x.view.frames) (history_state-append limits old (steps_of steps))));
      own = same.own;
      goes = goes_on-allows limits (old ++ more) (steps_of steps) ∙ (behind.0 ∙ sym (goes_on-allows limits old (steps_of steps)));
    }

-- the entries of a maker in two lists
pub made-append : (n : ℕ) (xs ys : List Entry) → made_by n (xs ++ ys) ≡ made_by n xs ++ made_by n ys
made-append n [] ys = refl
made-append n (x ∷ xs) ys = one (maker x == n) (made-append n xs ys)
  where
    one : (b : Bool) → made_by n (xs ++ ys) ≡ made_by n xs ++ made_by n ys → cond b (x ∷ made_by n (xs ++ ys)) (made_by n (xs ++ ys)) ≡ cond b (x ∷ made_by n xs) (made_by n xs) ++ made_by n ys
    one true e = ap (λ (l : List Entry). x ∷ l) e
    one false e = e

nothing_more : (xs ys : List Entry) → xs ≡ xs ++ ys → ys ≡ []
nothing_more [] ys e = sym e
nothing_more (x ∷ xs) ys e = nothing_more xs ys (cc e)

-- where as many of a maker's entries stand in a history as stood in its front, none was made since
pub none_since : (n : ℕ) (seen history : List Entry) (s : StartsWith history seen) → made_by n seen ≡ made_by n history → made_by n s.0 ≡ []
none_since n seen history s e = nothing_more (made_by n seen) (made_by n s.0) (e ∙ (ap (made_by n) s.1 ∙ made-append n seen s.0))

-- what is left to a thread by a history that begins with what it saw, and has no further entry of its own
pub left_alone : LeftAlone
left_alone limits seen history steps s e =
    subst (λ (h : List Entry). LeavesIt limits seen h steps) (sym s.1) (others_leave limits seen s.0 steps (none_since 0 seen history s e))
