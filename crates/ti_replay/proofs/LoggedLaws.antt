-- What a running thread has logged: what the steps after a history leave as it was.
use Rattle.std.proofs.Common.{◌≡◌, ◌+◌, false, List, [], ◌∷◌, ◌++◌, length, map, refl, ap, sym, ◌∙◌, arith, Option, Some, None, append_assoc, append-nil, add-zero}
use Rattle.std.proofs.lemmas.List.{map-append}
use Rattle.std.proofs.lemmas.List.Sums.{sum_by-append, sum_by-cons}
use Rattle.std.specs.List.{fold}
use Rattle.std.specs.Option.{option_or}
use Rattle.ti_types.specs.declared.limits.Limits.{Limits}
use Rattle.ti_types.specs.declared.numbers.EnvNo.{EnvNo}
use Rattle.ti_types.specs.declared.step.Step.{Step}
use Rattle.ti_types.specs.declared.call.Call.{Call}
use Rattle.ti_types.specs.declared.call.Call.TheVariants.{State, FrameCount, Trace, Location, Suspend, Resume, GetWord, SetWord, Pop}
use Rattle.ti_types.specs.declared.entry.Entry.{Entry}
use Rattle.ti_types.specs.declared.entry.Entry.TheVariants.{Own}
use Rattle.ti_types.specs.declared.event.Ticket.{Ticket}
use Rattle.ti_types.specs.declared.answer.Answer.{Answer}
use Rattle.ti_types.specs.declared.view.ThreadView.{ThreadView}
use Rattle.ti_replay.specs.Answers.{answer_of, is_running}
use Rattle.ti_replay.specs.Settling.{waits, unanswered}
use Rattle.ti_replay.specs.View.{view}
use Rattle.ti_replay.specs.Legal.{is_armed, own_spent, own_cost, asked_by, ask_count, calls_spent, call_cost}
use Rattle.ti_replay.specs.HistoryState.{HistoryState, history_state}
use Rattle.ti_replay.specs.LateTickets.{steps_of}
use Rattle.ti_replay.specs.Tickets.{reply_to, reply_in}
use Rattle.ti_replay.proofs.NextStates.{next_state}
use Rattle.ti_replay.proofs.Charging.{charged_free}
use Rattle.ti_replay.proofs.HistoryStateLaws.{history_state-append}
use Rattle.ti_replay.proofs.TicketReplies.{reply_to-snoc, settling}

-- two states of which the steps alone differ
pub record SameButFrames (s z : HistoryState) : Type 0 where
  pub mode : s.view.mode ≡ z.view.mode
  pub suspended : s.view.suspended ≡ z.view.suspended
  pub stopper : s.view.stopper ≡ z.view.stopper
  pub words : s.view.words ≡ z.view.words
  pub waiting : s.waiting ≡ z.waiting
  pub costs : s.costs ≡ z.costs

one_logged : (s : HistoryState) (step : Step) → SameButFrames (next_state s (Own step)) s
one_logged s step = record {
  mode = grind arith;
  suspended = grind arith;
  stopper = grind arith;
  words = grind arith;
  waiting = grind arith;
  costs = charged_free s.costs (Own step) refl;
}

all_logged : (s : HistoryState) (steps : List Step) → SameButFrames (fold next_state s (steps_of steps)) s
all_logged s [] = record { mode = refl; suspended = refl; stopper = refl; words = refl; waiting = refl; costs = refl }
all_logged s (x ∷ steps) =
    let k = all_logged (next_state s (Own x)) steps in
    let o = one_logged s x in
    record {
      mode = k.mode ∙ o.mode;
      suspended = k.suspended ∙ o.suspended;
      stopper = k.stopper ∙ o.stopper;
      words = k.words ∙ o.words;
      waiting = k.waiting ∙ o.waiting;
      costs = k.costs ∙ o.costs;
    }

-- after a history, its logged steps change nothing but frames and own costs
pub logged : (limits : Limits) (h : List Entry) (steps : List Step) → SameButFrames (history_state limits (h ++ steps_of steps)) (history_state limits h)
logged limits h steps = rw (history_state-append limits h (steps_of steps)) (all_logged (history_state limits h) steps)

pub logged_runs : (limits : Limits) (h : List Entry) (steps : List Step) → is_running (view limits (h ++ steps_of steps)).mode ≡ is_running (view limits h).mode
logged_runs limits h steps = ap is_running (logged limits h steps).mode

bare_length : {X Y : Type 0} (f : X → Y) (xs : List X) → length (map f xs) ≡ length xs
bare_length f [] = refl
bare_length f (x ∷ xs) = grind (arith, bare_length f xs)

pub logged_armed : (limits : Limits) (h : List Entry) (steps : List Step) → is_armed limits (h ++ steps_of steps) ≡ is_armed limits h
logged_armed limits h steps =
    let k = logged limits h steps in
    let n : length (unanswered (h ++ steps_of steps)) ≡ length (unanswered h) =
    sym (bare_length (λ p. p.1) (unanswered (h ++ steps_of steps))) ∙ ap (λ (w : List Entry). length w) k.waiting ∙ bare_length (λ p. p.1) (unanswered h) in
    grind (arith, n, k.stopper)

pub logged_own : (h : List Entry) (steps : List Step) → own_spent (h ++ steps_of steps) ≡ own_spent h + length steps
logged_own h [] = rw append-nil (sym (add-zero (own_spent h)))
logged_own h (x ∷ steps) =
    let e = sum_by-append own_cost h (Own x ∷ []) in
    let o = sum_by-cons own_cost (Own x) [] in
    let r = logged_own (h ++ Own x ∷ []) steps in
    let a : own_spent ((h ++ Own x ∷ []) ++ steps_of steps) ≡ own_spent (h ++ steps_of (x ∷ steps)) = ap own_spent (append_assoc h (Own x ∷ []) (steps_of steps)) in
    sym a ∙ r ∙ omega (arith, e, o)

no_asks : (env : EnvNo) (steps : List Step) → asked_by env (steps_of steps) ≡ 0
no_asks env [] = refl
no_asks env (x ∷ steps) = omega (arith, no_asks env steps, sum_by-cons (ask_count env) (Own x) (steps_of steps))

pub logged_asked : (env : EnvNo) (h : List Entry) (steps : List Step) → asked_by env (h ++ steps_of steps) ≡ asked_by env h
logged_asked env h steps = omega (arith, sum_by-append (ask_count env) h (steps_of steps), no_asks env steps)

no_calls : (env : EnvNo) (steps : List Step) → calls_spent env (steps_of steps) ≡ 0
no_calls env [] = refl
no_calls env (x ∷ steps) = omega (arith, no_calls env steps, sum_by-cons (call_cost env) (Own x) (steps_of steps))

pub logged_calls : (env : EnvNo) (h : List Entry) (steps : List Step) → calls_spent env (h ++ steps_of steps) ≡ calls_spent env h
logged_calls env h steps = omega (arith, sum_by-append (call_cost env) h (steps_of steps), no_calls env steps)

or_none : (a : Option Answer) → option_or a None ≡ a
or_none None = refl
or_none (Some x) = refl

step_tells : (v : ThreadView) (s : HistoryState) (step : Step) (t : Ticket) → reply_in v (settling s (Own step)) t ≡ None
step_tells v s step t = grind arith

pub logged_reply : (limits : Limits) (h : List Entry) (steps : List Step) (t : Ticket) → reply_to limits (h ++ steps_of steps) t ≡ reply_to limits h t
logged_reply limits h [] t = rw append-nil refl
logged_reply limits h (x ∷ steps) t =
    let a : reply_to limits ((h ++ Own x ∷ []) ++ steps_of steps) t ≡ reply_to limits (h ++ steps_of (x ∷ steps)) t = ap (λ l. reply_to limits l t) (append_assoc h (Own x ∷ []) (steps_of steps)) in
    sym a ∙ logged_reply limits (h ++ Own x ∷ []) steps t ∙ reply_to-snoc limits h (Own x) t
    ∙ ap (λ z. option_or (reply_to limits h t) z) (step_tells (view limits h) (history_state limits h) x t) ∙ or_none (reply_to limits h t)

answered_by : (v w : ThreadView) (env : EnvNo) (call : Call) → waits call ≡ false → v.mode ≡ w.mode → v.suspended ≡ w.suspended → v.words ≡ w.words → answer_of v env call ≡ answer_of w env call
answered_by v w env State h m s o = grind (arith, m, s, o)
answered_by v w env FrameCount h m s o = cc
answered_by v w env (Trace start max_count) h m s o = cc
answered_by v w env (Location depth) h m s o = cc
answered_by v w env Suspend h m s o = cc
answered_by v w env Resume h m s o = grind (arith, m, s, o)
answered_by v w env GetWord h m s o = grind (arith, m, s, o)
answered_by v w env (SetWord word) h m s o = grind (arith, m, s, o)
answered_by v w env Pop h m s o = cc

-- a call that does not wait is answered without the frames
pub logged_answer : (limits : Limits) (h : List Entry) (steps : List Step) (env : EnvNo) (call : Call) → waits call ≡ false
    → answer_of (view limits (h ++ steps_of steps)) env call ≡ answer_of (view limits h) env call
logged_answer limits h steps env call w =
    let k = logged limits h steps in
    answered_by (view limits (h ++ steps_of steps)) (view limits h) env call w k.mode k.suspended k.words

pub steps-snoc : (h : List Entry) (steps : List Step) (x : Step) → h ++ steps_of (steps ++ x ∷ []) ≡ (h ++ steps_of steps) ++ Own x ∷ []
steps-snoc h steps x = ap (λ l. h ++ l) (map-append Own steps (x ∷ [])) ∙ sym (append_assoc h (steps_of steps) (Own x ∷ []))
