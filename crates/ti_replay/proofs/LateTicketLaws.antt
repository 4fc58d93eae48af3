-- Late steps, where a thread that runs logs them.
use Rattle.std.proofs.Common.{◌≡◌, true, List, [], ◌∷◌, ◌++◌, refl, ap, sym, ◌∙◌, arith, Some}
use Rattle.std.specs.Option.{option_or}
use Rattle.ti_types.specs.declared.limits.Limits.{Limits}
use Rattle.ti_types.specs.declared.step.Step.{Step}
use Rattle.ti_types.specs.declared.entry.Entry.{Entry}
use Rattle.ti_types.specs.declared.entry.Entry.TheVariants.{Start, Own, Hand, Back, End, Asked, Stop, Read, Go}
use Rattle.ti_types.specs.declared.view.ThreadView.{ThreadView}
use Rattle.ti_replay.specs.View.{view}
use Rattle.ti_replay.specs.HistoryState.{HistoryState, history_state}
use Rattle.ti_replay.specs.LateSteps.{is_passed}
use Rattle.ti_replay.proofs.LateStepLaws.{state_late, answered_late}
use Rattle.ti_types.specs.declared.answer.Answer.{Answer}
use Rattle.ti_types.specs.declared.event.Ticket.{Ticket}
use Rattle.ti_replay.specs.Answers.{is_running}
use Rattle.ti_replay.proofs.HistoryStateLaws.{history_state-snoc}
use Rattle.ti_replay.specs.LateTickets.{steps_of}
use Rattle.ti_replay.specs.LateTickets.{AreAlike}
use Rattle.ti_replay.specs.Tickets.{reply_in, reply_to}
use Rattle.ti_replay.proofs.NextStates.{next_state}
use Rattle.ti_replay.proofs.TicketReplies.{reply_to-snoc, settling}
use Rattle.std.proofs.Common.{append_assoc, append-nil, subst, None, Option}

pub alike-snoc : (limits : Limits) (early late : List Entry) (x : Entry) → AreAlike limits early late → AreAlike limits (early ++ x ∷ []) (late ++ x ∷ [])
alike-snoc limits early late x a =
    record {
      state = history_state-snoc limits early x ∙ ap (λ s. next_state s x) a.state ∙ sym (history_state-snoc limits late x);
      replies = λ t. reply_to-snoc limits early x t ∙ ap (λ r. option_or r (reply_in (view limits early) (settling (history_state limits early) x) t)) (a.replies t)
          ∙ ap (λ (s : HistoryState). option_or (reply_to limits late t) (reply_in s.view (settling s x) t)) a.state ∙ sym (reply_to-snoc limits late x t);
    }

pub alike_trans : (limits : Limits) (a b c : List Entry) → AreAlike limits a b → AreAlike limits b c → AreAlike limits a c
alike_trans limits a b c p q = record { state = p.state ∙ q.state; replies = λ t. p.replies t ∙ q.replies t }

pub alike-append : (limits : Limits) (early late more : List Entry) → AreAlike limits early late → AreAlike limits (early ++ more) (late ++ more)
alike-append limits early late [] a = rw (append-nil early, append-nil late) a
alike-append limits early late (x ∷ more) a =
    subst (λ e. AreAlike limits e (late ++ x ∷ more)) (append_assoc early (x ∷ []) more)
    (subst (λ l. AreAlike limits ((early ++ x ∷ []) ++ more) l) (append_assoc late (x ∷ []) more) (alike-append limits (early ++ x ∷ []) (late ++ x ∷ []) more (alike-snoc limits early late x a)))

-- at a running thread, a call that is passed is told the same before a step and after it
told_late : (s : HistoryState) (step : Step) (x : Entry) (t : Ticket) → is_passed x ≡ true → is_running s.view.mode ≡ true
    → reply_in (next_state s (Own step)).view (settling (next_state s (Own step)) x) t ≡ reply_in s.view (settling s x) t
told_late s step Start t h r = cc
told_late s step (Own other) t h r = cc
told_late s step (Hand safe) t h r = cc
told_late s step Back t h r = cc
told_late s step End t h r = cc
told_late s step (Asked env number call) t h r = grind (arith, answered_late s.view step env call)
told_late s step (Stop env) t h r = grind arith
told_late s step (Read env n) t h r = cc
told_late s step (Go env) t h r = grind arith

step_tells : (v : ThreadView) (s : HistoryState) (step : Step) (t : Ticket) → reply_in v (settling s (Own step)) t ≡ None
step_tells v s step t = grind arith

or_none : (a : Option Answer) → option_or a None ≡ a
or_none None = refl
or_none (Some x) = refl

late_one : (limits : Limits) (front : List Entry) (step : Step) (x : Entry) → is_passed x ≡ true → is_running (view limits front).mode ≡ true
    → AreAlike limits ((front ++ Own step ∷ []) ++ x ∷ []) ((front ++ x ∷ []) ++ Own step ∷ [])
late_one limits front step x h r =
    let s = history_state limits front in
    let f1 = front ++ Own step ∷ [] in
    let f2 = front ++ x ∷ [] in
    let e1 : history_state limits f1 ≡ next_state s (Own step) = history_state-snoc limits front (Own step) in
    let e2 : history_state limits f2 ≡ next_state s x = history_state-snoc limits front x in
    record {
      state = history_state-snoc limits f1 x ∙ ap (λ z. next_state z x) e1 ∙ sym (state_late s step x h r) ∙ ap (λ z. next_state z (Own step)) (sym e2) ∙ sym (history_state-snoc limits f2 (Own step));
      replies = λ t.
          let old = reply_to limits front t in
          let a : reply_to limits f1 t ≡ old = reply_to-snoc limits front (Own step) t ∙ ap (λ z. option_or old z) (step_tells s.view s step t) ∙ or_none old in
          reply_to-snoc limits f1 x t
          ∙ ap (λ z. option_or z (reply_in (view limits f1) (settling (history_state limits f1) x) t)) a
          ∙ ap (λ (z : HistoryState). option_or old (reply_in z.view (settling z x) t)) e1
          ∙ ap (λ z. option_or old z) (told_late s step x t h r)
          ∙ sym (reply_to-snoc limits front x t)
          ∙ sym (reply_to-snoc limits f2 (Own step) t ∙ ap (λ z. option_or (reply_to limits f2 t) z) (step_tells (view limits f2) (history_state limits f2) step t) ∙ or_none (reply_to limits f2 t));
    }

-- a call, a stop or a go at a running thread may come before all steps that the thread has logged
pub steps_late : (limits : Limits) (front : List Entry) (steps : List Step) (x : Entry) → is_passed x ≡ true → is_running (view limits front).mode ≡ true
    → AreAlike limits ((front ++ steps_of steps) ++ x ∷ []) ((front ++ x ∷ []) ++ steps_of steps)
steps_late limits front [] x h r = rw (append-nil front, append-nil (front ++ x ∷ [])) (record { state = refl; replies = λ t. refl })
steps_late limits front (s ∷ steps) x h r =
    let f1 = front ++ Own s ∷ [] in
    let f2 = front ++ x ∷ [] in
    let runs : is_running (view limits f1).mode ≡ true = ap (λ (z : HistoryState). is_running z.view.mode) (history_state-snoc limits front (Own s)) ∙ grind (arith, r) in
    let rest : AreAlike limits ((f1 ++ steps_of steps) ++ x ∷ []) ((f1 ++ x ∷ []) ++ steps_of steps) = steps_late limits f1 steps x h runs in
    let one : AreAlike limits ((f1 ++ x ∷ []) ++ steps_of steps) ((f2 ++ Own s ∷ []) ++ steps_of steps) = alike-append limits (f1 ++ x ∷ []) (f2 ++ Own s ∷ []) (steps_of steps) (late_one limits front s x h r) in
    let all = alike_trans limits ((f1 ++ steps_of steps) ++ x ∷ []) ((f1 ++ x ∷ []) ++ steps_of steps) ((f2 ++ Own s ∷ []) ++ steps_of steps) rest one in
    subst (λ e. AreAlike limits (e ++ x ∷ []) (f2 ++ steps_of (s ∷ steps))) (append_assoc front (Own s ∷ []) (steps_of steps))
    (subst (λ l. AreAlike limits ((f1 ++ steps_of steps) ++ x ∷ []) l) (append_assoc f2 (Own s ∷ []) (steps_of steps)) all)
