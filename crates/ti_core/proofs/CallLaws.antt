-- How one thread of a core goes on with an admitted call, a stop, a go or a read.
use Rattle.std.proofs.Common.{◌≡◌, ℕ, ◌+◌, ◌<◌, ◌&&◌, Bool, true, false, List, [], ◌∷◌, ◌++◌, length, refl, ap, sym, subst, ◌∙◌, arith, Option, Some, None, append-nil, inl, inr, ℤ}
use Rattle.std.proofs.lemmas.Bool.{cases_Bool}
use Rattle.std.proofs.lemmas.Bool.Decides.{nat_tests}
use Rattle.std.proofs.lemmas.List.Sums.{sum_by-append}
use Rattle.std.proofs.lemmas.List.Folds.{list_any-append}
use Rattle.ti_types.specs.declared.limits.Limits.{Limits}
use Rattle.ti_types.specs.declared.numbers.EnvNo.{EnvNo}
use Rattle.ti_types.specs.declared.numbers.ThreadNo.{ThreadNo}
use Rattle.ti_types.specs.declared.call.Call.{Call}
use Rattle.ti_types.specs.declared.entry.Entry.{Entry}
use Rattle.ti_types.specs.declared.entry.Entry.TheVariants.{Asked, Stop, Read, Go}
use Rattle.ti_types.specs.declared.event.Event.TheVariants as event
use Rattle.ti_types.specs.declared.event.Ticket.{Ticket}
use Rattle.ti_types.specs.declared.answer.Answer.{Answer}
use Rattle.ti_types.specs.declared.error.TiError.{TiError}
use Rattle.ti_replay.specs.Answers.{is_running, answer_of, stack_of}
use Rattle.ti_replay.specs.Settling.{waits}
use Rattle.ti_replay.specs.View.{view}
use Rattle.ti_replay.specs.Legal.{asked_by, ask_count, calls_spent}
use Rattle.ti_replay.specs.Costs.{costs_at}
use Rattle.ti_replay.specs.Replies.{reply}
use Rattle.ti_replay.specs.Legal.{Situation}
use Rattle.ti_replay.specs.Events.{stopping_refusal, if_none, given, gave_unless, read_outcome}
use Rattle.ti_replay.specs.HistoryState.{HistoryState}
use Rattle.ti_replay.specs.LateSteps.{is_passed}
use Rattle.ti_replay.specs.LateTickets.{AreAlike, steps_of}
use Rattle.ti_replay.proofs.AskingLaws.{reply-snoc}
use Rattle.ti_replay.proofs.CostLaws.{situation_is}
use Rattle.ti_replay.proofs.LateTicketLaws.{alike-snoc, alike_trans, steps_late}
use Rattle.ti_replay.proofs.PlaceLaws.{reply_at_once, reply_later, reply_past}
use Rattle.ti_slot.specs.Tickets.{has, AreOnce, without_ticket}
use Rattle.ti_slot.specs.Thread.{next_asked, ticket_of}
use Rattle.ti_slot.specs.Tickets.{same}
use Rattle.ti_core.specs.Thread.{ThreadState, entries, more, reply_now, tickets_after, ask_next, held_by, stop_next, stop_told, go_next, go_told, read_next, read_told, taken}
use Rattle.ti_core.specs.Refines.{ThreadRefines}
use Rattle.ti_replay.proofs.LoggedLaws.{logged, logged_runs, logged_asked, logged_calls, logged_answer}
use Rattle.ti_core.proofs.WholeLaws.{passed_mode}
use Rattle.ti_core.proofs.ThreadLaws.{asked_more}

-- two histories that leave one state have spent and asked the same
alike_situation : (limits : Limits) (a b : List Entry) (env : EnvNo) → AreAlike limits a b → env.0 < limits.envs → (asked_by env a ≡ asked_by env b) × (calls_spent env a ≡ calls_spent env b)
alike_situation limits a b env k h =
    let sa = situation_is limits a env h in
    let sb = situation_is limits b env h in
    let c = ap (λ (z : HistoryState). costs_at z.costs env) k.state in
    (sym (ap (λ (z : Situation). z.asked) sa) ∙ ap (λ z. z.asked) c ∙ ap (λ (z : Situation). z.asked) sb, sym (ap (λ (z : Situation). z.calls) sa) ∙ ap (λ z. z.calls) c ∙ ap (λ (z : Situation). z.calls) sb)

-- the slot's history has asked and spent as much as the definition's
pub asked_same : (limits : Limits) (t : ThreadNo) (L : List Entry) (s : ThreadState) (env : EnvNo) → ThreadRefines limits t L s → env.0 < limits.envs → asked_by env s.thread.history ≡ asked_by env L
asked_same limits t L s env k h = sym (logged_asked env s.thread.history s.steps) ∙ sym (alike_situation limits L (entries s) env k.alike h).0

pub spent_same : (limits : Limits) (t : ThreadNo) (L : List Entry) (s : ThreadState) (env : EnvNo) → ThreadRefines limits t L s → env.0 < limits.envs → calls_spent env s.thread.history ≡ calls_spent env L
spent_same limits t L s env k h = sym (logged_calls env s.thread.history s.steps) ∙ sym (alike_situation limits L (entries s) env k.alike h).1

slot_runs : (limits : Limits) (t : ThreadNo) (L : List Entry) (s : ThreadState) → ThreadRefines limits t L s → is_running (view limits s.thread.history).mode ≡ is_running (view limits L).mode
slot_runs limits t L s k = sym (logged_runs limits s.thread.history s.steps) ∙ ap (λ (z : HistoryState). is_running z.view.mode) (sym k.alike.state)

-- a call, a stop or a go in front of the logged steps
passed_alike : (limits : Limits) (t : ThreadNo) (L : List Entry) (s : ThreadState) (x : Entry) → ThreadRefines limits t L s → is_passed x ≡ true → AreAlike limits (L ++ x ∷ []) ((s.thread.history ++ x ∷ []) ++ steps_of s.steps)
passed_alike limits t L s x k p =
    let h = s.thread.history in
    let one = alike-snoc limits L (entries s) x k.alike in
    elim (cases_Bool (is_running (view limits L).mode)) [
      | inl runs ↦ alike_trans limits (L ++ x ∷ []) (entries s ++ x ∷ []) ((h ++ x ∷ []) ++ steps_of s.steps) one (steps_late limits h s.steps x p (slot_runs limits t L s k ∙ runs))
      | inr rests ↦
          let none : s.steps ≡ [] = k.rests rests in
          let e : entries s ++ x ∷ [] ≡ (h ++ x ∷ []) ++ steps_of s.steps = ap (λ z. (h ++ steps_of z) ++ x ∷ []) none ∙ ap (λ z. z ++ x ∷ []) (append-nil h) ∙ sym (append-nil (h ++ x ∷ [])) ∙ ap (λ z. (h ++ x ∷ []) ++ steps_of z) (sym none) in
          subst (λ z. AreAlike limits (L ++ x ∷ []) z) e one
    ]

passed_rests : (limits : Limits) (L : List Entry) (s : ThreadState) (x : Entry) → is_passed x ≡ true → (is_running (view limits L).mode ≡ false → s.steps ≡ []) → is_running (view limits (L ++ x ∷ [])).mode ≡ false → s.steps ≡ []
passed_rests limits L s x p k h = k (ap is_running (sym (passed_mode limits L x p)) ∙ h)

more_known : (s : ThreadState) (added : List Entry) → ((u : Ticket) → has u s.thread.uncollected ≡ true → u.no < asked_by u.env s.thread.history)
    → (u : Ticket) → has u (more s added).thread.uncollected ≡ true → u.no < asked_by u.env (more s added).thread.history
more_known s added k u h = omega (arith, k u h, asked_more u.env s.thread.history added)

-- a stop or a go that is not refused, or is
held_stands : (limits : Limits) (t : ThreadNo) (L : List Entry) (s : ThreadState) (r : Option TiError) (x : Entry) → ThreadRefines limits t L s → is_passed x ≡ true
    → ThreadRefines limits t (L ++ if_none r (x ∷ [])) (held_by limits s r x)
held_stands limits t L s None x k p = record {
  limits_are = k.limits_are;
  number_is = k.number_is;
  alike = passed_alike limits t L s x k p;
  rests = passed_rests limits L s x p k.rests;
  once = k.once;
  known = more_known s (x ∷ []) k.known;
}
held_stands limits t L s (Some error) x k p = rw append-nil (record {
  limits_are = k.limits_are;
  number_is = k.number_is;
  alike = subst (λ z. AreAlike limits L (z ++ steps_of s.steps)) (sym (append-nil s.thread.history)) k.alike;
  rests = k.rests;
  once = k.once;
  known = more_known s [] k.known;
})

stopper_same : (limits : Limits) (t : ThreadNo) (L : List Entry) (s : ThreadState) → ThreadRefines limits t L s → (view limits s.thread.history).stopper ≡ (view limits L).stopper
stopper_same limits t L s k = sym (logged limits s.thread.history s.steps).stopper ∙ ap (λ (z : HistoryState). z.view.stopper) (sym k.alike.state)

stop_same : (limits : Limits) (t u : ThreadNo) (L : List Entry) (s : ThreadState) (e : EnvNo) → ThreadRefines limits t L s
    → stopping_refusal (view limits s.thread.history) (event.Stop e s.thread.number) ≡ stopping_refusal (view limits L) (event.Stop e u)
stop_same limits t u L s e k = let v = stopper_same limits t L s k in grind (arith, v)

go_same : (limits : Limits) (t u : ThreadNo) (L : List Entry) (s : ThreadState) (e : EnvNo) → ThreadRefines limits t L s
    → stopping_refusal (view limits s.thread.history) (event.Go e s.thread.number) ≡ stopping_refusal (view limits L) (event.Go e u)
go_same limits t u L s e k = let v = stopper_same limits t L s k in grind (arith, v)

read_same : (limits : Limits) (t u : ThreadNo) (L : List Entry) (s : ThreadState) (e : EnvNo) (n : ℤ) → ThreadRefines limits t L s
    → stopping_refusal (view limits s.thread.history) (event.Read e s.thread.number n) ≡ stopping_refusal (view limits L) (event.Read e u n)
read_same limits t u L s e n k = let v = stopper_same limits t L s k in let r = slot_runs limits t L s k in grind (arith, v, r)

pub stop_stands : (limits : Limits) (t u : ThreadNo) (L : List Entry) (s : ThreadState) (e : EnvNo) → ThreadRefines limits t L s
    → ThreadRefines limits t (L ++ if_none (stopping_refusal (view limits L) (event.Stop e u)) (Stop e ∷ [])) (stop_next s.thread.limits s e s.thread.number)
stop_stands limits t u L s e k =
    subst (λ l. ThreadRefines limits t (L ++ if_none (stopping_refusal (view limits L) (event.Stop e u)) (Stop e ∷ [])) (stop_next l s e s.thread.number)) (sym k.limits_are)
    (subst (λ r. ThreadRefines limits t (L ++ if_none (stopping_refusal (view limits L) (event.Stop e u)) (Stop e ∷ [])) (held_by limits s r (Stop e))) (sym (stop_same limits t u L s e k))
    (held_stands limits t L s (stopping_refusal (view limits L) (event.Stop e u)) (Stop e) k refl))

pub stop_told_is : (limits : Limits) (t u : ThreadNo) (L : List Entry) (s : ThreadState) (e : EnvNo) → ThreadRefines limits t L s
    → stop_told s.thread.limits s e s.thread.number ≡ gave_unless (stopping_refusal (view limits L) (event.Stop e u))
stop_told_is limits t u L s e k = subst (λ l. stop_told l s e s.thread.number ≡ gave_unless (stopping_refusal (view limits L) (event.Stop e u))) (sym k.limits_are) (ap gave_unless (stop_same limits t u L s e k))

pub go_stands : (limits : Limits) (t u : ThreadNo) (L : List Entry) (s : ThreadState) (e : EnvNo) → ThreadRefines limits t L s
    → ThreadRefines limits t (L ++ if_none (stopping_refusal (view limits L) (event.Go e u)) (Go e ∷ [])) (go_next s.thread.limits s e s.thread.number)
go_stands limits t u L s e k =
    subst (λ l. ThreadRefines limits t (L ++ if_none (stopping_refusal (view limits L) (event.Go e u)) (Go e ∷ [])) (go_next l s e s.thread.number)) (sym k.limits_are)
    (subst (λ r. ThreadRefines limits t (L ++ if_none (stopping_refusal (view limits L) (event.Go e u)) (Go e ∷ [])) (held_by limits s r (Go e))) (sym (go_same limits t u L s e k))
    (held_stands limits t L s (stopping_refusal (view limits L) (event.Go e u)) (Go e) k refl))

pub go_told_is : (limits : Limits) (t u : ThreadNo) (L : List Entry) (s : ThreadState) (e : EnvNo) → ThreadRefines limits t L s
    → go_told s.thread.limits s e s.thread.number ≡ gave_unless (stopping_refusal (view limits L) (event.Go e u))
go_told_is limits t u L s e k = subst (λ l. go_told l s e s.thread.number ≡ gave_unless (stopping_refusal (view limits L) (event.Go e u))) (sym k.limits_are) (ap gave_unless (go_same limits t u L s e k))

-- a read comes at a thread that does not run
read_holds : (limits : Limits) (t : ThreadNo) (L : List Entry) (s : ThreadState) (e : EnvNo) (n : ℤ) (r : Option TiError) → ThreadRefines limits t L s → (r ≡ None → is_running (view limits L).mode ≡ false)
    → ThreadRefines limits t (L ++ if_none r (Read e n ∷ [])) (held_by limits s r (Read e n))
read_holds limits t L s e n None k q =
    let none : s.steps ≡ [] = k.rests (q refl) in
    let one = alike-snoc limits L (entries s) (Read e n) k.alike in
    let h = s.thread.history in
    let x = Read e n in
    let j : entries s ++ x ∷ [] ≡ (h ++ x ∷ []) ++ steps_of s.steps = ap (λ z. (h ++ steps_of z) ++ x ∷ []) none ∙ ap (λ z. z ++ x ∷ []) (append-nil h) ∙ sym (append-nil (h ++ x ∷ [])) ∙ ap (λ z. (h ++ x ∷ []) ++ steps_of z) (sym none) in
    record {
      limits_are = k.limits_are;
      number_is = k.number_is;
      alike = subst (λ z. AreAlike limits (L ++ x ∷ []) z) j one;
      rests = λ p. none;
      once = k.once;
      known = more_known s (x ∷ []) k.known;
    }
read_holds limits t L s e n (Some error) k q = rw append-nil (record {
  limits_are = k.limits_are;
  number_is = k.number_is;
  alike = subst (λ z. AreAlike limits L (z ++ steps_of s.steps)) (sym (append-nil s.thread.history)) k.alike;
  rests = k.rests;
  once = k.once;
  known = more_known s [] k.known;
})

free_read : (limits : Limits) (u : ThreadNo) (L : List Entry) (e : EnvNo) (n : ℤ) → stopping_refusal (view limits L) (event.Read e u n) ≡ None → is_running (view limits L).mode ≡ false
free_read limits u L e n h = grind (arith, h)

pub read_stands : (limits : Limits) (t u : ThreadNo) (L : List Entry) (s : ThreadState) (e : EnvNo) (n : ℤ) → ThreadRefines limits t L s
    → ThreadRefines limits t (L ++ if_none (stopping_refusal (view limits L) (event.Read e u n)) (Read e n ∷ [])) (read_next s.thread.limits s e s.thread.number n)
read_stands limits t u L s e n k =
    subst (λ l. ThreadRefines limits t (L ++ if_none (stopping_refusal (view limits L) (event.Read e u n)) (Read e n ∷ [])) (read_next l s e s.thread.number n)) (sym k.limits_are)
    (subst (λ r. ThreadRefines limits t (L ++ if_none (stopping_refusal (view limits L) (event.Read e u n)) (Read e n ∷ [])) (held_by limits s r (Read e n))) (sym (read_same limits t u L s e n k))
    (read_holds limits t L s e n (stopping_refusal (view limits L) (event.Read e u n)) k (free_read limits u L e n)))

read_at_once : (limits : Limits) (h : List Entry) (e : EnvNo) (n : ℤ) → reply limits (h ++ Read e n ∷ []) (length h) ≡ Some (stack_of (view limits h) n)
read_at_once limits h e n = grind (arith, nat_tests, reply-snoc limits h (Read e n) (length h), reply_past limits h (length h))

resting_view : (limits : Limits) (t : ThreadNo) (L : List Entry) (s : ThreadState) → ThreadRefines limits t L s → is_running (view limits L).mode ≡ false → view limits s.thread.history ≡ view limits L
resting_view limits t L s k r =
    let none : s.steps ≡ [] = k.rests r in
    ap (view limits) (sym (append-nil s.thread.history) ∙ ap (λ z. s.thread.history ++ steps_of z) (sym none)) ∙ ap (λ (z : HistoryState). z.view) (sym k.alike.state)

read_tells : (limits : Limits) (L h : List Entry) (e : EnvNo) (n : ℤ) (r : Option TiError) → (r ≡ None → view limits h ≡ view limits L)
    → read_outcome r (reply limits (h ++ if_none r (Read e n ∷ [])) (length h)) ≡ read_outcome r (reply limits (L ++ if_none r (Read e n ∷ [])) (length L))
read_tells limits L h e n None q = ap given (read_at_once limits h e n ∙ ap (λ v. Some (stack_of v n)) (q refl) ∙ sym (read_at_once limits L e n))
read_tells limits L h e n (Some error) q = refl

pub read_told_is : (limits : Limits) (t u : ThreadNo) (L : List Entry) (s : ThreadState) (e : EnvNo) (n : ℤ) → ThreadRefines limits t L s
    → read_told s.thread.limits s e s.thread.number n
    ≡ read_outcome (stopping_refusal (view limits L) (event.Read e u n)) (reply limits (L ++ if_none (stopping_refusal (view limits L) (event.Read e u n)) (Read e n ∷ [])) (length L))
read_told_is limits t u L s e n k =
    let h = s.thread.history in
    let r = stopping_refusal (view limits L) (event.Read e u n) in
    let told = read_tells limits L h e n r (λ q. resting_view limits t L s k (free_read limits u L e n q)) in
    subst (λ l. read_told l s e s.thread.number n ≡ read_outcome r (reply limits (L ++ if_none r (Read e n ∷ [])) (length L))) (sym k.limits_are)
    (subst (λ q. read_outcome q (reply limits (h ++ if_none q (Read e n ∷ [])) (length h)) ≡ read_outcome r (reply limits (L ++ if_none r (Read e n ∷ [])) (length L))) (sym (read_same limits t u L s e n k)) told)

-- what is said of a call that is asked now
ask_tells : (limits : Limits) (t : ThreadNo) (L : List Entry) (s : ThreadState) (e : EnvNo) (n m : ℕ) (call : Call) → ThreadRefines limits t L s
    → reply limits (s.thread.history ++ Asked e n call ∷ []) (length s.thread.history) ≡ reply limits (L ++ Asked e m call ∷ []) (length L)
ask_tells limits t L s e n m call k =
    let h = s.thread.history in
    let r = slot_runs limits t L s k in
    elim (cases_Bool (waits call && is_running (view limits L).mode)) [
      | inl late ↦ reply_later limits h e n call (ap (λ b. waits call && b) r ∙ late) ∙ sym (reply_later limits L e m call late)
      | inr now ↦
          reply_at_once limits h e n call (ap (λ b. waits call && b) r ∙ now) ∙ ap Some (ask_answers limits t L s e call k now) ∙ sym (reply_at_once limits L e m call now)
    ]
  where
    ask_answers : (limits : Limits) (t : ThreadNo) (L : List Entry) (s : ThreadState) (e : EnvNo) (call : Call) → ThreadRefines limits t L s → (waits call && is_running (view limits L).mode) ≡ false
        → answer_of (view limits s.thread.history) e call ≡ answer_of (view limits L) e call
    ask_answers limits t L s e call k now =
        elim (cases_Bool (is_running (view limits L).mode)) [
          | inl runs ↦
              let w : waits call ≡ false = grind (arith, now, runs) in
              sym (logged_answer limits s.thread.history s.steps e call w) ∙ ap (λ (z : HistoryState). answer_of z.view e call) (sym k.alike.state)
          | inr rests ↦ ap (λ v. answer_of v e call) (resting_view limits t L s k rests)
        ]

pub ask_told_is : (limits : Limits) (t : ThreadNo) (L : List Entry) (s : ThreadState) (e : EnvNo) (call : Call) → ThreadRefines limits t L s
    → given (reply_now s.thread.limits s e call) ≡ given (reply limits (L ++ Asked e (asked_by e L) call ∷ []) (length L))
ask_told_is limits t L s e call k =
    subst (λ l. given (reply_now l s e call) ≡ given (reply limits (L ++ Asked e (asked_by e L) call ∷ []) (length L))) (sym k.limits_are)
    (ap given (ask_tells limits t L s e (asked_by e s.thread.history) (asked_by e L) call k))

asked_one_more : (e : EnvNo) (h : List Entry) (call : Call) → asked_by e (h ++ Asked e (asked_by e h) call ∷ []) ≡ asked_by e h + 1
asked_one_more e h call = let q = sum_by-append (ask_count e) h (Asked e (asked_by e h) call ∷ []) in grind (arith, nat_tests, q)

same_asks : (u k : Ticket) (h : List Entry) → same k u ≡ true → asked_by k.env h ≡ asked_by u.env h
same_asks u k h q = let z : k.env.0 ≡ u.env.0 = grind (arith, nat_tests, q) in let e : k.env ≡ u.env = ap (λ (n : ℕ). record { 0 = n }) z in ap (λ v. asked_by v h) e

same_no : (u k : Ticket) → same k u ≡ true → k.no ≡ u.no
same_no u k q = grind (arith, nat_tests, q)

-- the tickets after a call
ask_known : (s : ThreadState) (e : EnvNo) (call : Call) (r : Option Answer) → ((u : Ticket) → has u s.thread.uncollected ≡ true → u.no < asked_by u.env s.thread.history)
    → (u : Ticket) → has u (tickets_after s.thread e r) ≡ true → u.no < asked_by u.env (s.thread.history ++ next_asked s.thread e call ∷ [])
ask_known s e call (Some a) k u h = omega (arith, k u h, asked_more u.env s.thread.history (next_asked s.thread e call ∷ []))
ask_known s e call None k u h =
    let ticket = ticket_of s.thread e in
    elim (cases_Bool (has u s.thread.uncollected)) [
      | inl old ↦ omega (arith, k u old, asked_more u.env s.thread.history (next_asked s.thread e call ∷ []))
      | inr new ↦
          let q : same ticket u ≡ true = (let j = list_any-append (λ v. same v u) s.thread.uncollected (ticket ∷ []) in grind (arith, h, new, j)) in
          let a = same_asks u ticket s.thread.history q in
          let b = same_asks u ticket (s.thread.history ++ next_asked s.thread e call ∷ []) q in
          omega (arith, same_no u ticket q, a, b, asked_one_more e s.thread.history call)
    ]

-- the next ticket is none that was given out
pub fresh_ticket : (s : ThreadState) (e : EnvNo) → ((u : Ticket) → has u s.thread.uncollected ≡ true → u.no < asked_by u.env s.thread.history) → has (ticket_of s.thread e) s.thread.uncollected ≡ false
fresh_ticket s e k =
    elim (cases_Bool (has (ticket_of s.thread e) s.thread.uncollected)) [
      | inl there ↦ let q = k (ticket_of s.thread e) there in absurd (omega (arith, q))
      | inr not_there ↦ not_there
    ]

same_sym : (u v : Ticket) → same v u ≡ same u v
same_sym u v = grind (arith, nat_tests)

pub once_more : (ts : List Ticket) (u : Ticket) → AreOnce ts → has u ts ≡ false → AreOnce (ts ++ u ∷ [])
once_more [] u h f = (refl, tt)
once_more (t ∷ ts) u h f =
    let a : has t (ts ++ u ∷ []) ≡ false = (let j = list_any-append (λ v. same v t) ts (u ∷ []) in let s = same_sym u t in grind (arith, h.0, f, j, s)) in
    let b : has u ts ≡ false = grind (arith, f) in
    (a, once_more ts u h.1 b)

ask_once : (s : ThreadState) (e : EnvNo) (r : Option Answer) → AreOnce s.thread.uncollected → has (ticket_of s.thread e) s.thread.uncollected ≡ false → AreOnce (tickets_after s.thread e r)
ask_once s e None h f = once_more s.thread.uncollected (ticket_of s.thread e) h f
ask_once s e (Some a) h f = h

pub has_fewer : (u k : Ticket) (ts : List Ticket) → has u ts ≡ false → has u (without_ticket k ts) ≡ false
has_fewer u k [] h = h
has_fewer u k (x ∷ ts) h = grind (arith, h, has_fewer u k ts)

once_without : (k : Ticket) (ts : List Ticket) → AreOnce ts → AreOnce (without_ticket k ts)
once_without k [] h = h
once_without k (x ∷ ts) h =
    elim (cases_Bool (same x k)) [
      | inl here ↦ rw here h.1
      | inr away ↦ rw away (has_fewer x k ts h.0, once_without k ts h.1)
    ]

pub taken_once : (s : ThreadState) (ticket : Ticket) (found : Bool) → AreOnce s.thread.uncollected → AreOnce (taken s ticket found).thread.uncollected
taken_once s ticket true h = once_without ticket s.thread.uncollected h
taken_once s ticket false h = h

pub ask_stands : (limits : Limits) (t : ThreadNo) (L : List Entry) (s : ThreadState) (e : EnvNo) (call : Call) → ThreadRefines limits t L s → e.0 < limits.envs
    → ThreadRefines limits t (L ++ Asked e (asked_by e L) call ∷ []) (ask_next s.thread.limits s e call)
ask_stands limits t L s e call k there =
    let n = asked_same limits t L s e k there in
    let x = Asked e (asked_by e s.thread.history) call in
    let same_x : x ≡ Asked e (asked_by e L) call = ap (λ m. Asked e m call) n in
    subst (λ l. ThreadRefines limits t (L ++ Asked e (asked_by e L) call ∷ []) (ask_next l s e call)) (sym k.limits_are)
    (subst (λ y. ThreadRefines limits t (L ++ y ∷ []) (ask_next limits s e call)) same_x (record {
      limits_are = k.limits_are;
      number_is = k.number_is;
      alike = passed_alike limits t L s x k refl;
      rests = passed_rests limits L s x refl k.rests;
      once = ask_once s e (reply_now limits s e call) k.once (fresh_ticket s e k.known);
      known = ask_known s e call (reply_now limits s e call) k.known;
    }))

-- an answer that is taken changes nothing that a history tells
fewer : (u k : Ticket) (ts : List Ticket) → has u (without_ticket k ts) ≡ true → has u ts ≡ true
fewer u k [] h = h
fewer u k (x ∷ ts) h = grind (arith, h, fewer u k ts)

taken_known : (s : ThreadState) (k : Ticket) (found : Bool) (u : Ticket) → has u (taken s k found).thread.uncollected ≡ true → has u s.thread.uncollected ≡ true
taken_known s k true u h = fewer u k s.thread.uncollected h
taken_known s k false u h = h

pub taken_stands : (limits : Limits) (t : ThreadNo) (L : List Entry) (s : ThreadState) (ticket : Ticket) (found : Bool) → ThreadRefines limits t L s → ThreadRefines limits t L (taken s ticket found)
taken_stands limits t L s ticket found k = record {
  limits_are = k.limits_are;
  number_is = k.number_is;
  alike = k.alike;
  rests = k.rests;
  once = taken_once s ticket found k.once;
  known = λ u h. k.known u (taken_known s ticket found u h);
}
