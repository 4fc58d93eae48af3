-- How one thread of a core goes on with an event of its own.
use Rattle.std.proofs.Common.{◌≡◌, ◌≤◌, true, false, List, [], ◌∷◌, ◌++◌, length, map, refl, ap, sym, subst, ◌∙◌, arith, Some, None, append_assoc, append-nil, inl, inr}
use Rattle.std.proofs.lemmas.Bool.{cases_Bool}
use Rattle.std.proofs.lemmas.List.Sums.{sum_by-append}
use Rattle.ti_types.specs.declared.limits.Limits.{Limits}
use Rattle.ti_types.specs.declared.numbers.EnvNo.{EnvNo}
use Rattle.ti_types.specs.declared.numbers.ThreadNo.{ThreadNo}
use Rattle.ti_types.specs.declared.state.Safe.TheVariants.{AtPoll}
use Rattle.ti_types.specs.declared.entry.Entry.{Entry}
use Rattle.ti_types.specs.declared.entry.Entry.TheVariants.{Start, Own, Hand, Back, End, Asked, Stop, Read, Go}
use Rattle.ti_replay.specs.Answers.{is_running}
use Rattle.ti_replay.specs.Settling.{unanswered}
use Rattle.ti_replay.specs.View.{view, is_barred}
use Rattle.ti_replay.specs.Legal.{is_armed, own_spent, asked_by, ask_count}
use Rattle.ti_replay.specs.Refusals.{own_refusal}
use Rattle.ti_replay.specs.Events.{left_own, left_by_poll, if_none, own_outcome, poll_outcome, done_unless}
use Rattle.ti_replay.specs.HistoryState.{HistoryState}
use Rattle.ti_replay.specs.LateTickets.{AreAlike, steps_of}
use Rattle.ti_replay.proofs.LateTicketLaws.{alike-snoc}
use Rattle.ti_slot.specs.Tickets.{has, AreOnce}
use Rattle.ti_core.specs.Thread.{ThreadState, entries, seen, entered, at_poll, refusal_at, entered_unless, own_next, poll_next, poll_said}
use Rattle.ti_core.specs.Refines.{ThreadRefines}
use Rattle.ti_core.proofs.WholeLaws.{runs-snoc}
use Rattle.ti_core.proofs.PollLaws.{entries-snoc, handed_at}

entered_limits : (s : ThreadState) (x : Entry) → (entered s x).thread.limits ≡ s.thread.limits
entered_limits s Start = refl
entered_limits s (Own step) = refl
entered_limits s (Hand safe) = refl
entered_limits s Back = refl
entered_limits s End = refl
entered_limits s (Asked env n call) = refl
entered_limits s (Stop env) = refl
entered_limits s (Read env n) = refl
entered_limits s (Go env) = refl

entered_number : (s : ThreadState) (x : Entry) → (entered s x).thread.number ≡ s.thread.number
entered_number s Start = refl
entered_number s (Own step) = refl
entered_number s (Hand safe) = refl
entered_number s Back = refl
entered_number s End = refl
entered_number s (Asked env n call) = refl
entered_number s (Stop env) = refl
entered_number s (Read env n) = refl
entered_number s (Go env) = refl

pub entered_tickets : (s : ThreadState) (x : Entry) → (entered s x).thread.uncollected ≡ s.thread.uncollected
entered_tickets s Start = refl
entered_tickets s (Own step) = refl
entered_tickets s (Hand safe) = refl
entered_tickets s Back = refl
entered_tickets s End = refl
entered_tickets s (Asked env n call) = refl
entered_tickets s (Stop env) = refl
entered_tickets s (Read env n) = refl
entered_tickets s (Go env) = refl

-- a longer history has asked no less
pub asked_more : (env : EnvNo) (h more : List Entry) → asked_by env h ≤ asked_by env (h ++ more)
asked_more env h more = omega (arith, sum_by-append (ask_count env) h more)

entered_asked : (env : EnvNo) (s : ThreadState) (x : Entry) → asked_by env s.thread.history ≤ asked_by env (entered s x).thread.history
entered_asked env s Start = asked_more env s.thread.history (steps_of s.steps ++ Start ∷ [])
entered_asked env s (Own step) = omega arith
entered_asked env s (Hand safe) = asked_more env s.thread.history (steps_of s.steps ++ Hand safe ∷ [])
entered_asked env s Back = asked_more env s.thread.history (steps_of s.steps ++ Back ∷ [])
entered_asked env s End = asked_more env s.thread.history (steps_of s.steps ++ End ∷ [])
entered_asked env s (Asked e n call) = asked_more env s.thread.history (steps_of s.steps ++ Asked e n call ∷ [])
entered_asked env s (Stop e) = asked_more env s.thread.history (steps_of s.steps ++ Stop e ∷ [])
entered_asked env s (Read e n) = asked_more env s.thread.history (steps_of s.steps ++ Read e n ∷ [])
entered_asked env s (Go e) = asked_more env s.thread.history (steps_of s.steps ++ Go e ∷ [])

-- a thread whose last entry is no step has logged nothing
entered_rests : (limits : Limits) (L : List Entry) (s : ThreadState) (x : Entry) → own_refusal limits (view limits L) (own_spent L) x ≡ None → is_running (view limits (L ++ x ∷ [])).mode ≡ false → (entered s x).steps ≡ []
entered_rests limits L s (Own step) r h =
    let runs : is_running (view limits L).mode ≡ true = grind (arith, r) in
    let o : true ≡ false = sym runs ∙ sym (runs-snoc limits L (Own step)) ∙ h in
    cc
entered_rests limits L s Start r h = refl
entered_rests limits L s (Hand safe) r h = refl
entered_rests limits L s Back r h = refl
entered_rests limits L s End r h = refl
entered_rests limits L s (Asked env n call) r h = refl
entered_rests limits L s (Stop env) r h = refl
entered_rests limits L s (Read env n) r h = refl
entered_rests limits L s (Go env) r h = refl

-- one more entry of the thread's own
pub entered_stands : (limits : Limits) (t : ThreadNo) (L : List Entry) (s : ThreadState) (x : Entry) → ThreadRefines limits t L s → own_refusal limits (view limits L) (own_spent L) x ≡ None
    → ThreadRefines limits t (L ++ x ∷ []) (entered s x)
entered_stands limits t L s x k r = record {
  limits_are = entered_limits s x ∙ k.limits_are;
  number_is = entered_number s x ∙ k.number_is;
  alike = rw (entries-snoc s x) (alike-snoc limits L (entries s) x k.alike);
  rests = entered_rests limits L s x r;
  once = subst AreOnce (sym (entered_tickets s x)) k.once;
  known = λ u h.
      let old : has u s.thread.uncollected ≡ true = subst (λ ts. has u ts ≡ true) (entered_tickets s x) h in
      omega (arith, k.known u old, entered_asked u.env s x);
}

-- what the thread refuses is what the definitions refuse
pub same_refusal : (limits : Limits) (t : ThreadNo) (L : List Entry) (s : ThreadState) (x : Entry) → ThreadRefines limits t L s → refusal_at limits s x ≡ own_refusal limits (view limits L) (own_spent L) x
same_refusal limits t L s x k = ap (λ (z : HistoryState). own_refusal limits z.view z.own x) (sym k.alike.state)

pub own_stands : (limits : Limits) (t : ThreadNo) (L : List Entry) (s : ThreadState) (x : Entry) → ThreadRefines limits t L s
    → ThreadRefines limits t (L ++ left_own limits L (Some x)) (own_next s.thread.limits s x)
own_stands limits t L s x k =
    let e = same_refusal limits t L s x k in
    subst (λ l. ThreadRefines limits t (L ++ left_own limits L (Some x)) (own_next l s x)) (sym k.limits_are) (elim (own_refusal limits (view limits L) (own_spent L) x)
    as (λ o. own_refusal limits (view limits L) (own_spent L) x ≡ o → refusal_at limits s x ≡ o → ThreadRefines limits t (L ++ if_none o (x ∷ [])) (entered_unless (refusal_at limits s x) s x)) [
      | None ↦ λ p r. rw r (entered_stands limits t L s x k p)
      | Some error ↦ λ p r. rw (r, append-nil) k
    ] refl e)

pub own_told : (limits : Limits) (t : ThreadNo) (L : List Entry) (s : ThreadState) (x : Entry) → ThreadRefines limits t L s
    → done_unless (refusal_at s.thread.limits s x) ≡ own_outcome limits L (Some x)
own_told limits t L s x k = subst (λ l. done_unless (refusal_at l s x) ≡ own_outcome limits L (Some x)) (sym k.limits_are) (ap done_unless (same_refusal limits t L s x k))

bare_length : {X Y : Type 0} (f : X → Y) (xs : List X) → length (map f xs) ≡ length xs
bare_length f [] = refl
bare_length f (x ∷ xs) = grind (arith, bare_length f xs)

pub alike_armed : (limits : Limits) (a b : List Entry) → AreAlike limits a b → is_armed limits a ≡ is_armed limits b
alike_armed limits a b k =
    let n : length (unanswered a) ≡ length (unanswered b) =
    sym (bare_length (λ p. p.1) (unanswered a)) ∙ ap (λ (z : HistoryState). length z.waiting) k.state ∙ bare_length (λ p. p.1) (unanswered b) in
    let v = ap (λ (z : HistoryState). z.view.stopper) k.state in
    grind (arith, n, v)

-- what a poll leaves
pub poll_stands : (limits : Limits) (t : ThreadNo) (L : List Entry) (s : ThreadState) → ThreadRefines limits t L s → ThreadRefines limits t (L ++ left_by_poll limits L) (poll_next s.thread.limits s)
poll_stands limits t L s k =
    let v : view limits (entries s) ≡ view limits L = ap (λ (z : HistoryState). z.view) (sym k.alike.state) in
    let a = alike_armed limits L (entries s) k.alike in
    subst (λ l. ThreadRefines limits t (L ++ left_by_poll limits L) (poll_next l s)) (sym k.limits_are) (elim (cases_Bool (is_running (view limits L).mode)) [
      | inl runs ↦
          let rs : is_running (seen limits s).mode ≡ true = ap (λ z. is_running z.mode) v ∙ runs in
          elim (cases_Bool (is_armed limits L)) [
            | inl armed ↦
                let as' : is_armed limits (entries s) ≡ true = sym a ∙ armed in
                let free : own_refusal limits (view limits L) (own_spent L) (Hand AtPoll) ≡ None = grind (arith, runs) in
                let one = entered_stands limits t L s (Hand AtPoll) k free in
                let w : seen limits (at_poll s) ≡ view limits (L ++ Hand AtPoll ∷ []) = ap (λ (z : HistoryState). z.view) (sym one.alike.state) in
                elim (cases_Bool (is_barred (view limits (L ++ Hand AtPoll ∷ [])))) [
                  | inl barred ↦
                      let bs : is_barred (seen limits (at_poll s)) ≡ true = ap is_barred w ∙ barred in
                      rw (rs, as', bs, runs, armed, barred) one
                  | inr open_ ↦
                      let bs : is_barred (seen limits (at_poll s)) ≡ false = ap is_barred w ∙ open_ in
                      let free2 : own_refusal limits (view limits (L ++ Hand AtPoll ∷ [])) (own_spent (L ++ Hand AtPoll ∷ [])) Back ≡ None = back_free limits L open_ in
                      let two = entered_stands limits t (L ++ Hand AtPoll ∷ []) (at_poll s) Back one free2 in
                      rw (rs, as', bs, runs, armed, open_) (rw (append_assoc L (Hand AtPoll ∷ []) (Back ∷ [])) at two)
                ]
            | inr calm ↦
                let as' : is_armed limits (entries s) ≡ false = sym a ∙ calm in
                rw (rs, as', runs, calm, append-nil) k
          ]
      | inr rests ↦
          let rs : is_running (seen limits s).mode ≡ false = ap (λ z. is_running z.mode) v ∙ rests in
          rw (rs, rests, append-nil) k
    ])
  where
    back_free : (limits : Limits) (L : List Entry) → is_barred (view limits (L ++ Hand AtPoll ∷ [])) ≡ false → own_refusal limits (view limits (L ++ Hand AtPoll ∷ [])) (own_spent (L ++ Hand AtPoll ∷ [])) Back ≡ None
    back_free limits L b = let m = handed_at limits L AtPoll in grind (arith, m, b)

pub poll_told : (limits : Limits) (t : ThreadNo) (L : List Entry) (s : ThreadState) → ThreadRefines limits t L s → poll_said s.thread.limits s ≡ poll_outcome limits L
poll_told limits t L s k =
    let v : view limits (entries s) ≡ view limits L = ap (λ (z : HistoryState). z.view) (sym k.alike.state) in
    let a = alike_armed limits L (entries s) k.alike in
    let more = alike-snoc limits L (entries s) (Hand AtPoll) k.alike in
    let w : seen limits (at_poll s) ≡ view limits (L ++ Hand AtPoll ∷ []) = ap (view limits) (entries-snoc s (Hand AtPoll)) ∙ ap (λ (z : HistoryState). z.view) (sym more.state) in
    subst (λ l. poll_said l s ≡ poll_outcome limits L) (sym k.limits_are) (grind (arith, v, a, w))
