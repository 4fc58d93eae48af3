-- A refused event changes nothing.
use Rattle.std.proofs.Common.{◌≡◌, ◌+◌, ℕ, ℤ, ◌<◌, Bool, true, false, cond, ◌&&◌, ◌||◌, nat_lt, is_none, List, [], ◌∷◌, ◌++◌, length, refl, ap, sym, ◌∙◌, arith, Option, Some, None, append-nil, inl, inr}
use Rattle.std.proofs.lemmas.Bool.{cases_Bool}
use Rattle.std.proofs.lemmas.Bool.Decides.{nat_tests}
use Rattle.std.proofs.lemmas.List.Sums.{fold-append}
use Rattle.ti_types.specs.declared.limits.Limits.{Limits}
use Rattle.ti_types.specs.declared.numbers.EnvNo.{EnvNo}
use Rattle.ti_types.specs.declared.numbers.ThreadNo.{ThreadNo}
use Rattle.ti_types.specs.declared.caps.Caps.{Caps}
use Rattle.ti_types.specs.declared.call.Call.{Call}
use Rattle.ti_types.specs.declared.state.Safe.TheVariants.{Native, Blocked}
use Rattle.ti_types.specs.declared.entry.Entry.{Entry}
use Rattle.ti_types.specs.declared.entry.Entry.TheVariants as entry
use Rattle.ti_types.specs.declared.error.TiError.{TiError}
use Rattle.ti_types.specs.declared.event.Event.{Event}
use Rattle.ti_types.specs.declared.event.Event.TheVariants.{Start, Own, Poll, ToNative, ToBlocked, Back, End, Ask, Stop, Read, Go, AddCaps, Relinquish, GetCaps, SetEnvWord, GetEnvWord}
use Rattle.ti_types.specs.declared.answer.Answer.{Answer}
use Rattle.ti_types.specs.declared.answer.Answer.TheVariants as answer
use Rattle.ti_types.specs.declared.view.ThreadView.{ThreadView}
use Rattle.ti_replay.specs.Answers.{answer_of, is_running}
use Rattle.ti_replay.specs.Legal.{asked_by, own_spent}
use Rattle.ti_replay.specs.Laws.{is_done, changed}
use Rattle.ti_replay.specs.Refusals.{own_refusal}
use Rattle.ti_replay.specs.Replies.{reply}
use Rattle.ti_replay.specs.Settling.{unanswered, waits}
use Rattle.ti_replay.specs.View.{view, called}
use Rattle.ti_replay.specs.Admission.{Happening, dealings, dealings_by, refusal, caps_after, agent_of, is_aimed_at, is_by, is_own_of, is_paid}
use Rattle.ti_replay.specs.Events.{left_by, left_own, if_none, history_of, reaches, done_unless, gave_unless, given, outcome_there, stopping_refusal, read_outcome}
use Rattle.ti_replay.specs.Outcomes.{out_of, env_word, env_word_after, word_set}
use Rattle.ti_replay.proofs.AgreementLaws.{history_of-snoc, dealings-snoc, dealings_is, out_there}
use Rattle.ti_replay.proofs.AskingLaws.{reply-snoc}
use Rattle.ti_replay.proofs.DoneLaws.{change_where_done}
use Rattle.ti_replay.proofs.HistoryLaws.{view-snoc, unanswered-snoc}
use Rattle.ti_replay.proofs.PlaceLaws.{reply_at_once, reply_later, reply_past}
use Rattle.ti_replay.specs.Refused.{is_refusal, asked_entry, asked_there, cost_there, RefusalsKeep}

-- what is leftbehind a history is the entry of a call, which changes nothing and does not wait
record LeavesAll (limits : Limits) (history : List Entry) (event : Event) : Type 0 where
  entries : left_by limits history event ≡ asked_entry history event
  view : view limits (history ++ left_by limits history event) ≡ view limits history
  waiting : unanswered (history ++ left_by limits history event) ≡ unanswered history

nothing : (limits : Limits) (history : List Entry) (event : Event) → left_by limits history event ≡ [] → asked_entry history event ≡ [] → LeavesAll limits history event
nothing limits history event h k =
    let e : history ++ left_by limits history event ≡ history = ap (λ l. history ++ l) h ∙ append-nil history in
    record { entries = h ∙ sym k; view = ap (view limits) e; waiting = ap unanswered e }

none_left : (r : Option TiError) (entries : List Entry) → is_refusal (done_unless r) ≡ true → if_none r entries ≡ []
none_left None entries h = cc
none_left (Some error) entries h = refl

none_held : (r : Option TiError) (entries : List Entry) → is_refusal (gave_unless r) ≡ true → if_none r entries ≡ []
none_held None entries h = cc
none_held (Some error) entries h = refl

own_leaves : (limits : Limits) (history : List Entry) (x : Entry) → is_refusal (done_unless (own_refusal limits (view limits history) (own_spent history) x)) ≡ true → left_own limits history (Some x) ≡ []
own_leaves limits history x h = none_left (own_refusal limits (view limits history) (own_spent history) x) (x ∷ []) h

-- an answer that is a refusal is not that the call is done
refused_not_done : (a : Answer) → is_refusal (given (Some a)) ≡ true → is_done a ≡ false
refused_not_done answer.Done h = cc
refused_not_done (answer.State b) h = refl
refused_not_done (answer.Count n) h = refl
refused_not_done (answer.Trace b) h = refl
refused_not_done (answer.Location f) h = refl
refused_not_done (answer.Word w) h = refl
refused_not_done (answer.Caps c) h = refl
refused_not_done (answer.Stack b f) h = refl
refused_not_done (answer.Refused error) h = refl

not_changed : (v : ThreadView) (e : EnvNo) (call : Call) → is_done (answer_of v e call) ≡ false → called v e call ≡ v
not_changed v e call h = change_where_done v e call ∙ ap (λ b. cond b (changed v e call) v) h

-- a call that is refused
ask_leaves : (limits : Limits) (history : List Entry) (e : EnvNo) (t : ThreadNo) (call : Call)
    → is_refusal (given (reply limits (history ++ entry.Asked e (asked_by e history) call ∷ []) (length history))) ≡ true → LeavesAll limits history (Ask e t call)
ask_leaves limits history e t call h =
    let v = view limits history in
    let x = entry.Asked e (asked_by e history) call in
    elim (cases_Bool (waits call && is_running v.mode)) [
      | inl later ↦
          let r : is_refusal None ≡ true = sym (ap (λ a. is_refusal (given a)) (reply_later limits history e (asked_by e history) call later)) ∙ h in
          cc
      | inr now ↦
          let r : is_refusal (given (Some (answer_of v e call))) ≡ true = sym (ap (λ a. is_refusal (given a)) (reply_at_once limits history e (asked_by e history) call now)) ∙ h in
          let c = not_changed v e call (refused_not_done (answer_of v e call) r) in
          record {
            entries = refl;
            view = view-snoc limits history x ∙ rw now c;
            waiting = unanswered-snoc limits history x ∙ rw now refl;
          }
    ]

-- the reply to a read that took place is no refusal
read_given : (limits : Limits) (history : List Entry) (e : EnvNo) (n : ℤ) → is_refusal (given (reply limits (history ++ entry.Read e n ∷ []) (length history))) ≡ false
read_given limits history e n = grind (arith, nat_tests, reply-snoc limits history (entry.Read e n) (length history), reply_past limits history (length history))

read_leaves : (limits : Limits) (history : List Entry) (e : EnvNo) (t : ThreadNo) (n : ℤ) (r : Option TiError)
    → is_refusal (read_outcome r (reply limits (history ++ if_none r (entry.Read e n ∷ [])) (length history))) ≡ true → if_none r (entry.Read e n ∷ []) ≡ []
read_leaves limits history e t n None h = let g = read_given limits history e n in let q : true ≡ false = sym h ∙ g in cc
read_leaves limits history e t n (Some error) h = refl

poll_leaves : (limits : Limits) (history : List Entry) (t : ThreadNo) → is_refusal (outcome_there limits (history ++ left_by limits history (Poll t)) history (Poll t)) ≡ true → left_by limits history (Poll t) ≡ []
poll_leaves limits history t h = grind (arith, h)

-- what a refused event leaves
left_refused : (limits : Limits) (history : List Entry) (event : Event) → is_refusal (outcome_there limits (history ++ left_by limits history event) history event) ≡ true → LeavesAll limits history event
left_refused limits history (Start t) h = nothing limits history (Start t) (own_leaves limits history entry.Start h) refl
left_refused limits history (Own t step) h = nothing limits history (Own t step) (own_leaves limits history (entry.Own step) h) refl
left_refused limits history (Poll t) h = nothing limits history (Poll t) (poll_leaves limits history t h) refl
left_refused limits history (ToNative t) h = nothing limits history (ToNative t) (own_leaves limits history (entry.Hand Native) h) refl
left_refused limits history (ToBlocked t kind) h = nothing limits history (ToBlocked t kind) (own_leaves limits history (entry.Hand (Blocked kind)) h) refl
left_refused limits history (Back t) h = nothing limits history (Back t) (own_leaves limits history entry.Back h) refl
left_refused limits history (End t) h = nothing limits history (End t) (own_leaves limits history entry.End h) refl
left_refused limits history (Ask e t call) h = ask_leaves limits history e t call h
left_refused limits history (Stop e t) h = nothing limits history (Stop e t) (none_held (stopping_refusal (view limits history) (Stop e t)) (entry.Stop e ∷ []) h) refl
left_refused limits history (Read e t n) h = nothing limits history (Read e t n) (read_leaves limits history e t n (stopping_refusal (view limits history) (Read e t n)) h) refl
left_refused limits history (Go e t) h = nothing limits history (Go e t) (none_held (stopping_refusal (view limits history) (Go e t)) (entry.Go e ∷ []) h) refl
left_refused limits history (AddCaps e caps) h = nothing limits history (AddCaps e caps) refl refl
left_refused limits history (Relinquish e caps) h = nothing limits history (Relinquish e caps) refl refl
left_refused limits history (GetCaps e) h = nothing limits history (GetCaps e) refl refl
left_refused limits history (SetEnvWord e w) h = nothing limits history (SetEnvWord e w) refl refl
left_refused limits history (GetEnvWord e) h = nothing limits history (GetEnvWord e) refl refl

-- an event that reaches a thread comes to what it comes to there
reached_out : (limits : Limits) (t : ThreadNo) (events : List Happening) (h : Happening) → reaches limits t events h ≡ true
    → out_of limits (events ++ h ∷ []) events h ≡ outcome_there limits (history_of limits t events ++ left_by limits (history_of limits t events) h.event) (history_of limits t events) h.event
reached_out limits t events h on =
    let whole : history_of limits t (events ++ h ∷ []) ≡ history_of limits t events ++ left_by limits (history_of limits t events) h.event =
    history_of-snoc limits t events h ∙ ap (λ b. cond b (history_of limits t events ++ left_by limits (history_of limits t events) h.event) (history_of limits t events)) on in
    let there = out_there limits t (events ++ h ∷ []) events h.wanting h.event in
    grind (arith, on, whole, there)

-- one thread after a refused event
record ThreadUnchanged (limits : Limits) (t : ThreadNo) (events : List Happening) (h : Happening) : Type 0 where
  view : view limits (history_of limits t (events ++ h ∷ [])) ≡ view limits (history_of limits t events)
  waiting : unanswered (history_of limits t (events ++ h ∷ [])) ≡ unanswered (history_of limits t events)
  history : history_of limits t (events ++ h ∷ []) ≡ history_of limits t events ++ asked_there limits t events h

thread_unchanged : (limits : Limits) (t : ThreadNo) (events : List Happening) (h : Happening) → is_refusal (out_of limits (events ++ h ∷ []) events h) ≡ true → ThreadUnchanged limits t events h
thread_unchanged limits t events h refused =
    let l = history_of limits t events in
    let step = history_of-snoc limits t events h in
    elim (cases_Bool (reaches limits t events h)) [
      | inl on ↦
          let e : history_of limits t (events ++ h ∷ []) ≡ l ++ left_by limits l h.event = step ∙ ap (λ b. cond b (l ++ left_by limits l h.event) l) on in
          let k = left_refused limits l h.event (ap is_refusal (sym (reached_out limits t events h on)) ∙ refused) in
          record {
            view = ap (view limits) e ∙ k.view;
            waiting = ap unanswered e ∙ k.waiting;
            history = e ∙ ap (λ x. l ++ x) (k.entries ∙ sym (ap (λ b. cond b (asked_entry l h.event) []) on));
          }
      | inr off ↦
          let e : history_of limits t (events ++ h ∷ []) ≡ l = step ∙ ap (λ b. cond b (l ++ left_by limits l h.event) l) off in
          record {
            view = ap (view limits) e;
            waiting = ap unanswered e;
            history = e ∙ sym (append-nil l) ∙ ap (λ x. l ++ x) (sym (ap (λ b. cond b (asked_entry l h.event) []) off));
          }
    ]

caps_kept : (limits : Limits) (e : EnvNo) (all events : List Happening) (held : Caps) (w : Bool) (event : Event) → e.0 < limits.envs
    → is_refusal (out_of limits all events (record { event = event; wanting = w })) ≡ true → caps_after e held event ≡ held
caps_kept limits e all events held w (AddCaps f caps) there h = grind (arith, nat_tests, h, there)
caps_kept limits e all events held w (Relinquish f caps) there h = grind (arith, nat_tests, h, there)
caps_kept limits e all events held w (Start t) there h = refl
caps_kept limits e all events held w (Own t step) there h = refl
caps_kept limits e all events held w (Poll t) there h = refl
caps_kept limits e all events held w (ToNative t) there h = refl
caps_kept limits e all events held w (ToBlocked t kind) there h = refl
caps_kept limits e all events held w (Back t) there h = refl
caps_kept limits e all events held w (End t) there h = refl
caps_kept limits e all events held w (Ask f t call) there h = refl
caps_kept limits e all events held w (Stop f t) there h = refl
caps_kept limits e all events held w (Read f t n) there h = refl
caps_kept limits e all events held w (Go f t) there h = refl
caps_kept limits e all events held w (GetCaps f) there h = refl
caps_kept limits e all events held w (SetEnvWord f v) there h = refl
caps_kept limits e all events held w (GetEnvWord f) there h = refl

word_kept : (limits : Limits) (e : EnvNo) (all events : List Happening) (word : ℕ) (w : Bool) (event : Event) → e.0 < limits.envs
    → is_refusal (out_of limits all events (record { event = event; wanting = w })) ≡ true → word_set e word event ≡ word
word_kept limits e all events word w (SetEnvWord f v) there h = grind (arith, nat_tests, h, there)
word_kept limits e all events word w (AddCaps f caps) there h = refl
word_kept limits e all events word w (Relinquish f caps) there h = refl
word_kept limits e all events word w (Start t) there h = refl
word_kept limits e all events word w (Own t step) there h = refl
word_kept limits e all events word w (Poll t) there h = refl
word_kept limits e all events word w (ToNative t) there h = refl
word_kept limits e all events word w (ToBlocked t kind) there h = refl
word_kept limits e all events word w (Back t) there h = refl
word_kept limits e all events word w (End t) there h = refl
word_kept limits e all events word w (Ask f t call) there h = refl
word_kept limits e all events word w (Stop f t) there h = refl
word_kept limits e all events word w (Read f t n) there h = refl
word_kept limits e all events word w (Go f t) there h = refl
word_kept limits e all events word w (GetCaps f) there h = refl
word_kept limits e all events word w (GetEnvWord f) there h = refl

-- a thread's own event is no call
own_unpaid : (t : ThreadNo) (event : Event) → is_own_of t event ≡ true → is_paid event ≡ false
own_unpaid t (Start u) h = refl
own_unpaid t (Own u step) h = refl
own_unpaid t (Poll u) h = refl
own_unpaid t (ToNative u) h = refl
own_unpaid t (ToBlocked u kind) h = refl
own_unpaid t (Back u) h = refl
own_unpaid t (End u) h = refl
own_unpaid t (Ask f u call) h = cc
own_unpaid t (Stop f u) h = cc
own_unpaid t (Read f u n) h = cc
own_unpaid t (Go f u) h = refl
own_unpaid t (AddCaps f caps) h = refl
own_unpaid t (Relinquish f caps) h = refl
own_unpaid t (GetCaps f) h = refl
own_unpaid t (SetEnvWord f v) h = refl
own_unpaid t (GetEnvWord f) h = refl

-- what it costs, by what is known of it
same_cost : (n : ℕ) (own inside aimed by paid free agent_free : Bool) → (own ≡ true → paid ≡ false) → (by ≡ true → free ≡ agent_free)
    → cond (aimed && by && paid && free) (n + 1) n ≡ n + cond (((own && inside) || (aimed && agent_free)) && by && paid) 1 0
same_cost n own inside aimed false paid free agent_free h k = grind arith
same_cost n own inside aimed true false free agent_free h k = grind arith
same_cost n true inside aimed true true free agent_free h k = let q = h refl in cc
same_cost n false inside aimed true true free agent_free h k = let q = k refl in grind (arith, q)

-- one more event costs what it costs
pub cost_is : (limits : Limits) (e : EnvNo) (t : ThreadNo) (events : List Happening) (h : Happening)
    → (dealings limits e t (events ++ h ∷ [])).spent ≡ (dealings limits e t events).spent + cost_there limits e t events h
cost_is limits e t events h =
    ap (λ d. d.spent) (dealings-snoc limits e t events h)
    ∙ same_cost (dealings limits e t events).spent (is_own_of t h.event) (nat_lt t.0 limits.threads) (is_aimed_at t h.event) (is_by e h.event) (is_paid h.event)
    (is_none (refusal limits (dealings limits e t events) h)) (is_none (refusal limits (dealings_by limits (agent_of h.event) t events) h))
    (own_unpaid t h.event) (λ by. ap (λ d. is_none (refusal limits d h)) (sym (dealings_is limits e t events h.event by)))

pub refusals_keep : RefusalsKeep
refusals_keep limits events h refused = record {
  views = λ t. (thread_unchanged limits t events h refused).view;
  waiting = λ t. (thread_unchanged limits t events h refused).waiting;
  histories = λ t. (thread_unchanged limits t events h refused).history;
  caps = λ e t there.
      ap (λ d. d.caps) (dealings-snoc limits e t events h)
      ∙ caps_kept limits e (events ++ h ∷ []) events (dealings limits e t events).caps h.wanting h.event there refused;
  words = λ e there.
      fold-append (env_word_after e) 0 events (h ∷ [])
      ∙ word_kept limits e (events ++ h ∷ []) events (env_word e events) h.wanting h.event there refused;
  spent = λ e t. cost_is limits e t events h;
}
