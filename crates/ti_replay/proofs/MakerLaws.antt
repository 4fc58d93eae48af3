-- What is known of a history from the entries of one maker.
use Rattle.std.proofs.Common.{◌≡◌, ℕ, suc, ◌==◌, ◌+◌, ne_eqb, Bool, true, false, cond, List, [], ◌∷◌, ◌++◌, refl, ap, sym, ◌∙◌, arith}
use Rattle.std.specs.List.{fold, filter, sum_by, list_all}
use Rattle.std.proofs.lemmas.List.Sums.{sum_by-cons, fold-append}
use Rattle.std.proofs.lemmas.List.Folds.{list_all-append}
use Rattle.ti_types.specs.declared.limits.Limits.{Limits}
use Rattle.ti_types.specs.declared.numbers.EnvNo.{EnvNo}
use Rattle.ti_types.specs.declared.state.Mode.{Mode}
use Rattle.ti_types.specs.declared.entry.Entry.{Entry}
use Rattle.ti_types.specs.declared.entry.Entry.TheVariants.{Start, Own, Hand, Back, End, Asked, Stop, Read, Go}
use Rattle.ti_replay.specs.Settling.{is_waiting_call}
use Rattle.ti_replay.specs.View.{view, after}
use Rattle.ti_replay.specs.Legal.{own_cost, call_cost, ask_count, own_spent, calls_spent, asked_by}
use Rattle.ti_replay.specs.HistoryState.{HistoryState, history_state}
use Rattle.ti_replay.specs.Makers.{maker, made_by, mode_after}
use Rattle.ti_replay.proofs.NextStates.{next_state}
use Rattle.ti_replay.proofs.LateStepLaws.{called_keeps}
use Rattle.ti_replay.proofs.HistoryStateLaws.{history_state-append}
use Rattle.ti_replay.proofs.BoundLaws.{all_quiet}

-- The mode

-- only calls wait
pub calls_step : (s : HistoryState) (x : Entry) → list_all is_waiting_call s.waiting ≡ true → list_all is_waiting_call (next_state s x).waiting ≡ true
calls_step s Start h = grind (arith, h)
calls_step s (Own step) h = grind (arith, h)
calls_step s (Hand safe) h = grind (arith, h)
calls_step s Back h = grind (arith, h)
calls_step s End h = grind (arith, h)
calls_step s (Asked env number call) h = grind (arith, h, list_all-append is_waiting_call s.waiting (Asked env number call ∷ []))
calls_step s (Stop env) h = grind (arith, h)
calls_step s (Read env n) h = grind (arith, h)
calls_step s (Go env) h = grind (arith, h)

mode_step : (s : HistoryState) (x : Entry) → list_all is_waiting_call s.waiting ≡ true → (next_state s x).view.mode ≡ mode_after s.view.mode x
mode_step s Start h = refl
mode_step s (Own step) h = refl
mode_step s (Hand safe) h = (all_quiet (after s.view (Hand safe)) s.waiting h).mode
mode_step s Back h = refl
mode_step s End h = (all_quiet (after s.view End) s.waiting h).mode
mode_step s (Asked env number call) h = grind (arith, called_keeps s.view env call)
mode_step s (Stop env) h = refl
mode_step s (Read env n) h = refl
mode_step s (Go env) h = refl

mode_run : (s : HistoryState) (history : List Entry) → list_all is_waiting_call s.waiting ≡ true → (fold next_state s history).view.mode ≡ fold mode_after s.view.mode history
mode_run s [] h = refl
mode_run s (x ∷ history) h =
    mode_run (next_state s x) history (calls_step s x h) ∙ ap (λ (m : Mode). fold mode_after m history) (mode_step s x h)

mode_is : (limits : Limits) (history : List Entry) → (view limits history).mode ≡ fold mode_after (view limits []).mode history
mode_is limits history = ap (λ (s : HistoryState). s.view.mode) (history_state-append limits [] history) ∙ mode_run (history_state limits []) history refl

-- the mode after one more entry
pub mode-snoc : (limits : Limits) (history : List Entry) (x : Entry) → (view limits (history ++ x ∷ [])).mode ≡ mode_after (view limits history).mode x
mode-snoc limits history x =
    mode_is limits (history ++ x ∷ []) ∙ (fold-append mode_after (view limits []).mode history (x ∷ []) ∙ ap (λ (m : Mode). mode_after m x) (sym (mode_is limits history)))

-- an entry of another is not among those that count
not_counted : (m : Mode) (x : Entry) (history : List Entry) → (maker x == 0) ≡ false → fold mode_after m (made_by 0 history) ≡ fold mode_after m (made_by 0 (x ∷ history))
not_counted m x history other = ap (λ (b : Bool). fold mode_after m (cond b (x ∷ made_by 0 history) (made_by 0 history))) (sym other)

-- the entries of others leave it
mode_own : (m : Mode) (history : List Entry) → fold mode_after m history ≡ fold mode_after m (made_by 0 history)
mode_own m [] = refl
mode_own m (Start ∷ history) = mode_own (mode_after m Start) history
mode_own m (Own step ∷ history) = mode_own m history
mode_own m (Hand safe ∷ history) = mode_own (mode_after m (Hand safe)) history
mode_own m (Back ∷ history) = mode_own (mode_after m Back) history
mode_own m (End ∷ history) = mode_own (mode_after m End) history
mode_own m (Asked env number call ∷ history) = mode_own m history ∙ not_counted m (Asked env number call) history (ne_eqb (suc env.0) 0 (λ e. omega arith))
mode_own m (Stop env ∷ history) = mode_own m history ∙ not_counted m (Stop env) history (ne_eqb (suc env.0) 0 (λ e. omega arith))
mode_own m (Read env n ∷ history) = mode_own m history ∙ not_counted m (Read env n) history (ne_eqb (suc env.0) 0 (λ e. omega arith))
mode_own m (Go env ∷ history) = mode_own m history ∙ not_counted m (Go env) history (ne_eqb (suc env.0) 0 (λ e. omega arith))

pub mode_is_own : (limits : Limits) (history : List Entry) → (view limits history).mode ≡ (view limits (made_by 0 history)).mode
mode_is_own limits history = mode_is limits history ∙ (mode_own (view limits []).mode history ∙ sym (mode_is limits (made_by 0 history)))

-- Costs and numbers

-- a sum over the elements that count
counted : (f : Entry → ℕ) (p : Entry → Bool) (x : Entry) (xs : List Entry) → (p x ≡ false → f x ≡ 0) → sum_by f xs ≡ sum_by f (filter p xs)
    → (b : Bool) → p x ≡ b → sum_by f (x ∷ xs) ≡ sum_by f (filter p (x ∷ xs))
counted f p x xs none rest true is =
    sum_by-cons f x xs ∙ (ap (λ n. f x + n) rest ∙ (sym (sum_by-cons f x (filter p xs)) ∙ ap (λ b. sum_by f (cond b (x ∷ filter p xs) (filter p xs))) (sym is)))
counted f p x xs none rest false is =
    let free : f x + sum_by f xs ≡ sum_by f (filter p xs) = omega (arith, none is, rest) in
    sum_by-cons f x xs ∙ (free ∙ ap (λ b. sum_by f (cond b (x ∷ filter p xs) (filter p xs))) (sym is))

sum_by-counting : (f : Entry → ℕ) (p : Entry → Bool) (xs : List Entry) → ((x : Entry) → p x ≡ false → f x ≡ 0) → sum_by f xs ≡ sum_by f (filter p xs)
sum_by-counting f p [] none = refl
sum_by-counting f p (x ∷ xs) none = counted f p x xs (none x) (sum_by-counting f p xs none) (p x) refl

own_free : (x : Entry) → (maker x == 0) ≡ false → own_cost x ≡ 0
own_free Start h = refl
own_free (Own step) h = cc
own_free (Hand safe) h = cc
own_free Back h = refl
own_free End h = refl
own_free (Asked env number call) h = refl
own_free (Stop env) h = refl
own_free (Read env n) h = refl
own_free (Go env) h = refl

call_free : (env : EnvNo) (x : Entry) → (maker x == env.0 + 1) ≡ false → call_cost env x ≡ 0
call_free env Start h = refl
call_free env (Own step) h = refl
call_free env (Hand safe) h = refl
call_free env Back h = refl
call_free env End h = refl
call_free env (Asked other number call) h = grind (arith, h)
call_free env (Stop other) h = grind (arith, h)
call_free env (Read other n) h = grind (arith, h)
call_free env (Go other) h = refl

ask_free : (env : EnvNo) (x : Entry) → (maker x == env.0 + 1) ≡ false → ask_count env x ≡ 0
ask_free env Start h = refl
ask_free env (Own step) h = refl
ask_free env (Hand safe) h = refl
ask_free env Back h = refl
ask_free env End h = refl
ask_free env (Asked other number call) h = grind (arith, h)
ask_free env (Stop other) h = refl
ask_free env (Read other n) h = refl
ask_free env (Go other) h = refl

pub own_spent_is_own : (history : List Entry) → own_spent history ≡ own_spent (made_by 0 history)
own_spent_is_own history = sum_by-counting own_cost (λ x. maker x == 0) history own_free

pub calls_spent_are_its_own : (env : EnvNo) (history : List Entry) → calls_spent env history ≡ calls_spent env (made_by (env.0 + 1) history)
calls_spent_are_its_own env history = sum_by-counting (call_cost env) (λ x. maker x == env.0 + 1) history (call_free env)

pub asked_is_its_own : (env : EnvNo) (history : List Entry) → asked_by env history ≡ asked_by env (made_by (env.0 + 1) history)
asked_is_its_own env history = sum_by-counting (ask_count env) (λ x. maker x == env.0 + 1) history (ask_free env)
