-- What a poll leaves of a thread.
use Rattle.std.proofs.Common.{◌≡◌, Bool, true, false, not, List, [], ◌∷◌, ◌++◌, refl, ap, sym, subst, ◌∙◌, arith, Ok, Err, Option, Some, None, append_assoc, append-nil}
use Rattle.ti_types.specs.declared.limits.Limits.{Limits}
use Rattle.ti_types.specs.declared.state.Mode.TheVariants.{AtSafe}
use Rattle.ti_types.specs.declared.state.Safe.{Safe}
use Rattle.ti_types.specs.declared.state.Safe.TheVariants.{AtPoll}
use Rattle.ti_types.specs.declared.entry.Entry.{Entry}
use Rattle.ti_types.specs.declared.entry.Entry.TheVariants.{Start, Own, Hand, Back, End, Asked, Stop, Read, Go}
use Rattle.ti_types.specs.declared.event.Outcome.TheVariants.{Clear, Went, Held}
use Rattle.ti_types.specs.declared.error.TiError.{TiError}
use Rattle.ti_types.specs.declared.error.TiError.TheVariants.{Barred}
use Rattle.ti_types.specs.declared.view.ThreadView.{ThreadView}
use Rattle.ti_replay.specs.Answers.{is_running}
use Rattle.ti_replay.specs.Settling.{Placed, placed, left_out, runs_after, unanswered, is_waiting_call}
use Rattle.ti_replay.specs.View.{view, after, after_all, is_barred}
use Rattle.ti_replay.specs.Legal.{is_armed}
use Rattle.ti_replay.specs.Refusals.{unless}
use Rattle.ti_replay.specs.PlacedState.{all_calls}
use Rattle.ti_replay.specs.LateTickets.{steps_of}
use Rattle.ti_replay.proofs.HistoryLaws.{view_hand}
use Rattle.ti_replay.proofs.LateStepLaws.{called_keeps}
use Rattle.ti_core.specs.Thread.{ThreadState, entries, seen, entered, at_poll, refusal_at, own_next, own_said, poll_next, poll_said}
use Rattle.ti_replay.proofs.LoggedLaws.{steps-snoc}

-- an entry of the thread's own comes after what is there
pub entries-snoc : (s : ThreadState) (x : Entry) → entries (entered s x) ≡ entries s ++ x ∷ []
entries-snoc s (Own step) = steps-snoc s.thread.history s.steps step
entries-snoc s Start = append-nil (s.thread.history ++ (steps_of s.steps ++ Start ∷ [])) ∙ sym (append_assoc s.thread.history (steps_of s.steps) (Start ∷ []))
entries-snoc s (Hand safe) = append-nil (s.thread.history ++ (steps_of s.steps ++ Hand safe ∷ [])) ∙ sym (append_assoc s.thread.history (steps_of s.steps) (Hand safe ∷ []))
entries-snoc s Back = append-nil (s.thread.history ++ (steps_of s.steps ++ Back ∷ [])) ∙ sym (append_assoc s.thread.history (steps_of s.steps) (Back ∷ []))
entries-snoc s End = append-nil (s.thread.history ++ (steps_of s.steps ++ End ∷ [])) ∙ sym (append_assoc s.thread.history (steps_of s.steps) (End ∷ []))
entries-snoc s (Asked env n call) = append-nil (s.thread.history ++ (steps_of s.steps ++ Asked env n call ∷ [])) ∙ sym (append_assoc s.thread.history (steps_of s.steps) (Asked env n call ∷ []))
entries-snoc s (Stop env) = append-nil (s.thread.history ++ (steps_of s.steps ++ Stop env ∷ [])) ∙ sym (append_assoc s.thread.history (steps_of s.steps) (Stop env ∷ []))
entries-snoc s (Read env n) = append-nil (s.thread.history ++ (steps_of s.steps ++ Read env n ∷ [])) ∙ sym (append_assoc s.thread.history (steps_of s.steps) (Read env n ∷ []))
entries-snoc s (Go env) = append-nil (s.thread.history ++ (steps_of s.steps ++ Go env ∷ [])) ∙ sym (append_assoc s.thread.history (steps_of s.steps) (Go env ∷ []))

call_keeps_mode : (v : ThreadView) (x : Entry) → is_waiting_call x ≡ true → (after v x).mode ≡ v.mode
call_keeps_mode v Start h = cc
call_keeps_mode v (Own step) h = cc
call_keeps_mode v (Hand safe) h = cc
call_keeps_mode v Back h = cc
call_keeps_mode v End h = cc
call_keeps_mode v (Asked env n call) h = (called_keeps v env call).0
call_keeps_mode v (Stop env) h = cc
call_keeps_mode v (Read env n) h = cc
call_keeps_mode v (Go env) h = cc

calls_keep_mode : (v : ThreadView) (s : List Placed) → all_calls s ≡ true → (after_all v s).mode ≡ v.mode
calls_keep_mode v [] h = refl
calls_keep_mode v (p ∷ s) h =
    let one : is_waiting_call p.1 ≡ true = grind (arith, h) in
    let rest : all_calls s ≡ true = grind (arith, h) in
    calls_keep_mode (after v p.1) s rest ∙ call_keeps_mode v p.1 one

left_out_calls : (r : Bool) (s : List Placed) → all_calls (left_out r s) ≡ true
left_out_calls r [] = refl
left_out_calls r (p ∷ s) = grind (arith, left_out_calls (runs_after r p.1) s)

pub handed_at : (limits : Limits) (h : List Entry) (safe : Safe) → (view limits (h ++ Hand safe ∷ [])).mode ≡ AtSafe safe
handed_at limits h safe = ap (λ (v : ThreadView). v.mode) (view_hand limits h (Hand safe) refl) ∙ calls_keep_mode (after (view limits h) (Hand safe)) (unanswered h) (left_out_calls false (placed h))

poll_mode : (limits : Limits) (s : ThreadState) → (seen limits (at_poll s)).mode ≡ AtSafe AtPoll
poll_mode limits s = ap (λ (e : List Entry). (view limits e).mode) (entries-snoc s (Hand AtPoll)) ∙ handed_at limits (entries s) AtPoll

pub back_refusal : (limits : Limits) (s : ThreadState) → refusal_at limits (at_poll s) Back ≡ unless (not (is_barred (seen limits (at_poll s)))) Barred
back_refusal limits s = grind (arith, poll_mode limits s)

pub poll_calm : (limits : Limits) (s : ThreadState) → is_running (seen limits s).mode ≡ true → is_armed limits (entries s) ≡ false → (s ≡ poll_next limits s) × (Clear ≡ poll_said limits s)
poll_calm limits s r a = (rw (r, a) refl, rw (r, a) refl)

hands : (limits : Limits) (s : ThreadState) → is_running (seen limits s).mode ≡ true → own_next limits s (Hand AtPoll) ≡ at_poll s
hands limits s r = rw r refl

none_said : (r : Option TiError) → Ok tt ≡ own_said r → r ≡ None
none_said None h = refl
none_said (Some error) h = cc

some_said : (r : Option TiError) (error : TiError) → Err error ≡ own_said r → r ≡ Some error
some_said None error h = cc
some_said (Some other) error h = cc

-- a poll that is called for hands over, and then returns
pub poll_went : (s one two : ThreadState) → is_running (seen s.thread.limits s).mode ≡ true → is_armed s.thread.limits (entries s) ≡ true → one ≡ own_next s.thread.limits s (Hand AtPoll)
    → two ≡ own_next one.thread.limits one Back → Ok tt ≡ own_said (refusal_at one.thread.limits one Back) → (two ≡ poll_next s.thread.limits s) × (Went ≡ poll_said s.thread.limits s)
poll_went s one two r a e g free =
    let limits = s.thread.limits in
    let o : one ≡ at_poll s = e ∙ hands limits s r in
    let g' : two ≡ own_next limits (at_poll s) Back = subst (λ (z : ThreadState). two ≡ own_next z.thread.limits z Back) o g in
    let q : refusal_at limits (at_poll s) Back ≡ None = none_said (refusal_at limits (at_poll s) Back) (subst (λ (z : ThreadState). Ok tt ≡ own_said (refusal_at z.thread.limits z Back)) o free) in
    let f : unless (not (is_barred (seen limits (at_poll s)))) Barred ≡ None = sym (back_refusal limits s) ∙ q in
    let b : is_barred (seen limits (at_poll s)) ≡ false = grind (arith, f) in
    let t : own_next limits (at_poll s) Back ≡ entered (at_poll s) Back = rw q refl in
    (g' ∙ t ∙ rw (r, a, b) refl, rw (r, a, b) refl)

-- or stays, where it is barred
pub poll_stayed : (s one two : ThreadState) (error : TiError) → is_running (seen s.thread.limits s).mode ≡ true → is_armed s.thread.limits (entries s) ≡ true → one ≡ own_next s.thread.limits s (Hand AtPoll)
    → two ≡ own_next one.thread.limits one Back → Err error ≡ own_said (refusal_at one.thread.limits one Back) → (two ≡ poll_next s.thread.limits s) × (Held ≡ poll_said s.thread.limits s)
poll_stayed s one two error r a e g why =
    let limits = s.thread.limits in
    let o : one ≡ at_poll s = e ∙ hands limits s r in
    let g' : two ≡ own_next limits (at_poll s) Back = subst (λ (z : ThreadState). two ≡ own_next z.thread.limits z Back) o g in
    let q : refusal_at limits (at_poll s) Back ≡ Some error = some_said (refusal_at limits (at_poll s) Back) error (subst (λ (z : ThreadState). Err error ≡ own_said (refusal_at z.thread.limits z Back)) o why) in
    let f : unless (not (is_barred (seen limits (at_poll s)))) Barred ≡ Some error = sym (back_refusal limits s) ∙ q in
    let b : is_barred (seen limits (at_poll s)) ≡ true = grind (arith, f) in
    let t : own_next limits (at_poll s) Back ≡ at_poll s = rw q refl in
    (g' ∙ t ∙ rw (r, a, b) refl, rw (r, a, b) refl)
