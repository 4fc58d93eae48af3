-- The word that a history leaves.
use Rattle.std.proofs.Common.{◌≡◌, ℕ, ◌<◌, ◌==◌, true, false, cond, List, [], ◌∷◌, length, refl, ap, sym, ◌∙◌, arith, slice_index, slice_set, get_or-set_same, get_or-set_other, length-set, inl, inr, ap₂}
use Rattle.std.specs.List.{fold}
use Rattle.std.proofs.lemmas.Bool.{cases_eq}
use Rattle.std.proofs.lemmas.List.{length-replicate, get_or-replicate}
use Rattle.ti_replay.specs.Laws.{WordIsLast}
use Rattle.ti_replay.proofs.HistoryStateLaws.{goes_on-allows, history_state-append}
use Rattle.std.proofs.lemmas.Bool.Decides.{nat_tests}
use Rattle.ti_types.specs.declared.limits.Limits.{Limits}
use Rattle.ti_types.specs.declared.numbers.EnvNo.{EnvNo}
use Rattle.ti_types.specs.declared.call.Call.{Call}
use Rattle.ti_types.specs.declared.call.Call.TheVariants.{State, FrameCount, Trace, Location, Suspend, Resume, GetWord, SetWord, Pop}
use Rattle.ti_types.specs.declared.state.Safe.{Safe}
use Rattle.ti_types.specs.declared.state.Safe.TheVariants.{Native, Blocked, AtPoll}
use Rattle.ti_types.specs.declared.entry.Entry.{Entry}
use Rattle.ti_types.specs.declared.entry.Entry.TheVariants.{Start, Own, Hand, Back, End, Asked, Stop, Read, Go}
use Rattle.ti_types.specs.declared.view.ThreadView.{ThreadView}
use Rattle.ti_replay.specs.Answers.{is_alive}
use Rattle.ti_replay.specs.View.{after, called}
use Rattle.ti_replay.specs.Word.{word_from, word_after, lives_after}
use Rattle.ti_replay.specs.HistoryState.{history_state, HistoryState}
use Rattle.ti_replay.proofs.NextStates.{next_state, allows, allows_all}
use Rattle.ti_replay.proofs.BoundLaws.{all_quiet, WaitsWell, waits_step}

-- the word of an environment in a state
abbrev pub word_in : HistoryState → EnvNo → ℕ
word_in s env = slice_index s.view.words env.0

-- a set, a number, or nothing: what an entry makes of a word
word_set : (words : List ℕ) (env other : EnvNo) (w : ℕ) → env.0 < length words → slice_index (slice_set words other.0 w) env.0 ≡ cond (other.0 == env.0) w (slice_index words env.0)
word_set words env other w l =
    elim (cases_eq env.0 other.0) [
      | inl same ↦ grind (arith, nat_tests, get_or-set_same words other.0 w 0)
      | inr not_same ↦ grind (arith, nat_tests, get_or-set_other words other.0 env.0 w 0 not_same)
    ]

hand_alive : (limits : Limits) (s : HistoryState) (safe : Safe) → allows limits s (Hand safe) ≡ true → true ≡ is_alive s.view.mode
hand_alive limits s Native h = grind arith
hand_alive limits s (Blocked kind) h = grind arith
hand_alive limits s AtPoll h = grind arith

pub step_word : (limits : Limits) (s : HistoryState) (x : Entry) (env : EnvNo) → WaitsWell s → allows limits s x ≡ true → env.0 < length s.view.words
    → (word_in (next_state s x) env ≡ word_after (is_alive s.view.mode) (word_in s env) env x) × (is_alive (next_state s x).view.mode ≡ lives_after (is_alive s.view.mode) x)
step_word limits s Start env k h l = (grind arith, grind arith)
step_word limits s (Own step) env k h l = (grind arith, grind arith)
step_word limits s (Hand safe) env k h l = let q = all_quiet (after s.view (Hand safe)) s.waiting k.calls in (grind (arith, q.words), (ap is_alive q.mode ∙ hand_alive limits s safe h))
step_word limits s Back env k h l = (grind arith, grind arith)
step_word limits s End env k h l = let q = all_quiet (after s.view End) s.waiting k.calls in (grind (arith, q.words), ap is_alive q.mode)
step_word limits s (Asked other number State) env k h l = (grind arith, grind arith)
step_word limits s (Asked other number FrameCount) env k h l = (grind arith, grind arith)
step_word limits s (Asked other number (Trace a b)) env k h l = (grind arith, grind arith)
step_word limits s (Asked other number (Location d)) env k h l = (grind arith, grind arith)
step_word limits s (Asked other number Suspend) env k h l = (grind arith, grind arith)
step_word limits s (Asked other number Resume) env k h l = (grind arith, grind arith)
step_word limits s (Asked other number GetWord) env k h l = (grind arith, grind arith)
step_word limits s (Asked other number (SetWord w)) env k h l = (grind (arith, word_set s.view.words env other w l), grind arith)
step_word limits s (Asked other number Pop) env k h l = (grind arith, grind arith)
step_word limits s (Stop other) env k h l = (grind arith, grind arith)
step_word limits s (Read other n) env k h l = (grind arith, grind arith)
step_word limits s (Go other) env k h l = (grind arith, grind arith)

called_length : (v : ThreadView) (env : EnvNo) (call : Call) → length (called v env call).words ≡ length v.words
called_length v env State = refl
called_length v env FrameCount = refl
called_length v env (Trace a b) = refl
called_length v env (Location d) = refl
called_length v env Suspend = grind arith
called_length v env Resume = grind arith
called_length v env GetWord = refl
called_length v env (SetWord w) = grind (arith, length-set v.words env.0 w)
called_length v env Pop = grind arith

pub length_step : (s : HistoryState) (x : Entry) → WaitsWell s → length (next_state s x).view.words ≡ length s.view.words
length_step s Start k = grind arith
length_step s (Own step) k = grind arith
length_step s (Hand safe) k = ap length (all_quiet (after s.view (Hand safe)) s.waiting k.calls).words
length_step s Back k = grind arith
length_step s End k = ap length (all_quiet (after s.view End) s.waiting k.calls).words
length_step s (Asked env number call) k = grind (arith, called_length s.view env call)
length_step s (Stop env) k = grind arith
length_step s (Read env n) k = grind arith
length_step s (Go env) k = grind arith

word_run : (limits : Limits) (s : HistoryState) (history : List Entry) (env : EnvNo) → WaitsWell s → allows_all limits s history ≡ true → env.0 < length s.view.words
    → word_in (fold next_state s history) env ≡ word_from (is_alive s.view.mode) (word_in s env) env history
word_run limits s [] env k h l = refl
word_run limits s (x ∷ history) env k h l =
    let here : allows limits s x ≡ true = grind arith in
    let there : allows_all limits (next_state s x) history ≡ true = grind arith in
    let step = step_word limits s x env k here l in
    word_run limits (next_state s x) history env (waits_step limits s x k here) there (rw (length_step s x k) l)
    ∙ ap₂ (λ alive word. word_from alive word env history) step.1 step.0

-- the word in the view is the last one set
pub view_word : WordIsLast
view_word limits history env h l =
    let s = history_state limits [] in
    ap (λ t. word_in t env) (history_state-append limits [] history)
    ∙ word_run limits s history env (record { calls = refl; runs = λ w. absurd (omega arith) }) (sym (goes_on-allows limits [] history) ∙ h) (omega (arith, length-replicate {A = ℕ} limits.envs 0))
    ∙ ap (λ w. word_from false w env history) (get_or-replicate limits.envs env.0 0 0 l)
