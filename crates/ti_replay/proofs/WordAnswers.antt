-- What an environment is told of its words, by the events.
use Rattle.std.proofs.Common.{◌≡◌, ℕ, ◌<◌, ◌==◌, Bool, true, cond, List, [], ◌∷◌, ◌++◌, length, refl, ap, ap₂, sym, ◌∙◌, arith, Option, Some, append_assoc, append-nil, eqb-true, inl, inr}
use Rattle.std.proofs.lemmas.Bool.{cases_Bool}
use Rattle.std.proofs.lemmas.Bool.Decides.{nat_tests}
use Rattle.std.proofs.lemmas.List.Sums.{fold-append}
use Rattle.ti_types.specs.declared.limits.Limits.{Limits}
use Rattle.ti_types.specs.declared.numbers.EnvNo.{EnvNo}
use Rattle.ti_types.specs.declared.numbers.ThreadNo.{ThreadNo}
use Rattle.ti_types.specs.declared.call.Call.TheVariants.{GetWord}
use Rattle.ti_types.specs.declared.entry.Entry.{Entry}
use Rattle.ti_types.specs.declared.entry.Entry.TheVariants.{Asked}
use Rattle.ti_types.specs.declared.event.Event.{Event}
use Rattle.ti_types.specs.declared.event.Event.TheVariants.{Start, Own, Poll, ToNative, ToBlocked, Back, End, Ask, Stop, Read, Go, AddCaps, Relinquish, GetCaps, SetEnvWord, GetEnvWord}
use Rattle.ti_types.specs.declared.event.Outcome.{Outcome}
use Rattle.ti_types.specs.declared.answer.Answer.TheVariants as answer
use Rattle.ti_replay.specs.Answers.{answer_of}
use Rattle.ti_replay.specs.View.{view}
use Rattle.ti_replay.specs.Legal.{asked_by}
use Rattle.ti_replay.specs.Replies.{reply}
use Rattle.ti_replay.specs.Admission.{Happening}
use Rattle.ti_replay.specs.Events.{history_behind, history_from, history_of, left_by, reaches, given}
use Rattle.ti_replay.specs.Outcomes.{out_of, word_set, env_word, env_word_after, word_outcome}
use Rattle.ti_replay.specs.Storage.{word_answer, WordIsGiven, is_env_word_call, env_word_calls, env_words_told_from, EnvWordsFollowTheirCalls}
use Rattle.ti_replay.proofs.AgreementLaws.{history_from-append, history_of-snoc}
use Rattle.ti_replay.proofs.EventLaws.{history_is_legal}
use Rattle.ti_replay.proofs.LifeLaws.{alive_is}
use Rattle.ti_replay.proofs.PlaceLaws.{reply_at_once}
use Rattle.ti_replay.proofs.ReplyLaws.{reply_stays}
use Rattle.ti_replay.proofs.StorageLaws.{view_word}
use Rattle.ti_replay.proofs.StorageReplies.{alive_or}

-- an event adds entries at the end
behind_grows : (limits : Limits) (thread : ThreadNo) (front : List Happening) (history : List Entry) (h : Happening) → (more : List Entry) × (history_behind limits thread front history h ≡ history ++ more)
behind_grows limits thread front history h =
    elim (cases_Bool (reaches limits thread front h)) [
      | inl there ↦ (left_by limits history h.event, ap (λ b. cond b (history ++ left_by limits history h.event) history) there)
      | inr out ↦ ([], ap (λ b. cond b (history ++ left_by limits history h.event) history) out ∙ sym (append-nil history))
    ]

from_grows : (limits : Limits) (thread : ThreadNo) (front : List Happening) (history : List Entry) (events : List Happening) → (more : List Entry) × (history_from limits thread front history events ≡ history ++ more)
from_grows limits thread front history [] = ([], sym (append-nil history))
from_grows limits thread front history (h ∷ events) =
    let one = behind_grows limits thread front history h in
    let rest = from_grows limits thread (front ++ h ∷ []) (history_behind limits thread front history h) events in
    (one.0 ++ rest.0, rest.1 ∙ ap (λ l. l ++ rest.0) one.1 ∙ append_assoc history one.0 rest.0)

-- later events add entries at the end
pub history_grows : (limits : Limits) (thread : ThreadNo) (front events : List Happening) → (more : List Entry) × (history_of limits thread (front ++ events) ≡ history_of limits thread front ++ more)
history_grows limits thread front events =
    let rest = from_grows limits thread front (history_of limits thread front) events in
    (rest.0, history_from-append limits thread [] [] front events ∙ rest.1)

pub word_is_given : WordIsGiven
word_is_given limits front rest env thread wanting admitted =
    let h : Happening = record { event = Ask env thread GetWord; wanting = wanting } in
    let l = history_of limits thread front in
    let asked = l ++ Asked env (asked_by env l) GetWord ∷ [] in
    let v = view limits l in
    let there : env.0 < limits.envs = grind (arith, nat_tests) in
    let legal = history_is_legal limits thread front in
    let reached : reaches limits thread front h ≡ true = grind (arith, nat_tests) in
    let behind : history_of limits thread (front ++ h ∷ []) ≡ asked =
    history_of-snoc limits thread front h ∙ ap (λ b. cond b asked l) reached in
    let more = history_grows limits thread (front ++ h ∷ []) rest in
    let whole : history_of limits thread (front ++ h ∷ rest) ≡ asked ++ more.0 =
    ap (history_of limits thread) (sym (append_assoc front (h ∷ []) rest)) ∙ more.1 ∙ ap (λ x. x ++ more.0) behind in
    let given_is : reply limits (history_of limits thread (front ++ h ∷ rest)) (length l) ≡ Some (answer_of v env GetWord) =
    ap (λ x. reply limits x (length l)) whole
    ∙ reply_stays limits asked more.0 (length l) (answer_of v env GetWord) (reply_at_once limits l env (asked_by env l) GetWord refl) in
    let told : answer_of v env GetWord ≡ word_answer l env =
    ap₂ (λ b w. alive_or b (answer.Word w)) (alive_is limits l legal) (view_word limits l env legal there) in
    let out : out_of limits (front ++ h ∷ rest) front h ≡ given (reply limits (history_of limits thread (front ++ h ∷ rest)) (length l)) = grind (arith, nat_tests) in
    out ∙ ap given (given_is ∙ ap Some told)

-- what calls about an environment's own word come to, where this is the word
abbrev calls_told : Limits → ℕ → List Event → List (Option Outcome)
calls_told limits word [] = []
calls_told limits word (SetEnvWord e w ∷ es) = word_outcome limits e answer.Done ∷ calls_told limits w es
calls_told limits word (GetEnvWord e ∷ es) = word_outcome limits e (answer.Word word) ∷ calls_told limits word es
calls_told limits word (e ∷ es) = calls_told limits word es

told_event : (limits : Limits) (env : EnvNo) (all front : List Happening) (wanting : Bool) (event : Event) (es : List Event) (rest : List (Option Outcome))
    → rest ≡ calls_told limits (word_set env (env_word env front) event) es
    → cond (is_env_word_call env event) (out_of limits all front (record { event = event; wanting = wanting }) ∷ rest) rest
    ≡ calls_told limits (env_word env front) (cond (is_env_word_call env event) (event ∷ es) es)
told_event limits env all front wanting (Start t) es rest h = h
told_event limits env all front wanting (Own t step) es rest h = h
told_event limits env all front wanting (Poll t) es rest h = h
told_event limits env all front wanting (ToNative t) es rest h = h
told_event limits env all front wanting (ToBlocked t kind) es rest h = h
told_event limits env all front wanting (Back t) es rest h = h
told_event limits env all front wanting (End t) es rest h = h
told_event limits env all front wanting (Ask e t call) es rest h = h
told_event limits env all front wanting (Stop e t) es rest h = h
told_event limits env all front wanting (Read e t n) es rest h = h
told_event limits env all front wanting (Go e t) es rest h = h
told_event limits env all front wanting (AddCaps e caps) es rest h = h
told_event limits env all front wanting (Relinquish e caps) es rest h = h
told_event limits env all front wanting (GetCaps e) es rest h = h
told_event limits env all front wanting (SetEnvWord e w) es rest h = grind arith
told_event limits env all front wanting (GetEnvWord e) es rest h =
    elim (cases_Bool (e.0 == env.0)) [
      | inl same ↦
          let is : e ≡ env = ap (λ (k : ℕ). record { 0 = k }) (eqb-true _ _ same) in
          rw same (ap₂ (λ w r. word_outcome limits e (answer.Word w) ∷ r) (ap (λ x. env_word x front) is) h)
      | inr other ↦ rw other h
    ]

told_run : (limits : Limits) (env : EnvNo) (all front events : List Happening)
    → env_words_told_from limits env all front events ≡ calls_told limits (env_word env front) (env_word_calls env events)
told_run limits env all front [] = refl
told_run limits env all front (h ∷ events) =
    told_event limits env all front h.wanting h.event (env_word_calls env events) (env_words_told_from limits env all (front ++ h ∷ []) events)
    (told_run limits env all (front ++ h ∷ []) events ∙ ap (λ w. calls_told limits w (env_word_calls env events)) (fold-append (env_word_after env) 0 front (h ∷ [])))

pub env_words_follow : EnvWordsFollowTheirCalls
env_words_follow limits env run other same =
    told_run limits env run [] run ∙ ap (calls_told limits 0) same ∙ sym (told_run limits env other [] other)
