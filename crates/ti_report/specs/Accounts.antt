-- What an agent has done, as a few numbers. They say the same as `Doings` and `Told` say about the list of all that it has
-- done.
use Rattle.std.specs.Prelude.{ℕ, not, nat_le, nat_lt, ◌≡◌, ◌<◌, ◌≤◌, ◌+◌, Bool, true, false, ◌&&◌, ◌^◌, List, [], ◌∷◌, ◌++◌, map, length, if◌then◌else◌, Option, Some, None, is_none, slice_get, slice_set, slice_index, replicate}
use Rattle.std.specs.List.{fold, filter, list_all}
use Rattle.ti_types.specs.declared.limits.Limits.{Limits}
use Rattle.ti_types.specs.declared.numbers.EnvNo.{EnvNo}
use Rattle.ti_types.specs.declared.numbers.ThreadNo.{ThreadNo}
use Rattle.ti_types.specs.declared.caps.Caps.{Caps}
use Rattle.ti_types.specs.declared.entry.Entry.{Entry}
use Rattle.ti_types.specs.declared.answer.Answer.{Answer}
use Rattle.ti_types.specs.declared.answer.Answer.TheVariants as answer
use Rattle.ti_types.specs.declared.error.TiError.{TiError}
use Rattle.ti_types.specs.declared.error.TiError.TheVariants.{NotAvailable, MustPossessCapability, InvalidThread, IllegalArgument, CallsSpent, OutOfMemory}
use Rattle.ti_types.specs.declared.call.Call.TheVariants.{Suspend}
use Rattle.ti_types.specs.Call.{needed_by}
use Rattle.ti_types.specs.Caps.{no_caps}
use Rattle.ti_types.specs.Numbers.{is_not_negative}
use Rattle.ti_types.specs.Answer.{said}
use Rattle.ti_live.specs.declared.call.AgentCall.{AgentCall}
use Rattle.ti_live.specs.declared.call.AgentCall.TheVariants as call
use Rattle.ti_live.specs.declared.reply.Reply.{Reply}
use Rattle.ti_live.specs.declared.reply.Reply.TheVariants.{Plain, Codes, Stacks}
use Rattle.ti_report.specs.Doings.{wants, times, every_thread, events_of}
use Rattle.ti_types.specs.declared.event.Event.{Event}
use Rattle.ti_types.specs.declared.event.Event.TheVariants.{AddCaps, Relinquish, GetCaps, SetEnvWord, GetEnvWord}
use Rattle.ti_types.specs.Refusing.{or_else, unless}
use Rattle.ti_replay.specs.Admission.{has_all, Happening, dealings, refusal_of, caps_after, can_be_had, is_paid}
use Rattle.ti_replay.specs.Legal.{calls_spent}
use Rattle.ti_replay.specs.Outcomes.{env_word, env_word_after}
use Rattle.ti_report.specs.Told.{thread_of, is_call, is_due, refused_or_got, got_by, got, used, history_at}
use Rattle.ti_types.specs.declared.stack.StackInfo.{StackInfo}
use Rattle.ti_types.specs.Limits.{most_calls}
use Rattle.ti_report.specs.Books.{Row}
use Rattle.ti_report.specs.Fits.{code_of, stack_told, is_live, said_info, Sort, single, coded, live_stacks, stacks, sort_of}

-- The environment, its capabilities and its word. For each thread, how many calls it has spent there, and how many of its
-- entries it has used
pub record AccountValue : Type 0 where
  pub env : EnvNo
  pub caps : Caps
  pub word : ℕ
  pub spent : List ℕ
  pub used : List ℕ

-- why an event does not reach its thread
abbrev pub why_now : Limits → AccountValue → Bool → Event → Option TiError
why_now limits a wanting event = refusal_of limits (record { caps = a.caps; spent = slice_index a.spent (thread_of event).0 }) wanting event

abbrev pub counted : Bool → List ℕ → ℕ → List ℕ
counted yes' numbers index = if yes' then slice_set numbers index (slice_index numbers index + 1) else numbers

-- the account after an event; `why` says why the event does not reach its thread
abbrev pub accounted_with : AccountValue → Option TiError → Event → AccountValue
accounted_with a why event =
    let goes = is_none why in
    record {
      env = a.env;
      caps = caps_after a.env a.caps event;
      word = env_word_after a.env a.word (record { event = event; wanting = false });
      spent = counted (is_paid event && goes) a.spent (thread_of event).0;
      used = counted (is_call event && goes) a.used (thread_of event).0;
    }

-- the account after an event
abbrev pub accounted : Limits → AccountValue → Bool → Event → AccountValue
accounted limits a wanting event = accounted_with a (why_now limits a wanting event) event

abbrev pub done_unless : Option TiError → Answer
done_unless None = answer.Done
done_unless (Some error) = answer.Refused error

-- the answer to an event about the environment; other events have none
abbrev pub own_answer : AccountValue → Event → Option Answer
own_answer a (AddCaps e caps) = Some (done_unless (unless (can_be_had caps) NotAvailable))
own_answer a (Relinquish e caps) = Some answer.Done
own_answer a (GetCaps e) = Some (answer.Caps a.caps)
own_answer a (SetEnvWord e word) = Some answer.Done
own_answer a (GetEnvWord e) = Some (answer.Word a.word)
own_answer a event = None

-- The answer to an event. `pages` has, by thread, the agent's rows, and what it has spent there in the whole history. `why`
-- says why the event does not reach its thread
abbrev pub told_with : Limits → (ℕ → List Row × ℕ) → AccountValue → Option TiError → Event → Option Answer
told_with limits pages a why event =
    let t = (thread_of event).0 in
    if is_call event
    then refused_or_got why (is_due limits.calls (pages t).1) (got_by event (slice_get (pages t).0 (slice_index a.used t)))
    else own_answer a event

-- the answer to an event
abbrev pub told_now : Limits → (ℕ → List Row × ℕ) → AccountValue → Bool → Event → Option Answer
told_now limits pages a wanting event = told_with limits pages a (why_now limits a wanting event) event

-- the account is that of an agent that has done this
pub record Accounts (limits : Limits) (e : EnvNo) (done : List Happening) (a : AccountValue) : Type 0 where
  pub env : a.env ≡ e
  pub caps : (t : ThreadNo) → a.caps ≡ (dealings limits e t done).caps
  pub word : a.word ≡ env_word e done
  pub spent_count : length a.spent ≡ limits.threads
  pub spent : (t : ThreadNo) → t.0 < limits.threads → slice_index a.spent t.0 ≡ (dealings limits e t done).spent
  pub used_count : length a.used ≡ limits.threads
  pub used : (t : ThreadNo) → t.0 < limits.threads → slice_index a.used t.0 ≡ used limits e t done

-- by thread, what the agent left and got, and what it has spent in all
abbrev pub ArePages : Limits → List (List Entry) → EnvNo → (ℕ → List Row × ℕ) → Type 0
ArePages limits histories e pages =
    (t : ThreadNo) → t.0 < limits.threads → ((pages t.0).0 ≡ got limits e (history_at histories t)) × ((pages t.0).1 ≡ calls_spent e (history_at histories t))

-- the codes of these events, one after another; `stacks_now` gives their stacks
abbrev pub codes_now : Limits → (ℕ → List Row × ℕ) → AccountValue → Bool → List Event → List (Option ℕ)
codes_now limits pages a wanting [] = []
codes_now limits pages a wanting (x ∷ xs) = code_of (told_now limits pages a wanting x) ∷ codes_now limits pages (accounted limits a wanting x) wanting xs

abbrev pub stacks_now : Limits → (ℕ → List Row × ℕ) → AccountValue → Bool → List Event → List (Option StackInfo)
stacks_now limits pages a wanting [] = []
stacks_now limits pages a wanting (x ∷ xs) = stack_told x (told_now limits pages a wanting x) ++ stacks_now limits pages (accounted limits a wanting x) wanting xs

abbrev pub accounted_all : Limits → AccountValue → Bool → List Event → AccountValue
accounted_all limits a wanting xs = fold (λ a x. accounted limits a wanting x) a xs

abbrev pub marked : Bool → List Event → List Happening
marked wanting xs = map (λ x. record { event = x; wanting = wanting }) xs

-- there are as many numbers of either kind, and few calls are spent
pub record IsWithin (used spent : List ℕ) : Type 0 where
  pub alike : length used ≡ length spent
  pub few : (k : ℕ) → slice_index spent k ≤ most_calls

-- one more used entry can be counted, if the event uses one
abbrev pub CanCount : AccountValue → Option TiError → Event → Type 0
CanCount a why event = (is_call event && is_none why) ≡ true → slice_index a.used (thread_of event).0 + 1 < 2 ^ 64

-- one more call can be paid for, if the event is paid for
abbrev pub IsFew : AccountValue → Option TiError → Event → Type 0
IsFew a why event = (is_paid event && is_none why) ≡ true → slice_index a.spent (thread_of event).0 < most_calls

-- all stacks, or those of threads that are alive
abbrev pub kept : (live : Bool) → List (Option StackInfo) → List (Option StackInfo)
kept true infos = filter is_live infos
kept false infos = infos

abbrev pub said_infos : List StackInfo → List (Option StackInfo)
said_infos infos = map (λ i. Some (said_info i)) infos

abbrev pub can_pay_now : Limits → AccountValue → ThreadNo → ℕ → Bool
can_pay_now limits a t reads = nat_le (slice_index a.spent t.0 + (1 + reads)) limits.calls

-- why a call is refused as a whole
abbrev pub whole_now : Limits → AccountValue → Bool → AgentCall → Option TiError
whole_now limits a wanting (call.SuspendList threads) = or_else (unless (has_all a.caps (needed_by Suspend)) MustPossessCapability) (unless (not wanting) OutOfMemory)
whole_now limits a wanting (call.ResumeList threads) = or_else (unless (has_all a.caps (needed_by Suspend)) MustPossessCapability) (unless (not wanting) OutOfMemory)
whole_now limits a wanting (call.AllStacks max_count) =
    or_else (unless (is_not_negative max_count) IllegalArgument)
    (or_else (unless (list_all (λ t. can_pay_now limits a t 1) (every_thread limits)) CallsSpent)
    (unless (not wanting) OutOfMemory))
whole_now limits a wanting (call.ListStacks threads max_count) =
    or_else (unless (list_all (λ t. nat_lt t.0 limits.threads) threads) InvalidThread)
    (or_else (unless (is_not_negative max_count) IllegalArgument)
    (or_else (unless (not wanting) OutOfMemory)
    (unless (list_all (λ t. can_pay_now limits a t (times t threads)) threads) CallsSpent)))
whole_now limits a wanting _ = None

-- the answer to a call that makes one event
abbrev pub told_one : Limits → (ℕ → List Row × ℕ) → AccountValue → Bool → List Event → Option Answer
told_one limits pages a wanting (x ∷ []) = told_now limits pages a wanting x
told_one limits pages a wanting _ = None

-- the reply to a call of this sort
abbrev pub IsReplyNow : Limits → (ℕ → List Row × ℕ) → AccountValue → Bool → Sort → List Event → Reply → Type 0
IsReplyNow limits pages a wanting single xs (Plain answer) = told_one limits pages a wanting xs ≡ Some (said answer)
IsReplyNow limits pages a wanting coded xs (Codes codes) = map Some codes ≡ codes_now limits pages a wanting xs
IsReplyNow limits pages a wanting live_stacks xs (Stacks infos) = said_infos infos ≡ kept true (stacks_now limits pages a wanting xs)
IsReplyNow limits pages a wanting stacks xs (Stacks infos) = said_infos infos ≡ kept false (stacks_now limits pages a wanting xs)
IsReplyNow limits pages a wanting single xs _ = ⊥
IsReplyNow limits pages a wanting coded xs _ = ⊥
IsReplyNow limits pages a wanting live_stacks xs _ = ⊥
IsReplyNow limits pages a wanting stacks xs _ = ⊥

abbrev pub RefusedNow : Option TiError → Reply → Type 0 → Type 0
RefusedNow (Some error) reply other = reply ≡ Plain (answer.Refused error)
RefusedNow None reply other = other

abbrev pub CallNow : Limits → (ℕ → List Row × ℕ) → AccountValue → AgentCall → Reply → Type 0
CallNow limits pages a call reply =
    RefusedNow (whole_now limits a (wants reply) call) reply (IsReplyNow limits pages a (wants reply) (sort_of call) (events_of limits a.env call) reply)

abbrev pub called_now : Limits → AccountValue → AgentCall → Reply → AccountValue
called_now limits a call reply = if is_none (whole_now limits a (wants reply) call) then accounted_all limits a (wants reply) (events_of limits a.env call) else a

-- the replies to the first of these calls, one after another
abbrev pub CallsNow : Limits → (ℕ → List Row × ℕ) → AccountValue → List AgentCall → List Reply → Type 0
CallsNow limits pages a calls [] = Unit {0}
CallsNow limits pages a [] (reply ∷ replies) = ⊥
CallsNow limits pages a (call ∷ calls) (reply ∷ replies) = CallNow limits pages a call reply × CallsNow limits pages (called_now limits a call reply) calls replies

abbrev pub all_called : Limits → AccountValue → List AgentCall → List Reply → AccountValue
all_called limits a (call ∷ calls) (reply ∷ replies) = all_called limits (called_now limits a call reply) calls replies
all_called limits a calls [] = a
all_called limits a [] (reply ∷ replies) = a

-- all rows are used
abbrev pub UsedUp : Limits → (ℕ → List Row × ℕ) → AccountValue → Type 0
UsedUp limits pages a = (t : ThreadNo) → t.0 < limits.threads → slice_index a.used t.0 ≡ length (pages t.0).0

-- the account of an agent that has done nothing
abbrev pub new_account : Limits → EnvNo → AccountValue
new_account limits e = record { env = e; caps = no_caps; word = 0; spent = replicate limits.threads 0; used = replicate limits.threads 0 }
