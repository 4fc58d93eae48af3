-- When a live report fits its script.
use Rattle.std.specs.Prelude.{ℕ, ◌≡◌, ◌<◌, Bool, true, false, ◌==◌, bit_and, List, [], ◌∷◌, ◌++◌, map, length, Option, Some, None, slice_index_or}
use Rattle.std.specs.List.{filter}
use Rattle.ti_types.specs.declared.limits.Limits.{Limits}
use Rattle.ti_types.specs.declared.numbers.EnvNo.{EnvNo}
use Rattle.ti_types.specs.declared.numbers.ThreadNo.{ThreadNo}
use Rattle.ti_types.specs.declared.entry.Entry.{Entry}
use Rattle.ti_types.specs.declared.answer.Answer.{Answer}
use Rattle.ti_types.specs.declared.answer.Answer.TheVariants.{Done, Stack, Refused}
use Rattle.ti_types.specs.declared.error.TiError.{TiError}
use Rattle.ti_types.specs.declared.event.Event.{Event}
use Rattle.ti_types.specs.declared.event.Event.TheVariants.{Read}
use Rattle.ti_types.specs.Answer.{said}
use Rattle.ti_types.specs.Frames.{bare_trace}
use Rattle.ti_types.specs.TiError.{number_of}
use Rattle.ti_replay.specs.Admission.{Happening}
use Rattle.ti_replay.specs.Legal.{is_legal}
use Rattle.ti_live.specs.declared.call.AgentCall.{AgentCall}
use Rattle.ti_live.specs.declared.call.AgentCall.TheVariants.{SuspendList, ResumeList, AllStacks, ListStacks}
use Rattle.ti_live.specs.declared.reply.Reply.{Reply}
use Rattle.ti_live.specs.declared.reply.Reply.TheVariants.{Plain, Codes, Stacks}
use Rattle.ti_types.specs.declared.stack.StackInfo.{StackInfo}
use Rattle.ti_live.specs.declared.report.Script.{Script}
use Rattle.ti_live.specs.declared.report.LiveReport.{LiveReport}
use Rattle.ti_report.specs.Doings.{refused_whole, wants, done_by, all_done}
use Rattle.ti_report.specs.Told.{told, used, got, history_at}
use Rattle.ti_report.specs.Walks.{WalkFits}

-- ---- the parts of the reply to a list call

-- 0 if it is done, or the number of the error
abbrev pub code_of : Option Answer → Option ℕ
code_of (Some Done) = Some 0
code_of (Some (Refused error)) = Some (number_of error)
code_of _ = None

-- the stack that a read gave
abbrev pub stack_of : ThreadNo → Option Answer → Option StackInfo
stack_of t (Some (Stack state trace)) = Some (record { thread = t; state = state; frames = trace })
stack_of t _ = None

-- no stack if an event is done; if it is not done, a stack that no list has
abbrev pub no_stack_of : Option Answer → List (Option StackInfo)
no_stack_of (Some Done) = []
no_stack_of _ = None ∷ []

abbrev pub stack_told : Event → Option Answer → List (Option StackInfo)
stack_told (Read e t max_count) answer = stack_of t answer ∷ []
stack_told _ answer = no_stack_of answer

-- whether the stack is of a thread that is alive, by the bit of the state
abbrev pub is_live : Option StackInfo → Bool
is_live (Some info) = bit_and info.state 1 == 1
is_live None = true

-- the stack without the room of its buffer
abbrev pub said_info : StackInfo → StackInfo
said_info info = record { thread = info.thread; state = info.state; frames = bare_trace info.frames.frames }

-- The kind of reply to a call: an answer of its own, a code for each of its events, or stacks. The stacks are those of the
-- threads that are alive, or of all that it reads
pub data Sort : Type 0 where
  single : Sort
  coded : Sort
  live_stacks : Sort
  stacks : Sort

abbrev pub sort_of : AgentCall → Sort
sort_of (SuspendList threads) = coded
sort_of (ResumeList threads) = coded
sort_of (AllStacks max_count) = live_stacks
sort_of (ListStacks threads max_count) = stacks
sort_of _ = single

module _ (limits : Limits) (histories : List (List Entry)) (e : EnvNo) where
  -- the code of each of these, after what was done before
  abbrev pub codes_from : List Happening → List Happening → List (Option ℕ)
  codes_from done [] = []
  codes_from done (h ∷ hs) = code_of (told limits histories e done h) ∷ codes_from (done ++ h ∷ []) hs

  -- the stack of each read among these, if their stops and gos are done
  abbrev pub stacks_from : List Happening → List Happening → List (Option StackInfo)
  stacks_from done [] = []
  stacks_from done (h ∷ hs) = stack_told h.event (told limits histories e done h) ++ stacks_from (done ++ h ∷ []) hs

  -- the answer to a call that makes one event
  abbrev pub told_of : List Happening → List Happening → Option Answer
  told_of done (h ∷ []) = told limits histories e done h
  told_of done _ = None

  -- the reply to a call of this sort that is not refused as a whole, and that has done these
  abbrev pub IsReply : List Happening → Sort → List Happening → Reply → Type 0
  IsReply done single hs (Plain answer) = told_of done hs ≡ Some (said answer)
  IsReply done coded hs (Codes codes) = map Some codes ≡ codes_from done hs
  IsReply done live_stacks hs (Stacks infos) = map (λ i. Some (said_info i)) infos ≡ filter is_live (stacks_from done hs)
  IsReply done stacks hs (Stacks infos) = map (λ i. Some (said_info i)) infos ≡ stacks_from done hs
  IsReply done single hs _ = ⊥
  IsReply done coded hs _ = ⊥
  IsReply done live_stacks hs _ = ⊥
  IsReply done stacks hs _ = ⊥

  -- the refusal of a call as a whole, or its reply
  abbrev pub RefusedOr : Option TiError → Reply → Type 0 → Type 0
  RefusedOr (Some error) reply other = reply ≡ Plain (Refused error)
  RefusedOr None reply other = other

  -- a call's reply, after what its agent has done
  abbrev pub CallFits : List Happening → AgentCall → Reply → Type 0
  CallFits done call reply =
      RefusedOr (refused_whole limits e done (wants reply) call) reply (IsReply done (sort_of call) (done_by limits e done call reply) reply)

  -- the replies to the first of these calls, one after another
  abbrev pub CallsFit : List Happening → List AgentCall → List Reply → Type 0
  CallsFit done calls [] = Unit {0}
  CallsFit done [] (reply ∷ replies) = ⊥
  CallsFit done (call ∷ calls) (reply ∷ replies) = CallFits done call reply × CallsFit (done ++ done_by limits e done call reply) calls replies

  -- an agent's calls with their replies, in order, use up the entries that it left
  pub record AgentFits (spent : Bool) (calls : List AgentCall) (replies : List Reply) : Type 0 where
    pub all_made : spent ≡ false → length replies ≡ length calls
    pub replies_fit : CallsFit [] calls replies
    pub used_up : (t : ThreadNo) → t.0 < limits.threads → used limits e t (all_done limits e [] calls replies) ≡ length (got limits e (history_at histories t))

-- there are as many lists as the limits say
pub record HasShape (script : Script) (report : LiveReport) : Type 0 where
  pub calls : length script.calls ≡ script.limits.envs
  pub walks : length script.walks ≡ script.limits.threads
  pub replies : length report.replies ≡ script.limits.envs
  pub histories : length report.histories ≡ script.limits.threads
  pub refused : length report.refused ≡ script.limits.threads

-- the report fits its script
pub record Fits (script : Script) (report : LiveReport) : Type 0 where
  pub shape : HasShape script report
  pub legal : (t : ThreadNo) → t.0 < script.limits.threads → is_legal script.limits (history_at report.histories t) ≡ true
  pub calls : (e : EnvNo) → e.0 < script.limits.envs
      → AgentFits script.limits report.histories e report.spent (slice_index_or script.calls e.0 []) (slice_index_or report.replies e.0 [])
  pub walks : (t : ThreadNo) → t.0 < script.limits.threads
      → WalkFits script.limits report.spent (slice_index_or script.walks t.0 []) (slice_index_or report.refused t.0 []) (history_at report.histories t)
