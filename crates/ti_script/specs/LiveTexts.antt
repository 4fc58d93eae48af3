-- The texts of a live run: a line for each reply, each refused operation and each thread.
use Rattle.std.specs.Prelude.{ℕ, ◌+◌, List, [], ◌∷◌, ◌++◌, codes, decimal, slice_get, unwrap_or, Option, None, Some}
use Rattle.std.specs.List.{flat_map}
use Rattle.ti_live.specs.declared.reply.Reply.{Reply}
use Rattle.ti_live.specs.declared.reply.Reply.TheVariants.{Plain, Codes, Stacks}
use Rattle.ti_types.specs.declared.stack.StackInfo.{StackInfo}
use Rattle.ti_live.specs.declared.report.Refusal.{Refusal}
use Rattle.ti_script.specs.Texts.{answer_text, bits_text, frames_text}

abbrev pub name_text : List (List ℕ) → ℕ → List ℕ
name_text names number = unwrap_or (slice_get names number) []

-- a thread's name, its state bits and its frames
abbrev pub info_text : (threads methods : List (List ℕ)) → StackInfo → List ℕ
info_text threads methods info = name_text threads info.thread.0 ++ (codes " " ++ (bits_text info.state ++ frames_text methods info.frames.frames))

abbrev pub codes_text : List ℕ → List ℕ
codes_text numbers = flat_map (λ c. codes " " ++ decimal c) numbers

abbrev pub infos_text : (threads methods : List (List ℕ)) → List StackInfo → List ℕ
infos_text threads methods infos = flat_map (λ i. codes " | " ++ info_text threads methods i) infos

abbrev pub reply_text : (threads methods : List (List ℕ)) → Reply → List ℕ
reply_text threads methods (Plain answer) = answer_text methods answer
reply_text threads methods (Codes numbers) = codes "codes" ++ codes_text numbers
reply_text threads methods (Stacks infos) = codes "stacks" ++ infos_text threads methods infos

-- a name and a number
abbrev pub numbered_text : (name : List ℕ) → ℕ → List ℕ
numbered_text name number = name ++ (codes " " ++ decimal number)

-- the agent's name, the call's number and the reply
abbrev pub reply_line : (threads methods : List (List ℕ)) → (agent : List ℕ) → ℕ → Reply → List ℕ
reply_line threads methods agent number reply = numbered_text agent number ++ (codes " " ++ (reply_text threads methods reply ++ codes "\n"))

-- the thread's name, the operation's number and the error's number
abbrev pub refusal_line : (thread : List ℕ) → Refusal → List ℕ
refusal_line thread refusal = numbered_text thread refusal.operation ++ (codes " error " ++ (decimal refusal.error ++ codes "\n"))

-- the thread's name, and that its history is legal, or the place of its first illegal entry
abbrev pub verdict_line : (thread : List ℕ) → Option ℕ → List ℕ
verdict_line thread None = thread ++ codes " legal\n"
verdict_line thread (Some at) = thread ++ (codes " illegal " ++ (decimal at ++ codes "\n"))

-- the replies of one agent, numbered from this one on
abbrev pub replies_text : (threads methods : List (List ℕ)) → (agent : List ℕ) → ℕ → List Reply → List ℕ
replies_text threads methods agent number [] = []
replies_text threads methods agent number (r ∷ rs) = reply_line threads methods agent number r ++ replies_text threads methods agent (number + 1) rs

-- the replies of agents that are numbered from this one on
abbrev pub agents_text : (threads agents methods : List (List ℕ)) → ℕ → List (List Reply) → List ℕ
agents_text threads agents methods number [] = []
agents_text threads agents methods number (rs ∷ more) = replies_text threads methods (name_text agents number) 0 rs ++ agents_text threads agents methods (number + 1) more

-- a line for each refused operation of a thread
abbrev pub refusals_text : (thread : List ℕ) → List Refusal → List ℕ
refusals_text thread refused = flat_map (refusal_line thread) refused

-- one thread: its refused operations, and the verdict on its history
abbrev pub thread_text : (thread : List ℕ) → List Refusal → Option ℕ → List ℕ
thread_text thread refused verdict = refusals_text thread refused ++ verdict_line thread verdict
