-- Bounds for the lengths of a live run's lines.
use Rattle.std.specs.Prelude.{ℕ, ◌≤◌, List, length, Option}
use Rattle.std.specs.List.{sum_by}
use Rattle.ti_live.specs.declared.reply.Reply.{Reply}
use Rattle.ti_live.specs.declared.reply.Reply.TheVariants.{Plain, Codes, Stacks}
use Rattle.ti_types.specs.declared.stack.StackInfo.{StackInfo}
use Rattle.ti_live.specs.declared.report.Refusal.{Refusal}
use Rattle.ti_script.specs.Bounds.{AreNamesWithin, frames_told}
use Rattle.ti_script.specs.LiveTexts.{reply_line, refusal_line, verdict_line}

abbrev pub frames_listed : List StackInfo → ℕ
frames_listed infos = sum_by (λ i. length i.frames.frames) infos

-- how many frames a reply's text has
abbrev pub frames_replied : Reply → ℕ
frames_replied (Plain answer) = frames_told answer
frames_replied (Codes numbers) = 0
frames_replied (Stacks infos) = frames_listed infos

-- how many codes or stacks a reply has
abbrev pub parts_replied : Reply → ℕ
parts_replied (Plain answer) = 0
parts_replied (Codes numbers) = length numbers
parts_replied (Stacks infos) = length infos

-- No line of a reply is longer than this. No agent's or thread's name may be longer than the first length, and no method's
-- than the second
abbrev pub AreRepliesWithin : (longest_name longest_method : ℕ) → Reply → ℕ → Type 0
AreRepliesWithin longest_name longest_method reply most = (threads methods : List (List ℕ)) (agent : List ℕ) (number : ℕ) → AreNamesWithin longest_name threads → AreNamesWithin longest_method methods
    → length agent ≤ longest_name → length (reply_line threads methods agent number reply) ≤ most

-- no line of a refused operation and no verdict is longer than this
abbrev pub AreRefusalsWithin : (longest_name : ℕ) → ℕ → Type 0
AreRefusalsWithin longest_name most = (thread : List ℕ) (refusal : Refusal) → length thread ≤ longest_name → length (refusal_line thread refusal) ≤ most

abbrev pub AreVerdictsWithin : (longest_name : ℕ) → ℕ → Type 0
AreVerdictsWithin longest_name most = (thread : List ℕ) (illegal : Option ℕ) → length thread ≤ longest_name → length (verdict_line thread illegal) ≤ most
