-- The room that the lines of a report need.
use Rattle.std.specs.Prelude.{ℕ, ◌+◌, ◌≤◌, List, [], ◌∷◌, length, None, ⊤}
use Rattle.ti_live.specs.declared.reply.Reply.{Reply}
use Rattle.ti_live.specs.declared.report.Refusal.{Refusal}
use Rattle.ti_script.specs.declared.names.Cast.{Cast}
use Rattle.ti_script.specs.LiveTexts.{name_text, reply_line, refusal_line, verdict_line}

-- no line of an agent's replies, which are numbered from this one on, is longer than this
abbrev pub AreReplyLinesWithin : ℕ → Cast → (agent : List ℕ) → ℕ → List Reply → Type 0
AreReplyLinesWithin most names agent number [] = ⊤
AreReplyLinesWithin most names agent number (r ∷ rs) =
    (length (reply_line names.threads names.methods agent number r) ≤ most) × AreReplyLinesWithin most names agent (number + 1) rs

-- no line of the replies of agents, which are numbered from this one on, is longer than this
abbrev pub AreAgentLinesWithin : ℕ → Cast → ℕ → List (List Reply) → Type 0
AreAgentLinesWithin most names number [] = ⊤
AreAgentLinesWithin most names number (rs ∷ more) =
    AreReplyLinesWithin most names (name_text names.agents number) 0 rs × AreAgentLinesWithin most names (number + 1) more

-- no line of a refused operation of this thread is longer than this, and neither is the line that its history is legal
pub record AreThreadLinesWithin (most : ℕ) (thread : List ℕ) : Type 0 where
  pub refusals : (refusal : Refusal) → length (refusal_line thread refusal) ≤ most
  pub legal : length (verdict_line thread None) ≤ most

-- there is room for a chunk, and for each line after it
abbrev pub HasRoomFor : ℕ → (ℕ → Type 0) → Type 0
HasRoomFor capacity AreWithin = (most : ℕ) × AreWithin most × (65536 + most ≤ capacity)
