-- Lengths that no line of a report exceeds.
use Rattle.std.proofs.Common.{ℕ, ◌+◌, ◌≤◌, List, [], ◌∷◌, None, arith, rules}
use Rattle.std.specs.Ordering.{nat_cmp, ord_max}
use Rattle.ti_live.specs.declared.reply.Reply.{Reply}
use Rattle.ti_script.specs.declared.names.Cast.{Cast}
use Rattle.ti_script.specs.Bounds.{AreNamesWithin}
use Rattle.ti_script.specs.LiveBounds.{AreRefusalsWithin, AreVerdictsWithin}
use Rattle.ti_script.specs.LiveTexts.{name_text}
use Rattle.ti_driver.specs.ReportLines.{AreReplyLinesWithin, AreThreadLinesWithin}

-- no line is longer than a greater length either
pub within_more : (few most : ℕ) (names : Cast) (agent : List ℕ) (number : ℕ) (rs : List Reply) → few ≤ most → AreReplyLinesWithin few names agent number rs → AreReplyLinesWithin most names agent number rs
within_more few most names agent number [] more within = tt
within_more few most names agent number (r ∷ rs) more within = (omega (arith, more, within.0), within_more few most names agent (number + 1) rs more within.1)

-- the lines of each thread, by a length for all names that are so long
pub thread_lines : (threads : List (List ℕ)) (longest most : ℕ) → AreNamesWithin longest threads → AreRefusalsWithin longest most → AreVerdictsWithin longest most
    → (number : ℕ) → AreThreadLinesWithin most (name_text threads number)
thread_lines threads longest most names refusals verdicts number = record {
  refusals = λ refusal. refusals (name_text threads number) refusal (names number);
  legal = verdicts (name_text threads number) None (names number);
}

-- what the greater of two lengths does not exceed neither does
pub max_first : (a b most : ℕ) → ord_max nat_cmp a b ≤ most → a ≤ most
max_first a b most h = search (rules, h)

pub max_second : (a b most : ℕ) → ord_max nat_cmp a b ≤ most → b ≤ most
max_second a b most h = search (rules, h)
