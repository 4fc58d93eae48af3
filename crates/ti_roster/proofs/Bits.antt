-- What the word shows.
use Rattle.std.proofs.Common.{◌≡◌, ◌+◌, ◌/◌, ◌%◌, List, length, Bool, true, false, refl, arith}
use Rattle.ti_roster.specs.declared.coming.Coming.{Coming}
use Rattle.ti_roster.specs.Word.{word_of}

pub counts : (locked : Bool) (log : List Coming) → word_of locked log / 2 ≡ length log
counts true log = omega arith
counts false log = omega arith

pub even_is_free : (locked : Bool) (log : List Coming) → word_of locked log % 2 ≡ 0 → locked ≡ false
even_is_free false log e = refl
even_is_free true log e = absurd (omega arith)

pub locked_is_more : (log : List Coming) → word_of false log + 1 ≡ word_of true log
locked_is_more log = omega arith
