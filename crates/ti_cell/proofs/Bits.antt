-- What the word shows.
use Rattle.std.proofs.Common.{◌≡◌, ◌≢◌, ℕ, ◌+◌, ◌*◌, ◌/◌, ◌%◌, ◌<◌, List, length, Bool, true, false, refl, sym, ap, subst, arith}
use Rattle.std.specs.Prelude.{nat_eq}
use Rattle.std.proofs.Math.Seq.{take-length}
use Rattle.ti_types.specs.declared.entry.Entry.{Entry}
use Rattle.ti_types.specs.declared.limits.Limits.{Limits}
use Rattle.ti_replay.specs.Legal.{is_armed}
use Rattle.ti_cell.specs.declared.look.Look.{Look}
use Rattle.ti_cell.specs.Word.{bit, word_at, word_of, look_of, bars, IsLook}

bit_small : (b : Bool) → bit b < 2
bit_small true = omega arith
bit_small false = omega arith

bit_is : (b : Bool) (n : ℕ) → n ≡ bit b → nat_eq n 1 ≡ b
bit_is true n e = ap (λ (k : ℕ). nat_eq k 1) e
bit_is false n e = ap (λ (k : ℕ). nat_eq k 1) e

armed_bit : (n x y z : ℕ) → x < 2 → y < 2 → z < 2 → (8 * n + (4 * x + (2 * y + z))) / 2 % 2 ≡ y
armed_bit n x y z a b c = omega arith

barred_bit : (n x y z : ℕ) → x < 2 → y < 2 → z < 2 → (8 * n + (4 * x + (2 * y + z))) / 4 % 2 ≡ x
barred_bit n x y z a b c = omega arith

count_bits : (n x y z : ℕ) → x < 2 → y < 2 → z < 2 → (8 * n + (4 * x + (2 * y + z))) / 8 ≡ n
count_bits n x y z a b c = omega arith

lock_bit : (n x y z : ℕ) → z < 2 → (8 * n + (4 * x + (2 * y + z))) % 2 ≡ z
lock_bit n x y z c = omega arith

pub looks_at : (n : ℕ) (b a l : Bool) → look_of (word_at n b a l) ≡ record { armed = a; barred = b; count = n }
looks_at n b a l = λ i. record {
  armed = bit_is a _ (armed_bit n (bit b) (bit a) (bit l) (bit_small b) (bit_small a) (bit_small l)) i;
  barred = bit_is b _ (barred_bit n (bit b) (bit a) (bit l) (bit_small b) (bit_small a) (bit_small l)) i;
  count = count_bits n (bit b) (bit a) (bit l) (bit_small b) (bit_small a) (bit_small l) i;
}

pub is_look : (limits : Limits) (locked : Bool) (history : List Entry) → IsLook limits history (look_of (word_of limits locked history))
is_look limits locked history =
    let whole = take-length history in
    subst (IsLook limits history) (sym (looks_at (length history) (bars limits history) (is_armed limits history) locked)) (omega arith, ap (is_armed limits) whole, ap (bars limits) whole)

pub counts : (limits : Limits) (locked : Bool) (history : List Entry) → (look_of (word_of limits locked history)).count ≡ length history
counts limits locked history = ap (λ (l : Look). l.count) (looks_at (length history) (bars limits history) (is_armed limits history) locked)

pub even_is_free : (limits : Limits) (locked : Bool) (history : List Entry) → word_of limits locked history % 2 ≡ 0 → locked ≡ false
even_is_free limits false history e = refl
even_is_free limits true history e = let odd = lock_bit (length history) (bit (bars limits history)) (bit (is_armed limits history)) 1 (omega arith) in absurd (omega arith)

pub odd_is_locked : (limits : Limits) (locked : Bool) (history : List Entry) → word_of limits locked history % 2 ≢ 0 → locked ≡ true
odd_is_locked limits true history e = refl
odd_is_locked limits false history e = absurd (e (lock_bit (length history) (bit (bars limits history)) (bit (is_armed limits history)) 0 (omega arith)))

pub locked_is_more : (limits : Limits) (history : List Entry) → word_of limits false history + 1 ≡ word_of limits true history
locked_is_more limits history = more (length history) (bit (bars limits history)) (bit (is_armed limits history))
  where
    more : (n x y : ℕ) → 8 * n + (4 * x + (2 * y + 0)) + 1 ≡ 8 * n + (4 * x + (2 * y + 1))
    more n x y = omega arith
