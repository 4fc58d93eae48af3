-- The room that texts take.
use Rattle.std.proofs.Common.{◌≡◌, ℕ, zero, suc, ◌+◌, ◌/◌, ◌%◌, ◌^◌, ◌≤◌, ◌<◌, List, [], ◌∷◌, ◌++◌, length, false, cond, refl, sym, ap, ◌∙◌, arith, decimal, inl, inr, ◌⊎◌, append_assoc, length-append}
use Rattle.std.specs.Fmt.{digits, digits_onto, digit_glyph}
use Rattle.std.proofs.lemmas.Fmt.{hex_one_digit, decimal_digit}
use Rattle.std.proofs.lemmas.Bool.{cases_order, lt-ltb}
use mathlib.Core.Logic.{⊎_elim}
use borrow.Author.Tests.{eq-eqb, ne_eqb}

pub length_of_both : (xs ys : List ℕ) → length (xs ++ ys) ≡ length xs + length ys
length_of_both xs ys = length-append xs ys

pub ruleset lengths = (length_of_both)

-- ---- hexadecimal digits, from the last one on

is_below : (n : ℕ) → (n ≡ 16) ⊎ ((n < 16) ⊎ (16 < n)) → (n < 16) ⊎ (16 ≤ n)
is_below n (inl e) = inr (omega arith)
is_below n (inr (inl l)) = inl l
is_below n (inr (inr g)) = inr (omega arith)

below_or_not : (n : ℕ) → (n < 16) ⊎ (16 ≤ n)
below_or_not n = is_below n (cases_order n 16)

all_digits : (n : ℕ) → digits_onto 64 16 false n [] ≡ digits 16 false n
unfolding digits
all_digits n = refl

abbrev spell : ℕ → ℕ → List ℕ → List ℕ
spell k n acc = digits_onto k 16 false n acc

abbrev last_glyph : ℕ → ℕ
last_glyph n = digit_glyph false (n % 16)

spell_last : (k n : ℕ) (acc : List ℕ) → n < 16 → spell (suc k) n acc ≡ last_glyph n ∷ acc
spell_last k n acc h = ap (λ t. cond t (last_glyph n ∷ acc) (spell k (n / 16) (last_glyph n ∷ acc))) (eq-eqb (n / 16) 0 (omega arith))

spell_next : (k n : ℕ) (acc : List ℕ) → 16 ≤ n → spell (suc k) n acc ≡ spell k (n / 16) (last_glyph n ∷ acc)
spell_next k n acc h = ap (λ t. cond t (last_glyph n ∷ acc) (spell k (n / 16) (last_glyph n ∷ acc))) (ne_eqb (n / 16) 0 (λ e. omega arith))

spell-append : (k n : ℕ) (acc : List ℕ) → spell k n acc ≡ spell k n [] ++ acc
spell-append zero n acc = refl
spell-append (suc k) n acc = ⊎_elim
    (λ l. spell_last k n acc l ∙ ap (λ x. x ++ acc) (sym (spell_last k n [] l)))
    (λ l. spell_next k n acc l ∙ spell-append k (n / 16) (last_glyph n ∷ acc) ∙ sym (append_assoc (spell k (n / 16) []) (last_glyph n ∷ []) acc) ∙ ap (λ x. x ++ acc) (sym (spell_next k n [] l ∙ spell-append k (n / 16) (last_glyph n ∷ []))))
    (below_or_not n)

-- how many digits there may be does not matter once it is enough
spell_enough : (j k n : ℕ) (acc : List ℕ) → n < 16 ^ suc j → n < 16 ^ suc k → spell (suc j) n acc ≡ spell (suc k) n acc
spell_enough zero k n acc p q = spell_last zero n acc (omega arith) ∙ sym (spell_last k n acc (omega arith))
spell_enough (suc j) zero n acc p q = spell_last (suc j) n acc (omega arith) ∙ sym (spell_last zero n acc (omega arith))
spell_enough (suc j) (suc k) n acc p q = ⊎_elim
    (λ l. spell_last (suc j) n acc l ∙ sym (spell_last (suc k) n acc l))
    (λ l. spell_next (suc j) n acc l ∙ spell_enough j k (n / 16) (last_glyph n ∷ acc) (omega arith) (omega arith) ∙ sym (spell_next (suc k) n acc l))
    (below_or_not n)

pub one_digit : (n : ℕ) → n < 16 → digits 16 false n ≡ digit_glyph false n ∷ []
one_digit n h = hex_one_digit false n h

pub more_digits : (n : ℕ) → 16 ≤ n → n < 2 ^ 32 → digits 16 false n ≡ digits 16 false (n / 16) ++ (digit_glyph false (n % 16) ∷ [])
more_digits n h small =
    sym (all_digits n) ∙ spell_next 63 n [] h ∙ spell_enough 62 63 (n / 16) (last_glyph n ∷ []) (omega arith) (omega arith) ∙ spell-append 64 (n / 16) (last_glyph n ∷ [])
    ∙ ap (λ l. l ++ (last_glyph n ∷ [])) (all_digits (n / 16))

pub ruleset hexadecimal = (one_digit, more_digits, length_of_both)

-- a number of one digit, by the digits of hexadecimal numbers
pub one_digit_decimal : (n : ℕ) → n < 10 → decimal n ≡ digit_glyph false n ∷ []
one_digit_decimal n h = decimal_digit n h ∙ ap (λ d. d ∷ []) (sym (ap (λ t. cond t (48 + n) (87 + n)) (lt-ltb n 10 h)))
