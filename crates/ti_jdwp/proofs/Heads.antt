-- An input begins with one thing alone.
use Rattle.std.proofs.Common.{◌≡◌, ℕ, ◌+◌, ◌^◌, ◌<◌, ◌≤◌, Bool, false, cond, ltb, leb, List, [], ◌∷◌, ◌++◌, length, get_or, refl, sym, ap, subst, ◌∙◌, append_assoc, arith, length-append, inl, inr}
use Rattle.std.proofs.lemmas.Bool.{lt-ltb, le-ltb, le-leb, lt-leb}
use Rattle.ti_jdwp.specs.declared.packet.Head.{Head}
use Rattle.ti_jdwp.specs.declared.packet.Head.TheVariants as head
use Rattle.ti_jdwp.specs.Fields.{int, int_at}
use Rattle.ti_jdwp.specs.Packets.{BeginsWith, BeginsWithLength, BeginsWithHead}
use Rattle.ti_jdwp.proofs.Parts.{taken, int_again, int_len}

not_taken : {A : Type 0} (b : Bool) (x y : A) → b ≡ false → cond b x y ≡ y
not_taken b x y e = ap (λ (t : Bool). cond t x y) e

-- what follows a length that is let in
abbrev behind_length : List ℕ → Head
behind_length input =
    cond (ltb (length input) 11) head.NeedsMore
    (cond (leb 128 (get_or input 8 0)) (head.Reply (int_at 0 input)) (head.Request (int_at 4 input) (get_or input 9 0) (get_or input 10 0) (int_at 0 input)))

abbrev by_length : List ℕ → ℕ → Head
by_length input len = cond (ltb len 11) head.TooShort (cond (ltb 65536 len) head.TooLong (behind_length input))

abbrev head_of : List ℕ → Head
head_of input = cond (ltb (length input) 4) head.NeedsMore (by_length input (int_at 0 input))

length_is : (input : List ℕ) (len : ℕ) → len < 2 ^ 32 → BeginsWithLength input len → (int_at 0 input ≡ len) × (4 ≤ length input)
length_is input len fits h =
    let size : length input ≡ length (int len) + length h.0 = ap (λ (x : List ℕ). length x) h.1 ∙ length-append (int len) h.0 in
    (ap (λ (x : List ℕ). int_at 0 x) h.1 ∙ int_again len h.0 fits, omega (arith, size, int_len len))

has_length : (input : List ℕ) (len : ℕ) → int_at 0 input ≡ len → 4 ≤ length input → head_of input ≡ by_length input len
has_length input len is many = not_taken (ltb (length input) 4) head.NeedsMore (by_length input (int_at 0 input)) (le-ltb (length input) 4 many) ∙ ap (λ (n : ℕ). by_length input n) is

let_in : (input : List ℕ) (len : ℕ) → 11 ≤ len → len ≤ 65536 → by_length input len ≡ behind_length input
let_in input len some few =
    not_taken (ltb len 11) head.TooShort (cond (ltb 65536 len) head.TooLong (behind_length input)) (le-ltb len 11 some)
    ∙ not_taken (ltb 65536 len) head.TooLong (behind_length input) (le-ltb 65536 len few)

-- the parts of a head
record Parts (input : List ℕ) (len flags set command : ℕ) : Type 0 where
  is_len : int_at 0 input ≡ len
  is_flags : get_or input 8 0 ≡ flags
  is_set : get_or input 9 0 ≡ set
  is_command : get_or input 10 0 ≡ command
  many : 11 ≤ length input

parts_of : (len id flags set command : ℕ) (rest : List ℕ) → len < 2 ^ 32 → Parts (int len ++ (int id ++ flags ∷ set ∷ command ∷ rest)) len flags set command
unfolding int
parts_of len id flags set command rest l = record {
  is_len = int_again len (int id ++ flags ∷ set ∷ command ∷ rest) l;
  is_flags = refl;
  is_set = refl;
  is_command = refl;
  many = omega arith;
}

id_of : (len id : ℕ) (rest : List ℕ) → id < 2 ^ 32 → int_at 4 (int len ++ (int id ++ rest)) ≡ id
unfolding int
id_of len id rest i = int_again id rest i

regrouped : (input : List ℕ) (len id flags set command : ℕ) (h : BeginsWithHead input len id flags set command) → input ≡ int len ++ (int id ++ flags ∷ set ∷ command ∷ h.0)
regrouped input len id flags set command h = h.1 ∙ append_assoc (int len ++ int id) (flags ∷ set ∷ command ∷ []) h.0 ∙ append_assoc (int len) (int id) (flags ∷ set ∷ command ∷ h.0)

parts : (input : List ℕ) (len id flags set command : ℕ) → len < 2 ^ 32 → BeginsWithHead input len id flags set command → Parts input len flags set command
parts input len id flags set command l h = subst (λ (x : List ℕ). Parts x len flags set command) (sym (regrouped input len id flags set command h)) (parts_of len id flags set command h.0 l)

id_is : (input : List ℕ) (len id flags set command : ℕ) → id < 2 ^ 32 → BeginsWithHead input len id flags set command → int_at 4 input ≡ id
id_is input len id flags set command i h = ap (λ (x : List ℕ). int_at 4 x) (regrouped input len id flags set command h) ∙ id_of len id (flags ∷ set ∷ command ∷ h.0) i

whole_head : (input : List ℕ) (len flags set command : ℕ) → Parts input len flags set command → 11 ≤ len → len ≤ 65536
    → head_of input ≡ cond (leb 128 (get_or input 8 0)) (head.Reply (int_at 0 input)) (head.Request (int_at 4 input) (get_or input 9 0) (get_or input 10 0) (int_at 0 input))
whole_head input len flags set command p some few =
    has_length input len p.is_len (omega (arith, p.many)) ∙ let_in input len some few
    ∙ not_taken (ltb (length input) 11) head.NeedsMore (cond (leb 128 (get_or input 8 0)) (head.Reply (int_at 0 input)) (head.Request (int_at 4 input) (get_or input 9 0) (get_or input 10 0) (int_at 0 input))) (le-ltb (length input) 11 p.many)

pub is_one : (input : List ℕ) (h : Head) → BeginsWith input h → head_of input ≡ h
is_one input head.NeedsMore (inl short) = taken (ltb (length input) 4) head.NeedsMore (by_length input (int_at 0 input)) (lt-ltb (length input) 4 short)
is_one input head.NeedsMore (inr k) =
    let len : ℕ = k.1.0 in
    let l = length_is input len (omega (arith, k.1.2.1)) k.1.1 in
    has_length input len l.0 l.1 ∙ let_in input len k.1.2.0 k.1.2.1
    ∙ taken (ltb (length input) 11) head.NeedsMore (cond (leb 128 (get_or input 8 0)) (head.Reply (int_at 0 input)) (head.Request (int_at 4 input) (get_or input 9 0) (get_or input 10 0) (int_at 0 input))) (lt-ltb (length input) 11 k.0)
is_one input head.TooShort k =
    let l = length_is input k.0 (omega (arith, k.2)) k.1 in
    has_length input k.0 l.0 l.1 ∙ taken (ltb k.0 11) head.TooShort (cond (ltb 65536 k.0) head.TooLong (behind_length input)) (lt-ltb k.0 11 k.2)
is_one input head.TooLong k =
    let l = length_is input k.0 k.3 k.1 in
    has_length input k.0 l.0 l.1
    ∙ not_taken (ltb k.0 11) head.TooShort (cond (ltb 65536 k.0) head.TooLong (behind_length input)) (le-ltb k.0 11 (omega (arith, k.2)))
    ∙ taken (ltb 65536 k.0) head.TooLong (behind_length input) (lt-ltb 65536 k.0 k.2)
is_one input (head.Request id set command len) k =
    let p = parts input len id k.0 set command (omega (arith, k.3.1)) k.1 in
    whole_head input len k.0 set command p k.3.0 k.3.1
    ∙ not_taken (leb 128 (get_or input 8 0)) (head.Reply (int_at 0 input)) (head.Request (int_at 4 input) (get_or input 9 0) (get_or input 10 0) (int_at 0 input)) (lt-leb 128 (get_or input 8 0) (omega (arith, p.is_flags, k.4)))
    ∙ ap (λ (n : ℕ). head.Request n (get_or input 9 0) (get_or input 10 0) (int_at 0 input)) (id_is input len id k.0 set command k.2 k.1)
    ∙ ap (λ (n : ℕ). head.Request id n (get_or input 10 0) (int_at 0 input)) p.is_set
    ∙ ap (λ (n : ℕ). head.Request id set n (int_at 0 input)) p.is_command
    ∙ ap (λ (n : ℕ). head.Request id set command n) p.is_len
is_one input (head.Reply len) k =
    let p = parts input len k.0 k.1 k.2 k.3 (omega (arith, k.5.1)) k.4 in
    whole_head input len k.1 k.2 k.3 p k.5.0 k.5.1
    ∙ taken (leb 128 (get_or input 8 0)) (head.Reply (int_at 0 input)) (head.Request (int_at 4 input) (get_or input 9 0) (get_or input 10 0) (int_at 0 input)) (le-leb 128 (get_or input 8 0) (omega (arith, p.is_flags, k.6)))
    ∙ ap (λ (n : ℕ). head.Reply n) p.is_len
