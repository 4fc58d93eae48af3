-- Slots that are read one after another, and what they are spelled as.
use Rattle.std.proofs.Common.{◌≡◌, ◌⊎◌, ℕ, zero, suc, ◌+◌, ◌-◌, ◌*◌, ◌/◌, ◌%◌, ◌<◌, ◌≤◌, List, [], ◌∷◌, ◌++◌, length, take, get_or, drop, Result, Ok, Err, Vec, Global, refl, sym, ap, subst, ◌∙◌, append_assoc, arith, length-drop, length-append, inl}
use Rattle.std.specs.Prelude.{IfOk, IfErr}
use Rattle.std.specs.Int.{w32, from_be_bytes}
use Rattle.std.proofs.lemmas.List.{append-nil, nil_from_length, drop-drop, drop_at}
use Rattle.ti_jdwp.specs.declared.error.JdwpError.{JdwpError}
use Rattle.ti_jdwp.specs.declared.error.JdwpError.TheVariants as error
use Rattle.ti_jdwp.specs.Fields.{int, int_at}
use Rattle.ti_jdwp.specs.Slots.{AreSlots, slots_from}
use Rattle.ti_jdwp.proofs.Bytes.{IsBytes, IsBytes-drop}
use Rattle.ti_jdwp.proofs.Parts.{int_front, int_again, int_len}

-- one slot more
pub goes_on : (bytes : List ℕ) (count i : ℕ) (old new total : List ℕ) → i < count → new ≡ old ++ int_at (5 * i) bytes ∷ [] → old ++ slots_from (count - i) (5 * i) bytes ≡ total
    → new ++ slots_from (count - (i + 1)) (5 * (i + 1)) bytes ≡ total
unfolding slots_from
goes_on bytes count i old new total lt is so_far =
    let k : count - i ≡ suc (count - (i + 1)) = omega arith in
    let at : 5 * (i + 1) ≡ 5 * i + 5 = omega arith in
    ap (λ (n : ℕ). new ++ slots_from (count - (i + 1)) n bytes) at
    ∙ ap (λ (l : List ℕ). l ++ slots_from (count - (i + 1)) (5 * i + 5) bytes) is
    ∙ append_assoc old (int_at (5 * i) bytes ∷ []) (slots_from (count - (i + 1)) (5 * i + 5) bytes)
    ∙ sym (ap (λ (n : ℕ). old ++ slots_from n (5 * i) bytes) k)
    ∙ so_far

pub is_done : (bytes : List ℕ) (count i : ℕ) (slots total : List ℕ) → count ≤ i → slots ++ slots_from (count - i) (5 * i) bytes ≡ total → slots ≡ total
unfolding slots_from
is_done bytes count i slots total le so_far =
    let k : count - i ≡ 0 = omega arith in
    sym (append-nil slots) ∙ sym (ap (λ (n : ℕ). slots ++ slots_from n (5 * i) bytes) k) ∙ so_far

first_and_rest : (l : List ℕ) → 1 ≤ length l → l ≡ get_or l 0 0 ∷ drop 1 l
first_and_rest [] many = absurd (omega arith)
first_and_rest (x ∷ l) many = refl

-- what is read is spelled so
spelled : (n at : ℕ) (bytes : List ℕ) → IsBytes bytes → length bytes ≡ at + 5 * n → AreSlots (slots_from n at bytes) (drop at bytes)
unfolding AreSlots slots_from
spelled zero at bytes fits len = nil_from_length (drop at bytes) (omega (arith, length-drop at bytes))
spelled (suc n) at bytes fits len =
    let front = int_front (drop at bytes) (omega (arith, length-drop at bytes)) (IsBytes-drop at bytes fits) in
    let behind : List ℕ = drop 4 (drop at bytes) in
    let one : behind ≡ get_or behind 0 0 ∷ drop 1 behind = first_and_rest behind (omega (arith, length-drop at bytes, length-drop 4 (drop at bytes))) in
    let rest : drop 1 behind ≡ drop (at + 5) bytes = drop-drop 1 4 (drop at bytes) ∙ drop-drop 5 at bytes in
    let next : behind ≡ get_or behind 0 0 ∷ drop (at + 5) bytes = one ∙ ap (λ (l : List ℕ). get_or behind 0 0 ∷ l) rest in
    (get_or behind 0 0, drop (at + 5) bytes, front.1, front.0.parts ∙ ap (λ (l : List ℕ). int (int_at at bytes) ++ l) next, spelled n (at + 5) bytes fits (omega arith))

-- places in what is dropped
shifted : (n at k : ℕ) (bytes : List ℕ) → slots_from n (at + k) bytes ≡ slots_from n k (drop at bytes)
unfolding slots_from
shifted zero at k bytes = refl
shifted (suc n) at k bytes =
    let first : int_at k (drop at bytes) ≡ int_at (at + k) bytes = ap (λ (l : List ℕ). from_be_bytes w32 (take 4 l)) (drop-drop k at bytes) in
    let more : at + k + 5 ≡ at + (k + 5) = omega arith in
    ap (λ (m : ℕ). m ∷ slots_from n (at + k + 5) bytes) (sym first)
    ∙ ap (λ (l : List ℕ). int_at k (drop at bytes) ∷ l) (ap (λ (m : ℕ). slots_from n m bytes) more ∙ shifted n at (k + 5) bytes)

-- what is spelled so has five bytes for each, and is read
read_again : (slots bytes : List ℕ) → AreSlots slots bytes → (length bytes ≡ 5 * length slots) × (slots_from (length slots) 0 bytes ≡ slots)
unfolding AreSlots slots_from
read_again [] bytes are = (ap (λ (l : List ℕ). length l) are, refl)
read_again (s ∷ slots) bytes are =
    let tag = are.0 in
    let rest = are.1 in
    let more = read_again slots rest are.4 in
    let len : length bytes ≡ 5 + length rest = ap (λ (l : List ℕ). length l) are.3 ∙ omega (arith, length-append (int s) (tag ∷ rest), int_len s) in
    let first : int_at 0 bytes ≡ s = ap (λ (l : List ℕ). int_at 0 l) are.3 ∙ int_again s (tag ∷ rest) are.2 in
    let split : bytes ≡ (int s ++ tag ∷ []) ++ rest = are.3 ∙ sym (append_assoc (int s) (tag ∷ []) rest) in
    let five : length (int s ++ tag ∷ []) ≡ 5 = omega (arith, length-append (int s) (tag ∷ []), int_len s) in
    let behind : drop 5 bytes ≡ rest = ap (λ (l : List ℕ). drop 5 l) split ∙ drop_at (int s ++ tag ∷ []) rest 5 five in (
      omega (arith, len, more.0),
      ap (λ (m : ℕ). m ∷ slots_from (length slots) 5 bytes) first
          ∙ ap (λ (l : List ℕ). s ∷ l) (shifted (length slots) 5 0 bytes ∙ ap (λ (l : List ℕ). slots_from (length slots) 0 l) behind ∙ more.1),
    )

-- as many slots as there are parts of five bytes
parts_of_five : (n : ℕ) → n % 5 ≡ 0 → n ≡ 5 * (n / 5)
parts_of_five n none = omega (arith, none)

pub are_slots : (bytes : List ℕ) (r : Result (Vec ℕ Global) JdwpError) → IsBytes bytes → length bytes % 5 ≡ 0 → IfOk r (λ v. v.items ≡ slots_from (length bytes / 5) 0 bytes) → IfOk r (λ v. AreSlots v.items bytes)
are_slots bytes (Ok v) fits even is = subst (λ (l : List ℕ). AreSlots l bytes) (sym is) (spelled (length bytes / 5) 0 bytes fits (omega (arith, parts_of_five (length bytes) even)))
are_slots bytes (Err e) fits even is = tt

pub only_these : (bytes : List ℕ) (r : Result (Vec ℕ Global) JdwpError) → length bytes % 5 ≡ 0 → IfOk r (λ v. v.items ≡ slots_from (length bytes / 5) 0 bytes) → (slots : List ℕ) → AreSlots slots bytes → IfOk r (λ v. v.items ≡ slots)
only_these bytes (Ok v) even is slots are =
    let again = read_again slots bytes are in
    let whole = parts_of_five (length bytes) even in
    let many : length bytes / 5 ≡ length slots = omega (arith, whole, again.0) in
    is ∙ ap (λ (m : ℕ). slots_from m 0 bytes) many ∙ again.1
only_these bytes (Err e) even is slots are = tt

-- bytes that are left over are no slot's
pub none_spelled : (bytes : List ℕ) → (length bytes % 5 ≡ 0 → ⊥) → (slots : List ℕ) → AreSlots slots bytes → ⊥
none_spelled bytes odd slots are = let again = read_again slots bytes are in odd (omega (arith, again.0))

pub memory : (bytes : List ℕ) (r : Result (Vec ℕ Global) JdwpError) → IfErr r (λ e. e ≡ error.OutOfMemory) → IfErr r (λ e. (e ≡ error.OutOfMemory) ⊎ ((e ≡ error.IllegalArgument) × ((slots : List ℕ) → AreSlots slots bytes → ⊥)))
memory bytes (Ok v) is = tt
memory bytes (Err e) is = inl is
