-- Numbers that stand at the front of bytes.
use Rattle.std.proofs.Common.{◌≡◌, ℕ, ◌+◌, ◌<◌, ◌≤◌, List, [], ◌∷◌, ◌++◌, length, get_or, take, drop, refl, sym, ap, ◌∙◌, arith, inl, inr}
use Rattle.std.specs.Int.{w32, to_be_bytes, from_be_bytes}
use Rattle.std.proofs.lemmas.Bool.{cases_lt}
use Rattle.std.proofs.lemmas.List.{length-take, get_or-drop, get_or-take, get_or_past}
use Rattle.std.proofs.lemmas.Nat.{be_bytes_4}
use Rattle.ti_jdwp.specs.Fields.{int}
use Rattle.ti_jdwp.specs.Packets.{BeginsWithLength, BeginsWithHead}

abbrev pub IsBytes : List ℕ → Type 0
IsBytes bytes = (i : ℕ) → get_or bytes i 0 < 256

pub IsBytes-drop : (n : ℕ) (bytes : List ℕ) → IsBytes bytes → IsBytes (drop n bytes)
IsBytes-drop n bytes h i = rw get_or-drop (h (n + i))

pub IsBytes-take : (n : ℕ) (bytes : List ℕ) → IsBytes bytes → IsBytes (take n bytes)
IsBytes-take n bytes h i =
    elim (cases_lt i n) [
      | inl lt ↦ rw (get_or-take n bytes i 0 lt) (h i)
      | inr le ↦ rw (get_or_past (take n bytes) i 0 (omega (arith, length-take n bytes))) (omega arith)
    ]

-- the number that four bytes spell
abbrev pub int_at : ℕ → List ℕ → ℕ
int_at at bytes = from_be_bytes w32 (get_or bytes at 0 ∷ get_or bytes (at + 1) 0 ∷ get_or bytes (at + 2) 0 ∷ get_or bytes (at + 3) 0 ∷ [])

pub length_first : (input : List ℕ) (n : ℕ) → 4 ≤ length input → IsBytes input → n ≡ int_at 0 input → BeginsWithLength input n
unfolding int
length_first (a ∷ b ∷ c ∷ d ∷ rest) n long fits is =
    (rest, ap (λ (t : List ℕ). t ++ rest) (sym (be_bytes_4 (a ∷ b ∷ c ∷ d ∷ []) n refl (IsBytes-take 4 (a ∷ b ∷ c ∷ d ∷ rest) fits) is)))
length_first xs n long fits is = absurd (omega arith)

pub head_first : (input : List ℕ) (len id : ℕ) → 11 ≤ length input → IsBytes input → len ≡ int_at 0 input → id ≡ int_at 4 input
    → BeginsWithHead input len id (get_or input 8 0) (get_or input 9 0) (get_or input 10 0)
unfolding int
head_first (a ∷ b ∷ c ∷ d ∷ e ∷ f ∷ g ∷ h ∷ i ∷ j ∷ k ∷ rest) len id long fits is_len is_id =
    let all : List ℕ = a ∷ b ∷ c ∷ d ∷ e ∷ f ∷ g ∷ h ∷ i ∷ j ∷ k ∷ rest in
    let first : to_be_bytes w32 len ≡ a ∷ b ∷ c ∷ d ∷ [] = be_bytes_4 (a ∷ b ∷ c ∷ d ∷ []) len refl (IsBytes-take 4 all fits) is_len in
    let second : to_be_bytes w32 id ≡ e ∷ f ∷ g ∷ h ∷ [] = be_bytes_4 (e ∷ f ∷ g ∷ h ∷ []) id refl (IsBytes-take 4 (drop 4 all) (IsBytes-drop 4 all fits)) is_id in
    (rest, ap (λ (t : List ℕ). t ++ e ∷ f ∷ g ∷ h ∷ i ∷ j ∷ k ∷ rest) (sym first) ∙ ap (λ (t : List ℕ). int len ++ t ++ i ∷ j ∷ k ∷ rest) (sym second))
head_first xs len id long fits is_len is_id = absurd (omega arith)
