-- Texts that are appended one after another.
use Rattle.std.proofs.Common.{◌≡◌, ℕ, List, [], ◌∷◌, ◌++◌, Result, Ok, Err, ap, sym, ◌∙◌}
use Rattle.std.proofs.lemmas.List.{append-nil, append_assoc}
use Rattle.std.proofs.lemmas.Grind.{flat_map-append}
use Rattle.std.specs.Prelude.{OnOk}
use Rattle.ti_monitor.specs.Texts.{line, text_of}

-- two lines
pub two_lines : {T E : Type 0} (r : Result T E) (out one two a b : List ℕ) → one ≡ out ++ line a → OnOk r (two ≡ one ++ line b) → OnOk r (two ≡ out ++ text_of (a ∷ b ∷ []))
two_lines (Ok x) out one two a b first second =
    second ∙ ap (λ xs. xs ++ line b) first ∙ append_assoc out (line a) (line b) ∙ ap (λ xs. out ++ (line a ++ xs)) (sym (append-nil (line b)))
two_lines (Err e) out one two a b first second = second

-- lines behind lines
pub join : {T E : Type 0} (r : Result T E) (out one two : List ℕ) (a b : List (List ℕ)) → one ≡ out ++ text_of a → OnOk r (two ≡ one ++ text_of b) → OnOk r (two ≡ out ++ text_of (a ++ b))
join (Ok x) out one two a b first second =
    second ∙ ap (λ xs. xs ++ text_of b) first ∙ append_assoc out (text_of a) (text_of b) ∙ ap (λ xs. out ++ xs) (sym (flat_map-append line a b))
join (Err e) out one two a b first second = second

-- lines behind a line
pub cons_line : {T E : Type 0} (r : Result T E) (out one two a : List ℕ) (b : List (List ℕ)) → one ≡ out ++ line a → OnOk r (two ≡ one ++ text_of b) → OnOk r (two ≡ out ++ text_of (a ∷ b))
cons_line (Ok x) out one two a b first second = second ∙ ap (λ xs. xs ++ text_of b) first ∙ append_assoc out (line a) (text_of b)
cons_line (Err e) out one two a b first second = second

-- a line alone
pub last_line : {T E : Type 0} (r : Result T E) (one two a : List ℕ) → OnOk r (two ≡ one ++ line a) → OnOk r (two ≡ one ++ text_of (a ∷ []))
last_line (Ok x) one two a h = h ∙ ap (λ xs. one ++ xs) (sym (append-nil (line a)))
last_line (Err e) one two a h = h

-- a line of two pieces
pub of_two : {T E : Type 0} (r : Result T E) (out one two three a b : List ℕ) → one ≡ out ++ a → two ≡ one ++ b → OnOk r (three ≡ two ++ 10 ∷ []) → OnOk r (three ≡ out ++ line (a ++ b))
of_two (Ok x) out one two three a b first second third =
    third ∙ ap (λ xs. xs ++ 10 ∷ []) (second ∙ ap (λ xs. xs ++ b) first ∙ append_assoc out a b) ∙ append_assoc out (a ++ b) (10 ∷ [])
of_two (Err e) out one two three a b first second third = third
