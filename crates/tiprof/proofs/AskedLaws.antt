-- The first two words of arguments.
use Rattle.std.proofs.Common.{◌≡◌, ℕ, ◌≤◌, List, [], ◌∷◌, length, take, drop, ◌-◌, map, refl, sym, ap, ◌∙◌, arith, Option, Some, None, if◌then◌else◌}
use Rattle.std.specs.Prelude.{slice_index_or, is_some}
use Rattle.std.proofs.Math.Seq.{take-length}
use Rattle.tiprof.specs.declared.options.Options.{Options}
use Rattle.tiprof.specs.Asked.{with_words, with_flag, with_option}

-- what the words behind the first one make, by what that makes alone
abbrev behind : {X : Type 0} (f : X → List ℕ) (o : Options) (l : List X) (w v : X) → Option Options → Option Options
behind f o l w v flagged = if is_some flagged then with_words flagged (map f (drop 1 l)) else with_words (with_option o (f w) (f v)) (map f (drop 2 l))

-- what they ask for
pub worded : {X : Type 0} (f : X → List ℕ) (o : Options) (l : List X) (w v : X) → 2 ≤ length l → w ≡ slice_index_or l 0 w → v ≡ slice_index_or l 1 v
    → with_words (Some o) (map f l) ≡ behind f o l w v (with_flag o (f w))
worded f o [] w v h e g = absurd (omega (arith, h))
worded f o (x ∷ []) w v h e g = absurd (omega (arith, h))
worded f o (x ∷ y ∷ l) w v h e g = λ i. behind f o (x ∷ y ∷ l) (sym e i) (sym g i) (with_flag o (f (sym e i)))

all_of_rest : {X : Type 0} (l : List X) → take (length l - 1) (drop 1 l) ≡ drop 1 l
all_of_rest [] = refl
all_of_rest (x ∷ l) = let e : length (x ∷ l) - 1 ≡ length l = omega arith in ap (λ (n : ℕ). take n l) e ∙ take-length l

-- where the first is an option that stands alone
pub worded_flag : {X : Type 0} (f : X → List ℕ) (o p : Options) (l : List X) (w v : X) (r : Option Options) → 2 ≤ length l → w ≡ slice_index_or l 0 w → v ≡ slice_index_or l 1 v
    → with_flag o (f w) ≡ Some p → r ≡ with_words (Some p) (map f (take (length l - 1) (drop 1 l))) → r ≡ with_words (Some o) (map f l)
worded_flag f o p l w v r h e g is so =
    so ∙ ap (λ k. with_words (Some p) (map f k)) (all_of_rest l) ∙ sym (worded f o l w v h e g ∙ ap (λ (x : Option Options). behind f o l w v x) is)

all_of_more : {X : Type 0} (l : List X) → take (length l - 2) (drop 2 l) ≡ drop 2 l
all_of_more [] = refl
all_of_more (x ∷ []) = refl
all_of_more (x ∷ y ∷ l) = let e : length (x ∷ y ∷ l) - 2 ≡ length l = omega arith in ap (λ (n : ℕ). take n l) e ∙ take-length l

-- where it has a value
pub worded_pair : {X : Type 0} (f : X → List ℕ) (o : Options) (l : List X) (w v : X) (next r : Option Options) → 2 ≤ length l → w ≡ slice_index_or l 0 w → v ≡ slice_index_or l 1 v
    → with_flag o (f w) ≡ None → with_option o (f w) (f v) ≡ next → r ≡ with_words next (map f (take (length l - 2) (drop 2 l))) → r ≡ with_words (Some o) (map f l)
worded_pair f o l w v next r h e g is told so =
    so ∙ ap (λ k. with_words next (map f k)) (all_of_more l)
    ∙ ap (λ (n : Option Options). with_words n (map f (drop 2 l))) (sym told)
    ∙ sym (worded f o l w v h e g ∙ ap (λ (x : Option Options). behind f o l w v x) is)
