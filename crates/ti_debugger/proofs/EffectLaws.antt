-- What a debugger does not need any more, one after the other.
use Rattle.std.proofs.Common.{◌≡◌, ◌∙◌, ◌+◌, ℕ, suc, List, [], ◌∷◌, ◌++◌, Option, Some, None, ap, arith, refl, sym}
use Rattle.std.proofs.lemmas.List.{append-nil}
use Rattle.ti_debugger.specs.declared.objects.Disposal.{Disposal}
use Rattle.ti_debugger.specs.Effects.{disposal_at, disposals, if_one}

pub none_yet : (bytes : List ℕ) → [] ≡ disposals 0 bytes
unfolding disposals
none_yet bytes = refl

next_of : (n : ℕ) (bytes : List ℕ) → disposals (suc n) bytes ≡ disposals n bytes ++ if_one (disposal_at bytes n)
unfolding disposals
next_of n bytes = refl

more : (n : ℕ) (bytes : List ℕ) (list : List Disposal) (o : Option Disposal) → list ≡ disposals n bytes → disposal_at bytes n ≡ o → list ++ if_one o ≡ disposals (n + 1) bytes
more n bytes list o so_far is =
    let next : suc n ≡ n + 1 = omega arith in
    ap (λ (l : List Disposal). l ++ if_one o) so_far
    ∙ sym (ap (λ (x : Option Disposal). disposals n bytes ++ if_one x) is)
    ∙ sym (next_of n bytes)
    ∙ ap (λ (k : ℕ). disposals k bytes) next

-- one more, and another id
pub one_more : (n : ℕ) (bytes : List ℕ) (list new : List Disposal) (d : Disposal) → list ≡ disposals n bytes → disposal_at bytes n ≡ Some d → new ≡ list ++ d ∷ [] → new ≡ disposals (n + 1) bytes
one_more n bytes list new d so_far is push = push ∙ more n bytes list (Some d) so_far is

pub passed_over : (n : ℕ) (bytes : List ℕ) (list : List Disposal) → list ≡ disposals n bytes → disposal_at bytes n ≡ None → list ≡ disposals (n + 1) bytes
passed_over n bytes list so_far is = sym (append-nil list) ∙ more n bytes list None so_far is
