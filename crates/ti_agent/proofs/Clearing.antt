-- A word that is set to 0, and a desk that leaves its place.
use Rattle.std.proofs.Common.{◌≡◌, ℕ, zero, suc, Bool, if◌then◌else◌, List, [], ◌∷◌, ◌++◌, remove, refl, ap, ◌∙◌, eq-eqb}
use Rattle.std.specs.Prelude.{slice_set}
use Rattle.std.specs.List.{fold}
use Rattle.std.proofs.lemmas.List.Sums.{fold-append}
use Rattle.ti_types.specs.declared.call.Call.TheVariants.{SetWord}
use Rattle.ti_types.specs.declared.entry.Entry.{Entry}
use Rattle.ti_types.specs.declared.entry.Entry.TheVariants.{Asked}
use Rattle.ti_types.specs.declared.numbers.EnvNo.{EnvNo}
use Rattle.ti_agent.specs.FreeDesk.{word_after, word_asked}

-- a word that was set to 0 is 0
pub cleared_word : (env : EnvNo) (mine : List Entry) (n : ℕ) → word_asked env (mine ++ Asked env n (SetWord 0) ∷ []) ≡ 0
cleared_word env mine n = fold-append (word_after env) 0 mine (Asked env n (SetWord 0) ∷ []) ∙ ap (λ (b : Bool). if b then 0 else fold (word_after env) 0 mine) (eq-eqb env.0 env.0 refl)

-- what is taken out does not matter to the others
pub remove_set : {A : Type 0} (l : List A) (i : ℕ) (q : A) → remove (slice_set l i q) i ≡ remove l i
remove_set [] i q = refl
remove_set (x ∷ l) zero q = refl
remove_set (x ∷ l) (suc i) q = ap (λ m. x ∷ m) (remove_set l i q)
