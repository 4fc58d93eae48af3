-- Values that C tells, and what becomes of them at a door.
use Rattle.std.proofs.Common.{◌≡◌, ◌+◌, ◌<◌, ◌++◌, ◌∷◌, [], ℕ, suc, ◌⊎◌, Bool, true, false, List, Option, Some, None, Result, Ok, Err, length, take, inl, inr, refl, sym, ap, subst, ◌∙◌, arith}
use Rattle.std.specs.Prelude.{All, ⊤}
use Rattle.std.specs.List.{AllZip}
use Rattle.std.proofs.Math.ListN.{get_or}
use Rattle.std.proofs.Math.Seq.{take-suc}
use Rattle.std.proofs.lemmas.List.Elements.{All-cons, All-get_or}
use Rattle.std.proofs.lemmas.Slice.Zip.{all_zipped_more}
use Rattle.ti_debugger.specs.Questions.{read_answer}
use Rattle.ti_debugger.specs.VariableReplies.{asks_values}
use Rattle.ti_debugger.specs.declared.question.Content.{Content}
use Rattle.ti_debugger.specs.declared.question.TellError.{TellError}
use Rattle.ti_debugger.specs.declared.question.TellError.TheVariants.{IllegalArgument, NotAsked, OutOfMemory}
use Rattle.ti_debugger.specs.declared.question.Told.{Told}
use Rattle.ti_capi.specs.Questions.{AreTold, HasContent, HaveTold, IsTold, TellsTold, TellsValues, question_at}
use Rattle.ti_capi.specs.declared.any_door.AnyDoor.{AnyDoor}
use Rattle.ti_capi.specs.declared.any_door.AnyDoor.TheVariants.{Http, Debugger}
use Rattle.ti_capi.specs.declared.door_questions.CqValue.{CqValue}

-- why values are not read: one is none, or there is no memory
abbrev pub IsUnread : Type 0 → TellError → Type 0
IsUnread AreThere e = (e ≡ OutOfMemory) ⊎ ((e ≡ IllegalArgument) × (AreThere → ⊥))

-- ---- one value after another

module _ (values : List CqValue) (i : ℕ) (d : CqValue) where
  pub one_more : (told : List Told) (t : Told) → i < length values → AreTold (take i values) told → IsTold (get_or values i d) t → AreTold (take (i + 1) values) (told ++ t ∷ [])
  one_more told t here are is =
      let next : suc i ≡ i + 1 = omega (arith) in
      subst (λ (vs : List CqValue). AreTold vs (told ++ t ∷ [])) (sym (take-suc values i d here) ∙ ap (λ (n : ℕ). take n values) next)
      (all_zipped_more IsTold (take i values) told (get_or values i d) t are is)

  -- if one is none, not all are
  pub lacks_one : (e : TellError) → i < length values → (e ≡ IllegalArgument) × (HasContent (get_or values i d) → ⊥) → IsUnread (HaveTold values) e
  lacks_one e here (is, none) = inr (is, λ all. none (All-get_or HasContent values i d here all))

-- ---- what a door is told

abbrev told_at : ℕ → Content → Told
told_at slot content = record { slot = slot; content = content }

told_same : (v : CqValue) (a b : Told) → IsTold v a → IsTold v b → a ≡ b
told_same v a b (s, is) (t, it) =
    let slots : a.slot ≡ b.slot = s ∙ sym t in
    let contents : a.content ≡ b.content = cc (is, it) in
    ap (λ (n : ℕ). told_at n a.content) slots ∙ ap (λ (c : Content). told_at b.slot c) contents

all_same : (values : List CqValue) (a b : List Told) → AreTold values a → AreTold values b → a ≡ b
all_same [] [] [] is it = refl
all_same [] [] (y ∷ b) is it = absurd it
all_same [] (x ∷ a) b is it = absurd is
all_same (v ∷ values) [] b is it = absurd is
all_same (v ∷ values) (x ∷ a) [] is it = absurd it
all_same (v ∷ values) (x ∷ a) (y ∷ b) (is, are) (it, were) =
    ap (λ (z : Told). z ∷ a) (told_same v x y is it) ∙ ap (λ (l : List Told). y ∷ l) (all_same values a b are were)

have_told : (values : List CqValue) (told : List Told) → AreTold values told → HaveTold values
have_told [] told are = λ k d here. absurd (omega (arith, here))
have_told (v ∷ values) [] are = absurd are
have_told (v ∷ values) (t ∷ told) (is, are) = All-cons HasContent v values (t.content, is.1) (have_told values told are)

module _ (values : List CqValue) (texts : List ℕ) where
  pub unread : (d : AnyDoor) (e : TellError) → asks_values (question_at d) ≡ true → IsUnread (HaveTold values) e → TellsValues values texts d d (Err e)
  unread (Http d) e asked is = absurd (cc asked)
  unread (Debugger d) OutOfMemory asked is = refl
  unread (Debugger d) IllegalArgument asked (inl is) = absurd (cc is)
  unread (Debugger d) IllegalArgument asked (inr (is, none)) = ((λ told are. absurd (none (have_told values told are))), refl)
  unread (Debugger d) NotAsked asked (inl is) = absurd (cc is)
  unread (Debugger d) NotAsked asked (inr (is, none)) = absurd (cc is)

  pub were_told : (told : List Told) (d n : AnyDoor) (r : Result ⊤ TellError) → AreTold values told → TellsTold told texts d n r → TellsValues values texts d n r
  were_told told (Http d) n r are says = says
  were_told told (Debugger d) (Http n) r are says = absurd says
  were_told told (Debugger d) (Debugger n) (Ok u) are (says, is) = (told, are, says, is)
  were_told told (Debugger d) (Debugger n) (Err NotAsked) are says = says
  were_told told (Debugger d) (Debugger n) (Err IllegalArgument) are (says, is) =
      ((λ other others. subst (λ (l : List Told). read_answer d.numbers l texts ≡ None) (all_same values told other are others) says), is)
  were_told told (Debugger d) (Debugger n) (Err OutOfMemory) are (says, is) = is
