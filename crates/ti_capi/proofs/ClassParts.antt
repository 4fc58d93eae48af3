-- Methods of a class that are read one after another.
use Rattle.std.proofs.Common.{◌≡◌, ◌+◌, ◌<◌, ◌++◌, ◌∷◌, [], ℕ, suc, List, length, take, inl, inr, sym, ap, subst, ◌∙◌, arith}
use Rattle.std.proofs.Math.ListN.{get_or}
use Rattle.std.proofs.Math.Seq.{take-suc}
use Rattle.std.proofs.lemmas.List.Elements.{All-get_or}
use Rattle.std.proofs.lemmas.Slice.Zip.{all_zipped_more}
use Rattle.ti_types.specs.declared.error.TiError.{TiError}
use Rattle.ti_methods.specs.declared.info.MethodInfo.{MethodInfo}
use Rattle.ti_capi.specs.Defining.{AreMethods, HasMethod, HaveMethods, IsMethod, Lacks}
use Rattle.ti_capi.specs.declared.class_values.CqLineEntry.{CqLineEntry}
use Rattle.ti_capi.specs.declared.class_values.CqMethodRanges.{CqMethodRanges}

module _ (text : List ℕ) (lines : List CqLineEntry) (methods : List CqMethodRanges) (i : ℕ) (d : CqMethodRanges) where
  pub one_more : (infos : List MethodInfo) (x : MethodInfo) → i < length methods → AreMethods text lines (take i methods) infos → IsMethod text lines (get_or methods i d) x
      → AreMethods text lines (take (i + 1) methods) (infos ++ x ∷ [])
  one_more infos x here are is =
      let next : suc i ≡ i + 1 = omega (arith) in
      subst (λ (ms : List CqMethodRanges). AreMethods text lines ms (infos ++ x ∷ [])) (sym (take-suc methods i d here) ∙ ap (λ (n : ℕ). take n methods) next)
      (all_zipped_more (IsMethod text lines) (take i methods) infos (get_or methods i d) x are is)

  -- if one is not there, not all are
  pub lacks_one : (e : TiError) → i < length methods → Lacks (HasMethod text lines (get_or methods i d)) e → Lacks (HaveMethods text lines methods) e
  lacks_one e here (inl (is, none)) = inl (is, λ all. none (All-get_or (HasMethod text lines) methods i d here all))
  lacks_one e here (inr none) = inr none
