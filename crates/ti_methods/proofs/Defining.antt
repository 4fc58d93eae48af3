-- What a definition leaves.
use Rattle.std.proofs.Common.{◌≡◌, ℕ, List, [], ◌∷◌, ◌++◌, Some, length, slice_get, ap, sym, ◌∙◌, arith, length-append}
use mathlib.Core.List.{IsPrefix}
use Rattle.ti_methods.specs.declared.info.ClassInfo.{ClassInfo}
use Rattle.ti_methods.specs.declared.info.ClassNo.{ClassNo}
use Rattle.ti_methods.specs.declared.info.Defined.{Defined}
use Rattle.ti_methods.specs.declared.entry.Entry.{Entry}
use Rattle.ti_methods.specs.Classes.{HasRoom, IsDefined, IsPut, Known, first_of, methods_in}
use Rattle.ti_methods.specs.Rules.{IsEntry, IsFound}
use Rattle.ti_methods.proofs.Lists.{first_grows, get_last, get_within, prefix_get, prefix_length, take_whole}

-- the class that is added last has the next number, and its methods come next
module _ (log : List ClassInfo) (class : ClassInfo) (d : Defined) (is_next : d.class.0 ≡ length log) (comes_next : d.first.0 ≡ length (methods_in log)) where
  pub at_last : slice_get (log ++ class ∷ []) d.class.0 ≡ Some class
  at_last = ap (slice_get (log ++ class ∷ [])) is_next ∙ get_last log class

  pub first_last : d.first.0 ≡ first_of (log ++ class ∷ []) d.class.0
  first_last = comes_next ∙ sym (ap (first_of (log ++ class ∷ [])) is_next ∙ ap (λ l. length (methods_in l)) (take_whole log (class ∷ [])))

  pub put_last : (new : List ClassInfo) → new ≡ log ++ class ∷ [] → HasRoom log class → IsPut new class d
  put_last new added room = record {
    at = ap (λ l. slice_get l d.class.0) added ∙ at_last;
    first = first_last ∙ sym (ap (λ l. first_of l d.class.0) added);
    room = omega (arith, comes_next, room.methods);
  }

  pub defined_last : (old new : Known) → IsPrefix old.seen log → new.seen ≡ log ++ class ∷ [] → IsDefined old new class d
  defined_last old new pre added = record {
    at = ap (λ l. slice_get l d.class.0) added ∙ at_last;
    first = first_last ∙ sym (ap (λ l. first_of l d.class.0) added);
    last = ap length added ∙ omega (arith, length-append log (class ∷ []), is_next);
    unused = omega (arith, prefix_length old.seen log pre, is_next);
  }

-- what stands in a slot stands in each longer list
pub found_since : (tag : List ℕ) (class : ClassNo) (entry : Entry) (log : List ClassInfo) → IsEntry tag class.0 entry → IsPrefix entry.seen.log log → IsFound log class entry
found_since tag class entry log is pre = record {
  at = prefix_get entry.seen.log log class.0 entry.class pre is.at;
  first = is.first ∙ first_grows entry.seen.log log class.0 pre (let h = get_within entry.seen.log class.0 entry.class is.at in omega arith);
  room = is.room;
}
