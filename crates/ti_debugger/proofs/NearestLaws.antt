-- The entry that says the line of a location, as the entries of its table are looked at one after the other.
use Rattle.std.proofs.Common.{◌+◌, ◌<◌, ◌≤◌, ◌∷◌, ◌++◌, [], ℕ, List, Option, None, length, take, get_or, subst, sym, arith}
use Rattle.std.proofs.lemmas.List.{take_all, take_more}
use Rattle.ti_methods.specs.declared.info.LineEntry.{LineEntry}
use Rattle.ti_debugger.specs.Placing.{IsEntryAt}

pub no_entry : (index : ℕ) → IsEntryAt [] index None
no_entry index = λ k d lt. absurd (omega (arith, lt))

pub one_more_entry : (entries : List LineEntry) (i index : ℕ) (d : LineEntry) (found : Option LineEntry) → i < length entries → IsEntryAt (take i entries ++ get_or entries i d ∷ []) index found
    → IsEntryAt (take (i + 1) entries) index found
one_more_entry entries i index d found within is = subst (λ (l : List LineEntry). IsEntryAt l index found) (sym (take_more entries i d within)) is

pub all_entries : (entries : List LineEntry) (i index : ℕ) (found : Option LineEntry) → length entries ≤ i → IsEntryAt (take i entries) index found → IsEntryAt entries index found
all_entries entries i index found over is = subst (λ (l : List LineEntry). IsEntryAt l index found) (take_all i entries over) is
