-- What a document's fault says, and what a history's first illegal entry says.
use Rattle.std.proofs.Common.{◌≡◌, ℕ, List, [], ◌∷◌, ◌++◌, ◌&&◌, Bool, true, false, Option, None, Some, cond, refl, ◌∙◌, inl, length}
use Rattle.std.specs.Prelude.{is_none, is_some, not}
use Rattle.serde_json.specs.Data.{Data}
use Rattle.ti_types.specs.declared.limits.Limits.{Limits}
use Rattle.ti_types.specs.declared.entry.Entry.{Entry}
use Rattle.ti_replay.specs.Legal.{first_illegal, goes_on, is_legal, may_follow}
use Rattle.ti_script.specs.declared.located.LocatedFault.{LocatedFault}
use Rattle.ti_driver.specs.declared.fault.Fault.{Fault}
use Rattle.ti_driver.specs.declared.fault.Fault.TheVariants.{Script, Memory, Read, Write, Usage, Cell}
use Rattle.ti_driver.specs.Runs.{IsReadFault, IsEarlyFault}

-- a fault of the reading is one of the run
pub early_from_read : (first : Data → Option LocatedFault) (known : Option (List ℕ)) (e : Fault) → IsReadFault known e → IsEarlyFault first known e
early_from_read first known (Script f) h = inl h
early_from_read first known Memory h = tt
early_from_read first known Read h = tt
early_from_read first known Write h = h
early_from_read first known Cell h = h
early_from_read first known Usage h = h

by_test : (b : Bool) (place : ℕ) (o : Option ℕ) (on : Bool) → is_none o ≡ on → is_none (cond b o (Some place)) ≡ (b && on)
by_test true place o on h = h
by_test false place o on h = refl

-- no entry is illegal exactly where the history goes on to its end
pub none_illegal : (limits : Limits) (front rest : List Entry) → is_none (first_illegal limits front rest) ≡ goes_on limits front rest
none_illegal limits front [] = refl
none_illegal limits front (x ∷ rest) = by_test (may_follow limits front x) (length front) (first_illegal limits (front ++ x ∷ []) rest) (goes_on limits (front ++ x ∷ []) rest) (none_illegal limits (front ++ x ∷ []) rest)

none_there : (o : Option ℕ) → is_none o ≡ true → o ≡ None
none_there None h = refl
none_there (Some place) h = absurd (cc)

-- a legal history has no illegal entry
pub legal_has_none : (limits : Limits) (history : List Entry) → is_legal limits history ≡ true → first_illegal limits [] history ≡ None
legal_has_none limits history h = none_there (first_illegal limits [] history) (none_illegal limits [] history ∙ h)

-- what is not some is none
pub none_by_some : (b : Bool) (v : Option ℕ) → not b ≡ is_some v → b ≡ is_none v
none_by_some true None h = refl
none_by_some false None h = cc
none_by_some true (Some place) h = cc
none_by_some false (Some place) h = refl
