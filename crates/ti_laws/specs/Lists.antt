-- A call at each thread of a list is one deed after another.
use Rattle.std.specs.Prelude.{List, [], ◌∷◌, Result, Ok, Err}
use Rattle.ti_types.specs.declared.call.Call.{Call}
use Rattle.ti_types.specs.declared.error.TiError.{TiError}
use Rattle.ti_types.specs.declared.numbers.ThreadNo.{ThreadNo}
use Rattle.ti_slot.specs.declared.asked.Asked.{Asked as AskedOf}
use Rattle.ti_agent.specs.Env.{Environment, IsWhole}
use Rattle.ti_agent.specs.ListTries.{TriesEach}
use Rattle.ti_laws.specs.Runs.{Deed, DoesAll, Fails, Puts}

-- a post at a thread, or one that failed
abbrev pub deed_of : ThreadNo → Call → Result AskedOf TiError → Deed
deed_of t c (Ok r) = Puts t c r
deed_of t c (Err e) = Fails t c e

abbrev pub deeds_of : Call → List ThreadNo → List (Result AskedOf TiError) → List Deed
deeds_of c [] xs = []
deeds_of c (t ∷ ts) [] = []
deeds_of c (t ∷ ts) (x ∷ xs) = deed_of t c x ∷ deeds_of c ts xs

-- What is tried at each thread of a list is a post at each, one after another. So the law of two runs speaks of it, too
abbrev pub ListsAreDeeds : Type 0
ListsAreDeeds =
    (c : Call) (threads : List ThreadNo) (tried : List (Result AskedOf TiError)) (old new : Environment) →
    IsWhole old → TriesEach old new c threads tried → DoesAll (deeds_of c threads tried) old new × IsWhole new
