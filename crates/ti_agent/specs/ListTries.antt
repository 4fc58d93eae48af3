-- Calls at each thread of a list, none of which waits.
use Rattle.std.specs.Prelude.{◌≡◌, ◌⊎◌, List, [], ◌∷◌, Some, None, Result, Ok, Err}
use Rattle.ti_types.specs.declared.call.Call.{Call}
use Rattle.ti_types.specs.declared.error.TiError.{TiError}
use Rattle.ti_types.specs.declared.error.TiError.TheVariants.{Busy}
use Rattle.ti_types.specs.declared.numbers.ThreadNo.{ThreadNo}
use Rattle.ti_slot.specs.declared.asked.Asked.{Asked}
use Rattle.ti_agent.specs.Env.{Environment}
use Rattle.ti_agent.specs.Posts.{posting_refusal, Posts, IsOutIfWaiting}

-- a call was posted at a thread; or nothing changed, since the environment refused it or the thread's cell was in use
abbrev pub IsTried : Environment → Environment → Call → ThreadNo → Result Asked TiError → Type 0
IsTried old new c t (Ok a) = (posting_refusal old t c ≡ None) × Posts old new t c a × IsOutIfWaiting new a
IsTried old new c t (Err e) = (new ≡ old) × ((posting_refusal old t c ≡ Some e) ⊎ ((e ≡ Busy) × (posting_refusal old t c ≡ None)))

-- a call was tried at one thread after another
abbrev pub TriesEach : Environment → Environment → Call → List ThreadNo → List (Result Asked TiError) → Type 0
TriesEach old new c [] [] = new ≡ old
TriesEach old new c (t ∷ ts) (x ∷ xs) = (next : Environment) × IsTried old next c t x × TriesEach next new c ts xs
TriesEach old new c _ _ = ⊥
