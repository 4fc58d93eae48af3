-- The codes, by number.
use Rattle.std.specs.Prelude.{ℕ, Result, Ok, Err}
use Rattle.ti_types.specs.declared.error.TiError.{TiError}
use Rattle.ti_types.specs.TiError.{number_of}
use Rattle.ti_thread.specs.declared.any_thread.TurnOutcome.{TurnOutcome}
use Rattle.ti_thread.specs.declared.any_thread.TurnOutcome.TheVariants.{Done, Held, Popped, Refused}

abbrev pub held : ℕ
held = 301

abbrev pub waiting : ℕ
waiting = 302

abbrev pub none_told : ℕ
none_told = 303

abbrev pub misused : ℕ
misused = 304

abbrev pub popped : ℕ
popped = 305

abbrev pub code_told : TurnOutcome → ℕ
code_told Done = 0
code_told Held = held
code_told (Refused e) = number_of e
code_told Popped = popped

abbrev pub code_done : {X : Type 0} → Result X TiError → ℕ
code_done (Ok x) = 0
code_done (Err e) = number_of e
