-- The answers of an agent's calls.
use Rattle.std.specs.Prelude.{Result, Ok, Err}
use Rattle.ti_types.specs.declared.answer.Answer.{Answer}
use Rattle.ti_types.specs.declared.answer.Answer.TheVariants as answer
use Rattle.ti_types.specs.declared.caps.Caps.{Caps}
use Rattle.ti_types.specs.declared.error.TiError.{TiError}

-- the answer of a call for capabilities
abbrev pub in_caps : Result Caps TiError → Answer
in_caps (Ok caps) = answer.Caps caps
in_caps (Err e) = answer.Refused e
