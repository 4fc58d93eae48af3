-- Refusals in an order: the first test that does not hold says why.
use Rattle.std.specs.Prelude.{Bool, if◌then◌else◌, Option, Some, None}
use Rattle.ti_types.specs.declared.error.TiError.{TiError}

-- the first refusal if there is one, otherwise the second
abbrev pub or_else : Option TiError → Option TiError → Option TiError
or_else (Some error) other = Some error
or_else None other = other

-- no refusal if a test holds, otherwise this one
abbrev pub unless : Bool → TiError → Option TiError
unless holds error = if holds then None else Some error
