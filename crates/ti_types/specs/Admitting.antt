-- Why a call does not reach its thread: what an environment refuses by itself, and what is refused before and after that.
--
-- The tests are in their order.
use Rattle.std.specs.Prelude.{ℕ, Bool, true, not, nat_lt, Option, ℤ}
use Rattle.ti_types.specs.declared.call.Call.{Call}
use Rattle.ti_types.specs.declared.caps.Caps.{Caps}
use Rattle.ti_types.specs.declared.error.TiError.{TiError}
use Rattle.ti_types.specs.declared.error.TiError.TheVariants.{InvalidEnvironment, MustPossessCapability, InvalidThread, IllegalArgument, CallsSpent, OutOfMemory}
use Rattle.ti_types.specs.Call.{needed_by, is_well_formed}
use Rattle.ti_types.specs.Caps.{has_all}
use Rattle.ti_types.specs.Numbers.{is_not_negative}
use Rattle.ti_types.specs.Refusing.{or_else, unless}

-- at a thread that is there or not, when this many calls are spent of those that may be
abbrev pub reaching_refusal : (there well_formed : Bool) → (spent calls : ℕ) → Option TiError
reaching_refusal there well_formed spent calls =
    or_else (unless there InvalidThread)
    (or_else (unless well_formed IllegalArgument)
    (unless (nat_lt spent calls) CallsSpent))

-- of a call, with these capabilities
abbrev pub asking_refusal : (held : Caps) → (there : Bool) → (spent calls : ℕ) → Call → Option TiError
asking_refusal held there spent calls call =
    or_else (unless (has_all held (needed_by call)) MustPossessCapability) (reaching_refusal there (is_well_formed call) spent calls)

-- of a stop, which needs no capability and has no number
abbrev pub stopping_refusal : (there : Bool) → (spent calls : ℕ) → Option TiError
stopping_refusal there spent calls = reaching_refusal there true spent calls

-- of a read under a stop, which needs no capability
abbrev pub reading_refusal : (there : Bool) → (spent calls : ℕ) → (max_count : ℤ) → Option TiError
reading_refusal there spent calls max_count = reaching_refusal there (is_not_negative max_count) spent calls

-- of a go, which costs nothing
abbrev pub going_refusal : (there : Bool) → Option TiError
going_refusal there = unless there InvalidThread

-- of an environment that is known or not, and refuses so by itself, when memory runs out for the answer or not
abbrev pub admitting_refusal : (known : Bool) → (by_itself : Option TiError) → (wanting : Bool) → Option TiError
admitting_refusal known by_itself wanting =
    or_else (unless known InvalidEnvironment) (or_else by_itself (unless (not wanting) OutOfMemory))
