-- What an environment keeps, and which of its calls it lets through.
use Rattle.std.specs.Prelude.{ℕ, ◌+◌, ◌-◌, max, Bool, not, if◌then◌else◌, nat_le, nat_lt, List, [], ◌∷◌, ◌++◌, length, Option, slice_index, slice_set, remove, replicate, ℤ}
use Rattle.ti_types.specs.declared.caps.Caps.{Caps}
use Rattle.ti_types.specs.declared.call.Call.{Call}
use Rattle.ti_types.specs.declared.limits.Limits.{Limits}
use Rattle.ti_types.specs.declared.numbers.ThreadNo.{ThreadNo}
use Rattle.ti_types.specs.declared.error.TiError.{TiError}
use Rattle.ti_types.specs.declared.error.TiError.TheVariants.{Full}
use Rattle.ti_types.specs.Caps.{caps_with, no_caps}
use Rattle.ti_types.specs.Refusing.{unless}
use Rattle.ti_types.specs.Admitting.{asking_refusal, stopping_refusal, reading_refusal}

-- The capabilities, those that it has or once had, the calls spent at each thread, by its place, the limits that it was made
-- under, and its own word. The numbers below `known` were threads once
pub record EnvValue : Type 0 where
  pub caps : Caps
  pub had : Caps
  pub spent : List ℕ
  pub limits : Limits
  pub word : ℕ
  pub known : ℕ

-- of an environment that has done nothing
abbrev pub new_env : Limits → EnvValue
new_env limits = record { caps = no_caps; had = no_caps; spent = replicate limits.threads 0; limits = limits; word = 0; known = 0 }

-- the same, without a place for a thread
abbrev pub env_at_no_thread : Limits → EnvValue
env_at_no_thread limits = record { caps = no_caps; had = no_caps; spent = []; limits = limits; word = 0; known = 0 }

-- one place more, at which this much is spent
abbrev pub with_place : EnvValue → ℕ → EnvValue
with_place s spent = record s { spent = s.spent ++ spent ∷ [] }

-- why no place comes, lack of memory aside: there are 65,536
abbrev pub place_refusal : EnvValue → Option TiError
place_refusal s = unless (not (nat_le 65536 (length s.spent))) Full

-- one place less: those behind it move up by one
abbrev pub without_place : EnvValue → ThreadNo → EnvValue
without_place s place = record s { spent = remove s.spent place.0 }

-- the numbers below this one were threads once, too
abbrev pub with_known : EnvValue → ℕ → EnvValue
with_known s below = record s { known = max s.known below }

abbrev pub with_caps : EnvValue → Caps → EnvValue
with_caps s caps = record s { caps = caps; had = caps_with s.had caps }

abbrev pub with_word : EnvValue → ℕ → EnvValue
with_word s word = record s { word = word }

-- whether there is such a thread
abbrev pub is_there : EnvValue → ThreadNo → Bool
is_there s thread = nat_lt thread.0 (length s.spent)

abbrev pub spent_at : EnvValue → ThreadNo → ℕ
spent_at s thread = slice_index s.spent thread.0

-- one call more spent at a thread
abbrev pub with_spent : EnvValue → ThreadNo → EnvValue
with_spent s thread = record s { spent = slice_set s.spent thread.0 (spent_at s thread + 1) }

-- how many calls are left at a thread: none if there is no such thread
abbrev pub left_at : EnvValue → ThreadNo → ℕ
left_at s thread = if is_there s thread then s.limits.calls - spent_at s thread else 0

-- why a call does not reach its thread
abbrev pub call_refusal : EnvValue → ThreadNo → Call → Option TiError
call_refusal s thread call = asking_refusal s.caps (is_there s thread) (spent_at s thread) s.limits.calls call

-- why a stop does not
abbrev pub stop_refusal : EnvValue → ThreadNo → Option TiError
stop_refusal s thread = stopping_refusal (is_there s thread) (spent_at s thread) s.limits.calls

-- why a read under a stop does not
abbrev pub read_refusal : EnvValue → ThreadNo → ℤ → Option TiError
read_refusal s thread max_count = reading_refusal (is_there s thread) (spent_at s thread) s.limits.calls max_count
