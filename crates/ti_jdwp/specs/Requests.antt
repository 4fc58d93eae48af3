-- What the data of a request reads as.
use Rattle.std.specs.Prelude.{ℕ, ℤ, ◌+◌, ◌*◌, ◌&&◌, List, length, slice_index, Option, Some, None, Result, Ok, Err, nat_le, ◌==◌, if◌then◌else◌}
use Rattle.std.specs.Int.{w32, cast_signed}
use Rattle.ti_jdwp.specs.declared.error.JdwpError.{JdwpError}
use Rattle.ti_jdwp.specs.declared.error.JdwpError.TheVariants as error
use Rattle.ti_jdwp.specs.declared.request.Request.{Request}
use Rattle.ti_jdwp.specs.declared.request.Request.TheVariants as request
use Rattle.ti_jdwp.specs.Fields.{◌>>=◌, int_at, long_at}
use Rattle.ti_jdwp.specs.Events.{kind_of, policy_of}
use Rattle.ti_jdwp.specs.Modifiers.{text_len, modifiers_end}
use Rattle.ti_jdwp.specs.Commands.{Layout, no_fields, of_id, of_two_ids, of_part, of_signature, of_objects, of_event, of_clear, of_slots, layout_of}

-- the value, if so many bytes are there
abbrev pub of_len : {X : Type 0} → ℕ → List ℕ → X → Result X JdwpError
of_len n bytes x = if length bytes == n then Ok x else Err error.IllegalArgument

abbrev pub id_in : List ℕ → Result ℕ JdwpError
id_in bytes = of_len 8 bytes (long_at 0 bytes)

abbrev pub two_ids_in : List ℕ → Result (ℕ × ℕ) JdwpError
two_ids_in bytes = of_len 16 bytes (long_at 0 bytes, long_at 8 bytes)

abbrev pub part_in : List ℕ → Result (ℕ × ℤ × ℤ) JdwpError
part_in bytes = of_len 16 bytes (long_at 0 bytes, cast_signed w32 (int_at 8 bytes), cast_signed w32 (int_at 12 bytes))

-- at most 4,096 slots, of five bytes each with their tags
abbrev pub slots_in : List ℕ → Result Request JdwpError
slots_in bytes =
    if (nat_le 20 (length bytes) && nat_le (int_at 16 bytes) 4096) && (length bytes == 20 + 5 * int_at 16 bytes)
    then Ok (request.FrameValues (long_at 0 bytes) (long_at 8 bytes) (record { start = 20; end = length bytes }))
    else Err error.IllegalArgument

abbrev pub event_in : List ℕ → Result Request JdwpError
event_in bytes =
    if nat_le 6 (length bytes)
    then (policy_of (slice_index bytes 1) >>= λ policy.
    (if nat_le (int_at 2 bytes) 64 then Ok (int_at 2 bytes) else Err error.IllegalArgument) >>= λ count.
    modifiers_end count 6 bytes >>= λ end.
    of_len end bytes end >>= λ end.
    kind_of (slice_index bytes 0) >>= λ kind.
    Ok (request.SetEvent kind policy (record { start = 6; end = end }) count))
    else Err error.IllegalArgument

abbrev pub read_as : Layout → List ℕ → Result Request JdwpError
read_as (no_fields r) bytes = of_len 0 bytes r
read_as (of_id r) bytes = id_in bytes >>= λ id. Ok (r id)
read_as (of_two_ids r) bytes = two_ids_in bytes >>= λ ids. Ok (r ids.0 ids.1)
read_as (of_part r) bytes = part_in bytes >>= λ part. Ok (r part.0 part.1 part.2)
read_as of_signature bytes = text_len bytes >>= λ len. of_len len bytes (request.ClassesBySignature (record { start = 4; end = length bytes }))
read_as of_objects bytes = if nat_le 4 (length bytes) && (length bytes == 4 + 12 * int_at 0 bytes) then Ok (request.DisposeObjects (record { start = 4; end = length bytes })) else Err error.IllegalArgument
read_as of_event bytes = event_in bytes
read_as of_clear bytes = of_len 5 bytes (request.ClearEvent (slice_index bytes 0) (cast_signed w32 (int_at 1 bytes)))
read_as of_slots bytes = slots_in bytes

abbrev pub read_if_served : Option Layout → List ℕ → Result Request JdwpError
read_if_served None bytes = Err error.NotImplemented
read_if_served (Some l) bytes = read_as l bytes

-- the request of a command set and a command with these bytes as its data, or why it is none
abbrev pub request_in : ℕ → ℕ → List ℕ → Result Request JdwpError
request_in set command bytes = read_if_served (layout_of set command) bytes
