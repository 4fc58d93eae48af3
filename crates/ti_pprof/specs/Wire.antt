-- The wire format of protobuf. A message is its fields one after another. A field begins with its key, the varint of
-- eight times its number plus its wire type: 0 for a number, 2 for bytes behind their length.
use Rattle.std.specs.Prelude.{ℕ, zero, suc, ◌+◌, ◌*◌, ◌/◌, ◌%◌, List, [], ◌∷◌, ◌++◌, length, nat_lt, if◌then◌else◌, ◌==◌}

-- a number in base 128, the lowest digit first, with 128 added to each digit but the last; `more` digits come before the
-- last one at most
unfoldable pub varint_within : ℕ → ℕ → List ℕ
varint_within zero n = n ∷ []
varint_within (suc more) n = if nat_lt n 128 then n ∷ [] else (128 + n % 128) ∷ varint_within more (n / 128)

-- a number below 2^64, in its shortest form, which has ten digits at most
unfoldable pub varint : ℕ → List ℕ
varint n = varint_within 9 n

-- numbers one after another
abbrev pub varints : List ℕ → List ℕ
varints [] = []
varints (n ∷ ns) = varint n ++ varints ns

-- a field that is a number; 0 is what a reader takes for a field that is left out
abbrev pub number_field : ℕ → ℕ → List ℕ
number_field field n = if n == 0 then [] else varint (field * 8) ++ varint n

-- fields that are numbers, one after another
abbrev pub number_fields : List (ℕ × ℕ) → List ℕ
number_fields [] = []
number_fields (f ∷ fields) = number_field f.0 f.1 ++ number_fields fields

-- a field that is bytes: a text, or a message
abbrev pub block_field : ℕ → List ℕ → List ℕ
block_field field bytes = varint (field * 8 + 2) ++ (varint (length bytes) ++ bytes)

-- a field that is a list of numbers; one that has none is left out
abbrev pub packed_field : ℕ → List ℕ → List ℕ
packed_field field [] = []
packed_field field (n ∷ ns) = block_field field (varints (n ∷ ns))
