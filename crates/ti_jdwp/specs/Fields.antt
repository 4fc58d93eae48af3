-- Fields of packets: numbers are big-endian, and a text is its length in four bytes and its bytes.
use Rattle.std.specs.Prelude.{ℕ, ◌-◌, List, [], ◌++◌, length, take, drop, nat_le, ◌&&◌, Result, Ok, Err, if◌then◌else◌}
use Rattle.std.specs.Int.{w32, w64, to_be_bytes, from_be_bytes}
use Rattle.ti_jdwp.specs.declared.error.JdwpError.{JdwpError}
use Rattle.ti_jdwp.specs.declared.request.Range.{Range}

-- the bytes of a range that is within the data
abbrev pub bytes_at : Range → List ℕ → List ℕ
bytes_at r bytes = if nat_le r.start r.end && nat_le r.end (length bytes) then take (r.end - r.start) (drop r.start bytes) else []

-- how a number of four bytes is written, and one of eight, and a text
unfoldable pub int : ℕ → List ℕ
int n = to_be_bytes w32 n

unfoldable pub long : ℕ → List ℕ
long n = to_be_bytes w64 n

abbrev pub text : List ℕ → List ℕ
text content = int (length content) ++ content

-- the numbers that stand at a place
abbrev pub int_at : ℕ → List ℕ → ℕ
int_at at bytes = from_be_bytes w32 (take 4 (drop at bytes))

abbrev pub long_at : ℕ → List ℕ → ℕ
long_at at bytes = from_be_bytes w64 (take 8 (drop at bytes))

infixl 10 ◌>>=◌
abbrev pub ◌>>=◌ : {A B : Type 0} → Result A JdwpError → (A → Result B JdwpError) → Result B JdwpError
(Ok x) >>= f = f x
(Err e) >>= f = Err e
