-- The bytes of a connection.
use Rattle.std.specs.Prelude.{ℕ, List, [], ◌∷◌, ◌++◌, drop, min, length, Result}
use Rattle.ti_jdwp.specs.Sent.{reply_packet}

pub record Bytes : Type 0 where
  -- what came and was not worked on yet
  pub input : List ℕ
  -- what is to be sent
  pub output : List ℕ

abbrev pub no_bytes : Bytes
no_bytes = record { input = []; output = [] }

-- what each side sends first: "JDWP-Handshake"
abbrev pub handshake : List ℕ
handshake = 74 ∷ 68 ∷ 87 ∷ 80 ∷ 45 ∷ 72 ∷ 97 ∷ 110 ∷ 100 ∷ 115 ∷ 104 ∷ 97 ∷ 107 ∷ 101 ∷ []

abbrev pub with_input : Bytes → List ℕ → Bytes
with_input b more = record b { input = b.input ++ more }

abbrev pub without_input : Bytes → ℕ → Bytes
without_input b count = record b { input = drop count b.input }

abbrev pub with_output : Bytes → List ℕ → Bytes
with_output b more = record b { output = b.output ++ more }

abbrev pub with_written : Bytes → ℕ → Bytes
with_written b count = record b { output = drop (min count (length b.output)) b.output }

-- the packet in front is replied to, and dropped
abbrev pub with_reply : Bytes → ℕ → ℕ → Result (List ℕ) ℕ → Bytes
with_reply b count id answer = with_output (without_input b count) (reply_packet id answer)
