-- Packets: a length, an id, a byte of flags, and behind them a command set and a command, or an error.
use Rattle.std.specs.Prelude.{◌≡◌, ℕ, ◌^◌, ◌<◌, ◌≤◌, List, [], ◌∷◌, ◌++◌, length, ◌⊎◌}
use Rattle.ti_jdwp.specs.declared.packet.Head.{Head}
use Rattle.ti_jdwp.specs.declared.packet.Head.TheVariants as head
use Rattle.ti_jdwp.specs.Fields.{int}

-- the head of a request
abbrev pub request_head : ℕ → ℕ → ℕ → ℕ → ℕ → List ℕ
request_head len id flags set command = int len ++ int id ++ flags ∷ set ∷ command ∷ []

-- the length of a packet that is let in
abbrev pub IsLength : ℕ → Type 0
IsLength len = (11 ≤ len) × (len ≤ 65536)

-- The input begins with a length, whatever follows.
abbrev pub BeginsWithLength : List ℕ → ℕ → Type 0
BeginsWithLength input len = (rest : List ℕ) × (input ≡ int len ++ rest)

-- The input begins with a head.
abbrev pub BeginsWithHead : List ℕ → ℕ → ℕ → ℕ → ℕ → ℕ → Type 0
BeginsWithHead input len id flags set command = (rest : List ℕ) × (input ≡ request_head len id flags set command ++ rest)

-- What an input begins with. A flag of 128 makes a packet a reply.
abbrev pub BeginsWith : List ℕ → Head → Type 0
BeginsWith input head.NeedsMore = (length input < 4) ⊎ ((length input < 11) × ((len : ℕ) × BeginsWithLength input len × IsLength len))
BeginsWith input head.TooShort = (len : ℕ) × BeginsWithLength input len × (len < 11)
BeginsWith input head.TooLong = (len : ℕ) × BeginsWithLength input len × (65536 < len) × (len < 2 ^ 32)
BeginsWith input (head.Request id set command len) = (flags : ℕ) × BeginsWithHead input len id flags set command × (id < 2 ^ 32) × IsLength len × (flags < 128)
BeginsWith input (head.Reply len) = (id flags set command : ℕ) × BeginsWithHead input len id flags set command × IsLength len × (128 ≤ flags) × (flags < 256)
