-- Pieces of texts, and texts as lists of lines.
use Rattle.std.specs.Prelude.{ℕ, ◌+◌, ◌/◌, ◌%◌, ◌==◌, ◌||◌, Bool, List, [], ◌∷◌, ◌++◌, codes, decimal, map, nat_lt, if◌then◌else◌}
use Rattle.std.specs.List.{flat_map}

-- the line feed at the end of a line
abbrev pub line : List ℕ → List ℕ
line bytes = bytes ++ 10 ∷ []

-- lines, each with a line feed at its end
abbrev pub text_of : List (List ℕ) → List ℕ
text_of lines = flat_map line lines

-- the digit that stands for this many
abbrev pub digit_at : ℕ → ℕ → ℕ
digit_at n place = 48 + n / place % 10

-- nanoseconds as seconds, with nine digits behind the point
abbrev pub seconds : ℕ → List ℕ
seconds n =
    decimal (n / 1000000000)
    ++ 46 ∷ map (digit_at n) (100000000 ∷ 10000000 ∷ 1000000 ∷ 100000 ∷ 10000 ∷ 1000 ∷ 100 ∷ 10 ∷ 1 ∷ [])

abbrev pub hex_digit : ℕ → ℕ
hex_digit n = if nat_lt n 10 then 48 + n else 87 + n

-- the control characters of ASCII
abbrev pub is_control : ℕ → Bool
is_control b = nat_lt b 32 || (b == 127)

-- a control character by its number, and another byte as it is
abbrev pub numbered_byte : ℕ → List ℕ
numbered_byte b = if is_control b then codes "\\u00" ++ (hex_digit (b / 16) ∷ hex_digit (b % 16) ∷ []) else b ∷ []

-- a byte of a text within quotes, as in JSON
abbrev pub escaped_byte : ℕ → List ℕ
escaped_byte b =
    if b == 34 then codes "\\\""
    else (if b == 92 then codes "\\\\"
    else (if b == 8 then codes "\\b"
    else (if b == 9 then codes "\\t"
    else (if b == 10 then codes "\\n"
    else (if b == 12 then codes "\\f"
    else (if b == 13 then codes "\\r"
    else numbered_byte b))))))

abbrev pub escaped : List ℕ → List ℕ
escaped text = flat_map escaped_byte text

-- a byte of a label: a control character as within quotes, and another byte as it is
abbrev pub visible_byte : ℕ → List ℕ
visible_byte b = if is_control b then escaped_byte b else b ∷ []

abbrev pub visible : List ℕ → List ℕ
visible text = flat_map visible_byte text

-- a byte of a text in JSON: the control character that JSON leaves as it is stands by its number
abbrev pub json_byte : ℕ → List ℕ
json_byte b = if b == 127 then codes "\\u007f" else b ∷ []

abbrev pub plain_json : List ℕ → List ℕ
plain_json text = flat_map json_byte text
