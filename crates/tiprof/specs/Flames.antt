-- What is written for a character in the text of an SVG.
use Rattle.std.specs.Prelude.{ℕ, List, codes, Option, Some, None, ◌==◌, if◌then◌else◌}

-- for a character that the text may not have
abbrev pub entity_of : ℕ → Option (List ℕ)
entity_of letter =
    if letter == 38 then Some (codes "&amp;")
    else (if letter == 60 then Some (codes "&lt;")
    else (if letter == 62 then Some (codes "&gt;")
    else (if letter == 34 then Some (codes "&quot;")
    else (if letter == 39 then Some (codes "&#39;")
    else None))))
