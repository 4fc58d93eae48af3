-- The table of strings. A message names a string by its place in it.
use Rattle.std.specs.Prelude.{ℕ, List, [], fold, map}
use Rattle.std.specs.List.{position_or_len}
use Rattle.std.specs.Str.{bytes_eq}
use Rattle.indexmap.specs.IndexSet.{insert_key}
use Rattle.ti_pprof.specs.declared.texts.Texts.{Texts}

-- the strings with one more behind them, unless it is one of them
abbrev pub with_string : List (List ℕ) → List ℕ → List (List ℕ)
with_string strings text = insert_key bytes_eq strings text

-- these texts, each once, in the order of their first use
abbrev pub strings_of : List (List ℕ) → List (List ℕ)
strings_of texts = fold with_string [] texts

-- the place of a text
abbrev pub number_of : List (List ℕ) → List ℕ → ℕ
number_of strings text = position_or_len (bytes_eq text) strings

abbrev pub strings_in : Texts → List (List ℕ)
strings_in t = map (λ s. s.now) t.texts.keys
