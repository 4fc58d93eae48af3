-- The labels of samples, by the numbers of their texts.
use Rattle.std.specs.Prelude.{ℕ, ◌≡◌, List, [], ◌++◌, map, Option, None, Some, String}
use Rattle.std.specs.Global.{Global}
use Rattle.std.specs.String.{string_bytes}
use Rattle.ti_pprof.specs.declared.labels.Labels.{Labels}
use Rattle.ti_pprof.specs.Strings.{number_of}
use Rattle.ti_pprof.specs.Wire.{block_field, number_field}

-- Label: 1 key, 2 str
abbrev pub numbered_label : ℕ → Option ℕ → List ℕ
numbered_label key None = []
numbered_label key (Some text) = block_field 3 (number_field 1 key ++ number_field 2 text)

-- the numbers of these texts, and of their label's key
abbrev pub AreLabels : List (List ℕ) → List ℕ → List (String Global) → Labels → Type 0
AreLabels strings key texts l = (l.key ≡ number_of strings key) × (l.texts.items ≡ map (number_of strings) (map string_bytes texts))
