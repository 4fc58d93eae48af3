-- A label by the number of its text.
use Rattle.std.proofs.Common.{◌≡◌, ◌∙◌, ℕ, zero, suc, List, [], ◌∷◌, ◌++◌, String, map, slice_get, refl, ap}
use Rattle.std.proofs.lemmas.List.{append_assoc}
use Rattle.std.specs.Global.{Global}
use Rattle.std.specs.String.{string_bytes}
use Rattle.ti_pprof.specs.Labels.{AreLabels, numbered_label}
use Rattle.ti_pprof.specs.Profile.{label_field}
use Rattle.ti_pprof.specs.Strings.{number_of}
use Rattle.ti_pprof.specs.declared.labels.Labels.{Labels}

-- the number at a place is that of the text there
pub label_at : (strings : List (List ℕ)) (key : List ℕ) (texts : List (String Global)) (place : ℕ)
    → numbered_label (number_of strings key) (slice_get (map (number_of strings) (map string_bytes texts)) place) ≡ label_field strings key (slice_get texts place)
label_at strings key [] zero = refl
label_at strings key [] (suc place) = refl
label_at strings key (text ∷ texts) zero = refl
label_at strings key (text ∷ texts) (suc place) = label_at strings key texts place

pub labelled : (strings : List (List ℕ)) (key : List ℕ) (texts : List (String Global)) (l : Labels) (place : ℕ) → AreLabels strings key texts l
    → numbered_label l.key (slice_get l.texts.items place) ≡ label_field strings key (slice_get texts place)
labelled strings key texts l place are =
    (λ j. numbered_label (are.0 j) (slice_get (are.1 j) place)) ∙ label_at strings key texts place

-- two parts behind what is there
pub two_behind : (o m n a b c d : List ℕ) → m ≡ o ++ a → n ≡ m ++ b → a ≡ c → b ≡ d → n ≡ o ++ (c ++ d)
two_behind o m n a b c d first second is_first is_second =
    second ∙ ap (λ x. x ++ b) first ∙ append_assoc o a b ∙ (λ j. o ++ (is_first j ++ is_second j))
