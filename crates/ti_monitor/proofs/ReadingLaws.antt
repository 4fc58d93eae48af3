-- The reading of a number.
use Rattle.std.specs.Prelude.{suc, slice_get}
use Rattle.std.proofs.lemmas.Bool.Decides.{nat_tests}
use Rattle.std.proofs.lemmas.Option.{slice_get-get_or}
use Rattle.std.proofs.Math.ListN.{drop_of_length-le}
use Rattle.std.proofs.Common.{◌≡◌, ℕ, ◌+◌, ◌<◌, ◌≤◌, Bool, true, false, cond, List, length, get_or, drop, Some, None, sym, ap, ◌∙◌, eqb, arith, drop-cons, add-one}
use Rattle.ti_monitor.specs.declared.monitor.ReadingNo.{ReadingNo}
use Rattle.ti_monitor.specs.declared.running.Running.{Running}
use Rattle.ti_monitor.specs.Monitors.{reading_in}

-- the reading at a place is the one, or it is behind it
step : (readings : List Running) (i : ℕ) (number : ReadingNo) (d : Running) → i < length readings
    → reading_in (drop i readings) number ≡ cond (eqb (get_or readings i d).no.0 number.0) (Some (get_or readings i d)) (reading_in (drop (suc i) readings) number)
step readings i number d h = ap (λ (l : List Running). reading_in l number) (drop-cons readings i d h)

-- the reading at a place is the first of the number
pub reading_here : (readings : List Running) (i : ℕ) (number : ReadingNo) (d : Running) → i < length readings → reading_in readings number ≡ reading_in (drop i readings) number
    → d ≡ get_or readings i d → d.no.0 ≡ number.0 → slice_get readings i ≡ reading_in readings number
reading_here readings i number d h before is same =
    let test : eqb (get_or readings i d).no.0 number.0 ≡ true = ap (λ (r : Running). eqb r.no.0 number.0) (sym is) ∙ grind (arith, nat_tests, same) in
    let all : reading_in readings number ≡ Some (get_or readings i d) = before ∙ step readings i number d h ∙ ap (λ (b : Bool). cond b (Some (get_or readings i d)) (reading_in (drop (suc i) readings) number)) test in
    slice_get-get_or readings i d h ∙ sym all

-- it is of another number, so the first of the number is behind it
pub reading_behind : (readings : List Running) (i : ℕ) (number : ReadingNo) (d : Running) → i < length readings → reading_in readings number ≡ reading_in (drop i readings) number
    → d ≡ get_or readings i d → (d.no.0 ≡ number.0 → ⊥) → reading_in readings number ≡ reading_in (drop (i + 1) readings) number
reading_behind readings i number d h before is other =
    let test : eqb (get_or readings i d).no.0 number.0 ≡ false = ap (λ (r : Running). eqb r.no.0 number.0) (sym is) ∙ grind (arith, nat_tests, other) in
    rw (add-one i) (before ∙ step readings i number d h ∙ ap (λ (b : Bool). cond b (Some (get_or readings i d)) (reading_in (drop (suc i) readings) number)) test)

-- none is behind the last one
pub reading_nowhere : (readings : List Running) (i : ℕ) (number : ReadingNo) → length readings ≤ i → reading_in readings number ≡ reading_in (drop i readings) number → reading_in readings number ≡ None
reading_nowhere readings i number h before = before ∙ ap (λ (l : List Running). reading_in l number) (drop_of_length-le readings h)
