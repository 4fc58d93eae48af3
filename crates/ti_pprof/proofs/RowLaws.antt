use Rattle.std.proofs.Common.{◌≡◌, ℕ, zero, suc, ◌<◌, ◌&&◌, true, false, true≢false, List, [], ◌∷◌, length, get_or, arith, refl, ap, sym, ◌∙◌}
use Rattle.std.specs.List.{list_any}
use Rattle.std.proofs.Math.Dec.{eqb}
use Rattle.std.proofs.lemmas.Bool.{eq-eqb, eqb-true}
use Rattle.ti_pprof.specs.declared.table.Row.{Row}
use Rattle.ti_pprof.specs.Rows.{is_same_row}
use Rattle.ti_pprof.proofs.TrieLaws.{both, neither}

-- rows that pass for the same are the same
pub same_row : (a b : Row) → is_same_row a b ≡ true → a ≡ b
same_row a b h =
    let t = both (eqb a.stack b.stack) (eqb a.thread b.thread && eqb a.state b.state) h in
    let u = both (eqb a.thread b.thread) (eqb a.state b.state) t.1 in
    let s = eqb-true a.stack b.stack t.0 in
    let p = eqb-true a.thread b.thread u.0 in
    let q = eqb-true a.state b.state u.1 in
    λ j. record { stack = s j; thread = p j; state = q j }

-- a row is the same as itself
is_same_row-refl : (row : Row) → is_same_row row row ≡ true
is_same_row-refl row =
    let s = eq-eqb row.stack row.stack refl in
    let p = eq-eqb row.thread row.thread refl in
    let q = eq-eqb row.state row.state refl in
    λ j. s j && (p j && q j)

-- what no test finds is nowhere
pub absent_row : (rows : List Row) (row : Row) (i : ℕ) (d : Row) → list_any (is_same_row row) rows ≡ false → i < length rows → get_or rows i d ≡ row → ⊥
absent_row [] row i d absent within at = omega arith
absent_row (r ∷ rows) row zero d absent within at =
    let h = neither (is_same_row row r) (list_any (is_same_row row) rows) absent in
    true≢false (sym (ap (is_same_row row) at ∙ is_same_row-refl row) ∙ h.0)
absent_row (r ∷ rows) row (suc i) d absent within at =
    absent_row rows row i d (neither (is_same_row row r) (list_any (is_same_row row) rows) absent).1 (omega arith) at
