-- The live threads, by the rows of those that are there.
use Rattle.std.proofs.Common.{◌≡◌, ℕ, zero, suc, List, [], ◌∷◌, ◌++◌, map, take, Bool, true, false, if◌then◌else◌, cond, Some, refl, ap, ◌∙◌}
use Rattle.std.specs.Prelude.{slice_get}
use Rattle.std.specs.List.{filter}
use Rattle.ti_types.specs.declared.numbers.ThreadNo.{ThreadNo}
use Rattle.ti_roster.specs.declared.coming.Coming.{Coming}
use Rattle.ti_roster.specs.declared.newcomer.Newcomer.{Newcomer}
use Rattle.ti_roster.specs.declared.row.Row.{Row}
use Rattle.ti_roster.specs.Rows.{newcomers}
use Rattle.ti_roster.specs.Stages.{is_alive, is_alive_in, stage_of}
use Rattle.ti_roster.proofs.Places.{is_same, nothing_at}

-- the threads of these rows that are alive
abbrev pub alive_rows : List Row → List ThreadNo
alive_rows [] = []
alive_rows (r ∷ rows) = if is_alive r.stage then r.newcomer.thread ∷ alive_rows rows else alive_rows rows

abbrev pub alive_row : Bool → Row → List ThreadNo
alive_row true r = r.newcomer.thread ∷ []
alive_row false r = []

put_first : (b : Bool) (t : ThreadNo) (l more : List ThreadNo) → (if b then t ∷ (l ++ more) else l ++ more) ≡ (if b then t ∷ l else l) ++ more
put_first true t l more = refl
put_first false t l more = refl

first_row : (b : Bool) (r : Row) → (if b then r.newcomer.thread ∷ [] else []) ≡ alive_row b r
first_row true r = refl
first_row false r = refl

-- one row more
pub alive_more : (rows : List Row) (i : ℕ) (r : Row) → slice_get rows i ≡ Some r → alive_rows (take (suc i) rows) ≡ alive_rows (take i rows) ++ alive_row (is_alive r.stage) r
alive_more [] i r at = absurd (nothing_at i r at)
alive_more (x ∷ rows) zero r at = first_row (is_alive x.stage) x ∙ ap (λ (y : Row). alive_row (is_alive y.stage) y) (is_same x r at)
alive_more (x ∷ rows) (suc i) r at =
    ap (λ (l : List ThreadNo). if is_alive x.stage then x.newcomer.thread ∷ l else l) (alive_more rows i r at)
    ∙ put_first (is_alive x.stage) x.newcomer.thread (alive_rows (take i rows)) (alive_row (is_alive r.stage) r)

one_of : (b : Bool) (n : Newcomer) (l : List ThreadNo) (k : List Newcomer) → l ≡ map (λ (m : Newcomer). m.thread) k → (if b then n.thread ∷ l else l) ≡ map (λ (m : Newcomer). m.thread) (cond b (n ∷ k) k)
one_of true n l k same = ap (λ (x : List ThreadNo). n.thread ∷ x) same
one_of false n l k same = same

-- all rows: these are the live threads
pub alive_all : (log : List Coming) (rows : List Row) → ((i : ℕ) (r : Row) → slice_get rows i ≡ Some r → r.stage ≡ stage_of r.newcomer.thread log) → alive_rows rows ≡ map (λ (n : Newcomer). n.thread) (filter (is_alive_in log) (newcomers rows))
alive_all log [] stages = refl
alive_all log (r ∷ rows) stages =
    ap (λ (b : Bool). if b then r.newcomer.thread ∷ alive_rows rows else alive_rows rows) (ap is_alive (stages 0 r refl))
    ∙ one_of (is_alive_in log r.newcomer) r.newcomer (alive_rows rows) (filter (is_alive_in log) (newcomers rows)) (alive_all log rows (λ i q at. stages (suc i) q at))
