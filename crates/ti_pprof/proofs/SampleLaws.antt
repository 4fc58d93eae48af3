use Rattle.std.proofs.Common.{◌≡◌, ℕ, zero, suc, ◌+◌, ◌<◌, ◌≤◌, List, [], ◌∷◌, ◌++◌, length, get_or, slice_get, slice_set, Some, false, sum, arith, refl, ap, sym, ◌∙◌, subst, inl, inr}
use Rattle.std.specs.List.{list_any, sum_by}
use Rattle.std.specs.Prelude.{unwrap_or}
use Rattle.std.proofs.lemmas.Option.{slice_get_within}
use Rattle.ti_pprof.proofs.RowLaws.{absent_row}
use Rattle.std.proofs.lemmas.List.Sums.{sum_by-cons}
use Rattle.ti_pprof.specs.declared.stacks.Frame.{Frame}
use Rattle.ti_pprof.specs.declared.stacks.Node.{Node}
use Rattle.ti_pprof.specs.declared.table.Row.{Row}
use Rattle.ti_pprof.specs.Stacks.{stack_at, stacks_of, Grows, HasStack}
use Rattle.ti_pprof.specs.Rows.{is_same_row, IsRowCounted}
use Rattle.ti_pprof.specs.Samples.{Sample, sample, sample_of, samples_in, AreNumbered, IsCounted, IsThere}
use Rattle.ti_pprof.proofs.TrieLaws.{stack_at-Grows}

-- the samples stay when nodes are added
pub samples_in-Grows : (old new : List Node) (rows : List Row) (counts : List ℕ) → Grows old new → AreNumbered rows (length old)
    → samples_in (stacks_of new) rows counts ≡ samples_in (stacks_of old) rows counts
samples_in-Grows old new [] counts grows there = refl
samples_in-Grows old new (row ∷ rows) [] grows there = refl
samples_in-Grows old new (row ∷ rows) (count ∷ counts) grows there =
    let here = stack_at-Grows old new row.stack grows (there 0 row (omega arith)) in
    let rest = samples_in-Grows old new rows counts grows (λ i d h. there (suc i) d (omega arith)) in
    λ j. record { frames = here j; thread = row.thread; state = row.state; count = count } ∷ rest j

-- a row and its count behind the others are a sample behind the others
pub samples_in-push : (stacks : List (List Frame)) (rows : List Row) (counts : List ℕ) (row : Row) (count : ℕ) → length counts ≡ length rows
    → samples_in stacks (rows ++ row ∷ []) (counts ++ count ∷ []) ≡ samples_in stacks rows counts ++ sample_of stacks row count ∷ []
samples_in-push stacks [] [] row count same = refl
samples_in-push stacks [] (n ∷ counts) row count same = absurd (omega arith)
samples_in-push stacks (r ∷ rows) [] row count same = absurd (omega arith)
samples_in-push stacks (r ∷ rows) (n ∷ counts) row count same =
    ap (λ s. sample_of stacks r n ∷ s) (samples_in-push stacks rows counts row count (omega arith))

-- the sample at a place
pub slice_get-samples_in : (stacks : List (List Frame)) (rows : List Row) (counts : List ℕ) (i : ℕ) (d : Row) → length counts ≡ length rows → i < length rows
    → slice_get (samples_in stacks rows counts) i ≡ Some (sample_of stacks (get_or rows i d) (get_or counts i 0))
slice_get-samples_in stacks [] counts i d same within = absurd (omega arith)
slice_get-samples_in stacks (r ∷ rows) [] i d same within = absurd (omega arith)
slice_get-samples_in stacks (r ∷ rows) (n ∷ counts) zero d same within = refl
slice_get-samples_in stacks (r ∷ rows) (n ∷ counts) (suc i) d same within = slice_get-samples_in stacks rows counts i d (omega arith) (omega arith)

-- another count at a place makes another sample there
pub samples_in-set : (stacks : List (List Frame)) (rows : List Row) (counts : List ℕ) (i : ℕ) (d : Row) (m : ℕ) → length counts ≡ length rows → i < length rows
    → samples_in stacks rows (slice_set counts i m) ≡ slice_set (samples_in stacks rows counts) i (sample_of stacks (get_or rows i d) m)
samples_in-set stacks [] counts i d m same within = absurd (omega arith)
samples_in-set stacks (r ∷ rows) [] i d m same within = absurd (omega arith)
samples_in-set stacks (r ∷ rows) (n ∷ counts) zero d m same within = refl
samples_in-set stacks (r ∷ rows) (n ∷ counts) (suc i) d m same within =
    ap (λ s. sample_of stacks r n ∷ s) (samples_in-set stacks rows counts i d m (omega arith) (omega arith))

-- there are as many samples as rows
length-samples_in : (stacks : List (List Frame)) (rows : List Row) (counts : List ℕ) → length counts ≡ length rows → length (samples_in stacks rows counts) ≡ length rows
length-samples_in stacks [] counts same = refl
length-samples_in stacks (r ∷ rows) [] same = absurd (omega arith)
length-samples_in stacks (r ∷ rows) (n ∷ counts) same =
    let rest = length-samples_in stacks rows counts (omega arith) in omega arith

-- stacks of different numbers differ, as far as `most`
abbrev pub AreDistinct : List (List Frame) → ℕ → Type 0
AreDistinct stacks most = (m n : ℕ) → m ≤ most → n ≤ most → stack_at stacks m ≡ stack_at stacks n → m ≡ n

-- a row that is not there is of a sample that is not there
pub not_there : (stacks : List (List Frame)) (rows : List Row) (counts : List ℕ) (row : Row) (most : ℕ) → length counts ≡ length rows
    → AreDistinct stacks most → AreNumbered rows most → row.stack ≤ most → list_any (is_same_row row) rows ≡ false
    → IsThere (samples_in stacks rows counts) (stack_at stacks row.stack) row.thread row.state → ⊥
not_there stacks rows counts row most same distinct numbered here absent there =
    let i = there.0 in
    let samples = samples_in stacks rows counts in
    let inside = slice_get_within samples i (sample (stack_at stacks row.stack) row.thread row.state there.1) there.2 in
    let within : i < length rows = omega (arith, inside, length-samples_in stacks rows counts same) in
    let r = get_or rows i row in
    let one = sample_of stacks r (get_or counts i 0) in
    let equal : one ≡ sample (stack_at stacks row.stack) row.thread row.state there.1 =
    ap (λ o. unwrap_or o one) (sym (slice_get-samples_in stacks rows counts i row same within) ∙ there.2) in
    let numbers : r.stack ≡ row.stack = distinct r.stack row.stack (numbered i row within) here (ap (λ (s : Sample). s.frames) equal) in
    let threads : r.thread ≡ row.thread = ap (λ (s : Sample). s.thread) equal in
    let states : r.state ≡ row.state = ap (λ (s : Sample). s.state) equal in
    absent_row rows row i row absent within (λ j. record { stack = numbers j; thread = threads j; state = states j })

-- a counted row is a counted sample
pub IsCounted-row : (stacks : List (List Frame)) (rows rows' : List Row) (counts counts' : List ℕ) (row : Row) (times most : ℕ) → length counts ≡ length rows
    → AreDistinct stacks most → AreNumbered rows most → row.stack ≤ most
    → IsRowCounted rows counts rows' counts' row times
    → IsCounted (samples_in stacks rows counts) (samples_in stacks rows' counts') (stack_at stacks row.stack) row.thread row.state times
IsCounted-row stacks rows rows' counts counts' row times most same distinct numbered here (inl more) =
    inl (
      (λ j. samples_in stacks (more.0 j) (more.1 j)) ∙ samples_in-push stacks rows counts row times same,
      not_there stacks rows counts row most same distinct numbered here more.2,
    )
IsCounted-row stacks rows rows' counts counts' row times most same distinct numbered here (inr at) =
    let i = at.0 in
    let n = get_or counts i 0 in
    let was = slice_get-samples_in stacks rows counts i row same at.1 in
    let now = samples_in-set stacks rows counts i row (n + times) same at.1 in
    inr (
      i,
      n,
      was ∙ ap (λ r. Some (sample_of stacks r n)) at.2,
      (λ j. samples_in stacks (at.3 j) (at.4 j)) ∙ now ∙ ap (λ r. slice_set (samples_in stacks rows counts) i (sample_of stacks r (n + times))) at.2,
    )

-- the samples' counts are the counts
pub sum_by-samples_in : (stacks : List (List Frame)) (rows : List Row) (counts : List ℕ) → length counts ≡ length rows
    → sum_by (λ (s : Sample). s.count) (samples_in stacks rows counts) ≡ sum counts
sum_by-samples_in stacks [] [] same = refl
sum_by-samples_in stacks [] (n ∷ counts) same = absurd (omega arith)
sum_by-samples_in stacks (row ∷ rows) [] same = absurd (omega arith)
sum_by-samples_in stacks (row ∷ rows) (n ∷ counts) same =
    sum_by-cons (λ (s : Sample). s.count) (sample_of stacks row n) (samples_in stacks rows counts)
    ∙ ap (λ m. n + m) (sum_by-samples_in stacks rows counts (omega arith))
    ∙ sym (sum_by-cons (λ n. n) n counts)

-- a counted sample is one, whatever the samples before and the stack are called
pub IsCounted-along : (a b new : List Sample) (f g : List Frame) (thread state times : ℕ) → a ≡ b → f ≡ g → IsCounted a new f thread state times → IsCounted b new g thread state times
IsCounted-along a b new f g thread state times p q h =
    subst (λ (s : List Sample). IsCounted s new g thread state times) p (subst (λ (x : List Frame). IsCounted a new x thread state times) q h)

-- a sample that is not there is not, whatever the samples and the stack are called
pub absent_along : (a b : List Sample) (f g : List Frame) (thread state : ℕ) → a ≡ b → f ≡ g → ¬ (IsThere a f thread state) → ¬ (IsThere b g thread state)
absent_along a b f g thread state p q absent =
    subst (λ (s : List Sample). ¬ (IsThere s g thread state)) p (subst (λ (x : List Frame). ¬ (IsThere a x thread state)) q absent)

-- a stack that is not there has no sample
pub no_sample : (nodes : List Node) (rows : List Row) (counts : List ℕ) (frames : List Frame) (thread state : ℕ) → length counts ≡ length rows
    → AreNumbered rows (length nodes) → ¬ (HasStack nodes frames) → ¬ (IsThere (samples_in (stacks_of nodes) rows counts) frames thread state)
no_sample nodes rows counts frames thread state same numbered not there =
    let i = there.0 in
    let stacks = stacks_of nodes in
    let inside = slice_get_within (samples_in stacks rows counts) i (sample frames thread state there.1) there.2 in
    let within : i < length rows = omega (arith, inside, length-samples_in stacks rows counts same) in
    let d : Row = record { stack = 0; thread = 0; state = 0 } in
    let r = get_or rows i d in
    let one = sample_of stacks r (get_or counts i 0) in
    let equal : one ≡ sample frames thread state there.1 =
    ap (λ o. unwrap_or o one) (sym (slice_get-samples_in stacks rows counts i d same within) ∙ there.2) in
    not (r.stack, numbered i d within, ap (λ (s : Sample). s.frames) equal)
