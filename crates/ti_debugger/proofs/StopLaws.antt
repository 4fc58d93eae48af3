-- Threads that stopped: which of them stay stopped as some go on.
use Rattle.std.proofs.Common.{◌≡◌, ◌<◌, ◌≤◌, ◌+◌, ◌∙◌, ℕ, zero, suc, Bool, true, not, cond, List, [], ◌∷◌, ◌++◌, Some, length, map, take, drop, slice_get, get_or, set, refl, sym, ap, subst, arith}
use Rattle.std.proofs.lemmas.List.{take-append-le, take_all}
use Rattle.std.specs.List.{remove}
use Rattle.ti_stops.specs.declared.error.StopError.{StopError}
use Rattle.ti_debugger.specs.declared.halted.Halted.{Halted}
use Rattle.ti_debugger.specs.Stopping.{may_go, stopped_in}

abbrev stays : Halted → Bool
stays h = not (may_go h.stage)

passed : (h : Halted) (list : List Halted) → may_go h.stage ≡ true → list ≡ cond (stays h) (h ∷ list) list
passed h list goes = sym (ap (λ (b : Bool). cond (not b) (h ∷ list) list) goes)

-- one that may go on is taken out
pub stopped_out : (list : List Halted) (i : ℕ) (h : Halted) → slice_get list i ≡ Some h → may_go h.stage ≡ true → stopped_in (remove list i) ≡ stopped_in list
stopped_out [] i h is goes = absurd (cc is)
stopped_out (x ∷ list) zero h is goes =
    let same : x ≡ h = cc is in
    passed x (stopped_in list) (ap (λ (y : Halted). may_go y.stage) same ∙ goes)
stopped_out (x ∷ list) (suc i) h is goes = ap (λ (rest : List Halted). cond (stays x) (x ∷ rest) rest) (stopped_out list i h is goes)

-- the first of a list become others
abbrev pub first_become : (Halted → Halted) → ℕ → List Halted → List Halted
first_become f zero list = list
first_become f (suc i) [] = []
first_become f (suc i) (h ∷ list) = f h ∷ first_become f i list

one_more : (f : Halted → Halted) (i : ℕ) (list : List Halted) (d : Halted) → i < length list
    → set (first_become f i list) i (f (get_or (first_become f i list) i d)) ≡ first_become f (suc i) list
one_more f i [] d within = absurd (omega (arith, within))
one_more f zero (h ∷ list) d within = refl
one_more f (suc i) (h ∷ list) d within = ap (λ (rest : List Halted). f h ∷ rest) (one_more f i list d (omega (arith, within)))

-- one more becomes another
pub become_more : (f : Halted → Halted) (i : ℕ) (list items : List Halted) (d h : Halted) → items ≡ first_become f i list → i < length list → h ≡ f (get_or items i d)
    → set items i h ≡ first_become f (i + 1) list
become_more f i list items d h is within became =
    let more : suc i ≡ i + 1 = omega arith in
    let at : set items i (f (get_or items i d)) ≡ first_become f (suc i) list =
    subst (λ (x : List Halted). set x i (f (get_or x i d)) ≡ first_become f (suc i) list) (sym is) (one_more f i list d within) in
    subst (λ (k : ℕ). set items i h ≡ first_become f k list) more (ap (λ (x : Halted). set items i x) became ∙ at)

all_become : (f : Halted → Halted) (i : ℕ) (list : List Halted) → length list ≤ i → first_become f i list ≡ map f list
all_become f zero [] over = refl
all_become f zero (h ∷ list) over = absurd (omega (arith, over))
all_become f (suc i) [] over = refl
all_become f (suc i) (h ∷ list) over = ap (λ (rest : List Halted). f h ∷ rest) (all_become f i list (omega (arith, over)))

-- all of them did, and were written back
pub all_written : (f : Halted → Halted) (i n : ℕ) (list items : List Halted) → items ≡ first_become f i list → length list ≤ i → length items ≡ length list → n ≡ length list
    → take n (items ++ drop (length items) list) ≡ map f list
all_written f i n list items is over same long =
    let a : n ≤ length items = omega (arith, same, long) in
    let b : length items ≤ n = omega (arith, same, long) in
    take-append-le n items (drop (length items) list) a ∙ take_all n items b ∙ is ∙ all_become f i list over

-- why a call about stops was refused
pub refused_for : (P : StopError → Type 0) (e x : StopError) → e ≡ x → P e → P x
refused_for P e x is refused = subst P is refused
