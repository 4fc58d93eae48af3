-- Tables of rows, and how they grow with a history.
use Rattle.std.proofs.Common.{◌≡◌, ℕ, append-nil, append_assoc, length-take, zero, suc, ◌+◌, ◌<◌, ◌==◌, List, [], ◌∷◌, ◌++◌, length, map, refl, ap, ◌∙◌, arith, Option, Some, slice_get, slice_index_or, get_or, take, if◌then◌else◌, inl, inr}
use Rattle.std.specs.Option.{option_map}
use Rattle.std.specs.List.{filter, enumerate_from}
use Rattle.std.proofs.lemmas.Bool.{cases_Bool}
use Rattle.std.proofs.lemmas.Grind.{take_at_read}
use Rattle.std.proofs.lemmas.List.Sums.{sum_by-append}
use Rattle.ti_types.specs.declared.limits.Limits.{Limits}
use Rattle.ti_types.specs.declared.numbers.EnvNo.{EnvNo}
use Rattle.ti_types.specs.declared.entry.Entry.{Entry}
use Rattle.ti_types.specs.declared.entry.Entry.TheVariants.{Start}
use Rattle.ti_types.specs.declared.answer.Answer.{Answer}
use Rattle.ti_types.specs.declared.place.Frame.{Frame}
use Rattle.ti_replay.specs.Legal.{call_cost, calls_spent}
use Rattle.ti_types.specs.Answer.{said}
use Rattle.ti_replay.specs.Replies.{reply, told_at}
use Rattle.ti_replay.specs.Settling.{Placed, placed}
use Rattle.ti_replay.proofs.HistoryLaws.{enumerate_from-append}
use Rattle.ti_replay.proofs.StepLaws.{entry_at}
use Rattle.ti_report.specs.Told.{is_left_by, granted}
use Rattle.ti_report.specs.declared.book.Note.{Note}
use Rattle.ti_report.specs.Books.{Row, said_row, rows_of, rows_at, with_row}

-- one more agent without rows
pub none_more : (rows : List (List Note)) (k : ℕ) → ((k : ℕ) → slice_index_or rows k [] ≡ []) → slice_index_or (rows ++ [] ∷ []) k [] ≡ []
none_more [] zero h = refl
none_more [] (suc k) h = refl
none_more (r ∷ rows) zero h = h 0
none_more (r ∷ rows) (suc k) h = none_more rows k (λ j. h (suc j))

filter_map-append : (limits : Limits) (whole : List Entry) (e : EnvNo) (xs ys : List Placed)
    → map {B = Row} (λ (p : Placed). (p.1, granted p.1 (reply limits whole p.0))) (filter (λ p. is_left_by e p.1) (xs ++ ys))
    ≡ map {B = Row} (λ (p : Placed). (p.1, granted p.1 (reply limits whole p.0))) (filter (λ p. is_left_by e p.1) xs) ++ map {B = Row} (λ (p : Placed). (p.1, granted p.1 (reply limits whole p.0))) (filter (λ p. is_left_by e p.1) ys)
filter_map-append limits whole e [] ys = refl
filter_map-append limits whole e (p ∷ xs) ys =
    elim (cases_Bool (is_left_by e p.1)) [
      | inl yes' ↦ grind (arith, yes', filter_map-append limits whole e xs ys)
      | inr no' ↦ grind (arith, no', filter_map-append limits whole e xs ys)
    ]

-- one more entry of the history
pub rows_of-snoc : (limits : Limits) (whole : List Entry) (e : EnvNo) (front : List Entry) (x : Entry)
    → rows_of limits whole e (front ++ x ∷ []) ≡ rows_of limits whole e front ++ (if is_left_by e x then (x, granted x (reply limits whole (length front))) ∷ [] else [])
rows_of-snoc limits whole e front x =
    ap (λ l. map {B = Row} (λ (p : Placed). (p.1, granted p.1 (reply limits whole p.0))) (filter (λ p. is_left_by e p.1) l)) (enumerate_from-append 0 front (x ∷ []))
    ∙ filter_map-append limits whole e (placed front) (enumerate_from (0 + length front) (x ∷ []))
    ∙ elim (cases_Bool (is_left_by e x)) [
      | inl yes' ↦ grind (arith, yes')
      | inr no' ↦ grind (arith, no')
    ]

pub rows_of_take : (limits : Limits) (whole : List Entry) (e : EnvNo) (i : ℕ) → i < length whole
    → rows_of limits whole e (take (i + 1) whole) ≡ rows_of limits whole e (take i whole) ++ (if is_left_by e (entry_at whole i) then (entry_at whole i, granted (entry_at whole i) (reply limits whole i)) ∷ [] else [])
rows_of_take limits whole e i h =
    let n : length (take i whole) ≡ i = omega (arith, length-take i whole) in
    ap (rows_of limits whole e) (take_at_read whole i Start h).1 ∙ rows_of-snoc limits whole e (take i whole) (entry_at whole i)
    ∙ ap (λ n. rows_of limits whole e (take i whole) ++ (if is_left_by e (entry_at whole i) then (entry_at whole i, granted (entry_at whole i) (reply limits whole n)) ∷ [] else [])) n

pub spent_take : (e : EnvNo) (whole : List Entry) (i : ℕ) → i < length whole
    → calls_spent e (take (i + 1) whole) ≡ calls_spent e (take i whole) + call_cost e (entry_at whole i)
spent_take e whole i h =
    ap (calls_spent e) (take_at_read whole i Start h).1 ∙ (sum_by-append (call_cost e) (take i whole) (entry_at whole i ∷ []) ∙ grind arith)

-- what a list of replies says at a place that is there
pub told_here : (told : List (Option Answer)) (at : ℕ) (d : Option Answer) → at < length told → told_at told at ≡ option_map said (get_or told at d)
told_here [] at d h = grind arith
told_here (t ∷ told) zero d h = refl
told_here (t ∷ told) (suc at) d h = told_here told at d (omega arith)

map_rows : (e : EnvNo) (entries : List Entry) (frames : List Frame) (xs ys : List Note) → map (said_row e entries frames) (xs ++ ys) ≡ map (said_row e entries frames) xs ++ map (said_row e entries frames) ys
map_rows e entries frames [] ys = refl
map_rows e entries frames (x ∷ xs) ys = ap (λ l. said_row e entries frames x ∷ l) (map_rows e entries frames xs ys)

-- a row that is added to one agent's rows
pub row_added : (entries : List Entry) (frames : List Frame) (rows : List (List Note)) (index : ℕ) (row : Note) (e : EnvNo)
    → map (said_row e entries frames) (with_row rows index row e.0) ≡ rows_at entries frames rows e ++ (if index == e.0 then said_row e entries frames row ∷ [] else [])
row_added entries frames rows index row e =
    elim (cases_Bool (index == e.0)) [
      | inl yes' ↦ rw (yes') (map_rows e entries frames (slice_index_or rows e.0 []) (row ∷ []))
      | inr no' ↦ rw (no', append-nil) refl
    ]

row_at : (e : EnvNo) (entries : List Entry) (frames : List Frame) (l : List Note) (n : ℕ) (r : Note) → slice_get l n ≡ Some r → slice_get (map (said_row e entries frames) l) n ≡ Some (said_row e entries frames r)
row_at e entries frames [] n r h = cc
row_at e entries frames (x ∷ l) zero r h = grind (arith, h)
row_at e entries frames (x ∷ l) (suc n) r h = row_at e entries frames l n r h

row_get_from : (env : EnvNo) (entries : List Entry) (frames : List Frame) (rows : List (List Note)) (e n : ℕ) (l : List Note) (r : Note) → slice_get rows e ≡ Some l → slice_get l n ≡ Some r
    → slice_get (map (said_row env entries frames) (slice_index_or rows e [])) n ≡ Some (said_row env entries frames r)
row_get_from env entries frames [] e n l r h k = cc
row_get_from env entries frames (x ∷ rows) zero n l r h k = grind (arith, h, row_at env entries frames l n r k)
row_get_from env entries frames (x ∷ rows) (suc e) n l r h k = row_get_from env entries frames rows e n l r h k

-- a row that is there
pub row_get : (entries : List Entry) (frames : List Frame) (rows : List (List Note)) (e : EnvNo) (n : ℕ) (l : List Note) (r : Note) → slice_get rows e.0 ≡ Some l → slice_get l n ≡ Some r
    → slice_get (rows_at entries frames rows e) n ≡ Some (said_row e entries frames r)
row_get entries frames rows e n l r h k = row_get_from e entries frames rows e.0 n l r h k

said_long : (e : EnvNo) (entries : List Entry) (frames : List Frame) (rows : List Note) → length (map (said_row e entries frames) rows) ≡ length rows
said_long e entries frames [] = refl
said_long e entries frames (r ∷ rows) = ap suc (said_long e entries frames rows)

pub rows_long : (entries : List Entry) (frames : List Frame) (rows : List (List Note)) (e : EnvNo) → length (rows_at entries frames rows e) ≡ length (slice_index_or rows e.0 [])
rows_long entries frames rows e = said_long e entries frames (slice_index_or rows e.0 [])

-- known rows stay known where frames are added
pub still_known : (entries : List Entry) (frames new more : List Frame) (rows : List (List Note)) (e : EnvNo) (known : List Row)
    → ((more : List Frame) → rows_at entries (frames ++ more) rows e ≡ known) → rows_at entries ((frames ++ new) ++ more) rows e ≡ known
still_known entries frames new more rows e known h = ap (λ l. rows_at entries l rows e) (append_assoc frames new more) ∙ h (new ++ more)
