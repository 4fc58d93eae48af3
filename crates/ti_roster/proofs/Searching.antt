-- Rows that a binary search finds.
use Rattle.std.proofs.Common.{◌≡◌, ◌≢◌, ℕ, ◌+◌, ◌<◌, ◌≤◌, inl, inr, false, List, length, Option, Some, sym, ap, ◌∙◌, arith}
use Rattle.std.specs.Prelude.{slice_get, slice_index_or}
use Rattle.std.specs.List.{list_any}
use Rattle.std.proofs.lemmas.Bool.{cases_eq, cases_lt}
use Rattle.ti_types.specs.declared.limits.Limits.{Limits}
use Rattle.ti_types.specs.declared.numbers.ThreadNo.{ThreadNo}
use Rattle.ti_roster.specs.declared.coming.Coming.{Coming}
use Rattle.ti_roster.specs.declared.newcomer.Newcomer.{Newcomer}
use Rattle.ti_roster.specs.declared.row.Row.{Row}
use Rattle.ti_roster.specs.Log.{Log, came, is_live, is_thread, live, threads_in}
use Rattle.ti_roster.specs.Roster.{IsListed}
use Rattle.ti_roster.specs.Stages.{stage_of}
use Rattle.ti_roster.specs.Rows.{AreRows, IsIndex}
use Rattle.ti_roster.proofs.Places.{get_map, get_there, get_within, is_same, read_at}
use Rattle.ti_roster.proofs.Rows.{none_live, rising_less, rows_count}

-- a row is that of the thread at its index
pub live_at : (log : List Coming) (limits : Limits) (rows : List Row) (marks : List (Option ℕ)) (i : ℕ) (r : Row) → AreRows log limits rows marks → slice_get rows i ≡ Some r → slice_get (live log) i ≡ Some r.newcomer
live_at log limits rows marks i r k at = ap (λ (l : List Newcomer). slice_get l i) (sym k.live_are) ∙ get_map (λ (x : Row). x.newcomer) rows i r at

-- and each thread has its row
pub row_at : (log : List Coming) (limits : Limits) (rows : List Row) (marks : List (Option ℕ)) (i : ℕ) (n : Newcomer) → AreRows log limits rows marks → slice_get (live log) i ≡ Some n → (r : Row) × (slice_get rows i ≡ Some r) × (r.newcomer ≡ n)
row_at log limits rows marks i n k at =
    let within : i < length rows = omega (arith, get_within (live log) i n at, rows_count rows (live log) k.live_are) in
    let r = get_there rows i within in (r.0, r.1, is_same r.0.newcomer n (sym (live_at log limits rows marks i r.0 k r.1) ∙ at))

-- a row that comes before another has a lower number
pub row_less : (log : List Coming) (limits : Limits) (rows : List Row) (marks : List (Option ℕ)) (i j : ℕ) (r q : Row) → AreRows log limits rows marks → slice_get rows i ≡ Some r → slice_get rows j ≡ Some q → i < j
    → r.newcomer.thread.0 < q.newcomer.thread.0
row_less log limits rows marks i j r q k a b h =
    rising_less 0 (live log) (threads_in log) i j r.newcomer q.newcomer k.rising (live_at log limits rows marks i r k a) (live_at log limits rows marks j q k b) h

-- the rows up to the one in the middle have lower numbers
pub up_to : (log : List Coming) (limits : Limits) (rows : List Row) (marks : List (Option ℕ)) (m number : ℕ) (d : Row) → AreRows log limits rows marks → slice_get rows m ≡ Some d → d.newcomer.thread.0 < number
    → (j : ℕ) (r : Row) → j < m + 1 → slice_get rows j ≡ Some r → r.newcomer.thread.0 < number
up_to log limits rows marks m number d k at less j r h a =
    elim (cases_eq j m) [
      | inl same ↦
          let is : r ≡ d = is_same r d (sym a ∙ (ap (slice_get rows) same ∙ at)) in
          omega (arith, less, ap (λ (x : Row). x.newcomer.thread.0) is)
      | inr other ↦ let z = row_less log limits rows marks j m r d k a at (omega (arith, h, other)) in omega (arith, z, less)
    ]

-- or those from it on have not
pub from_here : (log : List Coming) (limits : Limits) (rows : List Row) (marks : List (Option ℕ)) (m number : ℕ) (d : Row) → AreRows log limits rows marks → slice_get rows m ≡ Some d → number ≤ d.newcomer.thread.0
    → (j : ℕ) (r : Row) → m ≤ j → slice_get rows j ≡ Some r → number ≤ r.newcomer.thread.0
from_here log limits rows marks m number d k at more j r h a =
    elim (cases_eq j m) [
      | inl same ↦
          let is : r ≡ d = is_same r d (sym a ∙ (ap (slice_get rows) same ∙ at)) in
          omega (arith, more, ap (λ (x : Row). x.newcomer.thread.0) is)
      | inr other ↦ let z = row_less log limits rows marks m j d r k at a (omega (arith, h, other)) in omega (arith, z, more)
    ]

-- no thread of a number is there, if it is not between those below it and the others
pub not_live : (log : List Coming) (limits : Limits) (rows : List Row) (marks : List (Option ℕ)) (t : ThreadNo) (i : ℕ) → AreRows log limits rows marks → ((j : ℕ) (n : Newcomer) → j < i → slice_get (live log) j ≡ Some n → n.thread.0 < t.0)
    → ((j : ℕ) (n : Newcomer) → i ≤ j → slice_get (live log) j ≡ Some n → t.0 ≤ n.thread.0) → ((r : Row) → slice_get rows i ≡ Some r → r.newcomer.thread.0 ≢ t.0) → is_live t log ≡ false
not_live log limits rows marks t i k below from here =
    ap (λ (l : List Newcomer). list_any (is_thread t) l) (sym k.live_are) ∙ none_live rows t (λ j r at same. other j r at same)
  where
    other : (j : ℕ) (r : Row) → slice_get rows j ≡ Some r → r.newcomer.thread.0 ≡ t.0 → ⊥
    other j r at same =
        elim (cases_lt j i) [
          | inl less ↦ (let z = below j r.newcomer less (live_at log limits rows marks j r k at) in omega (arith, z, same))
          | inr more ↦
              elim (cases_eq j i) [
                | inl is ↦ here r (ap (slice_get rows) (sym is) ∙ at) same
                | inr over ↦
                    let q = get_there rows i (omega (arith, more, get_within rows j r at)) in
                    let z = row_less log limits rows marks i j q.0 r k q.1 at (omega (arith, more, over)) in
                    let y = from i q.0.newcomer (omega arith) (live_at log limits rows marks i q.0 k q.1) in
                    omega (arith, z, y, same)
              ]
        ]

-- the row that is read at the index of a thread, and whose it is
pub row_of : (log : List Coming) (limits : Limits) (rows : List Row) (marks : List (Option ℕ)) (t : ThreadNo) (i : ℕ) (r : Row) → AreRows log limits rows marks → IsIndex (live log) t i → r ≡ slice_index_or rows i r → slice_get rows i ≡ Some r
row_of log limits rows marks t i r k at read =
    read_at rows i r (omega (arith, get_within (live log) i at.one at.at, rows_count rows (live log) k.live_are)) read

pub row_number : (log : List Coming) (limits : Limits) (rows : List Row) (marks : List (Option ℕ)) (t : ThreadNo) (i : ℕ) (r : Row) → AreRows log limits rows marks → IsIndex (live log) t i → slice_get rows i ≡ Some r → r.newcomer.thread.0 ≡ t.0
row_number log limits rows marks t i r k at here =
    ap (λ (n : Newcomer). n.thread.0) (is_same r.newcomer at.one (sym (live_at log limits rows marks i r k here) ∙ at.at)) ∙ at.is

-- and how far the thread has come
pub row_stage : (log : List Coming) (limits : Limits) (rows : List Row) (marks : List (Option ℕ)) (t : ThreadNo) (i : ℕ) (r : Row) → AreRows log limits rows marks → IsIndex (live log) t i → r ≡ slice_index_or rows i r → r.stage ≡ stage_of t log
row_stage log limits rows marks t i r k at read =
    let here : slice_get rows i ≡ Some r = row_of log limits rows marks t i r k at read in
    let who : r.newcomer.thread ≡ t = ap (λ (n : ℕ). record { 0 = n }) (row_number log limits rows marks t i r k at here) in
    (k.each i r here).stage ∙ ap (λ (u : ThreadNo). stage_of u log) who

-- the thread of an index came under its number, and is there
pub index_listed : (r : Log) (rows : List Row) (marks : List (Option ℕ)) (t : ThreadNo) (i : ℕ) → AreRows r.items r.limits rows marks → IsIndex (live r.items) t i → IsListed r t
index_listed r rows marks t i k at = record {
  who = at.one;
  index = i;
  at = at.at;
  came_as = ap (λ (n : ℕ). slice_get (came r.items) n) (sym at.is) ∙ k.listed i at.one at.at;
}
