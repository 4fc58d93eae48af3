-- Threads and agents, one after another.
use Rattle.std.proofs.Common.{◌≡◌, ℕ, zero, suc, ◌+◌, ◌<◌, List, [], ◌∷◌, ◌++◌, length, get_or, refl, ap, sym, subst, arith, Some, slice_get, inl, inr}
use Rattle.std.proofs.lemmas.Bool.{cases_eq}
use Rattle.std.proofs.lemmas.Option.{slice_get_read, get_or_from_slice_get}
use Rattle.ti_types.specs.declared.limits.Limits.{Limits}
use Rattle.ti_types.specs.declared.numbers.ThreadNo.{ThreadNo}
use Rattle.ti_types.specs.declared.numbers.EnvNo.{EnvNo}
use Rattle.ti_types.specs.declared.entry.Entry.{Entry}
use Rattle.ti_report.specs.declared.book.Book.{Book}
use Rattle.ti_report.specs.Books.{IsBook}
use Rattle.ti_report.specs.Told.{history_at}

-- what is found at a place is there whatever stands for nothing
pub at_place : {X : Type 0} (xs : List X) (i : ℕ) (x d : X) → i < length xs → x ≡ get_or xs i x → get_or xs i d ≡ x
at_place xs i x d h is = get_or_from_slice_get xs i x d (slice_get_read xs (length xs) i x refl h is)

get_before : {X : Type 0} (xs ys : List X) (k : ℕ) (x : X) → slice_get xs k ≡ Some x → slice_get (xs ++ ys) k ≡ Some x
get_before [] ys k x h = cc
get_before (y ∷ xs) ys zero x h = h
get_before (y ∷ xs) ys (suc k) x h = get_before xs ys k x h

get_last : {X : Type 0} (xs : List X) (k : ℕ) (x : X) → length xs ≡ k → slice_get (xs ++ x ∷ []) k ≡ Some x
get_last [] zero x h = refl
get_last [] (suc k) x h = absurd (omega (arith, h))
get_last (y ∷ xs) zero x h = absurd (omega (arith, h))
get_last (y ∷ xs) (suc k) x h = get_last xs k x (omega (arith, h))

-- one more thread
pub all_more : (P : ThreadNo → Type 0) (i : ℕ) → ((t : ThreadNo) → t.0 < i → P t) → P (record { 0 = i }) → (t : ThreadNo) → t.0 < i + 1 → P t
all_more P i h p t l =
    elim (cases_eq t.0 i) [
      | inl same ↦ let z : t ≡ record { 0 = i } = ap (λ (n : ℕ). record { 0 = n }) same in subst P (sym z) p
      | inr other ↦ h t (omega (arith, l, other))
    ]

-- one more agent
pub all_agents : (P : EnvNo → Type 0) (i : ℕ) → ((e : EnvNo) → e.0 < i → P e) → P (record { 0 = i }) → (e : EnvNo) → e.0 < i + 1 → P e
all_agents P i h p e l =
    elim (cases_eq e.0 i) [
      | inl same ↦ let z : e ≡ record { 0 = i } = ap (λ (n : ℕ). record { 0 = n }) same in subst P (sym z) p
      | inr other ↦ h e (omega (arith, l, other))
    ]

-- one more book
pub books_more : (limits : Limits) (histories : List (List Entry)) (books : List Book) (b : Book) (i : ℕ) → length books ≡ i
    → ((t : ThreadNo) → t.0 < i → (b : Book) × (slice_get books t.0 ≡ Some b) × IsBook limits (history_at histories t) b)
    → IsBook limits (history_at histories (record { 0 = i })) b
    → (t : ThreadNo) → t.0 < i + 1 → (b' : Book) × (slice_get (books ++ b ∷ []) t.0 ≡ Some b') × IsBook limits (history_at histories t) b'
books_more limits histories books b i long h p =
    all_more (λ t. (b' : Book) × (slice_get (books ++ b ∷ []) t.0 ≡ Some b') × IsBook limits (history_at histories t) b') i
    (λ t l. let k = h t l in (k.0, get_before books (b ∷ []) t.0 k.0 k.1, k.2)) (b, get_last books i b long, p)
