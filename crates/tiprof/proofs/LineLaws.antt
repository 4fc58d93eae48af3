-- The names of a stack's methods, one by one.
use Rattle.std.proofs.Common.{ℕ, zero, suc, ◌≡◌, ◌<◌, ◌≤◌, ◌∙◌, List, [], ◌∷◌, ◌++◌, length, take, ap, sym, arith, append-nil, append_assoc}
use Rattle.std.specs.Prelude.{codes, slice_index_or}
use Rattle.ti_types.specs.declared.numbers.MethodNo.{MethodNo}
use Rattle.tiprof.specs.Lines.{name_of, names_of}

abbrev piece : MethodNo → List ℕ
piece m = codes ";" ++ name_of m.0

-- one method more, which is older than these
names_more : (ms : List MethodNo) (k : ℕ) (d : MethodNo) → k < length ms → names_of (take (suc k) ms) ≡ piece (slice_index_or ms k d) ++ names_of (take k ms)
names_more [] k d h = absurd (omega (arith, h))
names_more (x ∷ ms) zero d h = sym (append-nil (piece x))
names_more (x ∷ ms) (suc k) d h =
    ap (λ (l : List ℕ). l ++ piece x) (names_more ms k d (omega (arith, h))) ∙ append_assoc (piece (slice_index_or ms k d)) (names_of (take k ms)) (piece x)

-- so the line goes on with it
pub goes_on : (ms : List MethodNo) (root line behind now name : List ℕ) (left k : ℕ) (d : MethodNo) → left ≡ suc k → left ≤ length ms → line ++ names_of (take left ms) ≡ root ++ names_of ms → behind ≡ line ++ codes ";" → now ≡ behind ++ name
    → name ≡ name_of (slice_index_or ms k d).0 → now ++ names_of (take k ms) ≡ root ++ names_of ms
goes_on ms root line behind now name left k d more within so_far semicolon named is =
    let rest : List ℕ = names_of (take k ms) in
    let m : MethodNo = slice_index_or ms k d in
    let all : now ≡ line ++ piece m = named ∙ ((λ i. semicolon i ++ is i) ∙ append_assoc line (codes ";") (name_of m.0)) in
    let one : names_of (take left ms) ≡ piece m ++ rest = ap (λ (n : ℕ). names_of (take n ms)) more ∙ names_more ms k d (omega (arith, within, more)) in
    ap (λ (l : List ℕ). l ++ rest) all ∙ (append_assoc line (piece m) rest ∙ (ap (λ (l : List ℕ). line ++ l) (sym one) ∙ so_far))
