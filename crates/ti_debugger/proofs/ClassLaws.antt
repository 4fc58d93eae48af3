-- The classes that are listed, in the order of their numbers.
use Rattle.std.proofs.Common.{◌≡◌, ◌+◌, ◌<◌, ◌≤◌, ℕ, zero, suc, List, [], ◌∷◌, ◌++◌, Result, Ok, Err, Vec, Global, length, map, take, get_or, slice_get, refl, sym, ap, subst, ◌∙◌, append_assoc, arith}
use Rattle.std.specs.Prelude.{IfOk, IsSomeAnd, string_bytes}
use Rattle.std.specs.List.{flat_map}
use Rattle.std.proofs.lemmas.List.{map-append, take_all}
use Rattle.std.proofs.Math.Numerals.{add-one}
use mathlib.Core.List.{IsPrefix}
use Rattle.ti_jdwp.specs.Bodies.{class_row, list}
use Rattle.ti_jdwp.specs.declared.lists.ClassRow.{ClassRow}
use Rattle.ti_jdwp.specs.declared.error.JdwpError.{JdwpError}
use Rattle.ti_methods.specs.Classes.{IsSignature, count_from}
use Rattle.ti_methods.specs.declared.info.ClassInfo.{ClassInfo}
use Rattle.ti_methods.specs.declared.info.ClassNo.{ClassNo}
use Rattle.ti_debugger.specs.declared.class_answers.Known.{Known}
use Rattle.ti_debugger.specs.Replies.{class_item, known_class, numbered}

abbrev pub row_class : ClassRow → ℕ × List ℕ
row_class r = (r.class, r.signature.now)

items : (rows : List ClassRow) → flat_map class_row rows ≡ flat_map class_item (map row_class rows)
items [] = refl
items (r ∷ rows) = ap (λ (rest : List ℕ). class_row r ++ rest) (items rows)

count_rows : (rows : List ClassRow) → length rows ≡ length (map row_class rows)
count_rows [] = refl
count_rows (r ∷ rows) = ap suc (count_rows rows)

pub prefix_on : (a b c : List ClassInfo) → IsPrefix a b → IsPrefix b c → IsPrefix a c
prefix_on a b c p q = (p.0 ++ q.0, sym (append_assoc a p.0 q.0) ∙ (ap (λ (l : List ClassInfo). l ++ q.0) p.1 ∙ q.1))

-- rows are told as what they have
pub rows_told : (rows : List ClassRow) → list class_row rows ≡ list class_item (map row_class rows)
rows_told rows = cc (items rows, count_rows rows)

pub body_told : (r : Result (Vec ℕ Global) JdwpError) (rows : List ClassRow) (known : List (ℕ × List ℕ)) → IfOk r (λ v. v.items ≡ list class_row rows) → map row_class rows ≡ known
    → IfOk r (λ v. v.items ≡ list class_item known)
body_told (Ok v) rows known told are = told ∙ (rows_told rows ∙ ap (list class_item) are)
body_told (Err e) rows known told are = tt

-- the classes that are listed have the numbers from n on
number_at : (classes : List ClassNo) (n count i : ℕ) (d : ClassNo) → map (λ (x : ClassNo). x.0) classes ≡ count_from n count → i < length classes → ((get_or classes i d).0 ≡ n + i) × (i < count)
number_at [] n count i d are within = absurd (omega arith)
number_at (x ∷ classes) n zero i d are within = absurd (cc are)
number_at (x ∷ classes) n (suc count) zero d are within = let first : x.0 ≡ n = cc are in (omega (arith, first), omega arith)
number_at (x ∷ classes) n (suc count) (suc i) d are within =
    let rest = number_at classes (suc n) count i d (cc are) (omega arith) in
    (omega (arith, rest.0), omega (arith, rest.1))

as_many : (classes : List ClassNo) (n count : ℕ) → map (λ (x : ClassNo). x.0) classes ≡ count_from n count → count ≤ length classes
as_many classes n zero are = omega arith
as_many [] n (suc count) are = absurd (cc are)
as_many (x ∷ classes) n (suc count) are = let rest = as_many classes (suc n) count (cc are) in omega (arith, rest)

-- one more of them
more : (log whole : List ClassInfo) (n i : ℕ) (signature : List ℕ) → i < length log → IsPrefix log whole → IsSomeAnd (slice_get whole i) (λ (info : ClassInfo). signature ≡ string_bytes info.signature)
    → take (suc i) (numbered n log) ≡ take i (numbered n log) ++ (n + i, signature) ∷ []
more [] whole n i signature within pre is = absurd (omega arith)
more (x ∷ log) [] n i signature within pre is = absurd (cc (pre.1))
more (x ∷ log) (y ∷ whole) n zero signature within pre is =
    let same : x ≡ y = cc (pre.1) in
    let told : signature ≡ string_bytes x.signature = is ∙ ap (λ (info : ClassInfo). string_bytes info.signature) (sym same) in
    let number : n ≡ n + 0 = omega arith in
    ◌∙◌ {b = (n, signature) ∷ []} (ap (λ (s : List ℕ). (n, s) ∷ []) (sym told)) (ap (λ (k : ℕ). (k, signature) ∷ []) number)
more (x ∷ log) (y ∷ whole) n (suc i) signature within pre is =
    let rest = more log whole (suc n) i signature (omega arith) (pre.0, cc (pre.1)) is in
    let number : suc n + i ≡ n + suc i = omega arith in
    ap (λ (told : List (ℕ × List ℕ)). (n, string_bytes x.signature) ∷ told) (rest ∙ ap (λ (k : ℕ). take i (numbered (suc n) log) ++ (k, signature) ∷ []) number)

listed_more : (log whole : List ClassInfo) (classes : List ClassNo) (i : ℕ) (d : ClassNo) (signature : List ℕ) → map (λ (x : ClassNo). x.0) classes ≡ count_from 0 (length log)
    → i < length classes → IsPrefix log whole → IsSignature whole (get_or classes i d) signature
    → take (i + 1) (numbered 0 log) ≡ take i (numbered 0 log) ++ ((get_or classes i d).0, signature) ∷ []
listed_more log whole classes i d signature are within pre has =
    let at = number_at classes 0 (length log) i d are within in
    let there : (get_or classes i d).0 ≡ i = omega (arith, at.0) in
    let told = subst (λ (k : ℕ). IsSomeAnd (slice_get whole k) (λ (info : ClassInfo). signature ≡ string_bytes info.signature)) there has in
    let number : 0 + i ≡ (get_or classes i d).0 = omega (arith, there) in
    ap (λ (k : ℕ). take k (numbered 0 log)) (add-one i)
    ∙ (more log whole 0 i signature at.1 pre told ∙ ap (λ (k : ℕ). take i (numbered 0 log) ++ (k, signature) ∷ []) number)

-- what is known of them goes on by the next one
pub known_more : (log whole : List ClassInfo) (classes items : List ClassNo) (i : ℕ) (d : ClassNo) (old mid new : List Known) (k : Known) → items ≡ classes
    → map (λ (x : ClassNo). x.0) classes ≡ count_from 0 (length log) → i < length items → IsPrefix log whole → IsSignature whole (get_or items i d) (string_bytes k.signature)
    → k.class ≡ (get_or items i d).0 → new ≡ mid ++ k ∷ [] → mid ≡ old → map known_class old ≡ take i (numbered 0 log) → map known_class new ≡ take (i + 1) (numbered 0 log)
known_more log whole classes items i d old mid new k same are within pre has number added kept told =
    let there = subst (λ (l : List ClassNo). map (λ (x : ClassNo). x.0) l ≡ count_from 0 (length log)) (sym same) are in
    let one = listed_more log whole items i d (string_bytes k.signature) there within pre has in
    let front : map known_class mid ≡ take i (numbered 0 log) = ap (map known_class) kept ∙ told in
    ap (map known_class) added ∙ (map-append known_class mid (k ∷ [])
    ∙ (ap (λ (l : List (ℕ × List ℕ)). l ++ (k.class, string_bytes k.signature) ∷ []) front
    ∙ (ap (λ (n : ℕ). take i (numbered 0 log) ++ (n, string_bytes k.signature) ∷ []) number ∙ sym one)))

count_numbered : (n : ℕ) (log : List ClassInfo) → length (numbered n log) ≡ length log
count_numbered n [] = refl
count_numbered n (x ∷ log) = ap suc (count_numbered (suc n) log)

-- all of them
pub listed_all : (log : List ClassInfo) (classes items : List ClassNo) (i : ℕ) (told : List (ℕ × List ℕ)) → items ≡ classes → map (λ (x : ClassNo). x.0) classes ≡ count_from 0 (length log)
    → length items ≤ i → told ≡ take i (numbered 0 log) → told ≡ numbered 0 log
listed_all log classes items i told same are over is =
    let many = as_many classes 0 (length log) are in
    let as_long : length items ≡ length classes = ap length same in
    is ∙ take_all i (numbered 0 log) (omega (arith, count_numbered 0 log, many, as_long))
