-- Beginnings of one list, and where classes and methods stand in it.
use Rattle.std.proofs.Common.{◌≡◌, ℕ, zero, suc, ◌+◌, ◌-◌, ◌<◌, ◌≤◌, List, [], ◌∷◌, ◌++◌, length, take, Some, slice_get, refl, ap, sym, ◌∙◌, arith, append_assoc, length-append, inr}
use native.Mathlib.Numerals.{unary_clauses}
use mathlib.Core.List.{IsPrefix}
use Rattle.ti_methods.specs.declared.info.ClassInfo.{ClassInfo}
use Rattle.ti_methods.specs.declared.info.MethodInfo.{MethodInfo}
use Rattle.ti_types.specs.declared.numbers.MethodNo.{MethodNo}
use Rattle.ti_methods.specs.declared.error.ClassError.TheVariants.{Busy}
use Rattle.ti_methods.specs.Classes.{AreAlike, RefusesMethod, count, count_from, first_of, methods_in}

-- each list begins with itself
pub prefix_self : {A : Type 0} (xs : List A) → IsPrefix xs xs
prefix_self [] = ([], refl)
prefix_self (x ∷ xs) = (let r = prefix_self xs in r.0, ap (λ ys. x ∷ ys) (prefix_self xs).1)

pub prefix_trans : {A : Type 0} (xs ys zs : List A) → IsPrefix xs ys → IsPrefix ys zs → IsPrefix xs zs
prefix_trans xs ys zs p q = (p.0 ++ q.0, sym (append_assoc xs p.0 q.0) ∙ (ap (λ w. w ++ q.0) p.1 ∙ q.1))

-- a beginning as long as the whole is the whole
pub prefix_whole : {A : Type 0} (xs ys : List A) → IsPrefix xs ys → length ys ≤ length xs → xs ≡ ys
prefix_whole [] [] p le = refl
prefix_whole [] (y ∷ ys) p le = absurd (omega arith)
prefix_whole (x ∷ xs) [] p le = absurd (cc (p.1))
prefix_whole (x ∷ xs) (y ∷ ys) p le =
    let rest = prefix_whole xs ys (p.0, cc (p.1)) (omega arith) in cc (p.1, rest)

pub prefix_length : {A : Type 0} (xs ys : List A) → IsPrefix xs ys → length xs ≤ length ys
prefix_length xs ys p = omega (arith, sym (ap length p.1) ∙ length-append xs p.0)

-- what stands in a beginning stands in the whole, at the same place
pub prefix_get : {A : Type 0} (xs ys : List A) (k : ℕ) (x : A) → IsPrefix xs ys → slice_get xs k ≡ Some x → slice_get ys k ≡ Some x
prefix_get [] ys k x p h = absurd cc
prefix_get (y ∷ xs) [] k x p h = absurd (cc (p.1))
prefix_get (y ∷ xs) (z ∷ ys) zero x p h = cc (p.1, h)
prefix_get (y ∷ xs) (z ∷ ys) (suc k) x p h = prefix_get xs ys k x (p.0, cc (p.1)) h

-- what stands at a place is in range
pub get_within : {A : Type 0} (xs : List A) (k : ℕ) (x : A) → slice_get xs k ≡ Some x → k < length xs
get_within [] k x h = absurd cc
get_within (y ∷ xs) zero x h = omega arith
get_within (y ∷ xs) (suc k) x h = let r = get_within xs k x h in omega arith

-- the last of a list that one was added to
pub get_last : {A : Type 0} (xs : List A) (x : A) → slice_get (xs ++ x ∷ []) (length xs) ≡ Some x
get_last [] x = refl
get_last (y ∷ xs) x = get_last xs x

pub take_whole : {A : Type 0} (xs ys : List A) → take (length xs) (xs ++ ys) ≡ xs
take_whole [] ys = refl
take_whole (x ∷ xs) ys = ap (λ r. x ∷ r) (take_whole xs ys)

-- below a class that stands in a beginning, the whole has the same classes
pub prefix_take : {A : Type 0} (xs ys : List A) (k : ℕ) → IsPrefix xs ys → k ≤ length xs → take k xs ≡ take k ys
prefix_take xs ys zero p le = refl
prefix_take [] ys (suc k) p le = absurd (omega arith)
prefix_take (x ∷ xs) [] (suc k) p le = absurd (cc (p.1))
prefix_take (x ∷ xs) (y ∷ ys) (suc k) p le =
    let rest = prefix_take xs ys k (p.0, cc (p.1)) (omega arith) in cc (p.1, rest)

pub get_behind : {A : Type 0} (xs ys : List A) (m : ℕ) → length xs ≤ m → slice_get (xs ++ ys) m ≡ slice_get ys (m - length xs)
get_behind [] ys m le = simp unary_clauses refl
get_behind (x ∷ xs) ys zero le = absurd (omega arith)
get_behind (x ∷ xs) ys (suc m) le =
    let there : m - length xs ≡ suc m - suc (length xs) = omega arith in
    get_behind xs ys m (omega arith) ∙ ap (λ i. slice_get ys i) there

pub get_before : {A : Type 0} (xs ys : List A) (m : ℕ) (x : A) → slice_get xs m ≡ Some x → slice_get (xs ++ ys) m ≡ Some x
get_before [] ys m x h = absurd cc
get_before (y ∷ xs) ys zero x h = h
get_before (y ∷ xs) ys (suc m) x h = get_before xs ys m x h

-- one more class brings its methods
pub methods_snoc : (log : List ClassInfo) (c : ClassInfo) → length (methods_in (log ++ c ∷ [])) ≡ length (methods_in log) + count c
methods_snoc [] c = omega (arith, length-append c.methods.items [])
methods_snoc (d ∷ log) c =
    let rest = methods_snoc log c in
    omega (arith, length-append d.methods.items (methods_in (log ++ c ∷ [])), length-append d.methods.items (methods_in log), rest)

-- a method of a class that stands in the list stands among all methods, behind those of the classes before it
pub method_found : (log : List ClassInfo) (k m : ℕ) (c : ClassInfo) (x : MethodInfo) → slice_get log k ≡ Some c → first_of log k ≤ m → slice_get c.methods.items (m - first_of log k) ≡ Some x → slice_get (methods_in log) m ≡ Some x
method_found [] k m c x at le h = absurd cc
method_found (d ∷ log) zero m c x at le h =
    let same : d ≡ c = cc at in
    let here : m - first_of (d ∷ log) 0 ≡ m = omega arith in
    get_before d.methods.items (methods_in log) m x (ap (λ (e : ClassInfo). slice_get e.methods.items m) same ∙ (sym (ap (λ i. slice_get c.methods.items i) here) ∙ h))
method_found (d ∷ log) (suc k) m c x at le h =
    let split : first_of (d ∷ log) (suc k) ≡ length d.methods.items + first_of log k = length-append d.methods.items (methods_in (take k log)) in
    let behind : length d.methods.items ≤ m = omega (arith, split, le) in
    let there : first_of log k ≤ m - length d.methods.items = omega (arith, split, le) in
    let moved : m - first_of (d ∷ log) (suc k) ≡ (m - length d.methods.items) - first_of log k = omega (arith, split, le) in
    get_behind d.methods.items (methods_in log) m behind ∙ method_found log k (m - length d.methods.items) c x at there (sym (ap (λ i. slice_get c.methods.items i) moved) ∙ h)

-- a longer list has no fewer methods
pub methods_grow : (xs ys : List ClassInfo) → IsPrefix xs ys → length (methods_in xs) ≤ length (methods_in ys)
methods_grow [] ys p = omega arith
methods_grow (x ∷ xs) [] p = absurd (cc (p.1))
methods_grow (x ∷ xs) (y ∷ ys) p =
    let same : x ≡ y = cc (p.1) in
    let rest = methods_grow xs ys (p.0, cc (p.1)) in
    omega (arith, length-append x.methods.items (methods_in xs), length-append y.methods.items (methods_in ys), ap count same, rest)

-- in a longer list the classes below one that was there, and so its first method, are the same
pub first_grows : (xs ys : List ClassInfo) (k : ℕ) → IsPrefix xs ys → k ≤ length xs → first_of xs k ≡ first_of ys k
first_grows xs ys k p le = ap (λ l. length (methods_in l)) (prefix_take xs ys k p le)

-- numbers, and one more
pub count_from_more : (first n : ℕ) → count_from first (n + 1) ≡ count_from first n ++ (first + n) ∷ []
count_from_more first zero = ap (λ (k : ℕ). k ∷ []) (omega arith)
count_from_more first (suc n) =
    let one_more : suc n + 1 ≡ suc (n + 1) = omega arith in
    let last : suc first + n ≡ first + suc n = omega arith in
    ap (count_from first) one_more ∙ ap (λ l. first ∷ l) (count_from_more (suc first) n ∙ ap (λ (k : ℕ). count_from (suc first) n ++ k ∷ []) last)

-- a method that was there is still there, if its class is not found yet
pub busy_still : (xs ys : List ClassInfo) (m : MethodNo) → IsPrefix xs ys → m.0 < length (methods_in xs) → RefusesMethod ys m Busy
busy_still xs ys m p h = inr (refl, omega (arith, methods_grow xs ys p))

-- a longer list has the same methods first
pub methods_prefix : (xs ys : List ClassInfo) → IsPrefix xs ys → IsPrefix (methods_in xs) (methods_in ys)
methods_prefix [] ys p = (methods_in ys, refl)
methods_prefix (x ∷ xs) [] p = absurd (cc (p.1))
methods_prefix (x ∷ xs) (y ∷ ys) p =
    let class : x ≡ y = cc (p.1) in
    let first : List MethodInfo = x.methods.items in
    let same : first ≡ y.methods.items = ap (λ (c : ClassInfo). c.methods.items) class in
    let rest : IsPrefix (methods_in xs) (methods_in ys) = methods_prefix xs ys (p.0, cc (p.1)) in
    let joined : (first ++ methods_in xs) ++ rest.0 ≡ first ++ methods_in ys = append_assoc first (methods_in xs) rest.0 ∙ ap (λ l. first ++ l) rest.1 in
    (rest.0, joined ∙ ap (λ l. l ++ methods_in ys) same)

-- two beginnings of one list have the same under each number
pub one_under : {A : Type 0} (xs ys all : List A) (k : ℕ) (x y : A) → IsPrefix xs all → IsPrefix ys all → slice_get xs k ≡ Some x → slice_get ys k ≡ Some y → x ≡ y
one_under xs ys all k x y p q h i = let e : Some x ≡ Some y = sym (prefix_get xs all k x p h) ∙ prefix_get ys all k y q i in cc e

pub alike : (xs ys all : List ClassInfo) → IsPrefix xs all → IsPrefix ys all → AreAlike xs ys
alike xs ys all p q = record {
  classes = λ class x y h i. one_under xs ys all class.0 x y p q h i;
  methods = λ method x y h i. one_under (methods_in xs) (methods_in ys) (methods_in all) method.0 x y (methods_prefix xs all p) (methods_prefix ys all q) h i;
}
