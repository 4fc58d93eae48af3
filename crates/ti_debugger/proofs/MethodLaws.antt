-- The methods of a class that are told, in the order of their numbers.
use Rattle.std.proofs.Common.{◌≡◌, ◌+◌, ◌-◌, ◌<◌, ◌≤◌, ℕ, Bool, zero, suc, List, [], ◌∷◌, ◌++◌, Option, Some, None, Result, Ok, Err, Vec, Global, length, map, take, get_or, slice_get, refl, sym, ap, subst, ◌∙◌, arith}
use Rattle.std.specs.Prelude.{IfOk, IsSomeAnd, string_bytes}
use Rattle.std.specs.List.{flat_map}
use Rattle.std.proofs.lemmas.List.{map-append, take_all}
use Rattle.std.proofs.Math.Numerals.{add-one}
use mathlib.Core.List.{IsPrefix}
use Rattle.ti_types.specs.declared.numbers.MethodNo.{MethodNo}
use Rattle.ti_jdwp.specs.Bodies.{list, method_row}
use Rattle.ti_jdwp.specs.declared.lists.MethodRow.{MethodRow}
use Rattle.ti_jdwp.specs.declared.error.JdwpError.{JdwpError}
use Rattle.ti_methods.specs.Classes.{AreMethodsOf, IsNameOf, IsSameName, class_at, count, count_from, first_of, method_at, methods_in}
use Rattle.ti_methods.specs.declared.info.ClassInfo.{ClassInfo}
use Rattle.ti_methods.specs.declared.info.MethodInfo.{MethodInfo}
use Rattle.ti_methods.specs.declared.info.MethodName.{MethodName}
use Rattle.ti_methods.proofs.Lists.{first_grows, get_within, method_found, methods_prefix, prefix_get}
use Rattle.ti_debugger.specs.declared.method_answers.Known.{Known}
use Rattle.ti_debugger.specs.MethodReplies.{IsKnown, MethodTold, any_signature, known_method, method_item, told_from, told_of}

-- what is told of a method by its name and by whether it is native, one after the other
both : (o : Option MethodInfo) (a b : List ClassInfo) (method : MethodNo) (n : MethodName) (native : Bool) (told : MethodTold) → method_at a method ≡ o → IsPrefix a b
    → IsSomeAnd o (λ m. IsSameName n m) → IsSomeAnd (method_at b method) (λ m. native ≡ m.is_native)
    → told ≡ record { number = method.0; name = string_bytes n.name; signature = any_signature; native = native } → IsKnown b method told
both None a b method n native told at pre name is was = absurd name
both (Some m) a b method n native told at pre name is was =
    let found : method_at b method ≡ Some m = prefix_get (methods_in a) (methods_in b) method.0 m (methods_prefix a b pre) at in
    let here : native ≡ m.is_native = subst (λ (o : Option MethodInfo). IsSomeAnd o (λ (i : MethodInfo). native ≡ i.is_native)) found is in
    let called : string_bytes n.name ≡ string_bytes m.name = name.name in
    let same : told ≡ told_of method.0 m = cc (was, called, here) in
    subst (λ (o : Option MethodInfo). IsSomeAnd o (λ (i : MethodInfo). told ≡ told_of method.0 i)) (sym found) same

pub known_is : (a b : List ClassInfo) (method : MethodNo) (n : MethodName) (native : Bool) (told : MethodTold) → IsPrefix a b → IsNameOf a method n
    → IsSomeAnd (method_at b method) (λ m. native ≡ m.is_native) → told ≡ record { number = method.0; name = string_bytes n.name; signature = any_signature; native = native }
    → IsKnown b method told
known_is a b method n native told pre name is was = both (method_at a method) a b method n native told refl pre name is was

-- rows are told as what they have
abbrev pub row_method : MethodRow → MethodTold
row_method r = record { number = r.method; name = r.name.now; signature = r.signature.now; native = r.native }

items : (rows : List MethodRow) → flat_map method_row rows ≡ flat_map method_item (map row_method rows)
items [] = refl
items (r ∷ rows) = ap (λ (rest : List ℕ). method_row r ++ rest) (items rows)

count_rows : (rows : List MethodRow) → length rows ≡ length (map row_method rows)
count_rows [] = refl
count_rows (r ∷ rows) = ap suc (count_rows rows)

rows_told : (rows : List MethodRow) → list method_row rows ≡ list method_item (map row_method rows)
rows_told rows = cc (items rows, count_rows rows)

pub body_told : (r : Result (Vec ℕ Global) JdwpError) (rows : List MethodRow) (known : List MethodTold) → IfOk r (λ v. v.items ≡ list method_row rows) → map row_method rows ≡ known
    → IfOk r (λ v. v.items ≡ list method_item known)
body_told (Ok v) rows known told are = told ∙ (rows_told rows ∙ ap (list method_item) are)
body_told (Err e) rows known told are = tt

-- what is known of the methods of a class up to a place
abbrev pub KnownUpTo : List ClassInfo → ℕ → ℕ → List Known → Type 0
KnownUpTo log class i known = IsSomeAnd (class_at log (record { 0 = class })) (λ c. map known_method known ≡ take i (told_from (first_of log class) c.methods.items))

number_at : (methods : List MethodNo) (n count i : ℕ) (d : MethodNo) → map (λ (m : MethodNo). m.0) methods ≡ count_from n count → i < length methods → ((get_or methods i d).0 ≡ n + i) × (i < count)
number_at [] n count i d are within = absurd (omega arith)
number_at (m ∷ methods) n zero i d are within = absurd (cc are)
number_at (m ∷ methods) n (suc count) zero d are within = let first : m.0 ≡ n = cc are in (omega (arith, first), omega arith)
number_at (m ∷ methods) n (suc count) (suc i) d are within =
    let rest = number_at methods (suc n) count i d (cc are) (omega arith) in
    (omega (arith, rest.0), omega (arith, rest.1))

as_many : (methods : List MethodNo) (n count : ℕ) → map (λ (m : MethodNo). m.0) methods ≡ count_from n count → count ≤ length methods
as_many methods n zero are = omega arith
as_many [] n (suc count) are = absurd (cc are)
as_many (m ∷ methods) n (suc count) are = let rest = as_many methods (suc n) count (cc are) in omega (arith, rest)

-- one more of them
more : (methods : List MethodInfo) (n i : ℕ) (m : MethodInfo) → slice_get methods i ≡ Some m → take (suc i) (told_from n methods) ≡ take i (told_from n methods) ++ told_of (n + i) m ∷ []
more [] n i m at = absurd (cc at)
more (x ∷ methods) n zero m at =
    let same : x ≡ m = cc at in
    let number : n ≡ n + 0 = omega arith in
    ap (λ (y : MethodInfo). told_of n y ∷ []) same ∙ ap (λ (k : ℕ). told_of k m ∷ []) number
more (x ∷ methods) n (suc i) m at =
    let rest = more methods (suc n) i m at in
    let number : suc n + i ≡ n + suc i = omega arith in
    ap (λ (told : List MethodTold). told_of n x ∷ told) (rest ∙ ap (λ (k : ℕ). take i (told_from (suc n) methods) ++ told_of k m ∷ []) number)

some_at : (methods : List MethodInfo) (i : ℕ) → i < length methods → (m : MethodInfo) × (slice_get methods i ≡ Some m)
some_at [] i within = absurd (omega arith)
some_at (x ∷ methods) zero within = (x, refl)
some_at (x ∷ methods) (suc i) within = some_at methods i (omega arith)

behind_first : (f i : ℕ) → (f + i) - f ≡ i
behind_first f i = omega arith

step : (log whole : List ClassInfo) (class : ℕ) (c : ClassInfo) (methods : List MethodNo) (i : ℕ) (d : MethodNo) (k : Known) (known : List Known) → class_at log (record { 0 = class }) ≡ Some c
    → IsPrefix log whole → map (λ (m : MethodNo). m.0) methods ≡ count_from (first_of log class) (count c) → i < length methods → IsKnown whole (get_or methods i d) (known_method k)
    → map known_method known ≡ take i (told_from (first_of log class) c.methods.items)
    → map known_method (known ++ k ∷ []) ≡ take (suc i) (told_from (first_of log class) c.methods.items)
step log whole class c methods i d k known at pre are within is told =
    let f = first_of log class in
    let place = number_at methods f (count c) i d are within in
    let one = some_at c.methods.items i place.1 in
    let there = prefix_get log whole class c pre at in
    let firsts : f ≡ first_of whole class = first_grows log whole class pre (omega (arith, get_within log class c at)) in
    let number : (get_or methods i d).0 ≡ first_of whole class + i = place.0 ∙ ap (λ (n : ℕ). n + i) firsts in
    let inside : slice_get c.methods.items ((first_of whole class + i) - first_of whole class) ≡ Some one.0 = ap (slice_get c.methods.items) (behind_first (first_of whole class) i) ∙ one.1 in
    let found = method_found whole class (first_of whole class + i) c one.0 there (omega arith) inside in
    let at_it : method_at whole (get_or methods i d) ≡ Some one.0 = ap (slice_get (methods_in whole)) number ∙ found in
    let is_it : known_method k ≡ told_of (get_or methods i d).0 one.0 =
    subst (λ (o : Option MethodInfo). IsSomeAnd o (λ (m : MethodInfo). known_method k ≡ told_of (get_or methods i d).0 m)) at_it is in
    let same : known_method k ≡ told_of (f + i) one.0 = is_it ∙ ap (λ (n : ℕ). told_of n one.0) place.0 in
    map-append known_method known (k ∷ [])
    ∙ (ap (λ (l : List MethodTold). l ++ known_method k ∷ []) told
    ∙ (ap (λ (t : MethodTold). take i (told_from f c.methods.items) ++ t ∷ []) same ∙ sym (more c.methods.items f i one.0 one.1)))

-- what is known goes on by the next method
pub known_more : (log whole : List ClassInfo) (class : ℕ) (methods items : List MethodNo) (i : ℕ) (d : MethodNo) (old mid new : List Known) (k : Known) → items ≡ methods
    → AreMethodsOf log (record { 0 = class }) methods → i < length items → IsPrefix log whole → IsKnown whole (get_or items i d) (known_method k) → new ≡ mid ++ k ∷ [] → mid ≡ old
    → KnownUpTo log class i old → KnownUpTo log class (i + 1) new
known_more log whole class methods items i d old mid new k same are within pre is added kept told = go (class_at log (record { 0 = class })) refl are told where
  go : (o : Option ClassInfo) → class_at log (record { 0 = class }) ≡ o → IsSomeAnd o (λ c. map (λ (m : MethodNo). m.0) methods ≡ count_from (first_of log class) (count c))
      → IsSomeAnd o (λ c. map known_method old ≡ take i (told_from (first_of log class) c.methods.items))
      → IsSomeAnd o (λ c. map known_method new ≡ take (i + 1) (told_from (first_of log class) c.methods.items))
  go None at h told = absurd h
  go (Some c) at h told =
      let of_items : map (λ (m : MethodNo). m.0) items ≡ count_from (first_of log class) (count c) = ap (map (λ (m : MethodNo). m.0)) same ∙ h in
      let all = step log whole class c items i d k old at pre of_items within is told in
      let now : new ≡ old ++ k ∷ [] = added ∙ ap (λ (l : List Known). l ++ k ∷ []) kept in
      ap (map known_method) now ∙ (all ∙ ap (λ (n : ℕ). take n (told_from (first_of log class) c.methods.items)) (sym (add-one i)))

count_told : (n : ℕ) (methods : List MethodInfo) → length (told_from n methods) ≡ length methods
count_told n [] = refl
count_told n (m ∷ methods) = ap suc (count_told (suc n) methods)

-- all of them
pub known_all : (log whole : List ClassInfo) (class : ℕ) (methods items : List MethodNo) (i : ℕ) (known : List Known) (body : List ℕ) → items ≡ methods
    → AreMethodsOf log (record { 0 = class }) methods → length items ≤ i → IsPrefix log whole → KnownUpTo log class i known → body ≡ list method_item (map known_method known)
    → IsSomeAnd (class_at whole (record { 0 = class })) (λ c. body ≡ list method_item (told_from (first_of whole class) c.methods.items))
known_all log whole class methods items i known body same are over pre told is = go (class_at log (record { 0 = class })) refl are told where
  go : (o : Option ClassInfo) → class_at log (record { 0 = class }) ≡ o → IsSomeAnd o (λ c. map (λ (m : MethodNo). m.0) methods ≡ count_from (first_of log class) (count c))
      → IsSomeAnd o (λ c. map known_method known ≡ take i (told_from (first_of log class) c.methods.items))
      → IsSomeAnd (class_at whole (record { 0 = class })) (λ c. body ≡ list method_item (told_from (first_of whole class) c.methods.items))
  go None at h told = absurd h
  go (Some c) at h told =
      let there = prefix_get log whole class c pre at in
      let firsts : first_of log class ≡ first_of whole class = first_grows log whole class pre (omega (arith, get_within log class c at)) in
      let many = as_many methods (first_of log class) (count c) h in
      let as_long : length items ≡ length methods = ap length same in
      let whole_list = take_all i (told_from (first_of log class) c.methods.items) (omega (arith, count_told (first_of log class) c.methods.items, many, as_long, over)) in
      let told_all : body ≡ list method_item (told_from (first_of whole class) c.methods.items) =
      is ∙ (ap (list method_item) (told ∙ whole_list) ∙ ap (λ (n : ℕ). list method_item (told_from n c.methods.items)) firsts) in
      subst (λ (o : Option ClassInfo). IsSomeAnd o (λ (x : ClassInfo). body ≡ list method_item (told_from (first_of whole class) x.methods.items))) (sym there) told_all
