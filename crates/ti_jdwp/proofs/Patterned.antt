-- Modifiers that are read are spelled so.
use Rattle.std.proofs.Common.{◌≡◌, ℕ, suc, zero, pos, ◌+◌, ◌^◌, ◌<◌, ◌≤◌, Bool, true, false, eqb, ltb, leb, ◌&&◌, List, ◌∷◌, ◌++◌, length, get_or, take, drop, Result, Ok, Err, refl, sym, ap, subst, ◌∙◌, append_assoc, arith, length-append, length-drop, drop-cons, inl, inr}
use Rattle.std.specs.Prelude.{IfOk}
use Rattle.std.proofs.lemmas.Bool.{eqb-true, leb-true, ltb-true, and_parts}
use Rattle.std.proofs.lemmas.List.{length-take, take-append-drop, nil_from_length, drop-drop, drop_at}
use Rattle.ti_jdwp.specs.declared.error.JdwpError.{JdwpError}
use Rattle.ti_jdwp.specs.declared.error.JdwpError.TheVariants as error
use Rattle.ti_jdwp.specs.declared.request.Range.{Range}
use Rattle.ti_jdwp.specs.declared.modifiers.Modifier.{Modifier}
use Rattle.ti_jdwp.specs.declared.modifiers.Modifier.TheVariants as modifier
use Rattle.ti_jdwp.specs.Fields.{◌>>=◌, int, long, text, int_at, long_at}
use Rattle.ti_jdwp.specs.Modifiers.{within, text_len, fields_len, counted, made, modifier_in, modifier_at, modifiers_end}
use Rattle.ti_jdwp.specs.Patterns.{is_other, Says, StandsAt, AreModifiers}
use Rattle.ti_jdwp.proofs.Bytes.{IsBytes, IsBytes-drop}
use Rattle.ti_jdwp.proofs.Parts.{bind_ok, guard_ok, let_through, long_front, int_front, int_len, long_len}

abbrev done : {A : Type 0} → A → Result A JdwpError
done x = Ok x

ok_is : {A : Type 0} (x y : A) → done x ≡ done y → x ≡ y
ok_is x y e = cc

-- the fields of a modifier whose number stands at a place, with what it says
record Told (at number : ℕ) (rest : List ℕ) (len : ℕ) (m : Modifier) : Type 0 where
  fields : List ℕ
  tail : List ℕ
  parts : rest ≡ fields ++ tail
  long_so : length fields ≡ len
  says : Says at (number ∷ fields) m

within_ok : (n len : ℕ) (rest : List ℕ) → within n rest ≡ Ok len → (n ≤ length rest) × (n ≡ len)
within_ok n len rest e =
    let g = guard_ok (leb n (length rest)) error.IllegalArgument n len e in
    (leb-true n (length rest) g.0, g.1)

told_count : (at : ℕ) (rest : List ℕ) (len : ℕ) (m : Modifier) → IsBytes rest → within 4 rest ≡ Ok len → counted (int_at 0 rest) ≡ Ok m → Told at 1 rest len m
told_count at rest len m fits e k =
    let w = within_ok 4 len rest e in
    let f = int_front rest w.0 fits in
    let g = guard_ok (leb 1 (int_at 0 rest) && ltb (int_at 0 rest) (2 ^ 31)) error.IllegalArgument (modifier.Count (pos (int_at 0 rest))) m k in
    let tests = and_parts _ _ g.0 in
    subst (λ (q : Modifier). Told at 1 rest len q) g.1 (record {
      fields = int (int_at 0 rest);
      tail = drop 4 rest;
      parts = f.0.parts;
      long_so = int_len (int_at 0 rest) ∙ w.1;
      says = (int_at 0 rest, leb-true _ _ tests.0, ltb-true _ _ tests.1, refl, refl);
    })

told_thread : (at : ℕ) (rest : List ℕ) (len : ℕ) (m : Modifier) → IsBytes rest → within 8 rest ≡ Ok len → Ok (modifier.ThreadOnly (long_at 0 rest)) ≡ done m → Told at 3 rest len m
told_thread at rest len m fits e k =
    let w = within_ok 8 len rest e in
    let f = long_front rest w.0 fits in
    subst (λ (q : Modifier). Told at 3 rest len q) (ok_is _ m k) (record {
      fields = long (long_at 0 rest);
      tail = drop 8 rest;
      parts = f.0.parts;
      long_so = long_len (long_at 0 rest) ∙ w.1;
      says = (f.1, refl);
    })

told_class : (at : ℕ) (rest : List ℕ) (len : ℕ) (m : Modifier) → IsBytes rest → within 8 rest ≡ Ok len → Ok (modifier.ClassOnly (long_at 0 rest)) ≡ done m → Told at 4 rest len m
told_class at rest len m fits e k =
    let w = within_ok 8 len rest e in
    let f = long_front rest w.0 fits in
    subst (λ (q : Modifier). Told at 4 rest len q) (ok_is _ m k) (record {
      fields = long (long_at 0 rest);
      tail = drop 8 rest;
      parts = f.0.parts;
      long_so = long_len (long_at 0 rest) ∙ w.1;
      says = (f.1, refl);
    })

-- a text at the front
record TextFront (rest : List ℕ) (len : ℕ) : Type 0 where
  content : List ℕ
  tail : List ℕ
  short : length content < 2 ^ 31
  parts : rest ≡ text content ++ tail
  is_len : 4 + length content ≡ len

text_front : (rest : List ℕ) (len : ℕ) → IsBytes rest → text_len rest ≡ Ok len → TextFront rest len
text_front rest len fits e =
    let l = let_through (leb 4 (length rest) && ltb (int_at 0 rest) (2 ^ 31)) error.IllegalArgument (within (4 + int_at 0 rest) rest) len e in
    let tests = and_parts _ _ l.0 in
    let w = within_ok (4 + int_at 0 rest) len rest l.1 in
    let many : 4 ≤ length rest = leb-true _ _ tests.0 in
    let few : int_at 0 rest < 2 ^ 31 = ltb-true _ _ tests.1 in
    let n : ℕ = int_at 0 rest in
    let t : List ℕ = take n (drop 4 rest) in
    let f = int_front rest many fits in
    let t_len : length t ≡ n = omega (arith, length-take n (drop 4 rest), length-drop 4 rest, w.0) in
    record {
      content = t;
      tail = drop n (drop 4 rest);
      short = omega (arith, t_len, few);
      parts = f.0.parts ∙ ap (λ (x : List ℕ). int n ++ x) (sym (take-append-drop n (drop 4 rest))) ∙ sym (append_assoc (int n) t (drop n (drop 4 rest))) ∙ ap (λ (c : ℕ). int c ++ t ++ drop n (drop 4 rest)) (sym t_len);
      is_len = omega (arith, t_len, w.1);
    }

text_size : (t : List ℕ) → length (text t) ≡ 4 + length t
text_size t = omega (arith, length-append (int (length t)) t, int_len (length t))

abbrev pattern_range : ℕ → ℕ → Range
pattern_range start end = record { start = start; end = end }

told_match : (at : ℕ) (rest : List ℕ) (len : ℕ) (m : Modifier) → IsBytes rest → text_len rest ≡ Ok len → Ok (modifier.ClassMatch (pattern_range (at + 1 + 4) (at + 1 + len))) ≡ done m → Told at 5 rest len m
told_match at rest len m fits e k =
    let f = text_front rest len fits e in
    let size = text_size f.content in
    let start : at + 1 + 4 ≡ at + 5 = omega arith in
    let end : at + 1 + len ≡ at + 5 + length f.content = omega (arith, f.is_len) in
    subst (λ (q : Modifier). Told at 5 rest len q) (ok_is _ m k) (record {
      fields = text f.content;
      tail = f.tail;
      parts = f.parts;
      long_so = size ∙ f.is_len;
      says = (f.content, f.short, refl, ap (λ (s : ℕ). pattern_range s (at + 1 + len)) start ∙ ap (λ (s : ℕ). pattern_range (at + 5) s) end);
    })

told_exclude : (at : ℕ) (rest : List ℕ) (len : ℕ) (m : Modifier) → IsBytes rest → text_len rest ≡ Ok len → Ok (modifier.ClassExclude (pattern_range (at + 1 + 4) (at + 1 + len))) ≡ done m → Told at 6 rest len m
told_exclude at rest len m fits e k =
    let f = text_front rest len fits e in
    let size = text_size f.content in
    let start : at + 1 + 4 ≡ at + 5 = omega arith in
    let end : at + 1 + len ≡ at + 5 + length f.content = omega (arith, f.is_len) in
    subst (λ (q : Modifier). Told at 6 rest len q) (ok_is _ m k) (record {
      fields = text f.content;
      tail = f.tail;
      parts = f.parts;
      long_so = size ∙ f.is_len;
      says = (f.content, f.short, refl, ap (λ (s : ℕ). pattern_range s (at + 1 + len)) start ∙ ap (λ (s : ℕ). pattern_range (at + 5) s) end);
    })

told_source : (at : ℕ) (rest : List ℕ) (len : ℕ) (m : Modifier) → IsBytes rest → text_len rest ≡ Ok len → Ok modifier.Other ≡ done m → Told at 12 rest len m
told_source at rest len m fits e k =
    let f = text_front rest len fits e in
    subst (λ (q : Modifier). Told at 12 rest len q) (ok_is _ m k) (record {
      fields = text f.content;
      tail = f.tail;
      parts = f.parts;
      long_so = text_size f.content ∙ f.is_len;
      says = (12, text f.content, inr (refl, (f.content, f.short, refl)), refl);
    })

told_other : (at number n : ℕ) (rest : List ℕ) (len : ℕ) (m : Modifier) → is_other number n ≡ true → within n rest ≡ Ok len → Ok modifier.Other ≡ done m → Told at number rest len m
told_other at number n rest len m is e k =
    let w = within_ok n len rest e in
    let size : length (take n rest) ≡ n = omega (arith, length-take n rest, w.0) in
    subst (λ (q : Modifier). Told at number rest len q) (ok_is _ m k) (record {
      fields = take n rest;
      tail = drop n rest;
      parts = sym (take-append-drop n rest);
      long_so = size ∙ w.1;
      says = (number, take n rest, inl (ap (λ (c : ℕ). is_other number c) size ∙ is), refl);
    })

told_as : (at number number' : ℕ) (rest : List ℕ) (len : ℕ) (m : Modifier) → number ≡ number'
    → (fields_len number' rest ≡ Ok len → made number' rest (at + 1) (at + 1 + len) ≡ Ok m → Told at number' rest len m)
    → fields_len number rest ≡ Ok len → made number rest (at + 1) (at + 1 + len) ≡ Ok m → Told at number rest len m
told_as at number number' rest len m is h e k =
    subst (λ (c : ℕ). Told at c rest len m) (sym is)
    (h (ap (λ (c : ℕ). fields_len c rest) (sym is) ∙ e) (ap (λ (c : ℕ). made c rest (at + 1) (at + 1 + len)) (sym is) ∙ k))

told_location : (at : ℕ) (rest : List ℕ) (len : ℕ) (m : Modifier) → IsBytes rest → within 25 rest ≡ Ok len
    → Ok (modifier.LocationOnly (long_at 1 rest) (long_at 9 rest) (long_at 17 rest)) ≡ done m → Told at 7 rest len m
told_location at rest len m fits e k =
    let w = within_ok 25 len rest e in
    let tag : ℕ = get_or rest 0 0 in
    let begins : rest ≡ tag ∷ drop 1 rest = drop-cons rest 0 0 (omega (arith, w.0)) in
    let r1 : List ℕ = drop 1 rest in
    let f1 = long_front r1 (omega (arith, length-drop 1 rest, w.0)) (IsBytes-drop 1 rest fits) in
    let r2 : List ℕ = drop 8 r1 in
    let f2 = long_front r2 (omega (arith, length-drop 8 r1, length-drop 1 rest, w.0)) f1.0.rest_fits in
    let r3 : List ℕ = drop 8 r2 in
    let f3 = long_front r3 (omega (arith, length-drop 8 r2, length-drop 8 r1, length-drop 1 rest, w.0)) f2.0.rest_fits in
    let c : ℕ = long_at 0 r1 in
    let d : ℕ = long_at 0 r2 in
    let i : ℕ = long_at 0 r3 in
    let fields : List ℕ = tag ∷ long c ++ long d ++ long i in
    let at9 : d ≡ long_at 9 rest = ap (λ (x : List ℕ). long_at 0 x) (drop-drop 8 1 rest) in
    let at17 : i ≡ long_at 17 rest = ap (λ (x : List ℕ). long_at 0 x) (ap (drop 8) (drop-drop 8 1 rest) ∙ drop-drop 8 9 rest) in
    let parts : rest ≡ fields ++ drop 8 r3 =
    begins ∙ ap (λ (x : List ℕ). tag ∷ x)
    (f1.0.parts ∙ ap (λ (x : List ℕ). long c ++ x) (f2.0.parts ∙ ap (λ (x : List ℕ). long d ++ x) f3.0.parts ∙ sym (append_assoc (long d) (long i) (drop 8 r3)))
    ∙ sym (append_assoc (long c) (long d ++ long i) (drop 8 r3)) ∙ ap (λ (x : List ℕ). x ++ drop 8 r3) (sym (append_assoc (long c) (long d) (long i)))) in
    subst (λ (q : Modifier). Told at 7 rest len q) (ap (λ (x : ℕ). modifier.LocationOnly c x i) at9 ∙ ap (λ (x : ℕ). modifier.LocationOnly c (long_at 9 rest) x) at17 ∙ ok_is _ m k) (record {
      fields = fields;
      tail = drop 8 r3;
      parts = parts;
      long_so = omega (arith, length-append (long c ++ long d) (long i), length-append (long c) (long d), long_len c, long_len d, long_len i, w.1);
      says = (tag, f1.1, f2.1, f3.1, refl);
    })

told_step : (at : ℕ) (rest : List ℕ) (len : ℕ) (m : Modifier) → IsBytes rest → within 16 rest ≡ Ok len
    → Ok (modifier.Step (long_at 0 rest) (int_at 8 rest) (int_at 12 rest)) ≡ done m → Told at 10 rest len m
told_step at rest len m fits e k =
    let w = within_ok 16 len rest e in
    let f1 = long_front rest (omega (arith, w.0)) fits in
    let r2 : List ℕ = drop 8 rest in
    let f2 = int_front r2 (omega (arith, length-drop 8 rest, w.0)) f1.0.rest_fits in
    let r3 : List ℕ = drop 4 r2 in
    let f3 = int_front r3 (omega (arith, length-drop 4 r2, length-drop 8 rest, w.0)) f2.0.rest_fits in
    let t : ℕ = long_at 0 rest in
    let z : ℕ = int_at 0 r2 in
    let d : ℕ = int_at 0 r3 in
    let fields : List ℕ = long t ++ int z ++ int d in
    let at12 : d ≡ int_at 12 rest = ap (λ (x : List ℕ). int_at 0 x) (drop-drop 4 8 rest) in
    let parts : rest ≡ fields ++ drop 4 r3 =
    f1.0.parts ∙ ap (λ (x : List ℕ). long t ++ x) (f2.0.parts ∙ ap (λ (x : List ℕ). int z ++ x) f3.0.parts ∙ sym (append_assoc (int z) (int d) (drop 4 r3)))
    ∙ sym (append_assoc (long t) (int z ++ int d) (drop 4 r3)) ∙ ap (λ (x : List ℕ). x ++ drop 4 r3) (sym (append_assoc (long t) (int z) (int d))) in
    subst (λ (q : Modifier). Told at 10 rest len q) (ap (λ (x : ℕ). modifier.Step t z x) at12 ∙ ok_is _ m k) (record {
      fields = fields;
      tail = drop 4 r3;
      parts = parts;
      long_so = omega (arith, length-append (long t ++ int z) (int d), length-append (long t) (int z), long_len t, int_len z, int_len d, w.1);
      says = (f1.1, f2.1, f3.1, refl);
    })

none_else : (number : ℕ) (rest : List ℕ) (len : ℕ) → eqb number 1 ≡ false → eqb number 2 ≡ false → eqb number 3 ≡ false → eqb number 4 ≡ false → eqb number 5 ≡ false → eqb number 6 ≡ false → eqb number 7 ≡ false
    → eqb number 8 ≡ false → eqb number 9 ≡ false → eqb number 10 ≡ false → eqb number 11 ≡ false → eqb number 12 ≡ false → eqb number 13 ≡ false → fields_len number rest ≡ Ok len → ⊥
none_else number rest len a b c d e f g h i j k l m is =
    let none : fields_len number rest ≡ Err error.IllegalArgument = simp (a, b, c, d, e, f, g, h, i, j, k, l, m) refl in
    cc

by_test : (b : Bool) (P : Type 0) → (b ≡ true → P) → (b ≡ false → P) → P
by_test true P holds fails = holds refl
by_test false P holds fails = fails refl

told : (at number : ℕ) (rest : List ℕ) (len : ℕ) (m : Modifier) → IsBytes rest → fields_len number rest ≡ Ok len → made number rest (at + 1) (at + 1 + len) ≡ Ok m → Told at number rest len m
told at number rest len m fits e k =
    by_test (eqb number 1) (Told at number rest len m) (λ y. told_as at number 1 rest len m (eqb-true _ _ y) (λ e k. told_count at rest len m fits e k) e k) (λ n1.
    by_test (eqb number 2) (Told at number rest len m) (λ y. told_as at number 2 rest len m (eqb-true _ _ y) (λ e k. told_other at 2 4 rest len m refl e k) e k) (λ n2.
    by_test (eqb number 3) (Told at number rest len m) (λ y. told_as at number 3 rest len m (eqb-true _ _ y) (λ e k. told_thread at rest len m fits e k) e k) (λ n3.
    by_test (eqb number 4) (Told at number rest len m) (λ y. told_as at number 4 rest len m (eqb-true _ _ y) (λ e k. told_class at rest len m fits e k) e k) (λ n4.
    by_test (eqb number 5) (Told at number rest len m) (λ y. told_as at number 5 rest len m (eqb-true _ _ y) (λ e k. told_match at rest len m fits e k) e k) (λ n5.
    by_test (eqb number 6) (Told at number rest len m) (λ y. told_as at number 6 rest len m (eqb-true _ _ y) (λ e k. told_exclude at rest len m fits e k) e k) (λ n6.
    by_test (eqb number 7) (Told at number rest len m) (λ y. told_as at number 7 rest len m (eqb-true _ _ y) (λ e k. told_location at rest len m fits e k) e k) (λ n7.
    by_test (eqb number 8) (Told at number rest len m) (λ y. told_as at number 8 rest len m (eqb-true _ _ y) (λ e k. told_other at 8 10 rest len m refl e k) e k) (λ n8.
    by_test (eqb number 9) (Told at number rest len m) (λ y. told_as at number 9 rest len m (eqb-true _ _ y) (λ e k. told_other at 9 16 rest len m refl e k) e k) (λ n9.
    by_test (eqb number 10) (Told at number rest len m) (λ y. told_as at number 10 rest len m (eqb-true _ _ y) (λ e k. told_step at rest len m fits e k) e k) (λ n10.
    by_test (eqb number 11) (Told at number rest len m) (λ y. told_as at number 11 rest len m (eqb-true _ _ y) (λ e k. told_other at 11 8 rest len m refl e k) e k) (λ n11.
    by_test (eqb number 12) (Told at number rest len m) (λ y. told_as at number 12 rest len m (eqb-true _ _ y) (λ e k. told_source at rest len m fits e k) e k) (λ n12.
    by_test (eqb number 13) (Told at number rest len m) (λ y. told_as at number 13 rest len m (eqb-true _ _ y) (λ e k. told_other at 13 0 rest len m refl e k) e k) (λ n13.
    absurd (none_else number rest len n1 n2 n3 n4 n5 n6 n7 n8 n9 n10 n11 n12 n13 e))))))))))))))

first_cell : (bytes : List ℕ) (at : ℕ) → at < length bytes → drop at bytes ≡ get_or bytes at 0 ∷ drop (at + 1) bytes
first_cell bytes at lt =
    let one : suc at ≡ at + 1 = omega arith in
    drop-cons bytes at 0 lt ∙ ap (λ (n : ℕ). get_or bytes at 0 ∷ drop n bytes) one

-- the same with the number
stands_told : (bytes : List ℕ) (at len : ℕ) (m : Modifier) → at < length bytes → Told at (get_or bytes at 0) (drop (at + 1) bytes) len m → StandsAt at bytes m (at + 1 + len) × (at + 1 + len ≤ length bytes)
stands_told bytes at len m inside t =
    let rest : List ℕ = drop (at + 1) bytes in
    let size : length rest ≡ length t.fields + length t.tail = ap (λ (x : List ℕ). length x) t.parts ∙ length-append t.fields t.tail in
    let begins : drop at bytes ≡ (get_or bytes at 0 ∷ t.fields) ++ t.tail = first_cell bytes at inside ∙ ap (λ (x : List ℕ). get_or bytes at 0 ∷ x) t.parts in
    let goes : at + 1 + len ≡ at + length (get_or bytes at 0 ∷ t.fields) = omega (arith, t.long_so) in
    ((get_or bytes at 0 ∷ t.fields, t.tail, begins, t.says, goes), omega (arith, length-drop (at + 1) bytes, t.long_so, size))

pub stands : (bytes : List ℕ) (at : ℕ) (m : Modifier) (next : ℕ) → IsBytes bytes → modifier_at at bytes ≡ Ok (m, next) → StandsAt at bytes m next × (next ≤ length bytes)
stands bytes at m next fits e =
    let number : ℕ = get_or bytes at 0 in
    let rest : List ℕ = drop (at + 1) bytes in
    let l = let_through (ltb at (length bytes)) error.IllegalArgument (modifier_in number rest (at + 1)) (m, next) e in
    let inside : at < length bytes = ltb-true at (length bytes) l.0 in
    let n = bind_ok (fields_len number rest) (λ len. made number rest (at + 1) (at + 1 + len) >>= λ m. Ok (m, at + 1 + len)) (m, next) l.1 in
    let k = bind_ok (made number rest (at + 1) (at + 1 + n.0)) (λ m. Ok (m, at + 1 + n.0)) (m, next) n.2 in
    let t = told at number rest n.0 k.0 (IsBytes-drop (at + 1) bytes fits) n.1 k.1 in
    subst (λ (p : Modifier × ℕ). StandsAt at bytes p.0 p.1 × (p.1 ≤ length bytes)) (ok_is (k.0, at + 1 + n.0) (m, next) k.2) (stands_told bytes at n.0 k.0 inside t)

-- so many modifiers up to the end
pub are_all : (count : ℕ) (at : ℕ) (bytes : List ℕ) → IsBytes bytes → at ≤ length bytes → modifiers_end count at bytes ≡ Ok (length bytes) → AreModifiers count at (drop at bytes)
unfolding modifiers_end AreModifiers
are_all zero at bytes fits inside e =
    let all : at ≡ length bytes = ok_is at (length bytes) e in
    nil_from_length (drop at bytes) (omega (arith, length-drop at bytes))
are_all (suc count) at bytes fits inside e =
    let b = bind_ok (modifier_at at bytes) (λ m. modifiers_end count m.1 bytes) (length bytes) e in
    let m : Modifier = b.0.0 in
    let next : ℕ = b.0.1 in
    let s = stands bytes at m next fits b.1 in
    let h : StandsAt at bytes m next = s.0 in
    let behind : drop next bytes ≡ h.1 = ap (λ (n : ℕ). drop n bytes) h.4 ∙ sym (drop-drop (length h.0) at bytes) ∙ ap (λ (x : List ℕ). drop (length h.0) x) h.2 ∙ drop_at h.0 h.1 (length h.0) refl in
    let others : AreModifiers count next (drop next bytes) = are_all count next bytes fits s.1 b.2 in
    (m, h.0, h.1, h.2, h.3, subst (λ (x : List ℕ). AreModifiers count (at + length h.0) x) behind (subst (λ (n : ℕ). AreModifiers count n (drop next bytes)) h.4 others))

pub stands_if_ok : (bytes : List ℕ) (at : ℕ) (q : Result (Modifier × ℕ) JdwpError) → IsBytes bytes → q ≡ modifier_at at bytes → IfOk q (λ m. StandsAt at bytes m.0 m.1)
stands_if_ok bytes at (Ok m) fits e = (stands bytes at m.0 m.1 fits (sym e)).0
stands_if_ok bytes at (Err d) fits e = tt
