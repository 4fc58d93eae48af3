-- Modifiers that are spelled so are read.
use Rattle.std.proofs.Common.{◌≡◌, ℕ, suc, zero, pos, ◌+◌, ◌^◌, ◌<◌, ◌≤◌, Bool, true, false, eqb, ltb, leb, ◌&&◌, ◌||◌, ℤ, List, ◌∷◌, ◌++◌, length, get_or, drop, Ok, Err, append_assoc, refl, sym, ap, subst, ◌∙◌, arith, length-append, length-drop, get_or-drop, inl, inr}
use Rattle.std.proofs.lemmas.Bool.{le-leb, lt-ltb, and_from, and_parts, eqb-true}
use Rattle.std.proofs.lemmas.List.{drop-drop, drop_at}
use Rattle.ti_jdwp.specs.declared.error.JdwpError.TheVariants as error
use Rattle.ti_jdwp.specs.declared.request.Range.{Range}
use Rattle.ti_jdwp.specs.declared.modifiers.Modifier.{Modifier}
use Rattle.ti_jdwp.specs.declared.modifiers.Modifier.TheVariants as modifier
use Rattle.ti_jdwp.specs.Fields.{◌>>=◌, int, long, text, int_at, long_at}
use Rattle.ti_jdwp.specs.Modifiers.{within, fields_len, counted, made, modifier_in, modifier_at, modifiers_end}
use Rattle.ti_jdwp.specs.Patterns.{IsOther, is_other, Says, StandsAt, AreModifiers}
use Rattle.ti_jdwp.proofs.Parts.{taken, then_ok, long_again, int_again, int_len, long_len, text_len_again}

within_again : (n : ℕ) (rest : List ℕ) → n ≤ length rest → within n rest ≡ Ok n
within_again n rest fits = taken (leb n (length rest)) (Ok n) (Err error.IllegalArgument) (le-leb n (length rest) fits)

-- what a modifier reads as whose fields are known
in_again : (number : ℕ) (rest : List ℕ) (at len : ℕ) (m : Modifier) → fields_len number rest ≡ Ok len → made number rest (at + 1) (at + 1 + len) ≡ Ok m → modifier_in number rest (at + 1) ≡ Ok (m, at + 1 + len)
in_again number rest at len m e k =
    then_ok (fields_len number rest) len (λ len. made number rest (at + 1) (at + 1 + len) >>= λ m. Ok (m, at + 1 + len)) e
    ∙ then_ok (made number rest (at + 1) (at + 1 + len)) m (λ m. Ok (m, at + 1 + len)) k

abbrev pattern_range : ℕ → ℕ → Range
pattern_range start end = record { start = start; end = end }

text_size : (t : List ℕ) → length (text t) ≡ 4 + length t
text_size t = omega (arith, length-append (int (length t)) t, int_len (length t))

-- the same by a modifier's fields, whatever follows
abbrev Reads : ℕ → ℕ → List ℕ → List ℕ → Modifier → Type 0
Reads at number fields rest m = modifier_in number (fields ++ rest) (at + 1) ≡ Ok (m, at + 1 + length fields)

reads_count : (at k : ℕ) (rest : List ℕ) → 1 ≤ k → k < 2 ^ 31 → Reads at 1 (int k) rest (modifier.Count (pos k))
reads_count at k rest some few =
    let all : List ℕ = int k ++ rest in
    let is : int_at 0 all ≡ k = int_again k rest (omega arith) in
    let len : fields_len 1 all ≡ Ok 4 = within_again 4 all (omega (arith, length-append (int k) rest, int_len k)) in
    let said : made 1 all (at + 1) (at + 1 + 4) ≡ Ok (modifier.Count (pos k)) = ap counted is ∙ taken _ (Ok (modifier.Count (pos k))) (Err error.IllegalArgument) (and_from _ _ (le-leb 1 k some) (lt-ltb k (2 ^ 31) few)) in
    in_again 1 all at 4 (modifier.Count (pos k)) len said ∙ ap (λ (n : ℕ). Ok (modifier.Count (pos k), at + 1 + n)) (sym (int_len k))

reads_thread : (at id : ℕ) (rest : List ℕ) → id < 2 ^ 64 → Reads at 3 (long id) rest (modifier.ThreadOnly id)
reads_thread at id rest fits =
    let all : List ℕ = long id ++ rest in
    let len : fields_len 3 all ≡ Ok 8 = within_again 8 all (omega (arith, length-append (long id) rest, long_len id)) in
    in_again 3 all at 8 (modifier.ThreadOnly id) len (ap (λ (n : ℕ). Ok (modifier.ThreadOnly n)) (long_again id rest fits)) ∙ ap (λ (n : ℕ). Ok (modifier.ThreadOnly id, at + 1 + n)) (sym (long_len id))

reads_class : (at id : ℕ) (rest : List ℕ) → id < 2 ^ 64 → Reads at 4 (long id) rest (modifier.ClassOnly id)
reads_class at id rest fits =
    let all : List ℕ = long id ++ rest in
    let len : fields_len 4 all ≡ Ok 8 = within_again 8 all (omega (arith, length-append (long id) rest, long_len id)) in
    in_again 4 all at 8 (modifier.ClassOnly id) len (ap (λ (n : ℕ). Ok (modifier.ClassOnly n)) (long_again id rest fits)) ∙ ap (λ (n : ℕ). Ok (modifier.ClassOnly id, at + 1 + n)) (sym (long_len id))

range_again : (at n : ℕ) → pattern_range (at + 1 + 4) (at + 1 + (4 + n)) ≡ pattern_range (at + 5) (at + 5 + n)
range_again at n =
    let start : at + 1 + 4 ≡ at + 5 = omega arith in
    let end : at + 1 + (4 + n) ≡ at + 5 + n = omega arith in
    ap (λ (s : ℕ). pattern_range s (at + 1 + (4 + n))) start ∙ ap (λ (s : ℕ). pattern_range (at + 5) s) end

reads_match : (at : ℕ) (t rest : List ℕ) → length t < 2 ^ 31 → Reads at 5 (text t) rest (modifier.ClassMatch (pattern_range (at + 5) (at + 5 + length t)))
reads_match at t rest short =
    let said : made 5 (text t ++ rest) (at + 1) (at + 1 + (4 + length t)) ≡ Ok (modifier.ClassMatch (pattern_range (at + 5) (at + 5 + length t))) = ap (λ (r : Range). Ok (modifier.ClassMatch r)) (range_again at (length t)) in
    in_again 5 (text t ++ rest) at (4 + length t) _ (text_len_again t rest short) said ∙ ap (λ (n : ℕ). Ok (modifier.ClassMatch (pattern_range (at + 5) (at + 5 + length t)), at + 1 + n)) (sym (text_size t))

reads_exclude : (at : ℕ) (t rest : List ℕ) → length t < 2 ^ 31 → Reads at 6 (text t) rest (modifier.ClassExclude (pattern_range (at + 5) (at + 5 + length t)))
reads_exclude at t rest short =
    let said : made 6 (text t ++ rest) (at + 1) (at + 1 + (4 + length t)) ≡ Ok (modifier.ClassExclude (pattern_range (at + 5) (at + 5 + length t))) = ap (λ (r : Range). Ok (modifier.ClassExclude r)) (range_again at (length t)) in
    in_again 6 (text t ++ rest) at (4 + length t) _ (text_len_again t rest short) said ∙ ap (λ (n : ℕ). Ok (modifier.ClassExclude (pattern_range (at + 5) (at + 5 + length t)), at + 1 + n)) (sym (text_size t))

reads_location : (at tag c d i : ℕ) (rest : List ℕ) → c < 2 ^ 64 → d < 2 ^ 64 → i < 2 ^ 64 → Reads at 7 (tag ∷ long c ++ long d ++ long i) rest (modifier.LocationOnly c d i)
reads_location at tag c d i rest c_fits d_fits i_fits =
    let fields : List ℕ = tag ∷ long c ++ long d ++ long i in
    let all : List ℕ = fields ++ rest in
    let size : length fields ≡ 25 = omega (arith, length-append (long c ++ long d) (long i), length-append (long c) (long d), long_len c, long_len d, long_len i) in
    let r1 : drop 1 all ≡ long c ++ (long d ++ (long i ++ rest)) =
    append_assoc (long c ++ long d) (long i) rest ∙ append_assoc (long c) (long d) (long i ++ rest) in
    let r9 : drop 9 all ≡ long d ++ (long i ++ rest) = sym (drop-drop 8 1 all) ∙ ap (drop 8) r1 ∙ drop_at (long c) (long d ++ (long i ++ rest)) 8 (long_len c) in
    let r17 : drop 17 all ≡ long i ++ rest = sym (drop-drop 8 9 all) ∙ ap (drop 8) r9 ∙ drop_at (long d) (long i ++ rest) 8 (long_len d) in
    let at1 : long_at 1 all ≡ c = ap (λ (x : List ℕ). long_at 0 x) r1 ∙ long_again c (long d ++ (long i ++ rest)) c_fits in
    let at9 : long_at 9 all ≡ d = ap (λ (x : List ℕ). long_at 0 x) r9 ∙ long_again d (long i ++ rest) d_fits in
    let at17 : long_at 17 all ≡ i = ap (λ (x : List ℕ). long_at 0 x) r17 ∙ long_again i rest i_fits in
    let len : fields_len 7 all ≡ Ok 25 = within_again 25 all (omega (arith, length-append fields rest, size)) in
    let said : made 7 all (at + 1) (at + 1 + 25) ≡ Ok (modifier.LocationOnly c d i) =
    ap (λ (n : ℕ). Ok (modifier.LocationOnly n (long_at 9 all) (long_at 17 all))) at1 ∙ ap (λ (n : ℕ). Ok (modifier.LocationOnly c n (long_at 17 all))) at9 ∙ ap (λ (n : ℕ). Ok (modifier.LocationOnly c d n)) at17 in
    in_again 7 all at 25 (modifier.LocationOnly c d i) len said ∙ ap (λ (n : ℕ). Ok (modifier.LocationOnly c d i, at + 1 + n)) (sym size)

reads_step : (at t z d : ℕ) (rest : List ℕ) → t < 2 ^ 64 → z < 2 ^ 32 → d < 2 ^ 32 → Reads at 10 (long t ++ int z ++ int d) rest (modifier.Step t z d)
reads_step at t z d rest t_fits z_fits d_fits =
    let fields : List ℕ = long t ++ int z ++ int d in
    let all : List ℕ = fields ++ rest in
    let size : length fields ≡ 16 = omega (arith, length-append (long t ++ int z) (int d), length-append (long t) (int z), long_len t, int_len z, int_len d) in
    let r0 : all ≡ long t ++ (int z ++ (int d ++ rest)) =
    append_assoc (long t ++ int z) (int d) rest ∙ append_assoc (long t) (int z) (int d ++ rest) in
    let r8 : drop 8 all ≡ int z ++ (int d ++ rest) = ap (drop 8) r0 ∙ drop_at (long t) (int z ++ (int d ++ rest)) 8 (long_len t) in
    let r12 : drop 12 all ≡ int d ++ rest = sym (drop-drop 4 8 all) ∙ ap (drop 4) r8 ∙ drop_at (int z) (int d ++ rest) 4 (int_len z) in
    let at0 : long_at 0 all ≡ t = ap (λ (x : List ℕ). long_at 0 x) r0 ∙ long_again t (int z ++ (int d ++ rest)) t_fits in
    let at8 : int_at 8 all ≡ z = ap (λ (x : List ℕ). int_at 0 x) r8 ∙ int_again z (int d ++ rest) z_fits in
    let at12 : int_at 12 all ≡ d = ap (λ (x : List ℕ). int_at 0 x) r12 ∙ int_again d rest d_fits in
    let len : fields_len 10 all ≡ Ok 16 = within_again 16 all (omega (arith, length-append fields rest, size)) in
    let said : made 10 all (at + 1) (at + 1 + 16) ≡ Ok (modifier.Step t z d) =
    ap (λ (n : ℕ). Ok (modifier.Step n (int_at 8 all) (int_at 12 all))) at0 ∙ ap (λ (n : ℕ). Ok (modifier.Step t n (int_at 12 all))) at8 ∙ ap (λ (n : ℕ). Ok (modifier.Step t z n)) at12 in
    in_again 10 all at 16 (modifier.Step t z d) len said ∙ ap (λ (n : ℕ). Ok (modifier.Step t z d, at + 1 + n)) (sym size)

reads_source : (at : ℕ) (t rest : List ℕ) → length t < 2 ^ 31 → Reads at 12 (text t) rest modifier.Other
reads_source at t rest short =
    in_again 12 (text t ++ rest) at (4 + length t) modifier.Other (text_len_again t rest short) refl ∙ ap (λ (n : ℕ). Ok (modifier.Other, at + 1 + n)) (sym (text_size t))

reads_fixed : (at number n k : ℕ) (fields rest : List ℕ) → number ≡ n → length fields ≡ k → ((all : List ℕ) → fields_len n all ≡ within k all) → ((all : List ℕ) (s e : ℕ) → made n all s e ≡ Ok modifier.Other) → Reads at number fields rest modifier.Other
reads_fixed at number n k fields rest is size len said =
    let all : List ℕ = fields ++ rest in
    let here : fields_len number all ≡ Ok (length fields) = ap (λ (c : ℕ). fields_len c all) is ∙ len all ∙ ap (λ (c : ℕ). within c all) (sym size) ∙ within_again (length fields) all (omega (arith, length-append fields rest)) in
    let other : made number all (at + 1) (at + 1 + length fields) ≡ Ok modifier.Other = ap (λ (c : ℕ). made c all (at + 1) (at + 1 + length fields)) is ∙ said all (at + 1) (at + 1 + length fields) in
    in_again number all at (length fields) modifier.Other here other

row : (number n len k : ℕ) → (eqb number n && eqb len k) ≡ true → (number ≡ n) × (len ≡ k)
row number n len k h =
    let both = and_parts _ _ h in
    (eqb-true number n both.0, eqb-true len k both.1)

-- one of the rows
by_row : (at number n k : ℕ) (fields rest : List ℕ) → ((all : List ℕ) → fields_len n all ≡ within k all) → ((all : List ℕ) (s e : ℕ) → made n all s e ≡ Ok modifier.Other)
    → (eqb number n && eqb (length fields) k) ≡ true → Reads at number fields rest modifier.Other
by_row at number n k fields rest len said t =
    let r = row number n (length fields) k t in
    reads_fixed at number n k fields rest r.0 r.1 len said

either : (x y : Bool) (P : Type 0) → (x || y) ≡ true → (x ≡ true → P) → (y ≡ true → P) → P
either true y P e f g = f refl
either false y P e f g = g e

reads_other : (at number : ℕ) (fields rest : List ℕ) → is_other number (length fields) ≡ true → Reads at number fields rest modifier.Other
reads_other at number fields rest h =
    either _ _ _ h (by_row at number 2 4 fields rest (λ all. refl) (λ all s e. refl)) (λ h.
    either _ _ _ h (by_row at number 8 10 fields rest (λ all. refl) (λ all s e. refl)) (λ h.
    either _ _ _ h (by_row at number 9 16 fields rest (λ all. refl) (λ all s e. refl)) (λ h.
    either _ _ _ h (by_row at number 11 8 fields rest (λ all. refl) (λ all s e. refl))
    (by_row at number 13 0 fields rest (λ all. refl) (λ all s e. refl)))))

-- a modifier that says this, by its number and its fields
record Parted (at : ℕ) (own rest : List ℕ) (m : Modifier) : Type 0 where
  number : ℕ
  fields : List ℕ
  is_own : own ≡ number ∷ fields
  reads : Reads at number fields rest m

parted : (at : ℕ) (own rest : List ℕ) (m : Modifier) → Says at own m → Parted at own rest m
parted at own rest (modifier.Count n) h = record { number = 1; fields = int h.0; is_own = h.3; reads = subst (λ (z : ℤ). Reads at 1 (int h.0) rest (modifier.Count z)) (sym h.4) (reads_count at h.0 rest h.1 h.2) }
parted at own rest (modifier.ThreadOnly id) h = record { number = 3; fields = long id; is_own = h.1; reads = reads_thread at id rest h.0 }
parted at own rest (modifier.ClassOnly id) h = record { number = 4; fields = long id; is_own = h.1; reads = reads_class at id rest h.0 }
parted at own rest (modifier.ClassMatch r) h = record { number = 5; fields = text h.0; is_own = h.2; reads = subst (λ (r : Range). Reads at 5 (text h.0) rest (modifier.ClassMatch r)) (sym h.3) (reads_match at h.0 rest h.1) }
parted at own rest (modifier.ClassExclude r) h = record { number = 6; fields = text h.0; is_own = h.2; reads = subst (λ (r : Range). Reads at 6 (text h.0) rest (modifier.ClassExclude r)) (sym h.3) (reads_exclude at h.0 rest h.1) }
parted at own rest (modifier.LocationOnly c d i) h = record { number = 7; fields = h.0 ∷ long c ++ long d ++ long i; is_own = h.4; reads = reads_location at h.0 c d i rest h.1 h.2 h.3 }
parted at own rest (modifier.Step t z d) h = record { number = 10; fields = long t ++ int z ++ int d; is_own = h.3; reads = reads_step at t z d rest h.0 h.1 h.2 }
parted at own rest modifier.Other h = record { number = h.0; fields = h.1; is_own = h.3; reads = by_kind h.2 }
  where
    by_kind : IsOther h.0 h.1 → Reads at h.0 h.1 rest modifier.Other
    by_kind (inl row) = reads_other at h.0 h.1 rest row
    by_kind (inr s) = subst (λ (number : ℕ). Reads at number h.1 rest modifier.Other) (sym s.0) (subst (λ (fields : List ℕ). Reads at 12 fields rest modifier.Other) (sym s.1.2) (reads_source at s.1.0 rest s.1.1))

pub reads_again : (at : ℕ) (bytes : List ℕ) (m : Modifier) (next : ℕ) → StandsAt at bytes m next → modifier_at at bytes ≡ Ok (m, next)
reads_again at bytes m next h =
    let p = parted at h.0 h.1 m h.3 in
    let here : drop at bytes ≡ p.number ∷ (p.fields ++ h.1) = h.2 ∙ ap (λ (x : List ℕ). x ++ h.1) p.is_own in
    let zero_on : at + 0 ≡ at = omega arith in
    let first : get_or bytes at 0 ≡ p.number = ap (λ (i : ℕ). get_or bytes i 0) (sym zero_on) ∙ sym (get_or-drop at bytes 0 0) ∙ ap (λ (x : List ℕ). get_or x 0 0) here in
    let behind : drop (at + 1) bytes ≡ p.fields ++ h.1 = sym (drop-drop 1 at bytes) ∙ ap (λ (x : List ℕ). drop 1 x) here in
    let size : length (drop at bytes) ≡ 1 + length (p.fields ++ h.1) = ap (λ (x : List ℕ). length x) here ∙ omega arith in
    let inside : at < length bytes = omega (arith, length-drop at bytes, size) in
    let own : length h.0 ≡ 1 + length p.fields = ap (λ (x : List ℕ). length x) p.is_own ∙ omega arith in
    let goes : at + 1 + length p.fields ≡ next = omega (arith, own, h.4) in
    taken (ltb at (length bytes)) (modifier_in (get_or bytes at 0) (drop (at + 1) bytes) (at + 1)) (Err error.IllegalArgument) (lt-ltb at (length bytes) inside)
    ∙ ap (λ (c : ℕ). modifier_in c (drop (at + 1) bytes) (at + 1)) first
    ∙ ap (λ (x : List ℕ). modifier_in p.number x (at + 1)) behind
    ∙ p.reads
    ∙ ap (λ (n : ℕ). Ok (m, n)) goes

-- so many modifiers up to the end
pub ends_again : (count at : ℕ) (bytes : List ℕ) → at ≤ length bytes → AreModifiers count at (drop at bytes) → modifiers_end count at bytes ≡ Ok (length bytes)
unfolding modifiers_end AreModifiers
ends_again zero at bytes inside h =
    let none : length (drop at bytes) ≡ 0 = ap (λ (x : List ℕ). length x) h in
    let all : at ≡ length bytes = omega (arith, length-drop at bytes, none) in
    ap (λ (n : ℕ). Ok n) all
ends_again (suc count) at bytes inside h =
    let m : Modifier = h.0 in
    let own : List ℕ = h.1 in
    let others : List ℕ = h.2 in
    let next : ℕ = at + length own in
    let stands : StandsAt at bytes m next = (own, others, h.3, h.4, refl) in
    let behind : drop next bytes ≡ others = sym (drop-drop (length own) at bytes) ∙ ap (λ (x : List ℕ). drop (length own) x) h.3 ∙ drop_at own others (length own) refl in
    let size : length (drop at bytes) ≡ length own + length others = ap (λ (x : List ℕ). length x) h.3 ∙ length-append own others in
    let within_it : next ≤ length bytes = omega (arith, length-drop at bytes, size) in
    then_ok (modifier_at at bytes) (m, next) (λ m. modifiers_end count m.1 bytes) (reads_again at bytes m next stands)
    ∙ ends_again count next bytes within_it (subst (λ (x : List ℕ). AreModifiers count next x) (sym behind) h.5)
