-- Replies about variables, item by item.
use Rattle.std.proofs.Common.{◌≡◌, ℕ, suc, ◌+◌, ◌-◌, ◌<◌, ◌≤◌, Bool, true, false, cond, eqb, List, [], ◌∷◌, ◌++◌, length, map, get_or, drop, Option, Some, None, Result, Ok, Err, Vec, Global, refl, sym, ap, ◌∙◌, append_assoc, arith}
use Rattle.std.specs.Prelude.{IfOk}
use Rattle.std.specs.List.{flat_map}
use Rattle.std.specs.Option.{option_map}
use Rattle.std.proofs.lemmas.List.{append-nil, at_drop_more, at_drop_all}
use Rattle.ti_jdwp.specs.Fields.{int, long, text}
use Rattle.ti_jdwp.specs.Variables.{generic_variable_list, generic_variable_row, object_signature, variable_list, variable_row}
use Rattle.ti_jdwp.specs.declared.error.JdwpError.{JdwpError}
use Rattle.ti_jdwp.specs.declared.variables.Value.{Value}
use Rattle.ti_jdwp.specs.declared.variables.VariableRow.{VariableRow}
use Rattle.ti_debugger.specs.declared.asked.Named.{Named}
use Rattle.ti_debugger.specs.declared.asked.Row.{Row}
use Rattle.ti_debugger.specs.VariableReplies.{generic_item, in_front, numbers_from, picked, plain_item, value_at, variables_text}

-- ---- variables

abbrev pub Shape : Type 0
Shape = ℕ × List ℕ × ℕ × ℕ

abbrev pub row_of : VariableRow → Shape
row_of r = (r.first, r.name.now, r.count, r.slot)

abbrev pub named_row : Named → Shape
named_row n = (n.first, n.name, n.count, n.slot)

abbrev plain_of : Shape → List ℕ
plain_of s = long s.0 ++ text s.1 ++ text object_signature ++ int s.2 ++ int s.3

abbrev generic_of : Shape → List ℕ
generic_of s = long s.0 ++ text s.1 ++ text object_signature ++ text [] ++ int s.2 ++ int s.3

first_same : (r : VariableRow) (rows : List VariableRow) (v : Named) (vs : List Named) → map row_of (r ∷ rows) ≡ map named_row (v ∷ vs) → row_of r ≡ named_row v
first_same r rows v vs same = cc same

rest_same : (r : VariableRow) (rows : List VariableRow) (v : Named) (vs : List Named) → map row_of (r ∷ rows) ≡ map named_row (v ∷ vs) → map row_of rows ≡ map named_row vs
rest_same r rows v vs same = cc same

plain_same : (rows : List VariableRow) (vs : List Named) → map row_of rows ≡ map named_row vs → flat_map variable_row rows ≡ flat_map plain_item vs
plain_same [] [] same = refl
plain_same [] (v ∷ vs) same = absurd (cc same)
plain_same (r ∷ rows) [] same = absurd (cc same)
plain_same (r ∷ rows) (v ∷ vs) same =
    ap (λ (l : List ℕ). variable_row r ++ l) (plain_same rows vs (rest_same r rows v vs same))
    ∙ ap (λ (s : Shape). plain_of s ++ flat_map plain_item vs) (first_same r rows v vs same)

generic_same : (rows : List VariableRow) (vs : List Named) → map row_of rows ≡ map named_row vs → flat_map generic_variable_row rows ≡ flat_map generic_item vs
generic_same [] [] same = refl
generic_same [] (v ∷ vs) same = absurd (cc same)
generic_same (r ∷ rows) [] same = absurd (cc same)
generic_same (r ∷ rows) (v ∷ vs) same =
    ap (λ (l : List ℕ). generic_variable_row r ++ l) (generic_same rows vs (rest_same r rows v vs same))
    ∙ ap (λ (s : Shape). generic_of s ++ flat_map generic_item vs) (first_same r rows v vs same)

many_same : (rows : List VariableRow) (vs : List Named) → map row_of rows ≡ map named_row vs → length rows ≡ length vs
many_same [] [] same = refl
many_same [] (v ∷ vs) same = absurd (cc same)
many_same (r ∷ rows) [] same = absurd (cc same)
many_same (r ∷ rows) (v ∷ vs) same = ap suc (many_same rows vs (cc same))

pub plain_told : (r : Result (Vec ℕ Global) JdwpError) (rows : List VariableRow) (vs : List Named) → IfOk r (λ v. v.items ≡ variable_list rows) → map row_of rows ≡ map named_row vs
    → IfOk r (λ v. v.items ≡ variables_text false vs)
plain_told (Ok v) rows vs told same =
    told ∙ ap (λ (n : ℕ). int 0 ++ (int n ++ flat_map variable_row rows)) (many_same rows vs same) ∙ ap (λ (l : List ℕ). int 0 ++ (int (length vs) ++ l)) (plain_same rows vs same)
plain_told (Err e) rows vs told same = tt

pub generic_told : (r : Result (Vec ℕ Global) JdwpError) (rows : List VariableRow) (vs : List Named) → IfOk r (λ v. v.items ≡ generic_variable_list rows) → map row_of rows ≡ map named_row vs
    → IfOk r (λ v. v.items ≡ variables_text true vs)
generic_told (Ok v) rows vs told same =
    told ∙ ap (λ (n : ℕ). int 0 ++ (int n ++ flat_map generic_variable_row rows)) (many_same rows vs same) ∙ ap (λ (l : List ℕ). int 0 ++ (int (length vs) ++ l)) (generic_same rows vs same)
generic_told (Err e) rows vs told same = tt

-- ---- values

first_value : (r : Row) (rows : List Row) (slot : ℕ) (b : Bool) → eqb r.slot slot ≡ b → value_at (r ∷ rows) slot ≡ cond b (Some r.value) (value_at rows slot)
unfolding value_at
first_value r rows slot b is = ap (λ (c : Bool). cond c (Some r.value) (value_at rows slot)) is

pub value_found : (rows : List Row) (i : ℕ) (d : Row) (slot : ℕ) (b : Bool) (total : Option Value) → i < length rows → eqb (get_or rows i d).slot slot ≡ b → value_at (drop i rows) slot ≡ total
    → cond b (Some (get_or rows i d).value) (value_at (drop (i + 1) rows) slot) ≡ total
value_found rows i d slot b total lt is so_far = sym (first_value (get_or rows i d) (drop (i + 1) rows) slot b is) ∙ sym (at_drop_more (λ (l : List Row). value_at l slot) rows i d lt) ∙ so_far

no_value : (slot : ℕ) → value_at [] slot ≡ None
unfolding value_at
no_value slot = refl

pub value_not : (rows : List Row) (i : ℕ) (slot : ℕ) (total : Option Value) → length rows ≤ i → value_at (drop i rows) slot ≡ total → None ≡ total
value_not rows i slot total le so_far = sym (no_value slot) ∙ sym (at_drop_all (λ (l : List Row). value_at l slot) rows i le) ∙ so_far

-- ---- values at slots

next_picked : (rows : List Row) (slot : ℕ) (slots : List ℕ) (o : Option Value) → value_at rows slot ≡ o → picked rows (slot ∷ slots) ≡ in_front o (picked rows slots)
unfolding picked
next_picked rows slot slots o is = ap (λ (v : Option Value). in_front v (picked rows slots)) is

pulled : (front : List Value) (v : Value) (o : Option (List Value)) → option_map (λ (more : List Value). (front ++ v ∷ []) ++ more) o ≡ option_map (λ (more : List Value). front ++ more) (option_map (λ (vs : List Value). v ∷ vs) o)
pulled front v None = refl
pulled front v (Some more) = ap (λ (l : List Value). Some l) (append_assoc front (v ∷ []) more)

pub picked_more : (rows : List Row) (slots : List ℕ) (i d : ℕ) (v : Value) (front new : List Value) (total : Option (List Value)) → i < length slots → value_at rows (get_or slots i d) ≡ Some v → new ≡ front ++ v ∷ []
    → option_map (λ (more : List Value). front ++ more) (picked rows (drop i slots)) ≡ total → option_map (λ (more : List Value). new ++ more) (picked rows (drop (i + 1) slots)) ≡ total
picked_more rows slots i d v front new total lt is added so_far =
    ap (λ (f : List Value). option_map (λ (more : List Value). f ++ more) (picked rows (drop (i + 1) slots))) added
    ∙ pulled front v (picked rows (drop (i + 1) slots))
    ∙ sym (ap (λ (o : Option (List Value)). option_map (λ (more : List Value). front ++ more) o) (next_picked rows (get_or slots i d) (drop (i + 1) slots) (Some v) is))
    ∙ sym (at_drop_more (λ (l : List ℕ). option_map (λ (more : List Value). front ++ more) (picked rows l)) slots i d lt)
    ∙ so_far

pub picked_not : (rows : List Row) (slots : List ℕ) (i d : ℕ) (front : List Value) (total : Option (List Value)) → i < length slots → value_at rows (get_or slots i d) ≡ None
    → option_map (λ (more : List Value). front ++ more) (picked rows (drop i slots)) ≡ total → total ≡ None
picked_not rows slots i d front total lt is so_far =
    sym so_far ∙ at_drop_more (λ (l : List ℕ). option_map (λ (more : List Value). front ++ more) (picked rows l)) slots i d lt
    ∙ ap (λ (o : Option (List Value)). option_map (λ (more : List Value). front ++ more) o) (next_picked rows (get_or slots i d) (drop (i + 1) slots) None is)

none_picked : (rows : List Row) → picked rows [] ≡ Some []
unfolding picked
none_picked rows = refl

pub picked_all : (rows : List Row) (slots : List ℕ) (i : ℕ) (front : List Value) (total : Option (List Value)) → length slots ≤ i
    → option_map (λ (more : List Value). front ++ more) (picked rows (drop i slots)) ≡ total → total ≡ Some front
picked_all rows slots i front total le so_far =
    sym so_far ∙ at_drop_all (λ (l : List ℕ). option_map (λ (more : List Value). front ++ more) (picked rows l)) slots i le
    ∙ ap (λ (o : Option (List Value)). option_map (λ (more : List Value). front ++ more) o) (none_picked rows)
    ∙ ap (λ (l : List Value). Some l) (append-nil front)

-- ---- numbers

pub number_more : (first count i : ℕ) (old new total : List ℕ) → i < count → new ≡ old ++ (first + i) ∷ [] → old ++ numbers_from (first + i) (count - i) ≡ total → new ++ numbers_from (first + (i + 1)) (count - (i + 1)) ≡ total
unfolding numbers_from
number_more first count i old new total lt is so_far =
    let k : count - i ≡ suc (count - (i + 1)) = omega arith in
    let at : first + (i + 1) ≡ (first + i) + 1 = omega arith in
    ap (λ (n : ℕ). new ++ numbers_from n (count - (i + 1))) at
    ∙ ap (λ (l : List ℕ). l ++ numbers_from ((first + i) + 1) (count - (i + 1))) is
    ∙ append_assoc old ((first + i) ∷ []) (numbers_from ((first + i) + 1) (count - (i + 1)))
    ∙ sym (ap (λ (n : ℕ). old ++ numbers_from (first + i) n) k)
    ∙ so_far

pub number_all : (first count i : ℕ) (numbers total : List ℕ) → count ≤ i → numbers ++ numbers_from (first + i) (count - i) ≡ total → numbers ≡ total
unfolding numbers_from
number_all first count i numbers total le so_far =
    let k : count - i ≡ 0 = omega arith in
    sym (append-nil numbers) ∙ sym (ap (λ (n : ℕ). numbers ++ numbers_from (first + i) n) k) ∙ so_far
