-- Answers that are read one item after another.
use Rattle.std.proofs.Common.{◌≡◌, ◌⊎◌, ℕ, ◌+◌, ◌<◌, ◌≤◌, Bool, true, false, cond, eqb, leb, List, [], ◌∷◌, ◌++◌, length, get_or, drop, take, Option, Some, None, Result, Ok, Err, refl, sym, ap, ◌∙◌, append_assoc, arith, inl, inr}
use Rattle.std.specs.Option.{option_map}
use Rattle.std.specs.Prelude.{IsUtf8}
use Rattle.std.specs.Str.{is_utf8}
use Rattle.std.proofs.lemmas.Bool.{and_from, and_parts, cases_Bool, eqb-true, le-leb}
use Rattle.std.proofs.lemmas.Str.{IsUtf8-from_is_utf8, is_utf8-from_IsUtf8}
use Rattle.std.proofs.lemmas.List.{append-nil, at_drop_more, at_drop_all, nil_from_length}
use Rattle.ti_debugger.specs.declared.asked.Named.{Named}
use Rattle.ti_debugger.specs.declared.question.Content.{Content}
use Rattle.ti_debugger.specs.declared.question.TellError.{TellError}
use Rattle.ti_debugger.specs.declared.question.TellError.TheVariants as error
use Rattle.ti_debugger.specs.declared.question.Told.{Told}
use Rattle.ti_debugger.specs.declared.taking.Taken.{Taken}
use Rattle.ti_debugger.specs.declared.question.Variable.{Variable}
use Rattle.ti_debugger.specs.Taking.{Reads, reading_of}
use Rattle.ti_debugger.specs.Questions.{Reading, if_whole, is_name, is_whole, named, named_in, read_all, read_content, then_read}

-- ---- names

pub name_yes : (len : ℕ) (names : List ℕ) → len ≤ length names → IsUtf8 (take len names) → is_name len names ≡ true
name_yes len names many is = and_from (leb len (length names)) (is_utf8 (take len names)) (le-leb len (length names) many) (is_utf8-from_IsUtf8 (take len names) is)

pub name_no : (len : ℕ) (names : List ℕ) → (IsUtf8 (take len names) → ⊥) → is_name len names ≡ false
name_no len names not_is = elim (cases_Bool (is_name len names)) [
  | inl yes' ↦ absurd (not_is (IsUtf8-from_is_utf8 (take len names) (and_parts (leb len (length names)) (is_utf8 (take len names)) yes').1))
  | inr no' ↦ no'
]

abbrev front_of : List Named → List Variable → List ℕ → Option (List Named)
front_of front vs names = option_map (λ (more : List Named). front ++ more) (named_in vs names)

pulled : (front : List Named) (n : Named) (o : Option (List Named)) → option_map (λ (more : List Named). (front ++ n ∷ []) ++ more) o ≡ option_map (λ (more : List Named). front ++ more) (option_map (λ (more : List Named). n ∷ more) o)
pulled front n None = refl
pulled front n (Some more) = ap (λ (l : List Named). Some l) (append_assoc front (n ∷ []) more)

one_named : (v : Variable) (vs : List Variable) (names : List ℕ) → is_name v.name_length names ≡ true → named_in (v ∷ vs) names ≡ option_map (λ (more : List Named). named v (take v.name_length names) ∷ more) (named_in vs (drop v.name_length names))
unfolding named_in
one_named v vs names is = ap (λ (b : Bool). cond b (option_map (λ (more : List Named). named v (take v.name_length names) ∷ more) (named_in vs (drop v.name_length names))) None) is

not_named : (v : Variable) (vs : List Variable) (names : List ℕ) → is_name v.name_length names ≡ false → named_in (v ∷ vs) names ≡ None
unfolding named_in
not_named v vs names is = ap (λ (b : Bool). cond b (option_map (λ (more : List Named). named v (take v.name_length names) ∷ more) (named_in vs (drop v.name_length names))) None) is

pub named_more : (vs : List Variable) (i : ℕ) (d : Variable) (names : List ℕ) (front new : List Named) (total : Option (List Named)) → i < length vs → is_name (get_or vs i d).name_length names ≡ true
    → new ≡ front ++ named (get_or vs i d) (take (get_or vs i d).name_length names) ∷ [] → front_of front (drop i vs) names ≡ total → front_of new (drop (i + 1) vs) (drop (get_or vs i d).name_length names) ≡ total
named_more vs i d names front new total lt is added so_far =
    let v : Variable = get_or vs i d in
    let rest : Option (List Named) = named_in (drop (i + 1) vs) (drop v.name_length names) in
    ap (λ (f : List Named). option_map (λ (more : List Named). f ++ more) rest) added
    ∙ pulled front (named v (take v.name_length names)) rest
    ∙ sym (ap (λ (o : Option (List Named)). option_map (λ (more : List Named). front ++ more) o) (one_named v (drop (i + 1) vs) names is))
    ∙ sym (at_drop_more (λ (l : List Variable). front_of front l names) vs i d lt)
    ∙ so_far

pub named_not : (vs : List Variable) (i : ℕ) (d : Variable) (names : List ℕ) (front : List Named) (total : Option (List Named)) → i < length vs → is_name (get_or vs i d).name_length names ≡ false
    → front_of front (drop i vs) names ≡ total → total ≡ None
named_not vs i d names front total lt is so_far =
    sym so_far ∙ at_drop_more (λ (l : List Variable). front_of front l names) vs i d lt
    ∙ ap (λ (o : Option (List Named)). option_map (λ (more : List Named). front ++ more) o) (not_named (get_or vs i d) (drop (i + 1) vs) names is)

no_more : (names : List ℕ) → length names ≡ 0 → named_in [] names ≡ Some []
unfolding named_in
no_more [] none = refl
no_more (b ∷ names) none = absurd (omega (arith, none))

some_left : (names : List ℕ) → (length names ≡ 0 → ⊥) → named_in [] names ≡ None
unfolding named_in
some_left [] some = absurd (some refl)
some_left (b ∷ names) some = refl

pub named_all : (vs : List Variable) (i : ℕ) (names : List ℕ) (front : List Named) (total : Option (List Named)) → length vs ≤ i → length names ≡ 0 → front_of front (drop i vs) names ≡ total → total ≡ Some front
named_all vs i names front total le none so_far =
    sym so_far ∙ at_drop_all (λ (l : List Variable). front_of front l names) vs i le
    ∙ ap (λ (o : Option (List Named)). option_map (λ (more : List Named). front ++ more) o) (no_more names none)
    ∙ ap (λ (l : List Named). Some l) (append-nil front)

pub named_left : (vs : List Variable) (i : ℕ) (names : List ℕ) (front : List Named) (total : Option (List Named)) → length vs ≤ i → (length names ≡ 0 → ⊥) → front_of front (drop i vs) names ≡ total → total ≡ None
named_left vs i names front total le some so_far =
    sym so_far ∙ at_drop_all (λ (l : List Variable). front_of front l names) vs i le
    ∙ ap (λ (o : Option (List Named)). option_map (λ (more : List Named). front ++ more) o) (some_left names some)

-- ---- values

read_next : (given : ℕ) (t : Told) (ts : List Told) (r : Reading) (next : Option Reading) → read_content given t.slot t.content r ≡ next → read_all given (t ∷ ts) r ≡ then_read (λ (r' : Reading). read_all given ts r') next
unfolding read_all
read_next given t ts r next is = ap (λ (o : Option Reading). then_read (λ (r' : Reading). read_all given ts r') o) is

pub read_more : (given : ℕ) (ts : List Told) (i : ℕ) (d : Told) (r r' : Reading) (total : Option Reading) → i < length ts → read_content given (get_or ts i d).slot (get_or ts i d).content r ≡ Some r'
    → read_all given (drop i ts) r ≡ total → read_all given (drop (i + 1) ts) r' ≡ total
read_more given ts i d r r' total lt is so_far =
    sym (read_next given (get_or ts i d) (drop (i + 1) ts) r (Some r') is) ∙ sym (at_drop_more (λ (l : List Told). read_all given l r) ts i d lt) ∙ so_far

pub read_not : (given : ℕ) (ts : List Told) (i : ℕ) (d : Told) (r start : Reading) → i < length ts → read_content given (get_or ts i d).slot (get_or ts i d).content r ≡ None
    → read_all given (drop i ts) r ≡ read_all given ts start → if_whole (read_all given ts start) ≡ None
read_not given ts i d r start lt is so_far =
    ap (λ (o : Option Reading). if_whole o) (sym so_far ∙ at_drop_more (λ (l : List Told). read_all given l r) ts i d lt ∙ read_next given (get_or ts i d) (drop (i + 1) ts) r None is)

nothing_more : (given : ℕ) (r : Reading) → read_all given [] r ≡ Some r
unfolding read_all
nothing_more given r = refl

pub read_whole : (given : ℕ) (ts : List Told) (i : ℕ) (r start : Reading) (b : Bool) → length ts ≤ i → is_whole r ≡ b → read_all given (drop i ts) r ≡ read_all given ts start → if_whole (read_all given ts start) ≡ cond b (Some r) None
read_whole given ts i r start b le is so_far =
    ap (λ (o : Option Reading). if_whole o) (sym so_far ∙ at_drop_all (λ (l : List Told). read_all given l r) ts i le ∙ nothing_more given r) ∙ ap (λ (c : Bool). cond c (Some r) None) is

pub whole_rest : (r : Reading) → is_whole r ≡ true → r.rest ≡ []
whole_rest r whole = nil_from_length r.rest (eqb-true (length r.rest) 0 (and_parts (eqb r.left 0) (eqb (length r.rest) 0) whole).1)

-- why a value was not read
pub why : (given slot : ℕ) (content : Content) (texts : List ℕ) (old new : Taken) (q : Result ℕ TellError) (e : TellError) (total : Option Reading) → Reads given slot content texts old new q → q ≡ Err e
    → (read_content given slot content (reading_of old texts) ≡ None → total ≡ None) → (e ≡ error.OutOfMemory) ⊎ ((e ≡ error.IllegalArgument) × (total ≡ None))
why given slot content texts old new (Ok n) e total reads is then = absurd (cc is)
why given slot content texts old new (Err error.IllegalArgument) e total reads is then = inr (cc is, then reads)
why given slot content texts old new (Err error.OutOfMemory) e total reads is then = inl (cc is)
why given slot content texts old new (Err error.NotAsked) e total reads is then = absurd reads
