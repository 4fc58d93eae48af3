-- What is kept of a thread, and what is freed.
use Rattle.std.proofs.Common.{◌≡◌, ◌∙◌, ◌⊎◌, ◌+◌, ◌<◌, ◌≤◌, ℕ, zero, suc, Bool, true, false, not, cond, eqb, List, [], ◌∷◌, ◌++◌, Some, length, map, filter, take, drop, slice_get, get_or, set, refl, ap, sym, subst, inl, inr, arith, length-append}
use Rattle.std.specs.Prelude.{◌≢◌}
use Rattle.std.specs.List.{sum_by}
use Rattle.std.proofs.lemmas.List.Sums.{sum_by-append, sum_by-cons}
use Rattle.std.proofs.lemmas.Bool.{eqb-true, ne_eqb}
use Rattle.std.proofs.lemmas.List.{take-append-le, take_all}
use Rattle.ti_debugger.specs.Kept.{IsKept, Names, NamesBelow, all_disposed, bytes_of, disposed, is_which, lessened, numbered, of_thread, size_of, stays, told_once, without}
use Rattle.ti_debugger.specs.declared.objects.Disposal.{Disposal}
use Rattle.ti_debugger.specs.declared.objects.Kept.{Kept}
use Rattle.ti_debugger.specs.declared.objects.Object.{Object}

-- nothing of a thread is left
gone_next : (thread : ℕ) (k : Kept) (list : List Kept) (is : Bool) → eqb k.thread thread ≡ is → of_thread thread (without thread list) ≡ []
    → of_thread thread (cond (not is) (k ∷ without thread list) (without thread list)) ≡ []
gone_next thread k list true is rest = rest
gone_next thread k list false is rest = ap (λ (c : Bool). cond c (k ∷ of_thread thread (without thread list)) (of_thread thread (without thread list))) is ∙ rest

pub none_of_it : (thread : ℕ) (list : List Kept) → of_thread thread (without thread list) ≡ []
none_of_it thread [] = refl
none_of_it thread (k ∷ list) = gone_next thread k list (eqb k.thread thread) refl (none_of_it thread list)

-- what was told of another stays
stays_next : (other thread : ℕ) (k : Kept) (list : List Kept) (is : Bool) → eqb k.thread thread ≡ is → other ≢ thread → of_thread other (without thread list) ≡ of_thread other list
    → of_thread other (cond (not is) (k ∷ without thread list) (without thread list)) ≡ cond (eqb k.thread other) (k ∷ of_thread other list) (of_thread other list)
stays_next other thread k list false is differ rest = ap (λ (l : List Kept). cond (eqb k.thread other) (k ∷ l) l) rest
stays_next other thread k list true is differ rest =
    let same : k.thread ≡ thread = eqb-true k.thread thread is in
    let no : eqb k.thread other ≡ false = ne_eqb k.thread other (λ h. differ (sym h ∙ same)) in
    rest ∙ sym (ap (λ (c : Bool). cond c (k ∷ of_thread other list) (of_thread other list)) no)

pub others_stay : (other thread : ℕ) (list : List Kept) → other ≢ thread → of_thread other (without thread list) ≡ of_thread other list
others_stay other thread [] differ = refl
others_stay other thread (k ∷ list) differ = stays_next other thread k list (eqb k.thread thread) refl differ (others_stay other thread list differ)

-- ---- what numbers name

pub names_same : (list : List Kept) → Names list list
names_same list n o is = is

pub names_again : (a b c : List Kept) → Names a b → Names b c → Names a c
names_again a b c first next n o is = first n o (next n o is)

behind : (k : Kept) (list : List Kept) (n : ℕ) (o : Object) → IsKept list n o → IsKept (k ∷ list) n o
behind k list n o is = record { place = suc is.place; kept = is.kept; at = is.at; number = is.number; has = is.has }

in_front : (k j : Kept) (list rest : List Kept) (n : ℕ) (o : Object) (place : ℕ) (x : Kept) → slice_get (j ∷ rest) place ≡ Some x → x.number ≡ n → x.object ≡ o → j.number ≡ k.number → j.object ≡ k.object → (IsKept rest n o → IsKept list n o)
    → IsKept (k ∷ list) n o
in_front k j list rest n o zero x at number has same_number same before =
    let is : x ≡ j = cc (at) in
    record { place = zero; kept = k; at = refl; number = sym same_number ∙ sym (ap (λ (y : Kept). y.number) is) ∙ number; has = sym same ∙ sym (ap (λ (y : Kept). y.object) is) ∙ has }
in_front k j list rest n o (suc place) x at number has same_number same before = behind k list n o (before (record { place = place; kept = x; at = at; number = number; has = has }))

left_next : (k : Kept) (list rest : List Kept) (is : Bool) → Names list rest → Names (k ∷ list) (cond is (k ∷ rest) rest)
left_next k list rest false before n o is = behind k list n o (before n o is)
left_next k list rest true before n o is = in_front k k list rest n o is.place is.kept is.at is.number is.has refl refl (before n o)

-- what is left was kept before
pub names_filtered : (f : Kept → Bool) (list : List Kept) → Names list (filter f list)
names_filtered f [] n o is = is
names_filtered f (k ∷ list) n o is = left_next k list (filter f list) (f k) (names_filtered f list) n o is

pub names_left : (thread : ℕ) (list : List Kept) → Names list (without thread list)
names_left thread list = names_filtered (λ (k : Kept). not (eqb k.thread thread)) list

-- what counts as told otherwise is the same
pub names_mapped : (f : Kept → Kept) → ((k : Kept) → ((f k).number ≡ k.number) × ((f k).object ≡ k.object)) → (list : List Kept) → Names list (map f list)
names_mapped f same [] n o is = is
names_mapped f same (k ∷ list) n o is = in_front k (f k) list (map f list) n o is.place is.kept is.at is.number is.has (same k).0 (same k).1 (names_mapped f same list n o)

if_same : (b : Bool) (k j : Kept) → (j.number ≡ k.number) × (j.object ≡ k.object) → ((cond b j k).number ≡ k.number) × ((cond b j k).object ≡ k.object)
if_same true k j same = same
if_same false k j same = (refl, refl)

pub names_told : (first count : ℕ) (list : List Kept) → Names list (map (told_once first count) list)
names_told first count list = names_mapped (told_once first count) (λ k. if_same _ k _ (refl, refl)) list

pub names_disposed : (which : Disposal) (list : List Kept) → Names list (disposed which list)
names_disposed which list =
    names_again list (filter (stays which) list) (disposed which list) (names_filtered (stays which) list)
    (names_mapped (lessened which) (λ k. if_same (is_which which k) k _ (refl, refl)) (filter (stays which) list))

pub names_all_disposed : (which : List Disposal) (list : List Kept) → Names list (all_disposed which list)
names_all_disposed [] list = names_same list
names_all_disposed (w ∷ which) list = names_again list (disposed w list) (all_disposed which (disposed w list)) (names_disposed w list) (names_all_disposed which (disposed w list))

last_or_before : (list more : List Kept) (x : Kept) (place : ℕ) → slice_get (list ++ more) place ≡ Some x → ((at : ℕ) × (slice_get more at ≡ Some x)) ⊎ (slice_get list place ≡ Some x)
last_or_before [] more x place at = inl (place, at)
last_or_before (y ∷ list) more x zero at = inr at
last_or_before (y ∷ list) more x (suc place) at = last_or_before list more x place at

numbers_above : (thread first : ℕ) (more : List Object) (at : ℕ) (x : Kept) → slice_get (numbered thread first more) at ≡ Some x → first ≤ x.number
numbers_above thread first [] at x is = absurd (cc is)
numbers_above thread first (o ∷ more) zero x is =
    let same : x ≡ record { thread = thread; number = first; told = 0; object = o } = cc is in
    omega (arith, ap (λ (k : Kept). k.number) same)
numbers_above thread first (o ∷ more) (suc at) x is = omega (arith, numbers_above thread (suc first) more at x is)

new_or_before : (thread first : ℕ) (list : List Kept) (more : List Object) (x : Kept) (n place : ℕ) (o : Object) → n < first → x.number ≡ n → x.object ≡ o
    → ((at : ℕ) × (slice_get (numbered thread first more) at ≡ Some x)) ⊎ (slice_get list place ≡ Some x) → IsKept list n o
new_or_before thread first list more x n place o below number has (inl is) = absurd (omega (arith, below, number, numbers_above thread first more is.0 x is.1))
new_or_before thread first list more x n place o below number has (inr at) = record { place = place; kept = x; at = at; number = number; has = has }

-- what is new has new numbers
pub names_added : (thread first : ℕ) (old new : List Kept) (more : List Object) → new ≡ old ++ numbered thread first more → NamesBelow first old new
names_added thread first old new more push n o below is =
    let kept = subst (λ (l : List Kept). IsKept l n o) push is in
    new_or_before thread first old more kept.kept n kept.place o below kept.number kept.has (last_or_before old (numbered thread first more) kept.kept kept.place kept.at)

-- ---- one after the other

-- the first of a list become others
abbrev pub first_become : (Kept → Kept) → ℕ → List Kept → List Kept
first_become f zero list = list
first_become f (suc i) [] = []
first_become f (suc i) (k ∷ list) = f k ∷ first_become f i list

one_more : (f : Kept → Kept) (i : ℕ) (list : List Kept) (d : Kept) → i < length list
    → set (first_become f i list) i (f (get_or (first_become f i list) i d)) ≡ first_become f (suc i) list
one_more f i [] d within = absurd (omega (arith, within))
one_more f zero (k ∷ list) d within = refl
one_more f (suc i) (k ∷ list) d within = ap (λ (rest : List Kept). f k ∷ rest) (one_more f i list d (omega (arith, within)))

-- one more becomes another
pub become_more : (f : Kept → Kept) (i : ℕ) (list items : List Kept) (d k : Kept) → items ≡ first_become f i list → i < length list → k ≡ f (get_or items i d)
    → set items i k ≡ first_become f (i + 1) list
become_more f i list items d k is within became =
    let more : suc i ≡ i + 1 = omega arith in
    let at : set items i (f (get_or items i d)) ≡ first_become f (suc i) list =
    subst (λ (x : List Kept). set x i (f (get_or x i d)) ≡ first_become f (suc i) list) (sym is) (one_more f i list d within) in
    subst (λ (n : ℕ). set items i k ≡ first_become f n list) more (ap (λ (x : Kept). set items i x) became ∙ at)

all_become : (f : Kept → Kept) (i : ℕ) (list : List Kept) → length list ≤ i → first_become f i list ≡ map f list
all_become f zero [] over = refl
all_become f zero (k ∷ list) over = absurd (omega (arith, over))
all_become f (suc i) [] over = refl
all_become f (suc i) (k ∷ list) over = ap (λ (rest : List Kept). f k ∷ rest) (all_become f i list (omega (arith, over)))

-- all of them did, and were written back
pub all_written : (f : Kept → Kept) (i n : ℕ) (list items : List Kept) → items ≡ first_become f i list → length list ≤ i → length items ≡ length list → n ≡ length list
    → take n (items ++ drop (length items) list) ≡ map f list
all_written f i n list items is over same long =
    let a : n ≤ length items = omega (arith, same, long) in
    let b : length items ≤ n = omega (arith, same, long) in
    take-append-le n items (drop (length items) list) a ∙ take_all n items b ∙ is ∙ all_become f i list over

-- ---- how many there are

pub many_numbered : (thread first : ℕ) (more : List Object) → length (numbered thread first more) ≡ length more
many_numbered thread first [] = refl
many_numbered thread first (o ∷ more) = ap suc (many_numbered thread (suc first) more)

pub bytes_numbered : (thread first : ℕ) (more : List Object) → bytes_of (numbered thread first more) ≡ sum_by size_of more
bytes_numbered thread first [] = refl
bytes_numbered thread first (o ∷ more) =
    sum_by-cons (λ (k : Kept). size_of k.object) (record { thread = thread; number = first; told = 0; object = o }) (numbered thread (suc first) more)
    ∙ ap (λ (n : ℕ). size_of o + n) (bytes_numbered thread (suc first) more)
    ∙ sym (sum_by-cons size_of o more)

pub many_added : (thread first bound : ℕ) (old new : List Kept) (more : List Object) → new ≡ old ++ numbered thread first more → length old + length more ≤ bound → length new ≤ bound
many_added thread first bound old new more push room =
    let long : length new ≡ length old + length (numbered thread first more) = ap (λ (l : List Kept). length l) push ∙ length-append old (numbered thread first more) in
    omega (arith, long, many_numbered thread first more, room)

pub bytes_added : (thread first bound : ℕ) (old new : List Kept) (more : List Object) → new ≡ old ++ numbered thread first more → bytes_of old + sum_by size_of more ≤ bound → bytes_of new ≤ bound
bytes_added thread first bound old new more push room =
    let long : bytes_of new ≡ bytes_of old + bytes_of (numbered thread first more) = ap bytes_of push ∙ sum_by-append (λ (k : Kept). size_of k.object) old (numbered thread first more) in
    omega (arith, long, bytes_numbered thread first more, room)
