-- The places of threads among the desks of an environment.
use Rattle.std.proofs.Common.{◌≡◌, ◌≢◌, ℕ, zero, suc, ◌+◌, ◌-◌, ◌<◌, ◌≤◌, ◌==◌, nat_le, nat_lt, Bool, true, false, if◌then◌else◌, inl, inr, List, [], ◌∷◌, ◌++◌, length, map, remove, refl, ap, sym, ◌∙◌, arith, subst, Some, None, eq-eqb, ne_eqb, length-set}
use Rattle.std.specs.Prelude.{slice_get, slice_index, slice_index_or, slice_set}
use Rattle.std.specs.List.{list_all}
use Rattle.std.proofs.lemmas.Bool.{cases_eq, cases_lt, cases_Bool, ltb-true, and_parts}
use Rattle.std.proofs.lemmas.Bool.Decides.{nat_tests}
use Rattle.std.proofs.lemmas.List.{map-append}
use Rattle.std.proofs.lemmas.List.Edits.{length-remove}
use Rattle.ti_types.specs.declared.entry.Entry.{Entry}
use Rattle.ti_types.specs.declared.numbers.EnvNo.{EnvNo}
use Rattle.ti_types.specs.declared.numbers.ThreadNo.{ThreadNo}
use Rattle.ti_cell.specs.declared.view.Subject.{Subject}
use Rattle.ti_handshake.specs.Desk.{DeskState}
use Rattle.ti_vmop.specs.Turns.{Listed, AtDesk, AtEach, is_listed}
use Rattle.ti_vmop.proofs.Each.{at_index, set_here}
use Rattle.ti_agent.specs.Env.{Environment, AreInOrder, place_in, places_of, thread_at, threads_at, threads_of}
use Rattle.ti_agent.specs.FreeDesk.{FreeState}
use Rattle.ti_agent.specs.Desks.{desk_refusal, is_new, with_desk, IsTaken}
use Rattle.ti_agent.specs.Traces.{are_there, each_thread}

is_same : (x y : DeskState) → Some x ≡ Some y → x ≡ y
is_same x y e = cc

-- the desk at a place is at the thread there
pub thread_is : (l : List DeskState) (i : ℕ) (p : DeskState) → slice_get l i ≡ Some p → thread_at l i ≡ p.view.subject.thread
thread_is [] i p at = absurd (none at)
  where
    none : slice_get [] i ≡ Some p → ⊥
    none e = cc
thread_is (x ∷ l) zero p at = ap (λ (y : DeskState). y.view.subject.thread) (is_same x p at)
thread_is (x ∷ l) (suc i) p at = thread_is l i p at

-- and so its number is, as code reads it
pub name_of : (l : List DeskState) (i : ℕ) (d : DeskState) (r : ThreadNo) → i < length l → d ≡ slice_index_or l i d → r ≡ d.view.subject.thread → thread_at l i ≡ r
name_of l i d r h e is = thread_is l i d (at_index l i d h ∙ ap (λ (x : DeskState). Some x) (sym e)) ∙ sym is

-- a place is the first desk's, or one of the others'
pub first_place : (x : DeskState) (l : List DeskState) (t : ThreadNo) → x.view.subject.thread.0 ≡ t.0 → place_in (x ∷ l) t ≡ 0
first_place x l t same = ap (λ (b : Bool). if b then 0 else suc (place_in l t)) (eq-eqb x.view.subject.thread.0 t.0 same)

pub later_place : (x : DeskState) (l : List DeskState) (t : ThreadNo) → x.view.subject.thread.0 ≢ t.0 → place_in (x ∷ l) t ≡ suc (place_in l t)
later_place x l t other = ap (λ (b : Bool). if b then 0 else suc (place_in l t)) (ne_eqb x.view.subject.thread.0 t.0 other)

-- the desk at a thread's place is at this thread
pub about_at : (l : List DeskState) (t : ThreadNo) (p : DeskState) → slice_get l (place_in l t) ≡ Some p → p.view.subject.thread ≡ t
about_at [] t p at = absurd (none at)
  where
    none : slice_get [] (place_in [] t) ≡ Some p → ⊥
    none e = cc
about_at (x ∷ l) t p at =
    elim (cases_eq x.view.subject.thread.0 t.0) [
      | inl same ↦
          let is : x ≡ p = is_same x p (ap (slice_get (x ∷ l)) (sym (first_place x l t same)) ∙ at) in
          ap (λ (y : DeskState). y.view.subject.thread) (sym is) ∙ (λ j. record { 0 = same j })
      | inr other ↦ about_at l t p (ap (slice_get (x ∷ l)) (sym (later_place x l t other)) ∙ at)
    ]

-- the first desk at a thread is at its place
pub place_hit : (l : List DeskState) (t : ThreadNo) (i : ℕ) → i < length l → ((j : ℕ) → j < i → (thread_at l j).0 ≢ t.0) → (thread_at l i).0 ≡ t.0 → place_in l t ≡ i
place_hit [] t i h before e = absurd (omega (arith, h))
place_hit (x ∷ l) t zero h before e = first_place x l t e
place_hit (x ∷ l) t (suc i) h before e =
    later_place x l t (before 0 (omega arith)) ∙ ap suc (place_hit l t i (omega (arith, h)) (λ j k. before (suc j) (omega (arith, k))) e)

-- and if there is none, the place is the number of desks
pub place_none : (l : List DeskState) (t : ThreadNo) → ((j : ℕ) → j < length l → (thread_at l j).0 ≢ t.0) → place_in l t ≡ length l
place_none [] t before = refl
place_none (x ∷ l) t before = later_place x l t (before 0 (omega arith)) ∙ ap suc (place_none l t (λ j k. before (suc j) (omega (arith, k))))

-- in order of the numbers, each desk at a thread is the first
pub place_here : (l : List DeskState) (t : ThreadNo) (i : ℕ) → AreInOrder l → i < length l → (thread_at l i).0 ≡ t.0 → place_in l t ≡ i
place_here l t i order h e = place_hit l t i h (λ j k same. alone j k same) e
  where
    alone : (j : ℕ) → j < i → (thread_at l j).0 ≡ t.0 → ⊥
    alone j k same =
        let less = order j i k h in
        omega (arith, less, same, e)

-- a desk at each place
there : (l : List DeskState) (i : ℕ) → i < length l → (p : DeskState) × (slice_get l i ≡ Some p)
there [] i h = absurd (omega (arith, h))
there (x ∷ l) zero h = (x, refl)
there (x ∷ l) (suc i) h = there l i (omega (arith, h))

-- in order of the numbers, none is a thread's if the one that a search found is not
pub place_missed : (l : List DeskState) (t : ThreadNo) (i : ℕ) → AreInOrder l → i ≤ length l → ((j : ℕ) (p : DeskState) → j + 1 ≡ i → slice_get l j ≡ Some p → p.view.subject.thread.0 < t.0)
    → ((p : DeskState) → slice_get l i ≡ Some p → t.0 ≤ p.view.subject.thread.0) → (i < length l → (thread_at l i).0 ≢ t.0) → place_in l t ≡ length l
place_missed l t i order within below from other = place_none l t (λ j k. elim (cases_lt j i) [ inl before ↦ low j before k | inr behind ↦ high j behind k ])
  where
    low : (j : ℕ) → j < i → j < length l → (thread_at l j).0 ≢ t.0
    low j before k e =
        let p = there l (i - 1) (omega (arith, before, within)) in
        let last = below (i - 1) p.0 (omega (arith, before)) p.1 in
        let number = ap (λ (x : ThreadNo). x.0) (thread_is l (i - 1) p.0 p.1) in
        elim (cases_eq j (i - 1)) [
          | inl same ↦ (let z = ap (λ (m : ℕ). (thread_at l m).0) same in omega (arith, z, e, number, last))
          | inr less ↦ (let z = order j (i - 1) (omega (arith, before, less)) (omega (arith, before, within)) in omega (arith, z, e, number, last))
        ]

    high : (j : ℕ) → i ≤ j → j < length l → (thread_at l j).0 ≢ t.0
    high j behind k e =
        let p = there l i (omega (arith, behind, k)) in
        let first = from p.0 p.1 in
        let number = ap (λ (x : ThreadNo). x.0) (thread_is l i p.0 p.1) in
        elim (cases_eq j i) [
          | inl same ↦ other (omega (arith, behind, k)) (sym (ap (λ (m : ℕ). (thread_at l m).0) same) ∙ e)
          | inr more ↦ (let z = order i j (omega (arith, behind, more)) k in omega (arith, z, e, number, first))
        ]

pub place_back : (l : List DeskState) (t : ThreadNo) → place_in l t < length l → thread_at l (place_in l t) ≡ t
place_back [] t h = absurd (omega (arith, h))
place_back (x ∷ l) t h =
    elim (cases_eq x.view.subject.thread.0 t.0) [
      | inl same ↦ ap (thread_at (x ∷ l)) (first_place x l t same) ∙ (λ j. record { 0 = same j })
      | inr other ↦
          let later = later_place x l t other in
          ap (thread_at (x ∷ l)) later ∙ place_back l t (omega (arith, h, later))
    ]

-- Desks that are at the same threads as before

pub order_stays : (old new : List DeskState) → length new ≡ length old → ((i : ℕ) → thread_at new i ≡ thread_at old i) → AreInOrder old → AreInOrder new
order_stays old new len same order i j h k =
    let less = order i j h (omega (arith, k, len)) in
    omega (arith, less, ap (λ (t : ThreadNo). t.0) (same i), ap (λ (t : ThreadNo). t.0) (same j))

pub place_set : (l : List DeskState) (i : ℕ) (p q : DeskState) (t : ThreadNo) → slice_get l i ≡ Some p → q.view.subject ≡ p.view.subject → place_in (slice_set l i q) t ≡ place_in l t
place_set [] i p q t at same = refl
place_set (x ∷ l) zero p q t at same =
    let number : q.view.subject.thread.0 ≡ x.view.subject.thread.0 = ap (λ (s : Subject). s.thread.0) same ∙ ap (λ (y : DeskState). y.view.subject.thread.0) (sym (is_same x p at)) in
    ap (λ (n : ℕ). if n == t.0 then 0 else suc (place_in l t)) number
place_set (x ∷ l) (suc i) p q t at same = ap (λ (n : ℕ). if x.view.subject.thread.0 == t.0 then 0 else suc n) (place_set l i p q t at same)

-- the desk at a thread's place, after that desk was set
pub after_here : (l : List DeskState) (t : ThreadNo) (p q w : DeskState) → slice_get l (place_in l t) ≡ Some p → q.view.subject ≡ p.view.subject
    → slice_get (slice_set l (place_in l t) q) (place_in (slice_set l (place_in l t) q) t) ≡ Some w → q ≡ w
after_here l t p q w at same e =
    let still : place_in (slice_set l (place_in l t) q) t ≡ place_in l t = place_set l (place_in l t) p q t at same in
    set_here l (place_in l t) q w (ap (slice_get (slice_set l (place_in l t) q)) (sym still) ∙ e)

names_set : (l : List DeskState) (i : ℕ) (p q : DeskState) (j : ℕ) → slice_get l i ≡ Some p → q.view.subject ≡ p.view.subject → thread_at (slice_set l i q) j ≡ thread_at l j
names_set [] i p q j at same = refl
names_set (x ∷ l) zero p q zero at same = ap (λ (s : Subject). s.thread) same ∙ ap (λ (y : DeskState). y.view.subject.thread) (sym (is_same x p at))
names_set (x ∷ l) zero p q (suc j) at same = refl
names_set (x ∷ l) (suc i) p q zero at same = refl
names_set (x ∷ l) (suc i) p q (suc j) at same = names_set l i p q j at same

pub order_set : (l : List DeskState) (i : ℕ) (p q : DeskState) → slice_get l i ≡ Some p → q.view.subject ≡ p.view.subject → AreInOrder l → AreInOrder (slice_set l i q)
order_set l i p q at same order = order_stays l (slice_set l i q) (length-set l i q) (λ j. names_set l i p q j at same) order

pub each_name : (old new : List DeskState) → length new ≡ length old → ((i : ℕ) (p q : DeskState) → slice_get old i ≡ Some p → slice_get new i ≡ Some q → q.view.subject ≡ p.view.subject) → (i : ℕ) → thread_at new i ≡ thread_at old i
each_name [] [] len same i = refl
each_name [] (q ∷ new) len same i = absurd (omega (arith, len))
each_name (p ∷ old) [] len same i = absurd (omega (arith, len))
each_name (p ∷ old) (q ∷ new) len same zero = ap (λ (s : Subject). s.thread) (same 0 p q refl refl)
each_name (p ∷ old) (q ∷ new) len same (suc i) = each_name old new (omega (arith, len)) (λ i a b. same (suc i) a b) i

pub names_each : (threads : Listed) (old new : List DeskState) (more : EnvNo → List Entry) → AtEach threads old new more → (i : ℕ) → thread_at new i ≡ thread_at old i
names_each threads old new more k = each_name old new k.0 (λ i p q a b. one (is_listed i threads) p q (k.1 i p q a b))
  where
    one : (b : Bool) (p q : DeskState) → AtDesk b p q (more p.env) → q.view.subject ≡ p.view.subject
    one true p q h = h.goes.subject
    one false p q h = ap (λ (x : DeskState). x.view.subject) h

pub order_each : (threads : Listed) (old new : List DeskState) (more : EnvNo → List Entry) → AtEach threads old new more → AreInOrder old → AreInOrder new
order_each threads old new more k order = order_stays old new k.0 (names_each threads old new more k) order

-- Lists of threads

pub names_same : (old new : List DeskState) (places : List ThreadNo) → ((i : ℕ) → thread_at new i ≡ thread_at old i) → threads_at new places ≡ threads_at old places
names_same old new [] same = refl
names_same old new (x ∷ places) same = λ j. same x.0 j ∷ names_same old new places same j

pub count_names : (desks : List DeskState) (places : List ThreadNo) → length (threads_at desks places) ≡ length places
count_names desks [] = refl
count_names desks (x ∷ places) = ap suc (count_names desks places)

-- where one of a list has no desk, not all are there
pub not_there : (n : ℕ) (desks : List DeskState) (threads : List ThreadNo) (k : ℕ) (d : ThreadNo) → k < length threads → n ≤ place_in desks (slice_index_or threads k d) → are_there n (places_of desks threads) ≡ false
not_there n desks [] k d h far = absurd (omega (arith, h))
not_there n desks (t ∷ threads) zero d h far =
    let off : nat_lt (place_in desks t) n ≡ false = grind (arith, nat_tests, far) in
    grind (arith, off)
not_there n desks (t ∷ threads) (suc k) d h far =
    let rest = not_there n desks threads k d (omega (arith, h)) far in
    grind (arith, rest)

-- the numbers at the places of threads that are there
pub named_back : (desks : List DeskState) (threads : List ThreadNo) → are_there (length desks) (places_of desks threads) ≡ true → threads_at desks (places_of desks threads) ≡ threads
named_back desks [] there = refl
named_back desks (t ∷ threads) there =
    let here = place_back desks t (ltb-true _ _ (and_parts _ _ there).0) in
    let rest = named_back desks threads (and_parts _ _ there).1 in
    λ j. here j ∷ rest j

abbrev shift : ThreadNo → ThreadNo
shift t = record { 0 = suc t.0 }

each_cons : (n : ℕ) → each_thread (suc n) ≡ (record { 0 = 0 }) ∷ map shift (each_thread n)
each_cons zero = refl
each_cons (suc n) =
    ap (λ (l : List ThreadNo). l ++ (record { 0 = suc n }) ∷ []) (each_cons n)
    ∙ ap (λ (l : List ThreadNo). (record { 0 = 0 }) ∷ l) (sym (map-append shift (each_thread n) ((record { 0 = n }) ∷ [])))

shifted : (p : DeskState) (l : List DeskState) (places : List ThreadNo) → threads_at (p ∷ l) (map shift places) ≡ threads_at l places
shifted p l [] = refl
shifted p l (x ∷ places) = ap (λ (m : List ThreadNo). thread_at l x.0 ∷ m) (shifted p l places)

-- the numbers at all places
pub all_named : (desks : List DeskState) → threads_at desks (each_thread (length desks)) ≡ threads_of desks
all_named [] = refl
all_named (p ∷ l) =
    ap (threads_at (p ∷ l)) (each_cons (length l))
    ∙ ap (λ (m : List ThreadNo). p.view.subject.thread ∷ m) (shifted p l (each_thread (length l)) ∙ all_named l)

-- Desks that are at threads 0, 1, 2 and so on

-- One desk more

-- of a list of desks whose numbers are below one, each number is
pub below_at : (l : List DeskState) (n i : ℕ) → list_all (λ p. nat_lt p.view.subject.thread.0 n) l ≡ true → i < length l → (thread_at l i).0 < n
below_at [] n i all h = absurd (omega (arith, h))
below_at (x ∷ l) n zero all h = ltb-true _ _ (and_parts _ _ all).0
below_at (x ∷ l) n (suc i) all h = below_at l n i (and_parts _ _ all).1 (omega (arith, h))

all_below : (l : List DeskState) (n : ℕ) → ((i : ℕ) → i < length l → (thread_at l i).0 < n) → list_all (λ p. nat_lt p.view.subject.thread.0 n) l ≡ true
all_below [] n each = refl
all_below (x ∷ l) n each =
    let first : nat_lt x.view.subject.thread.0 n ≡ true = grind (arith, nat_tests, each 0 (omega arith)) in
    let rest = all_below l n (λ i h. each (suc i) (omega (arith, h))) in
    grind (arith, first, rest)

-- in order of the numbers, the last one tells
pub last_tells : (l : List DeskState) (n k : ℕ) → AreInOrder l → length l ≡ suc k → list_all (λ p. nat_lt p.view.subject.thread.0 n) l ≡ nat_lt (thread_at l k).0 n
last_tells l n k order long =
    elim (cases_Bool (nat_lt (thread_at l k).0 n)) [
      | inl yes' ↦ all_below l n (λ i h. below i h (ltb-true _ _ yes')) ∙ sym yes'
      | inr no' ↦
          elim (cases_Bool (list_all (λ p. nat_lt p.view.subject.thread.0 n) l)) [
            | inl all ↦ (let less = below_at l n k all (omega (arith, long)) in absurd (grind (arith, nat_tests, less, no')))
            | inr not_all ↦ not_all ∙ sym no'
          ]
    ]
  where
    below : (i : ℕ) → i < length l → (thread_at l k).0 < n → (thread_at l i).0 < n
    below i h last =
        elim (cases_lt i k) [
          | inl before ↦ (let less = order i k before (omega (arith, long)) in omega (arith, less, last))
          | inr at ↦
              let same : i ≡ k = omega (arith, at, h, long) in
              subst (λ (j : ℕ). (thread_at l j).0 < n) (sym same) last
        ]

-- a thread whose number is new has no desk
pub new_nowhere : (s : Environment) (t : ThreadNo) → is_new s t ≡ true → place_in s.desks t ≡ length s.desks
new_nowhere s t new = place_none s.desks t (λ j h e. other j (below_at s.desks t.0 j (and_parts (nat_le s.state.known t.0) _ new).1 h) e)
  where
    other : (j : ℕ) → (thread_at s.desks j).0 < t.0 → (thread_at s.desks j).0 ≡ t.0 → ⊥
    other j less e = omega (arith, less, e)

-- the new desk's place
pub place_more : (l : List DeskState) (p : DeskState) → place_in l p.view.subject.thread ≡ length l → place_in (l ++ p ∷ []) p.view.subject.thread ≡ length l
place_more [] p none = first_place p [] p.view.subject.thread refl
place_more (x ∷ l) p none =
    elim (cases_eq x.view.subject.thread.0 p.view.subject.thread.0) [
      | inl same ↦ absurd (omega (arith, none, first_place x l p.view.subject.thread same))
      | inr other ↦
          let rest : place_in l p.view.subject.thread ≡ length l = omega (arith, none, later_place x l p.view.subject.thread other) in
          later_place x (l ++ p ∷ []) p.view.subject.thread other ∙ ap suc (place_more l p rest)
    ]

pub get_last : (l : List DeskState) (p : DeskState) → slice_get (l ++ p ∷ []) (length l) ≡ Some p
get_last [] p = refl
get_last (x ∷ l) p = get_last l p

-- and those of the others
pub others_more : (l : List DeskState) (p : DeskState) (u : ThreadNo) → p.view.subject.thread.0 ≢ u.0 → slice_get (l ++ p ∷ []) (place_in (l ++ p ∷ []) u) ≡ slice_get l (place_in l u)
others_more [] p u other = ap (slice_get (p ∷ [])) (later_place p [] u other)
others_more (x ∷ l) p u other =
    elim (cases_eq x.view.subject.thread.0 u.0) [
      | inl same ↦ ap (slice_get ((x ∷ l) ++ p ∷ [])) (first_place x (l ++ p ∷ []) u same) ∙ ap (slice_get (x ∷ l)) (sym (first_place x l u same))
      | inr off ↦ ap (slice_get ((x ∷ l) ++ p ∷ [])) (later_place x (l ++ p ∷ []) u off) ∙ (others_more l p u other ∙ ap (slice_get (x ∷ l)) (sym (later_place x l u off)))
    ]

-- why a desk is not added says whose it is, and that its number is new
pub added_new : (s : Environment) (f : FreeState) → desk_refusal s f ≡ None → is_new s f.desk.view.subject.thread ≡ true
added_new s f free = grind (arith, free)

-- after `add_desk` the new desk is at its thread's place
pub add_here : (s : Environment) (f : FreeState) → desk_refusal s f ≡ None → slice_get (with_desk s f).desks (place_in (with_desk s f).desks f.desk.view.subject.thread) ≡ Some f.desk
add_here s f free =
    let none = new_nowhere s f.desk.view.subject.thread (added_new s f free) in
    ap (slice_get (s.desks ++ f.desk ∷ [])) (place_more s.desks f.desk none) ∙ get_last s.desks f.desk

-- and each other thread has the desk that it had
pub add_others : (s : Environment) (f : FreeState) (u : ThreadNo) → f.desk.view.subject.thread.0 ≢ u.0 → slice_get (with_desk s f).desks (place_in (with_desk s f).desks u) ≡ slice_get s.desks (place_in s.desks u)
add_others s f u other = others_more s.desks f.desk u other

-- One desk less

-- where the element at a place was, before the one at place p was removed
abbrev pub behind : ℕ → ℕ → ℕ
behind zero i = suc i
behind (suc p) zero = 0
behind (suc p) (suc i) = suc (behind p i)

pub behind_less : (p i j : ℕ) → i < j → behind p i < behind p j
behind_less zero i j h = omega (arith, h)
behind_less (suc p) zero zero h = absurd (omega (arith, h))
behind_less (suc p) zero (suc j) h = omega arith
behind_less (suc p) (suc i) zero h = absurd (omega (arith, h))
behind_less (suc p) (suc i) (suc j) h = (let r = behind_less p i j (omega (arith, h)) in omega (arith, r))

behind_most : (p i : ℕ) → behind p i ≤ suc i
behind_most zero i = omega arith
behind_most (suc p) zero = omega arith
behind_most (suc p) (suc i) = (let r = behind_most p i in omega (arith, r))

pub behind_other : (p i : ℕ) → behind p i ≢ p
behind_other zero i e = omega (arith, e)
behind_other (suc p) zero e = omega (arith, e)
behind_other (suc p) (suc i) e = behind_other p i (omega (arith, e))

pub behind_there : {X : Type 0} → (l : List X) (p i : ℕ) → p < length l → i < length (remove l p) → behind p i < length l
behind_there l p i h k = omega (arith, behind_most p i, length-remove l p h, k)

pub get_removed : {X : Type 0} → (l : List X) (p i : ℕ) → slice_get (remove l p) i ≡ slice_get l (behind p i)
get_removed [] zero i = refl
get_removed [] (suc p) i = refl
get_removed (x ∷ l) zero i = refl
get_removed (x ∷ l) (suc p) zero = refl
get_removed (x ∷ l) (suc p) (suc i) = get_removed l p i

pub spent_removed : (l : List ℕ) (p i : ℕ) → slice_index (remove l p) i ≡ slice_index l (behind p i)
spent_removed [] zero i = refl
spent_removed [] (suc p) i = refl
spent_removed (x ∷ l) zero i = refl
spent_removed (x ∷ l) (suc p) zero = refl
spent_removed (x ∷ l) (suc p) (suc i) = spent_removed l p i

thread_removed : (l : List DeskState) (p i : ℕ) → thread_at (remove l p) i ≡ thread_at l (behind p i)
thread_removed [] zero i = refl
thread_removed [] (suc p) i = refl
thread_removed (x ∷ l) zero i = refl
thread_removed (x ∷ l) (suc p) zero = refl
thread_removed (x ∷ l) (suc p) (suc i) = thread_removed l p i

pub order_removed : (l : List DeskState) (p : ℕ) → p < length l → AreInOrder l → AreInOrder (remove l p)
order_removed l p h order i j less k =
    let a = order (behind p i) (behind p j) (behind_less p i j less) (behind_there l p j h k) in
    omega (arith, a, ap (λ (t : ThreadNo). t.0) (thread_removed l p i), ap (λ (t : ThreadNo). t.0) (thread_removed l p j))

-- the thread whose desk was removed has none any more
pub gone_from : (l : List DeskState) (t : ThreadNo) → AreInOrder l → place_in l t < length l → place_in (remove l (place_in l t)) t ≡ length (remove l (place_in l t))
gone_from l t order h = place_none (remove l (place_in l t)) t (λ j k e. none j k e)
  where
    none : (j : ℕ) → j < length (remove l (place_in l t)) → (thread_at (remove l (place_in l t)) j).0 ≡ t.0 → ⊥
    none j k e =
        let p = place_in l t in
        let was : (thread_at l (behind p j)).0 ≡ t.0 = ap (λ (x : ThreadNo). x.0) (sym (thread_removed l p j)) ∙ e in
        let here : p ≡ behind p j = place_here l t (behind p j) order (behind_there l p j h k) was in
        behind_other p j (sym here)

-- each other thread has the desk that it had
pub place_behind : (l : List DeskState) (t u : ThreadNo) → t.0 ≢ u.0 → place_in l t < length l → behind (place_in l t) (place_in (remove l (place_in l t)) u) ≡ place_in l u
place_behind [] t u other h = absurd (omega (arith, h))
place_behind (x ∷ l) t u other h =
    elim (cases_eq x.view.subject.thread.0 t.0) [
      | inl same ↦
          let off : x.view.subject.thread.0 ≢ u.0 = λ e. other (sym same ∙ e) in
          let first : behind 0 (place_in (remove (x ∷ l) 0) u) ≡ place_in (x ∷ l) u = sym (later_place x l u off) in
          subst (λ (n : ℕ). behind n (place_in (remove (x ∷ l) n) u) ≡ place_in (x ∷ l) u) (sym (first_place x l t same)) first
      | inr away ↦
          let later : place_in (x ∷ l) t ≡ suc (place_in l t) = later_place x l t away in
          subst (λ (n : ℕ). behind n (place_in (remove (x ∷ l) n) u) ≡ place_in (x ∷ l) u) (sym later) (rest (place_in l t) (λ off. place_behind l t u other (omega (arith, h, later))))
    ]
  where
    rest : (p : ℕ) → (x.view.subject.thread.0 ≢ u.0 → behind p (place_in (remove l p) u) ≡ place_in l u) → behind (suc p) (place_in (x ∷ remove l p) u) ≡ place_in (x ∷ l) u
    rest p before =
        elim (cases_eq x.view.subject.thread.0 u.0) [
          | inl at ↦ ap (behind (suc p)) (first_place x (remove l p) u at) ∙ sym (first_place x l u at)
          | inr off ↦ ap (behind (suc p)) (later_place x (remove l p) u off) ∙ (ap suc (before off) ∙ sym (later_place x l u off))
        ]

taken_there : (l : List DeskState) (i : ℕ) (p : DeskState) → slice_get l i ≡ Some p → i < length l
taken_there [] i p at = absurd (none at)
  where
    none : slice_get [] i ≡ Some p → ⊥
    none e = cc
taken_there (x ∷ l) zero p at = omega arith
taken_there (x ∷ l) (suc i) p at = (let r = taken_there l i p at in omega (arith, r))

-- after `take_desk` each other thread has the desk that it had
pub take_others : (s new : Environment) (t u : ThreadNo) (f : FreeState) → IsTaken s new t f → t.0 ≢ u.0 → slice_get new.desks (place_in new.desks u) ≡ slice_get s.desks (place_in s.desks u)
take_others s new t u f taken other =
    let p = place_in s.desks t in
    let same : new.desks ≡ remove s.desks p = ap (λ (x : Environment). x.desks) taken.new_is in
    ap (λ (l : List DeskState). slice_get l (place_in l u)) same
    ∙ (get_removed s.desks p (place_in (remove s.desks p) u) ∙ ap (slice_get s.desks) (place_behind s.desks t u other (taken_there s.desks p f.desk taken.there)))

-- and what was spent there
pub take_spent : (s new : Environment) (t u : ThreadNo) (f : FreeState) → IsTaken s new t f → t.0 ≢ u.0 → slice_index new.state.spent (place_in new.desks u) ≡ slice_index s.state.spent (place_in s.desks u)
take_spent s new t u f taken other =
    let p = place_in s.desks t in
    ap (λ (x : Environment). slice_index x.state.spent (place_in x.desks u)) taken.new_is
    ∙ (spent_removed s.state.spent p (place_in (remove s.desks p) u) ∙ ap (slice_index s.state.spent) (place_behind s.desks t u other (taken_there s.desks p f.desk taken.there)))

-- a desk that was set is there
pub set_get : (l : List DeskState) (i : ℕ) (p q : DeskState) → slice_get l i ≡ Some p → slice_get (slice_set l i q) i ≡ Some q
set_get [] i p q at = cc
set_get (x ∷ l) zero p q at = refl
set_get (x ∷ l) (suc i) p q at = set_get l i p q at
