-- One thread of a list after another.
use Rattle.std.proofs.Common.{◌≡◌, ◌≢◌, ℕ, zero, suc, ◌+◌, ◌<◌, ◌≤◌, ◌==◌, ◌||◌, Bool, true, false, inl, inr, List, [], ◌∷◌, ◌++◌, length, take, refl, ap, sym, ◌∙◌, arith, subst, eq-eqb, ne_eqb, Some, length-set, append-nil}
use Rattle.std.specs.Prelude.{map, option_map, slice_get, slice_index_or, slice_set, slice_index}
use Rattle.std.proofs.lemmas.List.{map-append}
use Rattle.std.proofs.lemmas.Bool.{cases_eq, cases_Bool, ltb-true, and_parts}
use Rattle.ti_types.specs.declared.entry.Entry.{Entry}
use Rattle.ti_types.specs.declared.numbers.EnvNo.{EnvNo}
use Rattle.ti_types.specs.declared.limits.Limits.{Limits}
use Rattle.ti_handshake.proofs.Holding.{goes_then}
use Rattle.std.proofs.lemmas.List.Sums.{fold-append}
use Rattle.ti_types.specs.declared.numbers.ThreadNo.{ThreadNo}
use Rattle.ti_env.specs.Env.{EnvValue, left_at, spent_at, with_spent}
use Rattle.ti_env.proofs.LeftLaws.{left_some}
use Rattle.ti_replay.specs.Makers.{StartsWith}
use Rattle.ti_replay.specs.Standing.{is_standing}
use Rattle.ti_handshake.specs.Call.{Waits, found}
use Rattle.std.proofs.Common.{ℤ}
use Rattle.ti_types.specs.declared.answer.Answer.{Answer}
use Rattle.ti_types.specs.declared.entry.Entry.TheVariants.{Read}
use Rattle.ti_replay.specs.Replies.{reply}
use Rattle.ti_replay.specs.Answers.{or_zero}
use Rattle.ti_slot.specs.Waiting.{HasRoomFor}
use Rattle.ti_types.specs.Frames as buffer
use Rattle.ti_replay.specs.Fronts.{TellsOf}
use Rattle.ti_handshake.specs.Desk.{DeskState, IsSame}
use Rattle.ti_vmop.specs.Turns.{Listed, is_listed, AreDistinct, AreThere, are_paid, spend_all, HasAdded, AtDesk, AtEach, AllStand, IsRead, cell_at, cells_of}

cell_same : (old new : List DeskState) (i : ℕ) → length new ≡ length old → ((p q : DeskState) → slice_get old i ≡ Some p → slice_get new i ≡ Some q → q.cell ≡ p.cell) → cell_at new i ≡ cell_at old i
cell_same [] [] i h f = refl
cell_same [] (y ∷ ys) i h f = absurd (omega (arith, h))
cell_same (x ∷ xs) [] i h f = absurd (omega (arith, h))
cell_same (x ∷ xs) (y ∷ ys) zero h f = ap Some (f x y refl refl)
cell_same (x ∷ xs) (y ∷ ys) (suc i) h f = cell_same xs ys i (omega (arith, h)) f

cell_stays : (b : Bool) (p q : DeskState) (more : List Entry) → AtDesk b p q more → q.cell ≡ p.cell
cell_stays true p q more h = h.same.cell
cell_stays false p q more h = ap (λ (x : DeskState). x.cell) h

-- what adds entries at desks leaves them at their cells
pub cells_stay : (threads done : Listed) (old new : List DeskState) (more : EnvNo → List Entry) → AtEach done old new more → cells_of threads new ≡ cells_of threads old
cells_stay [] done old new more each = refl
cells_stay (x ∷ threads) done old new more each =
    let here : cell_at new x.0.0 ≡ cell_at old x.0.0 =
    cell_same old new x.0.0 each.0 (λ p q at then. cell_stays (is_listed x.0.0 done) p q (more p.env) (each.1 x.0.0 p q at then)) in
    λ i. here i ∷ cells_stay threads done old new more each i

pub at_index : {A : Type 0} (l : List A) (k : ℕ) (d : A) → k < length l → slice_get l k ≡ Some (slice_index_or l k d)
at_index [] k d h = absurd (omega arith)
at_index (x ∷ xs) zero d h = refl
at_index (x ∷ xs) (suc k) d h = at_index xs k d (omega arith)

pub take_more : {A : Type 0} (l : List A) (k n : ℕ) (d : A) → n ≡ suc k → k < length l → take n l ≡ take k l ++ slice_index_or l k d ∷ []
take_more [] k n d e h = absurd (omega arith)
take_more (x ∷ xs) zero n d e h = ap (λ (i : ℕ). take i (x ∷ xs)) e ∙ none xs
  where
    none : (ys : List _) → take 1 (x ∷ ys) ≡ x ∷ []
    none [] = refl
    none (y ∷ ys) = refl
take_more (x ∷ xs) (suc k) n d e h = ap (λ (i : ℕ). take i (x ∷ xs)) e ∙ ap (λ l. x ∷ l) (take_more xs k (suc k) d refl (omega arith))

pub listed_at : (threads : Listed) (k : ℕ) (d : ThreadNo × ℕ) → k < length threads → is_listed (slice_index_or threads k d).0.0 threads ≡ true
listed_at [] k d h = absurd (omega arith)
listed_at (x ∷ threads) zero d h = grind (arith, eq-eqb x.0.0 x.0.0 refl)
listed_at (x ∷ threads) (suc k) d h = grind (arith, listed_at threads k d (omega arith))

pub there_at : (n : ℕ) (threads : Listed) (k : ℕ) (d : ThreadNo × ℕ) → AreThere n threads → k < length threads → (slice_index_or threads k d).0.0 < n
there_at n [] k d t h = absurd (omega arith)
there_at n (x ∷ threads) zero d t h = ltb-true _ _ (and_parts _ _ t).0
there_at n (x ∷ threads) (suc k) d t h = there_at n threads k d (and_parts _ _ t).1 (omega arith)

pub paid_at : (state : EnvValue) (threads : Listed) (k : ℕ) (d : ThreadNo × ℕ) → are_paid state threads ≡ true → k < length threads → (slice_index_or threads k d).1 < left_at state (slice_index_or threads k d).0
paid_at state [] k d t h = absurd (omega arith)
paid_at state (x ∷ threads) zero d t h = ltb-true _ _ (and_parts _ _ t).0
paid_at state (x ∷ threads) (suc k) d t h = paid_at state threads k d (and_parts _ _ t).1 (omega arith)

-- two equal numbers in a list
same_listed : (i j : ℕ) (threads : Listed) → i ≡ j → is_listed i threads ≡ is_listed j threads
same_listed i j threads e = ap (λ (n : ℕ). is_listed n threads) e

pub distinct_at : (threads : Listed) (k : ℕ) (d : ThreadNo × ℕ) → AreDistinct threads → k < length threads → is_listed (slice_index_or threads k d).0.0 (take k threads) ≡ false
distinct_at [] k d a h = absurd (omega arith)
distinct_at (x ∷ threads) zero d a h = refl
distinct_at (x ∷ threads) (suc k) d a h =
    let i = (slice_index_or threads k d).0.0 in
    let rest : is_listed i (take k threads) ≡ false = distinct_at threads k d a.1 (omega arith) in
    let there : is_listed i threads ≡ true = listed_at threads k d (omega arith) in
    elim (cases_eq x.0.0 i) [
      | inl same ↦ let o : true ≡ false = sym there ∙ (same_listed i x.0.0 threads (sym same) ∙ a.0) in cc
      | inr other ↦ grind (arith, ne_eqb x.0.0 i other, rest)
    ]

pub listed-snoc : (i : ℕ) (done : Listed) (x : ThreadNo × ℕ) → is_listed i (done ++ x ∷ []) ≡ (is_listed i done || x.0.0 == i)
listed-snoc i [] x = grind arith
listed-snoc i (y ∷ done) x = grind (arith, listed-snoc i done x)

pub set_here : (l : List DeskState) (t : ℕ) (x w : DeskState) → slice_get (slice_set l t x) t ≡ Some w → x ≡ w
set_here [] t x w e = cc
set_here (y ∷ ys) zero x w e = cc
set_here (y ∷ ys) (suc t) x w e = set_here ys t x w e

pub set_there : (l : List DeskState) (t i : ℕ) (x w : DeskState) → t ≢ i → slice_get (slice_set l t x) i ≡ Some w → slice_get l i ≡ Some w
set_there [] t i x w n e = e
set_there (y ∷ ys) zero zero x w n e = absurd (n refl)
set_there (y ∷ ys) zero (suc i) x w n e = e
set_there (y ∷ ys) (suc t) zero x w n e = e
set_there (y ∷ ys) (suc t) (suc i) x w n e = set_there ys t i x w (λ h. n (ap suc h)) e

-- nothing was done yet
pub each_none : (desks : List DeskState) (more : EnvNo → List Entry) → AtEach [] desks desks more
each_none desks more = (refl, λ i p q e f. some_same (sym f ∙ e))
  where
    some_same : {p q : DeskState} → Some q ≡ Some p → q ≡ p
    some_same h = cc h

-- a desk that was not done is as it was
pub not_done : (done : Listed) (old now : List DeskState) (more : EnvNo → List Entry) (t : ℕ) (d : DeskState) → AtEach done old now more → is_listed t done ≡ false → t < length old
    → slice_get old t ≡ Some (slice_index_or now t d)
not_done done old now more t d a unlisted there =
    let here : t < length now = omega (arith, a.0) in
    let p = slice_index_or old t d in
    let at = at_index old t d there in
    let q = a.1 t p (slice_index_or now t d) at (at_index now t d here) in
    let same : slice_index_or now t d ≡ p = subst (λ (b : Bool). AtDesk b p (slice_index_or now t d) (more p.env)) unlisted q in
    at ∙ ap Some (sym same)

-- one more thread of the list
pub each_step : (done : Listed) (old now : List DeskState) (more : EnvNo → List Entry) (x : ThreadNo × ℕ) (d q : DeskState) → AtEach done old now more → is_listed x.0.0 done ≡ false → x.0.0 < length old
    → HasAdded (slice_index_or now x.0.0 d) q (more (slice_index_or now x.0.0 d).env) → AtEach (done ++ x ∷ []) old (slice_set now x.0.0 q) more
each_step done old now more x d q a unlisted there added = (length-set now x.0.0 q ∙ a.0, one)
  where
    was : DeskState
    was = slice_index_or now x.0.0 d

    one : (i : ℕ) (p r : DeskState) → slice_get old i ≡ Some p → slice_get (slice_set now x.0.0 q) i ≡ Some r → AtDesk (is_listed i (done ++ x ∷ [])) p r (more p.env)
    one i p r e f =
        elim (cases_eq x.0.0 i) [
          | inl same ↦
              let is : q ≡ r = set_here now i q r (subst (λ (t : ℕ). slice_get (slice_set now t q) i ≡ Some r) same f) in
              let before : Some p ≡ Some (slice_index_or now x.0.0 d) = sym e ∙ (ap (slice_get old) (sym same) ∙ not_done done old now more x.0.0 d a unlisted there) in
              let place : slice_index_or now x.0.0 d ≡ p = cc before in
              let listed : true ≡ is_listed i (done ++ x ∷ []) = sym (listed-snoc i done x ∙ grind (arith, eq-eqb x.0.0 i same)) in
              subst (λ (b : Bool). AtDesk b p r (more p.env)) listed (subst (λ (z : DeskState × DeskState). HasAdded z.0 z.1 (more z.0.env)) (λ j. (place j, is j)) added)
          | inr other ↦
              let still = a.1 i p r e (set_there now x.0.0 i q r other f) in
              let listed : is_listed i done ≡ is_listed i (done ++ x ∷ []) = sym (listed-snoc i done x ∙ grind (arith, ne_eqb x.0.0 i other)) in
              subst (λ (b : Bool). AtDesk b p r (more p.env)) listed still
        ]

pub adds : (p q : DeskState) (more : List Entry) → IsSame p q → Waits p.view q.view more → HasAdded p q more
adds p q more same k = record { same = same; goes = k.goes; mine = k.mine; posted = k.posted }

pub each_more : (threads : Listed) (k n : ℕ) (old now : List DeskState) (more : EnvNo → List Entry) (c : ThreadNo × ℕ) (d q : DeskState) → AreDistinct threads → AreThere (length old) threads → k < length threads → n ≡ suc k
    → AtEach (take k threads) old now more → HasAdded (slice_index_or now (slice_index_or threads k c).0.0 d) q (more (slice_index_or now (slice_index_or threads k c).0.0 d).env)
    → AtEach (take n threads) old (slice_set now (slice_index_or threads k c).0.0 q) more
each_more threads k n old now more c d q distinct there within e a added =
    let x = slice_index_or threads k c in
    subst (λ (done : Listed). AtEach done old (slice_set now x.0.0 q) more) (sym (take_more threads k n c e within))
    (each_step (take k threads) old now more x d q a (distinct_at threads k c distinct within) (there_at (length old) threads k c there within) added)

pub take_all : {A : Type 0} (l : List A) (n : ℕ) → length l ≤ n → take n l ≡ l
take_all [] zero h = refl
take_all [] (suc n) h = refl
take_all (x ∷ xs) zero h = absurd (omega arith)
take_all (x ∷ xs) (suc n) h = ap (λ l. x ∷ l) (take_all xs n (omega arith))

pub each_all : (threads : Listed) (n : ℕ) (old now : List DeskState) (more : EnvNo → List Entry) → length threads ≤ n → AtEach (take n threads) old now more → AtEach threads old now more
each_all threads n old now more h a = subst (λ (done : Listed). AtEach done old now more) (take_all threads n h) a

-- What an environment has spent

set_other : (l : List ℕ) (i j v : ℕ) → i ≢ j → slice_index (slice_set l i v) j ≡ slice_index l j
set_other [] i j v n = refl
set_other (x ∷ xs) zero zero v n = absurd (n refl)
set_other (x ∷ xs) zero (suc j) v n = refl
set_other (x ∷ xs) (suc i) zero v n = refl
set_other (x ∷ xs) (suc i) (suc j) v n = set_other xs i j v (λ h. n (ap suc h))

pub record Untouched (s z : EnvValue) (t : ThreadNo) : Type 0 where
  pub spent : spent_at z t ≡ spent_at s t
  pub calls : z.limits.calls ≡ s.limits.calls
  pub count : length z.spent ≡ length s.spent

pub untouched : (s : EnvValue) (done : Listed) (t : ThreadNo) → is_listed t.0 done ≡ false → Untouched s (spend_all s done) t
untouched s [] t n = record { spent = refl; calls = refl; count = refl }
untouched s (y ∷ done) t n =
    let one : (y.0.0 == t.0) ≡ false = grind arith in
    let rest : is_listed t.0 done ≡ false = grind arith in
    let apart : y.0.0 ≢ t.0 = λ e. let o : true ≡ false = sym (eq-eqb y.0.0 t.0 e) ∙ one in cc in
    let u = untouched (with_spent s y.0) done t rest in
    record {
      spent = u.spent ∙ set_other s.spent y.0.0 t.0 (spent_at s y.0 + 1) apart;
      calls = u.calls;
      count = u.count ∙ length-set s.spent y.0.0 (spent_at s y.0 + 1);
    }

pub spends : (s z w : EnvValue) (threads : Listed) (k n : ℕ) (c : ThreadNo × ℕ) → k < length threads → n ≡ suc k → z ≡ spend_all s (take k threads) → w ≡ with_spent z (slice_index_or threads k c).0
    → w ≡ spend_all s (take n threads)
spends s z w threads k n c h e is more =
    more ∙ (ap (λ (x : EnvValue). with_spent x (slice_index_or threads k c).0) is
    ∙ (sym (fold-append (λ x y. with_spent x y.0) s (take k threads) (slice_index_or threads k c ∷ [])) ∙ ap (spend_all s) (sym (take_more threads k n c e h))))

-- what a thread of the list has left before it is stopped
pub may_spend : (s z : EnvValue) (threads : Listed) (k : ℕ) (c : ThreadNo × ℕ) → AreDistinct threads → are_paid s threads ≡ true → k < length threads → z ≡ spend_all s (take k threads)
    → spent_at z (slice_index_or threads k c).0 < z.limits.calls
may_spend s z threads k c distinct paid h is =
    let x = slice_index_or threads k c in
    let u = untouched s (take k threads) x.0 (distinct_at threads k c distinct h) in
    let left = paid_at s threads k c paid h in
    let some : spent_at s x.0 < s.limits.calls = left_some s x.0 (omega (arith, left)) in
    subst (λ (w : EnvValue). spent_at w x.0 < w.limits.calls) (sym is) (omega (arith, u.spent, u.calls, some))

pub may_reach : (s z : EnvValue) (threads : Listed) (k n : ℕ) (c : ThreadNo × ℕ) → AreDistinct threads → AreThere n threads → length s.spent ≡ n → k < length threads → z ≡ spend_all s (take k threads)
    → (slice_index_or threads k c).0.0 < length z.spent
may_reach s z threads k n c distinct there count h is =
    let x = slice_index_or threads k c in
    let u = untouched s (take k threads) x.0 (distinct_at threads k c distinct h) in
    let t = there_at n threads k c there h in
    subst (λ (w : EnvValue). x.0.0 < length w.spent) (sym is) (omega (arith, u.count, count, t))

pub not_paid : (state : EnvValue) (threads : Listed) (k : ℕ) (c : ThreadNo × ℕ) → k < length threads → left_at state (slice_index_or threads k c).0 ≤ (slice_index_or threads k c).1 → are_paid state threads ≡ false
not_paid state threads k c h few =
    elim (cases_Bool (are_paid state threads)) [
      | inl paid ↦ absurd (omega (arith, paid_at state threads k c paid h, few))
      | inr unpaid ↦ unpaid
    ]

pub in_range : (l : List DeskState) (i : ℕ) (x : DeskState) → slice_get l i ≡ Some x → i < length l
in_range [] i x h = cc
in_range (y ∷ ys) zero x h = omega arith
in_range (y ∷ ys) (suc i) x h = let r = in_range ys i x h in omega (arith, r)

-- one entry after another
pub each_then : (threads : Listed) (a b c : List DeskState) (f : EnvNo → List Entry) → AtEach threads a b f → AtEach threads b c (λ e. []) → AtEach threads a c f
each_then threads a b c f p q = (q.0 ∙ p.0, one)
  where
    both : (t : Bool) (x y z : DeskState) (more : List Entry) → AtDesk t x y more → AtDesk t y z [] → AtDesk t x z more
    both false x y z more h k = k ∙ h
    both true x y z more h k = record {
      same = record { cell = k.same.cell ∙ h.same.cell; env = k.same.env ∙ h.same.env; cancelled = k.same.cancelled ∙ h.same.cancelled; former = k.same.former ∙ h.same.former };
      goes = goes_then x.view y.view z.view h.goes k.goes;
      mine = k.mine ∙ (append-nil y.view.mine ∙ h.mine);
      posted = k.posted ∙ h.posted;
    }

    one : (i : ℕ) (x z : DeskState) → slice_get a i ≡ Some x → slice_get c i ≡ Some z → AtDesk (is_listed i threads) x z (f x.env)
    one i x z e g =
        let within : i < length a = in_range a i x e in
        let y = slice_index_or b i x in
        let at : slice_get b i ≡ Some y = at_index b i x (omega (arith, p.0, within)) in
        both (is_listed i threads) x y z (f x.env) (p.1 i x y e at) (q.1 i y z at g)

-- Which threads stand

stood_step : (now : List DeskState) (done : Listed) (x : ThreadNo × ℕ) (q d : DeskState) → AllStand done now → is_standing q.view.subject.limits q.view.seen q.env ≡ true → AllStand (done ++ x ∷ []) (slice_set now x.0.0 q)
stood_step now done x q d all here i p e listed =
    elim (cases_eq x.0.0 i) [
      | inl same ↦
          let is : q ≡ p = set_here now i q p (subst (λ (t : ℕ). slice_get (slice_set now t q) i ≡ Some p) same e) in
          subst (λ (z : DeskState). is_standing z.view.subject.limits z.view.seen z.env ≡ true) is here
      | inr other ↦
          let was : is_listed i done ≡ true = grind (arith, ne_eqb x.0.0 i other, sym (listed-snoc i done x) ∙ listed) in
          all i p (set_there now x.0.0 i q p other e) was
    ]

pub stood_more : (threads : Listed) (k n : ℕ) (now : List DeskState) (c : ThreadNo × ℕ) (q d : DeskState) → k < length threads → n ≡ suc k → AllStand (take k threads) now
    → is_standing q.view.subject.limits q.view.seen q.env ≡ true → AllStand (take n threads) (slice_set now (slice_index_or threads k c).0.0 q)
stood_more threads k n now c q d h e all here =
    subst (λ (done : Listed). AllStand done (slice_set now (slice_index_or threads k c).0.0 q)) (sym (take_more threads k n c e h)) (stood_step now (take k threads) (slice_index_or threads k c) q d all here)

pub stood_all : (threads : Listed) (n : ℕ) (now : List DeskState) → length threads ≤ n → AllStand (take n threads) now → AllStand threads now
stood_all threads n now h a = subst (λ (done : Listed). AllStand done now) (take_all threads n h) a

-- a desk after a hold that added nothing, and saw its thread stand
pub stands_now : (p q : DeskState) → IsSame p q → Waits p.view q.view [] → is_standing p.view.subject.limits q.view.seen p.env ≡ true → is_standing q.view.subject.limits q.view.seen q.env ≡ true
stands_now p q same k s = subst (λ (x : Limits × EnvNo). is_standing x.0 q.view.seen x.1 ≡ true) (λ i. ((sym k.goes.subject i).limits, sym same.env i)) s

-- a count that was passed on, m, is the count n
pub is_read : (a b p q : DeskState) (m n : ℤ) (x : Answer) → m ≡ n → Some a ≡ Some p → b ≡ q → Waits a.view b.view (Read a.env m ∷ []) → reply a.view.subject.limits b.view.seen (length (found a.view b.view)) ≡ Some x
    → ((here : StartsWith (found a.view b.view) a.view.seen) × TellsOf a.view.subject.limits a.view.seen here.0 m x) → is_standing a.view.subject.limits b.view.seen a.env ≡ true → IsRead p q n x
is_read a b p q m n x same one two hold replied tells stands =
    let first : a ≡ p = cc one in
    let here : IsRead a b m x = record { last = hold.last; replied = replied; here = tells.0; tells = tells.1; stands = stands } in
    subst (λ (z : ℤ × (DeskState × DeskState)). IsRead z.1.0 z.1.1 z.0 x) (λ i. (same i, (first i, two i))) here

pub read_adds : (a b : DeskState) (m n : ℤ) → m ≡ n → IsSame a b → Waits a.view b.view (Read a.env m ∷ []) → HasAdded a b (Read a.env n ∷ [])
read_adds a b m n e same k = subst (λ (z : ℤ). HasAdded a b (Read a.env z ∷ [])) e (adds a b (Read a.env m ∷ []) same k)

pub read_room : (a : DeskState) (m n : ℤ) (b : buffer.Trace) → m ≡ n → HasRoomFor a.view.subject.limits (or_zero m) b → HasRoomFor a.view.subject.limits (or_zero n) b
read_room a m n b e h = subst (λ (z : ℤ). HasRoomFor a.view.subject.limits (or_zero z) b) e h

-- the cells of one listed desk more, and of all

pub cells_more : (threads : Listed) (k n : ℕ) (desks items : List DeskState) (c : ThreadNo × ℕ) (d : DeskState) → AreThere (length desks) threads → k < length threads → n ≡ suc k
    → map (λ (p : DeskState). Some p.cell) items ≡ cells_of (take k threads) desks
    → map (λ (p : DeskState). Some p.cell) (items ++ slice_index_or desks (slice_index_or threads k c).0.0 d ∷ []) ≡ cells_of (take n threads) desks
cells_more threads k n desks items c d there within e so_far =
    let x = slice_index_or threads k c in
    let at : slice_get desks x.0.0 ≡ Some (slice_index_or desks x.0.0 d) = at_index desks x.0.0 d (there_at (length desks) threads k c there within) in
    let one : Some (slice_index_or desks x.0.0 d).cell ≡ cell_at desks x.0.0 = ap (option_map (λ (p : DeskState). p.cell)) (sym at) in
    map-append (λ (p : DeskState). Some p.cell) items (slice_index_or desks x.0.0 d ∷ [])
    ∙ ((λ i. so_far i ++ one i ∷ [])
    ∙ (sym (map-append (λ (y : ThreadNo × ℕ). cell_at desks y.0.0) (take k threads) (x ∷ [])) ∙ ap (λ (l : Listed). cells_of l desks) (sym (take_more threads k n c e within))))

pub cells_all : (threads : Listed) (k : ℕ) (desks items : List DeskState) → length threads ≤ k → map (λ (p : DeskState). Some p.cell) items ≡ cells_of (take k threads) desks
    → map (λ (p : DeskState). Some p.cell) items ≡ cells_of threads desks
cells_all threads k desks items h so_far = so_far ∙ ap (λ (l : Listed). cells_of l desks) (take_all threads k h)
