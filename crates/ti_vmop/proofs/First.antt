-- A global operation that goes on from thread to thread, and never waits.
use Rattle.std.proofs.Common.{◌≡◌, ◌≢◌, ℕ, suc, ◌<◌, ◌≤◌, ◌==◌, ◌||◌, Bool, true, false, inl, inr, List, [], ◌++◌, length, take, refl, ap, sym, ◌∙◌, arith, subst, eq-eqb, ne_eqb, Some, length-set, append-nil}
use Rattle.std.specs.Prelude.{slice_get, slice_index_or, slice_set}
use Rattle.std.proofs.lemmas.Bool.{cases_eq}
use Rattle.ti_types.specs.declared.entry.Entry.{Entry}
use Rattle.ti_types.specs.declared.numbers.EnvNo.{EnvNo}
use Rattle.ti_types.specs.declared.numbers.ThreadNo.{ThreadNo}
use Rattle.ti_handshake.specs.Desk.{DeskState}
use Rattle.ti_handshake.proofs.Holding.{goes_then}
use Rattle.ti_vmop.specs.Turns.{Listed, is_listed, AreDistinct, AreThere, HasAdded, AtDesk, AtEach}
use Rattle.ti_vmop.specs.Tries.{HasLooked, AtDeskOf, AtFirst}
use Rattle.ti_vmop.proofs.Each.{at_index, take_more, take_all, listed_at, there_at, distinct_at, listed-snoc, set_here, set_there, in_range}

-- One thing after another at a desk

then_added : (p d q : DeskState) (more : List Entry) → HasAdded p d [] → HasAdded d q more → HasAdded p q more
then_added p d q more h k = record {
  same = record { cell = k.same.cell ∙ h.same.cell; env = k.same.env ∙ h.same.env; cancelled = k.same.cancelled ∙ h.same.cancelled; former = k.same.former ∙ h.same.former };
  goes = goes_then p.view d.view q.view h.goes k.goes;
  mine = k.mine ∙ ap (λ (l : List Entry). l ++ more) (h.mine ∙ append-nil p.view.mine);
  posted = k.posted ∙ h.posted;
}

pub then_looked : (p d q : DeskState) (more : List Entry) → HasAdded p d more → HasLooked d q → HasAdded p q more
then_looked p d q more h (inl same) = subst (λ (x : DeskState). HasAdded p x more) (sym same) h
then_looked p d q more h (inr k) = record {
  same = record { cell = k.same.cell ∙ h.same.cell; env = k.same.env ∙ h.same.env; cancelled = k.same.cancelled ∙ h.same.cancelled; former = k.same.former ∙ h.same.former };
  goes = goes_then p.view d.view q.view h.goes k.goes;
  mine = k.mine ∙ (append-nil d.view.mine ∙ h.mine);
  posted = k.posted ∙ h.posted;
}

looked_then : (p d q : DeskState) (more : EnvNo → List Entry) → HasLooked p d → HasAdded d q (more d.env) → HasAdded p q (more p.env)
looked_then p d q more (inl same) k = subst (λ (x : DeskState). HasAdded x q (more x.env)) same k
looked_then p d q more (inr h) k = subst (λ (e : EnvNo). HasAdded p q (more e)) h.same.env (then_added p d q (more d.env) h k)

looks_then : (p d q : DeskState) → HasLooked p d → HasLooked d q → HasLooked p q
looks_then p d q (inl same) k = subst (λ (x : DeskState). HasLooked x q) same k
looks_then p d q (inr h) k = inr (then_looked p d q [] h k)

-- One desk of many

pub first_none : (threads : Listed) (desks : List DeskState) (more : EnvNo → List Entry) → AtFirst 0 threads desks desks more
first_none threads desks more = (refl, λ i p q e f. one (is_listed i threads) p q (more p.env) (same p q (sym f ∙ e)))
  where
    same : (p q : DeskState) → Some q ≡ Some p → q ≡ p
    same p q h = cc h

    one : (b : Bool) (p q : DeskState) (l : List Entry) → q ≡ p → AtDeskOf false b p q l
    one true p q l h = inl h
    one false p q l h = h

pub first_all : (threads : Listed) (n : ℕ) (old now : List DeskState) (more : EnvNo → List Entry) → length threads ≤ n → AtFirst n threads old now more → AtEach threads old now more
first_all threads n old now more h a = (a.0, one)
  where
    both : (b : Bool) (p q : DeskState) (l : List Entry) → AtDeskOf b b p q l → AtDesk b p q l
    both true p q l d = d
    both false p q l d = d

    one : (i : ℕ) (p q : DeskState) → slice_get old i ≡ Some p → slice_get now i ≡ Some q → AtDesk (is_listed i threads) p q (more p.env)
    one i p q e f =
        let d : AtDeskOf (is_listed i threads) (is_listed i threads) p q (more p.env) =
        subst (λ (l : Listed). AtDeskOf (is_listed i l) (is_listed i threads) p q (more p.env)) (take_all threads n h) (a.1 i p q e f) in
        both (is_listed i threads) p q (more p.env) d

-- one desk is another now
first_set : (n m : ℕ) (threads : Listed) (old now : List DeskState) (more : EnvNo → List Entry) (x : ThreadNo × ℕ) (q : DeskState) → AtFirst n threads old now more
    → ((i : ℕ) → x.0.0 ≢ i → is_listed i (take n threads) ≡ is_listed i (take m threads))
    → ((p : DeskState) → slice_get old x.0.0 ≡ Some p → AtDeskOf (is_listed x.0.0 (take m threads)) (is_listed x.0.0 threads) p q (more p.env))
    → AtFirst m threads old (slice_set now x.0.0 q) more
first_set n m threads old now more x q a others here = (length-set now x.0.0 q ∙ a.0, one)
  where
    one : (i : ℕ) (p r : DeskState) → slice_get old i ≡ Some p → slice_get (slice_set now x.0.0 q) i ≡ Some r → AtDeskOf (is_listed i (take m threads)) (is_listed i threads) p r (more p.env)
    one i p r e f =
        elim (cases_eq x.0.0 i) [
          | inl same ↦
              let is : q ≡ r = set_here now i q r (subst (λ (t : ℕ). slice_get (slice_set now t q) i ≡ Some r) same f) in
              let at = here p (subst (λ (t : ℕ). slice_get old t ≡ Some p) (sym same) e) in
              subst (λ (z : ℕ × DeskState). AtDeskOf (is_listed z.0 (take m threads)) (is_listed z.0 threads) p z.1 (more p.env)) (λ j. (same j, is j)) at
          | inr other ↦
              subst (λ (b : Bool). AtDeskOf b (is_listed i threads) p r (more p.env)) (others i other) (a.1 i p r e (set_there now x.0.0 i q r other f))
        ]

-- what the desk was before
before : (n : ℕ) (threads : Listed) (old now : List DeskState) (more : EnvNo → List Entry) (t : ℕ) (d p : DeskState) → AtFirst n threads old now more → slice_get old t ≡ Some p
    → AtDeskOf (is_listed t (take n threads)) (is_listed t threads) p (slice_index_or now t d) (more p.env)
before n threads old now more t d p a e =
    let here : t < length now = omega (arith, in_range old t p e, a.0) in
    a.1 t p (slice_index_or now t d) e (at_index now t d here)

-- a listed desk is looked at
pub first_look : (n k : ℕ) (threads : Listed) (old now : List DeskState) (more : EnvNo → List Entry) (c : ThreadNo × ℕ) (d q : DeskState) → k < length threads → AtFirst n threads old now more
    → HasLooked (slice_index_or now (slice_index_or threads k c).0.0 d) q → AtFirst n threads old (slice_set now (slice_index_or threads k c).0.0 q) more
first_look n k threads old now more c d q within a looked = first_set n n threads old now more x q a (λ i other. refl) here
  where
    x : ThreadNo × ℕ
    x = slice_index_or threads k c

    was : DeskState
    was = slice_index_or now x.0.0 d

    one : (b l : Bool) (p : DeskState) (e : List Entry) → l ≡ true → AtDeskOf b l p was e → AtDeskOf b l p q e
    one true l p e is h = then_looked p was q e h looked
    one false true p e is h = looks_then p was q h looked
    one false false p e is h = cc is

    here : (p : DeskState) → slice_get old x.0.0 ≡ Some p → AtDeskOf (is_listed x.0.0 (take n threads)) (is_listed x.0.0 threads) p q (more p.env)
    here p e = one (is_listed x.0.0 (take n threads)) (is_listed x.0.0 threads) p (more p.env) (listed_at threads k c within) (before n threads old now more x.0.0 d p a e)

-- the next one is done
pub first_more : (k n : ℕ) (threads : Listed) (old now : List DeskState) (more : EnvNo → List Entry) (c : ThreadNo × ℕ) (d q : DeskState) → AreDistinct threads → k < length threads → n ≡ suc k → AtFirst k threads old now more
    → HasAdded (slice_index_or now (slice_index_or threads k c).0.0 d) q (more (slice_index_or now (slice_index_or threads k c).0.0 d).env) → AtFirst n threads old (slice_set now (slice_index_or threads k c).0.0 q) more
first_more k n threads old now more c d q distinct within next a added = first_set k n threads old now more x q a others here
  where
    x : ThreadNo × ℕ
    x = slice_index_or threads k c

    was : DeskState
    was = slice_index_or now x.0.0 d

    now_listed : (i : ℕ) → is_listed i (take n threads) ≡ (is_listed i (take k threads) || x.0.0 == i)
    now_listed i = ap (λ (l : Listed). is_listed i l) (take_more threads k n c next within) ∙ listed-snoc i (take k threads) x

    others : (i : ℕ) → x.0.0 ≢ i → is_listed i (take k threads) ≡ is_listed i (take n threads)
    others i other = sym (now_listed i ∙ grind (arith, ne_eqb x.0.0 i other))

    undone : (p : DeskState) → AtDeskOf (is_listed x.0.0 (take k threads)) (is_listed x.0.0 threads) p was (more p.env) → HasLooked p was
    undone p h = subst (λ (z : Bool × Bool). AtDeskOf z.0 z.1 p was (more p.env)) (λ j. (distinct_at threads k c distinct within j, listed_at threads k c within j)) h

    here : (p : DeskState) → slice_get old x.0.0 ≡ Some p → AtDeskOf (is_listed x.0.0 (take n threads)) (is_listed x.0.0 threads) p q (more p.env)
    here p e =
        let done : true ≡ is_listed x.0.0 (take n threads) = sym (now_listed x.0.0 ∙ grind (arith, eq-eqb x.0.0 x.0.0 refl)) in
        let h = looked_then p was q more (undone p (before k threads old now more x.0.0 d p a e)) added in
        subst (λ (b : Bool). AtDeskOf b (is_listed x.0.0 threads) p q (more p.env)) done h

-- what a desk that is yet to be done has made
pub undone_is : (k : ℕ) (threads : Listed) (old now : List DeskState) (more : EnvNo → List Entry) (c : ThreadNo × ℕ) (d : DeskState) → AreDistinct threads → AreThere (length old) threads → k < length threads → AtFirst k threads old now more
    → (p : DeskState) × (slice_get old (slice_index_or threads k c).0.0 ≡ Some p) × HasLooked p (slice_index_or now (slice_index_or threads k c).0.0 d)
undone_is k threads old now more c d distinct there within a = (p, e, h)
  where
    x : ThreadNo × ℕ
    x = slice_index_or threads k c

    p : DeskState
    p = slice_index_or old x.0.0 d

    e : slice_get old x.0.0 ≡ Some p
    e = at_index old x.0.0 d (there_at (length old) threads k c there within)

    h : HasLooked p (slice_index_or now x.0.0 d)
    h = subst (λ (z : Bool × Bool). AtDeskOf z.0 z.1 p (slice_index_or now x.0.0 d) (more p.env)) (λ j. (distinct_at threads k c distinct within j, listed_at threads k c within j)) (before k threads old now more x.0.0 d p a e)

-- a look leaves what the environment has made
pub looked_mine : (p q : DeskState) → HasLooked p q → (q.env ≡ p.env) × (q.view.mine ≡ p.view.mine) × (q.view.subject ≡ p.view.subject)
looked_mine p q (inl same) = (ap (λ (x : DeskState). x.env) same, ap (λ (x : DeskState). x.view.mine) same, ap (λ (x : DeskState). x.view.subject) same)
looked_mine p q (inr h) = (h.same.env, h.mine ∙ append-nil p.view.mine, h.goes.subject)
