-- Going through a walk, one operation after another.
use Rattle.std.proofs.Common.{◌≡◌, ℕ, zero, suc, ◌+◌, ◌<◌, ◌≤◌, ◌↔◌, Bool, true, false, List, [], ◌∷◌, ◌++◌, length, take, drop, get_or, refl, ap, sym, ◌∙◌, subst, arith, drop-cons, add-one, Option, Some, None}
use Rattle.std.proofs.lemmas.Bool.{and_parts}
use Rattle.ti_types.specs.declared.limits.Limits.{Limits}
use Rattle.ti_types.specs.declared.state.Mode.{Mode}
use Rattle.ti_types.specs.declared.entry.Entry.{Entry}
use Rattle.ti_types.specs.declared.event.Event.{Event}
use Rattle.ti_live.specs.declared.report.Refusal.{Refusal}
use Rattle.ti_report.specs.Refusals.{is_so, mode_behind, own_behind, error_of, refusals_behind, refusals_from}
use Rattle.ti_report.specs.Walks.{left_by, listed, entries_from, IsDone, GoneThrough}

-- what is made and paid for is within the budget
pub paid_behind : (limits : Limits) (m : Mode) (own : ℕ) (x : Event) (error : Option ℕ) → own ≤ limits.own → is_so limits m own x error ≡ true → own_behind own x error ≤ limits.own
paid_behind limits m own x None h so = grind (arith, so)
paid_behind limits m own x (Some n) h so = h

-- what is left behind one more operation
pub record Behind (limits : Limits) (spent : Bool) (m : Mode) (own number : ℕ) (x : Event) (walk : List Event) (refused : List Refusal) (entries : List Entry) : Type 0 where
  pub so : is_so limits m own x (error_of number refused) ≡ true
  pub rest : List Entry
  pub parts : entries ≡ left_by (error_of number refused) x ++ rest
  pub gone : GoneThrough limits spent (mode_behind m x (error_of number refused)) (own_behind own x (error_of number refused)) (number + 1) walk (refusals_behind number refused) rest

pub goes : (limits : Limits) (spent : Bool) (m : Mode) (own number : ℕ) (x : Event) (walk : List Event) (refused : List Refusal) (entries : List Entry)
    → Behind limits spent m own number x walk refused entries → GoneThrough limits spent m own number (x ∷ walk) refused entries
goes limits spent m own number x walk refused entries b = record {
  made = suc b.gone.made;
  within = omega (arith, b.gone.within);
  whole = λ h. omega (arith, b.gone.whole h);
  refusals = grind (arith, b.so, b.gone.refusals);
  left = b.parts ∙ ap (λ l. left_by (error_of number refused) x ++ l) b.gone.left;
}

pub went : (limits : Limits) (spent : Bool) (m : Mode) (own number : ℕ) (x : Event) (walk : List Event) (refused : List Refusal) (entries : List Entry)
    → (spent ≡ true → IsDone m refused entries → ⊥) → GoneThrough limits spent m own number (x ∷ walk) refused entries → Behind limits spent m own number x walk refused entries
went limits spent m own number x walk refused entries not_done g = by_count g.made g.within g.whole g.refusals g.left where
  by_count : (n : ℕ) → n ≤ length (x ∷ walk) → (spent ≡ false → n ≡ length (x ∷ walk)) → refusals_from limits m own number (take n (x ∷ walk)) refused ≡ true
      → entries ≡ entries_from m number (take n (x ∷ walk)) refused → Behind limits spent m own number x walk refused entries
  by_count zero w h r l = absurd (never spent not_done h (record { none = r; last = l })) where
    never : (s : Bool) → (s ≡ true → IsDone m refused entries → ⊥) → (s ≡ false → zero ≡ length (x ∷ walk)) → IsDone m refused entries → ⊥
    never true keeps h d = keeps refl d
    never false keeps h d = let e = h refl in omega (arith, e)
  by_count (suc n) w h r l =
      let two = and_parts _ _ r in
      record {
        so = two.0;
        rest = entries_from (mode_behind m x (error_of number refused)) (number + 1) (take n walk) (refusals_behind number refused);
        parts = l;
        gone = record { made = n; within = omega (arith, w); whole = λ e. omega (arith, h e); refusals = two.1; left = refl };
      }

-- the same of the operation at a place
pub behind : (limits : Limits) (spent : Bool) (m : Mode) (own i : ℕ) (walk : List Event) (d : Event) (refused : List Refusal) (entries : List Entry) → i < length walk
    → (spent ≡ true → IsDone m refused entries → ⊥) → GoneThrough limits spent m own i (drop i walk) refused entries
    → Behind limits spent m own i (get_or walk i d) (drop (i + 1) walk) refused entries
behind limits spent m own i walk d refused entries h not_done g =
    let parts : drop i walk ≡ get_or walk i d ∷ drop (i + 1) walk = rw add-one (drop-cons walk i d h) in
    went limits spent m own i (get_or walk i d) (drop (i + 1) walk) refused entries not_done (subst (λ w. GoneThrough limits spent m own i w refused entries) parts g)

rest_is : (xs ys zs : List Entry) → xs ++ ys ≡ xs ++ zs → ys ≡ zs
rest_is [] ys zs h = h
rest_is (x ∷ xs) ys zs h = let t : xs ++ ys ≡ xs ++ zs = cc h in rest_is xs ys zs t

-- one more turn
pub turn : (limits : Limits) (spent : Bool) (m m' : Mode) (own own' i : ℕ) (walk : List Event) (d : Event) (refused refused' : List Refusal) (entries entries' : List Entry) (error : Option ℕ) (All : Type 0)
    → i < length walk → (spent ≡ true → IsDone m refused entries → ⊥) → error ≡ error_of i refused → is_so limits m own (get_or walk i d) error ≡ true
    → entries ≡ left_by error (get_or walk i d) ++ entries' → m' ≡ mode_behind m (get_or walk i d) error → own' ≡ own_behind own (get_or walk i d) error → refused' ≡ refusals_behind i refused
    → GoneThrough limits spent m own i (drop i walk) refused entries ↔ All → GoneThrough limits spent m' own' (i + 1) (drop (i + 1) walk) refused' entries' ↔ All
turn limits spent m m' own own' i walk d refused refused' entries entries' error All h not_done is so parts mode' paid left same =
    let x = get_or walk i d in
    let rest = drop (i + 1) walk in
    let e = error_of i refused in
    let whole : drop i walk ≡ x ∷ rest = rw add-one (drop-cons walk i d h) in
    let so' : is_so limits m own x e ≡ true = subst (λ o. is_so limits m own x o ≡ true) is so in
    let parts' : entries ≡ left_by e x ++ entries' = subst (λ o. entries ≡ left_by o x ++ entries') is parts in
    let m_is : m' ≡ mode_behind m x e = mode' ∙ ap (λ o. mode_behind m x o) is in
    let own_is : own' ≡ own_behind own x e = paid ∙ ap (λ o. own_behind own x o) is in
    let here : GoneThrough limits spent m' own' (i + 1) rest refused' entries' → GoneThrough limits spent (mode_behind m x e) (own_behind own x e) (i + 1) rest (refusals_behind i refused) entries'
    = λ g. subst (λ (t : Mode × ℕ × List Refusal). GoneThrough limits spent t.0 t.1 (i + 1) rest t.2 entries') (λ j. (m_is j, own_is j, left j)) g in
    let there : GoneThrough limits spent (mode_behind m x e) (own_behind own x e) (i + 1) rest (refusals_behind i refused) entries' → GoneThrough limits spent m' own' (i + 1) rest refused' entries'
    = λ g. subst (λ (t : Mode × ℕ × List Refusal). GoneThrough limits spent t.0 t.1 (i + 1) rest t.2 entries') (λ j. (sym m_is j, sym own_is j, sym left j)) g in (
      λ g. same.0 (subst (λ w. GoneThrough limits spent m own i w refused entries) (sym whole)
          (goes limits spent m own i x rest refused entries (record { so = so'; rest = entries'; parts = parts'; gone = here g }))),
      λ a.
          let b = behind limits spent m own i walk d refused entries h not_done (same.1 a) in
          there (subst (λ l. GoneThrough limits spent (mode_behind m x e) (own_behind own x e) (i + 1) rest (refusals_behind i refused) l)
          (rest_is (left_by e x) b.rest entries' (sym b.parts ∙ parts')) b.gone),
    )

-- an operation that cannot have come to this
pub not_so : (limits : Limits) (spent : Bool) (m : Mode) (own i : ℕ) (walk : List Event) (d : Event) (refused : List Refusal) (entries : List Entry) (error : Option ℕ) → i < length walk
    → (spent ≡ true → IsDone m refused entries → ⊥) → error ≡ error_of i refused → is_so limits m own (get_or walk i d) error ≡ false
    → GoneThrough limits spent m own i (drop i walk) refused entries → false ≡ true
not_so limits spent m own i walk d refused entries error h not_done is so g =
    let b = behind limits spent m own i walk d refused entries h not_done g in
    sym so ∙ (ap (λ o. is_so limits m own (get_or walk i d) o) is ∙ b.so)

-- nor one whose entry does not come next
pub not_next : (limits : Limits) (spent : Bool) (m : Mode) (own i : ℕ) (walk : List Event) (d : Event) (refused : List Refusal) (entries : List Entry) (error : Option ℕ) (left : Option Entry) → i < length walk
    → (spent ≡ true → IsDone m refused entries → ⊥) → error ≡ error_of i refused → listed left ≡ left_by error (get_or walk i d) → ((rest : List Entry) → entries ≡ listed left ++ rest → ⊥)
    → GoneThrough limits spent m own i (drop i walk) refused entries → false ≡ true
not_next limits spent m own i walk d refused entries error left h not_done is left_is never g =
    let b = behind limits spent m own i walk d refused entries h not_done g in
    let same : listed left ≡ left_by (error_of i refused) (get_or walk i d) = left_is ∙ ap (λ o. left_by o (get_or walk i d)) is in
    absurd (never b.rest (b.parts ∙ ap (λ l. l ++ b.rest) (sym same)))
