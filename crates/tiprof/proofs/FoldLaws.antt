-- One more stack is folded, and how often each was seen.
use Rattle.std.proofs.Common.{ℕ, zero, suc, ◌≡◌, ◌≢◌, ◌⊎◌, inl, inr, Some, ⊎_elim, ◌<◌, ◌+◌, Bool, true, false, true≢false, subst, cond, List, [], ◌∷◌, ◌++◌, length, map, take, refl, ap, sym, ◌∙◌, arith, get_or, set, not, ◌≤◌}
use Rattle.std.specs.Prelude.{◌==◌, slice_get, slice_index_or, slice_set}
use Rattle.std.specs.Bool.{Decides}
use Rattle.std.proofs.lemmas.Bool.Decides.{Decides-eqb, Decides-like}
use Rattle.std.proofs.lemmas.Bool.{cases_eq}
use Rattle.std.proofs.lemmas.List.{map-append, take_all, get_or-map, get_or_default}
use Rattle.std.proofs.lemmas.List.Sums.{sum_by-append, sum_by-set}
use Rattle.std.proofs.lemmas.Slice.Eq.{slice_eq-Decides}
use Rattle.ti_types.specs.declared.numbers.MethodNo.{MethodNo}
use Rattle.ti_types.specs.declared.place.Frame.{Frame}
use Rattle.tiprof.specs.declared.fold.Folded.{Folded}
use Rattle.tiprof.specs.Folds.{AreDistinct, counts_of, same_methods, seen, stacks_of}
use Rattle.tiprof.proofs.RootsLaws.{kept_at}

-- one that was not seen before
pub one_more : (stacks : List Folded) (f : Folded) → counts_of (stacks ++ f ∷ []) ≡ counts_of stacks + f.count
one_more stacks f = sum_by-append (λ (x : Folded). x.count) stacks (f ∷ []) ∙ omega arith

same_method : (m n : MethodNo) → Decides (m.0 == n.0) (m ≡ n)
same_method m n = Decides-like (m.0 == n.0) (λ e. ap (λ (k : ℕ). record { 0 = k }) e) (λ e. ap (λ (k : MethodNo). k.0) e) (Decides-eqb m.0 n.0)

pub methods_decide : (ms ns : List MethodNo) → Decides (same_methods ms ns) (ms ≡ ns)
methods_decide ms ns = slice_eq-Decides {E = λ (m n : MethodNo). m.0 == n.0} same_method ms ns (same_methods ms ns) refl

pub methods_same : (ms ns : List MethodNo) → ms ≡ ns → true ≡ same_methods ms ns
methods_same ms ns e = sym ((methods_decide ms ns).1 e)

not_same : (b : Bool) → (b ≡ true → true ≡ false) → false ≡ b
not_same true n = sym (n refl)
not_same false n = refl

pub methods_differ : (ms ns : List MethodNo) → ms ≢ ns → false ≡ same_methods ms ns
methods_differ ms ns n = not_same (same_methods ms ns) (λ e. absurd (n ((methods_decide ms ns).0 e)))

-- the loop went to the end
pub all_same : (ms : List MethodNo) (frames : List Frame) (i : ℕ) → take i ms ≡ map (λ x. x.method) (take i frames) → length ms ≡ length frames → length frames ≤ i → ms ≡ map (λ x. x.method) frames
all_same ms frames i h l k = sym (take_all i ms (omega (arith, l, k))) ∙ h ∙ ap (λ (z : List Frame). map (λ x. x.method) z) (take_all i frames k)

unlike : (m n : MethodNo) → true ≡ not (m.0 == n.0) → m ≢ n
unlike m n h e = let t = (same_method m n).1 e in grind (arith, t, h)

-- the loop ended at a method that is another
pub one_differs : (ms : List MethodNo) (frames : List Frame) (i : ℕ) (m : MethodNo) (d : Frame) → i < length frames → m ≡ get_or ms i m → true ≡ not (m.0 == (get_or frames i d).method.0) → ms ≢ map (λ x. x.method) frames
one_differs ms frames i m d h at other e = unlike m (get_or frames i d).method other (at ∙ ap (λ (z : List MethodNo). get_or z i m) e ∙ get_or-map (λ (x : Frame). x.method) frames i d m h)

-- how often a stack was seen by one entry
abbrev part : List MethodNo → Folded → ℕ
part methods f = cond (same_methods f.methods.items methods) f.count 0

part_given : (methods : List MethodNo) (f : Folded) (b : Bool) → true ≡ b → cond b f.count 0 ≡ f.count
part_given methods f true e = refl
part_given methods f false e = grind (arith, e)

part_other : (methods : List MethodNo) (f : Folded) (b : Bool) → false ≡ b → cond b f.count 0 ≡ 0
part_other methods f true e = grind (arith, e)
part_other methods f false e = refl

is_given : (methods : List MethodNo) (f : Folded) → f.methods.items ≡ methods → part methods f ≡ f.count
is_given methods f e = part_given methods f (same_methods f.methods.items methods) (methods_same f.methods.items methods e)

is_other : (methods : List MethodNo) (f : Folded) → f.methods.items ≢ methods → part methods f ≡ 0
is_other methods f n = part_other methods f (same_methods f.methods.items methods) (methods_differ f.methods.items methods n)

-- one that was seen before
pub others_again : (stacks : List Folded) (i : ℕ) (f d : Folded) (ms ns : List MethodNo) → i < length stacks → (get_or stacks i d).methods.items ≡ ms → f.methods.items ≡ ms → ns ≢ ms → seen ns (set stacks i f) ≡ seen ns stacks
others_again stacks i f d ms ns h old new n =
    omega (arith, sum_by-set (λ (x : Folded). part ns x) stacks i f d h, is_other ns f (λ e. n (sym e ∙ new)), is_other ns (get_or stacks i d) (λ e. n (sym e ∙ old)))

-- what stands at a place, read twice
pub read_twice : (stacks : List Folded) (i : ℕ) (f g : Folded) → i < length stacks → f ≡ get_or stacks i f → g ≡ get_or stacks i g → g ≡ f
read_twice stacks i f g h one other = other ∙ get_or_default stacks i g f h ∙ sym one

-- one that was not
pub given_first : (stacks : List Folded) (f : Folded) (ms : List MethodNo) → f.methods.items ≡ ms → f.count ≡ 1 → seen ms (stacks ++ f ∷ []) ≡ seen ms stacks + 1
given_first stacks f ms new once = sum_by-append (λ (x : Folded). part ms x) stacks (f ∷ []) ∙ omega (arith, is_given ms f new, once)

pub others_first : (stacks : List Folded) (f : Folded) (ms ns : List MethodNo) → f.methods.items ≡ ms → ns ≢ ms → seen ns (stacks ++ f ∷ []) ≡ seen ns stacks
others_first stacks f ms ns new n = sum_by-append (λ (x : Folded). part ns x) stacks (f ∷ []) ∙ omega (arith, is_other ns f (λ e. n (sym e ∙ new)))

-- No stack is there twice

-- what is at a place of a list with one more
at_end : (l : List (List MethodNo)) (x y : List MethodNo) (i : ℕ) → slice_get (l ++ x ∷ []) i ≡ Some y → (slice_get l i ≡ Some y) ⊎ ((i ≡ length l) × (x ≡ y))
at_end [] x y zero e = inr (refl, same x y e)
  where
    same : (x y : List MethodNo) → Some x ≡ Some y → x ≡ y
    same x y e = cc
at_end [] x y (suc i) e = absurd (nothing i y e)
  where
    nothing : (i : ℕ) (m : List MethodNo) → slice_get [] i ≡ Some m → ⊥
    nothing i m e = cc
at_end (z ∷ l) x y zero e = inl e
at_end (z ∷ l) x y (suc i) e = ⊎_elim (λ (h : slice_get l i ≡ Some y). inl h) (λ (h : (i ≡ length l) × (x ≡ y)). inr (ap suc h.0, h.1)) (at_end l x y i e)

-- one more that is none of them
pub distinct_more : (l : List (List MethodNo)) (x : List MethodNo) → AreDistinct l → ((j : ℕ) (m : List MethodNo) → slice_get l j ≡ Some m → m ≢ x) → AreDistinct (l ++ x ∷ [])
distinct_more l x d new i j m a b =
    ⊎_elim
    (λ (p : slice_get l i ≡ Some m). ⊎_elim
    (λ (q : slice_get l j ≡ Some m). d i j m p q)
    (λ (q : (j ≡ length l) × (x ≡ m)). absurd (new i m p (sym q.1)))
    (at_end l x m j b))
    (λ (p : (i ≡ length l) × (x ≡ m)). ⊎_elim
    (λ (q : slice_get l j ≡ Some m). absurd (new j m q (sym p.1)))
    (λ (q : (j ≡ length l) × (x ≡ m)). p.0 ∙ sym q.0)
    (at_end l x m j b))
    (at_end l x m i a)

-- one that was seen again has the methods that it had
pub stacks_again : (stacks : List Folded) (i : ℕ) (f d : Folded) → i < length stacks → d ≡ slice_index_or stacks i d → f.methods.items ≡ d.methods.items → stacks_of (slice_set stacks i f) ≡ stacks_of stacks
stacks_again stacks i f d h at same = kept_at (λ (x : Folded). x.methods.items) stacks i f d h at same

-- The stacks so far are others

within : (l : List (List MethodNo)) (j : ℕ) (m : List MethodNo) → slice_get l j ≡ Some m → j < length l
within [] j m e = absurd (nothing j m e)
  where
    nothing : (j : ℕ) (m : List MethodNo) → slice_get [] j ≡ Some m → ⊥
    nothing j m e = cc
within (x ∷ l) zero m e = omega arith
within (x ∷ l) (suc j) m e = let h = within l j m e in omega (arith, h)

as_many : (stacks : List Folded) → length (stacks_of stacks) ≡ length stacks
as_many [] = refl
as_many (f ∷ stacks) = ap suc (as_many stacks)

-- the methods of the stack at a place
methods_at : (stacks : List Folded) (i : ℕ) (d : Folded) (m : List MethodNo) → i < length stacks → d ≡ slice_index_or stacks i d → slice_get (stacks_of stacks) i ≡ Some m → d.methods.items ≡ m
methods_at [] i d m h at e = absurd (omega (arith, h))
methods_at (f ∷ stacks) zero d m h at e = ap (λ (x : Folded). x.methods.items) at ∙ same f.methods.items m e
  where
    same : (x y : List MethodNo) → Some x ≡ Some y → x ≡ y
    same x y e = cc
methods_at (f ∷ stacks) (suc i) d m h at e = methods_at stacks i d m (omega (arith, h)) at e

true_is_false : (b : Bool) → b ≡ false → true ≡ b → ⊥
true_is_false b off is = true≢false (is ∙ off)

pub others_so_far : (stacks : List Folded) (i : ℕ) (d : Folded) (ms : List MethodNo) (b : Bool) → i < length stacks → d ≡ slice_index_or stacks i d → b ≡ same_methods d.methods.items ms → b ≡ false
    → ((j : ℕ) (m : List MethodNo) → j < i → slice_get (stacks_of stacks) j ≡ Some m → m ≢ ms) → (j : ℕ) (m : List MethodNo) → j < i + 1 → slice_get (stacks_of stacks) j ≡ Some m → m ≢ ms
others_so_far stacks i d ms b h at is off before j m less here same =
    elim (cases_eq j i) [
      | inl now ↦
          let mine : d.methods.items ≡ m = methods_at stacks i d m h at (ap (λ (k : ℕ). slice_get (stacks_of stacks) k) (sym now) ∙ here) in
          true_is_false b off (methods_same d.methods.items ms (mine ∙ same) ∙ sym is)
      | inr earlier ↦ before j m (omega (arith, less, earlier)) here same
    ]

-- all of them are, so one more is new
pub distinct_first : (stacks now : List Folded) (f : Folded) (ms : List MethodNo) (i : ℕ) → AreDistinct (stacks_of stacks) → now ≡ stacks ++ f ∷ [] → f.methods.items ≡ ms → length stacks ≤ i
    → ((j : ℕ) (m : List MethodNo) → j < i → slice_get (stacks_of stacks) j ≡ Some m → m ≢ ms) → AreDistinct (stacks_of now)
distinct_first stacks now f ms i d is new all before =
    subst (λ (l : List (List MethodNo)). AreDistinct l) (sym (ap stacks_of is ∙ map-append (λ (x : Folded). x.methods.items) stacks (f ∷ [])))
    (distinct_more (stacks_of stacks) f.methods.items d (λ j m at same. before j m (let h = within (stacks_of stacks) j m at in omega (arith, h, as_many stacks, all)) at (same ∙ new)))
