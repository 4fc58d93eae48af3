-- Cells are made one after another, each with its desks, which go to the environments.
use Rattle.std.proofs.Common.{◌≡◌, ℕ, suc, ◌+◌, ◌<◌, ◌++◌, List, [], ◌∷◌, length, map, refl, ap, sym, ◌∙◌, ◌≤◌, arith, subst, take, drop, Some, nat_lt, Bool, true, false, slice_index_or, slice_set}
use Rattle.std.specs.Prelude.{slice_get, if◌then◌else◌}
use Rattle.std.proofs.lemmas.Bool.Decides.{nat_tests}
use Rattle.std.proofs.Math.ListN.{get_or-map}
use Rattle.std.proofs.lemmas.List.{length-append, length-map, take-append-le, take_all}
use Rattle.std.proofs.lemmas.Option.{slice_get_within, slice_get-get_or}
use Rattle.atomic_table.specs.Seated.{TableId}
use Rattle.ti_types.specs.declared.limits.Limits.{Limits}
use Rattle.ti_types.specs.declared.numbers.EnvNo.{EnvNo}
use Rattle.ti_types.specs.declared.numbers.ThreadNo.{ThreadNo}
use Rattle.ti_cell.specs.View.{subject_of}
use Rattle.ti_handshake.specs.Desk.{DeskState}
use Rattle.ti_handshake.specs.NewDesks.{new_desk, new_desks}
use Rattle.ti_runner.specs.Cells.{AreDesks}
use Rattle.ti_runner.proofs.Pairs.{pairs_push, pairs_set}

pub desks_push : (limits : Limits) (envs : ℕ) (cells : List TableId) (desks : List (List DeskState)) (cell : TableId) (l : List DeskState) → AreDesks limits envs cells desks
    → l ≡ new_desks cell (subject_of limits (record { 0 = length desks })) envs → AreDesks limits envs (cells ++ cell ∷ []) (desks ++ l ∷ [])
desks_push limits envs cells desks cell l k one = record {
  count = omega (arith, length-append desks (l ∷ []), length-append cells (cell ∷ []), k.count);
  each = pairs_push (λ i a b. a ≡ new_desks b (subject_of limits (record { 0 = i })) envs) desks cells l cell k.count k.each one;
}

-- the last of a list, and those before it
last_same : (xs ys : List DeskState) (a b : DeskState) → xs ++ a ∷ [] ≡ ys ++ b ∷ [] → (xs ≡ ys) × (a ≡ b)
last_same [] [] a b e = (refl, cc)
last_same [] (y ∷ ys) a b e = absurd (omega (arith, ap (λ (l : List DeskState). length l) e, length-append ys (b ∷ [])))
last_same (x ∷ xs) [] a b e = absurd (omega (arith, ap (λ (l : List DeskState). length l) e, length-append xs (a ∷ [])))
last_same (x ∷ xs) (y ∷ ys) a b e =
    let first : x ≡ y = cc in
    let rest : xs ++ a ∷ [] ≡ ys ++ b ∷ [] = cc in
    let r = last_same xs ys a b rest in
    ((λ j. first j ∷ r.0 j), r.1)

pub last_desk : (cell : TableId) (limits : Limits) (thread : ThreadNo) (env : EnvNo) (xs : List DeskState) (a : DeskState) → xs ++ a ∷ [] ≡ new_desks cell (subject_of limits thread) (env.0 + 1)
    → (xs ≡ new_desks cell (subject_of limits thread) env.0) × (a ≡ new_desk cell (subject_of limits thread) env)
last_desk cell limits thread env xs a e =
    let next : env.0 + 1 ≡ suc env.0 = omega arith in
    last_same xs (new_desks cell (subject_of limits thread) env.0) a _ (e ∙ ap (new_desks cell (subject_of limits thread)) next)

-- the last environment's desk is taken of the first threads
pub record AreHalf (limits : Limits) (env threads : ℕ) (cells : List TableId) (desks : List (List DeskState)) : Type 0 where
  pub count : length desks ≡ length cells
  pub each : (k : ℕ) (l : List DeskState) (cell : TableId) → slice_get desks k ≡ Some l → slice_get cells k ≡ Some cell
      → l ≡ new_desks cell (subject_of limits (record { 0 = k })) (if nat_lt k threads then env else env + 1)

pub half_here : (limits : Limits) (env i : ℕ) (cells : List TableId) (desks : List (List DeskState)) (l : List DeskState) (cell : TableId) → AreHalf limits env i cells desks → slice_get desks i ≡ Some l → slice_get cells i ≡ Some cell
    → l ≡ new_desks cell (subject_of limits (record { 0 = i })) (env + 1)
half_here limits env i cells desks l cell k a b =
    let no : nat_lt i i ≡ false = grind (arith, nat_tests) in
    subst (λ t. l ≡ new_desks cell (subject_of limits (record { 0 = i })) (if t then env else env + 1)) no (k.each i l cell a b)

pub half_more : (limits : Limits) (env i : ℕ) (cells : List TableId) (desks : List (List DeskState)) (l : List DeskState) → AreHalf limits env i cells desks
    → ((cell : TableId) → slice_get cells i ≡ Some cell → l ≡ new_desks cell (subject_of limits (record { 0 = i })) env) → length (slice_set desks i l) ≡ length desks
    → AreHalf limits env (i + 1) cells (slice_set desks i l)
half_more limits env i cells desks l k one same = record {
  count = same ∙ k.count;
  each = pairs_set
      (λ j a b. a ≡ new_desks b (subject_of limits (record { 0 = j })) (if nat_lt j i then env else env + 1))
      (λ j a b. a ≡ new_desks b (subject_of limits (record { 0 = j })) (if nat_lt j (i + 1) then env else env + 1))
      desks cells i l k.each
      (λ j a b differ h. subst (λ t. a ≡ new_desks b (subject_of limits (record { 0 = j })) (if t then env else env + 1)) (apart j differ) h)
      (λ b there. subst (λ t. l ≡ new_desks b (subject_of limits (record { 0 = i })) (if t then env else env + 1)) (sym here) (one b there));
}
  where
    here : nat_lt i (i + 1) ≡ true
    here = grind (arith, nat_tests)

    apart : (j : ℕ) → (j ≡ i → ⊥) → nat_lt j i ≡ nat_lt j (i + 1)
    apart j differ = cases (nat_lt j i) refl
      where
        cases : (b : Bool) → nat_lt j i ≡ b → nat_lt j i ≡ nat_lt j (i + 1)
        cases true e = e ∙ sym (grind (arith, nat_tests, e))
        cases false e = e ∙ sym (later e)
          where
            later : nat_lt j i ≡ false → nat_lt j (i + 1) ≡ false
            later e = grind (arith, nat_tests, e, differ)

pub half_all : (limits : Limits) (env n : ℕ) (cells : List TableId) (desks : List (List DeskState)) → AreHalf limits env n cells desks → length cells ≡ n → AreDesks limits env cells desks
half_all limits env n cells desks k len = record {
  count = k.count;
  each = λ i l cell a b. subst (λ t. l ≡ new_desks cell (subject_of limits (record { 0 = i })) (if t then env else env + 1)) (within i cell b) (k.each i l cell a b);
}
  where
    within : (i : ℕ) (cell : TableId) → slice_get cells i ≡ Some cell → nat_lt i n ≡ true
    within i cell there = grind (arith, nat_tests, len, slice_get_within cells i cell there)

-- an element of a list that is looked at through a function
pub mapped_get : {A B : Type 0} (f : A → B) (xs : List A) (k : ℕ) (d : A) → k < length xs → slice_get (map f xs) k ≡ Some (f (slice_index_or xs k d))
mapped_get f xs k d within = slice_get-get_or (map f xs) k (f d) (omega (arith, within, length-map xs f)) ∙ ap Some (get_or-map f xs k d)

-- what is left of a vector that was lent whole
pub restored : {X : Type 0} (n : ℕ) (xs new : List X) → length new ≡ length xs → n ≡ length xs → take n (new ++ drop (length new) xs) ≡ new
restored n xs new same is =
    let a : n ≤ length new = omega (arith, same, is) in
    let b : length new ≤ n = omega (arith, same, is) in
    take-append-le n new (drop (length new) xs) a ∙ take_all n new b
