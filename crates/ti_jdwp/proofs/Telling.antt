-- Requests that are told of an event one after another.
use Rattle.std.proofs.Common.{◌≡◌, ℕ, ◌+◌, ◌-◌, ◌<◌, Bool, true, false, cond, List, [], ◌∷◌, ◌++◌, length, take, drop, map, filter, get_or, refl, sym, ap, ◌∙◌, arith, append_assoc}
use Rattle.std.specs.Prelude.{slice_set}
use Rattle.std.proofs.lemmas.List.{set-append_right, get_or-append_right, drop_more, map-append}
use Rattle.std.proofs.lemmas.List.Elements.{filter-append}
use Rattle.std.proofs.lemmas.List.Sums.{fold-append}
use Rattle.std.proofs.lemmas.Grind.{take_at_read, common_steps}
use Rattle.ti_jdwp.specs.declared.event.Event.{Event}
use Rattle.ti_jdwp.specs.declared.request.Policy.TheVariants as policy
use Rattle.ti_jdwp.specs.InForce.{Asked, is_reached, counts_down, after, stronger, strongest}

-- the requests of which the first i were told
abbrev pub told_so_far : Event → List Asked → ℕ → List Asked
told_so_far e xs i = map (after e) (take i xs) ++ drop i xs

pub record OneMore (e : Event) (xs : List Asked) (i : ℕ) (r : Asked) : Type 0 where
  pub here : take (i + 1) xs ≡ take i xs ++ r ∷ []
  pub list : slice_set (told_so_far e xs i) i (after e r) ≡ told_so_far e xs (i + 1)

pub one_more : (e : Event) (xs : List Asked) (i : ℕ) (r : Asked) → i < length xs → r ≡ get_or (told_so_far e xs i) i r → OneMore e xs i r
one_more e xs i r within is =
    let n : length (map (after e) (take i xs)) ≡ i = grind (arith, common_steps) in
    let zero-at : i - i ≡ 0 = omega arith in
    let rest : drop i xs ≡ get_or xs i r ∷ drop (i + 1) xs = drop_more xs i r within in
    let same : r ≡ get_or xs i r =
    is ∙ get_or-append_right (map (after e) (take i xs)) (drop i xs) i i r n (omega arith)
    ∙ ap (λ k. get_or (drop i xs) k r) zero-at ∙ ap (λ l. get_or l 0 r) rest in
    let first : take (i + 1) xs ≡ take i xs ++ r ∷ [] = (take_at_read xs i r within).1 ∙ ap (λ x. take i xs ++ x ∷ []) (sym same) in
    record {
      here = first;
      list =
          set-append_right (map (after e) (take i xs)) (drop i xs) i i (after e r) n (omega arith)
          ∙ ap (λ k. map (after e) (take i xs) ++ slice_set (drop i xs) k (after e r)) zero-at
          ∙ ap (λ l. map (after e) (take i xs) ++ slice_set l 0 (after e r)) rest
          ∙ sym (ap (λ l. map (after e) l ++ drop (i + 1) xs) first ∙ ap (λ l. l ++ drop (i + 1) xs) (map-append (after e) (take i xs) (r ∷ [])) ∙ append_assoc (map (after e) (take i xs)) (after e r ∷ []) (drop (i + 1) xs));
    }

only : (p : Asked → Bool) (r : Asked) (b : Bool) → p r ≡ b → filter p (r ∷ []) ≡ cond b (r ∷ []) []
only p r true is = grind (arith, is)
only p r false is = grind (arith, is)

-- one more request that is told, or is not
pub told_more : (p : Asked → Bool) (front : List Asked) (r : Asked) (b : Bool) → p r ≡ b → filter p (front ++ r ∷ []) ≡ filter p front ++ cond b (r ∷ []) []
told_more p front r b is = filter-append p front (r ∷ []) ∙ ap (λ l. filter p front ++ l) (only p r b is)

pub numbers_more : (rs : List Asked) (r : Asked) → map (λ (q : Asked). q.number) (rs ++ r ∷ []) ≡ map (λ (q : Asked). q.number) rs ++ r.number ∷ []
numbers_more rs r = map-append (λ (q : Asked). q.number) rs (r ∷ [])

pub strongest_more : (rs : List Asked) (r : Asked) → strongest (rs ++ r ∷ []) ≡ stronger (strongest rs) r.policy
strongest_more rs r = fold-append (λ p q. stronger p q.policy) policy.None rs (r ∷ [])

pub nothing_more : (rs : List Asked) → rs ++ [] ≡ rs
nothing_more rs = grind (arith, common_steps)

kept : (b : Bool) (r q : Asked) → q.number ≡ r.number → q.policy ≡ r.policy → ((cond b q r).number ≡ r.number) × ((cond b q r).policy ≡ r.policy)
kept true r q number policy = (number, policy)
kept false r q number policy = (refl, refl)

-- an event leaves a request's number and policy
pub after_keeps : (e : Event) (r : Asked) → ((after e r).number ≡ r.number) × ((after e r).policy ≡ r.policy)
after_keeps e r = kept (is_reached e r) r (record r { left = counts_down r.left }) refl refl
