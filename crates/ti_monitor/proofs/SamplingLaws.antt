-- Stacks that are named and counted.
use Rattle.std.proofs.Common.{◌≡◌, ℕ, zero, suc, ◌+◌, ◌<◌, ◌≤◌, inl, inr, List, [], ◌∷◌, ◌++◌, length, take, drop, set, get_or, refl, ap, sym, ◌∙◌, subst, arith, Bool, true, Some, Result, Ok, Err}
use Rattle.std.specs.List.{AllZip, list_any, position}
use Rattle.std.specs.Prelude.{slice_get, IfOk, OnErr}
use Rattle.std.proofs.lemmas.Bool.{cases_Bool}
use Rattle.std.proofs.lemmas.List.Quantifiers.{position-Some}
use Rattle.std.proofs.lemmas.Option.{slice_get-get_or}
use mathlib.Core.List.{IsPrefix}
use Rattle.indexmap.specs.IndexSet.{insert_key}
use Rattle.std.proofs.Math.Seq.{take-suc}
use Rattle.std.proofs.lemmas.List.{take-append-le, take_all}
use Rattle.ti_methods.proofs.Lists.{prefix_get, prefix_self, prefix_trans}
use Rattle.ti_types.specs.declared.place.Frame.{Frame as FrameOf}
use Rattle.ti_service.specs.Memberships.{AgentValue}
use Rattle.ti_pprof.specs.declared.stacks.Frame.{Frame}
use Rattle.ti_monitor.specs.declared.methods.Methods.{Methods}
use Rattle.ti_monitor.specs.declared.running.Running.{Running}
use Rattle.ti_monitor.specs.declared.asking.Told.{Told}
use Rattle.ti_monitor.specs.declared.sampling.Readings.{Readings}
use Rattle.ti_monitor.specs.declared.watched.Watched.{Watched}
use Rattle.ti_monitor.specs.Asking.{TellsLater}
use Rattle.ti_monitor.specs.Counted.{AreNamed, IsLine, IsNamed, KnowsMore}
use Rattle.ti_monitor.specs.Sampling.{AsksAt, AsksUpTo, CollectsUpTo, CountsTold, Sampling, TellsAt, sampling}

-- What is known of methods grows

pub grows_self : (m : Methods) → KnowsMore m m
grows_self m = record { numbers = prefix_self m.numbers.keys; lines = λ place known at. at }

pub grows_then : (m n o : Methods) → KnowsMore m n → KnowsMore n o → KnowsMore m o
grows_then m n o a b = record {
  numbers = prefix_trans m.numbers.keys n.numbers.keys o.numbers.keys a.numbers b.numbers;
  lines = λ place known at. b.lines place known (a.lines place known at);
}

-- a frame that was named is named so later
named_later : (m n : Methods) (f : FrameOf) (g : Frame) → KnowsMore m n → IsNamed m f g → IsNamed n f g
named_later m n f g grows (inl none) = inl none
named_later m n f g grows (inr named) =
    inr (named.0, prefix_get m.numbers.keys n.numbers.keys named.0 f.method.0 grows.numbers named.1, named.2, line named.3)
  where
    line : IsLine m named.0 f.place g.line → IsLine n named.0 f.place g.line
    line (inl none) = inl none
    line (inr known) = inr (known.0, grows.lines named.0 known.0 known.1, known.2)

all_named_later : (m n : Methods) (fs : List FrameOf) (gs : List Frame) → KnowsMore m n → AllZip (IsNamed m) fs gs → AllZip (IsNamed n) fs gs
all_named_later m n [] [] grows all = tt
all_named_later m n [] (g ∷ gs) grows all = all
all_named_later m n (f ∷ fs) [] grows all = all
all_named_later m n (f ∷ fs) (g ∷ gs) grows all = (named_later m n f g grows all.0, all_named_later m n fs gs grows all.1)

-- one more frame
zip_push : (m : Methods) (fs : List FrameOf) (gs : List Frame) (f : FrameOf) (g : Frame) → AllZip (IsNamed m) fs gs → IsNamed m f g → AllZip (IsNamed m) (fs ++ f ∷ []) (gs ++ g ∷ [])
zip_push m [] [] f g all one = (one, tt)
zip_push m [] (h ∷ gs) f g all one = absurd all
zip_push m (e ∷ fs) [] f g all one = absurd all
zip_push m (e ∷ fs) (h ∷ gs) f g all one = (all.0, zip_push m fs gs f g all.1 one)

pub named_more : (m n : Methods) (fs : List FrameOf) (i : ℕ) (d : FrameOf) (old new : List Frame) (g : Frame) → KnowsMore m n → i < length fs
    → AreNamed m (take i fs) old → IsNamed n (get_or fs i d) g → new ≡ old ++ g ∷ [] → AreNamed n (take (i + 1) fs) new
named_more m n fs i d old new g grows within are one added =
    let next : suc i ≡ i + 1 = omega arith in
    let longer : AllZip (IsNamed n) (take i fs ++ get_or fs i d ∷ []) (are.0 ++ g ∷ []) =
    zip_push n (take i fs) are.0 (get_or fs i d) g (all_named_later m n (take i fs) are.0 grows are.2) one in
    let all : AllZip (IsNamed n) (take (i + 1) fs) (are.0 ++ g ∷ []) =
    subst (λ (k : ℕ). AllZip (IsNamed n) (take k fs) (are.0 ++ g ∷ [])) next (subst (λ (l : List FrameOf). AllZip (IsNamed n) l (are.0 ++ g ∷ [])) (sym (take-suc fs i d within)) longer) in
    (are.0 ++ g ∷ [], added ∙ ap (λ (l : List Frame). l ++ g ∷ []) are.1, all)

-- a method that was found, and one that was added
pub found : (keys : List ℕ) (n i : ℕ) (p : ℕ → Bool) → ((k : ℕ) → p k ≡ true → k ≡ n) → Some i ≡ position p keys → slice_get keys i ≡ Some n
found keys n i p only is =
    let at = position-Some p keys i 0 (sym is) in
    slice_get-get_or keys i 0 at.0 ∙ ap (λ (k : ℕ). Some k) (only (get_or keys i 0) at.1)

pub inserted : (eq : ℕ → ℕ → Bool) (keys : List ℕ) (n : ℕ) → IsPrefix keys (insert_key eq keys n)
inserted eq keys n = elim (cases_Bool (list_any (eq n) keys)) [
  | inl there ↦ (let same : insert_key eq keys n ≡ keys = grind (arith, there) in subst (IsPrefix keys) (sym same) (prefix_self keys))
  | inr new ↦ (let longer : insert_key eq keys n ≡ keys ++ n ∷ [] = grind (arith, new) in subst (IsPrefix keys) (sym longer) (n ∷ [], refl))
]

pub kept_or_added : {A E : Type 0} (r : Result A E) (eq : ℕ → ℕ → Bool) (old new : List ℕ) (n : ℕ) → IfOk r (λ _. new ≡ insert_key eq old n) → OnErr r (new ≡ old) → IsPrefix old new
kept_or_added (Ok x) eq old new n added kept = subst (IsPrefix old) (sym added) (inserted eq old n)
kept_or_added (Err e) eq old new n added kept = subst (IsPrefix old) (sym kept) (prefix_self old)

-- Readings that go on one after the other

-- the first readings went on so, and the others are as they were
abbrev pub EachFirst : (Running → Running → Type 0) → ℕ → List Running → List Running → Type 0
EachFirst P zero rs ss = ss ≡ rs
EachFirst P (suc n) [] ss = ss ≡ []
EachFirst P (suc n) (r ∷ rs) [] = ⊥
EachFirst P (suc n) (r ∷ rs) (s ∷ ss) = P r s × EachFirst P n rs ss

each_next : (P : Running → Running → Type 0) (n : ℕ) (rs ss : List Running) (s d : Running) → EachFirst P n rs ss → P (get_or ss n d) s → EachFirst P (suc n) rs (set ss n s)
each_next P zero [] [] s d e p = refl
each_next P zero (r ∷ rs) [] s d e p = absurd (never e)
  where
    never : [] ≡ r ∷ rs → ⊥
    never is = cc
each_next P zero [] (x ∷ ss) s d e p = absurd (never e)
  where
    never : x ∷ ss ≡ [] → ⊥
    never is = cc
each_next P zero (r ∷ rs) (x ∷ ss) s d e p =
    let here : x ≡ r = cc e in
    let rest : ss ≡ rs = cc e in
    (subst (λ (z : Running). P z s) here p, rest)
each_next P (suc n) [] [] s d e p = refl
each_next P (suc n) [] (x ∷ ss) s d e p = absurd (never e)
  where
    never : x ∷ ss ≡ [] → ⊥
    never is = cc
each_next P (suc n) (r ∷ rs) [] s d e p = absurd e
each_next P (suc n) (r ∷ rs) (x ∷ ss) s d e p = (e.0, each_next P n rs ss s d e.1 p)

pub each_more : (P : Running → Running → Type 0) (n : ℕ) (rs ss : List Running) (s d : Running) → EachFirst P n rs ss → P (get_or ss n d) s → EachFirst P (n + 1) rs (set ss n s)
each_more P n rs ss s d e p =
    let next : suc n ≡ n + 1 = omega arith in
    subst (λ (k : ℕ). EachFirst P k rs (set ss n s)) next (each_next P n rs ss s d e p)

each_all : (P : Running → Running → Type 0) (n : ℕ) (rs ss : List Running) → length rs ≤ n → EachFirst P n rs ss → AllZip P rs ss
each_all P zero [] ss over e = subst (AllZip P []) (sym e) tt
each_all P zero (r ∷ rs) ss over e = absurd (omega (arith, over))
each_all P (suc n) [] ss over e = subst (AllZip P []) (sym e) tt
each_all P (suc n) (r ∷ rs) [] over e = absurd e
each_all P (suc n) (r ∷ rs) (s ∷ ss) over e = (e.0, each_all P n rs ss (omega (arith, over)) e.1)

-- what a slice became is written back as a whole
pub written : {A : Type 0} (n : ℕ) (rs ss : List A) → length ss ≡ length rs → n ≡ length rs → take n (ss ++ drop (length ss) rs) ≡ ss
written n rs ss same long =
    let a : n ≤ length ss = omega (arith, same, long) in
    let b : length ss ≤ n = omega (arith, same, long) in
    take-append-le n ss (drop (length ss) rs) a ∙ take_all n ss b

-- all of them did, and were written back
pub each_written : (P : Running → Running → Type 0) (i n : ℕ) (rs ss : List Running) → EachFirst P i rs ss → length rs ≤ i → length ss ≡ length rs → n ≡ length rs
    → AllZip P rs (take n (ss ++ drop (length ss) rs))
each_written P i n rs ss e over same long =
    subst (AllZip P rs) (sym (written n rs ss same long)) (each_all P i rs ss over e)

-- Threads that tell one after the other

pub tells_at : (Tells : AgentValue → AgentValue → Watched → Watched → Told → Type 0) (n : ℕ) (s : Sampling) (a : AgentValue) (r : Readings) (b : AgentValue) (w v : Watched) (told : Told)
    → slice_get s.watched n ≡ Some w → v.thread ≡ w.thread → Tells s.agent b w v told → CountsTold told n (set s.watched n v) s.readings r → KnowsMore s.readings.methods r.methods → a.env ≡ b.env
    → TellsAt Tells n s (sampling a (set s.watched n v) r)
tells_at Tells n s a r b w v told there thread tells counts knows env =
    record { old = w; new = v; told = told; agent = b; there = there; thread = thread; tells = tells; watched = refl; counts = counts; knows = knows; env = env }

pub collects_more : (n : ℕ) (old s : Sampling) (a : AgentValue) (r : Readings) (b : AgentValue) (w v : Watched) (told : Told)
    → CollectsUpTo n old s → slice_get s.watched n ≡ Some w → v.thread ≡ w.thread → TellsLater s.agent b w v told → CountsTold told n (set s.watched n v) s.readings r → KnowsMore s.readings.methods r.methods → a.env ≡ b.env
    → CollectsUpTo (n + 1) old (sampling a (set s.watched n v) r)
collects_more n old s a r b w v told first there thread tells counts knows env =
    let next : suc n ≡ n + 1 = omega arith in
    subst (λ (k : ℕ). CollectsUpTo k old (sampling a (set s.watched n v) r)) next (s, first, tells_at TellsLater n s a r b w v told there thread tells counts knows env)

pub asks_more : (n : ℕ) (old s u : Sampling) → AsksUpTo n old s → AsksAt n s u → AsksUpTo (n + 1) old u
asks_more n old s u first one =
    let next : suc n ≡ n + 1 = omega arith in
    subst (λ (k : ℕ). AsksUpTo k old u) next (s, first, one)
