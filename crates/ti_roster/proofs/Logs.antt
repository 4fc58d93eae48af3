-- One more coming or going.
use Rattle.std.proofs.Common.{◌≡◌, ℕ, suc, Bool, false, if◌then◌else◌, inl, inr, List, [], ◌∷◌, ◌++◌, length, Option, None, Some, refl, sym, ap, ◌∙◌, arith, length-append, append-nil}
use Rattle.std.specs.List.{fold, filter}
use Rattle.std.proofs.lemmas.Bool.{cases_Bool}
use Rattle.std.proofs.lemmas.List.Sums.{fold-append}
use Rattle.ti_stops.specs.declared.call.StopCall.{StopCall}
use Rattle.ti_types.specs.declared.numbers.EnvNo.{EnvNo}
use Rattle.ti_types.specs.declared.numbers.ThreadNo.{ThreadNo}
use Rattle.ti_roster.specs.declared.coming.Coming.{Coming}
use Rattle.ti_roster.specs.declared.coming.Coming.TheVariants.{Came, Started, Ended, Left, Attached, Met, GaveBack, Disposed, Stop}
use Rattle.ti_roster.specs.declared.newcomer.Newcomer.{Newcomer}
use Rattle.ti_roster.specs.declared.stage.Stage.TheVariants.{New}
use Rattle.ti_roster.specs.Stages.{stage_after, stage_of}
use Rattle.ti_roster.specs.Log.{Lies, Unused, came, came_after, is_about, lies, lies_after, live, live_after, mark_after, mark_of, noted, threads_in}

pub came_more : (xs : List Coming) (x : Coming) → came (xs ++ x ∷ []) ≡ came_after (came xs) x
came_more xs x = fold-append came_after [] xs (x ∷ [])

pub live_more : (xs : List Coming) (x : Coming) → live (xs ++ x ∷ []) ≡ live_after (live xs) x
live_more xs x = fold-append live_after [] xs (x ∷ [])

pub mark_more : (e : EnvNo) (xs : List Coming) (x : Coming) → mark_of e (xs ++ x ∷ []) ≡ mark_after e (mark_of e xs) x
mark_more e xs x = fold-append (mark_after e) None xs (x ∷ [])

pub lies_more : (e : EnvNo) (t : ThreadNo) (xs : List Coming) (x : Coming) → lies e t (xs ++ x ∷ []) ≡ lies_after e t (lies e t xs) x
lies_more e t xs x = fold-append (lies_after e t) Unused xs (x ∷ [])

pub stage_more : (t : ThreadNo) (xs : List Coming) (x : Coming) → stage_of t (xs ++ x ∷ []) ≡ stage_after t (stage_of t xs) x
stage_more t xs x = fold-append (stage_after t) New xs (x ∷ [])

-- the number of threads

pub threads_more : (xs : List Coming) (n : Newcomer) → threads_in (xs ++ Came n ∷ []) ≡ suc (threads_in xs)
threads_more xs n = ap (λ (l : List Newcomer). length l) (came_more xs (Came n)) ∙ (let e = length-append (came xs) (n ∷ []) in omega (arith, e))

threads_same : (xs : List Coming) (x : Coming) → came_after (came xs) x ≡ came xs → threads_in (xs ++ x ∷ []) ≡ threads_in xs
threads_same xs x same = ap (λ (l : List Newcomer). length l) (came_more xs x ∙ same)

pub threads_started : (xs : List Coming) (t : ThreadNo) → threads_in (xs ++ Started t ∷ []) ≡ threads_in xs
threads_started xs t = threads_same xs (Started t) refl

pub threads_left : (xs : List Coming) (t : ThreadNo) → threads_in (xs ++ Left t ∷ []) ≡ threads_in xs
threads_left xs t = threads_same xs (Left t) refl

pub threads_ended : (xs : List Coming) (t : ThreadNo) → threads_in (xs ++ Ended t ∷ []) ≡ threads_in xs
threads_ended xs t = threads_same xs (Ended t) refl

pub threads_attached : (xs : List Coming) (e : EnvNo) → threads_in (xs ++ Attached e ∷ []) ≡ threads_in xs
threads_attached xs e = threads_same xs (Attached e) refl

pub threads_met : (xs : List Coming) (e : EnvNo) (m : ℕ) → threads_in (xs ++ Met e m ∷ []) ≡ threads_in xs
threads_met xs e m = threads_same xs (Met e m) refl

pub threads_back : (xs : List Coming) (e : EnvNo) (t : ThreadNo) → threads_in (xs ++ GaveBack e t ∷ []) ≡ threads_in xs
threads_back xs e t = threads_same xs (GaveBack e t) refl

pub threads_disposed : (xs : List Coming) (e : EnvNo) → threads_in (xs ++ Disposed e ∷ []) ≡ threads_in xs
threads_disposed xs e = threads_same xs (Disposed e) refl

pub threads_stop : (xs : List Coming) (o : Option EnvNo) (call : StopCall) → threads_in (xs ++ Stop o call ∷ []) ≡ threads_in xs
threads_stop xs o call = threads_same xs (Stop o call) refl

-- what happened to a place

filter_more : (p : Coming → Bool) (xs : List Coming) (x : Coming) → filter p (xs ++ x ∷ []) ≡ filter p xs ++ filter p (x ∷ [])
filter_more p [] x = refl
filter_more p (y ∷ xs) x =
    elim (cases_Bool (p y)) [
      | inl yes' ↦ (let z = filter_more p xs x in grind (arith, yes', z))
      | inr no' ↦ (let z = filter_more p xs x in grind (arith, no', z))
    ]

pub noted_more : (e : EnvNo) (xs : List Coming) (x : Coming) → noted e (xs ++ x ∷ []) ≡ noted e xs ++ noted e (x ∷ [])
noted_more e xs x = filter_more (is_about e) xs x

pub noted_same : (e : EnvNo) (xs : List Coming) (x : Coming) → is_about e x ≡ false → noted e (xs ++ x ∷ []) ≡ noted e xs
noted_same e xs x off = noted_more e xs x ∙ ap (λ (l : List Coming). noted e xs ++ l) none ∙ append-nil (noted e xs)
  where
    none : noted e (x ∷ []) ≡ []
    none = grind (arith, off)

-- what does not happen to a place leaves what is noted of it
mark_skips : (e : EnvNo) (m : Option ℕ) (x : Coming) → is_about e x ≡ false → mark_after e m x ≡ m
mark_skips e m (Came n) off = refl
mark_skips e m (Started t) off = refl
mark_skips e m (Ended t) off = refl
mark_skips e m (Left t) off = refl
mark_skips e m (Attached f) off = ap (λ (b : Bool). if b then Some 0 else m) off
mark_skips e m (Met f n) off = ap (λ (b : Bool). if b then Some n else m) off
mark_skips e m (GaveBack f t) off = ap (λ (b : Bool). if b then Some 0 else m) off
mark_skips e m (Disposed f) off = ap (λ (b : Bool). if b then None else m) off
mark_skips e m (Stop None call) off = refl
mark_skips e m (Stop (Some f) call) off = refl

mark_from : (e : EnvNo) (m : Option ℕ) (xs : List Coming) → fold (mark_after e) m xs ≡ fold (mark_after e) m (noted e xs)
mark_from e m [] = refl
mark_from e m (x ∷ xs) =
    elim (cases_Bool (is_about e x)) [
      | inl on ↦ (let z = mark_from e (mark_after e m x) xs in let k : noted e (x ∷ xs) ≡ x ∷ noted e xs = grind (arith, on) in z ∙ sym (ap (λ (l : List Coming). fold (mark_after e) m l) k))
      | inr off ↦ (let z = mark_from e m xs in let k : noted e (x ∷ xs) ≡ noted e xs = grind (arith, off) in
          ap (λ (n : Option ℕ). fold (mark_after e) n xs) (mark_skips e m x off) ∙ z ∙ sym (ap (λ (l : List Coming). fold (mark_after e) m l) k))
    ]

pub mark_noted : (e : EnvNo) (xs ys : List Coming) → noted e xs ≡ noted e ys → mark_of e xs ≡ mark_of e ys
mark_noted e xs ys same = mark_from e None xs ∙ ap (λ (l : List Coming). fold (mark_after e) None l) same ∙ sym (mark_from e None ys)

-- so where its desk at a thread lies follows from what happened to the place
lies_skips : (e : EnvNo) (t : ThreadNo) (l : Lies) (x : Coming) → is_about e x ≡ false → lies_after e t l x ≡ l
lies_skips e t l (Came n) off = refl
lies_skips e t l (Started u) off = refl
lies_skips e t l (Ended u) off = refl
lies_skips e t l (Left u) off = refl
lies_skips e t l (Attached f) off = refl
lies_skips e t l (Met f n) off = grind (arith, off)
lies_skips e t l (GaveBack f u) off = grind (arith, off)
lies_skips e t l (Disposed f) off = refl
lies_skips e t l (Stop None call) off = refl
lies_skips e t l (Stop (Some f) call) off = refl

pub lies_same : (e : EnvNo) (t : ThreadNo) (xs : List Coming) (x : Coming) → is_about e x ≡ false → lies e t (xs ++ x ∷ []) ≡ lies e t xs
lies_same e t xs x off = lies_more e t xs x ∙ lies_skips e t (lies e t xs) x off
