-- The owners' seats of cells: they go to the walks, and come back.
use Rattle.std.proofs.Common.{◌≡◌, ℕ, suc, ◌<◌, ◌++◌, List, [], ◌∷◌, length, map, refl, ap, sym, ◌∙◌, arith, subst, Some, slice_index_or, slice_set}
use Rattle.std.specs.Prelude.{slice_get}
use Rattle.std.specs.List.{All}
use Rattle.std.proofs.Math.ListN.{get_or}
use Rattle.std.proofs.Math.Seq.{get_or-append_seam, map-set_same}
use Rattle.std.proofs.lemmas.List.{length-append, length-map, map-append, get_or-map}
use Rattle.std.proofs.lemmas.List.Elements.{All-append, All-cons, All-nil, All-tail, All-set}
use Rattle.std.proofs.lemmas.Option.{slice_get_within, get_or_from_slice_get}
use Rattle.std.specs.PromisedHandle.{KeepsEach}
use Rattle.std.specs.declared.thread.PromisedHandle.{PromisedHandle}
use Rattle.std.specs.declared.thread.Promise as Promise
use Rattle.atomic_table.specs.Seated.{TableId}
use Rattle.ti_cell.specs.Seats.{Sitting}
use Rattle.ti_runner.specs.declared.thread_walk.Walked.{Walked}
use Rattle.ti_runner.specs.declared.activities.SeatOf.{SeatOf}
use Rattle.ti_runner.specs.Cells.{IsBack, AreBack, seats_at}

-- what stands after a front
pub seam : {A : Type 0} (pre : List A) (x : A) (rest all : List A) (d : A) → pre ++ x ∷ rest ≡ all → slice_index_or all (length pre) d ≡ x
seam pre x rest all d h = subst (λ l. slice_index_or l (length pre) d ≡ x) h (get_or-append_seam pre x rest d)

pub seam_within : {A : Type 0} (pre : List A) (x : A) (rest all : List A) → pre ++ x ∷ rest ≡ all → length pre < length all
seam_within pre x rest all h = subst (λ l. length pre < length l) h (omega (arith, length-append pre (x ∷ rest)))

-- an element goes over to the front
pub seam_on : {A B : Type 0} (f : B → A) (pre : List B) (x : B) (y : A) (rest all : List A) → map f pre ++ y ∷ rest ≡ all → f x ≡ y → map f (pre ++ x ∷ []) ++ rest ≡ all
seam_on f [] x y rest all h e = subst (λ z. z ∷ rest ≡ all) (sym e) h
seam_on f (p ∷ pre) x y rest all h e = ap (λ l. f p ∷ l) (seam_on f pre x y rest (map f pre ++ y ∷ rest) refl e) ∙ h

-- one more seat
pub seats_push : (cells : List TableId) (seats : List Sitting) (cell : TableId) (s : Sitting) → seats_at seats ≡ cells → s.cell ≡ cell → seats_at (seats ++ s ∷ []) ≡ cells ++ cell ∷ []
seats_push cells seats cell s here at = map-append (λ (z : Sitting). z.cell) seats (s ∷ []) ∙ ap (λ l. l ++ s.cell ∷ []) here ∙ ap (λ c. cells ++ c ∷ []) at

-- the seat that came back to one of the cells
pub back_at : (cells : List TableId) (walked : List Walked) (k : ℕ) (d : TableId) (w : Walked) → AreBack cells walked → k < length cells
    → IsBack (slice_index_or cells k d) (slice_index_or walked k w).seat
back_at cells walked k d w back within = record {
  here = sym (get_or-map (λ (z : Walked). z.seat.cell) walked k w d short) ∙ ap (λ l. slice_index_or l k d) back.here;
  owner = back.owners k w short;
}
  where
    short : k < length walked
    short = omega (arith, within, length-map walked (λ (z : Walked). z.seat.cell), ap length back.here)

-- another seat in its place
pub back_set : (cells : List TableId) (walked : List Walked) (k : ℕ) (d : TableId) (w : Walked) → AreBack cells walked → k < length cells → IsBack (slice_index_or cells k d) w.seat
    → AreBack cells (slice_set walked k w)
back_set cells walked k d w back within new = record {
  here = map-set_same (λ (z : Walked). z.seat.cell) walked k w w same ∙ back.here;
  owners = All-set (λ (z : Walked). z.seat.view.number ≡ 0) walked k w new.owner back.owners;
}
  where
    same : w.seat.cell ≡ (slice_index_or walked k w).seat.cell
    same = new.here ∙ sym (back_at cells walked k d w back within).here

pub back_rest : (cells : List TableId) (walked : List Walked) (c : TableId) (w : Walked) → AreBack (c ∷ cells) (w ∷ walked) → AreBack cells walked
back_rest cells walked c w back = record {
  here = cc back.here;
  owners = All-tail (λ (z : Walked). z.seat.view.number ≡ 0) w walked back.owners;
}

-- two lists by their elements
pub maps_alike : {A B C : Type 0} (f : A → C) (g : B → C) (xs : List A) (ys : List B) → length xs ≡ length ys
    → ((k : ℕ) (a : A) (b : B) → slice_get xs k ≡ Some a → slice_get ys k ≡ Some b → f a ≡ g b) → map f xs ≡ map g ys
maps_alike f g [] [] same each = refl
maps_alike f g [] (y ∷ ys) same each = cc
maps_alike f g (x ∷ xs) [] same each = cc
maps_alike f g (x ∷ xs) (y ∷ ys) same each =
    ap (λ c. c ∷ map f xs) (each 0 x y refl refl) ∙ ap (λ l. g y ∷ l) (maps_alike f g xs ys (omega (arith, same)) (λ k. each (suc k)))

-- threads that are joined leave what they promised
pub walked_kept : (g : Promise.Ghosts SeatOf Walked) (n : ℕ) (hs : List (PromisedHandle Walked SeatOf)) (ws : List Walked) (cells : List TableId)
    → ((p : SeatOf) (w : Walked) → g.kept_by p w → IsBack p.0.now w.seat) → n ≡ length hs → length ws ≡ n → KeepsEach g n hs ws
    → map (λ (h : PromisedHandle Walked SeatOf). h.promise.0.now) hs ≡ cells → AreBack cells ws
walked_kept g n hs ws cells keeps all same each at = record {
  here = maps_alike (λ (w : Walked). w.seat.cell) (λ (h : PromisedHandle Walked SeatOf). h.promise.0.now) ws hs (same ∙ all) one ∙ at;
  owners = λ k d within. (keeps _ _ (each k d (subst (λ n. k < n) same within)).1.kept).owner;
}
  where
    one : (k : ℕ) (w : Walked) (h : PromisedHandle Walked SeatOf) → slice_get ws k ≡ Some w → slice_get hs k ≡ Some h → w.seat.cell ≡ h.promise.0.now
    one k w h gw gh =
        let kept = (each k w (subst (λ m. k < m) (sym all) (slice_get_within hs k h gh))).1 in
        let this : kept.handle ≡ h = kept.handle_is ∙ get_or_from_slice_get hs k h kept.handle gh in
        let back = keeps kept.handle.promise (slice_index_or ws k w) kept.kept in
        ap (λ (z : Walked). z.seat.cell) (sym (get_or_from_slice_get ws k w w gw)) ∙ back.here ∙ ap (λ (z : PromisedHandle Walked SeatOf). z.promise.0.now) this
