-- How a history settles as it grows.
use Rattle.std.proofs.Common.{◌≡◌, Bool, true, false, cond, ◌&&◌, List, [], ◌∷◌, ◌++◌, refl, arith, append-nil}
use Rattle.std.specs.List.{list_any}
use Rattle.std.proofs.lemmas.List.Folds.{list_any-append}
use Rattle.ti_types.specs.declared.entry.Entry.{Entry}
use Rattle.ti_types.specs.declared.entry.Entry.TheVariants.{Start, Own, Hand, Back, End, Asked, Stop, Read, Go}
use Rattle.ti_replay.specs.Settling.{Placed, hands_over, is_waiting_call, is_hand_over, runs_after, runs_behind, put_behind, settle, left_out}

-- a call goes after the first hand-over of two parts
pub put_behind-append : (c : Placed) (s t : List Placed) → put_behind c (s ++ t) ≡ cond (list_any hands_over s) (put_behind c s ++ t) (s ++ put_behind c t)
put_behind-append c [] t = refl
put_behind-append c (p ∷ s) t = grind (arith, put_behind-append c s t)

-- where there is no hand-over, a call is left out
pub put_behind_none : (c : Placed) (s : List Placed) → list_any hands_over s ≡ false → put_behind c s ≡ s
put_behind_none c [] h = refl
put_behind_none c (p ∷ s) h = grind (arith, put_behind_none c s)

-- a call that is put in brings no hand-over with it
pub hands-put_behind : (c : Placed) (s : List Placed) → list_any hands_over (put_behind c s) ≡ list_any hands_over s
hands-put_behind c [] = refl
hands-put_behind c (p ∷ s) = grind (arith, hands-put_behind c s)

-- a waiting call is no hand-over
pub waiting_hands : (x : Entry) → is_waiting_call x ≡ true → is_hand_over x ≡ false
waiting_hands Start h = refl
waiting_hands (Own step) h = refl
waiting_hands (Hand safe) h = cc
waiting_hands Back h = refl
waiting_hands End h = cc
waiting_hands (Asked env number call) h = refl
waiting_hands (Stop env) h = refl
waiting_hands (Read env max_count) h = refl
waiting_hands (Go env) h = refl

-- a waiting call changes nothing of whether the thread runs
pub waiting_runs : (r : Bool) (x : Entry) → is_waiting_call x ≡ true → runs_after r x ≡ r
waiting_runs r Start h = cc
waiting_runs r (Own step) h = cc
waiting_runs r (Hand safe) h = cc
waiting_runs r Back h = cc
waiting_runs r End h = cc
waiting_runs r (Asked env number call) h = refl
waiting_runs r (Stop env) h = cc
waiting_runs r (Read env max_count) h = cc
waiting_runs r (Go env) h = cc

-- settled entries have a hand-over where the entries have one
pub hands-settle : (r : Bool) (s : List Placed) → list_any hands_over (settle r s) ≡ list_any hands_over s
hands-settle r [] = refl
hands-settle r (p ∷ s) =
    grind (arith, hands-settle (runs_after r p.1) s, hands-put_behind p (settle (runs_after r p.1) s), waiting_hands p.1)

-- calls put after the first hand-over, the earliest first
abbrev pub all_behind : List Placed → List Placed → List Placed
all_behind [] s = s
all_behind (c ∷ calls) s = put_behind c (all_behind calls s)

-- what is left out of a front is put after the first hand-over of the rest
pub settle-append : (r : Bool) (s t : List Placed) → settle r (s ++ t) ≡ settle r s ++ all_behind (left_out r s) (settle (runs_behind r s) t)
settle-append r [] t = refl
settle-append r (p ∷ s) t =
    grind (arith, settle-append (runs_after r p.1) s t, hands-settle (runs_after r p.1) s, put_behind_none p (settle (runs_after r p.1) s), put_behind-append p (settle (runs_after r p.1) s) (all_behind (left_out (runs_after r p.1) s) (settle (runs_behind (runs_after r p.1) s) t)))

pub left_out-append : (r : Bool) (s t : List Placed) → left_out r (s ++ t) ≡ cond (list_any hands_over t) [] (left_out r s) ++ left_out (runs_behind r s) t
left_out-append r [] t = grind arith
left_out-append r (p ∷ s) t =
    grind (arith, left_out-append (runs_after r p.1) s t, list_any-append hands_over s t)

-- the entry that comes last: a hand-over lets the calls take place
pub all_behind_hand : (calls : List Placed) (p : Placed) → hands_over p ≡ true → all_behind calls (p ∷ []) ≡ p ∷ calls
all_behind_hand [] p h = refl
all_behind_hand (c ∷ calls) p h = rw (all_behind_hand calls p h) (rw h refl)

pub all_behind_none : (calls s : List Placed) → list_any hands_over s ≡ false → all_behind calls s ≡ s
all_behind_none [] s h = refl
all_behind_none (c ∷ calls) s h = rw (all_behind_none calls s h) (put_behind_none c s h)

-- a settled history only grows at its end
pub settled_grows : (r : Bool) (s t : List Placed) → (more : List Placed) × (settle r (s ++ t) ≡ settle r s ++ more)
settled_grows r s t = (all_behind (left_out r s) (settle (runs_behind r s) t), settle-append r s t)

-- what one more entry does to what has taken place, and to the calls that have not
pub settle_hand : (r : Bool) (s : List Placed) (p : Placed) → hands_over p ≡ true → settle r (s ++ p ∷ []) ≡ settle r s ++ p ∷ left_out r s
settle_hand r s p h = grind (arith, settle-append r s (p ∷ []), all_behind_hand (left_out r s) p, waiting_hands p.1)

pub left_out_hand : (r : Bool) (s : List Placed) (p : Placed) → hands_over p ≡ true → left_out r (s ++ p ∷ []) ≡ []
left_out_hand r s p h = grind (arith, left_out-append r s (p ∷ []), waiting_hands p.1)

pub settle_wait : (r : Bool) (s : List Placed) (p : Placed) → is_waiting_call p.1 ≡ true → runs_behind r s ≡ true → settle r (s ++ p ∷ []) ≡ settle r s
settle_wait r s p h k = grind (arith, settle-append r s (p ∷ []), all_behind_none (left_out r s) [], append-nil (settle r s), waiting_hands p.1)

pub left_out_wait : (r : Bool) (s : List Placed) (p : Placed) → is_waiting_call p.1 ≡ true → runs_behind r s ≡ true → left_out r (s ++ p ∷ []) ≡ left_out r s ++ p ∷ []
left_out_wait r s p h k = grind (arith, left_out-append r s (p ∷ []), waiting_hands p.1)

pub settle_now : (r : Bool) (s : List Placed) (p : Placed) → hands_over p ≡ false → (is_waiting_call p.1 && runs_behind r s) ≡ false → settle r (s ++ p ∷ []) ≡ settle r s ++ p ∷ []
settle_now r s p h k = grind (arith, settle-append r s (p ∷ []), all_behind_none (left_out r s) (p ∷ []))

pub left_out_now : (r : Bool) (s : List Placed) (p : Placed) → hands_over p ≡ false → (is_waiting_call p.1 && runs_behind r s) ≡ false → left_out r (s ++ p ∷ []) ≡ left_out r s
left_out_now r s p h k = grind (arith, left_out-append r s (p ∷ []), append-nil (left_out r s))
