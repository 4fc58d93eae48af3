-- Where the steps between two stacks lead.
use Rattle.std.proofs.Common.{◌≡◌, ℕ, suc, min, drop-cons, ◌+◌, ◌-◌, ◌<◌, ◌≤◌, Bool, true, false, cond, List, [], ◌∷◌, ◌++◌, length, take, drop, get_or, reverse, refl, ap, sym, subst, ◌∙◌, arith, nat_lt, length-drop, length-append, append-nil, append_assoc}
use Rattle.std.specs.Prelude.{◌==◌}
use Rattle.std.specs.List.{common_prefix_len}
use Rattle.std.proofs.lemmas.List.{take-append-drop, reverse-append, reverse-reverse, length-reverse, length-take-le, get_or-reverse, take_more}
use Rattle.std.proofs.Math.Seq.{take-append_seam}
use Rattle.std.proofs.lemmas.List.Sums.{common_prefix_len-le, common_prefix_len-drop_no, common_prefix_len-drop_yes}
use Rattle.std.proofs.lemmas.Bool.Decides.{nat_tests}
use Rattle.ti_types.specs.declared.numbers.MethodNo.{MethodNo}
use Rattle.ti_types.specs.declared.place.Frame.{Frame}
use Rattle.ti_types.specs.declared.place.Place.{Place}
use Rattle.ti_types.specs.declared.place.Place.TheVariants.{Java, Native}
use Rattle.ti_types.specs.declared.step.Step.{Step}
use Rattle.ti_types.specs.declared.step.Step.TheVariants.{Leave}
use Rattle.ti_types.specs.Steps.{frames_after}
use Rattle.ti_frames.specs.Log.{Steps, with_steps}
use Rattle.ti_frames.specs.Changes.{is_same_place, is_same_frame, frames_after_all, are_accepted, leaves, entry_at, entries, steps_keeping, frames_keeping, shared, newest_past, steps_between, Lead}

-- one run of steps after another
pub lead_on : (depth : ℕ) (a b c : List Frame) (s t : List Step) → Lead depth a s b → Lead depth b t c → Lead depth a (s ++ t) c
lead_on depth a b c [] t k l = record { accepted = ap (λ z. are_accepted depth z t) k.made ∙ l.accepted; made = ap (λ z. frames_after_all z t) k.made ∙ l.made }
lead_on depth a b c (x ∷ s) t k l =
    let m : Lead depth (frames_after a x) s b = record { accepted = grind (arith, k.accepted); made = k.made } in
    let r = lead_on depth (frames_after a x) b c s t m l in
    record { accepted = grind (arith, k.accepted, r.accepted); made = r.made }

leaves_lead : (depth : ℕ) (going kept : List Frame) → Lead depth (going ++ kept) (leaves going) kept
leaves_lead depth [] kept = record { accepted = refl; made = refl }
leaves_lead depth (f ∷ going) kept = let r = leaves_lead depth going kept in record { accepted = r.accepted; made = r.made }

java_leads : (depth : ℕ) (f : Frame) (frames : List Frame) (position : ℕ) (b : Bool) → (position == 0) ≡ b → length frames < depth → Lead depth frames (entry_at f (Java position)) (record { method = f.method; place = Java position } ∷ frames)
java_leads depth f frames position true e h =
    let t : nat_lt (length frames) depth ≡ true = grind (arith, nat_tests, h) in
    let z : position ≡ 0 = grind (arith, nat_tests, e) in
    record { accepted = grind (arith, e, t); made = grind (arith, e, z) }
java_leads depth f frames position false e h =
    let t : nat_lt (length frames) depth ≡ true = grind (arith, nat_tests, h) in
    record { accepted = grind (arith, e, t); made = grind (arith, e) }

entry_leads_at : (depth : ℕ) (f : Frame) (frames : List Frame) (place : Place) → length frames < depth → Lead depth frames (entry_at f place) (record { method = f.method; place = place } ∷ frames)
entry_leads_at depth f frames Native h =
    let t : nat_lt (length frames) depth ≡ true = grind (arith, nat_tests, h) in
    record { accepted = grind (arith, t); made = refl }
entry_leads_at depth f frames (Java position) h = java_leads depth f frames position (position == 0) refl h

entry_leads : (depth : ℕ) (f : Frame) (frames : List Frame) → length frames < depth → Lead depth frames (entry_at f f.place) (f ∷ frames)
entry_leads depth f frames h = entry_leads_at depth f frames f.place h

entries_lead : (depth : ℕ) (newest kept : List Frame) → length (newest ++ kept) ≤ depth → Lead depth kept (entries newest) (newest ++ kept)
entries_lead depth [] kept h = record { accepted = refl; made = refl }
entries_lead depth (f ∷ newest) kept h =
    let less : length (newest ++ kept) < depth = omega (arith, h) in
    lead_on depth kept (newest ++ kept) (f ∷ newest ++ kept) (entries newest) (entry_at f f.place) (entries_lead depth newest kept (omega (arith, less))) (entry_leads depth f (newest ++ kept) less)

pub keeping_leads : (depth keep : ℕ) (old newest : List Frame) → length (frames_keeping keep old newest) ≤ depth → Lead depth old (steps_keeping keep old newest) (frames_keeping keep old newest)
keeping_leads depth keep old newest h =
    let n = length old - keep in
    let one : Lead depth (take n old ++ drop n old) (leaves (take n old)) (drop n old) = leaves_lead depth (take n old) (drop n old) in
    let two : Lead depth old (leaves (take n old)) (drop n old) = subst (λ z. Lead depth z (leaves (take n old)) (drop n old)) (take-append-drop n old) one in
    lead_on depth old (drop n old) (newest ++ drop n old) (leaves (take n old)) (entries newest) two (entries_lead depth newest (drop n old) h)

same_place : (p q : Place) → is_same_place p q ≡ true → p ≡ q
same_place Native Native h = refl
same_place (Java p) (Java q) h = let e : p ≡ q = grind (arith, nat_tests, h) in ap Java e
same_place Native (Java q) h = grind (arith, h)
same_place (Java p) Native h = grind (arith, h)

pub same_frame : (f g : Frame) → is_same_frame f g ≡ true → f ≡ g
same_frame f g h =
    let p : f.place ≡ g.place = same_place f.place g.place (grind (arith, h)) in
    let m : f.method.0 ≡ g.method.0 = grind (arith, nat_tests, h) in
    let n : f.method ≡ g.method = ap (λ (k : ℕ). record { 0 = k }) m in
    ap (λ (k : MethodNo). record { method = k; place = f.place }) n ∙ ap (λ (k : Place). record { method = g.method; place = k }) p

front_step : (x y : Frame) (xs ys : List Frame) (n : ℕ) (b : Bool) → is_same_frame x y ≡ b → take n xs ≡ take n ys → take (cond b (1 + n) 0) (x ∷ xs) ≡ take (cond b (1 + n) 0) (y ∷ ys)
front_step x y xs ys n false e h = refl
front_step x y xs ys n true e h = let s = same_frame x y e in let a : 1 + n ≡ suc n = omega arith in rw a (ap (λ z. z ∷ take n xs) s ∙ ap (λ z. y ∷ z) h)

front_same : (xs ys : List Frame) → take (common_prefix_len is_same_frame xs ys) xs ≡ take (common_prefix_len is_same_frame xs ys) ys
front_same [] ys = refl
front_same (x ∷ xs) [] = refl
front_same (x ∷ xs) (y ∷ ys) = front_step x y xs ys (common_prefix_len is_same_frame xs ys) (is_same_frame x y) refl (front_same xs ys)

-- the oldest frames, by the frames listed the oldest first
oldest : (frames : List Frame) (k : ℕ) → k ≤ length frames → reverse (take k (reverse frames)) ≡ drop (length frames - k) frames
oldest frames k h =
    let n = length frames - k in
    let l : length (reverse (drop n frames)) ≡ k = omega (arith, length-reverse (drop n frames), length-drop n frames, h) in
    let a : reverse frames ≡ reverse (drop n frames) ++ reverse (take n frames) = ap reverse (sym (take-append-drop n frames)) ∙ reverse-append (take n frames) (drop n frames) in
    let b : take k (reverse frames) ≡ reverse (drop n frames) =
    ap (λ z. take k z) a ∙ ap (λ z. take z (reverse (drop n frames) ++ reverse (take n frames))) (sym l) ∙ take-append_seam (reverse (drop n frames)) (reverse (take n frames)) in
    ap reverse b ∙ reverse-reverse (drop n frames)

shared_same : (old new : List Frame) → drop (length old - shared old new) old ≡ drop (length new - shared old new) new
shared_same old new =
    let k = shared old new in
    let w = common_prefix_len-le is_same_frame (reverse old) (reverse new) in
    let u : k ≤ length old = omega (arith, w.0, length-reverse old) in
    let v : k ≤ length new = omega (arith, w.1, length-reverse new) in
    sym (oldest old k u) ∙ ap reverse (front_same (reverse old) (reverse new)) ∙ oldest new k v

-- the frames that stay under those that are new are the new stack
pub between : (old new : List Frame) → frames_keeping (shared old new) old (newest_past (shared old new) new) ≡ new
between old new =
    let n = length new - shared old new in
    ap (λ z. take n new ++ z) (shared_same old new) ∙ take-append-drop n new

pub steps_lead : (depth : ℕ) (old new : List Frame) → length new ≤ depth → Lead depth old (steps_between old new) new
steps_lead depth old new h =
    let k = shared old new in
    let e = between old new in
    let l = keeping_leads depth k old (newest_past k new) (omega (arith, ap (λ (z : List Frame). length z) e, h)) in
    record { accepted = l.accepted; made = l.made ∙ e }

-- the frames that two stacks share, counted from the oldest on: `xs` lists the oldest first, and `new` the newest first

pub shared_stop : (xs new : List Frame) (i : ℕ) (d : Frame) → common_prefix_len is_same_frame xs (reverse new) ≡ i + common_prefix_len is_same_frame (drop i xs) (drop i (reverse new)) → i < length xs → i < length new
    → is_same_frame (get_or xs i d) (get_or new (length new - 1 - i) d) ≡ false → i ≡ common_prefix_len is_same_frame xs (reverse new)
shared_stop xs new i d k a b e =
    let r : is_same_frame (get_or xs i d) (get_or (reverse new) i d) ≡ false = ap (λ z. is_same_frame (get_or xs i d) z) (get_or-reverse new i d b) ∙ e in
    let b2 : i < length (reverse new) = omega (arith, b, length-reverse new) in
    let z = common_prefix_len-drop_no is_same_frame xs (reverse new) i d d a b2 r in
    omega (arith, k, z)

pub shared_more : (xs new : List Frame) (i : ℕ) (d : Frame) → common_prefix_len is_same_frame xs (reverse new) ≡ i + common_prefix_len is_same_frame (drop i xs) (drop i (reverse new)) → i < length xs → i < length new
    → is_same_frame (get_or xs i d) (get_or new (length new - 1 - i) d) ≡ true
    → common_prefix_len is_same_frame xs (reverse new) ≡ (i + 1) + common_prefix_len is_same_frame (drop (i + 1) xs) (drop (i + 1) (reverse new))
shared_more xs new i d k a b e =
    let r : is_same_frame (get_or xs i d) (get_or (reverse new) i d) ≡ true = ap (λ z. is_same_frame (get_or xs i d) z) (get_or-reverse new i d b) ∙ e in
    let b2 : i < length (reverse new) = omega (arith, b, length-reverse new) in
    let z = common_prefix_len-drop_yes is_same_frame xs (reverse new) i d d a b2 r in
    omega (arith, k, z)

pub shared_all : (xs new : List Frame) (i : ℕ) → common_prefix_len is_same_frame xs (reverse new) ≡ i + common_prefix_len is_same_frame (drop i xs) (drop i (reverse new)) → min (length xs) (length new) ≤ i
    → i ≡ common_prefix_len is_same_frame xs (reverse new)
shared_all xs new i k h =
    let w = common_prefix_len-le is_same_frame (drop i xs) (drop i (reverse new)) in
    omega (arith, k, w.0, w.1, length-drop i xs, length-drop i (reverse new), length-reverse new, h)

-- how many steps there are

pub leaves_len : (frames : List Frame) → length (leaves frames) ≡ length frames
leaves_len [] = refl
leaves_len (f ∷ frames) = grind (arith, leaves_len frames)

leaves-append : (a b : List Frame) → leaves (a ++ b) ≡ leaves a ++ leaves b
leaves-append [] b = refl
leaves-append (f ∷ a) b = ap (λ z. Leave ∷ z) (leaves-append a b)

pub leaves_more : (frames : List Frame) (i : ℕ) (d : Frame) → i < length frames → leaves (take (i + 1) frames) ≡ leaves (take i frames) ++ Leave ∷ []
leaves_more frames i d h = ap leaves (take_more frames i d h) ∙ leaves-append (take i frames) (get_or frames i d ∷ [])

entries-append : (a b : List Frame) → entries (a ++ b) ≡ entries b ++ entries a
entries-append [] b = rw append-nil refl
entries-append (f ∷ a) b = ap (λ z. z ++ entry_at f f.place) (entries-append a b) ∙ append_assoc (entries b) (entries a) (entry_at f f.place)

pub entries_fit : (frames : List Frame) (i : ℕ) (d : Frame) → i < length frames
    → length (entries (drop (length frames - i) frames)) + length (entry_at (get_or frames (length frames - 1 - i) d) (get_or frames (length frames - 1 - i) d).place) ≤ length (entries frames)
entries_fit frames i d h =
    let k = length frames - 1 - i in
    let g = get_or frames k d in
    let l : k < length frames = omega (arith, h) in
    let e : suc k ≡ length frames - i = omega (arith, h) in
    let c : drop k frames ≡ g ∷ drop (length frames - i) frames = drop-cons frames k d l ∙ ap (λ z. g ∷ drop z frames) e in
    let w : entries frames ≡ (entries (drop (length frames - i) frames) ++ entry_at g g.place) ++ entries (take k frames) =
    ap entries (sym (take-append-drop k frames)) ∙ entries-append (take k frames) (drop k frames) ∙ ap (λ z. entries z ++ entries (take k frames)) c in
    omega (arith, ap (λ (z : List Step). length z) w, length-append (entries (drop (length frames - i) frames) ++ entry_at g g.place) (entries (take k frames)), length-append (entries (drop (length frames - i) frames)) (entry_at g g.place))

pub keeping_len : (keep : ℕ) (old newest : List Frame) → length (steps_keeping keep old newest) ≡ (length old - keep) + length (entries newest)
keeping_len keep old newest =
    let n = length old - keep in
    omega (arith, length-append (leaves (take n old)) (entries newest), leaves_len (take n old), length-take-le n old (omega arith))

pub entry_few : (f : Frame) (place : Place) → length (entry_at f place) ≤ 2
entry_few f Native = omega arith
entry_few f (Java position) = grind arith

pub entries_few : (frames : List Frame) → length (entries frames) ≤ length frames + length frames
entries_few [] = omega arith
entries_few (f ∷ frames) = omega (arith, entries_few frames, entry_few f f.place, length-append (entries frames) (entry_at f f.place))

-- the oldest frames, of a list that has the oldest first
pub kept_oldest : (items : List Frame) (k : ℕ) → k ≤ length items → reverse (take k items) ≡ drop (length (reverse items) - k) (reverse items)
kept_oldest items k h =
    let e = reverse-reverse items in
    let l : k ≤ length (reverse items) = omega (arith, h, length-reverse items) in
    ap (λ z. reverse (take k z)) (sym e) ∙ oldest (reverse items) k l

-- there is room for the next entry
pub log_fit : (l m : Steps) (frames : List Frame) (i : ℕ) (d : Frame) → m ≡ with_steps l (l.steps ++ entries (drop (length frames - i) frames)) → length l.steps + length (entries frames) ≤ l.room → i < length frames
    → length m.steps + length (entry_at (get_or frames (length frames - 1 - i) d) (get_or frames (length frames - 1 - i) d).place) ≤ m.room
log_fit l m frames i d e h few =
    omega (arith, ap (λ (z : Steps). length z.steps) e, ap (λ (z : Steps). z.room) e, length-append l.steps (entries (drop (length frames - i) frames)), entries_fit frames i d few, h)

pub leaves_fit : (l m : Steps) (frames : List Frame) (i count : ℕ) → m ≡ with_steps l (l.steps ++ leaves (take i frames)) → i < count → count ≤ length frames → length l.steps + count ≤ l.room → length m.steps < m.room
leaves_fit l m frames i count e a b h =
    omega (arith, ap (λ (z : Steps). length z.steps) e, ap (λ (z : Steps). z.room) e, length-append l.steps (leaves (take i frames)), leaves_len (take i frames), length-take-le i frames (omega (arith, a, b)), a, h)

pub leaves_on : (l m n : Steps) (frames : List Frame) (i : ℕ) → m ≡ with_steps l (l.steps ++ leaves (take i frames)) → n ≡ with_steps m (m.steps ++ Leave ∷ []) → i < length frames
    → n ≡ with_steps l (l.steps ++ leaves (take (i + 1) frames))
leaves_on l m n frames i em en h =
    let blank : Frame = record { method = record { 0 = 0 }; place = Native } in
    en ∙ ap (λ (z : Steps). with_steps z (z.steps ++ Leave ∷ [])) em
    ∙ ap (λ z. with_steps l z) (append_assoc l.steps (leaves (take i frames)) (Leave ∷ []) ∙ ap (λ z. l.steps ++ z) (sym (leaves_more frames i blank h)))
