-- Texts that are written one part after another.
use Rattle.std.proofs.Common.{refl, [], append-nil, drop_of_length-le, ◌≡◌, ℕ, ◌+◌, ◌<◌, ◌≤◌, List, ◌∷◌, ◌++◌, length, length-append, get_or, drop, drop-cons, add-one, arith, ap, sym, ◌∙◌, subst, append_assoc}
use Rattle.std.specs.Prelude.{Result, Ok, Err, OnOk, OnErr, is_ok, if◌then◌else◌}
use Rattle.std.specs.Result.{IsErr}
use Rattle.std.proofs.lemmas.Result.{on_ok_weaker, on_err_weaker}
use Rattle.ti_script.specs.Texts.{AddsFront, Adds, Written}
use Rattle.ti_script.proofs.FrontLaws.{Leaves, leaves_all, leaves_less, front_left, front_whole, front_none, front_after, front_of_more}

-- the text of what is left begins with that of the next one
pub next_text : {X : Type 0} (text : List X → List ℕ) (xs : List X) (i : ℕ) (x : X) → i < length xs → x ≡ get_or xs i x → text (drop i xs) ≡ text (x ∷ drop (i + 1) xs)
next_text text xs i x h is =
    let e : drop i xs ≡ get_or xs i x ∷ drop (i + 1) xs = rw add-one (drop-cons xs i x h) in
    ap text (e ∙ ap (λ y. y ∷ drop (i + 1) xs) (sym is))

-- ---- parts that are added

-- what `push_str` says
pub pushed : {T E : Type 0} (r : Result T E) (old new : Written) (text : List ℕ) → new.bytes ≡ (if is_ok r then old.bytes ++ text else old.bytes)
    → new.len ≡ (if is_ok r then old.len + length text else old.len) → old.room ≤ new.room → OnErr r (old.room < old.len + length text) → Adds r old new text
pushed (Ok x) old new text bytes len room full = record { ok = bytes; len = len; room = room; full = full; front = front_whole old.bytes new.bytes text bytes }
pushed (Err e) old new text bytes len room full = record { ok = search; len = search; room = room; full = full; front = front_none old.bytes new.bytes text bytes }

pub adds_of : {T E : Type 0} (r : Result T E) (old new : Written) (text : List ℕ) → OnOk r (new.bytes ≡ old.bytes ++ text) → OnOk r (new.len ≡ old.len + length text)
    → old.room ≤ new.room → OnErr r (old.room < old.len + length text) → AddsFront old.bytes new.bytes text → Adds r old new text
adds_of r old new text ok len room full front = record { ok = ok; len = len; room = room; full = full; front = front }

-- one part was added, and then another
pub adds_more : {T E U F : Type 0} {u : U} (r : Result T E) (old mid new : Written) (x y : List ℕ) → Adds {T = U} {E = F} (Ok u) old mid x → Adds r mid new y → Adds r old new (x ++ y)
adds_more r old mid new x y a b = record {
  ok = on_ok_weaker r (λ e. e ∙ ap (λ l. l ++ y) a.ok ∙ append_assoc old.bytes x y) b.ok;
  len = on_ok_weaker r (λ e. omega (arith, e, a.len, length-append x y)) b.len;
  room = omega (arith, a.room, b.room);
  full = on_err_weaker r (λ e. omega (arith, e, a.len, a.room, length-append x y)) b.full;
  front = front_after old.bytes mid.bytes new.bytes x y a.ok b.front;
}

-- one part was not
pub adds_part : {T E U F : Type 0} {e : E} (r : Result U F) → IsErr r → (old new : Written) (x y : List ℕ) → Adds {T = T} {E = E} (Err e) old new x → Adds r old new (x ++ y)
adds_part (Ok u) wrong old new x y a = cc
adds_part (Err f) is old new x y a = record {
  ok = a.ok;
  len = a.len;
  room = a.room;
  full = omega (arith, a.full, length-append x y);
  front = front_of_more old.bytes new.bytes x y a.front;
}

-- ---- in a loop

-- it became another one, to which this is left to be added
pub record Goes (old new : Written) (left all : List ℕ) : Type 0 where
  pub text : new.bytes ++ left ≡ old.bytes ++ all
  pub len : new.len + length left ≡ old.len + length all
  pub front : Leaves old.bytes new.bytes left all
  pub room : old.room ≤ new.room

-- one more part is added
pub goes_more : (old now new : Written) (part rest left all : List ℕ) → Goes old now left all → left ≡ part ++ rest
    → new.bytes ≡ now.bytes ++ part → new.len ≡ now.len + length part → now.room ≤ new.room → Goes old new rest all
goes_more old now new part rest left all g e bytes len room = record {
  text = ap (λ l. l ++ rest) bytes ∙ append_assoc now.bytes part rest ∙ ap (λ l. now.bytes ++ l) (sym e) ∙ g.text;
  len = omega (arith, g.len, len, ap length e, length-append part rest);
  front = leaves_less old.bytes now.bytes new.bytes part rest all (subst (λ l. Leaves old.bytes now.bytes l all) e g.front) bytes;
  room = omega (arith, g.room, room);
}

-- there was no room for a part
pub no_room : (old now : Written) (part rest left all : List ℕ) → Goes old now left all → left ≡ part ++ rest → now.room < now.len + length part → old.room < old.len + length all
no_room old now part rest left all g e full = omega (arith, g.len, g.room, full, ap length e, length-append part rest)

pub front_of_part : (old now new : Written) (part rest left all : List ℕ) → Goes old now left all → left ≡ part ++ rest → AddsFront now.bytes new.bytes part → AddsFront old.bytes new.bytes all
front_of_part old now new part rest left all g e f = front_left old.bytes now.bytes new.bytes part rest left all g.front e f

-- before the first part
pub goes_first : (old : Written) (all : List ℕ) → Goes old old all all
goes_first old all = record { text = refl; len = refl; front = leaves_all old.bytes all; room = omega arith }

-- after the last one nothing is left
pub done_text : (old new : Written) (left all : List ℕ) → Goes old new left all → left ≡ [] → new.bytes ≡ old.bytes ++ all
done_text old new left all g e = sym (append-nil new.bytes) ∙ ap (λ l. new.bytes ++ l) (sym e) ∙ g.text

pub done_len : (old new : Written) (left all : List ℕ) → Goes old new left all → left ≡ [] → new.len ≡ old.len + length all
done_len old new left all g e = omega (arith, g.len, ap length e)

pub done_front : (old new : Written) (left all : List ℕ) → Goes old new left all → left ≡ [] → AddsFront old.bytes new.bytes all
done_front old new left all g e = front_whole old.bytes new.bytes all (done_text old new left all g e)

pub none_left : {X : Type 0} (text : List X → List ℕ) (xs : List X) (i : ℕ) → length xs ≤ i → text [] ≡ [] → text (drop i xs) ≡ []
none_left text xs i h e = ap text (drop_of_length-le xs h) ∙ e

-- one more part was added
pub goes_then : {U F : Type 0} {u : U} (old now new : Written) (part rest left all : List ℕ) → Goes old now left all → left ≡ part ++ rest → Adds {T = U} {E = F} (Ok u) now new part → Goes old new rest all
goes_then old now new part rest left all g e a = goes_more old now new part rest left all g e a.ok a.len a.room

-- it was not
pub goes_wrong : {T E U F : Type 0} {e : E} (r : Result U F) → IsErr r → (old now new : Written) (part rest left all : List ℕ) → Goes old now left all → left ≡ part ++ rest → Adds {T = T} {E = E} (Err e) now new part → Adds r old new all
goes_wrong (Ok u) wrong old now new part rest left all g e a = cc
goes_wrong (Err f) is old now new part rest left all g e a = record {
  ok = a.ok;
  len = a.len;
  room = omega (arith, g.room, a.room);
  full = no_room old now part rest left all g e a.full;
  front = front_of_part old now new part rest left all g e a.front;
}

pub goes_done : {U F : Type 0} {u : U} (old now : Written) (left all : List ℕ) → Goes old now left all → left ≡ [] → Adds {T = U} {E = F} (Ok u) old now all
goes_done old now left all g e = record {
  ok = done_text old now left all g e;
  len = done_len old now left all g e;
  room = g.room;
  full = search;
  front = done_front old now left all g e;
}
