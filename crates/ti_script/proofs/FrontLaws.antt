-- Fronts of texts that are added.
use Rattle.std.proofs.Common.{◌≡◌, ℕ, Bool, true, false, if◌then◌else◌, List, [], ◌++◌, refl, sym, ap, ◌∙◌, append_assoc, append-nil}
use Rattle.ti_script.specs.Texts.{AddsFront}

-- nothing was added
pub front_none : (a b xs : List ℕ) → b ≡ a → AddsFront a b xs
front_none a b xs e = record { front = []; rest = xs; split = refl; added = e ∙ sym (append-nil a) }

-- all of it was
pub front_whole : (a b xs : List ℕ) → b ≡ a ++ xs → AddsFront a b xs
front_whole a b xs e = record { front = xs; rest = []; split = sym (append-nil xs); added = e }

-- all of it was, or nothing
pub front_if : (done : Bool) (a b xs : List ℕ) → b ≡ (if done then a ++ xs else a) → AddsFront a b xs
front_if true a b xs e = front_whole a b xs e
front_if false a b xs e = front_none a b xs e

-- a text, and then a front of another
pub front_after : (a b c xs ys : List ℕ) → b ≡ a ++ xs → AddsFront b c ys → AddsFront a c (xs ++ ys)
front_after a b c xs ys e q = record {
  front = xs ++ q.front;
  rest = q.rest;
  split = ap (λ l. xs ++ l) q.split ∙ sym (append_assoc xs q.front q.rest);
  added = q.added ∙ ap (λ l. l ++ q.front) e ∙ append_assoc a xs q.front;
}

-- a front of a text is a front of a longer one
pub front_of_more : (a b xs ys : List ℕ) → AddsFront a b xs → AddsFront a b (xs ++ ys)
front_of_more a b xs ys q =
    record { front = q.front; rest = q.rest ++ ys; split = ap (λ l. l ++ ys) q.split ∙ append_assoc q.front q.rest ys; added = q.added }

-- ---- in a loop

-- the text grew by a front, this one is left
pub record Leaves (old new left all : List ℕ) : Type 0 where
  pub front : List ℕ
  pub split : all ≡ front ++ left
  pub added : new ≡ old ++ front

pub leaves_all : (a xs : List ℕ) → Leaves a a xs xs
leaves_all a xs = record { front = []; split = refl; added = sym (append-nil a) }

-- a part of what was left is added
pub leaves_less : (a b c part left all : List ℕ) → Leaves a b (part ++ left) all → c ≡ b ++ part → Leaves a c left all
leaves_less a b c part left all p e = record {
  front = p.front ++ part;
  split = p.split ∙ sym (append_assoc p.front part left);
  added = e ∙ ap (λ l. l ++ part) p.added ∙ append_assoc a p.front part;
}

-- a front of what was left is added
pub front_left : (a b c part left rest all : List ℕ) → Leaves a b rest all → rest ≡ part ++ left → AddsFront b c part → AddsFront a c all
front_left a b c part left rest all p e q = record {
  front = p.front ++ q.front;
  rest = q.rest ++ left;
  split = p.split ∙ ap (λ l. p.front ++ l) e ∙ ap (λ l. p.front ++ (l ++ left)) q.split ∙ ap (λ l. p.front ++ l) (append_assoc q.front q.rest left) ∙ sym (append_assoc p.front q.front (q.rest ++ left));
  added = q.added ∙ ap (λ l. l ++ q.front) p.added ∙ append_assoc a p.front q.front;
}

pub ruleset leaving = (leaves_all, leaves_less, front_left)

pub ruleset fronts = (front_none, front_whole, front_after, front_of_more)
