-- Fronts of texts.
use Rattle.std.proofs.Common.{◌≡◌, refl, ℕ, List, [], ◌++◌, Option, None, Some, sym, ap, ◌∙◌, append_assoc, append-nil, take, drop, ◌+◌, subst}
use Rattle.std.proofs.lemmas.List.{take-append-drop}
use Rattle.std.proofs.Math.Seq.{take-add}
use Rattle.std.specs.Io.KnownBytes.{Appends, Keeps}
use Rattle.std.proofs.KnownBytes.{Appends-nil}
use Rattle.ti_driver.specs.Streams.{TakesFront, Sends}

pub appends_both : (a b c : Option (List ℕ)) (xs ys : List ℕ) → Appends a b xs → Appends b c ys → Appends a c (xs ++ ys)
appends_both None b c xs ys p q = tt
appends_both (Some x) None c xs ys p q = absurd p
appends_both (Some x) (Some y) None xs ys p q = absurd q
appends_both (Some x) (Some y) (Some z) xs ys p q = q ∙ ap (λ l. l ++ ys) p ∙ append_assoc x xs ys

-- a text that was taken, and then a front of another
pub front_after : (a b c : Option (List ℕ)) (xs ys : List ℕ) → Appends a b xs → TakesFront b c ys → TakesFront a c (xs ++ ys)
front_after a b c xs ys p q = record {
  front = xs ++ q.front;
  rest = q.rest;
  split = ap (λ l. xs ++ l) q.split ∙ sym (append_assoc xs q.front q.rest);
  taken = appends_both a b c xs q.front p q.taken;
}

-- a front of a text is a front of a longer one
pub front_of_more : (a b : Option (List ℕ)) (xs ys : List ℕ) → TakesFront a b xs → TakesFront a b (xs ++ ys)
front_of_more a b xs ys p = record {
  front = p.front;
  rest = p.rest ++ ys;
  split = ap (λ l. l ++ ys) p.split ∙ append_assoc p.front p.rest ys;
  taken = p.taken;
}

pub ruleset fronts = (front_after, front_of_more, appends_both)

appends_kept : (a b c : Option (List ℕ)) (xs : List ℕ) → Appends a b xs → Keeps b c → Appends a c xs
appends_kept None b c xs p q = tt
appends_kept (Some x) None c xs p q = absurd p
appends_kept (Some x) (Some y) None xs p q = absurd q
appends_kept (Some x) (Some y) (Some z) xs p q = q ∙ p

-- so much was taken, and then more of the rest
pub taken_more : (a b c : Option (List ℕ)) (n m : ℕ) (bs : List ℕ) → Appends a b (take n bs) → Appends b c (take m (drop n bs)) → Appends a c (take (n + m) bs)
taken_more a b c n m bs p q = subst (λ l. Appends a c l) (sym (take-add n m bs)) (appends_both a b c (take n bs) (take m (drop n bs)) p q)

-- so much was taken, and then a write failed
pub front_so_far : (a b c : Option (List ℕ)) (n : ℕ) (bs : List ℕ) → Appends a b (take n bs) → Keeps b c → TakesFront a c bs
front_so_far a b c n bs p q = record {
  front = take n bs;
  rest = drop n bs;
  split = sym (take-append-drop n bs);
  taken = appends_kept a b c (take n bs) p q;
}

-- so much was taken, and it was all, or the next write took nothing
pub front_taken : (a b : Option (List ℕ)) (n : ℕ) (bs : List ℕ) → Appends a b (take n bs) → TakesFront a b bs
front_taken a b n bs p = record {
  front = take n bs;
  rest = drop n bs;
  split = sym (take-append-drop n bs);
  taken = p;
}

pub ruleset writes = (taken_more, front_so_far, front_taken)

-- ---- a text that goes out in parts

pub sends_none : (a : Option (List ℕ)) (xs : List ℕ) → Sends a a xs xs
sends_none a xs = record { sent = []; split = refl; taken = Appends-nil a }

pub front_none : (a : Option (List ℕ)) (xs : List ℕ) → TakesFront a a xs
front_none a xs = record { front = []; rest = xs; split = refl; taken = Appends-nil a }

pub sends_whole : (a b : Option (List ℕ)) (xs : List ℕ) → Appends a b xs → Sends a b xs []
sends_whole a b xs p = record { sent = xs; split = sym (append-nil xs); taken = p }

-- a part of what was left goes out, and then this is left
pub sends_more : (a b c : Option (List ℕ)) (all kept left rest : List ℕ) → Sends a b all (kept ++ rest) → Sends b c kept left → Sends a c all (left ++ rest)
sends_more a b c all kept left rest p q = record {
  sent = p.sent ++ q.sent;
  split = p.split ∙ ap (λ l. p.sent ++ (l ++ rest)) q.split ∙ ap (λ l. p.sent ++ l) (append_assoc q.sent left rest) ∙ sym (append_assoc p.sent q.sent (left ++ rest));
  taken = appends_both a b c p.sent q.sent p.taken q.taken;
}

-- a front of what was left goes out
pub sends_front : (a b c : Option (List ℕ)) (all kept rest : List ℕ) → Sends a b all (kept ++ rest) → TakesFront b c kept → TakesFront a c all
sends_front a b c all kept rest p q = record {
  front = p.sent ++ q.front;
  rest = q.rest ++ rest;
  split = p.split ∙ ap (λ l. p.sent ++ (l ++ rest)) q.split ∙ ap (λ l. p.sent ++ l) (append_assoc q.front q.rest rest) ∙ sym (append_assoc p.sent q.front (q.rest ++ rest));
  taken = appends_both a b c p.sent q.front p.taken q.taken;
}

-- a text that went out whole, or in front
pub ruleset parts = (sends_none, sends_whole, front_none)

-- a line goes from the front of what is left to the end of the text
pub sends_line : (a b : Option (List ℕ)) (all text line rest longer : List ℕ) → longer ≡ text ++ line → Sends a b all (text ++ (line ++ rest)) → Sends a b all (longer ++ rest)
sends_line a b all text line rest longer e p = record {
  sent = p.sent;
  split = p.split ∙ ap (λ l. p.sent ++ l) (sym (append_assoc text line rest) ∙ ap (λ l. l ++ rest) (sym e));
  taken = p.taken;
}
