-- A text that is put after another, part by part, and goes out in chunks.
use Rattle.std.proofs.Common.{◌∙◌, ℕ, List, ◌++◌, Option, refl, sym, ap, append_assoc, subst}
use Rattle.ti_driver.specs.Streams.{Sends, TakesFront}
use Rattle.ti_driver.proofs.StreamLaws.{appends_both, front_after, front_of_more, sends_line, sends_more, sends_front}

-- one part more went after the text
pub puts_more : (a b c : Option (List ℕ)) (all text part rest left : List ℕ) → Sends a b all (text ++ (part ++ rest)) → Sends b c (text ++ part) left → Sends a c all (left ++ rest)
puts_more a b c all text part rest left p q = sends_more a b c all (text ++ part) left rest (sends_line a b all text part rest (text ++ part) refl p) q

-- the writer failed at the next part
pub puts_front : (a b c : Option (List ℕ)) (all text part rest : List ℕ) → Sends a b all (text ++ (part ++ rest)) → TakesFront b c (text ++ part) → TakesFront a c all
puts_front a b c all text part rest p q = sends_front a b c all (text ++ part) rest (sends_line a b all text part rest (text ++ part) refl p) q

-- ---- two parts, one after the other

pub sends_both : (a b c : Option (List ℕ)) (text first second left more : List ℕ) → Sends a b (text ++ first) left → Sends b c (left ++ second) more → Sends a c (text ++ (first ++ second)) more
sends_both a b c text first second left more p q = record {
  sent = p.sent ++ q.sent;
  split = sym (append_assoc text first second) ∙ ap (λ l. l ++ second) p.split ∙ append_assoc p.sent left second ∙ ap (λ l. p.sent ++ l) q.split ∙ sym (append_assoc p.sent q.sent more);
  taken = appends_both a b c p.sent q.sent p.taken q.taken;
}

-- the writer failed at the first
pub front_of_first : (a b : Option (List ℕ)) (text first second : List ℕ) → TakesFront a b (text ++ first) → TakesFront a b (text ++ (first ++ second))
front_of_first a b text first second p = subst (λ l. TakesFront a b l) (append_assoc text first second) (front_of_more a b (text ++ first) second p)

-- or at the second
pub front_of_second : (a b c : Option (List ℕ)) (text first second left : List ℕ) → Sends a b (text ++ first) left → TakesFront b c (left ++ second) → TakesFront a c (text ++ (first ++ second))
front_of_second a b c text first second left p q =
    subst (λ l. TakesFront a c l) (sym (append_assoc p.sent left second) ∙ sym (ap (λ l. l ++ second) p.split) ∙ append_assoc text first second) (front_after a b c p.sent (left ++ second) p.taken q)

-- or at all that was left
pub front_of_rest : (a b c : Option (List ℕ)) (all left : List ℕ) → Sends a b all left → TakesFront b c left → TakesFront a c all
front_of_rest a b c all left p q = subst (λ l. TakesFront a c l) (sym p.split) (front_after a b c p.sent left p.taken q)
