-- What one hold and its store tell together.
use Rattle.std.proofs.Common.{◌≡◌, ℕ, ◌-◌, true, false, List, [], ◌∷◌, ◌++◌, length, take, drop, append-nil, append_assoc, refl, sym, ap, ◌∙◌, subst, arith}
use Rattle.std.proofs.Math.Seq.{drop-append_seam, take-append_seam}
use Rattle.std.proofs.lemmas.List.{length-append}
use Rattle.ti_types.specs.declared.entry.Entry.{Entry}
use Rattle.ti_types.specs.declared.event.Ticket.{Ticket}
use Rattle.ti_types.specs.declared.limits.Limits.{Limits}
use Rattle.ti_replay.specs.Legal.{is_legal}
use Rattle.ti_replay.specs.Makers.{made_by, StartsWith}
use Rattle.ti_slot.specs.Thread.{Thread}
use Rattle.ti_cell.specs.declared.look.Look.{Look}
use Rattle.ti_cell.specs.declared.view.View.{View}
use Rattle.ti_cell.specs.View.{holding, stored, tickets_of}
use Rattle.ti_cell.specs.Rule.{IsTaken}
use Rattle.ti_cell.proofs.Goes.{starts_then, mine_grows}
use Rattle.ti_handshake.specs.Call.{GoesOn, WaitsWith, Waits, HoldsWith, Holds, SawNews, added, found, with_looks}

take_front : (f more : List Entry) (n : ℕ) → n ≡ length more → take (length (f ++ more) - n) (f ++ more) ≡ f
take_front f more n e =
    let k : length (f ++ more) - n ≡ length f = omega (arith, length-append f more, e) in
    ap (λ (i : ℕ). take i (f ++ more)) k ∙ take-append_seam f more

pub added_is : (old new : View) (more : List Entry) → new.mine ≡ old.mine ++ more → added old new ≡ more
added_is old new more e = ap (drop (length old.mine)) e ∙ drop-append_seam old.mine more

pub found_is : (old new : View) (f more : List Entry) → new.mine ≡ old.mine ++ more → new.seen ≡ f ++ more → found old new ≡ f
found_is old new f more mine seen =
    (λ i. take (length (seen i) - length (added_is old new more mine i)) (seen i)) ∙ take_front f more (length more) refl

-- v is the seat's view before, t the slot that it took, and w the view after it stored t's history with more after it
pub held_with : (v w : View) (t : Thread) (history more : List Entry) (left tickets : List Ticket) → IsTaken v t → w ≡ stored (holding v t.history t.uncollected) history left → history ≡ t.history ++ more
    → is_legal w.subject.limits w.seen ≡ true → w.mine ≡ made_by w.number w.seen → tickets_of v.number left ≡ tickets → HoldsWith v w more tickets
held_with v w t history more left tickets taken store longer legal whole posted =
    let number : w.number ≡ v.number = ap (λ (x : View). x.number) store in
    let subject : w.subject ≡ v.subject = ap (λ (x : View). x.subject) store in
    let seen : w.seen ≡ t.history ++ more = ap (λ (x : View). x.seen) store ∙ longer in
    let looked : w.looked ≡ v.looked = ap (λ (x : View). x.looked) store in
    let mine : w.mine ≡ v.mine ++ more = mine_grows v (holding v t.history t.uncollected) w t history more left refl longer store in
    let f : found v w ≡ t.history = found_is v w t.history more mine seen in
    record {
      waits = record {
        goes = record {
          number = number;
          subject = subject;
          made = ap (λ (x : View). x.made) store;
          back = ap (λ (x : View). x.back) store;
          gone = ap (λ (x : View). x.gone) store;
          rests = (ap (λ (x : View). x.holds) store, ap (λ (x : View). x.found) store);
          looked = ([], looked ∙ sym (append-nil v.looked));
          legal = subst (λ (l : Limits). is_legal l w.seen ≡ true) (λ i. (subject i).limits) legal;
          begins = subst (λ (l : List Entry). StartsWith l v.seen) (sym seen) (starts_then v.seen t.history (t.history ++ more) taken.begins (more, refl));
          whole = whole ∙ ap (λ (n : ℕ). made_by n w.seen) number;
        };
        mine = mine;
        posted = ap (λ (x : View). x.posted) store ∙ posted;
        last = seen ∙ ap (λ (l : List Entry). l ++ more) (sym f);
        here = subst (λ (l : List Entry). StartsWith l v.seen) (sym f) taken.begins;
      };
      looked = looked;
      once = ap (λ (x : View). x.taken) store;
    }

-- where the slot's tickets are as they were, the seat's are
pub held : (v w : View) (t : Thread) (history more : List Entry) (left : List Ticket) → IsTaken v t → w ≡ stored (holding v t.history t.uncollected) history left → history ≡ t.history ++ more
    → left ≡ t.uncollected → is_legal w.subject.limits w.seen ≡ true → w.mine ≡ made_by w.number w.seen → Holds v w more
held v w t history more left taken store longer kept legal whole =
    held_with v w t history more left v.posted taken store longer legal whole (ap (tickets_of v.number) kept ∙ sym taken.posted)

-- the history that was found is the slot's
pub found_held : (v w : View) (t : Thread) (history more : List Entry) (left : List Ticket) → w ≡ stored (holding v t.history t.uncollected) history left → history ≡ t.history ++ more → found v w ≡ t.history
found_held v w t history more left store longer =
    found_is v w t.history more (mine_grows v (holding v t.history t.uncollected) w t history more left refl longer store) (ap (λ (x : View). x.seen) store ∙ longer)

pub goes_then : (a b c : View) → GoesOn a b → GoesOn b c → GoesOn a c
goes_then a b c p q = record {
  number = q.number ∙ p.number;
  subject = q.subject ∙ p.subject;
  made = q.made ∙ p.made;
  back = q.back ∙ p.back;
  gone = q.gone ∙ p.gone;
  rests = q.rests;
  looked = (p.looked.0 ++ q.looked.0, q.looked.1 ∙ (ap (λ (l : List Look). l ++ q.looked.0) p.looked.1 ∙ append_assoc a.looked p.looked.0 q.looked.0));
  legal = subst (λ (l : Limits). is_legal l c.seen ≡ true) (λ i. (p.subject i).limits) q.legal;
  begins = starts_then a.seen b.seen c.seen p.begins q.begins;
  whole = q.whole ∙ ap (λ (n : ℕ). made_by n c.seen) p.number;
}

same_found : (a b c : View) → b.mine ≡ a.mine → found b c ≡ found a c
same_found a b c e = ap (λ (m : List Entry). take (length c.seen - length (drop (length m) c.mine)) c.seen) e

-- a wait that added nothing, and then another
pub waits_with : (a b c : View) (more : List Entry) (tickets : List Ticket) → Waits a b [] → WaitsWith b c more tickets → WaitsWith a c more tickets
waits_with a b c more tickets p q =
    let m : b.mine ≡ a.mine = p.mine ∙ append-nil a.mine in
    let f : found b c ≡ found a c = same_found a b c m in
    record {
      goes = goes_then a b c p.goes q.goes;
      mine = q.mine ∙ ap (λ (l : List Entry). l ++ more) m;
      posted = q.posted;
      last = q.last ∙ ap (λ (l : List Entry). l ++ more) f;
      here = subst (λ (l : List Entry). StartsWith l a.seen) f (starts_then a.seen b.seen (found b c) p.goes.begins q.here);
    }

pub waits_then : (a b c : View) (more : List Entry) → Waits a b [] → Waits b c more → Waits a c more
waits_then a b c more p q = subst (λ (l : List Ticket). WaitsWith a c more l) p.posted (waits_with a b c more b.posted p q)

pub found_then : (a b c : View) → Waits a b [] → found b c ≡ found a c
found_then a b c p = same_found a b c (p.mine ∙ append-nil a.mine)

-- what is always true of a seat
pub record IsSeated (v : View) : Type 0 where
  pub rests : (v.holds ≡ false) × (v.found ≡ [])
  pub legal : is_legal v.subject.limits v.seen ≡ true
  pub whole : v.mine ≡ made_by v.number v.seen

-- looks leave all else
pub looks_on : (v w : View) (looks : List Look) → IsSeated v → w ≡ with_looks v looks → GoesOn v w
looks_on v w looks k e =
    let seen : w.seen ≡ v.seen = ap (λ (x : View). x.seen) e in
    record {
      number = ap (λ (x : View). x.number) e;
      subject = ap (λ (x : View). x.subject) e;
      made = ap (λ (x : View). x.made) e;
      back = ap (λ (x : View). x.back) e;
      gone = ap (λ (x : View). x.gone) e;
      rests = (ap (λ (x : View). x.holds) e ∙ k.rests.0, ap (λ (x : View). x.found) e ∙ k.rests.1);
      looked = (looks, ap (λ (x : View). x.looked) e);
      legal = ap (is_legal v.subject.limits) seen ∙ k.legal;
      begins = ([], seen ∙ sym (append-nil v.seen));
      whole = ap (λ (x : View). x.mine) e ∙ (k.whole ∙ ap (made_by v.number) (sym seen));
    }

-- so does nothing at all
pub waits_looks : (v w : View) (looks : List Look) → IsSeated v → w ≡ with_looks v looks → Waits v w []
waits_looks v w looks k e =
    let mine : w.mine ≡ v.mine ++ [] = ap (λ (x : View). x.mine) e ∙ sym (append-nil v.mine) in
    let seen : w.seen ≡ v.seen ++ [] = ap (λ (x : View). x.seen) e ∙ sym (append-nil v.seen) in
    let f : found v w ≡ v.seen = found_is v w v.seen [] mine seen in
    record {
      goes = looks_on v w looks k e;
      mine = mine;
      posted = ap (λ (x : View). x.posted) e;
      last = seen ∙ ap (λ (l : List Entry). l ++ []) (sym f);
      here = subst (λ (l : List Entry). StartsWith l v.seen) (sym f) ([], sym (append-nil v.seen));
    }

-- a wait that added nothing, and then looks
pub waits_looked : (a b c : View) (looks : List Look) → Waits a b [] → c ≡ with_looks b looks → Waits a c []
waits_looked a b c looks p e =
    let seated : IsSeated b = record {
      rests = p.goes.rests;
      legal = subst (λ (l : Limits). is_legal l b.seen ≡ true) (λ i. (sym p.goes.subject i).limits) p.goes.legal;
      whole = p.goes.whole ∙ ap (λ (i : ℕ). made_by i b.seen) (sym p.goes.number);
    } in
    waits_then a b c [] p (waits_looks b c looks seated e)

pub waits_news : (a b c : View) → Waits a b [] → SawNews b c → Waits a c []
waits_news a b c p n = waits_looked a b c (n.0 ++ n.1 ∷ []) p n.2

-- a hold that added nothing, and then looks
pub news_then : (a b c d : View) → Waits a b [] → Waits b c [] → SawNews c d → Waits a d []
news_then a b c d p q n = waits_news a c d (waits_then a b c [] p q) n
