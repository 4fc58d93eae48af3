-- A call at one thread of a list after another.
use Rattle.std.proofs.Common.{◌≡◌, ◌≢◌, ℕ, zero, suc, ◌<◌, true, false, inl, inr, List, [], ◌∷◌, ◌++◌, length, drop, refl, ap, sym, ◌∙◌, arith, subst, Some, None, Option, get_or}
use Rattle.std.specs.Prelude.{slice_get, slice_index_or, slice_set}
use Rattle.std.proofs.lemmas.Bool.{cases_eq, cases_Bool}
use Rattle.std.proofs.lemmas.Bool.Decides.{nat_tests}
use Rattle.std.proofs.lemmas.List.Folds.{list_any-append}
use Rattle.ti_types.specs.declared.answer.Answer.{Answer}
use Rattle.ti_types.specs.declared.call.Call.{Call}
use Rattle.ti_types.specs.declared.event.Ticket.{Ticket}
use Rattle.ti_types.specs.declared.numbers.ThreadNo.{ThreadNo}
use Rattle.ti_slot.specs.declared.asked.Asked.{Asked as AskedOf}
use Rattle.ti_slot.specs.declared.asked.Asked.TheVariants.{Answered, Waiting}
use Rattle.ti_slot.specs.Tickets.{same, has, without_ticket}
use Rattle.ti_types.specs.declared.error.TiError.{TiError}
use Rattle.ti_handshake.specs.Call.{ticket_told}
use Rattle.ti_handshake.specs.Desk.{DeskState}
use Rattle.ti_vmop.proofs.Each.{at_index}
use Rattle.ti_agent.specs.Env.{Environment, place_in}
use Rattle.ti_agent.proofs.Places.{about_at, place_set}
use Rattle.ti_agent.specs.declared.lists.Posted.{Posted}
use Rattle.ti_agent.specs.declared.lists.Posted.TheVariants.{Code, Waits}
use Rattle.ti_agent.specs.Posts.{posting_refusal, Posts, Collects, LooksFor, WaitsFor, IsOut, IsOutIfWaiting}
use Rattle.ti_agent.proofs.Whole.{seen_call}
use Rattle.std.specs.Prelude.{is_some, IfSome, if◌then◌else◌}
use Rattle.std.specs.Option.{option_map}
use Rattle.ti_types.specs.Answer.{said}
use Rattle.ti_replay.specs.Tickets.{reply_to}
use Rattle.ti_handshake.specs.Call.{HoldsWith, WaitsWith}
use Rattle.ti_handshake.specs.Desk.{IsSame, ReplyAtPlace, is_out}
use Rattle.ti_agent.specs.Lists.{IsPosted, IsPostedBy, PostsEach, IsCollected, CollectsEach, IsOpen, AreOthers, NoneTwice, AreOpen}

-- a desk that is there

get_range : (l : List DeskState) (i : ℕ) (p : DeskState) → slice_get l i ≡ Some p → i < length l
get_range [] i p e = absurd (none e)
  where
    none : slice_get [] i ≡ Some p → ⊥
    none e = cc
get_range (x ∷ xs) zero p e = omega arith
get_range (x ∷ xs) (suc i) p e = let h = get_range xs i p e in omega (arith, h)

pub in_range_of : (s : Environment) (k : Ticket) → IsOut s k → place_in s.desks k.thread < length s.desks
in_range_of s k o = get_range s.desks (place_in s.desks k.thread) o.desk o.there

some_same : (x y : DeskState) → Some x ≡ Some y → x ≡ y
some_same x y e = cc

pub out_at : (s : Environment) (k : Ticket) (t : ℕ) (p : DeskState) → t ≡ place_in s.desks k.thread → IsOut s k → p ≡ slice_index_or s.desks t p → (slice_get s.desks t ≡ Some p) × (is_out p k ≡ true)
out_at s k t p place o e =
    let there : slice_get s.desks t ≡ Some p = at_index s.desks t p (subst (λ (n : ℕ). n < length s.desks) (sym place) (in_range_of s k o)) ∙ ap (λ (x : DeskState). Some x) (sym e) in
    let is : o.desk ≡ p = some_same o.desk p (sym o.there ∙ (ap (slice_get s.desks) (sym place) ∙ there)) in
    (there, ap (λ (x : DeskState). is_out x k) (sym is) ∙ o.out)

set_at : (l : List DeskState) (i : ℕ) (x : DeskState) → i < length l → slice_get (slice_set l i x) i ≡ Some x
set_at [] i x h = absurd (omega (arith, h))
set_at (y ∷ ys) zero x h = refl
set_at (y ∷ ys) (suc i) x h = set_at ys i x (omega (arith, h))

set_apart : (l : List DeskState) (i j : ℕ) (x : DeskState) → i ≢ j → slice_get (slice_set l i x) j ≡ slice_get l j
set_apart [] i j x n = refl
set_apart (y ∷ ys) zero zero x n = absurd (n refl)
set_apart (y ∷ ys) zero (suc j) x n = refl
set_apart (y ∷ ys) (suc i) zero x n = refl
set_apart (y ∷ ys) (suc i) (suc j) x n = set_apart ys i j x (λ h. n (ap suc h))

-- tickets

same_is : (a b : Ticket) → same a b ≡ true → a ≡ b
same_is a b h =
    let no : a.no ≡ b.no = grind (arith, nat_tests, h) in
    let env : a.env.0 ≡ b.env.0 = grind (arith, nat_tests, h) in
    let thread : a.thread.0 ≡ b.thread.0 = grind (arith, nat_tests, h) in
    λ i. record { env = record { 0 = env i }; thread = record { 0 = thread i }; no = no i }

has_more : (k : Ticket) (ts us : List Ticket) → has k ts ≡ true → has k (ts ++ us) ≡ true
has_more k ts us h = list_any-append (λ (u : Ticket). same u k) ts us ∙ grind (arith, h)

has_without : (j k : Ticket) (ts : List Ticket) → same j k ≡ false → has j (without_ticket k ts) ≡ has j ts
has_without j k [] h = refl
has_without j k (u ∷ ts) h =
    elim (cases_Bool (same u k)) [
      | inl it ↦
          let is : u ≡ k = same_is u k it in
          let apart : same u j ≡ false = ap (λ (x : Ticket). same x j) is ∙ grind (arith, nat_tests, h) in
          grind (arith, it, apart)
      | inr other ↦ let rest = has_without j k ts h in grind (arith, other, rest)
    ]

-- what was posted before stays out

-- the desk at the ticket's place, after one desk was set that is at the same thread as before
place_there : (s s' : Environment) (t : ℕ) (p q : DeskState) (k : Ticket) → s'.desks ≡ slice_set s.desks t q → slice_get s.desks t ≡ Some p → q.view.subject ≡ p.view.subject
    → slice_get s'.desks (place_in s'.desks k.thread) ≡ slice_get (slice_set s.desks t q) (place_in s.desks k.thread)
place_there s s' t p q k e there same =
    ap (λ (l : List DeskState). slice_get l (place_in l k.thread)) e ∙ ap (slice_get (slice_set s.desks t q)) (place_set s.desks t p q k.thread there same)

out_apart : (s s' : Environment) (t : ℕ) (p q : DeskState) (k : Ticket) → s'.desks ≡ slice_set s.desks t q → slice_get s.desks t ≡ Some p → q.view.subject ≡ p.view.subject → t ≢ place_in s.desks k.thread → IsOut s k → IsOut s' k
out_apart s s' t p q k e there same n o = record {
  desk = o.desk;
  there = place_there s s' t p q k e there same ∙ (set_apart s.desks t (place_in s.desks k.thread) q n ∙ o.there);
  out = o.out;
}

out_here : (s s' : Environment) (t : ℕ) (p q : DeskState) (k : Ticket) → s'.desks ≡ slice_set s.desks t q → slice_get s.desks t ≡ Some p → q.view.subject ≡ p.view.subject → t ≡ place_in s.desks k.thread → is_out q k ≡ true → IsOut s' k
out_here s s' t p q k e there same place h = record {
  desk = q;
  there = place_there s s' t p q k e there same ∙ (ap (slice_get (slice_set s.desks t q)) (sym place) ∙ set_at s.desks t q (get_range s.desks t p there));
  out = h;
}

desk_is : (s : Environment) (t : ℕ) (p : DeskState) (k : Ticket) (o : IsOut s k) → slice_get s.desks t ≡ Some p → t ≡ place_in s.desks k.thread → is_out p k ≡ true
desk_is s t p k o there e =
    let is : o.desk ≡ p = some_same o.desk p (sym o.there ∙ (ap (slice_get s.desks) (sym e) ∙ there)) in
    ap (λ (x : DeskState). is_out x k) (sym is) ∙ o.out

-- a call that is out is among those that were posted
out_posted : (p : DeskState) (k : Ticket) → is_out p k ≡ true → has k p.view.posted ≡ true
out_posted p k o = grind (arith, o)

-- and stays out while it is, since nobody gave it up
out_still : (p q : DeskState) (k : Ticket) → is_out p k ≡ true → IsSame p q → has k q.view.posted ≡ true → is_out q k ≡ true
out_still p q k o same h = let given : has k q.cancelled ≡ has k p.cancelled = ap (has k) same.cancelled in grind (arith, o, given, h)

out_kept : (s s' : Environment) (t : ThreadNo) (c : Call) (r : AskedOf) (k : Ticket) → Posts s s' t c r → IsOut s k → IsOut s' k
out_kept s s' t c r k w o =
    let i = place_in s.desks t in
    let desks : s'.desks ≡ slice_set s.desks i w.after = ap (λ (x : Environment). x.desks) w.new_is in
    elim (cases_eq i (place_in s.desks k.thread)) [
      | inl e ↦
          let was = desk_is s i w.before k o w.there e in
          let is : has k w.after.view.posted ≡ true = ap (has k) w.hold.waits.posted ∙ has_more k w.before.view.posted (ticket_told r) (out_posted w.before k was) in
          out_here s s' i w.before w.after k desks w.there w.hold.waits.goes.subject e (out_still w.before w.after k was w.same is)
      | inr n ↦ out_apart s s' i w.before w.after k desks w.there w.hold.waits.goes.subject n o
    ]

out_new : (s s' : Environment) (t : ThreadNo) (c : Call) (k : Ticket) → Posts s s' t c (Waiting k) → IsOut s' k
out_new s s' t c k w =
    let desks : s'.desks ≡ slice_set s.desks (place_in s.desks t) w.after = ap (λ (x : Environment). x.desks) w.new_is in
    let at : place_in s.desks t ≡ place_in s.desks k.thread = ap (place_in s.desks) (sym w.about ∙ sym (ap (λ (x : Ticket). x.thread) w.told.1)) in
    out_here s s' (place_in s.desks t) w.before w.after k desks w.there w.hold.waits.goes.subject at w.out

pub out_if_waiting : (s s' : Environment) (t : ThreadNo) (c : Call) (r : AskedOf) → Posts s s' t c r → IsOutIfWaiting s' r
out_if_waiting s s' t c (Answered a) w = tt
out_if_waiting s s' t c (Waiting k) w = out_new s s' t c k w

-- a new ticket is none of those that are out
apart_new : (s s' : Environment) (t : ThreadNo) (c : Call) (k j : Ticket) → Posts s s' t c (Waiting k) → IsOut s j → same k j ≡ false
apart_new s s' t c k j w o =
    elim (cases_Bool (same k j)) [
      | inr e ↦ e
      | inl e ↦
          let is : k ≡ j = same_is k j e in
          let at : place_in s.desks t ≡ place_in s.desks j.thread = ap (place_in s.desks) (sym w.about ∙ (sym (ap (λ (x : Ticket). x.thread) w.told.1) ∙ ap (λ (x : Ticket). x.thread) is)) in
          let was : has j w.before.view.posted ≡ true = out_posted w.before j (desk_is s (place_in s.desks t) w.before j o w.there at) in
          let not : has j w.before.view.posted ≡ false = ap (λ (x : Ticket). has x w.before.view.posted) (sym is) ∙ w.told.2 in
          let never : true ≡ false = sym was ∙ not in
          cc
    ]

-- lists of them

others_more : (j : Ticket) (xs ys : List Posted) → AreOthers j xs → AreOthers j ys → AreOthers j (xs ++ ys)
others_more j [] ys h k = k
others_more j (Code n ∷ xs) ys h k = others_more j xs ys h k
others_more j (Waits i ∷ xs) ys h k = (h.0, others_more j xs ys h.1 k)

twice_more : (x : Posted) (xs ys : List Posted) → NoneTwice x xs → NoneTwice x ys → NoneTwice x (xs ++ ys)
twice_more (Code n) xs ys h k = tt
twice_more (Waits j) xs ys h k = others_more j xs ys h k

open_kept : (s s' : Environment) (t : ThreadNo) (c : Call) (r : AskedOf) (x : Posted) → Posts s s' t c r → IsOpen s x → IsOpen s' x
open_kept s s' t c r (Code n) w o = tt
open_kept s s' t c r (Waits k) w o = out_kept s s' t c r k w o

open_answered : (s s' : Environment) (t : ThreadNo) (c : Call) (a : Answer) (n : ℕ) (xs : List Posted) → Posts s s' t c (Answered a) → AreOpen s xs → AreOpen s' (xs ++ Code n ∷ [])
open_answered s s' t c a n [] w o = (tt, tt, tt)
open_answered s s' t c a n (x ∷ xs) w o = (open_kept s s' t c (Answered a) x w o.0, twice_more x xs (Code n ∷ []) o.1 (code_apart x), open_answered s s' t c a n xs w o.2)
  where
    code_apart : (y : Posted) → NoneTwice y (Code n ∷ [])
    code_apart (Code m) = tt
    code_apart (Waits k) = tt

open_refused : (s : Environment) (n : ℕ) (xs : List Posted) → AreOpen s xs → AreOpen s (xs ++ Code n ∷ [])
open_refused s n [] o = (tt, tt, tt)
open_refused s n (x ∷ xs) o = (o.0, twice_more x xs (Code n ∷ []) o.1 (code_apart x), open_refused s n xs o.2)
  where
    code_apart : (y : Posted) → NoneTwice y (Code n ∷ [])
    code_apart (Code m) = tt
    code_apart (Waits k) = tt

open_waits : (s s' : Environment) (t : ThreadNo) (c : Call) (k : Ticket) (xs : List Posted) → Posts s s' t c (Waiting k) → AreOpen s xs → AreOpen s' (xs ++ Waits k ∷ [])
open_waits s s' t c k [] w o = (out_new s s' t c k w, tt, tt)
open_waits s s' t c k (x ∷ xs) w o = (open_kept s s' t c (Waiting k) x w o.0, twice_more x xs (Waits k ∷ []) o.1 (apart x o.0), open_waits s s' t c k xs w o.2)
  where
    apart : (y : Posted) → IsOpen s y → NoneTwice y (Waits k ∷ [])
    apart (Code m) p = tt
    apart (Waits j) p = (apart_new s s' t c k j w p, tt)

pub open_more : (s s' : Environment) (c : Call) (t : ThreadNo) (x : Posted) (xs : List Posted) → IsPosted s s' c t x → AreOpen s xs → AreOpen s' (xs ++ x ∷ [])
open_more s s' c t x xs h o = by_refusal (posting_refusal s t c) x h
  where
    by_refusal : (r : Option TiError) (y : Posted) → IsPostedBy r s s' c t y → AreOpen s' (xs ++ y ∷ [])
    by_refusal (Some e) (Code n) k = subst (λ (z : Environment). AreOpen z (xs ++ Code n ∷ [])) (sym k.0) (open_refused s n xs o)
    by_refusal (Some e) (Waits j) k = absurd k
    by_refusal None (Code n) k = open_answered s s' t c k.0 n xs k.1 o
    by_refusal None (Waits j) k = open_waits s s' t c j xs k o

pub posts_more : (s m m' : Environment) (c : Call) (ts : List ThreadNo) (xs : List Posted) (t : ThreadNo) (x : Posted) → PostsEach s m c ts xs → IsPosted m m' c t x → PostsEach s m' c (ts ++ t ∷ []) (xs ++ x ∷ [])
posts_more s m m' c [] [] t x h k = (m', subst (λ (z : Environment). IsPosted z m' c t x) h k, refl)
posts_more s m m' c (u ∷ ts) (y ∷ xs) t x h k = (h.0, h.1, posts_more h.0 m m' c ts xs t x h.2 k)
posts_more s m m' c [] (y ∷ xs) t x h k = absurd h
posts_more s m m' c (u ∷ ts) [] t x h k = absurd h

-- collecting

open_after : (s s' : Environment) (k : Ticket) (a : Answer) (x : Posted) → Collects s s' k a → AreOthers k (x ∷ []) → IsOpen s x → IsOpen s' x
open_after s s' k a (Code n) w h o = tt
open_after s s' k a (Waits j) w h o =
    let i = place_in s.desks k.thread in
    let desks : s'.desks ≡ slice_set s.desks i w.after = ap (λ (z : Environment). z.desks) w.new_is in
    elim (cases_eq i (place_in s.desks j.thread)) [
      | inl e ↦
          let was = desk_is s i w.before j o w.there e in
          let is : has j w.after.view.posted ≡ true = ap (has j) w.hold.posted ∙ (has_without j k w.before.view.posted h.0 ∙ out_posted w.before j was) in
          out_here s s' i w.before w.after j desks w.there w.hold.goes.subject e (out_still w.before w.after j was w.same is)
      | inr n ↦ out_apart s s' i w.before w.after j desks w.there w.hold.goes.subject n o
    ]

first_other : (k : Ticket) (x : Posted) (xs : List Posted) → AreOthers k (x ∷ xs) → AreOthers k (x ∷ []) × AreOthers k xs
first_other k (Code n) xs h = (tt, h)
first_other k (Waits j) xs h = ((h.0, tt), h.1)

open_collected : (s s' : Environment) (k : Ticket) (a : Answer) (xs : List Posted) → Collects s s' k a → AreOthers k xs → AreOpen s xs → AreOpen s' xs
open_collected s s' k a [] w h o = tt
open_collected s s' k a (x ∷ xs) w h o =
    let f = first_other k x xs h in
    (open_after s s' k a x w f.0 o.0, o.1, open_collected s s' k a xs w f.1 o.2)

pub open_rest : (s s' : Environment) (x : Posted) (code : ℕ) (xs : List Posted) → IsCollected s s' x code → AreOpen s (x ∷ xs) → AreOpen s' xs
open_rest s s' (Code n) code xs h o = subst (λ (z : Environment). AreOpen z xs) (sym h.0) o.2
open_rest s s' (Waits k) code xs h o = open_collected s s' k h.0 xs h.1 o.1 o.2

pub collects_more : (s m m' : Environment) (xs : List Posted) (codes : List ℕ) (x : Posted) (code : ℕ) → CollectsEach s m xs codes → IsCollected m m' x code → CollectsEach s m' (xs ++ x ∷ []) (codes ++ code ∷ [])
collects_more s m m' [] [] x code h k = (m', subst (λ (z : Environment). IsCollected z m' x code) h k, refl)
collects_more s m m' (y ∷ xs) (n ∷ codes) x code h k = (h.0, h.1, collects_more h.0 m m' xs codes x code h.2 k)
collects_more s m m' [] (n ∷ codes) x code h k = absurd h
collects_more s m m' (y ∷ xs) [] x code h k = absurd h

-- a desk looked for an answer
pub looked_for : (s : Environment) (k : Ticket) (t : ℕ) (p q : DeskState) (r : Option Answer) → t ≡ place_in s.desks k.thread → slice_get s.desks t ≡ Some p → IsSame p q
    → HoldsWith p.view q.view [] (if is_some r then without_ticket k p.view.posted else p.view.posted)
    → IfSome r (λ a. has k q.view.posted ≡ false) → option_map said r ≡ (if is_out p k then reply_to p.view.subject.limits q.view.seen k else None)
    → IfSome r (λ a. ReplyAtPlace p.view.subject.limits q.view.seen k (said a)) → LooksFor s (seen_call s t q) k (option_map said r)
looked_for s k t p q None here at same hold once is place =
    let there = ap (slice_get s.desks) (sym here) ∙ at in
    record { before = p; after = q; there = there; about = about_at s.desks k.thread p there; same = same; hold = hold; once = tt; answer = is; place = tt; new_is = ap (λ (n : ℕ). seen_call s n q) here }
looked_for s k t p q (Some a) here at same hold once is place =
    let there = ap (slice_get s.desks) (sym here) ∙ at in
    record { before = p; after = q; there = there; about = about_at s.desks k.thread p there; same = same; hold = hold; once = once; answer = is; place = place; new_is = ap (λ (n : ℕ). seen_call s n q) here }

-- a desk waited for one
pub waited_for : (s : Environment) (k : Ticket) (t : ℕ) (p q : DeskState) (r : Option Answer) → t ≡ place_in s.desks k.thread → slice_get s.desks t ≡ Some p → IsSame p q
    → WaitsWith p.view q.view [] (if is_some r then without_ticket k p.view.posted else p.view.posted)
    → IfSome r (λ a. has k q.view.posted ≡ false) → option_map said r ≡ (if is_out p k then reply_to p.view.subject.limits q.view.seen k else None)
    → IfSome r (λ a. ReplyAtPlace p.view.subject.limits q.view.seen k (said a)) → WaitsFor s (seen_call s t q) k (option_map said r)
waited_for s k t p q None here at same hold once is place =
    let there = ap (slice_get s.desks) (sym here) ∙ at in
    record { before = p; after = q; there = there; about = about_at s.desks k.thread p there; same = same; hold = hold; once = tt; answer = is; place = tt; new_is = ap (λ (n : ℕ). seen_call s n q) here }
waited_for s k t p q (Some a) here at same hold once is place =
    let there = ap (slice_get s.desks) (sym here) ∙ at in
    record { before = p; after = q; there = there; about = about_at s.desks k.thread p there; same = same; hold = hold; once = once; answer = is; place = place; new_is = ap (λ (n : ℕ). seen_call s n q) here }

-- the list at one place

pub drop_more : {A : Type 0} (l : List A) (k n : ℕ) (d : A) → n ≡ suc k → k < length l → drop k l ≡ get_or l k d ∷ drop n l
drop_more [] k n d e h = absurd (omega (arith, h))
drop_more (x ∷ xs) zero n d e h = ap (λ l. x ∷ l) (sym (ap (λ (i : ℕ). drop i (x ∷ xs)) e))
drop_more (x ∷ xs) (suc k) n d e h = drop_more xs k (suc k) d refl (omega (arith, h)) ∙ ap (λ (i : ℕ). get_or xs k d ∷ drop i (x ∷ xs)) (sym e)
