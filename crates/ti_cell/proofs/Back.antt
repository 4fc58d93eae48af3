-- What the owner keeps of the seats that came back stays so.
use Rattle.std.proofs.Common.{◌≡◌, ◌≢◌, ◌⊎◌, ℕ, ◌+◌, ◌<◌, List, [], ◌∷◌, ◌++◌, length, set, cond, Bool, true, false, true≢false, sym, ap, ◌∙◌, ⊎_elim, inl, inr, arith, length-append, length-set, eq-eqb, ne_eqb}
use mathlib.Core.Logic.{dite}
use mathlib.Core.Option.{some, some-injective}
use native.Mathlib.Decide.{ℕ_discrete}
use lib.ListN.{get_elem?}
use Rattle.atomic_table.proofs.Lists.{set_here, set_else, at_longer}
use Rattle.ti_types.specs.declared.entry.Entry.{Entry}
use Rattle.ti_types.specs.declared.event.Ticket.{Ticket}
use Rattle.ti_types.specs.declared.limits.Limits.{Limits}
use Rattle.ti_cell.specs.declared.view.Subject.{Subject}
use Rattle.ti_cell.specs.declared.view.User.{User}
use Rattle.ti_cell.specs.declared.view.View.{View}
use Rattle.ti_replay.specs.Makers.{made_by, AllBy}
use Rattle.ti_cell.specs.View.{tickets_of, as_user, made_from, posted_from}
use Rattle.ti_cell.specs.Rule.{Each, Knows, Keeps, IsSo, IsGone, IsAmong, Returned, WasSeen, IsSeen}
use Rattle.ti_cell.proofs.Calls.{of_but}
use Rattle.ti_cell.proofs.Entries.{starts_longer, made_same, each_looks_longer, each_push}
use Rattle.ti_cell.proofs.Views.{at_below, at_end, one_set, apart, gone_set, gone_longer, left_set, left_fewer, left_more}

-- What other seats know

pub tickets_stay : (j k : ℕ) (found tickets : List Ticket) → j ≢ k → Keeps k found tickets → tickets_of j found ≡ tickets_of j tickets
tickets_stay j k found tickets ne keep = sym (of_but j k ne found) ∙ (ap (tickets_of j) (sym keep) ∙ of_but j k ne tickets)

pub knows_longer : (subject : Subject) (history added : List Entry) (found tickets : List Ticket) (count j k : ℕ) (v : View) → j ≢ k → AllBy k added → Keeps k found tickets → Knows subject history found count j v → Knows subject (history ++ added) tickets count j v
knows_longer subject history added found tickets count j k v ne by keep h = record {
  numbered = h.numbered;
  made = h.made;
  about = h.about;
  begins = starts_longer history added v.seen h.begins;
  all_mine = h.all_mine ∙ sym (made_same j k history added ne by);
  posted = h.posted ∙ tickets_stay j k found tickets ne keep;
  looks = each_looks_longer subject.limits history added v.looked h.looks;
}

each_map : {A : Type 0} (P Q : A → Type 0) → ((a : A) → P a → Q a) → (xs : List A) → Each P xs → Each Q xs
each_map P Q f [] h = tt
each_map P Q f (x ∷ xs) h = (f x h.0, each_map P Q f xs h.1)

so_longer : (limits : Limits) (history added : List Entry) (found tickets : List Ticket) (k : ℕ) (u : User) → u.number ≢ k → AllBy k added → Keeps k found tickets → IsSo limits history found u → IsSo limits (history ++ added) tickets u
so_longer limits history added found tickets k u ne by keep h = record {
  begins = starts_longer history added u.seen h.begins;
  all_mine = h.all_mine ∙ sym (made_same u.number k history added ne by);
  posted = h.posted ∙ tickets_stay u.number k found tickets ne keep;
  looks = each_looks_longer limits history added u.looked h.looks;
}

pub so_of : (subject : Subject) (history : List Entry) (tickets : List Ticket) (count j : ℕ) (v : View) → Knows subject history tickets count j v → IsSo subject.limits history tickets (as_user v)
so_of subject history tickets count j v k = record {
  begins = k.begins;
  all_mine = k.all_mine ∙ ap (λ (n : ℕ). made_by n history) (sym k.numbered);
  posted = k.posted ∙ ap (λ (n : ℕ). tickets_of n tickets) (sym k.numbered);
  looks = k.looks;
}

among_before : (j : ℕ) (us : List User) (u : User) → IsAmong j us → IsAmong j (us ++ u ∷ [])
among_before j [] u h = absurd h
among_before j (x ∷ xs) u h = ⊎_elim (λ (e : x.number ≡ j). inl e) (λ (t : IsAmong j xs). inr (among_before j xs u t)) h

among_last : (j : ℕ) (us : List User) (u : User) → u.number ≡ j → IsAmong j (us ++ u ∷ [])
among_last j [] u e = inl e
among_last j (x ∷ xs) u e = inr (among_last j xs u e)

-- The steps, at the seats

-- a seat has another view
pub returned_set : (subject : Subject) (history : List Entry) (tickets : List Ticket) (vs : List View) (back : List User) (me : ℕ) (v w : View)
    → get_elem? vs me ≡ some v → v.gone ≡ false → w.gone ≡ v.gone → w.back ≡ v.back → Returned subject history tickets vs back → Returned subject history tickets (set vs me w) back
returned_set subject history tickets vs back me v w at there same_gone same_back r = record {
  so = each_map (λ u. IsSo subject.limits history tickets u × IsGone vs u.number) (λ u. IsSo subject.limits history tickets u × IsGone (set vs me w) u.number) (λ u p. (p.0, gone_set vs me u.number v w at there p.1)) back r.so;
  listed = one_set (λ j x. x.gone ≡ true → IsAmong j back) vs me w (λ g. absurd (true≢false (sym g ∙ (same_gone ∙ there)))) (λ j x _ e. r.listed j x e);
  owned = one_set (λ j x. (j ≡ 0 → x.back ≡ back) × (j ≢ 0 → x.back ≡ [])) vs me w (let o = r.owned me v at in ((λ z. same_back ∙ o.0 z), (λ z. same_back ∙ o.1 z))) (λ j x _ e. r.owned j x e);
  count = length-set vs me w ∙ (r.count ∙ ap (λ (n : ℕ). length back + n) (sym (left_set vs me v w at same_gone)));
}

-- a seat that is there adds entries
pub returned_longer : (subject : Subject) (history added : List Entry) (found tickets : List Ticket) (vs : List View) (back : List User) (me : ℕ) (v : View)
    → get_elem? vs me ≡ some v → v.gone ≡ false → AllBy me added → Keeps me found tickets → Returned subject history found vs back → Returned subject (history ++ added) tickets vs back
returned_longer subject history added found tickets vs back me v at there by keep r = record {
  so = each_map (λ u. IsSo subject.limits history found u × IsGone vs u.number) (λ u. IsSo subject.limits (history ++ added) tickets u × IsGone vs u.number)
      (λ u p. (so_longer subject.limits history added found tickets me u (apart vs me u.number v at there p.1) by keep p.0, p.1)) back r.so;
  listed = r.listed;
  owned = r.owned;
  count = r.count;
}

-- a new seat
pub returned_more : (subject : Subject) (history : List Entry) (tickets : List Ticket) (vs : List View) (back : List User) (c : View) → 0 < length vs → c.gone ≡ false → c.back ≡ [] → Returned subject history tickets vs back → Returned subject history tickets (vs ++ c ∷ []) back
returned_more subject history tickets vs back c some_seat there none r = record {
  so = each_map (λ u. IsSo subject.limits history tickets u × IsGone vs u.number) (λ u. IsSo subject.limits history tickets u × IsGone (vs ++ c ∷ []) u.number) (λ u p. (p.0, gone_longer vs c u.number p.1)) back r.so;
  listed = λ j u e. ⊎_elim (λ (g : get_elem? vs j ≡ some u). r.listed j u g) (λ (g : (j ≡ length vs) × (c ≡ u)). λ h. absurd (true≢false (sym h ∙ (ap (λ (x : View). x.gone) (sym g.1) ∙ there)))) (at_end vs c u j e);
  owned = λ j u e. ⊎_elim (λ (g : get_elem? vs j ≡ some u). r.owned j u g) (λ (g : (j ≡ length vs) × (c ≡ u)). ((λ z. absurd (omega (arith, z, g.0, some_seat))), (λ _. ap (λ (x : View). x.back) (sym g.1) ∙ none))) (at_end vs c u j e);
  count = let l = length-append vs (c ∷ []) in let m = left_more vs c there in let k = r.count in omega (arith, l, m, k);
}

-- a seat comes back
pub returned_join : (subject : Subject) (history : List Entry) (tickets : List Ticket) (vs : List View) (back : List User) (me other : ℕ) (v w both spent : View)
    → get_elem? vs me ≡ some v → get_elem? vs other ≡ some w → other ≢ me → me ≡ 0 → w.number ≡ other → v.gone ≡ false → w.gone ≡ false
    → both.gone ≡ v.gone → both.back ≡ v.back ++ as_user w ∷ [] → spent.gone ≡ true → spent.back ≡ []
    → IsSo subject.limits history tickets (as_user w) → Returned subject history tickets vs back → Returned subject history tickets (set (set vs me both) other spent) (back ++ as_user w ∷ [])
returned_join subject history tickets vs back me other v w both spent at at' ne first is there there' same more gone none so r =
    let one : List View = set vs me both in
    let two : List View = set one other spent in
    let at'' : get_elem? one other ≡ some w = set_else vs me other both ne ∙ at' in
    let Q : User → Type 0 = λ u. IsSo subject.limits history tickets u × IsGone two u.number in record {
      so = each_push Q back (as_user w)
          (each_map (λ u. IsSo subject.limits history tickets u × IsGone vs u.number) Q (λ u p. (p.0, gone_set one other u.number w spent at'' there' (gone_set vs me u.number v both at there p.1))) back r.so)
          (so, (spent, ap (get_elem? two) is ∙ set_here one other spent (at_below one other w at''), gone));
      listed = one_set (λ j x. x.gone ≡ true → IsAmong j (back ++ as_user w ∷ [])) one other spent (λ _. among_last other back (as_user w) is)
          (λ i x _ q. one_set (λ j y. y.gone ≡ true → IsAmong j (back ++ as_user w ∷ [])) vs me both (λ g. absurd (true≢false (sym g ∙ (same ∙ there)))) (λ j y _ e g. among_before j back (as_user w) (r.listed j y e g)) i x q);
      owned = one_set (λ j x. (j ≡ 0 → x.back ≡ back ++ as_user w ∷ []) × (j ≢ 0 → x.back ≡ [])) one other spent ((λ z. absurd (ne (z ∙ sym first))), (λ _. none))
          (λ i x _ q. one_set (λ j y. (j ≡ 0 → y.back ≡ back ++ as_user w ∷ []) × (j ≢ 0 → y.back ≡ [])) vs me both
          ((λ z. more ∙ ap (λ (l : List User). l ++ as_user w ∷ []) ((r.owned me v at).0 z)), (λ z. absurd (z first)))
          (λ j y apart_j e. ((λ z. absurd (apart_j (z ∙ sym first))), (r.owned j y e).1)) i x q);
      count =
          let a = length-set one other spent in
          let b = length-set vs me both in
          let c = left_set vs me v both at same in
          let d = left_fewer one other w spent at'' there' gone in
          let e = length-append back (as_user w ∷ []) in
          let f = r.count in
          omega (arith, a, b, c, d, e, f);
    }

-- Who has seen the whole history

pub last_set : (history : List Entry) (vs : List View) (back : List User) (me : ℕ) (v w : View) → get_elem? vs me ≡ some v → w.gone ≡ v.gone → w.seen ≡ v.seen → IsSeen history vs ⊎ WasSeen history back → IsSeen history (set vs me w) ⊎ WasSeen history back
last_set history vs back me v w at same_gone same_seen l =
    ⊎_elim
    (λ (s : IsSeen history vs). dite (ℕ_discrete s.0 me)
    (λ (e : s.0 ≡ me).
    let is : s.1 ≡ v = some-injective s.1 v (sym s.2 ∙ (ap (λ (k : ℕ). get_elem? vs k) e ∙ at)) in
    inl (me, w, set_here vs me w (at_below vs me v at), same_gone ∙ (ap (λ (x : View). x.gone) (sym is) ∙ s.3), same_seen ∙ (ap (λ (x : View). x.seen) (sym is) ∙ s.4)))
    (λ ne. inl (s.0, s.1, set_else vs me s.0 w ne ∙ s.2, s.3, s.4)))
    (λ (b : WasSeen history back). inr b)
    l

pub last_more : (history : List Entry) (vs : List View) (back : List User) (c : View) → IsSeen history vs ⊎ WasSeen history back → IsSeen history (vs ++ c ∷ []) ⊎ WasSeen history back
last_more history vs back c l = ⊎_elim (λ (s : IsSeen history vs). inl (s.0, s.1, at_longer vs (c ∷ []) s.0 s.1 s.2, s.3, s.4)) (λ (b : WasSeen history back). inr b) l

seen_before : (history : List Entry) (us : List User) (u : User) → WasSeen history us → WasSeen history (us ++ u ∷ [])
seen_before history [] u h = absurd h
seen_before history (x ∷ xs) u h = ⊎_elim (λ (e : x.seen ≡ history). inl e) (λ (t : WasSeen history xs). inr (seen_before history xs u t)) h

seen_last : (history : List Entry) (us : List User) (u : User) → u.seen ≡ history → WasSeen history (us ++ u ∷ [])
seen_last history [] u e = inl e
seen_last history (x ∷ xs) u e = inr (seen_last history xs u e)

-- the seat `other` with the view w comes back
pub last_join : (history : List Entry) (vs : List View) (back : List User) (other : ℕ) (w spent : View) → get_elem? vs other ≡ some w → IsSeen history vs ⊎ WasSeen history back → IsSeen history (set vs other spent) ⊎ WasSeen history (back ++ as_user w ∷ [])
last_join history vs back other w spent at l =
    ⊎_elim
    (λ (s : IsSeen history vs). dite (ℕ_discrete s.0 other)
    (λ (e : s.0 ≡ other).
    let is : s.1 ≡ w = some-injective s.1 w (sym s.2 ∙ (ap (λ (k : ℕ). get_elem? vs k) e ∙ at)) in
    inr (seen_last history back (as_user w) (ap (λ (x : View). x.seen) (sym is) ∙ s.4)))
    (λ ne. inl (s.0, s.1, set_else vs other s.0 spent ne ∙ s.2, s.3, s.4)))
    (λ (b : WasSeen history back). inr (seen_before history back (as_user w) b))
    l

-- At the end

-- what the users with one number made is all of this number
pub made_is : (n : ℕ) (history : List Entry) (us : List User) → Each (λ u. u.mine ≡ made_by u.number history) us → IsAmong n us ⊎ (made_by n history ≡ []) → made_by n history ≡ made_from n us
made_is n history [] h c = ⊎_elim (λ (f : IsAmong n []). absurd f) (λ (e : made_by n history ≡ []). e) c
made_is n history (u ∷ us) h c = dite (ℕ_discrete u.number n)
    (λ (e : u.number ≡ n). sym (ap (λ (b : Bool). cond b u.mine (made_from n us)) (eq-eqb u.number n e) ∙ (h.0 ∙ ap (λ (k : ℕ). made_by k history) e)))
    (λ ne.
    sym (ap (λ (b : Bool). cond b u.mine (made_from n us)) (ne_eqb u.number n ne)
    ∙ sym (made_is n history us h.1 (⊎_elim (λ (a : IsAmong n (u ∷ us)). ⊎_elim (λ (e : u.number ≡ n). absurd (ne e)) (λ (t : IsAmong n us). inl t) a) (λ (e : made_by n history ≡ []). inr e) c))))

pub posted_is : (n : ℕ) (tickets : List Ticket) (us : List User) → Each (λ u. u.posted ≡ tickets_of u.number tickets) us → IsAmong n us ⊎ (tickets_of n tickets ≡ []) → tickets_of n tickets ≡ posted_from n us
posted_is n tickets [] h c = ⊎_elim (λ (f : IsAmong n []). absurd f) (λ (e : tickets_of n tickets ≡ []). e) c
posted_is n tickets (u ∷ us) h c = dite (ℕ_discrete u.number n)
    (λ (e : u.number ≡ n). sym (ap (λ (b : Bool). cond b u.posted (posted_from n us)) (eq-eqb u.number n e) ∙ (h.0 ∙ ap (λ (k : ℕ). tickets_of k tickets) e)))
    (λ ne.
    sym (ap (λ (b : Bool). cond b u.posted (posted_from n us)) (ne_eqb u.number n ne)
    ∙ sym (posted_is n tickets us h.1 (⊎_elim (λ (a : IsAmong n (u ∷ us)). ⊎_elim (λ (e : u.number ≡ n). absurd (ne e)) (λ (t : IsAmong n us). inl t) a) (λ (e : tickets_of n tickets ≡ []). inr e) c))))

pub each_so : (P : User → Type 0) (limits : Limits) (history : List Entry) (tickets : List Ticket) → ((u : User) → IsSo limits history tickets u → P u) → (us : List User) → Each (IsSo limits history tickets) us → Each P us
each_so P limits history tickets f us h = each_map (IsSo limits history tickets) P f us h

pub all_so : (subject : Subject) (history : List Entry) (tickets : List Ticket) (vs : List View) (back : List User) → Returned subject history tickets vs back → Each (IsSo subject.limits history tickets) back
all_so subject history tickets vs back r = each_map (λ u. IsSo subject.limits history tickets u × IsGone vs u.number) (IsSo subject.limits history tickets) (λ u p. p.0) back r.so
