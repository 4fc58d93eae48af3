-- Each step keeps the rule of the cell.
use Rattle.std.proofs.Common.{◌≡◌, ◌≢◌, ℕ, zero, suc, ◌+◌, ◌%◌, ◌<◌, ◌≤◌, eqb, List, [], ◌∷◌, ◌++◌, length, drop, get_or, set, Bool, true, false, true≢false, Option, Some, None, refl, sym, ap, ◌∙◌, subst, ⊎_elim, inl, arith, length-append, length-set, le_refl}
use Rattle.std.proofs.lemmas.List.{set-get_or}
use Rattle.std.proofs.Math.Seq.{drop-append_seam}
use mathlib.Core.Logic.{dite}
use mathlib.Core.Option.{some, none, some-injective, some-ne-none}
use mathlib.Core.Option as maybe
use native.Mathlib.Decide.{ℕ_discrete}
use lib.ListN.{get_elem?}
use prog.Atomic.{either}
use Rattle.atomic_table.specs.Table.{State, Me, Step, step, Act, keeps, takes, gives, stepped, carried_after, Valid, Allows, Splits, Joins, opening}
use Rattle.atomic_table.proofs.Lists.{set_here, set_else, at_longer, exchanged}
use Rattle.ti_types.specs.declared.entry.Entry.{Entry}
use Rattle.ti_slot.specs.Thread.{Thread}
use Rattle.ti_types.specs.declared.limits.Limits.{Limits}
use Rattle.ti_replay.specs.Legal.{is_legal, is_armed}
use Rattle.ti_cell.specs.declared.view.View.{View}
use Rattle.ti_replay.specs.Makers.{made_by, AllBy, StartsWith, Adds}
use Rattle.ti_cell.specs.Word.{word_at, word_of, look_of, bars, IsLook}
use Rattle.ti_cell.specs.declared.view.Subject.{Subject}
use Rattle.ti_cell.specs.View.{IsAbout, tickets_of, tickets_but, newcomer, splitter, split_off, holding, stored, glanced, as_user, rejoined, nobody}
use Rattle.ti_cell.specs.Rule.{Each, Knows, Holds, Placed, Held, CellInvariant, Keeps, Returned, IsAmong, locks, frees, glances}
use Rattle.ti_cell.proofs.Views.{at_below, at_end, one_set}
use Rattle.ti_cell.proofs.Back.{tickets_stay, knows_longer, so_of, returned_set, returned_longer, returned_more, returned_join, last_set, last_more, last_join}
use Rattle.ti_cell.proofs.Entries.{starts_same, starts_length, made_more, made_same, each_looks_longer, each_push}
use Rattle.ti_cell.proofs.Bits.{is_look, counts, even_is_free, locked_is_more}

abbrev Spot : Type 0
Spot = Option Thread

abbrev Mine : Type 0
Mine = Me Spot View

abbrev St : Type 0
St = State Spot View

-- The holder's seat

held_stays : (locked : Bool) (holder : ℕ) (vs : List View) (me : ℕ) (v w : View) → get_elem? vs me ≡ some v → w.holds ≡ v.holds → Held locked holder vs → Held locked holder (set vs me w)
held_stays false holder vs me v w at same h = tt
held_stays true holder vs me v w at same h = dite (ℕ_discrete holder me)
    (λ (e : holder ≡ me). (w, ap (λ (k : ℕ). get_elem? (set vs me w) k) e ∙ set_here vs me w (at_below vs me v at), same ∙ (ap (λ (x : View). x.holds) (some-injective v h.0 (sym at ∙ (ap (λ (k : ℕ). get_elem? vs k) (sym e) ∙ h.1))) ∙ h.2)))
    (λ ne. (h.0, set_else vs me holder w ne ∙ h.1, h.2))

-- A step that changes no word and no slot

unmoved : (subject : Subject) (s : St) (r : CellInvariant subject s) (me : ℕ) (cs : List (ℕ × Spot)) (v w : View) → get_elem? s.views me ≡ some v → v.gone ≡ false → w.holds ≡ v.holds → w.gone ≡ v.gone → w.back ≡ v.back → w.seen ≡ v.seen
    → Knows subject r.history r.tickets (length s.views) me w → Holds r.history r.tickets r.locked r.holder me w → CellInvariant subject (stepped s 0 (get_or s.words 0 0) me cs w keeps)
unmoved subject s r me cs v w at there same same_gone same_back same_seen knows holds =
    let n : length (set s.views me w) ≡ length s.views = length-set s.views me w in record {
      history = r.history;
      tickets = r.tickets;
      locked = r.locked;
      holder = r.holder;
      legal = r.legal;
      word = set-get_or s.words 0 0 ∙ r.word;
      placed = r.placed;
      held = held_stays r.locked r.holder s.views me v w at same r.held;
      back = r.back;
      returned = returned_set subject r.history r.tickets s.views r.back me v w at there same_gone same_back r.returned;
      last = last_set r.history s.views r.back me v w at same_gone same_seen r.last;
      knows = λ j u e here. subst (λ (k : ℕ). Knows subject r.history r.tickets k j u) (sym n) (one_set (λ i x. x.gone ≡ false → Knows subject r.history r.tickets (length s.views) i x) s.views me w (λ _. knows) (λ i x _ g. r.knows i x g) j u e here);
      holds = one_set (Holds r.history r.tickets r.locked r.holder) s.views me w holds (λ i x _ g. r.holds i x g);
      unmade = λ k h. r.unmade k (subst (λ (c : ℕ). c ≤ k) n h);
      unasked = λ k h. r.unasked k (subst (λ (c : ℕ). c ≤ k) n h);
    }

found_is : (subject : Subject) (s : St) (r : CellInvariant subject s) → get_or s.words 0 0 ≡ word_of subject.limits r.locked r.history
found_is subject s r = ap (λ (ws : List ℕ). get_or ws 0 0) r.word

-- Kind 2, a load

pub looks_keep : (subject : Subject) (slots id : ℕ) (me : Mine) → me.0.gone ≡ false → Allows (CellInvariant subject) slots id me 0 (λ n. n) (glances (step slots 0 0 0 none) me)
looks_keep subject slots id me there s r _ at _ =
    let n : ℕ = get_or s.words 0 0 in
    let w : View = glanced me.0 (look_of n) in
    let k = r.knows id me.0 at there in
    let here = found_is subject s r in (
      w,
      keeps,
      tt,
      unmoved subject s r id me.1 me.0 w at there refl refl refl refl record {
        numbered = k.numbered;
        made = k.made;
        about = k.about;
        begins = k.begins;
        all_mine = k.all_mine;
        posted = k.posted;
        looks = each_push (IsLook subject.limits r.history) me.0.looked (look_of n) k.looks (subst (λ (x : ℕ). IsLook subject.limits r.history (look_of x)) (sym here) (is_look subject.limits r.locked r.history));
      } (r.holds id me.0 at),
      (refl, let c : (look_of n).count ≡ length r.history = ap (λ (x : ℕ). (look_of x).count) here ∙ counts subject.limits r.locked r.history in let l = starts_length r.history me.0.seen k.begins in omega arith),
    )

-- Kinds 3 and 4, the lock bit and the slot out

unchanged : (subject : Subject) (s : St) (r : CellInvariant subject s) (me : ℕ) (cs : List (ℕ × Spot)) (v : View) → get_elem? s.views me ≡ some v → v.gone ≡ false → CellInvariant subject (stepped s 0 (get_or s.words 0 0) me cs v keeps)
unchanged subject s r me cs v at there = unmoved subject s r me cs v v at there refl refl refl refl (r.knows me v at there) (r.holds me v at)

taken : (subject : Subject) (s : St) (r : CellInvariant subject s) (id : ℕ) (me : Mine) (new : ℕ) (t : Thread) → get_elem? s.views id ≡ some me.0 → me.0.gone ≡ false → r.locked ≡ false → s.homes ≡ some (Some t) ∷ [] → t.history ≡ r.history → t.uncollected ≡ r.tickets
    → new ≡ word_of subject.limits true r.history → CellInvariant subject (stepped s 0 new id me.1 (holding me.0 t.history t.uncollected) (takes 0 (Some t)))
taken subject s r id me new t at there free home same same_tickets now =
    let w : View = holding me.0 t.history t.uncollected in
    let k = r.knows id me.0 at there in
    let n : length (set s.views id w) ≡ length s.views = length-set s.views id w in
    let off : (j : ℕ) (u : View) → get_elem? s.views j ≡ some u → u.holds ≡ true → ⊥ = λ j u e h. true≢false (sym (r.holds j u e h).0 ∙ free) in record {
      history = r.history;
      tickets = r.tickets;
      locked = true;
      holder = id;
      legal = r.legal;
      word = ap (λ (ws : List ℕ). set ws 0 new) r.word ∙ ap (λ (x : ℕ). x ∷ []) now;
      placed = ap (λ (hs : List (maybe.Option Spot)). set hs 0 none) home;
      held = (w, set_here s.views id w (at_below s.views id me.0 at), refl);
      back = r.back;
      returned = returned_set subject r.history r.tickets s.views r.back id me.0 w at there refl refl r.returned;
      last = inl (id, w, set_here s.views id w (at_below s.views id me.0 at), there, same);
      knows = λ j u e here. subst (λ (c : ℕ). Knows subject r.history r.tickets c j u) (sym n) (one_set (λ i x. x.gone ≡ false → Knows subject r.history r.tickets (length s.views) i x) s.views id w (λ _. record {
        numbered = k.numbered;
        made = k.made;
        about = k.about;
        begins = starts_same r.history t.history same;
        all_mine = k.all_mine;
        posted = k.posted;
        looks = k.looks;
      }) (λ i x _ g. r.knows i x g) j u e here);
      holds = one_set (Holds r.history r.tickets true id) s.views id w (λ _. (refl, refl, same, same_tickets, there)) (λ i x _ g h. absurd (off i x g h));
      unmade = λ c h. r.unmade c (subst (λ (z : ℕ). z ≤ c) n h);
      unasked = λ c h. r.unasked c (subst (λ (z : ℕ). z ≤ c) n h);
    }

pub locks_keep : (subject : Subject) (slots id : ℕ) (me : Mine) (old new : ℕ) → me.0.gone ≡ false → old % 2 ≡ 0 → new ≡ old + 1 → Allows (CellInvariant subject) slots id me 0 (λ n. either (eqb n old) new n) (locks (step slots 0 old new none) me)
locks_keep subject slots id me old new there even up s r _ at _ =
    let n : ℕ = get_or s.words 0 0 in
    let k = r.knows id me.0 at there in
    let here = found_is subject s r in
    let F : ℕ → Type 0 = λ x. (w : View) × (a : Act Spot) × Valid s.homes me.1 a × CellInvariant subject (stepped s 0 x id me.1 w a) × locks (step slots 0 old new none) me n (w, carried_after me.1 a) in
    exchanged n old new F
    (λ hit.
    let free : r.locked ≡ false = even_is_free subject.limits r.locked r.history (ap (λ (x : ℕ). x % 2) (sym here ∙ hit) ∙ even) in
    let p = subst (λ (b : Bool). Placed subject r.history r.tickets b s.homes) free r.placed in
    let t : Thread = p.0 in
    let same : t.history ≡ r.history = p.2 in
    let same_tickets : t.uncollected ≡ r.tickets = p.3 in
    let at_old : old ≡ word_of subject.limits false r.history = sym hit ∙ (here ∙ ap (λ (b : Bool). word_of subject.limits b r.history) free) in
    let now : new ≡ word_of subject.limits true r.history = up ∙ (ap (λ (x : ℕ). x + 1) at_old ∙ locked_is_more subject.limits r.history) in (
      holding me.0 t.history t.uncollected,
      takes 0 (Some t),
      ap (λ (hs : List (maybe.Option Spot)). get_elem? hs 0) p.1,
      taken subject s r id me new t at there free p.1 same same_tickets now,
      (
        (λ _. (
          t,
          refl,
          record {
            legal = (λ i. is_legal (k.about i).limits (same i)) ∙ r.legal;
            begins = subst (λ (l : List Entry). StartsWith l me.0.seen) (sym same) k.begins;
            all_mine = k.all_mine ∙ λ i. made_by (sym k.numbered i) (sym same i);
            posted = k.posted ∙ λ i. tickets_of (sym k.numbered i) (sym same_tickets i);
            about = subst (λ (x : Subject). IsAbout x t) (sym k.about) p.4;
            looks = subst (λ (x : Limits × List Entry). Each (IsLook x.0 x.1) me.0.looked) (λ i. ((sym k.about i).limits, sym same i)) k.looks;
          },
        )),
        λ miss. absurd (miss hit),
      ),
    ))
    (λ miss. (me.0, keeps, tt, unchanged subject s r id me.1 me.0 at there, ((λ hit. absurd (miss hit)), λ _. refl)))

-- Kinds 5 to 7, the slot in and the store, with entries or with none

given : (subject : Subject) (s : St) (r : CellInvariant subject s) (id : ℕ) (me : Mine) (new : ℕ) (t : Thread) → get_elem? s.views id ≡ some me.0 → me.0.gone ≡ false → me.0.holds ≡ true → me.1 ≡ (0, Some t) ∷ []
    → Adds me.0.number me.0.seen t.history → Keeps me.0.number me.0.found t.uncollected → is_legal t.limits t.history ≡ true → IsAbout me.0.subject t → new ≡ word_of t.limits false t.history
    → CellInvariant subject (stepped s 0 new id me.1 (stored me.0 t.history t.uncollected) gives) × ((stored me.0 t.history t.uncollected).mine ≡ made_by me.0.number t.history)
given subject s r id me new t at there holds out adds keeps_others legal about now =
    let w : View = stored me.0 t.history t.uncollected in
    let v : View = me.0 in
    let k = r.knows id v at there in
    let own = r.holds id v at holds in
    let added : List Entry = adds.0 in
    let keep : Keeps id r.tickets t.uncollected = subst (λ (x : ℕ). Keeps x r.tickets t.uncollected) k.numbered (keeps_others ∙ ap (tickets_but v.number) own.3) in
    let by : AllBy id added = subst (λ (x : ℕ). AllBy x added) k.numbered adds.2 in
    let grown : t.history ≡ r.history ++ added = adds.1 ∙ ap (λ (l : List Entry). l ++ added) own.2 in
    let new_ones : drop (length v.seen) t.history ≡ added = ap (drop (length v.seen)) adds.1 ∙ drop-append_seam v.seen added in
    let mine : w.mine ≡ made_by id t.history = (λ i. k.all_mine i ++ new_ones i) ∙ (sym (made_more id r.history added by) ∙ ap (made_by id) (sym grown)) in
    let n : length (set s.views id w) ≡ length s.views = length-set s.views id w in
    let below : id < length s.views = at_below s.views id v at in
    let mine_is : IsAbout subject t = subst (λ (x : Subject). IsAbout x t) k.about about in
    let home : s.homes ≡ none ∷ [] = subst (λ (b : Bool). Placed subject r.history r.tickets b s.homes) own.0 r.placed in (
      record {
        history = t.history;
        tickets = t.uncollected;
        locked = false;
        holder = id;
        legal = subst (λ (x : Limits). is_legal x t.history ≡ true) mine_is.0 legal;
        word = ap (λ (ws : List ℕ). set ws 0 new) r.word ∙ ap (λ (x : ℕ). x ∷ []) (now ∙ ap (λ (x : Limits). word_of x false t.history) mine_is.0);
        placed = (t, (ap (λ (cs : List (ℕ × Spot)). put cs) out ∙ ap (λ (hs : List (maybe.Option Spot)). set hs 0 (some (Some t))) home), refl, refl, mine_is);
        held = tt;
        back = r.back;
        returned = returned_set subject t.history t.uncollected s.views r.back id v w at there refl refl (subst (λ (l : List Entry). Returned subject l t.uncollected s.views r.back) (sym grown) (returned_longer subject r.history added r.tickets t.uncollected s.views r.back id v at there by keep r.returned));
        last = inl (id, w, set_here s.views id w below, there, refl);
        knows = λ j u e here. subst (λ (c : ℕ). Knows subject t.history t.uncollected c j u) (sym n) (one_set (λ i x. x.gone ≡ false → Knows subject t.history t.uncollected (length s.views) i x) s.views id w (λ _. record {
          numbered = k.numbered;
          made = k.made;
          about = k.about;
          begins = starts_same t.history t.history refl;
          all_mine = mine;
          posted = ap (λ (x : ℕ). tickets_of x t.uncollected) k.numbered;
          looks = subst (λ (l : List Entry). Each (IsLook subject.limits l) v.looked) (sym grown) (each_looks_longer subject.limits r.history added v.looked k.looks);
        }) (λ i x ne g is. subst (λ (l : List Entry). Knows subject l t.uncollected (length s.views) i x) (sym grown) (knows_longer subject r.history added r.tickets t.uncollected (length s.views) i id x ne by keep (r.knows i x g is))) j u e here);
        holds = one_set (Holds t.history t.uncollected false id) s.views id w (λ h. absurd (true≢false (sym h))) (λ i x ne g h. absurd (ne ((r.holds i x g h).1 ∙ sym own.1)));
        unmade = λ c h.
            let far : length s.views ≤ c = subst (λ (z : ℕ). z ≤ c) n h in
            ap (made_by c) grown ∙ (made_same c id r.history added (λ (e : c ≡ id). omega arith) by ∙ r.unmade c far);
        unasked = λ c h.
            let far : length s.views ≤ c = subst (λ (z : ℕ). z ≤ c) n h in
            sym (tickets_stay c id r.tickets t.uncollected (λ (e : c ≡ id). omega arith) keep) ∙ r.unasked c far;
      },
      mine ∙ ap (λ (x : ℕ). made_by x t.history) (sym k.numbered),
    )
  where
    put : List (ℕ × Spot) → List (maybe.Option Spot)
    put cs = Rattle.atomic_table.specs.Table.put_back s.homes cs

abbrev thread_of : List (ℕ × Spot) → Thread → Thread
thread_of [] d = d
thread_of ((k, None) ∷ xs) d = d
thread_of ((k, Some t) ∷ xs) d = t

pub frees_keep : (subject : Subject) (slots id : ℕ) (me : Mine) (new : ℕ) (t : Thread) → me.0.gone ≡ false → me.0.holds ≡ true → me.1 ≡ (0, Some t) ∷ [] → Adds me.0.number me.0.seen t.history → Keeps me.0.number me.0.found t.uncollected → is_legal t.limits t.history ≡ true → IsAbout me.0.subject t
    → new ≡ word_of t.limits false t.history → Allows (CellInvariant subject) slots id me 0 (λ _. new) (λ _. frees (step slots 0 new 0 none) me new)
frees_keep subject slots id me new t there holds out adds keeps_others legal about now s r _ at _ =
    let g = given subject s r id me new t at there holds out adds keeps_others legal about now in (
      stored me.0 t.history t.uncollected,
      gives,
      tt,
      g.0,
      λ t' out'.
          let same : t ≡ t' = ap (λ (cs : List (ℕ × Spot)). thread_of cs t) (sym out ∙ out') in
          ((λ i. (stored me.0 (same i).history (same i).uncollected, rest_is i)), subst (λ (x : Thread). (stored me.0 x.history x.uncollected).mine ≡ made_by me.0.number x.history) same g.1),
    )
  where
    rest_is : Rattle.atomic_table.specs.Table.rest me.1 ≡ []
    rest_is = ap (λ (cs : List (ℕ × Spot)). Rattle.atomic_table.specs.Table.rest cs) out

-- Kind 1, a new seat, and a new table

held_more : (locked : Bool) (holder : ℕ) (vs : List View) (c : View) → Held locked holder vs → Held locked holder (vs ++ c ∷ [])
held_more false holder vs c h = tt
held_more true holder vs c h = (h.0, at_longer vs (c ∷ []) holder h.0 h.1, h.2)

pub seats_keep : (subject : Subject) (id : ℕ) (v : View) → v.number ≡ 0 → v.gone ≡ false → Splits (CellInvariant subject) id v (splitter v) (split_off v)
seats_keep subject id v owner there s r at =
    let k = r.knows id v at there in
    let w : View = splitter v in
    let c : View = split_off v in
    let first : id ≡ 0 = sym k.numbered ∙ owner in
    let below : id < length s.views = at_below s.views id v at in
    let count : v.made ≡ length s.views = k.made first in
    let n : length (set s.views id w) ≡ length s.views = length-set s.views id w in
    let n' : length (set s.views id w ++ c ∷ []) ≡ length s.views + 1 = omega (arith, length-append (set s.views id w) (c ∷ []), n) in
    let P : ℕ → View → Type 0 = λ i x. x.gone ≡ false → Knows subject r.history r.tickets (length s.views + 1) i x in
    let Q : ℕ → View → Type 0 = Holds r.history r.tickets r.locked r.holder in record {
      history = r.history;
      tickets = r.tickets;
      locked = r.locked;
      holder = r.holder;
      legal = r.legal;
      word = r.word;
      placed = r.placed;
      held = held_more r.locked r.holder (set s.views id w) c (held_stays r.locked r.holder s.views id v w at refl r.held);
      back = r.back;
      returned = returned_more subject r.history r.tickets (set s.views id w) r.back c (omega arith) refl refl (returned_set subject r.history r.tickets s.views r.back id v w at there refl refl r.returned);
      last = last_more r.history (set s.views id w) r.back c (last_set r.history s.views r.back id v w at refl refl r.last);
      knows = λ j u e here. subst (λ (x : ℕ). Knows subject r.history r.tickets x j u) (sym n') (⊎_elim
          (λ (g : get_elem? (set s.views id w) j ≡ some u). one_set P s.views id w (λ _. record {
            numbered = k.numbered;
            made = λ _. ap (λ (x : ℕ). x + 1) count;
            about = k.about;
            begins = k.begins;
            all_mine = k.all_mine;
            posted = k.posted;
            looks = k.looks;
          }) (λ i x ne q is. let o = r.knows i x q is in record {
            numbered = o.numbered;
            made = λ z. absurd (ne (z ∙ sym first));
            about = o.about;
            begins = o.begins;
            all_mine = o.all_mine;
            posted = o.posted;
            looks = o.looks;
          }) j u g here)
          (λ (g : (j ≡ length (set s.views id w)) × (c ≡ u)). subst (λ (x : ℕ × View). Knows subject r.history r.tickets (length s.views + 1) x.0 x.1) (λ i. (sym (g.0 ∙ n) i, g.1 i)) record {
            numbered = count;
            made = λ z. absurd (omega arith);
            about = k.about;
            begins = (r.history, refl);
            all_mine = sym (r.unmade (length s.views) (le_refl (length s.views)));
            posted = sym (r.unasked (length s.views) (le_refl (length s.views)));
            looks = tt;
          })
          (at_end (set s.views id w) c u j e));
      holds = λ j u e. ⊎_elim
          (λ (g : get_elem? (set s.views id w) j ≡ some u). one_set Q s.views id w (r.holds id v at) (λ i x _ q. r.holds i x q) j u g)
          (λ (g : (j ≡ length (set s.views id w)) × (c ≡ u)). λ h. absurd (true≢false (sym h ∙ ap (λ (x : View). x.holds) (sym g.1))))
          (at_end (set s.views id w) c u j e);
      unmade = λ x h. r.unmade x (omega arith);
      unasked = λ x h. r.unasked x (omega arith);
    }

-- A seat that comes back

pub joins_keep : (subject : Subject) (id : ℕ) (v : View) (other : ℕ) (w : View) → v.number ≡ 0 → v.gone ≡ false → w.gone ≡ false → w.holds ≡ false → Joins (CellInvariant subject) id v other w (rejoined v w) nobody
joins_keep subject id v other w owner there there' free s r at ne found =
    let both : View = rejoined v w in
    let one : List View = set s.views id both in
    let two : List View = set one other nobody in
    let at' : get_elem? s.views other ≡ some w = sym (set_else s.views id other both ne) ∙ found in
    let k = r.knows id v at there in
    let k' = r.knows other w at' there' in
    let first : id ≡ 0 = sym k.numbered ∙ owner in
    let n : length two ≡ length s.views = length-set one other nobody ∙ length-set s.views id both in
    let P : ℕ → View → Type 0 = λ i x. x.gone ≡ false → Knows subject r.history r.tickets (length s.views) i x in
    let Q : ℕ → View → Type 0 = Holds r.history r.tickets r.locked r.holder in record {
      history = r.history;
      tickets = r.tickets;
      locked = r.locked;
      holder = r.holder;
      legal = r.legal;
      word = r.word;
      placed = r.placed;
      held = held_stays r.locked r.holder one other w nobody found (sym free) (held_stays r.locked r.holder s.views id v both at refl r.held);
      back = r.back ++ as_user w ∷ [];
      returned = returned_join subject r.history r.tickets s.views r.back id other v w both nobody at at' ne first k'.numbered there there' refl refl refl refl (so_of subject r.history r.tickets (length s.views) other w k') r.returned;
      last = last_join r.history one r.back other w nobody found (last_set r.history s.views r.back id v both at refl refl r.last);
      knows = λ j u e here. subst (λ (x : ℕ). Knows subject r.history r.tickets x j u) (sym n)
          (one_set P one other nobody (λ gone. absurd (true≢false gone)) (λ i x _ q. one_set P s.views id both (λ _. record {
            numbered = k.numbered;
            made = k.made;
            about = k.about;
            begins = k.begins;
            all_mine = k.all_mine;
            posted = k.posted;
            looks = k.looks;
          }) (λ i' x' _ q'. r.knows i' x' q') i x q) j u e here);
      holds = one_set Q one other nobody (λ h. absurd (true≢false (sym h))) (λ i x _ q. one_set Q s.views id both (r.holds id v at) (λ i' x' _ q'. r.holds i' x' q') i x q);
      unmade = λ x h. r.unmade x (subst (λ (z : ℕ). z ≤ x) n h);
      unasked = λ x h. r.unasked x (subst (λ (z : ℕ). z ≤ x) n h);
    }

-- All that is known here of what makes a history legal, and what arms and bars

empty_legal : (limits : Limits) → is_legal limits [] ≡ true
empty_legal limits = refl

empty_armed : (limits : Limits) → is_armed limits [] ≡ false
empty_armed limits = refl

empty_bars : (limits : Limits) → bars limits [] ≡ false
empty_bars limits = refl

pub opens : (subject : Subject) (t : Thread) → t.history ≡ [] → t.uncollected ≡ [] → IsAbout subject t → CellInvariant subject (opening (0 ∷ []) (Some t ∷ []) (newcomer subject 0 1))
opens subject t empty untold about = record {
  history = [];
  tickets = [];
  locked = false;
  holder = 0;
  legal = empty_legal subject.limits;
  word = λ i. word_at 0 (sym (empty_bars subject.limits) i) (sym (empty_armed subject.limits) i) false ∷ [];
  placed = (t, refl, empty, untold, about);
  held = tt;
  back = [];
  returned = record { so = tt; listed = none_gone; owned = owns; count = refl };
  last = inl (0, newcomer subject 0 1, refl, refl, refl);
  knows = λ j u e _. first j u e;
  holds = none_holds;
  unmade = λ n h. refl;
  unasked = λ n h. refl;
}
  where
    first : (j : ℕ) (u : View) → get_elem? (newcomer subject 0 1 ∷ []) j ≡ some u → Knows subject [] [] 1 j u
    first zero u e = subst (Knows subject [] [] 1 0) (some-injective _ _ e) record { numbered = refl; made = λ _. refl; about = refl; begins = ([], refl); all_mine = refl; posted = refl; looks = tt }
    first (suc j) u e = absurd (some-ne-none u (sym e))

    none_holds : (j : ℕ) (u : View) → get_elem? (newcomer subject 0 1 ∷ []) j ≡ some u → Holds [] [] false 0 j u
    none_holds zero u e = λ h. absurd (true≢false (sym h ∙ ap (λ (x : View). x.holds) (sym (some-injective _ _ e))))
    none_holds (suc j) u e = absurd (some-ne-none u (sym e))

    none_gone : (j : ℕ) (u : View) → get_elem? (newcomer subject 0 1 ∷ []) j ≡ some u → u.gone ≡ true → IsAmong j []
    none_gone zero u e gone = absurd (true≢false (sym gone ∙ ap (λ (x : View). x.gone) (sym (some-injective _ _ e))))
    none_gone (suc j) u e gone = absurd (some-ne-none u (sym e))

    owns : (j : ℕ) (u : View) → get_elem? (newcomer subject 0 1 ∷ []) j ≡ some u → (j ≡ 0 → u.back ≡ []) × (j ≢ 0 → u.back ≡ [])
    owns zero u e = let none : u.back ≡ [] = ap (λ (x : View). x.back) (sym (some-injective _ _ e)) in ((λ _. none), (λ _. none))
    owns (suc j) u e = absurd (some-ne-none u (sym e))
