-- Each step keeps the rule of the cell.
use Rattle.std.proofs.Common.{◌≡◌, ◌≢◌, ℕ, zero, suc, ◌+◌, ◌/◌, ◌%◌, ◌≤◌, eqb, List, [], ◌∷◌, ◌++◌, length, get_or, set, Bool, true, false, true≢false, is_some, Option, Some, None, refl, sym, ap, ◌∙◌, subst, ⊎_elim, arith, length-append, append-nil, append_assoc}
use Rattle.std.proofs.lemmas.List.{set-get_or}
use Rattle.std.proofs.lemmas.List.Elements.{All-nil, All-push, All-weaker}
use mathlib.Core.Option.{some, none, some-injective, some-ne-none}
use mathlib.Core.Option as maybe
use lib.ListN.{get_elem?}
use prog.Atomic.{either}
use Rattle.atomic_table.specs.Table.{State, Me, step, Act, keeps, takes, gives, stepped, carried_after, Valid, Allows, Splits, opening, put_back, rest}
use Rattle.atomic_table.proofs.Lists.{exchanged}
use Rattle.ti_types.specs.declared.limits.Limits.{Limits}
use Rattle.ti_types.specs.declared.numbers.EnvNo.{EnvNo}
use Rattle.ti_roster.specs.declared.coming.Coming.{Coming}
use Rattle.ti_roster.specs.declared.view.RosterView.{RosterView}
use Rattle.ti_roster.specs.Log.{Log, mark_of, noted}
use Rattle.ti_roster.specs.View.{AreWithin, first_view, glanced, holding, split_off, splitter, stored}
use Rattle.ti_roster.specs.Word.{word_of}
use Rattle.ti_roster.specs.Rule.{Begins, Holds, Claims, Placed, RosterInvariant, Moves, IsFound, MayStore, locks, frees, glances}
use Rattle.ti_roster.proofs.Views.{at_end, one_set, one_each_set, one_each_same, one_each_end}
use Rattle.ti_roster.proofs.Logs.{mark_noted}
use Rattle.ti_roster.proofs.Bits.{counts, even_is_free, locked_is_more}

abbrev Spot : Type 0
Spot = Option Log

abbrev Mine : Type 0
Mine = Me Spot RosterView

abbrev St : Type 0
St = State Spot RosterView

begins_length : (log seen : List Coming) → Begins log seen → length seen ≤ length log
begins_length log seen b = let e = ap (λ (l : List Coming). length l) b.1 ∙ length-append seen b.0 in omega arith

found_is : (limits : Limits) (s : St) (r : RosterInvariant limits s) → get_or s.words 0 0 ≡ word_of r.locked r.log
found_is limits s r = ap (λ (ws : List ℕ). get_or ws 0 0) r.word

-- a step that changes no word and no roster, and of a view only the looks
unmoved : (limits : Limits) (s : St) (r : RosterInvariant limits s) (me : ℕ) (cs : List (ℕ × Spot)) (v w : RosterView) → get_elem? s.views me ≡ some v → w.limits ≡ v.limits → w.seen ≡ v.seen → w.holds ≡ v.holds → w.place ≡ v.place → AreWithin (length r.log) w.looked
    → RosterInvariant limits (stepped s 0 (get_or s.words 0 0) me cs w keeps)
unmoved limits s r me cs v w at same_limits same_seen same_holds same_place looked = record {
  log = r.log;
  locked = r.locked;
  holder = r.holder;
  word = set-get_or s.words 0 0 ∙ r.word;
  placed = r.placed;
  begins = one_set (λ j u. Begins r.log u.seen) s.views me w (subst (λ (l : List Coming). Begins r.log l) (sym same_seen) (r.begins me v at)) (λ j u _ g. r.begins j u g);
  holds = one_set (Holds r.log r.locked r.holder) s.views me w (λ h. (let own = r.holds me v at (sym same_holds ∙ h) in (own.0, own.1, same_seen ∙ own.2))) (λ j u _ g. r.holds j u g);
  looked = one_set (λ j u. AreWithin (length r.log) u.looked) s.views me w looked (λ j u _ g. r.looked j u g);
  about = one_set (λ j u. u.limits ≡ limits) s.views me w (same_limits ∙ r.about me v at) (λ j u _ g. r.about j u g);
  claims = one_set (λ j u. Claims r.log u.place u.seen) s.views me w (subst (λ (x : Option EnvNo × List Coming). Claims r.log x.0 x.1) (λ j. (sym same_place j, sym same_seen j)) (r.claims me v at)) (λ j u _ g. r.claims j u g);
  one_each = one_each_same s.views me v w r.one_each at same_place;
}

unchanged : (limits : Limits) (s : St) (r : RosterInvariant limits s) (me : ℕ) (cs : List (ℕ × Spot)) (v : RosterView) → get_elem? s.views me ≡ some v → RosterInvariant limits (stepped s 0 (get_or s.words 0 0) me cs v keeps)
unchanged limits s r me cs v at = unmoved limits s r me cs v v at refl refl refl refl (r.looked me v at)

-- no look showed more than this, nor more than what is more
more_within : (n m : ℕ) → n ≤ m → (looked : List ℕ) → AreWithin n looked → AreWithin m looked
more_within n m less looked = All-weaker (λ k. k ≤ n) (λ k. k ≤ m) (λ k h. omega arith) looked

-- a load
pub looks_keep : (limits : Limits) (slots id : ℕ) (me : Mine) → Allows (RosterInvariant limits) slots id me 0 (λ n. n) (glances (step slots 0 0 0 none) me)
looks_keep limits slots id me s r _ at _ =
    let here = found_is limits s r in
    let l = begins_length r.log me.0.seen (r.begins id me.0 at) in
    let n : ℕ = get_or s.words 0 0 / 2 in
    let c : n ≡ length r.log = ap (λ (x : ℕ). x / 2) here ∙ counts r.locked r.log in
    let now : AreWithin (length r.log) (me.0.looked ++ n ∷ []) = All-push (λ k. k ≤ length r.log) me.0.looked n (r.looked id me.0 at) (omega arith) in (
      glanced me.0 n,
      keeps,
      tt,
      unmoved limits s r id me.1 me.0 (glanced me.0 n) at refl refl refl refl now,
      (refl, omega arith, subst (λ (k : ℕ). AreWithin k me.0.looked) (sym c) (r.looked id me.0 at)),
    )

-- what a seat claims, read off another list that is the same
claims_of : (log log' seen : List Coming) (o : Option EnvNo) → log ≡ log' → Claims log o seen → Claims log' o seen
claims_of log log' seen o same c = subst (λ (l : List Coming). Claims l o seen) same c

-- whoever has seen the list claims what it did
claims_all : (log seen : List Coming) (o : Option EnvNo) → Claims log o seen → Claims log o log
claims_all log seen None c = tt
claims_all log seen (Some e) c = (refl, c.1)

-- the lock bit set, and the roster out
taken : (limits : Limits) (s : St) (r : RosterInvariant limits s) (id : ℕ) (me : Mine) (new : ℕ) (t : Log) → get_elem? s.views id ≡ some me.0 → r.locked ≡ false → s.homes ≡ some (Some t) ∷ [] → t.items ≡ r.log
    → new ≡ word_of true r.log → RosterInvariant limits (stepped s 0 new id me.1 (holding me.0 t.items) (takes 0 (Some t)))
taken limits s r id me new t at free home same now =
    let w : RosterView = holding me.0 t.items in
    let off : (j : ℕ) (u : RosterView) → get_elem? s.views j ≡ some u → u.holds ≡ true → ⊥ = λ j u e h. true≢false (sym (r.holds j u e h).0 ∙ free) in
    let mine : Claims r.log me.0.place t.items = subst (λ (l : List Coming). Claims r.log me.0.place l) (sym same) (claims_all r.log me.0.seen me.0.place (r.claims id me.0 at)) in record {
      log = r.log;
      locked = true;
      holder = id;
      word = ap (λ (ws : List ℕ). set ws 0 new) r.word ∙ ap (λ (x : ℕ). x ∷ []) now;
      placed = ap (λ (hs : List (maybe.Option Spot)). set hs 0 none) home;
      about = one_set (λ j u. u.limits ≡ limits) s.views id w (r.about id me.0 at) (λ j u _ g. r.about j u g);
      begins = one_set (λ j u. Begins r.log u.seen) s.views id w ([], sym same ∙ sym (append-nil t.items)) (λ j u _ g. r.begins j u g);
      holds = one_set (Holds r.log true id) s.views id w (λ _. (refl, refl, same)) (λ j u _ g h. absurd (off j u g h));
      looked = one_set (λ j u. AreWithin (length r.log) u.looked) s.views id w (r.looked id me.0 at) (λ j u _ g. r.looked j u g);
      claims = one_set (λ j u. Claims r.log u.place u.seen) s.views id w mine (λ j u _ g. r.claims j u g);
      one_each = one_each_same s.views id me.0 w r.one_each at refl;
    }

pub locks_keep : (limits : Limits) (slots id : ℕ) (me : Mine) (old new : ℕ) → old % 2 ≡ 0 → new ≡ old + 1 → Allows (RosterInvariant limits) slots id me 0 (λ n. either (eqb n old) new n) (locks (step slots 0 old new none) me)
locks_keep limits slots id me old new even up s r _ at _ =
    let n : ℕ = get_or s.words 0 0 in
    let here = found_is limits s r in
    let F : ℕ → Type 0 = λ x. (w : RosterView) × (a : Act Spot) × Valid s.homes me.1 a × RosterInvariant limits (stepped s 0 x id me.1 w a) × locks (step slots 0 old new none) me n (w, carried_after me.1 a) in
    exchanged n old new F
    (λ hit.
    let free : r.locked ≡ false = even_is_free r.locked r.log (ap (λ (x : ℕ). x % 2) (sym here ∙ hit) ∙ even) in
    let p = subst (λ (b : Bool). Placed limits r.log b s.homes) free r.placed in
    let t : Log = p.0 in
    let at_old : old ≡ word_of false r.log = sym hit ∙ (here ∙ ap (λ (b : Bool). word_of b r.log) free) in
    let now : new ≡ word_of true r.log = up ∙ (ap (λ (x : ℕ). x + 1) at_old ∙ locked_is_more r.log) in
    let back : r.log ≡ t.items = sym p.2 in
    let found : IsFound t me.0 = (subst (λ (l : List Coming). Begins l me.0.seen) back (r.begins id me.0 at), claims_of r.log t.items me.0.seen me.0.place back (r.claims id me.0 at), p.3 ∙ sym (r.about id me.0 at), subst (λ (l : List Coming). AreWithin (length l) me.0.looked) back (r.looked id me.0 at)) in (
      holding me.0 t.items,
      takes 0 (Some t),
      ap (λ (hs : List (maybe.Option Spot)). get_elem? hs 0) p.1,
      taken limits s r id me new t at free p.1 p.2 now,
      ((λ _. (t, refl, found)), λ miss. absurd (miss hit)),
    ))
    (λ miss. (me.0, keeps, tt, unchanged limits s r id me.1 me.0 at, ((λ hit. absurd (miss hit)), λ _. refl)))

-- what begins with a list that begins with another begins with that one
further : (more log seen : List Coming) → Begins more log → Begins log seen → Begins more seen
further more log seen b c = (c.0 ++ b.0, b.1 ∙ (ap (λ (l : List Coming). l ++ b.0) c.1 ∙ append_assoc seen c.0 b.0))

-- what happened to a place that is neither the storing seat's nor becomes it
kept_mark : (log after seen : List Coming) (o : Option EnvNo) → Claims log o seen → ((e : EnvNo) → o ≡ Some e → noted e after ≡ noted e log) → Claims after o seen
kept_mark log after seen None c same = tt
kept_mark log after seen (Some e) c same = (same e refl ∙ c.0, ap (λ (m : Option ℕ). is_some m) (mark_noted e after log (same e refl)) ∙ c.1)

-- and to the storing seat's place
own_mark : (after : List Coming) (o : Option EnvNo) → ((e : EnvNo) → o ≡ Some e → is_some (mark_of e after) ≡ true) → Claims after o after
own_mark after None there = tt
own_mark after (Some e) there = (refl, there e refl)

-- what is noted of a place that a seat claims is there
claimed : (log seen : List Coming) (o : Option EnvNo) (e : EnvNo) → o ≡ Some e → Claims log o seen → is_some (mark_of e log) ≡ true
claimed log seen o e is c = (subst (λ (x : Option EnvNo). Claims log x seen) is c).1

none_is_not : (m : Option ℕ) → m ≡ None → is_some m ≡ true → ⊥
none_is_not m is some_is = true≢false (sym some_is ∙ ap (λ (x : Option ℕ). is_some x) is)

-- the roster in, and the store
given : (limits : Limits) (s : St) (r : RosterInvariant limits s) (id : ℕ) (me : Mine) (new : ℕ) (t : Log) → get_elem? s.views id ≡ some me.0 → me.0.holds ≡ true → me.1 ≡ (0, Some t) ∷ [] → MayStore t me.0 → new ≡ word_of false t.items
    → RosterInvariant limits (stepped s 0 new id me.1 (stored me.0 t) gives)
given limits s r id me new t at holds out may now =
    let w : RosterView = stored me.0 t in
    let own = r.holds id me.0 at holds in
    let grown : Begins t.items r.log = subst (λ (l : List Coming). Begins t.items l) own.2 may.0 in
    let within : (j : ℕ) (u : RosterView) → get_elem? s.views j ≡ some u → AreWithin (length t.items) u.looked = λ j u g. more_within (length r.log) (length t.items) (begins_length t.items r.log grown) u.looked (r.looked j u g) in
    let moves : Moves me.0.place t.user r.log t.items = subst (λ (l : List Coming). Moves me.0.place t.user l t.items) own.2 may.1 in
    let home : s.homes ≡ none ∷ [] = subst (λ (b : Bool). Placed limits r.log b s.homes) own.0 r.placed in
    let not_mine : (j : ℕ) (u : RosterView) (e : EnvNo) → j ≢ id → get_elem? s.views j ≡ some u → u.place ≡ Some e → me.0.place ≢ Some e = λ j u e other g is mine. other (r.one_each j id u me.0 e g at is mine) in
    let not_new : (j : ℕ) (u : RosterView) (e : EnvNo) → j ≢ id → get_elem? s.views j ≡ some u → u.place ≡ Some e → t.user ≢ Some e =
    λ j u e other g is new_is. none_is_not (mark_of e r.log) (moves.free e new_is (not_mine j u e other g is)) (claimed r.log u.seen u.place e is (r.claims j u g)) in
    let others : (j : ℕ) (u : RosterView) → j ≢ id → get_elem? s.views j ≡ some u → Claims t.items u.place u.seen =
    λ j u other g. kept_mark r.log t.items u.seen u.place (r.claims j u g) (λ e is. moves.others e (not_mine j u e other g is) (not_new j u e other g is)) in record {
      log = t.items;
      locked = false;
      holder = id;
      word = ap (λ (ws : List ℕ). set ws 0 new) r.word ∙ ap (λ (x : ℕ). x ∷ []) now;
      placed = (t, ap (λ (cs : List (ℕ × Spot)). put_back s.homes cs) out ∙ ap (λ (hs : List (maybe.Option Spot)). set hs 0 (some (Some t))) home, refl, may.2 ∙ r.about id me.0 at);
      about = one_set (λ j u. u.limits ≡ limits) s.views id w (r.about id me.0 at) (λ j u _ g. r.about j u g);
      begins = one_set (λ j u. Begins t.items u.seen) s.views id w ([], sym (append-nil t.items)) (λ j u _ g. further t.items r.log u.seen grown (r.begins j u g));
      holds = one_set (Holds t.items false id) s.views id w (λ h. absurd (true≢false (sym h))) (λ j u ne g h. absurd (ne ((r.holds j u g h).1 ∙ sym own.1)));
      looked = one_set (λ j u. AreWithin (length t.items) u.looked) s.views id w (within id me.0 at) (λ j u _ g. within j u g);
      claims = one_set (λ j u. Claims t.items u.place u.seen) s.views id w (own_mark t.items t.user moves.there) others;
      one_each = one_each_set s.views id w r.one_each (λ k u e other g is_w is_u. not_new k u e other g is_u is_w);
    }

abbrev roster_of : List (ℕ × Spot) → Log → Log
roster_of [] d = d
roster_of ((k, None) ∷ xs) d = d
roster_of ((k, Some t) ∷ xs) d = t

pub frees_keep : (limits : Limits) (slots id : ℕ) (me : Mine) (new : ℕ) (t : Log) → me.0.holds ≡ true → me.1 ≡ (0, Some t) ∷ [] → MayStore t me.0 → new ≡ word_of false t.items
    → Allows (RosterInvariant limits) slots id me 0 (λ _. new) (λ _. frees (step slots 0 new 0 none) me new)
frees_keep limits slots id me new t holds out may now s r _ at _ = (
  stored me.0 t,
  gives,
  tt,
  given limits s r id me new t at holds out may now,
  λ t' out'.
      let same : t ≡ t' = ap (λ (cs : List (ℕ × Spot)). roster_of cs t) (sym out ∙ out') in
      λ i. (stored me.0 (same i), rest_is i),
)
  where
    rest_is : rest me.1 ≡ []
    rest_is = ap (λ (cs : List (ℕ × Spot)). rest cs) out

-- a new seat
pub splits_keep : (limits : Limits) (id : ℕ) (v : RosterView) → v.holds ≡ false → Splits (RosterInvariant limits) id v (splitter v) (split_off v)
splits_keep limits id v free s r at = record {
  log = r.log;
  locked = r.locked;
  holder = r.holder;
  word = r.word;
  placed = r.placed;
  begins = λ j u e. ⊎_elim
      (λ (g : get_elem? (set s.views id (splitter v)) j ≡ some u). one_set (λ i x. Begins r.log x.seen) s.views id (splitter v) (r.begins id v at) (λ i x _ h. r.begins i x h) j u g)
      (λ (g : split_off v ≡ u). subst (λ (x : RosterView). Begins r.log x.seen) g (r.begins id v at))
      (at_end (set s.views id (splitter v)) (split_off v) u j e);
  holds = λ j u e. ⊎_elim
      (λ (g : get_elem? (set s.views id (splitter v)) j ≡ some u). one_set (Holds r.log r.locked r.holder) s.views id (splitter v) (r.holds id v at) (λ i x _ h. r.holds i x h) j u g)
      (λ (g : split_off v ≡ u). λ h. absurd (true≢false (sym h ∙ ap (λ (x : RosterView). x.holds) (sym g))))
      (at_end (set s.views id (splitter v)) (split_off v) u j e);
  looked = λ j u e. ⊎_elim
      (λ (g : get_elem? (set s.views id (splitter v)) j ≡ some u). one_set (λ i x. AreWithin (length r.log) x.looked) s.views id (splitter v) (r.looked id v at) (λ i x _ h. r.looked i x h) j u g)
      (λ (g : split_off v ≡ u). subst (λ (x : RosterView). AreWithin (length r.log) x.looked) g (All-nil (λ k. k ≤ length r.log)))
      (at_end (set s.views id (splitter v)) (split_off v) u j e);
  about = λ j u e. ⊎_elim
      (λ (g : get_elem? (set s.views id (splitter v)) j ≡ some u). one_set (λ i x. x.limits ≡ limits) s.views id (splitter v) (r.about id v at) (λ i x _ h. r.about i x h) j u g)
      (λ (g : split_off v ≡ u). subst (λ (x : RosterView). x.limits ≡ limits) g (r.about id v at))
      (at_end (set s.views id (splitter v)) (split_off v) u j e);
  claims = λ j u e. ⊎_elim
      (λ (g : get_elem? (set s.views id (splitter v)) j ≡ some u). one_set (λ i x. Claims r.log x.place x.seen) s.views id (splitter v) (r.claims id v at) (λ i x _ h. r.claims i x h) j u g)
      (λ (g : split_off v ≡ u). subst (λ (x : RosterView). Claims r.log x.place x.seen) g tt)
      (at_end (set s.views id (splitter v)) (split_off v) u j e);
  one_each = one_each_end (set s.views id (splitter v)) (split_off v) (one_each_same s.views id v (splitter v) r.one_each at refl) refl;
}

-- a new cell
pub opens : (limits : Limits) (t : Log) → t.items ≡ [] → t.limits ≡ limits → RosterInvariant limits (opening (0 ∷ []) (Some t ∷ []) (first_view limits))
opens limits t empty about = record {
  log = [];
  locked = false;
  holder = 0;
  word = refl;
  placed = (t, refl, empty, about);
  about = λ j u e. ap (λ (x : RosterView). x.limits) (sym (only j u e).1);
  begins = λ j u e. subst (λ (x : RosterView). Begins [] x.seen) (only j u e).1 ([], refl);
  holds = λ j u e h. absurd (true≢false (sym h ∙ ap (λ (x : RosterView). x.holds) (sym (only j u e).1)));
  looked = λ j u e. subst (λ (x : RosterView). AreWithin 0 x.looked) (only j u e).1 (All-nil (λ k. k ≤ 0));
  claims = λ j u e. subst (λ (x : RosterView). Claims [] x.place x.seen) (only j u e).1 tt;
  one_each = λ j k v u e at_j at_k is_v is_u. (only j v at_j).0 ∙ sym (only k u at_k).0;
}
  where
    only : (j : ℕ) (u : RosterView) → get_elem? (first_view limits ∷ []) j ≡ some u → (j ≡ 0) × (first_view limits ≡ u)
    only zero u e = (refl, some-injective _ _ e)
    only (suc j) u e = absurd (some-ne-none u (sym e))
