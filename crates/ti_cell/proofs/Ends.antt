-- The end of a cell: what a closed table tells, by a state that keeps the rule. No step is taken here.
use Rattle.std.proofs.Common.{◌≡◌, ◌≢◌, ◌⊎◌, ℕ, ◌%◌, ◌≤◌, List, length, Bool, is_some, true, false, true≢false, Option, Some, None, refl, sym, ap, ◌∙◌, subst, ⊎_elim, inl, inr, lt_of_not-le, arith}
use Rattle.std.specs.Prelude.{IfSome}
use mathlib.Core.Logic.{dite}
use mathlib.Core.Option.{some, some-injective}
use mathlib.Core.Option as maybe
use native.Mathlib.Decide.{dec_le, ℕ_discrete}
use lib.ListN.{get_elem?}
use Rattle.atomic_table.specs.Table.{Final, Seen}
use Rattle.ti_types.specs.declared.entry.Entry.{Entry}
use Rattle.ti_types.specs.declared.event.Ticket.{Ticket}
use Rattle.ti_types.specs.declared.limits.Limits.{Limits}
use Rattle.ti_slot.specs.Thread.{Thread}
use Rattle.ti_replay.specs.Makers.{made_by, StartsWith}
use Rattle.ti_cell.specs.declared.view.Subject.{Subject}
use Rattle.ti_cell.specs.declared.view.User.{User}
use Rattle.ti_cell.specs.declared.view.View.{View}
use Rattle.ti_cell.specs.Word.{word_of}
use Rattle.ti_cell.specs.View.{IsAbout, IsAlone, tickets_of, users}
use Rattle.ti_cell.specs.Rule.{Each, CellInvariant, Placed, Held, Left, Ends, IsSo, IsAmong, IsWhole, IsSeen, WasSeen, left_out}
use Rattle.ti_cell.proofs.Views.{one_left, view_at}
use Rattle.ti_cell.proofs.Back.{so_of, made_is, posted_is, each_so, all_so}
use Rattle.ti_cell.proofs.Bits.{even_is_free, odd_is_locked}

abbrev Spot : Type 0
Spot = Option Thread

-- what a closed table had at its place and in its word, where the seat id had the view v
abbrev pub Closed : Subject → ℕ → View → ℕ → Spot → Type 0
Closed subject id v word slot = (words : List ℕ) × (slots : List Spot) × Final (Seen (CellInvariant subject) id v) words slots × (get_elem? words 0 ≡ some word) × (get_elem? slots 0 ≡ some slot)

-- the same by what the view itself says
own_end : (subject : Subject) (id : ℕ) (v : View) (word : ℕ) (slot : Spot) → v.gone ≡ false → Closed subject id v word slot → Closed v.subject v.number v word slot
own_end subject id v word slot there c =
    let k = c.2.1.0.knows id v c.2.1.1 there in
    subst (λ (x : Subject × ℕ). Closed x.0 x.1 v word slot) (λ i. (sym k.about i, sym k.numbered i)) c

last_word : (subject : Subject) (id : ℕ) (v : View) (word : ℕ) (slot : Spot) (c : Closed subject id v word slot) → word ≡ word_of subject.limits c.2.1.0.locked c.2.1.0.history
last_word subject id v word slot c = some-injective _ _ (sym c.3 ∙ ap (λ (ws : List ℕ). get_elem? ws 0) (sym c.2.2 ∙ c.2.1.0.word))

ends_free : (subject : Subject) (id : ℕ) (v : View) (word : ℕ) (slot : Spot) → v.gone ≡ false → Closed subject id v word slot → word % 2 ≡ 0 → Ends v slot
ends_free subject id v word slot there closed even =
    let c = own_end subject id v word slot there closed in
    let r : CellInvariant v.subject c.2.0 = c.2.1.0 in
    let free : r.locked ≡ false = even_is_free v.subject.limits r.locked r.history (ap (λ (x : ℕ). x % 2) (sym (last_word v.subject v.number v word slot c)) ∙ even) in
    let p = subst (λ (b : Bool). Placed v.subject r.history r.tickets b c.2.0.homes) free r.placed in
    let at_home = c.2.4 0 (Some p.0) (ap (λ (hs : List (maybe.Option Spot)). get_elem? hs 0) p.1) in record {
      state = c.2.0;
      kept = r;
      sits = c.2.1.1;
      left = subst (λ (b : Bool). Left v.subject r.history r.tickets b slot) (sym free) (p.0, some-injective _ _ (sym c.4 ∙ at_home), p.2, p.3, p.4);
    }

ends_locked : (subject : Subject) (id : ℕ) (v : View) (word : ℕ) (slot : Spot) → v.gone ≡ false → Closed subject id v word slot → word % 2 ≢ 0 → Ends v None
ends_locked subject id v word slot there closed odd =
    let c = own_end subject id v word slot there closed in
    let r : CellInvariant v.subject c.2.0 = c.2.1.0 in
    let locked : r.locked ≡ true = odd_is_locked v.subject.limits r.locked r.history (λ even. odd (ap (λ (x : ℕ). x % 2) (last_word v.subject v.number v word slot c) ∙ even)) in record {
      state = c.2.0;
      kept = r;
      sits = c.2.1.1;
      left = subst (λ (b : Bool). Left v.subject r.history r.tickets b None) (sym locked) refl;
    }

-- by what is given: the slot where the word is even, else none
pub ends : (subject : Subject) (id : ℕ) (v : View) (word : ℕ) (slot given : Spot) → v.gone ≡ false → Closed subject id v word slot → (word % 2 ≡ 0 → given ≡ slot) → (word % 2 ≢ 0 → given ≡ None) → Ends v given
ends subject id v word slot given there closed clear locked = dite (ℕ_discrete (word % 2) 0)
    (λ even. subst (Ends v) (sym (clear even)) (ends_free subject id v word slot there closed even))
    (λ odd. subst (Ends v) (sym (locked odd)) (ends_locked subject id v word slot there closed odd))

abbrev slot_or : Thread → Spot → Thread
slot_or d (Some t) = t
slot_or d None = d

left_is : (subject : Subject) (history : List Entry) (tickets : List Ticket) (locked : Bool) (t : Thread) → Left subject history tickets locked (Some t) → (t.history ≡ history) × (t.uncollected ≡ tickets) × IsAbout subject t
left_is subject history tickets false t l = subst (λ (x : Thread). (x.history ≡ history) × (x.uncollected ≡ tickets) × IsAbout subject x) (sym (ap (slot_or t) l.1)) (l.2, l.3, l.4)
left_is subject history tickets true t l = absurd (true≢false (ap is_some l))

left_of : (v : View) (t : Thread) (e : Ends v (Some t)) → (t.history ≡ e.kept.history) × (t.uncollected ≡ e.kept.tickets) × IsAbout v.subject t
left_of v t e = left_is v.subject e.kept.history e.kept.tickets e.kept.locked t e.left

-- what the slot that a cell ends with tells
pub end_seen : (v : View) (slot : Spot) → v.gone ≡ false → Ends v slot → IfSome slot (λ t. StartsWith t.history v.seen)
end_seen v (Some t) there e = subst (λ (h : List Entry). StartsWith h v.seen) (sym (left_of v t e).0) (e.kept.knows v.number v e.sits there).begins
end_seen v None there e = tt

pub end_mine : (v : View) (slot : Spot) → v.gone ≡ false → Ends v slot → IfSome slot (λ t. v.mine ≡ made_by v.number t.history)
end_mine v (Some t) there e = (e.kept.knows v.number v e.sits there).all_mine ∙ ap (made_by v.number) (sym (left_of v t e).0)
end_mine v None there e = tt

pub end_about : (v : View) (slot : Spot) → Ends v slot → IfSome slot (λ t. IsAbout v.subject t)
end_about v (Some t) e = (left_of v t e).2
end_about v None e = tt

-- what the seats knew that came back, and what this one knows
users_so : (v : View) (slot : Spot) → v.gone ≡ false → (e : Ends v slot) → Each (IsSo v.subject.limits e.kept.history e.kept.tickets) (users v)
users_so v slot there e =
    let r : CellInvariant v.subject e.state = e.kept in
    let o = r.returned.owned v.number v e.sits in (
      so_of v.subject r.history r.tickets (length e.state.views) v.number v (r.knows v.number v e.sits there),
      dite (ℕ_discrete v.number 0)
          (λ z. subst (Each (IsSo v.subject.limits r.history r.tickets)) (sym (o.0 z)) (all_so v.subject r.history r.tickets e.state.views r.back r.returned))
          (λ ne. subst (Each (IsSo v.subject.limits r.history r.tickets)) (sym (o.1 ne)) tt),
    )

pub end_users : (v : View) (slot : Spot) → v.gone ≡ false → Ends v slot → IfSome slot (λ t. Each (IsSo t.limits t.history t.uncollected) (users v))
end_users v (Some t) there e =
    let l = left_of v t e in
    subst (λ (x : Limits × List Entry × List Ticket). Each (IsSo x.0 x.1 x.2) (users v)) (λ i. (sym l.2.0 i, sym l.0 i, sym l.1 i)) (users_so v (Some t) there e)
end_users v None there e = tt

not_locked : (views : List View) (holder : ℕ) (locked : Bool) → Held locked holder views → ((u : View) → get_elem? views holder ≡ some u → u.holds ≡ true → ⊥) → locked ≡ false
not_locked views holder false h none = refl
not_locked views holder true h none = absurd (none h.0 h.1 h.2)

-- the slot is there, and whole, where all seats came back
pub end_whole : (v : View) (slot : Spot) → v.gone ≡ false → v.holds ≡ false → IsAlone v → Ends v slot → IsWhole (users v) slot
end_whole v slot there free alone e =
    let r : CellInvariant v.subject e.state = e.kept in
    let views : List View = e.state.views in
    let own : get_elem? views 0 ≡ some v = subst (λ (n : ℕ). get_elem? views n ≡ some v) alone.0 e.sits in
    let back : v.back ≡ r.back = (r.returned.owned v.number v e.sits).0 alone.0 in
    let made : v.made ≡ length views = (r.knows v.number v e.sits there).made alone.0 in
    let one : left_out views ≡ 1 = let c = r.returned.count in let a = alone.1 in let b : length v.back ≡ length r.back = ap (λ (l : List User). length l) back in omega (arith, a, b, c, made) in
    let others : (j : ℕ) (u : View) → get_elem? views j ≡ some u → j ≢ 0 → u.gone ≡ true = one_left views v own there one in
    let nobody_holds : (u : View) → get_elem? views r.holder ≡ some u → u.holds ≡ true → ⊥ = λ u at holds. dite (ℕ_discrete r.holder 0)
    (λ z. true≢false (sym holds ∙ (ap (λ (x : View). x.holds) (some-injective u v (sym at ∙ (ap (λ (n : ℕ). get_elem? views n) z ∙ own))) ∙ free)))
    (λ ne. true≢false (sym (others r.holder u at ne) ∙ (r.holds r.holder u at holds).4)) in
    let l = subst (λ (b : Bool). Left v.subject r.history r.tickets b slot) (not_locked views r.holder r.locked r.held nobody_holds) e.left in
    let so = users_so v slot there e in
    let among : (n : ℕ) → IsAmong n (users v) ⊎ (length views ≤ n) = λ n. dite (ℕ_discrete n 0)
    (λ z. inl (inl (alone.0 ∙ sym z)))
    (λ ne. dite (dec_le (length views) n)
    (λ far. inr far)
    (λ below. let u = view_at views n (lt_of_not-le below) in inl (inr (subst (IsAmong n) (sym back) (r.returned.listed n u.0 u.1 (others n u.0 u.1 ne)))))) in (
      l.0,
      l.1,
      λ n. (
        ap (made_by n) l.2 ∙ made_is n r.history (users v) (each_so (λ u. u.mine ≡ made_by u.number r.history) v.subject.limits r.history r.tickets (λ u p. p.all_mine) (users v) so) (⊎_elim (λ (a : IsAmong n (users v)). inl a) (λ (far : length views ≤ n). inr (r.unmade n far)) (among n)),
        ap (tickets_of n) l.3 ∙ posted_is n r.tickets (users v) (each_so (λ u. u.posted ≡ tickets_of u.number r.tickets) v.subject.limits r.history r.tickets (λ u p. p.posted) (users v) so) (⊎_elim (λ (a : IsAmong n (users v)). inl a) (λ (far : length views ≤ n). inr (r.unasked n far)) (among n)),
      ),
    )

-- where all seats came back, some user has seen all of the history
pub end_last : (v : View) (slot : Spot) → v.gone ≡ false → IsAlone v → Ends v slot → IfSome slot (λ t. WasSeen t.history (users v))
end_last v None there alone e = tt
end_last v (Some t) there alone e =
    let r : CellInvariant v.subject e.state = e.kept in
    let views : List View = e.state.views in
    let own : get_elem? views 0 ≡ some v = subst (λ (n : ℕ). get_elem? views n ≡ some v) alone.0 e.sits in
    let back : v.back ≡ r.back = (r.returned.owned v.number v e.sits).0 alone.0 in
    let made : v.made ≡ length views = (r.knows v.number v e.sits there).made alone.0 in
    let one : left_out views ≡ 1 = let c = r.returned.count in let a = alone.1 in let b : length v.back ≡ length r.back = ap (λ (l : List User). length l) back in omega (arith, a, b, c, made) in
    subst (λ (h : List Entry). WasSeen h (users v)) (sym (left_of v t e).0)
    (⊎_elim
    (λ (s : IsSeen r.history views). dite (ℕ_discrete s.0 0)
    (λ z. inl (ap (λ (x : View). x.seen) (some-injective v s.1 (sym own ∙ (ap (λ (n : ℕ). get_elem? views n) (sym z) ∙ s.2))) ∙ s.4))
    (λ ne. absurd (true≢false (sym (one_left views v own there one s.0 s.1 s.2 ne) ∙ s.3))))
    (λ (b : WasSeen r.history r.back). inr (subst (WasSeen r.history) (sym back) b))
    r.last)
