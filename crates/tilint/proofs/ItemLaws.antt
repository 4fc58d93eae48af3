-- The items of lists: those of one list more, and those of all.
use Rattle.std.proofs.Common.{◌≡◌, ◌<◌, ◌≤◌, ◌+◌, ◌-◌, arith, ℕ, List, length, map, take, get_or, None, refl, ap, sym, subst, ◌∙◌}
use Rattle.std.proofs.Math.ListN.{get_or-map}
use Rattle.std.proofs.lemmas.List.{length-map, take_all}
use Rattle.std.proofs.lemmas.List.Sums.{sum_by_more}
use Rattle.serde_json.specs.View.{view}
use Rattle.serde_json.specs.declared.value.Value.{Value}
use Rattle.serde_json.specs.Data.{Data}
use Rattle.ti_script.specs.declared.located.MemberName.{MemberName}
use Rattle.ti_script.specs.declared.located.MemberName.TheVariants as member
use Rattle.ti_script.specs.Tree.{elements}
use Rattle.ti_script.specs.Lives.{count_in_all}
use Rattle.tilint.specs.Places.{item_at, in_member, head_place}

pub one_more : (vs : List Value) (i : ℕ) (v : Value) → i < length vs → count_in_all (take (i + 1) (map view vs)) ≡ count_in_all (take i (map view vs)) + length (elements (view (get_or vs i v)))
one_more vs i v within =
    sum_by_more (λ x. length (elements x)) (map view vs) i (view v) (subst (λ n. i < n) (sym (length-map vs view)) within)
    ∙ ap (λ d. count_in_all (take i (map view vs)) + length (elements d)) (get_or-map view vs i v)

pub taken : (vs : List Value) (n : ℕ) → length vs ≤ n → count_in_all (take n (map view vs)) ≡ count_in_all (map view vs)
taken vs n within = ap count_in_all (take_all n (map view vs) (subst (λ m. m ≤ n) (sym (length-map vs view)) within))

-- after one list more, the items before it and those that are left are the same number
pub stepped : (vs : List Value) (i left number : ℕ) (v : Value) (es : List Value) → i < length vs → get_or vs i v ≡ v → map view es ≡ elements (view v) → length es ≤ left
    → count_in_all (take i (map view vs)) + left ≡ number → count_in_all (take (i + 1) (map view vs)) + (left - length es) ≡ number
stepped vs i left number v es within is same few before =
    let more = one_more vs i v within in
    let size : length (elements (view (get_or vs i v))) ≡ length es = ap (λ w. length (elements (view w))) is ∙ ap length (sym same) ∙ length-map es view in
    omega (arith, more, size, few, before)

-- ---- places of the head

pub member_in_head : (which : MemberName) (d : Data) → item_at d (in_member which None None None) ≡ 0
member_in_head member.Format d = refl
member_in_head member.Limits d = refl
member_in_head member.Depth d = refl
member_in_head member.Own d = refl
member_in_head member.CallLimit d = refl
member_in_head member.Threads d = refl
member_in_head member.Agents d = refl
member_in_head member.Methods d = refl
member_in_head member.Events d = refl
member_in_head member.Walks d = refl
member_in_head member.Calls d = refl
member_in_head member.Entries d = refl

pub place_in_head : (which : MemberName) (n : ℕ) (d : Data) → item_at d (head_place which n) ≡ 0
place_in_head member.Format n d = refl
place_in_head member.Limits n d = refl
place_in_head member.Depth n d = refl
place_in_head member.Own n d = refl
place_in_head member.CallLimit n d = refl
place_in_head member.Threads n d = refl
place_in_head member.Agents n d = refl
place_in_head member.Methods n d = refl
place_in_head member.Events n d = refl
place_in_head member.Walks n d = refl
place_in_head member.Calls n d = refl
place_in_head member.Entries n d = refl
