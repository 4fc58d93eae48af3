-- Values by the trees that they stand for.
use Rattle.std.proofs.Common.{◌≡◌, ◌&&◌, ◌==◌, List, [], ◌∷◌, length, map, Bool, false, Some, refl, ap, sym, ◌∙◌, one-add, String, Global}
use Rattle.std.specs.Option.{option_map, option_map_or}
use Rattle.std.specs.List.{list_all}
use Rattle.serde_json.specs.Data.{Data}
use Rattle.serde_json.specs.Find.{as_object, as_array}
use Rattle.serde_json.specs.View.{view, items_of, items_view, members_of, members_view}
use Rattle.serde_json.specs.declared.value.Value.{Value}
use Rattle.ti_script.specs.declared.located.MemberName.{MemberName}
use Rattle.ti_script.specs.Tree.{listed, array_in, member_count, has_member, has_exactly}

pub listed_of : (ds : List Data) → listed (items_of ds) ≡ ds
listed_of [] = refl
listed_of (d ∷ ds) = ap (λ l. d ∷ l) (listed_of ds)

-- the elements of an array that was found
pub array_found : (d : Data) (vs : List Value) → Some (items_view vs) ≡ as_array d → array_in d ≡ Some (map view vs)
array_found d vs e = ap (option_map listed) (sym e) ∙ ap Some (listed_of (map view vs))

member_count_of : (ms : List (String Global × Data)) → member_count (members_of ms) ≡ length ms
member_count_of [] = refl
member_count_of (m ∷ ms) = simp (member_count_of ms, one-add) refl

pub length_of_map : {X Y : Type 0} (f : X → Y) → (xs : List X) → length (map f xs) ≡ length xs
length_of_map f [] = refl
length_of_map f (x ∷ xs) = simp (length_of_map f xs) refl

pub has_exactly_found : (members : List MemberName) (d : Data) (ms : List (String Global × Value)) → Some (members_view ms) ≡ as_object d
    → has_exactly members d ≡ ((length ms == length members) && list_all (has_member d) members)
has_exactly_found members d ms e =
    ap (λ o. option_map_or (λ m. member_count m == length members) o false && list_all (has_member d) members) (sym e)
    ∙ ap (λ n. (n == length members) && list_all (has_member d) members) (member_count_of (map (λ m. (m.0, view m.1)) ms) ∙ length_of_map (λ m. (m.0, view m.1)) ms)

-- a test of each value's tree
pub list_all_views : (p : Data → Bool) → (vs : List Value) → list_all p (map view vs) ≡ list_all (λ v. p (view v)) vs
list_all_views p [] = refl
list_all_views p (v ∷ vs) = ap (λ b. p (view v) && b) (list_all_views p vs)
