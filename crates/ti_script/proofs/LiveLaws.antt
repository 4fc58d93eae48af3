-- Faults of walks and live scripts in their order.
use Rattle.std.proofs.Common.{ℕ, ◌≡◌, ◌||◌, List, [], ◌∷◌, Bool, true, false, is_some, if◌then◌else◌, Option, None, Some, Result, Ok, Err, inl, inr, codes, refl, subst}
use Rattle.std.specs.List.{list_all}
use Rattle.std.specs.Option.{ok_or, option_map}
use Rattle.std.specs.Result.{IfErr, IsErrAnd, result_err}
use Rattle.serde_json.specs.Data.{Data}
use Rattle.ti_types.specs.declared.numbers.ThreadNo.{ThreadNo}
use Rattle.ti_script.specs.declared.located.LocatedFault.{LocatedFault}
use Rattle.ti_script.specs.declared.item.Spot.{Spot}
use Rattle.ti_script.specs.Spots.{shape_at, name_at}
use Rattle.ti_script.specs.declared.names.Cast.{Cast}
use Rattle.ti_script.specs.Faults.{Faults, first_of}
use Rattle.ti_script.specs.declared.fault.LimitName.TheVariants.{Events}
use Rattle.ti_script.specs.declared.located.MemberName.TheVariants as member
use Rattle.ti_script.specs.Tree.{at, elements}
use Rattle.ti_script.specs.Head.{is_text, walk_members, members_fault, limits_fault, cast_fault, items_fault}
use Rattle.ti_script.specs.Walks.{cast_of, events_in, events_of, walk_fault}
use Rattle.ti_script.specs.Events.{◌>>=◌, thread, thread_named, named, given, u32_in}
use Rattle.ti_script.specs.Lives.{live_members, body_fault, live_fault, is_thread_element, threads_given}

last_fails : (e : LocatedFault) (x : Option LocatedFault) → Faults e x → Faults e (first_of (x ∷ []))
last_fails e x (inl memory) = inl memory
last_fails e (Some f) (inr is) = inr is
last_fails e None (inr is) = cc is

-- the fault of a last test, after three that hold
fourth_fails : (e : LocatedFault) (a b c x : Option LocatedFault) → a ≡ None → b ≡ None → c ≡ None → Faults e x → Faults e (first_of (a ∷ b ∷ c ∷ x ∷ []))
fourth_fails e a b c x p q s f = rw (p, q, s) (last_fails e x f)

-- a document whose head has no fault has that of its body
pub body_fails : (d : Data) (cast : Cast) (e : LocatedFault) → members_fault live_members d ≡ None → limits_fault (at (codes "limits") d) ≡ None → cast_fault d ≡ None → cast ≡ cast_of d
    → Faults e (body_fault cast d) → Faults e (live_fault d)
body_fails d cast e members limits names same f =
    fourth_fails e (members_fault live_members d) (limits_fault (at (codes "limits") d)) (cast_fault d) (body_fault (cast_of d) d)
    members limits names (subst (λ c. Faults e (body_fault c d)) same f)

-- the last test of the head, and then the events
items_fail : (e : LocatedFault) (a b c i x : Option LocatedFault) → a ≡ None → b ≡ None → c ≡ None → Faults e (first_of (i ∷ x ∷ [])) → Faults e (first_of (first_of (a ∷ b ∷ c ∷ i ∷ []) ∷ x ∷ []))
items_fail e a b c (Some f) x p q s h = rw (p, q, s) h
items_fail e a b c None x p q s h = rw (p, q, s) h

-- a document whose limits and names have no fault has that of its events
pub events_fail : (d : Data) (cast : Cast) (e : LocatedFault) → members_fault walk_members d ≡ None → limits_fault (at (codes "limits") d) ≡ None → cast_fault d ≡ None → cast ≡ cast_of d
    → Faults e (first_of (items_fault member.Events Events 65536 (at (codes "events") d) ∷ result_err (events_in cast 1 (elements (at (codes "events") d))) ∷ [])) → Faults e (walk_fault d)
events_fail d cast e members limits names same f =
    items_fail e (members_fault walk_members d) (limits_fault (at (codes "limits") d)) (cast_fault d) (items_fault member.Events Events 65536 (at (codes "events") d)) (result_err (events_of d))
    members limits names
    (subst (λ c. Faults e (first_of (items_fault member.Events Events 65536 (at (codes "events") d) ∷ result_err (events_in c 1 (elements (at (codes "events") d))) ∷ []))) same f)

-- an error of which one thing is known
pub err_is : {X E : Type 0} (r : Result X E) {Q : E → Type 0} (P : E → Type 0) → IsErrAnd r Q → ((e : E) → Q e → P e) → IfErr r P
err_is (Ok x) P h k = tt
err_is (Err e) P h k = k e h

-- what stands for a thread may stand for one

element_is : (b : Bool) (o : Option ℕ) (r : Result ThreadNo LocatedFault) (f : LocatedFault) (t : ThreadNo) → (if b then r else ok_or (option_map (λ n. record { 0 = n }) o) f) ≡ Ok t → (b || is_some o) ≡ true
element_is true o r f t e = refl
element_is false (Some n) r f t e = refl
element_is false None r f t e = cc e

first_given : (r : Result ThreadNo LocatedFault) (more : Result (List ThreadNo) LocatedFault) (ts : List ThreadNo) → (r >>= λ t. more >>= λ us. Ok (t ∷ us)) ≡ Ok ts → (t : ThreadNo) × (r ≡ Ok t)
first_given (Ok t) more ts e = (t, refl)
first_given (Err f) more ts e = cc e

rest_given : (r : Result ThreadNo LocatedFault) (more : Result (List ThreadNo) LocatedFault) (ts : List ThreadNo) → (r >>= λ t. more >>= λ us. Ok (t ∷ us)) ≡ Ok ts → (us : List ThreadNo) × (more ≡ Ok us)
rest_given (Ok t) (Ok us) ts e = (us, refl)
rest_given (Ok t) (Err f) ts e = cc e
rest_given (Err f) more ts e = cc e

pub all_elements : (cast : Cast) (spot : Spot) (ds : List Data) (ts : List ThreadNo) → threads_given cast spot ds ≡ Ok ts → list_all is_thread_element ds ≡ true
all_elements cast spot [] ts e = refl
all_elements cast spot (d ∷ ds) ts e =
    let g = given cast spot thread d in
    let m = threads_given cast spot ds in
    let a = first_given g m ts e in
    let b = rest_given g m ts e in
    let first : is_thread_element d ≡ true = element_is (is_text d) (u32_in d) (named cast spot (thread_named cast spot) (name_at spot) d) (shape_at spot) a.0 a.1 in
    rw (first, all_elements cast spot ds b.0 b.1) refl
