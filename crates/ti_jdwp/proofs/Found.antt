-- What is read is spelled so.
use Rattle.std.proofs.Common.{◌≡◌, ℕ, ℤ, suc, ◌+◌, ◌*◌, ◌^◌, ◌<◌, ◌≤◌, cond, eqb, ltb, leb, ◌&&◌, List, [], ◌∷◌, ◌++◌, length, get_or, drop, Result, Ok, Err, Some, None, Option, refl, sym, ap, subst, ◌∙◌, append_assoc, arith, length-drop}
use Rattle.std.specs.Prelude.{IfOk}
use Rattle.std.specs.Int.{w32, cast_signed}
use Rattle.std.proofs.lemmas.Bool.{eqb-true, leb-true, ltb-true, and_parts}
use Rattle.std.proofs.lemmas.Bool.Decides.{nat_tests}
use Rattle.std.proofs.lemmas.List.{nil_from_length, drop-drop}
use Rattle.ti_jdwp.specs.declared.error.JdwpError.{JdwpError}
use Rattle.ti_jdwp.specs.declared.error.JdwpError.TheVariants as error
use Rattle.ti_jdwp.specs.declared.request.EventKind.{EventKind}
use Rattle.ti_jdwp.specs.declared.request.Policy.{Policy}
use Rattle.ti_jdwp.specs.declared.request.Request.{Request}
use Rattle.ti_jdwp.specs.declared.request.Request.TheVariants as request
use Rattle.ti_jdwp.specs.Fields.{◌>>=◌, int, long, int_at, long_at}
use Rattle.ti_jdwp.specs.Events.{kind_of, kind_number, policy_of, policy_number}
use Rattle.ti_jdwp.specs.Modifiers.{within, text_len, modifiers_end}
use Rattle.ti_jdwp.specs.Commands.{Layout, no_fields, of_id, of_two_ids, of_part, of_signature, of_objects, of_event, of_clear, of_slots, layout_of}
use Rattle.ti_jdwp.specs.Requests.{of_len, id_in, two_ids_in, part_in, read_as, read_if_served, request_in}
use Rattle.ti_jdwp.specs.Spelled.{Spells, AreTwoIds, IsPart, IsSignature, IsObjects, IsEvent, IsClear, AreValues, IsRequest}
use Rattle.ti_jdwp.proofs.Bytes.{IsBytes}
use Rattle.ti_jdwp.specs.Patterns.{AreModifiers}
use Rattle.ti_jdwp.proofs.Patterned.{are_all}
use Rattle.ti_jdwp.proofs.Parts.{bind_ok, guard_ok, let_through, of_len_ok, long_front, int_front, parts_2, ended}

abbrev done : {A : Type 0} → A → Result A JdwpError
done x = Ok x

ok_is : {A : Type 0} (x y : A) → done x ≡ done y → x ≡ y
ok_is x y e = cc

found_id : (s : ℕ → Request) (bytes : List ℕ) (r : Request) → IsBytes bytes → read_as (of_id s) bytes ≡ Ok r → Spells (of_id s) bytes r
found_id s bytes r fits e =
    let b = bind_ok (id_in bytes) (λ id. Ok (s id)) r e in
    let g = of_len_ok 8 bytes (long_at 0 bytes) b.0 b.1 in
    let f = long_front bytes (omega arith) fits in
    let whole : bytes ≡ long (long_at 0 bytes) = ended 8 bytes _ (omega arith) f.0.parts in
    (long_at 0 bytes, f.1, whole, sym (ok_is (s b.0) r b.2) ∙ ap s (sym g.1))

found_two_ids : (s : ℕ → ℕ → Request) (bytes : List ℕ) (r : Request) → IsBytes bytes → read_as (of_two_ids s) bytes ≡ Ok r → AreTwoIds s bytes r
found_two_ids s bytes r fits e =
    let p = bind_ok (two_ids_in bytes) (λ ids. Ok (s ids.0 ids.1)) r e in
    let g = of_len_ok 16 bytes (long_at 0 bytes, long_at 8 bytes) p.0 p.1 in
    let a = long_front bytes (omega arith) fits in
    let b = long_front (drop 8 bytes) (omega (arith, length-drop 8 bytes)) a.0.rest_fits in
    let rest : drop 8 bytes ≡ long (long_at 8 bytes) = ended 8 (drop 8 bytes) (long (long_at 8 bytes)) (omega (arith, length-drop 8 bytes)) b.0.parts in
    (long_at 0 bytes, long_at 8 bytes, a.1, b.1, parts_2 bytes (long (long_at 0 bytes)) (long (long_at 8 bytes)) (drop 8 bytes) a.0.parts rest, sym (ok_is (s p.0.0 p.0.1) r p.2) ∙ ap (λ (ids : ℕ × ℕ). s ids.0 ids.1) (sym g.1))

found_part : (s : ℕ → ℤ → ℤ → Request) (bytes : List ℕ) (r : Request) → IsBytes bytes → read_as (of_part s) bytes ≡ Ok r → IsPart s bytes r
found_part s bytes r fits e =
    let p = bind_ok (part_in bytes) (λ part. Ok (s part.0 part.1 part.2)) r e in
    let g = of_len_ok 16 bytes (long_at 0 bytes, cast_signed w32 (int_at 8 bytes), cast_signed w32 (int_at 12 bytes)) p.0 p.1 in
    let a = long_front bytes (omega arith) fits in
    let b = int_front (drop 8 bytes) (omega (arith, length-drop 8 bytes)) a.0.rest_fits in
    let twelve : drop 4 (drop 8 bytes) ≡ drop 12 bytes = drop-drop 4 8 bytes in
    let more : IsBytes (drop 12 bytes) = subst IsBytes twelve b.0.rest_fits in
    let d = int_front (drop 12 bytes) (omega (arith, length-drop 12 bytes)) more in
    let third : drop 12 bytes ≡ int (int_at 12 bytes) = ended 4 (drop 12 bytes) (int (int_at 12 bytes)) (omega (arith, length-drop 12 bytes)) d.0.parts in
    let second : drop 8 bytes ≡ int (int_at 8 bytes) ++ int (int_at 12 bytes) = parts_2 (drop 8 bytes) (int (int_at 8 bytes)) (int (int_at 12 bytes)) (drop 4 (drop 8 bytes)) b.0.parts (twelve ∙ third) in
    let first : bytes ≡ long (long_at 0 bytes) ++ (int (int_at 8 bytes) ++ int (int_at 12 bytes)) = parts_2 bytes (long (long_at 0 bytes)) _ (drop 8 bytes) a.0.parts second in
    (long_at 0 bytes, int_at 8 bytes, int_at 12 bytes, a.1, b.1, d.1, first ∙ sym (append_assoc (long (long_at 0 bytes)) (int (int_at 8 bytes)) (int (int_at 12 bytes))), sym (ok_is (s p.0.0 p.0.1 p.0.2) r p.2) ∙ ap (λ (part : ℕ × ℤ × ℤ). s part.0 part.1 part.2) (sym g.1))

found_signature : (bytes : List ℕ) (r : Request) → IsBytes bytes → read_as of_signature bytes ≡ Ok r → IsSignature bytes r
found_signature bytes r fits e =
    let b = bind_ok (text_len bytes) (λ len. of_len len bytes (request.ClassesBySignature (record { start = 4; end = length bytes }))) r e in
    let l = let_through (leb 4 (length bytes) && ltb (int_at 0 bytes) (2 ^ 31)) _ (within (4 + int_at 0 bytes) bytes) b.0 b.1 in
    let tests = and_parts _ _ l.0 in
    let w = guard_ok (leb (4 + int_at 0 bytes) (length bytes)) _ (4 + int_at 0 bytes) b.0 l.1 in
    let g = of_len_ok b.0 bytes (request.ClassesBySignature (record { start = 4; end = length bytes })) r b.2 in
    let many : 4 ≤ length bytes = leb-true _ _ tests.0 in
    let short : int_at 0 bytes < 2 ^ 31 = ltb-true _ _ tests.1 in
    let f = int_front bytes many fits in
    let len : int_at 0 bytes ≡ length (drop 4 bytes) = omega (arith, length-drop 4 bytes) in
    (drop 4 bytes, omega arith, f.0.parts ∙ ap (λ (n : ℕ). int n ++ drop 4 bytes) len, sym g.1)

found_objects : (bytes : List ℕ) (r : Request) → IsBytes bytes → read_as of_objects bytes ≡ Ok r → IsObjects bytes r
found_objects bytes r fits e =
    let g = guard_ok (leb 4 (length bytes) && eqb (length bytes) (4 + 12 * int_at 0 bytes)) _ (request.DisposeObjects (record { start = 4; end = length bytes })) r e in
    let tests = and_parts _ _ g.0 in
    let many : 4 ≤ length bytes = leb-true _ _ tests.0 in
    let len : length bytes ≡ 4 + 12 * int_at 0 bytes = eqb-true _ _ tests.1 in
    let f = int_front bytes many fits in
    (int_at 0 bytes, drop 4 bytes, f.1, f.0.parts, omega (arith, length-drop 4 bytes), sym g.1)

found_values : (bytes : List ℕ) (r : Request) → IsBytes bytes → read_as of_slots bytes ≡ Ok r → AreValues bytes r
found_values bytes r fits e =
    let asked : Request = request.FrameValues (long_at 0 bytes) (long_at 8 bytes) (record { start = 20; end = length bytes }) in
    let g = guard_ok ((leb 20 (length bytes) && leb (int_at 16 bytes) 4096) && eqb (length bytes) (20 + 5 * int_at 16 bytes)) _ asked r e in
    let tests = and_parts _ _ g.0 in
    let bounds = and_parts _ _ tests.0 in
    let many : 20 ≤ length bytes = leb-true _ _ bounds.0 in
    let few : int_at 16 bytes ≤ 4096 = leb-true _ _ bounds.1 in
    let len : length bytes ≡ 20 + 5 * int_at 16 bytes = eqb-true _ _ tests.1 in
    let a = long_front bytes (omega arith) fits in
    let b = long_front (drop 8 bytes) (omega (arith, length-drop 8 bytes)) a.0.rest_fits in
    let sixteen : drop 8 (drop 8 bytes) ≡ drop 16 bytes = drop-drop 8 8 bytes in
    let more : IsBytes (drop 16 bytes) = subst IsBytes sixteen b.0.rest_fits in
    let d = int_front (drop 16 bytes) (omega (arith, length-drop 16 bytes)) more in
    let twenty : drop 4 (drop 16 bytes) ≡ drop 20 bytes = drop-drop 4 16 bytes in
    let third : drop 16 bytes ≡ int (int_at 16 bytes) ++ drop 20 bytes = d.0.parts ∙ ap (λ (t : List ℕ). int (int_at 16 bytes) ++ t) twenty in
    let second : drop 8 bytes ≡ long (long_at 8 bytes) ++ (int (int_at 16 bytes) ++ drop 20 bytes) = parts_2 (drop 8 bytes) (long (long_at 8 bytes)) _ (drop 8 (drop 8 bytes)) b.0.parts (sixteen ∙ third) in
    let first : bytes ≡ long (long_at 0 bytes) ++ (long (long_at 8 bytes) ++ (int (int_at 16 bytes) ++ drop 20 bytes)) = parts_2 bytes (long (long_at 0 bytes)) _ (drop 8 bytes) a.0.parts second in
    let flat : bytes ≡ long (long_at 0 bytes) ++ long (long_at 8 bytes) ++ int (int_at 16 bytes) ++ drop 20 bytes =
    first ∙ sym (append_assoc (long (long_at 0 bytes)) (long (long_at 8 bytes)) (int (int_at 16 bytes) ++ drop 20 bytes)) ∙ sym (append_assoc (long (long_at 0 bytes) ++ long (long_at 8 bytes)) (int (int_at 16 bytes)) (drop 20 bytes)) in
    (long_at 0 bytes, long_at 8 bytes, int_at 16 bytes, drop 20 bytes, a.1, b.1, few, flat, omega (arith, length-drop 20 bytes), sym g.1)

IsBytes-tail : (b : ℕ) (bytes : List ℕ) → IsBytes (b ∷ bytes) → IsBytes bytes
IsBytes-tail b bytes h i = h (suc i)

found_clear : (bytes : List ℕ) (r : Request) → IsBytes bytes → read_as of_clear bytes ≡ Ok r → IsClear bytes r
found_clear [] r fits e = absurd cc
found_clear (k ∷ rest) r fits e =
    let g = of_len_ok 5 (k ∷ rest) (request.ClearEvent k (cast_signed w32 (int_at 0 rest))) r e in
    let f = int_front rest (omega arith) (IsBytes-tail k rest fits) in
    let all : rest ≡ int (int_at 0 rest) = ended 4 rest _ (omega arith) f.0.parts in
    (k, int_at 0 rest, f.1, ap (λ (t : List ℕ). k ∷ t) all, sym g.1)

policy_is : (n : ℕ) (p : Policy) → policy_of n ≡ Ok p → n ≡ policy_number p
policy_is n p e = grind (arith, nat_tests)

kind_is : (n : ℕ) (k : EventKind) → kind_of n ≡ Ok k → n ≡ kind_number k
kind_is n k e = grind (arith, nat_tests)

-- the steps of an event request, the last one first
abbrev with_kind : List ℕ → Policy → ℕ → ℕ → Result Request JdwpError
with_kind bytes p count end = kind_of (get_or bytes 0 0) >>= λ kind. Ok (request.SetEvent kind p (record { start = 6; end = end }) count)

abbrev with_end : List ℕ → Policy → ℕ → ℕ → Result Request JdwpError
with_end bytes p count end = of_len end bytes end >>= λ end. with_kind bytes p count end

abbrev with_count : List ℕ → Policy → ℕ → Result Request JdwpError
with_count bytes p count = modifiers_end count 6 bytes >>= λ end. with_end bytes p count end

abbrev with_policy : List ℕ → Policy → Result Request JdwpError
with_policy bytes p = cond (leb (int_at 2 bytes) 64) (Ok (int_at 2 bytes)) (Err error.IllegalArgument) >>= λ count. with_count bytes p count

-- what the bytes begin with
event_first : (a b count : ℕ) (rest : List ℕ) (k : EventKind) (p : Policy) → kind_of a ≡ Ok k → policy_of b ≡ Ok p → rest ≡ int count ++ drop 4 rest → a ∷ b ∷ rest ≡ kind_number k ∷ policy_number p ∷ (int count ++ drop 4 rest)
event_first a b count rest k p is_k is_p parts =
    ap (λ (t : List ℕ). a ∷ b ∷ t) parts
    ∙ ap (λ (c : ℕ). c ∷ b ∷ (int count ++ drop 4 rest)) (kind_is a k is_k)
    ∙ ap (λ (c : ℕ). kind_number k ∷ c ∷ (int count ++ drop 4 rest)) (policy_is b p is_p)

event_set : (k : EventKind) (p : Policy) (count end len : ℕ) (r : Request) → done (request.SetEvent k p (record { start = 6; end = end }) count) ≡ done r → end ≡ len → r ≡ request.SetEvent k p (record { start = 6; end = len }) count
event_set k p count end len r e is = sym (ok_is (request.SetEvent k p (record { start = 6; end = end }) count) r e) ∙ ap (λ (n : ℕ). request.SetEvent k p (record { start = 6; end = n }) count) is

-- the same by what the steps gave
event_is : (a b count end last : ℕ) (rest : List ℕ) (k : EventKind) (p : Policy) (r : Request) → IsBytes (a ∷ b ∷ rest) → 6 ≤ length (a ∷ b ∷ rest) → policy_of b ≡ Ok p → int_at 0 rest ≤ 64 → int_at 0 rest ≡ count
    → modifiers_end count 6 (a ∷ b ∷ rest) ≡ Ok end → length (a ∷ b ∷ rest) ≡ end → end ≡ last → kind_of a ≡ Ok k → done (request.SetEvent k p (record { start = 6; end = last }) count) ≡ done r → IsEvent (a ∷ b ∷ rest) r
event_is a b count end last rest k p r fits many is_p few is_count walked all same is_k e =
    let f = int_front rest (omega arith) (IsBytes-tail b rest (IsBytes-tail a (b ∷ rest) fits)) in
    let parts : rest ≡ int count ++ drop 4 rest = f.0.parts ∙ ap (λ (c : ℕ). int c ++ drop 4 rest) is_count in
    let are : AreModifiers count 6 (drop 4 rest) = are_all count 6 (a ∷ b ∷ rest) fits many (walked ∙ ap done (sym all)) in
    (k, p, count, drop 4 rest, omega arith, event_first a b count rest k p is_k is_p parts, are, event_set k p count last (length (a ∷ b ∷ rest)) r e (sym same ∙ sym all))

found_event : (bytes : List ℕ) (r : Request) → IsBytes bytes → read_as of_event bytes ≡ Ok r → IsEvent bytes r
found_event [] r fits e = absurd cc
found_event (a ∷ []) r fits e = absurd cc
found_event (a ∷ b ∷ rest) r fits e =
    let bytes : List ℕ = a ∷ b ∷ rest in
    let l = let_through (leb 6 (length bytes)) error.IllegalArgument (policy_of b >>= λ p. with_policy bytes p) r e in
    let p = bind_ok (policy_of b) (λ p. with_policy bytes p) r l.1 in
    let n = bind_ok (cond (leb (int_at 0 rest) 64) (Ok (int_at 0 rest)) (Err error.IllegalArgument)) (λ count. with_count bytes p.0 count) r p.2 in
    let m = bind_ok (modifiers_end n.0 6 bytes) (λ end. with_end bytes p.0 n.0 end) r n.2 in
    let s = bind_ok (of_len m.0 bytes m.0) (λ end. with_kind bytes p.0 n.0 end) r m.2 in
    let k = bind_ok (kind_of a) (λ kind. Ok (request.SetEvent kind p.0 (record { start = 6; end = s.0 }) n.0)) r s.2 in
    let few = guard_ok (leb (int_at 0 rest) 64) error.IllegalArgument (int_at 0 rest) n.0 n.1 in
    let all = of_len_ok m.0 bytes m.0 s.0 s.1 in
    event_is a b n.0 m.0 s.0 rest k.0 p.0 r fits (leb-true 6 (length bytes) l.0) p.1 (leb-true (int_at 0 rest) 64 few.0) few.1 m.1 all.0 all.1 k.1 k.2

found : (l : Layout) (bytes : List ℕ) (r : Request) → IsBytes bytes → read_as l bytes ≡ Ok r → Spells l bytes r
found (no_fields s) bytes r fits e =
    let g = of_len_ok 0 bytes s r e in
    (nil_from_length bytes g.0, sym g.1)
found (of_id s) bytes r fits e = found_id s bytes r fits e
found (of_two_ids s) bytes r fits e = found_two_ids s bytes r fits e
found (of_part s) bytes r fits e = found_part s bytes r fits e
found of_signature bytes r fits e = found_signature bytes r fits e
found of_objects bytes r fits e = found_objects bytes r fits e
found of_event bytes r fits e = found_event bytes r fits e
found of_clear bytes r fits e = found_clear bytes r fits e
found of_slots bytes r fits e = found_values bytes r fits e

found_served : (o : Option Layout) (bytes : List ℕ) (r : Request) → IsBytes bytes → read_if_served o bytes ≡ Ok r → (l : Layout) × (o ≡ Some l) × Spells l bytes r
found_served None bytes r fits e = absurd cc
found_served (Some l) bytes r fits e = (l, refl, found l bytes r fits e)

pub is_found : (set command : ℕ) (bytes : List ℕ) (q : Result Request JdwpError) → IsBytes bytes → q ≡ request_in set command bytes → IfOk q (λ r. IsRequest set command bytes r)
is_found set command bytes (Ok r) fits e = found_served (layout_of set command) bytes r fits (sym e)
is_found set command bytes (Err d) fits e = tt
