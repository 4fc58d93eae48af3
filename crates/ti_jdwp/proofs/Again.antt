-- What is spelled so is read.
use Rattle.std.proofs.Common.{◌≡◌, ℕ, ℤ, ◌+◌, ◌*◌, ◌^◌, ◌<◌, ◌≤◌, cond, eqb, leb, List, [], ◌∷◌, ◌++◌, length, get_or, drop, Result, Ok, Err, Option, refl, sym, ap, subst, ◌∙◌, arith, length-append, append_assoc}
use Rattle.std.specs.Int.{w32, cast_signed}
use Rattle.std.proofs.lemmas.Bool.{eq-eqb, le-leb, and_from}
use Rattle.std.proofs.lemmas.List.{append-nil, drop_at, drop-drop}
use Rattle.std.proofs.lemmas.Nat.{from_be_bytes-to_be_bytes_4, from_be_bytes-to_be_bytes_8}
use Rattle.ti_jdwp.specs.declared.error.JdwpError.{JdwpError}
use Rattle.ti_jdwp.specs.declared.error.JdwpError.TheVariants as error
use Rattle.ti_jdwp.specs.declared.request.EventKind.{EventKind}
use Rattle.ti_jdwp.specs.declared.request.EventKind.TheVariants as kind
use Rattle.ti_jdwp.specs.declared.request.Policy.{Policy}
use Rattle.ti_jdwp.specs.declared.request.Policy.TheVariants as policy
use Rattle.ti_jdwp.specs.declared.request.Request.{Request}
use Rattle.ti_jdwp.specs.declared.request.Request.TheVariants as request
use Rattle.ti_jdwp.specs.Fields.{◌>>=◌, int, long, text, int_at, long_at}
use Rattle.ti_jdwp.specs.Events.{kind_of, kind_number, policy_of, policy_number}
use Rattle.ti_jdwp.specs.Modifiers.{text_len, modifiers_end}
use Rattle.ti_jdwp.specs.Patterns.{AreModifiers}
use Rattle.ti_jdwp.specs.Commands.{Layout, no_fields, of_id, of_two_ids, of_part, of_signature, of_objects, of_event, of_clear, of_slots}
use Rattle.ti_jdwp.specs.Requests.{of_len, read_as, read_if_served, request_in}
use Rattle.ti_jdwp.proofs.Parts.{taken, then_ok, int_again, long_again, int_len, long_len, text_len_again}
use Rattle.ti_jdwp.proofs.Unpatterned.{ends_again}
use Rattle.ti_jdwp.specs.Spelled.{Spells, IsRequest}

again_id : (s : ℕ → Request) (id : ℕ) → id < 2 ^ 64 → read_as (of_id s) (long id) ≡ Ok (s id)
unfolding long
again_id s id fits = ap (λ (n : ℕ). Ok (s n)) (from_be_bytes-to_be_bytes_8 id fits)

again_two_ids : (s : ℕ → ℕ → Request) (first second : ℕ) → first < 2 ^ 64 → second < 2 ^ 64 → read_as (of_two_ids s) (long first ++ long second) ≡ Ok (s first second)
unfolding long
again_two_ids s first second a b =
    ap (λ (n : ℕ). Ok (s n (long_at 8 (long first ++ long second)))) (from_be_bytes-to_be_bytes_8 first a)
    ∙ ap (λ (n : ℕ). Ok (s first n)) (from_be_bytes-to_be_bytes_8 second b)

again_part : (r : ℕ → ℤ → ℤ → Request) (thread start len : ℕ) → thread < 2 ^ 64 → start < 2 ^ 32 → len < 2 ^ 32 → read_as (of_part r) (long thread ++ int start ++ int len) ≡ Ok (r thread (cast_signed w32 start) (cast_signed w32 len))
unfolding long int
again_part r thread start len t s l =
    ap (λ (n : ℕ). Ok (r n (cast_signed w32 (int_at 8 (long thread ++ int start ++ int len))) (cast_signed w32 (int_at 12 (long thread ++ int start ++ int len))))) (from_be_bytes-to_be_bytes_8 thread t)
    ∙ ap (λ (n : ℕ). Ok (r thread (cast_signed w32 n) (cast_signed w32 (int_at 12 (long thread ++ int start ++ int len))))) (from_be_bytes-to_be_bytes_4 start s)
    ∙ ap (λ (n : ℕ). Ok (r thread (cast_signed w32 start) (cast_signed w32 n))) (from_be_bytes-to_be_bytes_4 len l)

again_clear : (kind number : ℕ) → number < 2 ^ 32 → read_as of_clear (kind ∷ int number) ≡ Ok (request.ClearEvent kind (cast_signed w32 number))
unfolding int
again_clear kind number fits = ap (λ (n : ℕ). Ok (request.ClearEvent kind (cast_signed w32 n))) (from_be_bytes-to_be_bytes_4 number fits)

of_len_again : {X : Type 0} (n : ℕ) (bytes : List ℕ) (x : X) → length bytes ≡ n → of_len n bytes x ≡ Ok x
of_len_again n bytes x e = taken (eqb (length bytes) n) (Ok x) (Err error.IllegalArgument) (eq-eqb _ _ e)

again_signature : (bytes t : List ℕ) → length t < 2 ^ 31 → bytes ≡ text t → read_as of_signature bytes ≡ Ok (request.ClassesBySignature (record { start = 4; end = length bytes }))
again_signature bytes t short e =
    let len : length bytes ≡ 4 + length t = ap (λ (b : List ℕ). length b) e ∙ length-append (int (length t)) t ∙ ap (λ (n : ℕ). n + length t) (int_len (length t)) in
    let read : text_len bytes ≡ Ok (4 + length t) = ap text_len (e ∙ sym (append-nil (text t))) ∙ text_len_again t [] short in
    then_ok (text_len bytes) (4 + length t) (λ len. of_len len bytes (request.ClassesBySignature (record { start = 4; end = length bytes }))) read
    ∙ of_len_again (4 + length t) bytes (request.ClassesBySignature (record { start = 4; end = length bytes })) len

again_objects : (bytes rest : List ℕ) (n : ℕ) → n < 2 ^ 32 → bytes ≡ int n ++ rest → length rest ≡ 12 * n → read_as of_objects bytes ≡ Ok (request.DisposeObjects (record { start = 4; end = length bytes }))
again_objects bytes rest n fits e many =
    let len : length bytes ≡ 4 + length rest = ap (λ (b : List ℕ). length b) e ∙ length-append (int n) rest ∙ ap (λ (m : ℕ). m + length rest) (int_len n) in
    let is : int_at 0 bytes ≡ n = ap (λ (b : List ℕ). int_at 0 b) e ∙ int_again n rest fits in
    taken _ (Ok (request.DisposeObjects (record { start = 4; end = length bytes }))) (Err error.IllegalArgument) (and_from _ _ (le-leb 4 (length bytes) (omega arith)) (eq-eqb (length bytes) (4 + 12 * int_at 0 bytes) (omega arith)))

again_values : (bytes rest : List ℕ) (thread frame n : ℕ) → thread < 2 ^ 64 → frame < 2 ^ 64 → n ≤ 4096 → bytes ≡ long thread ++ long frame ++ int n ++ rest → length rest ≡ 5 * n
    → read_as of_slots bytes ≡ Ok (request.FrameValues thread frame (record { start = 20; end = length bytes }))
again_values bytes rest thread frame n t f few e many =
    let flat : bytes ≡ long thread ++ (long frame ++ (int n ++ rest)) = e ∙ append_assoc (long thread ++ long frame) (int n) rest ∙ append_assoc (long thread) (long frame) (int n ++ rest) in
    let len : length bytes ≡ 20 + 5 * n =
    ap (λ (b : List ℕ). length b) flat ∙ omega (arith, length-append (long thread) (long frame ++ (int n ++ rest)), length-append (long frame) (int n ++ rest), length-append (int n) rest, long_len thread, long_len frame, int_len n, many) in
    let first : long_at 0 bytes ≡ thread = ap (λ (b : List ℕ). long_at 0 b) flat ∙ long_again thread (long frame ++ (int n ++ rest)) t in
    let eight : drop 8 bytes ≡ long frame ++ (int n ++ rest) = ap (λ (b : List ℕ). drop 8 b) flat ∙ drop_at (long thread) (long frame ++ (int n ++ rest)) 8 (long_len thread) in
    let second : long_at 8 bytes ≡ frame = ap (λ (b : List ℕ). long_at 0 b) eight ∙ long_again frame (int n ++ rest) f in
    let sixteen : drop 16 bytes ≡ int n ++ rest = sym (drop-drop 8 8 bytes) ∙ ap (λ (b : List ℕ). drop 8 b) eight ∙ drop_at (long frame) (int n ++ rest) 8 (long_len frame) in
    let third : int_at 16 bytes ≡ n = ap (λ (b : List ℕ). int_at 0 b) sixteen ∙ int_again n rest (omega arith) in
    let asked : Request = request.FrameValues (long_at 0 bytes) (long_at 8 bytes) (record { start = 20; end = length bytes }) in
    taken _ (Ok asked) (Err error.IllegalArgument) (and_from _ _ (and_from _ _ (le-leb 20 (length bytes) (omega arith)) (le-leb (int_at 16 bytes) 4096 (omega arith))) (eq-eqb (length bytes) (20 + 5 * int_at 16 bytes) (omega arith)))
    ∙ ap (λ (m : ℕ). Ok (request.FrameValues m (long_at 8 bytes) (record { start = 20; end = length bytes }))) first
    ∙ ap (λ (m : ℕ). Ok (request.FrameValues thread m (record { start = 20; end = length bytes }))) second

policy_again : (p : Policy) → policy_of (policy_number p) ≡ Ok p
policy_again policy.None = refl
policy_again policy.EventThread = refl
policy_again policy.All = refl

kind_again : (k : EventKind) → kind_of (kind_number k) ≡ Ok k
kind_again kind.SingleStep = refl
kind_again kind.Breakpoint = refl
kind_again kind.ThreadStart = refl
kind_again kind.ThreadDeath = refl
kind_again kind.ClassPrepare = refl
kind_again kind.ClassUnload = refl
kind_again kind.VmStart = refl
kind_again kind.VmDeath = refl

abbrev with_kind : ℕ → Policy → ℕ → ℕ → Result Request JdwpError
with_kind k p count end = kind_of k >>= λ kind. Ok (request.SetEvent kind p (record { start = 6; end = end }) count)

abbrev with_count : List ℕ → ℕ → Policy → ℕ → Result Request JdwpError
with_count bytes k p count = modifiers_end count 6 bytes >>= λ end. of_len end bytes end >>= λ end. with_kind k p count end

abbrev with_policy : List ℕ → ℕ → ℕ → Policy → Result Request JdwpError
with_policy bytes k count p = cond (leb count 64) (Ok count) (Err error.IllegalArgument) >>= λ count. with_count bytes k p count

abbrev event_of : List ℕ → ℕ → ℕ → ℕ → Result Request JdwpError
event_of bytes k p count = cond (leb 6 (length bytes)) (policy_of p >>= λ p. with_policy bytes k count p) (Err error.IllegalArgument)

again_event : (bytes : List ℕ) (k : EventKind) (p : Policy) (count : ℕ) → 6 ≤ length bytes → count ≤ 64 → modifiers_end count 6 bytes ≡ Ok (length bytes)
    → event_of bytes (kind_number k) (policy_number p) count ≡ Ok (request.SetEvent k p (record { start = 6; end = length bytes }) count)
again_event bytes k p count many few walked =
    taken (leb 6 (length bytes)) _ (Err error.IllegalArgument) (le-leb 6 (length bytes) many)
    ∙ then_ok (policy_of (policy_number p)) p (λ q. with_policy bytes (kind_number k) count q) (policy_again p)
    ∙ then_ok (cond (leb count 64) (Ok count) (Err error.IllegalArgument)) count (λ c. with_count bytes (kind_number k) p c) (taken (leb count 64) (Ok count) (Err error.IllegalArgument) (le-leb count 64 few))
    ∙ then_ok (modifiers_end count 6 bytes) (length bytes) (λ end. of_len end bytes end >>= λ end. with_kind (kind_number k) p count end) walked
    ∙ then_ok (of_len (length bytes) bytes (length bytes)) (length bytes) (λ end. with_kind (kind_number k) p count end) (of_len_again (length bytes) bytes (length bytes) refl)
    ∙ then_ok (kind_of (kind_number k)) k (λ kind. Ok (request.SetEvent kind p (record { start = 6; end = length bytes }) count)) (kind_again k)

again_event_spelled : (bytes rest : List ℕ) (k : EventKind) (p : Policy) (count : ℕ) → bytes ≡ kind_number k ∷ policy_number p ∷ (int count ++ rest) → count ≤ 64 → AreModifiers count 6 rest
    → read_as of_event bytes ≡ Ok (request.SetEvent k p (record { start = 6; end = length bytes }) count)
again_event_spelled bytes rest k p count e few are =
    let len : length bytes ≡ 6 + length rest = ap (λ (b : List ℕ). length b) e ∙ omega (arith, length-append (int count) rest, int_len count) in
    let n : int_at 2 bytes ≡ count = ap (λ (b : List ℕ). int_at 2 b) e ∙ int_again count rest (omega arith) in
    let first : get_or bytes 0 0 ≡ kind_number k = ap (λ (b : List ℕ). get_or b 0 0) e in
    let second : get_or bytes 1 0 ≡ policy_number p = ap (λ (b : List ℕ). get_or b 1 0) e in
    let behind : drop 6 bytes ≡ rest = ap (λ (b : List ℕ). drop 6 b) e ∙ drop_at (int count) rest 4 (int_len count) in
    let walked : modifiers_end count 6 bytes ≡ Ok (length bytes) = ends_again count 6 bytes (omega arith) (subst (λ (t : List ℕ). AreModifiers count 6 t) (sym behind) are) in
    ap (λ (c : ℕ). event_of bytes (get_or bytes 0 0) (get_or bytes 1 0) c) n
    ∙ ap (λ (c : ℕ). event_of bytes c (get_or bytes 1 0) count) first
    ∙ ap (λ (c : ℕ). event_of bytes (kind_number k) c count) second
    ∙ again_event bytes k p count (omega arith) few walked

again : (l : Layout) (bytes : List ℕ) (r : Request) → Spells l bytes r → read_as l bytes ≡ Ok r
again (no_fields s) bytes r h = ap (λ (b : List ℕ). of_len 0 b s) h.0 ∙ ap (λ (q : Request). Ok q) (sym h.1)
again (of_id s) bytes r h = ap (λ (b : List ℕ). read_as (of_id s) b) h.2 ∙ again_id s h.0 h.1 ∙ ap (λ (q : Request). Ok q) (sym h.3)
again (of_two_ids s) bytes r h = ap (λ (b : List ℕ). read_as (of_two_ids s) b) h.4 ∙ again_two_ids s h.0 h.1 h.2 h.3 ∙ ap (λ (q : Request). Ok q) (sym h.5)
again (of_part s) bytes r h = ap (λ (b : List ℕ). read_as (of_part s) b) h.6 ∙ again_part s h.0 h.1 h.2 h.3 h.4 h.5 ∙ ap (λ (q : Request). Ok q) (sym h.7)
again of_signature bytes r h = again_signature bytes h.0 h.1 h.2 ∙ ap (λ (q : Request). Ok q) (sym h.3)
again of_objects bytes r h = again_objects bytes h.1 h.0 h.2 h.3 h.4 ∙ ap (λ (q : Request). Ok q) (sym h.5)
again of_event bytes r h = again_event_spelled bytes h.3 h.0 h.1 h.2 h.5 h.4 h.6 ∙ ap (λ (q : Request). Ok q) (sym h.7)
again of_clear bytes r h = ap (λ (b : List ℕ). read_as of_clear b) h.3 ∙ again_clear h.0 h.1 h.2 ∙ ap (λ (q : Request). Ok q) (sym h.4)
again of_slots bytes r h = again_values bytes h.3 h.0 h.1 h.2 h.4 h.5 h.6 h.7 h.8 ∙ ap (λ (q : Request). Ok q) (sym h.9)

pub is_read : (set command : ℕ) (bytes : List ℕ) (q : Result Request JdwpError) → q ≡ request_in set command bytes → (r : Request) → IsRequest set command bytes r → q ≡ Ok r
is_read set command bytes q e r h = e ∙ ap (λ (o : Option Layout). read_if_served o bytes) h.1 ∙ again h.0 bytes r h.2
