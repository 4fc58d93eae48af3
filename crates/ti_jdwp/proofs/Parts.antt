-- Parts of bytes that are read as numbers, and the steps of a reading that did not fail.
use Rattle.std.proofs.Common.{◌≡◌, ℕ, ◌+◌, ◌^◌, ◌<◌, ◌≤◌, Bool, true, false, cond, eqb, ltb, leb, ◌&&◌, List, ◌++◌, length, take, drop, Result, Ok, Err, refl, sym, ap, ◌∙◌, append_assoc, arith, length-drop, length-append}
use Rattle.std.specs.Int.{w32, w64, to_be_bytes, from_be_bytes}
use Rattle.std.proofs.lemmas.Bool.{eqb-true, le-leb, lt-ltb, and_from}
use Rattle.std.proofs.lemmas.List.{length-take, take-append-drop, nil_from_length, append-nil}
use Rattle.std.proofs.lemmas.Nat.{be_bytes_4, be_bytes_8, from_be_bytes-to_be_bytes_4, from_be_bytes-to_be_bytes_8}
use Rattle.ti_jdwp.specs.declared.error.JdwpError.{JdwpError}
use Rattle.ti_jdwp.specs.declared.error.JdwpError.TheVariants as error
use Rattle.ti_jdwp.specs.Fields.{◌>>=◌, int, long, text, int_at, long_at}
use Rattle.ti_jdwp.specs.Modifiers.{within, text_len}
use Rattle.ti_jdwp.specs.Requests.{of_len}
use Rattle.ti_jdwp.proofs.Bytes.{IsBytes, IsBytes-take, IsBytes-drop}

-- ---- steps

pub bind_ok : {A B : Type 0} (r : Result A JdwpError) (f : A → Result B JdwpError) (y : B) → (r >>= f) ≡ Ok y → (x : A) × (r ≡ Ok x) × (f x ≡ Ok y)
bind_ok (Ok x) f y e = (x, refl, e)
bind_ok (Err d) f y e = absurd cc

pub guard_ok : {A : Type 0} (b : Bool) (d : JdwpError) (x y : A) → cond b (Ok x) (Err d) ≡ Ok y → (b ≡ true) × (x ≡ y)
guard_ok true d x y e = (refl, cc)
guard_ok false d x y e = absurd cc

-- a reading that a test lets through
pub let_through : {A : Type 0} (b : Bool) (d : JdwpError) (r : Result A JdwpError) (y : A) → cond b r (Err d) ≡ Ok y → (b ≡ true) × (r ≡ Ok y)
let_through true d r y e = (refl, e)
let_through false d r y e = absurd cc

pub of_len_ok : {X : Type 0} (n : ℕ) (bytes : List ℕ) (x y : X) → of_len n bytes x ≡ Ok y → (length bytes ≡ n) × (x ≡ y)
of_len_ok n bytes x y e =
    let g = guard_ok (eqb (length bytes) n) _ x y e in
    (eqb-true (length bytes) n g.0, g.1)

-- ---- numbers

-- a number at the front, and the rest
pub record Front (bytes number rest : List ℕ) : Type 0 where
  pub parts : bytes ≡ number ++ rest
  pub rest_fits : IsBytes rest

pub long_front : (bytes : List ℕ) → 8 ≤ length bytes → IsBytes bytes → Front bytes (long (long_at 0 bytes)) (drop 8 bytes) × (long_at 0 bytes < 2 ^ 64)
unfolding long
long_front bytes many fits =
    let few = IsBytes-take 8 bytes fits in
    let front : to_be_bytes w64 (from_be_bytes w64 (take 8 bytes)) ≡ take 8 bytes = be_bytes_8 (take 8 bytes) _ (omega (arith, length-take 8 bytes)) few refl in
    (record { parts = sym (ap (λ (t : List ℕ). t ++ drop 8 bytes) front ∙ take-append-drop 8 bytes); rest_fits = IsBytes-drop 8 bytes fits }, omega (arith, few 0, few 1, few 2, few 3, few 4, few 5, few 6, few 7))

pub int_front : (bytes : List ℕ) → 4 ≤ length bytes → IsBytes bytes → Front bytes (int (int_at 0 bytes)) (drop 4 bytes) × (int_at 0 bytes < 2 ^ 32)
unfolding int
int_front bytes many fits =
    let few = IsBytes-take 4 bytes fits in
    let front : to_be_bytes w32 (from_be_bytes w32 (take 4 bytes)) ≡ take 4 bytes = be_bytes_4 (take 4 bytes) _ (omega (arith, length-take 4 bytes)) few refl in
    (record { parts = sym (ap (λ (t : List ℕ). t ++ drop 4 bytes) front ∙ take-append-drop 4 bytes); rest_fits = IsBytes-drop 4 bytes fits }, omega (arith, few 0, few 1, few 2, few 3))

-- two parts, one after the other, and three
pub parts_2 : (bytes a b rest : List ℕ) → bytes ≡ a ++ rest → rest ≡ b → bytes ≡ a ++ b
parts_2 bytes a b rest first second = first ∙ ap (λ (t : List ℕ). a ++ t) second

pub ended : (n : ℕ) (bytes front : List ℕ) → length bytes ≤ n → bytes ≡ front ++ drop n bytes → bytes ≡ front
ended n bytes front all parts = parts ∙ ap (λ (t : List ℕ). front ++ t) (nil_from_length (drop n bytes) (omega (arith, length-drop n bytes))) ∙ append-nil front

-- ---- the other way

-- a test that holds
pub taken : {A : Type 0} (b : Bool) (x y : A) → b ≡ true → cond b x y ≡ x
taken b x y e = ap (λ (t : Bool). cond t x y) e

pub then_ok : {A B : Type 0} (r : Result A JdwpError) (x : A) (f : A → Result B JdwpError) → r ≡ Ok x → (r >>= f) ≡ f x
then_ok r x f e = ap (λ (q : Result _ JdwpError). q >>= f) e

pub long_again : (n : ℕ) (rest : List ℕ) → n < 2 ^ 64 → long_at 0 (long n ++ rest) ≡ n
unfolding long
long_again n rest fits = from_be_bytes-to_be_bytes_8 n fits

pub int_again : (n : ℕ) (rest : List ℕ) → n < 2 ^ 32 → int_at 0 (int n ++ rest) ≡ n
unfolding int
int_again n rest fits = from_be_bytes-to_be_bytes_4 n fits

pub int_len : (n : ℕ) → length (int n) ≡ 4
unfolding int
int_len n = refl

pub long_len : (n : ℕ) → length (long n) ≡ 8
unfolding long
long_len n = refl

pub text_len_again : (t rest : List ℕ) → length t < 2 ^ 31 → text_len (text t ++ rest) ≡ Ok (4 + length t)
text_len_again t rest short =
    let bytes : List ℕ = int (length t) ++ t ++ rest in
    let len : length bytes ≡ 4 + length t + length rest = omega (arith, length-append (int (length t) ++ t) rest, length-append (int (length t)) t, int_len (length t)) in
    let n : int_at 0 bytes ≡ length t = ap (λ (b : List ℕ). int_at 0 b) (append_assoc (int (length t)) t rest) ∙ int_again (length t) (t ++ rest) (omega arith) in
    let tests : (leb 4 (length bytes) && ltb (int_at 0 bytes) (2 ^ 31)) ≡ true = and_from _ _ (le-leb 4 (length bytes) (omega arith)) (lt-ltb (int_at 0 bytes) (2 ^ 31) (omega arith)) in
    let all : leb (4 + int_at 0 bytes) (length bytes) ≡ true = le-leb _ _ (omega arith) in
    taken _ (within (4 + int_at 0 bytes) bytes) (Err error.IllegalArgument) tests
    ∙ taken _ (Ok (4 + int_at 0 bytes)) (Err error.IllegalArgument) all
    ∙ ap (λ (m : ℕ). Ok (4 + m)) n
