-- Which heads can be written, and how the digits of a number are spelled.
use Rattle.std.proofs.Common.{◌≡◌, ℕ, ◌^◌, ◌<◌, Bool, true, false, not, cond, ◌&&◌, ◌||◌, List, map, [], ◌∷◌, ◌++◌, reverse, Some, None, Result, Err, refl, sym, ap, subst, ◌∙◌, arith}
use Rattle.std.specs.Prelude.{codes, decimal}
use Rattle.std.specs.List.{list_all, list_any}
use Rattle.std.specs.Char.{is_ascii_digit, digit_value}
use Rattle.std.specs.Str.Parse.{AllDigits, digits_value}
use Rattle.std.proofs.lemmas.Bool.{and_from, and_right, cond-false, lt-leb}
use Rattle.std.proofs.lemmas.Bool.Decides.{nat_tests}
use Rattle.std.proofs.lemmas.Fmt.{decimal_is_IsNumeral}
use Rattle.std.proofs.lemmas.List.Elements.{All-head, All-weaker}
use Rattle.std.proofs.lemmas.List.Folds.{list_all-append}
use Rattle.std.proofs.lemmas.List.Sums.{AllPass-from_list_all, list_all-from_AllPass}
use Rattle.httparse.specs.Grammar.{AllPass, is_ows, is_token_byte, is_value_byte}
use Rattle.httparse.proofs.TrimLemmas.{AllPass-reverse}
use Rattle.http1.specs.declared.error.WriteError.{WriteError}
use Rattle.http1.specs.declared.error.WriteError.TheVariants.{OutOfMemory, InvalidHeader}
use Rattle.http1.specs.Output.{GivesOrRefuses}
use Rattle.http1.specs.Fields.{Header}
use Rattle.http1.specs.Head.{is_header, are_headers, is_status_line, head_refusal, starts_visible, is_trimmed_value}
use Rattle.ti_http.specs.declared.answers.ContentType.{ContentType}
use Rattle.ti_http.specs.declared.answers.ContentType.TheVariants as content
use Rattle.ti_http.specs.declared.status.Status.{Status}
use Rattle.ti_http.specs.declared.status.Status.TheVariants as status
use Rattle.ti_http.specs.Answers.{code_of, reason_of, type_of, option_of, with_values}
use Rattle.ti_http.specs.Targets.{number_to}

digit_is_visible : (c : ℕ) → is_ascii_digit c ≡ true → (not (is_ows c) ≡ true) × (is_value_byte c ≡ true)
digit_is_visible c digit = grind (arith, nat_tests)

starts_with_digit : (text : List ℕ) → AllPass is_ascii_digit text → starts_visible text ≡ true
starts_with_digit [] all = refl
starts_with_digit (c ∷ cs) all = (digit_is_visible c (All-head (λ b. is_ascii_digit b ≡ true) c cs all)).0

all_digits : (text : List ℕ) → AllDigits 10 text → list_all is_ascii_digit text ≡ true
all_digits [] all = refl
all_digits (c ∷ cs) all = and_from _ _ (is_digit c all.0) (all_digits cs all.1)
  where
    is_digit : (c : ℕ) → digit_value c < 10 → is_ascii_digit c ≡ true
    is_digit c small = grind (arith, nat_tests)

-- the digits of a number may stand in a field
decimal_may_stand : (n : ℕ) → n < 2 ^ 64 → is_trimmed_value (decimal n) ≡ true
decimal_may_stand n fits =
    let text = decimal n in
    let all = AllPass-from_list_all is_ascii_digit text (all_digits text (decimal_is_IsNumeral n fits).0.1) in
    let values = All-weaker (λ b. is_ascii_digit b ≡ true) (λ b. is_value_byte b ≡ true) (λ b digit. (digit_is_visible b digit).1) text all in
    and_from _ _ (starts_with_digit text all)
    (and_from _ _ (starts_with_digit (reverse text) (AllPass-reverse is_ascii_digit text all)) (list_all-from_AllPass is_value_byte text values))

-- a number above the most that is allowed
pub too_great : (most : ℕ) (ds : List ℕ) → most < digits_value 10 ds → None ≡ number_to most ds
too_great most ds large = sym (cond-false _ _ _ (and_right _ _ (and_right _ _ (lt-leb (digits_value 10 ds) most large))))

-- each status has a line
pub line_is_one : (s : Status) → is_status_line 1 (code_of s) (reason_of s) ≡ true
line_is_one status.Ok = refl
line_is_one status.BadRequest = refl
line_is_one status.Forbidden = refl
line_is_one status.NotFound = refl
line_is_one status.MethodNotAllowed = refl
line_is_one status.RequestTimeout = refl
line_is_one status.ContentTooLarge = refl
line_is_one status.UriTooLong = refl
line_is_one status.MisdirectedRequest = refl
line_is_one status.HeaderFieldsTooLarge = refl
line_is_one status.InternalServerError = refl
line_is_one status.NotImplemented = refl
line_is_one (status.ServiceUnavailable seconds) = refl
line_is_one status.VersionNotSupported = refl

-- fields that may stand in a head, one after another
both_stand : (a b : List Header) → are_headers a ≡ true → are_headers b ≡ true → are_headers (a ++ b) ≡ true
unfolding are_headers
both_stand a b h k = list_all-append is_header a b ∙ and_from _ _ h k

-- a head of such fields is refused only where memory lacks
pub only_memory : (s : Status) (a b : List Header) (code : ℕ) (reason : List ℕ) (spare len : ℕ) (r : Result (Unit {0}) WriteError) (e : WriteError) → code ≡ code_of s → reason ≡ reason_of s → are_headers a ≡ true → are_headers b ≡ true → GivesOrRefuses (head_refusal (is_status_line 1 code reason) (a ++ b)) spare len r → r ≡ Err e → e ≡ OutOfMemory
only_memory s a b code reason spare len r e is_code is_reason h k outcome is =
    let line : is_status_line 1 code reason ≡ true = ap (λ n. is_status_line 1 n reason) is_code ∙ ap (λ t. is_status_line 1 (code_of s) t) is_reason ∙ line_is_one s in
    let none : head_refusal (is_status_line 1 code reason) (a ++ b) ≡ None = ap (λ t. head_refusal t (a ++ b)) line ∙ ap (λ t. cond t None (Some InvalidHeader)) (both_stand a b h k) in
    let known : GivesOrRefuses {T = Unit {0}} None spare len (Err e) = subst (λ t. GivesOrRefuses {T = Unit {0}} t spare len (Err e)) none (subst (λ (q : Result (Unit {0}) WriteError). GivesOrRefuses {T = Unit {0}} (head_refusal (is_status_line 1 code reason) (a ++ b)) spare len q) is outcome) in
    known.0

pub pprof_stands : are_headers ((codes "X-Go-Pprof", codes "1") ∷ []) ≡ true
unfolding are_headers is_token_byte
pprof_stands = refl

pub allow_stands : are_headers ((codes "X-Go-Pprof", codes "1") ∷ (codes "Allow", codes "GET, HEAD") ∷ []) ≡ true
unfolding are_headers is_token_byte
allow_stands = refl

pub retry_stands : (digits : List ℕ) (n : ℕ) → n < 2 ^ 64 → digits ≡ decimal n → are_headers ((codes "X-Go-Pprof", codes "1") ∷ (codes "Retry-After", digits) ∷ []) ≡ true
unfolding are_headers is_token_byte
retry_stands digits n fits is = ap (λ t. t && true) (ap is_trimmed_value is ∙ decimal_may_stand n fits)

type_stands : (type : ContentType) → is_trimmed_value (type_of type) ≡ true
type_stands content.Text = refl
type_stands content.Json = refl
type_stands content.Metrics = refl
type_stands content.Octets = refl

option_stands : (keeps : Bool) → is_trimmed_value (option_of keeps) ≡ true
option_stands true = refl
option_stands false = refl

pub none_stand : are_headers [] ≡ true
unfolding are_headers
none_stand = refl

pub common_stand : (value digits option : List ℕ) (type : ContentType) (n : ℕ) (keeps : Bool) → n < 2 ^ 64 → value ≡ type_of type → digits ≡ decimal n → option ≡ option_of keeps → are_headers (with_values value digits option) ≡ true
unfolding are_headers is_token_byte
common_stand value digits option type n keeps fits is_value is_digits is_option =
    and_from _ _ (ap is_trimmed_value is_value ∙ type_stands type)
    (and_from _ _ (ap is_trimmed_value is_digits ∙ decimal_may_stand n fits) (ap (λ t. t && true) (ap is_trimmed_value is_option ∙ option_stands keeps)))

pub list_any-map : {X Y : Type 0} (p : Y → Bool) (f : X → Y) (xs : List X) → list_any p (map f xs) ≡ list_any (λ x. p (f x)) xs
list_any-map p f [] = refl
list_any-map p f (x ∷ xs) = ap (λ t. p (f x) || t) (list_any-map p f xs)
