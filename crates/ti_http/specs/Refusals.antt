-- What is refused, with which status, and in which order.
use Rattle.std.specs.Prelude.{ℕ, Bool, true, false, not, ◌&&◌, List, [], ◌∷◌, length, take, slice_index, Option, Some, None, Result, Ok, Err, if◌then◌else◌, nat_lt, ◌==◌, codes, bytes_eq}
use Rattle.std.specs.Char.{is_ascii_digit}
use Rattle.httparse.specs.declared.Error.{Error}
use Rattle.httparse.specs.declared.Error.TheVariants as parser
use Rattle.http1.specs.declared.error.ReadError.{ReadError}
use Rattle.http1.specs.declared.error.ReadError.TheVariants as read
use Rattle.http1.specs.Fields.{Header}
use Rattle.ti_http.specs.declared.head.Method.{Method}
use Rattle.ti_http.specs.declared.head.Method.TheVariants as method
use Rattle.ti_http.specs.declared.hosts.Hosts.{Hosts}
use Rattle.ti_http.specs.declared.refusals.Refusal.{Refusal}
use Rattle.ti_http.specs.declared.refusals.Refusal.TheVariants as refusal
use Rattle.ti_http.specs.declared.status.Status.{Status}
use Rattle.ti_http.specs.declared.status.Status.TheVariants as status
use Rattle.ti_http.specs.Hosts.{are_served, crosses_sites}
use Rattle.ti_http.specs.Targets.{found, or_else, target_of}

abbrev pub status_of : Refusal → Status
status_of refusal.NoRequest = status.BadRequest
status_of refusal.Version = status.VersionNotSupported
status_of refusal.HeadTooLarge = status.HeaderFieldsTooLarge
status_of refusal.TargetTooLong = status.UriTooLong
status_of refusal.Late = status.RequestTimeout
status_of refusal.Body = status.ContentTooLarge
status_of refusal.Host = status.MisdirectedRequest
status_of refusal.Site = status.Forbidden
status_of refusal.Method = status.MethodNotAllowed
status_of refusal.UnknownMethod = status.NotImplemented
status_of refusal.Path = status.NotFound
status_of refusal.Query = status.BadRequest

-- the connection closes: what follows cannot be told apart from what was refused
abbrev pub closes : Refusal → Bool
closes refusal.NoRequest = true
closes refusal.Version = true
closes refusal.HeadTooLarge = true
closes refusal.TargetTooLong = true
closes refusal.Late = true
closes refusal.Body = true
closes refusal.Host = false
closes refusal.Site = false
closes refusal.Method = false
closes refusal.UnknownMethod = false
closes refusal.Path = false
closes refusal.Query = false

abbrev pub text_of : Refusal → List ℕ
text_of refusal.NoRequest = codes "this is no HTTP/1.1 request\n"
text_of refusal.Version = codes "HTTP/1.0 and HTTP/1.1 are spoken here\n"
text_of refusal.HeadTooLarge = codes "the head has more than 8192 bytes or 64 fields\n"
text_of refusal.TargetTooLong = codes "the target has more than 1024 bytes\n"
text_of refusal.Late = codes "the head took more than 5 seconds\n"
text_of refusal.Body = codes "a request has no body here\n"
text_of refusal.Host = codes "this host is not served here\n"
text_of refusal.Site = codes "no page of another site is answered here\n"
text_of refusal.Method = codes "only GET and HEAD are allowed here\n"
text_of refusal.UnknownMethod = codes "only GET and HEAD are known here\n"
text_of refusal.Path = codes "there is nothing here; / lists what there is\n"
text_of refusal.Query = codes "a parameter is unknown here, there twice or out of range\n"

-- the bytes behind the first space
abbrev pub behind_space : List ℕ → List ℕ
behind_space [] = []
behind_space (b ∷ bytes) = if b == 32 then bytes else behind_space bytes

-- `HTTP/` and a digit stand behind the second space
abbrev pub names_version : List ℕ → Bool
names_version input =
    let version = behind_space (behind_space input) in
    (nat_lt 5 (length version) && bytes_eq (take 5 version) (codes "HTTP/")) && is_ascii_digit (slice_index version 5)

abbrev pub parse_refusal : List ℕ → Error → Refusal
parse_refusal input parser.HeaderName = refusal.NoRequest
parse_refusal input parser.HeaderValue = refusal.NoRequest
parse_refusal input parser.NewLine = refusal.NoRequest
parse_refusal input parser.Status = refusal.NoRequest
parse_refusal input parser.Token = refusal.NoRequest
parse_refusal input parser.TooManyHeaders = refusal.HeadTooLarge
parse_refusal input parser.Version = if names_version input then refusal.Version else refusal.NoRequest

-- what is wrong with bytes that are no head
abbrev pub refusal_of : List ℕ → ReadError → Refusal
refusal_of input (read.Parse e) = parse_refusal input e
refusal_of input read.BareLineFeed = refusal.NoRequest
refusal_of input read.TooLarge = refusal.HeadTooLarge
refusal_of input read.UriTooLong = refusal.TargetTooLong
refusal_of input read.Host = refusal.NoRequest
refusal_of input (read.Framing e) = refusal.NoRequest
refusal_of input (read.Chunk e) = refusal.NoRequest
refusal_of input read.UnexpectedEof = refusal.NoRequest
refusal_of input read.UnexpectedResponse = refusal.NoRequest

-- methods of RFC 9110 and RFC 5789 that are not allowed here
abbrev pub known_methods : List (List ℕ × Refusal)
known_methods =
    (codes "POST", refusal.Method)
    ∷ (codes "PUT", refusal.Method)
    ∷ (codes "DELETE", refusal.Method)
    ∷ (codes "OPTIONS", refusal.Method)
    ∷ (codes "PATCH", refusal.Method)
    ∷ (codes "TRACE", refusal.Method)
    ∷ (codes "CONNECT", refusal.Method)
    ∷ []

-- `GET`, `HEAD`, or why another method is refused
abbrev pub method_of : List ℕ → Result Method Refusal
method_of name =
    if bytes_eq name (codes "GET") then Ok method.Get
    else (if bytes_eq name (codes "HEAD") then Ok method.Head
    else Err (or_else (found name known_methods) refusal.UnknownMethod))

abbrev pub when : Bool → Refusal → Option Refusal
when test r = if test then Some r else None

abbrev pub error_of : {X : Type 0} → Result X Refusal → Option Refusal
error_of (Ok x) = None
error_of (Err r) = Some r

abbrev pub first_of : List (Option Refusal) → Option Refusal
first_of [] = None
first_of (None ∷ rows) = first_of rows
first_of (Some r ∷ rows) = Some r

abbrev pub begins_with_slash : List ℕ → Bool
begins_with_slash [] = false
begins_with_slash (b ∷ bytes) = b == 47

-- why a whole head is refused: the first row that holds
abbrev pub refusal_in : Hosts → List ℕ → List ℕ → Bool → List Header → Option Refusal
refusal_in hosts name target has_body fields = first_of (
    when (nat_lt 1024 (length target)) refusal.TargetTooLong
    ∷ when has_body refusal.Body
    ∷ when (not (are_served hosts fields)) refusal.Host
    ∷ when (crosses_sites fields) refusal.Site
    ∷ error_of (method_of name)
    ∷ when (not (begins_with_slash target)) refusal.NoRequest
    ∷ error_of (target_of target)
    ∷ [])
