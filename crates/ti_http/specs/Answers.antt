-- The bytes of an answer: its status, its fields, and its body.
use Rattle.std.specs.Prelude.{ℕ, Bool, List, [], ◌∷◌, ◌++◌, length, codes, decimal, if◌then◌else◌}
use Rattle.http1.specs.Fields.{Header}
use Rattle.http1.specs.Head.{response_text}
use Rattle.ti_http.specs.declared.answers.ContentType.{ContentType}
use Rattle.ti_http.specs.declared.answers.ContentType.TheVariants as content
use Rattle.ti_http.specs.declared.answers.Manner.{Manner}
use Rattle.ti_http.specs.declared.error.HttpError.{HttpError}
use Rattle.ti_http.specs.declared.error.HttpError.TheVariants as error
use Rattle.ti_http.specs.declared.status.Status.{Status}
use Rattle.ti_http.specs.declared.status.Status.TheVariants as status

-- JVM TI's numbers
abbrev pub number_of : HttpError → ℕ
number_of error.OutOfMemory = 110
number_of error.NotAsked = 112

abbrev pub code_of : Status → ℕ
code_of status.Ok = 200
code_of status.BadRequest = 400
code_of status.Forbidden = 403
code_of status.NotFound = 404
code_of status.MethodNotAllowed = 405
code_of status.RequestTimeout = 408
code_of status.ContentTooLarge = 413
code_of status.UriTooLong = 414
code_of status.MisdirectedRequest = 421
code_of status.HeaderFieldsTooLarge = 431
code_of status.InternalServerError = 500
code_of status.NotImplemented = 501
code_of (status.ServiceUnavailable seconds) = 503
code_of status.VersionNotSupported = 505

-- RFC 9110, section 15, and RFC 6585, section 5
abbrev pub reason_of : Status → List ℕ
reason_of status.Ok = codes "OK"
reason_of status.BadRequest = codes "Bad Request"
reason_of status.Forbidden = codes "Forbidden"
reason_of status.NotFound = codes "Not Found"
reason_of status.MethodNotAllowed = codes "Method Not Allowed"
reason_of status.RequestTimeout = codes "Request Timeout"
reason_of status.ContentTooLarge = codes "Content Too Large"
reason_of status.UriTooLong = codes "URI Too Long"
reason_of status.MisdirectedRequest = codes "Misdirected Request"
reason_of status.HeaderFieldsTooLarge = codes "Request Header Fields Too Large"
reason_of status.InternalServerError = codes "Internal Server Error"
reason_of status.NotImplemented = codes "Not Implemented"
reason_of (status.ServiceUnavailable seconds) = codes "Service Unavailable"
reason_of status.VersionNotSupported = codes "HTTP Version Not Supported"

abbrev pub type_of : ContentType → List ℕ
type_of content.Text = codes "text/plain; charset=utf-8"
type_of content.Json = codes "application/json"
type_of content.Metrics = codes "text/plain; version=0.0.4; charset=utf-8"
type_of content.Octets = codes "application/octet-stream"

abbrev pub option_of : Bool → List ℕ
option_of keeps = if keeps then codes "keep-alive" else codes "close"

-- with this field `go tool pprof` shows an error's text
abbrev pub pprof_field : Header
pprof_field = (codes "X-Go-Pprof", codes "1")

-- the fields that a status has of its own
abbrev pub own_fields : Status → List Header
own_fields status.Ok = []
own_fields status.BadRequest = pprof_field ∷ []
own_fields status.Forbidden = pprof_field ∷ []
own_fields status.NotFound = pprof_field ∷ []
own_fields status.MethodNotAllowed = pprof_field ∷ (codes "Allow", codes "GET, HEAD") ∷ []
own_fields status.RequestTimeout = pprof_field ∷ []
own_fields status.ContentTooLarge = pprof_field ∷ []
own_fields status.UriTooLong = pprof_field ∷ []
own_fields status.MisdirectedRequest = pprof_field ∷ []
own_fields status.HeaderFieldsTooLarge = pprof_field ∷ []
own_fields status.InternalServerError = pprof_field ∷ []
own_fields status.NotImplemented = pprof_field ∷ []
own_fields (status.ServiceUnavailable seconds) = pprof_field ∷ (codes "Retry-After", decimal seconds) ∷ []
own_fields status.VersionNotSupported = pprof_field ∷ []

-- the fields that each answer has
abbrev pub with_values : List ℕ → List ℕ → List ℕ → List Header
with_values type len connection =
    (codes "Content-Type", type)
    ∷ (codes "Content-Length", len)
    ∷ (codes "X-Content-Type-Options", codes "nosniff")
    ∷ (codes "Cache-Control", codes "no-store")
    ∷ (codes "Connection", connection)
    ∷ []

-- the same of an answer whose content has this many bytes
abbrev pub common_fields : ContentType → ℕ → Bool → List Header
common_fields type len keeps = with_values (type_of type) (decimal len) (option_of keeps)

abbrev pub head_text : Status → ContentType → ℕ → Bool → List ℕ
head_text s type len keeps = response_text 1 (code_of s) (reason_of s) (common_fields type len keeps ++ own_fields s)

-- a whole answer: after `HEAD` its head alone, which states the length that the body would have
abbrev pub answer_text : Status → ContentType → Manner → List ℕ → List ℕ
answer_text s type manner body = head_text s type (length body) manner.keeps ++ (if manner.head_only then [] else body)
