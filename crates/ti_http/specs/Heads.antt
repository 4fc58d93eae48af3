-- What an input begins with.
use Rattle.std.specs.Prelude.{◌≡◌, ℕ, ◌<◌, ◌≤◌, ◌⊎◌, Bool, true, false, not, ◌&&◌, List, map, length, drop, Option, Some, None, Result, Ok, Err, ◌==◌, codes, bytes_eq}
use Rattle.httparse.specs.declared.Error.TheVariants as parser
use Rattle.httparse.specs.Grammar.{RequestHead, HasNoRequest, MayBecomeRequest}
use Rattle.httparse.specs.Spans.{name_and_value, RequestOverflows, RequestExceeds}
use Rattle.http1.specs.declared.conn.Limits.{Limits}
use Rattle.http1.specs.declared.error.ReadError.{ReadError}
use Rattle.http1.specs.declared.error.ReadError.TheVariants as read
use Rattle.http1.specs.declared.framing.Framing.{Framing}
use Rattle.http1.specs.declared.framing.Framing.TheVariants as framed
use Rattle.http1.specs.Fields.{Header, known_fields}
use Rattle.http1.specs.Message.{AcceptsRequest}
use Rattle.http1.specs.ReadError.{HasRequest, RequestError}
use Rattle.ti_http.specs.declared.answers.Manner.{Manner}
use Rattle.ti_http.specs.declared.head.Request.{Request}
use Rattle.ti_http.specs.declared.head.Seen.{Seen}
use Rattle.ti_http.specs.declared.head.Seen.TheVariants as seen
use Rattle.ti_http.specs.declared.head.Whole.{Whole}
use Rattle.ti_http.specs.declared.hosts.Hosts.{Hosts}
use Rattle.ti_http.specs.declared.refusals.Refusal.{Refusal}
use Rattle.ti_http.specs.Refusals.{method_of, refusal_in, refusal_of}
use Rattle.ti_http.specs.Targets.{target_of}

-- the bounds on a head; there are no bodies, so the other two never count
abbrev pub limits : Limits
limits = record { max_head_len = 8192; max_extensions_len = 0; max_trailers_len = 2 }

-- what is asked for if nothing refuses it, or why it is refused
abbrev pub Judges : Option Refusal → List ℕ → List ℕ → Result Request Refusal → Type 0
Judges refused name target (Ok request) = (refused ≡ None) × (method_of name ≡ Ok request.method) × (target_of target ≡ Ok request.target)
Judges refused name target (Err r) = refused ≡ Some r

-- HTTP/1.1 stays open unless told to close, and HTTP/1.0 does not; after `HEAD` comes no body
abbrev pub manner_at : List ℕ → ℕ → List Header → Manner
manner_at name minor fields = record {
  keeps = (minor == 1) && not ((known_fields fields).close);
  head_only = bytes_eq name (codes "HEAD");
}

-- the names and the values of a head's fields
abbrev pub fields_of : RequestHead → List Header
fields_of h = map name_and_value h.fields

-- the framing lets content follow the head
abbrev pub has_content : Framing → Bool
has_content framed.NoBody = false
has_content (framed.Length n) = not (n == 0)
has_content framed.Chunked = true
has_content framed.UntilClose = true

-- the input begins with this head, and this is made of it
pub record IsWhole (hosts : Hosts) (input : List ℕ) (w : Whole) : Type 0 where
  pub head : RequestHead
  pub framing : Framing
  pub accepts : AcceptsRequest limits input head framing (drop w.len input)
  pub some : 0 < w.len
  pub within : w.len ≤ length input
  pub manner : w.manner ≡ manner_at head.method head.minor (fields_of head)
  pub outcome : Judges (refusal_in hosts head.method head.target (has_content framing) (fields_of head)) head.method head.target w.outcome

-- A front of the input and an empty line are a head of more than 64 fields. Or the input begins with a head, or has 8,192 bytes,
-- and each head that bytes behind it can make of it has more than 64 fields.
abbrev pub HasTooManyFields : List ℕ → Type 0
HasTooManyFields input = RequestExceeds 64 input ⊎ (RequestOverflows 64 input × (HasRequest input (λ h. Unit {0}) ⊎ (8192 ≤ length input)))

-- The input is no head for this reason. Where that is the number of fields, there are too many.
abbrev pub IsNoHead : List ℕ → ReadError → Type 0
IsNoHead input e = RequestError 8192 input 64 e × (e ≡ read.Parse parser.TooManyHeaders → HasTooManyFields input)

-- Bytes may follow that make a head of the input; or no bytes can, for this reason; or it begins with one.
abbrev pub Sees : Hosts → List ℕ → Seen → Type 0
Sees hosts input seen.More = HasNoRequest input × (length input < 8192) × MayBecomeRequest input
Sees hosts input (seen.Broken r) = (e : ReadError) × IsNoHead input e × (r ≡ refusal_of input e)
Sees hosts input (seen.Whole w) = IsWhole hosts input w
