-- What a target asks for.
use Rattle.std.specs.Prelude.{ℕ, ◌+◌, Bool, ◌&&◌, List, [], ◌∷◌, length, take, drop, Option, Some, None, Result, Ok, Err, if◌then◌else◌, nat_le, ◌==◌, codes, bytes_eq}
use Rattle.std.specs.List.{list_all, position_or_len, slice_split}
use Rattle.std.specs.Char.{is_ascii_digit}
use Rattle.std.specs.Str.Parse.{digits_value}
use Rattle.ti_http.specs.declared.params.Params.{Params}
use Rattle.ti_http.specs.declared.refusals.Refusal.{Refusal}
use Rattle.ti_http.specs.declared.refusals.Refusal.TheVariants as refusal
use Rattle.ti_http.specs.declared.target.Debug.{Debug}
use Rattle.ti_http.specs.declared.target.Debug.TheVariants as debugs
use Rattle.ti_http.specs.declared.target.Labels.{Labels}
use Rattle.ti_http.specs.declared.target.Labels.TheVariants as labels
use Rattle.ti_http.specs.declared.target.Route.{Route}
use Rattle.ti_http.specs.declared.target.Route.TheVariants as route
use Rattle.ti_http.specs.declared.target.Target.{Target}
use Rattle.ti_http.specs.declared.target.Target.TheVariants as target

abbrev pub is_byte : ℕ → ℕ → Bool
is_byte byte b = b == byte

-- what stands in a table beside these bytes
abbrev pub found : {X : Type 0} → List ℕ → List (List ℕ × X) → Option X
found bytes [] = None
found bytes (row ∷ rows) = if bytes_eq bytes row.0 then Some row.1 else found bytes rows

-- digits, from 1 to most
abbrev pub number_to : ℕ → List ℕ → Option ℕ
number_to most value =
    if list_all is_ascii_digit value && (nat_le 1 (digits_value 10 value) && nat_le (digits_value 10 value) most) then Some (digits_value 10 value) else None

abbrev pub labels_in : List ℕ → Option Labels
labels_in value = found value (
    (codes "none", labels.None)
    ∷ (codes "thread", labels.Thread)
    ∷ (codes "state", labels.State)
    ∷ (codes "thread,state", labels.ThreadAndState)
    ∷ [])

abbrev pub debug_in : List ℕ → Option Debug
debug_in value = found value ((codes "0", debugs.Profile) ∷ (codes "1", debugs.Groups) ∷ (codes "2", debugs.Threads) ∷ [])

-- a place takes a value once
abbrev pub once : {X : Type 0} → Option X → Option X → Option (Option X)
once None (Some x) = Some (Some x)
once None None = None
once (Some y) value = None

abbrev pub then_with : {X Y : Type 0} → Option X → (X → Y) → Option Y
then_with None f = None
then_with (Some x) f = Some (f x)

abbrev pub no_params : Params
no_params = record { seconds = None; rate = None; labels = None; debug = None }

-- one parameter more: its name is one of these, and comes for the first time
abbrev pub with_param : Params → List ℕ → List ℕ → Option Params
with_param p name value =
    if bytes_eq name (codes "seconds") then then_with (once p.seconds (number_to 300 value)) (λ x. record p { seconds = x })
    else (if bytes_eq name (codes "rate") then then_with (once p.rate (number_to 1000 value)) (λ x. record p { rate = x })
    else (if bytes_eq name (codes "labels") then then_with (once p.labels (labels_in value)) (λ x. record p { labels = x })
    else (if bytes_eq name (codes "debug") then then_with (once p.debug (debug_in value)) (λ x. record p { debug = x })
    else None)))

-- a part `name=value`
abbrev pub with_part : Params → List ℕ → Option Params
with_part p part =
    let at = position_or_len (is_byte 61) part in
    if at == length part then None else with_param p (take at part) (drop (at + 1) part)

abbrev pub and_then : {X Y : Type 0} → Option X → (X → Option Y) → Option Y
and_then None f = None
and_then (Some x) f = f x

abbrev pub with_parts : Params → List (List ℕ) → Option Params
with_parts p [] = Some p
with_parts p (part ∷ parts) = and_then (with_part p part) (λ q. with_parts q parts)

-- the parameters between `&`
abbrev pub params_of : List ℕ → Option Params
params_of query = with_parts no_params (slice_split (is_byte 38) query)

abbrev pub route_of : List ℕ → Option Route
route_of path = found path (
    (codes "/", route.Index)
    ∷ (codes "/metrics", route.Metrics)
    ∷ (codes "/threads", route.Threads)
    ∷ (codes "/threads.json", route.ThreadsJson)
    ∷ (codes "/debug/pprof/threads", route.ThreadsProfile)
    ∷ (codes "/debug/pprof/profile", route.Profile)
    ∷ [])

abbrev pub or_else : {X : Type 0} → Option X → X → X
or_else None x = x
or_else (Some y) x = y

abbrev pub plain : Target → Option Params → Result Target Refusal
plain t None = Ok t
plain t (Some p) = Err refusal.Query

-- `debug` alone
abbrev pub threads_with : Option ℕ → Option ℕ → Option Labels → Option Debug → Result Target Refusal
threads_with None None None debug = Ok (target.ThreadsProfile (or_else debug debugs.Profile))
threads_with None None (Some l) debug = Err refusal.Query
threads_with None (Some r) l debug = Err refusal.Query
threads_with (Some s) r l debug = Err refusal.Query

abbrev pub threads_of : Option Params → Result Target Refusal
threads_of None = Ok (target.ThreadsProfile debugs.Profile)
threads_of (Some p) = threads_with p.seconds p.rate p.labels p.debug

-- all but `debug`
abbrev pub profile_with : Params → Option Debug → Result Target Refusal
profile_with p None = Ok (target.Profile (or_else p.seconds 30) (or_else p.rate 100) (or_else p.labels labels.ThreadAndState))
profile_with p (Some d) = Err refusal.Query

abbrev pub profile_of : Option Params → Result Target Refusal
profile_of None = Ok (target.Profile 30 100 labels.ThreadAndState)
profile_of (Some p) = profile_with p p.debug

abbrev pub resolved : Route → Option Params → Result Target Refusal
resolved route.Index query = plain target.Index query
resolved route.Metrics query = plain target.Metrics query
resolved route.Threads query = plain target.Threads query
resolved route.ThreadsJson query = plain target.ThreadsJson query
resolved route.ThreadsProfile query = threads_of query
resolved route.Profile query = profile_of query

abbrev pub read_query : Option Params → Result (Option Params) Refusal
read_query None = Err refusal.Query
read_query (Some p) = Ok (Some p)

-- the query behind this place, if there is one
abbrev pub query_at : List ℕ → ℕ → Result (Option Params) Refusal
query_at bytes at = if at == length bytes then Ok None else read_query (params_of (drop (at + 1) bytes))

abbrev pub resolved_if : Route → Result (Option Params) Refusal → Result Target Refusal
resolved_if r (Ok query) = resolved r query
resolved_if r (Err e) = Err e

abbrev pub routed : Option Route → Result (Option Params) Refusal → Result Target Refusal
routed None query = Err refusal.Path
routed (Some r) query = resolved_if r query

-- the path before the first `?`, and the query behind it
abbrev pub target_of : List ℕ → Result Target Refusal
target_of bytes =
    let at = position_or_len (is_byte 63) bytes in
    routed (route_of (take at bytes)) (query_at bytes at)
