-- What a look at the input, and what `next` does, are by the definitions.
use Rattle.std.proofs.Common.{◌≡◌, ℕ, ◌<◌, List, [], ◌∷◌, length, Result, Ok, Err, refl, subst, arith}
use Rattle.std.specs.Prelude.{IfOk, IfErr}
use Rattle.httparse.specs.declared.spans.RequestSpans.{RequestSpans}
use Rattle.http1.specs.declared.conn.Progress.{Progress}
use Rattle.http1.specs.declared.error.ReadError.{ReadError}
use Rattle.http1.specs.declared.server.Server.{Server}
use Rattle.http1.specs.ReadError.{RequestError}
use Rattle.http1.specs.Server.{new_server, ServerRefuses}
use Rattle.ti_http.specs.declared.connection.Action.{Action}
use Rattle.ti_http.specs.declared.connection.Action.TheVariants as action
use Rattle.ti_http.specs.declared.error.HttpError.{HttpError}
use Rattle.ti_http.specs.declared.head.Seen.TheVariants as seen
use Rattle.ti_http.specs.declared.refusals.Refusal.{Refusal}
use Rattle.ti_http.specs.Heads.{limits, Sees}
use Rattle.ti_http.specs.Memory.{ReadTakes}
use Rattle.ti_http.specs.Talks.{Talk, GoesWith, Reads, refuses}

-- why a server that waits for a request refuses its input
pub broken : (s : Server) (input : List ℕ) (room : ℕ) (r : Result (Progress RequestSpans) ReadError) (e : ReadError) → s ≡ new_server limits → r ≡ Err e → IfErr r (ServerRefuses s input room) → RequestError 8192 input room e
broken s input room r e is_new is h =
    (subst (λ (q : Result (Progress RequestSpans) ReadError). IfErr q (ServerRefuses (new_server limits) input room)) is (subst (λ (t : Server). IfErr r (ServerRefuses t input room)) is_new h)).1

-- an input that is no head is refused
pub reads_broken : (old new : Talk) (now : ℕ) (refusal : Refusal) (r : Result Action HttpError) → Sees old.hosts old.input (seen.Broken refusal) → IfOk r (λ a. (a ≡ action.Write) × (new ≡ refuses old now refusal)) → IfOk r (λ a. Reads old now a new)
reads_broken old new now refusal (Ok a) sees h = (seen.Broken refusal, sees, λ i. (h.0 i, h.1 i))
reads_broken old new now refusal (Err e) sees h = tt

-- only then memory may lack
pub takes_broken : (t : Talk) (refusal : Refusal) (r : Result Action HttpError) → Sees t.hosts t.input (seen.Broken refusal) → IfErr r (λ e. ReadTakes t)
takes_broken t refusal (Ok a) sees = tt
takes_broken t refusal (Err e) sees = (seen.Broken refusal, sees, refl)

-- what is to be written goes first
pub writes_first : (out : List ℕ) (t : Talk) (now : ℕ) → 0 < length out → GoesWith out t now action.Write t
writes_first [] t now h = absurd (omega arith)
writes_first (b ∷ bytes) t now h = (refl, refl)
