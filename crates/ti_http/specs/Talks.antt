-- A connection as contracts see it, and what each call makes of it.
use Rattle.std.specs.Prelude.{◌≡◌, ℕ, ◌+◌, ◌-◌, ◌^◌, ◌<◌, ◌≤◌, min, Bool, true, false, not, ◌&&◌, ◌||◌, List, [], ◌∷◌, ◌++◌, length, drop, Option, Some, None, Result, Ok, Err, if◌then◌else◌, nat_lt, ◌==◌}
use Rattle.ti_http.specs.declared.answers.ContentType.{ContentType}
use Rattle.ti_http.specs.declared.answers.ContentType.TheVariants as content
use Rattle.ti_http.specs.declared.answers.Manner.{Manner}
use Rattle.ti_http.specs.declared.connection.Action.{Action}
use Rattle.ti_http.specs.declared.connection.Action.TheVariants as action
use Rattle.ti_http.specs.declared.connection.Phase.{Phase}
use Rattle.ti_http.specs.declared.connection.Phase.TheVariants as phase
use Rattle.ti_http.specs.declared.head.Request.{Request}
use Rattle.ti_http.specs.declared.head.Seen.{Seen}
use Rattle.ti_http.specs.declared.head.Seen.TheVariants as seen
use Rattle.ti_http.specs.declared.head.Whole.{Whole}
use Rattle.ti_http.specs.declared.hosts.Hosts.{Hosts}
use Rattle.ti_http.specs.declared.refusals.Refusal.{Refusal}
use Rattle.ti_http.specs.declared.refusals.Refusal.TheVariants as refusal
use Rattle.ti_http.specs.declared.status.Status.{Status}
use Rattle.ti_http.specs.Answers.{answer_text}
use Rattle.ti_http.specs.Refusals.{status_of, text_of, closes}
use Rattle.ti_http.specs.Heads.{Sees}

pub record Talk : Type 0 where
  pub hosts : Hosts
  -- what came and was not made a request yet
  pub input : List ℕ
  -- what is to be written
  pub output : List ℕ
  pub phase : Phase
  -- the peer sends no more
  pub ended : Bool
  -- when what it waits for began
  pub since : ℕ
  -- how many requests came, refused ones among them
  pub asked : ℕ
  pub answered : ℕ

-- how many requests wait for their answer
abbrev pub outstanding : Phase → ℕ
outstanding phase.Reading = 0
outstanding (phase.Waiting manner) = 1
outstanding phase.Closing = 0
outstanding phase.Closed = 0

-- what each phase rules out
abbrev pub Rests : Phase → List ℕ → List ℕ → ℕ → Type 0
Rests phase.Reading input output asked = asked < 1000
Rests (phase.Waiting manner) input output asked = output ≡ []
Rests phase.Closing input output asked = input ≡ []
Rests phase.Closed input output asked = (input ≡ []) × (output ≡ [])

-- Each request has its answer, but for the one that waits. What is kept is bounded, and nothing is left after a close.
abbrev pub IsSound : List ℕ → List ℕ → Phase → ℕ → ℕ → Type 0
IsSound input output p asked answered =
    (length input ≤ 8192) × (asked ≡ answered + outstanding p) × (asked ≤ 1000) × Rests p input output asked

abbrev pub opened : Hosts → ℕ → Talk
opened hosts now = record { hosts = hosts; input = []; output = []; phase = phase.Reading; ended = false; since = now; asked = 0; answered = 0 }

abbrev pub takes_more : Phase → Bool
takes_more phase.Reading = true
takes_more (phase.Waiting manner) = true
takes_more phase.Closing = false
takes_more phase.Closed = false

-- how many bytes of input are taken
abbrev pub room_in : Talk → ℕ
room_in t = if takes_more t.phase && not t.ended then 8192 - length t.input else 0

abbrev pub is_reading : Phase → Bool
is_reading phase.Reading = true
is_reading (phase.Waiting manner) = false
is_reading phase.Closing = false
is_reading phase.Closed = false

-- the first byte of a head starts its time
abbrev pub fed : Talk → List ℕ → ℕ → Talk
fed t [] now = t
fed t (b ∷ bytes) now = record t {
  input = t.input ++ b ∷ bytes;
  since = if ((length t.input == 0) && (length t.output == 0)) && is_reading t.phase then now else t.since;
}

abbrev pub ended_by_peer : Talk → Talk
ended_by_peer t = record t { ended = true }

abbrev pub closed : Talk → Talk
closed t = record t { input = []; output = []; phase = phase.Closed }

-- some bytes less, and the time starts again
abbrev pub written_from : Talk → ℕ → ℕ → Talk
written_from t count now =
    if min count (length t.output) == 0 then t else record t { output = drop (min count (length t.output)) t.output; since = now }

-- A request is taken up, and waits for its answer.
abbrev pub asks : Talk → Whole → Talk
asks t w = record t { input = drop w.len t.input; phase = phase.Waiting w.manner; asked = t.asked + 1 }

-- An answer is to be written. If the connection goes on, so does its input, from there.
abbrev pub answers : Talk → ℕ → Manner → List ℕ → List ℕ → Talk
answers t now manner input text = record t {
  input = if manner.keeps then input else [];
  output = text;
  phase = if manner.keeps then phase.Reading else phase.Closing;
  since = now;
  answered = t.answered + 1;
}

-- the text of a refusal
abbrev pub refusal_text : Refusal → Manner → List ℕ
refusal_text r manner = answer_text (status_of r) content.Text manner (text_of r)

abbrev pub closing : Manner
closing = record { keeps = false; head_only = false }

-- what came is refused in this manner, and this is what the connection reads next, if it goes on
abbrev pub refused_with : Talk → ℕ → Manner → List ℕ → Refusal → Talk
refused_with t now manner input r = answers (record t { asked = t.asked + 1 }) now manner input (refusal_text r manner)

-- what is no request is refused, and the connection ends
abbrev pub refuses : Talk → ℕ → Refusal → Talk
refuses t now r = refused_with t now closing [] r

abbrev pub manner_after : Talk → Refusal → Whole → Manner
manner_after t r w = record { keeps = (w.manner.keeps && not (closes r)) && nat_lt (t.asked + 1) 1000; head_only = w.manner.head_only }

-- a whole request is refused
abbrev pub refuses_whole : Talk → ℕ → Refusal → Whole → Talk
refuses_whole t now r w = refused_with t now (manner_after t r w) (drop w.len t.input) r

abbrev pub starves : Talk → ℕ → Action × Talk
starves t now =
    if not t.ended then (action.Wait, t)
    else (if length t.input == 0 then (action.Close, closed t) else (action.Write, refuses t now refusal.NoRequest))

abbrev pub judged : Talk → ℕ → Whole → Result Request Refusal → Action × Talk
judged t now w (Ok request) = (action.Ask request, asks t w)
judged t now w (Err r) = (action.Write, refuses_whole t now r w)

abbrev pub goes_by : Talk → ℕ → Seen → Action × Talk
goes_by t now seen.More = starves t now
goes_by t now (seen.Broken r) = (action.Write, refuses t now r)
goes_by t now (seen.Whole w) = judged t now w w.outcome

-- what a connection does that reads, by what its input begins with
abbrev pub Reads : Talk → ℕ → Action → Talk → Type 0
Reads old now act new = (s : Seen) × Sees old.hosts old.input s × ((act, new) ≡ goes_by old now s)

abbrev pub GoesIn : Phase → Talk → ℕ → Action → Talk → Type 0
GoesIn phase.Reading old now act new = Reads old now act new
GoesIn (phase.Waiting manner) old now act new = (act ≡ action.Wait) × (new ≡ old)
GoesIn phase.Closing old now act new = (act ≡ action.Close) × (new ≡ closed old)
GoesIn phase.Closed old now act new = (act ≡ action.Close) × (new ≡ old)

abbrev pub GoesWith : List ℕ → Talk → ℕ → Action → Talk → Type 0
GoesWith [] old now act new = GoesIn old.phase old now act new
GoesWith (b ∷ bytes) old now act new = (act ≡ action.Write) × (new ≡ old)

-- What is to be written goes first.
abbrev pub Goes : Talk → ℕ → Action → Talk → Type 0
Goes old now act new = GoesWith old.output old now act new

abbrev pub manner_of : Talk → Manner → Manner
manner_of t asked = record { keeps = asked.keeps && nat_lt t.asked 1000; head_only = asked.head_only }

-- the answer to the request that waits
abbrev pub answered_in : Phase → Talk → ℕ → Status → ContentType → List ℕ → Option Talk
answered_in phase.Reading t now status type body = None
answered_in (phase.Waiting asked) t now status type body =
    Some (answers t now (manner_of t asked) t.input (answer_text status type (manner_of t asked) body))
answered_in phase.Closing t now status type body = None
answered_in phase.Closed t now status type body = None

abbrev pub answered_by : Talk → ℕ → Status → ContentType → List ℕ → Option Talk
answered_by t now status type body = answered_in t.phase t now status type body

-- how long a connection waits for its peer
abbrev pub patience_in : Phase → List ℕ → Option ℕ
patience_in phase.Reading [] = Some 30000
patience_in phase.Reading (b ∷ bytes) = Some 5000
patience_in (phase.Waiting manner) input = None
patience_in phase.Closing input = None
patience_in phase.Closed input = None

abbrev pub patience : Talk → Option ℕ
patience t = if nat_lt 0 (length t.output) then Some 10000 else patience_in t.phase t.input

abbrev pub ends_at : ℕ → Option ℕ → Option ℕ
ends_at since None = None
ends_at since (Some wait) = Some (min (since + wait) (2 ^ 64 - 1))

abbrev pub deadline_of : Talk → Option ℕ
deadline_of t = ends_at t.since (patience t)

-- an answer that nobody reads, or an idle connection, is closed; a head that does not end gets its answer
abbrev pub gives_up : Talk → ℕ → Talk
gives_up t now = if nat_lt 0 (length t.output) || (length t.input == 0) then closed t else refuses t now refusal.Late

abbrev pub ticks : Option ℕ → Talk → ℕ → Talk
ticks None t now = t
ticks (Some wait) t now = if nat_lt (now - t.since) wait then t else gives_up t now

abbrev pub ticked : Talk → ℕ → Talk
ticked t now = ticks (patience t) t now
