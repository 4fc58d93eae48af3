-- What a door does at one of its connections: the calls of `ti_http` that it makes there, and what each of them answers.
use Rattle.std.specs.Prelude.{ℕ, ◌≡◌, ◌+◌, ◌⊎◌, List, [], ◌∷◌, Option, Some, None, is_some, true, codes, map, nat_lt, if◌then◌else◌}
use Rattle.std.specs.String.{string_bytes}
use Rattle.ti_http.specs.Answers.{code_of}
use Rattle.ti_http.specs.declared.answers.ContentType.{ContentType}
use Rattle.ti_http.specs.declared.answers.ContentType.TheVariants as content
use Rattle.ti_http.specs.declared.connection.Action.{Action}
use Rattle.ti_http.specs.declared.connection.Action.TheVariants as action
use Rattle.ti_http.specs.declared.head.Method.{Method}
use Rattle.ti_http.specs.declared.head.Method.TheVariants as method
use Rattle.ti_http.specs.declared.head.Request.{Request}
use Rattle.ti_http.specs.declared.status.Status.{Status}
use Rattle.ti_http.specs.declared.status.Status.TheVariants as status
use Rattle.ti_http.specs.declared.target.Target.{Target}
use Rattle.ti_http.specs.declared.target.Target.TheVariants as target
use Rattle.ti_http.specs.Runs.{Call, Fed, PeerEnded, Told, Answered, Written, Ticked, Step}
use Rattle.ti_http.specs.Talks.{Talk}
use Rattle.ti_monitor.specs.declared.door_desk.Due.{Due}
use Rattle.ti_monitor.specs.declared.door_desk.Due.TheVariants as due
use Rattle.ti_monitor.specs.declared.metrics.Metrics.{Metrics}
use Rattle.ti_monitor.specs.declared.monitor.ReadingNo.{ReadingNo}
use Rattle.ti_monitor.specs.declared.reading.Reading.{Reading}
use Rattle.ti_monitor.specs.declared.running.Running.{Running}
use Rattle.ti_monitor.specs.Door.{body_of, code_in, content_of, counted, order_of, retry_after}
use Rattle.ti_monitor.specs.Exposition.{metrics_lines}
use Rattle.ti_monitor.specs.Monitors.{AreCountsOf, Begins, HasNoRoom, IsWithout, begun_in, reading_in}
use Rattle.ti_monitor.specs.Seats.{profile_of}
use Rattle.ti_monitor.specs.Texts.{text_of}

-- ---- what a connection has, and what all of them share

-- the readings of the monitor, how many it began, what it has counted, and how many answers had each status
pub record Books : Type 0 where
  pub readings : List Running
  pub begun : ℕ
  pub metrics : Metrics
  pub rows : List (ℕ × ℕ)

-- a connection, what the request that waits there is waiting for, and the books
pub record Sitting : Type 0 where
  pub talk : Talk
  pub due : Option Due
  pub books : Books

abbrev pub sitting : Talk → Option Due → Books → Sitting
sitting talk due books = record { talk = talk; due = due; books = books }

-- what no call changes: the program's name and the version, as bytes, and how many connections are open
pub record Setting : Type 0 where
  pub program : List ℕ
  pub version : List ℕ
  pub connections : ℕ

abbrev pub setting : List ℕ → List ℕ → ℕ → Setting
setting program version connections = record { program = program; version = version; connections = connections }

-- ---- answers

abbrev pub later_text : List ℕ
later_text = codes "this cannot be answered now; try again later\n"

-- the text of `/`
abbrev pub index_text : List ℕ
index_text = text_of (
    codes "Cebdyraq: stacks and states of threads"
    ∷ []
    ∷ codes "/                        this text"
    ∷ codes "/threads                 all threads and their stacks, as text"
    ∷ codes "/threads.json            the same as JSON"
    ∷ codes "/debug/pprof/threads     the stacks of all threads now; debug=0 (a profile), 1 (one stack together) or 2 (thread by thread)"
    ∷ codes "/debug/pprof/profile     the stacks of all threads over a time; seconds=1 to 300, rate=1 to 1000 a second,"
    ∷ codes "                         labels=none, thread, state or thread,state"
    ∷ codes "/metrics                 counters, for Prometheus"
    ∷ []
    ∷ codes "go tool pprof http://HOST:PORT/debug/pprof/profile?seconds=10 reads a profile; with -http=:0 it shows one in a browser."
    ∷ codes "Prometheus scrapes /metrics: scrape_configs: [{job_name: cebdyraq, static_configs: [{targets: ['HOST:PORT']}]}]"
    ∷ [])

-- an answer: its status, what its body is, and the body
pub record Response : Type 0 where
  pub status : Status
  pub type : ContentType
  pub body : List ℕ

abbrev pub response : Status → ContentType → List ℕ → Response
response status type body = record { status = status; type = type; body = body }

-- what needs a reading has no body after `HEAD`, and no reading
abbrev pub Unread : Method → Target → Response → Type 0
Unread method.Get target r = ⊥
Unread method.Head target r = r ≡ response status.Ok (content_of target) []

-- the answer that is given without a reading
abbrev pub AtOnce : Setting → Books → Method → Target → Response → Type 0
AtOnce w b m target.Index r = r ≡ response status.Ok content.Text index_text
AtOnce w b m target.Metrics r = r ≡ response status.Ok content.Metrics (text_of (metrics_lines w.version b.metrics b.rows w.connections))
AtOnce w b m target.Threads r = Unread m target.Threads r
AtOnce w b m target.ThreadsJson r = Unread m target.ThreadsJson r
AtOnce w b m (target.ThreadsProfile d) r = Unread m (target.ThreadsProfile d) r
AtOnce w b m (target.Profile seconds rate labels) r = Unread m (target.Profile seconds rate labels) r

-- these are bytes of what the reading of a number has counted, which has ended, as the target asks for them
abbrev pub IsBodyOf : List ℕ → List Running → ReadingNo → Target → List ℕ → Type 0
IsBodyOf program readings number target bytes =
    (read : Reading) × AreCountsOf (reading_in readings number) read.counts × (string_bytes read.about.program ≡ program) × (bytes ≡ body_of target read)

abbrev pub OfReading : Setting → Books → ReadingNo → Target → Response → Type 0
OfReading w b number target r = (r ≡ response status.Ok (content_of target) r.body) × IsBodyOf w.program b.readings number target r.body

abbrev pub Later : ℕ → Response → Type 0
Later seconds r = r ≡ response (status.ServiceUnavailable seconds) content.Text later_text

-- an answer to the request that waits
abbrev pub IsAnswer : Setting → Books → Option Due → Response → Type 0
IsAnswer w b None r = ⊥
IsAnswer w b (Some (due.Reading request number)) r = OfReading w b number request.target r
IsAnswer w b (Some (due.Later request seconds)) r = Later seconds r ⊎ AtOnce w b request.method request.target r

-- ---- what becomes of the books

-- the readings without the one of a number, and nothing else changed
abbrev pub TakesOut : ReadingNo → Books → Books → Type 0
TakesOut number old new = (new ≡ record old { readings = new.readings }) × IsWithout number old.readings new.readings

abbrev pub MayTakeOut : ReadingNo → Books → Books → Type 0
MayTakeOut number old new = (new ≡ old) ⊎ TakesOut number old new

-- the reading that was waited for is there no more
abbrev pub Leaves : Option Due → Books → Books → Type 0
Leaves None old new = new ≡ old
Leaves (Some (due.Reading request number)) old new = TakesOut number old new
Leaves (Some (due.Later request seconds)) old new = new ≡ old

-- the same, or there was none
abbrev pub MayLeave : Option Due → Books → Books → Type 0
MayLeave None old new = new ≡ old
MayLeave (Some (due.Reading request number)) old new = MayTakeOut number old new
MayLeave (Some (due.Later request seconds)) old new = new ≡ old

-- one more answer has this code
abbrev pub with_answer : Books → ℕ → Books
with_answer b code = record b { rows = map (counted code) b.rows }

-- `ti_http` answered a request by itself if more are answered, and then these bytes begin with the code
abbrev pub rows_after : ℕ → ℕ → List ℕ → List (ℕ × ℕ) → List (ℕ × ℕ)
rows_after before after output rows = if nat_lt before after then map (counted (code_in output)) rows else rows

abbrev pub told_in : Talk → Talk → Books → Books
told_in old new b = record b { rows = rows_after old.answered new.answered new.output b.rows }

-- the readings went on, and the monitor may have counted of them
abbrev pub ReadingsGoOn : Books → Books → Type 0
ReadingsGoOn old new = new ≡ record old { readings = new.readings; metrics = new.metrics }

-- ---- what else becomes due

-- the client is to try again after a second if there is no memory, and else when there is room for a reading
abbrev pub IsDelay : Books → Target → ℕ → Type 0
IsDelay b target seconds = (seconds ≡ 1) ⊎ ((seconds ≡ retry_after target) × HasNoRoom b.readings b.begun (order_of target))

-- the reading of a request was begun, by what its target orders, or it could not be
abbrev pub Starts : Request → Books → Due → Books → Type 0
Starts request old (due.Reading r number) new =
    (r ≡ request) × ((now : ℕ) × (unix : ℕ) × Begins old.readings new.readings number (order_of request.target) now unix) × (number.0 ≡ old.begun)
    × (new ≡ record old { readings = new.readings; begun = old.begun + 1; metrics = begun_in (order_of request.target) old.metrics })
Starts request old (due.Later r seconds) new = (r ≡ request) × (new ≡ old) × IsDelay old request.target seconds

-- there was no memory for what a reading gives, and it may be gone
abbrev pub Loses : Request → ReadingNo → Books → Due → Books → Type 0
Loses request number old (due.Reading r k) new = ⊥
Loses request number old (due.Later r seconds) new = (r ≡ request) × (seconds ≡ 1) × MayTakeOut number old new

abbrev pub Turns : Option Due → Books → Due → Books → Type 0
Turns None old d new = ⊥
Turns (Some (due.Later request seconds)) old d new = Starts request old d new
Turns (Some (due.Reading request number)) old d new = Loses request number old d new

-- ---- moves

-- A call of `ti_http`; something else becomes due; the profile that is waited for ends, since the peer sends no more
pub data Move : Type 0 where
  Calls : Call → Move
  Turned : Due → Move
  Hurried : Move

-- A request that is handed out waits from then on. Until it is taken up, the client is to try again
abbrev pub due_after : Action → Option Due → Option Due
due_after (action.Ask request) d = Some (due.Later request 1)
due_after action.Write d = d
due_after action.Close d = d
due_after action.Wait d = d

-- what a call of `ti_http` leaves due, and in the books. An answer is one to the request that waits
abbrev pub AsCalled : Setting → Call → Sitting → Sitting → Type 0
AsCalled w (Fed bytes now) old new = (new.due ≡ old.due) × (new.books ≡ old.books)
AsCalled w PeerEnded old new = (new.due ≡ old.due) × (new.books ≡ old.books)
AsCalled w (Told act now) old new = (new.due ≡ due_after act old.due) × (new.books ≡ told_in old.talk new.talk old.books)
AsCalled w (Answered status type body now) old new =
    (new.due ≡ None) × IsAnswer w old.books old.due (response status type body)
    × (between : Books) × Leaves old.due old.books between × (new.books ≡ with_answer between (code_of status))
AsCalled w (Written count now) old new = (new.due ≡ old.due) × (new.books ≡ old.books)
AsCalled w (Ticked now) old new = (new.due ≡ old.due) × (new.books ≡ told_in old.talk new.talk old.books)

abbrev pub Does : Setting → Sitting → Move → Sitting → Type 0
Does w old (Calls c) new = Step old.talk c new.talk × AsCalled w c old new
Does w old (Turned d) new = (new.talk ≡ old.talk) × (new.due ≡ Some d) × Turns old.due old.books d new.books
Does w old Hurried new =
    (new.talk ≡ old.talk) × (new.due ≡ old.due) × (is_some (profile_of old.due) ≡ true) × ReadingsGoOn old.books new.books

-- these moves, in this order
abbrev pub ServesBy : Setting → Sitting → List Move → Sitting → Type 0
ServesBy w old [] new = old ≡ new
ServesBy w old (m ∷ moves) new = (next : Sitting) × Does w old m next × ServesBy w next moves new

abbrev pub Serves : Setting → Sitting → Sitting → Type 0
Serves w old new = (moves : List Move) × ServesBy w old moves new
