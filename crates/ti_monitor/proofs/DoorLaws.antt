-- Connections that go on by calls.
use Rattle.std.proofs.Common.{◌≡◌, ◌+◌, ℕ, zero, suc, ◌≤◌, Bool, true, false, List, [], ◌∷◌, length, map, Option, Some, None, inl, inr, refl, sym, ap, subst, ◌∙◌, add-one, arith}
use Rattle.std.specs.String.{string_bytes}
use Rattle.std.proofs.lemmas.List.Sums.{sum_by-cons}
use Rattle.std.specs.Prelude.{count_by, is_some, nat_lt, slice_get, slice_set, if◌then◌else◌, Result, Ok, Err, IfErr, OnErr}
use Rattle.std.specs.Result.{IsErrAnd}
use Rattle.std.proofs.lemmas.Bool.Decides.{nat_tests}
use Rattle.ti_http.specs.declared.hosts.Hosts.{Hosts}
use Rattle.ti_http.specs.Talks.{Talk}
use Rattle.ti_service.specs.Memberships.{AgentValue}
use Rattle.ti_monitor.specs.declared.door_desk.Desk.{Desk}
use Rattle.ti_monitor.specs.declared.door_desk.Due.{Due}
use Rattle.ti_monitor.specs.declared.door_desk.Due.TheVariants as due
use Rattle.ti_monitor.specs.declared.door_error.DoorError.{DoorError}
use Rattle.ti_monitor.specs.declared.door_error.DoorError.TheVariants.{OutOfMemory}
use Rattle.ti_monitor.specs.declared.door_seat.Seat.{Seat}
use Rattle.ti_monitor.specs.Doors.{AllRun, Changes, Closes, DoorValue, GoesOn, OneRuns, Refuses, ServesAt, ServesBelow, ServesOne, TalksRun, door_with, due_at, opened_in, talk_at, with_seat, with_talk}
use Rattle.ti_monitor.specs.Desks.{Keeps, ServesWith, at_seat, books_of, setting_of}
use Rattle.ti_monitor.specs.SeatLists.{door_of, due_of, kept_of, seat_at, talk_of, without}
use Rattle.ti_monitor.specs.Keeping.{Kept, kept}
use Rattle.ti_monitor.specs.Serving.{Books, MayLeave, ReadingsGoOn, Serves, sitting}
use Rattle.ti_monitor.specs.Seats.{RunsTo}
use Rattle.ti_monitor.proofs.SeatLaws.{runs_more, runs_none}

-- ---- what contracts see of the connections

pub talk_at_of : (hosts : Hosts) (desk : Desk) (seats : List (Option Seat)) (i : ℕ) → talk_at (door_of hosts seats desk) i ≡ talk_of (seat_at seats i)
talk_at_of hosts desk [] i = refl
talk_at_of hosts desk (o ∷ seats) zero = refl
talk_at_of hosts desk (o ∷ seats) (suc i) = talk_at_of hosts desk seats i

due_at_of : (hosts : Hosts) (desk : Desk) (seats : List (Option Seat)) (i : ℕ) → due_at (door_of hosts seats desk) i ≡ due_of (seat_at seats i)
due_at_of hosts desk [] i = refl
due_at_of hosts desk (o ∷ seats) zero = refl
due_at_of hosts desk (o ∷ seats) (suc i) = due_at_of hosts desk seats i

one_open : (o : Option Seat) → is_some (talk_of o) ≡ is_some o
one_open None = refl
one_open (Some s) = refl

-- as many are open
pub open_count : (seats : List (Option Seat)) → count_by is_some (map talk_of seats) ≡ count_by is_some seats
open_count [] = refl
open_count (o ∷ seats) =
    sum_by-cons (λ (x : Option Talk). if is_some x then 1 else 0) (talk_of o) (map talk_of seats)
    ∙ ap (λ b. (if b then 1 else 0) + count_by is_some (map talk_of seats)) (one_open o) ∙ ap (λ n. (if is_some o then 1 else 0) + n) (open_count seats)
    ∙ sym (sum_by-cons (λ (x : Option Seat). if is_some x then 1 else 0) o seats)

-- the door with these connections
abbrev pub with_list : Hosts → Desk → List (Option Talk) → List (Option Due) → DoorValue
with_list hosts desk talks dues = door_with hosts talks (string_bytes desk.monitor.program) (string_bytes desk.version) desk.monitor.agent dues (kept_of desk)

-- a desk that keeps what it tells leaves all but the environment and the books
pub desk_on : (hosts : Hosts) (old new : Desk) (seats : List (Option Seat)) (d : DoorValue) → door_of hosts seats old ≡ d → Keeps old new
    → door_of hosts seats new ≡ record d { agent = new.monitor.agent; kept = kept_of new }
desk_on hosts old new seats d is keeps =
    ap (λ p. door_with hosts (map talk_of seats) (string_bytes p) (string_bytes new.version) new.monitor.agent (map due_of seats) (kept_of new)) keeps.program
    ∙ ap (λ v. door_with hosts (map talk_of seats) (string_bytes old.monitor.program) (string_bytes v) new.monitor.agent (map due_of seats) (kept_of new)) keeps.version
    ∙ ap (λ (x : DoorValue). record x { agent = new.monitor.agent; kept = kept_of new }) is

-- one that keeps its environment too leaves all but the books
pub desk_same : (hosts : Hosts) (old new : Desk) (seats : List (Option Seat)) (d : DoorValue) → door_of hosts seats old ≡ d → Keeps old new
    → new.monitor.agent ≡ old.monitor.agent → door_of hosts seats new ≡ record d { kept = kept_of new }
desk_same hosts old new seats d is keeps same =
    desk_on hosts old new seats d is keeps
    ∙ ap (λ (a : AgentValue). record d { agent = a; kept = kept_of new }) (same ∙ ap (λ (x : DoorValue). x.agent) is)

pub map_set : (seats : List (Option Seat)) (i : ℕ) (o : Option Seat) → map talk_of (slice_set seats i o) ≡ slice_set (map talk_of seats) i (talk_of o)
map_set [] i o = refl
map_set (x ∷ seats) zero o = refl
map_set (x ∷ seats) (suc i) o = ap (λ ts. talk_of x ∷ ts) (map_set seats i o)

pub dues_set : (seats : List (Option Seat)) (i : ℕ) (o : Option Seat) → map due_of (slice_set seats i o) ≡ slice_set (map due_of seats) i (due_of o)
dues_set [] i o = refl
dues_set (x ∷ seats) zero o = refl
dues_set (x ∷ seats) (suc i) o = ap (λ us. due_of x ∷ us) (dues_set seats i o)

set_same : (seats : List (Option Seat)) (i : ℕ) (o : Option Seat) → talk_of (seat_at seats i) ≡ talk_of o → slice_set (map talk_of seats) i (talk_of o) ≡ map talk_of seats
set_same [] i o h = refl
set_same (x ∷ seats) zero o h = ap (λ t. t ∷ map talk_of seats) (sym h)
set_same (x ∷ seats) (suc i) o h = ap (λ ts. talk_of x ∷ ts) (set_same seats i o h)

dues_same : (seats : List (Option Seat)) (i : ℕ) (o : Option Seat) → due_of (seat_at seats i) ≡ due_of o → slice_set (map due_of seats) i (due_of o) ≡ map due_of seats
dues_same [] i o h = refl
dues_same (x ∷ seats) zero o h = ap (λ u. u ∷ map due_of seats) (sym h)
dues_same (x ∷ seats) (suc i) o h = ap (λ us. due_of x ∷ us) (dues_same seats i o h)

-- ---- a connection that is taken out and put back

set_twice : (seats : List (Option Seat)) (i : ℕ) (a b : Option Seat) → slice_set (slice_set seats i a) i b ≡ slice_set seats i b
set_twice [] i a b = refl
set_twice (o ∷ seats) zero a b = refl
set_twice (o ∷ seats) (suc i) a b = ap (λ xs. o ∷ xs) (set_twice seats i a b)

set_without : (within : Bool) (seats : List (Option Seat)) (i : ℕ) (b : Option Seat) → slice_set (if within then slice_set seats i None else seats) i b ≡ slice_set seats i b
set_without true seats i b = set_twice seats i None b
set_without false seats i b = refl

put_back : (old taken new : List (Option Seat)) (conn : ℕ) (o : Option Seat) → taken ≡ without old conn → new ≡ slice_set taken conn o → new ≡ slice_set old conn o
put_back old taken new conn o t n = n ∙ ap (λ xs. slice_set xs conn o) t ∙ set_without (nat_lt conn (length old)) old conn o

-- the door behind it
pub put_talk : (hosts : Hosts) (desk : Desk) (old taken new : List (Option Seat)) (conn : ℕ) (o : Option Seat) → taken ≡ without old conn → new ≡ slice_set taken conn o
    → door_of hosts new desk ≡ with_seat (door_of hosts old desk) conn (talk_of o) (due_of o)
put_talk hosts desk old taken new conn o t n =
    ap (λ xs. door_of hosts xs desk) (put_back old taken new conn o t n)
    ∙ ap (λ ts. with_list hosts desk ts (map due_of (slice_set old conn o))) (map_set old conn o)
    ∙ ap (λ us. with_list hosts desk (slice_set (map talk_of old) conn (talk_of o)) us) (dues_set old conn o)

-- its request waits for the same
put_same : (hosts : Hosts) (desk : Desk) (old taken new : List (Option Seat)) (conn : ℕ) (s s' : Seat) → seat_at old conn ≡ Some s → taken ≡ without old conn
    → new ≡ slice_set taken conn (Some s') → s'.due ≡ s.due → door_of hosts new desk ≡ with_talk (door_of hosts old desk) conn (Some s'.connection)
put_same hosts desk old taken new conn s s' was t n same =
    put_talk hosts desk old taken new conn (Some s') t n
    ∙ ap (λ us. with_list hosts desk (slice_set (map talk_of old) conn (Some s'.connection)) us) (dues_same old conn (Some s') (ap due_of was ∙ sym same))

pub changed : (P : Talk → Talk → Type 0) (hosts : Hosts) (desk : Desk) (old taken new : List (Option Seat)) (d : DoorValue) (conn : ℕ) (s s' : Seat) → door_of hosts old desk ≡ d
    → seat_at old conn ≡ Some s → taken ≡ without old conn → new ≡ slice_set taken conn (Some s') → s'.due ≡ s.due → P s.connection s'.connection → Changes d (door_of hosts new desk) conn P
changed P hosts desk old taken new d conn s s' is was t n same p =
    subst (λ (x : DoorValue). Changes x (door_of hosts new desk) conn P) is
    (s.connection, s'.connection, talk_at_of hosts desk old conn ∙ ap talk_of was, put_same hosts desk old taken new conn s s' was t n same, p)

-- the same with a desk that goes on
pub went_on : (P : Talk → Talk → Type 0) (hosts : Hosts) (desk desk' : Desk) (old taken new : List (Option Seat)) (d : DoorValue) (conn : ℕ) (s s' : Seat) → door_of hosts old desk ≡ d
    → seat_at old conn ≡ Some s → taken ≡ without old conn → new ≡ slice_set taken conn (Some s') → Keeps desk desk' → P s.connection s'.connection → GoesOn d (door_of hosts new desk') conn P
went_on P hosts desk desk' old taken new d conn s s' is was t n keeps p =
    subst (λ (x : DoorValue). GoesOn x (door_of hosts new desk') conn P) is (
      s.connection,
      s'.connection,
      talk_at_of hosts desk old conn ∙ ap talk_of was,
      ap (λ ts. with_list hosts desk' ts (map due_of new)) (ap (map talk_of) (put_back old taken new conn (Some s') t n) ∙ map_set old conn (Some s'))
          ∙ ap (λ (x : DoorValue). record (with_talk x conn (Some s'.connection)) { dues = map due_of new }) (desk_on hosts desk desk' old (door_of hosts old desk) refl keeps),
      p,
    )

-- and what was served
pub served : (hosts : Hosts) (desk desk' : Desk) (old taken new : List (Option Seat)) (d : DoorValue) (conn count : ℕ) (s s' : Seat) → door_of hosts old desk ≡ d → count ≡ count_by is_some old
    → seat_at old conn ≡ Some s → taken ≡ without old conn → new ≡ slice_set taken conn (Some s') → Keeps desk desk' → ServesWith count s desk s' desk' → ServesAt d (door_of hosts new desk') conn
served hosts desk desk' old taken new d conn count s s' is counts was t n keeps serves =
    let there : count ≡ count_by is_some (map talk_of old) = counts ∙ sym (open_count old) in
    let before : s.due ≡ due_at (door_of hosts old desk) conn = sym (due_at_of hosts desk old conn ∙ ap due_of was) in
    subst (λ (x : DoorValue). ServesAt x (door_of hosts new desk') conn) is (
      s.connection,
      s'.connection,
      s'.due,
      desk.monitor.readings.running.items,
      desk'.monitor.readings.running.items,
      desk.monitor.begun,
      desk'.monitor.begun,
      talk_at_of hosts desk old conn ∙ ap talk_of was,
      put_talk hosts desk' old taken new conn (Some s') t n
          ∙ ap (λ (x : DoorValue). with_seat x conn (Some s'.connection) s'.due) (desk_on hosts desk desk' old (door_of hosts old desk) refl keeps),
      subst (λ k. Serves (setting_of desk k) (sitting s.connection (due_at (door_of hosts old desk) conn) (books_of desk)) (at_seat s' desk')) there
          (subst (λ (u : Option Due). Serves (setting_of desk count) (sitting s.connection u (books_of desk)) (at_seat s' desk')) before serves),
    )

-- one that is as it was leaves the door as it was
pub unchanged : (hosts : Hosts) (desk : Desk) (old taken new : List (Option Seat)) (d : DoorValue) (conn : ℕ) (s s' : Seat) → door_of hosts old desk ≡ d → seat_at old conn ≡ Some s
    → taken ≡ without old conn → new ≡ slice_set taken conn (Some s') → s'.connection ≡ s.connection → s'.due ≡ s.due → door_of hosts new desk ≡ d
unchanged hosts desk old taken new d conn s s' is was t n same due =
    put_same hosts desk old taken new conn s s' was t n due
    ∙ ap (λ ts. with_list hosts desk ts (map due_of old)) (set_same old conn (Some s') (ap talk_of was ∙ ap (λ (x : Talk). Some x) (sym same)))
    ∙ is

-- the connection of a number
pub talk_is : (hosts : Hosts) (desk : Desk) (seats : List (Option Seat)) (d : DoorValue) (conn : ℕ) (o : Option Seat) → door_of hosts seats desk ≡ d → seat_at seats conn ≡ o
    → talk_at d conn ≡ talk_of o
talk_is hosts desk seats d conn o is at = subst (λ (x : DoorValue). talk_at x conn ≡ talk_of o) is (talk_at_of hosts desk seats conn ∙ ap talk_of at)

set_none : (seats : List (Option Seat)) (i : ℕ) → seat_at seats i ≡ None → slice_set seats i None ≡ seats
set_none [] i h = refl
set_none (o ∷ seats) zero h = ap (λ (x : Option Seat). x ∷ seats) (sym h)
set_none (o ∷ seats) (suc i) h = ap (λ xs. o ∷ xs) (set_none seats i h)

cond_none : (within : Bool) (seats : List (Option Seat)) (i : ℕ) → seat_at seats i ≡ None → (if within then slice_set seats i None else seats) ≡ seats
cond_none true seats i h = set_none seats i h
cond_none false seats i h = refl

-- where no connection is, none is taken
pub without_none : (seats : List (Option Seat)) (i : ℕ) → seat_at seats i ≡ None → without seats i ≡ seats
without_none seats i h = cond_none (nat_lt i (length seats)) seats i h

-- a connection that is taken out is gone
set_beyond : (seats : List (Option Seat)) (i : ℕ) → length seats ≤ i → slice_set seats i None ≡ seats
set_beyond [] i h = refl
set_beyond (o ∷ seats) zero h = absurd (omega arith)
set_beyond (o ∷ seats) (suc i) h = ap (λ xs. o ∷ xs) (set_beyond seats i (omega arith))

cond_set : (within : Bool) (seats : List (Option Seat)) (i : ℕ) → nat_lt i (length seats) ≡ within → (if within then slice_set seats i None else seats) ≡ slice_set seats i None
cond_set true seats i h = refl
cond_set false seats i h = sym (set_beyond seats i (grind (arith, nat_tests, h)))

pub gone : (hosts : Hosts) (desk : Desk) (old taken : List (Option Seat)) (d : DoorValue) (conn : ℕ) → door_of hosts old desk ≡ d → taken ≡ without old conn
    → door_of hosts taken desk ≡ with_seat d conn None None
gone hosts desk old taken d conn is t =
    ap (λ xs. door_of hosts xs desk) (t ∙ cond_set (nat_lt conn (length old)) old conn refl)
    ∙ ap (λ ts. with_list hosts desk ts (map due_of (slice_set old conn None))) (map_set old conn None)
    ∙ ap (λ us. with_list hosts desk (slice_set (map talk_of old) conn None) us) (dues_set old conn None)
    ∙ ap (λ (x : DoorValue). with_seat x conn None None) is

-- a reading that is given up leaves what is counted
forgotten : (u : Option Due) (desk desk' : Desk) → MayLeave u (books_of desk) (books_of desk') → kept_of desk' ≡ kept_of desk
forgotten None desk desk' h = ap (λ (b : Books). kept b.metrics b.rows) h
forgotten (Some (due.Reading request number)) desk desk' (inl h) = ap (λ (b : Books). kept b.metrics b.rows) h
forgotten (Some (due.Reading request number)) desk desk' (inr h) = ap (λ (b : Books). kept b.metrics b.rows) h.0
forgotten (Some (due.Later request seconds)) desk desk' h = ap (λ (b : Books). kept b.metrics b.rows) h

-- it is closed
pub closes : (hosts : Hosts) (desk desk' : Desk) (old taken : List (Option Seat)) (d : DoorValue) (conn : ℕ) (s : Seat) → door_of hosts old desk ≡ d → seat_at old conn ≡ Some s
    → taken ≡ without old conn → Keeps desk desk' → desk'.monitor.agent ≡ desk.monitor.agent → MayLeave s.due (books_of desk) (books_of desk')
    → Closes d (door_of hosts taken desk') conn
closes hosts desk desk' old taken d conn s is was t keeps agent left =
    let there : talk_at (door_of hosts old desk) conn ≡ Some s.connection = talk_at_of hosts desk old conn ∙ ap talk_of was in
    subst (λ (x : DoorValue). Closes x (door_of hosts taken desk') conn) is (
      ap is_some there,
      desk_same hosts desk desk' taken _ (gone hosts desk old taken (door_of hosts old desk) conn refl t) keeps agent
          ∙ ap (λ (k : Kept). record (with_seat (door_of hosts old desk) conn None None) { kept = k }) (forgotten s.due desk desk' left),
    )

-- nothing was there to be taken
pub kept_door : (hosts : Hosts) (desk : Desk) (old taken : List (Option Seat)) (d : DoorValue) (conn : ℕ) → door_of hosts old desk ≡ d → taken ≡ without old conn → seat_at old conn ≡ None
    → door_of hosts taken desk ≡ d
kept_door hosts desk old taken d conn is t none = ap (λ xs. door_of hosts xs desk) (t ∙ without_none old conn none) ∙ is

-- ---- what is told where a call fails

pub on_err : {X E A : Type 0} (r : Result X E) → A → OnErr r A
on_err (Ok x) a = tt
on_err (Err e) a = a

pub no_memory : {X : Type 0} (r : Result X DoorError) (o : Option Talk) (t : Talk) → o ≡ Some t → IsErrAnd r (λ e. e ≡ OutOfMemory) → IfErr r (Refuses o)
no_memory (Ok x) o t is h = tt
no_memory (Err e) o t is h = subst (λ (x : Option Talk). Refuses x e) (sym is) h

-- ---- connections that go on

one_same : (o : Option Talk) → OneRuns o o
one_same None = tt
one_same (Some t) = runs_none t t refl

talks_same : (talks : List (Option Talk)) → TalksRun talks talks
talks_same [] = tt
talks_same (o ∷ talks) = (one_same o, talks_same talks)

pub all_same : (d : DoorValue) → AllRun d d
all_same d = (refl, talks_same d.talks)

-- only the environment goes on
pub desk_ran : (hosts : Hosts) (old new : Desk) (seats : List (Option Seat)) (d : DoorValue) → door_of hosts seats old ≡ d → Keeps old new → AllRun d (door_of hosts seats new)
desk_ran hosts old new seats d is keeps = subst (AllRun d) (sym (desk_on hosts old new seats d is keeps)) (refl, talks_same d.talks)

-- one of them goes on
one_set : (talks : List (Option Talk)) (i : ℕ) (t t' : Talk) → opened_in (slice_get talks i) ≡ Some t → RunsTo t t' → TalksRun talks (slice_set talks i (Some t'))
one_set [] i t t' h run = tt
one_set (o ∷ talks) zero t t' h run = (subst (λ (x : Option Talk). OneRuns x (Some t')) (sym h) run, talks_same talks)
one_set (o ∷ talks) (suc i) t t' h run = (one_same o, one_set talks i t t' h run)

pub one_ran : (old new : DoorValue) (conn : ℕ) (P : Talk → Talk → Type 0) → ((t t' : Talk) → P t t' → RunsTo t t') → Changes old new conn P → AllRun old new
one_ran old new conn P runs c =
    subst (AllRun old) (sym c.3) (refl, one_set old.talks conn c.0 c.1 c.2 (runs c.0 c.1 c.4))

pub one_went : (old new : DoorValue) (conn : ℕ) (P : Talk → Talk → Type 0) → ((t t' : Talk) → P t t' → RunsTo t t') → GoesOn old new conn P → AllRun old new
one_went old new conn P runs c = one_ran (record old { agent = new.agent; dues = new.dues; kept = new.kept }) new conn P runs c

one_trans : (a b c : Option Talk) → OneRuns a b → OneRuns b c → OneRuns a c
one_trans None None None h k = tt
one_trans None None (Some z) h k = absurd k
one_trans None (Some y) c h k = absurd h
one_trans (Some x) None c h k = absurd h
one_trans (Some x) (Some y) None h k = absurd k
one_trans (Some x) (Some y) (Some z) h k = runs_more x y z h k

talks_trans : (a b c : List (Option Talk)) → TalksRun a b → TalksRun b c → TalksRun a c
talks_trans [] [] [] h k = tt
talks_trans [] [] (z ∷ c) h k = absurd k
talks_trans [] (y ∷ b) c h k = absurd h
talks_trans (x ∷ a) [] c h k = absurd h
talks_trans (x ∷ a) (y ∷ b) [] h k = absurd k
talks_trans (x ∷ a) (y ∷ b) (z ∷ c) h k = (one_trans x y z h.0 k.0, talks_trans a b c h.1 k.1)

pub all_trans : (a b c : DoorValue) → AllRun a b → AllRun b c → AllRun a c
all_trans a b c h k =
    (k.0 ∙ ap (λ (x : DoorValue). record x { talks = c.talks; agent = c.agent; dues = c.dues; kept = c.kept }) h.0, talks_trans a.talks b.talks c.talks h.1 k.1)

-- ---- connections that are served

-- none is there
pub serves_nobody : (old new : DoorValue) (conn : ℕ) → talk_at old conn ≡ None → new ≡ old → ServesOne old new conn
serves_nobody old new conn none same = inl (none, same)

-- the next one is served
pub serves_next : (old between new : DoorValue) (conn : ℕ) → ServesBelow conn old between → ServesOne between new conn → ServesBelow (conn + 1) old new
serves_next old between new conn before one = rw (add-one conn) (between, before, one)

-- what the monitor did
pub books_on : (hosts : Hosts) (old new : Desk) (seats : List (Option Seat)) (d : DoorValue) → door_of hosts seats old ≡ d → Keeps old new → ReadingsGoOn (books_of old) (books_of new)
    → (door_of hosts seats new ≡ record d { agent = new.monitor.agent; kept = kept_of new }) × (new.tally.rows ≡ d.kept.rows)
books_on hosts old new seats d is keeps goes =
    (desk_on hosts old new seats d is keeps, ap (λ (b : Books). b.rows) goes ∙ ap (λ (x : DoorValue). x.kept.rows) is)
