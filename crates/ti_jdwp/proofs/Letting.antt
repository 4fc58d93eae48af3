-- Each thread whose stop is to be told is let go once.
use Rattle.std.proofs.Common.{◌≡◌, ℕ, ◌+◌, Bool, true, false, not, cond, filter, List, [], ◌∷◌, ◌++◌, length, take, drop, min, Option, Some, None, Result, Ok, Err, is_some, refl, sym, ap, subst, ◌∙◌, append_assoc, inl, inr}
use Rattle.std.specs.Prelude.{unwrap_or, bytes_eq, nat_lt, ◌==◌}
use Rattle.std.specs.List.{flat_map}
use Rattle.std.proofs.lemmas.Bool.{true≢false}
use Rattle.std.proofs.lemmas.List.{append-nil}
use Rattle.std.proofs.lemmas.Grind.{flat_map-append}
use Rattle.ti_jdwp.specs.declared.actions.Action.{Action}
use Rattle.ti_jdwp.specs.declared.actions.Action.TheVariants as action
use Rattle.ti_jdwp.specs.declared.actions.Phase.{Phase}
use Rattle.ti_jdwp.specs.declared.actions.Phase.TheVariants as phase
use Rattle.ti_jdwp.specs.declared.actions.Posted.{Posted}
use Rattle.ti_jdwp.specs.declared.actions.Posted.TheVariants as posted
use Rattle.ti_jdwp.specs.declared.actions.Purpose.{Purpose}
use Rattle.ti_jdwp.specs.declared.actions.Purpose.TheVariants as purpose
use Rattle.ti_jdwp.specs.declared.error.JdwpError.{JdwpError}
use Rattle.ti_jdwp.specs.declared.error.JdwpError.TheVariants as error
use Rattle.ti_jdwp.specs.declared.event.Event.{Event}
use Rattle.ti_jdwp.specs.declared.event.Spot.{Spot}
use Rattle.ti_jdwp.specs.declared.event_text.Occurrence.{Occurrence}
use Rattle.ti_jdwp.specs.declared.front.Front.{Front}
use Rattle.ti_jdwp.specs.declared.front.Front.TheVariants as front
use Rattle.ti_jdwp.specs.declared.notice.Notice.{Notice}
use Rattle.ti_jdwp.specs.declared.plan.Plan.{Plan}
use Rattle.ti_jdwp.specs.declared.plan.Plan.TheVariants as plan
use Rattle.ti_jdwp.specs.declared.plan.Wish.{Wish}
use Rattle.ti_jdwp.specs.declared.request.Policy.{Policy}
use Rattle.ti_jdwp.specs.declared.request.Policy.TheVariants as policy
use Rattle.ti_jdwp.specs.declared.request.Request.{Request}
use Rattle.ti_jdwp.specs.declared.stops.Standing.{Standing}
use Rattle.ti_jdwp.specs.declared.stops.Target.{Target}
use Rattle.ti_jdwp.specs.declared.stops.Target.TheVariants as target
use Rattle.ti_jdwp.specs.declared.stops.Verdict.{Verdict}
use Rattle.ti_jdwp.specs.declared.stops.Verdict.TheVariants as verdict
use Rattle.ti_jdwp.specs.Answered.{is_asked, listed_in, settled_in, placed_as, placed_in, located_as, located_in, unknown, PostedBy, PostedIn}
use Rattle.ti_jdwp.specs.Asking.{Reading}
use Rattle.ti_jdwp.specs.Constants.{constant_bytes}
use Rattle.ti_jdwp.specs.Errors.{number_of}
use Rattle.ti_jdwp.specs.Fields.{int}
use Rattle.ti_jdwp.specs.Holds.{held_threads, held_of, count_of}
use Rattle.ti_jdwp.specs.InForce.{Asked, is_told}
use Rattle.ti_jdwp.specs.Lines.{handshake, without_input}
use Rattle.ti_jdwp.specs.Notes.{is_over, queue_with, start_notice, BeginsIn, NotesIn}
use Rattle.ti_jdwp.specs.Plans.{plan_of}
use Rattle.ti_jdwp.specs.Queues.{Queue, may_tell, first, without_first}
use Rattle.ti_jdwp.specs.Requests.{request_in}
use Rattle.ti_jdwp.specs.StopNotes.{stop_for, StopsBy, StopsIn}
use Rattle.ti_jdwp.specs.Stops.{nowhere}
use Rattle.ti_jdwp.specs.Talks.{Talk, opened, data_of, replied, stopped, starved, greeted, after, closing}
use Rattle.ti_jdwp.specs.Steps.{Does, EndsBy, SuspendsBy, SuspendsNext, ResumesNext, tells, told_by, finishes, is_all, BeginsEvent, said_in, refused, Puts, PutsRead, PutsInForce, SetsFor, SetsRead, SetsEvent, clears, suspended_reply, asks, ServesBy, ServesRead, ReadsBy, GoesOnWith, GoesIn, writes_first, GoesFirst}
use Rattle.ti_jdwp.specs.SessionRuns.{Call, Fed, PeerEnded, Shut, Went, Failed, Replied, Listed, PostedAs, Settled, PlacedAs, LocatedAs, StoppedAt, Written, Happened, Began, Died, Step, Runs}
use Rattle.ti_jdwp.specs.SessionLets.{waits_by, stopped_by, lets_go, let_go_by, waits_for, first_waits, waiting, StopsAreLetGo}
use Rattle.ti_jdwp.proofs.Noting.{begins_keep, dies_ends, keeps, stops_keep}

never : {X : Type 0} → false ≡ true → X
never h = absurd (true≢false (sym h))

-- threads are suspended for an event, or the session ends
abbrev is_event : Purpose → Bool
is_event purpose.One = false
is_event purpose.All = false
is_event purpose.Event = true
is_event purpose.End = true

-- an event may be worked on
abbrev busy : Phase → Bool
busy phase.Greeting = false
busy phase.Ready = false
busy phase.Asking = false
busy (phase.Listing p) = is_event p
busy (phase.Stopping p) = is_event p
busy (phase.Suspending p u) = is_event p
busy (phase.Undoing p u) = is_event p
busy (phase.Settling p) = is_event p
busy (phase.Finishing p) = is_event p
busy phase.Refusing = false
busy (phase.Placing w) = false
busy (phase.Locating w) = false
busy (phase.Putting w k) = false
busy (phase.Denied d) = false
busy (phase.Numbered n) = false
busy phase.Resuming = false
busy phase.Ending = true
busy phase.Closed = true

-- an event that is worked on may be, at this phase
abbrev Fits : Talk → Phase → Type 0
Fits t p = is_some t.notice ≡ true → busy p ≡ true

abbrev Idle : Talk → Type 0
Idle t = Fits t t.phase

-- what a step leaves
record Lets (old new : Talk) (took gave : List ℕ) : Type 0 where
  balance : waiting old ++ took ≡ gave ++ waiting new
  idle : Idle new

no_event : (old : Talk) (q p : Phase) → old.phase ≡ q → busy q ≡ false → Idle old → Fits old p
no_event old q p at none idle = λ h. never (sym none ∙ sym (ap busy at) ∙ idle h)

stays_at : (old : Talk) (q : Phase) → old.phase ≡ q → Idle old → Fits old q
stays_at old q at idle = λ h. sym (ap busy at) ∙ idle h

-- the stops that wait are the same
same : (old new : Talk) (p : Phase) → new.phase ≡ p → Fits old p → new.notice ≡ old.notice → flat_map waits_for new.queue.waiting ≡ flat_map waits_for old.queue.waiting → Lets old new [] []
same old new p is fits notice queue = record {
  balance = append-nil (waiting old) ∙ sym (ap (λ o. first_waits o ++ flat_map waits_for new.queue.waiting) notice ∙ ap (λ l. first_waits old.notice ++ l) queue);
  idle = λ h. ap busy is ∙ fits (sym (ap is_some notice) ∙ h);
}

keep : (old new : Talk) (p : Phase) → new.phase ≡ p → Fits old p → new.notice ≡ old.notice → new.queue.waiting ≡ old.queue.waiting → Lets old new [] []
keep old new p is fits notice queue = same old new p is fits notice (ap (λ (l : List Notice). flat_map waits_for l) queue)

-- a step that does this, and keeps them
does : (old new next : Talk) (told act : Action) (p : Phase) → lets_go told ≡ [] → Does (told, next) act new → next.phase ≡ p → Fits old p → next.notice ≡ old.notice → next.queue.waiting ≡ old.queue.waiting → Lets old new [] (lets_go act)
does old new next told act p none s is fits notice queue =
    subst (λ g. Lets old new [] g) (sym (ap lets_go s.0 ∙ none))
    (keep old new p (ap (λ (x : Talk). x.phase) s.1 ∙ is) fits (ap (λ (x : Talk). x.notice) s.1 ∙ notice) (ap (λ (x : Talk). x.queue.waiting) s.1 ∙ queue))

suspends : (p : Purpose) (u : ℕ) (old new : Talk) (act : Action) → (is_some old.notice ≡ true → is_event p ≡ true) → SuspendsBy p u old act new → Lets old new [] (lets_go act)
suspends p u old new action.Again fits s = keep old new (phase.Stopping p) (ap (λ (x : Talk). x.phase) s.0) fits (ap (λ (x : Talk). x.notice) s.0) (ap (λ (x : Talk). x.queue.waiting) s.0)
suspends p u old new (action.Suspend v) fits s = keep old new (phase.Suspending p u) (ap (λ (x : Talk). x.phase) s.2) fits (ap (λ (x : Talk). x.notice) s.2) (ap (λ (x : Talk). x.queue.waiting) s.2)
suspends p u old new (action.Ask r) fits s = absurd s
suspends p u old new action.ListThreads fits s = absurd s
suspends p u old new (action.SetBreakpoint k m i) fits s = absurd s
suspends p u old new (action.Locate v) fits s = absurd s
suspends p u old new (action.LetGo v) fits s = absurd s
suspends p u old new action.Settle fits s = absurd s
suspends p u old new (action.Resume v) fits s = absurd s
suspends p u old new action.Write fits s = absurd s
suspends p u old new action.Close fits s = absurd s
suspends p u old new action.Wait fits s = absurd s

next : (p : Purpose) (old new : Talk) (act : Action) → (is_some old.notice ≡ true → is_event p ≡ true) → SuspendsNext p old act new → Lets old new [] (lets_go act)
next p old new action.Again fits s = let l = suspends p s.0 (record old { work = new.work }) new action.Again fits s.2 in record { balance = l.balance; idle = l.idle }
next p old new (action.Ask r) fits s = let l = suspends p s.0 (record old { work = new.work }) new (action.Ask r) fits s.2 in record { balance = l.balance; idle = l.idle }
next p old new action.ListThreads fits s = let l = suspends p s.0 (record old { work = new.work }) new action.ListThreads fits s.2 in record { balance = l.balance; idle = l.idle }
next p old new (action.SetBreakpoint k m i) fits s = let l = suspends p s.0 (record old { work = new.work }) new (action.SetBreakpoint k m i) fits s.2 in record { balance = l.balance; idle = l.idle }
next p old new (action.Locate v) fits s = let l = suspends p s.0 (record old { work = new.work }) new (action.Locate v) fits s.2 in record { balance = l.balance; idle = l.idle }
next p old new (action.LetGo v) fits s = let l = suspends p s.0 (record old { work = new.work }) new (action.LetGo v) fits s.2 in record { balance = l.balance; idle = l.idle }
next p old new (action.Suspend v) fits s = let l = suspends p s.0 (record old { work = new.work }) new (action.Suspend v) fits s.2 in record { balance = l.balance; idle = l.idle }
next p old new action.Settle fits s = keep old new (phase.Settling p) (ap (λ (x : Talk). x.phase) s.1) fits (ap (λ (x : Talk). x.notice) s.1) (ap (λ (x : Talk). x.queue.waiting) s.1)
next p old new (action.Resume v) fits s = let l = suspends p s.0 (record old { work = new.work }) new (action.Resume v) fits s.2 in record { balance = l.balance; idle = l.idle }
next p old new action.Write fits s = let l = suspends p s.0 (record old { work = new.work }) new action.Write fits s.2 in record { balance = l.balance; idle = l.idle }
next p old new action.Close fits s = let l = suspends p s.0 (record old { work = new.work }) new action.Close fits s.2 in record { balance = l.balance; idle = l.idle }
next p old new action.Wait fits s = let l = suspends p s.0 (record old { work = new.work }) new action.Wait fits s.2 in record { balance = l.balance; idle = l.idle }

resumes : (old new : Talk) (act : Action) → old.phase ≡ phase.Resuming → Idle old → ResumesNext old act new → Lets old new [] (lets_go act)
resumes old new action.Again at idle s = keep old new phase.Resuming ((ap (λ (x : Talk). x.phase) s.1) ∙ at) (stays_at old phase.Resuming at idle) (ap (λ (x : Talk). x.notice) s.1) (ap (λ (x : Talk). x.queue.waiting) s.1)
resumes old new (action.Resume v) at idle s = keep old new phase.Resuming ((ap (λ (x : Talk). x.phase) s.2) ∙ at) (stays_at old phase.Resuming at idle) (ap (λ (x : Talk). x.notice) s.2) (ap (λ (x : Talk). x.queue.waiting) s.2)
resumes old new action.Write at idle s = keep old new phase.Ready (ap (λ (x : Talk). x.phase) s.1) (no_event old phase.Resuming phase.Ready at refl idle) (ap (λ (x : Talk). x.notice) s.1) (ap (λ (x : Talk). x.queue.waiting) s.1)
resumes old new (action.Ask r) at idle s = absurd s
resumes old new action.ListThreads at idle s = absurd s
resumes old new (action.SetBreakpoint k m i) at idle s = absurd s
resumes old new (action.Locate v) at idle s = absurd s
resumes old new (action.LetGo v) at idle s = absurd s
resumes old new (action.Suspend v) at idle s = absurd s
resumes old new action.Settle at idle s = absurd s
resumes old new action.Close at idle s = absurd s
resumes old new action.Wait at idle s = absurd s

ends : (old new : Talk) (act : Action) → old.phase ≡ phase.Ending → EndsBy act old new → Lets old new [] (lets_go act)
ends old new action.Again at s = keep old new phase.Ending ((ap (λ (x : Talk). x.phase) s.1) ∙ at) (λ h. refl) (ap (λ (x : Talk). x.notice) s.1) (ap (λ (x : Talk). x.queue.waiting) s.1)
ends old new (action.Resume v) at s = keep old new phase.Ending ((ap (λ (x : Talk). x.phase) s.1) ∙ at) (λ h. refl) (ap (λ (x : Talk). x.notice) s.1) (ap (λ (x : Talk). x.queue.waiting) s.1)
ends old new action.Write at s = keep old new phase.Ending ((ap (λ (x : Talk). x.phase) s.2) ∙ at) (λ h. refl) (ap (λ (x : Talk). x.notice) s.2) (ap (λ (x : Talk). x.queue.waiting) s.2)
ends old new action.Close at s = keep old new phase.Closed (ap (λ (x : Talk). x.phase) s.2) (λ h. refl) (ap (λ (x : Talk). x.notice) s.2) (ap (λ (x : Talk). x.queue.waiting) s.2)
ends old new (action.Ask r) at s = absurd s
ends old new action.ListThreads at s = absurd s
ends old new (action.SetBreakpoint k m i) at s = absurd s
ends old new (action.Locate v) at s = absurd s
ends old new (action.LetGo v) at s = absurd s
ends old new (action.Suspend v) at s = absurd s
ends old new action.Settle at s = absurd s
ends old new action.Wait at s = absurd s

puts : (w : Wish) (r : Reading) (old new : Talk) (act : Action) → ((p : Phase) → Fits old p) → Puts w r old act new → Lets old new [] (lets_go act)
puts w r old new action.Again fits s = keep old new (phase.Numbered (old.requests.given + 1)) (ap (λ (x : Talk). x.phase) s) (fits (phase.Numbered (old.requests.given + 1))) (ap (λ (x : Talk). x.notice) s) (ap (λ (x : Talk). x.queue.waiting) s)
puts w r old new action.Write fits s = keep old new phase.Ready (ap (λ (x : Talk). x.phase) s) (fits phase.Ready) (ap (λ (x : Talk). x.notice) s) (ap (λ (x : Talk). x.queue.waiting) s)
puts w r old new (action.Ask r') fits s = absurd s
puts w r old new action.ListThreads fits s = absurd s
puts w r old new (action.SetBreakpoint k m i) fits s = absurd s
puts w r old new (action.Locate v) fits s = absurd s
puts w r old new (action.LetGo v) fits s = absurd s
puts w r old new (action.Suspend v) fits s = absurd s
puts w r old new action.Settle fits s = absurd s
puts w r old new (action.Resume v) fits s = absurd s
puts w r old new action.Close fits s = absurd s
puts w r old new action.Wait fits s = absurd s

-- a reply, or another step after which no event is worked on
replies : (old new : Talk) (a : Result (List ℕ) ℕ) (act : Action) → ((p : Phase) → Fits old p) → Does (action.Write, replied old a) act new → Lets old new [] (lets_go act)
replies old new a act fits s = does old new (replied old a) action.Write act phase.Ready refl s refl (fits phase.Ready) refl refl

read_puts : (x : Result Reading JdwpError) (w : Wish) (old new : Talk) (act : Action) → ((p : Phase) → Fits old p) → PutsRead x w old act new → Lets old new [] (lets_go act)
read_puts (Err e) w old new act fits s = replies old new (Err (number_of e)) act fits s
read_puts (Ok r) w old new act fits s = puts w r old new act fits s

in_force : (w : Wish) (from : Standing) (old new : Talk) (act : Action) → ((p : Phase) → Fits old p) → PutsInForce w from old act new → Lets old new [] (lets_go act)
in_force w from old new act fits s = elim s [
  | inl a ↦ read_puts (said_in w from old) w old new act fits a
  | inr a ↦ replies old new (Err 110) act fits a
]

locates : (b : Bool) (u : ℕ) (w : Wish) (old new : Talk) (act : Action) → ((p : Phase) → Fits old p)
    → Does (cond b (refused error.ThreadNotSuspended old) (action.Locate u, record old { phase = phase.Locating w })) act new → Lets old new [] (lets_go act)
locates true u w old new act fits s = replies old new (Err 13) act fits s
locates false u w old new act fits s = does old new (record old { phase = phase.Locating w }) (action.Locate u) act (phase.Locating w) refl s refl (fits (phase.Locating w)) refl refl

sets_for : (g : Target) (w : Wish) (r : Reading) (old new : Talk) (act : Action) → ((p : Phase) → Fits old p) → SetsFor g w r old act new → Lets old new [] (lets_go act)
sets_for target.Anywhere w r old new act fits s = puts w r old new act fits s
sets_for (target.Place k m i) w r old new act fits s = does old new (record old { phase = phase.Placing w }) (action.SetBreakpoint k m i) act (phase.Placing w) refl s refl (fits (phase.Placing w)) refl refl
sets_for (target.Step step) w r old new act fits s = locates (count_of old.holds step.thread == 0) step.thread w old new act fits s

read_sets : (x : Result Reading JdwpError) (w : Wish) (old new : Talk) (act : Action) → ((p : Phase) → Fits old p) → SetsRead x w old act new → Lets old new [] (lets_go act)
read_sets (Err e) w old new act fits s = replies old new (Err (number_of e)) act fits s
read_sets (Ok r) w old new act fits s = sets_for r.target w r old new act fits s

sets : (w : Wish) (old new : Talk) (act : Action) → ((p : Phase) → Fits old p) → SetsEvent w old act new → Lets old new [] (lets_go act)
sets w old new act fits s = elim s [
  | inl a ↦ read_sets (said_in w nowhere old) w old new act fits a
  | inr a ↦ replies old new (Err 110) act fits a
]

freed : (b : Bool) (q : Queue) → (cond b (record q { stopped = false }) q).waiting ≡ q.waiting
freed true q = refl
freed false q = refl

resumed : (b : Bool) (u : ℕ) → lets_go (cond b (action.Resume u) action.Write) ≡ []
resumed true u = refl
resumed false u = refl

stack : (b : Bool) (r : Request) (old new : Talk) (act : Action) → ((p : Phase) → Fits old p) → Does (cond b (action.Write, replied old (Err 13)) (action.Ask r, asks old)) act new → Lets old new [] (lets_go act)
stack true r old new act fits s = replies old new (Err 13) act fits s
stack false r old new act fits s = does old new (asks old) (action.Ask r) act phase.Asking refl s refl (fits phase.Asking) refl refl

serves : (pl : Plan) (r : Request) (old new : Talk) (act : Action) → ((p : Phase) → Fits old p) → ServesBy pl r old act new → Lets old new [] (lets_go act)
serves (plan.Refuse e) r old new act fits s = replies old new (Err (number_of e)) act fits s
serves (plan.Constant k) r old new act fits s = replies old new (Ok (constant_bytes k)) act fits s
serves plan.Ask r old new act fits s = does old new (asks old) (action.Ask r) act phase.Asking refl s refl (fits phase.Asking) refl refl
serves (plan.AskStack thread) r old new act fits s = stack (count_of old.holds thread == 0) r old new act fits s
serves (plan.Count thread) r old new act fits s = replies old new (Ok (int (count_of old.holds thread))) act fits s
serves (plan.Suspend thread) r old new act fits s = suspends purpose.One thread old new act (fits (phase.Stopping purpose.One)) s
serves (plan.Resume thread) r old new act fits s =
    subst (λ g. Lets old new [] g) (sym (ap lets_go s.2 ∙ resumed s.0 thread))
    (keep old new phase.Ready (ap (λ (x : Talk). x.phase) s.3) (fits phase.Ready) (ap (λ (x : Talk). x.notice) s.3) (ap (λ (x : Talk). x.queue.waiting) s.3 ∙ freed (held_of new.holds == 0) old.queue))
serves plan.SuspendAll r old new act fits s = does old new (record old { phase = phase.Listing purpose.All }) action.ListThreads act (phase.Listing purpose.All) refl s refl (fits (phase.Listing purpose.All)) refl refl
serves plan.ResumeAll r old new act fits s = does old new (record old { phase = phase.Resuming; work = held_threads old.holds }) action.Again act phase.Resuming refl s refl (fits phase.Resuming) refl refl
serves plan.Hold r old new act fits s = does old new (record (replied old (Ok [])) { queue = record old.queue { held = true } }) action.Write act phase.Ready refl s refl (fits phase.Ready) refl refl
serves plan.Release r old new act fits s = does old new (record (replied old (Ok [])) { queue = record old.queue { held = false } }) action.Write act phase.Ready refl s refl (fits phase.Ready) refl refl
serves (plan.Set w) r old new act fits s = sets w old new act fits s
serves (plan.Clear kind number) r old new act fits s = does old new (clears kind number old) action.Write act phase.Ready refl s refl (fits phase.Ready) refl refl
serves plan.Dispose r old new act fits s = does old new (stopped (replied old (Ok []))) action.Again act phase.Ending refl s refl (fits phase.Ending) refl refl

reads : (x : Result Request JdwpError) (old new : Talk) (act : Action) → ((p : Phase) → Fits old p) → ServesRead x old act new → Lets old new [] (lets_go act)
reads (Err e) old new act fits s = replies old new (Err (number_of e)) act fits s
reads (Ok r) old new act fits s = serves (plan_of r) r old new act fits s

starves : (b : Bool) (old new : Talk) (act : Action) → ((p : Phase) → Fits old p) → Does (cond b (action.Again, stopped old) (action.Wait, old)) act new → Lets old new [] (lets_go act)
starves true old new act fits s = does old new (stopped old) action.Again act phase.Ending refl s refl (fits phase.Ending) refl refl
starves false old new act fits s = does old new old action.Wait act old.phase refl s refl (fits old.phase) refl refl

fronts : (f : Front) (old new : Talk) (act : Action) → ((p : Phase) → Fits old p) → ReadsBy f old act new → Lets old new [] (lets_go act)
fronts front.More old new act fits s = starves old.ended old new act fits s
fronts front.Broken old new act fits s = does old new (stopped old) action.Again act phase.Ending refl s refl (fits phase.Ending) refl refl
fronts (front.Reply n) old new act fits s = does old new (record old { bytes = without_input old.bytes n }) action.Again act old.phase refl s refl (fits old.phase) refl refl
fronts (front.Request f) old new act fits s =
    let l = reads (request_in f.set f.command (data_of f old.bytes.input)) (record old { first = f }) new act fits s in
    record { balance = l.balance; idle = l.idle }

begins : (p : Policy) (thread : ℕ) (old new : Talk) (act : Action) → BeginsEvent p thread old act new → Lets old new [] (lets_go act)
begins policy.None thread old new act s = does old new (record old { phase = phase.Finishing purpose.Event }) action.Again act (phase.Finishing purpose.Event) refl s refl (λ h. refl) refl refl
begins policy.EventThread thread old new act s = suspends purpose.Event thread old new act (λ h. refl) s
begins policy.All thread old new act s = does old new (record old { phase = phase.Listing purpose.Event }) action.ListThreads act (phase.Listing purpose.Event) refl s refl (λ h. refl) refl refl

-- the notice that waits longest
first_of : (ws : List Notice) (n : Notice) → first ws ≡ Some n → flat_map waits_for ws ≡ waits_for n ++ flat_map waits_for (drop 1 ws)
first_of [] n h = cc
first_of (m ∷ ws) n h =
    let is : m ≡ n = ap (λ (o : Option Notice). unwrap_or o n) h in
    ap (λ (k : Notice). waits_for k ++ flat_map waits_for ws) is

taken : (b : Bool) (o : Option Notice) (n : Notice) → cond b o None ≡ Some n → o ≡ Some n
taken true o n h = h
taken false o n h = cc

none_of : (o : Option Notice) → (is_some o ≡ true → false ≡ true) → o ≡ None
none_of None h = refl
none_of (Some n) h = never (h refl)

on : (n : Option Notice) (old new : Talk) (act : Action) → cond (may_tell old.queue) (first old.queue.waiting) None ≡ n → old.phase ≡ phase.Ready → Idle old → GoesOnWith n old act new → Lets old new [] (lets_go act)
on None old new act is at idle s = fronts s.0 old new act (λ p. no_event old phase.Ready p at refl idle) s.2
on (Some n) old new act is at idle s =
    let next' : Talk = record old { queue = without_first old.queue; notice = Some n } in
    let l = begins n.policy n.thread next' new act s in
    let none : old.notice ≡ None = none_of old.notice (no_event old phase.Ready phase.Ready at refl idle) in
    let moved : waiting old ≡ waiting next' = ap (λ o. first_waits o ++ flat_map waits_for old.queue.waiting) none ∙ first_of old.queue.waiting n (taken (may_tell old.queue) (first old.queue.waiting) n is) in
    record { balance = ap (λ l. l ++ []) moved ∙ l.balance; idle = l.idle }

queue_of : (p : Policy) (q : Queue) → (cond (is_all p) (record q { stopped = true }) q).waiting ≡ q.waiting
queue_of policy.None q = refl
queue_of policy.EventThread q = refl
queue_of policy.All q = refl

act_of : (b : Bool) (u : ℕ) → lets_go (cond b (action.LetGo u) action.Write) ≡ cond b (u ∷ []) []
act_of true u = refl
act_of false u = refl

-- an event is told, and the thread that waited for it is let go
told : (n : Option Notice) (old new : Talk) (act : Action) → old.notice ≡ n → act ≡ told_by n → new ≡ tells n old → Lets old new [] (lets_go act)
told None old new act at acts is = record {
  balance =
      append-nil (waiting old) ∙ ap (λ o. first_waits o ++ flat_map waits_for old.queue.waiting) at
      ∙ sym (ap (λ a. lets_go a ++ waiting new) acts ∙ ap (λ (x : Talk). waiting x) is);
  idle = λ h. never (sym (ap (λ (x : Talk). is_some x.notice) is) ∙ h);
}
told (Some n) old new act at acts is = record {
  balance =
      append-nil (waiting old) ∙ ap (λ o. first_waits o ++ flat_map waits_for old.queue.waiting) at
      ∙ sym (ap (λ a. lets_go a ++ waiting new) acts ∙ ap (λ l. l ++ waiting new) (act_of n.stop n.thread)
      ∙ ap (λ (x : Talk). waits_for n ++ waiting x) is ∙ ap (λ (ws : List Notice). waits_for n ++ flat_map waits_for ws) (queue_of n.policy old.queue));
  idle = λ h. never (sym (ap (λ (x : Talk). is_some x.notice) is) ∙ h);
}

finish : (p : Purpose) (old new : Talk) (act : Action) → old.phase ≡ phase.Finishing p → Idle old → Does (finishes p old) act new → Lets old new [] (lets_go act)
finish purpose.One old new act at idle s = does old new (suspended_reply old) action.Write act phase.Ready refl s refl (no_event old (phase.Finishing purpose.One) phase.Ready at refl idle) refl refl
finish purpose.All old new act at idle s = does old new (suspended_reply old) action.Write act phase.Ready refl s refl (no_event old (phase.Finishing purpose.All) phase.Ready at refl idle) refl refl
finish purpose.Event old new act at idle s = told old.notice old new act refl s.0 s.1
finish purpose.End old new act at idle s = does old new (record old { phase = phase.Ending }) action.Again act phase.Ending refl s refl (λ h. refl) refl refl

greets : (b c : Bool) (old new : Talk) (act : Action) → ((p : Phase) → Fits old p) → Does (cond b (action.Again, stopped old) (cond c (starved old) (action.Write, greeted old))) act new → Lets old new [] (lets_go act)
greets true c old new act fits s = does old new (stopped old) action.Again act phase.Ending refl s refl (fits phase.Ending) refl refl
greets false true old new act fits s = starves old.ended old new act fits s
greets false false old new act fits s = does old new (greeted old) action.Write act phase.Ready refl s refl (fits phase.Ready) refl refl

after_fits : (p : Purpose) → is_event p ≡ true → busy (after p) ≡ true
after_fits purpose.One h = never h
after_fits purpose.All h = never h
after_fits purpose.Event h = refl
after_fits purpose.End h = refl

unknown_fits : (p : Purpose) → is_event p ≡ true → busy (unknown p) ≡ true
unknown_fits purpose.One h = never h
unknown_fits purpose.All h = never h
unknown_fits purpose.Event h = refl
unknown_fits purpose.End h = refl

waits : (old new : Talk) (told' act : Action) → lets_go told' ≡ [] → Idle old → Does (told', old) act new → Lets old new [] (lets_go act)
waits old new told' act none idle s = does old new old told' act old.phase none s refl idle refl refl

goes : (q : Phase) (old new : Talk) (act : Action) → old.phase ≡ q → Idle old → GoesIn q old act new → Lets old new [] (lets_go act)
goes phase.Greeting old new act at idle s = greets
    (not (bytes_eq (take (min (length old.bytes.input) 14) old.bytes.input) (take (min (length old.bytes.input) 14) handshake)))
    (nat_lt (min (length old.bytes.input) 14) 14) old new act (λ p. no_event old phase.Greeting p at refl idle) s
goes phase.Ready old new act at idle s = on (cond (may_tell old.queue) (first old.queue.waiting) None) old new act refl at idle s
goes phase.Asking old new act at idle s = waits old new action.Wait act refl idle s
goes (phase.Listing p) old new act at idle s = waits old new action.Wait act refl idle s
goes (phase.Stopping p) old new act at idle s = next p old new act (stays_at old (phase.Stopping p) at idle) s
goes (phase.Suspending p u) old new act at idle s = waits old new action.Wait act refl idle s
goes (phase.Undoing p u) old new act at idle s = does old new (record old { phase = after p }) (action.Resume u) act (after p) refl s refl (λ h. after_fits p (stays_at old (phase.Undoing p u) at idle h)) refl refl
goes (phase.Settling p) old new act at idle s = waits old new action.Wait act refl idle s
goes (phase.Finishing p) old new act at idle s = finish p old new act at idle s
goes phase.Refusing old new act at idle s = replies old new (Err 10) act (λ p. no_event old phase.Refusing p at refl idle) s
goes (phase.Placing w) old new act at idle s = waits old new action.Wait act refl idle s
goes (phase.Locating w) old new act at idle s = waits old new action.Wait act refl idle s
goes (phase.Putting w k) old new act at idle s = in_force w k old new act (λ p. no_event old (phase.Putting w k) p at refl idle) s
goes (phase.Denied d) old new act at idle s = replies old new (Err (number_of d)) act (λ p. no_event old (phase.Denied d) p at refl idle) s
goes (phase.Numbered n) old new act at idle s = replies old new (Ok (int n)) act (λ p. no_event old (phase.Numbered n) p at refl idle) s
goes phase.Resuming old new act at idle s = resumes old new act at idle s
goes phase.Ending old new act at idle s = ends old new act at s
goes phase.Closed old new act at idle s = waits old new action.Close act refl idle s

goes_first : (b : Bool) (old new : Talk) (act : Action) → Idle old → GoesFirst b old act new → Lets old new [] (lets_go act)
goes_first true old new act idle s = waits old new action.Write act refl idle s
goes_first false old new act idle s = goes old.phase old new act refl idle s

some_is : (x y d : Talk) → Some x ≡ Some y → y ≡ x
some_is x y d h = sym (ap (λ (o : Option Talk). unwrap_or o d) h)

-- a step that says what comes of it
is_so : (old new next' : Talk) (p : Phase) → new ≡ next' → next'.phase ≡ p → Fits old p → next'.notice ≡ old.notice → next'.queue.waiting ≡ old.queue.waiting → Lets old new [] []
is_so old new next' p is at fits notice queue = keep old new p (ap (λ (x : Talk). x.phase) is ∙ at) fits (ap (λ (x : Talk). x.notice) is ∙ notice) (ap (λ (x : Talk). x.queue.waiting) is ∙ queue)

closes : (q : Phase) → busy q ≡ true → busy (closing q) ≡ true
closes phase.Greeting h = refl
closes phase.Ready h = refl
closes phase.Asking h = refl
closes (phase.Listing p) h = refl
closes (phase.Stopping p) h = refl
closes (phase.Suspending p u) h = refl
closes (phase.Undoing p u) h = refl
closes (phase.Settling p) h = refl
closes (phase.Finishing p) h = refl
closes phase.Refusing h = refl
closes (phase.Placing w) h = refl
closes (phase.Locating w) h = refl
closes (phase.Putting w k) h = refl
closes (phase.Denied d) h = refl
closes (phase.Numbered n) h = refl
closes phase.Resuming h = refl
closes phase.Ending h = refl
closes phase.Closed h = refl

lists : (q : Phase) (threads : List ℕ) (old new : Talk) → old.phase ≡ q → Idle old → listed_in q threads old ≡ Some new → Lets old new [] []
lists phase.Greeting threads old new at idle s = cc
lists phase.Ready threads old new at idle s = cc
lists phase.Asking threads old new at idle s = cc
lists (phase.Listing p) threads old new at idle s = is_so old new (record old { work = threads; phase = phase.Stopping p }) (phase.Stopping p) (some_is _ _ old s) refl (stays_at old (phase.Listing p) at idle) refl refl
lists (phase.Stopping p) threads old new at idle s = cc
lists (phase.Suspending p u) threads old new at idle s = cc
lists (phase.Undoing p u) threads old new at idle s = cc
lists (phase.Settling p) threads old new at idle s = cc
lists (phase.Finishing p) threads old new at idle s = cc
lists phase.Refusing threads old new at idle s = cc
lists (phase.Placing w) threads old new at idle s = cc
lists (phase.Locating w) threads old new at idle s = cc
lists (phase.Putting w k) threads old new at idle s = cc
lists (phase.Denied d) threads old new at idle s = cc
lists (phase.Numbered n) threads old new at idle s = cc
lists phase.Resuming threads old new at idle s = cc
lists phase.Ending threads old new at idle s = cc
lists phase.Closed threads old new at idle s = cc

settles : (q : Phase) (old new : Talk) → old.phase ≡ q → Idle old → settled_in q old ≡ Some new → Lets old new [] []
settles phase.Greeting old new at idle s = cc
settles phase.Ready old new at idle s = cc
settles phase.Asking old new at idle s = cc
settles (phase.Listing p) old new at idle s = cc
settles (phase.Stopping p) old new at idle s = cc
settles (phase.Suspending p u) old new at idle s = cc
settles (phase.Undoing p u) old new at idle s = cc
settles (phase.Settling p) old new at idle s = is_so old new (record old { phase = phase.Finishing p }) (phase.Finishing p) (some_is _ _ old s) refl (stays_at old (phase.Settling p) at idle) refl refl
settles (phase.Finishing p) old new at idle s = cc
settles phase.Refusing old new at idle s = cc
settles (phase.Placing w) old new at idle s = cc
settles (phase.Locating w) old new at idle s = cc
settles (phase.Putting w k) old new at idle s = cc
settles (phase.Denied d) old new at idle s = cc
settles (phase.Numbered n) old new at idle s = cc
settles phase.Resuming old new at idle s = cc
settles phase.Ending old new at idle s = cc
settles phase.Closed old new at idle s = cc

places : (q : Phase) (placed : Result (Unit {0}) JdwpError) (old new : Talk) → old.phase ≡ q → Idle old → placed_in q placed old ≡ Some new → Lets old new [] []
places phase.Greeting placed old new at idle s = cc
places phase.Ready placed old new at idle s = cc
places phase.Asking placed old new at idle s = cc
places (phase.Listing p) placed old new at idle s = cc
places (phase.Stopping p) placed old new at idle s = cc
places (phase.Suspending p u) placed old new at idle s = cc
places (phase.Undoing p u) placed old new at idle s = cc
places (phase.Settling p) placed old new at idle s = cc
places (phase.Finishing p) placed old new at idle s = cc
places phase.Refusing placed old new at idle s = cc
places (phase.Placing w) placed old new at idle s = is_so old new (record old { phase = placed_as w placed }) (placed_as w placed) (some_is _ _ old s) refl (no_event old (phase.Placing w) (placed_as w placed) at refl idle) refl refl
places (phase.Locating w) placed old new at idle s = cc
places (phase.Putting w k) placed old new at idle s = cc
places (phase.Denied d) placed old new at idle s = cc
places (phase.Numbered n) placed old new at idle s = cc
places phase.Resuming placed old new at idle s = cc
places phase.Ending placed old new at idle s = cc
places phase.Closed placed old new at idle s = cc

finds : (q : Phase) (standing : Option Standing) (old new : Talk) → old.phase ≡ q → Idle old → located_in q standing old ≡ Some new → Lets old new [] []
finds phase.Greeting standing old new at idle s = cc
finds phase.Ready standing old new at idle s = cc
finds phase.Asking standing old new at idle s = cc
finds (phase.Listing p) standing old new at idle s = cc
finds (phase.Stopping p) standing old new at idle s = cc
finds (phase.Suspending p u) standing old new at idle s = cc
finds (phase.Undoing p u) standing old new at idle s = cc
finds (phase.Settling p) standing old new at idle s = cc
finds (phase.Finishing p) standing old new at idle s = cc
finds phase.Refusing standing old new at idle s = cc
finds (phase.Placing w) standing old new at idle s = cc
finds (phase.Locating w) standing old new at idle s = is_so old new (record old { phase = located_as w standing }) (located_as w standing) (some_is _ _ old s) refl (no_event old (phase.Locating w) (located_as w standing) at refl idle) refl refl
finds (phase.Putting w k) standing old new at idle s = cc
finds (phase.Denied d) standing old new at idle s = cc
finds (phase.Numbered n) standing old new at idle s = cc
finds phase.Resuming standing old new at idle s = cc
finds phase.Ending standing old new at idle s = cc
finds phase.Closed standing old new at idle s = cc

posts_by : (p : Purpose) (u : ℕ) (post : Posted) (old new : Talk) → (is_some old.notice ≡ true → is_event p ≡ true) → PostedBy p u post old new → Lets old new [] []
posts_by p u posted.Suspended old new fits s = elim s [
  | inl a ↦ keep old new (after p) (ap (λ (x : Talk). x.phase) a.1) (λ h. after_fits p (fits h)) (ap (λ (x : Talk). x.notice) a.1) (ap (λ (x : Talk). x.queue.waiting) a.1)
  | inr a ↦ keep old new (phase.Undoing p u) (ap (λ (x : Talk). x.phase) a) fits (ap (λ (x : Talk). x.notice) a) (ap (λ (x : Talk). x.queue.waiting) a)
]
posts_by p u posted.ByAnother old new fits s = elim s [
  | inl a ↦ keep old new (after p) (ap (λ (x : Talk). x.phase) a.1) (λ h. after_fits p (fits h)) (ap (λ (x : Talk). x.notice) a.1) (ap (λ (x : Talk). x.queue.waiting) a.1)
  | inr a ↦ keep old new (after p) (ap (λ (x : Talk). x.phase) a) (λ h. after_fits p (fits h)) (ap (λ (x : Talk). x.notice) a) (ap (λ (x : Talk). x.queue.waiting) a)
]
posts_by p u posted.NotAlive old new fits s = keep old new (after p) (ap (λ (x : Talk). x.phase) s) (λ h. after_fits p (fits h)) (ap (λ (x : Talk). x.notice) s) (ap (λ (x : Talk). x.queue.waiting) s)
posts_by p u posted.Unknown old new fits s = keep old new (unknown p) (ap (λ (x : Talk). x.phase) s) (λ h. unknown_fits p (fits h)) (ap (λ (x : Talk). x.notice) s) (ap (λ (x : Talk). x.queue.waiting) s)

posts : (q : Phase) (post : Posted) (old new : Talk) → old.phase ≡ q → Idle old → PostedIn q post old new → Lets old new [] []
posts phase.Greeting post old new at idle s = absurd s
posts phase.Ready post old new at idle s = absurd s
posts phase.Asking post old new at idle s = absurd s
posts (phase.Listing p) post old new at idle s = absurd s
posts (phase.Stopping p) post old new at idle s = absurd s
posts (phase.Suspending p u) post old new at idle s = posts_by p u post old new (stays_at old (phase.Suspending p u) at idle) s
posts (phase.Undoing p u) post old new at idle s = absurd s
posts (phase.Settling p) post old new at idle s = absurd s
posts (phase.Finishing p) post old new at idle s = absurd s
posts phase.Refusing post old new at idle s = absurd s
posts (phase.Placing w) post old new at idle s = absurd s
posts (phase.Locating w) post old new at idle s = absurd s
posts (phase.Putting w k) post old new at idle s = absurd s
posts (phase.Denied d) post old new at idle s = absurd s
posts (phase.Numbered n) post old new at idle s = absurd s
posts phase.Resuming post old new at idle s = absurd s
posts phase.Ending post old new at idle s = absurd s
posts phase.Closed post old new at idle s = absurd s

answers : (q : Phase) (a : Result (List ℕ) ℕ) (old new : Talk) → old.phase ≡ q → Idle old → is_asked q ≡ true → new ≡ replied old a → Lets old new [] []
answers phase.Greeting a old new at idle h s = never h
answers phase.Ready a old new at idle h s = never h
answers phase.Asking a old new at idle h s = is_so old new (replied old a) phase.Ready s refl (no_event old phase.Asking phase.Ready at refl idle) refl refl
answers (phase.Listing p) a old new at idle h s = never h
answers (phase.Stopping p) a old new at idle h s = never h
answers (phase.Suspending p u) a old new at idle h s = never h
answers (phase.Undoing p u) a old new at idle h s = never h
answers (phase.Settling p) a old new at idle h s = never h
answers (phase.Finishing p) a old new at idle h s = never h
answers phase.Refusing a old new at idle h s = never h
answers (phase.Placing w) a old new at idle h s = never h
answers (phase.Locating w) a old new at idle h s = never h
answers (phase.Putting w k) a old new at idle h s = never h
answers (phase.Denied d) a old new at idle h s = never h
answers (phase.Numbered n) a old new at idle h s = never h
answers phase.Resuming a old new at idle h s = never h
answers phase.Ending a old new at idle h s = never h
answers phase.Closed a old new at idle h s = never h

-- one more notice waits
one_more : (ws : List Notice) (n : Notice) → flat_map waits_for (ws ++ n ∷ []) ≡ flat_map waits_for ws ++ waits_for n
one_more ws n = flat_map-append waits_for ws (n ∷ []) ∙ ap (λ l. flat_map waits_for ws ++ l) (append-nil (waits_for n))

quiet_queue : (e : Event) (o : Occurrence) (rs : List Asked) (q : Queue) → flat_map waits_for (queue_with e o rs q).waiting ≡ flat_map waits_for q.waiting
quiet_queue e o [] q = refl
quiet_queue e o (r ∷ rs) q = one_more q.waiting _ ∙ append-nil (flat_map waits_for q.waiting)

-- an event lets no thread wait
notes : (b result : Bool) (e : Event) (o : Occurrence) (old new : Talk) → NotesIn b e o old result new → flat_map waits_for new.queue.waiting ≡ flat_map waits_for old.queue.waiting
notes true result e o old new s = ap (λ (x : Talk). flat_map waits_for x.queue.waiting) s.1
notes false true e o old new s = ap (λ (x : Talk). flat_map waits_for x.queue.waiting) s ∙ quiet_queue e o (filter (is_told e) old.requests.list) old.queue
notes false false e o old new s = elim s [
  | inl a ↦ ap (λ (x : Talk). flat_map waits_for x.queue.waiting) a
  | inr a ↦ ap (λ (x : Talk). flat_map waits_for x.queue.waiting) a
]

start_notes : (b result : Bool) (v : ℕ) (old new : Talk) → BeginsIn b v old result new → flat_map waits_for new.queue.waiting ≡ flat_map waits_for old.queue.waiting
start_notes true result v old new s = ap (λ (x : Talk). flat_map waits_for x.queue.waiting) s.1
start_notes false true v old new s = ap (λ (x : Talk). flat_map waits_for x.queue.waiting) s ∙ one_more old.queue.waiting (start_notice v) ∙ append-nil (flat_map waits_for old.queue.waiting)
start_notes false false v old new s = ap (λ (x : Talk). flat_map waits_for x.queue.waiting) s

stops_by : (v : Verdict) (x : Spot) (old new : Talk) → StopsBy v x old new → flat_map waits_for new.queue.waiting ≡ flat_map waits_for old.queue.waiting ++ waits_by v x.thread
stops_by verdict.Told x old new s = ap (λ (t : Talk). flat_map waits_for t.queue.waiting) s.1 ∙ one_more old.queue.waiting (stop_for x old.requests)
stops_by verdict.Passed x old new s = elim s [
  | inl a ↦ ap (λ (t : Talk). flat_map waits_for t.queue.waiting) a.2 ∙ sym (append-nil (flat_map waits_for old.queue.waiting))
  | inr a ↦ ap (λ (t : Talk). flat_map waits_for t.queue.waiting) a.1 ∙ sym (append-nil (flat_map waits_for old.queue.waiting))
]
stops_by (verdict.Deeper n) x old new s = ap (λ (t : Talk). flat_map waits_for t.queue.waiting) s.2 ∙ sym (append-nil (flat_map waits_for old.queue.waiting))

stops : (b : Bool) (v : Verdict) (x : Spot) (old new : Talk) → StopsIn b x old v new → flat_map waits_for new.queue.waiting ≡ flat_map waits_for old.queue.waiting ++ waits_by v x.thread
stops true v x old new s =
    ap (λ (t : Talk). flat_map waits_for t.queue.waiting) s.1 ∙ sym (ap (λ (w : Verdict). flat_map waits_for old.queue.waiting ++ waits_by w x.thread) s.0 ∙ append-nil (flat_map waits_for old.queue.waiting))
stops false v x old new s = stops_by v x old new s

step : (old new : Talk) (c : Call) → Idle old → Step old c new → Lets old new (stopped_by c) (let_go_by c)
step old new (Fed bytes) idle s = keep old new old.phase (ap (λ (x : Talk). x.phase) s.1) idle (ap (λ (x : Talk). x.notice) s.1) (ap (λ (x : Talk). x.queue.waiting) s.1)
step old new PeerEnded idle s = keep old new old.phase (ap (λ (x : Talk). x.phase) s) idle (ap (λ (x : Talk). x.notice) s) (ap (λ (x : Talk). x.queue.waiting) s)
step old new Shut idle s = keep old new (closing old.phase) (ap (λ (x : Talk). x.phase) s) (λ h. closes old.phase (idle h)) (ap (λ (x : Talk). x.notice) s) (ap (λ (x : Talk). x.queue.waiting) s)
step old new (Went act) idle s = goes_first (writes_first old.phase old.bytes.output) old new act idle s
step old new Failed idle s = keep old new old.phase (ap (λ (x : Talk). x.phase) s.0) idle (ap (λ (x : Talk). x.notice) s.0) (ap (λ (x : Talk). x.queue.waiting) s.0)
step old new (Replied a) idle s = answers old.phase a old new refl idle s.0 s.1
step old new (Listed threads) idle s = lists old.phase threads old new refl idle s
step old new (PostedAs post) idle s = posts old.phase post old new refl idle s
step old new Settled idle s = settles old.phase old new refl idle s
step old new (PlacedAs placed) idle s = places old.phase placed old new refl idle s
step old new (LocatedAs standing) idle s = finds old.phase standing old new refl idle s
step old new (StoppedAt x v) idle s =
    let k = stops_keep x v old new s in
    record {
      balance =
          append_assoc (first_waits old.notice) (flat_map waits_for old.queue.waiting) (waits_by v x.thread)
          ∙ sym (ap (λ o. first_waits o ++ flat_map waits_for new.queue.waiting) k.notice ∙ ap (λ l. first_waits old.notice ++ l) (stops (is_over old.phase) v x old new s));
      idle = λ h. ap busy k.phase ∙ idle (sym (ap is_some k.notice) ∙ h);
    }
step old new (Written count) idle s = keep old new old.phase (ap (λ (x : Talk). x.phase) s) idle (ap (λ (x : Talk). x.notice) s) (ap (λ (x : Talk). x.queue.waiting) s)
step old new (Happened e o result) idle s = let k = keeps e o result old new s in same old new old.phase k.phase idle k.notice (notes (is_over old.phase) result e o old new s)
step old new (Began v result) idle s = let k = begins_keep v result old new s in same old new old.phase k.phase idle k.notice (start_notes (is_over old.phase) result v old new s)
step old new (Died result) idle s = let k = dies_ends result old new s in keep old new (closing old.phase) k.phase (λ h. closes old.phase (idle h)) k.notice k.waiting

runs : (old end : Talk) (calls : List Call) (sent : List ℕ) → Idle old → Runs old calls sent end → waiting old ++ flat_map stopped_by calls ≡ flat_map let_go_by calls ++ waiting end
runs old end [] sent idle run = append-nil (waiting old) ∙ ap (λ (x : Talk). waiting x) run.0
runs old end (c ∷ calls) sent idle run =
    let l = step old run.0 c idle run.2 in
    sym (append_assoc (waiting old) (stopped_by c) (flat_map stopped_by calls))
    ∙ ap (λ x. x ++ flat_map stopped_by calls) l.balance
    ∙ append_assoc (let_go_by c) (waiting run.0) (flat_map stopped_by calls)
    ∙ ap (λ x. let_go_by c ++ x) (runs run.0 end calls run.1 l.idle run.4)
    ∙ sym (append_assoc (let_go_by c) (flat_map let_go_by calls) (waiting end))

pub stops_are_let_go : StopsAreLetGo
stops_are_let_go calls sent end run = runs opened end calls sent (λ h. never h) run
