-- Each step of a session answers what it reads.
use Rattle.std.proofs.Common.{◌≡◌, ℕ, ◌+◌, ◌≤◌, min, Bool, true, false, not, cond, List, [], ◌∷◌, ◌++◌, length, take, Option, Some, None, Result, Ok, Err, refl, sym, ap, subst, ◌∙◌, inl, inr, arith}
use Rattle.std.specs.Prelude.{unwrap_or, bytes_eq, nat_lt, ◌==◌}
use Rattle.std.specs.List.{flat_map}
use Rattle.std.proofs.lemmas.Bool.{true≢false, cases_Bool, ltb-false, not-false}
use Rattle.std.proofs.lemmas.Slice.Eq.{bytes_eq-Decides}
use Rattle.ti_jdwp.specs.declared.actions.Action.{Action}
use Rattle.ti_jdwp.specs.declared.actions.Action.TheVariants as action
use Rattle.ti_jdwp.specs.declared.actions.Phase.{Phase}
use Rattle.ti_jdwp.specs.declared.actions.Phase.TheVariants as phase
use Rattle.ti_jdwp.specs.declared.actions.Posted.{Posted}
use Rattle.ti_jdwp.specs.declared.actions.Posted.TheVariants as posted
use Rattle.ti_jdwp.specs.declared.actions.Purpose.{Purpose}
use Rattle.ti_jdwp.specs.declared.actions.Purpose.TheVariants as purpose
use Rattle.ti_jdwp.specs.declared.error.JdwpError.{JdwpError}
use Rattle.ti_jdwp.specs.declared.error.JdwpError.TheVariants as error
use Rattle.ti_jdwp.specs.declared.front.Front.{Front}
use Rattle.ti_jdwp.specs.declared.front.Front.TheVariants as front
use Rattle.ti_jdwp.specs.declared.notice.Notice.{Notice}
use Rattle.ti_jdwp.specs.declared.plan.Plan.{Plan}
use Rattle.ti_jdwp.specs.declared.plan.Plan.TheVariants as plan
use Rattle.ti_jdwp.specs.declared.plan.Wish.{Wish}
use Rattle.ti_jdwp.specs.declared.request.Policy.{Policy}
use Rattle.ti_jdwp.specs.declared.request.Policy.TheVariants as policy
use Rattle.ti_jdwp.specs.declared.request.Request.{Request}
use Rattle.ti_jdwp.specs.declared.stops.Standing.{Standing}
use Rattle.ti_jdwp.specs.declared.stops.Target.{Target}
use Rattle.ti_jdwp.specs.declared.stops.Target.TheVariants as target
use Rattle.ti_jdwp.specs.Asking.{Reading}
use Rattle.ti_jdwp.specs.Stops.{nowhere}
use Rattle.ti_jdwp.specs.Answered.{is_asked, listed_in, settled_in, placed_as, placed_in, located_as, located_in, unknown, PostedBy, PostedIn}
use Rattle.ti_jdwp.specs.Constants.{constant_bytes}
use Rattle.ti_jdwp.specs.Errors.{number_of}
use Rattle.ti_jdwp.specs.Fields.{int}
use Rattle.ti_jdwp.specs.Holds.{count_of}
use Rattle.ti_jdwp.specs.Lines.{Bytes, with_reply, handshake}
use Rattle.ti_jdwp.specs.Notes.{DiesIn, end_body, end_numbers, hears_end}
use Rattle.ti_jdwp.specs.Plans.{plan_of}
use Rattle.ti_jdwp.specs.Queues.{may_tell, first, without_first}
use Rattle.ti_jdwp.specs.Requests.{request_in}
use Rattle.ti_jdwp.specs.Sent.{event_packet}
use Rattle.ti_jdwp.specs.Talks.{Talk, opened, IsFront, data_of, replied, stopped, starved, greeted, after, closing}
use Rattle.ti_jdwp.specs.Steps.{Does, EndsBy, SuspendsBy, SuspendsNext, ResumesNext, tells, finishes, BeginsEvent, said_in, refused, Puts, PutsRead, PutsInForce, SetsFor, SetsRead, SetsEvent, asks, ServesBy, ServesRead, ReadsBy, GoesOnWith, GoesIn, writes_first, GoesFirst, is_ready, Fails}
use Rattle.ti_jdwp.specs.SessionRuns.{Call, Fed, PeerEnded, Shut, Went, Failed, Replied, Listed, PostedAs, Settled, PlacedAs, LocatedAs, StoppedAt, Written, Happened, Began, Died, Step, received, taken, Runs, RequestsAreAnswered}
use Rattle.ti_jdwp.proofs.Noting.{begins_keep, keeps, stops_keep}
use Rattle.ti_jdwp.proofs.Pieces.{Stands, stands_more, Goes-well, quietly, comes, goes_out, replies, passes, and_then}
use Rattle.ti_jdwp.proofs.Pieces as pieces

-- a request has made threads be suspended
abbrev pub is_request : Purpose → Bool
is_request purpose.One = true
is_request purpose.All = true
is_request purpose.Event = false
is_request purpose.End = false

-- a request is worked on
abbrev pub works : Phase → Bool
works phase.Greeting = false
works phase.Ready = false
works phase.Asking = true
works (phase.Listing p) = is_request p
works (phase.Stopping p) = is_request p
works (phase.Suspending p u) = is_request p
works (phase.Undoing p u) = is_request p
works (phase.Settling p) = is_request p
works (phase.Finishing p) = is_request p
works phase.Refusing = true
works (phase.Placing w) = true
works (phase.Locating w) = true
works (phase.Putting w k) = true
works (phase.Denied d) = true
works (phase.Numbered n) = true
works phase.Resuming = true
works phase.Ending = false
works phase.Closed = false

-- the request that is worked on stands first in the input
abbrev pub Works : Talk → Type 0
Works t = works t.phase ≡ true → Stands t.first t.bytes.input

pub record Well (old : Bytes) (new : Talk) (more took : List ℕ) : Type 0 where
  pub goes : Goes-well old new.bytes more took
  pub works : Works new

never : {X : Type 0} → false ≡ true → X
never h = absurd (true≢false (sym h))

-- nothing goes over the connection
kept : (old new : Talk) (p : Phase) → new.bytes ≡ old.bytes → new.first ≡ old.first → new.phase ≡ p → (works p ≡ true → Stands old.first old.bytes.input) → Well old.bytes new [] []
kept old new p bytes first is stands = record {
  goes = subst (λ b. Goes-well old.bytes b [] []) (sym bytes) (quietly old.bytes);
  works = λ h.
      subst (λ f. Stands f new.bytes.input) (sym first)
      (subst (λ (b : Bytes). Stands old.first b.input) (sym bytes) (stands (sym (ap works is) ∙ h)));
}

-- and no request is worked on
idle : (old new : Talk) (p : Phase) → new.bytes ≡ old.bytes → new.phase ≡ p → works p ≡ false → Well old.bytes new [] []
idle old new p bytes is none = record {
  goes = subst (λ b. Goes-well old.bytes b [] []) (sym bytes) (quietly old.bytes);
  works = λ h. never (sym (ap works is ∙ none) ∙ h);
}

-- the request that is worked on is replied to
answers : (old new : Talk) (p : Phase) (a : Result (List ℕ) ℕ) → Stands old.first old.bytes.input → new.bytes ≡ with_reply old.bytes old.first.length old.first.id a → new.phase ≡ p → works p ≡ false → Well old.bytes new [] []
answers old new p a stands bytes is none = record {
  goes = subst (λ b. Goes-well old.bytes b [] []) (sym bytes) (replies old.bytes old.first a stands);
  works = λ h. never (sym (ap works is ∙ none) ∙ h);
}

replied_well : (old new : Talk) (a : Result (List ℕ) ℕ) → Stands old.first old.bytes.input → new ≡ replied old a → Well old.bytes new [] []
replied_well old new a stands is = answers old new phase.Ready a stands (ap (λ (t : Talk). t.bytes) is) (ap (λ (t : Talk). t.phase) is) refl

suspends_well : (p : Purpose) (t : ℕ) (old new : Talk) (act : Action) → (is_request p ≡ true → Stands old.first old.bytes.input) → SuspendsBy p t old act new → Well old.bytes new [] []
suspends_well p t old new action.Again h s = kept old new (phase.Stopping p) (ap (λ (t : Talk). t.bytes) s.0) (ap (λ (t : Talk). t.first) s.0) (ap (λ (t : Talk). t.phase) s.0) h
suspends_well p t old new (action.Ask r) h s = absurd s
suspends_well p t old new action.ListThreads h s = absurd s
suspends_well p t old new (action.SetBreakpoint k m i) h s = absurd s
suspends_well p t old new (action.Locate v) h s = absurd s
suspends_well p t old new (action.LetGo v) h s = absurd s
suspends_well p t old new (action.Suspend v) h s = kept old new (phase.Suspending p t) (ap (λ (t : Talk). t.bytes) s.2) (ap (λ (t : Talk). t.first) s.2) (ap (λ (t : Talk). t.phase) s.2) h
suspends_well p t old new action.Settle h s = absurd s
suspends_well p t old new (action.Resume v) h s = absurd s
suspends_well p t old new action.Write h s = absurd s
suspends_well p t old new action.Close h s = absurd s
suspends_well p t old new action.Wait h s = absurd s

next_well : (p : Purpose) (old new : Talk) (act : Action) → (is_request p ≡ true → Stands old.first old.bytes.input) → SuspendsNext p old act new → Well old.bytes new [] []
next_well p old new action.Again h s = suspends_well p s.0 (record old { work = new.work }) new action.Again h s.2
next_well p old new (action.Ask r) h s = suspends_well p s.0 (record old { work = new.work }) new (action.Ask r) h s.2
next_well p old new action.ListThreads h s = suspends_well p s.0 (record old { work = new.work }) new action.ListThreads h s.2
next_well p old new (action.SetBreakpoint k m i) h s = suspends_well p s.0 (record old { work = new.work }) new (action.SetBreakpoint k m i) h s.2
next_well p old new (action.Locate v) h s = suspends_well p s.0 (record old { work = new.work }) new (action.Locate v) h s.2
next_well p old new (action.LetGo v) h s = suspends_well p s.0 (record old { work = new.work }) new (action.LetGo v) h s.2
next_well p old new (action.Suspend v) h s = suspends_well p s.0 (record old { work = new.work }) new (action.Suspend v) h s.2
next_well p old new action.Settle h s = kept old new (phase.Settling p) (ap (λ (t : Talk). t.bytes) s.1) (ap (λ (t : Talk). t.first) s.1) (ap (λ (t : Talk). t.phase) s.1) h
next_well p old new (action.Resume v) h s = suspends_well p s.0 (record old { work = new.work }) new (action.Resume v) h s.2
next_well p old new action.Write h s = suspends_well p s.0 (record old { work = new.work }) new action.Write h s.2
next_well p old new action.Close h s = suspends_well p s.0 (record old { work = new.work }) new action.Close h s.2
next_well p old new action.Wait h s = suspends_well p s.0 (record old { work = new.work }) new action.Wait h s.2

resumes_well : (old new : Talk) (act : Action) → old.phase ≡ phase.Resuming → Stands old.first old.bytes.input → ResumesNext old act new → Well old.bytes new [] []
resumes_well old new action.Again at h s = kept old new phase.Resuming (ap (λ (t : Talk). t.bytes) s.1) (ap (λ (t : Talk). t.first) s.1) (ap (λ (t : Talk). t.phase) s.1 ∙ at) (λ k. h)
resumes_well old new (action.Ask r) at h s = absurd s
resumes_well old new action.ListThreads at h s = absurd s
resumes_well old new (action.SetBreakpoint k m i) at h s = absurd s
resumes_well old new (action.Locate v) at h s = absurd s
resumes_well old new (action.LetGo v) at h s = absurd s
resumes_well old new (action.Suspend v) at h s = absurd s
resumes_well old new action.Settle at h s = absurd s
resumes_well old new (action.Resume v) at h s = kept old new phase.Resuming (ap (λ (t : Talk). t.bytes) s.2) (ap (λ (t : Talk). t.first) s.2) (ap (λ (t : Talk). t.phase) s.2 ∙ at) (λ k. h)
resumes_well old new action.Write at h s = answers old new phase.Ready (Ok []) h (ap (λ (t : Talk). t.bytes) s.1) (ap (λ (t : Talk). t.phase) s.1) refl
resumes_well old new action.Close at h s = absurd s
resumes_well old new action.Wait at h s = absurd s

ends_well : (old new : Talk) (act : Action) → old.phase ≡ phase.Ending → EndsBy act old new → Well old.bytes new [] []
ends_well old new action.Again at s = idle old new phase.Ending (ap (λ (t : Talk). t.bytes) s.1) (ap (λ (t : Talk). t.phase) s.1 ∙ at) refl
ends_well old new (action.Ask r) at s = absurd s
ends_well old new action.ListThreads at s = absurd s
ends_well old new (action.SetBreakpoint k m i) at s = absurd s
ends_well old new (action.Locate v) at s = absurd s
ends_well old new (action.LetGo v) at s = absurd s
ends_well old new (action.Suspend v) at s = absurd s
ends_well old new action.Settle at s = absurd s
ends_well old new (action.Resume v) at s = idle old new phase.Ending (ap (λ (t : Talk). t.bytes) s.1) (ap (λ (t : Talk). t.phase) s.1 ∙ at) refl
ends_well old new action.Write at s = idle old new phase.Ending (ap (λ (t : Talk). t.bytes) s.2) (ap (λ (t : Talk). t.phase) s.2 ∙ at) refl
ends_well old new action.Close at s = idle old new phase.Closed (ap (λ (t : Talk). t.bytes) s.2) (ap (λ (t : Talk). t.phase) s.2) refl
ends_well old new action.Wait at s = absurd s

puts_well : (w : Wish) (r : Reading) (old new : Talk) (act : Action) → Stands old.first old.bytes.input → Puts w r old act new → Well old.bytes new [] []
puts_well w r old new action.Again h s = kept old new (phase.Numbered (old.requests.given + 1)) (ap (λ (t : Talk). t.bytes) s) (ap (λ (t : Talk). t.first) s) (ap (λ (t : Talk). t.phase) s) (λ k. h)
puts_well w r old new action.Write h s = replied_well old new (Err 110) h s
puts_well w r old new (action.Ask r') h s = absurd s
puts_well w r old new action.ListThreads h s = absurd s
puts_well w r old new (action.SetBreakpoint k m i) h s = absurd s
puts_well w r old new (action.Locate v) h s = absurd s
puts_well w r old new (action.LetGo v) h s = absurd s
puts_well w r old new (action.Suspend v) h s = absurd s
puts_well w r old new action.Settle h s = absurd s
puts_well w r old new (action.Resume v) h s = absurd s
puts_well w r old new action.Close h s = absurd s
puts_well w r old new action.Wait h s = absurd s

read_put_well : (x : Result Reading JdwpError) (w : Wish) (old new : Talk) (act : Action) → Stands old.first old.bytes.input → PutsRead x w old act new → Well old.bytes new [] []
read_put_well (Err e) w old new act h s = replied_well old new (Err (number_of e)) h s.1
read_put_well (Ok r) w old new act h s = puts_well w r old new act h s

in_force_well : (w : Wish) (from : Standing) (old new : Talk) (act : Action) → Stands old.first old.bytes.input → PutsInForce w from old act new → Well old.bytes new [] []
in_force_well w from old new act h s = elim s [
  | inl a ↦ read_put_well (said_in w from old) w old new act h a
  | inr a ↦ replied_well old new (Err 110) h a.1
]

located_first : (b : Bool) (u : ℕ) (w : Wish) (old new : Talk) (act : Action) → Stands old.first old.bytes.input
    → Does (cond b (refused error.ThreadNotSuspended old) (action.Locate u, record old { phase = phase.Locating w })) act new → Well old.bytes new [] []
located_first true u w old new act h s = replied_well old new (Err 13) h s.1
located_first false u w old new act h s = kept old new (phase.Locating w) (ap (λ (t : Talk). t.bytes) s.1) (ap (λ (t : Talk). t.first) s.1) (ap (λ (t : Talk). t.phase) s.1) (λ k. h)

sets_for_well : (g : Target) (w : Wish) (r : Reading) (old new : Talk) (act : Action) → Stands old.first old.bytes.input → SetsFor g w r old act new → Well old.bytes new [] []
sets_for_well target.Anywhere w r old new act h s = puts_well w r old new act h s
sets_for_well (target.Place k m i) w r old new act h s = kept old new (phase.Placing w) (ap (λ (t : Talk). t.bytes) s.1) (ap (λ (t : Talk). t.first) s.1) (ap (λ (t : Talk). t.phase) s.1) (λ k. h)
sets_for_well (target.Step step) w r old new act h s = located_first (count_of old.holds step.thread == 0) step.thread w old new act h s

sets_read_well : (x : Result Reading JdwpError) (w : Wish) (old new : Talk) (act : Action) → Stands old.first old.bytes.input → SetsRead x w old act new → Well old.bytes new [] []
sets_read_well (Err e) w old new act h s = replied_well old new (Err (number_of e)) h s.1
sets_read_well (Ok r) w old new act h s = sets_for_well r.target w r old new act h s

sets_well : (w : Wish) (old new : Talk) (act : Action) → Stands old.first old.bytes.input → SetsEvent w old act new → Well old.bytes new [] []
sets_well w old new act h s = elim s [
  | inl a ↦ sets_read_well (said_in w nowhere old) w old new act h a
  | inr a ↦ replied_well old new (Err 110) h a.1
]

stack_well : (b : Bool) (r : Request) (t new : Talk) (act : Action) → Stands t.first t.bytes.input → Does (cond b (action.Write, replied t (Err 13)) (action.Ask r, asks t)) act new → Well t.bytes new [] []
stack_well true r t new act h s = replied_well t new (Err 13) h s.1
stack_well false r t new act h s = kept t new phase.Asking (ap (λ (t : Talk). t.bytes) s.1) (ap (λ (t : Talk). t.first) s.1) (ap (λ (t : Talk). t.phase) s.1) (λ k. h)

plan_well : (p : Plan) (r : Request) (t new : Talk) (act : Action) → Stands t.first t.bytes.input → ServesBy p r t act new → Well t.bytes new [] []
plan_well (plan.Refuse e) r t new act h s = replied_well t new (Err (number_of e)) h s.1
plan_well (plan.Constant c) r t new act h s = replied_well t new (Ok (constant_bytes c)) h s.1
plan_well plan.Ask r t new act h s = kept t new phase.Asking (ap (λ (t : Talk). t.bytes) s.1) (ap (λ (t : Talk). t.first) s.1) (ap (λ (t : Talk). t.phase) s.1) (λ k. h)
plan_well (plan.AskStack thread) r t new act h s = stack_well (count_of t.holds thread == 0) r t new act h s
plan_well (plan.Count thread) r t new act h s = replied_well t new (Ok (int (count_of t.holds thread))) h s.1
plan_well (plan.Suspend thread) r t new act h s = suspends_well purpose.One thread t new act (λ k. h) s
plan_well (plan.Resume thread) r t new act h s = answers t new phase.Ready (Ok []) h (ap (λ (t : Talk). t.bytes) s.3) (ap (λ (t : Talk). t.phase) s.3) refl
plan_well plan.SuspendAll r t new act h s = kept t new (phase.Listing purpose.All) (ap (λ (t : Talk). t.bytes) s.1) (ap (λ (t : Talk). t.first) s.1) (ap (λ (t : Talk). t.phase) s.1) (λ k. h)
plan_well plan.ResumeAll r t new act h s = kept t new phase.Resuming (ap (λ (t : Talk). t.bytes) s.1) (ap (λ (t : Talk). t.first) s.1) (ap (λ (t : Talk). t.phase) s.1) (λ k. h)
plan_well plan.Hold r t new act h s = answers t new phase.Ready (Ok []) h (ap (λ (t : Talk). t.bytes) s.1) (ap (λ (t : Talk). t.phase) s.1) refl
plan_well plan.Release r t new act h s = answers t new phase.Ready (Ok []) h (ap (λ (t : Talk). t.bytes) s.1) (ap (λ (t : Talk). t.phase) s.1) refl
plan_well (plan.Set w) r t new act h s = sets_well w t new act h s
plan_well (plan.Clear kind number) r t new act h s = answers t new phase.Ready (Ok []) h (ap (λ (t : Talk). t.bytes) s.1) (ap (λ (t : Talk). t.phase) s.1) refl
plan_well plan.Dispose r t new act h s = answers t new phase.Ending (Ok []) h (ap (λ (t : Talk). t.bytes) s.1) (ap (λ (t : Talk). t.phase) s.1) refl

read_well : (q : Result Request JdwpError) (t new : Talk) (act : Action) → Stands t.first t.bytes.input → ServesRead q t act new → Well t.bytes new [] []
read_well (Err e) t new act h s = replied_well t new (Err (number_of e)) h s.1
read_well (Ok r) t new act h s = plan_well (plan_of r) r t new act h s

starved_well : (b : Bool) (old new : Talk) (act : Action) → works old.phase ≡ false → Does (cond b (action.Again, stopped old) (action.Wait, old)) act new → Well old.bytes new [] []
starved_well true old new act none s = idle old new phase.Ending (ap (λ (t : Talk). t.bytes) s.1) (ap (λ (t : Talk). t.phase) s.1) refl
starved_well false old new act none s = idle old new old.phase (ap (λ (t : Talk). t.bytes) s.1) (ap (λ (t : Talk). t.phase) s.1) none

front_well : (f : Front) (old new : Talk) (act : Action) → works old.phase ≡ false → IsFront old.bytes.input f → ReadsBy f old act new → Well old.bytes new [] []
front_well front.More old new act none is s = starved_well old.ended old new act none s
front_well front.Broken old new act none is s = idle old new phase.Ending (ap (λ (t : Talk). t.bytes) s.1) (ap (λ (t : Talk). t.phase) s.1) refl
front_well (front.Reply n) old new act none is s = record {
  goes = subst (λ b. Goes-well old.bytes b [] []) (sym (ap (λ (t : Talk). t.bytes) s.1)) (passes old.bytes n is.0 is.1);
  works = λ h. never (sym (ap works (ap (λ (t : Talk). t.phase) s.1) ∙ none) ∙ h);
}
front_well (front.Request f) old new act none is s =
    read_well (request_in f.set f.command (data_of f old.bytes.input)) (record old { first = f }) new act (record { begins = is.0; within = is.1; some = is.2 }) s

begins_well : (p : Policy) (thread : ℕ) (old new : Talk) (act : Action) → BeginsEvent p thread old act new → Well old.bytes new [] []
begins_well policy.None thread old new act s = idle old new (phase.Finishing purpose.Event) (ap (λ (t : Talk). t.bytes) s.1) (ap (λ (t : Talk). t.phase) s.1) refl
begins_well policy.EventThread thread old new act s = suspends_well purpose.Event thread old new act (λ h. never h) s
begins_well policy.All thread old new act s = idle old new (phase.Listing purpose.Event) (ap (λ (t : Talk). t.bytes) s.1) (ap (λ (t : Talk). t.phase) s.1) refl

on_well : (n : Option Notice) (old new : Talk) (act : Action) → works old.phase ≡ false → GoesOnWith n old act new → Well old.bytes new [] []
on_well None old new act none s = front_well s.0 old new act none s.1 s.2
on_well (Some n) old new act none s = begins_well n.policy n.thread (record old { queue = without_first old.queue; notice = Some n }) new act s

told_well : (n : Option Notice) (old new : Talk) → new ≡ tells n old → Well old.bytes new [] []
told_well None old new is = idle old new phase.Ready (ap (λ (t : Talk). t.bytes) is) (ap (λ (t : Talk). t.phase) is) refl
told_well (Some n) old new is = record {
  goes = subst (λ b. Goes-well old.bytes b [] []) (sym (ap (λ (t : Talk). t.bytes) is)) (pieces.tells old.bytes old.told n.body (event_packet old.told n.body) refl);
  works = λ h. never (sym (ap works (ap (λ (t : Talk). t.phase) is)) ∙ h);
}

finish_well : (p : Purpose) (old new : Talk) (act : Action) → (is_request p ≡ true → Stands old.first old.bytes.input) → Does (finishes p old) act new → Well old.bytes new [] []
finish_well purpose.One old new act h s = answers old new phase.Ready (cond old.short (Err 110) (Ok [])) (h refl) (ap (λ (t : Talk). t.bytes) s.1) (ap (λ (t : Talk). t.phase) s.1) refl
finish_well purpose.All old new act h s = answers old new phase.Ready (cond old.short (Err 110) (Ok [])) (h refl) (ap (λ (t : Talk). t.bytes) s.1) (ap (λ (t : Talk). t.phase) s.1) refl
finish_well purpose.Event old new act h s = told_well old.notice old new s.1
finish_well purpose.End old new act h s = idle old new phase.Ending (ap (λ (t : Talk). t.bytes) s.1) (ap (λ (t : Talk). t.phase) s.1) refl

-- a handshake that is whole and right
right : (input : List ℕ) → not (bytes_eq (take (min (length input) 14) input) (take (min (length input) 14) handshake)) ≡ false → nat_lt (min (length input) 14) 14 ≡ false → take 14 input ≡ handshake
right input same long =
    let n = min (length input) 14 in
    let whole : n ≡ 14 = let h : 14 ≤ n = ltb-false n 14 long in omega (arith, h) in
    let equal : take n input ≡ take n handshake =
    (bytes_eq-Decides (take n input) (take n handshake)).0 (not-false (bytes_eq (take n input) (take n handshake)) same) in
    subst (λ (k : ℕ). take k input ≡ take k handshake) whole equal

greet_well : (b c : Bool) (old new : Talk) (act : Action) → works old.phase ≡ false → (b ≡ false → c ≡ false → take 14 old.bytes.input ≡ handshake)
    → Does (cond b (action.Again, stopped old) (cond c (starved old) (action.Write, greeted old))) act new → Well old.bytes new [] []
greet_well true c old new act none h s = idle old new phase.Ending (ap (λ (t : Talk). t.bytes) s.1) (ap (λ (t : Talk). t.phase) s.1) refl
greet_well false true old new act none h s = starved_well old.ended old new act none s
greet_well false false old new act none h s = record {
  goes = subst (λ b. Goes-well old.bytes b [] []) (sym (ap (λ (t : Talk). t.bytes) s.1)) (pieces.greets old.bytes (h refl refl));
  works = λ k. never (sym (ap works (ap (λ (t : Talk). t.phase) s.1)) ∙ k);
}

after_works : (p : Purpose) → works (after p) ≡ is_request p
after_works purpose.One = refl
after_works purpose.All = refl
after_works purpose.Event = refl
after_works purpose.End = refl

waits_well : (p : Phase) (old new : Talk) (act : Action) → old.phase ≡ p → (works p ≡ true → Stands old.first old.bytes.input) → Does (action.Wait, old) act new → Well old.bytes new [] []
waits_well p old new act at h s = kept old new p (ap (λ (t : Talk). t.bytes) s.1) (ap (λ (t : Talk). t.first) s.1) (ap (λ (t : Talk). t.phase) s.1 ∙ at) h

in_well : (p : Phase) (old new : Talk) (act : Action) → old.phase ≡ p → (works p ≡ true → Stands old.first old.bytes.input) → GoesIn p old act new → Well old.bytes new [] []
in_well phase.Greeting old new act at h s = greet_well
    (not (bytes_eq (take (min (length old.bytes.input) 14) old.bytes.input) (take (min (length old.bytes.input) 14) handshake)))
    (nat_lt (min (length old.bytes.input) 14) 14) old new act (ap works at) (right old.bytes.input) s
in_well phase.Ready old new act at h s = on_well (cond (may_tell old.queue) (first old.queue.waiting) None) old new act (ap works at) s
in_well phase.Asking old new act at h s = waits_well phase.Asking old new act at h s
in_well (phase.Listing p) old new act at h s = waits_well (phase.Listing p) old new act at h s
in_well (phase.Stopping p) old new act at h s = next_well p old new act h s
in_well (phase.Suspending p u) old new act at h s = waits_well (phase.Suspending p u) old new act at h s
in_well (phase.Undoing p u) old new act at h s = kept old new (after p) (ap (λ (t : Talk). t.bytes) s.1) (ap (λ (t : Talk). t.first) s.1) (ap (λ (t : Talk). t.phase) s.1) (λ k. h (sym (after_works p) ∙ k))
in_well (phase.Settling p) old new act at h s = waits_well (phase.Settling p) old new act at h s
in_well (phase.Finishing p) old new act at h s = finish_well p old new act h s
in_well phase.Refusing old new act at h s = replied_well old new (Err 10) (h refl) s.1
in_well (phase.Placing w) old new act at h s = waits_well (phase.Placing w) old new act at h s
in_well (phase.Locating w) old new act at h s = waits_well (phase.Locating w) old new act at h s
in_well (phase.Putting w k) old new act at h s = in_force_well w k old new act (h refl) s
in_well (phase.Denied d) old new act at h s = replied_well old new (Err (number_of d)) (h refl) s.1
in_well (phase.Numbered n) old new act at h s = replied_well old new (Ok (int n)) (h refl) s.1
in_well phase.Resuming old new act at h s = resumes_well old new act at (h refl) s
in_well phase.Ending old new act at h s = ends_well old new act at s
in_well phase.Closed old new act at h s = idle old new phase.Closed (ap (λ (t : Talk). t.bytes) s.1) (ap (λ (t : Talk). t.phase) s.1 ∙ at) refl

first_well : (b : Bool) (old new : Talk) (act : Action) → Works old → GoesFirst b old act new → Well old.bytes new [] []
first_well true old new act h s = kept old new old.phase (ap (λ (t : Talk). t.bytes) s.1) (ap (λ (t : Talk). t.first) s.1) (ap (λ (t : Talk). t.phase) s.1) h
first_well false old new act h s = in_well old.phase old new act refl h s

closing_idle : (p : Phase) → works (closing p) ≡ false
closing_idle phase.Greeting = refl
closing_idle phase.Ready = refl
closing_idle phase.Asking = refl
closing_idle (phase.Listing p) = refl
closing_idle (phase.Stopping p) = refl
closing_idle (phase.Suspending p u) = refl
closing_idle (phase.Undoing p u) = refl
closing_idle (phase.Settling p) = refl
closing_idle (phase.Finishing p) = refl
closing_idle phase.Refusing = refl
closing_idle (phase.Placing w) = refl
closing_idle (phase.Locating w) = refl
closing_idle (phase.Putting w k) = refl
closing_idle (phase.Denied d) = refl
closing_idle (phase.Numbered n) = refl
closing_idle phase.Resuming = refl
closing_idle phase.Ending = refl
closing_idle phase.Closed = refl

asked_works : (p : Phase) → is_asked p ≡ true → works p ≡ true
asked_works phase.Greeting h = never h
asked_works phase.Ready h = never h
asked_works phase.Asking h = refl
asked_works (phase.Listing p) h = never h
asked_works (phase.Stopping p) h = never h
asked_works (phase.Suspending p u) h = never h
asked_works (phase.Undoing p u) h = never h
asked_works (phase.Settling p) h = never h
asked_works (phase.Finishing p) h = never h
asked_works phase.Refusing h = never h
asked_works (phase.Placing w) h = never h
asked_works (phase.Locating w) h = never h
asked_works (phase.Putting w k) h = never h
asked_works (phase.Denied d) h = never h
asked_works (phase.Numbered n) h = never h
asked_works phase.Resuming h = never h
asked_works phase.Ending h = never h
asked_works phase.Closed h = never h

some_is : (x y d : Talk) → Some x ≡ Some y → y ≡ x
some_is x y d h = sym (ap (λ (o : Option Talk). unwrap_or o d) h)

listed_well : (p : Phase) (threads : List ℕ) (old new : Talk) → (works p ≡ true → Stands old.first old.bytes.input) → listed_in p threads old ≡ Some new → Well old.bytes new [] []
listed_well phase.Greeting threads old new h s = cc
listed_well phase.Ready threads old new h s = cc
listed_well phase.Asking threads old new h s = cc
listed_well (phase.Listing p) threads old new h s = let is = some_is _ _ old s in kept old new (phase.Stopping p) (ap (λ (t : Talk). t.bytes) is) (ap (λ (t : Talk). t.first) is) (ap (λ (t : Talk). t.phase) is) h
listed_well (phase.Stopping p) threads old new h s = cc
listed_well (phase.Suspending p u) threads old new h s = cc
listed_well (phase.Undoing p u) threads old new h s = cc
listed_well (phase.Settling p) threads old new h s = cc
listed_well (phase.Finishing p) threads old new h s = cc
listed_well phase.Refusing threads old new h s = cc
listed_well (phase.Placing w) threads old new h s = cc
listed_well (phase.Locating w) threads old new h s = cc
listed_well (phase.Putting w k) threads old new h s = cc
listed_well (phase.Denied d) threads old new h s = cc
listed_well (phase.Numbered n) threads old new h s = cc
listed_well phase.Resuming threads old new h s = cc
listed_well phase.Ending threads old new h s = cc
listed_well phase.Closed threads old new h s = cc

settled_well : (p : Phase) (old new : Talk) → (works p ≡ true → Stands old.first old.bytes.input) → settled_in p old ≡ Some new → Well old.bytes new [] []
settled_well phase.Greeting old new h s = cc
settled_well phase.Ready old new h s = cc
settled_well phase.Asking old new h s = cc
settled_well (phase.Listing p) old new h s = cc
settled_well (phase.Stopping p) old new h s = cc
settled_well (phase.Suspending p u) old new h s = cc
settled_well (phase.Undoing p u) old new h s = cc
settled_well (phase.Settling p) old new h s = let is = some_is _ _ old s in kept old new (phase.Finishing p) (ap (λ (t : Talk). t.bytes) is) (ap (λ (t : Talk). t.first) is) (ap (λ (t : Talk). t.phase) is) h
settled_well (phase.Finishing p) old new h s = cc
settled_well phase.Refusing old new h s = cc
settled_well (phase.Placing w) old new h s = cc
settled_well (phase.Locating w) old new h s = cc
settled_well (phase.Putting w k) old new h s = cc
settled_well (phase.Denied d) old new h s = cc
settled_well (phase.Numbered n) old new h s = cc
settled_well phase.Resuming old new h s = cc
settled_well phase.Ending old new h s = cc
settled_well phase.Closed old new h s = cc

placed_kept : (w : Wish) (placed : Result (Unit {0}) JdwpError) (old new : Talk) → Stands old.first old.bytes.input → new ≡ record old { phase = placed_as w placed } → Well old.bytes new [] []
placed_kept w (Ok done) old new h is = kept old new (phase.Putting w nowhere) (ap (λ (t : Talk). t.bytes) is) (ap (λ (t : Talk). t.first) is) (ap (λ (t : Talk). t.phase) is) (λ k. h)
placed_kept w (Err e) old new h is = kept old new (phase.Denied e) (ap (λ (t : Talk). t.bytes) is) (ap (λ (t : Talk). t.first) is) (ap (λ (t : Talk). t.phase) is) (λ k. h)

placed_well : (p : Phase) (placed : Result (Unit {0}) JdwpError) (old new : Talk) → (works p ≡ true → Stands old.first old.bytes.input) → placed_in p placed old ≡ Some new → Well old.bytes new [] []
placed_well phase.Greeting placed old new h s = cc
placed_well phase.Ready placed old new h s = cc
placed_well phase.Asking placed old new h s = cc
placed_well (phase.Listing p) placed old new h s = cc
placed_well (phase.Stopping p) placed old new h s = cc
placed_well (phase.Suspending p u) placed old new h s = cc
placed_well (phase.Undoing p u) placed old new h s = cc
placed_well (phase.Settling p) placed old new h s = cc
placed_well (phase.Finishing p) placed old new h s = cc
placed_well phase.Refusing placed old new h s = cc
placed_well (phase.Placing w) placed old new h s = placed_kept w placed old new (h refl) (some_is _ _ old s)
placed_well (phase.Locating w) placed old new h s = cc
placed_well (phase.Putting w k) placed old new h s = cc
placed_well (phase.Denied d) placed old new h s = cc
placed_well (phase.Numbered n) placed old new h s = cc
placed_well phase.Resuming placed old new h s = cc
placed_well phase.Ending placed old new h s = cc
placed_well phase.Closed placed old new h s = cc

located_kept : (w : Wish) (standing : Option Standing) (old new : Talk) → Stands old.first old.bytes.input → new ≡ record old { phase = located_as w standing } → Well old.bytes new [] []
located_kept w None old new h is = kept old new (phase.Denied error.ThreadNotSuspended) (ap (λ (t : Talk). t.bytes) is) (ap (λ (t : Talk). t.first) is) (ap (λ (t : Talk). t.phase) is) (λ k. h)
located_kept w (Some from) old new h is = kept old new (phase.Putting w from) (ap (λ (t : Talk). t.bytes) is) (ap (λ (t : Talk). t.first) is) (ap (λ (t : Talk). t.phase) is) (λ k. h)

located_well : (p : Phase) (standing : Option Standing) (old new : Talk) → (works p ≡ true → Stands old.first old.bytes.input) → located_in p standing old ≡ Some new → Well old.bytes new [] []
located_well phase.Greeting standing old new h s = cc
located_well phase.Ready standing old new h s = cc
located_well phase.Asking standing old new h s = cc
located_well (phase.Listing p) standing old new h s = cc
located_well (phase.Stopping p) standing old new h s = cc
located_well (phase.Suspending p u) standing old new h s = cc
located_well (phase.Undoing p u) standing old new h s = cc
located_well (phase.Settling p) standing old new h s = cc
located_well (phase.Finishing p) standing old new h s = cc
located_well phase.Refusing standing old new h s = cc
located_well (phase.Placing w) standing old new h s = cc
located_well (phase.Locating w) standing old new h s = located_kept w standing old new (h refl) (some_is _ _ old s)
located_well (phase.Putting w k) standing old new h s = cc
located_well (phase.Denied d) standing old new h s = cc
located_well (phase.Numbered n) standing old new h s = cc
located_well phase.Resuming standing old new h s = cc
located_well phase.Ending standing old new h s = cc
located_well phase.Closed standing old new h s = cc

unknown_works : (p : Purpose) → works (unknown p) ≡ is_request p
unknown_works purpose.One = refl
unknown_works purpose.All = refl
unknown_works purpose.Event = refl
unknown_works purpose.End = refl

to : (q : Phase) (old new : Talk) (p : Purpose) → works q ≡ is_request p → (is_request p ≡ true → Stands old.first old.bytes.input) → new.bytes ≡ old.bytes → new.first ≡ old.first → new.phase ≡ q → Well old.bytes new [] []
to q old new p same h bytes first is = kept old new q bytes first is (λ k. h (sym same ∙ k))

posted_by_well : (p : Purpose) (t : ℕ) (post : Posted) (old new : Talk) → (is_request p ≡ true → Stands old.first old.bytes.input) → PostedBy p t post old new → Well old.bytes new [] []
posted_by_well p t posted.Suspended old new h s = elim s [
  | inl a ↦ to (after p) old new p (after_works p) h (ap (λ (t : Talk). t.bytes) a.1) (ap (λ (t : Talk). t.first) a.1) (ap (λ (t : Talk). t.phase) a.1)
  | inr a ↦ to (phase.Undoing p t) old new p refl h (ap (λ (t : Talk). t.bytes) a) (ap (λ (t : Talk). t.first) a) (ap (λ (t : Talk). t.phase) a)
]
posted_by_well p t posted.ByAnother old new h s = elim s [
  | inl a ↦ to (after p) old new p (after_works p) h (ap (λ (t : Talk). t.bytes) a.1) (ap (λ (t : Talk). t.first) a.1) (ap (λ (t : Talk). t.phase) a.1)
  | inr a ↦ to (after p) old new p (after_works p) h (ap (λ (t : Talk). t.bytes) a) (ap (λ (t : Talk). t.first) a) (ap (λ (t : Talk). t.phase) a)
]
posted_by_well p t posted.NotAlive old new h s = to (after p) old new p (after_works p) h (ap (λ (t : Talk). t.bytes) s) (ap (λ (t : Talk). t.first) s) (ap (λ (t : Talk). t.phase) s)
posted_by_well p t posted.Unknown old new h s = to (unknown p) old new p (unknown_works p) h (ap (λ (t : Talk). t.bytes) s) (ap (λ (t : Talk). t.first) s) (ap (λ (t : Talk). t.phase) s)

posted_well : (p : Phase) (post : Posted) (old new : Talk) → (works p ≡ true → Stands old.first old.bytes.input) → PostedIn p post old new → Well old.bytes new [] []
posted_well phase.Greeting post old new h s = absurd s
posted_well phase.Ready post old new h s = absurd s
posted_well phase.Asking post old new h s = absurd s
posted_well (phase.Listing p) post old new h s = absurd s
posted_well (phase.Stopping p) post old new h s = absurd s
posted_well (phase.Suspending p u) post old new h s = posted_by_well p u post old new h s
posted_well (phase.Undoing p u) post old new h s = absurd s
posted_well (phase.Settling p) post old new h s = absurd s
posted_well (phase.Finishing p) post old new h s = absurd s
posted_well phase.Refusing post old new h s = absurd s
posted_well (phase.Placing w) post old new h s = absurd s
posted_well (phase.Locating w) post old new h s = absurd s
posted_well (phase.Putting w k) post old new h s = absurd s
posted_well (phase.Denied d) post old new h s = absurd s
posted_well (phase.Numbered n) post old new h s = absurd s
posted_well phase.Resuming post old new h s = absurd s
posted_well phase.Ending post old new h s = absurd s
posted_well phase.Closed post old new h s = absurd s

ready_idle : (p : Phase) → is_ready p ≡ true → works p ≡ false
ready_idle phase.Greeting h = never h
ready_idle phase.Ready h = refl
ready_idle phase.Asking h = never h
ready_idle (phase.Listing p) h = never h
ready_idle (phase.Stopping p) h = never h
ready_idle (phase.Suspending p u) h = never h
ready_idle (phase.Undoing p u) h = never h
ready_idle (phase.Settling p) h = never h
ready_idle (phase.Finishing p) h = never h
ready_idle phase.Refusing h = never h
ready_idle (phase.Placing w) h = never h
ready_idle (phase.Locating w) h = never h
ready_idle (phase.Putting w k) h = never h
ready_idle (phase.Denied d) h = never h
ready_idle (phase.Numbered n) h = never h
ready_idle phase.Resuming h = never h
ready_idle phase.Ending h = never h
ready_idle phase.Closed h = never h

fails_well : (old new : Talk) → Works old → Fails old new → Well old.bytes new [] []
fails_well old new h s = elim (cases_Bool (is_ready old.phase)) [
  | inl yes' ↦ idle old new old.phase (ap (λ (t : Talk). t.bytes) s.0) (ap (λ (t : Talk). t.phase) s.0) (ready_idle old.phase yes')
  | inr no' ↦ let is = s.1 no' in kept old new old.phase (ap (λ (t : Talk). t.bytes) is) (ap (λ (t : Talk). t.first) is) (ap (λ (t : Talk). t.phase) is) h
]

-- the end of the runtime is told, or lost
dies_well : (b result : Bool) (old new : Talk) → DiesIn b old result new → Well old.bytes new [] []
dies_well true true old new is =
    let body = end_body (end_numbers old.requests.list) in
    record {
      goes = subst (λ b. Goes-well old.bytes b [] []) (sym (ap (λ (t : Talk). t.bytes) is)) (pieces.tells old.bytes old.told body (event_packet old.told body) refl);
      works = λ h. never (sym (ap works (ap (λ (t : Talk). t.phase) is) ∙ closing_idle old.phase) ∙ h);
    }
dies_well true false old new h = elim h [
  | inl a ↦ idle old new (closing old.phase) (ap (λ (t : Talk). t.bytes) a) (ap (λ (t : Talk). t.phase) a) (closing_idle old.phase)
  | inr a ↦ idle old new (closing old.phase) (ap (λ (t : Talk). t.bytes) a) (ap (λ (t : Talk). t.phase) a) (closing_idle old.phase)
]
dies_well false result old new h = idle old new (closing old.phase) (ap (λ (t : Talk). t.bytes) h.1) (ap (λ (t : Talk). t.phase) h.1) (closing_idle old.phase)

step_well : (old new : Talk) (c : Call) → Works old → Step old c new → Well old.bytes new (received c) (taken old c)
step_well old new (Fed bytes) h s =
    subst (λ t. Well old.bytes t bytes []) (sym s.1)
    (record { goes = comes old.bytes bytes; works = λ k. stands_more old.first old.bytes.input bytes (h k) })
step_well old new PeerEnded h s = kept old new old.phase (ap (λ (t : Talk). t.bytes) s) (ap (λ (t : Talk). t.first) s) (ap (λ (t : Talk). t.phase) s) h
step_well old new Shut h s = idle old new (closing old.phase) (ap (λ (t : Talk). t.bytes) s) (ap (λ (t : Talk). t.phase) s) (closing_idle old.phase)
step_well old new (Went act) h s = first_well (writes_first old.phase old.bytes.output) old new act h s
step_well old new Failed h s = fails_well old new h s
step_well old new (Replied a) h s = replied_well old new a (h (asked_works old.phase s.0)) s.1
step_well old new (Listed threads) h s = listed_well old.phase threads old new h s
step_well old new (PostedAs post) h s = posted_well old.phase post old new h s
step_well old new Settled h s = settled_well old.phase old new h s
step_well old new (PlacedAs placed) h s = placed_well old.phase placed old new h s
step_well old new (LocatedAs standing) h s = located_well old.phase standing old new h s
step_well old new (StoppedAt x v) h s = let k = stops_keep x v old new s in kept old new old.phase k.bytes k.first k.phase h
step_well old new (Written count) h s =
    subst (λ t. Well old.bytes t [] (take (min count (length old.bytes.output)) old.bytes.output)) (sym s)
    (record { goes = goes_out old.bytes (min count (length old.bytes.output)); works = h })
step_well old new (Happened e o result) h s = let k = keeps e o result old new s in kept old new old.phase k.bytes k.first k.phase h
step_well old new (Began v result) h s = let k = begins_keep v result old new s in kept old new old.phase k.bytes k.first k.phase h
step_well old new (Died result) h s = dies_well (hears_end old.phase) result old new s

run_well : (old end : Talk) (calls : List Call) (sent : List ℕ) → Works old → Runs old calls sent end → Goes-well old.bytes end.bytes (flat_map received calls) sent
run_well old end [] sent h run =
    subst (λ l. Goes-well old.bytes end.bytes [] l) (sym run.1) (subst (λ (t : Talk). Goes-well old.bytes t.bytes [] []) run.0 (quietly old.bytes))
run_well old end (c ∷ calls) sent h run =
    let well = step_well old run.0 c h run.2 in
    let rest = run_well run.0 end calls run.1 well.works run.4 in
    subst (λ l. Goes-well old.bytes end.bytes (received c ++ flat_map received calls) l) (sym run.3)
    (and_then old.bytes (run.0).bytes end.bytes (received c) (flat_map received calls) (taken old c) run.1 well.goes rest)

pub all_answered : RequestsAreAnswered
all_answered calls sent end run =
    let all = run_well opened end calls sent (λ h. never h) run in
    record { deeds = all.deeds; are = all.are; input = all.input; output = all.output }
