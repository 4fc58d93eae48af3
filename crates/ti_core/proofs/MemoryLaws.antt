-- A thread's own answer never says that memory ran out.
use Rattle.std.proofs.Common.{◌≡◌, ℕ, Bool, true, false, ◌==◌, List, [], ◌∷◌, ◌++◌, length, refl, arith, Option, Some, None, cond, inl, inr, slice_get, ℤ}
use Rattle.std.proofs.lemmas.Bool.{cases_Bool}
use Rattle.ti_types.specs.declared.limits.Limits.{Limits}
use Rattle.ti_types.specs.declared.numbers.EnvNo.{EnvNo}
use Rattle.ti_types.specs.declared.numbers.ThreadNo.{ThreadNo}
use Rattle.ti_types.specs.declared.place.Frame.{Frame}
use Rattle.ti_types.specs.declared.call.Call.{Call}
use Rattle.ti_types.specs.declared.call.Call.TheVariants.{State, FrameCount, Trace, Location, Suspend, Resume, GetWord, SetWord, Pop}
use Rattle.ti_types.specs.declared.entry.Entry.{Entry}
use Rattle.ti_types.specs.declared.entry.Entry.TheVariants.{Start, Own, Hand, Back, End, Asked, Stop, Read, Go}
use Rattle.ti_types.specs.declared.event.Outcome.TheVariants.{Gave}
use Rattle.ti_types.specs.declared.answer.Answer.{Answer}
use Rattle.ti_types.specs.declared.view.ThreadView.{ThreadView}
use Rattle.ti_replay.specs.Answers.{answer_of, trace_from, location_of, first_of_trace, done_or, is_running, is_alive, or_zero}
use Rattle.std.specs.Option.{option_or}
use Rattle.ti_types.specs.Pops.{popping_refusal}
use Rattle.ti_replay.specs.Legal.{is_stopper}
use Rattle.ti_replay.specs.Settling.{Placed, settled}
use Rattle.ti_replay.specs.View.{view, after, new_thread}
use Rattle.ti_replay.specs.Replies.{reply, reply_from, answer_to}
use Rattle.ti_replay.specs.Events.{given}
use Rattle.ti_replay.specs.Outcomes.{is_for_memory, was_for_memory}
use Rattle.ti_core.specs.Thread.{ThreadState, reply_now, read_told}

trace_memory : (start : Option ℕ) (most : ℕ) (frames : List Frame) → is_for_memory (Gave (trace_from start most frames)) ≡ false
trace_memory None most frames = refl
trace_memory (Some start) most frames = refl

location_memory : (f : Option Frame) → is_for_memory (Gave (location_of f)) ≡ false
location_memory None = refl
location_memory (Some f) = refl

pop_memory : (suspended : Bool) (newest caller : Option Frame) → is_for_memory (Gave (done_or (popping_refusal suspended newest caller))) ≡ false
pop_memory false newest caller = refl
pop_memory true None caller = refl
pop_memory true (Some newest) None = refl
pop_memory true (Some newest) (Some caller) = grind arith

answer_memory : (v : ThreadView) (env : EnvNo) (call : Call) → is_for_memory (Gave (answer_of v env call)) ≡ false
answer_memory v env State = refl
answer_memory v env FrameCount = grind arith
answer_memory v env (Trace start max_count) = let t = trace_memory (first_of_trace start (length v.frames)) (or_zero max_count) v.frames in elim (cases_Bool (is_alive v.mode)) [ inl on ↦ rw on t | inr off ↦ rw off refl ]
answer_memory v env (Location depth) = let t = location_memory (slice_get v.frames (or_zero depth)) in elim (cases_Bool (is_alive v.mode)) [ inl on ↦ rw on t | inr off ↦ rw off refl ]
answer_memory v env Suspend = grind arith
answer_memory v env Resume = grind arith
answer_memory v env GetWord = grind arith
answer_memory v env (SetWord word) = grind arith
answer_memory v env Pop = let t = pop_memory v.suspended (slice_get v.frames 0) (slice_get v.frames 1) in elim (cases_Bool (is_alive v.mode)) [ inl on ↦ rw on t | inr off ↦ rw off refl ]

pub entry_memory : (v : ThreadView) (x : Entry) → was_for_memory (given (answer_to v x)) ≡ false
entry_memory v Start = refl
entry_memory v (Own step) = refl
entry_memory v (Hand safe) = refl
entry_memory v Back = refl
entry_memory v End = refl
entry_memory v (Asked env n call) = answer_memory v env call
entry_memory v (Stop env) = refl
entry_memory v (Read env n) = refl
entry_memory v (Go env) = refl

pub or_memory : (a b : Option Answer) → was_for_memory (given a) ≡ false → was_for_memory (given b) ≡ false → was_for_memory (given (option_or a b)) ≡ false
or_memory None b h k = k
or_memory (Some a) b h k = h

pub if_memory : (c : Bool) (a : Option Answer) → was_for_memory (given a) ≡ false → was_for_memory (given (cond c a None)) ≡ false
if_memory true a h = h
if_memory false a h = refl

reply_from_memory : (v : ThreadView) (s : List Placed) (place : ℕ) → was_for_memory (given (reply_from v s place)) ≡ false
reply_from_memory v [] place = refl
reply_from_memory v (p ∷ s) place =
    or_memory (cond (p.0 == place) (answer_to v p.1) None) (reply_from (after v p.1) s place) (if_memory (p.0 == place) (answer_to v p.1) (entry_memory v p.1)) (reply_from_memory (after v p.1) s place)

pub reply_memory : (limits : Limits) (h : List Entry) (place : ℕ) → was_for_memory (given (reply limits h place)) ≡ false
reply_memory limits h place = reply_from_memory (new_thread limits) (settled h) place

pub ask_memory : (limits : Limits) (s : ThreadState) (e : EnvNo) (call : Call) → was_for_memory (given (reply_now limits s e call)) ≡ false
ask_memory limits s e call = reply_memory limits _ (length s.thread.history)

pub read_memory : (limits : Limits) (s : ThreadState) (e : EnvNo) (t : ThreadNo) (n : ℤ) → was_for_memory (read_told limits s e t n) ≡ false
read_memory limits s e t n =
    let stopped = is_stopper (view limits s.thread.history).stopper e in
    let runs = is_running (view limits s.thread.history).mode in
    let m = reply_memory limits (s.thread.history ++ Read e n ∷ []) (length s.thread.history) in
    elim (cases_Bool stopped) [
      | inl on ↦ elim (cases_Bool runs) [ inl r ↦ rw (on, r) refl | inr q ↦ rw (on, q) m ]
      | inr off ↦ rw off refl
    ]
