-- An event that stops all threads is alone until they are resumed.
use Rattle.std.proofs.Common.{◌≡◌, ℕ, Bool, true, false, not, ◌&&◌, ◌||◌, cond, List, [], ◌∷◌, length, Option, Some, None, Result, Ok, Err, is_some, refl, sym, ap, subst, ◌∙◌, inl, inr, arith}
use Rattle.std.specs.Prelude.{unwrap_or, bytes_eq, nat_lt, ◌==◌, take, min}
use Rattle.std.proofs.lemmas.Bool.{true≢false, and_parts, eq-eqb, ne_eqb}
use Rattle.ti_jdwp.specs.declared.actions.Action.{Action}
use Rattle.ti_jdwp.specs.declared.actions.Action.TheVariants as action
use Rattle.ti_jdwp.specs.declared.actions.Phase.{Phase}
use Rattle.ti_jdwp.specs.declared.actions.Phase.TheVariants as phase
use Rattle.ti_jdwp.specs.declared.actions.Posted.{Posted}
use Rattle.ti_jdwp.specs.declared.actions.Posted.TheVariants as posted
use Rattle.ti_jdwp.specs.declared.actions.Purpose.{Purpose}
use Rattle.ti_jdwp.specs.declared.actions.Purpose.TheVariants as purpose
use Rattle.ti_jdwp.specs.declared.error.JdwpError.{JdwpError}
use Rattle.ti_jdwp.specs.declared.error.JdwpError.TheVariants as error
use Rattle.ti_jdwp.specs.declared.front.Front.{Front}
use Rattle.ti_jdwp.specs.declared.front.Front.TheVariants as front
use Rattle.ti_jdwp.specs.declared.notice.Notice.{Notice}
use Rattle.ti_jdwp.specs.declared.plan.Plan.{Plan}
use Rattle.ti_jdwp.specs.declared.plan.Plan.TheVariants as plan
use Rattle.ti_jdwp.specs.declared.plan.Wish.{Wish}
use Rattle.ti_jdwp.specs.declared.request.Policy.{Policy}
use Rattle.ti_jdwp.specs.declared.request.Policy.TheVariants as policy
use Rattle.ti_jdwp.specs.declared.request.Request.{Request}
use Rattle.ti_jdwp.specs.declared.stops.Standing.{Standing}
use Rattle.ti_jdwp.specs.declared.stops.Target.{Target}
use Rattle.ti_jdwp.specs.declared.stops.Target.TheVariants as target
use Rattle.ti_jdwp.specs.Asking.{Reading}
use Rattle.ti_jdwp.specs.Stops.{nowhere}
use Rattle.ti_jdwp.specs.Answered.{listed_in, settled_in, placed_in, located_in, PostedBy, PostedIn}
use Rattle.ti_jdwp.specs.Holds.{count_of, held_of}
use Rattle.ti_jdwp.specs.Lines.{handshake}
use Rattle.ti_jdwp.specs.Plans.{plan_of}
use Rattle.ti_jdwp.specs.Queues.{Queue, may_tell, first, without_first}
use Rattle.ti_jdwp.specs.Requests.{request_in}
use Rattle.ti_jdwp.specs.Talks.{Talk, opened, data_of, replied, stopped, starved, greeted}
use Rattle.ti_jdwp.specs.Steps.{Does, EndsBy, SuspendsBy, SuspendsNext, ResumesNext, tells, finishes, is_all, BeginsEvent, said_in, refused, Puts, PutsRead, PutsInForce, SetsFor, SetsRead, SetsEvent, asks, ServesBy, ServesRead, ReadsBy, GoesOnWith, GoesIn, writes_first, GoesFirst}
use Rattle.ti_jdwp.specs.SessionRuns.{Call, Fed, PeerEnded, Shut, Went, Failed, Replied, Listed, PostedAs, Settled, PlacedAs, LocatedAs, StoppedAt, Written, Happened, Began, Died, Step, Runs}
use Rattle.ti_jdwp.specs.SessionStops.{is_telling, is_resuming, is_stop, tells_event, stops_all, resumes_all, stands_after, AreAlone, NoEventWhileStopped}
use Rattle.ti_jdwp.proofs.Noting.{begins_keep, dies_ends, keeps, stops_keep}

never : {X : Type 0} → false ≡ true → X
never h = absurd (true≢false (sym h))

-- an event that is being told met no stop
abbrev pub Free : Talk → Type 0
Free t = is_some t.notice ≡ true → t.queue.stopped ≡ false

-- what a step leaves
pub record Gated (old new : Talk) (c : Call) : Type 0 where
  pub free : Free new
  pub stands : (b : Bool) → (b ≡ true → old.queue.stopped ≡ true) → stands_after b old c new ≡ true → new.queue.stopped ≡ true

goes_by : (s r b : Bool) → s ≡ false → cond s true (cond r false b) ≡ true → b ≡ true
goes_by true r b h k = never (sym h)
goes_by false true b h k = never k
goes_by false false b h k = k

-- a step by which no event goes out, and that leaves what stands
same : (old new : Talk) (c : Call) → stops_all old c ≡ false → new.notice ≡ old.notice → new.queue.stopped ≡ old.queue.stopped → Free old → Gated old new c
same old new c none notice stop free = record {
  free = λ h. stop ∙ free (sym (ap is_some notice) ∙ h);
  stands = λ b was is. stop ∙ was (goes_by (stops_all old c) (resumes_all old c new) b none is);
}

not_telling : (q : Phase) (rest stop : Bool) → is_telling q ≡ false → ((is_telling q && rest) && stop) ≡ false
not_telling q rest stop h = ap (λ b. (b && rest) && stop) h

-- the same, where the phase tells no event
plain : (q : Phase) (old new : Talk) (act : Action) → old.phase ≡ q → is_telling q ≡ false → new.notice ≡ old.notice → new.queue.stopped ≡ old.queue.stopped → Free old → Gated old new (Went act)
plain q old new act at none notice stop free =
    same old new (Went act) (not_telling old.phase ((length old.bytes.output == 0) && is_some old.notice) (is_stop old.notice) (ap is_telling at ∙ none)) notice stop free

-- a step that resumes all
frees : (old new : Talk) (act : Action) → stops_all old (Went act) ≡ false → resumes_all old (Went act) new ≡ true → new.queue.stopped ≡ false → Gated old new (Went act)
frees old new act none all stop = record {
  free = λ h. stop;
  stands = λ b was is. absurd (true≢false (sym is ∙ by (stops_all old (Went act)) (resumes_all old (Went act) new) b none all));
}
  where
    by : (s r b : Bool) → s ≡ false → r ≡ true → cond s true (cond r false b) ≡ false
    by true r b h k = absurd (true≢false h)
    by false true b h k = refl
    by false false b h k = never k

suspends_gated : (p : Purpose) (u : ℕ) (old new : Talk) (act act' : Action) (q : Phase) → old.phase ≡ q → is_telling q ≡ false → Free old → SuspendsBy p u old act new → Gated old new (Went act')
suspends_gated p u old new action.Again act' q at none free s = plain q old new act' at none (ap (λ (x : Talk). x.notice) s.0) (ap (λ (x : Talk). x.queue.stopped) s.0) free
suspends_gated p u old new (action.Ask r) act' q at none free s = absurd s
suspends_gated p u old new action.ListThreads act' q at none free s = absurd s
suspends_gated p u old new (action.SetBreakpoint k m i) act' q at none free s = absurd s
suspends_gated p u old new (action.Locate v) act' q at none free s = absurd s
suspends_gated p u old new (action.LetGo v) act' q at none free s = absurd s
suspends_gated p u old new (action.Suspend v) act' q at none free s = plain q old new act' at none (ap (λ (x : Talk). x.notice) s.2) (ap (λ (x : Talk). x.queue.stopped) s.2) free
suspends_gated p u old new action.Settle act' q at none free s = absurd s
suspends_gated p u old new (action.Resume v) act' q at none free s = absurd s
suspends_gated p u old new action.Write act' q at none free s = absurd s
suspends_gated p u old new action.Close act' q at none free s = absurd s
suspends_gated p u old new action.Wait act' q at none free s = absurd s

-- the list of threads that are yet to be suspended tells nothing here
unworked : (old new : Talk) (act : Action) {p : Purpose} (b : Bool) → old.phase ≡ phase.Stopping p → stands_after b old (Went act) new ≡ true → stands_after b (record old { work = new.work }) (Went act) new ≡ true
unworked old new act b at h = subst (λ (k : Bool). cond (stops_all old (Went act)) true (cond (k || (held_of new.holds == 0)) false b) ≡ true)
    (ap (λ q. is_resuming q && (length old.work == 0)) at ∙ sym (ap (λ q. is_resuming q && (length new.work == 0)) at)) h

next_gated : (p : Purpose) (old new : Talk) (act : Action) → old.phase ≡ phase.Stopping p → Free old → SuspendsNext p old act new → Gated old new (Went act)
next_gated p old new action.Again at free s = let g = suspends_gated p s.0 (record old { work = new.work }) new action.Again action.Again (phase.Stopping p) at refl free s.2 in record { free = g.free; stands = λ b was is. g.stands b was (unworked old new action.Again b at is) }
next_gated p old new (action.Ask r) at free s = let g = suspends_gated p s.0 (record old { work = new.work }) new (action.Ask r) (action.Ask r) (phase.Stopping p) at refl free s.2 in record { free = g.free; stands = λ b was is. g.stands b was (unworked old new (action.Ask r) b at is) }
next_gated p old new action.ListThreads at free s = let g = suspends_gated p s.0 (record old { work = new.work }) new action.ListThreads action.ListThreads (phase.Stopping p) at refl free s.2 in record { free = g.free; stands = λ b was is. g.stands b was (unworked old new action.ListThreads b at is) }
next_gated p old new (action.SetBreakpoint k m i) at free s = let g = suspends_gated p s.0 (record old { work = new.work }) new (action.SetBreakpoint k m i) (action.SetBreakpoint k m i) (phase.Stopping p) at refl free s.2 in record { free = g.free; stands = λ b was is. g.stands b was (unworked old new (action.SetBreakpoint k m i) b at is) }
next_gated p old new (action.Locate v) at free s = let g = suspends_gated p s.0 (record old { work = new.work }) new (action.Locate v) (action.Locate v) (phase.Stopping p) at refl free s.2 in record { free = g.free; stands = λ b was is. g.stands b was (unworked old new (action.Locate v) b at is) }
next_gated p old new (action.LetGo v) at free s = let g = suspends_gated p s.0 (record old { work = new.work }) new (action.LetGo v) (action.LetGo v) (phase.Stopping p) at refl free s.2 in record { free = g.free; stands = λ b was is. g.stands b was (unworked old new (action.LetGo v) b at is) }
next_gated p old new (action.Suspend v) at free s = let g = suspends_gated p s.0 (record old { work = new.work }) new (action.Suspend v) (action.Suspend v) (phase.Stopping p) at refl free s.2 in record { free = g.free; stands = λ b was is. g.stands b was (unworked old new (action.Suspend v) b at is) }
next_gated p old new action.Settle at free s = plain (phase.Stopping p) old new action.Settle at refl (ap (λ (x : Talk). x.notice) s.1) (ap (λ (x : Talk). x.queue.stopped) s.1) free
next_gated p old new (action.Resume v) at free s = let g = suspends_gated p s.0 (record old { work = new.work }) new (action.Resume v) (action.Resume v) (phase.Stopping p) at refl free s.2 in record { free = g.free; stands = λ b was is. g.stands b was (unworked old new (action.Resume v) b at is) }
next_gated p old new action.Write at free s = let g = suspends_gated p s.0 (record old { work = new.work }) new action.Write action.Write (phase.Stopping p) at refl free s.2 in record { free = g.free; stands = λ b was is. g.stands b was (unworked old new action.Write b at is) }
next_gated p old new action.Close at free s = let g = suspends_gated p s.0 (record old { work = new.work }) new action.Close action.Close (phase.Stopping p) at refl free s.2 in record { free = g.free; stands = λ b was is. g.stands b was (unworked old new action.Close b at is) }
next_gated p old new action.Wait at free s = let g = suspends_gated p s.0 (record old { work = new.work }) new action.Wait action.Wait (phase.Stopping p) at refl free s.2 in record { free = g.free; stands = λ b was is. g.stands b was (unworked old new action.Wait b at is) }

resume_gated : (old new : Talk) (act : Action) → old.phase ≡ phase.Resuming → Free old → ResumesNext old act new → Gated old new (Went act)
resume_gated old new action.Again at free s = plain phase.Resuming old new action.Again at refl (ap (λ (x : Talk). x.notice) s.1) (ap (λ (x : Talk). x.queue.stopped) s.1) free
resume_gated old new (action.Ask r) at free s = absurd s
resume_gated old new action.ListThreads at free s = absurd s
resume_gated old new (action.SetBreakpoint k m i) at free s = absurd s
resume_gated old new (action.Locate v) at free s = absurd s
resume_gated old new (action.LetGo v) at free s = absurd s
resume_gated old new (action.Suspend v) at free s = absurd s
resume_gated old new action.Settle at free s = absurd s
resume_gated old new (action.Resume v) at free s = plain phase.Resuming old new (action.Resume v) at refl (ap (λ (x : Talk). x.notice) s.2) (ap (λ (x : Talk). x.queue.stopped) s.2) free
resume_gated old new action.Write at free s =
    frees old new action.Write (not_telling old.phase ((length old.bytes.output == 0) && is_some old.notice) (is_stop old.notice) (ap is_telling at))
    (ap (λ b. b || (held_of new.holds == 0)) (ap (λ q. is_resuming q && (length old.work == 0)) at ∙ eq-eqb (length old.work) 0 (ap (λ l. length l) s.0)))
    (ap (λ (x : Talk). x.queue.stopped) s.1)
resume_gated old new action.Close at free s = absurd s
resume_gated old new action.Wait at free s = absurd s

end_gated : (old new : Talk) (act : Action) → old.phase ≡ phase.Ending → Free old → EndsBy act old new → Gated old new (Went act)
end_gated old new action.Again at free s = plain phase.Ending old new action.Again at refl (ap (λ (x : Talk). x.notice) s.1) (ap (λ (x : Talk). x.queue.stopped) s.1) free
end_gated old new (action.Ask r) at free s = absurd s
end_gated old new action.ListThreads at free s = absurd s
end_gated old new (action.SetBreakpoint k m i) at free s = absurd s
end_gated old new (action.Locate v) at free s = absurd s
end_gated old new (action.LetGo v) at free s = absurd s
end_gated old new (action.Suspend v) at free s = absurd s
end_gated old new action.Settle at free s = absurd s
end_gated old new (action.Resume v) at free s = plain phase.Ending old new (action.Resume v) at refl (ap (λ (x : Talk). x.notice) s.1) (ap (λ (x : Talk). x.queue.stopped) s.1) free
end_gated old new action.Write at free s = plain phase.Ending old new action.Write at refl (ap (λ (x : Talk). x.notice) s.2) (ap (λ (x : Talk). x.queue.stopped) s.2) free
end_gated old new action.Close at free s = plain phase.Ending old new action.Close at refl (ap (λ (x : Talk). x.notice) s.2) (ap (λ (x : Talk). x.queue.stopped) s.2) free
end_gated old new action.Wait at free s = absurd s

puts_gated : (w : Wish) (r : Reading) (old new : Talk) (act act' : Action) (q : Phase) → old.phase ≡ q → is_telling q ≡ false → Free old → Puts w r old act new → Gated old new (Went act')
puts_gated w r old new action.Again act' q at none free s = plain q old new act' at none (ap (λ (x : Talk). x.notice) s) (ap (λ (x : Talk). x.queue.stopped) s) free
puts_gated w r old new action.Write act' q at none free s = plain q old new act' at none (ap (λ (x : Talk). x.notice) s) (ap (λ (x : Talk). x.queue.stopped) s) free
puts_gated w r old new (action.Ask r') act' q at none free s = absurd s
puts_gated w r old new action.ListThreads act' q at none free s = absurd s
puts_gated w r old new (action.SetBreakpoint k m i) act' q at none free s = absurd s
puts_gated w r old new (action.Locate v) act' q at none free s = absurd s
puts_gated w r old new (action.LetGo v) act' q at none free s = absurd s
puts_gated w r old new (action.Suspend v) act' q at none free s = absurd s
puts_gated w r old new action.Settle act' q at none free s = absurd s
puts_gated w r old new (action.Resume v) act' q at none free s = absurd s
puts_gated w r old new action.Close act' q at none free s = absurd s
puts_gated w r old new action.Wait act' q at none free s = absurd s

read_put_gated : (x : Result Reading JdwpError) (w : Wish) (old new : Talk) (act : Action) (q : Phase) → old.phase ≡ q → is_telling q ≡ false → Free old → PutsRead x w old act new → Gated old new (Went act)
read_put_gated (Err e) w old new act q at none free s = plain q old new act at none (ap (λ (x : Talk). x.notice) s.1) (ap (λ (x : Talk). x.queue.stopped) s.1) free
read_put_gated (Ok r) w old new act q at none free s = puts_gated w r old new act act q at none free s

in_force_gated : (w : Wish) (from : Standing) (old new : Talk) (act : Action) (q : Phase) → old.phase ≡ q → is_telling q ≡ false → Free old → PutsInForce w from old act new → Gated old new (Went act)
in_force_gated w from old new act q at none free s = elim s [
  | inl a ↦ read_put_gated (said_in w from old) w old new act q at none free a
  | inr a ↦ plain q old new act at none (ap (λ (x : Talk). x.notice) a.1) (ap (λ (x : Talk). x.queue.stopped) a.1) free
]

located_first : (b : Bool) (u : ℕ) (w : Wish) (old new : Talk) (act : Action) → old.phase ≡ phase.Ready → Free old
    → Does (cond b (refused error.ThreadNotSuspended old) (action.Locate u, record old { phase = phase.Locating w })) act new → Gated old new (Went act)
located_first true u w old new act at free s = plain phase.Ready old new act at refl (ap (λ (x : Talk). x.notice) s.1) (ap (λ (x : Talk). x.queue.stopped) s.1) free
located_first false u w old new act at free s = plain phase.Ready old new act at refl (ap (λ (x : Talk). x.notice) s.1) (ap (λ (x : Talk). x.queue.stopped) s.1) free

sets_for_gated : (t : Target) (w : Wish) (r : Reading) (old new : Talk) (act : Action) → old.phase ≡ phase.Ready → Free old → SetsFor t w r old act new → Gated old new (Went act)
sets_for_gated target.Anywhere w r old new act at free s = puts_gated w r old new act act phase.Ready at refl free s
sets_for_gated (target.Place k m i) w r old new act at free s = plain phase.Ready old new act at refl (ap (λ (x : Talk). x.notice) s.1) (ap (λ (x : Talk). x.queue.stopped) s.1) free
sets_for_gated (target.Step step) w r old new act at free s = located_first (count_of old.holds step.thread == 0) step.thread w old new act at free s

sets_read_gated : (x : Result Reading JdwpError) (w : Wish) (old new : Talk) (act : Action) → old.phase ≡ phase.Ready → Free old → SetsRead x w old act new → Gated old new (Went act)
sets_read_gated (Err e) w old new act at free s = plain phase.Ready old new act at refl (ap (λ (x : Talk). x.notice) s.1) (ap (λ (x : Talk). x.queue.stopped) s.1) free
sets_read_gated (Ok r) w old new act at free s = sets_for_gated r.target w r old new act at free s

sets_gated : (w : Wish) (old new : Talk) (act : Action) → old.phase ≡ phase.Ready → Free old → SetsEvent w old act new → Gated old new (Went act)
sets_gated w old new act at free s = elim s [
  | inl a ↦ sets_read_gated (said_in w nowhere old) w old new act at free a
  | inr a ↦ plain phase.Ready old new act at refl (ap (λ (x : Talk). x.notice) a.1) (ap (λ (x : Talk). x.queue.stopped) a.1) free
]

one_gated : (u : ℕ) (old new : Talk) (act : Action) (b : Bool) → held_of new.holds == 0 ≡ b → old.phase ≡ phase.Ready → Free old → new.notice ≡ old.notice → new.queue.stopped ≡ (cond b (record old.queue { stopped = false }) old.queue).stopped → Gated old new (Went act)
one_gated u old new act true none at free notice stop =
    frees old new act (not_telling old.phase ((length old.bytes.output == 0) && is_some old.notice) (is_stop old.notice) (ap is_telling at))
    (ap (λ b. b || (held_of new.holds == 0)) (ap (λ q. is_resuming q && (length old.work == 0)) at) ∙ none) stop
one_gated u old new act false none at free notice stop = plain phase.Ready old new act at refl notice stop free

stack_gated : (b : Bool) (r : Request) (old new : Talk) (act : Action) → old.phase ≡ phase.Ready → Free old → Does (cond b (action.Write, replied old (Err 13)) (action.Ask r, asks old)) act new → Gated old new (Went act)
stack_gated true r old new act at free s = plain phase.Ready old new act at refl (ap (λ (x : Talk). x.notice) s.1) (ap (λ (x : Talk). x.queue.stopped) s.1) free
stack_gated false r old new act at free s = plain phase.Ready old new act at refl (ap (λ (x : Talk). x.notice) s.1) (ap (λ (x : Talk). x.queue.stopped) s.1) free

plan_gated : (pl : Plan) (r : Request) (old new : Talk) (act : Action) → old.phase ≡ phase.Ready → Free old → ServesBy pl r old act new → Gated old new (Went act)
plan_gated (plan.Refuse e) r old new act at free s = plain phase.Ready old new act at refl (ap (λ (x : Talk). x.notice) s.1) (ap (λ (x : Talk). x.queue.stopped) s.1) free
plan_gated (plan.Constant k) r old new act at free s = plain phase.Ready old new act at refl (ap (λ (x : Talk). x.notice) s.1) (ap (λ (x : Talk). x.queue.stopped) s.1) free
plan_gated plan.Ask r old new act at free s = plain phase.Ready old new act at refl (ap (λ (x : Talk). x.notice) s.1) (ap (λ (x : Talk). x.queue.stopped) s.1) free
plan_gated (plan.AskStack thread) r old new act at free s = stack_gated (count_of old.holds thread == 0) r old new act at free s
plan_gated (plan.Count thread) r old new act at free s = plain phase.Ready old new act at refl (ap (λ (x : Talk). x.notice) s.1) (ap (λ (x : Talk). x.queue.stopped) s.1) free
plan_gated (plan.Suspend thread) r old new act at free s = suspends_gated purpose.One thread old new act act phase.Ready at refl free s
plan_gated (plan.Resume thread) r old new act at free s = one_gated thread old new act (held_of new.holds == 0) refl at free (ap (λ (x : Talk). x.notice) s.3) (ap (λ (x : Talk). x.queue.stopped) s.3)
plan_gated plan.SuspendAll r old new act at free s = plain phase.Ready old new act at refl (ap (λ (x : Talk). x.notice) s.1) (ap (λ (x : Talk). x.queue.stopped) s.1) free
plan_gated plan.ResumeAll r old new act at free s = plain phase.Ready old new act at refl (ap (λ (x : Talk). x.notice) s.1) (ap (λ (x : Talk). x.queue.stopped) s.1) free
plan_gated plan.Hold r old new act at free s = plain phase.Ready old new act at refl (ap (λ (x : Talk). x.notice) s.1) (ap (λ (x : Talk). x.queue.stopped) s.1) free
plan_gated plan.Release r old new act at free s = plain phase.Ready old new act at refl (ap (λ (x : Talk). x.notice) s.1) (ap (λ (x : Talk). x.queue.stopped) s.1) free
plan_gated (plan.Set w) r old new act at free s = sets_gated w old new act at free s
plan_gated (plan.Clear kind number) r old new act at free s = plain phase.Ready old new act at refl (ap (λ (x : Talk). x.notice) s.1) (ap (λ (x : Talk). x.queue.stopped) s.1) free
plan_gated plan.Dispose r old new act at free s = plain phase.Ready old new act at refl (ap (λ (x : Talk). x.notice) s.1) (ap (λ (x : Talk). x.queue.stopped) s.1) free

read_gated : (q : Result Request JdwpError) (old new : Talk) (act : Action) → old.phase ≡ phase.Ready → Free old → ServesRead q old act new → Gated old new (Went act)
read_gated (Err e) old new act at free s = plain phase.Ready old new act at refl (ap (λ (x : Talk). x.notice) s.1) (ap (λ (x : Talk). x.queue.stopped) s.1) free
read_gated (Ok r) old new act at free s = plan_gated (plan_of r) r old new act at free s

starved_gated : (b : Bool) (old new : Talk) (act : Action) (q : Phase) → old.phase ≡ q → is_telling q ≡ false → Free old → Does (cond b (action.Again, stopped old) (action.Wait, old)) act new → Gated old new (Went act)
starved_gated true old new act q at none free s = plain q old new act at none (ap (λ (x : Talk). x.notice) s.1) (ap (λ (x : Talk). x.queue.stopped) s.1) free
starved_gated false old new act q at none free s = plain q old new act at none (ap (λ (x : Talk). x.notice) s.1) (ap (λ (x : Talk). x.queue.stopped) s.1) free

front_gated : (f : Front) (old new : Talk) (act : Action) → old.phase ≡ phase.Ready → Free old → ReadsBy f old act new → Gated old new (Went act)
front_gated front.More old new act at free s = starved_gated old.ended old new act phase.Ready at refl free s
front_gated front.Broken old new act at free s = plain phase.Ready old new act at refl (ap (λ (x : Talk). x.notice) s.1) (ap (λ (x : Talk). x.queue.stopped) s.1) free
front_gated (front.Reply n) old new act at free s = plain phase.Ready old new act at refl (ap (λ (x : Talk). x.notice) s.1) (ap (λ (x : Talk). x.queue.stopped) s.1) free
front_gated (front.Request f) old new act at free s =
    let g = read_gated (request_in f.set f.command (data_of f old.bytes.input)) (record old { first = f }) new act at free s in
    record { free = g.free; stands = g.stands }

may : (held stop : Bool) → (not held && not stop) ≡ true → stop ≡ false
may true stop h = cc
may false true h = cc
may false false h = refl

begin_gated : (p : Policy) (thread : ℕ) (old new : Talk) (act : Action) → old.phase ≡ phase.Ready → Free old → BeginsEvent p thread old act new → Gated old new (Went act)
begin_gated policy.None thread old new act at free s = plain phase.Ready old new act at refl (ap (λ (x : Talk). x.notice) s.1) (ap (λ (x : Talk). x.queue.stopped) s.1) free
begin_gated policy.EventThread thread old new act at free s = suspends_gated purpose.Event thread old new act act phase.Ready at refl free s
begin_gated policy.All thread old new act at free s = plain phase.Ready old new act at refl (ap (λ (x : Talk). x.notice) s.1) (ap (λ (x : Talk). x.queue.stopped) s.1) free

-- what is taken of the events that wait
taken_is : (b : Bool) (o : Option Notice) (n : Notice) → cond b o None ≡ Some n → b ≡ true
taken_is true o n h = refl
taken_is false o n h = cc

on_gated : (n : Option Notice) (old new : Talk) (act : Action) → cond (may_tell old.queue) (first old.queue.waiting) None ≡ n → old.phase ≡ phase.Ready → Free old → GoesOnWith n old act new → Gated old new (Went act)
on_gated None old new act is at free s = front_gated s.0 old new act at free s.2
on_gated (Some n) old new act is at free s =
    let next : Talk = record old { queue = without_first old.queue; notice = Some n } in
    let stop : old.queue.stopped ≡ false = may old.queue.held old.queue.stopped (taken_is (may_tell old.queue) (first old.queue.waiting) n is) in
    let g = begin_gated n.policy n.thread next new act at (λ h. stop) s in
    record {
      free = g.free;
      stands = λ b was is'. g.stands b was (not_stopping old next new act b at at is');
    }
  where
    not_stopping : (old next new : Talk) (act : Action) (b : Bool) → old.phase ≡ phase.Ready → next.phase ≡ phase.Ready → stands_after b old (Went act) new ≡ true → stands_after b next (Went act) new ≡ true
    not_stopping old next new act b at at' h =
        let was : stops_all old (Went act) ≡ false = not_telling old.phase ((length old.bytes.output == 0) && is_some old.notice) (is_stop old.notice) (ap is_telling at) in
        let is : stops_all next (Went act) ≡ false = not_telling next.phase ((length next.bytes.output == 0) && is_some next.notice) (is_stop next.notice) (ap is_telling at') in
        let r : resumes_all old (Went act) new ≡ resumes_all next (Went act) new =
        ap (λ q. (is_resuming q && (length old.work == 0)) || (held_of new.holds == 0)) at ∙ sym (ap (λ q. (is_resuming q && (length next.work == 0)) || (held_of new.holds == 0)) at') in
        ap (λ s. cond s true (cond (resumes_all next (Went act) new) false b)) is ∙ sym (ap (λ s. cond s true (cond (resumes_all old (Went act) new) false b)) was ∙ ap (λ r. cond r false b) r) ∙ h

stop_of : (p : Policy) (q : Queue) → q.stopped ≡ false → (cond (is_all p) (record q { stopped = true }) q).stopped ≡ is_all p
stop_of policy.None q h = h
stop_of policy.EventThread q h = h
stop_of policy.All q h = refl

told_gated : (o : Option Notice) (old new : Talk) (act : Action) → old.notice ≡ o → Free old → new ≡ tells o old → Gated old new (Went act)
told_gated None old new act at free is = record {
  free = λ h. never (sym (ap (λ (x : Talk). is_some x.notice) is) ∙ h);
  stands = λ b was s.
      ap (λ (x : Talk). x.queue.stopped) is
      ∙ was (goes_by (stops_all old (Went act)) (resumes_all old (Went act) new) b (ap (λ n. tells_event old (Went act) && is_stop n) at ∙ off (tells_event old (Went act))) s);
}
  where
    off : (b : Bool) → (b && false) ≡ false
    off true = refl
    off false = refl
told_gated (Some n) old new act at free is = record {
  free = λ h. never (sym (ap (λ (x : Talk). is_some x.notice) is) ∙ h);
  stands = λ b was s.
      let stop : old.queue.stopped ≡ false = free (ap is_some at) in
      ap (λ (x : Talk). x.queue.stopped) is ∙ stop_of n.policy old.queue stop
      ∙ by (tells_event old (Went act)) (is_all n.policy) (resumes_all old (Went act) new) b (λ k. true≢false (sym (was k) ∙ stop))
      (sym (ap (λ m. cond (tells_event old (Went act) && is_stop m) true (cond (resumes_all old (Went act) new) false b)) at) ∙ s);
}
  where
    by : (t a r b : Bool) → (b ≡ true → ⊥) → cond (t && a) true (cond r false b) ≡ true → a ≡ true
    by true true r b no' h = refl
    by true false true b no' h = never h
    by true false false b no' h = absurd (no' h)
    by false a true b no' h = never h
    by false a false b no' h = absurd (no' h)

finish_gated : (p : Purpose) (old new : Talk) (act : Action) → old.phase ≡ phase.Finishing p → Free old → Does (finishes p old) act new → Gated old new (Went act)
finish_gated purpose.One old new act at free s = plain (phase.Finishing purpose.One) old new act at refl (ap (λ (x : Talk). x.notice) s.1) (ap (λ (x : Talk). x.queue.stopped) s.1) free
finish_gated purpose.All old new act at free s = plain (phase.Finishing purpose.All) old new act at refl (ap (λ (x : Talk). x.notice) s.1) (ap (λ (x : Talk). x.queue.stopped) s.1) free
finish_gated purpose.Event old new act at free s = told_gated old.notice old new act refl free s.1
finish_gated purpose.End old new act at free s = plain (phase.Finishing purpose.End) old new act at refl (ap (λ (x : Talk). x.notice) s.1) (ap (λ (x : Talk). x.queue.stopped) s.1) free

greet_gated : (b c : Bool) (old new : Talk) (act : Action) → old.phase ≡ phase.Greeting → Free old → Does (cond b (action.Again, stopped old) (cond c (starved old) (action.Write, greeted old))) act new → Gated old new (Went act)
greet_gated true c old new act at free s = plain phase.Greeting old new act at refl (ap (λ (x : Talk). x.notice) s.1) (ap (λ (x : Talk). x.queue.stopped) s.1) free
greet_gated false true old new act at free s = starved_gated old.ended old new act phase.Greeting at refl free s
greet_gated false false old new act at free s = plain phase.Greeting old new act at refl (ap (λ (x : Talk). x.notice) s.1) (ap (λ (x : Talk). x.queue.stopped) s.1) free

in_gated : (q : Phase) (old new : Talk) (act : Action) → old.phase ≡ q → Free old → GoesIn q old act new → Gated old new (Went act)
in_gated phase.Greeting old new act at free s = greet_gated
    (not (bytes_eq (take (min (length old.bytes.input) 14) old.bytes.input) (take (min (length old.bytes.input) 14) handshake)))
    (nat_lt (min (length old.bytes.input) 14) 14) old new act at free s
in_gated phase.Ready old new act at free s = on_gated (cond (may_tell old.queue) (first old.queue.waiting) None) old new act refl at free s
in_gated phase.Asking old new act at free s = plain phase.Asking old new act at refl (ap (λ (x : Talk). x.notice) s.1) (ap (λ (x : Talk). x.queue.stopped) s.1) free
in_gated (phase.Listing p) old new act at free s = plain (phase.Listing p) old new act at refl (ap (λ (x : Talk). x.notice) s.1) (ap (λ (x : Talk). x.queue.stopped) s.1) free
in_gated (phase.Stopping p) old new act at free s = next_gated p old new act at free s
in_gated (phase.Suspending p u) old new act at free s = plain (phase.Suspending p u) old new act at refl (ap (λ (x : Talk). x.notice) s.1) (ap (λ (x : Talk). x.queue.stopped) s.1) free
in_gated (phase.Undoing p u) old new act at free s = plain (phase.Undoing p u) old new act at refl (ap (λ (x : Talk). x.notice) s.1) (ap (λ (x : Talk). x.queue.stopped) s.1) free
in_gated (phase.Settling p) old new act at free s = plain (phase.Settling p) old new act at refl (ap (λ (x : Talk). x.notice) s.1) (ap (λ (x : Talk). x.queue.stopped) s.1) free
in_gated (phase.Finishing p) old new act at free s = finish_gated p old new act at free s
in_gated phase.Refusing old new act at free s = plain phase.Refusing old new act at refl (ap (λ (x : Talk). x.notice) s.1) (ap (λ (x : Talk). x.queue.stopped) s.1) free
in_gated (phase.Placing w) old new act at free s = plain (phase.Placing w) old new act at refl (ap (λ (x : Talk). x.notice) s.1) (ap (λ (x : Talk). x.queue.stopped) s.1) free
in_gated (phase.Locating w) old new act at free s = plain (phase.Locating w) old new act at refl (ap (λ (x : Talk). x.notice) s.1) (ap (λ (x : Talk). x.queue.stopped) s.1) free
in_gated (phase.Putting w k) old new act at free s = in_force_gated w k old new act (phase.Putting w k) at refl free s
in_gated (phase.Denied d) old new act at free s = plain (phase.Denied d) old new act at refl (ap (λ (x : Talk). x.notice) s.1) (ap (λ (x : Talk). x.queue.stopped) s.1) free
in_gated (phase.Numbered n) old new act at free s = plain (phase.Numbered n) old new act at refl (ap (λ (x : Talk). x.notice) s.1) (ap (λ (x : Talk). x.queue.stopped) s.1) free
in_gated phase.Resuming old new act at free s = resume_gated old new act at free s
in_gated phase.Ending old new act at free s = end_gated old new act at free s
in_gated phase.Closed old new act at free s = plain phase.Closed old new act at refl (ap (λ (x : Talk). x.notice) s.1) (ap (λ (x : Talk). x.queue.stopped) s.1) free

longer : (b : ℕ) (output : List ℕ) → (length (b ∷ output) == 0) ≡ false
longer b output = ne_eqb (length (b ∷ output)) 0 (λ h. omega (arith, h))

full_output : (q : Phase) (output : List ℕ) → writes_first q output ≡ true → (length output == 0) ≡ false
full_output phase.Greeting [] h = never h
full_output phase.Greeting (b ∷ output) h = longer b output
full_output phase.Ready [] h = never h
full_output phase.Ready (b ∷ output) h = longer b output
full_output phase.Asking [] h = never h
full_output phase.Asking (b ∷ output) h = longer b output
full_output (phase.Listing p) [] h = never h
full_output (phase.Listing p) (b ∷ output) h = longer b output
full_output (phase.Stopping p) [] h = never h
full_output (phase.Stopping p) (b ∷ output) h = longer b output
full_output (phase.Suspending p u) [] h = never h
full_output (phase.Suspending p u) (b ∷ output) h = longer b output
full_output (phase.Undoing p u) [] h = never h
full_output (phase.Undoing p u) (b ∷ output) h = longer b output
full_output (phase.Settling p) [] h = never h
full_output (phase.Settling p) (b ∷ output) h = longer b output
full_output (phase.Finishing p) [] h = never h
full_output (phase.Finishing p) (b ∷ output) h = longer b output
full_output phase.Refusing [] h = never h
full_output (phase.Placing w) [] h = never h
full_output (phase.Locating w) [] h = never h
full_output (phase.Putting w k) [] h = never h
full_output (phase.Denied d) [] h = never h
full_output phase.Refusing (b ∷ output) h = longer b output
full_output (phase.Placing w) (b ∷ output) h = longer b output
full_output (phase.Locating w) (b ∷ output) h = longer b output
full_output (phase.Putting w k) (b ∷ output) h = longer b output
full_output (phase.Denied d) (b ∷ output) h = longer b output
full_output (phase.Numbered n) [] h = never h
full_output (phase.Numbered n) (b ∷ output) h = longer b output
full_output phase.Resuming [] h = never h
full_output phase.Resuming (b ∷ output) h = longer b output
full_output phase.Ending output h = never h
full_output phase.Closed [] h = never h
full_output phase.Closed (b ∷ output) h = longer b output

first_gated : (b : Bool) (old new : Talk) (act : Action) → writes_first old.phase old.bytes.output ≡ b → Free old → GoesFirst b old act new → Gated old new (Went act)
first_gated true old new act is free s =
    same old new (Went act) (unsent (is_telling old.phase) (length old.bytes.output == 0) (is_some old.notice) (is_stop old.notice) (full_output old.phase old.bytes.output is)) (ap (λ (x : Talk). x.notice) s.1) (ap (λ (x : Talk). x.queue.stopped) s.1) free
  where
    unsent : (a b c d : Bool) → b ≡ false → ((a && (b && c)) && d) ≡ false
    unsent true true c d h = absurd (true≢false h)
    unsent true false c d h = refl
    unsent false b c d h = refl
first_gated false old new act is free s = in_gated old.phase old new act refl free s

some_is : (x y d : Talk) → Some x ≡ Some y → y ≡ x
some_is x y d h = sym (ap (λ (o : Option Talk). unwrap_or o d) h)

listed_gated : (q : Phase) (threads : List ℕ) (old new : Talk) → Free old → listed_in q threads old ≡ Some new → Gated old new (Listed threads)
listed_gated phase.Greeting threads old new free s = cc
listed_gated phase.Ready threads old new free s = cc
listed_gated phase.Asking threads old new free s = cc
listed_gated (phase.Listing p) threads old new free s = let is = some_is _ _ old s in same old new (Listed threads) refl (ap (λ (x : Talk). x.notice) is) (ap (λ (x : Talk). x.queue.stopped) is) free
listed_gated (phase.Stopping p) threads old new free s = cc
listed_gated (phase.Suspending p u) threads old new free s = cc
listed_gated (phase.Undoing p u) threads old new free s = cc
listed_gated (phase.Settling p) threads old new free s = cc
listed_gated (phase.Finishing p) threads old new free s = cc
listed_gated phase.Refusing threads old new free s = cc
listed_gated (phase.Placing w) threads old new free s = cc
listed_gated (phase.Locating w) threads old new free s = cc
listed_gated (phase.Putting w k) threads old new free s = cc
listed_gated (phase.Denied d) threads old new free s = cc
listed_gated (phase.Numbered n) threads old new free s = cc
listed_gated phase.Resuming threads old new free s = cc
listed_gated phase.Ending threads old new free s = cc
listed_gated phase.Closed threads old new free s = cc

settled_gated : (q : Phase) (old new : Talk) → Free old → settled_in q old ≡ Some new → Gated old new Settled
settled_gated phase.Greeting old new free s = cc
settled_gated phase.Ready old new free s = cc
settled_gated phase.Asking old new free s = cc
settled_gated (phase.Listing p) old new free s = cc
settled_gated (phase.Stopping p) old new free s = cc
settled_gated (phase.Suspending p u) old new free s = cc
settled_gated (phase.Undoing p u) old new free s = cc
settled_gated (phase.Settling p) old new free s = let is = some_is _ _ old s in same old new Settled refl (ap (λ (x : Talk). x.notice) is) (ap (λ (x : Talk). x.queue.stopped) is) free
settled_gated (phase.Finishing p) old new free s = cc
settled_gated phase.Refusing old new free s = cc
settled_gated (phase.Placing w) old new free s = cc
settled_gated (phase.Locating w) old new free s = cc
settled_gated (phase.Putting w k) old new free s = cc
settled_gated (phase.Denied d) old new free s = cc
settled_gated (phase.Numbered n) old new free s = cc
settled_gated phase.Resuming old new free s = cc
settled_gated phase.Ending old new free s = cc
settled_gated phase.Closed old new free s = cc

placed_gated : (q : Phase) (placed : Result (Unit {0}) JdwpError) (old new : Talk) → Free old → placed_in q placed old ≡ Some new → Gated old new (PlacedAs placed)
placed_gated phase.Greeting placed old new free s = cc
placed_gated phase.Ready placed old new free s = cc
placed_gated phase.Asking placed old new free s = cc
placed_gated (phase.Listing p) placed old new free s = cc
placed_gated (phase.Stopping p) placed old new free s = cc
placed_gated (phase.Suspending p u) placed old new free s = cc
placed_gated (phase.Undoing p u) placed old new free s = cc
placed_gated (phase.Settling p) placed old new free s = cc
placed_gated (phase.Finishing p) placed old new free s = cc
placed_gated phase.Refusing placed old new free s = cc
placed_gated (phase.Placing w) placed old new free s = let is = some_is _ _ old s in same old new (PlacedAs placed) refl (ap (λ (x : Talk). x.notice) is) (ap (λ (x : Talk). x.queue.stopped) is) free
placed_gated (phase.Locating w) placed old new free s = cc
placed_gated (phase.Putting w k) placed old new free s = cc
placed_gated (phase.Denied d) placed old new free s = cc
placed_gated (phase.Numbered n) placed old new free s = cc
placed_gated phase.Resuming placed old new free s = cc
placed_gated phase.Ending placed old new free s = cc
placed_gated phase.Closed placed old new free s = cc

located_gated : (q : Phase) (standing : Option Standing) (old new : Talk) → Free old → located_in q standing old ≡ Some new → Gated old new (LocatedAs standing)
located_gated phase.Greeting standing old new free s = cc
located_gated phase.Ready standing old new free s = cc
located_gated phase.Asking standing old new free s = cc
located_gated (phase.Listing p) standing old new free s = cc
located_gated (phase.Stopping p) standing old new free s = cc
located_gated (phase.Suspending p u) standing old new free s = cc
located_gated (phase.Undoing p u) standing old new free s = cc
located_gated (phase.Settling p) standing old new free s = cc
located_gated (phase.Finishing p) standing old new free s = cc
located_gated phase.Refusing standing old new free s = cc
located_gated (phase.Placing w) standing old new free s = cc
located_gated (phase.Locating w) standing old new free s = let is = some_is _ _ old s in same old new (LocatedAs standing) refl (ap (λ (x : Talk). x.notice) is) (ap (λ (x : Talk). x.queue.stopped) is) free
located_gated (phase.Putting w k) standing old new free s = cc
located_gated (phase.Denied d) standing old new free s = cc
located_gated (phase.Numbered n) standing old new free s = cc
located_gated phase.Resuming standing old new free s = cc
located_gated phase.Ending standing old new free s = cc
located_gated phase.Closed standing old new free s = cc

by_gated : (p : Purpose) (u : ℕ) (post : Posted) (old new : Talk) (c : Posted) → Free old → PostedBy p u post old new → Gated old new (PostedAs c)
by_gated p u posted.Suspended old new c free s = elim s [
  | inl a ↦ same old new (PostedAs c) refl (ap (λ (x : Talk). x.notice) a.1) (ap (λ (x : Talk). x.queue.stopped) a.1) free
  | inr a ↦ same old new (PostedAs c) refl (ap (λ (x : Talk). x.notice) a) (ap (λ (x : Talk). x.queue.stopped) a) free
]
by_gated p u posted.ByAnother old new c free s = elim s [
  | inl a ↦ same old new (PostedAs c) refl (ap (λ (x : Talk). x.notice) a.1) (ap (λ (x : Talk). x.queue.stopped) a.1) free
  | inr a ↦ same old new (PostedAs c) refl (ap (λ (x : Talk). x.notice) a) (ap (λ (x : Talk). x.queue.stopped) a) free
]
by_gated p u posted.NotAlive old new c free s = same old new (PostedAs c) refl (ap (λ (x : Talk). x.notice) s) (ap (λ (x : Talk). x.queue.stopped) s) free
by_gated p u posted.Unknown old new c free s = same old new (PostedAs c) refl (ap (λ (x : Talk). x.notice) s) (ap (λ (x : Talk). x.queue.stopped) s) free

posted_gated : (q : Phase) (post : Posted) (old new : Talk) → Free old → PostedIn q post old new → Gated old new (PostedAs post)
posted_gated phase.Greeting post old new free s = absurd s
posted_gated phase.Ready post old new free s = absurd s
posted_gated phase.Asking post old new free s = absurd s
posted_gated (phase.Listing p) post old new free s = absurd s
posted_gated (phase.Stopping p) post old new free s = absurd s
posted_gated (phase.Suspending p u) post old new free s = by_gated p u post old new post free s
posted_gated (phase.Undoing p u) post old new free s = absurd s
posted_gated (phase.Settling p) post old new free s = absurd s
posted_gated (phase.Finishing p) post old new free s = absurd s
posted_gated phase.Refusing post old new free s = absurd s
posted_gated (phase.Placing w) post old new free s = absurd s
posted_gated (phase.Locating w) post old new free s = absurd s
posted_gated (phase.Putting w k) post old new free s = absurd s
posted_gated (phase.Denied d) post old new free s = absurd s
posted_gated (phase.Numbered n) post old new free s = absurd s
posted_gated phase.Resuming post old new free s = absurd s
posted_gated phase.Ending post old new free s = absurd s
posted_gated phase.Closed post old new free s = absurd s

step_gated : (old new : Talk) (c : Call) → Free old → Step old c new → Gated old new c
step_gated old new (Fed bytes) free s = same old new (Fed bytes) refl (ap (λ (x : Talk). x.notice) s.1) (ap (λ (x : Talk). x.queue.stopped) s.1) free
step_gated old new PeerEnded free s = same old new PeerEnded refl (ap (λ (x : Talk). x.notice) s) (ap (λ (x : Talk). x.queue.stopped) s) free
step_gated old new Shut free s = same old new Shut refl (ap (λ (x : Talk). x.notice) s) (ap (λ (x : Talk). x.queue.stopped) s) free
step_gated old new (Went act) free s = first_gated (writes_first old.phase old.bytes.output) old new act refl free s
step_gated old new Failed free s = same old new Failed refl (ap (λ (x : Talk). x.notice) s.0) (ap (λ (x : Talk). x.queue.stopped) s.0) free
step_gated old new (Replied a) free s = same old new (Replied a) refl (ap (λ (x : Talk). x.notice) s.1) (ap (λ (x : Talk). x.queue.stopped) s.1) free
step_gated old new (Listed threads) free s = listed_gated old.phase threads old new free s
step_gated old new (PostedAs post) free s = posted_gated old.phase post old new free s
step_gated old new Settled free s = settled_gated old.phase old new free s
step_gated old new (PlacedAs placed) free s = placed_gated old.phase placed old new free s
step_gated old new (LocatedAs standing) free s = located_gated old.phase standing old new free s
step_gated old new (StoppedAt x v) free s = let k = stops_keep x v old new s in same old new (StoppedAt x v) refl k.notice k.stopped free
step_gated old new (Written count) free s = same old new (Written count) refl (ap (λ (x : Talk). x.notice) s) (ap (λ (x : Talk). x.queue.stopped) s) free
step_gated old new (Happened e o result) free s = let k = keeps e o result old new s in same old new (Happened e o result) refl k.notice k.stopped free
step_gated old new (Began v result) free s = let k = begins_keep v result old new s in same old new (Began v result) refl k.notice k.stopped free
step_gated old new (Died result) free s = let k = dies_ends result old new s in same old new (Died result) refl k.notice k.stopped free

-- an event that goes out is there
told_some : (t : Talk) (c : Call) → tells_event t c ≡ true → is_some t.notice ≡ true
told_some t (Fed bytes) h = never h
told_some t PeerEnded h = never h
told_some t Shut h = never h
told_some t (Went act) h = (and_parts (length t.bytes.output == 0) (is_some t.notice) (and_parts (is_telling t.phase) ((length t.bytes.output == 0) && is_some t.notice) h).1).1
told_some t Failed h = never h
told_some t (Replied a) h = never h
told_some t (Listed threads) h = never h
told_some t (PostedAs post) h = never h
told_some t Settled h = never h
told_some t (PlacedAs r) h = never h
told_some t (LocatedAs o) h = never h
told_some t (StoppedAt x v) h = never h
told_some t (Written count) h = never h
told_some t (Happened e o result) h = never h
told_some t (Began v result) h = never h
told_some t (Died result) h = never h

not_both : (b : Bool) (stop : Bool) → (b ≡ true → stop ≡ true) → stop ≡ false → b ≡ false
not_both true stop h k = absurd (true≢false (sym (h refl) ∙ k))
not_both false stop h k = refl

alone : (b : Bool) (old end : Talk) (calls : List Call) (sent : List ℕ) → Free old → (b ≡ true → old.queue.stopped ≡ true) → (run : Runs old calls sent end) → AreAlone b old calls sent end run
alone b old end [] sent free stands run = tt
alone b old end (c ∷ calls) sent free stands run =
    let g = step_gated old run.0 c free run.2 in
    (λ h. not_both b old.queue.stopped stands (free (told_some old c h)), alone (stands_after b old c run.0) run.0 end calls run.1 g.free (g.stands b stands) run.4)

pub no_event_while_stopped : NoEventWhileStopped
no_event_while_stopped calls sent end run = alone false opened end calls sent (λ h. never h) (λ h. never h) run
