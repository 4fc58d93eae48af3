-- Worked live runs, and reports that do not fit, computed.
use Rattle.std.specs.Prelude.{ℕ, ◌≡◌, false, true, take, List, [], ◌∷◌, length, Option, Some}
use Rattle.std.proofs.Common.{zero, suc, refl, ap, subst, arith, ◌<◌, slice_index_or, lit≤, pos, negsuc}
use Rattle.ti_types.specs.declared.limits.Limits.{Limits}
use Rattle.ti_types.specs.declared.numbers.EnvNo.{EnvNo}
use Rattle.ti_types.specs.declared.numbers.ThreadNo.{ThreadNo}
use Rattle.ti_types.specs.declared.caps.Caps.{Caps}
use Rattle.ti_types.specs.declared.call.Call.TheVariants.{FrameCount, Trace, Suspend, Resume, GetWord, SetWord, State, Pop}
use Rattle.ti_types.specs.declared.place.Frame.{Frame}
use Rattle.ti_types.specs.declared.place.Place.{Place}
use Rattle.ti_types.specs.declared.place.Place.TheVariants as place
use Rattle.ti_types.specs.declared.state.Mode.TheVariants as mode
use Rattle.ti_types.specs.declared.state.Safe.TheVariants.{Blocked}
use Rattle.ti_types.specs.declared.state.Kind.TheVariants.{Sleep, Park, ObjectWait}
use Rattle.ti_types.specs.declared.step.Step.TheVariants.{Enter, Leave}
use Rattle.ti_types.specs.declared.entry.Entry.{Entry}
use Rattle.ti_types.specs.declared.entry.Entry.TheVariants as entry
use Rattle.ti_types.specs.declared.event.Event.TheVariants as event
use Rattle.ti_types.specs.declared.answer.Answer.TheVariants as answer
use Rattle.ti_types.specs.declared.error.TiError.TheVariants.{ThreadNotAlive, ThreadNotSuspended, NoMoreFrames, MustPossessCapability, InvalidThread, IllegalArgument, CallsSpent, OutOfMemory}
use Rattle.ti_types.specs.Frames.{bare_trace}
use Rattle.ti_replay.specs.Legal.{is_legal}
use Rattle.ti_replay.proofs.WorkedEvents.{t, u, ninth, e, f, a, small, java}
use Rattle.ti_live.specs.declared.call.AgentCall.{AgentCall}
use Rattle.ti_live.specs.declared.call.AgentCall.TheVariants as call
use Rattle.ti_live.specs.declared.reply.Reply.{Reply}
use Rattle.ti_live.specs.declared.reply.Reply.TheVariants.{Plain, Codes, Stacks}
use Rattle.ti_types.specs.declared.stack.StackInfo.{StackInfo}
use Rattle.ti_report.specs.Doings.{all_done}
use Rattle.ti_report.specs.Told.{used, got, history_at}
use Rattle.ti_report.specs.Refusals.{refusals_from}
use Rattle.ti_report.specs.Walks.{walked_in, entries_from, WalkFits}
use Rattle.ti_report.specs.Fits.{CallsFit, AgentFits, Fits}
use Rattle.ti_live.specs.declared.report.Script.{Script}
use Rattle.ti_live.specs.declared.report.LiveReport.{LiveReport}
use Rattle.ti_report.proofs.FitLaws.{all_more, all_agents}

abbrev info : ThreadNo → ℕ → List Frame → StackInfo
info thread state frames = record { thread = thread; state = state; frames = bare_trace frames }

abbrev suspending : Caps
suspending = record { bits = 1 }

abbrev both_caps : Caps
both_caps = record { bits = 3 }

-- ---- a list of two elements, of which one is no thread; stacks of new threads, listed and of all

abbrev calls_listed : List AgentCall
calls_listed = call.AddCaps suspending ∷ call.SuspendList (t ∷ ninth ∷ []) ∷ call.ListStacks (t ∷ u ∷ []) (pos 2) ∷ call.AllStacks (pos 2)
    ∷ call.AllStacks (negsuc 0) ∷ call.ListStacks (ninth ∷ []) (pos 2) ∷ []

abbrev replies_listed : List Reply
replies_listed = Plain answer.Done ∷ Codes (15 ∷ 10 ∷ []) ∷ Stacks (info t 0 [] ∷ info u 0 [] ∷ []) ∷ Stacks []
    ∷ Plain (answer.Refused IllegalArgument) ∷ Plain (answer.Refused InvalidThread) ∷ []

abbrev look : List Entry
look = entry.Stop e ∷ entry.Read e (pos 2) ∷ entry.Go e ∷ []

abbrev histories_listed : List (List Entry)
histories_listed = (entry.Asked e 0 Suspend ∷ entry.Stop e ∷ entry.Read e (pos 2) ∷ entry.Go e ∷ look) ∷ (entry.Stop e ∷ entry.Read e (pos 2) ∷ entry.Go e ∷ look) ∷ []

legal_listed : is_legal small (history_at histories_listed t) ≡ true
legal_listed = refl

used_listed : used small e t (all_done small e [] calls_listed replies_listed) ≡ length (got small e (history_at histories_listed t))
used_listed = refl

used_listed_there : used small e u (all_done small e [] calls_listed replies_listed) ≡ length (got small e (history_at histories_listed u))
used_listed_there = refl

fit_listed : CallsFit small histories_listed e [] calls_listed replies_listed
fit_listed = (refl, (refl, (refl, (refl, (refl, (refl, tt))))))

-- ---- a running thread that is counted at its end, whichever of the two comes first (two histories)

abbrev one_call : List AgentCall
one_call = call.Ask t FrameCount ∷ []

abbrev not_alive : List Reply
not_alive = Plain (answer.Refused ThreadNotAlive) ∷ []

abbrev enters : Entry
enters = entry.Own (Enter a)

abbrev call_first : List (List Entry)
call_first = (entry.Start ∷ entry.Asked e 0 FrameCount ∷ enters ∷ entry.End ∷ []) ∷ [] ∷ []

abbrev end_first : List (List Entry)
end_first = (entry.Start ∷ enters ∷ entry.End ∷ entry.Asked e 0 FrameCount ∷ []) ∷ [] ∷ []

fit_call_first : CallsFit small call_first e [] one_call not_alive
fit_call_first = (refl, tt)

fit_end_first : CallsFit small end_first e [] one_call not_alive
fit_end_first = (refl, tt)

walk_of_end : WalkFits small false (event.Start t ∷ event.Own t (Enter a) ∷ event.End t ∷ []) [] (history_at call_first t)
walk_of_end = record { made = 3; within = lit≤ tt; whole = λ _. refl; refusals = refl; left = refl }

-- an invented reply does not fit
invented : CallsFit small call_first e [] one_call (Plain (answer.Count 1) ∷ []) → ⊥
invented h = cc h.0

-- nor a reply without its entry
no_entry : CallsFit small (([]) ∷ [] ∷ []) e [] one_call not_alive → ⊥
no_entry h = cc h.0

-- nor the reply of an entry that asks something else
other_entry : CallsFit small ((entry.Asked e 0 GetWord ∷ []) ∷ [] ∷ []) e [] one_call not_alive → ⊥
other_entry h = cc h.0

-- nor entries that no reply uses
dropped : (used small e t (all_done small e [] one_call []) ≡ length (got small e (history_at call_first t))) → ⊥
dropped h = cc h

-- nor a 209 while a call is left
too_early : CallsFit small call_first e [] one_call (Plain (answer.Refused CallsSpent) ∷ []) → ⊥
too_early h = cc h.0

-- nor a walk that leaves an entry which it has no operation for, or lacks one
made_up : WalkFits small false (event.Start t ∷ event.End t ∷ []) [] (history_at call_first t) → ⊥
made_up h = cc (subst (λ n. walked_in (history_at call_first t) ≡ entries_from mode.New 0 (take n (event.Start t ∷ event.End t ∷ [])) []) (h.whole refl) h.left)

left_out : WalkFits small false (event.Start t ∷ event.Own t (Enter a) ∷ event.End t ∷ []) [] (entry.Start ∷ entry.End ∷ []) → ⊥
left_out h = cc (subst (λ n. (entry.Start ∷ entry.End ∷ []) ≡ entries_from mode.New 0 (take n (event.Start t ∷ event.Own t (Enter a) ∷ event.End t ∷ [])) []) (h.whole refl) h.left)

-- a thread that runs behind its walk is ended
ends_behind : WalkFits small false (event.Start t ∷ event.Own t (Enter a) ∷ []) [] (history_at call_first t)
ends_behind = record { made = 2; within = lit≤ tt; whole = λ _. refl; refusals = refl; left = refl }

-- a history without the end, or with one that is not the walk's, does not fit
no_end : WalkFits small false (event.Start t ∷ event.End t ∷ []) [] (entry.Start ∷ []) → ⊥
no_end h = cc (subst (λ n. (entry.Start ∷ []) ≡ entries_from mode.New 0 (take n (event.Start t ∷ event.End t ∷ [])) []) (h.whole refl) h.left)

another_end : WalkFits small false [] [] (entry.Start ∷ entry.End ∷ []) → ⊥
another_end h = cc (subst (λ n. (entry.Start ∷ entry.End ∷ []) ≡ entries_from mode.New 0 (take n []) []) (h.whole refl) h.left)

-- if a list ended early, the first operations are enough, with what was refused of them
ended_early : WalkFits small true (event.Start t ∷ event.Own t (Enter a) ∷ event.End t ∷ []) [] (entry.Start ∷ entry.End ∷ [])
ended_early = record { made = 1; within = lit≤ tt; whole = λ w. cc w; refusals = refl; left = refl }

refused_early : WalkFits small true (event.Poll t ∷ event.Start t ∷ event.Own t (Enter a) ∷ []) (record { operation = 0; error = 204 } ∷ []) (entry.Start ∷ entry.End ∷ [])
refused_early = record { made = 2; within = lit≤ tt; whole = λ w. cc w; refusals = refl; left = refl }

-- but no other refusal
unpaid_early : WalkFits small true (event.Start t ∷ event.Own t (Enter a) ∷ event.End t ∷ []) (record { operation = 1; error = 208 } ∷ []) (entry.Start ∷ entry.End ∷ []) → ⊥
unpaid_early h = by_count h.made h.refusals where
  by_count : (n : ℕ) → refusals_from small mode.New 0 0 (take n (event.Start t ∷ event.Own t (Enter a) ∷ event.End t ∷ [])) (record { operation = 1; error = 208 } ∷ []) ≡ true → ⊥
  by_count zero r = cc r
  by_count (suc zero) r = cc r
  by_count (suc (suc n)) r = cc r

-- ---- stacks of a thread in a method, blocked, and of one that has ended

abbrev calls_looked : List AgentCall
calls_looked = call.AllStacks (pos 4) ∷ call.ListStacks (u ∷ t ∷ u ∷ []) (pos 1) ∷ call.Ask t (Trace (pos 0) (pos 4)) ∷ []

abbrev in_a : List Frame
in_a = java a 0 ∷ []

abbrev replies_looked : List Reply
replies_looked = Stacks (info t 0x191 in_a ∷ []) ∷ Stacks (info u 0x2 [] ∷ info t 0x191 in_a ∷ info u 0x2 [] ∷ []) ∷ Plain (answer.Trace (bare_trace in_a)) ∷ []

abbrev histories_looked : List (List Entry)
histories_looked =
    (entry.Start ∷ enters ∷ entry.Hand (Blocked ObjectWait) ∷ entry.Stop e ∷ entry.Read e (pos 4) ∷ entry.Go e ∷ entry.Stop e ∷ entry.Read e (pos 1) ∷ entry.Go e ∷ entry.Asked e 0 (Trace (pos 0) (pos 4)) ∷ [])
    ∷ (entry.Start ∷ entry.Hand (Blocked Sleep) ∷ entry.Back ∷ entry.End ∷ entry.Stop e ∷ entry.Read e (pos 4) ∷ entry.Go e ∷ entry.Stop e ∷ entry.Read e (pos 1) ∷ entry.Read e (pos 1) ∷ entry.Go e ∷ []) ∷ []

fit_looked : CallsFit small histories_looked e [] calls_looked replies_looked
fit_looked = (refl, (refl, (refl, tt)))

-- where the newest frame of the first stack stands
abbrev position_of : Place → ℕ
position_of (place.Java n) = n
position_of place.Native = 0

abbrev position_in : List Frame → ℕ
position_in (frame ∷ frames) = position_of frame.place
position_in [] = 0

abbrev first_position : List (Option StackInfo) → ℕ
first_position (Some info ∷ infos) = position_in info.frames.frames
first_position _ = 0

-- a stack of a wrong frame does not fit
wrong_frame : CallsFit small histories_looked e [] calls_looked (Stacks (info t 0x191 (java a 1 ∷ []) ∷ []) ∷ []) → ⊥
wrong_frame h = let p : 1 ≡ 0 = ap first_position h.0 in cc p

-- nor one of a thread that is not alive, among those of all threads
ended_told : CallsFit small histories_looked e [] calls_looked (Stacks (info t 0x191 in_a ∷ info u 0x2 [] ∷ []) ∷ []) → ⊥
ended_told h = cc h.0

-- ---- suspension and stops of two agents at one thread

abbrev calls_of_e : List AgentCall
calls_of_e = call.AddCaps suspending ∷ call.Ask t Suspend ∷ call.AllStacks (pos 1) ∷ call.Ask t Resume ∷ []

abbrev replies_of_e : List Reply
replies_of_e = Plain answer.Done ∷ Plain answer.Done ∷ Stacks (info t 0x1000e1 [] ∷ []) ∷ Plain answer.Done ∷ []

abbrev histories_of_both : List (List Entry)
histories_of_both =
    (entry.Start ∷ entry.Hand (Blocked Sleep) ∷ entry.Asked e 0 Suspend ∷ entry.Stop f ∷ entry.Read f (pos 2) ∷ entry.Go f ∷ entry.Stop e ∷ entry.Read e (pos 1) ∷ entry.Go e ∷ entry.Asked e 1 Resume ∷ []) ∷ []

abbrev one_thread : Limits
one_thread = record { threads = 1; envs = 2; depth = 4; own = 32; calls = 8; window = 8; kept = true; in_range = ((lit≤ tt, lit≤ tt), (lit≤ tt, lit≤ tt), (lit≤ tt, lit≤ tt), (lit≤ tt, lit≤ tt), (lit≤ tt, lit≤ tt), (lit≤ tt, lit≤ tt)) }

fit_of_e : CallsFit one_thread histories_of_both e [] calls_of_e replies_of_e
fit_of_e = (refl, (refl, (refl, (refl, tt))))

fit_of_f : CallsFit one_thread histories_of_both f [] (call.AllStacks (pos 2) ∷ []) (Stacks (info t 0x1000e1 [] ∷ []) ∷ [])
fit_of_f = (refl, tt)

-- ---- calls are spent, and lack of memory is told

abbrev two_calls : Limits
two_calls = record { threads = 1; envs = 1; depth = 4; own = 32; calls = 2; window = 2; kept = true; in_range = ((lit≤ tt, lit≤ tt), (lit≤ tt, lit≤ tt), (lit≤ tt, lit≤ tt), (lit≤ tt, lit≤ tt), (lit≤ tt, lit≤ tt), (lit≤ tt, lit≤ tt)) }

abbrev least_calls : Limits
least_calls = record { threads = 1; envs = 1; depth = 4; own = 32; calls = 1; window = 1; kept = true; in_range = ((lit≤ tt, lit≤ tt), (lit≤ tt, lit≤ tt), (lit≤ tt, lit≤ tt), (lit≤ tt, lit≤ tt), (lit≤ tt, lit≤ tt), (lit≤ tt, lit≤ tt)) }

abbrev calls_spending : List AgentCall
calls_spending = call.Ask t (Trace (pos 0) (pos 1)) ∷ call.Ask t State ∷ call.AllStacks (pos 0) ∷ call.Ask t State ∷ call.Ask t State ∷ []

abbrev replies_spending : List Reply
replies_spending = Plain (answer.Refused OutOfMemory) ∷ Plain (answer.State 0) ∷ Plain (answer.Refused CallsSpent) ∷ Plain (answer.State 0) ∷ Plain (answer.Refused CallsSpent) ∷ []

abbrev histories_spending : List (List Entry)
histories_spending = (entry.Asked e 0 State ∷ entry.Asked e 1 State ∷ []) ∷ []

fit_spending : CallsFit two_calls histories_spending e [] calls_spending replies_spending
fit_spending = (refl, (refl, (refl, (refl, (refl, tt)))))

-- ---- a word that is read back before the step that the thread had logged

abbrev histories_of_word : List (List Entry)
histories_of_word = (entry.Start ∷ entry.Asked e 0 (SetWord 5) ∷ entry.Asked e 1 GetWord ∷ enters ∷ entry.End ∷ []) ∷ []

fit_word : CallsFit one_thread histories_of_word e [] (call.Ask t (SetWord 5) ∷ call.Ask t GetWord ∷ []) (Plain answer.Done ∷ Plain (answer.Word 5) ∷ [])
fit_word = (refl, (refl, tt))

other_word : CallsFit one_thread histories_of_word e [] (call.Ask t (SetWord 5) ∷ call.Ask t GetWord ∷ []) (Plain answer.Done ∷ Plain (answer.Word 0) ∷ []) → ⊥
other_word h = cc h.1.0

empty_history : CallsFit one_thread ([] ∷ []) e [] (call.Ask t (SetWord 5) ∷ call.Ask t GetWord ∷ []) (Plain answer.Done ∷ Plain (answer.Word 5) ∷ []) → ⊥
empty_history h = cc h.0

-- ---- a count at a blocked thread while another runs

abbrev histories_of_count : List (List Entry)
histories_of_count = (entry.Start ∷ enters ∷ entry.End ∷ []) ∷ (entry.Start ∷ entry.Hand (Blocked Park) ∷ entry.Asked e 0 FrameCount ∷ []) ∷ []

fit_count : CallsFit small histories_of_count e [] (call.Ask u FrameCount ∷ []) (Plain (answer.Count 0) ∷ [])
fit_count = (refl, tt)

walk_of_count : WalkFits small false (event.Start u ∷ event.ToBlocked u Park ∷ []) [] (history_at histories_of_count u)
walk_of_count = record { made = 2; within = lit≤ tt; whole = λ _. refl; refusals = refl; left = refl }

-- ---- two agents set and get their words at two threads that poll

abbrev polls : List Entry
polls = entry.Start ∷ entry.Asked e 0 (SetWord 0) ∷ entry.Asked f 0 (SetWord 1) ∷ entry.Asked f 1 GetWord ∷ entry.Asked e 1 GetWord ∷ entry.End ∷ []

abbrev words_at_both : ℕ → List AgentCall
words_at_both n = call.Ask t (SetWord n) ∷ call.Ask t GetWord ∷ call.Ask u (SetWord n) ∷ call.Ask u GetWord ∷ []

abbrev words_told : ℕ → List Reply
words_told n = Plain answer.Done ∷ Plain (answer.Word n) ∷ Plain answer.Done ∷ Plain (answer.Word n) ∷ []

fit_words_of_e : CallsFit small (polls ∷ polls ∷ []) e [] (words_at_both 0) (words_told 0)
fit_words_of_e = (refl, (refl, (refl, (refl, tt))))

fit_words_of_f : CallsFit small (polls ∷ polls ∷ []) f [] (words_at_both 1) (words_told 1)
fit_words_of_f = (refl, (refl, (refl, (refl, tt))))

-- ---- what a call for stacks leaves at each thread: one stop, its reads, one go, in this order

abbrev one_look : List AgentCall
one_look = call.ListStacks (t ∷ []) (pos 2) ∷ []

abbrev new_stack : List Reply
new_stack = Stacks (info t 0 [] ∷ []) ∷ []

fit_look : CallsFit one_thread ((entry.Stop e ∷ entry.Read e (pos 2) ∷ entry.Go e ∷ []) ∷ []) e [] one_look new_stack
fit_look = (refl, tt)

-- with no stop, with no go, with a call in between, or with another number of frames it does not fit
no_stop : CallsFit one_thread ((entry.Read e (pos 2) ∷ entry.Go e ∷ []) ∷ []) e [] one_look new_stack → ⊥
no_stop h = cc h.0

no_go : CallsFit one_thread ((entry.Stop e ∷ entry.Read e (pos 2) ∷ []) ∷ []) e [] one_look new_stack → ⊥
no_go h = cc h.0

call_between : CallsFit one_thread ((entry.Stop e ∷ entry.Asked e 0 State ∷ entry.Read e (pos 2) ∷ entry.Go e ∷ []) ∷ []) e [] one_look new_stack → ⊥
call_between h = cc h.0

fewer_frames : CallsFit one_thread ((entry.Stop e ∷ entry.Read e (pos 1) ∷ entry.Go e ∷ []) ∷ []) e [] one_look new_stack → ⊥
fewer_frames h = cc h.0

-- nor do a stop and a go that no call left
stop_alone : (used one_thread e t (all_done one_thread e [] one_look new_stack) ≡ length (got one_thread e (entry.Stop e ∷ entry.Read e (pos 2) ∷ entry.Go e ∷ entry.Stop e ∷ entry.Go e ∷ []))) → ⊥
stop_alone h = cc h

-- a list of nothing leaves nothing
fit_nothing : CallsFit one_thread ([] ∷ []) e [] (call.AddCaps suspending ∷ call.SuspendList [] ∷ call.ListStacks [] (pos 1) ∷ []) (Plain answer.Done ∷ Codes [] ∷ Stacks [] ∷ [])
fit_nothing = (refl, (refl, (refl, tt)))

-- ---- the order of a list call's own refusals

-- no thread, then a negative count, then lack of memory, then too few calls left
fit_refused : CallsFit two_calls ([] ∷ []) e []
    (call.ListStacks (ninth ∷ []) (negsuc 0) ∷ call.ListStacks (t ∷ t ∷ []) (negsuc 0) ∷ call.ListStacks (t ∷ t ∷ []) (pos 1) ∷ call.ListStacks (t ∷ t ∷ []) (pos 1) ∷ call.SuspendList (ninth ∷ []) ∷ [])
    (Plain (answer.Refused InvalidThread) ∷ Plain (answer.Refused IllegalArgument) ∷ Plain (answer.Refused OutOfMemory) ∷ Plain (answer.Refused CallsSpent) ∷ Plain (answer.Refused MustPossessCapability) ∷ [])
fit_refused = (refl, (refl, (refl, (refl, (refl, tt)))))

-- a call for all threads has too few calls left before it wants memory
all_for_memory : CallsFit least_calls ([] ∷ []) e [] (call.AllStacks (pos 1) ∷ []) (Plain (answer.Refused OutOfMemory) ∷ []) → ⊥
all_for_memory h = cc h.0

-- ---- a frame is popped, and a stack is read after it

abbrev calls_popping : List AgentCall
calls_popping = call.AddCaps both_caps ∷ call.Ask t Suspend ∷ call.Ask t Pop ∷ call.Ask t Pop ∷ call.ListStacks (t ∷ []) (pos 4) ∷ []

abbrev replies_popping : List Reply
replies_popping = Plain answer.Done ∷ Plain answer.Done ∷ Plain answer.Done ∷ Plain (answer.Refused NoMoreFrames) ∷ Stacks (info t 0x1000e1 in_a ∷ []) ∷ []

abbrev histories_popping : List (List Entry)
histories_popping =
    (entry.Start ∷ enters ∷ enters ∷ entry.Hand (Blocked Sleep) ∷ entry.Asked e 0 Suspend ∷ entry.Asked e 1 Pop ∷ entry.Asked e 2 Pop ∷ entry.Stop e ∷ entry.Read e (pos 4) ∷ entry.Go e ∷ []) ∷ []

fit_popping : CallsFit one_thread histories_popping e [] calls_popping replies_popping
fit_popping = (refl, (refl, (refl, (refl, (refl, tt)))))

-- an entry of a resumption is not the pop's
other_call : CallsFit one_thread ((entry.Start ∷ entry.Asked e 0 Resume ∷ []) ∷ []) e [] (call.AddCaps both_caps ∷ call.Ask t Pop ∷ []) (Plain answer.Done ∷ Plain (answer.Refused ThreadNotSuspended) ∷ []) → ⊥
other_call h = cc h.1.0

-- without the capability it is refused before the thread
fit_no_pop : CallsFit one_thread ([] ∷ []) e [] (call.AddCaps suspending ∷ call.Ask t Pop ∷ []) (Plain answer.Done ∷ Plain (answer.Refused MustPossessCapability) ∷ [])
fit_no_pop = (refl, (refl, tt))

-- ---- whole reports

abbrev of_none : List AgentCall
of_none = []

abbrev listing : Script
listing = record { limits = small; walks = [] ∷ [] ∷ []; calls = calls_listed ∷ of_none ∷ [] }

abbrev listed : LiveReport
listed = record { replies = replies_listed ∷ [] ∷ []; refused = [] ∷ [] ∷ []; histories = histories_listed; spent = false }

both_threads : (P : ThreadNo → Type 0) → P t → P u → (x : ThreadNo) → x.0 < 2 → P x
both_threads P p q = all_more P 1 (all_more P 0 (λ x l. absurd (omega (arith, l))) p) q

both_agents : (P : EnvNo → Type 0) → P e → P f → (x : EnvNo) → x.0 < 2 → P x
both_agents P p q = all_agents P 1 (all_agents P 0 (λ x l. absurd (omega (arith, l))) p) q

fits_listed : Fits listing listed
fits_listed = record {
  shape = record { calls = refl; walks = refl; replies = refl; histories = refl; refused = refl };
  legal = both_threads (λ x. is_legal small (history_at histories_listed x) ≡ true) refl refl;
  calls =
      both_agents (λ x. AgentFits small histories_listed x false (slice_index_or (calls_listed ∷ of_none ∷ []) x.0 []) (slice_index_or (replies_listed ∷ [] ∷ []) x.0 []))
      (record {
        all_made = λ _. refl;
        replies_fit = fit_listed;
        used_up = both_threads (λ x. used small e x (all_done small e [] calls_listed replies_listed) ≡ length (got small e (history_at histories_listed x))) refl refl;
      })
      (record {
        all_made = λ _. refl;
        replies_fit = tt;
        used_up = both_threads (λ x. used small f x (all_done small f [] of_none []) ≡ length (got small f (history_at histories_listed x))) refl refl;
      });
  walks =
      both_threads (λ x. WalkFits small false (slice_index_or ([] ∷ [] ∷ []) x.0 []) (slice_index_or ([] ∷ [] ∷ []) x.0 []) (history_at histories_listed x))
      (record { made = 0; within = lit≤ tt; whole = λ _. refl; refusals = refl; left = refl })
      (record { made = 0; within = lit≤ tt; whole = λ _. refl; refusals = refl; left = refl });
}

-- the same with no histories, with one thread's alone, or with a call that has no reply does not fit
no_histories : Fits listing (record listed { histories = [] }) → ⊥
no_histories h = cc h.shape.histories

one_history : Fits listing (record listed { histories = ([]) ∷ [] ∷ [] }) → ⊥
one_history h = cc ((h.calls e (lit≤ tt)).used_up t (lit≤ tt))

no_reply : Fits listing (record listed { replies = [] ∷ [] ∷ [] }) → ⊥
no_reply h = cc ((h.calls e (lit≤ tt)).all_made refl)

-- ---- refused operations

-- a step and a return before the start, a second start, a leave without a frame, a step after the end
walk_refused : refusals_from small mode.New 0 0 (event.Own t (Enter a) ∷ event.Back t ∷ event.Start t ∷ event.Start t ∷ event.Own t Leave ∷ event.Poll t ∷ event.End t ∷ event.Poll t ∷ [])
    (record { operation = 0; error = 204 } ∷ record { operation = 1; error = 205 } ∷ record { operation = 3; error = 210 } ∷ record { operation = 4; error = 202 } ∷ record { operation = 7; error = 204 } ∷ [])
    ≡ true
walk_refused = refl

-- no thread refuses a start for its budget, a poll that it makes, or a step twice; and none makes a step after its end
start_refused : refusals_from small mode.New 0 0 (event.Start t ∷ []) (record { operation = 0; error = 208 } ∷ []) ≡ false
start_refused = refl

poll_refused : refusals_from small mode.New 0 0 (event.Start t ∷ event.Poll t ∷ []) (record { operation = 1; error = 208 } ∷ []) ≡ false
poll_refused = refl

refused_twice : refusals_from small mode.New 0 0 (event.Poll t ∷ []) (record { operation = 0; error = 204 } ∷ record { operation = 0; error = 204 } ∷ []) ≡ false
refused_twice = refl

step_after_the_end : refusals_from small mode.New 0 0 (event.Start t ∷ event.End t ∷ event.Own t (Enter a) ∷ []) [] ≡ false
step_after_the_end = refl
