-- What a session suspends it resumes.
use Rattle.std.proofs.Common.{◌≡◌, ℕ, ◌+◌, ◌<◌, Bool, true, false, not, ◌&&◌, cond, List, [], ◌∷◌, length, Option, Some, None, Result, Ok, Err, eqb, refl, sym, ap, subst, ◌∙◌, inl, inr, arith}
use Rattle.std.specs.Prelude.{unwrap_or, bytes_eq, nat_lt, ◌==◌, take, min}
use Rattle.std.proofs.lemmas.Bool.{true≢false, cases_eq, eq-eqb, ne_eqb, eqb-true}
use Rattle.ti_jdwp.specs.declared.actions.Action.{Action}
use Rattle.ti_jdwp.specs.declared.actions.Action.TheVariants as action
use Rattle.ti_jdwp.specs.declared.actions.Phase.{Phase}
use Rattle.ti_jdwp.specs.declared.actions.Phase.TheVariants as phase
use Rattle.ti_jdwp.specs.declared.actions.Posted.{Posted}
use Rattle.ti_jdwp.specs.declared.actions.Posted.TheVariants as posted
use Rattle.ti_jdwp.specs.declared.actions.Purpose.{Purpose}
use Rattle.ti_jdwp.specs.declared.actions.Purpose.TheVariants as purpose
use Rattle.ti_jdwp.specs.declared.error.JdwpError.{JdwpError}
use Rattle.ti_jdwp.specs.declared.error.JdwpError.TheVariants as error
use Rattle.ti_jdwp.specs.declared.front.Front.{Front}
use Rattle.ti_jdwp.specs.declared.front.Front.TheVariants as front
use Rattle.ti_jdwp.specs.declared.notice.Notice.{Notice}
use Rattle.ti_jdwp.specs.declared.plan.Plan.{Plan}
use Rattle.ti_jdwp.specs.declared.plan.Plan.TheVariants as plan
use Rattle.ti_jdwp.specs.declared.plan.Wish.{Wish}
use Rattle.ti_jdwp.specs.declared.request.Policy.{Policy}
use Rattle.ti_jdwp.specs.declared.request.Policy.TheVariants as policy
use Rattle.ti_jdwp.specs.declared.request.Request.{Request}
use Rattle.ti_jdwp.specs.declared.stops.Standing.{Standing}
use Rattle.ti_jdwp.specs.declared.stops.Target.{Target}
use Rattle.ti_jdwp.specs.declared.stops.Target.TheVariants as target
use Rattle.ti_jdwp.specs.Asking.{Reading}
use Rattle.ti_jdwp.specs.Stops.{nowhere}
use Rattle.ti_jdwp.specs.declared.suspensions.Holder.TheVariants as holder
use Rattle.ti_jdwp.specs.Answered.{is_asked, listed_in, settled_in, placed_as, placed_in, located_as, located_in, unknown, PostedBy, PostedIn}
use Rattle.ti_jdwp.specs.Constants.{constant_bytes}
use Rattle.ti_jdwp.specs.Errors.{number_of}
use Rattle.ti_jdwp.specs.Fields.{int}
use Rattle.ti_jdwp.specs.Holds.{Holds, held_threads, count_of, is_own}
use Rattle.ti_jdwp.specs.HoldRuns as hold
use Rattle.ti_jdwp.specs.Lines.{handshake, without_input}
use Rattle.ti_jdwp.specs.Plans.{plan_of}
use Rattle.ti_jdwp.specs.Queues.{may_tell, first, without_first}
use Rattle.ti_jdwp.specs.Requests.{request_in}
use Rattle.ti_jdwp.specs.Talks.{Talk, opened, data_of, replied, stopped, starved, greeted, after, closing}
use Rattle.ti_jdwp.specs.Steps.{Does, EndsBy, SuspendsBy, SuspendsNext, ResumesNext, tells, finishes, BeginsEvent, told_by, said_in, refused, Puts, PutsRead, PutsInForce, SetsFor, SetsRead, SetsEvent, clears, suspended_reply, asks, ServesBy, ServesRead, ReadsBy, GoesOnWith, GoesIn, writes_first, GoesFirst}
use Rattle.ti_jdwp.specs.SessionRuns.{Call, Fed, PeerEnded, Shut, Went, Failed, Replied, Listed, PostedAs, Settled, PlacedAs, LocatedAs, StoppedAt, Written, Happened, Began, Died, Step}
use Rattle.ti_jdwp.specs.SessionHolds.{posts, undoes, is_closed, is_done, suspends_it, resumes_by, resumes_it, once, Counts, owed, NothingStaysSuspended}
use Rattle.ti_jdwp.proofs.Noting.{begins_keep, dies_ends, keeps, stops_keep}
use Rattle.ti_jdwp.proofs.Balance.{Owns, goes, free_own}

never : {X : Type 0} → false ≡ true → X
never h = absurd (true≢false (sym h))

-- what is known of one thread
pub record Fine (s : Talk) (t : ℕ) : Type 0 where
  pub owns : Owns s.holds t
  pub zero : posts s.phase t ≡ true → count_of s.holds t ≡ 0
  pub free : is_closed s.phase ≡ true → count_of s.holds t ≡ 0

-- what a step does at one thread, where the driver suspends it or is told to resume it
pub record Undoes (old new : Talk) (t : ℕ) (suspends resumes : Bool) : Type 0 where
  pub balance : once suspends + owed old t ≡ once resumes + owed new t
  pub fine : Fine new t

-- the counts stay
still : (old new : Talk) (t : ℕ) (p : Phase) → new.holds ≡ old.holds → new.phase ≡ p → undoes p t ≡ undoes old.phase t → (posts p t ≡ true → count_of old.holds t ≡ 0) → (is_closed p ≡ true → count_of old.holds t ≡ 0) → Fine old t → Undoes old new t false false
still old new t p holds is same zero free fine = record {
  balance =
      let own = ap (λ h. once (is_own h t)) holds in
      let out = ap (λ (q : Phase). once (undoes q t)) is in
      let back = ap once same in
      omega (arith, own, out, back);
  fine = record {
    owns = subst (λ h. Owns h t) (sym holds) fine.owns;
    zero = λ k. ap (λ h. count_of h t) holds ∙ zero (sym (ap (λ (q : Phase). posts q t) is) ∙ k);
    free = λ k. ap (λ h. count_of h t) holds ∙ free (sym (ap is_closed is) ∙ k);
  };
}

-- and nothing is posted or undone
quiet : (old new : Talk) (t : ℕ) (q p : Phase) → old.phase ≡ q → undoes q t ≡ false → new.holds ≡ old.holds → new.phase ≡ p → undoes p t ≡ false → posts p t ≡ false → is_closed p ≡ false → Fine old t → Undoes old new t false false
quiet old new t q p at out holds is in' none open' fine =
    still old new t p holds is (in' ∙ sym out ∙ ap (λ (x : Phase). undoes x t) (sym at)) (λ k. never (sym none ∙ k)) (λ k. never (sym open' ∙ k)) fine

-- the counts change by one call
moved : (old new : Talk) (t : ℕ) (c : hold.Call) (suspends resumes : Bool) (q p : Phase) → old.phase ≡ q → undoes q t ≡ false → new.phase ≡ p → undoes p t ≡ false → posts p t ≡ false → is_closed p ≡ false
    → hold.Step old.holds c new.holds → hold.suspends t (count_of old.holds t) c ≡ suspends → hold.resumes t c ≡ resumes → Fine old t → Undoes old new t suspends resumes
moved old new t c suspends resumes q p at out is in' none open' step s r fine =
    let g = goes old.holds new.holds c t fine.owns step in
    let a = ap once s in
    let b = ap once r in
    let o = ap once (ap (λ (x : Phase). undoes x t) at ∙ out) in
    let i = ap once (ap (λ (x : Phase). undoes x t) is ∙ in') in
    record {
      balance = omega (arith, g.balance, a, b, o, i);
      fine = record {
        owns = g.owns;
        zero = λ k. never (sym (ap (λ (x : Phase). posts x t) is ∙ none) ∙ k);
        free = λ k. never (sym (ap is_closed is ∙ open') ∙ k);
      };
    }

and_true : (b : Bool) → (b && true) ≡ b
and_true true = refl
and_true false = refl

and_false : (b : Bool) → (b && false) ≡ false
and_false true = refl
and_false false = refl

-- above 0 a suspension is counted alone
above : (u t : ℕ) (h : Holds) → 0 < count_of h u → hold.suspends t (count_of h t) (hold.Suspended u holder.Debugger) ≡ false
above u t h some = elim (cases_eq u t) [
  | inl same ↦ ap (λ b. eqb u t && (b && true)) (ne_eqb (count_of h t) 0 (λ z. let k : count_of h u ≡ 0 = ap (count_of h) same ∙ z in omega (arith, k, some))) ∙ and_false (eqb u t)
  | inr other ↦ ap (λ b. b && (eqb (count_of h t) 0 && true)) (ne_eqb u t other)
]

-- at 0 it is one of the service
at_zero : (b : Bool) (n : ℕ) → (b ≡ true → n ≡ 0) → (b && (eqb n 0 && true)) ≡ b
at_zero true n h = and_true (eqb n 0) ∙ eq-eqb n 0 (h refl)
at_zero false n h = refl

by_another : (u t n : ℕ) → hold.suspends t n (hold.Suspended u holder.Another) ≡ false
by_another u t n = ap (λ b. eqb u t && b) (and_false (eqb n 0)) ∙ and_false (eqb u t)

suspends_even : (p : Purpose) (u : ℕ) (old new : Talk) (act : Action) (t : ℕ) (q : Phase) → old.phase ≡ q → undoes q t ≡ false → Fine old t → SuspendsBy p u old act new → Undoes old new t false (resumes_by t act)
suspends_even p u old new action.Again t q at out fine s = elim s.2 [
  | inl a ↦ moved old new t (hold.Suspended u holder.Debugger) false false q (phase.Stopping p) at out (ap (λ (x : Talk). x.phase) s.0) refl refl refl a.0 (above u t old.holds s.1) refl fine
  | inr a ↦ quiet old new t q (phase.Stopping p) at out a.0 (ap (λ (x : Talk). x.phase) s.0) refl refl refl fine
]
suspends_even p u old new (action.Ask r) t q at out fine s = absurd s
suspends_even p u old new action.ListThreads t q at out fine s = absurd s
suspends_even p u old new (action.SetBreakpoint k m i) t q at out fine s = absurd s
suspends_even p u old new (action.Locate v) t q at out fine s = absurd s
suspends_even p u old new (action.LetGo v) t q at out fine s = absurd s
suspends_even p u old new (action.Suspend v) t q at out fine s =
    still old new t (phase.Suspending p u) (ap (λ (x : Talk). x.holds) s.2) (ap (λ (x : Talk). x.phase) s.2) (sym out ∙ ap (λ (x : Phase). undoes x t) (sym at)) (λ k. ap (count_of old.holds) (sym (eqb-true u t k)) ∙ s.1) (λ k. never k) fine
suspends_even p u old new action.Settle t q at out fine s = absurd s
suspends_even p u old new (action.Resume v) t q at out fine s = absurd s
suspends_even p u old new action.Write t q at out fine s = absurd s
suspends_even p u old new action.Close t q at out fine s = absurd s
suspends_even p u old new action.Wait t q at out fine s = absurd s

next_even : (p : Purpose) (old new : Talk) (act : Action) (t : ℕ) (q : Phase) → old.phase ≡ q → undoes q t ≡ false → Fine old t → SuspendsNext p old act new → Undoes old new t false (resumes_by t act)
next_even p old new action.Again t q at out fine s = let f : Fine (record old { work = new.work }) t = record { owns = fine.owns; zero = fine.zero; free = fine.free } in let u = suspends_even p s.0 (record old { work = new.work }) new action.Again t q at out f s.2 in record { balance = u.balance; fine = u.fine }
next_even p old new (action.Ask r) t q at out fine s = let f : Fine (record old { work = new.work }) t = record { owns = fine.owns; zero = fine.zero; free = fine.free } in let u = suspends_even p s.0 (record old { work = new.work }) new (action.Ask r) t q at out f s.2 in record { balance = u.balance; fine = u.fine }
next_even p old new action.ListThreads t q at out fine s = let f : Fine (record old { work = new.work }) t = record { owns = fine.owns; zero = fine.zero; free = fine.free } in let u = suspends_even p s.0 (record old { work = new.work }) new action.ListThreads t q at out f s.2 in record { balance = u.balance; fine = u.fine }
next_even p old new (action.SetBreakpoint k m i) t q at out fine s = let f : Fine (record old { work = new.work }) t = record { owns = fine.owns; zero = fine.zero; free = fine.free } in let u = suspends_even p s.0 (record old { work = new.work }) new (action.SetBreakpoint k m i) t q at out f s.2 in record { balance = u.balance; fine = u.fine }
next_even p old new (action.Locate v) t q at out fine s = let f : Fine (record old { work = new.work }) t = record { owns = fine.owns; zero = fine.zero; free = fine.free } in let u = suspends_even p s.0 (record old { work = new.work }) new (action.Locate v) t q at out f s.2 in record { balance = u.balance; fine = u.fine }
next_even p old new (action.LetGo v) t q at out fine s = let f : Fine (record old { work = new.work }) t = record { owns = fine.owns; zero = fine.zero; free = fine.free } in let u = suspends_even p s.0 (record old { work = new.work }) new (action.LetGo v) t q at out f s.2 in record { balance = u.balance; fine = u.fine }
next_even p old new (action.Suspend v) t q at out fine s = let f : Fine (record old { work = new.work }) t = record { owns = fine.owns; zero = fine.zero; free = fine.free } in let u = suspends_even p s.0 (record old { work = new.work }) new (action.Suspend v) t q at out f s.2 in record { balance = u.balance; fine = u.fine }
next_even p old new action.Settle t q at out fine s = quiet old new t q (phase.Settling p) at out (ap (λ (x : Talk). x.holds) s.1) (ap (λ (x : Talk). x.phase) s.1) refl refl refl fine
next_even p old new (action.Resume v) t q at out fine s = let f : Fine (record old { work = new.work }) t = record { owns = fine.owns; zero = fine.zero; free = fine.free } in let u = suspends_even p s.0 (record old { work = new.work }) new (action.Resume v) t q at out f s.2 in record { balance = u.balance; fine = u.fine }
next_even p old new action.Write t q at out fine s = let f : Fine (record old { work = new.work }) t = record { owns = fine.owns; zero = fine.zero; free = fine.free } in let u = suspends_even p s.0 (record old { work = new.work }) new action.Write t q at out f s.2 in record { balance = u.balance; fine = u.fine }
next_even p old new action.Close t q at out fine s = let f : Fine (record old { work = new.work }) t = record { owns = fine.owns; zero = fine.zero; free = fine.free } in let u = suspends_even p s.0 (record old { work = new.work }) new action.Close t q at out f s.2 in record { balance = u.balance; fine = u.fine }
next_even p old new action.Wait t q at out fine s = let f : Fine (record old { work = new.work }) t = record { owns = fine.owns; zero = fine.zero; free = fine.free } in let u = suspends_even p s.0 (record old { work = new.work }) new action.Wait t q at out f s.2 in record { balance = u.balance; fine = u.fine }

resume_even : (old new : Talk) (act : Action) (t : ℕ) → old.phase ≡ phase.Resuming → Fine old t → ResumesNext old act new → Undoes old new t false (resumes_by t act)
resume_even old new action.Again t at fine s = moved old new t (hold.Resumed (s.0).0 false) false false phase.Resuming phase.Resuming at refl ((ap (λ (x : Talk). x.phase) s.1) ∙ at) refl refl refl (s.0).2 refl (and_false (eqb (s.0).0 t)) fine
resume_even old new (action.Ask r) t at fine s = absurd s
resume_even old new action.ListThreads t at fine s = absurd s
resume_even old new (action.SetBreakpoint k m i) t at fine s = absurd s
resume_even old new (action.Locate v) t at fine s = absurd s
resume_even old new (action.LetGo v) t at fine s = absurd s
resume_even old new (action.Suspend v) t at fine s = absurd s
resume_even old new action.Settle t at fine s = absurd s
resume_even old new (action.Resume v) t at fine s = moved old new t (hold.Resumed v true) false (eqb v t) phase.Resuming phase.Resuming at refl ((ap (λ (x : Talk). x.phase) s.2) ∙ at) refl refl refl s.1 refl (and_true (eqb v t)) fine
resume_even old new action.Write t at fine s = quiet old new t phase.Resuming phase.Ready at refl (ap (λ (x : Talk). x.holds) s.1) (ap (λ (x : Talk). x.phase) s.1) refl refl refl fine
resume_even old new action.Close t at fine s = absurd s
resume_even old new action.Wait t at fine s = absurd s

end_even : (old new : Talk) (act : Action) (t : ℕ) → old.phase ≡ phase.Ending → Fine old t → EndsBy act old new → Undoes old new t false (resumes_by t act)
end_even old new action.Again t at fine s = moved old new t (hold.LetGo (s.0).0 false) false false phase.Ending phase.Ending at refl ((ap (λ (x : Talk). x.phase) s.1) ∙ at) refl refl refl (s.0).1 refl (and_false (eqb (s.0).0 t)) fine
end_even old new (action.Ask r) t at fine s = absurd s
end_even old new action.ListThreads t at fine s = absurd s
end_even old new (action.SetBreakpoint k m i) t at fine s = absurd s
end_even old new (action.Locate v) t at fine s = absurd s
end_even old new (action.LetGo v) t at fine s = absurd s
end_even old new (action.Suspend v) t at fine s = absurd s
end_even old new action.Settle t at fine s = absurd s
end_even old new (action.Resume v) t at fine s = moved old new t (hold.LetGo v true) false (eqb v t) phase.Ending phase.Ending at refl ((ap (λ (x : Talk). x.phase) s.1) ∙ at) refl refl refl s.0 refl (and_true (eqb v t)) fine
end_even old new action.Write t at fine s = quiet old new t phase.Ending phase.Ending at refl (ap (λ (x : Talk). x.holds) s.2) ((ap (λ (x : Talk). x.phase) s.2) ∙ at) refl refl refl fine
end_even old new action.Close t at fine s = still old new t phase.Closed (ap (λ (x : Talk). x.holds) s.2) (ap (λ (x : Talk). x.phase) s.2) (sym (ap (λ (x : Phase). undoes x t) at)) (λ k. never k) (λ k. s.0 t) fine
end_even old new action.Wait t at fine s = absurd s

-- a step that does this, and leaves the counts
does : (old new target : Talk) (told act : Action) (t : ℕ) (q p : Phase) → resumes_by t told ≡ false → Does (told, target) act new → target.holds ≡ old.holds → target.phase ≡ p → old.phase ≡ q → undoes q t ≡ false → undoes p t ≡ false → posts p t ≡ false → is_closed p ≡ false → Fine old t → Undoes old new t false (resumes_by t act)
does old new target told act t q p none s holds is at out in' post open' fine =
    subst (λ b. Undoes old new t false b) (sym (ap (resumes_by t) s.0 ∙ none))
    (quiet old new t q p at out (ap (λ (x : Talk). x.holds) s.1 ∙ holds) (ap (λ (x : Talk). x.phase) s.1 ∙ is) in' post open' fine)

puts_even : (w : Wish) (r : Reading) (old new : Talk) (act : Action) (t : ℕ) (q : Phase) → old.phase ≡ q → undoes q t ≡ false → Fine old t → Puts w r old act new → Undoes old new t false (resumes_by t act)
puts_even w r old new action.Again t q at out fine s = quiet old new t q (phase.Numbered (old.requests.given + 1)) at out (ap (λ (x : Talk). x.holds) s) (ap (λ (x : Talk). x.phase) s) refl refl refl fine
puts_even w r old new action.Write t q at out fine s = quiet old new t q phase.Ready at out (ap (λ (x : Talk). x.holds) s) (ap (λ (x : Talk). x.phase) s) refl refl refl fine
puts_even w r old new (action.Ask r') t q at out fine s = absurd s
puts_even w r old new action.ListThreads t q at out fine s = absurd s
puts_even w r old new (action.SetBreakpoint k m i) t q at out fine s = absurd s
puts_even w r old new (action.Locate v) t q at out fine s = absurd s
puts_even w r old new (action.LetGo v) t q at out fine s = absurd s
puts_even w r old new (action.Suspend v) t q at out fine s = absurd s
puts_even w r old new action.Settle t q at out fine s = absurd s
puts_even w r old new (action.Resume v) t q at out fine s = absurd s
puts_even w r old new action.Close t q at out fine s = absurd s
puts_even w r old new action.Wait t q at out fine s = absurd s

denied_even : (d : JdwpError) (old new : Talk) (act : Action) (t : ℕ) (q : Phase) → old.phase ≡ q → undoes q t ≡ false → Fine old t → Does (refused d old) act new → Undoes old new t false (resumes_by t act)
denied_even d old new act t q at out fine s = does old new (replied old (Err (number_of d))) action.Write act t q phase.Ready refl s refl refl at out refl refl refl fine

read_put_even : (x : Result Reading JdwpError) (w : Wish) (old new : Talk) (act : Action) (t : ℕ) (q : Phase) → old.phase ≡ q → undoes q t ≡ false → Fine old t → PutsRead x w old act new → Undoes old new t false (resumes_by t act)
read_put_even (Err e) w old new act t q at out fine s = denied_even e old new act t q at out fine s
read_put_even (Ok r) w old new act t q at out fine s = puts_even w r old new act t q at out fine s

in_force_even : (w : Wish) (from : Standing) (old new : Talk) (act : Action) (t : ℕ) (q : Phase) → old.phase ≡ q → undoes q t ≡ false → Fine old t → PutsInForce w from old act new → Undoes old new t false (resumes_by t act)
in_force_even w from old new act t q at out fine s = elim s [
  | inl a ↦ read_put_even (said_in w from old) w old new act t q at out fine a
  | inr a ↦ denied_even error.OutOfMemory old new act t q at out fine a
]

located_first : (b : Bool) (u : ℕ) (w : Wish) (old new : Talk) (act : Action) (t : ℕ) → old.phase ≡ phase.Ready → Fine old t
    → Does (cond b (refused error.ThreadNotSuspended old) (action.Locate u, record old { phase = phase.Locating w })) act new → Undoes old new t false (resumes_by t act)
located_first true u w old new act t at fine s = denied_even error.ThreadNotSuspended old new act t phase.Ready at refl fine s
located_first false u w old new act t at fine s = does old new (record old { phase = phase.Locating w }) (action.Locate u) act t phase.Ready (phase.Locating w) refl s refl refl at refl refl refl refl fine

sets_for_even : (g : Target) (w : Wish) (r : Reading) (old new : Talk) (act : Action) (t : ℕ) → old.phase ≡ phase.Ready → Fine old t → SetsFor g w r old act new → Undoes old new t false (resumes_by t act)
sets_for_even target.Anywhere w r old new act t at fine s = puts_even w r old new act t phase.Ready at refl fine s
sets_for_even (target.Place k m i) w r old new act t at fine s = does old new (record old { phase = phase.Placing w }) (action.SetBreakpoint k m i) act t phase.Ready (phase.Placing w) refl s refl refl at refl refl refl refl fine
sets_for_even (target.Step step) w r old new act t at fine s = located_first (count_of old.holds step.thread == 0) step.thread w old new act t at fine s

sets_read_even : (x : Result Reading JdwpError) (w : Wish) (old new : Talk) (act : Action) (t : ℕ) → old.phase ≡ phase.Ready → Fine old t → SetsRead x w old act new → Undoes old new t false (resumes_by t act)
sets_read_even (Err e) w old new act t at fine s = denied_even e old new act t phase.Ready at refl fine s
sets_read_even (Ok r) w old new act t at fine s = sets_for_even r.target w r old new act t at fine s

sets_even : (w : Wish) (old new : Talk) (act : Action) (t : ℕ) → old.phase ≡ phase.Ready → Fine old t → SetsEvent w old act new → Undoes old new t false (resumes_by t act)
sets_even w old new act t at fine s = elim s [
  | inl a ↦ sets_read_even (said_in w nowhere old) w old new act t at fine a
  | inr a ↦ denied_even error.OutOfMemory old new act t phase.Ready at refl fine a
]

one_even : (told : Bool) (u : ℕ) (old new : Talk) (act : Action) (t : ℕ) → old.phase ≡ phase.Ready → new.phase ≡ phase.Ready → Fine old t → hold.Step old.holds (hold.Resumed u told) new.holds → act ≡ cond told (action.Resume u) action.Write → Undoes old new t false (resumes_by t act)
one_even true u old new act t at is fine step told =
    subst (λ b. Undoes old new t false b) (sym (ap (resumes_by t) told))
    (moved old new t (hold.Resumed u true) false (eqb u t) phase.Ready phase.Ready at refl is refl refl refl step refl (and_true (eqb u t)) fine)
one_even false u old new act t at is fine step told =
    subst (λ b. Undoes old new t false b) (sym (ap (resumes_by t) told))
    (moved old new t (hold.Resumed u false) false false phase.Ready phase.Ready at refl is refl refl refl step refl (and_false (eqb u t)) fine)

stack_even : (b : Bool) (r : Request) (old new : Talk) (act : Action) (t : ℕ) → old.phase ≡ phase.Ready → Fine old t → Does (cond b (action.Write, replied old (Err 13)) (action.Ask r, asks old)) act new → Undoes old new t false (resumes_by t act)
stack_even true r old new act t at fine s = does old new (replied old (Err 13)) action.Write act t phase.Ready phase.Ready refl s refl refl at refl refl refl refl fine
stack_even false r old new act t at fine s = does old new (asks old) (action.Ask r) act t phase.Ready phase.Asking refl s refl refl at refl refl refl refl fine

plan_even : (pl : Plan) (r : Request) (old new : Talk) (act : Action) (t : ℕ) → old.phase ≡ phase.Ready → Fine old t → ServesBy pl r old act new → Undoes old new t false (resumes_by t act)
plan_even (plan.Refuse e) r old new act t at fine s = does old new (replied old (Err (number_of e))) action.Write act t phase.Ready phase.Ready refl s refl refl at refl refl refl refl fine
plan_even (plan.Constant k) r old new act t at fine s = does old new (replied old (Ok (constant_bytes k))) action.Write act t phase.Ready phase.Ready refl s refl refl at refl refl refl refl fine
plan_even plan.Ask r old new act t at fine s = does old new (asks old) (action.Ask r) act t phase.Ready phase.Asking refl s refl refl at refl refl refl refl fine
plan_even (plan.AskStack thread) r old new act t at fine s = stack_even (count_of old.holds thread == 0) r old new act t at fine s
plan_even (plan.Count thread) r old new act t at fine s = does old new (replied old (Ok (int (count_of old.holds thread)))) action.Write act t phase.Ready phase.Ready refl s refl refl at refl refl refl refl fine
plan_even (plan.Suspend thread) r old new act t at fine s = suspends_even purpose.One thread old new act t phase.Ready at refl fine s
plan_even (plan.Resume thread) r old new act t at fine s = one_even s.0 thread old new act t at (ap (λ (x : Talk). x.phase) s.3) fine s.1 s.2
plan_even plan.SuspendAll r old new act t at fine s = does old new (record old { phase = phase.Listing purpose.All }) action.ListThreads act t phase.Ready (phase.Listing purpose.All) refl s refl refl at refl refl refl refl fine
plan_even plan.ResumeAll r old new act t at fine s = does old new (record old { phase = phase.Resuming; work = held_threads old.holds }) action.Again act t phase.Ready phase.Resuming refl s refl refl at refl refl refl refl fine
plan_even plan.Hold r old new act t at fine s = does old new (record (replied old (Ok [])) { queue = record old.queue { held = true } }) action.Write act t phase.Ready phase.Ready refl s refl refl at refl refl refl refl fine
plan_even plan.Release r old new act t at fine s = does old new (record (replied old (Ok [])) { queue = record old.queue { held = false } }) action.Write act t phase.Ready phase.Ready refl s refl refl at refl refl refl refl fine
plan_even (plan.Set w) r old new act t at fine s = sets_even w old new act t at fine s
plan_even (plan.Clear kind number) r old new act t at fine s = does old new (clears kind number old) action.Write act t phase.Ready phase.Ready refl s refl refl at refl refl refl refl fine
plan_even plan.Dispose r old new act t at fine s = does old new (stopped (replied old (Ok []))) action.Again act t phase.Ready phase.Ending refl s refl refl at refl refl refl refl fine

read_even : (q : Result Request JdwpError) (old new : Talk) (act : Action) (t : ℕ) → old.phase ≡ phase.Ready → Fine old t → ServesRead q old act new → Undoes old new t false (resumes_by t act)
read_even (Err e) old new act t at fine s = does old new (replied old (Err (number_of e))) action.Write act t phase.Ready phase.Ready refl s refl refl at refl refl refl refl fine
read_even (Ok r) old new act t at fine s = plan_even (plan_of r) r old new act t at fine s

starved_even : (b : Bool) (old new : Talk) (act : Action) (t : ℕ) (q : Phase) → old.phase ≡ q → undoes q t ≡ false → posts q t ≡ false → is_closed q ≡ false → Fine old t → Does (cond b (action.Again, stopped old) (action.Wait, old)) act new → Undoes old new t false (resumes_by t act)
starved_even true old new act t q at out post open' fine s = does old new (stopped old) action.Again act t q phase.Ending refl s refl refl at out refl refl refl fine
starved_even false old new act t q at out post open' fine s = does old new old action.Wait act t q q refl s refl at at out out post open' fine

fine_on : (old next : Talk) (t : ℕ) → next.holds ≡ old.holds → next.phase ≡ old.phase → Fine old t → Fine next t
fine_on old next t holds is fine = record {
  owns = subst (λ h. Owns h t) (sym holds) fine.owns;
  zero = λ k. ap (λ h. count_of h t) holds ∙ fine.zero (sym (ap (λ (q : Phase). posts q t) is) ∙ k);
  free = λ k. ap (λ h. count_of h t) holds ∙ fine.free (sym (ap is_closed is) ∙ k);
}

front_even : (f : Front) (old new : Talk) (act : Action) (t : ℕ) → old.phase ≡ phase.Ready → Fine old t → ReadsBy f old act new → Undoes old new t false (resumes_by t act)
front_even front.More old new act t at fine s = starved_even old.ended old new act t phase.Ready at refl refl refl fine s
front_even front.Broken old new act t at fine s = does old new (stopped old) action.Again act t phase.Ready phase.Ending refl s refl refl at refl refl refl refl fine
front_even (front.Reply n) old new act t at fine s = does old new (record old { bytes = without_input old.bytes n }) action.Again act t phase.Ready phase.Ready refl s refl at at refl refl refl refl fine
front_even (front.Request f) old new act t at fine s =
    let u = read_even (request_in f.set f.command (data_of f old.bytes.input)) (record old { first = f }) new act t at (fine_on old (record old { first = f }) t refl refl fine) s in
    record { balance = u.balance; fine = u.fine }

begin_even : (p : Policy) (thread : ℕ) (old new : Talk) (act : Action) (t : ℕ) → old.phase ≡ phase.Ready → Fine old t → BeginsEvent p thread old act new → Undoes old new t false (resumes_by t act)
begin_even policy.None thread old new act t at fine s = does old new (record old { phase = phase.Finishing purpose.Event }) action.Again act t phase.Ready (phase.Finishing purpose.Event) refl s refl refl at refl refl refl refl fine
begin_even policy.EventThread thread old new act t at fine s = suspends_even purpose.Event thread old new act t phase.Ready at refl fine s
begin_even policy.All thread old new act t at fine s = does old new (record old { phase = phase.Listing purpose.Event }) action.ListThreads act t phase.Ready (phase.Listing purpose.Event) refl s refl refl at refl refl refl refl fine

on_even : (n : Option Notice) (old new : Talk) (act : Action) (t : ℕ) → old.phase ≡ phase.Ready → Fine old t → GoesOnWith n old act new → Undoes old new t false (resumes_by t act)
on_even None old new act t at fine s = front_even s.0 old new act t at fine s.2
on_even (Some n) old new act t at fine s =
    let next : Talk = record old { queue = without_first old.queue; notice = Some n } in
    let u = begin_even n.policy n.thread next new act t at (fine_on old next t refl refl fine) s in
    record { balance = u.balance; fine = u.fine }

tells_holds : (n : Option Notice) (old : Talk) → ((tells n old).holds ≡ old.holds) × ((tells n old).phase ≡ phase.Ready)
tells_holds None old = (refl, refl)
tells_holds (Some n) old = (refl, refl)

told_resumes : (b : Bool) (u t : ℕ) → resumes_by t (cond b (action.LetGo u) action.Write) ≡ false
told_resumes true u t = refl
told_resumes false u t = refl

tells_resumes : (n : Option Notice) (t : ℕ) → resumes_by t (told_by n) ≡ false
tells_resumes None t = refl
tells_resumes (Some n) t = told_resumes n.stop n.thread t

finish_even : (p : Purpose) (old new : Talk) (act : Action) (t : ℕ) → old.phase ≡ phase.Finishing p → Fine old t → Does (finishes p old) act new → Undoes old new t false (resumes_by t act)
finish_even purpose.One old new act t at fine s = does old new (suspended_reply old) action.Write act t (phase.Finishing purpose.One) phase.Ready refl s refl refl at refl refl refl refl fine
finish_even purpose.All old new act t at fine s = does old new (suspended_reply old) action.Write act t (phase.Finishing purpose.All) phase.Ready refl s refl refl at refl refl refl refl fine
finish_even purpose.Event old new act t at fine s = does old new (tells old.notice old) (told_by old.notice) act t (phase.Finishing purpose.Event) phase.Ready (tells_resumes old.notice t) s (tells_holds old.notice old).0 (tells_holds old.notice old).1 at refl refl refl refl fine
finish_even purpose.End old new act t at fine s = does old new (record old { phase = phase.Ending }) action.Again act t (phase.Finishing purpose.End) phase.Ending refl s refl refl at refl refl refl refl fine

greet_even : (b c : Bool) (old new : Talk) (act : Action) (t : ℕ) → old.phase ≡ phase.Greeting → Fine old t → Does (cond b (action.Again, stopped old) (cond c (starved old) (action.Write, greeted old))) act new → Undoes old new t false (resumes_by t act)
greet_even true c old new act t at fine s = does old new (stopped old) action.Again act t phase.Greeting phase.Ending refl s refl refl at refl refl refl refl fine
greet_even false true old new act t at fine s = starved_even old.ended old new act t phase.Greeting at refl refl refl fine s
greet_even false false old new act t at fine s = does old new (greeted old) action.Write act t phase.Greeting phase.Ready refl s refl refl at refl refl refl refl fine

-- a step that changes neither the phase nor the counts
stays : (old new : Talk) (t : ℕ) → new.holds ≡ old.holds → new.phase ≡ old.phase → Fine old t → Undoes old new t false false
stays old new t holds is fine = still old new t old.phase holds is refl fine.zero fine.free fine

waits_even : (told : Action) (old new : Talk) (act : Action) (t : ℕ) → resumes_by t told ≡ false → Fine old t → Does (told, old) act new → Undoes old new t false (resumes_by t act)
waits_even told old new act t none fine s =
    subst (λ b. Undoes old new t false b) (sym (ap (resumes_by t) s.0 ∙ none))
    (stays old new t (ap (λ (x : Talk). x.holds) s.1) (ap (λ (x : Talk). x.phase) s.1) fine)

-- an undone suspension
undone : (p : Purpose) (u : ℕ) (old new : Talk) (act : Action) (t : ℕ) → old.phase ≡ phase.Undoing p u → Fine old t → undoes (after p) t ≡ false → posts (after p) t ≡ false → is_closed (after p) ≡ false → Does (action.Resume u, record old { phase = after p }) act new → Undoes old new t false (resumes_by t act)
undone p u old new act t at fine in' post open' s =
    let own = ap (λ (x : Talk). once (is_own x.holds t)) s.1 in
    let was = ap (λ (q : Phase). once (undoes q t)) at in
    let is = ap once (ap (λ (x : Talk). undoes x.phase t) s.1 ∙ in') in
    let tells' = ap (λ (a : Action). once (resumes_by t a)) s.0 in
    record {
      balance = omega (arith, own, was, is, tells');
      fine = record {
        owns = subst (λ (x : Talk). Owns x.holds t) (sym s.1) fine.owns;
        zero = λ k. never (sym (ap (λ (x : Talk). posts x.phase t) s.1 ∙ post) ∙ k);
        free = λ k. never (sym (ap (λ (x : Talk). is_closed x.phase) s.1 ∙ open') ∙ k);
      };
    }

after_out : (p : Purpose) (t : ℕ) → (undoes (after p) t ≡ false) × (posts (after p) t ≡ false) × (is_closed (after p) ≡ false)
after_out purpose.One t = (refl, refl, refl)
after_out purpose.All t = (refl, refl, refl)
after_out purpose.Event t = (refl, refl, refl)
after_out purpose.End t = (refl, refl, refl)

in_even : (q : Phase) (old new : Talk) (act : Action) (t : ℕ) → old.phase ≡ q → Fine old t → GoesIn q old act new → Undoes old new t false (resumes_by t act)
in_even phase.Greeting old new act t at fine s = greet_even
    (not (bytes_eq (take (min (length old.bytes.input) 14) old.bytes.input) (take (min (length old.bytes.input) 14) handshake)))
    (nat_lt (min (length old.bytes.input) 14) 14) old new act t at fine s
in_even phase.Ready old new act t at fine s = on_even (cond (may_tell old.queue) (first old.queue.waiting) None) old new act t at fine s
in_even phase.Asking old new act t at fine s = waits_even action.Wait old new act t refl fine s
in_even (phase.Listing p) old new act t at fine s = waits_even action.Wait old new act t refl fine s
in_even (phase.Stopping p) old new act t at fine s = next_even p old new act t (phase.Stopping p) at refl fine s
in_even (phase.Suspending p u) old new act t at fine s = waits_even action.Wait old new act t refl fine s
in_even (phase.Undoing p u) old new act t at fine s = let a = after_out p t in undone p u old new act t at fine a.0 a.1 a.2 s
in_even (phase.Settling p) old new act t at fine s = waits_even action.Wait old new act t refl fine s
in_even (phase.Finishing p) old new act t at fine s = finish_even p old new act t at fine s
in_even phase.Refusing old new act t at fine s = does old new (replied old (Err 10)) action.Write act t phase.Refusing phase.Ready refl s refl refl at refl refl refl refl fine
in_even (phase.Placing w) old new act t at fine s = waits_even action.Wait old new act t refl fine s
in_even (phase.Locating w) old new act t at fine s = waits_even action.Wait old new act t refl fine s
in_even (phase.Putting w k) old new act t at fine s = in_force_even w k old new act t (phase.Putting w k) at refl fine s
in_even (phase.Denied d) old new act t at fine s = denied_even d old new act t (phase.Denied d) at refl fine s
in_even (phase.Numbered n) old new act t at fine s = does old new (replied old (Ok (int n))) action.Write act t (phase.Numbered n) phase.Ready refl s refl refl at refl refl refl refl fine
in_even phase.Resuming old new act t at fine s = resume_even old new act t at fine s
in_even phase.Ending old new act t at fine s = end_even old new act t at fine s
in_even phase.Closed old new act t at fine s = waits_even action.Close old new act t refl fine s

first_even : (b : Bool) (old new : Talk) (act : Action) (t : ℕ) → Fine old t → GoesFirst b old act new → Undoes old new t false (resumes_by t act)
first_even true old new act t fine s = waits_even action.Write old new act t refl fine s
first_even false old new act t fine s = in_even old.phase old new act t refl fine s

closing_out : (q : Phase) (t : ℕ) → (undoes (closing q) t ≡ undoes q t) × (posts (closing q) t ≡ posts q t) × (is_closed (closing q) ≡ is_closed q)
closing_out phase.Greeting t = (refl, refl, refl)
closing_out phase.Ready t = (refl, refl, refl)
closing_out phase.Asking t = (refl, refl, refl)
closing_out (phase.Listing p) t = (refl, refl, refl)
closing_out (phase.Stopping p) t = (refl, refl, refl)
closing_out (phase.Suspending p u) t = (refl, refl, refl)
closing_out (phase.Undoing p u) t = (refl, refl, refl)
closing_out (phase.Settling p) t = (refl, refl, refl)
closing_out (phase.Finishing p) t = (refl, refl, refl)
closing_out phase.Refusing t = (refl, refl, refl)
closing_out (phase.Placing w) t = (refl, refl, refl)
closing_out (phase.Locating w) t = (refl, refl, refl)
closing_out (phase.Putting w k) t = (refl, refl, refl)
closing_out (phase.Denied d) t = (refl, refl, refl)
closing_out (phase.Numbered n) t = (refl, refl, refl)
closing_out phase.Resuming t = (refl, refl, refl)
closing_out phase.Ending t = (refl, refl, refl)
closing_out phase.Closed t = (refl, refl, refl)

some_is : (x y d : Talk) → Some x ≡ Some y → y ≡ x
some_is x y d h = sym (ap (λ (o : Option Talk). unwrap_or o d) h)

listed_even : (q : Phase) (threads : List ℕ) (old new : Talk) (t : ℕ) → old.phase ≡ q → Fine old t → listed_in q threads old ≡ Some new → Undoes old new t false false
listed_even phase.Greeting threads old new t at fine s = cc
listed_even phase.Ready threads old new t at fine s = cc
listed_even phase.Asking threads old new t at fine s = cc
listed_even (phase.Listing p) threads old new t at fine s = let is = some_is _ _ old s in quiet old new t (phase.Listing p) (phase.Stopping p) at refl (ap (λ (x : Talk). x.holds) is) (ap (λ (x : Talk). x.phase) is) refl refl refl fine
listed_even (phase.Stopping p) threads old new t at fine s = cc
listed_even (phase.Suspending p u) threads old new t at fine s = cc
listed_even (phase.Undoing p u) threads old new t at fine s = cc
listed_even (phase.Settling p) threads old new t at fine s = cc
listed_even (phase.Finishing p) threads old new t at fine s = cc
listed_even phase.Refusing threads old new t at fine s = cc
listed_even (phase.Placing w) threads old new t at fine s = cc
listed_even (phase.Locating w) threads old new t at fine s = cc
listed_even (phase.Putting w k) threads old new t at fine s = cc
listed_even (phase.Denied d) threads old new t at fine s = cc
listed_even (phase.Numbered n) threads old new t at fine s = cc
listed_even phase.Resuming threads old new t at fine s = cc
listed_even phase.Ending threads old new t at fine s = cc
listed_even phase.Closed threads old new t at fine s = cc

settled_even : (q : Phase) (old new : Talk) (t : ℕ) → old.phase ≡ q → Fine old t → settled_in q old ≡ Some new → Undoes old new t false false
settled_even phase.Greeting old new t at fine s = cc
settled_even phase.Ready old new t at fine s = cc
settled_even phase.Asking old new t at fine s = cc
settled_even (phase.Listing p) old new t at fine s = cc
settled_even (phase.Stopping p) old new t at fine s = cc
settled_even (phase.Suspending p u) old new t at fine s = cc
settled_even (phase.Undoing p u) old new t at fine s = cc
settled_even (phase.Settling p) old new t at fine s = let is = some_is _ _ old s in quiet old new t (phase.Settling p) (phase.Finishing p) at refl (ap (λ (x : Talk). x.holds) is) (ap (λ (x : Talk). x.phase) is) refl refl refl fine
settled_even (phase.Finishing p) old new t at fine s = cc
settled_even phase.Refusing old new t at fine s = cc
settled_even (phase.Placing w) old new t at fine s = cc
settled_even (phase.Locating w) old new t at fine s = cc
settled_even (phase.Putting w k) old new t at fine s = cc
settled_even (phase.Denied d) old new t at fine s = cc
settled_even (phase.Numbered n) old new t at fine s = cc
settled_even phase.Resuming old new t at fine s = cc
settled_even phase.Ending old new t at fine s = cc
settled_even phase.Closed old new t at fine s = cc

placed_still : (w : Wish) (placed : Result (Unit {0}) JdwpError) (old new : Talk) (t : ℕ) → old.phase ≡ phase.Placing w → Fine old t → new ≡ record old { phase = placed_as w placed } → Undoes old new t false false
placed_still w (Ok done) old new t at fine is = quiet old new t (phase.Placing w) (phase.Putting w nowhere) at refl (ap (λ (x : Talk). x.holds) is) (ap (λ (x : Talk). x.phase) is) refl refl refl fine
placed_still w (Err e) old new t at fine is = quiet old new t (phase.Placing w) (phase.Denied e) at refl (ap (λ (x : Talk). x.holds) is) (ap (λ (x : Talk). x.phase) is) refl refl refl fine

placed_even : (q : Phase) (placed : Result (Unit {0}) JdwpError) (old new : Talk) (t : ℕ) → old.phase ≡ q → Fine old t → placed_in q placed old ≡ Some new → Undoes old new t false false
placed_even phase.Greeting placed old new t at fine s = cc
placed_even phase.Ready placed old new t at fine s = cc
placed_even phase.Asking placed old new t at fine s = cc
placed_even (phase.Listing p) placed old new t at fine s = cc
placed_even (phase.Stopping p) placed old new t at fine s = cc
placed_even (phase.Suspending p u) placed old new t at fine s = cc
placed_even (phase.Undoing p u) placed old new t at fine s = cc
placed_even (phase.Settling p) placed old new t at fine s = cc
placed_even (phase.Finishing p) placed old new t at fine s = cc
placed_even phase.Refusing placed old new t at fine s = cc
placed_even (phase.Placing w) placed old new t at fine s = placed_still w placed old new t at fine (some_is _ _ old s)
placed_even (phase.Locating w) placed old new t at fine s = cc
placed_even (phase.Putting w k) placed old new t at fine s = cc
placed_even (phase.Denied d) placed old new t at fine s = cc
placed_even (phase.Numbered n) placed old new t at fine s = cc
placed_even phase.Resuming placed old new t at fine s = cc
placed_even phase.Ending placed old new t at fine s = cc
placed_even phase.Closed placed old new t at fine s = cc

located_still : (w : Wish) (standing : Option Standing) (old new : Talk) (t : ℕ) → old.phase ≡ phase.Locating w → Fine old t → new ≡ record old { phase = located_as w standing } → Undoes old new t false false
located_still w None old new t at fine is = quiet old new t (phase.Locating w) (phase.Denied error.ThreadNotSuspended) at refl (ap (λ (x : Talk). x.holds) is) (ap (λ (x : Talk). x.phase) is) refl refl refl fine
located_still w (Some from) old new t at fine is = quiet old new t (phase.Locating w) (phase.Putting w from) at refl (ap (λ (x : Talk). x.holds) is) (ap (λ (x : Talk). x.phase) is) refl refl refl fine

located_even : (q : Phase) (standing : Option Standing) (old new : Talk) (t : ℕ) → old.phase ≡ q → Fine old t → located_in q standing old ≡ Some new → Undoes old new t false false
located_even phase.Greeting standing old new t at fine s = cc
located_even phase.Ready standing old new t at fine s = cc
located_even phase.Asking standing old new t at fine s = cc
located_even (phase.Listing p) standing old new t at fine s = cc
located_even (phase.Stopping p) standing old new t at fine s = cc
located_even (phase.Suspending p u) standing old new t at fine s = cc
located_even (phase.Undoing p u) standing old new t at fine s = cc
located_even (phase.Settling p) standing old new t at fine s = cc
located_even (phase.Finishing p) standing old new t at fine s = cc
located_even phase.Refusing standing old new t at fine s = cc
located_even (phase.Placing w) standing old new t at fine s = cc
located_even (phase.Locating w) standing old new t at fine s = located_still w standing old new t at fine (some_is _ _ old s)
located_even (phase.Putting w k) standing old new t at fine s = cc
located_even (phase.Denied d) standing old new t at fine s = cc
located_even (phase.Numbered n) standing old new t at fine s = cc
located_even phase.Resuming standing old new t at fine s = cc
located_even phase.Ending standing old new t at fine s = cc
located_even phase.Closed standing old new t at fine s = cc

unknown_out : (p : Purpose) (t : ℕ) → (undoes (unknown p) t ≡ false) × (posts (unknown p) t ≡ false) × (is_closed (unknown p) ≡ false)
unknown_out purpose.One t = (refl, refl, refl)
unknown_out purpose.All t = (refl, refl, refl)
unknown_out purpose.Event t = (refl, refl, refl)
unknown_out purpose.End t = (refl, refl, refl)

-- there was no memory to count a suspension
lacking : (p : Purpose) (u : ℕ) (old new : Talk) (t : ℕ) → old.phase ≡ phase.Suspending p u → Fine old t → new.holds ≡ old.holds → new.phase ≡ phase.Undoing p u → Undoes old new t (eqb u t) false
lacking p u old new t at fine holds is =
    let own = ap (λ h. once (is_own h t)) holds in
    let was = ap (λ (q : Phase). once (undoes q t)) at in
    let now = ap (λ (q : Phase). once (undoes q t)) is in
    record {
      balance = omega (arith, own, was, now);
      fine = record {
        owns = subst (λ h. Owns h t) (sym holds) fine.owns;
        zero = λ k. never (sym (ap (λ (q : Phase). posts q t) is) ∙ k);
        free = λ k. never (sym (ap is_closed is) ∙ k);
      };
    }

posted_by_even : (p : Purpose) (u : ℕ) (post : Posted) (old new : Talk) (t : ℕ) → old.phase ≡ phase.Suspending p u → Fine old t → PostedBy p u post old new → Undoes old new t (cond (is_done post) (eqb u t) false) false
posted_by_even p u posted.Suspended old new t at fine s =
    let out = after_out p t in
    elim s [
      | inl a ↦ moved old new t (hold.Suspended u holder.Debugger) (eqb u t) false (phase.Suspending p u) (after p) at refl (ap (λ (x : Talk). x.phase) a.1) out.0 out.1 out.2 a.0
          (at_zero (eqb u t) (count_of old.holds t) (λ k. fine.zero (ap (λ (q : Phase). posts q t) at ∙ k))) refl fine
      | inr a ↦ lacking p u old new t at fine (ap (λ (x : Talk). x.holds) a) (ap (λ (x : Talk). x.phase) a)
    ]
posted_by_even p u posted.ByAnother old new t at fine s =
    let out = after_out p t in
    elim s [
      | inl a ↦ moved old new t (hold.Suspended u holder.Another) false false (phase.Suspending p u) (after p) at refl (ap (λ (x : Talk). x.phase) a.1) out.0 out.1 out.2 a.0 (by_another u t (count_of old.holds t)) refl fine
      | inr a ↦ quiet old new t (phase.Suspending p u) (after p) at refl (ap (λ (x : Talk). x.holds) a) (ap (λ (x : Talk). x.phase) a) out.0 out.1 out.2 fine
    ]
posted_by_even p u posted.NotAlive old new t at fine s =
    let out = after_out p t in
    quiet old new t (phase.Suspending p u) (after p) at refl (ap (λ (x : Talk). x.holds) s) (ap (λ (x : Talk). x.phase) s) out.0 out.1 out.2 fine
posted_by_even p u posted.Unknown old new t at fine s =
    let out = unknown_out p t in
    quiet old new t (phase.Suspending p u) (unknown p) at refl (ap (λ (x : Talk). x.holds) s) (ap (λ (x : Talk). x.phase) s) out.0 out.1 out.2 fine

posted_even : (q : Phase) (post : Posted) (old new : Talk) (t : ℕ) → old.phase ≡ q → Fine old t → PostedIn q post old new → Undoes old new t (cond (is_done post) (posts q t) false) false
posted_even phase.Greeting post old new t at fine s = absurd s
posted_even phase.Ready post old new t at fine s = absurd s
posted_even phase.Asking post old new t at fine s = absurd s
posted_even (phase.Listing p) post old new t at fine s = absurd s
posted_even (phase.Stopping p) post old new t at fine s = absurd s
posted_even (phase.Suspending p u) post old new t at fine s = posted_by_even p u post old new t at fine s
posted_even (phase.Undoing p u) post old new t at fine s = absurd s
posted_even (phase.Settling p) post old new t at fine s = absurd s
posted_even (phase.Finishing p) post old new t at fine s = absurd s
posted_even phase.Refusing post old new t at fine s = absurd s
posted_even (phase.Placing w) post old new t at fine s = absurd s
posted_even (phase.Locating w) post old new t at fine s = absurd s
posted_even (phase.Putting w k) post old new t at fine s = absurd s
posted_even (phase.Denied d) post old new t at fine s = absurd s
posted_even (phase.Numbered n) post old new t at fine s = absurd s
posted_even phase.Resuming post old new t at fine s = absurd s
posted_even phase.Ending post old new t at fine s = absurd s
posted_even phase.Closed post old new t at fine s = absurd s

step_even : (old new : Talk) (c : Call) (t : ℕ) → Fine old t → Step old c new → Undoes old new t (suspends_it t old c) (resumes_it t c)
step_even old new (Fed bytes) t fine s = stays old new t (ap (λ (x : Talk). x.holds) s.1) (ap (λ (x : Talk). x.phase) s.1) fine
step_even old new PeerEnded t fine s = stays old new t (ap (λ (x : Talk). x.holds) s) (ap (λ (x : Talk). x.phase) s) fine
step_even old new Shut t fine s =
    let out = closing_out old.phase t in
    still old new t (closing old.phase) (ap (λ (x : Talk). x.holds) s) (ap (λ (x : Talk). x.phase) s) out.0 (λ k. fine.zero (sym out.1 ∙ k)) (λ k. fine.free (sym out.2 ∙ k)) fine
step_even old new (Went act) t fine s = first_even (writes_first old.phase old.bytes.output) old new act t fine s
step_even old new Failed t fine s = stays old new t (ap (λ (x : Talk). x.holds) s.0) (ap (λ (x : Talk). x.phase) s.0) fine
step_even old new (Replied a) t fine s = asked_even old.phase refl s.0
  where
    asked_even : (q : Phase) → old.phase ≡ q → is_asked q ≡ true → Undoes old new t false false
    asked_even phase.Greeting at h = never h
    asked_even phase.Ready at h = never h
    asked_even phase.Asking at h = quiet old new t phase.Asking phase.Ready at refl (ap (λ (x : Talk). x.holds) s.1) (ap (λ (x : Talk). x.phase) s.1) refl refl refl fine
    asked_even (phase.Listing p) at h = never h
    asked_even (phase.Stopping p) at h = never h
    asked_even (phase.Suspending p u) at h = never h
    asked_even (phase.Undoing p u) at h = never h
    asked_even (phase.Settling p) at h = never h
    asked_even (phase.Finishing p) at h = never h
    asked_even phase.Refusing at h = never h
    asked_even (phase.Placing w) at h = never h
    asked_even (phase.Locating w) at h = never h
    asked_even (phase.Putting w k) at h = never h
    asked_even (phase.Denied d) at h = never h
    asked_even (phase.Numbered n) at h = never h
    asked_even phase.Resuming at h = never h
    asked_even phase.Ending at h = never h
    asked_even phase.Closed at h = never h
step_even old new (Listed threads) t fine s = listed_even old.phase threads old new t refl fine s
step_even old new (PostedAs post) t fine s = posted_even old.phase post old new t refl fine s
step_even old new Settled t fine s = settled_even old.phase old new t refl fine s
step_even old new (PlacedAs placed) t fine s = placed_even old.phase placed old new t refl fine s
step_even old new (LocatedAs standing) t fine s = located_even old.phase standing old new t refl fine s
step_even old new (StoppedAt x v) t fine s = let k = stops_keep x v old new s in stays old new t k.holds k.phase fine
step_even old new (Written count) t fine s = stays old new t (ap (λ (x : Talk). x.holds) s) (ap (λ (x : Talk). x.phase) s) fine
step_even old new (Happened e o result) t fine s = let k = keeps e o result old new s in stays old new t k.holds k.phase fine
step_even old new (Began v result) t fine s = let k = begins_keep v result old new s in stays old new t k.holds k.phase fine
step_even old new (Died result) t fine s =
    let k = dies_ends result old new s in
    let out = closing_out old.phase t in
    still old new t (closing old.phase) k.holds k.phase out.0 (λ k. fine.zero (sym out.1 ∙ k)) (λ k. fine.free (sym out.2 ∙ k)) fine

-- a run from a state
pub record Ran (old end : Talk) (t suspended resumed : ℕ) : Type 0 where
  pub balance : suspended + owed old t ≡ resumed + owed end t
  pub fine : Fine end t

run_even : (old end : Talk) (calls : List Call) (t suspended resumed : ℕ) → Fine old t → Counts t old calls suspended resumed end → Ran old end t suspended resumed
run_even old end [] t suspended resumed fine run = record {
  balance = let o = ap (λ (x : Talk). owed x t) run.0 in omega (arith, o, run.1, run.2);
  fine = subst (λ (x : Talk). Fine x t) run.0 fine;
}
run_even old end (c ∷ calls) t suspended resumed fine run =
    let now = step_even old run.0 c t fine run.3 in
    let later = run_even run.0 end calls t run.1 run.2 now.fine run.6 in
    record { balance = omega (arith, now.balance, later.balance, run.4, run.5); fine = later.fine }

closed_out : (q : Phase) (t : ℕ) → is_closed q ≡ true → undoes q t ≡ false
closed_out phase.Greeting t h = never h
closed_out phase.Ready t h = never h
closed_out phase.Asking t h = never h
closed_out (phase.Listing p) t h = never h
closed_out (phase.Stopping p) t h = never h
closed_out (phase.Suspending p u) t h = never h
closed_out (phase.Undoing p u) t h = never h
closed_out (phase.Settling p) t h = never h
closed_out (phase.Finishing p) t h = never h
closed_out phase.Refusing t h = never h
closed_out (phase.Placing w) t h = never h
closed_out (phase.Locating w) t h = never h
closed_out (phase.Putting w k) t h = never h
closed_out (phase.Denied d) t h = never h
closed_out (phase.Numbered n) t h = never h
closed_out phase.Resuming t h = never h
closed_out phase.Ending t h = never h
closed_out phase.Closed t h = refl

pub nothing_stays : NothingStaysSuspended
nothing_stays t calls suspended resumed end run =
    let all = run_even opened end calls t suspended resumed (record { owns = λ h. never h; zero = λ h. never h; free = λ h. never h }) run in
    record {
      balance = omega (arith, all.balance);
      closed = λ h.
          let own : once (is_own end.holds t) ≡ 0 = free_own (count_of end.holds t) (is_own end.holds t) all.fine.owns (all.fine.free h) in
          let out : once (undoes end.phase t) ≡ 0 = ap once (closed_out end.phase t h) in
          omega (arith, all.balance, own, out);
    }
