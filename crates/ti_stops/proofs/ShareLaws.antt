-- What an environment is told of stops is by its own share of them.
use Rattle.std.proofs.Common.{◌≡◌, ℕ, Bool, true, false, cond, not, ◌&&◌, ◌==◌, List, [], ◌∷◌, ◌++◌, Option, Some, None, Result, Ok, Err, refl, sym, ap, ap₂, subst, ◌∙◌, arith, inl, inr, append-nil}
use Rattle.std.specs.List.{fold, filter, list_any}
use Rattle.std.proofs.lemmas.Bool.{cases_Bool}
use Rattle.std.proofs.lemmas.Bool.Decides.{nat_tests}
use Rattle.std.proofs.lemmas.List.Elements.{filter-append}
use Rattle.ti_types.specs.declared.numbers.EnvNo.{EnvNo}
use Rattle.ti_types.specs.declared.numbers.ThreadNo.{ThreadNo}
use Rattle.ti_types.specs.declared.place.Frame.{Frame}
use Rattle.ti_stops.specs.declared.call.StopCall.{StopCall}
use Rattle.ti_stops.specs.declared.call.StopCall.TheVariants.{Enable, Disable, SetBreakpoint, ClearBreakpoint, NotifyFramePop, Next, LetGo, Reached, Leaves, IsStopped, MayStopIn}
use Rattle.ti_stops.specs.declared.kind.StopKind.{StopKind}
use Rattle.ti_stops.specs.declared.lists.Breakpoint.{Breakpoint}
use Rattle.ti_stops.specs.declared.lists.Mode.{Mode}
use Rattle.ti_stops.specs.declared.lists.Pop.{Pop}
use Rattle.ti_stops.specs.declared.lists.Waiting.{Waiting}
use Rattle.ti_stops.specs.declared.stop.Stop.{Stop}
use Rattle.ti_stops.specs.Lists.{is_env, is_mode, is_mode_of, is_mode_at, is_heard, is_breakpoint, is_breakpoint_of, is_pop, is_pop_of, is_pop_at, is_popped, is_left, is_told_at, next_stop, next_told, waits_for, waits_at}
use Rattle.ti_stops.specs.Stops.{StopsNow, no_stops, is_due, after, outcome, has_news, is_news, is_stop, stops_for, waits_by, reached_by, left_by, with_env, without_env, without_thread, hears, has_breakpoint, has_popped}
use Rattle.ti_stops.specs.declared.kind.StopKind.TheVariants as kind
use Rattle.ti_stops.specs.declared.call.StopReply.{StopReply}
use Rattle.ti_stops.specs.declared.error.StopError.{StopError}
use Rattle.ti_stops.proofs.Apart.{skips, adds_nothing, no_mode, no_breakpoint, told_at, tells, not_both}
use Rattle.ti_stops.specs.Shares.{Happens, Made, Disposed, Left, happened, made_with, all_happened, share, counts, call_counts, SharesAreOwn, is_envs, SharesAnswer, StopsAgree}
use Rattle.ti_stops.proofs.Filters.{both_filter, any_filter, none_goes, filters_agree}
use Rattle.ti_stops.proofs.DueLaws.{same_env_no, none_due}

same_no : (a b c : ℕ) → (a == b) ≡ true → (a == c) ≡ (b == c)
same_no a b c h = grind (arith, nat_tests)

heard_own : (e : EnvNo) (k : StopKind) (t : ThreadNo) (m : Mode) → is_heard e k t m ≡ true → is_mode_of e m ≡ true
heard_own e k t m h = grind (arith, h)

mode_own : (e : EnvNo) (at : Frame) (b : Breakpoint) → is_breakpoint e at b ≡ true → is_breakpoint_of e b ≡ true
mode_own e at b h = grind (arith, h)

pop_own : (e : EnvNo) (t : ThreadNo) (n : ℕ) (p : Pop) → is_pop e t n p ≡ true → is_pop_of e p ≡ true
pop_own e t n p h = grind (arith, h)

popped_own : (e : EnvNo) (t : ThreadNo) (n : ℕ) (p : Pop) → is_popped e t n p ≡ true → is_pop_of e p ≡ true
popped_own e t n p h = grind (arith, h)

told_own : (e : EnvNo) (t : ThreadNo) (w : Waiting) → is_told_at e t w ≡ true → waits_for e w ≡ true
told_own e t w h = grind (arith, h)

-- an environment is told of its own
next_own : (e : EnvNo) (ws : List Waiting) → next_stop e ws ≡ next_stop e (filter (waits_for e) ws)
next_own e [] = refl
next_own e (w ∷ ws) = grind (arith, next_own e ws)

pub shares_answer : SharesAnswer
shares_answer s e (Enable k t) h = refl
shares_answer s e (Disable k t) h = refl
shares_answer s e (SetBreakpoint at) h = grind (arith, any_filter (is_breakpoint e at) (is_breakpoint_of e) (mode_own e at) s.breakpoints)
shares_answer s e (ClearBreakpoint at) h = grind (arith, any_filter (is_breakpoint e at) (is_breakpoint_of e) (mode_own e at) s.breakpoints)
shares_answer s e (NotifyFramePop t n) h = grind (arith, any_filter (is_pop e t n) (is_pop_of e) (pop_own e t n) s.pops)
shares_answer s e Next h = grind (arith, next_own e s.waiting)
shares_answer s e (LetGo t) h = grind (arith, any_filter (is_told_at e t) (waits_for e) (told_own e t) s.waiting)
shares_answer s e (Reached t at) h = cc
shares_answer s e (Leaves t at n) h = cc
shares_answer s e (IsStopped t) h = cc
shares_answer s e (MayStopIn t m n) h = cc

-- the environments for which a thread stops
waits_share : (e : EnvNo) (g h : EnvNo → Stop) → ((x : EnvNo) → is_env e x ≡ true → g x ≡ h x) → (envs : List EnvNo) → filter (waits_for e) (waits_by g envs) ≡ waits_by h (filter (is_env e) envs)
waits_share e g h same [] = refl
waits_share e g h same (x ∷ envs) =
    let more = waits_share e g h same envs in
    let one : EnvNo → Stop → Waiting = λ z k. record { env = z; stop = k; told = false } in
    elim (cases_Bool (is_env e x)) [
      | inl mine ↦
          let is = same x mine in
          elim (cases_Bool (is_stop (g x))) [
            | inl stops ↦ grind (arith, more, mine, stops, is)
            | inr goes ↦ grind (arith, more, mine, goes, is)
          ]
      | inr other ↦ grind (arith, more, other)
    ]

reached_share : (e : EnvNo) (s : StopsNow) (t : ThreadNo) (at : Frame) (x : EnvNo) → is_env e x ≡ true → reached_by s t at x ≡ reached_by (share e s) t at x
reached_share e s t at x h =
    let b : has_breakpoint (share e s) x at ≡ has_breakpoint s x at = any_filter (is_breakpoint x at) (is_breakpoint_of e) (λ b k. grind (arith, nat_tests, h, k)) s.breakpoints in
    let m : (k : StopKind) → hears (share e s) x k t ≡ hears s x k t = λ k. any_filter (is_heard x k t) (is_mode_of e) (λ m l. grind (arith, nat_tests, h, l)) s.modes in
    grind (arith, b, m kind.Breakpoint, m kind.SingleStep)

left_share : (e : EnvNo) (s : StopsNow) (t : ThreadNo) (at : Frame) (n : ℕ) (x : EnvNo) → is_env e x ≡ true → left_by s t at n x ≡ left_by (share e s) t at n x
left_share e s t at n x h =
    let b : has_popped (share e s) x t n ≡ has_popped s x t n = any_filter (is_popped x t n) (is_pop_of e) (λ b k. grind (arith, nat_tests, h, k)) s.pops in
    let m : hears (share e s) x kind.FramePop t ≡ hears s x kind.FramePop t = any_filter (is_heard x kind.FramePop t) (is_mode_of e) (λ m l. grind (arith, nat_tests, h, l)) s.modes in
    grind (arith, b, m)

-- nobody waits where nobody stops
nobody_waits : (g : EnvNo → Stop) (envs : List EnvNo) → stops_for g envs ≡ false → waits_by g envs ≡ []
nobody_waits g [] h = refl
nobody_waits g (x ∷ envs) h = grind (arith, nobody_waits g envs, h)

abbrev reached_now : StopsNow → ThreadNo → Frame → StopsNow
reached_now s t at = record s { waiting = s.waiting ++ waits_by (reached_by s t at) s.envs }

-- a thread that stops for nobody changes nothing
pub quiet_reached : (s : StopsNow) (t : ThreadNo) (at : Frame) → stops_for (reached_by s t at) s.envs ≡ false → reached_now s t at ≡ s
quiet_reached s t at goes = ap (λ (l : List Waiting). record s { waiting = l }) (ap (λ l. s.waiting ++ l) (nobody_waits (reached_by s t at) s.envs goes) ∙ append-nil s.waiting)

-- a thread that reaches a place, whether it stops or not
reached_is : (s : StopsNow) (o : Option EnvNo) (t : ThreadNo) (at : Frame) → happened s (Made o (Reached t at)) ≡ reached_now s t at
reached_is s o t at =
    elim (cases_Bool (stops_for (reached_by s t at) s.envs)) [
      | inl stops ↦ ap (λ b. cond b (reached_now s t at) s) stops
      | inr goes ↦ ap (λ b. cond b (reached_now s t at) s) goes ∙ sym (quiet_reached s t at goes)
    ]

reached_shares : (e : EnvNo) (s : StopsNow) (t : ThreadNo) (at : Frame) → share e (reached_now s t at) ≡ reached_now (share e s) t at
reached_shares e s t at =
    ap (λ (l : List Waiting). record (share e s) { waiting = l })
    (filter-append (waits_for e) s.waiting (waits_by (reached_by s t at) s.envs)
    ∙ ap (λ l. filter (waits_for e) s.waiting ++ l) (waits_share e (reached_by s t at) (reached_by (share e s) t at) (reached_share e s t at) s.envs))

is_self : (n : ℕ) → (n == n) ≡ true
is_self n = grind (arith, nat_tests)

-- what an environment puts at the end is its own
module _ {X : Type 0} (p : X → Bool) where
  adds_own : (xs : List X) (x : X) → p x ≡ true → filter p (xs ++ x ∷ []) ≡ filter p xs ++ x ∷ []
  adds_own xs x h = filter-append p xs (x ∷ []) ∙ ap (λ b. filter p xs ++ cond b (x ∷ []) []) h

env_added : (e : EnvNo) (envs : List EnvNo) → filter (is_env e) (with_env e envs) ≡ with_env e (filter (is_env e) envs)
env_added e envs =
    let there = any_filter (is_env e) (is_env e) (λ x h. h) envs in
    let put = adds_own (is_env e) envs e (is_self e.0) in
    grind (arith, there, put)

next_shares : (e : EnvNo) (ws : List Waiting) → filter (waits_for e) (next_told e ws) ≡ next_told e (filter (waits_for e) ws)
next_shares e [] = refl
next_shares e (w ∷ ws) = grind (arith, next_shares e ws)

-- an environment's own call does to its share what it does to all
own_after : (e : EnvNo) (s : StopsNow) (call : StopCall) → is_envs call ≡ true → share e (after s (Some e) call) ≡ after (share e s) (Some e) call
own_after e s (Enable k t) h =
    let m : Mode = record { env = e; kind = k; thread = t } in
    ap₂ (λ (x : List EnvNo) (l : List Mode). record (share e s) { envs = x; modes = l }) (env_added e s.envs)
    (adds_own (is_mode_of e) (filter (λ m. not (is_mode e k t m)) s.modes) m (is_self e.0) ∙ ap (λ l. l ++ m ∷ []) (both_filter (is_mode_of e) (λ m. not (is_mode e k t m)) s.modes))
own_after e s (Disable k t) h = ap (λ (l : List Mode). record (share e s) { modes = l }) (both_filter (is_mode_of e) (λ m. not (is_mode e k t m)) s.modes)
own_after e s (SetBreakpoint at) h = ap (λ (l : List Breakpoint). record (share e s) { breakpoints = l }) (adds_own (is_breakpoint_of e) s.breakpoints (record { env = e; at = at }) (is_self e.0))
own_after e s (ClearBreakpoint at) h = ap (λ (l : List Breakpoint). record (share e s) { breakpoints = l }) (both_filter (is_breakpoint_of e) (λ b. not (is_breakpoint e at b)) s.breakpoints)
own_after e s (NotifyFramePop t n) h = ap (λ (l : List Pop). record (share e s) { pops = l }) (adds_own (is_pop_of e) s.pops (record { env = e; thread = t; frames = n }) (is_self e.0))
own_after e s Next h = ap (λ (l : List Waiting). record (share e s) { waiting = l }) (next_shares e s.waiting)
own_after e s (LetGo t) h = ap (λ (l : List Waiting). record (share e s) { waiting = l }) (both_filter (waits_for e) (λ w. not (is_told_at e t w)) s.waiting)
own_after e s (Reached t at) h = cc
own_after e s (Leaves t at n) h = cc
own_after e s (IsStopped t) h = cc
own_after e s (MayStopIn t m n) h = cc

if_news : (e : EnvNo) (b : Bool) (s u v w : StopsNow) → share e s ≡ u → share e v ≡ w → share e (cond b v s) ≡ cond b w u
if_news e true s u v w h k = k
if_news e false s u v w h k = h

own_made : (e : EnvNo) (s : StopsNow) (call : StopCall) (r : Result StopReply StopError) → is_envs call ≡ true → share e (made_with s (Some e) call r) ≡ made_with (share e s) (Some e) call r
own_made e s call (Ok r) h = if_news e (is_news r) s (share e s) (after s (Some e) call) (after (share e s) (Some e) call) refl (own_after e s call h)
own_made e s call (Err x) h = refl

own_happened : (e : EnvNo) (s : StopsNow) (call : StopCall) → is_envs call ≡ true → share e (happened s (Made (Some e) call)) ≡ happened (share e s) (Made (Some e) call)
own_happened e s call h = own_made e s call (outcome s (Some e) call) h ∙ ap (made_with (share e s) (Some e) call) (shares_answer s e call h)

-- another's call changes nothing of the share
other_envs : (e f : EnvNo) (envs : List EnvNo) → (f.0 == e.0) ≡ false → filter (is_env e) (with_env f envs) ≡ filter (is_env e) envs
other_envs e f envs h =
    let put = adds_nothing (is_env e) envs f h in
    grind (arith, put)

other_after : (e f : EnvNo) (s : StopsNow) (call : StopCall) → (f.0 == e.0) ≡ false → is_envs call ≡ true → share e (after s (Some f) call) ≡ share e s
other_after e f s (Enable k t) n h =
    let m : Mode = record { env = f; kind = k; thread = t } in
    ap₂ (λ (x : List EnvNo) (l : List Mode). record (share e s) { envs = x; modes = l }) (other_envs e f s.envs n)
    (adds_nothing (is_mode_of e) (filter (λ m. not (is_mode f k t m)) s.modes) m n ∙ skips (is_mode_of e) (is_mode f k t) (no_mode e f k t n) s.modes)
other_after e f s (Disable k t) n h = ap (λ (l : List Mode). record (share e s) { modes = l }) (skips (is_mode_of e) (is_mode f k t) (no_mode e f k t n) s.modes)
other_after e f s (SetBreakpoint at) n h = ap (λ (l : List Breakpoint). record (share e s) { breakpoints = l }) (adds_nothing (is_breakpoint_of e) s.breakpoints (record { env = f; at = at }) n)
other_after e f s (ClearBreakpoint at) n h = ap (λ (l : List Breakpoint). record (share e s) { breakpoints = l }) (skips (is_breakpoint_of e) (is_breakpoint f at) (no_breakpoint e f at n) s.breakpoints)
other_after e f s (NotifyFramePop t m) n h = ap (λ (l : List Pop). record (share e s) { pops = l }) (adds_nothing (is_pop_of e) s.pops (record { env = f; thread = t; frames = m }) n)
other_after e f s Next n h = ap (λ (l : List Waiting). record (share e s) { waiting = l }) (tells e f n s.waiting)
other_after e f s (LetGo t) n h = ap (λ (l : List Waiting). record (share e s) { waiting = l }) (skips (waits_for e) (is_told_at f t) (told_at e f t n) s.waiting)
other_after e f s (Reached t at) n h = cc
other_after e f s (Leaves t at m) n h = cc
other_after e f s (IsStopped t) n h = cc
other_after e f s (MayStopIn t m count) n h = cc

other_made : (e f : EnvNo) (s : StopsNow) (call : StopCall) (r : Result StopReply StopError) → (f.0 == e.0) ≡ false → is_envs call ≡ true → share e (made_with s (Some f) call r) ≡ share e s
other_made e f s call (Ok r) n h =
    elim (cases_Bool (is_news r)) [
      | inl news ↦ ap (λ b. share e (cond b (after s (Some f) call) s)) news ∙ other_after e f s call n h
      | inr none ↦ ap (λ b. share e (cond b (after s (Some f) call) s)) none
    ]
other_made e f s call (Err x) n h = refl

abbrev left_now : StopsNow → ThreadNo → Frame → ℕ → StopsNow
left_now s t at n = record s { pops = filter (λ p. not (is_due s t n p)) s.pops; waiting = s.waiting ++ waits_by (left_by s t at n) s.envs }

pub quiet_left : (s : StopsNow) (t : ThreadNo) (at : Frame) (n : ℕ) → stops_for (left_by s t at n) s.envs ≡ false → left_now s t at n ≡ s
quiet_left s t at n goes =
    ap₂ (λ (p : List Pop) (l : List Waiting). record s { pops = p; waiting = l }) (none_goes (is_due s t n) s.pops (none_due s t at n goes))
    (ap (λ l. s.waiting ++ l) (nobody_waits (left_by s t at n) s.envs goes) ∙ append-nil s.waiting)

-- a frame that is left, whether the thread stops or not
left_is : (s : StopsNow) (o : Option EnvNo) (t : ThreadNo) (at : Frame) (n : ℕ) → happened s (Made o (Leaves t at n)) ≡ left_now s t at n
left_is s o t at n =
    elim (cases_Bool (stops_for (left_by s t at n) s.envs)) [
      | inl stops ↦ ap (λ b. cond b (left_now s t at n) s) stops
      | inr goes ↦ ap (λ b. cond b (left_now s t at n) s) goes ∙ sym (quiet_left s t at n goes)
    ]

due_share : (e : EnvNo) (s : StopsNow) (t : ThreadNo) (n : ℕ) (p : Pop) → is_pop_of e p ≡ true → is_due s t n p ≡ is_due (share e s) t n p
due_share e s t n p h =
    let m : hears (share e s) p.env kind.FramePop t ≡ hears s p.env kind.FramePop t = any_filter (is_heard p.env kind.FramePop t) (is_mode_of e) (λ m l. grind (arith, nat_tests, h, l)) s.modes in
    let v : list_any (is_env p.env) (filter (is_env e) s.envs) ≡ list_any (is_env p.env) s.envs = any_filter (is_env p.env) (is_env e) (λ x l. grind (arith, nat_tests, h, l)) s.envs in
    ap₂ (λ a b. is_left t n p && (a && b)) (sym m) (sym v)

left_shares_all : (e : EnvNo) (s : StopsNow) (t : ThreadNo) (at : Frame) (n : ℕ) → share e (left_now s t at n) ≡ left_now (share e s) t at n
left_shares_all e s t at n =
    ap₂ (λ (p : List Pop) (w : List Waiting). record (share e s) { pops = p; waiting = w })
    (filters_agree (is_pop_of e) (is_due s t n) (is_due (share e s) t n) (due_share e s t n) s.pops)
    (filter-append (waits_for e) s.waiting (waits_by (left_by s t at n) s.envs)
    ∙ ap (λ l. filter (waits_for e) s.waiting ++ l) (waits_share e (left_by s t at n) (left_by (share e s) t at n) (left_share e s t at n) s.envs))

-- what counts does to the share what it does to all
counted_call : (e : EnvNo) (s : StopsNow) (f : EnvNo) (call : StopCall) → is_envs call ≡ true → (f.0 == e.0) ≡ true → share e (happened s (Made (Some f) call)) ≡ happened (share e s) (Made (Some f) call)
counted_call e s f call h n = subst (λ (x : EnvNo). share e (happened s (Made (Some x) call)) ≡ happened (share e s) (Made (Some x) call)) (sym (same_env_no f e n)) (own_happened e s call h)

not_not : (b : Bool) → not (not b) ≡ true → b ≡ true
not_not true h = refl
not_not false h = cc

still_not : (b : Bool) → not (not b) ≡ false → b ≡ false
still_not true h = cc
still_not false h = refl

pub disposed_shares : (e : EnvNo) (s : StopsNow) (f : EnvNo) → share e (without_env s f) ≡ without_env (share e s) f
disposed_shares e s f =
    ap₂ (λ (a : List EnvNo) (b : List Mode). record { envs = a; modes = b; breakpoints = filter (is_breakpoint_of e) (without_env s f).breakpoints; pops = filter (is_pop_of e) (without_env s f).pops; waiting = filter (waits_for e) (without_env s f).waiting })
    (both_filter (is_env e) (λ x. not (is_env f x)) s.envs) (both_filter (is_mode_of e) (λ m. not (is_mode_of f m)) s.modes)
    ∙ ap₂ (λ (c : List Breakpoint) (d : List Pop). record { envs = (without_env (share e s) f).envs; modes = (without_env (share e s) f).modes; breakpoints = c; pops = d; waiting = filter (waits_for e) (without_env s f).waiting })
    (both_filter (is_breakpoint_of e) (λ b. not (is_breakpoint_of f b)) s.breakpoints) (both_filter (is_pop_of e) (λ p. not (is_pop_of f p)) s.pops)
    ∙ ap (λ (w : List Waiting). record (without_env (share e s) f) { waiting = w }) (both_filter (waits_for e) (λ w. not (waits_for f w)) s.waiting)

pub left_shares : (e : EnvNo) (s : StopsNow) (t : ThreadNo) → share e (without_thread s t) ≡ without_thread (share e s) t
left_shares e s t =
    ap₂ (λ (b : List Mode) (d : List Pop). record (share e s) { modes = b; pops = d; waiting = filter (waits_for e) (without_thread s t).waiting })
    (both_filter (is_mode_of e) (λ m. not (is_mode_at t m)) s.modes) (both_filter (is_pop_of e) (λ p. not (is_pop_at t p)) s.pops)
    ∙ ap (λ (w : List Waiting). record (without_thread (share e s) t) { waiting = w }) (both_filter (waits_for e) (λ w. not (waits_at t w)) s.waiting)

counted : (e : EnvNo) (s : StopsNow) (h : Happens) → counts e h ≡ true → share e (happened s h) ≡ happened (share e s) h
counted e s (Made o (Reached t at)) h = ap (share e) (reached_is s o t at) ∙ reached_shares e s t at ∙ sym (reached_is (share e s) o t at)
counted e s (Made o (Leaves t at n)) h = ap (share e) (left_is s o t at n) ∙ left_shares_all e s t at n ∙ sym (left_is (share e s) o t at n)
counted e s (Made o (IsStopped t)) h = cc
counted e s (Made o (MayStopIn t m n)) h = cc
counted e s (Made None (Enable k t)) h = cc
counted e s (Made None (Disable k t)) h = cc
counted e s (Made None (SetBreakpoint at)) h = cc
counted e s (Made None (ClearBreakpoint at)) h = cc
counted e s (Made None (NotifyFramePop t n)) h = cc
counted e s (Made None Next) h = cc
counted e s (Made None (LetGo t)) h = cc
counted e s (Made (Some f) (Enable k t)) h = counted_call e s f (Enable k t) refl (not_not (f.0 == e.0) h)
counted e s (Made (Some f) (Disable k t)) h = counted_call e s f (Disable k t) refl (not_not (f.0 == e.0) h)
counted e s (Made (Some f) (SetBreakpoint at)) h = counted_call e s f (SetBreakpoint at) refl (not_not (f.0 == e.0) h)
counted e s (Made (Some f) (ClearBreakpoint at)) h = counted_call e s f (ClearBreakpoint at) refl (not_not (f.0 == e.0) h)
counted e s (Made (Some f) (NotifyFramePop t n)) h = counted_call e s f (NotifyFramePop t n) refl (not_not (f.0 == e.0) h)
counted e s (Made (Some f) Next) h = counted_call e s f Next refl (not_not (f.0 == e.0) h)
counted e s (Made (Some f) (LetGo t)) h = counted_call e s f (LetGo t) refl (not_not (f.0 == e.0) h)
counted e s (Disposed f) h = disposed_shares e s f
counted e s (Left t) h = left_shares e s t

-- another's things go
not_env : (e f : EnvNo) → (f.0 == e.0) ≡ false → (x : EnvNo) → is_env e x ≡ true → is_env f x ≡ false
not_env e f h x own = not_both x.0 f.0 e.0 h own

pub other_disposed : (e : EnvNo) (s : StopsNow) (f : EnvNo) → (f.0 == e.0) ≡ false → share e (without_env s f) ≡ share e s
other_disposed e s f h =
    ap₂ (λ (a : List EnvNo) (b : List Mode). record { envs = a; modes = b; breakpoints = filter (is_breakpoint_of e) (without_env s f).breakpoints; pops = filter (is_pop_of e) (without_env s f).pops; waiting = filter (waits_for e) (without_env s f).waiting })
    (skips (is_env e) (is_env f) (not_env e f h) s.envs) (skips (is_mode_of e) (is_mode_of f) (λ m own. not_both m.env.0 f.0 e.0 h own) s.modes)
    ∙ ap₂ (λ (c : List Breakpoint) (d : List Pop). record { envs = filter (is_env e) s.envs; modes = filter (is_mode_of e) s.modes; breakpoints = c; pops = d; waiting = filter (waits_for e) (without_env s f).waiting })
    (skips (is_breakpoint_of e) (is_breakpoint_of f) (λ b own. not_both b.env.0 f.0 e.0 h own) s.breakpoints) (skips (is_pop_of e) (is_pop_of f) (λ p own. not_both p.env.0 f.0 e.0 h own) s.pops)
    ∙ ap (λ (w : List Waiting). record (share e s) { waiting = w }) (skips (waits_for e) (waits_for f) (λ w own. not_both w.env.0 f.0 e.0 h own) s.waiting)

other_call : (e : EnvNo) (s : StopsNow) (f : EnvNo) (call : StopCall) → is_envs call ≡ true → (f.0 == e.0) ≡ false → share e (happened s (Made (Some f) call)) ≡ share e s
other_call e s f call h n = other_made e f s call (outcome s (Some f) call) n h

-- what does not count changes nothing of the share
uncounted : (e : EnvNo) (s : StopsNow) (h : Happens) → counts e h ≡ false → share e (happened s h) ≡ share e s
uncounted e s (Made o (Reached t at)) h = cc
uncounted e s (Made o (Leaves t at n)) h = cc
uncounted e s (Made o (IsStopped t)) h = refl
uncounted e s (Made o (MayStopIn t m n)) h = refl
uncounted e s (Made None (Enable k t)) h = refl
uncounted e s (Made None (Disable k t)) h = refl
uncounted e s (Made None (SetBreakpoint at)) h = refl
uncounted e s (Made None (ClearBreakpoint at)) h = refl
uncounted e s (Made None (NotifyFramePop t n)) h = refl
uncounted e s (Made None Next) h = refl
uncounted e s (Made None (LetGo t)) h = refl
uncounted e s (Made (Some f) (Enable k t)) h = other_call e s f (Enable k t) refl (still_not (f.0 == e.0) h)
uncounted e s (Made (Some f) (Disable k t)) h = other_call e s f (Disable k t) refl (still_not (f.0 == e.0) h)
uncounted e s (Made (Some f) (SetBreakpoint at)) h = other_call e s f (SetBreakpoint at) refl (still_not (f.0 == e.0) h)
uncounted e s (Made (Some f) (ClearBreakpoint at)) h = other_call e s f (ClearBreakpoint at) refl (still_not (f.0 == e.0) h)
uncounted e s (Made (Some f) (NotifyFramePop t n)) h = other_call e s f (NotifyFramePop t n) refl (still_not (f.0 == e.0) h)
uncounted e s (Made (Some f) Next) h = other_call e s f Next refl (still_not (f.0 == e.0) h)
uncounted e s (Made (Some f) (LetGo t)) h = other_call e s f (LetGo t) refl (still_not (f.0 == e.0) h)
uncounted e s (Disposed f) h = other_disposed e s f h
uncounted e s (Left t) h = cc

-- a share goes on by what counts alone
share_run : (e : EnvNo) (s u : StopsNow) (hs : List Happens) → share e s ≡ share e u → share e (fold happened s hs) ≡ share e (fold happened u (filter (counts e) hs))
share_run e s u [] same = same
share_run e s u (h ∷ hs) same =
    elim (cases_Bool (counts e h)) [
      | inl mine ↦
          let both : share e (happened s h) ≡ share e (happened u h) = counted e s h mine ∙ ap (λ x. happened x h) same ∙ sym (counted e u h mine) in
          share_run e (happened s h) (happened u h) hs both
          ∙ sym (ap (λ b. share e (fold happened u (cond b (h ∷ filter (counts e) hs) (filter (counts e) hs)))) mine)
      | inr apart ↦
          let same_now : share e (happened s h) ≡ share e s = uncounted e s h apart in
          share_run e (happened s h) u hs (same_now ∙ same)
          ∙ sym (ap (λ b. share e (fold happened u (cond b (h ∷ filter (counts e) hs) (filter (counts e) hs)))) apart)
    ]

pub shares_are_own : SharesAreOwn
shares_are_own e hs = share_run e no_stops no_stops hs refl

pub stops_agree : StopsAgree
stops_agree e one other call h same =
    shares_answer (all_happened one) e call h
    ∙ ap (λ s. outcome s (Some e) call) (shares_are_own e one ∙ ap (λ l. share e (all_happened l)) same ∙ sym (shares_are_own e other))
    ∙ sym (shares_answer (all_happened other) e call h)

-- the same of calls that took place, as a list keeps them: an item that counts does to the share what it does to all
own_item : (e : EnvNo) (s : StopsNow) (f : EnvNo) (call : StopCall) → is_envs call ≡ true → (f.0 == e.0) ≡ true → share e (after s (Some f) call) ≡ after (share e s) (Some f) call
own_item e s f call h n = subst (λ (x : EnvNo). share e (after s (Some x) call) ≡ after (share e s) (Some x) call) (sym (same_env_no f e n)) (own_after e s call h)

pub item_shares : (e : EnvNo) (s : StopsNow) (o : Option EnvNo) (call : StopCall) → call_counts e o call ≡ true → share e (after s o call) ≡ after (share e s) o call
item_shares e s o (Reached t at) h = reached_shares e s t at
item_shares e s o (Leaves t at n) h = left_shares_all e s t at n
item_shares e s o (IsStopped t) h = cc
item_shares e s o (MayStopIn t m n) h = cc
item_shares e s None (Enable k t) h = cc
item_shares e s None (Disable k t) h = cc
item_shares e s None (SetBreakpoint at) h = cc
item_shares e s None (ClearBreakpoint at) h = cc
item_shares e s None (NotifyFramePop t n) h = cc
item_shares e s None Next h = cc
item_shares e s None (LetGo t) h = cc
item_shares e s (Some f) (Enable k t) h = own_item e s f (Enable k t) refl (not_not (f.0 == e.0) h)
item_shares e s (Some f) (Disable k t) h = own_item e s f (Disable k t) refl (not_not (f.0 == e.0) h)
item_shares e s (Some f) (SetBreakpoint at) h = own_item e s f (SetBreakpoint at) refl (not_not (f.0 == e.0) h)
item_shares e s (Some f) (ClearBreakpoint at) h = own_item e s f (ClearBreakpoint at) refl (not_not (f.0 == e.0) h)
item_shares e s (Some f) (NotifyFramePop t n) h = own_item e s f (NotifyFramePop t n) refl (not_not (f.0 == e.0) h)
item_shares e s (Some f) Next h = own_item e s f Next refl (not_not (f.0 == e.0) h)
item_shares e s (Some f) (LetGo t) h = own_item e s f (LetGo t) refl (not_not (f.0 == e.0) h)

-- any other changes nothing of it
pub item_apart : (e : EnvNo) (s : StopsNow) (o : Option EnvNo) (call : StopCall) → call_counts e o call ≡ false → share e (after s o call) ≡ share e s
item_apart e s o (Reached t at) h = cc
item_apart e s o (Leaves t at n) h = cc
item_apart e s o (IsStopped t) h = refl
item_apart e s o (MayStopIn t m n) h = refl
item_apart e s None (Enable k t) h = refl
item_apart e s None (Disable k t) h = refl
item_apart e s None (SetBreakpoint at) h = refl
item_apart e s None (ClearBreakpoint at) h = refl
item_apart e s None (NotifyFramePop t n) h = refl
item_apart e s None Next h = refl
item_apart e s None (LetGo t) h = refl
item_apart e s (Some f) (Enable k t) h = other_after e f s (Enable k t) (still_not (f.0 == e.0) h) refl
item_apart e s (Some f) (Disable k t) h = other_after e f s (Disable k t) (still_not (f.0 == e.0) h) refl
item_apart e s (Some f) (SetBreakpoint at) h = other_after e f s (SetBreakpoint at) (still_not (f.0 == e.0) h) refl
item_apart e s (Some f) (ClearBreakpoint at) h = other_after e f s (ClearBreakpoint at) (still_not (f.0 == e.0) h) refl
item_apart e s (Some f) (NotifyFramePop t n) h = other_after e f s (NotifyFramePop t n) (still_not (f.0 == e.0) h) refl
item_apart e s (Some f) Next h = other_after e f s Next (still_not (f.0 == e.0) h) refl
item_apart e s (Some f) (LetGo t) h = other_after e f s (LetGo t) (still_not (f.0 == e.0) h) refl

-- an arrival that is no news to a share leaves it as it is
pub quiet_item : (o : Option EnvNo) (u : StopsNow) (call : StopCall) → is_envs call ≡ false → has_news (outcome u o call) ≡ false → after u o call ≡ u
quiet_item o u (Reached t at) h k = quiet_reached u t at k
quiet_item o u (Leaves t at n) h k = quiet_left u t at n k
quiet_item o u (IsStopped t) h k = refl
quiet_item o u (MayStopIn t m n) h k = refl
quiet_item o u (Enable k t) h n = cc
quiet_item o u (Disable k t) h n = cc
quiet_item o u (SetBreakpoint at) h n = cc
quiet_item o u (ClearBreakpoint at) h n = cc
quiet_item o u (NotifyFramePop t m) h n = cc
quiet_item o u Next h n = cc
quiet_item o u (LetGo t) h n = cc
