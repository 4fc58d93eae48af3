-- Who waits for an environment goes on waiting.
use Rattle.std.proofs.Common.{◌≡◌, true, false, cond, not, ◌&&◌, ◌||◌, ◌==◌, List, [], ◌∷◌, ◌++◌, Option, Some, None, Result, Ok, Err, refl, ap, ◌∙◌, arith, inl, inr}
use Rattle.std.specs.List.{list_any}
use Rattle.std.proofs.lemmas.Bool.{cases_Bool}
use Rattle.std.proofs.lemmas.Bool.Decides.{nat_tests}
use Rattle.std.proofs.lemmas.List.Folds.{list_any-append}
use Rattle.ti_types.specs.declared.numbers.EnvNo.{EnvNo}
use Rattle.ti_types.specs.declared.numbers.ThreadNo.{ThreadNo}
use Rattle.ti_stops.specs.declared.call.StopCall.{StopCall}
use Rattle.ti_stops.specs.declared.call.StopCall.TheVariants.{Enable, Disable, SetBreakpoint, ClearBreakpoint, NotifyFramePop, Next, LetGo, Reached, Leaves, IsStopped, MayStopIn}
use Rattle.ti_stops.specs.declared.lists.Waiting.{Waiting}
use Rattle.ti_stops.specs.Lists.{is_told_at, next_told, waits_for, waits_at}
use Rattle.ti_stops.specs.Stops.{StopsNow, after, outcome, is_news, waits_by, reached_by, left_by}
use Rattle.ti_stops.specs.declared.call.StopReply.{StopReply}
use Rattle.ti_stops.specs.declared.error.StopError.{StopError}
use Rattle.ti_stops.specs.Shares.{Happens, Made, Disposed, Left, happened, made_with, is_wait_of, waits_of, may_end, WaitsUntilEnded}
use Rattle.ti_stops.proofs.Filters.{any_filter}

still_any : (e : EnvNo) (t : ThreadNo) (xs ys : List Waiting) → list_any (is_wait_of e t) xs ≡ true → list_any (is_wait_of e t) (xs ++ ys) ≡ true
still_any e t xs ys h = list_any-append (is_wait_of e t) xs ys ∙ ap (λ b. b || list_any (is_wait_of e t) ys) h

next_keeps : (e f : EnvNo) (t : ThreadNo) (ws : List Waiting) → list_any (is_wait_of e t) (next_told f ws) ≡ list_any (is_wait_of e t) ws
next_keeps e f t [] = refl
next_keeps e f t (w ∷ ws) = grind (arith, next_keeps e f t ws)

not_let_go : (e f : EnvNo) (t u : ThreadNo) → (not (not (f.0 == e.0)) && (u.0 == t.0)) ≡ false → (w : Waiting) → is_wait_of e t w ≡ true → not (is_told_at f u w) ≡ true
not_let_go e f t u h w own = grind (arith, nat_tests, h, own)

not_disposed : (e f : EnvNo) (t : ThreadNo) → (f.0 == e.0) ≡ false → (w : Waiting) → is_wait_of e t w ≡ true → not (waits_for f w) ≡ true
not_disposed e f t h w own = grind (arith, nat_tests, h, own)

not_left : (e : EnvNo) (t u : ThreadNo) → (u.0 == t.0) ≡ false → (w : Waiting) → is_wait_of e t w ≡ true → not (waits_at u w) ≡ true
not_left e t u h w own = grind (arith, nat_tests, h, own)

waits_after : (e : EnvNo) (t : ThreadNo) (s : StopsNow) (o : Option EnvNo) (call : StopCall) → waits_of e t s ≡ true → may_end e t (Made o call) ≡ false → waits_of e t (after s o call) ≡ true
waits_after e t s o (Reached u at) h k = still_any e t s.waiting (waits_by (reached_by s u at) s.envs) h
waits_after e t s o (Leaves u at n) h k = still_any e t s.waiting (waits_by (left_by s u at n) s.envs) h
waits_after e t s o (IsStopped u) h k = h
waits_after e t s o (MayStopIn u m n) h k = h
waits_after e t s None (Enable x u) h k = h
waits_after e t s None (Disable x u) h k = h
waits_after e t s None (SetBreakpoint at) h k = h
waits_after e t s None (ClearBreakpoint at) h k = h
waits_after e t s None (NotifyFramePop u n) h k = h
waits_after e t s None Next h k = h
waits_after e t s None (LetGo u) h k = h
waits_after e t s (Some f) (Enable x u) h k = h
waits_after e t s (Some f) (Disable x u) h k = h
waits_after e t s (Some f) (SetBreakpoint at) h k = h
waits_after e t s (Some f) (ClearBreakpoint at) h k = h
waits_after e t s (Some f) (NotifyFramePop u n) h k = h
waits_after e t s (Some f) Next h k = next_keeps e f t s.waiting ∙ h
waits_after e t s (Some f) (LetGo u) h k = any_filter (is_wait_of e t) (λ w. not (is_told_at f u w)) (not_let_go e f t u k) s.waiting ∙ h

waits_made : (e : EnvNo) (t : ThreadNo) (s : StopsNow) (o : Option EnvNo) (call : StopCall) (r : Result StopReply StopError) → waits_of e t s ≡ true → may_end e t (Made o call) ≡ false → waits_of e t (made_with s o call r) ≡ true
waits_made e t s o call (Ok r) h k = elim (cases_Bool (is_news r)) [
  | inl news ↦ ap (λ b. waits_of e t (cond b (after s o call) s)) news ∙ waits_after e t s o call h k
  | inr none ↦ ap (λ b. waits_of e t (cond b (after s o call) s)) none ∙ h
]
waits_made e t s o call (Err x) h k = h

waits_go : (e : EnvNo) (t : ThreadNo) (s : StopsNow) (x : Happens) → waits_of e t s ≡ true → may_end e t x ≡ false → waits_of e t (happened s x) ≡ true
waits_go e t s (Made o call) h k = waits_made e t s o call (outcome s o call) h k
waits_go e t s (Disposed f) h k = any_filter (is_wait_of e t) (λ w. not (waits_for f w)) (not_disposed e f t k) s.waiting ∙ h
waits_go e t s (Left u) h k = any_filter (is_wait_of e t) (λ w. not (waits_at u w)) (not_left e t u k) s.waiting ∙ h

any_wait : (e : EnvNo) (t : ThreadNo) (ws : List Waiting) → list_any (is_wait_of e t) ws ≡ true → list_any (waits_at t) ws ≡ true
any_wait e t [] h = cc
any_wait e t (w ∷ ws) h = grind (arith, any_wait e t ws, h)

pub waits_until_ended : WaitsUntilEnded
waits_until_ended e t s [] h k = (h, any_wait e t s.waiting h)
waits_until_ended e t s (x ∷ more) h k =
    let here : may_end e t x ≡ false = grind (arith, k) in
    let there : list_any (may_end e t) more ≡ false = grind (arith, k) in
    waits_until_ended e t (happened s x) more (waits_go e t s x h here) there
