-- A call of another environment, and what this one asked for.
use Rattle.std.proofs.Common.{◌≡◌, ℕ, Bool, true, false, cond, not, nat_eq, List, [], ◌∷◌, ◌++◌, filter, Option, Some, None, refl, sym, ap, ◌∙◌, arith}
use Rattle.std.proofs.lemmas.List.Elements.{filter-append}
use Rattle.std.proofs.lemmas.Bool.Decides.{nat_tests}
use Rattle.std.proofs.lemmas.Grind.{common_steps}
use Rattle.ti_types.specs.declared.numbers.EnvNo.{EnvNo}
use Rattle.ti_types.specs.declared.numbers.ThreadNo.{ThreadNo}
use Rattle.ti_types.specs.declared.place.Frame.{Frame}
use Rattle.ti_stops.specs.declared.call.StopCall.TheVariants.{Enable, Disable, SetBreakpoint, ClearBreakpoint, NotifyFramePop, Next, LetGo, Reached, Leaves, IsStopped, MayStopIn}
use Rattle.ti_stops.specs.declared.kind.StopKind.{StopKind}
use Rattle.ti_stops.specs.declared.lists.Breakpoint.{Breakpoint}
use Rattle.ti_stops.specs.declared.lists.Mode.{Mode}
use Rattle.ti_stops.specs.declared.lists.Pop.{Pop}
use Rattle.ti_stops.specs.declared.lists.Waiting.{Waiting}
use Rattle.ti_stops.proofs.Telling.{told_now}
use Rattle.ti_stops.specs.Lists.{is_breakpoint, is_breakpoint_of, is_mode, is_mode_of, is_pop_of, is_told_at, is_untold, next_told, waits_for}
use Rattle.ti_stops.specs.Own.{NobodyElseLetsGo, OthersChangeNothing, own}
use Rattle.ti_stops.specs.Stops.{StopsNow}

module _ {X : Type 0} (p : X → Bool) where
  skips_one : (x : X) (rest xs : List X) (b c : Bool) → p x ≡ b → (b ≡ true → c ≡ false) → filter p rest ≡ filter p xs → filter p (cond (not c) (x ∷ rest) rest) ≡ filter p (x ∷ xs)
  skips_one x rest xs true false e h r = ap (λ l. cond (p x) (x ∷ l) l) r
  skips_one x rest xs false false e h r = ap (λ l. cond (p x) (x ∷ l) l) r
  skips_one x rest xs false true e h r = r ∙ sym (ap (λ d. cond d (x ∷ filter p xs) (filter p xs)) e)
  skips_one x rest xs true true e h r = let k : true ≡ false = h refl in cc

  -- what does not count may be taken out
  pub skips : (q : X → Bool) → ((x : X) → p x ≡ true → q x ≡ false) → (xs : List X) → filter p (filter (λ x. not (q x)) xs) ≡ filter p xs
  skips q h [] = refl
  skips q h (x ∷ xs) = skips_one x (filter (λ y. not (q y)) xs) xs (p x) (q x) refl (h x) (skips q h xs)

  nothing_more : (xs : List X) → xs ++ [] ≡ xs
  nothing_more xs = grind (arith, common_steps)

  -- or put at the end
  pub adds_nothing : (xs : List X) (x : X) → p x ≡ false → filter p (xs ++ x ∷ []) ≡ filter p xs
  adds_nothing xs x e = filter-append p xs (x ∷ []) ∙ ap (λ d. filter p xs ++ cond d (x ∷ []) []) e ∙ nothing_more (filter p xs)

  -- what is there stays, before what comes
  pub stays : (xs ys : List X) → (more : List X) × (filter p (xs ++ ys) ≡ filter p xs ++ more)
  stays xs ys = (filter p ys, filter-append p xs ys)

  same_list : (xs ys : List X) → filter p ys ≡ filter p xs → (more : List X) × (filter p ys ≡ filter p xs ++ more)
  same_list xs ys h = ([], h ∙ sym (nothing_more (filter p xs)))

-- whoever is the one is not the other
pub not_both : (a b c : ℕ) → nat_eq b c ≡ false → nat_eq a c ≡ true → nat_eq a b ≡ false
not_both a b c h k = grind (arith, nat_tests)

pub is_not : (b : Bool) → not b ≡ true → b ≡ false
is_not true h = cc h
is_not false h = refl

pub no_mode : (e f : EnvNo) (k : StopKind) (t : Option ThreadNo) → nat_eq f.0 e.0 ≡ false → (m : Mode) → is_mode_of e m ≡ true → is_mode f k t m ≡ false
no_mode e f k t h m own = let n : nat_eq m.env.0 f.0 ≡ false = not_both m.env.0 f.0 e.0 h own in grind (arith, n)

pub no_breakpoint : (e f : EnvNo) (at : Frame) → nat_eq f.0 e.0 ≡ false → (b : Breakpoint) → is_breakpoint_of e b ≡ true → is_breakpoint f at b ≡ false
no_breakpoint e f at h b own = let n : nat_eq b.env.0 f.0 ≡ false = not_both b.env.0 f.0 e.0 h own in grind (arith, n)

with_modes : (e : EnvNo) (s : StopsNow) (l : List Mode) → filter (is_mode_of e) l ≡ filter (is_mode_of e) s.modes → record { modes = filter (is_mode_of e) l; breakpoints = filter (is_breakpoint_of e) s.breakpoints; pops = filter (is_pop_of e) s.pops } ≡ own e s
with_modes e s l h = ap (λ (x : List Mode). record { modes = x; breakpoints = filter (is_breakpoint_of e) s.breakpoints; pops = filter (is_pop_of e) s.pops }) h

with_breakpoints : (e : EnvNo) (s : StopsNow) (l : List Breakpoint) → filter (is_breakpoint_of e) l ≡ filter (is_breakpoint_of e) s.breakpoints → record { modes = filter (is_mode_of e) s.modes; breakpoints = filter (is_breakpoint_of e) l; pops = filter (is_pop_of e) s.pops } ≡ own e s
with_breakpoints e s l h = ap (λ (x : List Breakpoint). record { modes = filter (is_mode_of e) s.modes; breakpoints = x; pops = filter (is_pop_of e) s.pops }) h

with_pops : (e : EnvNo) (s : StopsNow) (l : List Pop) → filter (is_pop_of e) l ≡ filter (is_pop_of e) s.pops → record { modes = filter (is_mode_of e) s.modes; breakpoints = filter (is_breakpoint_of e) s.breakpoints; pops = filter (is_pop_of e) l } ≡ own e s
with_pops e s l h = ap (λ (x : List Pop). record { modes = filter (is_mode_of e) s.modes; breakpoints = filter (is_breakpoint_of e) s.breakpoints; pops = x }) h

pub others_change_nothing : OthersChangeNothing
others_change_nothing s e o (Reached t at) h = refl
others_change_nothing s e o (Leaves t at n) h = cc h
others_change_nothing s e o (IsStopped t) h = refl
others_change_nothing s e o (MayStopIn t m n) h = refl
others_change_nothing s e None (Enable k t) h = refl
others_change_nothing s e None (Disable k t) h = refl
others_change_nothing s e None (SetBreakpoint at) h = refl
others_change_nothing s e None (ClearBreakpoint at) h = refl
others_change_nothing s e None (NotifyFramePop t n) h = refl
others_change_nothing s e None Next h = refl
others_change_nothing s e None (LetGo t) h = refl
others_change_nothing s e (Some f) (Enable k t) h =
    let other : nat_eq f.0 e.0 ≡ false = is_not (nat_eq f.0 e.0) h in
    let mode : Mode = record { env = f; kind = k; thread = t } in
    let l : List Mode = filter (λ m. not (is_mode f k t m)) s.modes in
    with_modes e s (l ++ mode ∷ []) (adds_nothing (is_mode_of e) l mode other ∙ skips (is_mode_of e) (is_mode f k t) (no_mode e f k t other) s.modes)
others_change_nothing s e (Some f) (Disable k t) h =
    let other : nat_eq f.0 e.0 ≡ false = is_not (nat_eq f.0 e.0) h in
    with_modes e s _ (skips (is_mode_of e) (is_mode f k t) (no_mode e f k t other) s.modes)
others_change_nothing s e (Some f) (SetBreakpoint at) h =
    let other : nat_eq f.0 e.0 ≡ false = is_not (nat_eq f.0 e.0) h in
    let one : Breakpoint = record { env = f; at = at } in
    with_breakpoints e s (s.breakpoints ++ one ∷ []) (adds_nothing (is_breakpoint_of e) s.breakpoints one other)
others_change_nothing s e (Some f) (ClearBreakpoint at) h =
    let other : nat_eq f.0 e.0 ≡ false = is_not (nat_eq f.0 e.0) h in
    with_breakpoints e s _ (skips (is_breakpoint_of e) (is_breakpoint f at) (no_breakpoint e f at other) s.breakpoints)
others_change_nothing s e (Some f) (NotifyFramePop t n) h =
    let other : nat_eq f.0 e.0 ≡ false = is_not (nat_eq f.0 e.0) h in
    let one : Pop = record { env = f; thread = t; frames = n } in
    with_pops e s (s.pops ++ one ∷ []) (adds_nothing (is_pop_of e) s.pops one other)
others_change_nothing s e (Some f) Next h = refl
others_change_nothing s e (Some f) (LetGo t) h = refl

pub told_at : (e f : EnvNo) (t : ThreadNo) → nat_eq f.0 e.0 ≡ false → (w : Waiting) → waits_for e w ≡ true → is_told_at f t w ≡ false
told_at e f t h w own = let n : nat_eq w.env.0 f.0 ≡ false = not_both w.env.0 f.0 e.0 h own in grind (arith, n)

untold : (e f : EnvNo) → nat_eq f.0 e.0 ≡ false → (w : Waiting) → waits_for e w ≡ true → is_untold f w ≡ false
untold e f h w own = let n : nat_eq w.env.0 f.0 ≡ false = not_both w.env.0 f.0 e.0 h own in grind (arith, n)

tells_one : (e : EnvNo) (x : Waiting) (rest xs : List Waiting) (b c : Bool) → waits_for e x ≡ b → (b ≡ true → c ≡ false) → filter (waits_for e) rest ≡ filter (waits_for e) xs → filter (waits_for e) (cond c (told_now x ∷ xs) (x ∷ rest)) ≡ filter (waits_for e) (x ∷ xs)
tells_one e x rest xs true false w h r = ap (λ l. cond (waits_for e x) (x ∷ l) l) r
tells_one e x rest xs false false w h r = ap (λ l. cond (waits_for e x) (x ∷ l) l) r
tells_one e x rest xs false true w h r =
    let l = filter (waits_for e) xs in
    ap (λ d. cond d (told_now x ∷ l) l) w ∙ sym (ap (λ d. cond d (x ∷ l) l) w)
tells_one e x rest xs true true w h r = let k : true ≡ false = h refl in cc

-- another environment is told of none that waits for this one
pub tells : (e f : EnvNo) → nat_eq f.0 e.0 ≡ false → (xs : List Waiting) → filter (waits_for e) (next_told f xs) ≡ filter (waits_for e) xs
tells e f h [] = refl
tells e f h (x ∷ xs) = tells_one e x (next_told f xs) xs (waits_for e x) (is_untold f x) refl (untold e f h x) (tells e f h xs)

pub nobody_else_lets_go : NobodyElseLetsGo
nobody_else_lets_go s e o (Reached t at) h = stays (waits_for e) s.waiting _
nobody_else_lets_go s e o (Leaves t at n) h = stays (waits_for e) s.waiting _
nobody_else_lets_go s e o (IsStopped t) h = same_list (waits_for e) s.waiting s.waiting refl
nobody_else_lets_go s e o (MayStopIn t m n) h = same_list (waits_for e) s.waiting s.waiting refl
nobody_else_lets_go s e None (Enable k t) h = same_list (waits_for e) s.waiting s.waiting refl
nobody_else_lets_go s e None (Disable k t) h = same_list (waits_for e) s.waiting s.waiting refl
nobody_else_lets_go s e None (SetBreakpoint at) h = same_list (waits_for e) s.waiting s.waiting refl
nobody_else_lets_go s e None (ClearBreakpoint at) h = same_list (waits_for e) s.waiting s.waiting refl
nobody_else_lets_go s e None (NotifyFramePop t n) h = same_list (waits_for e) s.waiting s.waiting refl
nobody_else_lets_go s e None Next h = same_list (waits_for e) s.waiting s.waiting refl
nobody_else_lets_go s e None (LetGo t) h = same_list (waits_for e) s.waiting s.waiting refl
nobody_else_lets_go s e (Some f) (Enable k t) h = same_list (waits_for e) s.waiting s.waiting refl
nobody_else_lets_go s e (Some f) (Disable k t) h = same_list (waits_for e) s.waiting s.waiting refl
nobody_else_lets_go s e (Some f) (SetBreakpoint at) h = same_list (waits_for e) s.waiting s.waiting refl
nobody_else_lets_go s e (Some f) (ClearBreakpoint at) h = same_list (waits_for e) s.waiting s.waiting refl
nobody_else_lets_go s e (Some f) (NotifyFramePop t n) h = same_list (waits_for e) s.waiting s.waiting refl
nobody_else_lets_go s e (Some f) Next h = same_list (waits_for e) s.waiting (next_told f s.waiting) (tells e f (is_not (nat_eq f.0 e.0) h) s.waiting)
nobody_else_lets_go s e (Some f) (LetGo t) h =
    same_list (waits_for e) s.waiting _ (skips (waits_for e) (is_told_at f t) (told_at e f t (is_not (nat_eq f.0 e.0) h)) s.waiting)
