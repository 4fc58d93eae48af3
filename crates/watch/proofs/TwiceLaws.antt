-- Two traces under one suspension are equal: what the three calls tell, and the laws of suspensions.
use Rattle.std.proofs.Common.{◌≡◌, true, false, List, [], ◌∷◌, ◌++◌, refl, ap, sym, ◌∙◌, arith, append_assoc, subst, Some, None, length, Option, pos}
use Rattle.std.specs.Prelude.{ℤ, slice_get}
use Rattle.std.specs.List.{list_any}
use Rattle.std.proofs.lemmas.List.Folds.{list_any-append}
use Rattle.std.proofs.lemmas.Bool.{and_parts}
use Rattle.ti_types.specs.declared.limits.Limits.{Limits}
use Rattle.ti_types.specs.declared.numbers.ThreadNo.{ThreadNo}
use Rattle.ti_types.specs.declared.answer.Answer.{Answer}
use Rattle.ti_types.specs.declared.answer.Answer.TheVariants as answer
use Rattle.ti_types.specs.declared.error.TiError.{TiError}
use Rattle.ti_types.specs.declared.place.Frame.{Frame}
use Rattle.ti_types.specs.declared.entry.Entry.{Entry}
use Rattle.ti_types.specs.declared.entry.Entry.TheVariants.{Start, Own, Hand, Back, End, Asked, Stop, Read, Go}
use Rattle.ti_types.specs.declared.call.Call.{Call}
use Rattle.ti_types.specs.declared.call.Call.TheVariants.{State, FrameCount, Trace, Location, Suspend, Resume, GetWord, SetWord, Pop}
use Rattle.ti_types.specs.Frames.{bare_trace}
use Rattle.ti_replay.specs.Legal.{is_legal, asked_by}
use Rattle.ti_replay.specs.Replies.{reply}
use Rattle.ti_replay.specs.Fronts.{frames_popped, popped_behind}
use Rattle.ti_replay.specs.Suspensions.{is_resumption}
use Rattle.ti_replay.proofs.CostLaws.{goes_on-append}
use Rattle.ti_replay.proofs.TakeHoldLaws.{suspended_traces_agree}
use Rattle.ti_handshake.specs.Desk.{DeskState}
use Rattle.ti_agent.specs.Env.{Environment, place_in}
use Rattle.ti_agent.proofs.Places.{after_here}
use Rattle.ti_agent.specs.Asks.{Asks, Went, IsCalledBy}
use Rattle.watch.specs.Traces.{is_undoing, IsLeftAlone}

-- a call that is not refused went to its thread
pub was_done : (m : Option TiError) (old new : Environment) (thread : ThreadNo) (c : Call) → IsCalledBy m old new thread c answer.Done → Went old new thread c answer.Done
was_done None old new thread c k = k
was_done (Some e) old new thread c k = let bad : answer.Done ≡ answer.Refused e = k.1 in cc

pub was_traced : (m : Option TiError) (old new : Environment) (thread : ThreadNo) (c : Call) (frames : List Frame) → IsCalledBy m old new thread c (answer.Trace (bare_trace frames))
    → Went old new thread c (answer.Trace (bare_trace frames))
was_traced None old new thread c frames k = k
was_traced (Some e) old new thread c frames k = let bad : answer.Trace (bare_trace frames) ≡ answer.Refused e = k.1 in cc

resumes_undo : (x : Entry) → is_undoing x ≡ false → is_resumption x ≡ false
resumes_undo Start k = refl
resumes_undo (Own step) k = refl
resumes_undo (Hand safe) k = refl
resumes_undo Back k = refl
resumes_undo End k = refl
resumes_undo (Asked env number State) k = refl
resumes_undo (Asked env number FrameCount) k = refl
resumes_undo (Asked env number (Trace start max_count)) k = refl
resumes_undo (Asked env number (Location depth)) k = refl
resumes_undo (Asked env number Suspend) k = refl
resumes_undo (Asked env number Resume) k = absurd (grind arith)
resumes_undo (Asked env number GetWord) k = refl
resumes_undo (Asked env number (SetWord word)) k = refl
resumes_undo (Asked env number Pop) k = refl
resumes_undo (Stop env) k = refl
resumes_undo (Read env max_count) k = refl
resumes_undo (Go env) k = refl

none_resumes : (xs : List Entry) → list_any is_undoing xs ≡ false → list_any is_resumption xs ≡ false
none_resumes [] k = refl
none_resumes (x ∷ xs) k =
    let first : is_undoing x ≡ false = grind arith in
    let rest : list_any is_undoing xs ≡ false = grind arith in
    let here = resumes_undo x first in
    let there = none_resumes xs rest in
    grind (arith, here, there)

-- no frame is popped if nobody asks for that
pops_undo : (limits : Limits) (before : List Entry) (x : Entry) → is_undoing x ≡ false → frames_popped limits before x ≡ 0
pops_undo limits before Start k = refl
pops_undo limits before (Own step) k = refl
pops_undo limits before (Hand safe) k = refl
pops_undo limits before Back k = refl
pops_undo limits before End k = refl
pops_undo limits before (Asked env number State) k = refl
pops_undo limits before (Asked env number FrameCount) k = refl
pops_undo limits before (Asked env number (Trace start max_count)) k = refl
pops_undo limits before (Asked env number (Location depth)) k = refl
pops_undo limits before (Asked env number Suspend) k = refl
pops_undo limits before (Asked env number Resume) k = refl
pops_undo limits before (Asked env number GetWord) k = refl
pops_undo limits before (Asked env number (SetWord word)) k = refl
pops_undo limits before (Asked env number Pop) k = absurd (grind arith)
pops_undo limits before (Stop env) k = refl
pops_undo limits before (Read env max_count) k = refl
pops_undo limits before (Go env) k = refl

none_popped : (limits : Limits) (before xs : List Entry) → list_any is_undoing xs ≡ false → popped_behind limits before xs ≡ 0
none_popped limits before [] k = refl
none_popped limits before (x ∷ xs) k =
    let first : is_undoing x ≡ false = grind arith in
    let rest : list_any is_undoing xs ≡ false = grind arith in
    let here = pops_undo limits before x first in
    let there = none_popped limits (before ++ x ∷ []) xs rest in
    omega (arith, here, there)

first_none : (xs ys : List Entry) → list_any is_undoing (xs ++ ys) ≡ false → list_any is_undoing xs ≡ false
first_none xs ys k = let parts = list_any-append is_undoing xs ys in grind (arith, parts, k)

last_none : (xs ys : List Entry) → list_any is_undoing (xs ++ ys) ≡ false → list_any is_undoing ys ≡ false
last_none xs ys k = let parts = list_any-append is_undoing xs ys in grind (arith, parts, k)

-- a prefix of a legal history is legal
legal_prefix : (limits : Limits) (xs ys : List Entry) → is_legal limits (xs ++ ys) ≡ true → is_legal limits xs ≡ true
legal_prefix limits xs ys k = (and_parts _ _ (sym (goes_on-append limits [] xs ys) ∙ k)).0

same_frames : (f g : List Frame) → answer.Trace (bare_trace f) ≡ answer.Trace (bare_trace g) → f ≡ g
same_frames f g h = let e : bare_trace f ≡ bare_trace g = cc h in ap (λ t. t.frames) e

-- the same by places of one desk: suspended, traced, and traced again
pub traced_alike : (p q r s : DeskState) (max_count : ℤ) (f g : List Frame)
    → Asks p q Suspend answer.Done → Asks q r (Trace (pos 0) max_count) (answer.Trace (bare_trace f)) → Asks r s (Trace (pos 0) max_count) (answer.Trace (bare_trace g))
    → IsLeftAlone p s → f ≡ g
traced_alike p q r s max_count f g one two three alone =
    let limits = p.view.subject.limits in
    let a = one.answer in
    let b = two.answer in
    let c = three.answer in
    let x = Asked p.env (asked_by p.env p.view.mine) Suspend in
    let y = Asked q.env (asked_by q.env q.view.mine) (Trace (pos 0) max_count) in
    let z = Asked r.env (asked_by r.env r.view.mine) (Trace (pos 0) max_count) in
    let held = (a.front ++ x ∷ []) ++ a.rest in
    let whole : q.view.seen ≡ held = a.stands ∙ sym (append_assoc a.front (x ∷ []) a.rest) in
    let k = b.behind.0 in
    let w = c.behind.0 in
    let l = k ++ y ∷ (b.rest ++ w) in
    let first : b.front ≡ held ++ k = b.behind.1 ∙ ap (λ h. h ++ k) whole in
    let seen : r.view.seen ≡ (held ++ k) ++ y ∷ b.rest = b.stands ∙ ap (λ h. h ++ y ∷ b.rest) first in
    let later : ((held ++ k) ++ y ∷ b.rest) ++ w ≡ held ++ l = append_assoc (held ++ k) (y ∷ b.rest) w ∙ append_assoc held k (y ∷ (b.rest ++ w)) in
    let second : c.front ≡ held ++ l = c.behind.1 ∙ (ap (λ h. h ++ w) seen ∙ later) in
    let end : s.view.seen ≡ (held ++ l) ++ z ∷ c.rest = c.stands ∙ ap (λ h. h ++ z ∷ c.rest) second in
    let all : s.view.seen ≡ (a.front ++ x ∷ []) ++ (a.rest ++ (l ++ z ∷ c.rest)) =
    end ∙ (append_assoc held l (z ∷ c.rest) ∙ append_assoc (a.front ++ x ∷ []) a.rest (l ++ z ∷ c.rest)) in
    let none = alone a.front (a.rest ++ (l ++ z ∷ c.rest)) all in
    let rest_none = first_none a.rest (l ++ z ∷ c.rest) none in
    let l_none = first_none l (z ∷ c.rest) (last_none a.rest (l ++ z ∷ c.rest) none) in
    let k_none = first_none k (y ∷ (b.rest ++ w)) l_none in
    let ql : q.view.subject.limits ≡ limits = ap (λ v. v.limits) one.goes.subject in
    let rl : r.view.subject.limits ≡ limits = ap (λ v. v.limits) two.goes.subject ∙ ql in
    let legal_r : is_legal limits ((held ++ k) ++ y ∷ b.rest) ≡ true = subst (λ (t : Limits × List Entry). is_legal t.0 t.1 ≡ true) (λ i. (ql i, seen i)) two.goes.legal in
    let legal_s : is_legal limits ((held ++ l) ++ z ∷ c.rest) ≡ true = subst (λ (t : Limits × List Entry). is_legal t.0 t.1 ≡ true) (λ i. (rl i, end i)) three.goes.legal in
    let resumes : (xs : List Entry) → list_any is_undoing xs ≡ false → list_any is_resumption (a.rest ++ xs) ≡ false =
    λ xs u. none_resumes (a.rest ++ xs) (let parts = list_any-append is_undoing a.rest xs in grind (arith, parts, u, rest_none)) in
    let is : reply limits held (length a.front) ≡ Some answer.Done = ap (λ h. reply limits h (length a.front)) (sym whole) ∙ a.replied in
    let is_one : reply limits (((held ++ k) ++ y ∷ []) ++ b.rest) (length (held ++ k)) ≡ Some (answer.Trace (bare_trace f)) =
    ap (λ h. reply limits h (length (held ++ k))) (append_assoc (held ++ k) (y ∷ []) b.rest) ∙ (sym (λ i. reply (ql i) (seen i) (length (first i))) ∙ b.replied) in
    let is_two : reply limits (((held ++ l) ++ z ∷ []) ++ c.rest) (length (held ++ l)) ≡ Some (answer.Trace (bare_trace g)) =
    ap (λ h. reply limits h (length (held ++ l))) (append_assoc (held ++ l) (z ∷ []) c.rest) ∙ (sym (λ i. reply (rl i) (end i) (length (second i))) ∙ c.replied) in
    let same : answer.Trace (bare_trace f) ≡ answer.Trace (bare_trace g) =
    suspended_traces_agree limits a.front p.env (asked_by p.env p.view.mine) a.rest k l b.rest c.rest q.env r.env _ _ _ max_count _ _
    (legal_prefix limits (held ++ k) (y ∷ b.rest) legal_r) (legal_prefix limits (held ++ l) (z ∷ c.rest) legal_s) is (resumes k k_none) (resumes l l_none)
    (none_popped limits held k k_none ∙ sym (none_popped limits held l l_none)) is_one is_two in
    same_frames f g same

-- the desk that made a call is the thread's desk after it
next_desk : (s t : Environment) (thread : ThreadNo) (c : Call) (a : Answer) (w : Went s t thread c a) (q : DeskState) → slice_get t.desks (place_in t.desks thread) ≡ Some q → w.after ≡ q
next_desk s t thread c a w q at =
    after_here s.desks thread w.before w.after q w.there w.asks.goes.subject (ap (λ (x : Environment). slice_get x.desks (place_in x.desks thread)) (sym w.new_is) ∙ at)

pub trace_twice : (s t u v : Environment) (thread : ThreadNo) (max_count : ℤ) (f g : List Frame)
    → Went s t thread Suspend answer.Done → Went t u thread (Trace (pos 0) max_count) (answer.Trace (bare_trace f)) → Went u v thread (Trace (pos 0) max_count) (answer.Trace (bare_trace g))
    → (p q : DeskState) → slice_get s.desks (place_in s.desks thread) ≡ Some p → slice_get v.desks (place_in v.desks thread) ≡ Some q → IsLeftAlone p q → f ≡ g
trace_twice s t u v thread max_count f g one two three p q at_p at_q alone =
    let first : one.before ≡ p = let e : Some one.before ≡ Some p = sym one.there ∙ at_p in cc in
    let last : three.after ≡ q = next_desk u v thread (Trace (pos 0) max_count) (answer.Trace (bare_trace g)) three q at_q in
    let b = next_desk s t thread Suspend answer.Done one two.before two.there in
    let c = next_desk t u thread (Trace (pos 0) max_count) (answer.Trace (bare_trace f)) two three.before three.there in
    traced_alike one.before one.after two.after three.after max_count f g one.asks
    (subst (λ (x : DeskState). Asks x two.after (Trace (pos 0) max_count) (answer.Trace (bare_trace f))) (sym b) two.asks)
    (subst (λ (x : DeskState). Asks x three.after (Trace (pos 0) max_count) (answer.Trace (bare_trace g))) (sym c) three.asks)
    (subst (λ (x : DeskState × DeskState). IsLeftAlone x.0 x.1) (λ i. (sym first i, sym last i)) alone)
