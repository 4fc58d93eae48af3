-- A global operation at one thread.
use Rattle.std.proofs.Common.{◌≡◌, ℕ, ◌+◌, Bool, true, false, cond, ℤ, List, [], ◌∷◌, ◌++◌, length, refl, ap, sym, ◌∙◌, arith, subst, eq-eqb, Option, Some, None}
use Rattle.std.specs.Prelude.{take, drop, is_none, Result, Ok, Err, IfOk, OnOk}
use Rattle.std.proofs.lemmas.Bool.{and_parts}
use Rattle.std.proofs.lemmas.Bool.Decides.{nat_tests}
use Rattle.std.proofs.lemmas.List.{append_cancel_right}
use Rattle.ti_types.specs.declared.answer.Answer.{Answer}
use Rattle.ti_types.specs.declared.entry.Entry.{Entry}
use Rattle.ti_types.specs.declared.entry.Entry.TheVariants.{Stop, Read, Go}
use Rattle.ti_types.specs.declared.error.TiError.{TiError}
use Rattle.ti_types.specs.declared.error.TiError.TheVariants.{AlreadyStopped}
use Rattle.ti_types.specs.declared.event.Event.TheVariants as event
use Rattle.ti_types.specs.declared.limits.Limits.{Limits}
use Rattle.ti_types.specs.declared.numbers.EnvNo.{EnvNo}
use Rattle.ti_types.specs.declared.numbers.ThreadNo.{ThreadNo}
use Rattle.ti_types.specs.declared.view.ThreadView.{ThreadView}
use Rattle.ti_types.specs.State.{bits_of}
use Rattle.ti_types.specs.Frames.{bare_trace}
use Rattle.ti_types.specs.declared.answer.Answer.TheVariants as answer
use Rattle.ti_replay.specs.Answers.{or_zero, stack_of}
use Rattle.ti_replay.specs.Refusals.{unless}
use Rattle.ti_replay.specs.Legal.{is_legal, is_stopper}
use Rattle.ti_replay.specs.Makers.{maker, made_by, StartsWith}
use Rattle.ti_replay.specs.Events.{stopping_refusal, if_none}
use Rattle.ti_replay.specs.Replies.{reply}
use Rattle.ti_replay.specs.Standing.{is_standing, stands_for}
use Rattle.ti_replay.proofs.AskingLaws.{reply-snoc}
use Rattle.ti_replay.proofs.PlaceLaws.{reply_past}
use Rattle.ti_replay.specs.View.{view}
use Rattle.ti_replay.proofs.CostLaws.{goes_on-append}
use Rattle.ti_slot.specs.Thread.{read_answer}
use Rattle.ti_cell.specs.declared.view.View.{View}
use Rattle.ti_handshake.specs.Call.{Holds, Waits, found, added}
use Rattle.ti_handshake.proofs.Holding.{added_is}
use Rattle.ti_handshake.specs.Desk.{DeskState, IsSame, is_anothers, read_refusal}
use Rattle.ti_replay.proofs.AloneLaws.{made-append, none_since}
use Rattle.ti_replay.specs.Fronts.{stops_by, lets_go, IsStill, TellsOf, popped_behind}
use Rattle.ti_vmop.specs.Desks.{DesksStay}
use Rattle.ti_vmop.specs.Turns.{HasAdded, IsRead}
use Rattle.ti_replay.proofs.FrontLaws.{stops_are_own, front_stays, front_stays_by_own}

-- what was found has of the seat's entries just those that were made before
pub found_mine : (v w : View) (more : List Entry) → Waits v w more → made_by v.number more ≡ more → made_by v.number (found v w) ≡ v.mine
found_mine v w more k own =
    let both : made_by v.number (found v w) ++ more ≡ v.mine ++ more =
    ap (λ (l : List Entry). made_by v.number (found v w) ++ l) (sym own)
    ∙ (sym (made-append v.number (found v w) more) ∙ (ap (made_by v.number) (sym k.last) ∙ (sym k.goes.whole ∙ k.mine))) in
    append_cancel_right (made_by v.number (found v w)) v.mine more both

-- and is legal
pub found_legal : (v w : View) (more : List Entry) → Waits v w more → is_legal v.subject.limits (found v w) ≡ true
found_legal v w more k =
    let legal : is_legal v.subject.limits (found v w ++ more) ≡ true = subst (λ (l : List Entry). is_legal v.subject.limits l ≡ true) k.last k.goes.legal in
    (and_parts _ _ (sym (goes_on-append v.subject.limits [] (found v w) more) ∙ legal)).0

-- an entry that the seat makes, if it does
one_made : (n : ℕ) (x : Entry) (r : Option TiError) → maker x ≡ n → made_by n (if_none r (x ∷ [])) ≡ if_none r (x ∷ [])
one_made n x None is = ap (λ (b : Bool). cond b (x ∷ []) []) (eq-eqb (maker x) n is)
one_made n x (Some e) is = refl

no_others : (env : EnvNo) (o : Option EnvNo) → is_anothers env o ≡ false → is_stopper o env ≡ false → unless (is_none o) AlreadyStopped ≡ None
no_others env None h n = refl
no_others env (Some other) h n = absurd (grind (arith, h, n))

-- a stop of an environment that has none stands where no other's does
pub stopped : (p : DeskState) (w : View) → p.view.number ≡ p.env.0 + 1
    → Waits p.view w (if_none (stopping_refusal (view p.view.subject.limits (found p.view w)) (event.Stop p.env p.view.subject.thread)) (Stop p.env ∷ []))
    → is_anothers p.env (view p.view.subject.limits (found p.view w)).stopper ≡ false → stops_by p.env p.view.mine ≡ false → Waits p.view w (Stop p.env ∷ [])
stopped p w number k others free =
    let limits = p.view.subject.limits in
    let now = view limits (found p.view w) in
    let r = stopping_refusal now (event.Stop p.env p.view.subject.thread) in
    let made : maker (Stop p.env) ≡ p.view.number = omega (arith, number) in
    let mine : made_by (p.env.0 + 1) (found p.view w) ≡ p.view.mine =
    ap (λ (n : ℕ). made_by n (found p.view w)) (sym number) ∙ found_mine p.view w (if_none r (Stop p.env ∷ [])) k (one_made p.view.number (Stop p.env) r made) in
    let own : is_stopper now.stopper p.env ≡ false = stops_are_own limits p.env (found p.view w) (found_legal p.view w (if_none r (Stop p.env ∷ [])) k) ∙ (ap (stops_by p.env) mine ∙ free) in
    subst (λ (o : Option TiError). Waits p.view w (if_none o (Stop p.env ∷ []))) (no_others p.env now.stopper others own) k

-- a stop that was made and not let go stands where a go finds the thread
pub let_go_again : (p : DeskState) (w : View) (r : Option TiError) → p.view.number ≡ p.env.0 + 1 → stops_by p.env p.view.mine ≡ true → r ≡ stopping_refusal (view p.view.subject.limits (found p.view w)) (event.Go p.env p.view.subject.thread)
    → Waits p.view w (if_none r (Go p.env ∷ [])) → Waits p.view w (Go p.env ∷ [])
let_go_again p w r number stands is k =
    let limits = p.view.subject.limits in
    let now = view limits (found p.view w) in
    let made : maker (Go p.env) ≡ p.view.number = omega (arith, number) in
    let mine : made_by (p.env.0 + 1) (found p.view w) ≡ p.view.mine =
    ap (λ (n : ℕ). made_by n (found p.view w)) (sym number) ∙ found_mine p.view w (if_none r (Go p.env ∷ [])) k (one_made p.view.number (Go p.env) r made) in
    let own : is_stopper now.stopper p.env ≡ true = stops_are_own limits p.env (found p.view w) (found_legal p.view w (if_none r (Go p.env ∷ [])) k) ∙ (ap (stops_by p.env) mine ∙ stands) in
    let free : stopping_refusal now (event.Go p.env p.view.subject.thread) ≡ None = grind (arith, own) in
    subst (λ (o : Option TiError). Waits p.view w (if_none o (Go p.env ∷ []))) (is ∙ free) k

-- the thread that stood when it was last seen stands where a call finds it, in the same mode, with the same frames
pub found_still : (p : DeskState) (w : View) (more : List Entry) → p.view.number ≡ p.env.0 + 1 → p.view.mine ≡ made_by p.view.number p.view.seen
    → Waits p.view w more → made_by p.view.number more ≡ more → is_standing p.view.subject.limits p.view.seen p.env ≡ true
    → (k : StartsWith (found p.view w) p.view.seen) → IsStill p.view.subject.limits p.env p.view.seen k.0
found_still p w more number whole k own stands s =
    let none : made_by p.view.number s.0 ≡ [] = none_since p.view.number p.view.seen (found p.view w) s (sym whole ∙ sym (found_mine p.view w more k own)) in
    let free : lets_go p.env (made_by (p.env.0 + 1) s.0) ≡ false = ap (lets_go p.env) (ap (λ (n : ℕ). made_by n s.0) (sym number) ∙ none) in
    front_stays_by_own p.view.subject.limits p.env p.view.seen (found p.view w) (found_legal p.view w more k) stands s free

-- a read is answered by the view at its place
reply_read : (limits : Limits) (history : List Entry) (env : EnvNo) (n : ℤ) → reply limits (history ++ Read env n ∷ []) (length history) ≡ Some (stack_of (view limits history) n)
reply_read limits history env n =
    grind (arith, nat_tests, reply-snoc limits history (Read env n) (length history), reply_past limits history (length history))

not_refused : (v : ThreadView) (env : EnvNo) (t : ThreadNo) (n : ℤ) → stands_for env v ≡ true → stopping_refusal v (event.Read env t n) ≡ None
not_refused v env t n s = grind (arith, s)

let_go : (v : ThreadView) (env : EnvNo) (t : ThreadNo) → stands_for env v ≡ true → stopping_refusal v (event.Go env t) ≡ None
let_go v env t s = grind (arith, s)

tells_still : (limits : Limits) (front more now : List Entry) (n : ℤ) → (view limits now).mode ≡ (view limits front).mode → (view limits now).frames ≡ drop (popped_behind limits front more) (view limits front).frames
    → TellsOf limits front more n (stack_of (view limits now) n)
tells_still limits front more now n mode frames =
    ((view limits now).suspended, λ i. answer.Stack (bits_of (mode i) (view limits now).suspended) (bare_trace (take (or_zero n) (frames i))))

-- what is standing where it is found: after what the desk had seen come these
pub record Finds (p : DeskState) (w : View) (more : List Entry) : Type 0 where
  pub stands : stands_for p.env (view p.view.subject.limits (found p.view w)) ≡ true
  pub mode : (view p.view.subject.limits (found p.view w)).mode ≡ (view p.view.subject.limits p.view.seen).mode
  pub frames : (view p.view.subject.limits (found p.view w)).frames ≡ drop (popped_behind p.view.subject.limits p.view.seen more) (view p.view.subject.limits p.view.seen).frames

pub finds : (p : DeskState) (w : View) (x : Entry) (r : Option TiError) → maker x ≡ p.env.0 + 1 → p.view.number ≡ p.env.0 + 1 → p.view.mine ≡ made_by p.view.number p.view.seen
    → (k : Waits p.view w (if_none r (x ∷ []))) → is_standing p.view.subject.limits p.view.seen p.env ≡ true → Finds p w k.here.0
finds p w x r by number whole k stands =
    let still = found_still p w (if_none r (x ∷ [])) number whole k (one_made p.view.number x r (by ∙ sym number)) stands k.here in
    let e = k.here.1 in
    record {
      stands = ap (λ (l : List Entry). is_standing p.view.subject.limits l p.env) e ∙ still.stands;
      mode = ap (λ (l : List Entry). (view p.view.subject.limits l).mode) e ∙ still.mode;
      frames = ap (λ (l : List Entry). (view p.view.subject.limits l).frames) e ∙ still.frames;
    }

pub read_holds : (p : DeskState) (w : View) (n : ℤ) (r : Option TiError) (more : List Entry) → r ≡ stopping_refusal (view p.view.subject.limits (found p.view w)) (event.Read p.env p.view.subject.thread n) → Finds p w more
    → Waits p.view w (if_none r (Read p.env n ∷ [])) → Waits p.view w (Read p.env n ∷ [])
read_holds p w n r more is f k = subst (λ (o : Option TiError). Waits p.view w (if_none o (Read p.env n ∷ []))) (is ∙ not_refused (view p.view.subject.limits (found p.view w)) p.env p.view.subject.thread n f.stands) k

pub go_holds : (p : DeskState) (w : View) (r : Option TiError) (more : List Entry) → r ≡ stopping_refusal (view p.view.subject.limits (found p.view w)) (event.Go p.env p.view.subject.thread) → Finds p w more
    → Waits p.view w (if_none r (Go p.env ∷ [])) → Waits p.view w (Go p.env ∷ [])
go_holds p w r more is f k = subst (λ (o : Option TiError). Waits p.view w (if_none o (Go p.env ∷ []))) (is ∙ let_go (view p.view.subject.limits (found p.view w)) p.env p.view.subject.thread f.stands) k

pub read_replies : (p : DeskState) (w : View) (n : ℤ) (r : Option TiError) (a : Answer) (more : List Entry) → r ≡ stopping_refusal (view p.view.subject.limits (found p.view w)) (event.Read p.env p.view.subject.thread n) → Finds p w more
    → read_answer r (reply p.view.subject.limits w.seen (length (found p.view w))) ≡ Some a → reply p.view.subject.limits w.seen (length (found p.view w)) ≡ Some a
read_replies p w n r a more is f k = subst (λ (o : Option TiError). read_answer o (reply p.view.subject.limits w.seen (length (found p.view w))) ≡ Some a) (is ∙ not_refused (view p.view.subject.limits (found p.view w)) p.env p.view.subject.thread n f.stands) k

pub read_tells : (p : DeskState) (w : View) (n : ℤ) (a : Answer) (more : List Entry) → Finds p w more → Waits p.view w (Read p.env n ∷ []) → reply p.view.subject.limits w.seen (length (found p.view w)) ≡ Some a
    → TellsOf p.view.subject.limits p.view.seen more n a
read_tells p w n a more f k told =
    let limits = p.view.subject.limits in
    let at : Some (stack_of (view limits (found p.view w)) n) ≡ Some a =
    sym (reply_read limits (found p.view w) p.env n) ∙ ((λ i. reply limits (sym k.last i) (length (found p.view w))) ∙ told) in
    subst (λ (x : Answer). TellsOf limits p.view.seen more n x) (cc at) (tells_still limits p.view.seen more (found p.view w) n f.mode f.frames)

-- a read leaves the thread standing
pub read_stands : (p : DeskState) (w : View) (n : ℤ) (more : List Entry) → Finds p w more → Waits p.view w (Read p.env n ∷ []) → is_standing p.view.subject.limits w.seen p.env ≡ true
read_stands p w n more f k =
    let limits = p.view.subject.limits in
    let one = front_stays limits p.env (found p.view w) (Read p.env n ∷ []) (subst (λ (l : List Entry). is_legal limits l ≡ true) k.last k.goes.legal) f.stands refl in
    ap (λ (l : List Entry). is_standing limits l p.env) k.last ∙ one.stands

pub recount : (p : DeskState) (w : View) (r : Option TiError) (m n : ℤ) → m ≡ n → Waits p.view w (if_none r (Read p.env m ∷ [])) → Waits p.view w (if_none r (Read p.env n ∷ []))
recount p w r m n e k = subst (λ (x : ℤ). Waits p.view w (if_none r (Read p.env x ∷ []))) e k

pub desks_stay : DesksStay
desks_stay env old new number whole goes stands stays later =
    let more = made_by old.number later.0 in
    let mine : new.mine ≡ old.mine ++ more =
    goes.whole ∙ (ap (made_by old.number) later.1 ∙ (made-append old.number old.seen later.0 ∙ ap (λ (l : List Entry). l ++ more) (sym whole))) in
    let own : added old new ≡ made_by (env.0 + 1) later.0 = added_is old new more mine ∙ ap (λ (n : ℕ). made_by n later.0) number in
    front_stays_by_own old.subject.limits env old.seen new.seen goes.legal stands later (ap (lets_go env) (sym own) ∙ stays)

-- Tries

pub tries_added : {A B : Type 0} → (p q : DeskState) (m n : ℤ) (r : Result A B) → m ≡ n → IsSame p q → p.view.number ≡ p.env.0 + 1 → p.view.mine ≡ made_by p.view.number p.view.seen
    → is_standing p.view.subject.limits p.view.seen p.env ≡ true → OnOk r (Holds p.view q.view (if_none (read_refusal p q m) (Read p.env m ∷ []))) → OnOk r (HasAdded p q (Read p.env n ∷ []))
tries_added p q m n (Err b) e same number whole stands k = k
tries_added p q m n (Ok a) e same number whole stands k =
    let hold = recount p q.view _ m n e k.waits in
    let at = finds p q.view (Read p.env n) _ (omega arith) number whole hold stands in
    let w = read_holds p q.view n _ _ refl at hold in
    record { same = same; goes = w.goes; mine = w.mine; posted = w.posted }

pub tries_read : {A B : Type 0} → (p q : DeskState) (m n : ℤ) (r : Result A B) (f : A → Answer) → m ≡ n → p.view.number ≡ p.env.0 + 1 → p.view.mine ≡ made_by p.view.number p.view.seen
    → is_standing p.view.subject.limits p.view.seen p.env ≡ true → OnOk r (Holds p.view q.view (if_none (read_refusal p q m) (Read p.env m ∷ [])))
    → IfOk r (λ a. read_answer (read_refusal p q m) (reply p.view.subject.limits q.view.seen (length (found p.view q.view))) ≡ Some (f a)) → IfOk r (λ a. IsRead p q n (f a))
tries_read p q m n (Err b) f e number whole stands k told = told
tries_read p q m n (Ok a) f e number whole stands k told =
    let hold = recount p q.view _ m n e k.waits in
    let at = finds p q.view (Read p.env n) _ (omega arith) number whole hold stands in
    let w = read_holds p q.view n _ _ refl at hold in
    let replied = read_replies p q.view n _ (f a) _ refl at told in
    record { last = w.last; replied = replied; here = hold.here; tells = read_tells p q.view n (f a) _ at w replied; stands = read_stands p q.view n _ at w }
