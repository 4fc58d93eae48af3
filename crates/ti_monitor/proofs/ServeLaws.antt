-- Connections that are served: moves one after another, and the answers that are right.
use Rattle.std.specs.Prelude.{map}
use Rattle.std.specs.String.{string_bytes}
use Rattle.std.proofs.Common.{◌≡◌, ℕ, true, List, [], ◌∷◌, ◌++◌, Option, Some, None, refl, sym, ap, subst, inl, inr, ◌∙◌}
use Rattle.std.specs.Prelude.{is_some}
use Rattle.ti_http.specs.Answers.{code_of}
use Rattle.ti_http.specs.declared.answers.ContentType.{ContentType}
use Rattle.ti_http.specs.declared.answers.ContentType.TheVariants as content
use Rattle.ti_http.specs.declared.connection.Action.{Action}
use Rattle.ti_http.specs.declared.connection.Action.TheVariants as action
use Rattle.ti_http.specs.declared.head.Request.{Request}
use Rattle.ti_http.specs.declared.status.Status.{Status}
use Rattle.ti_http.specs.declared.status.Status.TheVariants as status
use Rattle.ti_http.specs.declared.target.Target.{Target}
use Rattle.ti_http.specs.Runs.{Answered, PeerEnded, Ticked, Told}
use Rattle.ti_http.specs.Talks.{Goes, Talk, answered_by, ended_by_peer, ticked}
use Rattle.ti_monitor.specs.declared.door_desk.Desk.{Desk}
use Rattle.ti_monitor.specs.declared.door_desk.Due.{Due}
use Rattle.ti_monitor.specs.declared.door_desk.Due.TheVariants as due
use Rattle.ti_monitor.specs.declared.door_seat.Seat.{Seat}
use Rattle.ti_monitor.specs.declared.monitor.ReadingNo.{ReadingNo}
use Rattle.ti_monitor.specs.Desks.{Keeps, SeatServes, ServesWith, at_seat, setting_of}
use Rattle.ti_monitor.specs.Door.{content_of, counted}
use Rattle.ti_monitor.specs.Seats.{postponed, profile_of, seconds_of}
use Rattle.ti_monitor.specs.Serving.{AtOnce, Books, Calls, Does, Hurried, IsAnswer, IsBodyOf, Leaves, MayTakeOut, Move, ReadingsGoOn, Response, Serves, ServesBy, Setting, Sitting, Starts, TakesOut, Turned, Turns, due_after, later_text, response, setting, sitting, told_in}

-- ---- moves

pub serves_one : (w : Setting) (old new : Sitting) (m : Move) → Does w old m new → Serves w old new
serves_one w old new m does = (m ∷ [], (new, does, refl))

serves_on : (w : Setting) (a b c : Sitting) (first more : List Move) → ServesBy w a first b → ServesBy w b more c → ServesBy w a (first ++ more) c
serves_on w a b c [] more one two = subst (λ (x : Sitting). ServesBy w x more c) (sym one) two
serves_on w a b c (m ∷ first) more one two = (one.0, one.1, serves_on w one.0 b c first more one.2 two)

pub serves_more : (w : Setting) (a b c : Sitting) → Serves w a b → Serves w b c → Serves w a c
serves_more w a b c one two = (one.0 ++ two.0, serves_on w a b c one.0 two.0 one.1 two.1)

-- what a desk tells stays
pub setting_same : (d d' : Desk) (n : ℕ) → Keeps d d' → setting_of d' n ≡ setting_of d n
setting_same d d' n keeps =
    ap (λ p. setting (string_bytes p) (string_bytes d'.version) n) keeps.program
    ∙ ap (λ v. setting (string_bytes d.monitor.program) (string_bytes v) n) keeps.version

-- the same setting, told by the desk that comes after
pub at_first : (d d' : Desk) (n : ℕ) (a b : Sitting) → Keeps d d' → Serves (setting_of d' n) a b → Serves (setting_of d n) a b
at_first d d' n a b keeps serves = subst (λ (w : Setting). Serves w a b) (setting_same d d' n keeps) serves

-- one serving after another
pub served_more : (s s' s'' : Seat) (d d' d'' : Desk) → Keeps d d' → SeatServes s d s' d' → SeatServes s' d' s'' d'' → SeatServes s d s'' d''
served_more s s' s'' d d' d'' keeps one two = λ n. serves_more (setting_of d n) (at_seat s d) (at_seat s' d') (at_seat s'' d'') (one n) (at_first d d' n _ _ keeps (two n))

pub served_with : (n : ℕ) (s s' s'' : Seat) (d d' d'' : Desk) → Keeps d d' → ServesWith n s d s' d' → ServesWith n s' d' s'' d'' → ServesWith n s d s'' d''
served_with n s s' s'' d d' d'' keeps one two = serves_more (setting_of d n) (at_seat s d) (at_seat s' d') (at_seat s'' d'') one (at_first d d' n _ _ keeps two)

-- ---- what is due

-- without memory for an answer, the request waits on
postpones : (w : Setting) (b b' : Books) (u : Option Due) (r : Response) → IsAnswer w b u r → Leaves u b b' → (v : Due) × (postponed u ≡ Some v) × Turns u b v b'
postpones w b b' None r answer left = absurd answer
postpones w b b' (Some (due.Reading request number)) r answer left = (due.Later request 1, refl, (refl, refl, inr left))
postpones w b b' (Some (due.Later request seconds)) r answer left = (due.Later request 1, refl, (refl, left, inl refl))

pub postponed_serves : (w : Setting) (t t' : Talk) (b b' : Books) (u u' : Option Due) (r : Response) → t' ≡ t → u' ≡ postponed u → IsAnswer w b u r → Leaves u b b'
    → Serves w (sitting t u b) (sitting t' u' b')
postponed_serves w t t' b b' u u' r same is answer left =
    let p = postpones w b b' u r answer left in
    serves_one w (sitting t u b) (sitting t' u' b') (Turned p.0) (same, is ∙ p.1, p.2)

-- an answer
pub answered_serves : (w : Setting) (t t' : Talk) (b between new : Books) (u u' : Option Due) (st : Status) (type : ContentType) (body : List ℕ) (now : ℕ)
    → answered_by t now st type body ≡ Some t' → u' ≡ None → IsAnswer w b u (response st type body) → Leaves u b between
    → new ≡ record between { rows = map (counted (code_of st)) between.rows } → Serves w (sitting t u b) (sitting t' u' new)
answered_serves w t t' b between new u u' st type body now step is answer left books =
    serves_one w (sitting t u b) (sitting t' u' new) (Calls (Answered st type body now)) (step, (is, answer, between, left, books))

-- time that comes to the client
pub later_answer : (w : Setting) (b : Books) (u : Option Due) (seconds : ℕ) → seconds_of u ≡ Some seconds
    → IsAnswer w b u (response (status.ServiceUnavailable seconds) content.Text later_text)
later_answer w b None seconds is = absurd (cc)
later_answer w b (Some (due.Reading request number)) seconds is = absurd (cc)
later_answer w b (Some (due.Later request s)) seconds is =
    let same : s ≡ seconds = cc in
    inl (ap (λ n. response (status.ServiceUnavailable n) content.Text later_text) (sym same))

pub later_leaves : (b : Books) (u : Option Due) (seconds : ℕ) → seconds_of u ≡ Some seconds → Leaves u b b
later_leaves b None seconds is = refl
later_leaves b (Some (due.Reading request number)) seconds is = absurd (cc)
later_leaves b (Some (due.Later request s)) seconds is = refl

-- a request that was just taken up
pub fresh_leaves : (b : Books) (u : Option Due) (request : Request) → u ≡ Some (due.Later request 1) → Leaves u b b
fresh_leaves b u request is = subst (λ (x : Option Due). Leaves x b b) (sym is) refl

fresh_answer : (w : Setting) (b : Books) (u : Option Due) (request : Request) (r : Response) → u ≡ Some (due.Later request 1) → AtOnce w b request.method request.target r → IsAnswer w b u r
fresh_answer w b u request r is answer = subst (λ (x : Option Due). IsAnswer w b x r) (sym is) (inr answer)

-- an answer at once to a target of this kind
pub at_once : (w : Setting) (b : Books) (u : Option Due) (request : Request) (t : Target) (r : Response) → u ≡ Some (due.Later request 1) → request.target ≡ t
    → AtOnce w b request.method t r → IsAnswer w b u r
at_once w b u request t r is same answer = fresh_answer w b u request r is (subst (λ (x : Target). AtOnce w b request.method x r) (sym same) answer)

-- a request that waits for something else from now on
pub turned_serves : (w : Setting) (t t' : Talk) (b b' : Books) (u u' : Option Due) (v : Due) → t' ≡ t → u' ≡ Some v → Turns u b v b' → Serves w (sitting t u b) (sitting t' u' b')
turned_serves w t t' b b' u u' v same is turns = serves_one w (sitting t u b) (sitting t' u' b') (Turned v) (same, is, turns)

-- what `ti_http` does by itself, time, the end of the peer, and a reading that ends then
pub told_serves : (w : Setting) (t t' : Talk) (b b' : Books) (u u' : Option Due) (act : Action) (now : ℕ) → Goes t now act t' → u' ≡ due_after act u → b' ≡ told_in t t' b
    → Serves w (sitting t u b) (sitting t' u' b')
told_serves w t t' b b' u u' act now goes is books = serves_one w (sitting t u b) (sitting t' u' b') (Calls (Told act now)) (goes, (is, books))

pub ticked_serves : (w : Setting) (t t' : Talk) (b b' : Books) (u u' : Option Due) (now : ℕ) → t' ≡ ticked t now → u' ≡ u → b' ≡ told_in t t' b
    → Serves w (sitting t u b) (sitting t' u' b')
ticked_serves w t t' b b' u u' now ticks is books = serves_one w (sitting t u b) (sitting t' u' b') (Calls (Ticked now)) (ticks, (is, books))

pub ended_serves : (w : Setting) (t t' : Talk) (b b' : Books) (u u' : Option Due) → t' ≡ ended_by_peer t → u' ≡ u → b' ≡ b → Serves w (sitting t u b) (sitting t' u' b')
ended_serves w t t' b b' u u' ends is books = serves_one w (sitting t u b) (sitting t' u' b') (Calls PeerEnded) (ends, (is, books))

pub hurried_serves : (w : Setting) (t : Talk) (b b' : Books) (u : Option Due) → is_some (profile_of u) ≡ true → ReadingsGoOn b b' → Serves w (sitting t u b) (sitting t u b')
hurried_serves w t b b' u is goes = serves_one w (sitting t u b) (sitting t u b') Hurried (refl, refl, is, goes)

-- ---- readings

pub reading_answer : (d d' : Desk) (n : ℕ) (b : Books) (u : Option Due) (request : Request) (number : ReadingNo) (kind : ContentType) (body : List ℕ) → u ≡ Some (due.Reading request number)
    → kind ≡ content_of request.target → Keeps d d' → IsBodyOf (string_bytes d.monitor.program) b.readings number request.target body
    → IsAnswer (setting_of d' n) b u (response status.Ok kind body)
reading_answer d d' n b u request number kind body is kinds keeps read =
    subst (λ (x : Option Due). IsAnswer (setting_of d' n) b x (response status.Ok kind body)) (sym is)
    (ap (λ (k : ContentType). response status.Ok k body) kinds, subst (λ p. IsBodyOf (string_bytes p) b.readings number request.target body) (sym keeps.program) read)

pub reading_leaves : (b b' : Books) (u : Option Due) (request : Request) (number : ReadingNo) → u ≡ Some (due.Reading request number) → TakesOut number b b' → Leaves u b b'
reading_leaves b b' u request number is left = subst (λ (x : Option Due). Leaves x b b') (sym is) left

-- no memory for what it gives
pub reading_lost : (w : Setting) (t : Talk) (b b' : Books) (u : Option Due) (request : Request) (number : ReadingNo) → u ≡ Some (due.Reading request number) → MayTakeOut number b b'
    → Serves w (sitting t u b) (sitting t (Some (due.Later request 1)) b')
reading_lost w t b b' u request number is lost =
    turned_serves w t t b b' u (Some (due.Later request 1)) (due.Later request 1) refl refl
    (subst (λ (x : Option Due). Turns x b (due.Later request 1) b') (sym is) (refl, refl, lost))

-- one that is begun for a request, or could not be
pub begun_serves : (w : Setting) (t : Talk) (b b' : Books) (u : Option Due) (request : Request) (v : Due) → u ≡ Some (due.Later request 1) → Starts request b v b'
    → Serves w (sitting t u b) (sitting t (Some v) b')
begun_serves w t b b' u request v is starts =
    turned_serves w t t b b' u (Some v) v refl refl (subst (λ (x : Option Due). Turns x b v b') (sym is) starts)

-- nothing else becomes due if no request is handed out
pub not_due : (a : Action) (u : Option Due) → ((r : Request) → a ≡ action.Ask r → ⊥) → u ≡ due_after a u
not_due (action.Ask r) u h = absurd (h r refl)
not_due action.Write u h = refl
not_due action.Close u h = refl
not_due action.Wait u h = refl
