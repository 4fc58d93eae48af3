-- A session that is served: by one call, and by more.
use Rattle.std.proofs.Common.{◌≡◌, ℕ, Bool, true, false, ◌&&◌, List, [], ◌∷◌, ◌++◌, Option, Some, None, Result, Ok, Err, refl, sym, subst, ap, inl, ◌∙◌}
use Rattle.std.specs.Prelude.{IfNone, IfOk}
use Rattle.std.specs.List.{list_all}
use Rattle.ti_jdwp.specs.declared.actions.Action.{Action}
use Rattle.ti_jdwp.specs.declared.request.Request.{Request}
use Rattle.ti_jdwp.specs.declared.session_error.SessionError.{SessionError}
use Rattle.ti_jdwp.specs.declared.session_error.SessionError.TheVariants.{NotAsked}
use Rattle.ti_jdwp.specs.Answered.{is_asked}
use Rattle.ti_jdwp.specs.SessionRuns.{Call, Runs, taken, Fed, PeerEnded, Shut, Went, Failed, Replied, Listed, PostedAs, Settled, PlacedAs, LocatedAs, StoppedAt, Written, Happened, Began, Died}
use Rattle.ti_jdwp.specs.Steps.{Goes, Fails}
use Rattle.ti_jdwp.specs.Talks.{Talk, data_of, replied}
use Rattle.ti_debugger.specs.declared.asked.Asked.TheVariants.{Nothing}
use Rattle.ti_debugger.specs.declared.desk.Desk.{Desk}
use Rattle.ti_debugger.specs.declared.due.Due.{Due}
use Rattle.ti_debugger.specs.declared.due.Due.TheVariants.{Answer}
use Rattle.ti_debugger.specs.declared.seat.Todo.{Todo}
use Rattle.ti_debugger.specs.Effects.{IsEffectOf, Takes}
use Rattle.ti_debugger.specs.Replies.{IsBodyOf}
use Rattle.ti_debugger.specs.declared.effects.Effect.{Effect}
use Rattle.ti_debugger.specs.Runs.{RunsTo, is_agents}
use Rattle.ti_debugger.proofs.RunLaws.{asked_of}
use Rattle.ti_debugger.specs.Serving.{Comes, Given, Gives, Going, Path, Rests, Serves, Serving, Undertakes, due_by}

-- nothing is left to be tried
rests_same : (u : Option Due) (d : Desk) → Rests u d d
rests_same None d = refl
rests_same (Some x) d = inl refl

pub going_on : (now : ℕ) (t : Talk) (u : Option Due) (d : Desk) → Going now t u d t u d
going_on now t u d = ([], (refl, refl, refl))

pub going_serves : (now : ℕ) (t m : Talk) (u v : Option Due) (d e : Desk) → Going now t u d m v e → Serving now t u d m v e
going_serves now t m u v d e goes = (e, goes, rests_same v e)

-- nothing is done
pub serving_idle : (now : ℕ) (t : Talk) (u : Option Due) (d : Desk) → Serving now t u d t u d
serving_idle now t u d = going_serves now t t u u d d (going_on now t u d)

-- the session goes on
pub going_went : (now : ℕ) (t m : Talk) (u v : Option Due) (d e : Desk) (a : Action) → Goes t a m → u ≡ None → v ≡ due_by a u → Undertakes a d e → Going now t u d m v e
going_went now t m u v d e a goes none due does = (Went a ∷ [], (m, v, e, goes, (none, due, does), (refl, refl, refl)))

pub going_failed : (now : ℕ) (t m : Talk) (u : Option Due) (d : Desk) → Fails t m → Going now t u d m u d
going_failed now t m u d fails = (Failed ∷ [], (m, u, d, fails, (refl, refl), (refl, refl, refl)))

-- what was due is given, and the runtime is asked no more
gives_serves : (now : ℕ) (t : Talk) (u v : Option Due) (d given e : Desk) (c : Call) → Gives now t u d c given → v ≡ None → e ≡ record given { asked = Nothing } → Serves now t u d c v e
gives_serves now t u v d given e (Replied a) gives none is = (given, gives, none, is)
gives_serves now t u v d given e (Listed threads) gives none is = (given, gives, none, is)
gives_serves now t u v d given e (PostedAs posted) gives none is = (given, gives, none, is)
gives_serves now t u v d given e Settled gives none is = (given, gives, none, is)
gives_serves now t u v d given e (PlacedAs placed) gives none is = (given, gives, none, is)
gives_serves now t u v d given e (LocatedAs standing) gives none is = (given, gives, none, is)
gives_serves now t u v d given e (Went act) gives none is = absurd gives
gives_serves now t u v d given e Failed gives none is = absurd gives
gives_serves now t u v d given e (Fed bytes) gives none is = absurd gives
gives_serves now t u v d given e PeerEnded gives none is = absurd gives
gives_serves now t u v d given e Shut gives none is = absurd gives
gives_serves now t u v d given e (Written count) gives none is = absurd gives
gives_serves now t u v d given e (StoppedAt x verdict) gives none is = absurd gives
gives_serves now t u v d given e (Happened event occurrence is_told) gives none is = absurd gives
gives_serves now t u v d given e (Began thread is_told) gives none is = absurd gives
gives_serves now t u v d given e (Died is_told) gives none is = absurd gives

pub going_given : (now : ℕ) (x : Due) (t m : Talk) (u v : Option Due) (d given e : Desk) → u ≡ Some x → v ≡ None → Given {E = SessionError} now x t d m given (Ok true) → e ≡ record given { asked = Nothing }
    → Going now t u d m v e
going_given now x t m u v d given e due none gave is =
    let gives = subst (λ (o : Option Due). Gives now t o d gave.0 given) (sym due) gave.2 in
    (gave.0 ∷ [], (m, v, e, gave.1, gives_serves now t u v d given e gave.0 gives none is, (refl, refl, refl)))

-- nothing was given
pub rests_serves : (now : ℕ) (t m : Talk) (u v : Option Due) (d e : Desk) → m ≡ t → v ≡ u → Rests u d e → Serving now t u d m v e
rests_serves now t m u v d e is due rests = (d, ([], (sym is, sym due, refl)), subst (λ (o : Option Due). Rests o d e) (sym due) rests)

path_on : (now : ℕ) (t m t' : Talk) (u v u' : Option Due) (d e f : Desk) (first more : List Call) → Path now t u d first m v e → Path now m v e more t' u' f → Path now t u d (first ++ more) t' u' f
path_on now t m t' u v u' d e f [] more a b =
    subst (λ (x : Desk). Path now t u x more t' u' f) (sym a.2) (subst (λ (o : Option Due). Path now t o e more t' u' f) (sym a.1) (subst (λ (x : Talk). Path now x v e more t' u' f) (sym a.0) b))
path_on now t m t' u v u' d e f (c ∷ first) more a b = (a.0, a.1, a.2, a.3, a.4, path_on now a.0 m t' a.1 v u' a.2 e f first more a.5 b)

pub going_more : (now : ℕ) (t m t' : Talk) (u v u' : Option Due) (d e f : Desk) → Going now t u d m v e → Going now m v e t' u' f → Going now t u d t' u' f
going_more now t m t' u v u' d e f a b = (a.0 ++ b.0, path_on now t m t' u v u' d e f a.0 b.0 a.1 b.1)

pub serving_more : (now : ℕ) (t m t' : Talk) (u v u' : Option Due) (d e f : Desk) → Going now t u d m v e → Serving now m v e t' u' f → Serving now t u d t' u' f
serving_more now t m t' u v u' d e f a b = (b.0, going_more now t m t' u v u' d e b.0 a b.1, b.2)

-- a session is served by its agent's calls alone, and nothing goes over the socket meanwhile
agents : (now : ℕ) (t : Talk) (u v : Option Due) (d e : Desk) (c : Call) → Serves now t u d c v e → (is_agents c ≡ true) × (taken t c ≡ [])
agents now t u v d e (Went act) s = (refl, refl)
agents now t u v d e Failed s = (refl, refl)
agents now t u v d e (Replied a) s = (refl, refl)
agents now t u v d e (Listed threads) s = (refl, refl)
agents now t u v d e (PostedAs posted) s = (refl, refl)
agents now t u v d e Settled s = (refl, refl)
agents now t u v d e (PlacedAs placed) s = (refl, refl)
agents now t u v d e (LocatedAs standing) s = (refl, refl)
agents now t u v d e (Fed bytes) s = absurd s.1
agents now t u v d e PeerEnded s = absurd s.1
agents now t u v d e Shut s = absurd s.1
agents now t u v d e (Written count) s = absurd s.1
agents now t u v d e (StoppedAt x verdict) s = absurd s.1
agents now t u v d e (Happened event occurrence is_told) s = absurd s.1
agents now t u v d e (Began thread is_told) s = absurd s.1
agents now t u v d e (Died is_told) s = absurd s.1

path_runs : (now : ℕ) (t t' : Talk) (u u' : Option Due) (d f : Desk) (calls : List Call) → Path now t u d calls t' u' f → (list_all is_agents calls ≡ true) × Runs t calls [] t'
path_runs now t t' u u' d f [] p = (refl, (p.0, refl))
path_runs now t t' u u' d f (c ∷ calls) p =
    let own = agents now t u p.1 d p.2 c p.4 in
    let rest = path_runs now p.0 t' p.1 u' p.2 f calls p.5 in
    (ap (λ (b : Bool). b && list_all is_agents calls) own.0 ∙ rest.0, (p.0, [], p.3, ap (λ (xs : List ℕ). xs ++ []) (sym own.1), rest.1))

pub serving_runs : (now : ℕ) (t t' : Talk) (u u' : Option Due) (d f : Desk) → Serving now t u d t' u' f → RunsTo t t'
serving_runs now t t' u u' d f s =
    let p = path_runs now t t' u u' d s.0 s.1.0 s.1.1 in
    (s.1.0, p.0, p.1)

-- a request that was asked is replied to
pub given_reply : (now : ℕ) (request : Request) (t m : Talk) (body : List ℕ) (d e f : Desk) (x : Effect) (r : Result (Unit {0}) SessionError) (y : Unit {0}) → r ≡ Ok y → m ≡ replied t (Ok body)
    → (is_asked t.phase ≡ false → r ≡ Err NotAsked) → IsBodyOf request (data_of t.first t.bytes.input) d e body → IsEffectOf request (data_of t.first t.bytes.input) e x → Takes x e f
    → e ≡ record d { agent = e.agent; asked = e.asked } → Given {E = SessionError} now (Answer request) t d m f (Ok true)
given_reply now request t m body d e f x r y was ok asked is does takes rest = (Replied (Ok body), (asked_of r (is_asked t.phase) y was asked, ok), (request, e, refl, (is, x, does, takes), rest))

pub given_error : (now : ℕ) (request : Request) (t m : Talk) (error : ℕ) (d e : Desk) (r : Result (Unit {0}) SessionError) (x : Unit {0}) → r ≡ Ok x → m ≡ replied t (Err error)
    → (is_asked t.phase ≡ false → r ≡ Err NotAsked) → e ≡ record d { agent = e.agent; asked = e.asked } → Given {E = SessionError} now (Answer request) t d m e (Ok true)
given_error now request t m error d e r x was ok asked rest = (Replied (Err error), (asked_of r (is_asked t.phase) x was asked, ok), (request, e, refl, refl, rest))

-- nothing is due any more
pub ready_none : (now : ℕ) (t m : Talk) (u v : Option Due) (d e : Desk) (b : Bool) → b ≡ true → Comes {E = SessionError} now t u d m v e (Ok b) → v ≡ None
ready_none now t m u v d e b is came = (subst (λ (b : Bool). Comes {E = SessionError} now t u d m v e (Ok b)) is came).0

pub ready_goes : (now : ℕ) (t m : Talk) (u v : Option Due) (d e : Desk) (b : Bool) → b ≡ true → Comes {E = SessionError} now t u d m v e (Ok b) → Going now t u d m v e
ready_goes now t m u v d e b is came = (subst (λ (b : Bool). Comes {E = SessionError} now t u d m v e (Ok b)) is came).1

-- what is due is due still
pub not_ready : (now : ℕ) (t m : Talk) (u v : Option Due) (d e : Desk) (b : Bool) → b ≡ false → Comes {E = SessionError} now t u d m v e (Ok b) → Serving now t u d m v e
not_ready now t m u v d e b is came =
    let rests = subst (λ (b : Bool). Comes {E = SessionError} now t u d m v e (Ok b)) is came in
    rests_serves now t m u v d e rests.0 rests.1 rests.2

-- what holds in any case, and what holds if there is more to do
pub more_always : (P : Type 0) (r : Result (Option Todo) SessionError) → P → IfOk r (λ o. IfNone o P)
more_always P (Ok None) p = p
more_always P (Ok (Some todo)) p = tt
more_always P (Err e) p = tt

pub if_more : (P : Type 0) (o : Option Todo) → o ≡ None → IfNone o P → P
if_more P o none h = subst (λ (o : Option Todo). IfNone o P) none h
