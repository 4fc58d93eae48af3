-- While a session is served, no number names another text or table than before.
use Rattle.std.proofs.Common.{◌≡◌, ℕ, List, [], ◌∷◌, Option, Some, None, Result, Ok, Err, sym, subst, ap, inl, inr}
use Rattle.std.specs.List.{fold}
use Rattle.ti_jdwp.specs.declared.actions.Action.{Action}
use Rattle.ti_jdwp.specs.declared.actions.Action.TheVariants as action
use Rattle.ti_jdwp.specs.SessionRuns.{Call, Fed, PeerEnded, Shut, Went, Failed, Replied, Listed, PostedAs, Settled, PlacedAs, LocatedAs, StoppedAt, Written, Happened, Began, Died}
use Rattle.ti_jdwp.specs.Talks.{Talk, data_of}
use Rattle.ti_jdwp.specs.declared.request.Request.{Request}
use Rattle.ti_jdwp.specs.declared.variables.Value.{Value}
use Rattle.ti_jdwp.specs.declared.variables.Value.TheVariants as value
use Rattle.ti_debugger.specs.declared.desk.Desk.{Desk}
use Rattle.ti_debugger.specs.declared.due.Due.{Due}
use Rattle.ti_debugger.specs.declared.due.Due.TheVariants as due
use Rattle.ti_debugger.specs.declared.effects.Effect.{Effect}
use Rattle.ti_debugger.specs.declared.effects.Effect.TheVariants as effect
use Rattle.ti_debugger.specs.declared.objects.Kept.{Kept}
use Rattle.ti_debugger.specs.declared.objects.Objects.{Objects}
use Rattle.ti_debugger.specs.declared.seat.Seat.{Seat}
use Rattle.ti_debugger.specs.Debuggers.{DebuggerValue, Works}
use Rattle.ti_debugger.specs.Desks as desks
use Rattle.ti_debugger.specs.Effects.{left_by, told_value}
use Rattle.ti_debugger.specs.Kept.{Names}
use Rattle.ti_debugger.specs.Serving.{Forgets, Gives, Path, RepliesTo, Rests, Serves, Serving, Tries, Undertakes}
use Rattle.ti_debugger.proofs.KeptLaws.{names_again, names_all_disposed, names_left, names_same, names_told}

abbrev DeskNames : Desk → Desk → Type 0
DeskNames d e = Names d.objects.list.items e.objects.list.items

abbrev same_of : (d e : Desk) → e.objects ≡ d.objects → DeskNames d e
same_of d e is = subst (λ (o : Objects). Names d.objects.list.items o.list.items) (sym is) (names_same d.objects.list.items)

freed : (thread : ℕ) (d e : Desk) → Forgets thread d e → DeskNames d e
freed thread d e f = subst (λ (l : List Kept). Names d.objects.list.items l) (sym f.kept) (names_left thread d.objects.list.items)

undertaken : (a : Action) (d e : Desk) → Undertakes a d e → DeskNames d e
undertaken (action.Resume thread) d e u =
    subst (λ (o : Objects). Names d.objects.list.items o.list.items) (sym (ap (λ (x : Desk). x.objects) u.calls.rest)) (freed thread d u.freed u.forgets)
undertaken (action.LetGo thread) d e u = same_of d e (ap (λ (x : Desk). x.objects) u.rest)
undertaken (action.Ask request) d e u = same_of d e (ap (λ (x : Desk). x.objects) u)
undertaken action.ListThreads d e u = same_of d e (ap (λ (x : Desk). x.objects) u)
undertaken (action.Suspend thread) d e u = freed thread d e u
undertaken action.Settle d e u = same_of d e (ap (λ (x : Desk). x.objects) u)
undertaken (action.SetBreakpoint class method index) d e u = same_of d e (ap (λ (x : Desk). x.objects) u)
undertaken (action.Locate thread) d e u = same_of d e (ap (λ (x : Desk). x.objects) u)
undertaken action.Again d e u = same_of d e (ap (λ (x : Desk). x.objects) u)
undertaken action.Write d e u = same_of d e (ap (λ (x : Desk). x.objects) u)
undertaken action.Close d e u = same_of d e (ap (λ (x : Desk). x.objects) u)
undertaken action.Wait d e u = same_of d e (ap (λ (x : Desk). x.objects) u)

-- what a reply does to them
value_told : (v : Value) (list : List Kept) → Names list (told_value list v)
value_told value.Nil list = names_same list
value_told (value.Boolean is) list = names_same list
value_told (value.Integer number) list = names_same list
value_told (value.Number bits) list = names_same list
value_told (value.Text n) list = names_told n 1 list
value_told (value.Table n) list = names_told n 1 list

values_told : (values : List Value) (list : List Kept) → Names list (fold told_value list values)
values_told [] list = names_same list
values_told (v ∷ values) list = names_again list (told_value list v) (fold told_value (told_value list v) values) (value_told v list) (values_told values (told_value list v))

taken : (x : Effect) (list : List Kept) → Names list (left_by x list)
taken effect.Nothing list = names_same list
taken (effect.Values values) list = values_told values.items list
taken (effect.Entries first count) list = names_told first count list
taken (effect.Disposed which) list = names_all_disposed which.items list

replied : (request : Request) (bytes : List ℕ) (a : Result (List ℕ) ℕ) (d e f : Desk) → RepliesTo request bytes a d e f → DeskNames e f
replied request bytes (Ok body) d e f r = subst (λ (l : List Kept). Names e.objects.list.items l) (sym r.3.left) (taken r.1 e.objects.list.items)
replied request bytes (Err error) d e f r = same_of e f (ap (λ (x : Desk). x.objects) r)

given : (now : ℕ) (t : Talk) (u : Option Due) (d e : Desk) (c : Call) → Gives now t u d c e → DeskNames d e
given now t u d e (Replied a) g =
    subst (λ (o : Objects). Names o.list.items e.objects.list.items) (ap (λ (x : Desk). x.objects) g.4) (replied g.0 (data_of t.first t.bytes.input) a d g.1 e g.3)
given now t u d e (Listed threads) g = same_of d e (ap (λ (x : Desk). x.objects) g.2)
given now t u d e (PostedAs posted) g = same_of d e (ap (λ (x : Desk). x.objects) g.2.2)
given now t u d e Settled g = same_of d e (ap (λ (x : Desk). x.objects) g.2.1.rest)
given now t u d e (PlacedAs placed) g = same_of d e (ap (λ (x : Desk). x.objects) g.3)
given now t u d e (LocatedAs standing) g = same_of d e (ap (λ (x : Desk). x.objects) g.3)
given now t u d e (Went act) g = absurd g
given now t u d e Failed g = absurd g
given now t u d e (Fed bytes) g = absurd g
given now t u d e PeerEnded g = absurd g
given now t u d e Shut g = absurd g
given now t u d e (Written count) g = absurd g
given now t u d e (StoppedAt x verdict) g = absurd g
given now t u d e (Happened event occurrence is_told) g = absurd g
given now t u d e (Began thread is_told) g = absurd g
given now t u d e (Died is_told) g = absurd g

given_on : (d given e : Desk) → DeskNames d given → e.objects ≡ given.objects → DeskNames d e
given_on d given e names same = subst (λ (o : Objects). Names d.objects.list.items o.list.items) (sym same) names

served : (now : ℕ) (t : Talk) (u v : Option Due) (d e : Desk) (c : Call) → Serves now t u d c v e → DeskNames d e
served now t u v d e (Went act) s = undertaken act d e s.2
served now t u v d e Failed s = same_of d e (ap (λ (x : Desk). x.objects) s.1)
served now t u v d e (Replied a) s = given_on d s.0 e (given now t u d s.0 (Replied a) s.1) (ap (λ (x : Desk). x.objects) s.3)
served now t u v d e (Listed threads) s = given_on d s.0 e (given now t u d s.0 (Listed threads) s.1) (ap (λ (x : Desk). x.objects) s.3)
served now t u v d e (PostedAs posted) s = given_on d s.0 e (given now t u d s.0 (PostedAs posted) s.1) (ap (λ (x : Desk). x.objects) s.3)
served now t u v d e Settled s = given_on d s.0 e (given now t u d s.0 Settled s.1) (ap (λ (x : Desk). x.objects) s.3)
served now t u v d e (PlacedAs placed) s = given_on d s.0 e (given now t u d s.0 (PlacedAs placed) s.1) (ap (λ (x : Desk). x.objects) s.3)
served now t u v d e (LocatedAs standing) s = given_on d s.0 e (given now t u d s.0 (LocatedAs standing) s.1) (ap (λ (x : Desk). x.objects) s.3)
served now t u v d e (Fed bytes) s = absurd s.1
served now t u v d e PeerEnded s = absurd s.1
served now t u v d e Shut s = absurd s.1
served now t u v d e (Written count) s = absurd s.1
served now t u v d e (StoppedAt x verdict) s = absurd s.1
served now t u v d e (Happened event occurrence is_told) s = absurd s.1
served now t u v d e (Began thread is_told) s = absurd s.1
served now t u v d e (Died is_told) s = absurd s.1

went : (now : ℕ) (t t' : Talk) (u u' : Option Due) (d f : Desk) (calls : List Call) → Path now t u d calls t' u' f → DeskNames d f
went now t t' u u' d f [] p = same_of d f (ap (λ (x : Desk). x.objects) (sym p.2))
went now t t' u u' d f (c ∷ calls) p =
    names_again d.objects.list.items p.2.objects.list.items f.objects.list.items (served now t u p.1 d p.2 c p.4) (went now p.0 t' p.1 u' p.2 f calls p.5)

tried : (x : Due) (d e : Desk) → Tries x d e → e.objects ≡ d.objects
tried (due.Answer request) d e r = ap (λ (y : Desk). y.objects) r
tried due.List d e r = ap (λ (y : Desk). y.objects) r
tried (due.Post thread) d e r = ap (λ (y : Desk). y.objects) r.1.2
tried due.Settle d e r = ap (λ (y : Desk). y.objects) r.1.rest
tried (due.Place spot) d e r = ap (λ (y : Desk). y.objects) r
tried (due.Locate thread) d e r = ap (λ (y : Desk). y.objects) r

rested : (u : Option Due) (d e : Desk) → Rests u d e → e.objects ≡ d.objects
rested None d e r = ap (λ (y : Desk). y.objects) r
rested (Some x) d e (inl same) = ap (λ (y : Desk). y.objects) same
rested (Some x) d e (inr tries) = tried x d e tries

pub serving_names : (now : ℕ) (t t' : Talk) (u u' : Option Due) (d f : Desk) → Serving now t u d t' u' f → Names d.objects.list.items f.objects.list.items
serving_names now t t' u u' d f s =
    subst (λ (o : Objects). Names d.objects.list.items o.list.items) (sym (rested u' s.0 f s.2)) (went now t t' u u' d s.0 s.1.0 s.1.1)

-- what a call leaves of a desk, as contracts see it
pub works_on : (old : DebuggerValue) (seat seat' : Option Seat) (d e : Desk) → desks.debugger_of seat d ≡ old → desks.Works d e → Names d.objects.list.items e.objects.list.items
    → Works old (desks.debugger_of seat' e)
works_on old seat seat' d e is works same = subst (λ (v : DebuggerValue). Works v (desks.debugger_of seat' e)) is (record {
  classes = works.classes;
  resumptions = works.resumptions;
  about = works.about;
  starts = works.starts;
  tells = works.tells;
  numbers = works.numbers;
  same = same;
})
