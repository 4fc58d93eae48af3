-- An agent's desks stay at the threads of its service.
use Rattle.std.proofs.Common.{◌≡◌, ◌==◌, ◌&&◌, ◌<◌, Bool, true, false, eq-eqb, ℕ, List, [], ◌∷◌, ◌++◌, refl, ap, sym, ◌∙◌, subst, append-nil, append_assoc, Some}
use Rattle.std.specs.Prelude.{All, slice_get}
use Rattle.std.specs.List.{fold}
use Rattle.std.proofs.lemmas.List.Sums.{fold-append}
use Rattle.atomic_table.specs.Seated.{TableId}
use Rattle.ti_types.specs.declared.numbers.ThreadNo.{ThreadNo}
use Rattle.std.proofs.lemmas.List.Elements.{All-pop, All-weaker}
use Rattle.ti_types.specs.declared.limits.Limits.{Limits}
use Rattle.ti_types.specs.declared.numbers.EnvNo.{EnvNo}
use Rattle.ti_types.specs.declared.error.TiError.{TiError}
use Rattle.ti_types.specs.declared.error.TiError.TheVariants.{IllegalArgument, InvalidEnvironment, OutOfMemory}
use Rattle.ti_types.specs.Refusing.{or_else, unless}
use Rattle.ti_env.specs.Env.{place_refusal}
use Rattle.ti_agent.specs.Desks.{are_same, desk_refusal, is_new}
use Rattle.ti_agent.proofs.SameLimits.{limits_same}
use Rattle.ti_agent.specs.Env.{Environment}
use Rattle.ti_agent.specs.FreeDesk.{FreeState}
use Rattle.ti_roster.specs.declared.coming.Coming.{Coming}
use Rattle.ti_roster.specs.declared.coming.Coming.TheVariants.{Came, Started, Ended, Left, Attached, Met, GaveBack, Disposed, Stop}
use Rattle.ti_roster.specs.declared.newcomer.Newcomer.{Newcomer}
use Rattle.ti_roster.specs.declared.view.RosterView.{RosterView}
use Rattle.ti_roster.specs.Log.{came, came_after}
use Rattle.ti_roster.specs.Roster.{IsOwn, meeting}
use Rattle.ti_roster.specs.Rows.{IsAt}
use Rattle.ti_roster.specs.Rule.{Begins}
use Rattle.ti_service.specs.declared.event.EventModes.{EventModes}
use Rattle.ti_service.specs.Agent.{AgentState}
use Rattle.ti_agent.specs.Spots.{spots_of}
use Rattle.ti_service.specs.Homes.{AreOurs, AreOursOf, HasCome, IsHomeOf}
use Rattle.ti_roster.proofs.Places.{get_front, get_within}
use Rattle.ti_service.specs.Service.{Holds, Member, TakesDesks, TellsNews, with_look}
use Rattle.ti_service.specs.Telling.{no_events}

-- Threads that came

-- who has come stays where it is among those that came
come_at : (l : List Newcomer) (more : List Coming) (i : ℕ) (n : Newcomer) → slice_get l i ≡ Some n → slice_get (fold came_after l more) i ≡ Some n
come_at l [] i n at = at
come_at l (Came m ∷ more) i n at = come_at (l ++ m ∷ []) more i n (get_front l (m ∷ []) i (get_within l i n at) ∙ at)
come_at l (Started t ∷ more) i n at = come_at l more i n at
come_at l (Ended t ∷ more) i n at = come_at l more i n at
come_at l (Left t ∷ more) i n at = come_at l more i n at
come_at l (Attached e ∷ more) i n at = come_at l more i n at
come_at l (Met e m ∷ more) i n at = come_at l more i n at
come_at l (GaveBack e t ∷ more) i n at = come_at l more i n at
come_at l (Disposed e ∷ more) i n at = come_at l more i n at
come_at l (Stop e call ∷ more) i n at = come_at l more i n at

-- and has come when more has happened
pub come_later : (seen later : List Coming) (t : ThreadNo) (cell : TableId) → Begins later seen → IsAt t cell seen → IsAt t cell later
come_later seen later t cell b at = (
  at.0,
  ap (λ (l : List Coming). slice_get (came l) t.0) b.1 ∙ (ap (λ (l : List Newcomer). slice_get l t.0) (fold-append came_after [] seen b.0) ∙ come_at (came seen) b.0 t.0 at.0 at.1),
  at.2,
)

pub own_later : (seen later : List Coming) (limits : Limits) (e : EnvNo) (f : FreeState) → Begins later seen → IsOwn seen limits e f → IsOwn later limits e f
own_later seen later limits e f b o = record { at = come_later seen later f.desk.view.subject.thread f.desk.cell b o.at; env = o.env; limits_are = o.limits_are; clean = o.clean }

-- An agent's desks

abbrev pub agent_of : Member → Environment → List FreeState → AgentState
agent_of service env waiting = record { service = service; env = env; waiting = waiting; events = no_events; unmet = false }

-- with the events that it is told, and whether its last meeting failed
abbrev pub agent_with : Member → Environment → List FreeState → EventModes → Bool → AgentState
agent_with service env waiting events unmet = record { service = service; env = env; waiting = waiting; events = events; unmet = unmet }

-- the handle has seen more
pub ours_later : (old new : Member) (env : Environment) (waiting : List FreeState) → Begins new.view.seen old.view.seen → new.view.place ≡ old.view.place → new.view.limits ≡ old.view.limits → AreOurs (agent_of old env waiting) → AreOurs (agent_of new env waiting)
ours_later old new env waiting b place limits o = record {
  place = place ∙ o.place;
  there = subst (λ (l : Limits). env.env.0 < l.envs) (sym limits) o.there;
  limits = o.limits ∙ sym limits;
  homes = All-weaker (HasCome old.view.seen) (HasCome new.view.seen) (λ h c. come_later old.view.seen new.view.seen h.thread h.cell b c) (spots_of env.desks) o.homes;
  waiting = subst (λ (l : Limits). All (IsOwn new.view.seen l env.env) waiting) (sym limits)
      (All-weaker (IsOwn old.view.seen old.view.limits env.env) (IsOwn new.view.seen old.view.limits env.env) (λ f c. own_later old.view.seen new.view.seen old.view.limits env.env f b c) waiting o.waiting);
}

-- Desks that wait: the last one, and the others
pub last_ours : (service : Member) (env : Environment) (all rest : List FreeState) (f : FreeState) → all ≡ rest ++ f ∷ [] → AreOurs (agent_of service env all) → All (IsOwn service.view.seen service.view.limits env.env) rest × IsOwn service.view.seen service.view.limits env.env f
last_ours service env all rest f is o = All-pop (IsOwn service.view.seen service.view.limits env.env) all rest (Some f) is o.waiting

-- it may be added
last_limits : (service : Member) (env : Environment) (all rest : List FreeState) (f : FreeState) → all ≡ rest ++ f ∷ [] → AreOurs (agent_of service env all) → f.desk.view.subject.limits ≡ env.state.limits
last_limits service env all rest f is o = (last_ours service env all rest f is o).1.limits_are ∙ sym o.limits

-- if it is not, its number is not new, the environment has no place for it, or there is no memory
pub why_not : (service : Member) (env : Environment) (all rest : List FreeState) (f : FreeState) (e : TiError) → all ≡ rest ++ f ∷ [] → AreOurs (agent_of service env all)
    → Some e ≡ or_else (desk_refusal env f) (Some OutOfMemory) → Some e ≡ or_else (or_else (unless (is_new env f.desk.view.subject.thread) IllegalArgument) (place_refusal env.state)) (Some OutOfMemory)
why_not service env all rest f e is o told =
    let number : f.desk.env.0 ≡ env.env.0 = ap (λ (x : EnvNo). x.0) (last_ours service env all rest f is o).1.env in
    let its_own : (f.desk.env.0 == env.env.0) ≡ true = eq-eqb f.desk.env.0 env.env.0 number in
    let alike : are_same f.desk.view.subject.limits env.state.limits ≡ true = limits_same f.desk.view.subject.limits env.state.limits (last_limits service env all rest f is o) in
    let fits : (f.desk.env.0 == env.env.0 && are_same f.desk.view.subject.limits env.state.limits) ≡ true = (λ i. its_own i && alike i) in
    told ∙ ap (λ (b : Bool). or_else (or_else (unless b InvalidEnvironment) (or_else (unless (is_new env f.desk.view.subject.thread) IllegalArgument) (place_refusal env.state))) (Some OutOfMemory)) fits

-- a look: the handle has seen what it had seen
pub looked_at : (old new : Member) (env : Environment) (waiting : List FreeState) (news : Bool) → TellsNews old new news → AreOurs (agent_of old env waiting) → AreOurs (agent_of new env waiting)
looked_at old new env waiting news h o =
    subst (λ (m : Member). AreOurs (agent_of m env waiting)) (sym h.new_is) (ours_later old (with_look old h.count) env waiting ([], sym (append-nil old.view.seen)) refl refl o)

-- A hold of the roster: the handle has seen more, and keeps its place

pub holds_ours : (old new : Member) (env : Environment) (waiting : List FreeState) (found more : List Coming) → Holds old.view new.view found more → AreOurs (agent_of old env waiting) → AreOurs (agent_of new env waiting)
holds_ours old new env waiting found more h o =
    ours_later old new env waiting (h.begins.0 ++ more, ap (λ (v : RosterView). v.seen) h.new_is ∙ (ap (λ (l : List Coming). l ++ more) h.begins.1 ∙ append_assoc old.view.seen h.begins.0 more))
    (ap (λ (v : RosterView). v.place) h.new_is) (ap (λ (v : RosterView). v.limits) h.new_is) o

-- each desk that was taken is at the cell of a thread that came
pub taken_ours : (old new : RosterView) (desks : List FreeState) (next : ℕ) (t : TakesDesks old new desks next) → All (IsOwn new.seen new.limits t.env) desks
taken_ours old new desks next t =
    let same : new.limits ≡ old.limits = ap (λ (v : RosterView). v.limits) t.hold.new_is in
    let more : Begins new.seen t.found = (meeting t.env t.found, ap (λ (v : RosterView). v.seen) t.hold.new_is) in
    subst (λ (l : Limits). All (IsOwn new.seen l t.env) desks) (sym same)
    (All-weaker (IsOwn t.found old.limits t.env) (IsOwn new.seen old.limits t.env) (λ f c. own_later t.found new.seen old.limits t.env f more c) desks t.own)

-- and they wait now, in any order
pub ours_took : (old new : Member) (env : Environment) (waiting desks now : List FreeState) (next : ℕ) → TakesDesks old.view new.view desks next → (All (IsOwn new.view.seen new.view.limits env.env) desks → All (IsOwn new.view.seen new.view.limits env.env) now) → AreOurs (agent_of old env waiting)
    → AreOurs (agent_of new env now)
ours_took old new env waiting desks now next t turn o =
    let k : AreOurs (agent_of new env waiting) = holds_ours old new env waiting t.found (meeting t.env t.found) t.hold o in
    let same : t.env ≡ env.env = some_env t.env env.env (sym t.place ∙ o.place) in
    record {
      place = k.place;
      there = k.there;
      limits = k.limits;
      homes = k.homes;
      waiting = turn (subst (λ (e : EnvNo). All (IsOwn new.view.seen new.view.limits e) desks) same (taken_ours old.view new.view desks next t));
    }
  where
    some_env : (x y : EnvNo) → Some x ≡ Some y → x ≡ y
    some_env x y e = cc

-- The two parts of it

pub ours_of : (service : Member) (env : Environment) (waits : List FreeState) → IsHomeOf service waits env.env env.state.limits → All (HasCome service.view.seen) (spots_of env.desks) → AreOursOf service env waits
ours_of service env waits h at = record { place = h.0; there = h.1; limits = h.2; homes = at; waiting = h.3 }

pub home_of_ours : (service : Member) (env : Environment) (waits : List FreeState) → AreOursOf service env waits → IsHomeOf service waits env.env env.state.limits × All (HasCome service.view.seen) (spots_of env.desks)
home_of_ours service env waits o = ((o.place, o.there, o.limits, o.waiting), o.homes)

-- a hold of the roster, at home
pub held_home : (old new : Member) (env : Environment) (waits : List FreeState) (found more : List Coming) → Holds old.view new.view found more → IsHomeOf old waits env.env env.state.limits × All (HasCome old.view.seen) (spots_of env.desks)
    → IsHomeOf new waits env.env env.state.limits × All (HasCome new.view.seen) (spots_of env.desks)
held_home old new env waits found more h k = home_of_ours new env waits (holds_ours old new env waits found more h (ours_of old env waits k.0 k.1))
