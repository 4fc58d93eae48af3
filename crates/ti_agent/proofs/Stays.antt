-- What a trace of several threads leaves: an environment's desks are where they were.
use Rattle.std.proofs.Common.{◌≡◌, ℕ, suc, ℤ, Bool, true, false, inl, inr, List, [], ◌∷◌, length, refl, ap, sym, subst, ◌∙◌, arith, Some}
use Rattle.std.specs.Prelude.{take, slice_get}
use Rattle.std.specs.List.{All}
use Rattle.std.proofs.lemmas.List.Elements.{All-head}
use Rattle.ti_types.specs.declared.entry.Entry.{Entry}
use Rattle.ti_types.specs.declared.entry.Entry.TheVariants.{Stop, Read, Go}
use Rattle.ti_types.specs.declared.limits.Limits.{Limits}
use Rattle.ti_types.specs.declared.numbers.EnvNo.{EnvNo}
use Rattle.ti_types.specs.declared.numbers.ThreadNo.{ThreadNo}
use Rattle.ti_types.specs.declared.stack.StackInfo.{StackInfo}
use Rattle.ti_env.specs.Env.{EnvValue, with_spent}
use Rattle.ti_handshake.specs.Desk.{DeskState}
use Rattle.ti_vmop.specs.Tries.{AtDeskOf}
use Rattle.ti_vmop.specs.Turns.{AtDesk, AtEach, Listed, is_listed, spend_all}
use Rattle.ti_vmop.specs.declared.global_stops.Round.{Round}
use Rattle.ti_agent.specs.Env.{Environment}
use Rattle.ti_agent.specs.Gathering.{Gathered, Gathers, GivesUp, IsGathered, IsLetGo}
use Rattle.ti_agent.specs.Home.{IsAtHome}
use Rattle.ti_agent.specs.Spots.{Spot, spot_of, spots_of}
use Rattle.ti_agent.specs.Traces.{HasRead, IsTraced, LetsGo, ReadsEach, Stops, Telling}
use Rattle.ti_agent.proofs.AtHome.{same_spot}

-- An environment that keeps its number, its limits, and its desks at their threads
pub record StaysHome (old new : Environment) : Type 0 where
  pub env : new.env ≡ old.env
  pub limits : new.state.limits ≡ old.state.limits
  pub spots : spots_of new.desks ≡ spots_of old.desks

-- it stays at home
pub stays_home : {H : Type 0} (about : H → EnvNo → Limits → Type 0) (holds : H → Spot → Type 0) (h : H) (old new : Environment) → StaysHome old new → IsAtHome about holds h old → IsAtHome about holds h new
stays_home about holds h old new s k = (
  subst (λ (z : EnvNo × Limits). about h z.0 z.1) (λ j. (sym s.env j, sym s.limits j)) k.0,
  subst (λ (l : List Spot). All (holds h) l) (sym s.spots) k.1,
)

stays_same : (old new : Environment) → new ≡ old → StaysHome old new
stays_same old new is = record {
  env = ap (λ (s : Environment). s.env) is;
  limits = ap (λ (s : Environment). s.state.limits) is;
  spots = ap (λ (s : Environment). spots_of s.desks) is;
}

stays_then : (old mid new : Environment) → StaysHome old mid → StaysHome mid new → StaysHome old new
stays_then old mid new a b = record { env = b.env ∙ a.env; limits = b.limits ∙ a.limits; spots = b.spots ∙ a.spots }

-- desks that are each where they were
spots_alike : (old new : List DeskState) → length new ≡ length old → ((i : ℕ) (p q : DeskState) → slice_get old i ≡ Some p → slice_get new i ≡ Some q → spot_of q ≡ spot_of p) → spots_of new ≡ spots_of old
spots_alike [] [] n h = refl
spots_alike [] (y ∷ new) n h = absurd (omega (arith, n))
spots_alike (x ∷ old) [] n h = absurd (omega (arith, n))
spots_alike (x ∷ old) (y ∷ new) n h =
    let rest : spots_of new ≡ spots_of old = spots_alike old new (omega (arith, n)) (λ i p q a b. h (suc i) p q a b) in
    let first : spot_of y ≡ spot_of x = h 0 x y refl refl in
    λ j. first j ∷ rest j

at_desk : (b : Bool) (p q : DeskState) (more : List Entry) → AtDesk b p q more → spot_of q ≡ spot_of p
at_desk true p q more h = same_spot p q h.same.cell h.goes.subject
at_desk false p q more h = ap spot_of h

each_spot : (threads : Listed) (old new : List DeskState) (more : EnvNo → List Entry) → AtEach threads old new more → spots_of new ≡ spots_of old
each_spot threads old new more h = spots_alike old new h.0 (λ i p q a b. at_desk (is_listed i threads) p q (more p.env) (h.1 i p q a b))

spent_limits : (s : EnvValue) (threads : Listed) → (spend_all s threads).limits ≡ s.limits
spent_limits s [] = refl
spent_limits s (x ∷ threads) = spent_limits (with_spent s x.0) threads

reads_stays : (old new : Environment) (max_count : ℤ) (tellings : List Telling) → ReadsEach old new max_count tellings → StaysHome old new
reads_stays old new max_count [] h = stays_same old new h
reads_stays old new max_count (x ∷ more) h =
    stays_then old h.0 new (record {
      env = h.1.env_is;
      limits = ap (λ (s : EnvValue). s.limits) h.1.state_is;
      spots = each_spot ((x.place, 0) ∷ []) old.desks h.0.desks (λ e. Read e max_count ∷ []) h.1.desks;
    }) (reads_stays h.0 new max_count more h.2)

-- one desk after another was stopped, read and let go
round_stays : (old stopped seen new : Environment) (max_count : ℤ) (stopping : Listed) (places threads : List ThreadNo) (infos : List StackInfo) → Stops old stopped stopping → HasRead stopped seen max_count places threads infos → LetsGo seen new stopping → StaysHome old new
round_stays old stopped seen new max_count stopping places threads infos stops reads goes =
    stays_then old stopped new (record {
      env = stops.env_is;
      limits = ap (λ (s : EnvValue). s.limits) stops.state_is ∙ spent_limits old.state stopping;
      spots = each_spot stopping old.desks stopped.desks (λ e. Stop e ∷ []) stops.desks;
    }) (stays_then stopped seen new (reads_stays stopped seen max_count reads.tellings reads.reads) (record {
      env = goes.env_is;
      limits = ap (λ (s : EnvValue). s.limits) goes.state_is;
      spots = each_spot stopping seen.desks new.desks (λ e. Go e ∷ []) goes.desks;
    }))

pub traced_stays : (old new : Environment) (max_count : ℤ) (stopping : Listed) (places threads : List ThreadNo) (infos : List StackInfo) (round : Round) → IsTraced old new max_count stopping places threads infos round → StaysHome old new
traced_stays old new max_count stopping places threads infos round h = round_stays old h.stopped h.seen new max_count stopping places threads infos h.stops h.reads h.goes

-- Traces that were made step by step

gathered_stays : (old new : Environment) (max_count : ℤ) (stopping : Listed) (places threads : List ThreadNo) (infos : List StackInfo) → IsGathered old new max_count stopping places threads infos → StaysHome old new
gathered_stays old new max_count stopping places threads infos h = round_stays old h.stopped h.seen new max_count stopping places threads infos h.stops h.reads h.goes

at_desk_of : (done listed : Bool) (p q : DeskState) (more : List Entry) → AtDeskOf done listed p q more → spot_of q ≡ spot_of p
at_desk_of true listed p q more h = same_spot p q h.same.cell h.goes.subject
at_desk_of false true p q more (inl is) = ap spot_of is
at_desk_of false true p q more (inr h) = same_spot p q h.same.cell h.goes.subject
at_desk_of false false p q more h = ap spot_of h

let_go_stays : (old new : Environment) (stopping : Listed) → IsLetGo old new stopping → StaysHome old new
let_go_stays old new stopping h =
    let stopped : Listed = take h.count stopping in
    let mid : Environment = record { env = new.env; state = new.state; desks = h.stopped } in
    stays_then old mid new (record {
      env = h.env_is;
      limits = ap (λ (s : EnvValue). s.limits) h.state_is ∙ spent_limits old.state stopped;
      spots = spots_alike old.desks h.stopped h.stops.0 (λ i p q a b. at_desk_of (is_listed i stopped) (is_listed i stopping) p q (Stop p.env ∷ []) (h.stops.1 i p q a b));
    }) (record {
      env = refl;
      limits = refl;
      spots = each_spot stopped h.stopped new.desks (λ e. Go e ∷ []) h.goes;
    })

all_first : (P : Environment → Type 0) (l : List Environment) (start : Environment) → l ≡ start ∷ [] → All P l → P start
all_first P l start is a = All-head P start [] (subst (λ (x : List Environment). All P x) is a)

-- the trace has come to its end, and all was told
pub gathered_home : {H : Type 0} (about : H → EnvNo → Limits → Type 0) (holds : H → Spot → Type 0) (h : H) (g : Gathered) (new : Environment) (infos : List StackInfo) → Gathers g new infos → All (IsAtHome about holds h) g.began → IsAtHome about holds h new
gathered_home about holds h g new infos k a =
    stays_home about holds h k.start new (gathered_stays k.start new g.max_count g.stopping g.places _ k.all k.gathered) (all_first (IsAtHome about holds h) g.began k.start k.began_is a)

-- or it was given up
pub let_go_home : {H : Type 0} (about : H → EnvNo → Limits → Type 0) (holds : H → Spot → Type 0) (h : H) (g : Gathered) (new : Environment) → GivesUp g new → All (IsAtHome about holds h) g.began → IsAtHome about holds h new
let_go_home about holds h g new k a =
    stays_home about holds h k.start new (let_go_stays k.start new g.stopping k.let_go) (all_first (IsAtHome about holds h) g.began k.start k.began_is a)
