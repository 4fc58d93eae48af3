use Rattle.std.proofs.Common.{ℕ, ◌≡◌, length, sym, ap, subst, ◌∙◌, refl, w32, to_z, of_z, ℤ}
use Rattle.std.proofs.lemmas.Int.{to_z-of_z}
use Rattle.ti_types.specs.declared.numbers.EnvNo.{EnvNo}
use Rattle.ti_types.specs.declared.limits.Limits.{Limits}
use Rattle.ti_types.specs.declared.entry.Entry.TheVariants.{Stop, Go}
use Rattle.ti_types.specs.declared.numbers.ThreadNo.{ThreadNo}
use Rattle.std.proofs.Common.{[], ◌∷◌, List}
use Rattle.ti_vmop.specs.Turns.{Listed, AtEach, AreThere, Stood, cells_of}
use Rattle.ti_agent.specs.Env.{Environment, thread_at, threads_at}
use Rattle.ti_agent.proofs.Places.{names_each, names_same, count_names}
use Rattle.ti_agent.specs.Buffers.{AreRoomy}
use Rattle.ti_agent.specs.Traces.{AreStopped, AreListed, HasRead}
use Rattle.ti_agent.proofs.Tracing.{may_stop, one_environment, distinct_in, there_in, all_listed, left_in, limits_all, held_after_stops, whole_after_go}
use Rattle.ti_agent.proofs.traces.trace_each.Goals as goal

pub stop_all-requires-clause-desks : goal.stop_all-requires-clause-desks
stop_all-requires-clause-desks g c = one_environment (record { env = c.args.env; state = c.args.state.now; desks = c.args.desks.now }) c.requires.whole

pub stop_all-requires-clause-there : goal.stop_all-requires-clause-there
stop_all-requires-clause-there g c = (there_in c.args.stopping.now (length c.args.state.now.spent) (length c.args.desks.now) c.args.places.now c.requires.stopping c.requires.whole.count, c.requires.whole.count)

pub stop_all-requires-clause-distinct : goal.stop_all-requires-clause-distinct
stop_all-requires-clause-distinct g c = distinct_in c.args.stopping.now (length c.args.state.now.spent) c.args.places.now c.requires.stopping

pub stop_all-requires-clause-may : goal.stop_all-requires-clause-may
stop_all-requires-clause-may g c i p at listed = may_stop (record { env = c.args.env; state = c.args.state.now; desks = c.args.desks.now }) i p c.requires.whole at

pub read_each-requires-clause-held : goal.read_each-requires-clause-held
read_each-requires-clause-held g c =
    let s : Environment = record { env = c.args.env; state = c.args.state.now; desks = c.args.desks.now } in
    let l = c.args.stopping.now in
    let r = c.in-Ok.ensures in
    let there = there_in l (length s.state.spent) (length s.desks) c.args.places.now c.requires.stopping c.requires.whole.count in
    let distinct = distinct_in l (length s.state.spent) c.args.places.now c.requires.stopping in
    let held = held_after_stops s l c.stop_all.new.state c.stop_all.new.desks c.requires.whole distinct there c.requires.paid r.state r.desks r.stand in
    subst (λ (z : EnvNo × Listed). AreStopped (record { env = z.0; state = c.stop_all.new.state; desks = c.stop_all.new.desks }) z.1) (λ j. (sym r.env j, sym r.standing.0 j)) held

pub read_each-requires-clause-cells : goal.read_each-requires-clause-cells
read_each-requires-clause-cells g c = ap (λ (l : Listed). cells_of l c.stop_all.new.desks) c.in-Ok.ensures.standing.0 ∙ sym c.in-Ok.ensures.cells

pub read_each-requires-clause-there : goal.read_each-requires-clause-there
read_each-requires-clause-there g c =
    subst (AreThere (length c.stop_all.new.desks)) (sym c.in-Ok.ensures.standing.0)
    (there_in c.args.stopping.now (length c.args.state.now.spent) (length c.stop_all.new.desks) c.args.places.now c.requires.stopping (c.requires.whole.count ∙ sym c.in-Ok.ensures.desks.0))

pub read_each-requires-clause-listed : goal.read_each-requires-clause-listed
read_each-requires-clause-listed g c =
    subst (λ (v : Listed). AreListed v c.args.places.now) (sym c.in-Ok.ensures.standing.0)
    (all_listed c.args.stopping.now (length c.args.state.now.spent) c.args.places.now c.requires.stopping c.requires.there)

pub read_each-requires-clause-left : goal.read_each-requires-clause-left
read_each-requires-clause-left g c = left_in c.args.state.now c.stop_all.new.state c.args.places.now c.args.stopping.now c.requires.stopping c.requires.there c.requires.paid c.in-Ok.ensures.state

pub read_each-requires-clause-bufs : goal.read_each-requires-clause-bufs
read_each-requires-clause-bufs g c =
    let m : to_z w32 (of_z w32 c.args.max_count) ≡ c.args.max_count = to_z-of_z w32 c.args.max_count c.ranges.max_count in
    let limits : c.stop_all.new.state.limits ≡ c.args.state.now.limits = ap (λ v. v.limits) c.in-Ok.ensures.state ∙ limits_all c.args.state.now c.args.stopping.now in
    (c.requires.bufs.0, subst (λ (z : Limits × ℤ). AreRoomy z.0 z.1 c.args.bufs.items) (λ j. (sym limits j, sym m j)) c.requires.bufs.1)

pub go-requires-clause-cells : goal.go-requires-clause-cells
go-requires-clause-cells g c = subst (λ (z : Stood). cells_of z.threads c.read_each.new.desks ≡ z.cells) (sym c.read_each.ensures.standing) c.read_each.ensures.cells

pub go-requires-clause-there : goal.go-requires-clause-there
go-requires-clause-there g c =
    let threads : c.read_each.new.standing.threads ≡ c.args.stopping.now = ap (λ v. v.threads) c.read_each.ensures.standing ∙ c.in-Ok.ensures.standing.0 in
    let count : length c.read_each.new.desks ≡ length c.args.desks.now = c.read_each.auto.desks ∙ c.in-Ok.ensures.desks.0 in
    subst (λ (l : Listed). AreThere (length c.read_each.new.desks) l) (sym threads)
    (there_in c.args.stopping.now (length c.args.state.now.spent) (length c.read_each.new.desks) c.args.places.now c.requires.stopping (c.requires.whole.count ∙ sym count))

pub returns-clause-whole : goal.returns-clause-whole
returns-clause-whole g c =
    let s : Environment = record { env = c.args.env; state = c.args.state.now; desks = c.args.desks.now } in
    let l = c.args.stopping.now in
    let env : c.in-Ok.standing.env ≡ c.args.env = c.in-Ok.ensures.env in
    let threads : c.read_each.new.standing.threads ≡ l = ap (λ v. v.threads) c.read_each.ensures.standing ∙ c.in-Ok.ensures.standing.0 in
    let seen : Environment = record { env = c.args.env; state = c.read_each.new.state; desks = c.read_each.new.desks } in
    let held : AreStopped seen l = subst (λ (z : EnvNo × Listed). AreStopped (record { env = z.0; state = c.read_each.new.state; desks = c.read_each.new.desks }) z.1) (λ j. (env j, c.in-Ok.ensures.standing.0 j)) c.read_each.ensures.held in
    let goes : AtEach l c.read_each.new.desks c.go.new.desks (λ e. Go e ∷ []) = subst (λ (v : Listed). AtEach v c.read_each.new.desks c.go.new.desks (λ e. Go e ∷ [])) threads c.go.ensures.desks in
    whole_after_go seen l c.go.new.desks held goes

pub returns-clause-traced : goal.returns-clause-traced
returns-clause-traced g c =
    let s : Environment = record { env = c.args.env; state = c.args.state.now; desks = c.args.desks.now } in
    let l = c.args.stopping.now in
    let r = c.in-Ok.ensures in
    let env : c.in-Ok.standing.env ≡ c.args.env = r.env in
    let threads : c.read_each.new.standing.threads ≡ l = ap (λ v. v.threads) c.read_each.ensures.standing ∙ r.standing.0 in
    let m : to_z w32 (of_z w32 c.args.max_count) ≡ c.args.max_count = to_z-of_z w32 c.args.max_count c.ranges.max_count in
    let stopped : Environment = record { env = c.args.env; state = c.stop_all.new.state; desks = c.stop_all.new.desks } in
    let seen : Environment = record { env = c.args.env; state = c.read_each.new.state; desks = c.read_each.new.desks } in
    let infos = c.read_each.new.infos.items in
    let names : (i : ℕ) → thread_at stopped.desks i ≡ thread_at s.desks i = λ i. names_each l s.desks stopped.desks (λ e. Stop e ∷ []) r.desks i in
    let numbers : threads_at stopped.desks c.args.places.now ≡ threads_at s.desks c.args.places.now = names_same s.desks stopped.desks c.args.places.now names in
    let reads : HasRead stopped seen c.args.max_count c.args.places.now (threads_at s.desks c.args.places.now) infos =
    subst (λ (z : EnvNo × ℤ × List ThreadNo). HasRead (record { env = z.0; state = c.stop_all.new.state; desks = c.stop_all.new.desks }) (record { env = z.0; state = c.read_each.new.state; desks = c.read_each.new.desks }) z.1 c.args.places.now z.2 infos) (λ j. (env j, m j, numbers j)) c.read_each.ensures.reads in
    let goes : AtEach l c.read_each.new.desks c.go.new.desks (λ e. Go e ∷ []) = subst (λ (v : Listed). AtEach v c.read_each.new.desks c.go.new.desks (λ e. Go e ∷ [])) threads c.go.ensures.desks in
    record {
      stopped = stopped;
      seen = seen;
      stops = record { env_is = refl; state_is = r.state; desks = r.desks; stand = r.stand };
      reads = reads;
      goes = record { env_is = refl; state_is = refl; desks = goes };
      env_is = c.go.ensures.env ∙ (ap (λ v. v.env) c.read_each.ensures.standing ∙ env);
      threads_are = c.go.ensures.threads ∙ ap (λ v. length v) threads;
      reads_are = c.go.ensures.reads ∙ (ap (λ v. v.reads) c.read_each.ensures.standing ∙ sym (count_names s.desks c.args.places.now));
    }

pub go-requires-clause-env : goal.go-requires-clause-env
go-requires-clause-env g c i p at listed = (c.read_each.ensures.held.desks i p at).env_is ∙ sym (ap (λ v. v.env) c.read_each.ensures.standing)
