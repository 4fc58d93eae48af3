use Rattle.std.proofs.Common.{rules, ◌≡◌, ℤ, List, true, length, ap, sym, ◌∙◌, subst, w32, to_z, of_z, IfOk}
use Rattle.std.proofs.lemmas.Int.{to_z-of_z}
use Rattle.ti_types.specs.declared.numbers.ThreadNo.{ThreadNo}
use Rattle.ti_vmop.specs.Turns.{Listed}
use Rattle.ti_agent.specs.Env.{Environment, places_of, threads_at}
use Rattle.ti_agent.specs.Traces.{are_there, each_once, AreCounts, IsTraced}
use Rattle.ti_agent.proofs.Places.{named_back}
use Rattle.ti_agent.proofs.AtHome.{same_env}
use Rattle.ti_agent.proofs.env.Env.get_thread_list_stack_traces.Goals as goal

pub returns-clause-traced : goal.returns-clause-traced
returns-clause-traced g c =
    let s = c.args.self.now.env in
    let m : to_z w32 (of_z w32 c.args.max_count) ≡ c.args.max_count = to_z-of_z w32 c.args.max_count c.ranges.max_count in
    let count : length s.state.spent ≡ length s.desks = sym (ap (λ (x : Environment). length x.state.spent) (same_env c.self.view_is)) ∙ (c.self.invariant.0.count ∙ ap (λ (x : Environment). length x.desks) (same_env c.self.view_is)) in
    let all : List ThreadNo = places_of s.desks c.args.threads.now in
    let places : c.deref-3.result.now ≡ all = c.deref-3.ensures.value ∙ c.in_ok-places.ensures.all in
    let there : are_there (length s.state.spent) all ≡ true = search rules in
    let whole : are_there (length s.state.spent) c.in_ok-places.places.items ≡ true = ap (are_there (length s.state.spent)) c.in_ok-places.ensures.all ∙ there in
    let counts : AreCounts c.in_ok-places.places.items c.in_ok-counts.counts.entries = search rules in
    let listed : c.deref-2.result.now ≡ each_once (length s.state.spent) c.deref-3.result.now =
    c.deref-2.ensures.value ∙ (c.in_ok-stopping.ensures.listed (length s.state.spent) c.in_ok-places.places.items whole counts ∙ ap (each_once (length s.state.spent)) (sym c.deref-3.ensures.value)) in
    let stopping : c.deref-2.result.now ≡ each_once (length s.desks) all = listed ∙ (λ j. each_once (count j) (places j)) in
    let back : threads_at s.desks all ≡ c.args.threads.now = named_back s.desks c.args.threads.now (ap (λ n. are_there n all) (sym count) ∙ there) in
    let numbers : threads_at s.desks c.deref-3.result.now ≡ c.args.threads.now = ap (threads_at s.desks) places ∙ back in
    subst (λ (z : ℤ × Listed × List ThreadNo × List ThreadNo). IfOk c.trace.result (λ r. IsTraced s c.trace.new.self.env z.0 z.1 z.2 z.3 r.0.items r.1)) (λ j. (m j, stopping j, places j, numbers j)) c.trace.ensures.traced
