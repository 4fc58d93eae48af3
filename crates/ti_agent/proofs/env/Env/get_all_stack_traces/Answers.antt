use Rattle.std.proofs.Common.{rules, ◌≡◌, length, ap, sym, ◌∙◌, subst, ℤ, List, true, w32, to_z, of_z}
use Rattle.std.proofs.lemmas.Fn.{filter_same}
use Rattle.std.proofs.lemmas.Int.{to_z-of_z}
use Rattle.ti_types.specs.declared.numbers.ThreadNo.{ThreadNo}
use Rattle.ti_vmop.specs.Turns.{Listed}
use Rattle.ti_agent.specs.Traces.{all_once, each_once, each_thread, are_there, is_alive, IsTraced}
use Rattle.ti_types.specs.declared.stack.StackInfo.{StackInfo}
use Rattle.std.specs.List.{filter}
use Rattle.ti_agent.specs.Env.{threads_at, threads_of}
use Rattle.ti_agent.proofs.Places.{all_named}
use Rattle.ti_agent.proofs.Listing.{once_all, there_each}
use Rattle.ti_agent.proofs.env.Env.get_all_stack_traces.Goals as goal

pub trace-requires-clause-stopping : goal.trace-requires-clause-stopping
trace-requires-clause-stopping g c =
    let count : c.in_ok-count.count ≡ length c.args.self.now.env.state.spent = c.in_ok-count.ensures.count in
    let threads : c.deref-2.result.now ≡ each_thread (length c.args.self.now.env.state.spent) = c.deref-2.ensures.value ∙ (c.in_ok-places.ensures.all ∙ ap each_thread count) in
    let stopping : c.deref.result.now ≡ all_once (length c.args.self.now.env.state.spent) = c.deref.ensures.value ∙ (c.in_ok-stopping.ensures.all ∙ ap all_once count) in
    stopping ∙ (sym (once_all (length c.args.self.now.env.state.spent)) ∙ ap (each_once (length c.args.self.now.env.state.spent)) (sym threads))

pub trace-requires-clause-there : goal.trace-requires-clause-there
trace-requires-clause-there g c =
    let count : c.in_ok-count.count ≡ length c.args.self.now.env.state.spent = c.in_ok-count.ensures.count in
    let threads : c.deref-2.result.now ≡ each_thread (length c.args.self.now.env.state.spent) = c.deref-2.ensures.value ∙ (c.in_ok-places.ensures.all ∙ ap each_thread count) in
    subst (λ (l : List ThreadNo). are_there (length c.args.self.now.env.state.spent) l ≡ true) (sym threads) (there_each (length c.args.self.now.env.state.spent))

pub returns-clause-traced : goal.returns-clause-traced
returns-clause-traced g c =
    let m : to_z w32 (of_z w32 c.args.max_count) ≡ c.args.max_count = to_z-of_z w32 c.args.max_count c.ranges.max_count in
    let count : c.in_ok-count.count ≡ length c.args.self.now.env.desks = c.in_ok-count.ensures.desks in
    let threads : c.deref-2.result.now ≡ each_thread (length c.args.self.now.env.desks) = c.deref-2.ensures.value ∙ (c.in_ok-places.ensures.all ∙ ap each_thread count) in
    let stopping : c.deref.result.now ≡ all_once (length c.args.self.now.env.desks) = c.deref.ensures.value ∙ (c.in_ok-stopping.ensures.all ∙ ap all_once count) in
    let numbers : threads_at c.args.self.now.env.desks c.deref-2.result.now ≡ threads_of c.args.self.now.env.desks = ap (threads_at c.args.self.now.env.desks) threads ∙ all_named c.args.self.now.env.desks in
    let all : List StackInfo = c.in_ok-infos.infos.items in
    let round = c.in_ok-infos.round in
    let kept : c.retain.new.self.items ≡ filter (λ (x : StackInfo). is_alive x.state) all = filter_same _ _ _ (λ x b f' k. search rules) _ _ c.retain.ensures.filtered in
    record {
      all = all;
      traced = subst (λ (z : ℤ × Listed × List ThreadNo × List ThreadNo). IsTraced c.args.self.now.env c.trace.new.self.env z.0 z.1 z.2 z.3 all round) (λ j. (m j, stopping j, threads j, numbers j)) c.in_ok-infos.ensures.traced;
      alive = kept;
    }
