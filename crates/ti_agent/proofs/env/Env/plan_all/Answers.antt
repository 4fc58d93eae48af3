use Rattle.std.proofs.Common.{rules, ◌≡◌, true, length, ap, sym, subst, ◌∙◌, List, to_z, of_z, w32}
use Rattle.ti_types.specs.Numbers.{is_not_negative}
use Rattle.ti_types.specs.declared.numbers.ThreadNo.{ThreadNo}
use Rattle.ti_vmop.specs.Turns.{are_paid}
use Rattle.ti_agent.specs.Traces.{all_once, each_once, each_thread, are_there}
use Rattle.ti_agent.proofs.Listing.{once_all, there_each}
use Rattle.ti_agent.proofs.env.Env.plan_all.Goals as goal

pub plan-requires : goal.plan-requires
plan-requires g c =
    let n = length c.args.self.now.env.state.spent in
    let count : c.in_ok-count.count ≡ n = c.in_ok-count.ensures.count in
    let threads : c.in_ok-places.places.items ≡ each_thread n = c.in_ok-places.ensures.all ∙ ap each_thread count in
    let stopping : c.in_ok-stopping.stopping.items ≡ all_once n = c.in_ok-stopping.ensures.all ∙ ap all_once count in
    let paid : are_paid c.args.self.now.env.state (all_once n) ≡ true = search rules in
    let positive : is_not_negative (to_z w32 (of_z w32 c.args.max_count)) ≡ true = search rules in
    record {
      asked = record {
        stopping_is = stopping ∙ (sym (once_all n) ∙ ap (each_once n) (sym threads));
        there = subst (λ (l : List ThreadNo). are_there n l ≡ true) (sym threads) (there_each n);
        paid = ap (are_paid c.args.self.now.env.state) stopping ∙ paid;
        count = positive;
      };
    }
