use Rattle.std.proofs.Common.{ℤ, w32, sym, subst, ◌∙◌}
use Rattle.std.proofs.lemmas.Int.{to_z-of_z}
use Rattle.ti_capi.specs.Gathers.{BeginsAll, BeginsIn, RefusesAll}
use Rattle.ti_capi.proofs.Filling.{both_ok}
use Rattle.ti_capi.proofs.Traced.{begun}
use Rattle.ti_capi.proofs.env_traces.gather_all.Goals as goal

pub returns : goal.returns
returns c =
    let e = c.gather_all_stack_traces.ensures in
    let r = c.gather_all_stack_traces.result in
    let there = sym c.take.ensures.value ∙ c.in-Some.is in
    subst (λ (z : ℤ). BeginsIn (BeginsAll z) (RefusesAll z) c.args.held.now c.put_begun.new.held c.put_begun.result) (to_z-of_z w32 c.args.max_count c.ranges.max_count)
    (begun _ _ c.in-Some.agent c.take.new.self c.args.held.now c.put_begun.new.held c.put_begun.result r there c.take.ensures.after (both_ok _ _ r e.admitted e.begins) e.home e.refused e.back c.put_begun.ensures)
