use Rattle.std.proofs.Common.{ℤ, w32, sym, subst, ◌∙◌}
use Rattle.std.proofs.lemmas.Int.{to_z-of_z}
use Rattle.ti_capi.specs.Gathers.{BeginsIn, BeginsList, RefusesThreads, numbered}
use Rattle.ti_capi.proofs.Traced.{begun}
use Rattle.ti_capi.proofs.env_traces.gather_list.Goals as goal

pub returns : goal.returns
returns c =
    let e = c.begin_list.ensures in
    let r = c.begin_list.result in
    let there = sym c.take.ensures.value ∙ c.in-Some.is in
    subst (λ (z : ℤ). BeginsIn (BeginsList (numbered c.args.numbers.now) z) (RefusesThreads (numbered c.args.numbers.now) z) c.args.held.now c.put_begun.new.held c.put_begun.result) (to_z-of_z w32 c.args.max_count c.ranges.max_count)
    (begun _ _ c.in-Some.agent c.take.new.self c.args.held.now c.put_begun.new.held c.put_begun.result r there c.take.ensures.after e.begins e.home e.refused e.back c.put_begun.ensures)
