use Rattle.std.proofs.Common.{◌≡◌, ◌≤◌, length, ap, sym, arith}
use Rattle.std.specs.Prelude.{slice_index_or}
use Rattle.ti_types.specs.declared.numbers.ThreadNo.{ThreadNo}
use Rattle.ti_agent.specs.Env.{Environment, place_in}
use Rattle.ti_agent.proofs.Places.{not_there}
use Rattle.ti_agent.proofs.AtHome.{same_env}
use Rattle.ti_agent.proofs.env.Env.are_all_there.Goals as goal

pub returns-then-place_of-count : goal.returns-then-place_of-count
returns-then-place_of-count g c =
    let none : ThreadNo = record { 0 = 0 } in
    let i = c.loop-i.i in
    let t : ThreadNo = slice_index_or c.args.threads.now i none in
    let found : c.place_of.result.0 ≡ place_in c.args.self.now.env.desks t = ap (λ (x : ThreadNo). x.0) c.place_of.ensures in
    let same = ap (λ (x : Environment). length x.state.spent) (same_env c.self.view_is) in
    let far : length c.args.self.now.env.state.spent ≤ place_in c.args.self.now.env.desks t = omega (arith, found, same, c.threads-count.ensures.counted, c.if-place_of-count.true) in
    sym (not_there (length c.args.self.now.env.state.spent) c.args.self.now.env.desks c.args.threads.now i none c.loop-i-test.true far)
