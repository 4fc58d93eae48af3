use Rattle.std.proofs.Common.{◌≡◌, ap, ◌<◌, length, arith, subst}
use Rattle.std.specs.Prelude.{IfOk}
use Rattle.std.specs.Option.{option_map}
use Rattle.std.proofs.lemmas.Bool.Decides.{nat_tests}
use Rattle.ti_types.specs.Answer.{said}
use Rattle.ti_types.specs.declared.numbers.ThreadNo.{ThreadNo}
use Rattle.ti_agent.specs.Env.{Environment, place_in}
use Rattle.ti_agent.specs.Posts.{LooksFor}
use Rattle.ti_agent.proofs.Whole.{found_in, seen_call, desk_there}
use Rattle.ti_agent.proofs.Tried.{collect_whole, collect_looks}
use Rattle.ti_agent.proofs.AtHome.{same_env, tried_look_home}
use Rattle.ti_agent.proofs.env.Env.collect_now.Goals as goal

pub invariant_of-self : goal.invariant_of-self
invariant_of-self g c =
    let s : Environment = record { env = c.self.inside.env; state = c.self.inside.state; desks = c.self.inside.desks } in
    let t = c.place_of-at.result.0 in
    let within : t < length s.desks = grind (arith, nat_tests, c.if-at-len.false, c.len.ensures) in
    let at = desk_there s t c.index_mut.result.now within c.index_mut.ensures.value in
    let e = c.collect_now.ensures in (
      collect_whole s c.args.ticket t c.index_mut.result.now c.collect_now.new.self c.collect_now.result c.self.invariant.0 at e.same e.hold e.busy,
      tried_look_home g.H.Home.about g.H.Home.holds c.self.inside.home s t c.index_mut.result.now c.collect_now.new.self c.collect_now.result _ at e.same e.hold e.busy c.self.invariant.1,
    )

pub returns-clause-looks : goal.returns-clause-looks
returns-clause-looks g c =
    let s : Environment = record { env = c.self.inside.env; state = c.self.inside.state; desks = c.self.inside.desks } in
    let t = c.place_of-at.result.0 in
    let is : t ≡ place_in s.desks c.args.ticket.thread = ap (λ (x : ThreadNo). x.0) (found_in c.args.self.now.env s c.args.ticket.thread c.place_of-at.result (same_env c.self.view_is) c.place_of-at.ensures) in
    let within : t < length s.desks = grind (arith, nat_tests, c.if-at-len.false, c.len.ensures) in
    let at = desk_there s t c.index_mut.result.now within c.index_mut.ensures.value in
    let e = c.collect_now.ensures in
    subst (λ (x : Environment). IfOk c.collect_now.result (λ o. place_in x.desks c.args.ticket.thread < length x.desks → LooksFor x (seen_call s t c.collect_now.new.self) c.args.ticket (option_map said o))) (same_env c.self.view_is)
    (collect_looks s c.args.ticket t c.index_mut.result.now c.collect_now.new.self c.collect_now.result is at e.same e.hold e.once e.answer e.place)
