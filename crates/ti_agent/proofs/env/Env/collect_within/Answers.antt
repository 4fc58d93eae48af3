use Rattle.std.proofs.Common.{refl, ◌≡◌, ap, ◌<◌, is_some, length, arith, subst}
use Rattle.std.specs.Option.{option_map}
use Rattle.std.proofs.lemmas.Bool.Decides.{nat_tests}
use Rattle.ti_types.specs.Answer.{said}
use Rattle.ti_types.specs.declared.numbers.ThreadNo.{ThreadNo}
use Rattle.ti_agent.specs.Env.{Environment, place_in}
use Rattle.ti_agent.specs.Posts.{WaitsFor}
use Rattle.ti_agent.proofs.Whole.{found_in, fewer_if, whole_seen, seen_call, desk_there}
use Rattle.ti_agent.proofs.Posting.{waited_for}
use Rattle.ti_agent.proofs.AtHome.{home_set, same_env}
use Rattle.ti_agent.proofs.env.Env.collect_within.Goals as goal

pub invariant_of-self : goal.invariant_of-self
invariant_of-self g c =
    let s : Environment = record { env = c.self.inside.env; state = c.self.inside.state; desks = c.self.inside.desks } in
    let t = c.place_of-at.result.0 in
    let within : t < length s.desks = grind (arith, nat_tests, c.if-at-len.false, c.len.ensures) in
    let at = desk_there s t c.index_mut.result.now within c.index_mut.ensures.value in (
      whole_seen s t c.index_mut.result.now c.collect_within.new.self _ c.self.invariant.0 at c.collect_within.ensures.same.env c.collect_within.ensures.hold (fewer_if (is_some c.collect_within.result) c.args.ticket c.index_mut.result.now.view.posted),
      home_set g.H.Home.about g.H.Home.holds c.self.inside.home s s.state t c.index_mut.result.now c.collect_within.new.self at c.collect_within.ensures.same.cell c.collect_within.ensures.hold.goes.subject refl c.self.invariant.1,
    )

pub returns-clause-waits : goal.returns-clause-waits
returns-clause-waits g c = λ _.
    let s : Environment = record { env = c.self.inside.env; state = c.self.inside.state; desks = c.self.inside.desks } in
    let t = c.place_of-at.result.0 in
    let is : t ≡ place_in s.desks c.args.ticket.thread = ap (λ (x : ThreadNo). x.0) (found_in c.args.self.now.env s c.args.ticket.thread c.place_of-at.result (same_env c.self.view_is) c.place_of-at.ensures) in
    let within : t < length s.desks = grind (arith, nat_tests, c.if-at-len.false, c.len.ensures) in
    let at = desk_there s t c.index_mut.result.now within c.index_mut.ensures.value in
    let e = c.collect_within.ensures in
    subst (λ (x : Environment). WaitsFor x (seen_call s t c.collect_within.new.self) c.args.ticket (option_map said c.collect_within.result)) (same_env c.self.view_is)
    (waited_for s c.args.ticket t c.index_mut.result.now c.collect_within.new.self c.collect_within.result is at e.same e.hold e.once e.answer e.place)
