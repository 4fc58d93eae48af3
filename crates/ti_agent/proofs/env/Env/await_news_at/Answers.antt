use Rattle.std.proofs.Common.{◌≡◌, ap, ◌<◌, length, arith, refl, subst}
use Rattle.std.proofs.lemmas.Bool.Decides.{nat_tests}
use Rattle.ti_types.specs.declared.numbers.ThreadNo.{ThreadNo}
use Rattle.ti_agent.specs.Env.{Environment, place_in}
use Rattle.ti_agent.specs.Quiesced.{MayQuiesce}
use Rattle.ti_agent.proofs.AtHome.{home_set, same_env}
use Rattle.ti_agent.proofs.Quiescing.{waited}
use Rattle.ti_agent.proofs.Whole.{found_in, seen_call, desk_there, whole_seen}
use Rattle.ti_agent.proofs.env.Env.await_news_at.Goals as goal

pub invariant_of-self : goal.invariant_of-self
invariant_of-self g c =
    let s : Environment = record { env = c.self.inside.env; state = c.self.inside.state; desks = c.self.inside.desks } in
    let t = c.place_of-at.result.0 in
    let p = c.index_mut.result.now in
    let within : t < length s.desks = grind (arith, nat_tests, c.if-at-len.true, c.len.ensures) in
    let at = desk_there s t p within c.index_mut.ensures.value in
    let e = c.await_news.ensures in (
      whole_seen s t p c.await_news.new.desk p.view.posted c.self.invariant.0 at e.same.env e.waits (omega arith),
      home_set g.H.Home.about g.H.Home.holds c.self.inside.home s s.state t p c.await_news.new.desk at e.same.cell e.waits.goes.subject refl c.self.invariant.1,
    )

pub returns-then-at-len-clause-steps : goal.returns-then-at-len-clause-steps
returns-then-at-len-clause-steps g c =
    let s : Environment = record { env = c.self.inside.env; state = c.self.inside.state; desks = c.self.inside.desks } in
    let t = c.place_of-at.result.0 in
    let p = c.index_mut.result.now in
    let is : t ≡ place_in s.desks c.args.thread = ap (λ (x : ThreadNo). x.0) (found_in c.args.self.now.env s c.args.thread c.place_of-at.result (same_env c.self.view_is) c.place_of-at.ensures) in
    let within : t < length s.desks = grind (arith, nat_tests, c.if-at-len.true, c.len.ensures) in
    let at = desk_there s t p within c.index_mut.ensures.value in
    let e = c.await_news.ensures in
    subst (λ (x : Environment). MayQuiesce x (seen_call s t c.await_news.new.desk) c.args.thread) (same_env c.self.view_is) (waited s c.args.thread t p c.await_news.new.desk is at e.same e.waits)
