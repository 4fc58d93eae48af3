use Rattle.std.proofs.Common.{◌≡◌, ap, ◌<◌, length, arith, subst}
use Rattle.std.specs.Prelude.{is_some, IfOk, IfSome}
use Rattle.std.proofs.lemmas.Bool.Decides.{nat_tests}
use Rattle.ti_types.specs.Answer.{said}
use Rattle.ti_types.specs.declared.numbers.ThreadNo.{ThreadNo}
use Rattle.ti_agent.specs.Env.{Environment, place_in}
use Rattle.ti_agent.specs.Deadlines.{DiscardsAt, TellsDiscardedAt}
use Rattle.ti_agent.proofs.Whole.{found_in, seen_call, desk_there}
use Rattle.ti_agent.proofs.Tried.{tried_discard, tried_tells, discards_at}
use Rattle.ti_agent.proofs.AtHome.{same_env, tried_discard_home}
use Rattle.ti_agent.proofs.env.Env.discard_first_now.Goals as goal

pub invariant_of-self : goal.invariant_of-self
invariant_of-self g c =
    let s : Environment = record { env = c.self.inside.env; state = c.self.inside.state; desks = c.self.inside.desks } in
    let t = c.place_of-at.result.0 in
    let within : t < length s.desks = grind (arith, nat_tests, c.if-at-len.false, c.len.ensures) in
    let at = desk_there s t c.index_mut.result.now within c.index_mut.ensures.value in
    let e = c.discard_now.ensures in (
      tried_discard s t c.index_mut.result.now c.discard_now.new.self c.discard_now.result c.self.invariant.0 at e.discards e.busy,
      tried_discard_home g.H.Home.about g.H.Home.holds c.self.inside.home s t c.index_mut.result.now c.discard_now.new.self c.discard_now.result at e.discards e.busy c.self.invariant.1,
    )

pub returns-clause-discards : goal.returns-clause-discards
returns-clause-discards g c =
    let s : Environment = record { env = c.self.inside.env; state = c.self.inside.state; desks = c.self.inside.desks } in
    let t = c.place_of-at.result.0 in
    let is : t ≡ place_in s.desks c.args.thread = ap (λ (x : ThreadNo). x.0) (found_in c.args.self.now.env s c.args.thread c.place_of-at.result (same_env c.self.view_is) c.place_of-at.ensures) in
    let within : t < length s.desks = grind (arith, nat_tests, c.if-at-len.false, c.len.ensures) in
    let at = desk_there s t c.index_mut.result.now within c.index_mut.ensures.value in
    subst (λ (x : Environment). IfOk c.discard_now.result (λ d. place_in x.desks c.args.thread < length x.desks → DiscardsAt x (seen_call s t c.discard_now.new.self) c.args.thread (is_some d))) (same_env c.self.view_is)
    (discards_at s c.args.thread t c.index_mut.result.now c.discard_now.new.self c.discard_now.result is at c.discard_now.ensures.discards)

pub returns-clause-tells : goal.returns-clause-tells
returns-clause-tells g c =
    let s : Environment = record { env = c.self.inside.env; state = c.self.inside.state; desks = c.self.inside.desks } in
    let t = c.place_of-at.result.0 in
    let is : t ≡ place_in s.desks c.args.thread = ap (λ (x : ThreadNo). x.0) (found_in c.args.self.now.env s c.args.thread c.place_of-at.result (same_env c.self.view_is) c.place_of-at.ensures) in
    let within : t < length s.desks = grind (arith, nat_tests, c.if-at-len.false, c.len.ensures) in
    let at = desk_there s t c.index_mut.result.now within c.index_mut.ensures.value in
    subst (λ (x : Environment). IfOk c.discard_now.result (λ d. IfSome d (λ r. TellsDiscardedAt x (seen_call s t c.discard_now.new.self) c.args.thread r.ticket (said r.answer)))) (same_env c.self.view_is)
    (tried_tells s c.args.thread t c.index_mut.result.now c.discard_now.new.self c.discard_now.result is at c.discard_now.ensures.tells)
