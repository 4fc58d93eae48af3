use Rattle.std.proofs.Common.{◌≡◌, List, [], ◌∷◌, ◌++◌, length, Option, ap, sym, ◌∙◌, subst, arith}
use Rattle.std.specs.Prelude.{IfSome}
use Rattle.ti_agent.specs.Desks.{Retires}
use Rattle.ti_agent.specs.Env.{Environment}
use Rattle.ti_agent.specs.FreeDesk.{FreeState}
use Rattle.ti_agent.specs.Home.{Housed}
use Rattle.ti_agent.specs.Quiesced.{MayQuiesce}
use Rattle.ti_service.specs.Homes.{AreOursOf}
use Rattle.ti_service.specs.Memberships.{state_of}
use Rattle.ti_service.specs.Service.{Member}
use Rattle.ti_service.specs.declared.membership.Membership.{Membership}
use Rattle.ti_service.proofs.Homes.{home_of_ours, ours_of}
use Rattle.ti_service.proofs.Leaving.{clears_more, clears_quiet, fewer_desks, ours_retired}
use Rattle.ti_service.proofs.agent_calls.clear.Given.{Over}
use Rattle.ti_service.proofs.agent_calls.clear.Goals.{After-push_reserved}
use Rattle.ti_service.proofs.agent_calls.clear.Goals as goal

-- the desk that was cleared
cleared : (g : Over) (c : After-push_reserved g) → Retires (record { env = c.agent.inside.env; state = c.agent.inside.state; desks = c.agent.inside.desks }) c.clear_desk.new.self.env c.in-Some.thread c.in-Some-2.desk
cleared g c =
    subst (λ (o : Option FreeState). IfSome o (λ f. Retires (record { env = c.agent.inside.env; state = c.agent.inside.state; desks = c.agent.inside.desks }) c.clear_desk.new.self.env c.in-Some.thread f)) c.in-Some-2.is
    c.in_ok-desk.ensures.cleared

-- it waits behind the others
waits : (g : Over) (c : After-push_reserved g) → c.push_reserved.new.self.items ≡ c.agent.inside.home.waiting.items ++ c.in-Some-2.desk ∷ []
waits g c =
    c.push_reserved.ensures.items
    ∙ ap (λ (l : List FreeState). l ++ c.in-Some-2.desk ∷ [])
    (ap (λ (x : Housed Membership). x.home.waiting.items) c.agent-in-Some.view_is ∙ (ap (λ (m : Membership). m.waiting.items) c.in_ok-desk.ensures.home ∙ c.reserve.ensures.items))

pub invariant_of-agent-in-Some-2 : goal.invariant_of-agent-in-Some-2
invariant_of-agent-in-Some-2 g c =
    let here = (goal.at.invariant_of-agent-in-Some-2 g c).After-push_reserved in
    let at = c.agent.inside in
    let now = c.agent-in-Some.inside in
    let s : Environment = record { env = at.env; state = at.state; desks = at.desks } in
    let t : Environment = record { env = now.env; state = now.state; desks = now.desks } in
    let more = c.push_reserved.new.self.items in
    let o : AreOursOf at.home.service s at.home.waiting.items = ours_of at.home.service s at.home.waiting.items c.agent.invariant.1.0 c.agent.invariant.1.1 in
    let k : AreOursOf at.home.service c.clear_desk.new.self.env more = ours_retired at.home.service s c.clear_desk.new.self.env at.home.waiting.items more c.in-Some.thread c.in-Some-2.desk (cleared g here) (waits g here) o in
    let service : now.home.service ≡ at.home.service = ap (λ (x : Housed Membership). x.home.service) c.agent-in-Some.view_is ∙ ap (λ (m : Membership). m.service) c.in_ok-desk.ensures.home in
    let env : t ≡ c.clear_desk.new.self.env = ap (λ (x : Housed Membership). x.env) c.agent-in-Some.view_is in
    (c.agent-in-Some.invariant.0, home_of_ours now.home.service t more (subst (λ (x : Member × Environment). AreOursOf x.0 x.1 more) (λ j. (sym service j, sym env j)) k))

pub loop-thread-smaller : goal.loop-thread-smaller
loop-thread-smaller g c =
    let at = c.agent.inside in
    let now = c.agent-in-Some.inside in
    let k = cleared g (goal.at.loop-thread-smaller g c).After-push_reserved in
    let s : Environment = record { env = at.env; state = at.state; desks = at.desks } in
    let env : s ≡ c.loop-thread.agent.env = ap (λ (x : Housed Membership). x.env) c.agent.view_is in
    omega (arith, fewer_desks s c.clear_desk.new.self.env c.in-Some.thread c.in-Some-2.desk k, ap (λ (e : Environment). length e.desks) env, ap (λ (x : Housed Membership). length x.env.desks) c.agent-in-Some.view_is)

pub loop-thread-preserved : goal.loop-thread-preserved
loop-thread-preserved g c =
    let here = (goal.at.loop-thread-preserved g c).After-push_reserved in
    let at = c.agent.inside in
    let now = c.agent-in-Some.inside in
    let t : Environment = record { env = now.env; state = now.state; desks = now.desks } in
    let was = c.agent.view_is in
    let is = c.agent-in-Some.view_is in
    let home = c.in_ok-desk.ensures.home in
    let env = ap (λ (x : Housed Membership). x.env) was in
    let env' = ap (λ (x : Housed Membership). x.env) is in
    let last : Housed Membership = record { home = record { service = now.home.service; waiting = c.push_reserved.new.self; events = now.home.events; unmet = now.home.unmet }; env = t } in (
      ap (λ (x : Housed Membership). x.home.service) is ∙ (ap (λ (m : Membership). m.service) home ∙ (ap (λ (x : Housed Membership). x.home.service) was ∙ c.loop-thread.invariant.0)),
      clears_more (state_of c.args.agent.now) (state_of c.loop-thread.agent) (state_of last) c.in-Some.thread c.in-Some-2.desk c.loop-thread.invariant.1
          (subst (λ (x : Environment × Environment). Retires x.0 x.1 c.in-Some.thread c.in-Some-2.desk) (λ j. (env j, sym env' j)) (cleared g here)) (waits g here ∙ ap (λ (x : Housed Membership). x.home.waiting.items ++ c.in-Some-2.desk ∷ []) was),
      ap (λ (x : Housed Membership). x.home.events) is ∙ (ap (λ (m : Membership). m.events) home ∙ (ap (λ (x : Housed Membership). x.home.events) was ∙ c.loop-thread.invariant.2)),
      ap (λ (x : Housed Membership). x.home.unmet) is ∙ (ap (λ (m : Membership). m.unmet) home ∙ (ap (λ (x : Housed Membership). x.home.unmet) was ∙ c.loop-thread.invariant.3)),
    )

pub returns-in_err-desk-clause-cleared : goal.returns-in_err-desk-clause-cleared
returns-in_err-desk-clause-cleared g c =
    let was = c.agent.view_is in
    let steps = subst (λ (e : Environment). MayQuiesce e c.clear_desk.new.self.env c.in-Some.thread) (ap (λ (x : Housed Membership). x.env) was) c.in_err-desk.ensures.steps in
    let waits = ap (λ (m : Membership). m.waiting.items) c.in_err-desk.ensures.home ∙ (c.reserve.ensures.items ∙ ap (λ (x : Housed Membership). x.home.waiting.items) was) in
    clears_quiet (state_of c.args.agent.now) (state_of c.loop-thread.agent) (state_of c.clear_desk.new.self) c.in-Some.thread c.loop-thread.invariant.1 steps waits
