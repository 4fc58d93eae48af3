use Rattle.std.proofs.Common.{List, [], ap, sym, ◌∙◌, subst}
use Rattle.ti_agent.specs.Env.{Environment}
use Rattle.ti_agent.specs.FreeDesk.{FreeState}
use Rattle.ti_service.specs.Homes.{AreOursOf, IsHomeOf}
use Rattle.ti_service.specs.Memberships.{state_of}
use Rattle.ti_service.specs.Service.{Leaves, Member}
use Rattle.ti_service.specs.declared.membership.Membership.{Membership}
use Rattle.ti_service.proofs.Homes.{holds_ours, home_of_ours, ours_of}
use Rattle.ti_service.proofs.agent_calls.EnvMembershipServiceCalls.dispose.Goals as goal

pub leave-requires : goal.leave-requires
leave-requires g c =
    let e : Environment = c.clear.new.agent.env in
    let h = subst (λ (m : Membership). IsHomeOf m.service m.waiting.items e.env e.state.limits) (sym c.leave_home-home.ensures.home) c.leave_home-home.ensures.was.0 in
    record { env = e.env; place = h.0; there = h.1; own = h.3 }

pub come_home-requires : goal.come_home-requires
come_home-requires g c =
    let old = c.clear.new.agent in
    let m : Membership = c.leave_home-home.result.0 in
    let s : Environment = c.leave_home-home.result.1.env in
    let home = c.leave_home-home.ensures.home in
    let env = c.leave_home-home.ensures.env in
    let was : AreOursOf old.home.service old.env old.home.waiting.items = ours_of old.home.service old.env old.home.waiting.items c.leave_home-home.ensures.was.0 c.leave_home-home.ensures.was.1 in
    let o : AreOursOf m.service s m.waiting.items = subst (λ (x : Membership × Environment). AreOursOf x.0.service x.1 x.0.waiting.items) (λ j. (sym home j, sym env j)) was in
    let k : AreOursOf c.leave.new.self s m.waiting.items = holds_ours m.service c.leave.new.self s m.waiting.items c.leave.new.self.view.seen [] c.in-Err-leave.ensures.unchanged o in
    home_of_ours c.leave.new.self s c.in-Err-leave.waiting.items (subst (λ (l : List FreeState). AreOursOf c.leave.new.self s l) (sym (ap (λ v. v.items) c.in-Err-leave.ensures.back)) k)

pub returns-in-Ok-leave-clause-disposed : goal.returns-in-Ok-leave-clause-disposed
returns-in-Ok-leave-clause-disposed g c =
    let home = c.leave_home-home.ensures.home in
    let service = ap (λ (m : Membership). m.service) home ∙ c.in-Ok.ensures.service in
    let waiting = ap (λ (m : Membership). m.waiting.items) home in record {
      last = state_of c.clear.new.agent;
      clears = c.in-Ok.ensures.cleared;
      all = c.in-Ok.ensures.done;
      cell = c.in-Ok-leave.ensures.cell ∙ ap (λ (m : Member). m.cell) service;
      leaves = subst (λ (x : Member × List FreeState). Leaves x.0.view c.leave.new.self.view x.1) (λ j. (service j, waiting j)) c.in-Ok-leave.ensures.left;
    }
