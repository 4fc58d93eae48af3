use Rattle.std.proofs.Common.{◌≡◌, ◌≤◌, ◌+◌, ◌⊎◌, List, ap, length, sym, ◌∙◌, subst}
use Rattle.ti_types.specs.declared.error.TiError.TheVariants.{Busy, Full}
use Rattle.ti_roster.specs.Roster.{most_items}
use Rattle.ti_agent.specs.Env.{Environment}
use Rattle.ti_agent.specs.FreeDesk.{FreeState}
use Rattle.ti_service.specs.Homes.{AreOursOf, IsHomeOf}
use Rattle.ti_service.specs.Leaving.{Clears, Quiets, StaysOn}
use Rattle.ti_service.specs.Leaving.StaysOn.{NotCleared}
use Rattle.ti_service.specs.Memberships.{AgentValue, state_of}
use Rattle.ti_service.specs.Service.{Leaves, Looks, Member}
use Rattle.ti_service.specs.declared.membership.Membership.{Membership}
use Rattle.ti_service.proofs.Homes.{home_of_ours, ours_of}
use Rattle.ti_service.proofs.Leaving.{clears_first, not_left}
use Rattle.ti_service.proofs.Tries.{either_way, looked_ours}
use Rattle.ti_service.proofs.agent_tries.EnvMembershipServiceTries.dispose_now.Goals as goal

pub leave_now-requires : goal.leave_now-requires
leave_now-requires c =
    let e : Environment = c.clear_now.new.agent.env in
    let h = subst (λ (m : Membership). IsHomeOf m.service m.waiting.items e.env e.state.limits) (sym c.leave_home-home.ensures.home) c.leave_home-home.ensures.was.0 in
    record { env = e.env; place = h.0; there = h.1; own = h.3 }

pub come_home-requires : goal.come_home-requires
come_home-requires c =
    let old = c.clear_now.new.agent in
    let m : Membership = c.leave_home-home.result.0 in
    let s : Environment = c.leave_home-home.result.1.env in
    let home = c.leave_home-home.ensures.home in
    let env = c.leave_home-home.ensures.env in
    let was : AreOursOf old.home.service old.env old.home.waiting.items = ours_of old.home.service old.env old.home.waiting.items c.leave_home-home.ensures.was.0 c.leave_home-home.ensures.was.1 in
    let o : AreOursOf m.service s m.waiting.items = subst (λ (x : Membership × Environment). AreOursOf x.0.service x.1 x.0.waiting.items) (λ j. (sym home j, sym env j)) was in
    let k : AreOursOf c.leave_now.new.self s m.waiting.items = looked_ours m.service c.leave_now.new.self s m.waiting.items (either_way c.in-Err-leave_now.ensures.refused) o in
    home_of_ours c.leave_now.new.self s c.in-Err-leave_now.waiting.items (subst (λ (l : List FreeState). AreOursOf c.leave_now.new.self s l) (sym (ap (λ v. v.items) c.in-Err-leave_now.ensures.back)) k)

-- what is cleared once no call is out
clears : (old at new : AgentValue) → Quiets old.env at.env → at.home ≡ old.home → Clears (state_of at) (state_of new) → Clears (state_of old) (state_of new)
clears old at new quiets home k = clears_first (state_of old) (state_of at) (state_of new) quiets (ap (λ (m : Membership). m.waiting.items) home) k

pub returns-in-Err-clear_now-clause-kept : goal.returns-in-Err-clear_now-clause-kept
returns-in-Err-clear_now-clause-kept c =
    let first = c.in-Ok.ensures in
    let next = c.in-Err-clear_now.ensures in
    NotCleared next.refused (next.service ∙ ap (λ (m : Membership). m.service) first.home) (clears c.args.self c.settle_each_now.new.agent c.clear_now.new.agent first.quiets first.home next.cleared)

pub returns-in-Err-leave_now-clause-kept : goal.returns-in-Err-leave_now-clause-kept
returns-in-Err-leave_now-clause-kept c =
    let m : Membership = c.leave_home-home.result.0 in
    let first = c.in-Ok.ensures in
    let next = c.in-Ok-clear_now.ensures in
    let left = c.in-Err-leave_now.ensures in
    let home = c.leave_home-home.ensures.home in
    let e = c.in-Err-leave_now.error in
    let now : Member = c.leave_now.new.self in
    let new : AgentValue = record { home = record { service = now; waiting = c.in-Err-leave_now.waiting; events = m.events; unmet = m.unmet }; env = c.leave_home-home.result.1.env } in
    let why = subst (λ (x : Membership). (((e ≡ Full) × (most_items ≤ length now.view.seen + length x.waiting.items)) × Looks x.service.view now.view) ⊎ ((e ≡ Busy) × (now ≡ x.service))) home left.refused in
    subst (λ (x : AgentValue). StaysOn (state_of c.args.self) (state_of x) e) (sym c.come_home.ensures)
    (not_left (state_of c.args.self) (state_of c.clear_now.new.agent) (state_of new) e (clears c.args.self c.settle_each_now.new.agent c.clear_now.new.agent first.quiets first.home next.cleared)
    (next.service ∙ ap (λ (x : Membership). x.service) first.home) c.leave_home-home.ensures.env (ap (λ v. v.items) left.back ∙ ap (λ (x : Membership). x.waiting.items) home)
    (left.cell ∙ ap (λ (x : Membership). x.service.cell) home) why)

pub returns-in-Ok-leave_now-clause-disposed : goal.returns-in-Ok-leave_now-clause-disposed
returns-in-Ok-leave_now-clause-disposed c =
    let home = c.leave_home-home.ensures.home in
    let first = c.in-Ok.ensures in
    let service = ap (λ (m : Membership). m.service) home ∙ (c.in-Ok-clear_now.ensures.service ∙ ap (λ (m : Membership). m.service) first.home) in
    let waiting = ap (λ (m : Membership). m.waiting.items) home in record {
      last = state_of c.clear_now.new.agent;
      clears = clears c.args.self c.settle_each_now.new.agent c.clear_now.new.agent first.quiets first.home c.in-Ok-clear_now.ensures.cleared;
      all = c.in-Ok-clear_now.ensures.done;
      cell = c.in-Ok-leave_now.ensures.cell ∙ ap (λ (m : Member). m.cell) service;
      leaves = subst (λ (x : Member × List FreeState). Leaves x.0.view c.leave_now.new.self.view x.1) (λ j. (service j, waiting j)) c.in-Ok-leave_now.ensures.left;
    }
