use Rattle.std.proofs.Common.{◌≡◌, List, [], ◌∷◌, ◌++◌, Option, ap, sym, subst, ◌∙◌}
use Rattle.std.specs.Prelude.{option_to_list, reverse}
use Rattle.std.proofs.lemmas.List.{reverse-append}
use Rattle.ti_agent.specs.Desks.{with_desk}
use Rattle.ti_agent.specs.Env.{Environment}
use Rattle.ti_agent.specs.FreeDesk.{FreeState}
use Rattle.ti_agent.specs.Home.{Housed}
use Rattle.ti_service.specs.Agent.{IsWhyNotOf}
use Rattle.ti_service.specs.Homes.{AreOursOf}
use Rattle.ti_service.specs.Memberships.{state_of}
use Rattle.ti_service.specs.declared.membership.Membership.{Membership}
use Rattle.ti_service.proofs.Homes.{last_ours, ours_of, why_not}
use Rattle.ti_service.proofs.Meetings.{adds_one}
use Rattle.ti_service.proofs.agent_desks.add_waiting.Goals.{After-pop}
use Rattle.ti_service.proofs.agent_desks.add_waiting.Goals as goal

-- all desks that wait are the agent's own
ours : (c : After-pop) → AreOursOf c.agent.inside.home.service (record { env = c.agent.inside.env; state = c.agent.inside.state; desks = c.agent.inside.desks }) c.agent.inside.home.waiting.items
ours c = ours_of c.agent.inside.home.service (record { env = c.agent.inside.env; state = c.agent.inside.state; desks = c.agent.inside.desks }) c.agent.inside.home.waiting.items c.agent.invariant.1.0 c.agent.invariant.1.1

pub add_desk-requires : goal.add_desk-requires
add_desk-requires c =
    let at = c.agent.inside in
    let s : Environment = record { env = at.env; state = at.state; desks = at.desks } in
    let f : FreeState = c.in-Some.desk in
    let rest : List FreeState = c.pop.new.self.items in
    let left : at.home.waiting.items ≡ rest ++ f ∷ [] = c.pop.ensures.items ∙ ap (λ (o : Option FreeState). rest ++ option_to_list o) c.in-Some.is in
    record { home = (last_ours at.home.service s at.home.waiting.items rest f left (ours (goal.at.add_desk-requires c).After-pop)).1.at }

pub loop-desk-preserved : goal.loop-desk-preserved
loop-desk-preserved c =
    let at = c.agent.inside in
    let f : FreeState = c.in-Some.desk in
    let rest : List FreeState = c.pop.new.self.items in
    let left : at.home.waiting.items ≡ rest ++ f ∷ [] = c.pop.ensures.items ∙ ap (λ (o : Option FreeState). rest ++ option_to_list o) c.in-Some.is in
    let home = c.add_desk.ensures.home in
    let was = c.agent.view_is in
    let back : reverse c.loop-desk.agent.home.waiting.items ≡ f ∷ reverse c.add_desk.new.self.home.waiting.items =
    ap (λ (x : Housed Membership). reverse x.home.waiting.items) (sym was) ∙ (ap reverse left ∙ (reverse-append rest (f ∷ []) ∙ ap (λ (m : Membership). f ∷ reverse m.waiting.items) (sym home))) in
    adds_one _ (state_of c.loop-desk.agent) (state_of c.add_desk.new.self) f c.loop-desk.invariant back (c.in-Ok.ensures.added ∙ ap (λ (x : Housed Membership). with_desk x.env f) was)
    (ap (λ (m : Membership). m.service) home ∙ ap (λ (x : Housed Membership). x.home.service) was) (ap (λ (m : Membership). m.events) home ∙ ap (λ (x : Housed Membership). x.home.events) was)
    (ap (λ (m : Membership). m.unmet) home ∙ ap (λ (x : Housed Membership). x.home.unmet) was)

pub returns-in-Err-clause-refused : goal.returns-in-Err-clause-refused
returns-in-Err-clause-refused c =
    let at = c.agent.inside in
    let s : Environment = record { env = at.env; state = at.state; desks = at.desks } in
    let f : FreeState = c.in-Some.desk in
    let rest : List FreeState = c.pop.new.self.items in
    let left : at.home.waiting.items ≡ rest ++ f ∷ [] = c.pop.ensures.items ∙ ap (λ (o : Option FreeState). rest ++ option_to_list o) c.in-Some.is in
    let why = why_not at.home.service s at.home.waiting.items rest f c.in-Err.error left (ours (goal.at.returns-in-Err-clause-refused c).After-pop) c.in-Err.ensures.refused in
    let same = c.agent-in-Some.view_is ∙ c.in-Err.ensures.unchanged in
    let items : c.push_reserved.new.self.items ≡ rest ++ f ∷ [] =
    c.push_reserved.ensures.items ∙ (ap (λ (x : Housed Membership). x.home.waiting.items ++ c.in-Err.desk ∷ []) same ∙ ap (λ (x : FreeState). rest ++ x ∷ []) c.in-Err.ensures.back) in
    let back : reverse c.push_reserved.new.self.items ≡ f ∷ reverse rest = ap reverse items ∙ reverse-append rest (f ∷ []) in
    let env = ap (λ (x : Housed Membership). x.env) same in
    subst (λ (z : Environment × List FreeState). IsWhyNotOf z.0 z.1 c.in-Err.error) (λ j. (sym env j, sym back j)) why
