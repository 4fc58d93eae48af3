use Rattle.std.proofs.Common.{◌≡◌, ◌+◌, ◌-◌, ◌++◌, ◌∷◌, [], ℕ, List, length, true, ap, sym, ◌∙◌, arith, subst}
use Rattle.std.specs.List.{remove}
use Rattle.std.proofs.lemmas.List.{append-nil, length-append}
use Rattle.std.proofs.lemmas.List.Edits.{remove-append_right}
use Rattle.ti_types.specs.declared.numbers.EnvNo.{EnvNo}
use Rattle.ti_env.specs.Env.{EnvValue, with_place, without_place}
use Rattle.ti_handshake.specs.Desk.{DeskState}
use Rattle.ti_agent.specs.Env.{Environment, IsWhole}
use Rattle.ti_agent.specs.Desks.{are_same, is_new}
use Rattle.ti_agent.specs.FreeDesk.{FreeState}
use Rattle.ti_agent.specs.Home.{Housed, IsAtHome}
use Rattle.ti_agent.specs.Spots.{spot_of}
use Rattle.ti_agent.proofs.SameLimits.{same_limits}
use Rattle.ti_agent.proofs.Whole.{whole_more}
use Rattle.ti_agent.proofs.AtHome.{home_more, same_env}
use Rattle.ti_agent.proofs.env.Env.add_desk.Given.{Over}
use Rattle.ti_agent.proofs.env.Env.add_desk.Goals.{After-remove_place}
use Rattle.ti_agent.proofs.env.Env.add_desk.Goals as goal

-- a place that comes and goes again leaves nothing
undone : (s : EnvValue) (x n : ℕ) → n + 1 ≡ length (with_place s x).spent → without_place (with_place s x) (record { 0 = n }) ≡ s
undone s x n last =
    let here : length s.spent ≡ n = omega (arith, last, length-append s.spent (x ∷ [])) in
    let none : n - n ≡ 0 = omega arith in
    let spent : remove (s.spent ++ x ∷ []) n ≡ s.spent = remove-append_right s.spent (x ∷ []) n n here (omega arith) ∙ ap (λ (k : ℕ). s.spent ++ remove (x ∷ []) k) none ∙ append-nil s.spent in
    λ j. record s { spent = spent j }

pub invariant_of-self-in-Ok-push : goal.invariant_of-self-in-Ok-push
invariant_of-self-in-Ok-push g c =
    let s : Environment = record { env = c.self.inside.env; state = c.self.inside.state; desks = c.self.inside.desks } in
    let f : FreeState = record { desk = c.free.inside.desk; spent = c.free.inside.spent } in
    let same : f ≡ c.args.free = c.free.view_is in
    let number : f.desk.env.0 ≡ s.env.0 = ap (λ (x : FreeState). x.desk.env.0) same ∙ (sym (ap (λ (x : EnvNo). x.0) c.env.ensures) ∙ c.if-env-self.false) in
    let env : f.desk.env ≡ s.env = λ j. record { 0 = number j } in
    let alike : are_same c.limits.result c.limits-else-env-self.result ≡ true = grind (arith, c.are_same.ensures, c.if-not-are_same.false) in
    let limits : f.desk.view.subject.limits ≡ s.state.limits = ap (λ (x : FreeState). x.desk.view.subject.limits) same ∙ (sym c.limits.ensures ∙ (same_limits c.limits.result c.limits-else-env-self.result alike ∙ (c.limits-else-env-self.ensures ∙ ap (λ (x : Environment). x.state.limits) (sym (same_env c.self.view_is))))) in
    let thread : c.thread.result ≡ f.desk.view.subject.thread = c.thread.ensures ∙ ap (λ (x : FreeState). x.desk.view.subject.thread) (sym same) in
    let told : c.is_new.result ≡ is_new s f.desk.view.subject.thread = c.is_new.ensures ∙ (ap (λ (x : Environment). is_new x c.thread.result) (sym (same_env c.self.view_is)) ∙ ap (is_new s) thread) in
    let new : is_new s f.desk.view.subject.thread ≡ true = sym told ∙ grind (arith, c.if-not-is_new.false) in
    let items : c.push.new.self ≡ s.desks ++ f.desk ∷ [] = c.in-Ok-push.ensures.pushed in (
      subst (λ (z : EnvValue × List DeskState). IsWhole (record { env = s.env; state = z.0; desks = z.1 })) (λ j. (sym c.in-Ok.ensures.added j, sym items j))
          (whole_more s f c.self.invariant.0 env limits new c.free.invariant),
      home_more g.H.Home.about g.H.Home.holds c.self.inside.home s c.add_place.new.self c.push.new.self f.desk items (ap (λ (x : EnvValue). x.limits) c.in-Ok.ensures.added) (subst (λ (x : FreeState). g.H.Home.holds c.self.inside.home (spot_of x.desk)) (sym same) (subst (λ (h : _). g.H.Home.holds h (spot_of c.args.free.desk)) (sym (ap (λ (x : Housed _). x.home) c.self.view_is)) c.requires.home)) c.self.invariant.1,
    )

-- the state, as it was
same_state : (g : Over) (c : After-remove_place g) → c.remove_place.new.self ≡ c.self.inside.state
same_state g c =
    let added : c.add_place.new.self ≡ with_place c.self.inside.state c.free.inside.spent = c.in-Ok.ensures.added in
    let count = ap (λ (x : EnvValue). length x.spent) added in
    let some = length-append c.self.inside.state.spent (c.free.inside.spent ∷ []) in
    let last : c.threads.result - 1 + 1 ≡ length (with_place c.self.inside.state c.free.inside.spent).spent = omega (arith, count, some, c.threads.ensures.counted) in
    c.remove_place.ensures.removed
    ∙ ap (λ (x : EnvValue). without_place x (record { 0 = c.threads.result - 1 })) added
    ∙ undone c.self.inside.state c.free.inside.spent (c.threads.result - 1) last

pub invariant_of-self-in-Err-push : goal.invariant_of-self-in-Err-push
invariant_of-self-in-Err-push g c =
    let h = (goal.at.invariant_of-self-in-Err-push g c).After-remove_place in
    let same = c.in-Err-push.ensures.unchanged in
    subst (λ (z : EnvValue × List DeskState). IsWhole (record { env = c.self.inside.env; state = z.0; desks = z.1 }) × IsAtHome g.H.Home.about g.H.Home.holds c.self.inside.home (record { env = c.self.inside.env; state = z.0; desks = z.1 }))
    (λ j. (sym (same_state g h) j, sym same j)) c.self.invariant

pub returns-in-Err-push-clause-unchanged : goal.returns-in-Err-push-clause-unchanged
returns-in-Err-push-clause-unchanged g c =
    let h = (goal.at.returns-in-Err-push-clause-unchanged g c).After-remove_place in
    let same = c.in-Err-push.ensures.unchanged in
    (λ j. record { home = c.self.inside.home; env = record { env = c.self.inside.env; state = same_state g h j; desks = same j } }) ∙ c.self.view_is
