use Rattle.std.proofs.Common.{ap}
use Rattle.ti_env.specs.Env.{EnvValue}
use Rattle.ti_agent.proofs.Whole.{whole_with}
use Rattle.ti_agent.proofs.AtHome.{home_with}
use Rattle.ti_agent.proofs.env.Env.know_threads.Goals as goal

pub invariant_of-self : goal.invariant_of-self
invariant_of-self g c = (
  whole_with _ c.know.new.self c.self.invariant.0 (ap (λ (x : EnvValue). x.spent) c.know.ensures) (ap (λ (x : EnvValue). x.limits) c.know.ensures),
  home_with g.H.Home.about g.H.Home.holds c.self.inside.home (record { env = c.self.inside.env; state = c.self.inside.state; desks = c.self.inside.desks }) c.know.new.self (ap (λ (x : EnvValue). x.limits) c.know.ensures) c.self.invariant.1,
)
