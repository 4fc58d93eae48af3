use Rattle.std.proofs.Common.{◌<◌, length, subst}
use Rattle.std.specs.Option.{option_map}
use Rattle.ti_types.specs.Answer.{said}
use Rattle.ti_agent.specs.Env.{place_in}
use Rattle.ti_agent.specs.Home.{Housed}
use Rattle.ti_agent.specs.Posts.{LooksFor}
use Rattle.ti_agent.proofs.env.Env.try_collect.Goals as goal

pub returns-in-Ok-clause-looks : goal.returns-in-Ok-clause-looks
returns-in-Ok-clause-looks g c =
    subst (λ (x : Housed _). place_in x.env.desks c.args.ticket.thread < length x.env.desks → LooksFor x.env c.collect_now.new.self.env c.args.ticket (option_map said c.in-Ok.answer))
    c.loop.invariant c.in-Ok.ensures.looks
