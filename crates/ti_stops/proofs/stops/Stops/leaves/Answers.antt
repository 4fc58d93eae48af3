use Rattle.std.proofs.Common.{◌≡◌, not, filter, rules}
use Rattle.std.proofs.lemmas.Fn.{filter_same}
use Rattle.ti_stops.specs.Stops.{StopsNow, is_due}
use Rattle.ti_stops.proofs.stops.Stops.leaves.Goals as goal

pub returns-then-stops : goal.returns-then-stops
returns-then-stops c =
    let i = c.self.inside in
    let s : StopsNow = record { envs = i.envs.items; modes = i.modes.items; breakpoints = i.breakpoints.items; pops = i.pops.items; waiting = i.waiting.items } in
    let left : c.retain.new.self.items ≡ filter (λ x. not (is_due s c.args.thread c.args.frames x)) i.pops.items = filter_same _ _ _ (λ x b f' k. search rules) _ _ c.retain.ensures.filtered in
    search (rules, left)
