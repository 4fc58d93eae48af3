use Rattle.std.proofs.Common.{◌≡◌, not, filter, rules}
use Rattle.std.proofs.lemmas.Fn.{filter_same}
use Rattle.ti_stops.specs.Lists.{is_breakpoint}
use Rattle.ti_stops.proofs.stops.Stops.clear_breakpoint.Goals as goal

pub returns : goal.returns
returns c =
    let left : c.retain.new.self.items ≡ filter (λ x. not (is_breakpoint c.args.env c.args.at x)) c.self.inside.breakpoints.items = filter_same _ _ _ (λ x b f' k. search rules) _ _ c.retain.ensures.filtered in
    search (rules, left)
