use Rattle.std.proofs.Common.{not, List, filter, refl, ap, ◌∙◌}
use Rattle.ti_stops.specs.declared.lists.Mode.{Mode}
use Rattle.ti_stops.specs.Lists.{is_mode}
use Rattle.ti_stops.proofs.Enabling.{enabled}
use Rattle.ti_stops.proofs.stops.Stops.enable.Goals as goal

pub returns : goal.returns
returns c = (
  (
    refl,
    enabled _ _ _ _ _ _ _ _ c.self.view_is c.in_ok-put_env.ensures.put
        (c.drop_mode.ensures.items ∙ ap (λ (l : List Mode). filter (λ m. not (is_mode c.args.env c.args.kind c.args.thread m)) l) c.reserve.ensures.items)
        c.push_reserved.ensures.items,
  ),
  tt,
)
