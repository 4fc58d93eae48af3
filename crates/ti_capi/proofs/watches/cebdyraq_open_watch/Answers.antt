use Rattle.std.proofs.Common.{sym, ◌∙◌}
use Rattle.std.specs.Box.{box_value}
use Rattle.ti_capi.proofs.Filling.{filled}
use Rattle.ti_capi.proofs.watches.cebdyraq_open_watch.Goals as goal

pub returns : goal.returns
returns c =
    let empty = sym c.is_empty.ensures ∙ c.if-not-is_empty.false in
    (c.open.ensures.beside, filled box_value _ _ _ _ _ _ c.open.result empty c.fill.ensures.put c.fill.ensures.refused c.open.ensures.opened c.open.ensures.refused)
