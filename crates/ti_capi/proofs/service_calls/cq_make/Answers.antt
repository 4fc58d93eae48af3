use Rattle.std.proofs.Common.{sym, ◌∙◌}
use Rattle.std.specs.Box.{box_value}
use Rattle.ti_capi.proofs.Filling.{filled}
use Rattle.ti_capi.proofs.service_calls.cq_make.Goals as goal

pub returns : goal.returns
returns c =
    let empty = sym c.is_empty.ensures ∙ c.if-not-is_empty.false in
    filled box_value _ _ _ _ _ _ c.make.result empty c.fill.ensures.put c.fill.ensures.refused c.make.ensures.new c.make.ensures.refused
