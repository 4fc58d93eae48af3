use Rattle.std.proofs.Common.{sym, ◌∙◌}
use Rattle.std.specs.Box.{box_value}
use Rattle.ti_capi.proofs.Filling.{both_ok, filled, filled_by}
use Rattle.ti_capi.proofs.doors.cebdyraq_open_door.Goals as goal

pub returns : goal.returns
returns c =
    let empty = sym c.is_empty.ensures ∙ c.if-not-is_empty.false in
    let r = c.open.result in
    let e = c.open.ensures in
    filled_by _ _ c.open.new.service _ _ _ _ c.in-Some.ensures.value (filled box_value _ _ _ _ _ _ r empty c.fill.ensures.put c.fill.ensures.refused (both_ok _ _ r e.made e.opened) e.refused)
