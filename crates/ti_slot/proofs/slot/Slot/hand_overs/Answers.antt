use Rattle.std.proofs.Common.{ap, ◌∙◌}
use Rattle.ti_slot.specs.Thread.{Thread}
use Rattle.ti_slot.specs.HandOvers.{hand_overs}
use Rattle.ti_slot.proofs.slot.Slot.hand_overs.Goals as goal

pub returns : goal.returns
returns c = c.self.invariant.2 ∙ ap (λ (t : Thread). hand_overs t.history) c.self.view_is
