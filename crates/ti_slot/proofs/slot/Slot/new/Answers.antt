use Rattle.std.proofs.Common.{◌≡◌, refl, ◌∙◌, arith}
use Rattle.ti_slot.specs.Slot.{room_of}
use Rattle.ti_slot.proofs.SlotLaws.{new_stands}
use Rattle.ti_slot.proofs.WholeLaws.{tells_nothing}
use Rattle.ti_slot.proofs.slot.Slot.new.Goals as goal

pub invariant_of-result : goal.invariant_of-result
invariant_of-result c =
    let limits = c.args.limits in
    let h = c.in_ok-history.history in
    let ops = c.in_ok-ops.ops in
    let o = c.in_ok-ops.ensures in
    let room : c.in_ok-history.history.room ≡ room_of limits = omega (arith, c.in_ok-history.ensures.room) in
    let kept : c.in_ok-history.history.kept ≡ limits.kept = c.in_ok-history.ensures.kept ∙ c.of-recording.ensures in (
      new_stands limits h.items _ c.in_ok-words.words c.in_ok-frames.frames c.in_ok-log.log ops c.in_ok-history.ensures.items
          (λ i. record { room = room i; kept = kept i }) c.in_ok-words.ensures c.in_ok-frames.ensures.frames c.in_ok-frames.ensures.depth c.in_ok-log.ensures.steps c.in_ok-log.ensures.room (c.in_ok-log.ensures.kept ∙ c.of-recording.ensures)
          o.waiting o.window,
      rw (c.in_ok-history.ensures.items, o.waiting, o.statuses) (tells_nothing limits c.args.number),
      rw c.in_ok-history.ensures.items refl,
    )
