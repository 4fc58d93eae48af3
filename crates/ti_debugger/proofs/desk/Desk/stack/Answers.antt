use Rattle.std.proofs.Common.{rules, List, [], ◌∙◌, ap, refl, sym, subst}
use Rattle.std.proofs.lemmas.List.{take_all}
use Rattle.ti_types.specs.declared.place.Frame.{Frame}
use Rattle.ti_jdwp.specs.Bodies.{frame_list}
use Rattle.ti_jdwp.specs.declared.lists.FrameRow.{FrameRow}
use Rattle.ti_service.specs.Classes.{classes_of}
use Rattle.ti_debugger.specs.StackReplies.{AreRowsOf}
use Rattle.ti_debugger.proofs.StackLaws.{next_below, rows_more}
use Rattle.ti_debugger.proofs.desk.Desk.stack.Goals as goal

pub loop-frame-init : goal.loop-frame-init
loop-frame-init c = record {
  rest = refl;
  next = refl;
  rows = subst (λ (rows : List FrameRow). AreRowsOf (classes_of c.args.self.now.agent) c.args.depth [] rows) (sym c.new-rows.ensures.items) tt;
}

pub loop-frame-preserved : goal.loop-frame-preserved
loop-frame-preserved c = record {
  rest = search rules;
  next = next_below c.args.depth c.loop-frame.frame-index c.loop-frame.next c.saturating_add-next.result c.loop-frame.invariant.next c.saturating_add-next.ensures;
  rows = rows_more _ _ c.args.depth c.frames-frame-items.result.now c.loop-frame.frame-index _ c.loop-frame.next _ _ _ _ c.in_ok-row.ensures.grows c.loop-frame-test.true c.loop-frame.invariant.next c.loop-frame.invariant.rows c.in_ok-row.ensures.told
      c.in_ok-reserve.ensures.items c.push_reserved.ensures.items;
}

pub returns-clause-told : goal.returns-clause-told
returns-clause-told c =
    let all = take_all c.loop-frame.frame-index c.frames-frame-items.result.now c.loop-frame-test.false ∙ c.frames-frame-items.ensures.frames in (
      c.loop-frame.rows.items,
      subst (λ (frames : List Frame). AreRowsOf (classes_of c.loop-frame.self.agent) c.args.depth frames c.loop-frame.rows.items) all c.loop-frame.invariant.rows,
      c.in_ok-frames_body.ensures.ok ∙ ap (frame_list c.args.thread) c.as_slice.ensures.value,
    )
