use Rattle.std.proofs.Common.{◌∙◌, ◌++◌, ◌∷◌, [], List, ap, sym}
use Rattle.ti_debugger.specs.declared.objects.Disposal.{Disposal}
use Rattle.ti_debugger.proofs.EffectLaws.{none_yet, one_more, passed_over}
use Rattle.ti_debugger.proofs.effects.disposals_in.Goals as goal
use Rattle.ti_debugger.proofs.effects.disposals_in.Goals.{in-Some+in_ok-reserve-in-Some, in-None}

pub loop-place-init : goal.loop-place-init
loop-place-init c = c.new-list.ensures.items ∙ none_yet c.args.bytes.now

pub loop-place-preserved : goal.loop-place-preserved
loop-place-preserved c = elim c.match-disposal_at.branch [
  | in-Some+in_ok-reserve-in-Some w ↦
      let pushed = w.push_reserved.ensures.items ∙ ap (λ (l : List Disposal). l ++ w.in-Some.disposal ∷ []) w.in_ok-reserve-in-Some.ensures.items in
      ap (λ v. v.items) w.list-is ∙ one_more c.loop-place.place c.args.bytes.now c.loop-place.list.items w.push_reserved.new.self.items w.in-Some.disposal c.loop-place.invariant (sym c.disposal_at.ensures ∙ w.in-Some.is) pushed
  | in-None w ↦
      ap (λ v. v.items) w.list-is ∙ passed_over c.loop-place.place c.args.bytes.now c.loop-place.list.items c.loop-place.invariant (sym c.disposal_at.ensures ∙ w.in-None.is)
]
