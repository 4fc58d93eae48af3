use Rattle.std.proofs.Common.{◌<◌, length, ap, refl, rules}
use Rattle.ti_debugger.specs.declared.desk.Desk.{Desk}
use Rattle.ti_debugger.proofs.SuspendLaws.{settled_same, settled_set}
use Rattle.ti_debugger.proofs.desk.Desk.settle_all.Goals as goal

pub loop-place-init : goal.loop-place-init
loop-place-init c = record {
  same = refl;
  free = λ free. free;
  settled = settled_same c.args.self.now.crowd.list.items;
  rest = refl;
  home = refl;
  grows = search rules;
}

pub loop-place-preserved : goal.loop-place-preserved
loop-place-preserved c =
    let within : c.loop-place.place < length c.loop-place.self.crowd.list.items = search rules in
    record {
      same = search rules;
      free = search rules;
      settled = settled_set _ _ _ c.loop-place.place c.index_mut.result.now c.settle_at-resumed.new.one c.loop-place.invariant.settled within c.index_mut.ensures.value
          (record { rest = c.settle_at-resumed.ensures.rest; closed = c.settle_at-resumed.ensures.closed }) (ap (λ (d : Desk). d.crowd.list.items) c.count_resumption.ensures.rest);
      rest = search rules;
      home = search rules;
      grows = search rules;
    }
