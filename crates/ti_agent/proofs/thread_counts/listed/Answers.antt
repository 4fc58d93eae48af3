use Rattle.std.proofs.Common.{rules, ◌≡◌, ◌+◌, ◌++◌, ◌∷◌, [], Some, length, length-append, sym, ap, ◌∙◌, arith}
use Rattle.std.specs.Prelude.{slice_get}
use Rattle.std.specs.Option.{option_map}
use Rattle.std.specs.Map.Iter.{deref_pair}
use Rattle.ti_vmop.specs.Turns.{Listed}
use Rattle.ti_agent.proofs.Counted.{listed_more}
use Rattle.ti_agent.proofs.thread_counts.listed.Goals as goal

pub loop-i-preserved : goal.loop-i-preserved
loop-i-preserved c =
    let es = c.args.counts.now.entries in
    let at : slice_get es c.loop-i.i ≡ Some (c.in-Some.place.now, c.in-Some.reads.now) = sym c.get_index.ensures.entry ∙ ap (option_map deref_pair) c.in-Some.is in
    let pushed : c.push_reserved.new.self.items ≡ c.loop-i.list.items ++ (record { 0 = c.in-Some.place.now }, c.in-Some.reads.now) ∷ [] = c.push_reserved.ensures.items in
    let longer : length c.push_reserved.new.self.items ≡ length c.loop-i.list.items + 1 = ap (λ v. length v) pushed ∙ length-append c.loop-i.list.items ((record { 0 = c.in-Some.place.now }, c.in-Some.reads.now) ∷ []) in
    record {
      room = search rules;
      few = omega (arith, longer, c.loop-i.invariant.few);
      listed = pushed ∙ (ap (λ (l : Listed). l ++ (record { 0 = c.in-Some.place.now }, c.in-Some.reads.now) ∷ []) c.loop-i.invariant.listed ∙ sym (listed_more es c.loop-i.i (c.in-Some.place.now, c.in-Some.reads.now) at));
    }
