use Rattle.std.proofs.Common.{◌∙◌, ◌∷◌, ◌++◌, [], List, ℕ, ap}
use Rattle.ti_jdwp.proofs.Slotted.{goes_on, is_done}
use Rattle.ti_jdwp.proofs.slots.slots_in.Goals as goal

pub loop-i-preserved : goal.loop-i-preserved
loop-i-preserved c =
    let items = c.push_reserved.ensures.items ∙ ap (λ (l : List ℕ). l ++ c.int.result ∷ []) c.in_ok-reserve.ensures.items ∙ ap (λ (n : ℕ). c.loop-i.slots.items ++ n ∷ []) c.int.ensures in
    goes_on c.args.bytes.now c.args.count c.loop-i.i c.loop-i.slots.items c.push_reserved.new.self.items _ c.loop-i-test.true items c.loop-i.invariant

pub returns-clause-ok : goal.returns-clause-ok
returns-clause-ok c = is_done c.args.bytes.now c.args.count c.loop-i.i c.loop-i.slots.items _ c.loop-i-test.false c.loop-i.invariant
