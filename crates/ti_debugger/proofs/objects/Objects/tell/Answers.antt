use Rattle.std.proofs.Common.{◌<◌, ◌≤◌, List, length, ap, subst, sym, ◌∙◌}
use Rattle.ti_debugger.specs.declared.objects.Kept.{Kept}
use Rattle.ti_debugger.specs.Kept.{told_once}
use Rattle.ti_debugger.proofs.KeptLaws.{all_written, become_more}
use Rattle.ti_debugger.proofs.objects.Objects.tell.Goals as goal

pub loop-kept-preserved : goal.loop-kept-preserved
loop-kept-preserved c =
    let within = subst (λ (l : List Kept). c.loop-kept.kept-index < length l) c.deref_mut-kept-items.ensures.value c.loop-kept-test.true in
    become_more (told_once c.args.first c.args.count) c.loop-kept.kept-index c.args.self.now.list.items c.loop-kept.kept-items _ c.tell.new.self c.loop-kept.invariant within c.tell.ensures

pub returns-clause-told : goal.returns-clause-told
returns-clause-told c =
    let value = c.deref_mut-kept-items.ensures.value in
    let over = subst (λ (l : List Kept). length l ≤ c.loop-kept.kept-index) value c.loop-kept-test.false in
    let same = c.loop-kept.auto.kept-items ∙ ap (λ (l : List Kept). length l) value in
    let long = sym c.deref_mut-kept-items.ensures.len ∙ ap (λ (l : List Kept). length l) value in
    all_written (told_once c.args.first c.args.count) c.loop-kept.kept-index c.args.self.now.list.len c.args.self.now.list.items c.loop-kept.kept-items c.loop-kept.invariant over same long
