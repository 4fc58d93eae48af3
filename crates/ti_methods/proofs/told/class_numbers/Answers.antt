use Rattle.std.proofs.Common.{arith, rules, ◌∙◌, ap, ◌≡◌, ◌∷◌, [], ◌++◌, map, sym}
use Rattle.std.proofs.lemmas.List.{map-append}
use Rattle.ti_methods.specs.declared.info.ClassNo.{ClassNo}
use Rattle.ti_methods.specs.Classes.{count_from}
use Rattle.ti_methods.proofs.Lists.{count_from_more}
use Rattle.ti_methods.proofs.told.class_numbers.Goals as goal

pub loop-i-preserved : goal.loop-i-preserved
loop-i-preserved c =
    let f : ClassNo → _ = λ (n : ClassNo). n.0 in
    let more : map f c.push_reserved.new.self.items ≡ count_from 0 c.loop-i.i ++ c.loop-i.i ∷ [] =
    ap (map f) c.push_reserved.ensures.items ∙ map-append f c.loop-i.numbers.items _ ∙ ap (λ l. l ++ c.loop-i.i ∷ []) c.loop-i.invariant.3 in (
      search rules,
      search rules,
      search rules,
      more ∙ sym (count_from_more 0 c.loop-i.i ∙ ap (λ (k : _). count_from 0 c.loop-i.i ++ k ∷ []) (omega arith)),
    )
