use Rattle.std.proofs.Common.{rules, ◌∙◌, ap, ◌≡◌, ◌+◌, ◌∷◌, [], ◌++◌, map, sym}
use Rattle.std.proofs.lemmas.List.{map-append}
use Rattle.ti_types.specs.declared.numbers.MethodNo.{MethodNo}
use Rattle.ti_methods.specs.Classes.{count_from}
use Rattle.ti_methods.proofs.Lists.{count_from_more}
use Rattle.ti_methods.proofs.told.method_numbers.Goals as goal

pub loop-i-preserved : goal.loop-i-preserved
loop-i-preserved c =
    let f : MethodNo → _ = λ (n : MethodNo). n.0 in
    let more : map f c.push_reserved.new.self.items ≡ count_from c.args.first c.loop-i.i ++ (c.args.first + c.loop-i.i) ∷ [] =
    ap (map f) c.push_reserved.ensures.items ∙ map-append f c.loop-i.numbers.items _ ∙ ap (λ l. l ++ (c.args.first + c.loop-i.i) ∷ []) c.loop-i.invariant.3 in (
      search rules,
      search rules,
      search rules,
      more ∙ sym (count_from_more c.args.first c.loop-i.i),
    )
