use Rattle.std.proofs.Common.{◌≡◌, ◌∙◌, List, ap, filter, map, rules}
use Rattle.std.proofs.lemmas.Fn.{filter_same}
use Rattle.ti_debugger.specs.Kept.{lessened, stays}
use Rattle.ti_debugger.specs.declared.objects.Kept.{Kept}
use Rattle.ti_debugger.proofs.objects.Objects.dispose.Goals as goal

left : (c : goal.After-lessen) → c.retain.new.self.items ≡ filter (stays c.args.which) c.args.self.now.list.items
left c = filter_same _ _ _ (λ x b f' k. search rules) _ _ c.retain.ensures.filtered

pub returns-clause-disposed : goal.returns-clause-disposed
returns-clause-disposed c = c.lessen.ensures.lessened ∙ ap (λ (l : List Kept). map (lessened c.args.which) l) (left c)
