use Rattle.std.proofs.Common.{◌≡◌, ◌∙◌, List, ap, rules, subst, sym}
use Rattle.std.proofs.lemmas.Fn.{filter_same}
use Rattle.ti_debugger.specs.Kept.{Names, of_thread, without}
use Rattle.ti_debugger.specs.declared.objects.Kept.{Kept}
use Rattle.ti_debugger.proofs.KeptLaws.{names_left, none_of_it, others_stay}
use Rattle.ti_debugger.proofs.objects.Objects.forget.Goals as goal

left : (c : goal.After-retain) → c.retain.new.self.items ≡ without c.args.thread c.args.self.now.list.items
left c = filter_same _ _ _ (λ x b f' k. search rules) _ _ c.retain.ensures.filtered

pub returns-clause-exact : goal.returns-clause-exact
returns-clause-exact c = left c

pub returns-clause-gone : goal.returns-clause-gone
returns-clause-gone c = ap (λ (l : List Kept). of_thread c.args.thread l) (left c) ∙ none_of_it c.args.thread c.args.self.now.list.items

pub returns-clause-others : goal.returns-clause-others
returns-clause-others c = λ other differ. ap (λ (l : List Kept). of_thread other l) (left c) ∙ others_stay other c.args.thread c.args.self.now.list.items differ

pub returns-clause-same : goal.returns-clause-same
returns-clause-same c = subst (λ (l : List Kept). Names c.args.self.now.list.items l) (sym (left c)) (names_left c.args.thread c.args.self.now.list.items)
