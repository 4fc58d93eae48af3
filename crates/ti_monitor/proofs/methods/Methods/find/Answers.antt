use Rattle.std.proofs.Common.{◌≡◌, ◌∙◌, nat_eq, ◌++◌, List, [], ◌∷◌, None, Some, Option, ap, sym, subst, refl, arith}
use Rattle.std.specs.Prelude.{slice_get}
use Rattle.std.proofs.lemmas.Bool.Decides.{nat_tests}
use Rattle.ti_methods.proofs.Lists.{prefix_get}
use Rattle.ti_monitor.specs.declared.lines.Known.{Known}
use Rattle.ti_monitor.proofs.SamplingLaws.{found, kept_or_added}
use Rattle.ti_monitor.proofs.methods.Methods.find.Goals as goal

pub returns-in-Some-clause-there : goal.returns-in-Some-clause-there
returns-in-Some-clause-there c = found c.args.self.now.numbers.keys c.args.method.0 c.in-Some.place _ (λ k same. grind (arith, nat_tests, same)) c.in-Some.ensures.index

pub returns-clause-grows : goal.returns-clause-grows
returns-clause-grows c =
    let old : List (Option Known) = c.args.self.now.lines.items in
    let longer : c.push_reserved.new.self.items ≡ old ++ None ∷ [] = c.push_reserved.ensures.items ∙ ap (λ (l : List (Option Known)). l ++ None ∷ []) c.reserve.ensures.items in
    record {
      numbers = kept_or_added c.insert_full.result nat_eq c.args.self.now.numbers.keys c.insert_full.new.self.keys c.args.method.0 c.insert_full.ensures.keys c.insert_full.ensures.err;
      lines = λ place known at. subst (λ (l : List (Option Known)). slice_get l place ≡ Some (Some known)) (sym longer) (prefix_get old (old ++ None ∷ []) place (Some known) (None ∷ [], refl) at);
    }
