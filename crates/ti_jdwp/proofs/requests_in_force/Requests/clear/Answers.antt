use Rattle.std.proofs.Common.{rules, not, ap, ◌∙◌, List}
use Rattle.std.proofs.lemmas.Fn.{filter_same}
use Rattle.ti_jdwp.specs.InForce.{Asked, AllAsked, is_it, without_request}
use Rattle.ti_jdwp.proofs.requests_in_force.Requests.clear.Goals as goal

pub returns : goal.returns
returns c =
    ap (λ (l : List Asked). record { list = l; given = c.self.inside.given }) (filter_same _ (λ (r : Asked). not (is_it c.args.kind c.args.number r)) _ (λ x b f' k. search rules) _ _ c.retain.ensures.filtered)
    ∙ ap (λ (all : AllAsked). without_request all c.args.kind c.args.number) c.self.view_is
