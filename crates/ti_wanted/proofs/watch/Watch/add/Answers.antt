use Rattle.std.proofs.Common.{◌≡◌, ◌<◌, List, length, map, slice_set, inr, ap, ◌∙◌, subst}
use Rattle.std.proofs.lemmas.List.{map-set}
use Rattle.ti_types.specs.declared.numbers.ThreadNo.{ThreadNo}
use Rattle.ti_wanted.specs.declared.watch.Place.{Place}
use Rattle.ti_wanted.proofs.watch.Watch.add.Goals as goal

pub returns-in-Some-clause-added : goal.returns-in-Some-clause-added
returns-in-Some-clause-added c =
    let at = c.in-Some.at in
    let old : map (λ (p : Place). p.thread) c.self.inside.places.items ≡ c.args.self.now = c.self.view_is ∙ c.in-Some.ensures.same in
    inr (at, subst (λ (xs : List ThreadNo). at < length xs) c.in-Some.ensures.same c.in-Some.ensures.there, map-set (λ (p : Place). p.thread) c.self.inside.places.items at _ ∙ ap (λ (xs : List ThreadNo). slice_set xs at c.args.thread) old)
