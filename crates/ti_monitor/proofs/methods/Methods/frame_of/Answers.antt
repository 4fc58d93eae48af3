use Rattle.std.proofs.Common.{◌≡◌, ◌∙◌, Option, Some, inr, ap, sym, refl}
use Rattle.std.specs.Prelude.{slice_get}
use Rattle.std.proofs.lemmas.Option.{slice_get-get_or}
use Rattle.ti_monitor.specs.declared.lines.Known.{Known}
use Rattle.ti_monitor.proofs.methods.Methods.frame_of.Goals as goal

pub returns-in-Some-index-clause-named : goal.returns-in-Some-index-clause-named
returns-in-Some-index-clause-named c =
    let lines = c.place_of.new.self.lines.items in
    let at : slice_get lines c.in-Some.place ≡ Some (Some c.in-Some-index.known) =
    slice_get-get_or lines c.in-Some.place c.index.result.now c.in-Some.ensures.within ∙ ap (λ (x : Option Known). Some x) (sym c.index.ensures ∙ c.in-Some-index.is) in
    inr (c.in-Some.place, c.in-Some.ensures.there, refl, inr (c.in-Some-index.known, at, c.line_at.ensures))
