use Rattle.std.proofs.Common.{◌+◌, rules, sym, ap, ◌∙◌, arith}
use Rattle.std.specs.List.{slice_split}
use Rattle.std.proofs.lemmas.List.{take_rest}
use Rattle.ti_http.specs.Targets.{is_byte, with_parts}
use Rattle.ti_http.proofs.Parts.{goes_on, stops, last_part}
use Rattle.ti_http.proofs.params.Params.read.Goals as goal

pub returns-in_err-all : goal.returns-in_err-all
returns-in_err-all c =
    c.from_residual.ensures
    ∙ stops c.loop-rest.all c.loop-rest.rest.now c.place-at.result c.place-at.ensures.place (omega (arith, c.place-at.ensures.place, c.place.ensures.place, c.loop-rest-test.true)) (sym c.with_part.ensures ∙ c.in_err-all.was)
    ∙ c.loop-rest.invariant.0

pub overflow_add-rest : goal.overflow_add-rest
overflow_add-rest c = search (rules, c.loop-rest.invariant.1)

pub loop-rest-preserved : goal.loop-rest-preserved
loop-rest-preserved c = (
  ap (λ t. with_parts c.in_ok-all.all (slice_split (is_byte 38) t)) (take_rest c.loop-rest.rest.now (c.place-at.result + 1))
      ∙ goes_on c.loop-rest.all c.in_ok-all.all c.loop-rest.rest.now c.place-at.result c.place-at.ensures.place (omega (arith, c.place-at.ensures.place, c.place.ensures.place, c.loop-rest-test.true)) (sym c.with_part.ensures ∙ c.in_ok-all.was)
      ∙ c.loop-rest.invariant.0,
  search (rules, c.loop-rest.invariant.1),
)

pub returns : goal.returns
returns c =
    c.with_part-2.ensures
    ∙ last_part c.loop-rest.all c.loop-rest.rest.now (omega (arith, c.place.ensures.place, c.loop-rest-test.false))
    ∙ c.loop-rest.invariant.0
