use Rattle.std.proofs.Common.{◌≡◌, ◌+◌, get_or, sym, arith}
use Rattle.std.specs.Char.{is_ascii_digit, digit_value}
use Rattle.std.proofs.lemmas.Bool.Decides.{nat_tests}
use Rattle.std.proofs.lemmas.Int.Digits.{digits_value_more}
use Rattle.std.proofs.lemmas.Str.Parse.{digits_value-take-le}
use Rattle.http1.proofs.TextLemmas.{list_all_more}
use Rattle.ti_http.proofs.Texts.{too_great}
use Rattle.ti_http.proofs.params.number.Goals as goal

pub returns-then-n-most : goal.returns-then-n-most
returns-then-n-most c =
    let ds = c.args.value.now in
    let i = c.loop-b.b-index in
    let digit : digit_value (get_or ds i 0) ≡ c.from.result = grind (arith, nat_tests) in
    too_great c.args.most ds (omega (arith, digits_value_more 10 ds i c.loop-b-test.true, digits_value-take-le 10 ds (i + 1) (omega arith), c.loop-b.invariant.0, c.from-most.ensures, c.if-n-most.true))

pub loop-b-preserved : goal.loop-b-preserved
loop-b-preserved c =
    let digit : digit_value (get_or c.args.value.now c.loop-b.b-index 0) ≡ c.from.result = grind (arith, nat_tests) in (
      omega (arith, digits_value_more 10 c.args.value.now _ c.loop-b-test.true, c.loop-b.invariant.0),
      list_all_more is_ascii_digit _ _ 0 c.loop-b-test.true c.loop-b.invariant.1 (sym c.if-not-is_ascii_digit.ensures.value),
      omega (arith, c.if-n-most.false),
    )
