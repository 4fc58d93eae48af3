use Rattle.std.proofs.Common.{◌≤◌, ◌<◌, ◌^◌, ◌/◌, ◌%◌, ◌∷◌, [], arith, false, subst, sym}
use Rattle.std.specs.Fmt.{digits, digit_glyph}
use Rattle.ti_script.specs.Texts.{Adds, written}
use Rattle.ti_script.proofs.RoomLaws.{more_digits}
use Rattle.ti_script.proofs.LiveTextLaws.{adds_more, adds_part}
use Rattle.ti_script.proofs.text.+put_hexadecimal.Goals as goal

pub returns-in_err-put_hexadecimal : goal.returns-in_err-put_hexadecimal
returns-in_err-put_hexadecimal t c =
    let large : 16 ≤ c.args.number = omega arith in
    let small : c.args.number < 2 ^ 32 = omega arith in
    subst (λ x. Adds c.from_residual.result (written c.args.out.now) (written c.put_hexadecimal.new.out) x) (sym (more_digits c.args.number large small))
    (adds_part c.from_residual.result c.from_residual.ensures.0 (written c.args.out.now) (written c.put_hexadecimal.new.out) (digits 16 false (c.args.number / 16)) (digit_glyph false (c.args.number % 16) ∷ []) c.in_err-put_hexadecimal.ensures)

pub returns : goal.returns
returns t c =
    let large : 16 ≤ c.args.number = omega arith in
    let small : c.args.number < 2 ^ 32 = omega arith in
    let last = subst (λ x. Adds c.put_text-2.result (written c.put_hexadecimal.new.out) (written c.put_text-2.new.out) x) c.hexadecimal_digit-2.ensures c.put_text-2.ensures in
    subst (λ x. Adds c.put_text-2.result (written c.args.out.now) (written c.put_text-2.new.out) x) (sym (more_digits c.args.number large small))
    (adds_more c.put_text-2.result (written c.args.out.now) (written c.put_hexadecimal.new.out) (written c.put_text-2.new.out) (digits 16 false (c.args.number / 16)) (digit_glyph false (c.args.number % 16) ∷ []) c.in_ok-put_hexadecimal.ensures last)
