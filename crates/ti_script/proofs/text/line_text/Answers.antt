use Rattle.std.proofs.Common.{◌++◌, codes, decimal, string_bytes, is_ok}
use Rattle.ti_script.specs.Texts.{outcome_text}
use Rattle.ti_script.proofs.FrontLaws.{front_after, front_of_more, front_if}
use Rattle.ti_script.proofs.text.line_text.Goals as goal

pub returns-in_err-outcome_text-clause-front : goal.returns-in_err-outcome_text-clause-front
returns-in_err-outcome_text-clause-front c =
    let old = string_bytes c.args.out.now in
    let one = string_bytes c.put_number.new.out in
    let two = string_bytes c.push_str.new.self in
    let new = string_bytes c.outcome_text.new.out in
    let text = outcome_text c.args.methods.now c.args.outcome.now in
    let end = codes "\n" in
    front_after old one new (decimal c.args.index) (codes " " ++ (text ++ end)) c.in_ok-put_number.ensures.ok
    (front_after one two new (codes " ") (text ++ end) c.in_ok-push_str.ensures.bytes (front_of_more two new text end c.in_err-outcome_text.ensures.front))

pub returns-clause-front : goal.returns-clause-front
returns-clause-front c =
    let old = string_bytes c.args.out.now in
    let one = string_bytes c.put_number.new.out in
    let two = string_bytes c.push_str.new.self in
    let three = string_bytes c.outcome_text.new.out in
    let new = string_bytes c.push_str-2.new.self in
    let text = outcome_text c.args.methods.now c.args.outcome.now in
    let end = codes "\n" in
    front_after old one new (decimal c.args.index) (codes " " ++ (text ++ end)) c.in_ok-put_number.ensures.ok
    (front_after one two new (codes " ") (text ++ end) c.in_ok-push_str.ensures.bytes
    (front_after two three new text end c.in_ok-outcome_text.ensures.ok (front_if (is_ok c.push_str-2.result) three new end c.push_str-2.ensures.bytes)))
