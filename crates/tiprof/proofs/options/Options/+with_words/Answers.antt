use Rattle.std.proofs.Common.{◌≡◌, ◌∙◌, sym, refl, string_bytes, Some, None}
use Rattle.tiprof.specs.Asked.{with_flag, with_option}
use Rattle.tiprof.proofs.AskedLaws.{worded_flag, worded_pair}
use Rattle.tiprof.proofs.options.Options.+with_words.Goals as goal

pub returns-in-Some : goal.returns-in-Some
returns-in-Some t c =
    let flagged : with_flag c.args.self (string_bytes c.word-item-2.result) ≡ Some c.in-Some.options =
    (λ i. with_flag c.args.self (sym c.as_str-in-len2-up.ensures.value i)) ∙ sym c.with_flag-in-len2-up.ensures ∙ c.in-Some.is in
    worded_flag string_bytes c.args.self c.in-Some.options c.args.words.now c.word-item-2.result c.value-item.result _ c.in-len2-up.len_at_least c.word-item-2.is c.value-item.is flagged c.with_words.ensures

pub returns-in-Some-with : goal.returns-in-Some-with
returns-in-Some-with t c =
    let flagged : with_flag c.args.self (string_bytes c.word-item-2.result) ≡ None =
    (λ i. with_flag c.args.self (sym c.as_str-in-len2-up.ensures.value i)) ∙ sym c.with_flag-in-len2-up.ensures ∙ c.in-None.is in
    let next : with_option c.args.self (string_bytes c.word-item-2.result) (string_bytes c.value-item.result) ≡ Some c.in-Some-with.options =
    (λ i. with_option c.args.self (sym c.as_str-in-None.ensures.value i) (sym c.as_str-in-None-2.ensures.value i)) ∙ sym c.with.ensures ∙ c.in-Some-with.is in
    worded_pair string_bytes c.args.self c.args.words.now c.word-item-2.result c.value-item.result (Some c.in-Some-with.options) _ c.in-len2-up.len_at_least c.word-item-2.is c.value-item.is flagged next c.with_words-in-Some-with.ensures

pub returns-in-None-with : goal.returns-in-None-with
returns-in-None-with t c =
    let flagged : with_flag c.args.self (string_bytes c.word-item-2.result) ≡ None =
    (λ i. with_flag c.args.self (sym c.as_str-in-len2-up.ensures.value i)) ∙ sym c.with_flag-in-len2-up.ensures ∙ c.in-None.is in
    let next : with_option c.args.self (string_bytes c.word-item-2.result) (string_bytes c.value-item.result) ≡ None =
    (λ i. with_option c.args.self (sym c.as_str-in-None.ensures.value i) (sym c.as_str-in-None-2.ensures.value i)) ∙ sym c.with.ensures ∙ c.in-None-with.is in
    worded_pair string_bytes c.args.self c.args.words.now c.word-item-2.result c.value-item.result None None c.in-len2-up.len_at_least c.word-item-2.is c.value-item.is flagged next refl
